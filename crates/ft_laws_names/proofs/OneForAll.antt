-- What a replica does on one well named client that it shows, it answers for each client for which it stands.
use Rattle.std.proofs.Common.{◌≡◌, ℕ, List, take, Result, Ok, Err, refl, sym, ◌∙◌, ap, subst}
use Rattle.ft_sumdoc.specs.declared.summary.SumDoc.{SumDoc}
use Rattle.ft_props.specs.Properties.{Characters}
use Rattle.ft_msg.specs.Answers.{AnswersClient, FaultKind, MeansRefusal, Refusal, ReplicaState, StoppedBefore, WantOfMemory}
use Rattle.ft_msg.specs.Client.{NaiveClient}
use Rattle.ft_msg.specs.Compacted.{IsCompacted, StandsFor}
use Rattle.ft_msg.specs.Indexed.{indexed_client}
use Rattle.ft_msg.specs.Reached.{IsReached}
use Rattle.ft_msg.specs.SummaryOf.{Summarizes}
use Rattle.ft_laws_compaction.specs.Keeping.{AnswersAlike, DoesStep, refused as refuse, taken as take_both}
use Rattle.ft_laws_compaction.proofs.AllSteps.{reached-sound}
use Rattle.ft_laws_compaction.proofs.CountsKept.{rises-kept}
use Rattle.ft_laws_compaction.proofs.Runs.{run-facts}
use Rattle.ft_laws_compaction.proofs.SameContent.{show-alike}
use Rattle.ft_laws_compaction.proofs.SameSummary.{run-values}
use Rattle.ft_laws_names.specs.WellNamed.{IsWellNamed}
use Rattle.ft_laws_names.specs.Renaming.{AnswersUpToNames, DifferInNames, ShowsOf, refused, taken}
use Rattle.ft_laws_names.proofs.CountedSteps.{Counts, rises-alike}
use Rattle.ft_laws_names.proofs.KeptNames.{kept-differs}
use Rattle.ft_laws_names.proofs.NamedSteps.{alike-of, reached-named, views-of}
use Rattle.ft_laws_names.proofs.SummariesAlike.{summed-alike}

module _ (E : Type 0) where
  -- after a step that all three take: the whole client, the kept one, which took it too, and what both show
  pub record Taken (y : NaiveClient) (s t : Result NaiveClient E) : Type 0 where
    pub whole : NaiveClient
    pub kept : NaiveClient
    pub took : t ≡ Ok whole
    pub stepped : s ≡ Ok kept
    pub shows : indexed_client y ≡ indexed_client kept
    pub keeps : IsCompacted kept whole

  -- the answers of the client shown, of the one kept and of the whole one
  ok-through : {r s t : Result NaiveClient E} (y : NaiveClient) → AnswersUpToNames E r s → AnswersAlike E s t → r ≡ Ok y → Taken y s t
  ok-through y (refused fault) b e = (cc)
  ok-through y (taken p q d) b e =
      let same : p ≡ y = (cc) in
      last q (subst (λ i. indexed_client i ≡ indexed_client q) same d.same) b refl
    where
      last : (k : NaiveClient) → indexed_client y ≡ indexed_client k → {s t : Result NaiveClient E} → AnswersAlike E s t → s ≡ Ok k → Taken y s t
      last k i (refuse fault) f = (cc)
      last k i (take_both kept x c) f =
          let here : kept ≡ k = (cc) in
          record { whole = x; kept = kept; took = refl; stepped = refl; shows = i ∙ ap indexed_client (sym here); keeps = c }

  err-through : {r s t : Result NaiveClient E} (fault : E) → AnswersUpToNames E r s → AnswersAlike E s t → r ≡ Err fault → t ≡ Err fault
  err-through fault (refused f) b e =
      let same : f ≡ fault = (cc) in
      last b (ap Err same)
    where
      last : {s t : Result NaiveClient E} → AnswersAlike E s t → s ≡ Err fault → t ≡ Err fault
      last (refuse g) h = h
      last (take_both kept x c) h = (cc)
  err-through fault (taken p q d) b e = (cc)

  refusal-through : (k : FaultKind) (p q : Type 0) → (p → q) → MeansRefusal k p → MeansRefusal k q
  refusal-through WantOfMemory p q f h = tt
  refusal-through (StoppedBefore seq) p q f h = tt
  refusal-through Refusal p q f h = f h

  pub one-for-all : (kind : E → FaultKind) (old new : ReplicaState) (step : NaiveClient → Result NaiveClient E) (result : Result (Unit {0}) E)
      (p : NaiveClient) → IsWellNamed p → indexed_client p ≡ old.client → DoesStep kind old new p (step p) result
      → ((q : NaiveClient) → DifferInNames p q → AnswersUpToNames E (step p) (step q)) → ((q k : NaiveClient) → step q ≡ Ok k → Counts q.doc k.doc)
      → (x : NaiveClient) → IsWellNamed x
      → ((kept : NaiveClient) → IsCompacted kept x → AnswersAlike E (step kept) (step x)) → StandsFor old.client x → AnswersClient kind old new x (step x) result
  one-for-all kind old new step (Ok u) p named shows does names counts x whole alike s =
      let d = kept-differs p x s.kept named whole s.keeps (shows ∙ sym s.shows) in
      let a = ok-through does.0 (names s.kept d) (alike s.kept s.keeps) does.1 in
      let rises = rises-alike old.held new.held p s.kept does.0 a.kept d.same a.shows (counts p does.0 does.1) (counts s.kept a.kept a.stepped) does.3 in (
        a.whole,
        a.took,
        record {
          client = record { kept = a.kept; shows = sym a.shows ∙ does.2; keeps = a.keeps };
          held = rises-kept old.held new.held s.kept x
              a.kept a.whole s.keeps a.keeps rises;
        },
      )
  one-for-all kind old new step (Err fault) p named shows does names counts x whole alike s =
      let d = kept-differs p x s.kept named whole s.keeps (shows ∙ sym s.shows) in
      refusal-through (kind fault) (step p ≡ Err fault) (step x ≡ Err fault) (λ e. err-through fault (names s.kept d) (alike s.kept s.keeps) e) does

-- what it shows of that client, each client for which it stands shows
pub one-shows : (state : ReplicaState) (p : NaiveClient) → IsWellNamed p → indexed_client p ≡ state.client → (x : NaiveClient) (r : IsReached x)
    → StandsFor state.client x → ShowsOf p x
one-shows state p named shows x r s =
    let d = kept-differs p x s.kept named (reached-named x r) s.keeps (shows ∙ sym s.shows) in
    let v = views-of p s.kept d in
    let k = show-alike s.kept x (run-facts r.steps x (reached-sound x r)) s.keeps in
    record { content = v.content ∙ k.content; overlap = λ label a b. v.overlap label a b ∙ k.overlap label a b; blame = v.blame ∙ k.blame }

-- a summary of that client is one of each client for which it stands
pub one-sums : (state : ReplicaState) (sum : SumDoc) (names : List Characters) (origin : ℕ) (p : NaiveClient) → IsWellNamed p → indexed_client p ≡ state.client
    → Summarizes sum names origin p.doc
    → (x : NaiveClient) (r : IsReached x) → StandsFor state.client x → Summarizes sum names origin x.doc
one-sums state sum names origin p named shows m x r s =
    let d = kept-differs p x s.kept named (reached-named x r) s.keeps (shows ∙ sym s.shows) in
    let run = reached-sound x r in
    let same = summed-alike p s.kept x (alike-of p s.kept d) s.keeps (run-facts r.steps x run) (run-values r.steps x run) in
    record { gives = m.gives ∙ same.indexed; written = m.written ∙ same.summary (take origin names) }
