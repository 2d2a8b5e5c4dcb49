-- What a replica is asked, and what it writes.
use Rattle.std.proofs.Common.{◌≡◌, ◌≤◌, ◌<◌, ℕ, zero, suc, ◌+◌, ◌-◌, Bool, true, false, cond, nat_lt, List, [], ◌∷◌, ◌++◌, add-one, append_assoc, drop, length, map, slice_get, take, Some, None, Result, Ok, Err, refl, sym, ◌∙◌, ap, subst, arith}
use Rattle.serde_json.specs.Written.{compact_text}
use Rattle.std.specs.Prelude.{⊤, IfOk}
use Rattle.std.specs.Result.{IsErr, IsErrAnd}
use Rattle.std.proofs.lemmas.Bool.Decides.{nat_tests}
use Rattle.ft_base.proofs.Options.{some-same}
use Rattle.ft_attrib.specs.declared.attribution.Origin.{Origin}
use Rattle.ft_attrib.specs.Runs.{origin_runs}
use Rattle.ft_laws_agreement.specs.Sequencing.{Each}
use Rattle.ft_op.specs.Document.{Document}
use Rattle.ft_props.specs.Properties.{Characters}
use Rattle.ft_laws_summaries.proofs.Lists.{each-found}
use Rattle.ft_sumdoc.specs.declared.summary.IntervalRec.{IntervalRec}
use Rattle.ft_sumdoc.specs.declared.summary.SumDoc.{SumDoc}
use Rattle.ft_sumdoc.specs.WellFormed.{IsWellCut}
use Rattle.ft_sumdoc.specs.Written.{summary_text}
use Rattle.ft_msg.specs.declared.faults.SummaryFault.{SummaryFault}
use Rattle.ft_msg.specs.declared.faults.ViewFault.{ViewFault}
use Rattle.ft_msg.specs.declared.faults.ViewFault.TheVariants as viewing
use Rattle.ft_msg.specs.declared.messages.Draft.{Draft}
use Rattle.ft_msg.specs.declared.views.Numbers.{Numbers}
use Rattle.ft_msg.specs.declared.views.View.{View as ClientView}
use Rattle.ft_msg.specs.Answers.{AnswersRead, AnswersSummary, ReplicaState, numbers_of, view_content}
use Rattle.ft_msg.specs.Blame.{blame}
use Rattle.ft_msg.specs.Client.{NaiveClient}
use Rattle.ft_msg.specs.Compacted.{StandsFor}
use Rattle.ft_msg.specs.Content.{content}
use Rattle.ft_msg.specs.Indexed.{IndexedClient}
use Rattle.ft_msg.specs.Overlap.{overlap}
use Rattle.ft_msg.specs.Reached.{IsReached}
use Rattle.ft_msg.specs.SummaryOf.{summary_of}
use Rattle.ft_msg.specs.WellFormed.{IsWellFormedDraft}
use Rattle.ft_msg.specs.Written.{written_draft}
use Rattle.ft_msg.proofs.LinkSteps.{stands-link}
use Rattle.ft_seqr.specs.declared.refusals.Refusal.{Refusal}
use Rattle.ft_seqr.specs.declared.refusals.Refusal.TheVariants.{OutOfRange}
use Rattle.ft_seqr.specs.AnswerTexts.{written_authors, written_origin_run, written_overlap}
use Rattle.ft_seqr.specs.Refusals.{refusal_of_summary, refusal_of_view}
use Rattle.ft_seqr.specs.World.{NaiveWorld, NamedClient, Stepped, Texts, View, blame_client, greatest_origin, is_client, known_names, summary_texts}
use Rattle.ft_laws_sessions.proofs.MadeWorlds.{made-cut, made-queue}
use Rattle.ft_session.specs.declared.outputs.Out.{Out}
use Rattle.ft_session.specs.declared.outputs.Out.TheVariants as out
use Rattle.ft_session.specs.Outputs.{AddsText, WritesAs}
use Rattle.ft_session.specs.Asked.{authors_client, overlap_client, queue_client, show_client, summarize_client}
use Rattle.ft_seqr.specs.RefusalKinds.{MeansOf, refusal_kind}
use Rattle.ft_session.specs.Worlds.{AnswersReading, Meets, MeetsSome, MemberState, ServiceState}
use Rattle.ft_session.proofs.Counting.{stands-pending}
use Rattle.ft_session.proofs.Entering.{idle-alike, summary-refused, unless-taken}
use Rattle.ft_session.proofs.OwnEvents.{handed-on, meets-reached, written-known}
use Rattle.ft_session.proofs.RefusalKinds.{some-none}

-- ---- texts

abbrev pub draft_text : Draft → List ℕ
draft_text d = compact_text (written_draft d)

pub one-more : (i : ℕ) (ds : List Draft) (d : Draft) → slice_get ds i ≡ Some d
    → map compact_text (map written_draft (take (i + 1) ds)) ≡ map compact_text (map written_draft (take i ds)) ++ (draft_text d ∷ [])
one-more i ds d h = ap (λ k. map compact_text (map written_draft (take k ds))) (add-one i) ∙ next i ds h
  where
    next : (i : ℕ) (ds : List Draft) → slice_get ds i ≡ Some d
        → map compact_text (map written_draft (take (suc i) ds)) ≡ map compact_text (map written_draft (take i ds)) ++ (draft_text d ∷ [])
    next i [] g = (cc)
    next zero (e ∷ es) g = ap (λ x. draft_text x ∷ []) (some-same e d g)
    next (suc i) (e ∷ es) g = ap (λ ts. draft_text e ∷ ts) (next i es g)

pub none-left : (i : ℕ) (ds : List Draft) → slice_get ds i ≡ None → take i ds ≡ ds
none-left zero [] h = refl
none-left zero (d ∷ ds) h = (cc)
none-left (suc i) [] h = refl
none-left (suc i) (d ∷ ds) h = ap (λ es. d ∷ es) (none-left i ds h)

-- a text whose words are known is added
pub added-known : {E : Type 0} (text : List ℕ) (x : Result (List ℕ) E) (old new : List (List ℕ)) → IfOk x (λ t. t ≡ text) → AddsText x old new
    → new ≡ old ++ (text ∷ [])
added-known text (Ok t) old new e h = h ∙ ap (λ u. old ++ (u ∷ [])) e
added-known text (Err want) old new e h = absurd h

-- the text of one element more
pub text-added : {A B E : Type 0} (written : A → B) (text : B → List ℕ) (all rest later : List A) (a : A) (x : Result (List ℕ) E)
    (old new : List (List ℕ)) → rest ≡ a ∷ later → IfOk x (λ t. t ≡ text (written a)) → AddsText x old new
    → old ++ map text (map written rest) ≡ map text (map written all)
    → new ++ map text (map written later) ≡ map text (map written all)
text-added written text all rest later a x old new r e h k =
    ap (λ ts. ts ++ map text (map written later)) (added-known (text (written a)) x old new e h)
    ∙ append_assoc old (text (written a) ∷ []) (map text (map written later))
    ∙ ap (λ l. old ++ map text (map written l)) (sym r) ∙ k

-- ---- refusals

-- a running replica that is asked has no memory at most
abbrev pub Fails : ReplicaState → ViewFault → Type 0
Fails r fault = AnswersRead {A = Unit {0}} (λ _ _. ⊤) r (Err fault)

view-wants : (r : ReplicaState) (fault : ViewFault) (R : Type 0) → r.stop ≡ None → Fails r fault → MeansOf (refusal_kind (refusal_of_view fault)) ⊤ R
view-wants r viewing.OutOfMemory R h a = tt
view-wants r (viewing.Stopped seq) R h a = some-none r.stop seq h a

pub view-refused : (event : NaiveWorld → NamedClient → Stepped) (m : MemberState) (s : ServiceState) (fault : ViewFault) → Fails m.replica fault
    → AnswersReading event m s (Err (refusal_of_view fault))
view-refused event m s fault a = record {
  client = λ w c meets. view-wants m.replica fault (event w c ≡ Err (refusal_of_view fault)) meets.member.replica.running a;
}

pub reading-handed : {event : NaiveWorld → NamedClient → Stepped} {m : MemberState} {s : ServiceState} (why : Refusal) (result : Result Out Refusal)
    → IsErr result × IsErrAnd result (λ w. w ≡ why) → AnswersReading event m s (Err why) → AnswersReading event m s result
reading-handed {event} {m} {s} why result h a = handed-on (λ r. AnswersReading event m s r) why result h a

pub reading-view : {event : NaiveWorld → NamedClient → Stepped} {m old : MemberState} {s : ServiceState} {result : Result Out Refusal}
    → m ≡ old → AnswersReading event m s result → AnswersReading event old s result
reading-view {event} {m} {old} {s} {result} e a = subst (λ o. AnswersReading event o s result) e a

-- ---- answers

-- what is written, if there was memory for it
pub reading-written : {A E : Type 0} {event : NaiveWorld → NamedClient → Stepped} {m : MemberState} {s : ServiceState} (written : A → Out) (a : A)
    (x : Result A E) (result : Result Out Refusal) → IfOk x (λ b. b ≡ a) → WritesAs written x result → AnswersReading event m s (Ok (written a))
    → AnswersReading event m s result
reading-written {A} {E} {event} {m} {s} written a x result e w h =
    written-known (λ r. AnswersReading event m s r) written a x result (record { client = λ v c meets. tt }) e h w

-- the same of texts
pub reading-texts : {E : Type 0} {event : NaiveWorld → NamedClient → Stepped} {m : MemberState} {s : ServiceState} (texts : List (List ℕ))
    (x : Result (List (List ℕ)) E) (result : Result Out Refusal) → IfOk x (λ ts. ts ≡ texts) → WritesAs (λ ts. out.Texts ts) x result
    → AnswersReading event m s (Ok (out.Texts texts)) → AnswersReading event m s result
reading-texts texts x result e w h = reading-written (λ ts. out.Texts ts) texts x result e w h

-- what is read of a replica, of its client
pub read-of : {A : Type 0} (P : A → NaiveClient → Type 0) (m : MemberState) (s : ServiceState) (a : A) → AnswersRead P m.replica (Ok a)
    → (w : NaiveWorld) (c : NamedClient) → Meets w c m s → P a c.client
read-of P m s a h w c meets = h.1 c.client (meets-reached w c m s meets) meets.member.replica.client

module _ (m : MemberState) (s : ServiceState) where
  pub shown : (name : Characters) (view : ClientView) → name ≡ m.name → view.numbers ≡ numbers_of m.replica
      → AnswersRead (λ (v : ClientView) x. view_content v ≡ content x) m.replica (Ok view) → AnswersReading show_client m s (Ok (out.View name view))
  shown name view n h a = record {
    client = λ w c meets.
        let r = m.replica.client in
        let t = meets.member.replica.client in
        let l = stands-link r c.client t in (
          View c,
          refl,
          record {
            name_is = n ∙ meets.member.name;
            seq = ap (λ (k : Numbers). k.seq) h ∙ l.number;
            min = ap (λ (k : Numbers). k.min) h ∙ (sym (ap (λ (d : IndexedClient). d.doc.minimum) t.shows) ∙ ap (λ (d : Document). d.minimum) t.keeps.doc.rest);
            pending = ap (λ (k : Numbers). k.pending) h ∙ stands-pending r c.client t;
            skipped = ap (λ (k : Numbers). k.skipped) h ∙ (sym (ap (λ (d : IndexedClient). d.doc.skipped) t.shows) ∙ ap (λ (d : Document). d.skipped) t.keeps.doc.rest);
            other = ap (λ (k : Numbers). k.other) h ∙ (sym (ap (λ (d : IndexedClient). d.doc.other) t.shows) ∙ ap (λ (d : Document). d.other) t.keeps.doc.rest);
            link = ap (λ (k : Numbers). k.link) h ∙ l.link;
            shows = read-of (λ (v : ClientView) x. view_content v ≡ content x) m s view a w c meets;
          },
        );
  }

  -- its unsent messages
  pub queue-formed : MeetsSome m s → Each IsWellFormedDraft m.replica.client.queue
  queue-formed some =
      let w = some.world in
      let c = some.client in
      subst (Each IsWellFormedDraft) (sym (stands-link m.replica.client c.client some.meets.member.replica.client).queue)
      (each-found (λ (b : NamedClient). Each IsWellFormedDraft b.client.queue) (is_client c.name) w.clients c some.meets.found (made-queue w some.meets.made)).0

  pub queue-told : (texts : List (List ℕ)) → texts ≡ map compact_text (map written_draft m.replica.client.queue) → AnswersReading queue_client m s (Ok (out.Texts texts))
  queue-told texts h = record {
    client = λ w c meets. (
      Texts (map written_draft c.client.queue),
      refl,
      h ∙ ap (λ ds. map compact_text (map written_draft ds)) (stands-link m.replica.client c.client meets.member.replica.client).queue,
    );
  }

  -- ---- its summary

  summary-known : (sum : SumDoc) → AnswersSummary s.names m.replica (Ok sum) → (w : NaiveWorld) (c : NamedClient) → Meets w c m s
      → sum ≡ summary_of (known_names w c.client) c.client.doc
  summary-known sum a w c meets =
      (a.doc c.client (meets-reached w c m s meets) meets.member.replica.client).written
      ∙ ap (λ n. summary_of (take n s.names) c.client.doc) meets.member.origin
      ∙ ap (λ (b : ServiceState). summary_of (take (greatest_origin (take c.client.doc.number w.log)) b.names) c.client.doc) meets.service

  pub summary-cut : MeetsSome m s → (sum : SumDoc) → AnswersSummary s.names m.replica (Ok sum) → IsWellCut sum
  summary-cut some sum a =
      let w = some.world in
      let c = some.client in
      let idle = idle-alike m.replica.client c.client some.meets.member.replica.client a.idle in
      subst IsWellCut (sym (summary-known sum a w c some.meets)) (made-cut w some.meets.made c.name c some.meets.found idle)

  pub summary-told : (sum : SumDoc) (texts : List (List ℕ)) → AnswersSummary s.names m.replica (Ok sum) → texts ≡ summary_text sum ∷ []
      → AnswersReading summarize_client m s (Ok (out.Texts texts))
  summary-told sum texts a h = record {
    client = λ w c meets. (
      Texts (summary_texts w c.client),
      unless-taken c.client (Ok (w, Texts (summary_texts w c.client))) (idle-alike m.replica.client c.client meets.member.replica.client a.idle),
      h ∙ ap (λ d. summary_text d ∷ []) (summary-known sum a w c meets),
    );
  }

  pub summary-refuses : (fault : SummaryFault) → AnswersSummary s.names m.replica (Err fault) → AnswersReading summarize_client m s (Err (refusal_of_summary fault))
  summary-refuses fault a = record {
    client = λ w c meets. summary-refused s.names m.replica c.client (Ok (w, Texts (summary_texts w c.client))) fault meets.member.replica a;
  }

  -- ---- what a value read of it says

  module _ {T : Type 0} (F : NaiveClient → T) (value : T) (read : (m.replica.stop ≡ None) × ((x : NaiveClient) → IsReached x → StandsFor m.replica.client x → value ≡ F x)) where
    known : (w : NaiveWorld) (c : NamedClient) → Meets w c m s → value ≡ F c.client
    known w c meets = read.1 c.client (meets-reached w c m s meets) meets.member.replica.client

  pub overlap-told : (label : Characters) (a b : ℕ) (found : List IntervalRec) (texts : List (List ℕ))
      → (m.replica.stop ≡ None) × ((x : NaiveClient) → IsReached x → StandsFor m.replica.client x → found ≡ overlap x label a b)
      → texts ≡ map compact_text (map written_overlap found) → AnswersReading (overlap_client label a b) m s (Ok (out.Texts texts))
  overlap-told label a b found texts read h = record {
    client = λ w c meets. (
      Texts (map written_overlap (overlap c.client label a b)),
      refl,
      h ∙ ap (λ l. map compact_text (map written_overlap l)) (known (λ x. overlap x label a b) found read w c meets),
    );
  }

  module _ (origins : List Origin) (read : (m.replica.stop ≡ None) × ((x : NaiveClient) → IsReached x → StandsFor m.replica.client x → origins ≡ blame x)) where
    pub authors-told : (texts : List (List ℕ)) → texts ≡ map compact_text (written_authors s.names origins) → AnswersReading authors_client m s (Ok (out.Texts texts))
    authors-told texts h = record {
      client = λ w c meets. (
        Texts (written_authors w.names (blame c.client)),
        refl,
        h ∙ ap (λ os. map compact_text (written_authors s.names os)) (known blame origins read w c meets)
            ∙ ap (λ (b : ServiceState). map compact_text (written_authors b.names (blame c.client))) meets.service,
      );
    }

    module _ (a b : ℕ) where
      abbrev blamed : NaiveWorld → List Origin → Stepped
      blamed w os =
          cond (nat_lt (length os) b) (Err (OutOfRange (length os))) (Ok (w, Texts (map (written_origin_run w.names) (origin_runs a (take (b - a) (drop a os))))))

      abbrev tested : NaiveWorld → Bool → Stepped
      tested w t =
          cond t (Err (OutOfRange (length origins))) (Ok (w, Texts (map (written_origin_run w.names) (origin_runs a (take (b - a) (drop a origins))))))

      pub blame-refused : (k : ℕ) → k ≡ length origins → length origins < b → AnswersReading (λ w c. blame_client w c.client a b) m s (Err (OutOfRange k))
      blame-refused k e low = record {
        client = λ w c meets.
            let t : nat_lt (length origins) b ≡ true = grind (arith, nat_tests) in
            ap (blamed w) (sym (known blame origins read w c meets)) ∙ ap (tested w) t ∙ ap (λ n. Err (OutOfRange n)) (sym e);
      }

      pub blame-told : b ≤ length origins → (texts : List (List ℕ)) → texts ≡ map compact_text (map (written_origin_run s.names) (origin_runs a (take (b - a) (drop a origins))))
          → AnswersReading (λ w c. blame_client w c.client a b) m s (Ok (out.Texts texts))
      blame-told high texts h = record {
        client = λ w c meets. (
          Texts (map (written_origin_run w.names) (origin_runs a (take (b - a) (drop a origins)))),
          (let t : nat_lt (length origins) b ≡ false = grind (arith, nat_tests) in ap (blamed w) (sym (known blame origins read w c meets)) ∙ ap (tested w) t),
          h ∙ ap (λ (b' : ServiceState). map compact_text (map (written_origin_run b'.names) (origin_runs a (take (b - a) (drop a origins))))) meets.service,
        );
      }
