-- A replica over an own document as it starts, and the summary that it tells.
use Rattle.std.proofs.Common.{◌≡◌, ◌≤◌, ◌<◌, ◌^◌, ℕ, Bool, false, None, Some, Option, List, [], ◌∷◌, length, map, take, refl, sym, ◌∙◌, ap, subst, arith}
use Rattle.std.proofs.lemmas.List.{length-map, length-take}
use Rattle.ft_props.specs.Properties.{Characters}
use Rattle.ft_props.specs.Element.{ListElement, nameless}
use Rattle.ft_op.specs.Document.{Document, empty}
use Rattle.ft_sumdoc.specs.declared.summary.SumDoc.{SumDoc}
use Rattle.ft_sumdoc.specs.Valid.{IsValidSummary}
use Rattle.ft_msg.specs.declared.views.Link.TheVariants.{Offline}
use Rattle.ft_msg.specs.Answers.{HeldCounts, ReplicaState, RunsFor, StartsOver, SummarizesReplica}
use Rattle.ft_msg.specs.Client.{NaiveClient, PendingEdit, client_over}
use Rattle.ft_msg.specs.ClientSteps.{is_none_pending}
use Rattle.ft_msg.specs.Indexed.{IndexedClient, IndexedDocument, indexed, indexed_client}
use Rattle.ft_msg.specs.NameTable.{AreDistinct}
use Rattle.ft_msg.specs.Reached.{IsReached}
use Rattle.ft_msg.specs.Summary.{GivesDocument, doc_of, trim}
use Rattle.ft_msg.specs.SummaryOf.{summary_of}
use Rattle.ft_msg.proofs.ReplicaStarts.{keeps-itself, reached-empty, reached-summary, starts-over}
use Rattle.ft_laws_compaction.proofs.AllSteps.{reached-sound}
use Rattle.ft_laws_compaction.proofs.Compacting.{starts-from-summary}
use Rattle.ft_laws_compaction.proofs.Runs.{run-facts}
use Rattle.ft_laws_compaction.proofs.SameSummary.{run-values}
use Rattle.ft_laws_names.proofs.Indexing.{alike-itself}
use Rattle.ft_laws_names.proofs.OneAnswersAll.{one-summary-answers-all}
use Rattle.ft_laws_names.proofs.SummariesAlike.{summed-alike}
use Rattle.ft_laws_summaries.specs.Summaries.{IsSmall}
use Rattle.ft_laws_summaries.proofs.DistinctNames.{distinct-taken, table-distinct}
use Rattle.ft_laws_summaries.proofs.FormedRuns.{formed-empty, formed-summary}
use Rattle.ft_laws_summaries.proofs.RunSummaries.{summaries-are-valid, summaries-give-documents}
use Rattle.ft_replica.specs.declared.document.OwnNumbers.{OwnNumbers}
use Rattle.ft_replica.specs.Kept.{Holds, IsKept, state_at, state_of}
use Rattle.ft_replica.specs.Linked.{IsLinkedAs, LinkedState, edits_shown, linked_over, part_of}
use Rattle.ft_replica.specs.Own.{HeldDocument, ShownDocument, Shows}
use Rattle.ft_replica.specs.Stopping.{StoppingState}
use Rattle.ft_replica.proofs.LinkedReads.{client-counts, client-is-shown, shown-length}
use Rattle.ft_replica.proofs.Replicas.{kept-is-named}

module _ {D : Type 0} (holds : D → HeldDocument → Type 0) (shown : D → ShownDocument) (shows : (d : D) (held : HeldDocument) → holds d held → Shows (shown d) held) where
  abbrev pub started : D → ℕ → StoppingState D
  started d origin = record { client = linked_over d; origin = origin; stop = None }

  start-linked : (d : D) (doc : Document) (low : ℕ) → holds d (record { doc = doc; stages = []; last = 0; low = low }) → IsLinkedAs holds low (linked_over d) (client_over doc)
  start-linked d doc low h = record { document = h; rest = refl }

  -- over the empty document
  pub empty-kept : (d : D) → holds d (record { doc = empty; stages = []; last = 0; low = 0 }) → IsKept holds (linked_over d) 0 false
  empty-kept d h = record {
    whole = client_over empty;
    reached = reached-empty;
    formed = λ n. formed-empty;
    kept = client_over empty;
    keeps = keeps-itself (client_over empty);
    low = 0;
    above = omega arith;
    linked = start-linked d empty 0 h;
  }

  -- over that of a summary
  pub summary-kept : (d : D) (sum : SumDoc) → IsValidSummary sum → holds d (record { doc = doc_of sum; stages = []; last = 0; low = sum.min })
      → IsKept holds (linked_over d) (length sum.conns) false
  summary-kept d sum valid h = record {
    whole = client_over (doc_of sum);
    reached = reached-summary sum valid;
    formed = λ n. formed-summary sum valid;
    kept = client_over (doc_of sum);
    keeps = keeps-itself (client_over (doc_of sum));
    low = sum.min;
    above = omega arith;
    linked = start-linked d (doc_of sum) sum.min h;
  }

  pub starts-own : (d : D) (doc : Document) (low conns : ℕ) → holds d (record { doc = doc; stages = []; last = 0; low = low }) → StartsOver (state_of shown (started d conns)) doc conns
  starts-own d doc low conns h =
      let l = start-linked d doc low h in
      let state : IndexedClient → HeldCounts → ReplicaState = λ c k. record { client = c; held = k; origin = conns; stop = None } in
      subst (λ c. StartsOver (state c (shown d).counts) doc conns) (sym (client-is-shown holds shown shows low (linked_over d) (client_over doc) l))
      (subst (λ k. StartsOver (state (indexed_client (client_over doc)) k) doc conns)
      (sym (client-counts holds shown shows low (linked_over d) (client_over doc) l)) (starts-over doc conns))

  pub starts-for : (d : D) (sum : SumDoc) → holds d (record { doc = doc_of sum; stages = []; last = 0; low = sum.min }) → (whole : Document) → IsReached (client_over whole) → GivesDocument sum whole
      → RunsFor (state_of shown (started d (length sum.conns))) (client_over whole)
  starts-for d sum h whole r gives =
      let over : IndexedDocument → IndexedClient = λ i. record { doc = i; link = Offline; conns = []; last_stage = 0; next_client_seq = 1; queue = []; pending = [] } in
      record {
        running = refl;
        client = record {
          kept = client_over (trim whole);
          shows = sym (client-is-shown holds shown shows sum.min (linked_over d) (client_over (doc_of sum)) (start-linked d (doc_of sum) sum.min h) ∙ ap over gives);
          keeps = starts-from-summary r.steps (client_over whole) (reached-sound (client_over whole) r) refl;
        };
      }

  -- ---- the summary

  no-items : {A : Type 0} (xs : List A) → length xs ≤ 0 → xs ≡ []
  no-items [] h = refl
  no-items (x ∷ xs) h = absurd (omega (arith, h))

  no-parts : (es : List PendingEdit) → map part_of es ≡ [] → es ≡ []
  no-parts [] h = refl
  no-parts (e ∷ es) h = absurd cc

  -- what is pending
  told-at : (s : LinkedState D) (origin n : ℕ) → n ≡ length s.pending → 0 < n
      → (n ≡ length (state_at shown s origin None).client.pending) × ¬ ((state_at shown s origin None).client.pending ≡ [])
  told-at s origin n e more =
      let long = shown-length (shown s.document).pending s.pending in (
        e ∙ sym long,
        λ none. (let zero : length (edits_shown (shown s.document).pending s.pending) ≡ 0 = ap length none in omega (arith, e, more, long, zero)),
      )

  pub pending-told : (s : StoppingState D) (n : ℕ) → s.stop ≡ None → n ≡ length s.client.pending → 0 < n
      → ((state_of shown s).stop ≡ None) × (n ≡ length (state_of shown s).client.pending) × ¬ ((state_of shown s).client.pending ≡ [])
  pending-told s n runs e more =
      subst (λ o. ((state_at shown s.client s.origin o).stop ≡ None) × (n ≡ length (state_at shown s.client s.origin o).client.pending) × ¬ ((state_at shown s.client s.origin o).client.pending ≡ [])) (sym runs)
      (let t = told-at s.client s.origin n e more in (refl, t.0, t.1))

  pub idle-kept : (s : StoppingState D) (nameless_since : Bool) (h : Holds holds s nameless_since) (runs : s.stop ≡ None) → length s.client.pending ≤ 0 → (h runs).kept.pending ≡ []
  idle-kept s nameless_since h runs idle =
      let k = h runs in
      no-parts k.kept.pending (sym (ap (λ (t : LinkedState D). t.pending) k.linked.rest) ∙ no-items s.client.pending idle)

  pub origin-of : (s : StoppingState D) → (state_of shown s).origin ≡ s.origin
  origin-of s = by s.stop
    where
      by : (stop : Option OwnNumbers) → (state_at shown s.client s.origin stop).origin ≡ s.origin
      by None = refl
      by (Some n) = refl

  -- the lists of two documents that are indexed alike once they are trimmed are as small
  small-alike : (p w : Document) → indexed (trim p) ≡ indexed (trim w) → IsSmall p → IsSmall w
  small-alike p w e h =
      let number : p.number ≡ w.number = ap (λ (d : IndexedDocument). d.number) e in
      let skipped : p.skipped ≡ w.skipped = ap (λ (d : IndexedDocument). d.skipped) e in
      let other : p.other ≡ w.other = ap (λ (d : IndexedDocument). d.other) e in
      let text = long (trim p).text.items (trim w).text.items (ap (λ (d : IndexedDocument). d.text) e) in
      let rows = long (trim p).rows.items (trim w).rows.items (ap (λ (d : IndexedDocument). d.rows) e) in
      let cols = long (trim p).cols.items (trim w).cols.items (ap (λ (d : IndexedDocument). d.cols) e) in
      record {
        number = subst (λ n. n < 2 ^ 53) number h.number;
        skipped = subst (λ n. n < 2 ^ 53) skipped h.skipped;
        other = subst (λ n. n < 2 ^ 53) other h.other;
        text = subst (λ n. n < 2 ^ 53) text h.text;
        rows = subst (λ n. n ≤ 2 ^ 52) rows h.rows;
        cols = subst (λ n. n ≤ 2 ^ 52) cols h.cols;
      }
    where
      long : (xs ys : List ListElement) → map nameless xs ≡ map nameless ys → length xs ≡ length ys
      long xs ys g = sym (length-map xs nameless) ∙ ap length g ∙ length-map ys nameless

  pub summarizes : (s : StoppingState D) (nameless_since : Bool) (h : Holds holds s nameless_since) (runs : s.stop ≡ None) → nameless_since ≡ false → length s.client.pending ≤ 0
      → (names : List Characters) (sum : SumDoc) → s.origin ≤ length names → AreDistinct names → sum ≡ summary_of (take s.origin names) (h runs).kept.doc → IsSmall (h runs).kept.doc
      → SummarizesReplica sum names (state_of shown s)
  summarizes s nameless_since h runs known idle names sum enough distinct written small =
      let k = h runs in
      let x = k.whole in
      let named = kept-is-named holds shown shows s.client s.origin nameless_since k in
      let none : s.client.pending ≡ [] = no-items s.client.pending idle in
      let kept_none : k.kept.pending ≡ [] = no-parts k.kept.pending (sym (ap (λ (t : LinkedState D). t.pending) k.linked.rest) ∙ none) in
      let whole_none : x.pending ≡ [] = sym (ap (λ (y : NaiveClient). y.pending) k.keeps.rest) ∙ kept_none in
      let quiet = ap is_none_pending whole_none in
      let run = k.formed known in
      let sound = reached-sound x k.reached in
      let same = summed-alike k.kept k.kept x (alike-itself k.kept named) k.keeps (run-facts k.reached.steps x sound) (run-values k.reached.steps x sound) in
      let conns = take s.origin names in
      let many : length conns ≡ s.origin = simp length-take (omega (arith, enough)) in
      let e : sum ≡ summary_of conns x.doc = written ∙ same.summary conns in
      let gives : GivesDocument sum k.kept.doc = ap (λ m. indexed (doc_of m)) e ∙ summaries-give-documents s.origin x conns run quiet ∙ sym same.indexed in
      let state = state_at shown s.client s.origin None in
      let shows_it : indexed_client k.kept ≡ state.client = sym (client-is-shown holds shown shows k.low s.client k.kept k.linked) in
      let at : SummarizesReplica sum names state = record {
        running = refl;
        idle = ap (edits_shown (shown s.client.document).pending) none;
        valid = subst IsValidSummary (sym e) (summaries-are-valid s.origin x conns run quiet many (distinct-taken s.origin names (table-distinct names distinct))
            (small-alike k.kept.doc x.doc same.indexed small));
        doc = one-summary-answers-all state sum names s.origin k.kept named shows_it (record { gives = gives; written = written });
      } in
      subst (λ o. SummarizesReplica sum names (state_at shown s.client s.origin o)) (sym runs) at
