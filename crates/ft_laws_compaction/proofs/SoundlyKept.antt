-- What is known of a client carries over to one that keeps it.
use Rattle.std.proofs.Common.{◌≡◌, ◌≤◌, ℕ, Bool, true, not, ◌&&◌, List, Option, Some, None, refl, sym, ◌∙◌, ap, subst}
use Rattle.std.specs.List.{list_all, list_any}
use Rattle.ft_base.proofs.Booleans.{both}
use Rattle.ft_props.specs.Element.{ElementId, ListElement, has_id, id, is_unremoved, same_id}
use Rattle.ft_props.specs.Compaction.{Keeps, none, same, universal, collected, with_universal_insertion}
use Rattle.ft_op.specs.Intervals.{Interval}
use Rattle.ft_op.specs.Document.{Document}
use Rattle.ft_msg.specs.Client.{NaiveClient}
use Rattle.ft_msg.specs.Compacted.{IsCompacted}
use Rattle.ft_laws_agreement.specs.Starts.{IsSoundRun}
use Rattle.ft_msg.specs.ClientSteps.{ClientStep}
use Rattle.ft_laws_agreement.specs.Trimming.{are_distinct_elements, has_ends_on, is_end_on}
use Rattle.ft_laws_agreement.proofs.Booleans.{hidden, never}
use Rattle.ft_laws_agreement.proofs.CompactedScans.{Alike, id-universal, unremoved-alike}
use Rattle.ft_laws_agreement.proofs.OwnNames.{all-weaker}
use Rattle.ft_laws_compaction.specs.Keeping.{IsSoundlyKept}
use Rattle.ft_laws_compaction.proofs.Compacting.{none-kept, tombstones-kept}
use Rattle.ft_laws_compaction.proofs.Rejoined.{any-kept}
use Rattle.ft_laws_compaction.proofs.Runs.{run-facts, run-numbers}

module _ {low : ℕ} {held : ElementId → Bool} where
  absent-kept : (a : ElementId) {ks xs : List ListElement} → Keeps low held ks xs → not (list_any (has_id a) xs) ≡ true → not (list_any (has_id a) ks) ≡ true
  absent-kept a {ks} {xs} k h = ap not (none-kept (has_id a) (λ e f. ap (same_id a) (id-universal low e f)) k (hidden (list_any (has_id a) xs) h))

  pub distinct-kept : {ks xs : List ListElement} → Keeps low held ks xs → are_distinct_elements xs ≡ true → are_distinct_elements ks ≡ true
  distinct-kept none h = refl
  distinct-kept (same {e = e} {xs = xs} k) h = let p = both (not (list_any (has_id (id e)) xs)) (are_distinct_elements xs) h in rw (absent-kept (id e) k p.0, distinct-kept k p.1) refl
  distinct-kept (universal {e = e} {ks = ks} {xs = xs} f k) h =
      let p = both (not (list_any (has_id (id e)) xs)) (are_distinct_elements xs) h in
      ap (λ i. not (list_any (has_id i) ks) && are_distinct_elements ks) (id-universal low e f) ∙ rw (absent-kept (id e) k p.0, distinct-kept k p.1) refl
  distinct-kept (collected {e = e} {xs = xs} g u n k) h = distinct-kept k (both (not (list_any (has_id (id e)) xs)) (are_distinct_elements xs) h).1

  unremoved-named : (a : ElementId) → Alike low held (λ e. has_id a e && is_unremoved e)
  unremoved-named a = record {
    gone = λ e g u. ap (λ b. has_id a e && b) ((unremoved-alike low held).gone e g u) ∙ never (has_id a e);
    old = λ e f. ap (λ b. has_id a (with_universal_insertion e) && b) ((unremoved-alike low held).old e f) ∙ ap (λ i. same_id a i && is_unremoved e) (id-universal low e f);
  }

  end-kept : {ks xs : List ListElement} (o : Option ElementId) → Keeps low held ks xs → is_end_on xs o ≡ true → is_end_on ks o ≡ true
  end-kept None k h = refl
  end-kept (Some a) k h = any-kept (λ e. has_id a e && is_unremoved e) (unremoved-named a) k ∙ h

  ends-kept : {ks xs : List ListElement} (is : List Interval) → Keeps low held ks xs → list_all (has_ends_on xs) is ≡ true → list_all (has_ends_on ks) is ≡ true
  ends-kept {ks} {xs} is k h =
      all-weaker (has_ends_on xs) (has_ends_on ks) (λ i g. (let p = both (is_end_on xs i.start) (is_end_on xs i.end) g in rw
      (end-kept i.start k p.0, end-kept i.end k p.1) refl)) is h

pub soundly-kept : (steps : List ClientStep) (x kept : NaiveClient) → IsSoundRun steps x → IsCompacted kept x → IsSoundlyKept kept
soundly-kept steps x kept run k =
    let f = run-facts steps x run in
    record {
      text = distinct-kept k.doc.text.items f.ready.text.place.distinct;
      rows = distinct-kept k.doc.rows.items f.ready.rows.place.distinct;
      cols = distinct-kept k.doc.cols.items f.ready.cols.place.distinct;
      ends = ap (list_all (has_ends_on kept.doc.text.items)) (ap (λ (d : Document). d.intervals) k.doc.rest) ∙ ends-kept x.doc.intervals k.doc.text.items f.ready.ends;
      numbers = subst (λ (d : Document). d.minimum ≤ d.number) (sym k.doc.rest) (run-numbers steps x run);
      tombstones = tombstones-kept x kept f.free k;
    }
