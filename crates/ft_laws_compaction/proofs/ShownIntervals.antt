-- The intervals that are shown of a compacted list are those of the whole one, where their ends and those of the stages are held.
use Rattle.std.proofs.Common.{◌≡◌, ℕ, Bool, true, false, List, [], ◌∷◌, Option, Some, None, refl, ◌∙◌, ap}
use Rattle.std.specs.List.{list_all}
use Rattle.ft_base.proofs.Booleans.{both}
use Rattle.ft_props.specs.Element.{ElementId, ListElement, has_id, seen}
use Rattle.ft_props.specs.Compaction.{Keeps, is_collectable}
use Rattle.ft_props.specs.Slide.{settle}
use Rattle.ft_op.specs.Operation.{OnGrid, OnIntervals, OnText, SubOperation}
use Rattle.ft_op.specs.Intervals.{Interval, NamedElements, after_interval_operation, settle_elements, settle_ends}
use Rattle.ft_op.specs.Stages.{Stage, intervals_after_stage, shown_intervals}
use Rattle.ft_laws_agreement.proofs.CompactedScans.{is_held_end, seen-alike, settle-kept}
use Rattle.ft_laws_agreement.proofs.HeldNames.{keeps_name, settled-held}
use Rattle.ft_laws_agreement.proofs.TrimmedDocument.{are_held, has_held_ends, operation-held}
use Rattle.ft_laws_compaction.proofs.FreeTombstones.{has_held_text}

module _ {floor : ℕ} {held : ElementId → Bool} {ks xs : List ListElement} (kept : Keeps floor held ks xs)
    (names : list_all (keeps_name (is_collectable floor) held) xs ≡ true) where
  pub settle-held : (k : ℕ) (o : Option ElementId) → is_held_end held (settle xs k o) ≡ true
  settle-held k None = refl
  settle-held k (Some x) = settled-held (is_collectable floor) held (seen k) (λ e g. (seen-alike floor k (λ _. false)).gone e g refl) (has_id x) None xs refl names

  pub elements-held : (k : ℕ) (at : NamedElements) → are_held held (settle_elements xs k at) ≡ true
  elements-held k at = rw (settle-held k at.first, settle-held k at.second) refl

  pub elements-kept : (k : ℕ) (at : NamedElements) → are_held held at ≡ true → settle_elements ks k at ≡ settle_elements xs k at
  elements-kept k at h =
      let p = both (is_held_end held at.first) (is_held_end held at.second) h in
      rw (settle-kept k at.first p.0 kept, settle-kept k at.second p.1 kept) refl

  ends-kept : (k : ℕ) (is : List Interval) → list_all (has_held_ends held) is ≡ true → settle_ends ks k is ≡ settle_ends xs k is
  ends-kept k [] h = refl
  ends-kept k (i ∷ is) h =
      let p = both (has_held_ends held i) (list_all (has_held_ends held) is) h in
      let q = both (is_held_end held i.start) (is_held_end held i.end) p.0 in
      rw (settle-kept k i.start q.0 kept, settle-kept k i.end q.1 kept, ends-kept k is p.1) refl

  ends-held : (k : ℕ) (is : List Interval) → list_all (has_held_ends held) (settle_ends xs k is) ≡ true
  ends-held k [] = refl
  ends-held k (i ∷ is) = rw (settle-held k i.start, settle-held k i.end, ends-held k is) refl

  stage-kept : (o : SubOperation) (k : ℕ) (at : NamedElements) (is : List Interval) → elim o [ OnIntervals op ↦ are_held held at | _ ↦ true ] ≡ true
      → list_all (has_held_ends held) is ≡ true
      → intervals_after_stage o (settle_elements ks k at) (settle_ends ks k is) ≡ intervals_after_stage o (settle_elements xs k at) (settle_ends xs k is)
  stage-kept (OnText op) k at is h g = ends-kept k is g
  stage-kept (OnIntervals op) k at is h g = ap (λ a. after_interval_operation op a (settle_ends ks k is)) (elements-kept k at h)
      ∙ ap (after_interval_operation op (settle_elements xs k at)) (ends-kept k is g)
  stage-kept (OnGrid op) k at is h g = ends-kept k is g

  stage-held : (o : SubOperation) (k : ℕ) (at : NamedElements) (is : List Interval)
      → list_all (has_held_ends held) (intervals_after_stage o (settle_elements xs k at) (settle_ends xs k is)) ≡ true
  stage-held (OnText op) k at is = ends-held k is
  stage-held (OnIntervals op) k at is = operation-held held op (settle_elements xs k at) (settle_ends xs k is) (elements-held k at) (ends-held k is)
  stage-held (OnGrid op) k at is = ends-held k is

  pub shown-kept : (stages : List Stage) (is : List Interval) → list_all (has_held_ends held) is ≡ true → list_all (has_held_text held) stages ≡ true
      → shown_intervals ks is stages ≡ shown_intervals xs is stages
  shown-kept [] is h g = refl
  shown-kept (t ∷ stages) is h g =
      let p = both (has_held_text held t) (list_all (has_held_text held) stages) g in
      ap (λ js. shown_intervals ks js stages) (stage-kept t.sub_operation t.stage t.names is p.0 h)
      ∙ shown-kept stages (intervals_after_stage t.sub_operation (settle_elements xs t.stage t.names) (settle_ends xs t.stage is))
      (stage-held t.sub_operation t.stage t.names is) p.1

  pub shown-held : (stages : List Stage) (is : List Interval) → list_all (has_held_ends held) is ≡ true → list_all (has_held_ends held) (shown_intervals xs is stages) ≡ true
  shown-held [] is h = h
  shown-held (t ∷ stages) is h = shown-held stages (intervals_after_stage t.sub_operation (settle_elements xs t.stage t.names) (settle_ends xs t.stage is))
      (stage-held t.sub_operation t.stage t.names is)
