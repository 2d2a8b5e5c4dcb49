-- A compacted client tells just what the whole one tells.
use Rattle.std.proofs.Common.{◌≡◌, ℕ, zero, suc, ◌≤◌, Bool, true, false, cond, not, ◌&&◌, List, [], ◌∷◌, ◌++◌, Ok, refl, sym, ◌∙◌, ap, subst, map, nat_eq, nat_le}
use Rattle.ft_base.specs.declared.stamps.Stamp.{Stamp}
use Rattle.ft_base.specs.declared.stamps.Stamp.TheVariants.{Acked, Local}
use Rattle.ft_base.specs.Scan.{len, one_more_if, within}
use Rattle.ft_base.specs.Visibility.{is_acked}
use Rattle.ft_base.proofs.Booleans.{both}
use Rattle.ft_props.specs.Compaction.{Keeps, collected, has_collectable_removal, is_before_pending, is_insertion_at_or_below, none, same, universal}
use Rattle.ft_props.specs.declared.properties.Changes.{Changes}
use Rattle.ft_props.specs.Element.{ElementId, ListElement, is_pending, is_sequenced, seen, seen_by, with_annotation}
use Rattle.ft_props.specs.Properties.{apply}
use Rattle.ft_props.proofs.CompactedList.{follows-keeps}
use Rattle.ft_op.specs.declared.operations.BaseOp.{BaseOp}
use Rattle.ft_op.specs.declared.operations.BaseOp.TheVariants.{Annotate, Insert, Remove}
use Rattle.ft_op.specs.declared.operations.CellOp.{CellOp}
use Rattle.ft_op.specs.declared.operations.CellOp.TheVariants.{Set, SpliceIn, SpliceOut}
use Rattle.ft_op.specs.declared.operations.Target.{Target}
use Rattle.ft_op.specs.declared.operations.Target.TheVariants.{Cols, Rows}
use Rattle.ft_op.specs.Document.{Document, effect}
use Rattle.ft_op.specs.Operation.{OnGrid, OnIntervals, OnText, SubOperation, segment_contents, sub_operations}
use Rattle.ft_sumdoc.specs.WellFormed.{same_props}
use Rattle.ft_msg.specs.declared.messages.Body.{Body}
use Rattle.ft_msg.specs.declared.messages.Body.TheVariants.{Elsewhere, Nothing, Op}
use Rattle.ft_msg.specs.declared.messages.Entry.{Entry}
use Rattle.ft_msg.specs.Agreed.{reference_number}
use Rattle.ft_msg.specs.Client.{NaiveClient, floor}
use Rattle.ft_msg.specs.ClientSteps.{has_fitting_body}
use Rattle.ft_msg.specs.Compacted.{IsCompacted}
use Rattle.ft_msg.specs.Process.{after_entry, is_op, is_op_kind, is_own, is_own_join, process}
use Rattle.ft_msg.specs.Reached.{IsReached}
use Rattle.ft_laws_agreement.proofs.ClientsAgree.{op-kind}
use Rattle.ft_laws_agreement.proofs.CompactedScans.{Alike, len-kept, seen-alike, seen_by-alike}
use Rattle.ft_laws_agreement.proofs.TrimmedDocument.{HeldNames, Trimmed, effect-trimmed}
use Rattle.ft_laws_compaction.proofs.AllSteps.{reached-sound}
use Rattle.ft_laws_compaction.proofs.ClientFacts.{kept-beside, staying}
use Rattle.ft_laws_compaction.proofs.FloorSteps.{entry-above}
use Rattle.ft_laws_compaction.proofs.Runs.{run-facts}
use Rattle.ft_changes.specs.declared.changes.ViewChange.{ViewChange}
use Rattle.ft_changes.specs.declared.changes.ViewChange.TheVariants.{Put, PutUnits}
use Rattle.ft_changes.specs.Laws.{after_lists}
use Rattle.ft_changes.specs.Shown.{ShownContent, after_changes, shown_content, shown_properties}
use Rattle.ft_changes.specs.ShownRuns.{changed_runs_from, gone_runs_from, place_of_insertion, shown_in_run, with_changed_run, with_gone}
use Rattle.ft_changes.specs.Told.{styled_run, taken_run, taken_units, told_body, told_lists, told_of_entry, told_of_grid, told_of_text, told_rest, told_sub_operation, told_sub_operations, unless_no_elements}
use Rattle.ft_changes.proofs.KeptTells.{in-place-of}
use Rattle.ft_changes.proofs.ToldLaw.{passed, processed}

-- ---- scans of what is kept of a list

none-in-run : (test : ListElement → Bool) (xs : List ListElement) → is_before_pending xs ≡ false → shown_in_run is_pending test xs ≡ 0
none-in-run test [] h = refl
none-in-run test (x ∷ xs) h = ap (λ b. cond b (one_more_if (test x) (shown_in_run is_pending test xs)) 0) h

old-sequenced : (low : ℕ) (t : Stamp) → is_insertion_at_or_below low t ≡ true → not (is_acked t) ≡ false
old-sequenced low (Acked s c) h = refl
old-sequenced low (Local k) h = absurd (cc)

module _ {low : ℕ} {held : ElementId → Bool} (see test : ListElement → Bool) (h : Alike low held see) (g : Alike low held test) where
  run-kept : {ks xs : List ListElement} → Keeps low held ks xs → shown_in_run is_pending test ks ≡ shown_in_run is_pending test xs
  run-kept none = refl
  run-kept (same {e = e} k) = ap (λ n. cond (is_pending e) (one_more_if (test e) n) 0) (run-kept k)
  run-kept (universal {e = e} {xs = xs} f k) = ap (λ b. cond b (one_more_if (test e) (shown_in_run is_pending test xs)) 0) (sym (old-sequenced low
      e.ins f))
  run-kept (collected {e = e} {ks = ks} {xs = xs} c u n k) =
      none-in-run test ks (follows-keeps k n)
      ∙ ap (λ b. cond (not b) (one_more_if (test e) (shown_in_run is_pending test xs)) 0) (sym (both (is_sequenced e) (has_collectable_removal low
      e.dels) c).0)

  place-kept : {ks xs : List ListElement} (p : ℕ) → Keeps low held ks xs → place_of_insertion see is_pending test p ks
      ≡ place_of_insertion see is_pending test p xs
  place-kept zero k = run-kept k
  place-kept (suc p) none = refl
  place-kept (suc p) (same {e = e} k) = ap (one_more_if (test e)) (place-kept (cond (see e) p (suc p)) k)
  place-kept (suc p) (universal {e = e} f k) = rw (h.old e f, g.old e f) (ap (one_more_if (test e)) (place-kept (cond (see e) p (suc p)) k))
  place-kept (suc p) (collected {e = e} c u n k) = rw (h.gone e c u, g.gone e c u) (place-kept (suc p) k)

  module _ (p q : ℕ) where
    gone-kept : {ks xs : List ListElement} (n i : ℕ) → Keeps low held ks xs → gone_runs_from n i see test p q ks ≡ gone_runs_from n i see test p q xs
    gone-kept n i none = refl
    gone-kept n i (same {e = e} k) =
        let goes = see e && within p q n in
        ap (with_gone (test e && goes) i) (gone-kept (one_more_if (see e) n) (one_more_if (test e && not goes) i) k)
    gone-kept n i (universal {e = e} f k) =
        let goes = see e && within p q n in
        rw (h.old e f, g.old e f) (ap (with_gone (test e && goes) i) (gone-kept (one_more_if (see e) n) (one_more_if (test e && not goes) i) k))
    gone-kept n i (collected {e = e} c u m k) = rw (h.gone e c u, g.gone e c u) (gone-kept n i k)

    module _ (changes : Changes) where
      changed-kept : {ks xs : List ListElement} (n i : ℕ) → Keeps low held ks xs
          → changed_runs_from same_props shown_properties (with_annotation changes) n i see test p q ks
          ≡ changed_runs_from same_props shown_properties (with_annotation changes) n i see test p q xs
      changed-kept n i none = refl
      changed-kept n i (same {e = e} k) =
          let d = with_annotation changes e in
          let hit = test e && (see e && within p q n) && not (same_props (shown_properties e) (shown_properties d)) in
          ap (with_changed_run same_props hit i (shown_properties d)) (changed-kept (one_more_if (see e) n) (one_more_if (test e) i) k)
      changed-kept n i (universal {e = e} f k) =
          let d = with_annotation changes e in
          let hit = test e && (see e && within p q n) && not (same_props (shown_properties e) (shown_properties d)) in
          rw (h.old e f, g.old e f) (ap (with_changed_run same_props hit i (shown_properties d)) (changed-kept (one_more_if (see e) n) (one_more_if
          (test e) i) k))
      changed-kept n i (collected {e = e} c u m k) = rw (h.gone e c u, g.gone e c u) (changed-kept n i k)

-- ---- sub-operations

module _ (k c r : ℕ) {low : ℕ} (above : low ≤ r) where
  abbrev see : ListElement → Bool
  see = seen_by r c

  module _ {held : ElementId → Bool} {ks xs : List ListElement} (kept : Keeps low held ks xs) where
    seen-same : Alike low held (seen_by r c)
    seen-same = seen_by-alike low r c held above

    shown-same : Alike low held (seen k)
    shown-same = seen-alike low k held

    abbrev L : ℕ
    L = len (seen_by r c) xs

    count : len (seen_by r c) ks ≡ len (seen_by r c) xs
    count = len-kept (seen_by r c) seen-same kept

    put-told : (A : ℕ → List ViewChange) (p : ℕ) (b : Bool)
        → cond (nat_le p (len see ks) && b) (A (place_of_insertion see is_pending (seen k) p ks)) []
        ≡ cond (nat_le p (len see xs) && b) (A (place_of_insertion see is_pending (seen k) p xs)) []
    put-told A p b =
        ap (λ n. cond (nat_le p n && b) (A (place_of_insertion see is_pending (seen k) p ks)) []) count
        ∙ ap (λ i. cond (nat_le p L && b) (A i) []) (place-kept see (seen k) seen-same shown-same p kept)

  told-text : {held : HeldNames} (kept doc : Document) → Trimmed low held kept doc → (op : BaseOp) → told_of_text k kept c r op
      ≡ told_of_text k doc c r op
  told-text {held} kept doc t (Insert p seg props) =
      let ks = kept.text.items in
      let xs = doc.text.items in
      let put = λ (i : ℕ). unless_no_elements (segment_contents seg) (Put i seg (apply [] props)) in
      ap (λ n. cond (nat_le p n) (put (place_of_insertion see is_pending (seen k) p ks)) []) (count t.text.items)
      ∙ ap (λ i. cond (nat_le p (len see xs)) (put i) []) (place-kept see (seen k) (seen-same t.text.items) (shown-same t.text.items) p t.text.items)
  told-text {held} kept doc t (Remove p q) =
      let ks = kept.text.items in
      let xs = doc.text.items in
      ap (λ n. cond (nat_le q n) (map taken_run (gone_runs_from 0 0 see (seen k) p q ks)) []) (count t.text.items)
      ∙ ap (λ runs. cond (nat_le q (len see xs)) (map taken_run runs) []) (gone-kept see (seen k) (seen-same t.text.items) (shown-same t.text.items)
      p q 0 0 t.text.items)
  told-text {held} kept doc t (Annotate p q changes) =
      let ks = kept.text.items in
      let xs = doc.text.items in
      ap (λ n. cond (nat_le q n) (map styled_run (changed_runs_from same_props shown_properties (with_annotation changes) 0 0 see (seen k) p q ks))
      []) (count t.text.items)
      ∙ ap (λ runs. cond (nat_le q (len see xs)) (map styled_run runs) [])
      (changed-kept see (seen k) (seen-same t.text.items) (shown-same t.text.items) p q changes 0 0 t.text.items)

  told-in : {held : ElementId → Bool} {ks xs : List ListElement} (target : Target) (p count : ℕ) → Keeps low held ks xs
      → cond (nat_le p (len see ks) && not (nat_eq count 0)) (PutUnits target (place_of_insertion see is_pending (seen k) p ks) count ∷ []) []
      ≡ cond (nat_le p (len see xs) && not (nat_eq count 0)) (PutUnits target (place_of_insertion see is_pending (seen k) p xs) count ∷ []) []
  told-in target p number kept = put-told kept (λ i. PutUnits target i number ∷ []) p (not (nat_eq number 0))

  told-out : {held : ElementId → Bool} {ks xs : List ListElement} (target : Target) (p q : ℕ) → Keeps low held ks xs
      → cond (nat_le q (len see ks)) (map (taken_units target) (gone_runs_from 0 0 see (seen k) p q ks)) []
      ≡ cond (nat_le q (len see xs)) (map (taken_units target) (gone_runs_from 0 0 see (seen k) p q xs)) []
  told-out {ks = ks} {xs = xs} target p q kept =
      ap (λ n. cond (nat_le q n) (map (taken_units target) (gone_runs_from 0 0 see (seen k) p q ks)) []) (count kept)
      ∙ ap (λ runs. cond (nat_le q (len see xs)) (map (taken_units target) runs) []) (gone-kept see (seen k) (seen-same kept) (shown-same kept) p q 0
      0 kept)

  told-grid : {held : HeldNames} (kept doc : Document) → Trimmed low held kept doc → (op : CellOp) → told_of_grid k kept c r op
      ≡ told_of_grid k doc c r op
  told-grid kept doc t (SpliceIn Rows p number) = told-in Rows p number t.rows.items
  told-grid kept doc t (SpliceIn Cols p number) = told-in Cols p number t.cols.items
  told-grid kept doc t (SpliceOut Rows p q) = told-out Rows p q t.rows.items
  told-grid kept doc t (SpliceOut Cols p q) = told-out Cols p q t.cols.items
  told-grid kept doc t (Set i j value) = refl

  told-one : {held : HeldNames} (kept doc : Document) → Trimmed low held kept doc → (o : SubOperation) → told_sub_operation k kept c r o
      ≡ told_sub_operation k doc c r o
  told-one kept doc t (OnText op) = told-text kept doc t op
  told-one kept doc t (OnIntervals op) = refl
  told-one kept doc t (OnGrid op) = told-grid kept doc t op

  told-all : {held : HeldNames} (s : ℕ) (os : List SubOperation) (kept doc : Document) → Trimmed low held kept doc
      → told_sub_operations k kept s c r os ≡ told_sub_operations k doc s c r os
  told-all s [] kept doc t = refl
  told-all s (o ∷ os) kept doc t =
      ap (λ cs. cs ++ told_sub_operations k (effect kept s c r o) s c r os) (told-one kept doc t o)
      ∙ ap (λ cs. told_sub_operation k doc c r o ++ cs) (told-all s os (effect kept s c r o) (effect doc s c r o) (effect-trimmed s c r above kept
      doc o t))

told-bodies : {low : ℕ} {held : HeldNames} (k s c r : ℕ) (body : Body) → (is_op body ≡ true → low ≤ r) → (kept doc : Document)
    → Trimmed low held kept doc
    → told_body k kept s c r body ≡ told_body k doc s c r body
told-bodies k s c r (Op op) above kept doc t = told-all k c r (above refl) s (sub_operations op) kept doc t
told-bodies k s c r Nothing above kept doc t = refl
told-bodies k s c r (Elsewhere address) above kept doc t = refl

-- ---- an entry

module _ (kept x y : NaiveClient) (entry : Entry) (reached : IsReached x) (is : IsCompacted kept x) (fits : has_fitting_body entry
    ≡ true) (e : process x entry ≡ Ok y) where
  same-lists : told_lists kept entry ≡ told_lists x entry
  same-lists =
      let r = reference_number entry.msg.ref_seq in
      let beside : Trimmed (floor x) (staying x) kept.doc x.doc = kept-beside x kept.doc (run-facts reached.steps x (reached-sound x reached)) is.doc
      in
      let above : is_op entry.msg.body ≡ true → floor x ≤ r =
      λ op. entry-above x entry (passed x y entry e) (op-kind (is_op_kind entry.msg.kind) entry.msg.body fits op) in
      ap (λ (z : NaiveClient). told_lists z entry) is.rest
      ∙ ap (λ cs. cond (is_own_join x.link entry.msg.kind entry.origin) [] (cond (is_op entry.msg.body && is_own x entry) [] cs))
      (told-bodies x.last_stage entry.msg.seq entry.origin r entry.msg.body above kept.doc x.doc beside)

  same-after-lists : after_lists kept entry ≡ after_lists x entry
  same-after-lists =
      let h = in-place-of kept x y entry reached is fits e in
      ap (after_changes (shown_content kept)) same-lists ∙ ap (λ s. after_changes s (told_lists x entry)) h.shown

  pub kept-tells-the-same : told_of_entry kept entry ≡ told_of_entry x entry
  kept-tells-the-same =
      let h = in-place-of kept x y entry reached is fits e in
      ap (λ cs. cs ++ told_rest (after_lists kept entry) (shown_content (after_entry kept entry))) same-lists
      ∙ ap (λ t. told_lists x entry ++ told_rest t (shown_content (after_entry kept entry))) same-after-lists
      ∙ ap (λ z. told_lists x entry ++ told_rest (after_lists x entry) z) h.after

  -- what holds of what it shows before and after cells and intervals are told does of what this one shows
  pub kept-shows-as : (P : ShownContent → ShownContent → Type 0) → P (after_lists x entry) (shown_content y)
      → P (after_lists kept entry) (shown_content (after_entry kept entry))
  kept-shows-as P h =
      let after = (in-place-of kept x y entry reached is fits e).after ∙ ap shown_content (processed x y entry e) in
      subst (λ t. P t (shown_content (after_entry kept entry))) (sym same-after-lists) (subst (P (after_lists x entry)) (sym after) h)
