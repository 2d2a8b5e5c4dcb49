-- The trimmed form of a consistent document stands beside it as a trimmed one, so both show the same from now on.
use Rattle.std.proofs.Common.{◌≡◌, ℕ, Bool, true, false, cond, not, ◌&&◌, ◌||◌, List, [], ◌∷◌, Option, Some, None, refl, ◌∙◌, ap, subst, arith}
use Rattle.std.specs.List.{list_all}
use Rattle.ft_base.specs.Scan.{retain_map}
use Rattle.ft_base.specs.Visibility.{is_acked}
use Rattle.ft_base.proofs.Booleans.{both}
use Rattle.ft_msg.specs.declared.messages.Entry.{Entry}
use Rattle.ft_props.specs.Element.{ListElement, ElementId, SequencedId, id, has_id, has_sequenced_removal, is_sequenced, is_unremoved}
use Rattle.ft_props.specs.Compaction.{Keeps, KeepsList, none, same, universal, collected, is_before_pending, is_collectable, has_collectable_removal, is_insertion_at_or_below, trim_element, trim_list, with_universal_insertion}
use Rattle.ft_props.specs.Steps.{Sequence}
use Rattle.ft_op.specs.Cells.{is_null}
use Rattle.ft_op.specs.Document.{Document}
use Rattle.ft_op.specs.Intervals.{Interval}
use Rattle.ft_msg.specs.Agreed.{take_entries}
use Rattle.ft_msg.specs.Content.{shown}
use Rattle.ft_msg.specs.Summary.{trim}
use Rattle.ft_laws_agreement.specs.Trimming.{AreFrom, IsConsistent, IsNumbered, has_ends_on, is_end_on, is_numbered_below}
use Rattle.ft_laws_agreement.proofs.CompactedScans.{is_held_end, removed-by, unremoved-alike}
use Rattle.ft_laws_agreement.proofs.HeldNames.{HoldsNames, keeps_name}
use Rattle.ft_laws_agreement.proofs.CellValues.{none-filtered, value-kept}
use Rattle.ft_laws_agreement.proofs.TrimmedDocument.{Trimmed, has_held_ends, is_removed}
use Rattle.ft_laws_agreement.proofs.TrimmedContent.{shown-trimmed, take_entries-trimmed}
use Rattle.ft_laws_agreement.proofs.OwnNames.{all-weaker, any-less, has_named, named-passes, new-named, other-named, own-named}

-- the names of all but elements that are gone
abbrev pub held_but : (ListElement → Bool) → List ListElement → ElementId → Bool
held_but gone xs x = not (has_named gone xs x)

names-held : (gone : ListElement → Bool) (list : Sequence) → IsNumbered list → HoldsNames gone (held_but gone list.items) list
names-held gone list h = record {
  all = other-named gone list.items h.distinct;
  later = λ n l. ap not (any-less (λ e. has_id (SequencedId n) e && gone e) (has_id (SequencedId n)) (λ e k. ap (λ b. b && gone e) k) list.items
      (new-named list.made n list.items h.below l));
}

no_pending : (n : ℕ) (xs : List ListElement) → list_all (is_numbered_below n) xs ≡ true → is_before_pending xs ≡ false
no_pending n [] h = refl
no_pending n (e ∷ xs) h = let p = both (is_numbered_below n e) (list_all (is_numbered_below n) xs) h in ap not (both (is_sequenced e) _ p.0).0

module _ (floor n : ℕ) (held : ElementId → Bool) where
  old-kept : (b : Bool) (e : ListElement) {ks xs : List ListElement} → is_insertion_at_or_below floor e.ins ≡ b → Keeps floor held ks xs
      → Keeps floor held (cond b (with_universal_insertion e) e ∷ ks) (e ∷ xs)
  old-kept true e h k = universal h k
  old-kept false e h k = same k

  one-kept : (b : Bool) (e : ListElement) {ks xs : List ListElement} → is_collectable floor e ≡ b → (is_collectable floor e ≡ true → held (id e) ≡ false)
      → is_before_pending xs ≡ false → Keeps floor held ks xs
      → Keeps floor held (cond (not b) (trim_element floor e ∷ ks) ks) (e ∷ xs)
  one-kept true e h u f k = collected h (u h) f k
  one-kept false e h u f k = old-kept (is_insertion_at_or_below floor e.ins) e refl k

  implied : (a b : Bool) → not a || not b ≡ true → a ≡ true → b ≡ false
  implied true true h k = (cc)
  implied true false h k = refl
  implied false b h k = (cc)

  keeps-trimmed : (xs : List ListElement) → list_all (is_numbered_below n) xs ≡ true → list_all (λ e. not (is_collectable floor e) || not (held (id e))) xs ≡ true
      → Keeps floor held (retain_map (λ e. not (is_collectable floor e)) (trim_element floor) xs) xs
  keeps-trimmed [] h k = none
  keeps-trimmed (e ∷ xs) h k =
      let p = both (is_numbered_below n e) (list_all (is_numbered_below n) xs) h in
      let q = both (not (is_collectable floor e) || not (held (id e))) (list_all (λ d. not (is_collectable floor d) || not (held (id d))) xs) k in
      one-kept (is_collectable floor e) e refl (implied (is_collectable floor e) (held (id e)) q.0) (no_pending n xs p.1) (keeps-trimmed xs p.1 q.1)

twice : (b : Bool) → not (not b) ≡ b
twice true = refl
twice false = refl

-- a trimmed list keeps the whole one, where what is collectable is gone
list-trimmed : (floor : ℕ) (gone : ListElement → Bool) → ((e : ListElement) → is_collectable floor e ≡ true → gone e ≡ true) → (list : Sequence) → IsNumbered list
    → KeepsList floor (held_but gone list.items) (trim_list floor list) list
list-trimmed floor gone more list h = record {
  items = keeps-trimmed floor list.made (held_but gone list.items) list.items h.below
      (all-weaker (λ e. not (gone e) || has_named gone list.items (id e)) (λ e. not (is_collectable floor e) || not (held_but gone list.items (id e)))
      (λ e k. weaker e (is_collectable floor e) (gone e) (has_named gone list.items (id e)) (more e) k) list.items (own-named gone list.items));
  made = refl;
}
  where
    weaker : (e : ListElement) (a b c : Bool) → (a ≡ true → b ≡ true) → not b || c ≡ true → not a || not (not c) ≡ true
    weaker e false b c f h = refl
    weaker e true true c f h = twice c ∙ h
    weaker e true false c f h = cc (f refl)

pub collectable-removed : (floor : ℕ) (e : ListElement) → is_collectable floor e ≡ true → is_removed e ≡ true
collectable-removed floor e h = removed-by floor is_acked (λ s c. refl) e.dels (both (is_acked e.ins) (has_collectable_removal floor e.dels) h).1

pub ends-held : (floor : ℕ) (xs : List ListElement) → list_all (keeps_name (is_collectable floor) (held_but (is_collectable floor) xs)) xs ≡ true
    → (is : List Interval) → list_all (has_ends_on xs) is ≡ true
    → list_all (has_held_ends (held_but (is_collectable floor) xs)) is ≡ true
ends-held floor xs names is h =
    all-weaker (has_ends_on xs) (has_held_ends held) (λ i k. let p = both (is_end_on xs i.start) (is_end_on xs i.end) k in rw (end-held i.start p.0, end-held i.end p.1) refl) is h
  where
    held : ElementId → Bool
    held x = not (has_named (is_collectable floor) xs x)

    stays : (e : ListElement) → is_collectable floor e || not (has_named (is_collectable floor) xs (id e)) ≡ true → is_unremoved e ≡ true
        → not (has_named (is_collectable floor) xs (id e)) ≡ true
    stays e k u = step (is_collectable floor e) refl k
      where
        step : (b : Bool) → is_collectable floor e ≡ b → b || not (has_named (is_collectable floor) xs (id e)) ≡ true → not (has_named (is_collectable floor) xs (id e)) ≡ true
        step true g k = cc (u, (unremoved-alike floor (λ _. false)).gone e g refl)
        step false g k = k

    end-held : (x : Option ElementId) → is_end_on xs x ≡ true → is_held_end (held_but (is_collectable floor) xs) x ≡ true
    end-held None k = refl
    end-held (Some x) k =
        named-passes is_unremoved (keeps_name (is_collectable floor) (held_but (is_collectable floor) xs)) (held_but (is_collectable floor) xs) stays x xs names k

three : (a b c : Bool) → a ≡ true → b ≡ true → c ≡ true → a && b && c ≡ true
three a b c p q r = rw (p, q, r) refl

-- the trimmed form beside the document
pub trim-trimmed : (doc : Document) → IsConsistent doc
    → Trimmed doc.minimum (record {
      text = held_but (is_collectable doc.minimum) doc.text.items;
      rows = held_but is_removed doc.rows.items;
      cols = held_but
          is_removed doc.cols.items;
    }) (trim doc) doc
trim-trimmed doc h = record {
  text = list-trimmed doc.minimum (is_collectable doc.minimum) (λ e k. k) doc.text h.text;
  rows = list-trimmed doc.minimum is_removed (collectable-removed doc.minimum) doc.rows h.rows;
  cols = list-trimmed doc.minimum is_removed (collectable-removed doc.minimum) doc.cols h.cols;
  text_names = names-held (is_collectable doc.minimum) doc.text h.text;
  row_names = names-held is_removed doc.rows h.rows;
  col_names = names-held is_removed doc.cols h.cols;
  ends = ends-held doc.minimum doc.text.items (names-held (is_collectable doc.minimum) doc.text h.text).all doc.intervals h.ends;
  cells = λ row col a b. value-kept row col (λ c. not (is_null c.value) && not (has_sequenced_removal doc.rows.items c.row)
      && not (has_sequenced_removal doc.cols.items c.col)) doc.cells h.cells
      (λ c v p q. three (not (is_null c.value)) (not (has_sequenced_removal doc.rows.items c.row)) (not (has_sequenced_removal doc.cols.items c.col)) v
      (subst (λ i. not (has_sequenced_removal doc.rows.items i) ≡ true) p a) (subst (λ i. not (has_sequenced_removal doc.cols.items i) ≡ true) q b));
  unwritten = λ row col e. none-filtered row col (λ c. not (is_null c.value) && not (has_sequenced_removal doc.rows.items c.row)
      && not (has_sequenced_removal doc.cols.items c.col)) doc.cells e;
  rest = refl;
}

-- a consistent document and its trimmed form show the same after further messages
pub trim-shows : (doc : Document) (entries : List Entry) → IsConsistent doc → AreFrom doc.minimum entries → shown (take_entries (trim doc) entries)
    ≡ shown (take_entries doc entries)
trim-shows doc entries h k = shown-trimmed doc.minimum _ _ _ (take_entries-trimmed doc.minimum entries (trim doc) doc (omega arith) k (trim-trimmed doc h))
