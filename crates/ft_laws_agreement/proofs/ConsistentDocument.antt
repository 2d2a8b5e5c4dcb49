-- The document of messages alone is consistent, and so is its trimmed form.
use Rattle.std.proofs.Common.{◌≡◌, ℕ, zero, suc, Bool, true, false, cond, not, ◌&&◌, ◌||◌, List, [], ◌∷◌, ◌++◌, Option, Some, None, refl, sym, ◌∙◌, ap, arith, filter, nat_le, nat_lt, replicate}
use Rattle.std.specs.List.{list_all, list_any}
use Rattle.ft_base.specs.declared.stamps.Stamp.TheVariants.{Acked}
use Rattle.ft_base.specs.Scan.{at, len, one_more_if, within, change_range, change_range_from, put, put_past, retain_map}
use Rattle.ft_base.proofs.Booleans.{both}
use Rattle.ft_op.specs.declared.operations.BaseOp.{BaseOp}
use Rattle.ft_op.specs.declared.operations.BaseOp.TheVariants.{Insert, Remove, Annotate}
use Rattle.ft_op.specs.declared.operations.TextOp.{TextOp}
use Rattle.ft_op.specs.declared.operations.CellOp.{CellOp}
use Rattle.ft_op.specs.declared.operations.CellOp.TheVariants.{SpliceIn, SpliceOut, Set}
use Rattle.ft_op.specs.declared.operations.Target.TheVariants.{Rows, Cols}
use Rattle.ft_msg.specs.declared.messages.Entry.{Entry}
use Rattle.ft_msg.specs.declared.messages.Body.{Body}
use Rattle.ft_msg.specs.declared.messages.Body.TheVariants.{Nothing, Op, Elsewhere}
use Rattle.ft_props.specs.Properties.{ValueBytes, apply}
use Rattle.ft_props.specs.Element.{ListElement, ElementId, GridUnit, id, has_id, seen_by, is_pending, is_sequenced, is_unremoved, new_elements, with_removal, with_annotation}
use Rattle.ft_props.specs.Compaction.{is_collectable, is_insertion_at_or_below, trim_element, trim_list, with_universal_insertion}
use Rattle.ft_props.specs.Slide.{slide}
use Rattle.ft_props.specs.Steps.{Sequence, after_insertion, after_removal}
use Rattle.ft_op.specs.Operation.{SubOperation, OnText, OnIntervals, OnGrid, segment_contents, sub_operations}
use Rattle.ft_op.specs.Intervals.{Interval, after_interval_operation, slide_ends}
use Rattle.ft_op.specs.Cells.{Cell}
use Rattle.ft_op.specs.Document.{Document, empty, with_skip, with_slid_ends, text_effect, interval_effect, grid_effect, cell_effect, effect, effects, ends_of, elements_at_given_ends}
use Rattle.ft_msg.specs.Agreed.{agreed, body_effect, reference_number, take_entries, take_entry}
use Rattle.ft_msg.specs.Summary.{trim}
use Rattle.ft_laws_agreement.specs.Trimming.{IsConsistent, IsNumbered, has_ends_on, has_value, is_end_on, is_numbered_below}
use Rattle.ft_laws_agreement.proofs.CompactedScans.{is_held_end, id-universal, unremoved-alike}
use Rattle.ft_laws_agreement.proofs.HeldNames.{settled-held}
use Rattle.ft_laws_agreement.proofs.CellValues.{write-values}
use Rattle.ft_laws_agreement.proofs.OwnNames.{all-weaker, has_named, insertion-numbered, own-named, range-numbered, retain_map-numbered}
use Rattle.ft_laws_agreement.proofs.Booleans.{hidden}

-- ---- ends on unremoved elements

-- an end is on an unremoved element where its name is held by one
on_held : (xs : List ListElement) (x : Option ElementId) → is_held_end (has_named is_unremoved xs) x ≡ is_end_on xs x
on_held xs None = refl
on_held xs (Some x) = refl

-- an end that slid is on an unremoved element
slide-on : (xs : List ListElement) (x : Option ElementId) → is_end_on xs (slide xs x) ≡ true
slide-on xs None = refl
slide-on xs (Some x) =
    sym (on_held xs (slide xs (Some x)))
    ∙ settled-held (λ e. not (is_unremoved e)) (has_named is_unremoved xs) is_unremoved (λ e h. hidden (is_unremoved e) h) (λ e. is_sequenced e && has_id x e)
    None xs refl (own-named is_unremoved xs)

slide_ends-on : (xs : List ListElement) (is : List Interval) → list_all (has_ends_on xs) (slide_ends xs is) ≡ true
slide_ends-on xs [] = refl
slide_ends-on xs (i ∷ is) = rw (slide-on xs i.start, slide-on xs i.end, slide_ends-on xs is) refl

-- ends stay on their elements where each unremoved one stays
module _ (xs ys : List ListElement) (h : (x : ElementId) → has_named is_unremoved xs x ≡ true → has_named is_unremoved ys x ≡ true) where
  end-stays : (x : Option ElementId) → is_end_on xs x ≡ true → is_end_on ys x ≡ true
  end-stays None k = refl
  end-stays (Some x) k = h x k

  ends-stay : (is : List Interval) → list_all (has_ends_on xs) is ≡ true → list_all (has_ends_on ys) is ≡ true
  ends-stay is k =
      all-weaker (has_ends_on xs) (has_ends_on ys) (λ i l. let p = both (is_end_on xs i.start) (is_end_on xs i.end) l in rw (end-stays i.start p.0, end-stays i.end p.1) refl) is k

module _ {A : Type 0} (P : A → Bool) where
  any-right : (xs ys : List A) → list_any P ys ≡ true → list_any P (xs ++ ys) ≡ true
  any-right [] ys h = h
  any-right (x ∷ xs) ys h = grind (arith, any-right xs ys)

  any-past-stays : (past : A → Bool) (new xs : List A) → list_any P xs ≡ true → list_any P (put_past past new xs) ≡ true
  any-past-stays past new [] h = (cc)
  any-past-stays past new (x ∷ xs) h = grind (arith, any-past-stays past new xs, any-right new (x ∷ xs))

  pub any-put-stays : (seen past : A → Bool) (p : ℕ) (new xs : List A) → list_any P xs ≡ true → list_any P (put seen past p new xs) ≡ true
  any-put-stays seen past zero new xs h = any-past-stays past new xs h
  any-put-stays seen past (suc p) new [] h = (cc)
  any-put-stays seen past (suc p) new (x ∷ xs) h = step (P x) h (any-put-stays seen past (cond (seen x) p (suc p)) new xs)
    where
      step : (b : Bool) → b || list_any P xs ≡ true → (list_any P xs ≡ true → list_any P (put seen past (cond (seen x) p (suc p)) new xs) ≡ true) → b
          || list_any P (put seen past (cond (seen x) p (suc p)) new xs) ≡ true
      step true k g = refl
      step false k g = g k

  any-range-stays : (test : A → Bool) (f : A → A) → ((x : A) → P (f x) ≡ P x) → (i p q : ℕ) (xs : List A) → list_any P (change_range_from i test p q f xs) ≡ list_any P xs
  any-range-stays test f h i p q [] = refl
  any-range-stays test f h i p q (x ∷ xs) = rw (changed (test x && within p q i), any-range-stays test f h (one_more_if (test x) i) p q xs) refl
    where
      changed : (b : Bool) → P (cond b (f x) x) ≡ P x
      changed true = h x
      changed false = refl

-- ---- each part of a document

by_choice : (b : Bool) (x y : Document) → IsConsistent x → IsConsistent y → IsConsistent (cond b x y)
by_choice true x y p q = p
by_choice false x y p q = q

skip-consistent : (doc : Document) → IsConsistent doc → IsConsistent (with_skip doc)
skip-consistent doc h = record { text = h.text; rows = h.rows; cols = h.cols; ends = h.ends; cells = h.cells }

removal-numbered : (s c r p q : ℕ) (list : Sequence) → IsNumbered list → IsNumbered (after_removal s c r p q list)
removal-numbered s c r p q list h = range-numbered (seen_by r c) (with_removal s c) (λ e. refl) (λ e. refl) (λ e. refl) p q list h

text_effect-consistent : (doc : Document) (s c r : ℕ) (op : BaseOp) → IsConsistent doc → IsConsistent (text_effect doc s c r op)
text_effect-consistent doc s c r (Insert p seg props) h =
    let new = after_insertion s c r p (Some (Acked s c)) (apply [] props) (segment_contents seg) doc.text in
    by_choice (nat_le p (len (seen_by r c) doc.text.items)) (record doc { text = new }) (with_skip doc)
    (record {
      text = insertion-numbered s c r p (Some (Acked s c)) (apply [] props) (segment_contents seg) doc.text h.text;
      rows = h.rows;
      cols = h.cols;
      ends = ends-stay doc.text.items new.items (λ x k. any-put-stays (λ e. has_id x e && is_unremoved e) (seen_by r c) is_pending p
          (new_elements doc.text.made (Acked s c) [] (Some (Acked s c)) (apply [] props) (segment_contents seg)) doc.text.items k) doc.intervals h.ends;
      cells = h.cells;
    })
    (skip-consistent doc h)
text_effect-consistent doc s c r (Remove p q) h =
    let new = after_removal s c r p q doc.text in
    by_choice (nat_le q (len (seen_by r c) doc.text.items)) (with_slid_ends (record doc { text = new })) (with_skip doc)
    (record { text = removal-numbered s c r p q doc.text h.text; rows = h.rows; cols = h.cols; ends = slide_ends-on new.items doc.intervals; cells = h.cells })
    (skip-consistent doc h)
text_effect-consistent doc s c r (Annotate p q changes) h =
    let items = change_range (seen_by r c) p q (with_annotation changes) doc.text.items in
    by_choice (nat_le q (len (seen_by r c) doc.text.items)) (record doc { text = record { items = items; made = doc.text.made } }) (with_skip doc)
    (record {
      text = range-numbered (seen_by r c) (with_annotation changes) (λ e. refl) (λ e. refl) (λ e. refl) p q doc.text h.text;
      rows = h.rows;
      cols = h.cols;
      ends = ends-stay doc.text.items items (λ x k. any-range-stays (λ e. has_id x e && is_unremoved e) (seen_by r c) (with_annotation changes) (λ e. refl) 0 p
          q doc.text.items ∙ k) doc.intervals h.ends;
      cells = h.cells;
    })
    (skip-consistent doc h)

interval_effect-consistent : (doc : Document) (c r : ℕ) (op : TextOp) → IsConsistent doc → IsConsistent (interval_effect doc c r op)
interval_effect-consistent doc c r op h =
    by_choice _ _ (with_skip doc)
    (record {
      text = h.text;
      rows = h.rows;
      cols = h.cols;
      ends = slide_ends-on doc.text.items
          (after_interval_operation op (elements_at_given_ends (seen_by r c) doc.text.items (ends_of op)) doc.intervals);
      cells = h.cells;
    })
    (skip-consistent doc h)

pub cell_effect-consistent : (doc : Document) (row col : Option ListElement) (value : ValueBytes) → IsConsistent doc → IsConsistent (cell_effect doc row col value)
cell_effect-consistent doc (Some row) (Some col) value h =
    record { text = h.text; rows = h.rows; cols = h.cols; ends = h.ends; cells = write-values (record { row = id row; col = id col; value = value }) doc.cells h.cells }
cell_effect-consistent doc None col value h = skip-consistent doc h
cell_effect-consistent doc (Some row) None value h = skip-consistent doc h

grid_effect-consistent : (doc : Document) (s c r : ℕ) (op : CellOp) → IsConsistent doc → IsConsistent (grid_effect doc s c r op)
grid_effect-consistent doc s c r (SpliceIn Rows p count) h =
    by_choice (nat_le p (len (seen_by r c) doc.rows.items)) _ (with_skip doc)
    (record {
      text = h.text;
      rows = insertion-numbered s c r p None [] (replicate count GridUnit) doc.rows h.rows;
      cols = h.cols;
      ends = h.ends;
      cells =
          h.cells;
    }) (skip-consistent doc h)
grid_effect-consistent doc s c r (SpliceIn Cols p count) h =
    by_choice (nat_le p (len (seen_by r c) doc.cols.items)) _ (with_skip doc)
    (record {
      text = h.text;
      rows = h.rows;
      cols = insertion-numbered s c r p None [] (replicate count GridUnit) doc.cols h.cols;
      ends = h.ends;
      cells =
          h.cells;
    }) (skip-consistent doc h)
grid_effect-consistent doc s c r (SpliceOut Rows p q) h =
    by_choice (nat_le q (len (seen_by r c) doc.rows.items)) _ (with_skip doc)
    (record { text = h.text; rows = removal-numbered s c r p q doc.rows h.rows; cols = h.cols; ends = h.ends; cells = h.cells }) (skip-consistent doc h)
grid_effect-consistent doc s c r (SpliceOut Cols p q) h =
    by_choice (nat_le q (len (seen_by r c) doc.cols.items)) _ (with_skip doc)
    (record { text = h.text; rows = h.rows; cols = removal-numbered s c r p q doc.cols h.cols; ends = h.ends; cells = h.cells }) (skip-consistent doc h)
grid_effect-consistent doc s c r (Set i j value) h = cell_effect-consistent doc (at (seen_by r c) i doc.rows.items) (at (seen_by r c) j doc.cols.items) value h

pub effect-consistent : (doc : Document) (s c r : ℕ) (o : SubOperation) → IsConsistent doc → IsConsistent (effect doc s c r o)
effect-consistent doc s c r (OnText op) h = text_effect-consistent doc s c r op h
effect-consistent doc s c r (OnIntervals op) h = interval_effect-consistent doc c r op h
effect-consistent doc s c r (OnGrid op) h = grid_effect-consistent doc s c r op h

pub effects-consistent : (doc : Document) (s c r : ℕ) (os : List SubOperation) → IsConsistent doc → IsConsistent (effects doc s c r os)
effects-consistent doc s c r [] h = h
effects-consistent doc s c r (o ∷ os) h = effects-consistent (effect doc s c r o) s c r os (effect-consistent doc s c r o h)

body_effect-consistent : (doc : Document) (s c r : ℕ) (body : Body) → IsConsistent doc → IsConsistent (body_effect doc s c r body)
body_effect-consistent doc s c r Nothing h = h
body_effect-consistent doc s c r (Op op) h = effects-consistent doc s c r (sub_operations op) h
body_effect-consistent doc s c r (Elsewhere address) h = record { text = h.text; rows = h.rows; cols = h.cols; ends = h.ends; cells = h.cells }

-- a message keeps a document consistent
pub take_entry-consistent : (doc : Document) (entry : Entry) → IsConsistent doc → IsConsistent (take_entry doc entry)
take_entry-consistent doc entry h =
    let k = body_effect-consistent doc entry.msg.seq entry.origin (reference_number entry.msg.ref_seq) entry.msg.body h in
    record { text = k.text; rows = k.rows; cols = k.cols; ends = k.ends; cells = k.cells }

pub take_entries-consistent : (doc : Document) (entries : List Entry) → IsConsistent doc → IsConsistent (take_entries doc entries)
take_entries-consistent doc [] h = h
take_entries-consistent doc (entry ∷ entries) h = take_entries-consistent (take_entry doc entry) entries (take_entry-consistent doc entry h)

-- so the document of messages alone is
pub agreed-consistent : (entries : List Entry) → IsConsistent (agreed entries)
agreed-consistent entries =
    take_entries-consistent empty entries
    (record {
      text = record { below = refl; distinct = refl };
      rows = record { below = refl; distinct = refl };
      cols = record
          { below = refl; distinct = refl };
      ends = refl;
      cells = refl;
    })

-- ---- the trimmed form

trimmed-id : (floor : ℕ) (e : ListElement) → id (trim_element floor e) ≡ id e
trimmed-id floor e = step (is_insertion_at_or_below floor e.ins) refl
  where
    step : (b : Bool) → is_insertion_at_or_below floor e.ins ≡ b → id (cond b (with_universal_insertion e) e) ≡ id e
    step true h = id-universal floor e h
    step false h = refl

trimmed-below : (floor n : ℕ) (e : ListElement) → is_numbered_below n e ≡ true → is_numbered_below n (trim_element floor e) ≡ true
trimmed-below floor n e h = step (is_insertion_at_or_below floor e.ins)
  where
    step : (b : Bool) → is_numbered_below n (cond b (with_universal_insertion e) e) ≡ true
    step true = (both (is_sequenced e) (nat_lt e.nth n) h).1
    step false = h

trim_list-numbered : (floor : ℕ) (list : Sequence) → IsNumbered list → IsNumbered (trim_list floor list)
trim_list-numbered floor list h = retain_map-numbered (λ e. not (is_collectable floor e)) (trim_element floor) (trimmed-id floor) list.made
    (trimmed-below floor list.made) list refl h

-- each unremoved element is kept
trimmed-named : (floor : ℕ) (x : ElementId) (xs : List ListElement) → has_named is_unremoved xs x ≡ true
    → has_named is_unremoved (retain_map (λ e. not (is_collectable floor e)) (trim_element floor) xs) x ≡ true
trimmed-named floor x [] h = (cc)
trimmed-named floor x (y ∷ xs) h =
    let rest = retain_map (λ e. not (is_collectable floor e)) (trim_element floor) xs in
    step (is_collectable floor y) (is_unremoved y) refl refl h (trimmed-named floor x xs)
  where
    rest : List ListElement
    rest = retain_map (λ e. not (is_collectable floor e)) (trim_element floor) xs

    trimmed-unremoved : is_unremoved y ≡ true → is_unremoved (trim_element floor y) ≡ true
    trimmed-unremoved u = chosen (is_insertion_at_or_below floor y.ins) refl
      where
        chosen : (b : Bool) → is_insertion_at_or_below floor y.ins ≡ b → is_unremoved (cond b (with_universal_insertion y) y) ≡ true
        chosen true e = (unremoved-alike floor (λ _. false)).old y e ∙ u
        chosen false e = u

    never : (b : Bool) → b && false ≡ false
    never true = refl
    never false = refl

    kept : (a b : Bool) → (b ≡ true → is_unremoved (trim_element floor y) ≡ true) → (a && b) || has_named is_unremoved xs x ≡ true
        → (has_named is_unremoved xs x ≡ true → list_any (λ e. has_id x e && is_unremoved e) (retain_map (λ e. not (is_collectable floor e)) (trim_element floor) xs) ≡ true)
        → (a && is_unremoved (trim_element floor y)) || list_any (λ e. has_id x e && is_unremoved e) (retain_map (λ e. not (is_collectable floor e)) (trim_element floor) xs) ≡ true
    kept true true u k g = rw (u refl) refl
    kept true false u k g = or_later (is_unremoved (trim_element floor y)) _ (g k)
      where
        or_later : (a b : Bool) → b ≡ true → a || b ≡ true
        or_later true b h = refl
        or_later false b h = h
    kept false b u k g = g k

    step : (a b : Bool) → is_collectable floor y ≡ a → is_unremoved y ≡ b → has_named is_unremoved (y ∷ xs) x ≡ true
        → (has_named is_unremoved xs x ≡ true → has_named is_unremoved (retain_map (λ e. not (is_collectable floor e)) (trim_element floor) xs) x ≡ true)
        → has_named is_unremoved (cond (not a) (trim_element floor y ∷ retain_map (λ e. not (is_collectable floor e)) (trim_element floor) xs)
        (retain_map (λ e. not (is_collectable floor e)) (trim_element floor) xs)) x ≡ true
    step true true a b k g = cc (b, (unremoved-alike floor (λ _. false)).gone y a refl)
    step true false a b k g = g (rw (b, never (has_id x y)) at k)
    step false b e f k g = rw (ap (λ i. i) (trimmed-id floor y)) (kept (has_id x y) (is_unremoved y) trimmed-unremoved k g)

filter-values : (keep : Cell → Bool) (cells : List Cell) → list_all has_value cells ≡ true → list_all has_value (filter keep cells) ≡ true
filter-values keep [] h = refl
filter-values keep (c ∷ cells) h = grind (arith, filter-values keep cells)

pub trim-consistent : (doc : Document) → IsConsistent doc → IsConsistent (trim doc)
trim-consistent doc h = record {
  text = trim_list-numbered doc.minimum doc.text h.text;
  rows = trim_list-numbered doc.minimum doc.rows h.rows;
  cols = trim_list-numbered doc.minimum doc.cols h.cols;
  ends = ends-stay doc.text.items (trim doc).text.items (λ x k. trimmed-named doc.minimum x doc.text.items k) doc.intervals h.ends;
  cells = filter-values _ doc.cells h.cells;
}
