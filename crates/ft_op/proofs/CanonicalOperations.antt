-- The value that a well-formed operation is written as is canonical: its keys rise, its numbers are whole, its texts are UTF-8.
use Rattle.std.proofs.Common.{◌≡◌, ℕ, ◌≤◌, ◌^◌, ◌-◌, ℤ, pos, negsuc, true, not, List, [], ◌∷◌, Option, Some, None, option_map, codes, encode_utf8_all, refl, ◌∙◌, nat_lt, nat_le, arith, ltb-true, lt-ltb, leb-true}
use Rattle.std.specs.Prelude.{IsTrue, int_lt, nat_eq}
use Rattle.std.proofs.lemmas.Bool.{eqb-true}
use Rattle.std.proofs.lemmas.Bool.Decides.{nat_tests}
use Rattle.std.specs.List.{AllByRecursion}
use Rattle.json.proofs.Printed.Utf8.{are_ascii, IsUtf8-are_ascii}
use Rattle.serde_json.specs.Data.{Data, string, array, object, Items}
use Rattle.ft_base.proofs.Booleans.{both}
use Rattle.ft_json.specs.Canonical.{IsCanonical, ItemsAreCanonical, MembersAreCanonical, IsBefore, IsTextWithin, value_of}
use Rattle.ft_json.proofs.Back.{StandsFor-IsTextWithin}
use Rattle.ft_json.proofs.KeyOrder.{slice_cmp-encodes}
use Rattle.ft_props.specs.Keys.{Characters, IsBeforeKeys, KeysRise}
use Rattle.ft_props.specs.Properties.{PropertySet, ValueBytes}
use Rattle.ft_props.specs.declared.properties.Adjust.{Adjust}
use Rattle.ft_props.specs.declared.properties.Changes.{Changes}
use Rattle.ft_op.specs.declared.operations.Seg.{Seg}
use Rattle.ft_op.specs.declared.operations.Seg.TheVariants.{Chars, Marker}
use Rattle.ft_op.specs.declared.operations.BaseOp.{BaseOp}
use Rattle.ft_op.specs.declared.operations.BaseOp.TheVariants.{Insert, Remove, Annotate}
use Rattle.ft_op.specs.declared.operations.Ends.{Ends}
use Rattle.ft_op.specs.declared.operations.TextOp.{TextOp}
use Rattle.ft_op.specs.declared.operations.TextOp.TheVariants.{One, Group, IntervalAdd, IntervalChange, IntervalDelete}
use Rattle.ft_op.specs.declared.operations.Target.{Target}
use Rattle.ft_op.specs.declared.operations.Target.TheVariants.{Rows, Cols}
use Rattle.ft_op.specs.declared.operations.CellOp.{CellOp}
use Rattle.ft_op.specs.declared.operations.CellOp.TheVariants.{SpliceIn, SpliceOut, Set}
use Rattle.ft_op.specs.declared.operations.GridOp.{GridOp}
use Rattle.ft_op.specs.declared.operations.GridOp.TheVariants as grid
use Rattle.ft_op.specs.declared.operations.ChannelOp.{ChannelOp}
use Rattle.ft_op.specs.declared.operations.ChannelOp.TheVariants.{Text, Grid}
use Rattle.ft_op.specs.Representable.{IsText, IsKeyed, KeysAreTexts, IsRepresentable, IsRepresentableBase, IsRepresentableSegment, IsRepresentableText}
use Rattle.ft_op.specs.WellFormed.{is_count, is_range, is_safe, is_safe_bound, are_ends, is_segment, IsAdjustment, AreAdjustments, IsPropertySet, IsSetValue, IsWellFormed, IsWellFormedBase, IsWellFormedCell, IsWellFormedNewEnds, IsWellFormedGrid, IsWellFormedText}
use Rattle.ft_op.proofs.WrittenFields.{fields, canonical_fields, IsCanonicalIfGiven}
use Rattle.ft_op.specs.Written.{given_adjust, given_end, given_set, given_start, written, written_adjustment, written_base, written_cell, written_characters, written_count, written_grid_op, written_group, written_interval, written_items, written_number, written_pairs, written_segment, written_set, written_target, written_text, written_text_op, written_value}

-- ---- the fields of each form

abbrev F : Type 0
F = List (List ℕ × Option Data)

abbrev pub adjustment_fields : Adjust → F
adjustment_fields a =
    (codes "delta", Some (written_number a.delta))
    ∷ (codes "max", option_map written_number a.max)
    ∷ (codes "min", option_map written_number a.min)
    ∷ []

abbrev pub characters_fields : Characters → Data → F
characters_fields text props = (codes "props", Some props) ∷ (codes "text", Some (written_text text)) ∷ []

abbrev pub ref_type_fields : ℕ → F
ref_type_fields n = (codes "refType", Some (written_count n)) ∷ []

abbrev pub marker_fields : ℕ → PropertySet → F
marker_fields n set = (codes "marker", Some (object (fields (ref_type_fields n)))) ∷ (codes "props", given_set set) ∷ []

abbrev pub insertion_fields : ℕ → Seg → PropertySet → F
insertion_fields p seg set = (codes "pos1", Some (written_count p)) ∷ (codes "seg", Some (written_segment seg set)) ∷ (codes "type", Some (written_count 0)) ∷ []

abbrev pub removal_fields : ℕ → ℕ → F
removal_fields p q = (codes "pos1", Some (written_count p)) ∷ (codes "pos2", Some (written_count q)) ∷ (codes "type", Some (written_count 1)) ∷ []

abbrev pub annotation_fields : ℕ → ℕ → Changes → F
annotation_fields p q changes =
    (codes "adjust", given_adjust changes.adjust)
    ∷ (codes "pos1", Some (written_count p))
    ∷ (codes "pos2", Some (written_count q))
    ∷ (codes "props", Some (written_set changes.props))
    ∷ (codes "type", Some (written_count 2))
    ∷ []

abbrev pub interval_fields : List ℕ → Characters → Characters → Option Ends → PropertySet → F
interval_fields word label id ends set =
    (codes "end", given_end ends)
    ∷ (codes "id", Some (written_text id))
    ∷ (codes "interval", Some (string word))
    ∷ (codes "label", Some (written_text label))
    ∷ (codes "props", given_set set)
    ∷ (codes "start", given_start ends)
    ∷ []

abbrev pub group_fields : Items → F
group_fields ops = (codes "ops", Some (array ops)) ∷ (codes "type", Some (written_count 3)) ∷ []

abbrev pub splice_in_fields : Target → ℕ → ℕ → F
splice_in_fields list p n =
    (codes "count", Some (written_count n))
    ∷ (codes "pos1", Some (written_count p))
    ∷ (codes "target", Some (written_target list))
    ∷ (codes "type", Some (written_count 0))
    ∷ []

abbrev pub splice_out_fields : Target → ℕ → ℕ → F
splice_out_fields list p q =
    (codes "pos1", Some (written_count p))
    ∷ (codes "pos2", Some (written_count q))
    ∷ (codes "target", Some (written_target list))
    ∷ (codes "type", Some (written_count 1))
    ∷ []

abbrev pub set_fields : ℕ → ℕ → ValueBytes → F
set_fields i j v =
    (codes "col", Some (written_count j))
    ∷ (codes "row", Some (written_count i))
    ∷ (codes "type", Some (string (codes "set")))
    ∷ (codes "value", Some (value_of v))
    ∷ []

-- ---- numbers and texts

pub canonical_count : (n : ℕ) → IsTrue (is_count n) → IsCanonical (written_count n)
canonical_count n h = lt-ltb n (2 ^ 64) (omega (arith, ltb-true n (2 ^ 53) h))

range_counts : (p q : ℕ) → IsTrue (is_range p q) → IsTrue (is_count p) × IsTrue (is_count q)
range_counts p q h =
    let parts = both (nat_le p q) (is_count q) h in
    let order = leb-true p q parts.0 in
    let last = ltb-true q (2 ^ 53) parts.1 in
    (lt-ltb p (2 ^ 53) (omega arith), parts.1)

not_below : (m n : ℕ) → not (nat_lt m n) ≡ true → n ≤ m
not_below m n h = grind (arith, nat_tests)

pub canonical_number : (z : ℤ) → IsTrue (is_safe z) → IsCanonical (written_number z)
canonical_number (pos n) h =
    let parts = both (not (int_lt (pos n) (negsuc (2 ^ 53 - 2)))) (not (int_lt (pos (2 ^ 53 - 1)) (pos n))) h in
    lt-ltb n (2 ^ 64) (omega (arith, not_below (2 ^ 53 - 1) n parts.1))
canonical_number (negsuc n) h =
    let parts = both (not (int_lt (negsuc n) (negsuc (2 ^ 53 - 2)))) (not (int_lt (pos (2 ^ 53 - 1)) (negsuc n))) h in
    lt-ltb n (2 ^ 63) (omega (arith, not_below (2 ^ 53 - 2) n parts.0))

pub canonical_text : (text : Characters) → IsText text → IsCanonical (written_text text)
canonical_text text h = (text, (h, refl))

pub canonical_word : (word : List ℕ) → are_ascii word ≡ true → IsCanonical (string word)
canonical_word word h = IsUtf8-are_ascii word h

pub canonical_value_of : (v : ValueBytes) → IsTextWithin 100 v → IsCanonical (value_of v)
canonical_value_of v h = (StandsFor-IsTextWithin 100 v (omega arith) h).canonical

-- ---- pairs and items

before_pairs : {V : Type 0} (written_as : V → Data) (key : Characters) (pairs : List (Characters × V)) → IsBeforeKeys key pairs → IsBefore (encode_utf8_all key) (written_pairs written_as pairs)
before_pairs written_as key [] h = tt
before_pairs written_as key (p ∷ pairs) h = slice_cmp-encodes key p.0 ∙ h.0

pub canonical_pairs : {V : Type 0} (written_as : V → Data) (pairs : List (Characters × V)) → KeysRise pairs → KeysAreTexts pairs → AllByRecursion (λ p. IsCanonical (written_as p.1)) pairs
    → MembersAreCanonical (written_pairs written_as pairs)
canonical_pairs written_as [] rise texts values = tt
canonical_pairs written_as (p ∷ pairs) rise texts values =
    (canonical_text p.0 texts.0, before_pairs written_as p.0 pairs rise.0, values.0, canonical_pairs written_as pairs rise.1 texts.1 values.1)

pub canonical_items : {A : Type 0} (written_as : A → Data) (xs : List A) → AllByRecursion (λ x. IsCanonical (written_as x)) xs → ItemsAreCanonical (written_items written_as xs)
canonical_items written_as [] h = tt
canonical_items written_as (x ∷ xs) h = (h.0, canonical_items written_as xs h.1)

-- what holds of each element holds of it in another form
pub each : {A : Type 0} (P Q : A → Type 0) → ((x : A) → P x → Q x) → (xs : List A) → AllByRecursion P xs → AllByRecursion Q xs
each P Q f [] h = tt
each P Q f (x ∷ xs) h = (f x h.0, each P Q f xs h.1)

-- ---- properties and adjustments

canonical_set_value : (v : Option ValueBytes) → IsSetValue v → IsCanonical (written_value v)
canonical_set_value None h = tt
canonical_set_value (Some v) h = canonical_value_of v h.0

canonical_set : (set : PropertySet) → IsKeyed set → IsPropertySet set → IsCanonical (written_set set)
canonical_set set keyed values = canonical_pairs written_value set keyed.0 keyed.1 (each _ _ (λ p h. canonical_set_value p.1 h) set values)

canonical_given_set : (set : PropertySet) → IsKeyed set → IsPropertySet set → IsCanonicalIfGiven (given_set set)
canonical_given_set [] keyed values = tt
canonical_given_set (p ∷ set) keyed values = canonical_set (p ∷ set) keyed values

canonical_bound : (o : Option ℤ) → IsTrue (is_safe_bound o) → IsCanonicalIfGiven (option_map written_number o)
canonical_bound None h = tt
canonical_bound (Some z) h = canonical_number z h

canonical_adjustment : (a : Adjust) → IsAdjustment a → IsCanonical (written_adjustment a)
canonical_adjustment a h =
    canonical_fields (adjustment_fields a) refl (canonical_number a.delta h.delta, (canonical_bound a.max h.max, (canonical_bound a.min h.min, tt)))

canonical_adjustments : (set : PropertySet) (adjust : List (Characters × Adjust)) → IsKeyed adjust → AreAdjustments set adjust → IsCanonicalIfGiven (given_adjust adjust)
canonical_adjustments set [] keyed h = tt
canonical_adjustments set (p ∷ adjust) keyed h =
    canonical_pairs written_adjustment (p ∷ adjust) keyed.0 keyed.1 (each _ _ (λ q g. canonical_adjustment q.1 g.1) (p ∷ adjust) h)

-- ---- operations of the text

canonical_characters : (text : Characters) (o : Option Data) → IsText text → IsCanonicalIfGiven o → IsCanonical (written_characters text o)
canonical_characters text None is_text h = canonical_text text is_text
canonical_characters text (Some props) is_text h = canonical_fields (characters_fields text props) refl (h, (canonical_text text is_text, tt))

canonical_segment : (seg : Seg) (set : PropertySet) → IsRepresentableSegment seg → IsTrue (is_segment seg) → IsKeyed set → IsPropertySet set → IsCanonical (written_segment seg set)
canonical_segment (Chars text) set is_text h keyed values = canonical_characters text (given_set set) is_text (canonical_given_set set keyed values)
canonical_segment (Marker ref_type) set is_text h keyed values =
    let marker : IsCanonical (object (fields (ref_type_fields ref_type))) = canonical_fields (ref_type_fields ref_type) refl (canonical_count ref_type h, tt) in
    canonical_fields (marker_fields ref_type set) refl (marker, (canonical_given_set set keyed values, tt))

canonical_base : (op : BaseOp) → IsRepresentableBase op → IsWellFormedBase op → IsCanonical (written_base op)
canonical_base (Insert p seg props) r h =
    canonical_fields (insertion_fields p seg props) refl (canonical_count p h.0, (canonical_segment seg props r.0 h.1 r.1 h.2, (refl, tt)))
canonical_base (Remove p q) r h =
    let counts = range_counts p q h in
    canonical_fields (removal_fields p q) refl (canonical_count p counts.0, (canonical_count q counts.1, (refl, tt)))
canonical_base (Annotate p q changes) r h =
    let counts = range_counts p q h.0 in
    canonical_fields (annotation_fields p q changes) refl (
      canonical_adjustments changes.props changes.adjust r.1 h.2,
      (canonical_count p counts.0, (canonical_count q counts.1, (canonical_set changes.props r.0 h.1, (refl, tt)))),
    )

abbrev AreCanonicalEnds : Option Ends → Type 0
AreCanonicalEnds ends = IsCanonicalIfGiven (given_start ends) × IsCanonicalIfGiven (given_end ends)

canonical_ends : (a b : ℤ) → IsTrue (are_ends a b) → IsCanonical (written_number a) × IsCanonical (written_number b)
canonical_ends (pos p) (pos q) h = let counts = range_counts p q h in (canonical_count p counts.0, canonical_count q counts.1)
canonical_ends (negsuc p) (negsuc q) h =
    let parts = both (nat_eq p 0) (nat_eq q 0) h in
    (lt-ltb p (2 ^ 63) (omega (arith, eqb-true p 0 parts.0)), lt-ltb q (2 ^ 63) (omega (arith, eqb-true q 0 parts.1)))
canonical_ends (pos p) (negsuc q) h = (cc)
canonical_ends (negsuc p) (pos q) h = (cc)

canonical_new_ends : (ends : Option Ends) → IsWellFormedNewEnds ends → AreCanonicalEnds ends
canonical_new_ends None h = (tt, tt)
canonical_new_ends (Some e) h = canonical_ends e.start e.end h

canonical_interval : (word : List ℕ) (label id : Characters) (ends : Option Ends) (set : PropertySet) → are_ascii word ≡ true → IsText label → IsText id → IsWellFormedNewEnds ends → IsKeyed set → IsPropertySet set
    → IsCanonical (written_interval word label id ends set)
canonical_interval word label id ends set ascii is_label is_id ordered keyed values =
    let given = canonical_new_ends ends ordered in
    canonical_fields (interval_fields word label id ends set) refl (
      given.1,
      (canonical_text id is_id, (IsUtf8-are_ascii word ascii, (canonical_text label is_label, (canonical_given_set set keyed values, (given.0, tt))))),
    )

canonical_group : (ops : Items) → ItemsAreCanonical ops → IsCanonical (written_group ops)
canonical_group ops h = canonical_fields (group_fields ops) refl (h, (refl, tt))

canonical_bases : (ops : List BaseOp) → AllByRecursion IsRepresentableBase ops → AllByRecursion IsWellFormedBase ops → AllByRecursion (λ op. IsCanonical (written_base op)) ops
canonical_bases [] r h = tt
canonical_bases (op ∷ ops) r h = (canonical_base op r.0 h.0, canonical_bases ops r.1 h.1)

canonical_text_op : (op : TextOp) → IsRepresentableText op → IsWellFormedText op → IsCanonical (written_text_op op)
canonical_text_op (One op) r h = canonical_base op r h
canonical_text_op (Group ops) r h = canonical_group _ (canonical_items written_base ops (canonical_bases ops r h))
canonical_text_op (IntervalAdd label id ends props) r h = canonical_interval (codes "add") label id (Some ends) props refl r.0 r.1 h.0 r.2 h.1
canonical_text_op (IntervalChange label id ends props) r h = canonical_interval (codes "change") label id ends props refl r.0 r.1 h.0 r.2 h.1
canonical_text_op (IntervalDelete label id) r h = canonical_interval (codes "delete") label id None [] refl r.0 r.1 tt (tt, tt) tt

-- ---- operations of the grid

canonical_target : (list : Target) → IsCanonical (written_target list)
canonical_target Rows = IsUtf8-are_ascii (codes "rows") refl
canonical_target Cols = IsUtf8-are_ascii (codes "cols") refl

canonical_cell : (op : CellOp) → IsWellFormedCell op → IsCanonical (written_cell op)
canonical_cell (SpliceIn list p n) h =
    let count = lt-ltb n (2 ^ 64) (omega (arith, leb-true n 1000000 h.1)) in
    canonical_fields (splice_in_fields list p n) refl (count, (canonical_count p h.0, (canonical_target list, (refl, tt))))
canonical_cell (SpliceOut list p q) h =
    let counts = range_counts p q h in
    canonical_fields (splice_out_fields list p q) refl (canonical_count p counts.0, (canonical_count q counts.1, (canonical_target list, (refl, tt))))
canonical_cell (Set i j v) h =
    canonical_fields (set_fields i j v) refl (
      canonical_count j h.1,
      (canonical_count i h.0, (IsUtf8-are_ascii (codes "set") refl, (canonical_value_of v h.2, tt))),
    )

canonical_grid_op : (op : GridOp) → IsWellFormedGrid op → IsCanonical (written_grid_op op)
canonical_grid_op (grid.One op) h = canonical_cell op h
canonical_grid_op (grid.Group ops) h = canonical_group _ (canonical_items written_cell ops (each _ _ canonical_cell ops h))

pub canonical_op : (op : ChannelOp) → IsRepresentable op → IsWellFormed op → IsCanonical (written op)
canonical_op (Text op) r h = canonical_text_op op r h
canonical_op (Grid op) r h = canonical_grid_op op h
