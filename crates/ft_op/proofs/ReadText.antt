-- A written operation of the text is read back.
use Rattle.std.proofs.Common.{◌≡◌, ◌≤◌, ◌^◌, ◌-◌, ℕ, ℤ, pos, negsuc, List, [], ◌∷◌, map, Option, Some, None, Ok, codes, refl, ap, nat_le, ltb-true, le-ltb, leb-true, arith}
use Rattle.std.specs.Prelude.{IsTrue, nat_eq}
use Rattle.std.specs.List.{AllByRecursion}
use Rattle.std.proofs.lemmas.Bool.{eqb-true}
use Rattle.std.proofs.lemmas.Str.{chars-encodes}
use Rattle.serde_json.specs.Data.{Data, string, object}
use Rattle.ft_base.proofs.Booleans.{both}
use Rattle.ft_json.specs.declared.fields.Field.TheVariants.{End, Id, Interval, Kind, Label, Marker as MarkerField, Ops, Pos1, RefType, Seg as SegField, Start, Text as TextField}
use Rattle.ft_json.specs.Fields.{field_name}
use Rattle.ft_json.specs.Reading.{field, given_field, is_within}
use Rattle.ft_props.specs.Keys.{Characters}
use Rattle.ft_props.specs.Properties.{PropertySet}
use Rattle.ft_props.specs.declared.properties.Changes.{Changes}
use Rattle.ft_op.specs.declared.operations.Seg.{Seg}
use Rattle.ft_op.specs.declared.operations.Seg.TheVariants.{Chars, Marker}
use Rattle.ft_op.specs.declared.operations.BaseOp.{BaseOp}
use Rattle.ft_op.specs.declared.operations.BaseOp.TheVariants.{Insert, Remove, Annotate}
use Rattle.ft_op.specs.declared.operations.Ends.{Ends}
use Rattle.ft_op.specs.declared.operations.TextOp.{TextOp}
use Rattle.ft_op.specs.declared.operations.TextOp.TheVariants.{One, Group, IntervalAdd, IntervalChange, IntervalDelete}
use Rattle.ft_op.specs.Reading.{given_properties, read_each}
use Rattle.ft_op.specs.TextGrammar.{annotation, are_read_ends, base_op, group, group_item, group_item_of, insertion, interval_add, interval_change, interval_delete, interval_ends, interval_op, new_ends, removal, segment, text_op, typed_op}
use Rattle.ft_op.specs.Representable.{IsRepresentableBase, IsRepresentableSegment, IsRepresentableText, IsText, KeysAreTexts}
use Rattle.ft_op.specs.WellFormed.{are_ends, is_count, is_range, is_segment, IsPropertySet, IsWellFormedBase, IsWellFormedEnds, IsWellFormedNewEnds, IsWellFormedText}
use Rattle.ft_op.specs.Written.{given_end, given_start, written_base, written_count, written_items, written_number, written_segment, written_set, written_text, written_text_op}
use Rattle.ft_op.proofs.WrittenFields.{fields}
use Rattle.ft_op.proofs.CanonicalOperations.{annotation_fields, characters_fields, group_fields, insertion_fields, interval_fields, marker_fields, ref_type_fields, removal_fields}
use Rattle.ft_op.proofs.ReadFields.{array_is, count_is, field_is, found, num_is, range_is, text_is}
use Rattle.ft_op.proofs.ReadProperties.{adjustments_back, properties_always, properties_if_given}

-- ---- segments

marker_back : (n : ℕ) (set : PropertySet) → IsTrue (is_count n) → segment (object (fields (marker_fields n set))) ≡ Ok (Marker n)
unfolding segment field_name
marker_back n set h =
    rw (
      field_is (marker_fields n set) TextField None refl,
      field_is (marker_fields n set) MarkerField (Some (object (fields (ref_type_fields n)))) refl,
      count_is (ref_type_fields n) RefType n refl h,
    )

characters_back : (text : Characters) (props : Data) → IsText text → segment (object (fields (characters_fields text props))) ≡ Ok (Chars text)
unfolding segment field_name
characters_back text props h =
    rw (field_is (characters_fields text props) TextField (Some (written_text text)) refl, chars-encodes text h)

string_back : (text : Characters) → IsText text → segment (written_text text) ≡ Ok (Chars text)
unfolding segment
string_back text h = ap (λ cs. Ok (Chars cs)) (chars-encodes text h)

segment_back : (seg : Seg) (set : PropertySet) → IsRepresentableSegment seg → IsTrue (is_segment seg) → segment (written_segment seg set) ≡ Ok seg
segment_back (Chars text) [] is_text h = string_back text is_text
segment_back (Chars text) (p ∷ set) is_text h = characters_back text (written_set (p ∷ set)) is_text
segment_back (Marker n) set is_text h = marker_back n set h

no_properties : (text : Characters) → given_properties (written_text text) ≡ Ok []
unfolding given_properties given_field field
no_properties text = refl

segment_properties : (seg : Seg) (set : PropertySet) → KeysAreTexts set → IsPropertySet set → given_properties (written_segment seg set) ≡ Ok set
unfolding field_name
segment_properties (Chars text) [] texts values = no_properties text
segment_properties (Chars text) (p ∷ set) texts values =
    properties_always (characters_fields text (written_set (p ∷ set))) (p ∷ set) refl texts values
segment_properties (Marker n) set texts values = properties_if_given (marker_fields n set) set refl texts values

-- ---- operations that may stand in a group

insertion_back : (p : ℕ) (seg : Seg) (props : PropertySet) → IsRepresentableBase (Insert p seg props) → IsWellFormedBase (Insert p seg props)
    → insertion (object (fields (insertion_fields p seg props))) ≡ Ok (Insert p seg props)
unfolding insertion field_name
insertion_back p seg props r h =
    let fs = insertion_fields p seg props in
    rw (
      count_is fs Pos1 p refl h.0,
      field_is fs SegField (Some (written_segment seg props)) refl,
      segment_back seg props r.0 h.1,
      segment_properties seg props r.1.1 h.2,
    )

removal_back : (p q : ℕ) → IsTrue (is_range p q) → removal (object (fields (removal_fields p q))) ≡ Ok (Remove p q)
unfolding removal field_name
removal_back p q h = rw (range_is (removal_fields p q) p q refl refl h)

annotation_back : (p q : ℕ) (changes : Changes) → IsRepresentableBase (Annotate p q changes) → IsWellFormedBase (Annotate p q changes)
    → annotation (object (fields (annotation_fields p q changes))) ≡ Ok (Annotate p q changes)
unfolding annotation field_name
annotation_back p q changes r h =
    let fs = annotation_fields p q changes in
    rw (
      range_is fs p q refl refl h.0,
      properties_always fs changes.props refl r.0.1 h.1,
      adjustments_back fs changes.props changes.adjust refl r.1.1 h.2,
    )

typed_item : (fs : List (List ℕ × Option Data)) (n : ℕ) (op : BaseOp) → found (field_name Kind) fs ≡ Some (written_count n) → IsTrue (is_count n) → group_item_of (object (fields fs)) n ≡ Ok op
    → group_item (object (fields fs)) ≡ Ok op
unfolding group_item
typed_item fs n op h small e = rw (count_is fs Kind n h small, e)

item_back : (op : BaseOp) → IsRepresentableBase op → IsWellFormedBase op → group_item (written_base op) ≡ Ok op
unfolding base_op field_name
item_back (Insert p seg props) r h = typed_item (insertion_fields p seg props) 0 (Insert p seg props) refl refl (insertion_back p seg props r h)
item_back (Remove p q) r h = typed_item (removal_fields p q) 1 (Remove p q) refl refl (removal_back p q h)
item_back (Annotate p q changes) r h =
    typed_item (annotation_fields p q changes) 2 (Annotate p q changes) refl refl (annotation_back p q changes r h)

items_back : (ops : List BaseOp) → AllByRecursion IsRepresentableBase ops → AllByRecursion IsWellFormedBase ops → read_each group_item (map written_base ops) ≡ Ok ops
items_back [] r h = refl
items_back (op ∷ ops) r h = rw (item_back op r.0 h.0, items_back ops r.1 h.1)

-- ---- intervals

-- ends that are written are read as they were
record AreReadBack (a b : ℤ) : Type 0 where
  start : IsTrue (is_within (negsuc 0) (pos (2 ^ 53 - 1)) a)
  end : IsTrue (is_within (negsuc 0) (pos (2 ^ 53 - 1)) b)
  order : IsTrue (are_read_ends a b)

ends_read : (a b : ℤ) → IsTrue (are_ends a b) → AreReadBack a b
ends_read (pos p) (pos q) h =
    let parts = both (nat_le p q) (is_count q) h in
    let order = leb-true p q parts.0 in
    let small = ltb-true q (2 ^ 53) parts.1 in
    let first : p ≤ 2 ^ 53 - 1 = omega arith in
    let last : q ≤ 2 ^ 53 - 1 = omega arith in
    let none : 0 ≤ p = omega arith in
    record {
      start = rw (le-ltb (2 ^ 53 - 1) p first);
      end = rw (le-ltb (2 ^ 53 - 1) q last);
      order = rw (le-ltb p 0 none, le-ltb q p order);
    }
ends_read (negsuc p) (negsuc q) h =
    let parts = both (nat_eq p 0) (nat_eq q 0) h in
    record {
      start = rw (eqb-true p 0 parts.0);
      end = rw (eqb-true q 0 parts.1);
      order = rw (eqb-true p 0 parts.0, eqb-true q 0 parts.1);
    }
ends_read (pos p) (negsuc q) h = (cc)
ends_read (negsuc p) (pos q) h = (cc)

interval_ends_back : (fs : List (List ℕ × Option Data)) (e : Ends) → found (field_name Start) fs ≡ Some (written_number e.start) → found (field_name End) fs ≡ Some (written_number e.end) → IsWellFormedEnds e
    → interval_ends (object (fields fs)) ≡ Ok e
unfolding interval_ends
interval_ends_back fs e h g ordered =
    let read = ends_read e.start e.end ordered in
    rw (num_is fs Start e.start h read.start, num_is fs End e.end g read.end, read.order)

new_ends_back : (fs : List (List ℕ × Option Data)) (ends : Option Ends) → found (field_name Start) fs ≡ given_start ends → found (field_name End) fs ≡ given_end ends → IsWellFormedNewEnds ends
    → new_ends (object (fields fs)) ≡ Ok ends
unfolding new_ends
new_ends_back fs None h g ordered = rw (field_is fs Start None h, field_is fs End None g)
new_ends_back fs (Some e) h g ordered = rw (field_is fs Start (Some (written_number e.start)) h, interval_ends_back fs e h g ordered)

add_back : (label id : Characters) (ends : Ends) (props : PropertySet) → IsRepresentableText (IntervalAdd label id ends props) → IsWellFormedText (IntervalAdd label id ends props)
    → interval_add (object (fields (interval_fields (codes "add") label id (Some ends) props))) ≡ Ok (IntervalAdd label id ends props)
unfolding interval_add field_name
add_back label id ends props r h =
    let fs = interval_fields (codes "add") label id (Some ends) props in
    rw (text_is fs Label label refl r.0, text_is fs Id id refl r.1, interval_ends_back fs ends refl refl h.0, properties_if_given fs props refl r.2.1 h.1)

change_back : (label id : Characters) (ends : Option Ends) (props : PropertySet) → IsRepresentableText (IntervalChange label id ends props) → IsWellFormedText (IntervalChange label id ends props)
    → interval_change (object (fields (interval_fields (codes "change") label id ends props))) ≡ Ok (IntervalChange label id ends props)
unfolding interval_change field_name
change_back label id ends props r h =
    let fs = interval_fields (codes "change") label id ends props in
    rw (text_is fs Label label refl r.0, text_is fs Id id refl r.1, new_ends_back fs ends refl refl h.0, properties_if_given fs props refl r.2.1 h.1)

delete_back : (label id : Characters) → IsText label → IsText id
    → interval_delete (object (fields (interval_fields (codes "delete") label id None []))) ≡ Ok (IntervalDelete label id)
unfolding interval_delete field_name
delete_back label id is_label is_id =
    let fs = interval_fields (codes "delete") label id None [] in rw (text_is fs Label label refl is_label, text_is fs Id id refl is_id)

-- ---- operations

typed_back : (fs : List (List ℕ × Option Data)) (n : ℕ) (op : TextOp) → found (field_name Interval) fs ≡ None → found (field_name Kind) fs ≡ Some (written_count n) → IsTrue (is_count n)
    → typed_op (object (fields fs)) n ≡ Ok op → text_op (object (fields fs)) ≡ Ok op
unfolding text_op
typed_back fs n op none h small e = rw (field_is fs Interval None none, count_is fs Kind n h small, e)

interval_back : (fs : List (List ℕ × Option Data)) (word : List ℕ) (op : TextOp) → found (field_name Interval) fs ≡ Some (string word) → interval_op (object (fields fs)) (string word) ≡ Ok op
    → text_op (object (fields fs)) ≡ Ok op
unfolding text_op
interval_back fs word op h e = rw (field_is fs Interval (Some (string word)) h, e)

one_back : (op : BaseOp) → IsRepresentableBase op → IsWellFormedBase op → text_op (written_base op) ≡ Ok (One op)
unfolding base_op field_name
one_back (Insert p seg props) r h = typed_back (insertion_fields p seg props) 0 (One (Insert p seg props)) refl refl refl (rw (insertion_back p seg props r h))
one_back (Remove p q) r h = typed_back (removal_fields p q) 1 (One (Remove p q)) refl refl refl (rw (removal_back p q h))
one_back (Annotate p q changes) r h =
    typed_back (annotation_fields p q changes) 2 (One (Annotate p q changes)) refl refl refl (rw (annotation_back p q changes r h))

group_back : (ops : List BaseOp) → AllByRecursion IsRepresentableBase ops → AllByRecursion IsWellFormedBase ops → text_op (written_text_op (Group ops)) ≡ Ok (Group ops)
unfolding group field_name
group_back ops r h =
    let fs = group_fields (written_items written_base ops) in
    typed_back fs 3 (Group ops) refl refl refl (rw (array_is written_base fs Ops ops refl, items_back ops r h))

pub text_op_back : (op : TextOp) → IsRepresentableText op → IsWellFormedText op → text_op (written_text_op op) ≡ Ok op
unfolding interval_op field_name
text_op_back (One op) r h = one_back op r h
text_op_back (Group ops) r h = group_back ops r h
text_op_back (IntervalAdd label id ends props) r h =
    interval_back (interval_fields (codes "add") label id (Some ends) props) (codes "add") (IntervalAdd label id ends props) refl (add_back label id ends props r h)
text_op_back (IntervalChange label id ends props) r h =
    interval_back (interval_fields (codes "change") label id ends props) (codes "change") (IntervalChange label id ends props) refl (change_back label id ends props r h)
text_op_back (IntervalDelete label id) r h =
    interval_back (interval_fields (codes "delete") label id None []) (codes "delete") (IntervalDelete label id) refl (delete_back label id r.0 r.1)
