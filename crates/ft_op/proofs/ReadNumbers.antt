-- The numbers of what was read are in range, and nothing is reversed.
use Rattle.std.proofs.Common.{◌≡◌, ℕ, ◌-◌, ◌^◌, ℤ, pos, negsuc, Bool, true, false, cond, not, ◌&&◌, ◌||◌, nat_eq, nat_lt, nat_le, Option, Some, None, Result, Ok, ◌⊎◌, inl, inr, refl, subst, arith, lt-ltb, chars}
use Rattle.std.specs.Prelude.{IsTrue, int_lt, is_some, option_and_then}
use Rattle.std.specs.Ordering.{int_eq}
use Rattle.std.proofs.lemmas.Bool.Decides.{nat_tests, Decides-int_eq}
use Rattle.serde_json.specs.Data.{Data, null, boolean, number, string, array, object}
use Rattle.ft_json.specs.declared.fields.Field.{Field}
use Rattle.ft_json.specs.declared.fields.Field.TheVariants.{Count, Delta, End, Marker as MarkerField, Max, Min, Pos1, Pos2, RefType, Start, Text as TextField}
use Rattle.ft_json.specs.Reading.{count_field, field, given_field, is_within, num_field, signed_field, whole_within, whole_number}
use Rattle.ft_json.proofs.Counts.{count_field-below}
use Rattle.ft_props.specs.declared.properties.Adjust.{Adjust}
use Rattle.ft_op.specs.declared.operations.Seg.{Seg as Segment}
use Rattle.ft_op.specs.declared.operations.Seg.TheVariants.{Chars, Marker}
use Rattle.ft_op.specs.declared.operations.BaseOp.{BaseOp}
use Rattle.ft_op.specs.declared.operations.BaseOp.TheVariants.{Remove}
use Rattle.ft_op.specs.declared.operations.Ends.{Ends}
use Rattle.ft_op.specs.declared.operations.CellOp.{CellOp}
use Rattle.ft_op.specs.declared.operations.CellOp.TheVariants.{SpliceIn, SpliceOut}
use Rattle.ft_op.specs.declared.operations.Target.{Target}
use Rattle.ft_op.specs.Faults.{op_fault}
use Rattle.ft_op.specs.Reading.{◌>>=◌, is_object, needed, range}
use Rattle.ft_op.specs.TextGrammar as grammar
use Rattle.ft_op.specs.TextGrammar.{adjustment, adjustment_of, bound, characters_of, interval_ends, marker_of, new_ends, object_segment, removal, segment}
use Rattle.ft_op.specs.GridGrammar.{splice_in, splice_out, typed_splice}
use Rattle.ft_op.specs.WellFormed.{are_bounds, are_ends, is_count, is_range, is_safe, is_safe_bound, is_segment, IsAdjustment, IsWellFormedBase, IsWellFormedCell, IsWellFormedEnds, IsWellFormedNewEnds}
use Rattle.ft_op.proofs.ReadSteps.{read_step, fault_step, test_held, test_failed, same_value, field_value}

-- ---- counts and ranges

pub count_field-is_count : (d : Data) (f : Field) (n : ℕ) → count_field d f ≡ Ok n → IsTrue (is_count n)
count_field-is_count d f n e = lt-ltb n (2 ^ 53) (count_field-below d f n e)

in_order : (p q : ℕ) → nat_lt q p ≡ false → nat_lt q (2 ^ 53) ≡ true → (nat_le p q && nat_lt q (2 ^ 53)) ≡ true
in_order p q h k = grind (arith, nat_tests)

pub range-is_range : (d : Data) (r : ℕ × ℕ) → range d ≡ Ok r → IsTrue (is_range r.0 r.1)
unfolding range
range-is_range d r e =
    let p = fault_step op_fault (count_field d Pos1) _ r e in
    let q = fault_step op_fault (count_field d Pos2) _ r p.2 in
    let tested = test_failed (nat_lt q.0 p.0) _ _ r q.2 in
    subst (λ (s : ℕ × ℕ). IsTrue (is_range s.0 s.1)) (same_value (p.0, q.0) r _ refl tested.1) (in_order p.0 q.0 tested.0 (count_field-is_count d Pos2 q.0 q.1))

pub removal-formed : (d : Data) (op : BaseOp) → removal d ≡ Ok op → IsWellFormedBase op
unfolding removal
removal-formed d op e =
    let r = read_step (range d) _ op e in
    subst IsWellFormedBase (same_value (Remove r.0.0 r.0.1) op _ refl r.2) (range-is_range d r.0 r.1)

-- ---- whole numbers

kept_if : (b : Bool) (x z : ℤ) → cond b (Some x) None ≡ Some z → (b ≡ true) × (x ≡ z)
kept_if true x z e = (refl, cc)
kept_if false x z e = (cc)

within : (o : Option ℤ) (low high z : ℤ) → option_and_then (λ x. cond (is_within low high x) (Some x) None) o ≡ Some z → is_within low high z ≡ true
within None low high z e = (cc)
within (Some x) low high z e =
    let kept = kept_if (is_within low high x) x z e in
    subst (λ y. is_within low high y ≡ true) kept.1 kept.0

whole_within-in_range : (d : Data) (low high z : ℤ) → whole_within d low high ≡ Some z → IsTrue (is_within low high z)
unfolding whole_within
whole_within-in_range d low high z e = within (whole_number d) low high z e

pub num_field-in_range : (d : Data) (f : Field) (z : ℤ) → num_field d f ≡ Ok z → IsTrue (is_within (negsuc 0) (pos (2 ^ 53 - 1)) z)
unfolding num_field
num_field-in_range d f z e = let found = field_value _ f (field d f) z e in whole_within-in_range found.0 _ _ z found.1

signed_field-is_safe : (d : Data) (f : Field) (z : ℤ) → signed_field d f ≡ Ok z → IsTrue (is_safe z)
unfolding signed_field
signed_field-is_safe d f z e = let found = field_value _ f (field d f) z e in whole_within-in_range found.0 _ _ z found.1

-- ---- adjustments

bound_of : (b : Bool) (d : Data) (f : Field) (o : Option ℤ) → cond b (needed (signed_field d f) >>= (λ z. Ok (Some z))) (Ok None) ≡ Ok o → IsTrue (is_safe_bound o)
bound_of true d f o e =
    let z = fault_step op_fault (signed_field d f) _ o e in
    subst (λ a. IsTrue (is_safe_bound a)) (same_value (Some z.0) o _ refl z.2) (signed_field-is_safe d f z.0 z.1)
bound_of false d f o e = subst (λ a. IsTrue (is_safe_bound a)) (same_value None o _ refl e) refl

bound-is_safe : (d : Data) (f : Field) (o : Option ℤ) → bound d f ≡ Ok o → IsTrue (is_safe_bound o)
unfolding bound
bound-is_safe d f o e = bound_of (is_some (given_field d f)) d f o e

not_crossed : (b : Bool) → b ≡ false → not b ≡ true
not_crossed true e = (cc)
not_crossed false e = refl

abbrev IsMadeOf : ℤ → Option ℤ → Option ℤ → Adjust → Type 0
IsMadeOf delta min max a = (record { delta = delta; min = min; max = max } ≡ a) × IsTrue (are_bounds min max)

made_of : (delta : ℤ) (min max : Option ℤ) (a : Adjust) → adjustment_of delta min max ≡ Ok a → IsMadeOf delta min max a
made_of delta (Some low) (Some high) a e =
    let tested = test_failed (int_lt high low) _ _ a e in
    (same_value (record { delta = delta; min = Some low; max = Some high }) a _ refl tested.1, not_crossed (int_lt high low) tested.0)
made_of delta (Some low) None a e = (same_value (record { delta = delta; min = Some low; max = None }) a _ refl e, refl)
made_of delta None (Some high) a e = (same_value (record { delta = delta; min = None; max = Some high }) a _ refl e, refl)
made_of delta None None a e = (same_value (record { delta = delta; min = None; max = None }) a _ refl e, refl)

pub adjustment-formed : (d : Data) (a : Adjust) → adjustment d ≡ Ok a → IsAdjustment a
unfolding adjustment
adjustment-formed d a e =
    let delta = fault_step op_fault (signed_field d Delta) _ a (test_held (is_object d) _ _ a e).1 in
    let min = read_step (bound d Min) _ a delta.2 in
    let max = read_step (bound d Max) _ a min.2 in
    let made = made_of delta.0 min.0 max.0 a max.2 in
    subst IsAdjustment made.0
    (record {
      delta = signed_field-is_safe d Delta delta.0 delta.1;
      min = bound-is_safe d Min min.0 min.1;
      max = bound-is_safe d Max max.0 max.1;
      bounds = made.1;
    })

-- ---- segments

characters_of-is_segment : (d : Data) (seg : Segment) → characters_of d ≡ Ok seg → IsTrue (is_segment seg)
characters_of-is_segment null seg e = (cc)
characters_of-is_segment (boolean b) seg e = (cc)
characters_of-is_segment (number n) seg e = (cc)
characters_of-is_segment (string s) seg e = subst (λ x. IsTrue (is_segment x)) (same_value (Chars (chars s)) seg _ refl e) refl
characters_of-is_segment (array ds) seg e = (cc)
characters_of-is_segment (object ms) seg e = (cc)

marker_of-is_segment : (o : Option Data) (seg : Segment) → marker_of o ≡ Ok seg → IsTrue (is_segment seg)
marker_of-is_segment None seg e = (cc)
marker_of-is_segment (Some d) seg e =
    let n = fault_step op_fault (count_field d RefType) _ seg (test_held (is_object d) _ _ seg e).1 in
    subst (λ x. IsTrue (is_segment x)) (same_value (Marker n.0) seg _ refl n.2) (count_field-is_count d RefType n.0 n.1)

object_segment-is_segment : (d : Data) (o : Option Data) (seg : Segment) → object_segment d o ≡ Ok seg → IsTrue (is_segment seg)
object_segment-is_segment d None seg e = marker_of-is_segment (field d MarkerField) seg e
object_segment-is_segment d (Some text) seg e = characters_of-is_segment text seg e

pub either_way : {A F : Type 0} (P : A → Type 0) (b : Bool) (x y : Result A F) (a : A) → (x ≡ Ok a → P a) → (y ≡ Ok a → P a) → cond b x y ≡ Ok a → P a
either_way P true x y a f g e = f e
either_way P false x y a f g e = g e

pub segment-is_segment : (d : Data) (seg : Segment) → segment d ≡ Ok seg → IsTrue (is_segment seg)
unfolding segment
segment-is_segment d seg e =
    either_way (λ x. IsTrue (is_segment x)) (is_object d) _ _ seg (object_segment-is_segment d (field d TextField) seg) (characters_of-is_segment d seg) e

-- ---- intervals

split_and : (a b : Bool) → (a && b) ≡ true → (a ≡ true) × (b ≡ true)
split_and true true e = (refl, refl)
split_and true false e = (cc)
split_and false b e = (cc)

split_or : (a b : Bool) → (a || b) ≡ true → (a ≡ true) ⊎ (b ≡ true)
split_or true b e = inl refl
split_or false b e = inr e

fails : (b : Bool) → not b ≡ true → b ≡ false
fails true e = (cc)
fails false e = refl

positions : (p q : ℕ) → nat_lt q p ≡ false → nat_lt (2 ^ 53 - 1) q ≡ false → is_range p q ≡ true
positions p q h k = grind (arith, nat_tests)

ordered : (a b : ℤ) → int_lt a (pos 0) ≡ false → int_lt b a ≡ false → is_within (negsuc 0) (pos (2 ^ 53 - 1)) b ≡ true → are_ends a b ≡ true
ordered (pos p) (pos q) h k w = positions p q k (fails _ (split_and (not (int_lt (pos q) (negsuc 0))) _ w).1)
ordered (pos p) (negsuc q) h k w = (cc)
ordered (negsuc p) b h k w = (cc)

allowed : (a b : ℤ) → is_within (negsuc 0) (pos (2 ^ 53 - 1)) b ≡ true → grammar.are_read_ends a b ≡ true → are_ends a b ≡ true
allowed a b w e =
    elim (split_or (int_eq a (negsuc 0) && int_eq b (negsuc 0)) _ e) [
      | inl detached ↦
          let both = split_and (int_eq a (negsuc 0)) _ detached in
          rw ((Decides-int_eq a (negsuc 0)).0 both.0, (Decides-int_eq b (negsuc 0)).0 both.1) refl
      | inr attached ↦
          let both = split_and (not (int_lt a (pos 0))) _ attached in
          ordered a b (fails _ both.0) (fails _ both.1) w
    ]

pub interval_ends-formed : (d : Data) (ends : Ends) → interval_ends d ≡ Ok ends → IsWellFormedEnds ends
unfolding interval_ends
interval_ends-formed d ends e =
    let a = fault_step op_fault (num_field d Start) _ ends e in
    let b = fault_step op_fault (num_field d End) _ ends a.2 in
    let tested = test_held (grammar.are_read_ends a.0 b.0) _ _ ends b.2 in
    subst IsWellFormedEnds (same_value (record { start = a.0; end = b.0 }) ends _ refl tested.1)
    (allowed a.0 b.0 (num_field-in_range d End b.0 b.1) tested.0)

new_ends_of : (b : Bool) (d : Data) (o : Option Ends) → cond b (interval_ends d >>= (λ ends. Ok (Some ends))) (Ok None) ≡ Ok o → IsWellFormedNewEnds o
new_ends_of true d o e =
    let ends = read_step (interval_ends d) _ o e in
    subst IsWellFormedNewEnds (same_value (Some ends.0) o _ refl ends.2) (interval_ends-formed d ends.0 ends.1)
new_ends_of false d o e = subst IsWellFormedNewEnds (same_value None o _ refl e) tt

pub new_ends-formed : (d : Data) (o : Option Ends) → new_ends d ≡ Ok o → IsWellFormedNewEnds o
unfolding new_ends
new_ends-formed d o e = new_ends_of (is_some (field d Start) || is_some (field d End)) d o e

-- ---- splices

at_most : (n : ℕ) → nat_lt 1000000 n ≡ false → nat_le n 1000000 ≡ true
at_most n h = grind (arith, nat_tests)

splice_in-formed : (list : Target) (d : Data) (op : CellOp) → splice_in list d ≡ Ok op → IsWellFormedCell op
unfolding splice_in
splice_in-formed list d op e =
    let p = fault_step op_fault (count_field d Pos1) _ op e in
    let n = fault_step op_fault (count_field d Count) _ op p.2 in
    let tested = test_failed (nat_lt 1000000 n.0) _ _ op n.2 in
    subst IsWellFormedCell (same_value (SpliceIn list p.0 n.0) op _ refl tested.1) (count_field-is_count d Pos1 p.0 p.1, at_most n.0 tested.0)

splice_out-formed : (list : Target) (d : Data) (op : CellOp) → splice_out list d ≡ Ok op → IsWellFormedCell op
unfolding splice_out
splice_out-formed list d op e =
    let r = read_step (range d) _ op e in
    subst IsWellFormedCell (same_value (SpliceOut list r.0.0 r.0.1) op _ refl r.2) (range-is_range d r.0 r.1)

pub typed_splice-formed : (list : Target) (d : Data) (n : ℕ) (op : CellOp) → typed_splice list d n ≡ Ok op → IsWellFormedCell op
typed_splice-formed list d n op e =
    either_way IsWellFormedCell (nat_eq n 0) _ _ op (splice_in-formed list d op) (λ h. splice_out-formed list d op (test_held (nat_eq n 1) _ _ op h).1) e
