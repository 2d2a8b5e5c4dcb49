-- Where the interval of an operation stands; and which ends that leaves to it, and which to none, where it is there or not.
use Rattle.std.proofs.Common.{◌≡◌, ℕ, ◌<◌, true, cond, is_some, length, get_or, List, Option, Some, None, Result, Ok, Err, refl, sym, ◌∙◌, ap}
use Rattle.std.specs.Prelude.{IfOk, OnOk}
use Rattle.ft_op.specs.declared.operations.Ends.{Ends}
use Rattle.ft_op.specs.declared.operations.TextOp.{TextOp}
use Rattle.ft_op.specs.declared.operations.TextOp.TheVariants.{Group, One, IntervalAdd, IntervalChange, IntervalDelete}
use Rattle.ft_props.specs.Keys.{Characters}
use Rattle.ft_props.specs.Properties.{PropertySet}
use Rattle.ft_interval_store.specs.declared.intervals.EndPair.{EndPair}
use Rattle.ft_interval_store.specs.declared.intervals.EndsAfter.{EndsAfter}
use Rattle.ft_interval_store.specs.declared.intervals.Interval.{Interval}
use Rattle.ft_interval_store.specs.Ends.{no_ends}
use Rattle.ft_interval_store.specs.Intervals.{Name, NamesRise, after_operation, after_own, interval_of, is_on, place_of_name, place_of_operation}
use Rattle.ft_interval_store.specs.State.{AreOwnEnds, IsEndsAfter, ends_changed, ends_missing, ends_of_name, lost_ends, unused_ends}
use Rattle.ft_interval_store.proofs.OneInterval.{interval_of-after, same_name}
use Rattle.ft_interval_store.proofs.RisingNames.{found-in_range, interval_of-found, interval_of-missing}

module _ {T : Type 0} where
  abbrev pub ends_in : Option (Interval T) → EndPair T
  ends_in o = elim o as (λ _. EndPair T) [ None ↦ no_ends | Some i ↦ i.ends ]

  -- ---- where it stands

  pub operation-in_range : (op : TextOp) (i : ℕ) (is : List (Interval T)) → place_of_operation op is ≡ Ok i → i < length is
  operation-in_range (IntervalAdd label id given props) i is h = found-in_range (label, id) i is h
  operation-in_range (IntervalChange label id given props) i is h = found-in_range (label, id) i is h
  operation-in_range (IntervalDelete label id) i is h = found-in_range (label, id) i is h
  operation-in_range (One op) i is h = absurd cc
  operation-in_range (Group ops) i is h = absurd cc

  own-place : (op : TextOp) (n : Name) (is : List (Interval T)) → is_on n op ≡ true → place_of_name n is ≡ place_of_operation op is
  own-place (IntervalAdd label id given props) n is on = ap (λ (m : Name). place_of_name m is) (same_name n (label, id) on)
  own-place (IntervalChange label id given props) n is on = ap (λ (m : Name). place_of_name m is) (same_name n (label, id) on)
  own-place (IntervalDelete label id) n is on = ap (λ (m : Name). place_of_name m is) (same_name n (label, id) on)
  own-place (One op) n is on = absurd cc
  own-place (Group ops) n is on = absurd cc

  pub own-found : (op : TextOp) (i : ℕ) (d : Interval T) (is : List (Interval T)) → place_of_operation op is ≡ Ok i → AreOwnEnds op is (get_or is i d).ends
  own-found op i d is h n on = sym (ap ends_in (interval_of-found n i d is (own-place op n is on ∙ h)))

  pub own-missing : (op : TextOp) (i : ℕ) (is : List (Interval T)) → place_of_operation op is ≡ Err i → AreOwnEnds op is no_ends
  own-missing op i is h n on = sym (ap ends_in (interval_of-missing n i is (own-place op n is on ∙ h)))

  -- ---- an operation on the interval of one name

  module _ (op : TextOp) (ends : EndPair T) (is new : List (Interval T)) (rise : NamesRise is) (e : new ≡ after_operation op ends is)
      (m : Name) (on : (n : Name) → is_on n op ≡ true → n ≡ m) where
    own-ends : (n : Name) → is_on n op ≡ true → ends_of_name n new ≡ ends_in (after_own op ends (interval_of m is))
    own-ends n h =
        ap (λ ys. ends_in (interval_of n ys)) e ∙ ap ends_in (interval_of-after n op ends is rise)
        ∙ ap (λ b. ends_in (cond b (after_own op ends (interval_of n is)) (interval_of n is))) h
        ∙ ap (λ (k : Name). ends_in (after_own op ends (interval_of k is))) (on n h)

    by-parts : (after : EndsAfter T) → after.kept ≡ ends_in (after_own op ends (interval_of m is)) → after.unused ≡ unused_ends op ends is
        → after.lost ≡ lost_ends op is → IsEndsAfter op ends is new after
    by-parts after k u l = record { kept = λ n h. k ∙ sym (own-ends n h); unused = u; lost = l }

  module _ (label id : Characters) (ends : EndPair T) (props : PropertySet) (is new : List (Interval T)) (rise : NamesRise is) where
    -- ---- an addition

    module _ (given : Ends) (e : new ≡ after_operation (IntervalAdd label id given props) ends is) (after : EndsAfter T) where
      abbrev addition : TextOp
      addition = IntervalAdd label id given props

      pub ends-add-there : (i : Interval T) → interval_of (label, id) is ≡ Some i → after.kept ≡ i.ends → after.unused ≡ ends → after.lost ≡ no_ends
          → IsEndsAfter addition ends is new after
      ends-add-there i there k u l =
          by-parts addition ends is new rise e (label, id) (λ n h. same_name n (label, id) h) after
          (k ∙ sym (ap (λ (o : Option (Interval T)). ends_in (after_own addition ends o)) there))
          (u ∙ sym (ap (λ (o : Option (Interval T)). cond (is_some o) ends no_ends) there)) l

      pub ends-add-new : interval_of (label, id) is ≡ None → after.kept ≡ ends → after.unused ≡ no_ends → after.lost ≡ no_ends
          → IsEndsAfter addition ends is new after
      ends-add-new none k u l =
          by-parts addition ends is new rise e (label, id) (λ n h. same_name n (label, id) h) after
          (k ∙ sym (ap (λ (o : Option (Interval T)). ends_in (after_own addition ends o)) none))
          (u ∙ sym (ap (λ (o : Option (Interval T)). cond (is_some o) ends no_ends) none)) l

    -- ---- a change

    module _ (given : Option Ends) (e : new ≡ after_operation (IntervalChange label id given props) ends is) (after : EndsAfter T) where
      abbrev change : TextOp
      change = IntervalChange label id given props

      pub ends-change-there : (i : Interval T) → interval_of (label, id) is ≡ Some i → after ≡ ends_changed given ends i.ends
          → IsEndsAfter change ends is new after
      ends-change-there i there a =
          by-parts change ends is new rise e (label, id) (λ n h. same_name n (label, id) h) after
          (ap (λ (x : EndsAfter T). x.kept) a ∙ kept given ∙ sym (ap (λ (o : Option (Interval T)). ends_in (after_own change ends o)) there))
          (ap (λ (x : EndsAfter T). x.unused) a ∙ unused given)
          (ap (λ (x : EndsAfter T). x.lost) a ∙ lost given)
        where
          kept : (g : Option Ends) → (ends_changed g ends i.ends).kept ≡ ends_in (after_own (IntervalChange label id g props) ends (Some i))
          kept None = refl
          kept (Some x) = refl

          unused : (g : Option Ends) → (ends_changed g ends i.ends).unused ≡ unused_ends (IntervalChange label id g props) ends is
          unused None = refl
          unused (Some x) = sym (ap (λ (o : Option (Interval T)). cond (is_some o) no_ends ends) there)

          lost : (g : Option Ends) → (ends_changed g ends i.ends).lost ≡ lost_ends (IntervalChange label id g props) is
          lost None = refl
          lost (Some x) = sym (ap ends_in there)

      pub ends-change-missing : interval_of (label, id) is ≡ None → after ≡ ends_missing ends → IsEndsAfter change ends is new after
      ends-change-missing none a =
          by-parts change ends is new rise e (label, id) (λ n h. same_name n (label, id) h) after
          (ap (λ (x : EndsAfter T). x.kept) a ∙ sym (ap (λ (o : Option (Interval T)). ends_in (after_own change ends o)) none))
          (ap (λ (x : EndsAfter T). x.unused) a ∙ unused given)
          (ap (λ (x : EndsAfter T). x.lost) a ∙ lost given)
        where
          unused : (g : Option Ends) → ends ≡ unused_ends (IntervalChange label id g props) ends is
          unused None = refl
          unused (Some x) = sym (ap (λ (o : Option (Interval T)). cond (is_some o) no_ends ends) none)

          lost : (g : Option Ends) → no_ends ≡ lost_ends (IntervalChange label id g props) is
          lost None = refl
          lost (Some x) = sym (ap ends_in none)

    -- ---- a deletion

    pub ends-delete : new ≡ after_operation (IntervalDelete label id) ends is → (after : EndsAfter T) → after.kept ≡ no_ends → after.unused ≡ ends
        → after.lost ≡ ends_of_name (label, id) is → IsEndsAfter (IntervalDelete label id) ends is new after
    ends-delete e after k u l = by-parts (IntervalDelete label id) ends is new rise e (label, id) (λ n h. same_name n (label, id) h) after k u l

-- two facts of a good end give another one
pub both-if-ok : {A E : Type 0} (r : Result A E) (P : Type 0) (Q R : A → Type 0) → ((a : A) → P → Q a → R a) → OnOk r P → IfOk r Q → IfOk r R
both-if-ok (Ok a) P Q R f p q = f a p q
both-if-ok (Err e) P Q R f p q = tt
