-- What an operation makes of intervals doesn't depend on what their ends are.
use Rattle.std.proofs.Common.{◌≡◌, ℕ, Bool, true, false, cond, is_some, List, [], ◌∷◌, map, Option, Some, None, option_map, refl, sym, ◌∙◌, ap}
use Rattle.std.specs.declared.cmp.Ordering.{Ordering}
use Rattle.std.specs.declared.cmp.Ordering.TheVariants.{Less, Equal, Greater}
use Rattle.ft_op.specs.declared.operations.TextOp.{TextOp}
use Rattle.ft_op.specs.declared.operations.TextOp.TheVariants.{One, Group, IntervalAdd, IntervalChange, IntervalDelete}
use Rattle.ft_props.specs.Keys.{put_rising}
use Rattle.ft_props.specs.Properties.{PropertySet, apply}
use Rattle.ft_interval_store.specs.declared.intervals.EndPair.{EndPair}
use Rattle.ft_interval_store.specs.declared.intervals.Interval.{Interval}
use Rattle.ft_interval_store.specs.Intervals.{Name, after_operation, changed_interval, interval_cmp, interval_of, name_cmp, name_of, with_changed, without_name}
use Rattle.ft_interval_store.specs.State.{with_mapped_ends}
use Rattle.ft_interval_store.proofs.OneInterval.{interval_of-map}

module _ (g : EndPair ℕ → EndPair ℕ) where
  abbrev mapped : List (Interval ℕ) → List (Interval ℕ)
  mapped is = map (with_mapped_ends g) is

  put_by : (o : Ordering) (x y : Interval ℕ) (ys zs : List (Interval ℕ)) → mapped zs ≡ put_rising interval_cmp (with_mapped_ends g x) (mapped ys)
      → mapped (elim o as (λ _. List (Interval ℕ)) [ Less ↦ x ∷ y ∷ ys | Equal ↦ x ∷ ys | Greater ↦ y ∷ zs ])
      ≡ (elim o as (λ _. List (Interval ℕ)) [
        | Less ↦ with_mapped_ends g x ∷ with_mapped_ends g y ∷ mapped ys
        | Equal ↦ with_mapped_ends g x ∷ mapped ys
        | Greater ↦ with_mapped_ends g y ∷ put_rising interval_cmp (with_mapped_ends g x) (mapped ys)
      ])
  put_by Less x y ys zs h = refl
  put_by Equal x y ys zs h = refl
  put_by Greater x y ys zs h = ap (λ us. with_mapped_ends g y ∷ us) h

  put-mapped : (x : Interval ℕ) (ys : List (Interval ℕ)) → mapped (put_rising interval_cmp x ys) ≡ put_rising interval_cmp (with_mapped_ends g x) (mapped ys)
  put-mapped x [] = refl
  put-mapped x (y ∷ ys) = put_by (name_cmp (name_of x) (name_of y)) x y ys (put_rising interval_cmp x ys) (put-mapped x ys)

  changed_by : (o : Ordering) (y : Interval ℕ) (f h : Interval ℕ → Interval ℕ) (ys zs us : List (Interval ℕ))
      → with_mapped_ends g (f y) ≡ h (with_mapped_ends g y) → mapped zs ≡ us
      → mapped (elim o as (λ _. List (Interval ℕ)) [ Less ↦ y ∷ ys | Equal ↦ f y ∷ ys | Greater ↦ y ∷ zs ])
      ≡ (elim o as (λ _. List (Interval ℕ)) [
        | Less ↦ with_mapped_ends g y ∷ mapped ys
        | Equal ↦ h (with_mapped_ends g y) ∷ mapped ys
        | Greater ↦ with_mapped_ends g y ∷ us
      ])
  changed_by Less y f h ys zs us e k = refl
  changed_by Equal y f h ys zs us e k = ap (λ i. i ∷ mapped ys) e
  changed_by Greater y f h ys zs us e k = ap (λ vs. with_mapped_ends g y ∷ vs) k

  changed-mapped : (n : Name) (f h : Interval ℕ → Interval ℕ) → ((i : Interval ℕ) → with_mapped_ends g (f i) ≡ h (with_mapped_ends g i))
      → (ys : List (Interval ℕ))
      → mapped (with_changed n f ys) ≡ with_changed n h (mapped ys)
  changed-mapped n f h e [] = refl
  changed-mapped n f h e (y ∷ ys) =
      changed_by (name_cmp n (name_of y)) y f h ys (with_changed n f ys) (with_changed n h (mapped ys)) (e y) (changed-mapped n f h e ys)

  without_by : (o : Ordering) (y : Interval ℕ) (ys zs us : List (Interval ℕ)) → mapped zs ≡ us
      → mapped (elim o as (λ _. List (Interval ℕ)) [ Less ↦ y ∷ ys | Equal ↦ ys | Greater ↦ y ∷ zs ])
      ≡ (elim o as (λ _. List (Interval ℕ)) [ Less ↦ with_mapped_ends g y ∷ mapped ys | Equal ↦ mapped ys | Greater ↦ with_mapped_ends g y ∷ us ])
  without_by Less y ys zs us k = refl
  without_by Equal y ys zs us k = refl
  without_by Greater y ys zs us k = ap (λ vs. with_mapped_ends g y ∷ vs) k

  without-mapped : (n : Name) (ys : List (Interval ℕ)) → mapped (without_name n ys) ≡ without_name n (mapped ys)
  without-mapped n [] = refl
  without-mapped n (y ∷ ys) = without_by (name_cmp n (name_of y)) y ys (without_name n ys) (without_name n (mapped ys)) (without-mapped n ys)

  there-mapped : (n : Name) (ys : List (Interval ℕ)) → is_some (interval_of n ys) ≡ is_some (interval_of n (mapped ys))
  there-mapped n ys = by (interval_of n ys) ∙ ap (λ (o : Option (Interval ℕ)). is_some o) (sym (interval_of-map n (with_mapped_ends g) ys (λ i. refl)))
    where
      by : (o : Option (Interval ℕ)) → is_some o ≡ is_some (option_map (with_mapped_ends g) o)
      by None = refl
      by (Some i) = refl

  added_by : (b : Bool) (ys zs : List (Interval ℕ)) → mapped (cond b ys zs) ≡ cond b (mapped ys) (mapped zs)
  added_by true ys zs = refl
  added_by false ys zs = refl

  given_by : (b : Bool) (ends : EndPair ℕ) (props : PropertySet) (i : Interval ℕ)
      → with_mapped_ends g (record i { ends = cond b ends i.ends; props = apply i.props props })
      ≡ record (with_mapped_ends g i) { ends = cond b (g ends) (g i.ends); props = apply i.props props }
  given_by true ends props i = refl
  given_by false ends props i = refl

  pub after-mapped : (op : TextOp) (ends : EndPair ℕ) (is : List (Interval ℕ)) → mapped (after_operation op ends is) ≡ after_operation op (g ends) (mapped is)
  after-mapped (One o) ends is = refl
  after-mapped (Group o) ends is = refl
  after-mapped (IntervalAdd label id given props) ends is =
      let x : Interval ℕ = record { label = label; id = id; ends = ends; props = apply [] props } in
      added_by (is_some (interval_of (label, id) is)) is (put_rising interval_cmp x is)
      ∙ ap (λ b. cond b (mapped is) (mapped (put_rising interval_cmp x is))) (there-mapped (label, id) is)
      ∙ ap (λ zs. cond (is_some (interval_of (label, id) (mapped is))) (mapped is) zs) (put-mapped x is)
  after-mapped (IntervalChange label id given props) ends is =
      changed-mapped (label, id) (changed_interval given ends props) (changed_interval given (g ends) props) (λ i. given_by (is_some given) ends props i) is
  after-mapped (IntervalDelete label id) ends is = without-mapped (label, id) is
