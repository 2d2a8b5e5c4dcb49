-- No more keys are found than intervals meet the range or have a pending operation.
use Rattle.std.proofs.Common.{◌≡◌, ◌≢◌, ℕ, suc, ◌+◌, ◌≤◌, Bool, true, false, cond, ◌||◌, is_some, List, [], ◌∷◌, length, Option, Some, None, refl, sym, ◌∙◌, ap, inl, inr, arith}
use Rattle.std.specs.Prelude.{◌⊎◌}
use Rattle.std.specs.Ordering.{is_eq}
use Rattle.std.specs.declared.cmp.Ordering.TheVariants.{Less, Equal, Greater}
use Rattle.ft_op.specs.declared.operations.TextOp.{TextOp}
use Rattle.ft_op.specs.declared.operations.TextOp.TheVariants.{One, Group, IntervalAdd, IntervalChange, IntervalDelete}
use Rattle.ft_interval_store.specs.declared.intervals.Interval.{Interval}
use Rattle.ft_interval_store.specs.declared.pending.Operation.{Operation}
use Rattle.ft_interval_store.specs.Gathered.{is_on_any}
use Rattle.ft_interval_store.specs.Intervals.{Name, NamesRise, interval_of, is_on, name_cmp, name_of, without_name}
use Rattle.ft_interval_store.proofs.OneInterval.{interval_of-without, same_name}
use Rattle.ft_interval_store.proofs.RisingLists.{at-greater, at-less}
use Rattle.ft_interval_store.proofs.RisingNames.{NamesRise-without, by_order}

-- ---- a list without a name that it has is shorter

shorter : (n : Name) (is : List (Interval ℕ)) (i : Interval ℕ) → interval_of n is ≡ Some i → length is ≡ suc (length (without_name n is))
shorter n [] i h = (let never : None ≡ Some i = h in absurd (cc))
shorter n (x ∷ is) i h = by_order (name_cmp n (name_of x))
    (λ e. (let never : None ≡ Some i = sym (at-less n x is e) ∙ h in absurd (cc)))
    (λ e. ap (λ (js : List (Interval ℕ)). suc (length js)) (sym (ap (λ o. elim o as (λ _. List (Interval ℕ)) [ Less ↦ x ∷ is | Equal ↦ is | Greater ↦ x ∷ without_name n is ]) e)))
    (λ e. ap suc (shorter n is i (sym (at-greater n x is e) ∙ h))
    ∙ ap (λ (js : List (Interval ℕ)). suc (length js)) (sym (ap (λ o. elim o as (λ _. List (Interval ℕ)) [ Less ↦ x ∷ is | Equal ↦ is | Greater ↦ x ∷ without_name n is ]) e)))

-- the operations without the first that is on the name
abbrev without_one : Name → List Operation → List Operation
without_one n [] = []
without_one n (t ∷ ts) = cond (is_on n t.op) ts (t ∷ without_one n ts)

fewer : (n : Name) (ts : List Operation) → is_on_any n ts ≡ true → length ts ≡ suc (length (without_one n ts))
fewer n [] h = (cc)
fewer n (t ∷ ts) h = step (is_on n t.op) h (λ g. fewer n ts g)
  where
    step : (b : Bool) → b || is_on_any n ts ≡ true → (is_on_any n ts ≡ true → length ts ≡ suc (length (without_one n ts)))
        → length (t ∷ ts) ≡ suc (length (cond b ts (t ∷ without_one n ts)))
    step true g rest = refl
    step false g rest = ap suc (rest g)

on-same : (n m : Name) (op : TextOp) → is_on n op ≡ true → is_on m op ≡ true → m ≡ n
on-same n m (IntervalAdd label id ends props) h k = same_name m (label, id) k ∙ sym (same_name n (label, id) h)
on-same n m (IntervalChange label id ends props) h k = same_name m (label, id) k ∙ sym (same_name n (label, id) h)
on-same n m (IntervalDelete label id) h k = same_name m (label, id) k ∙ sym (same_name n (label, id) h)
on-same n m (One o) h k = (cc)
on-same n m (Group o) h k = (cc)

still-on : (n m : Name) (ts : List Operation) → m ≢ n → is_on_any m ts ≡ true → is_on_any m (without_one n ts) ≡ true
still-on n m [] d h = h
still-on n m (t ∷ ts) d h = step (is_on n t.op) refl (is_on m t.op) refl h (λ g. still-on n m ts d g)
  where
    step : (b : Bool) → is_on n t.op ≡ b → (c : Bool) → is_on m t.op ≡ c → c || is_on_any m ts ≡ true
        → (is_on_any m ts ≡ true → is_on_any m (without_one n ts) ≡ true) → is_on_any m (cond b ts (t ∷ without_one n ts)) ≡ true
    step true e true f g rest = absurd (d (on-same n m t.op e f))
    step true e false f g rest = g
    step false e true f g rest = ap (λ c. c || is_on_any m (without_one n ts)) f
    step false e false f g rest = ap (λ c. c || is_on_any m (without_one n ts)) f ∙ rest g

-- ---- names that are all there

-- the name is that of one of the intervals, or one of the operations is on it
abbrev pub IsCounted : List (Interval ℕ) → List Operation → Name → Type 0
IsCounted is ts n = (is_some (interval_of n is) ≡ true) ⊎ (is_on_any n ts ≡ true)

abbrev pub AreCounted : List (Interval ℕ) → List Operation → List Name → Type 0
AreCounted is ts [] = Unit {0}
AreCounted is ts (n ∷ ns) = IsCounted is ts n × AreCounted is ts ns

-- the name isn't among these
abbrev pub IsApart : Name → List Name → Type 0
IsApart n [] = Unit {0}
IsApart n (m ∷ ms) = (m ≢ n) × IsApart n ms

abbrev pub AreApart : List Name → Type 0
AreApart [] = Unit {0}
AreApart (n ∷ ns) = IsApart n ns × AreApart ns

other-eq : (n m : Name) → m ≢ n → is_eq (name_cmp m n) ≡ false
other-eq n m d = by (is_eq (name_cmp m n)) refl
  where
    by : (b : Bool) → is_eq (name_cmp m n) ≡ b → is_eq (name_cmp m n) ≡ false
    by false e = e
    by true e = absurd (d (same_name m n e))

less-intervals : (n : Name) (is : List (Interval ℕ)) (ts : List Operation) (ms : List Name) → NamesRise is → IsApart n ms → AreCounted is ts ms
    → AreCounted (without_name n is) ts ms
less-intervals n is ts [] r d h = tt
less-intervals n is ts (m ∷ ms) r d h = (one h.0, less-intervals n is ts ms r d.1 h.1)
  where
    same : interval_of m (without_name n is) ≡ interval_of m is
    same = interval_of-without m n is r ∙ ap (λ b. cond b None (interval_of m is)) (other-eq n m d.0)

    one : IsCounted is ts m → IsCounted (without_name n is) ts m
    one (inl e) = inl (ap (λ o. is_some o) same ∙ e)
    one (inr e) = inr e

less-operations : (n : Name) (is : List (Interval ℕ)) (ts : List Operation) (ms : List Name) → IsApart n ms → AreCounted is ts ms
    → AreCounted is (without_one n ts) ms
less-operations n is ts [] d h = tt
less-operations n is ts (m ∷ ms) d h = (one h.0, less-operations n is ts ms d.1 h.1)
  where
    one : IsCounted is ts m → IsCounted is (without_one n ts) m
    one (inl e) = inl e
    one (inr e) = inr (still-on n m ts d.0 e)

pub counted : (ns : List Name) (is : List (Interval ℕ)) (ts : List Operation) → NamesRise is → AreApart ns → AreCounted is ts ns
    → length ns ≤ length is + length ts
counted [] is ts r d h = omega arith
counted (n ∷ ns) is ts r d h = one h.0 (λ js us s g. counted ns js us s d.1 g)
  where
    by : (o : Option (Interval ℕ)) → interval_of n is ≡ o → is_some o ≡ true
        → ((js : List (Interval ℕ)) (us : List Operation) → NamesRise js → AreCounted js us ns → length ns ≤ length js + length us)
        → suc (length ns) ≤ length is + length ts
    by None e f rest = (cc)
    by (Some i) e f rest =
        let len = shorter n is i e in
        let more = rest (without_name n is) ts (NamesRise-without n is r) (less-intervals n is ts ns r d.0 h.1) in
        omega (arith, len, more)

    one : IsCounted is ts n
        → ((js : List (Interval ℕ)) (us : List Operation) → NamesRise js → AreCounted js us ns → length ns ≤ length js + length us)
        → suc (length ns) ≤ length is + length ts
    one (inl e) rest = by (interval_of n is) refl e rest
    one (inr e) rest =
        let len = fewer n ts e in
        let more = rest is (without_one n ts) r (less-operations n is ts ns d.0 h.1) in
        omega (arith, len, more)
