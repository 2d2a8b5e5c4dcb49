-- Intervals of some names: none but those are there, and as they are shown they are those of all that have such a name.
use Rattle.std.proofs.Common.{◌≡◌, ◌+◌, ◌<◌, ℕ, Bool, true, false, cond, ◌||◌, is_some, List, [], ◌∷◌, Option, Some, None, option_map, refl, sym, ◌∙◌, ap, subst, filter, get_or, length, map, take}
use Rattle.std.specs.Ordering.{is_eq}
use Rattle.ft_op.specs.declared.operations.TextOp.{TextOp}
use Rattle.ft_op.specs.declared.operations.TextOp.TheVariants.{Group, IntervalAdd, IntervalChange, IntervalDelete, One}
use Rattle.ft_props.specs.Keys.{put_rising}
use Rattle.ft_refs.specs.declared.numbers.Place.{Place}
use Rattle.ft_tree.specs.State.{TreeState}
use Rattle.ft_tree_leaves.specs.declared.text.TextContent.{TextContent}
use Rattle.ft_tree_leaves.specs.Elements.{TreeElement}
use Rattle.ft_interval_store.specs.declared.intervals.EndPair.{EndPair}
use Rattle.ft_interval_store.specs.declared.intervals.Interval.{Interval}
use Rattle.ft_interval_store.specs.declared.pending.Operation.{Operation}
use Rattle.ft_interval_store.specs.Gathered.{Gathers, is_on_any}
use Rattle.ft_interval_store.specs.Intervals.{Name, NamesRise, after_operation, after_own, interval_cmp, interval_of, is_on, name_cmp, name_of, one_after}
use Rattle.ft_interval_store.specs.Named.{AddsNoOther, HasNoOther, name_of_record}
use Rattle.ft_interval_store.specs.Shown.{carried, carried_interval, last, shown_from, shown_one_from, shown_record}
use Rattle.ft_interval_store.specs.Standing.{ShowsAll}
use Rattle.ft_interval_store.proofs.Gathered.{on-next, part-less, rise-shown_from, unnamed-none}
use Rattle.ft_interval_store.proofs.OneInterval.{NamesRise-after, NamesRise-map, interval_of-after, interval_of-map, interval_of-put, same_name}
use Rattle.ft_interval_store.proofs.RisingLists.{filter-map, filtered-alike, found-name, interval_of-filter, kept, rise-filter, same-rising}
use Rattle.ft_interval_store.proofs.ShownAll.{there-shown}
use Rattle.ft_interval_store.proofs.ShownOne.{interval_of-shown_from}

pub neither : (a b : Bool) → a || b ≡ false → (a ≡ false) × (b ≡ false)
neither true b h = absurd (cc)
neither false b h = (refl, h)

-- ---- what is added

pub none-added : {T : Type 0} (wanted : Name → Bool) (is : List (Interval T)) → AddsNoOther wanted is is
none-added wanted is before h n out = h n (neither (before n) (wanted n) out).0

pub one-added : {T : Type 0} (n : Name) (x : Interval T) (is : List (Interval T)) → name_of x ≡ n
    → AddsNoOther (λ m. is_eq (name_cmp m n)) is (put_rising interval_cmp x is)
one-added n x is e before h m out =
    let p = neither (before m) (is_eq (name_cmp m n)) out in
    interval_of-put m x is ∙ ap (λ k. cond (is_eq (name_cmp m k)) (Some x) (interval_of m is)) e
    ∙ ap (λ b. cond b (Some x) (interval_of m is)) p.1 ∙ h m p.0

none-there : {A : Type 0} (o : Option A) → is_some o ≡ false → o ≡ None
none-there None h = refl
none-there (Some x) h = absurd (cc)

-- side by side the same names are there
pub no-other-shown : (tree : TreeState TextContent) (k : ℕ) (is : List (Interval ℕ)) (js : List (Interval Place)) (wanted : Name → Bool)
    → ShowsAll tree k is js → HasNoOther wanted js → HasNoOther wanted is
no-other-shown tree k is js wanted h none n out =
    none-there (interval_of n is) (sym (there-shown tree k n is js h) ∙ ap is_some (none n out))

-- ---- a list of those alone

module _ {T : Type 0} (wanted : Name → Bool) where
  abbrev passes : Interval T → Bool
  passes i = wanted (name_of i)

  passes-as : (n : Name) (ys : List (Interval T)) (i : Interval T) (b : Bool) → interval_of n ys ≡ Some i → wanted n ≡ b
      → kept passes (Some i) ≡ cond b (Some i) None
  passes-as n ys i b e w = ap (λ c. cond c (Some i) None) (ap wanted (found-name n ys i e) ∙ w)

  unwanted-kept : (n : Name) (ys : List (Interval T)) → wanted n ≡ false → kept passes (interval_of n ys) ≡ None
  unwanted-kept n ys w = by (interval_of n ys) refl
    where
      by : (o : Option (Interval T)) → interval_of n ys ≡ o → kept passes o ≡ None
      by None e = refl
      by (Some i) e = passes-as n ys i false e w

  wanted-kept : (n : Name) (ys : List (Interval T)) → HasNoOther wanted ys → kept passes (interval_of n ys) ≡ interval_of n ys
  wanted-kept n ys none = by (interval_of n ys) refl (wanted n) refl
    where
      by : (o : Option (Interval T)) → interval_of n ys ≡ o → (b : Bool) → wanted n ≡ b → kept passes o ≡ o
      by None e b w = refl
      by (Some i) e true w = passes-as n ys i true e w
      by (Some i) e false w = (let never : None ≡ Some i = sym (none n w) ∙ e in absurd (cc))

  only-filtered : (xs ys : List (Interval T)) → NamesRise xs → NamesRise ys → HasNoOther wanted xs
      → ((n : Name) → wanted n ≡ true → interval_of n xs ≡ interval_of n ys) → xs ≡ filter passes ys
  only-filtered xs ys r s none same =
      sym (same-rising (filter passes xs) xs (rise-filter passes xs r) r (λ n. interval_of-filter passes n xs r ∙ wanted-kept n xs none))
      ∙ filtered-alike passes xs ys r s (λ n. by n (wanted n) refl)
    where
      by : (n : Name) (b : Bool) → wanted n ≡ b → kept passes (interval_of n xs) ≡ kept passes (interval_of n ys)
      by n true w = ap (kept passes) (same n w)
      by n false w = unwanted-kept n xs w ∙ sym (unwanted-kept n ys w)

-- ---- what is shown

module _ {U : Type 0} (xs : List (TreeElement U)) where
  pub only-records : (wanted : Name → Bool) (some all : List (Interval ℕ)) → NamesRise some → NamesRise all → HasNoOther wanted some
      → ((n : Name) → wanted n ≡ true → interval_of n some ≡ interval_of n all)
      → map (shown_record xs) some ≡ filter (λ i. wanted (name_of_record i)) (map (shown_record xs) all)
  only-records wanted some all r s none same =
      ap (map (shown_record xs)) (only-filtered wanted some all r s none same)
      ∙ sym (filter-map (λ i. wanted (name_of_record i)) (shown_record xs) all)

  -- those of the names that are wanted, among them all that are pending
  pub around-shown : (ts : List Operation) (from is : List (Interval ℕ)) (wanted : Name → Bool) → NamesRise from → NamesRise is
      → HasNoOther wanted is → ((n : Name) → wanted n ≡ true → interval_of n is ≡ interval_of n from)
      → ((n : Name) → wanted n ≡ false → is_on_any n ts ≡ false)
      → map (shown_record xs) (shown_from xs 0 ts is) ≡ filter (λ i. wanted (name_of_record i)) (map (shown_record xs) (shown_from xs 0 ts from))
  around-shown ts from is wanted rise_from rise none same pending =
      only-records wanted (shown_from xs 0 ts is) (shown_from xs 0 ts from) (rise-shown_from xs 0 ts is rise) (rise-shown_from xs 0 ts from rise_from)
      (λ n w. interval_of-shown_from xs n 0 ts is rise ∙ ap (shown_one_from xs n 0 ts) (none n w) ∙ unnamed-none xs n 0 ts (pending n w))
      (λ n w. interval_of-shown_from xs n 0 ts is rise ∙ ap (shown_one_from xs n 0 ts) (same n w) ∙ sym (interval_of-shown_from xs n 0 ts from rise_from))

-- ---- one name alone

-- they rise, and none is of another name
pub record IsOf (n : Name) (is : List (Interval ℕ)) : Type 0 where
  pub rises : NamesRise is
  pub only : HasNoOther (λ m. is_eq (name_cmp m n)) is

other-on : (op : TextOp) (n m : Name) → is_on n op ≡ true → is_eq (name_cmp m n) ≡ false → is_on m op ≡ false
other-on (One op) n m h w = refl
other-on (Group ops) n m h w = refl
other-on (IntervalAdd label id ends props) n m h w = subst (λ k. is_eq (name_cmp m k) ≡ false) (same_name n (label, id) h) w
other-on (IntervalChange label id ends props) n m h w = subst (λ k. is_eq (name_cmp m k) ≡ false) (same_name n (label, id) h) w
other-on (IntervalDelete label id) n m h w = subst (λ k. is_eq (name_cmp m k) ≡ false) (same_name n (label, id) h) w

module _ {U : Type 0} (xs : List (TreeElement U)) (n : Name) (k m : ℕ) (op : TextOp) (ends : EndPair ℕ) (is : List (Interval ℕ)) (o : IsOf n is) where
  abbrev there : List (Interval ℕ)
  there = carried xs k m is

  rise-there : NamesRise there
  rise-there = NamesRise-map (carried_interval xs k m) is (λ i. refl) o.rises

  at-there : (a : Name) → interval_of a there ≡ option_map (carried_interval xs k m) (interval_of a is)
  at-there a = interval_of-map a (carried_interval xs k m) is (λ i. refl)

  other-there : HasNoOther (λ a. is_eq (name_cmp a n)) there
  other-there a w = at-there a ∙ ap (option_map (carried_interval xs k m)) (o.only a w)

  pub carried-of : IsOf n there
  carried-of = record { rises = rise-there; only = other-there }

  -- after the operation of the next stage, where it is on that name
  pub next-of : IsOf n (cond (is_on n op) (after_operation op ends there) there)
  next-of = by (is_on n op) refl
    where
      by : (b : Bool) → is_on n op ≡ b → IsOf n (cond b (after_operation op ends there) there)
      by true e = record {
        rises = NamesRise-after op ends there rise-there;
        only = λ a w. interval_of-after a op ends there rise-there
            ∙ ap (λ b. cond b (after_own op ends (interval_of a there)) (interval_of a there)) (other-on op n a e w) ∙ other-there a w;
      }
      by false e = carried-of

  pub next-at : interval_of n (cond (is_on n op) (after_operation op ends there) there)
      ≡ one_after n op ends (option_map (carried_interval xs k m) (interval_of n is))
  next-at = by (is_on n op) refl ∙ ap (one_after n op ends) (at-there n)
    where
      by : (b : Bool) → is_on n op ≡ b → interval_of n (cond b (after_operation op ends there) there) ≡ one_after n op ends (interval_of n there)
      by true e = interval_of-after n op ends there rise-there
      by false e = sym (ap (λ b. cond b (after_own op ends (interval_of n there)) (interval_of n there)) e)

-- what is shown of it in the end is what is shown of all with its name
module _ {U : Type 0} (xs : List (TreeElement U)) (n : Name) (k : ℕ) (ts : List Operation) (from is : List (Interval ℕ)) (o : IsOf n is) where
  pub one-shown : NamesRise from → option_map (carried_interval xs k last) (interval_of n is) ≡ shown_one_from xs n 0 ts (interval_of n from)
      → map (shown_record xs) (carried xs k last is)
      ≡ filter (λ i. is_eq (name_cmp (name_of_record i) n)) (map (shown_record xs) (shown_from xs 0 ts from))
  one-shown rise e =
      let some = carried xs k last is in
      let all = shown_from xs 0 ts from in
      let same : interval_of n some ≡ interval_of n all =
      interval_of-map n (carried_interval xs k last) is (λ i. refl) ∙ e ∙ sym (interval_of-shown_from xs n 0 ts from rise) in
      only-records xs (λ a. is_eq (name_cmp a n)) some all (NamesRise-map (carried_interval xs k last) is (λ i. refl) o.rises)
      (rise-shown_from xs 0 ts from rise)
      (λ a w. interval_of-map a (carried_interval xs k last) is (λ i. refl) ∙ ap (option_map (carried_interval xs k last)) (o.only a w))
      (λ a w. subst (λ b. interval_of b some ≡ interval_of b all) (sym (same_name a n w)) same)

pub filter-none : {A : Type 0} (xs : List A) → filter (λ x. false) xs ≡ []
filter-none [] = refl
filter-none (x ∷ xs) = filter-none xs

-- where no name passes the test nothing needs to be added
pub none-gathered : (tree : TreeState TextContent) (from : List (Interval ℕ)) (all : List (Interval Place)) → Gathers tree from (λ n. false) all all
none-gathered tree from all is before h p = (is, h, part-less from is before (λ n. before n || false) (λ n e. or-none (before n) e) p)
  where
    or-none : (b : Bool) → b || false ≡ true → b ≡ true
    or-none true e = refl
    or-none false e = e

-- one operation more
pub next-only : (ts : List Operation) (i : ℕ) (t : Operation) → i < length ts → t ≡ get_or ts i t → (all : List (Interval Place))
    → HasNoOther (λ n. is_on_any n (take i ts) || is_on n t.op) all → HasNoOther (λ n. is_on_any n (take (i + 1) ts)) all
next-only ts i t within at all h n out = h n (sym (on-next ts i t within at n) ∙ out)
