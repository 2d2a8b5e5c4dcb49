-- What is shown of the interval of one name, beside what is shown of all; and whether it is there.
use Rattle.std.proofs.Common.{◌≡◌, ℕ, ◌+◌, ◌<◌, Bool, true, false, cond, is_some, List, [], ◌∷◌, ◌++◌, drop, get_or, length, map, take, Option, None, Some, option_map, refl, sym, ◌∙◌, ap}
use Rattle.std.proofs.lemmas.List.{drop_more, take-append-drop}
use Rattle.ft_op.specs.declared.operations.TextOp.{TextOp}
use Rattle.ft_op.specs.declared.operations.TextOp.TheVariants.{One, Group, IntervalAdd, IntervalChange, IntervalDelete}
use Rattle.ft_tree_leaves.specs.Elements.{TreeElement}
use Rattle.ft_interval_store.specs.declared.intervals.EndPair.{EndPair}
use Rattle.ft_interval_store.specs.declared.intervals.Interval.{Interval}
use Rattle.ft_interval_store.specs.declared.pending.Operation.{Operation}
use Rattle.ft_interval_store.specs.Ends.{References, map_ends, places_of_ends}
use Rattle.ft_interval_store.specs.Intervals.{Name, NamesRise, after_operation, after_own, interval_of, is_on, one_after, there_after, told_there}
use Rattle.ft_interval_store.specs.Shown.{carried, carried_interval, is_there, last, settled_end, settled_interval, shown_from, shown_intervals, shown_one_from}
use Rattle.ft_interval_store.specs.State.{placed_intervals, placed_operations, with_mapped_ends}
use Rattle.ft_interval_store.proofs.OneInterval.{NamesRise-after, NamesRise-map, interval_of-after, interval_of-map}

module _ {U : Type 0} (xs : List (TreeElement U)) where
  pub interval_of-shown_from : (n : Name) (k : ℕ) (ts : List Operation) (is : List (Interval ℕ)) → NamesRise is
      → interval_of n (shown_from xs k ts is) ≡ shown_one_from xs n k ts (interval_of n is)
  interval_of-shown_from n k [] is r = interval_of-map n (carried_interval xs k last) is (λ i. refl)
  interval_of-shown_from n k (t ∷ ts) is r =
      let was : List (Interval ℕ) = carried xs k t.stage is in
      let rise : NamesRise was = NamesRise-map (carried_interval xs k t.stage) is (λ i. refl) r in
      let ends : EndPair ℕ = map_ends (settled_end xs t.stage) t.ends in
      interval_of-shown_from n t.stage ts (after_operation t.op ends was) (NamesRise-after t.op ends was rise)
      ∙ ap (λ i. shown_one_from xs n t.stage ts i)
      (interval_of-after n t.op ends was rise ∙ ap (λ i. one_after n t.op ends i) (interval_of-map n (carried_interval xs k t.stage) is (λ i. refl)))

  -- from the acknowledged intervals with references on
  pub interval_of-shown : (n : Name) (refs : References) (is : List (Interval ℕ)) (ts : List Operation) → NamesRise is
      → interval_of n (shown_intervals xs (placed_intervals refs is) ts)
      ≡ shown_one_from xs n 0 ts (option_map (settled_interval xs 0) (option_map (with_mapped_ends (places_of_ends refs)) (interval_of n is)))
  interval_of-shown n refs is ts r =
      let places : List (Interval ℕ) = placed_intervals refs is in
      let rise : NamesRise places = NamesRise-map (with_mapped_ends (places_of_ends refs)) is (λ i. refl) r in
      interval_of-shown_from n 0 ts (map (settled_interval xs 0) places) (NamesRise-map (settled_interval xs 0) places (λ i. refl) rise)
      ∙ ap (λ i. shown_one_from xs n 0 ts i)
      (interval_of-map n (settled_interval xs 0) places (λ i. refl)
      ∙ ap (λ i. option_map (settled_interval xs 0) i) (interval_of-map n (with_mapped_ends (places_of_ends refs)) is (λ i. refl)))

-- ---- whether it is there, which doesn't depend on its ends

some-mapped : {A B : Type 0} (f : A → B) (o : Option A) → is_some (option_map f o) ≡ is_some o
some-mapped f None = refl
some-mapped f (Some x) = refl

told : (on : Bool) (op : TextOp) (ends : EndPair ℕ) (i : Option (Interval ℕ))
    → is_some (cond on (after_own op ends i) i) ≡ elim (cond on (there_after op) None) as (λ _. Bool) [ None ↦ is_some i | Some there ↦ there ]
told false op ends i = refl
told true (IntervalAdd label id given props) ends None = refl
told true (IntervalAdd label id given props) ends (Some i) = refl
told true (IntervalChange label id given props) ends None = refl
told true (IntervalChange label id given props) ends (Some i) = refl
told true (IntervalDelete label id) ends i = refl
told true (One op) ends i = refl
told true (Group ops) ends i = refl

module _ {U : Type 0} (xs : List (TreeElement U)) where
  there-from : (n : Name) (k : ℕ) (ts : List Operation) (i : Option (Interval ℕ)) → is_some (shown_one_from xs n k ts i) ≡ is_there n ts (is_some i)
  there-from n k [] i = some-mapped (carried_interval xs k last) i
  there-from n k (t ∷ ts) i =
      let ends : EndPair ℕ = map_ends (settled_end xs t.stage) t.ends in
      let before : Option (Interval ℕ) = option_map (carried_interval xs k t.stage) i in
      there-from n t.stage ts (one_after n t.op ends before)
      ∙ ap (is_there n ts) (told (is_on n t.op) t.op ends before
      ∙ ap (λ (b : Bool). elim (told_there n t.op) as (λ _. Bool) [ None ↦ b | Some there ↦ there ]) (some-mapped (carried_interval xs k t.stage) i))

  there-placed : (n : Name) (refs : References) (ts : List Operation) (before : Bool) → is_there n (placed_operations refs ts) before ≡ is_there n ts before
  there-placed n refs [] before = refl
  there-placed n refs (t ∷ ts) before = there-placed n refs ts (elim (told_there n t.op) as (λ _. Bool) [ None ↦ before | Some there ↦ there ])

  pub there-shown : (n : Name) (refs : References) (is : List (Interval ℕ)) (ts : List Operation) → NamesRise is
      → is_some (interval_of n (shown_intervals xs (placed_intervals refs is) (placed_operations refs ts))) ≡ is_there n ts (is_some (interval_of n is))
  there-shown n refs is ts r =
      let i : Option (Interval ℕ) = option_map (with_mapped_ends (places_of_ends refs)) (interval_of n is) in
      ap (λ (o : Option (Interval ℕ)). is_some o) (interval_of-shown xs n refs is (placed_operations refs ts) r)
      ∙ there-from n 0 (placed_operations refs ts) (option_map (settled_interval xs 0) i)
      ∙ there-placed n refs ts (is_some (option_map (settled_interval xs 0) i))
      ∙ ap (is_there n ts) (some-mapped (settled_interval xs 0) i ∙ some-mapped (with_mapped_ends (places_of_ends refs)) (interval_of n is))

-- ---- from the last operation on

there-append : (n : Name) (xs ys : List Operation) (before : Bool) → is_there n (xs ++ ys) before ≡ is_there n ys (is_there n xs before)
there-append n [] ys before = refl
there-append n (x ∷ xs) ys before = there-append n xs ys (elim (told_there n x.op) as (λ _. Bool) [ None ↦ before | Some there ↦ there ])

module _ (n : Name) (ts : List Operation) (i j : ℕ) (next : i + 1 ≡ j) (t : Operation) (within : i < length ts) (is : t ≡ get_or ts i t)
    (behind : (b : Bool) → is_there n (drop j ts) b ≡ b) where
  at-front : drop i ts ≡ t ∷ drop j ts
  at-front = drop_more ts i t within ∙ ap (λ (u : Operation). u ∷ drop (i + 1) ts) (sym is) ∙ ap (λ (k : ℕ). t ∷ drop k ts) next

  -- one that says nothing of it
  pub there-more : told_there n t.op ≡ None → (b : Bool) → is_there n (drop i ts) b ≡ b
  there-more none b =
      ap (λ us. is_there n us b) at-front
      ∙ ap (λ (o : Option Bool). is_there n (drop j ts) (elim o as (λ _. Bool) [ None ↦ b | Some there ↦ there ])) none ∙ behind b

  -- the last that says something of it
  pub there-told : (v : Bool) → told_there n t.op ≡ Some v → (b : Bool) → is_there n ts b ≡ v
  there-told v says b =
      ap (λ us. is_there n us b) (sym (take-append-drop i ts)) ∙ there-append n (take i ts) (drop i ts) b
      ∙ ap (λ us. is_there n us (is_there n (take i ts) b)) at-front
      ∙ ap (λ (o : Option Bool). is_there n (drop j ts) (elim o as (λ _. Bool) [ None ↦ is_there n (take i ts) b | Some there ↦ there ])) says ∙ behind v
