-- Nodes in the order of their leaves: a list of them that rises is one alone.
use Rattle.std.proofs.Common.{◌≡◌, ◌≢◌, ℕ, suc, ◌+◌, ◌<◌, ◌≤◌, All, Bool, true, false, cond, ◌&&◌, ◌||◌, List, [], ◌∷◌, ◌++◌, filter, inl, inr, length, map, get_or, Option, Some, None, refl, subst, sym, ◌∙◌, ap, append_assoc, arith, drop, nat_eq}
use Rattle.std.specs.Prelude.{⊤}
use Rattle.std.specs.List.{AllByRecursion}
use Rattle.std.specs.List.Sorted.{IsNonDecreasingBy, IsPermutation}
use Rattle.std.proofs.lemmas.Bool.{and_parts, cases_eq, eq-eqb, ne_eqb, or_cases, or_left, or_right}
use Rattle.std.proofs.lemmas.List.{drop_more}
use Rattle.std.proofs.lemmas.List.Elements.{All-from_recursion, All-head, All-tail, recursion_from_All}
use Rattle.std.proofs.lemmas.List.Sorted.{All-permutation, IsPermutation-map, list_any-IsPermutation}
use Rattle.ft_arena.proofs.IdLemmas.{same_other, same_refl}
use Rattle.ft_block.specs.Leaves.{IsLeafIn, ids, left_of, length_by, times_leaf, value_at}
use Rattle.ft_block.specs.declared.leaves.LenView.TheVariants.{All as AllElements}
use Rattle.ft_tree_leaves.specs.declared.leaves.TreeLeaf.{TreeLeaf}
use Rattle.ft_tree_leaves.specs.Edits.{is_touched_by, touched_nodes}
use Rattle.ft_tree_leaves.specs.LeafLists.{leaf_length}
use Rattle.ft_tree_blocks.specs.declared.next_stages.Wanted.TheVariants.{Anything}
use Rattle.ft_tree_blocks.specs.StageLeaves.{elements_left, is_given_node, touched_places, unrepeated}
use Rattle.ft_tree_blocks.specs.Touched.{holds}
use Rattle.ft_tree_blocks.specs.Wanted.{is_wanted_at, is_wanted_by}
use Rattle.ft_tree_blocks.proofs.AckedNodes.{all-held}
use Rattle.ft_tree_blocks.proofs.TouchedLists.{eq_from, eq_to, holds-filter, or_again}

module _ (f : ℕ → ℕ) where
  -- the numbers of the nodes rise
  abbrev RiseBy : List ℕ → Type 0
  RiseBy [] = ⊤
  RiseBy (n ∷ ns) = AllByRecursion (λ m. f n < f m) ns × RiseBy ns

  -- the same, where neighbours may be equal
  abbrev ClimbBy : List ℕ → Type 0
  ClimbBy [] = ⊤
  ClimbBy (n ∷ ns) = AllByRecursion (λ m. f n ≤ f m) ns × ClimbBy ns

  above : (n z : ℕ) (ns : List ℕ) → AllByRecursion (λ m. f n < f m) ns → holds ns z ≡ true → f n < f z
  above n z [] h t = (cc)
  above n z (m ∷ ns) h t = elim (or_cases (nat_eq m z) (holds ns z) t) [
    | inl here ↦ omega (arith, ap f (eq_from m z here), h.0)
    | inr more ↦ above n z ns h.1 more
  ]

  not_held : (n : ℕ) (ns : List ℕ) → AllByRecursion (λ m. f n < f m) ns → holds ns n ≡ true → ⊥
  not_held n ns h t = let less : f n < f n = above n n ns h t in omega (arith, less)

  first_is : (n m : ℕ) (ns ms : List ℕ) → RiseBy (n ∷ ns) → RiseBy (m ∷ ms) → ((z : ℕ) → holds (n ∷ ns) z ≡ holds (m ∷ ms) z) → n ≡ m
  first_is n m ns ms hn hm same =
      elim (or_cases (nat_eq m n) (holds ms n) (sym (same n) ∙ or_left (nat_eq n n) (holds ns n) (eq_to n))) [
        | inl e ↦ sym (eq_from m n e)
        | inr low ↦ elim (or_cases (nat_eq n m) (holds ns m) (same m ∙ or_left (nat_eq m m) (holds ms m) (eq_to m))) [
          | inl e ↦ eq_from n m e
          | inr high ↦ absurd (omega (arith, above m n ms hm.0 low, above n m ns hn.0 high))
        ]
      ]

  none_held : (n : ℕ) (ns : List ℕ) → ((z : ℕ) → false ≡ holds (n ∷ ns) z) → ⊥
  none_held n ns same = let no : false ≡ true = same n ∙ or_left (nat_eq n n) (holds ns n) (eq_to n) in (cc)

  rest_by : (n z : ℕ) (x y : Bool) → (x ≡ true → n ≢ z) → (y ≡ true → n ≢ z) → (nat_eq n z || x) ≡ (nat_eq n z || y) → x ≡ y
  rest_by n z true true hx hy e = refl
  rest_by n z false false hx hy e = refl
  rest_by n z true false hx hy e =
      let own : nat_eq n z ≡ false = ne_eqb n z (hx refl) in
      ap (λ p. p || true) (sym own) ∙ e ∙ ap (λ p. p || false) own
  rest_by n z false true hx hy e =
      let own : nat_eq n z ≡ false = ne_eqb n z (hy refl) in
      ap (λ p. p || false) (sym own) ∙ e ∙ ap (λ p. p || true) own

  rest_held : (n : ℕ) (ns ms : List ℕ) → RiseBy (n ∷ ns) → RiseBy (n ∷ ms) → ((z : ℕ) → holds (n ∷ ns) z ≡ holds (n ∷ ms) z)
      → (z : ℕ) → holds ns z ≡ holds ms z
  rest_held n ns ms hn hm same z =
      rest_by n z (holds ns z) (holds ms z)
      (λ t s. not_held n ns hn.0 (subst (λ w. holds ns w ≡ true) (sym s) t))
      (λ t s. not_held n ms hm.0 (subst (λ w. holds ms w ≡ true) (sym s) t))
      (same z)

  -- two lists that rise and hold the same nodes are the same
  rises-same : (ns ms : List ℕ) → RiseBy ns → RiseBy ms → ((z : ℕ) → holds ns z ≡ holds ms z) → ns ≡ ms
  rises-same [] [] hn hm same = refl
  rises-same [] (m ∷ ms) hn hm same = absurd (none_held m ms same)
  rises-same (n ∷ ns) [] hn hm same = absurd (none_held n ns (λ z. sym (same z)))
  rises-same (n ∷ ns) (m ∷ ms) hn hm same =
      let e = first_is n m ns ms hn hm same in
      let rise : RiseBy (n ∷ ms) = subst (λ i. RiseBy (i ∷ ms)) (sym e) hm in
      let held : (z : ℕ) → holds (n ∷ ns) z ≡ holds (n ∷ ms) z = λ z. same z ∙ ap (λ i. holds (i ∷ ms) z) (sym e) in
      ap (λ i. i ∷ ns) e ∙ ap (λ js. m ∷ js) (rises-same ns ms hn.1 hm.1 (rest_held n ns ms hn rise held))

  lower_all : (m n : ℕ) (ns : List ℕ) → f m < f n → AllByRecursion (λ z. f n < f z) ns → AllByRecursion (λ z. f m < f z) ns
  lower_all m n [] lt all = tt
  lower_all m n (z ∷ ns) lt all = (omega (arith, all.0), lower_all m n ns lt all.1)

  rises_by : (b : Bool) (n : ℕ) (ns : List ℕ) → AllByRecursion (λ z. f n < f z) ns → RiseBy ns → RiseBy (cond b [] (n ∷ []) ++ ns)
  rises_by true n ns all h = h
  rises_by false n ns all h = (all, h)

  -- of a list that climbs, of equal neighbours the first alone
  module _ (P : ℕ → Type 0) (differ : (a b : ℕ) → P a → P b → f a ≡ f b → a ≡ b) where
    less : (m n : ℕ) → P m → P n → nat_eq m n ≡ false → f m ≤ f n → f m < f n
    less m n pm pn ne le = elim (cases_eq (f m) (f n)) [
      | inl e ↦ absurd (let yes : nat_eq m n ≡ true = eq-eqb m n (differ m n pm pn e) in (cc))
      | inr d ↦ omega arith
    ]

    behind_by : (b : Bool) (m n : ℕ) (ns : List ℕ) → nat_eq m n ≡ b → P m → P n → f m ≤ f n → AllByRecursion (λ z. f n < f z) ns
        → AllByRecursion (λ z. f m < f z) (cond b [] (n ∷ []) ++ ns)
    behind_by true m n ns e pm pn le all = subst (λ i. AllByRecursion (λ z. f i < f z) ns) (sym (eq_from m n e)) all
    behind_by false m n ns e pm pn le all = let lt = less m n pm pn e le in (lt, lower_all m n ns lt all)

    behind : (m : ℕ) (ns : List ℕ) → P m → AllByRecursion P ns → AllByRecursion (λ z. f m ≤ f z) ns → ClimbBy ns
        → AllByRecursion (λ z. f m < f z) (unrepeated (Some m) ns)
    behind m [] pm ps le h = tt
    behind m (n ∷ ns) pm ps le h = behind_by (nat_eq m n) m n (unrepeated (Some n) ns) refl pm ps.0 le.0 (behind n ns ps.0 ps.1 h.0 h.1)

    unrepeated-rises : (o : Option ℕ) (ns : List ℕ) → AllByRecursion P ns → ClimbBy ns → RiseBy (unrepeated o ns)
    unrepeated-rises o [] ps h = tt
    unrepeated-rises o (n ∷ ns) ps h =
        rises_by (is_given_node o n) n (unrepeated (Some n) ns) (behind n ns ps.0 ps.1 h.0 h.1) (unrepeated-rises (Some n) ns ps.1 h.1)

  -- pairs of a node and its number, by rising numbers
  all_climb : (p : ℕ × ℕ) (ps : List (ℕ × ℕ)) → ((i : ℕ) (d : ℕ × ℕ) → i < length ps → p.0 ≤ (get_or ps i d).0) → p.0 ≡ f p.1
      → AllByRecursion (λ (q : ℕ × ℕ). q.0 ≡ f q.1) ps → AllByRecursion (λ m. f p.1 ≤ f m) (map (λ (q : ℕ × ℕ). q.1) ps)
  all_climb p [] low e all = tt
  all_climb p (q ∷ qs) low e all =
      let first : p.0 ≤ q.0 = low 0 q (omega arith) in
      (omega (arith, first, e, all.0), all_climb p qs (λ i d lt. low (suc i) d (omega arith)) e all.1)

  pairs-climb : (ps : List (ℕ × ℕ)) → IsNonDecreasingBy (λ (p : ℕ × ℕ). p.0) ps → AllByRecursion (λ (q : ℕ × ℕ). q.0 ≡ f q.1) ps
      → ClimbBy (map (λ (q : ℕ × ℕ). q.1) ps)
  pairs-climb [] up all = tt
  pairs-climb (p ∷ ps) up all = (
    all_climb p ps (λ i d lt. up 0 (suc i) d (omega arith) (omega arith)) all.0 all.1,
    pairs-climb ps (λ i j d le lt. up (suc i) (suc j) d (omega arith) (omega arith)) all.1,
  )

  pairs-second : (ns : List ℕ) → map (λ (q : ℕ × ℕ). q.1) (map (λ n. (f n, n)) ns) ≡ ns
  pairs-second [] = refl
  pairs-second (n ∷ ns) = ap (λ ms. n ∷ ms) (pairs-second ns)

  pairs-all : (P : ℕ → Type 0) (ns : List ℕ) → AllByRecursion P ns → AllByRecursion (λ (q : ℕ × ℕ). (q.0 ≡ f q.1) × P q.1) (map (λ n. (f n, n)) ns)
  pairs-all P [] all = tt
  pairs-all P (n ∷ ns) all = ((refl, all.0), pairs-all P ns all.1)

all_first : {A : Type 0} (P Q : A → Type 0) (xs : List A) → AllByRecursion (λ x. P x × Q x) xs → AllByRecursion P xs
all_first P Q [] all = tt
all_first P Q (x ∷ xs) all = (all.0.0, all_first P Q xs all.1)

all_second : (P : ℕ → Type 0) (Q : ℕ × ℕ → Type 0) (ps : List (ℕ × ℕ)) → AllByRecursion (λ (q : ℕ × ℕ). Q q × P q.1) ps
    → AllByRecursion P (map (λ (q : ℕ × ℕ). q.1) ps)
all_second P Q [] all = tt
all_second P Q (p ∷ ps) all = (all.0.1, all_second P Q ps all.1)

-- a list of nodes holds the same without those that are repeated
given_same : (o : Option ℕ) (n z : ℕ) → is_given_node o n ≡ true → is_given_node o z ≡ nat_eq n z
given_same None n z h = (cc)
given_same (Some m) n z h = ap (λ i. nat_eq i z) (eq_from m n h)

unrepeated_by : (b : Bool) (o : Option ℕ) (n z : ℕ) (us ns : List ℕ) → is_given_node o n ≡ b → (nat_eq n z || holds us z) ≡ (nat_eq n z || holds ns z)
    → (is_given_node o z || holds (cond b [] (n ∷ []) ++ us) z) ≡ (is_given_node o z || (nat_eq n z || holds ns z))
unrepeated_by true o n z us ns e h =
    let s = given_same o n z e in
    ap (λ p. p || holds us z) s ∙ h ∙ sym (or_again (nat_eq n z) (holds ns z)) ∙ ap (λ p. p || (nat_eq n z || holds ns z)) (sym s)
unrepeated_by false o n z us ns e h = ap (λ p. is_given_node o z || p) h

unrepeated-held : (o : Option ℕ) (ns : List ℕ) (z : ℕ) → (is_given_node o z || holds (unrepeated o ns) z) ≡ (is_given_node o z || holds ns z)
unrepeated-held o [] z = refl
unrepeated-held o (n ∷ ns) z = unrepeated_by (is_given_node o n) o n z (unrepeated (Some n) ns) ns refl (unrepeated-held (Some n) ns z)

-- the same nodes with other numbers
all_moved : (f g : ℕ → ℕ) (c n : ℕ) (ns : List ℕ) → ((z : ℕ) → holds ns z ≡ true → g z ≡ c + f z) → g n ≡ c + f n
    → AllByRecursion (λ m. f n < f m) ns → AllByRecursion (λ m. g n < g m) ns
all_moved f g c n [] same e all = tt
all_moved f g c n (m ∷ ns) same e all =
    let here : g m ≡ c + f m = same m (or_left (nat_eq m m) (holds ns m) (eq_to m)) in
    (omega (arith, here, e, all.0), all_moved f g c n ns (λ z h. same z (or_right (nat_eq m z) (holds ns z) h)) e all.1)

rises-moved : (f g : ℕ → ℕ) (c : ℕ) (ns : List ℕ) → ((z : ℕ) → holds ns z ≡ true → g z ≡ c + f z) → RiseBy f ns → RiseBy g ns
rises-moved f g c [] same h = tt
rises-moved f g c (n ∷ ns) same h =
    let rest : (z : ℕ) → holds ns z ≡ true → g z ≡ c + f z = λ z t. same z (or_right (nat_eq n z) (holds ns z) t) in
    (all_moved f g c n ns rest (same n (or_left (nat_eq n n) (holds ns n) (eq_to n))) h.0, rises-moved f g c ns rest h.1)

-- the nodes of the leaves that have something of a stage
module _ {C U : Type 0} (units : C → List U) where
  left-here : (x : ℕ × TreeLeaf C) (xs : List (ℕ × TreeLeaf C)) (z : ℕ) → x.0 ≡ z → elements_left units (x ∷ xs) z ≡ 0
  left-here x xs z e = ap (λ b. length_by (leaf_length units AllElements) (cond b [] (x ∷ left_of xs z))) (eq-eqb x.0 z e)

  left-later : (x : ℕ × TreeLeaf C) (xs : List (ℕ × TreeLeaf C)) (z : ℕ) → x.0 ≢ z
      → elements_left units (x ∷ xs) z ≡ length (units x.1.content) + elements_left units xs z
  left-later x xs z d = ap (λ b. length_by (leaf_length units AllElements) (cond b [] (x ∷ left_of xs z))) (ne_eqb x.0 z d)

  places-differ : (xs : List (ℕ × TreeLeaf C)) → All (λ x. 1 ≤ length (units x.1.content)) xs → (a b : ℕ) → IsLeafIn xs a → IsLeafIn xs b
      → elements_left units xs a ≡ elements_left units xs b → a ≡ b
  places-differ [] some a b la lb e = absurd (omega arith)
  places-differ (x ∷ xs) some a b la lb e =
      let one = All-head (λ (y : ℕ × TreeLeaf C). 1 ≤ length (units y.1.content)) x xs some in
      elim (cases_eq x.0 a) [
        | inl ea ↦ elim (cases_eq x.0 b) [
          | inl eb ↦ sym ea ∙ eb
          | inr db ↦ absurd (omega (arith, e, one, left-here x xs a ea, left-later x xs b db))
        ]
        | inr da ↦ elim (cases_eq x.0 b) [
          | inl eb ↦ absurd (omega (arith, e, one, left-later x xs a da, left-here x xs b eb))
          | inr db ↦ places-differ xs (All-tail (λ (y : ℕ × TreeLeaf C). 1 ≤ length (units y.1.content)) x xs some) a b
              (omega (arith, la, same_other x.0 a da)) (omega (arith, lb, same_other x.0 b db))
              (omega (arith, e, left-later x xs a da, left-later x xs b db))
        ]
      ]

  module _ (k : ℕ) where
    live_by : (b : Bool) (x : ℕ × TreeLeaf C) (xs ys : List (ℕ × TreeLeaf C)) (z : ℕ) → (holds (ids ys) z ≡ true → IsLeafIn xs z)
        → holds (ids (cond b (x ∷ ys) ys)) z ≡ true → IsLeafIn (x ∷ xs) z
    live_by true x xs ys z live t = elim (or_cases (nat_eq x.0 z) (holds (ids ys) z) t) [
      | inl here ↦ subst (IsLeafIn (x ∷ xs)) (eq_from x.0 z here) (omega (arith, same_refl x.0))
      | inr more ↦ let rest = live more in omega (arith, rest)
    ]
    live_by false x xs ys z live t = let rest = live t in omega (arith, rest)

    touched-live : (xs : List (ℕ × TreeLeaf C)) (z : ℕ) → holds (touched_nodes k xs) z ≡ true → IsLeafIn xs z
    touched-live [] z t = (cc)
    touched-live (x ∷ xs) z t = live_by (is_touched_by k x.1) x xs (filter (λ y. is_touched_by k y.1) xs) z (touched-live xs z) t

    other : (x : ℕ × TreeLeaf C) (xs : List (ℕ × TreeLeaf C)) (z : ℕ) → times_leaf (x ∷ xs) x.0 ≤ 1 → holds (touched_nodes k xs) z ≡ true → x.0 ≢ z
    other x xs z once t e =
        let live : IsLeafIn xs x.0 = subst (IsLeafIn xs) (sym e) (touched-live xs z t) in
        omega (arith, once, live, same_refl x.0)

    all_over : (g : ℕ → ℕ) (n : ℕ) (ns : List ℕ) → ((z : ℕ) → holds ns z ≡ true → g n < g z) → AllByRecursion (λ m. g n < g m) ns
    all_over g n [] low = tt
    all_over g n (m ∷ ns) low = (low m (or_left (nat_eq m m) (holds ns m) (eq_to m)), all_over g n ns (λ z h. low z (or_right (nat_eq m z) (holds ns z) h)))

    kept_by : (g : ℕ → ℕ) (b : Bool) (x : ℕ × TreeLeaf C) (ys : List (ℕ × TreeLeaf C)) → AllByRecursion (λ m. g x.0 < g m) (ids ys) → RiseBy g (ids ys)
        → RiseBy g (ids (cond b (x ∷ ys) ys))
    kept_by g true x ys all h = (all, h)
    kept_by g false x ys all h = h

    touched-rises : (xs : List (ℕ × TreeLeaf C)) → ((i : ℕ) → times_leaf xs i ≤ 1) → All (λ x. 1 ≤ length (units x.1.content)) xs
        → RiseBy (elements_left units xs) (touched_nodes k xs)
    touched-rises [] once some = tt
    touched-rises (x ∷ xs) once some =
        let one = All-head (λ (y : ℕ × TreeLeaf C). 1 ≤ length (units y.1.content)) x xs some in
        let later : (z : ℕ) → holds (touched_nodes k xs) z ≡ true → elements_left units (x ∷ xs) z ≡ length (units x.1.content) + elements_left units xs z =
        λ z t. left-later x xs z (other x xs z (once x.0) t) in
        kept_by (elements_left units (x ∷ xs)) (is_touched_by k x.1) x (filter (λ y. is_touched_by k y.1) xs)
        (all_over (elements_left units (x ∷ xs)) x.0 (touched_nodes k xs) (λ z t. omega (arith, one, left-here x xs x.0 refl, later z t)))
        (rises-moved (elements_left units xs) (elements_left units (x ∷ xs)) (length (units x.1.content)) (touched_nodes k xs) later
        (touched-rises xs (λ i. omega (arith, once i)) (All-tail (λ (y : ℕ × TreeLeaf C). 1 ≤ length (units y.1.content)) x xs some)))

    unheld : (b : Bool) → (b ≡ true → ⊥) → b ≡ false
    unheld true h = absurd (h refl)
    unheld false h = refl

    here_by : (b : Bool) (x : ℕ × TreeLeaf C) (ys : List (ℕ × TreeLeaf C)) (z : ℕ) → nat_eq x.0 z ≡ true → holds (ids ys) z ≡ false
        → holds (ids (cond b (x ∷ ys) ys)) z ≡ b
    here_by true x ys z same none = or_left (nat_eq x.0 z) (holds (ids ys) z) same
    here_by false x ys z same none = none

    later_by : (b : Bool) (x : ℕ × TreeLeaf C) (ys : List (ℕ × TreeLeaf C)) (z : ℕ) → nat_eq x.0 z ≡ false
        → holds (ids (cond b (x ∷ ys) ys)) z ≡ holds (ids ys) z
    later_by true x ys z d = ap (λ p. p || holds (ids ys) z) d
    later_by false x ys z d = refl

    touched-held : (xs : List (ℕ × TreeLeaf C)) → ((i : ℕ) → times_leaf xs i ≤ 1) → (z : ℕ) → holds (touched_nodes k xs) z ≡ is_wanted_at Anything xs k z
    touched-held [] once z = refl
    touched-held (x ∷ xs) once z =
        let ys = filter (λ (y : ℕ × TreeLeaf C). is_touched_by k y.1) xs in
        elim (cases_eq x.0 z) [
          | inl same ↦
              here_by (is_touched_by k x.1) x ys z (eq-eqb x.0 z same) (unheld (holds (ids ys) z) (λ t. other x xs z (once x.0) t same))
              ∙ ap (λ b. is_wanted_by Anything k (cond b (Some x.1) (value_at xs z))) (sym (eq-eqb x.0 z same))
          | inr d ↦
              later_by (is_touched_by k x.1) x ys z (ne_eqb x.0 z d)
              ∙ touched-held xs (λ i. omega (arith, once i)) z
              ∙ ap (λ b. is_wanted_by Anything k (cond b (Some x.1) (value_at xs z))) (sym (ne_eqb x.0 z d))
        ]

and_second : (a b : Bool) → (b ≡ true → a ≡ true) → (a && b) ≡ b
and_second true b h = refl
and_second false true h = h refl
and_second false false h = refl

-- what is found at the nodes that are listed, by rising places and each once, is all there is
pub touched-in_order : {C U : Type 0} (units : C → List U) (k : ℕ) (xs : List (ℕ × TreeLeaf C)) (ns : List ℕ) (ps : List (ℕ × ℕ))
    → ((i : ℕ) → times_leaf xs i ≤ 1)
    → All (λ x. 1 ≤ length (units x.1.content)) xs → ((z : ℕ) → holds ns z ≡ true → IsLeafIn xs z)
    → ((z : ℕ) → is_wanted_at Anything xs k z ≡ true → holds ns z ≡ true) → IsPermutation (touched_places units xs k ns) ps
    → IsNonDecreasingBy (λ (p : ℕ × ℕ). p.0) ps
    → unrepeated None (map (λ (p : ℕ × ℕ). p.1) ps) ≡ touched_nodes k xs
touched-in_order units k xs ns ps once some live covers moved up =
    let f : ℕ → ℕ = elements_left units xs in
    let P : ℕ → Type 0 = IsLeafIn xs in
    let Q : ℕ × ℕ → Type 0 = λ q. q.0 ≡ f q.1 in
    let test : ℕ → Bool = is_wanted_at Anything xs k in
    let found : List ℕ = filter test ns in
    let places : List (ℕ × ℕ) = touched_places units xs k ns in
    let nodes : List ℕ = map (λ (q : ℕ × ℕ). q.1) ps in
    let kept : (z : ℕ) → holds found z ≡ (holds ns z && test z) = holds-filter test ns in
    let all : AllByRecursion P found = recursion_from_All P found (all-held P found (λ z t. live z (and_parts (holds ns z) (test z) (sym (kept z) ∙ t)).0)) in
    let both : AllByRecursion (λ (q : ℕ × ℕ). Q q × P q.1) ps =
    recursion_from_All (λ (q : ℕ × ℕ). Q q × P q.1) ps
    (All-permutation (λ (q : ℕ × ℕ). Q q × P q.1) places ps moved (All-from_recursion (λ (q : ℕ × ℕ). Q q × P q.1) places (pairs-all f P found all))) in
    let held : (z : ℕ) → holds nodes z ≡ holds found z = λ z.
    sym (list_any-IsPermutation (λ n. nat_eq n z) (map (λ (q : ℕ × ℕ). q.1) places) nodes (IsPermutation-map (λ (q : ℕ × ℕ). q.1) places ps moved))
    ∙ ap (λ ms. holds ms z) (pairs-second f found) in
    rises-same f (unrepeated None nodes) (touched_nodes k xs)
    (unrepeated-rises f P (places-differ units xs some) None nodes (all_second P Q ps both) (pairs-climb f ps up (all_first Q (λ (q : ℕ × ℕ). P q.1) ps both)))
    (touched-rises units k xs once some)
    (λ z. unrepeated-held None nodes z ∙ held z ∙ kept z ∙ and_second (holds ns z) (test z) (covers z) ∙ sym (touched-held units k xs once z))

-- one node more
module _ {C U : Type 0} (units : C → List U) (xs : List (ℕ × TreeLeaf C)) (k : ℕ) (ns : List ℕ) (i n : ℕ) (less : i < length ns)
    (is_next : n ≡ get_or ns i n) where
  abbrev places_by : Bool → List (ℕ × ℕ)
  places_by b =
      map (λ m. (elements_left units xs m, m))
      (cond b (n ∷ filter (is_wanted_at Anything xs k) (drop (i + 1) ns)) (filter (is_wanted_at Anything xs k) (drop (i + 1) ns)))

  places_next : (b : Bool) → is_wanted_at Anything xs k n ≡ b → touched_places units xs k (drop i ns) ≡ places_by b
  places_next b h =
      ap (touched_places units xs k) (drop_more ns i n less ∙ ap (λ m. m ∷ drop (i + 1) ns) (sym is_next)) ∙ ap places_by h

  pub places-with : (ps qs all : List (ℕ × ℕ)) (at : ℕ) → is_wanted_at Anything xs k n ≡ true → at ≡ elements_left units xs n → qs ≡ ps ++ (at, n) ∷ []
      → ps ++ touched_places units xs k (drop i ns) ≡ all → qs ++ touched_places units xs k (drop (i + 1) ns) ≡ all
  places-with ps qs all at h e new was =
      let rest = touched_places units xs k (drop (i + 1) ns) in
      ap (λ us. us ++ rest) (new ∙ ap (λ j. ps ++ (j, n) ∷ []) e)
      ∙ append_assoc ps ((elements_left units xs n, n) ∷ []) rest
      ∙ ap (λ us. ps ++ us) (sym (places_next true h)) ∙ was

  pub places-without : (ps qs all : List (ℕ × ℕ)) → is_wanted_at Anything xs k n ≡ false → qs ≡ ps → ps ++ touched_places units xs k (drop i ns) ≡ all
      → qs ++ touched_places units xs k (drop (i + 1) ns) ≡ all
  places-without ps qs all h new was =
      ap (λ us. us ++ touched_places units xs k (drop (i + 1) ns)) new ∙ ap (λ us. ps ++ us) (sym (places_next false h)) ∙ was
