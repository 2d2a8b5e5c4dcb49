-- What blocks name, child by child and over all items below them.
use Rattle.std.proofs.Common.{◌≡◌, ℕ, zero, suc, ℤ, ◌-◌, ◌≤◌, ◌≤ℤ◌, List, [], ◌∷◌, ◌++◌, map, Option, Some, None, IsSome, All, Contains, refl, sym, ap, subst, ◌∙◌, inl, inr, arith}
use Rattle.std.proofs.lemmas.Int.{ints}
use Rattle.std.proofs.lemmas.Bool.{cases_eq}
use Rattle.std.proofs.lemmas.List.Elements.{All-nil, All-cons, All-head, All-tail, All-append, All-contains, All-weaker, Contains-append_left, Contains-append_right, Contains-append_cases}
use Rattle.ft_arena.specs.declared.nodes.Node.{Node}
use Rattle.ft_arena.specs.declared.nodes.Node.TheVariants.{Leaf, Block}
use Rattle.ft_arena.specs.Ids.{times}
use Rattle.ft_arena.specs.Forest.{Entry, entry, kids_of, block_value, leaf_value, block_of_entry, leaf_of_entry, block_of_node, leaf_of_node}
use Rattle.ft_arena.proofs.IdLemmas.{same_refl, same_other}
use Rattle.ft_shape.specs.declared.headed.Headed.{Headed}
use Rattle.ft_shape.specs.Tree.{IsTree, height_of, height_of_entry, height_of_node, below}
use Rattle.ft_shape.specs.Told.{sum_of, told, KeepsBut}
use Rattle.ft_shape.proofs.Levels.{below-append, steps_down, kid_parent, live_from_parent}
use Rattle.ft_shape.proofs.EditLemmas.{is_some_from}
use Rattle.ft_overlap.specs.declared.items.Item.{Item}
use Rattle.ft_overlap.specs.declared.items.Span.{Span}
use Rattle.ft_overlap.specs.Items.{IsGreatest}
use Rattle.ft_overlap.specs.Inside.{Nodes, item_of, items_of, items_under, items_below, either_named, span_last, named_by, IsSpan, SpansLast, AreNamed, AreGreatest}
use Rattle.ft_overlap.proofs.Under.{under_kids, items-append}

first_in : {X : Type 0} (x : X) (xs : List X) → Contains (x ∷ xs) x
first_in x xs = (0, omega arith, refl)

later_in : {X : Type 0} (x y : X) (xs : List X) → Contains xs y → Contains (x ∷ xs) y
later_in x y xs c = Contains-append_right (x ∷ []) xs y c

-- what is told by one of these is told by a node among them
pub told_from : {X : Type 0} (f : ℕ → X) (xs : List ℕ) (t : X) → Contains (map f xs) t → (x : ℕ) × (1 ≤ times xs x) × (f x ≡ t)
told_from f [] t c = absurd (omega (arith, c.1))
told_from f (x ∷ xs) t c = elim (Contains-append_cases (f x ∷ []) (map f xs) t c) [
  | inl h ↦ (x, omega (arith, same_refl x), single h)
  | inr h ↦ let r = told_from f xs t h in (r.0, omega (arith, r.1), r.2)
]
  where
    single : Contains (f x ∷ []) t → f x ≡ t
    single h = All-contains (λ y. f x ≡ y) (f x ∷ []) t (All-cons (λ y. f x ≡ y) (f x) [] refl (All-nil (λ y. f x ≡ y))) h

-- a fact of what each of them tells
all_told : {X : Type 0} (P : X → Type 0) (f : ℕ → X) (xs : List ℕ) → ((x : ℕ) → 1 ≤ times xs x → P (f x)) → All P (map f xs)
all_told P f [] h = All-nil P
all_told P f (x ∷ xs) h = All-cons P (f x) (map f xs) (h x (omega (arith, same_refl x))) (all_told P f xs (λ y m. h y (omega arith)))

pub told_each : {X : Type 0} (P : X → Type 0) (f : ℕ → X) (xs : List ℕ) → All P (map f xs) → (x : ℕ) → 1 ≤ times xs x → P (f x)
told_each P f [] h x m = absurd (omega arith)
told_each P f (y ∷ ys) h x m = elim (cases_eq y x) [
  | inl e ↦ subst (λ (z : ℕ). P (f z)) e (All-head P (f y) (map f ys) h)
  | inr d ↦ told_each P f ys (All-tail P (f y) (map f ys) h) x (omega (arith, same_other y x d))
]

-- a live node is a leaf, which heads no level, or a block
data Kind (s : Nodes) (x : ℕ) : Type 0 where
  is_leaf : (v : Item) → leaf_value s x ≡ Some v → height_of s x ≡ 0 → Kind s x
  is_block : (v : Headed Span) → leaf_value s x ≡ None → block_value s x ≡ Some v → Kind s x

kind : (s : Nodes) (x : ℕ) → IsSome (entry s x) → Kind s x
kind s x h = of_entry (entry s x) refl h
  where
    of_entry : (o : Option (Entry Item (Headed Span))) → entry s x ≡ o → IsSome o → Kind s x
    of_entry None e h = cc
    of_entry (Some k) e h = of_node k.node (ap leaf_of_entry e) (ap block_of_entry e) (ap height_of_entry e)
      where
        of_node : (n : Node Item (Headed Span)) → leaf_value s x ≡ leaf_of_node n → block_value s x ≡ block_of_node n
            → height_of s x ≡ height_of_node n → Kind s x
        of_node (Leaf v) l b q = is_leaf v l q
        of_node (Block ks v) l b q = is_block v l b

module _ (s : Nodes) where
  leaf_below : (x : ℕ) (v : Item) → leaf_value s x ≡ Some v → height_of s x ≡ 0 → items_below s x ≡ v ∷ []
  leaf_below x v l q = ap (λ (h : ℕ). items_under s h x) q ∙ ap (λ o. item_of o []) l

  -- an item below one of these nodes, which head so many levels, is below them
  part_in : (h : ℕ) (ks : List ℕ) (k : ℕ) (v : Item) → 1 ≤ times ks k → height_of s k ≡ h → Contains (items_below s k) v
      → Contains (items_of s (below s h ks)) v
  part_in h [] k v m q c = absurd (omega arith)
  part_in h (x ∷ xs) k v m q c =
      let e : items_of s (below s h (x ∷ xs)) ≡ items_under s h x ++ items_of s (below s h xs) =
      ap (items_of s) (below-append s h (x ∷ []) xs) ∙ items-append s (below s h (x ∷ [])) (below s h xs) in
      subst (λ (zs : List Item). Contains zs v) (sym e) (elim (cases_eq x k) [
        | inl d ↦ Contains-append_left (items_under s h x) (items_of s (below s h xs)) v
            (subst (λ (z : ℕ). Contains (items_under s h z) v) (sym d) (subst (λ (n : ℕ). Contains (items_under s n k) v) q c))
        | inr d ↦ Contains-append_right (items_under s h x) (items_of s (below s h xs)) v (part_in h xs k v (omega (arith, same_other x k d)) q c)
      ])

  -- what holds of the items below each holds of all
  all_parts : (P : Item → Type 0) (h : ℕ) (ks : List ℕ) → ((k : ℕ) → 1 ≤ times ks k → All P (items_under s h k)) → All P (items_of s (below s h ks))
  all_parts P h [] f = subst (λ (zs : List ℕ). All P (items_of s zs)) (sym (none h)) (All-nil P)
    where
      none : (n : ℕ) → below s n [] ≡ []
      none zero = refl
      none (suc n) = none n
  all_parts P h (x ∷ xs) f =
      let e : items_of s (below s h (x ∷ xs)) ≡ items_under s h x ++ items_of s (below s h xs) =
      ap (items_of s) (below-append s h (x ∷ []) xs) ∙ items-append s (below s h (x ∷ [])) (below s h xs) in
      subst (All P) (sym e) (All-append P (items_under s h x) (items_of s (below s h xs)) (f x (omega (arith, same_refl x))) (all_parts P h xs (λ y m. f y (omega arith))))

module _ (s : Nodes) (root : ℕ) (t : IsTree s root) where
  module _ (b : ℕ) (v : Headed Span) (e : block_value s b ≡ Some v) where
    n_high : height_of s b ≡ suc (height_of s b - 1)
    n_high = omega (arith, t.shape.high b (is_some_from (block_value s b) v e))

    n_all : items_below s b ≡ items_of s (below s (height_of s b - 1) (kids_of s b))
    n_all = under_kids s (height_of s b - 1) b (kids_of s b) n_high refl

    n_kid_high : (k : ℕ) → 1 ≤ times (kids_of s b) k → height_of s k ≡ height_of s b - 1
    n_kid_high k m = omega (arith, steps_down s root None t.shape b k m, n_high)

    n_kid_live : (k : ℕ) → 1 ≤ times (kids_of s b) k → IsSome (entry s k)
    n_kid_live k m = live_from_parent (entry s k) b (kid_parent s root None t.shape b k m)

  module _ (one : KeepsBut IsSpan s None) where
    -- where each block names an item that a child names, it names one below it
    by_height : (h b : ℕ) (v : Headed Span) → height_of s b ≡ h → block_value s b ≡ Some v → Contains (items_below s b) v.sum.last
    by_height zero b v q e = absurd (omega (arith, q, t.shape.high b (is_some_from (block_value s b) v e)))
    by_height (suc h) b v q e =
        let o = (one b v e (λ d. cc)).one in
        let r = told_from (told s) (kids_of s b) o.0 o.1 in
        let high : height_of s r.0 ≡ height_of s b - 1 = n_kid_high b v e r.0 r.1 in
        let names : named_by (told s r.0) ≡ Some v.sum.last = ap named_by r.2 ∙ o.2 in
        subst (λ (zs : List Item). Contains zs v.sum.last) (sym (n_all b v e))
        (part_in s (height_of s b - 1) (kids_of s b) r.0 v.sum.last r.1 high (in_kid r.0 (kind s r.0 (n_kid_live b v e r.0 r.1)) names
        (λ w f. by_height h r.0 w (omega (arith, high, q)) f)))
      where
        in_kid : (k : ℕ) → Kind s k → named_by (told s k) ≡ Some v.sum.last
            → ((w : Headed Span) → block_value s k ≡ Some w → Contains (items_below s k) w.sum.last) → Contains (items_below s k) v.sum.last
        in_kid k (is_leaf x l z) names rec =
            let d : x ≡ v.sum.last = cc (sym (ap (λ o. either_named o (span_last (sum_of (block_value s k)))) l) ∙ names) in
            subst (λ (zs : List Item). Contains zs v.sum.last) (sym (leaf_below s k x l z)) (subst (λ (y : Item). Contains (y ∷ []) v.sum.last) (sym d) (first_in v.sum.last []))
        in_kid k (is_block w l f) names rec =
            let d : w.sum.last ≡ v.sum.last = cc (sym (ap (λ o. either_named o (span_last (sum_of (block_value s k)))) l ∙ ap (λ o. span_last (sum_of o)) f) ∙ names) in
            subst (λ (y : Item). Contains (items_below s k) y) d (rec w f)

    pub are_named : AreNamed s
    are_named b v e = by_height (height_of s b) b v refl e

  -- where no child names an item that ends behind the block's, none below it ends behind it
  pub are_greatest : (place : ℕ → ℤ) → KeepsBut (SpansLast place) s None → AreGreatest place s
  are_greatest place last b v e = by_height (height_of s b) b v refl e
    where
      of_kid : (v : Item) (k : ℕ) → Kind s k → ((x : Item) → named_by (told s k) ≡ Some x → place x.end ≤ℤ place v.end)
          → ((w : Headed Span) → block_value s k ≡ Some w → IsGreatest place w.sum.last (items_below s k)) → IsGreatest place v (items_below s k)
      of_kid v k (is_leaf x l z) low rec =
          subst (IsGreatest place v) (sym (leaf_below s k x l z))
          (All-cons (λ y. place y.end ≤ℤ place v.end) x [] (low x (ap (λ o. either_named o (span_last (sum_of (block_value s k)))) l)) (All-nil (λ y. place y.end ≤ℤ place v.end)))
      of_kid v k (is_block w l f) low rec =
          let q = low w.sum.last (ap (λ o. either_named o (span_last (sum_of (block_value s k)))) l ∙ ap (λ o. span_last (sum_of o)) f) in
          All-weaker (λ y. place y.end ≤ℤ place w.sum.last.end) (λ y. place y.end ≤ℤ place v.end) (λ y h. omega (arith, ints, h, q)) (items_below s k) (rec w f)

      by_height : (h b : ℕ) (v : Headed Span) → height_of s b ≡ h → block_value s b ≡ Some v → IsGreatest place v.sum.last (items_below s b)
      by_height zero b v q e = absurd (omega (arith, q, t.shape.high b (is_some_from (block_value s b) v e)))
      by_height (suc h) b v q e =
          subst (IsGreatest place v.sum.last) (sym (n_all b v e)) (all_parts s (λ y. place y.end ≤ℤ place v.sum.last.end) (height_of s b - 1) (kids_of s b) (λ k m.
          subst (λ (n : ℕ). IsGreatest place v.sum.last (items_under s n k)) (n_kid_high b v e k m)
          (of_kid v.sum.last k (kind s k (n_kid_live b v e k m)) (told_each (λ t. (x : Item) → named_by t ≡ Some x → place x.end ≤ℤ place v.sum.last.end) (told s) (kids_of s b)
          (last b v e (λ d. cc)) k m) (λ w f. by_height h k w (omega (arith, n_kid_high b v e k m, q)) f))))

  -- and the other way round
  pub names_last : (place : ℕ → ℤ) → AreNamed s → AreGreatest place s → KeepsBut (SpansLast place) s None
  names_last place named greatest b v e stale = all_told (λ t. (x : Item) → named_by t ≡ Some x → place x.end ≤ℤ place v.sum.last.end) (told s) (kids_of s b)
      (λ k m x names. All-contains (λ y. place y.end ≤ℤ place v.sum.last.end) (items_below s b) x (greatest b v e)
      (subst (λ (zs : List Item). Contains zs x) (sym (n_all b v e)) (part_in s (height_of s b - 1) (kids_of s b) k x m (n_kid_high b v e k m)
      (named_in k x (kind s k (n_kid_live b v e k m)) names))))
    where
      named_in : (k : ℕ) (x : Item) → Kind s k → named_by (told s k) ≡ Some x → Contains (items_below s k) x
      named_in k x (is_leaf y l z) names =
          let d : y ≡ x = cc (sym (ap (λ o. either_named o (span_last (sum_of (block_value s k)))) l) ∙ names) in
          subst (λ (zs : List Item). Contains zs x) (sym (leaf_below s k y l z)) (subst (λ (w : Item). Contains (w ∷ []) x) (sym d) (first_in x []))
      named_in k x (is_block w l f) names =
          let d : w.sum.last ≡ x = cc (sym (ap (λ o. either_named o (span_last (sum_of (block_value s k)))) l ∙ ap (λ o. span_last (sum_of o)) f) ∙ names) in
          subst (λ (y : Item). Contains (items_below s k) y) d (named k w f)
