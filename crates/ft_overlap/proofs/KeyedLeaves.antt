-- The leaf of an item by its key.
use Rattle.std.proofs.Common.{◌≡◌, ◌≢◌, ℕ, ◌≤◌, Bool, true, false, cond, nat_eq, List, [], ◌∷◌, map, Option, Some, None, option_map, refl, sym, ap, ◌∙◌, inl, inr, arith}
use Rattle.std.specs.BTreeMap as tree_map
use Rattle.std.specs.BTreeMap.{BTreeMap, is_at}
use Rattle.std.specs.Map.{lookup}
use Rattle.std.specs.Ordering.{is_eq, nat_cmp}
use Rattle.std.proofs.lemmas.Bool.{cases_eq, eq-eqb, ne_eqb}
use Rattle.std.proofs.lemmas.Bool.Decides.{nat_tests}
use Rattle.ft_arena.specs.Ids.{times, without}
use Rattle.ft_arena.specs.Forest.{IsForest, entry, leaf_of_entry, leaf_value, count_some}
use Rattle.ft_arena.proofs.IdLemmas.{same_refl, same_other}
use Rattle.ft_arena.proofs.RingLemmas.{without_here, without_later}
use Rattle.ft_shape.specs.Steps.{TakesLeaf}
use Rattle.ft_shape.proofs.WithoutLemmas.{without_apart}
use Rattle.ft_overlap.specs.declared.items.Item.{Item}
use Rattle.ft_overlap.specs.declared.index.Keyed.{Keyed}
use Rattle.ft_overlap.specs.Items.{has_key, id_at, item_at, without_key}
use Rattle.ft_overlap.specs.Inside.{Nodes, AddsLeaf, HasAt, IsFirstWith, IsKeyed, ids_of, item_of, items_of, leaf_in}
use Rattle.ft_overlap.proofs.ItemLists.{at_here, at_later, none_at, out_here, out_later}

-- ---- a look-up that has something else at one key

is_same : (k j : ℕ) → k ≡ j → is_eq (nat_cmp k j) ≡ true
is_same k j e = grind (arith, nat_tests)

is_other : (k j : ℕ) → k ≢ j → is_eq (nat_cmp k j) ≡ false
is_other k j d = by (is_eq (nat_cmp k j)) refl
  where
    by : (b : Bool) → is_eq (nat_cmp k j) ≡ b → b ≡ false
    by true e = absurd (d (grind (arith, nat_tests)))
    by false e = refl

-- the same of a part of what is there
pub has_part : {V W : Type 0} (f : V → W) (key : ℕ) (w : Option V) (m m' : ℕ → Option V) → HasAt key w m m'
    → HasAt key (option_map f w) (λ j. option_map f (m j)) (λ j. option_map f (m' j))
has_part f key w m m' has j = ap (option_map f) (has j) ∙ by (is_eq (nat_cmp key j))
  where
    by : (b : Bool) → option_map f (cond b w (m j)) ≡ cond b (option_map f w) (option_map f (m j))
    by true = refl
    by false = refl

-- by the equality of numbers
pub has_by_eq : {V : Type 0} (key : ℕ) (w : Option V) (m m' : ℕ → Option V) → HasAt key w m m' → (j : ℕ) → m' j ≡ cond (nat_eq key j) w (m j)
has_by_eq key w m m' has j = has j ∙ ap (λ b. cond b w (m j)) (elim (cases_eq key j) [
  | inl e ↦ is_same key j e ∙ sym (eq-eqb key j e)
  | inr d ↦ is_other key j d ∙ sym (ne_eqb key j d)
])

-- the ids of a map
pub ids_in : (m : BTreeMap ℕ Keyed) (key : ℕ) → id_at key (ids_of m) ≡ option_map (λ (v : Keyed). v.id) (tree_map.get nat_cmp m key)
ids_in m key = go m.entries
  where
    go : (es : List (ℕ × Keyed)) → lookup (is_at (nat_cmp key)) (map (λ (e : ℕ × Keyed). (e.0, e.1.id)) es)
        ≡ option_map (λ (v : Keyed). v.id) (lookup (is_at (nat_cmp key)) es)
    go [] = refl
    go (e ∷ es) = by (is_eq (nat_cmp key e.0)) (go es)
      where
        by : (b : Bool) → lookup (is_at (nat_cmp key)) (map (λ (e : ℕ × Keyed). (e.0, e.1.id)) es)
            ≡ option_map (λ (v : Keyed). v.id) (lookup (is_at (nat_cmp key)) es)
            → cond b (Some e.1.id) (lookup (is_at (nat_cmp key)) (map (λ (e : ℕ × Keyed). (e.0, e.1.id)) es))
            ≡ option_map (λ (v : Keyed). v.id) (cond b (Some e.1) (lookup (is_at (nat_cmp key)) es))
        by true h = refl
        by false h = h

-- a change at a key of the map is one of its ids
pub ids_changed : (key : ℕ) (w : Option Keyed) (m m' : BTreeMap ℕ Keyed) → HasAt key w (tree_map.get nat_cmp m) (tree_map.get nat_cmp m')
    → (j : ℕ) → id_at j (ids_of m') ≡ cond (nat_eq key j) (option_map (λ (v : Keyed). v.id) w) (id_at j (ids_of m))
ids_changed key w m m' has =
    has_by_eq key (option_map (λ (v : Keyed). v.id) w) (λ j. id_at j (ids_of m)) (λ j. id_at j (ids_of m'))
    (λ j. ids_in m' j ∙ has_part (λ (v : Keyed). v.id) key w (tree_map.get nat_cmp m) (tree_map.get nat_cmp m') has j
    ∙ ap (λ o. cond (is_eq (nat_cmp key j)) (option_map (λ (v : Keyed). v.id) w) o) (sym (ids_in m j)))

module _ {V : Type 0} (key : ℕ) (w : Option V) (m m' : ℕ → Option V) (has : HasAt key w m m') where
  has_here : m' key ≡ w
  has_here = has key ∙ ap (λ b. cond b w (m key)) (is_same key key refl)

  has_there : (j : ℕ) → key ≢ j → m' j ≡ m j
  has_there j d = has j ∙ ap (λ b. cond b w (m j)) (is_other key j d)

-- what is written twice
pub written_twice : {V : Type 0} (key : ℕ) (v w : Option V) (m m1 m2 : ℕ → Option V) → HasAt key v m m1 → HasAt key w m1 m2 → HasAt key w m m2
written_twice key v w m m1 m2 first second j = elim (cases_eq key j) [
  | inl e ↦ second j ∙ ap (λ b. cond b w (m1 j)) (is_same key j e) ∙ sym (ap (λ b. cond b w (m j)) (is_same key j e))
  | inr d ↦ has_there key w m1 m2 second j d ∙ has_there key v m m1 first j d ∙ sym (ap (λ b. cond b w (m j)) (is_other key j d))
]

-- ---- the leaf at a key

module _ (s : Nodes) (key id : ℕ) (x : Item) (there : leaf_value s id ≡ Some x) (is : x.key ≡ key)
    (only : (y : ℕ) (v : Item) → leaf_value s y ≡ Some v → v.key ≡ key → y ≡ id) where
  found_at : (xs : List ℕ) → 1 ≤ times xs id → item_at key (items_of s xs) ≡ Some x
  found_at [] m = absurd (omega arith)
  found_at (y ∷ ys) m = elim (cases_eq y id) [
    | inl e ↦ ap (λ o. item_at key (item_of o (items_of s ys))) (ap (leaf_value s) e ∙ there) ∙ at_here key x (items_of s ys) is
    | inr d ↦ later d (leaf_value s y) refl (found_at ys (omega (arith, m, same_other y id d)))
  ]
    where
      later : y ≢ id → (o : Option Item) → leaf_value s y ≡ o → item_at key (items_of s ys) ≡ Some x → item_at key (item_of o (items_of s ys)) ≡
          Some x
      later d None e h = h
      later d (Some v) e h = at_later key v (items_of s ys) (λ q. d (only y v e q)) ∙ h

  taken_out : (xs : List ℕ) → times xs id ≡ 1 → items_of s (without xs id) ≡ without_key key (items_of s xs)
  taken_out [] m = absurd (omega (arith, m))
  taken_out (y ∷ ys) m = elim (cases_eq y id) [
    | inl e ↦
        let none : times ys id ≡ 0 = omega (arith, m, ap (λ z. times (z ∷ ys) id) e, same_refl id) in
        ap (items_of s) (ap (λ z. without (z ∷ ys) id) e ∙ without_here ys id ∙ without_apart ys id none)
        ∙ sym (ap (λ o. without_key key (item_of o (items_of s ys))) (ap (leaf_value s) e ∙ there) ∙ out_here key x (items_of s ys) is)
    | inr d ↦ ap (items_of s) (without_later y ys id d) ∙ later d (leaf_value s y) refl (taken_out ys (omega (arith, m, same_other y id d)))
  ]
    where
      later : y ≢ id → (o : Option Item) → leaf_value s y ≡ o → items_of s (without ys id) ≡ without_key key (items_of s ys)
          → item_of o (items_of s (without ys id)) ≡ without_key key (item_of o (items_of s ys))
      later d None e h = h
      later d (Some v) e h = ap (λ (zs : List Item). v ∷ zs) h ∙ sym (out_later key v (items_of s ys) (λ q. d (only y v e q)))

none_found : (s : Nodes) (key : ℕ) → ((y : ℕ) (v : Item) → leaf_value s y ≡ Some v → v.key ≢ key) → (xs : List ℕ) → item_at key (items_of s xs) ≡
    None
none_found s key other [] = refl
none_found s key other (y ∷ ys) = by (leaf_value s y) refl (none_found s key other ys)
  where
    by : (o : Option Item) → leaf_value s y ≡ o → item_at key (items_of s ys) ≡ None → item_at key (item_of o (items_of s ys)) ≡ None
    by None e h = h
    by (Some v) e h = at_later key v (items_of s ys) (other y v e) ∙ h

-- no leaf, and nothing in the map
pub keyed_empty : (s : Nodes) (m : BTreeMap ℕ Keyed) → ((id : ℕ) → entry s id ≡ None) → m.entries ≡ [] → IsKeyed s (leaf_in m)
keyed_empty s m none empty = record {
  there = λ id x e. (let n : None ≡ Some x = sym (ap leaf_of_entry (none id)) ∙ e in cc n);
  only = λ key id at.
      (let n : None ≡ Some id = sym (ap (λ es. option_map (λ (v : Keyed). v.leaf) (lookup (is_at (nat_cmp key)) es)) empty) ∙ at in cc n);
}

no_entries : (es : List (ℕ × Keyed)) → ((key : ℕ) → lookup (is_at (nat_cmp key)) es ≡ None) → es ≡ []
no_entries [] none = refl
no_entries (e ∷ es) none = absurd (
    let n : Some e.1 ≡ None = sym (ap (λ b. cond b (Some e.1) (lookup (is_at (nat_cmp e.0)) es)) (is_same e.0 e.0 refl)) ∙ none e.0 in cc n
    )

-- where there is no leaf, there is nothing in the map
pub keyed_bare : (s : Nodes) (m : BTreeMap ℕ Keyed) → ((id : ℕ) → entry s id ≡ None) → IsKeyed s (leaf_in m) → m.entries ≡ []
keyed_bare s m none k = no_entries m.entries (λ key. by key (tree_map.get nat_cmp m key) refl)
  where
    by : (key : ℕ) (o : Option Keyed) → tree_map.get nat_cmp m key ≡ o → o ≡ None
    by key None e = refl
    by key (Some v) e =
        let w = k.only key v.leaf (ap (option_map (λ (x : Keyed). x.leaf)) e) in
        absurd (let n : None ≡ Some w.0 = sym (ap leaf_of_entry (none v.leaf)) ∙ w.1 in cc n)

-- nothing is there to be taken away
pub nothing_at : (key : ℕ) (ids : List (ℕ × List ℕ)) → ids ≡ [] → (j : ℕ) → id_at j ids ≡ cond (nat_eq key j) None (id_at j ids)
nothing_at key ids none j = ap (id_at j) none ∙ by (nat_eq key j) ∙ sym (ap (λ is. cond (nat_eq key j) None (id_at j is)) none)
  where
    by : (b : Bool) → None ≡ cond b None (id_at j [])
    by true = refl
    by false = refl

module _ (s : Nodes) (m : ℕ → Option ℕ) (k : IsKeyed s m) where
  same_leaf : (key id y : ℕ) (v : Item) → m key ≡ Some id → leaf_value s y ≡ Some v → v.key ≡ key → y ≡ id
  same_leaf key id y v at e q =
      let here : Some y ≡ Some id = sym (k.there y v e) ∙ ap m q ∙ at in
      cc here

  pub keyed_first : IsForest s → (key id : ℕ) → m key ≡ Some id → IsFirstWith key s id
  keyed_first forest key id at =
      let w = k.only key id at in
      let once : times s.leaves id ≡ 1 = forest.leaf_once id ∙ ap (λ (o : Option Item). count_some o) w.1 in
      record {
        item = w.0;
        there = w.1;
        first = found_at s key id w.0 w.1 w.2 (λ y v. same_leaf key id y v at) s.leaves (omega (arith, once));
        rest = taken_out s key id w.0 w.1 w.2 (λ y v. same_leaf key id y v at) s.leaves once;
      }

  pub keyed_none : (key : ℕ) → m key ≡ None → item_at key (items_of s s.leaves) ≡ None
  keyed_none key none = none_found s key (λ y v e q. (
      let n : Some y ≡ None = sym (k.there y v e) ∙ ap m q ∙ none in
      cc n
      )) s.leaves

  -- a key that no item has
  pub keyed_fresh : IsForest s → (key : ℕ) → has_key key (items_of s s.leaves) ≡ false → m key ≡ None
  keyed_fresh forest key h = by (m key) refl
    where
      by : (o : Option ℕ) → m key ≡ o → o ≡ None
      by None e = refl
      by (Some id) e =
          let f = keyed_first forest key id e in
          absurd (let n : Some f.item ≡ None = sym f.first ∙ none_at key (items_of s s.leaves) h in cc n)

  -- where the leaves keep their items, and the map what it has
  pub keyed_same : (s' : Nodes) (m' : ℕ → Option ℕ) → ((x : ℕ) → leaf_value s' x ≡ leaf_value s x)
      → ((j : ℕ) → m' j ≡ m j) → IsKeyed s' m'
  keyed_same s' m' values gets = record {
    there = λ id x e. gets x.key ∙ k.there id x (sym (values id) ∙ e);
    only = λ key id at. (let w = k.only key id (sym (gets key) ∙ at) in (w.0, values id ∙ w.1, w.2));
  }

  -- a new leaf
  pub keyed_added : (s' : Nodes) (m' : ℕ → Option ℕ) (id : ℕ) (item : Item) → AddsLeaf s s' id item → m item.key ≡ None
      → HasAt item.key (Some id) m m' → IsKeyed s' m'
  keyed_added s' m' id item a none put = record {
    there = λ y v e. elim (cases_eq y id) [
      | inl q ↦
          let is : Some item ≡ Some v = sym (ap (leaf_value s') q ∙ a.value) ∙ e in
          let d : item ≡ v = cc is in
          ap (λ (z : Item). m' z.key) (sym d) ∙ has_here item.key (Some id) m m' put ∙ ap (λ (z : ℕ). Some z) (sym q)
      | inr d ↦
          let was : leaf_value s y ≡ Some v = sym (a.others y d) ∙ e in
          let other : item.key ≢ v.key = (λ q. (let n : None ≡ Some y = sym none ∙ ap m q ∙ k.there y v was in cc n)) in
          has_there item.key (Some id) m m' put v.key other ∙ k.there y v was
    ];
    only = λ key y at. elim (cases_eq item.key key) [
      | inl q ↦
          let is : Some id ≡ Some y = sym (has_here item.key (Some id) m m' put) ∙ ap m' q ∙ at in
          let d : id ≡ y = cc is in
          (item, ap (leaf_value s') (sym d) ∙ a.value, q)
      | inr d ↦
          let w = k.only key y (sym (has_there item.key (Some id) m m' put key d) ∙ at) in
          let other : y ≢ id = (λ q. (let n : None ≡ Some w.0 = sym a.fresh ∙ ap (leaf_value s) (sym q) ∙ w.1 in cc n)) in
          (w.0, a.others y other ∙ w.1, w.2)
    ];
  }

  -- a leaf that leaves
  pub keyed_taken : (s' : Nodes) (m' : ℕ → Option ℕ) (key id : ℕ) (value : Item) → TakesLeaf s s' id value → m key ≡ Some id
      → HasAt key None m m' → IsKeyed s' m'
  keyed_taken s' m' key id value t at out = record {
    there = λ y v e.
        (let other : y ≢ id = (λ q. (let n : None ≡ Some v = sym t.gone ∙ ap (leaf_value s') (sym q) ∙ e in cc n)) in
        let was : leaf_value s y ≡ Some v = sym (t.others y other) ∙ e in
        has_there key None m m' out v.key (λ q. other (same_leaf key id y v at was (sym q))) ∙ k.there y v was);
    only = λ j y e. elim (cases_eq key j) [
      | inl q ↦ absurd (let n : None ≡ Some y = sym (has_here key None m m' out) ∙ ap m' q ∙ e in cc n)
      | inr d ↦
          let w = k.only j y (sym (has_there key None m m' out j d) ∙ e) in
          let other : y ≢ id = (λ q. (
          let mine = k.only key id at in
          let is : Some mine.0 ≡ Some w.0 = sym mine.1 ∙ ap (leaf_value s) (sym q) ∙ w.1 in
          let one : mine.0 ≡ w.0 = cc is in
          d (sym mine.2 ∙ ap (λ (z : Item). z.key) one ∙ w.2)
          )) in
          (w.0, t.others y other ∙ w.1, w.2)
    ];
  }
