-- The items of a list of leaves that gets one, or loses one.
use Rattle.std.proofs.Common.{◌≡◌, ◌≢◌, ℕ, ℤ, ◌+◌, ◌≤◌, List, [], ◌∷◌, ◌++◌, Option, Some, None, IsSome, Contains, refl, sym, ap, subst, ◌∙◌, inl, inr, arith}
use Rattle.std.proofs.lemmas.Bool.{cases_eq}
use Rattle.std.proofs.lemmas.List.Elements.{Contains-append_right}
use Rattle.ft_arena.specs.Ids.{times, insert_after, without}
use Rattle.ft_arena.specs.Forest.{IsForest, leaf_value, count_some}
use Rattle.ft_arena.proofs.IdLemmas.{same_refl, same_other, times-append, times-without_same, insert_after_none}
use Rattle.ft_arena.proofs.ArenaLemmas.{count_some_le}
use Rattle.ft_arena.proofs.RingLemmas.{insert_after_later}
use Rattle.ft_shape.specs.Steps.{InsertsLeaf, TakesLeaf}
use Rattle.ft_shape.proofs.EditLemmas.{insert_after_head}
use Rattle.ft_shape.proofs.FitLemmas.{leaves_live}
use Rattle.ft_shape.proofs.InsertLemmas.{room_leaves, room_values}
use Rattle.ft_overlap.specs.declared.items.Item.{Item}
use Rattle.ft_overlap.specs.Items.{put_item, without_key}
use Rattle.ft_overlap.specs.Inside.{Nodes, item_of, items_of, last_of, IsPlaceFor, IsFirstWith}
use Rattle.ft_overlap.proofs.Under.{items-append}
use Rattle.ft_overlap.proofs.ItemLists.{put_cut}

-- leaves that have the values that they had are the items that they were
pub items_same : (s s' : Nodes) (xs : List ℕ) → ((x : ℕ) → 1 ≤ times xs x → leaf_value s' x ≡ leaf_value s x) → items_of s' xs ≡ items_of s xs
items_same s s' [] h = refl
items_same s s' (x ∷ xs) h =
    ap (λ o. item_of o (items_of s' xs)) (h x (omega (arith, same_refl x))) ∙ ap (item_of (leaf_value s x)) (items_same s s' xs (λ y m. h y (omega arith)))

-- the item of one of the leaves is one of theirs
pub items_in : (s : Nodes) (xs : List ℕ) (id : ℕ) (v : Item) → 1 ≤ times xs id → leaf_value s id ≡ Some v → Contains (items_of s xs) v
items_in s [] id v m e = absurd (omega arith)
items_in s (x ∷ xs) id v m e = elim (cases_eq x id) [
  | inl q ↦ subst (λ (zs : List Item). Contains zs v) (sym (ap (λ o. item_of o (items_of s xs)) (ap (leaf_value s) q ∙ e))) (0, omega arith, refl)
  | inr d ↦ later (leaf_value s x) (items_in s xs id v (omega (arith, same_other x id d)) e)
]
  where
    later : (o : Option Item) → Contains (items_of s xs) v → Contains (item_of o (items_of s xs)) v
    later None c = c
    later (Some w) c = Contains-append_right (w ∷ []) (items_of s xs) v c

pub last_in : (xs : List ℕ) (at : ℕ) → Some at ≡ last_of xs → 1 ≤ times xs at
last_in [] at e = cc e
last_in (x ∷ []) at e = let q : at ≡ x = cc e in omega (arith, ap (λ z. times (z ∷ []) at) (sym q), same_refl at)
last_in (x ∷ (y ∷ ys)) at e = omega (arith, last_in (y ∷ ys) at e)

pub last-push : (xs : List ℕ) (id : ℕ) → last_of (xs ++ id ∷ []) ≡ Some id
last-push [] id = refl
last-push (x ∷ []) id = refl
last-push (x ∷ (y ∷ ys)) id = last-push (y ∷ ys) id

-- behind the last of the front part is between the parts
after_last : (xs ys : List ℕ) (at id : ℕ) → Some at ≡ last_of xs → times (xs ++ ys) at ≤ 1 → insert_after (xs ++ ys) at id ≡ xs ++ id ∷ ys
after_last [] ys at id e h = cc e
after_last (x ∷ []) ys at id e h =
    let q : at ≡ x = cc e in
    let none : times ys at ≡ 0 = omega (arith, h, ap (λ z. times (z ∷ ys) at) (sym q), same_refl at) in
    subst (λ (z : ℕ). insert_after (z ∷ ys) at id ≡ z ∷ id ∷ ys) q (insert_after_head ys at id ∙ ap (λ (zs : List ℕ). at ∷ id ∷ zs) (insert_after_none ys at id none))
after_last (x ∷ (y ∷ zs)) ys at id e h =
    let d : x ≢ at = (λ q. omega (arith, h, ap (λ z. times (z ∷ ((y ∷ zs) ++ ys)) at) q, same_refl at, times-append (y ∷ zs) ys at, last_in (y ∷ zs) at e)) in
    insert_after_later x ((y ∷ zs) ++ ys) at id d ∙ ap (λ (ws : List ℕ). x ∷ ws) (after_last (y ∷ zs) ys at id e (omega (arith, h)))

last_none : (xs : List ℕ) → None ≡ last_of xs → xs ≡ []
last_none [] e = refl
last_none (x ∷ []) e = cc e
last_none (x ∷ (y ∷ ys)) e = absurd (let n : (y ∷ ys) ≡ [] = last_none (y ∷ ys) e in cc n)

module _ (place : ℕ → ℤ) (s : Nodes) (forest : IsForest s) (item : Item) where
  leaf_once : (x : ℕ) → times s.leaves x ≤ 1
  leaf_once x = omega (arith, forest.leaf_once x, count_some_le (leaf_value s x))

  -- the leaf before the place is live
  pub place_live : (at : ℕ) → IsPlaceFor place (place item.start) s (Some at) → IsSome (leaf_value s at)
  place_live at p = leaves_live s forest at (omega (arith, ap (λ zs. times zs at) p.cut, times-append p.left p.right at, last_in p.left at p.last))

  -- the new leaf between the two parts puts the item in
  put_between : (at : Option ℕ) (p : IsPlaceFor place (place item.start) s at) (s' : Nodes) (id : ℕ) → s'.leaves ≡ p.left ++ id ∷ p.right
      → leaf_value s id ≡ None
      → leaf_value s' id ≡ Some item → ((x : ℕ) → x ≢ id → leaf_value s' x ≡ leaf_value s x) → items_of s' s'.leaves ≡ put_item place item (items_of s s.leaves)
  put_between at p s' id l fresh value others =
      let none : times s.leaves id ≡ 0 = omega (arith, forest.leaf_once id, ap (λ (o : Option Item). count_some o) fresh) in
      let both : times p.left id + times p.right id ≡ 0 = omega (arith, none, ap (λ zs. times zs id) p.cut, times-append p.left p.right id) in
      let left : items_of s' p.left ≡ items_of s p.left = items_same s s' p.left (λ x m. others x (λ e. omega (arith, m, both, ap (times p.left) e))) in
      let right : items_of s' p.right ≡ items_of s p.right = items_same s s' p.right (λ x m. others x (λ e. omega (arith, m, both, ap (times p.right) e))) in
      ap (items_of s') l ∙ items-append s' p.left (id ∷ p.right) ∙ ap (λ o. items_of s' p.left ++ item_of o (items_of s' p.right)) value
      ∙ ap (λ (zs : List Item). zs ++ item ∷ items_of s' p.right) left ∙ ap (λ (zs : List Item). items_of s p.left ++ item ∷ zs) right
      ∙ sym (ap (λ zs. put_item place item (items_of s zs)) p.cut ∙ ap (put_item place item) (items-append s p.left p.right)
      ∙ put_cut place item (items_of s p.left) (items_of s p.right) p.before p.behind)

  pub put_items_after : (at : ℕ) → IsPlaceFor place (place item.start) s (Some at) → (s' : Nodes) (id : ℕ)
      → InsertsLeaf s s' id item (λ xs. insert_after xs at id)
      → items_of s' s'.leaves ≡ put_item place item (items_of s s.leaves)
  put_items_after at p s' id r =
      put_between (Some at) p s' id
      (r.leaves ∙ ap (λ zs. insert_after zs at id) p.cut ∙ after_last p.left p.right at id p.last (omega (arith, leaf_once at, ap (λ zs. times zs at) p.cut))) r.fresh r.value r.others

  pub put_items_front : IsPlaceFor place (place item.start) s None → (s' : Nodes) (id : ℕ) → InsertsLeaf s s' id item (λ xs. id ∷ xs)
      → items_of s' s'.leaves ≡ put_item place item (items_of s s.leaves)
  put_items_front p s' id r =
      put_between None p s' id (r.leaves ∙ ap (λ (zs : List ℕ). id ∷ zs) (p.cut ∙ ap (λ (zs : List ℕ). zs ++ p.right) (last_none p.left p.last))
      ∙ ap (λ (zs : List ℕ). zs ++ id ∷ p.right) (sym (last_none p.left p.last))) r.fresh r.value r.others

-- the leaf with the key that leaves takes its item out
pub taken_items : (key : ℕ) (s s' : Nodes) (id : ℕ) (value : Item) → IsFirstWith key s id → TakesLeaf s s' id value
    → items_of s' s'.leaves ≡ without_key key (items_of s s.leaves)
taken_items key s s' id value f r =
    ap (items_of s') r.leaves
    ∙ items_same s s' (without s.leaves id) (λ x m. r.others x (λ e. omega (arith, m, ap (times (without s.leaves id)) e, times-without_same s.leaves id)))
    ∙ f.rest

-- room that was made for nodes leaves the items
pub room_items : (s0 s1 : Nodes) → s1 ≡ record s0 { spare = s1.spare } → items_of s1 s1.leaves ≡ items_of s0 s0.leaves
room_items s0 s1 room = ap (items_of s1) (room_leaves s0 s1 room) ∙ items_same s0 s1 s0.leaves (λ x m. room_values s0 s1 room x)
