-- What edits at the leaf where a walk stands make of the list of leaves.
use Rattle.std.proofs.Common.{◌≡◌, ℕ, ◌≤◌, Bool, true, false, cond, List, [], ◌∷◌, ◌++◌, Option, Some, None, refl, sym, ◌∙◌, ap, arith, nat_eq, append_assoc}
use Rattle.ft_arena.specs.Ids.{after, times}
use Rattle.ft_arena.proofs.IdLemmas.{same_refl}
use Rattle.ft_block.specs.Leaves.{IsLeafIn, IsPlaceIn, change_leaf, ids, left_of, put_leaf, put_leaf_after, split_leaf, times_leaf, value_at}
use Rattle.ft_block.proofs.CallerLemmas.{times-ids}
use Rattle.ft_tree_leaves.specs.Edits.{up_to_place}
use Rattle.ft_tree_blocks.specs.Walks.{before_place, from_leaf, from_place, node_behind}
use Rattle.ft_tree_leaves.proofs.CutLeaves.{times-append}
use Rattle.ft_tree_leaves.proofs.Standing.{left-split, put-split, skip, value-split}
use Rattle.ft_tree_blocks.proofs.Walks.{Stands, before-after, from_first, itself, live_value, stands, up_to-stands}

module _ {L : Type 0} where
  -- a new leaf behind a place
  pub put-behind : (xs : List (ℕ × L)) (at : Option ℕ) (new : ℕ × L) → ((i : ℕ) → times_leaf xs i ≤ 1) → IsPlaceIn xs at
      → put_leaf xs at new ≡ up_to_place xs at ++ new ∷ from_place xs (node_behind xs at)
  put-behind xs None new once live = ap (λ zs. new ∷ zs) (sym (from_first xs))
  put-behind xs (Some id) new once live =
      let v = live_value xs id live in
      let s = stands xs id v.0 once v.1 in
      let rest = from_place xs (after (ids xs) id) in
      ap (λ zs. put_leaf_after zs id new) s.whole
      ∙ put-split id v.0 rest s.right new (left_of xs id) s.left
      ∙ sym (append_assoc (left_of xs id) ((id, v.0) ∷ []) (new ∷ rest))
      ∙ ap (λ zs. zs ++ new ∷ rest) (sym (up_to-stands xs id v.0 s))

  pub live-put : (xs : List (ℕ × L)) (at : Option ℕ) (id : ℕ) (v : L) → ((i : ℕ) → times_leaf xs i ≤ 1) → IsPlaceIn xs at → IsLeafIn (put_leaf xs at (id, v)) id
  live-put xs at id v once live =
      omega (
        arith,
        ap (λ zs. times_leaf zs id) (put-behind xs at (id, v) once live),
        times-append (up_to_place xs at) ((id, v) ∷ from_place xs (node_behind xs at)) id,
        same_refl id,
      )

  change_apart : (g : L → L) (id : ℕ) (xs : List (ℕ × L)) → times_leaf xs id ≡ 0 → change_leaf g xs id ≡ xs
  change_apart g id [] h = refl
  change_apart g id (x ∷ xs) h =
      let s = skip id x xs h in
      ap (λ b. cond b ((x.0, g x.1) ∷ change_leaf g xs id) (x ∷ change_leaf g xs id)) s.0 ∙ ap (λ ys. x ∷ ys) (change_apart g id xs s.1)

  pub change-split : (g : L → L) (id : ℕ) (v : L) (r l : List (ℕ × L)) → times_leaf r id ≡ 0 → times_leaf l id ≡ 0
      → change_leaf g (l ++ (id, v) ∷ r) id ≡ l ++ (id, g v) ∷ r
  change-split g id v r [] once h =
      ap (λ b. cond b ((id, g v) ∷ change_leaf g r id) ((id, v) ∷ change_leaf g r id)) (itself id) ∙ ap (λ ys. (id, g v) ∷ ys) (change_apart g id r once)
  change-split g id v r (x ∷ l) once h =
      let s = skip id x l h in
      ap (λ b. cond b ((x.0, g x.1) ∷ change_leaf g (l ++ (id, v) ∷ r) id) (x ∷ change_leaf g (l ++ (id, v) ∷ r) id)) s.0
      ∙ ap (λ ys. x ∷ ys) (change-split g id v r l once s.1)

  split_apart : (f g : L → L) (id new : ℕ) (xs : List (ℕ × L)) → times_leaf xs id ≡ 0 → split_leaf f g xs id new ≡ xs
  split_apart f g id new [] h = refl
  split_apart f g id new (x ∷ xs) h =
      let s = skip id x xs h in
      ap (λ b. cond b ((x.0, f x.1) ∷ (new, g x.1) ∷ split_leaf f g xs id new) (x ∷ split_leaf f g xs id new)) s.0
      ∙ ap (λ ys. x ∷ ys) (split_apart f g id new xs s.1)

  pub split-split : (f g : L → L) (id new : ℕ) (v : L) (r l : List (ℕ × L)) → times_leaf r id ≡ 0 → times_leaf l id ≡ 0
      → split_leaf f g (l ++ (id, v) ∷ r) id new ≡ l ++ (id, f v) ∷ (new, g v) ∷ r
  split-split f g id new v r [] once h =
      ap (λ b. cond b ((id, f v) ∷ (new, g v) ∷ split_leaf f g r id new) ((id, v) ∷ split_leaf f g r id new)) (itself id)
      ∙ ap (λ ys. (id, f v) ∷ (new, g v) ∷ ys) (split_apart f g id new r once)
  split-split f g id new v r (x ∷ l) once h =
      let s = skip id x l h in
      ap (λ b. cond b ((x.0, f x.1) ∷ (new, g x.1) ∷ split_leaf f g (l ++ (id, v) ∷ r) id new) (x ∷ split_leaf f g (l ++ (id, v) ∷ r) id new)) s.0
      ∙ ap (λ ys. x ∷ ys) (split-split f g id new v r l once s.1)

  pub from_split : (id : ℕ) (v : L) (r l : List (ℕ × L)) → times_leaf l id ≡ 0 → from_leaf (l ++ (id, v) ∷ r) id ≡ (id, v) ∷ r
  from_split id v r [] h = ap (λ b. cond b ((id, v) ∷ r) (from_leaf r id)) (itself id)
  from_split id v r (x ∷ l) h =
      let s = skip id x l h in
      ap (λ b. cond b (x ∷ (l ++ (id, v) ∷ r)) (from_leaf (l ++ (id, v) ∷ r) id)) s.0 ∙ from_split id v r l s.1

  ids_by : (b : Bool) (x : ℕ × L) (w : L) (ys : List (ℕ × L)) (zs : List ℕ) → ids ys ≡ zs → ids (cond b ((x.0, w) ∷ ys) (x ∷ ys)) ≡ x.0 ∷ zs
  ids_by true x w ys zs h = ap (λ us. x.0 ∷ us) h
  ids_by false x w ys zs h = ap (λ us. x.0 ∷ us) h

  -- a change of a leaf keeps the nodes
  pub ids-change : (g : L → L) (xs : List (ℕ × L)) (id : ℕ) → ids (change_leaf g xs id) ≡ ids xs
  ids-change g [] id = refl
  ids-change g (x ∷ xs) id = ids_by (nat_eq x.0 id) x (g x.1) (change_leaf g xs id) (ids xs) (ids-change g xs id)

  pub times-change : (g : L → L) (xs : List (ℕ × L)) (id z : ℕ) → times_leaf (change_leaf g xs id) z ≡ times_leaf xs z
  times-change g xs id z = sym (times-ids (change_leaf g xs id) z) ∙ ap (λ us. times us z) (ids-change g xs id) ∙ times-ids xs z

  -- the leaves after a change of one, as a walk that stands at it finds them
  pub record Changed (xs now : List (ℕ × L)) (id : ℕ) (w : L) : Type 0 where
    pub whole : now ≡ left_of xs id ++ (id, w) ∷ from_place xs (after (ids xs) id)
    pub behind : from_place now (after (ids xs) id) ≡ from_place xs (after (ids xs) id)
    pub before : before_place now (after (ids xs) id) ≡ left_of xs id ++ (id, w) ∷ []

  pub changed : (g : L → L) (xs : List (ℕ × L)) (id : ℕ) (v : L) → ((i : ℕ) → times_leaf xs i ≤ 1) → Stands xs id v
      → Changed xs (change_leaf g xs id) id (g v)
  changed g xs id v once s =
      let l = left_of xs id in
      let r = from_place xs (after (ids xs) id) in
      let now = change_leaf g xs id in
      let whole : now ≡ l ++ (id, g v) ∷ r = ap (λ zs. change_leaf g zs id) s.whole ∙ change-split g id v r l s.right s.left in
      let value : value_at now id ≡ Some (g v) = ap (λ zs. value_at zs id) whole ∙ value-split id (g v) r l s.left in
      let there : Stands now id (g v) = stands now id (g v) (λ i. omega (arith, times-change g xs id i, once i)) value in
      let next : after (ids now) id ≡ after (ids xs) id = ap (λ us. after us id) (ids-change g xs id) in
      let both : (id, g v) ∷ r ≡ (id, g v) ∷ from_place now (after (ids now) id) =
      sym (ap (λ zs. from_leaf zs id) whole ∙ from_split id (g v) r l s.left) ∙ there.from in
      let rest : r ≡ from_place now (after (ids now) id) = (cc) in
      let front : left_of now id ≡ l = ap (λ zs. left_of zs id) whole ∙ left-split id (g v) r l s.left in
      record {
        whole = whole;
        behind = ap (from_place now) (sym next) ∙ sym rest;
        before = ap (before_place now) (sym next) ∙ before-after now id (g v) there ∙ ap (λ zs. zs ++ (id, g v) ∷ []) front;
      }

  -- two changes of a leaf that make the same of it
  pub change-here : (f g : L → L) (xs : List (ℕ × L)) (id : ℕ) (v : L) → ((i : ℕ) → times_leaf xs i ≤ 1) → value_at xs id ≡ Some v → f v ≡ g v
      → change_leaf f xs id ≡ change_leaf g xs id
  change-here f g xs id v once e same =
      let s = stands xs id v once e in
      (changed f xs id v once s).whole ∙ ap (λ w. left_of xs id ++ (id, w) ∷ from_place xs (after (ids xs) id)) same ∙ sym (changed g xs id v once s).whole

  -- a change that leaves the leaf as it is
  pub change-nothing : (f : L → L) (xs : List (ℕ × L)) (id : ℕ) (v : L) → ((i : ℕ) → times_leaf xs i ≤ 1) → value_at xs id ≡ Some v → f v ≡ v
      → change_leaf f xs id ≡ xs
  change-nothing f xs id v once e same =
      let s = stands xs id v once e in
      (changed f xs id v once s).whole ∙ ap (λ w. left_of xs id ++ (id, w) ∷ from_place xs (after (ids xs) id)) same ∙ sym s.whole

  twice_by : (b : Bool) (f g : L → L) (x : ℕ × L) (id : ℕ) (ys zs : List (ℕ × L)) → nat_eq x.0 id ≡ b → change_leaf f ys id ≡ zs
      → change_leaf f (cond b ((x.0, g x.1) ∷ ys) (x ∷ ys)) id ≡ cond b ((x.0, f (g x.1)) ∷ zs) (x ∷ zs)
  twice_by true f g x id ys zs e h =
      ap (λ c. cond c ((x.0, f (g x.1)) ∷ change_leaf f ys id) ((x.0, g x.1) ∷ change_leaf f ys id)) e ∙ ap (λ us. (x.0, f (g x.1)) ∷ us) h
  twice_by false f g x id ys zs e h = ap (λ c. cond c ((x.0, f x.1) ∷ change_leaf f ys id) (x ∷ change_leaf f ys id)) e ∙ ap (λ us. x ∷ us) h

  -- two changes of a leaf in turn
  pub change-twice : (f g : L → L) (xs : List (ℕ × L)) (id : ℕ) → change_leaf f (change_leaf g xs id) id ≡ change_leaf (λ v. f (g v)) xs id
  change-twice f g [] id = refl
  change-twice f g (x ∷ xs) id =
      twice_by (nat_eq x.0 id) f g x id (change_leaf g xs id) (change_leaf (λ v. f (g v)) xs id) refl (change-twice f g xs id)
