-- A search for a leaf on which a reference may stand: what it passes one by one, and what it passes by the sums of blocks.
use Rattle.std.proofs.Common.{◌≡◌, ℕ, All, ◌+◌, ◌<◌, ◌≤◌, Bool, true, false, cond, nat_eq, List, [], ◌∷◌, ◌++◌, length, Option, Some, None, option_map, IsSomeAnd, subst, refl, sym, ◌∙◌, ap, inl, inr, arith, append-nil, append_assoc, length-append}
use Rattle.std.specs.Option.{ForSome, option_map_or, option_or}
use Rattle.std.proofs.lemmas.Bool.{cases_eq, cond-false, cond-true, eq-eqb, ne_eqb}
use Rattle.ft_arena.specs.Ids.{after}
use Rattle.ft_arena.proofs.IdLemmas.{same_refl}
use Rattle.ft_base.specs.declared.stamps.Stamp.{Stamp}
use Rattle.ft_base.specs.Scan.{len}
use Rattle.ft_block.specs.declared.blocks.Found.{Found}
use Rattle.ft_block.specs.declared.leaves.LenView.{LenView}
use Rattle.ft_block.specs.Leaves.{IsLeafIn, IsPlaceIn, ids, left_of, length_by, place_by, place_from, sees_in, times_leaf, value_at}
use Rattle.ft_tree_leaves.specs.declared.leaves.Standing.{Standing}
use Rattle.ft_tree_leaves.specs.declared.leaves.Standing.TheVariants.{SeenIn}
use Rattle.ft_tree_leaves.specs.declared.leaves.TreeLeaf.{TreeLeaf}
use Rattle.ft_tree_leaves.specs.Edits.{up_to_leaf, up_to_place}
use Rattle.ft_tree_leaves.specs.Elements.{TreeElement, element_with}
use Rattle.ft_tree_leaves.specs.LeafLists.{elements, leaf_elements, leaf_length}
use Rattle.ft_tree_leaves.specs.Settling.{allows, first_from, stands}
use Rattle.ft_tree_leaves.proofs.CutLeaves.{times-append}
use Rattle.ft_tree_leaves.proofs.LeafRuns.{elements-append, length-elements}
use Rattle.ft_tree_leaves.proofs.Runs.{len-append, len-unseen}
use Rattle.ft_tree_leaves.proofs.Standing.{left-split, up_to-split, value-split}
use Rattle.ft_tree_blocks.specs.LastStanding.{last_from}
use Rattle.ft_tree_blocks.specs.LeafPlaces.{leaf_end, leaf_start, stands_at}
use Rattle.ft_tree_blocks.specs.Skips.{Skips}
use Rattle.ft_tree_blocks.specs.Walks.{before_place, from_leaf, from_place}
use Rattle.ft_tree_blocks.proofs.CountedWalks.{offset_within, walks_on}
use Rattle.ft_tree_blocks.proofs.FoundLeaves.{beyond_none, len_elements, place-front, place-skips, stands_first, stands_last}
use Rattle.ft_tree_blocks.proofs.SettledLeaves.{first_of_leaf, first_on, last-append, last_on}
use Rattle.ft_tree_blocks.proofs.WalkEdits.{from_split}
use Rattle.ft_tree_blocks.proofs.Walks.{before-after, before-from, live_value, stands as stands_once, up_to-stands}

module _ {A : Type 0} (ok : A → Bool) where
  -- the first one is behind what is passed
  pub first-skips : (es ys : List A) (n m : ℕ) → len ok es ≡ 0 → m ≡ n + length es → first_from ok n (es ++ ys) ≡ first_from ok m ys
  first-skips [] ys n m h e = let same : n ≡ m = omega arith in ap (λ k. first_from ok k ys) same
  first-skips (x ∷ es) ys n m h e = let next : m ≡ n + 1 + length es = omega arith in grind (arith, next, first-skips es ys (n + 1) m)

  last-nothing : (es : List A) (n : ℕ) → len ok es ≡ 0 → last_from ok n es ≡ None
  last-nothing [] n h = refl
  last-nothing (x ∷ es) n h = grind (arith, last-nothing es (n + 1))

  -- the last one is before it
  last-skips : (n : ℕ) (xs es : List A) → len ok es ≡ 0 → last_from ok n (xs ++ es) ≡ last_from ok n xs
  last-skips n xs es h = last-append ok n xs es ∙ ap (λ o. option_or o (last_from ok n xs)) (last-nothing es (n + length xs) h)

module _ {C U : Type 0} (units : C → List U) (by : C → Option Stamp) (test : Standing) (xs : List (ℕ × TreeLeaf C)) where
  abbrev ok : TreeElement U → Bool
  ok = stands test

  pub skips-start : (at : Option ℕ) → Skips units by ok xs at at
  skips-start at = record { es = []; none = refl; before = sym (append-nil (elements units by (before_place xs at))); rest = refl }

  -- one search behind the other
  pub skips-on : (from mid to : Option ℕ) → Skips units by ok xs from mid → Skips units by ok xs mid to → Skips units by ok xs from to
  skips-on from mid to s t = record {
    es = s.es ++ t.es;
    none = omega (arith, len-append ok s.es t.es, s.none, t.none);
    before = t.before ∙ ap (λ zs. zs ++ t.es) s.before ∙ append_assoc (elements units by (before_place xs from)) s.es t.es;
    rest = s.rest ∙ ap (λ zs. s.es ++ zs) t.rest ∙ sym (append_assoc s.es t.es (elements units by (from_place xs to)));
  }

  -- a leaf on which none may stand
  pub skips-leaf : (at : Option ℕ) (id : ℕ) (v : TreeLeaf C) (to : Option ℕ) → ((i : ℕ) → times_leaf xs i ≤ 1) → at ≡ Some id
      → value_at xs id ≡ Some v
      → to ≡ after (ids xs) id → allows test v.stamps ≡ false → Skips units by ok xs at to
  skips-leaf at id v to once here is there off =
      let of_leaf : U → TreeElement U = λ u. element_with v.stamps (by v.content) v.overlay u in
      record {
        es = leaf_elements units by v;
        none = len-unseen ok of_leaf (λ u. off) (units v.content);
        before = ap (λ o. elements units by (before_place xs o)) there
            ∙ ap (elements units by) (before-after xs id v (stands_once xs id v once is))
            ∙ elements-append units by (left_of xs id) ((id, v) ∷ [])
            ∙ ap (λ zs. elements units by (left_of xs id) ++ zs) (append-nil (leaf_elements units by v))
            ∙ ap (λ o. elements units by (before_place xs o) ++ leaf_elements units by v) (sym here);
        rest = (walks_on units by xs at id v to once here is there).split;
      }

  -- the first one from where the search began is the first from where it goes on
  pub first-on : (from to : Option ℕ) → Skips units by ok xs from to
      → first_from ok (length (elements units by (before_place xs to))) (elements units by (from_place xs to))
      ≡ first_from ok (length (elements units by (before_place xs from))) (elements units by (from_place xs from))
  first-on from to s =
      sym (ap (first_from ok (length (elements units by (before_place xs from)))) s.rest
      ∙ first-skips ok s.es (elements units by (from_place xs to)) (length (elements units by (before_place xs from)))
      (length (elements units by (before_place xs to))) s.none
      (omega (arith, ap length s.before, length-append (elements units by (before_place xs from)) s.es)))

  -- a leaf on which a reference may stand is the first one
  pub first-found : (to : Option ℕ) → ((i : ℕ) → times_leaf xs i ≤ 1) → All (λ x. 1 ≤ length (units x.1.content)) xs → IsPlaceIn xs to
      → ForSome to (λ j. stands_at test xs j ≡ true)
      → option_map (leaf_start units by xs) to ≡ first_from ok (length (elements units by (before_place xs to))) (elements units by (from_place xs
      to))
  first-found None once some live stands = refl
  first-found (Some j) once some live stands =
      let v = live_value xs j live in
      let on = first_of_leaf units xs j some live in
      let fits : 0 < length (units v.0.content) = subst (λ o. IsSomeAnd o (λ w. 0 < length (units w.content))) v.1 on in
      let off : allows test v.0.stamps ≡ true =
      sym (ap (λ o. option_map_or (λ (x : TreeLeaf C). allows test x.stamps) o false) v.1) ∙ stands j refl in
      sym (first_on units by test xs j v.0 once v.1 (Some j) refl off fits)

  -- the last one up to a leaf on which none may stand is the last one before it
  pub last-off : (at : Option ℕ) (id : ℕ) (v : TreeLeaf C) → ((i : ℕ) → times_leaf xs i ≤ 1) → at ≡ Some id → value_at xs id ≡ Some v
      → allows test v.stamps ≡ false
      → last_from ok 0 (elements units by (left_of xs id)) ≡ last_from ok 0 (elements units by (up_to_place xs at))
  last-off at id v once here is off =
      let of_leaf : U → TreeElement U = λ u. element_with v.stamps (by v.content) v.overlay u in
      let ls = elements units by (left_of xs id) in
      sym (ap (λ o. last_from ok 0 (elements units by (up_to_place xs o))) here
      ∙ ap (λ zs. last_from ok 0 (elements units by zs)) (up_to-stands xs id v (stands_once xs id v once is))
      ∙ ap (last_from ok 0) (elements-append units by (left_of xs id) ((id, v) ∷ []) ∙ ap (λ es. ls ++ es) (append-nil (leaf_elements units by v)))
      ∙ last-skips ok 0 ls (leaf_elements units by v) (len-unseen ok of_leaf (λ u. off) (units v.content)))

-- ---- by the sums of a view

module _ {C U : Type 0} (units : C → List U) (by : C → Option Stamp) (view : LenView) where
  abbrev sum : TreeLeaf C → ℕ
  sum = leaf_length units view

  abbrev seen : TreeElement U → Bool
  seen = stands (SeenIn view)

  seen_some : (x : TreeLeaf C) → 1 ≤ sum x → (sees_in view x.stamps ≡ true) × (1 ≤ length (units x.content))
  seen_some x h = step (sees_in view x.stamps) h
    where
      step : (b : Bool) → 1 ≤ cond b (length (units x.content)) 0 → (b ≡ true) × (1 ≤ length (units x.content))
      step true h = (refl, h)
      step false h = absurd (omega arith)

  fewer_seen : (xs : List (ℕ × TreeLeaf C)) → length_by sum xs ≤ length_by (λ x. length (units x.content)) xs
  fewer_seen [] = omega arith
  fewer_seen (x ∷ xs) = omega (arith, step (sees_in view x.1.stamps), fewer_seen xs)
    where
      step : (b : Bool) → cond b (length (units x.1.content)) 0 ≤ length (units x.1.content)
      step true = omega arith
      step false = omega arith

  -- left of a leaf the view sees fewer elements than there are
  pub seen_room : (xs : List (ℕ × TreeLeaf C)) (id : ℕ) → ((i : ℕ) → times_leaf xs i ≤ 1) → All (λ x. 1 ≤ length (units x.1.content)) xs
      → IsLeafIn xs id
      → length_by sum (left_of xs id) < length_by (λ x. length (units x.content)) xs
  seen_room xs id once some live =
      let on = first_of_leaf units xs id some live in
      omega (
        arith,
        fewer_seen (left_of xs id),
        offset_within units by xs (record { owner = id; offset = 0 }) once on,
        length-elements units by xs,
        length-elements units by (left_of xs id),
      )

  module _ (xs : List (ℕ × TreeLeaf C)) (id : ℕ) (once : (i : ℕ) → times_leaf xs i ≤ 1) where
    -- the leaf that was found, in the whole list
    record Stands (before : List (ℕ × TreeLeaf C)) (j : ℕ) (v : TreeLeaf C) (behind : List (ℕ × TreeLeaf C)) : Type 0 where
      pub value : value_at xs j ≡ Some v
      pub left : left_of xs j ≡ before
      pub from : from_leaf xs j ≡ (j, v) ∷ behind
      pub up_to : up_to_leaf xs j ≡ before ++ (j, v) ∷ []
      pub live : 1 ≤ times_leaf xs j
      pub ok : stands_at (SeenIn view) xs j ≡ true

    there : (before : List (ℕ × TreeLeaf C)) (j : ℕ) (v : TreeLeaf C) (behind : List (ℕ × TreeLeaf C)) → xs ≡ before ++ (j, v) ∷ behind → 1 ≤ sum v
        → Stands before j v behind
    there before j v behind whole some =
        let all : times_leaf xs j ≡ times_leaf before j + times_leaf ((j, v) ∷ behind) j =
        ap (λ zs. times_leaf zs j) whole ∙ times-append before ((j, v) ∷ behind) j in
        let apart : times_leaf before j ≡ 0 = omega (arith, all, same_refl j, once j) in
        let value : value_at xs j ≡ Some v = ap (λ zs. value_at zs j) whole ∙ value-split j v behind before apart in
        record {
          value = value;
          left = ap (λ zs. left_of zs j) whole ∙ left-split j v behind before apart;
          from = ap (λ zs. from_leaf zs j) whole ∙ from_split j v behind before apart;
          up_to = ap (λ zs. up_to_leaf zs j) whole ∙ up_to-split j v behind before apart;
          live = omega (arith, all, same_refl j);
          ok = ap (λ o. option_map_or (λ (x : TreeLeaf C). allows (SeenIn view) x.stamps) o false) value ∙ (seen_some v some).0;
        }

    -- how many the view sees left of the leaf, and from it on
    both : length_by sum xs ≡ length_by sum (left_of xs id) + length_by sum (from_leaf xs id)
    both =
        omega (
          arith,
          len_elements units by view xs,
          len_elements units by view (left_of xs id),
          len_elements units by view (from_leaf xs id),
          ap (λ zs. len seen (elements units by zs)) (before-from xs (Some id)),
          ap (len seen) (elements-append units by (left_of xs id) (from_leaf xs id)),
          len-append seen (elements units by (left_of xs id)) (elements units by (from_leaf xs id)),
        )

    stands_there : (i j : ℕ) → stands_at (SeenIn view) xs i ≡ true → Some i ≡ Some j → stands_at (SeenIn view) xs j ≡ true
    stands_there i j h e = let same : i ≡ j = (cc) in ap (stands_at (SeenIn view) xs) (sym same) ∙ h

    -- the next leaf that the view sees
    pub record IsNext (to : Option ℕ) : Type 0 where
      pub live : IsPlaceIn xs to
      pub stands : ForSome to (λ j. stands_at (SeenIn view) xs j ≡ true)
      pub skips : Skips units by seen xs (Some id) to

    pub next_none : (p : ℕ) → p ≡ length_by sum (left_of xs id) + 1 → place_by sum xs p ≡ None → IsNext None
    next_none p e none =
        let beyond = beyond_none sum xs p (omega arith) none in
        let rest = elements units by (from_leaf xs id) in
        record {
          live = tt;
          stands = λ j h. (cc);
          skips = record {
            es = rest;
            none = len_elements units by view (from_leaf xs id) ∙ omega (arith, beyond, both);
            before = ap (elements units by) (sym (before-from xs (Some id))) ∙ elements-append units by (left_of xs id) (from_leaf xs id);
            rest = sym (append-nil rest);
          };
        }

    pub next_found : (p : ℕ) (found : Found) → p ≡ length_by sum (left_of xs id) + 1 → place_by sum xs p ≡ Some found → IsNext found.leaf
    next_found p found e is =
        let left = left_of xs id in
        let start : place_from sum (from_leaf xs id) 1 ≡ Some found =
        sym (place-skips sum xs id 1 (omega arith)) ∙ ap (place_from sum xs) (sym e) ∙ sym (cond-false (nat_eq p 0) _ _ (ne_eqb p 0 (omega
        arith))) ∙ is in
        let r = stands_first sum (from_leaf xs id) found start in
        let t = r.there in
        let whole : xs ≡ (left ++ t.before) ++ (t.id, t.value) ∷ t.behind =
        sym (before-from xs (Some id)) ∙ ap (λ zs. left ++ zs) t.is ∙ sym (append_assoc left t.before ((t.id, t.value) ∷ t.behind)) in
        let s = there (left ++ t.before) t.id t.value t.behind whole t.some in
        subst IsNext (sym t.leaf) (record {
          live = s.live;
          stands = λ j h. stands_there t.id j s.ok h;
          skips = record {
            es = elements units by t.before;
            none = len_elements units by view t.before ∙ r.none;
            before = ap (elements units by) s.left ∙ elements-append units by left t.before;
            rest = ap (elements units by) t.is ∙ elements-append units by t.before ((t.id, t.value) ∷ t.behind)
                ∙ ap (λ zs. elements units by t.before ++ elements units by zs) (sym s.from);
          };
        })

    -- the last leaf before that the view sees
    pub record IsLast (to : Option ℕ) : Type 0 where
      pub live : IsPlaceIn xs to
      pub stands : ForSome to (λ j. stands_at (SeenIn view) xs j ≡ true)
      pub last : option_map (leaf_end units by xs) to ≡ last_from seen 0 (elements units by (left_of xs id))

    last_none : (to : Option ℕ) → length_by sum (left_of xs id) ≡ 0 → to ≡ None → IsLast to
    last_none to none e =
        subst IsLast (sym e) (record {
          live = tt;
          stands = λ j h. (cc);
          last = sym (last-nothing seen (elements units by (left_of xs id)) 0 (len_elements units by view (left_of xs id) ∙ none));
        })

    last_some : (p : ℕ) (found : Found) → 1 ≤ p → p ≡ length_by sum (left_of xs id) → place_by sum xs p ≡ Some found → IsLast found.leaf
    last_some p found some e is =
        let left = left_of xs id in
        let start : place_from sum left p ≡ Some found =
        sym (place-front sum left (from_leaf xs id) p (omega arith) some) ∙ ap (λ zs. place_from sum zs p) (before-from xs (Some id))
        ∙ sym (cond-false (nat_eq p 0) _ _ (ne_eqb p 0 (omega arith))) ∙ is in
        let r = stands_last sum left p found some e start in
        let t = r.there in
        let whole : xs ≡ t.before ++ (t.id, t.value) ∷ (t.behind ++ from_leaf xs id) =
        sym (before-from xs (Some id)) ∙ ap (λ zs. zs ++ from_leaf xs id) t.is ∙ append_assoc t.before ((t.id, t.value) ∷ t.behind) (from_leaf xs
        id) in
        let s = there t.before t.id t.value (t.behind ++ from_leaf xs id) whole t.some in
        let seen_here = seen_some t.value t.some in
        let split : left ≡ up_to_leaf xs t.id ++ t.behind =
        t.is ∙ sym (append_assoc t.before ((t.id, t.value) ∷ []) t.behind) ∙ ap (λ zs. zs ++ t.behind) (sym s.up_to) in
        subst IsLast (sym t.leaf) (record {
          live = s.live;
          stands = λ j h. stands_there t.id j s.ok h;
          last = sym (ap (λ zs. last_from seen 0 (elements units by zs)) split
              ∙ ap (last_from seen 0) (elements-append units by (up_to_leaf xs t.id) t.behind)
              ∙ last-skips seen 0 (elements units by (up_to_leaf xs t.id)) (elements units by t.behind) (len_elements units by view t.behind ∙ r.none)
              ∙ last_on units by (SeenIn view) xs t.id t.value once s.value (Some t.id) refl seen_here.0 seen_here.1);
        })

    head_of : (p : ℕ) (found : Found) → p ≡ 0 → place_by sum xs p ≡ Some found → found.leaf ≡ None
    head_of p found z is =
        let first : Some record { leaf = None; offset = 0 } ≡ Some found = sym (cond-true (nat_eq p 0) _ _ (eq-eqb p 0 z)) ∙ is in
        (cc)

    pub last_found : (p : ℕ) (found : Found) → p ≡ length_by sum (left_of xs id) → place_by sum xs p ≡ Some found → IsLast found.leaf
    last_found p found e is = elim (cases_eq p 0) [
      | inl z ↦ last_none found.leaf (omega arith) (head_of p found z is)
      | inr d ↦ last_some p found (omega arith) e is
    ]

    -- so many are seen, so the place is found
    pub last_there : {Z : Type 0} (p : ℕ) → p ≡ length_by sum (left_of xs id) → place_by sum xs p ≡ None → Z
    last_there p e none = elim (cases_eq p 0) [
      | inl z ↦
          let head : Found = record { leaf = None; offset = 0 } in
          let first : Some head ≡ None = sym (cond-true (nat_eq p 0) _ _ (eq-eqb p 0 z)) ∙ none in
          let no : ⊥ = (cc) in
          absurd no
      | inr d ↦ absurd (omega (arith, beyond_none sum xs p (omega arith) none, both))
    ]
