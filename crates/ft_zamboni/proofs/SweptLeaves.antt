-- One step of a sweep: the leaf that it looks at goes from those ahead to those that it has looked at.
use Rattle.std.proofs.Common.{◌≡◌, ℕ, ◌+◌, ◌≤◌, Bool, true, false, cond, ◌&&◌, nat_le, nat_lt, IsTrue, IfSome, List, [], ◌∷◌, ◌++◌, length, map, filter, Option, Some, subst, refl, sym, ◌∙◌, ap, inl, inr, arith, append-nil, append_assoc, length-append}
use Rattle.std.proofs.lemmas.Bool.Decides.{nat_tests}
use Rattle.std.proofs.lemmas.List.{map-append}
use Rattle.ft_arena.specs.Ids.{after, first}
use Rattle.ft_base.specs.declared.stamps.Stamp.{Stamp}
use Rattle.ft_base.specs.declared.elements.Element.{Element as ElementStamps}
use Rattle.ft_block.specs.Leaves.{ids, join_leaf, left_of, times_leaf, value_after, value_at, without_leaf}
use Rattle.ft_tree_leaves.specs.declared.leaves.TreeLeaf.{TreeLeaf}
use Rattle.ft_tree_leaves.specs.Edits.{IsFreeOf, MayJoin, MayJoinGiven, MayJoinNext, closed_by, closed_place, joined_leaf, leaf_at, sweep_joined, sweep_behind, sweep_without, with_place}
use Rattle.ft_tree_leaves.specs.Elements.{TreeElement, elements_with, element_with}
use Rattle.ft_tree_leaves.specs.LeafLists.{elements, leaf_elements}
use Rattle.ft_tree_leaves.specs.References.{ChangesReferences, KeepsReferences, reference_place}
use Rattle.ft_tree_leaves.proofs.CutLeaves.{times-append}
use Rattle.ft_tree_leaves.proofs.LeafRuns.{elements-append, elements-one}
use Rattle.ft_tree_leaves.proofs.Standing.{after-split, at-value, join-split, left-split, next-split, value-split}
use Rattle.ft_props.specs.Overlay.{OverlayState}
use Rattle.ft_tree.specs.State.{TreeState}
use Rattle.ft_zamboni.specs.Scours.{AreClear, Writes, collected, is_collectable, marked, place_among, staying, unmarked}
use Rattle.ft_zamboni.specs.Sweeps.{Goes, IsFreeIfCollectable, Looks, Sweeps, seen_marks}
use Rattle.ft_zamboni.specs.Sweeps.Looks.{took, merged, stayed}
use Rattle.ft_zamboni.proofs.LookedLists.{apart, last-put, last-split, sweep-merged, sweep-took, without-split}
use Rattle.ft_zamboni.proofs.Marks.{Closes, IsClearAt, StaysAt, clear-before, clear-marked, clear-stay, closes, go, mark, stay, staying-append, staying-go, staying-stay}
use Rattle.ft_zamboni.proofs.PassedReferences.{changes-kept, changes-twice, place-was}
use Rattle.ft_zamboni.proofs.Writing.{writes-after, writes-append, writes-joined, writes-length, writes-same}

closes-place : (k n j j' : ℕ) → Closes k n j j' → closed_place k n j ≡ j'
closes-place k n j j' (inl h) = grind (arith, nat_tests, h.0, h.1)
closes-place k n j j' (inr h) = grind (arith, nat_tests, h.0, h.1)

closes-outside : (k n j j' : ℕ) → Closes k n j j' → (nat_le k j && nat_lt j (k + n)) ≡ false
closes-outside k n j j' (inl h) = grind (arith, nat_tests, h.0, h.1)
closes-outside k n j j' (inr h) = grind (arith, nat_tests, h.0, h.1)

module _ {C : Type 0} (floor : ℕ) where
  pub collected-append : (xs ys : List (ℕ × TreeLeaf C)) → collected floor (xs ++ ys) ≡ collected floor xs ++ collected floor ys
  collected-append [] ys = refl
  collected-append (x ∷ xs) ys = step (is_collectable floor x.1.stamps) (collected-append xs ys)
    where
      step : (b : Bool) → collected floor (xs ++ ys) ≡ collected floor xs ++ collected floor ys
          → map (λ z. z.1.content) (cond b (x ∷ filter (λ z. is_collectable floor z.1.stamps) (xs ++ ys))
          (filter (λ z. is_collectable floor z.1.stamps) (xs ++ ys)))
          ≡ map (λ z. z.1.content) (cond b (x ∷ filter (λ z. is_collectable floor z.1.stamps) xs)
          (filter (λ z. is_collectable floor z.1.stamps) xs)) ++ collected floor ys
      step true e = ap (λ zs. x.1.content ∷ zs) e
      step false e = e

  collected-took : (xs : List (ℕ × TreeLeaf C)) (id : ℕ) (v : TreeLeaf C) → is_collectable floor v.stamps ≡ true
      → collected floor (xs ++ (id, v) ∷ []) ≡ collected floor xs ++ v.content ∷ []
  collected-took xs id v h = collected-append xs ((id, v) ∷ [])
      ∙ ap (λ b. collected floor xs ++ map (λ (z : ℕ × TreeLeaf C). z.1.content) (cond b ((id, v) ∷ []) [])) h

  collected-kept : (xs : List (ℕ × TreeLeaf C)) (id : ℕ) (v : TreeLeaf C) → is_collectable floor v.stamps ≡ false
      → collected floor (xs ++ (id, v) ∷ []) ≡ collected floor xs
  collected-kept xs id v h =
      collected-append xs ((id, v) ∷ [])
      ∙ ap (λ b. collected floor xs ++ map (λ (z : ℕ × TreeLeaf C). z.1.content) (cond b ((id, v) ∷ []) [])) h
      ∙ append-nil (collected floor xs)

module _ {U : Type 0} (floor : ℕ) where
  -- the elements of a leaf go or stay together
  marked-run : (b : Bool) (stamps : ElementStamps) (author : Option Stamp) (overlay : OverlayState) → is_collectable floor stamps ≡ b
      → (us : List U)
      → map (marked floor) (elements_with stamps author overlay us) ≡ map (λ e. (b, e)) (elements_with stamps author overlay us)
  marked-run b stamps author overlay h [] = refl
  marked-run b stamps author overlay h (u ∷ us) =
      ap (λ c. (c, element_with stamps author overlay u) ∷ map (marked floor) (elements_with stamps author overlay us)) h
      ∙ ap (λ zs. (b, element_with stamps author overlay u) ∷ zs) (marked-run b stamps author overlay h us)

module _ {C U : Type 0} (units : C → List U) (by : C → Option Stamp) (floor : ℕ) where
  abbrev goes_at : TreeElement U → Bool
  goes_at e = is_collectable floor e.stamps

  -- what no reference could be on doesn't go, nor do others
  pub marks-clear : (xs before seen behind : List (ℕ × TreeLeaf C)) → xs ≡ before ++ (seen ++ behind) → (i : ℕ)
      → IsClearAt goes_at (elements units by xs) i → StaysAt (seen_marks units by floor before seen behind) i
  marks-clear xs before seen behind whole i c =
      let es = elements units by before in
      let fs = elements units by seen in
      let gs = elements units by behind in
      let split : elements units by xs ≡ es ++ (fs ++ gs) =
      ap (elements units by) whole ∙ elements-append units by before (seen ++ behind)
      ∙ ap (λ zs. es ++ zs) (elements-append units by seen behind) in
      clear-before goes_at es (fs ++ gs) (map (mark goes_at) fs ++ map stay gs)
      (clear-marked goes_at fs gs (map stay gs) (λ m c. clear-stay goes_at gs m)) i (subst (λ zs. IsClearAt goes_at zs i) split c)

module _ {C U : Type 0} (units : C → List U) (by : C → Option Stamp) where
  module _ (old now : TreeState C) (before seen ahead rest : List (ℕ × TreeLeaf C)) (id : ℕ) (v : TreeLeaf C) (last : Option ℕ)
      (base taken : List C)
      (s : Sweeps units by old now before seen ((id, v) ∷ ahead) rest last base taken) where
    abbrev pub floor : ℕ
    floor = old.floor

    abbrev pub tail : List (ℕ × TreeLeaf C)
    tail = ahead ++ rest

    abbrev pub xs : List (TreeElement U)
    xs = leaf_elements units by v

    abbrev pub front : List (Bool × TreeElement U)
    front = map unmarked (elements units by before) ++ map (marked floor) (elements units by seen)

    abbrev pub behind : List (Bool × TreeElement U)
    behind = map unmarked (elements units by tail)

    seen_elements : elements units by (seen ++ (id, v) ∷ []) ≡ elements units by seen ++ xs
    seen_elements = elements-append units by seen ((id, v) ∷ []) ∙ ap (λ es. elements units by seen ++ es) (elements-one units by (id, v))

    marks_old : seen_marks units by floor before seen ((id, v) ∷ tail) ≡ front ++ (map stay xs ++ behind)
    marks_old =
        ap (λ zs. map unmarked (elements units by before) ++ (map (marked floor) (elements units by seen) ++ zs))
        (map-append unmarked xs (elements units by tail))
        ∙ sym (append_assoc (map unmarked (elements units by before)) (map (marked floor) (elements units by seen)) (map stay xs ++ behind))

    seen_marked : (b : Bool) → is_collectable floor v.stamps ≡ b
        → map (marked floor) (elements units by (seen ++ (id, v) ∷ [])) ≡ map (marked floor) (elements units by seen)
        ++ map (λ e. (b, e)) xs
    seen_marked b h =
        ap (map (marked floor)) seen_elements ∙ map-append (marked floor) (elements units by seen) xs
        ∙ ap (λ zs. map (marked floor) (elements units by seen) ++ zs)
        (marked-run floor b v.stamps (by v.content) v.overlay h (units v.content))

    marks_new : (b : Bool) → is_collectable floor v.stamps ≡ b
        → seen_marks units by floor before (seen ++ (id, v) ∷ []) tail ≡ front ++ (map (λ e. (b, e)) xs ++ behind)
    marks_new b h =
        ap (λ zs. map unmarked (elements units by before) ++ (zs ++ behind)) (seen_marked b h)
        ∙ ap (λ zs. map unmarked (elements units by before) ++ zs)
        (append_assoc (map (marked floor) (elements units by seen)) (map (λ e. (b, e)) xs) behind)
        ∙ sym (append_assoc (map unmarked (elements units by before)) (map (marked floor) (elements units by seen))
        (map (λ e. (b, e)) xs ++ behind))

    -- where the leaf stands
    abbrev pub left : List (ℕ × TreeLeaf C)
    left = before ++ s.kept

    pub now_at : now.leaves ≡ left ++ (id, v) ∷ tail
    now_at = s.now_is ∙ sym (append_assoc before s.kept ((id, v) ∷ tail))

    old_at : old.leaves ≡ before ++ ((seen ++ (id, v) ∷ []) ++ tail)
    old_at = s.old_is ∙ ap (λ zs. before ++ zs) (sym (append_assoc seen ((id, v) ∷ []) tail))

    left_count : length (staying front) ≡ length (elements units by left)
    left_count =
        let e = elements units by before in
        let m = map (marked floor) (elements units by seen) in
        omega (
          arith,
          ap length (staying-append (map unmarked e) m),
          ap (λ zs. length (zs ++ staying m)) (staying-stay e),
          length-append e (staying m),
          ap length (elements-append units by before s.kept),
          length-append e (elements units by s.kept),
          writes-length floor s.writes,
        )

    module _ (once : (z : ℕ) → times_leaf now.leaves z ≤ 1) where
      pub alone : (times_leaf left id ≡ 0) × (times_leaf tail id ≡ 0)
      alone = apart left tail id v (λ z. subst (λ (ys : List (ℕ × TreeLeaf C)). times_leaf ys z ≤ 1) now_at (once z))

      pub value : value_at now.leaves id ≡ Some v
      value = ap (λ ys. value_at ys id) now_at ∙ value-split id v tail left alone.0

      left_is : left_of now.leaves id ≡ left
      left_is = ap (λ ys. left_of ys id) now_at ∙ left-split id v tail left alone.0

      leaf_is : leaf_at now.leaves id ≡ (id, v) ∷ []
      leaf_is = at-value now.leaves id v (once id) value

      k_is : length (elements units by (left_of now.leaves id)) ≡ length (staying front)
      k_is = ap (λ ys. length (elements units by ys)) left_is ∙ sym left_count

      n_is : length (elements units by (leaf_at now.leaves id)) ≡ length xs
      n_is = ap (λ ys. length (elements units by ys)) leaf_is ∙ ap length (elements-one units by (id, v))

      module _ (clear : AreClear floor (elements units by old.leaves) old.refs) where
        stays : (r i : ℕ) → reference_place old.refs r ≡ Some i → StaysAt (seen_marks units by floor before (seen ++ (id, v) ∷ []) tail) i
        stays r i e = marks-clear units by floor old.leaves before (seen ++ (id, v) ∷ []) tail old_at i (clear r i e)

        -- no reference is on the leaf where it goes, and those behind it move up
        closes-here : is_collectable floor v.stamps ≡ true → (r i : ℕ) → reference_place old.refs r ≡ Some i
            → Closes (length (staying front)) (length xs) (place_among (seen_marks units by floor before seen ((id, v) ∷ tail)) i)
            (place_among (seen_marks units by floor before (seen ++ (id, v) ∷ []) tail) i)
        closes-here h r i e =
            rw (marks_old, marks_new true h)
            (closes front xs behind i (subst (λ (ms : List (Bool × TreeElement U)). StaysAt ms i) (marks_new true h) (stays r i e)))

        pub free-here : IsFreeIfCollectable units by now.floor now.leaves id now.refs
        free-here =
            subst (λ (o : Option (TreeLeaf C)). IfSome o
            (λ x. is_collectable now.floor x.stamps ≡ true → IsFreeOf units by now.leaves id now.refs)) (sym value) (λ h r j e.
            let here : is_collectable floor v.stamps ≡ true = ap (λ f. is_collectable f v.stamps) (sym s.goes.floor) ∙ h in
            let was = place-was (place_among (seen_marks units by floor before seen ((id, v) ∷ tail))) old.refs now.refs s.refs r j e in
            let c = closes-here here r was.0 was.1.0 in
            rw (k_is, n_is, was.1.1) (closes-outside _ _ _ _ c))

        module _ (new : TreeState C) (goes : Goes now new) where
          goes_on : Goes old new
          goes_on = record { floor = goes.floor ∙ s.goes.floor; made = goes.made ∙ s.goes.made; usable = goes.usable }

          began : old.sweep ≡ first (ids ((seen ++ (id, v) ∷ []) ++ tail)) → now.sweep ≡ first (ids (s.kept ++ (id, v) ∷ tail))
          began e = s.sweep (e ∙ ap (λ (ys : List (ℕ × TreeLeaf C)). first (ids ys)) (append_assoc seen ((id, v) ∷ []) tail))

          none_kept : times_leaf s.kept id ≡ 0
          none_kept = omega (arith, times-append before s.kept id, alone.0)

          -- the leaf was taken out
          took-on : is_collectable floor v.stamps ≡ true → new.leaves ≡ without_leaf now.leaves id
              → ChangesReferences (with_place (closed_by units by now.leaves id)) now.refs new.refs
              → new.sweep ≡ sweep_without now.leaves id now.sweep
              → Sweeps units by old new before (seen ++ (id, v) ∷ []) ahead rest last base (taken ++ v.content ∷ [])
          took-on h leaves_is refs_is sweep_is = record {
            kept = s.kept;
            old_is = old_at;
            now_is = leaves_is ∙ ap (λ ys. without_leaf ys id) now_at ∙ without-split id v tail left alone.0 alone.1
                ∙ append_assoc before s.kept tail;
            last_is = s.last_is;
            writes =
                let m = map (marked floor) (elements units by seen) in
                let none : staying (map (marked floor) (elements units by (seen ++ (id, v) ∷ []))) ≡ staying m =
                ap staying (seen_marked true h) ∙ staying-append m (map go xs) ∙ ap (λ zs. staying m ++ zs) (staying-go xs)
                ∙ append-nil (staying m) in
                rw none s.writes;
            refs = changes-twice (place_among (seen_marks units by floor before seen ((id, v) ∷ tail))) (closed_by units by now.leaves id)
                (place_among (seen_marks units by floor before (seen ++ (id, v) ∷ []) tail)) old.refs now.refs new.refs s.refs refs_is
                (λ r i e.
                let j = place_among (seen_marks units by floor before seen ((id, v) ∷ tail)) i in
                ap (λ k. closed_place k (length (elements units by (leaf_at now.leaves id))) j) k_is
                ∙ ap (λ n. closed_place (length (staying front)) n j) n_is
                ∙ closes-place (length (staying front)) (length xs) j _ (closes-here h r i e));
            taken_is =
                ap (λ zs. zs ++ v.content ∷ []) s.taken_is ∙ append_assoc base (collected floor seen) (v.content ∷ [])
                ∙ ap (λ zs. base ++ zs) (sym (collected-took floor seen id v h));
            sweep = λ e.
                sweep_is ∙ ap (λ o. sweep_without now.leaves id o) (began e)
                ∙ ap (λ ys. sweep_without ys id (first (ids (s.kept ++ (id, v) ∷ tail)))) now_at
                ∙ sweep-took before s.kept tail id v alone.0;
            goes = goes_on;
          }

          module _ (h : is_collectable floor v.stamps ≡ false) where
            same_marks : seen_marks units by floor before seen ((id, v) ∷ tail)
                ≡ seen_marks units by floor before (seen ++ (id, v) ∷ []) tail
            same_marks = marks_old ∙ sym (marks_new false h)

            same_refs : KeepsReferences now.refs new.refs
                → ChangesReferences (with_place (place_among (seen_marks units by floor before (seen ++ (id, v) ∷ []) tail))) old.refs
                new.refs
            same_refs keeps =
                subst (λ (ms : List (Bool × TreeElement U)). ChangesReferences (with_place (place_among ms)) old.refs new.refs) same_marks
                (changes-kept (place_among (seen_marks units by floor before seen ((id, v) ∷ tail))) old.refs now.refs new.refs s.refs
                keeps)

            same_taken : taken ≡ base ++ collected floor (seen ++ (id, v) ∷ [])
            same_taken = s.taken_is ∙ ap (λ zs. base ++ zs) (sym (collected-kept floor seen id v h))

            stays_too : staying (map (marked floor) (elements units by (seen ++ (id, v) ∷ [])))
                ≡ staying (map (marked floor) (elements units by seen)) ++ xs
            stays_too =
                let m = map (marked floor) (elements units by seen) in
                ap staying (seen_marked false h) ∙ staying-append m (map stay xs) ∙ ap (λ zs. staying m ++ zs) (staying-stay xs)

            more_writes : Writes floor (elements units by s.kept ++ xs)
                (staying (map (marked floor) (elements units by (seen ++ (id, v) ∷ []))))
            more_writes = rw stays_too (writes-append floor s.writes (writes-same floor xs))

            -- the leaf was kept
            stayed-on : new.leaves ≡ now.leaves → KeepsReferences now.refs new.refs → new.sweep ≡ now.sweep
                → Sweeps units by old new before (seen ++ (id, v) ∷ []) ahead rest (Some id) base taken
            stayed-on leaves_is keeps sweep_is = record {
              kept = s.kept ++ (id, v) ∷ [];
              old_is = old_at;
              now_is = leaves_is ∙ s.now_is ∙ ap (λ zs. before ++ zs) (sym (append_assoc s.kept ((id, v) ∷ []) tail));
              last_is = sym (last-put s.kept (id, v));
              writes =
                  let e : elements units by (s.kept ++ (id, v) ∷ []) ≡ elements units by s.kept ++ xs =
                  elements-append units by s.kept ((id, v) ∷ [])
                  ∙ ap (λ es. elements units by s.kept ++ es) (elements-one units by (id, v)) in
                  rw e more_writes;
              refs = same_refs keeps;
              taken_is = same_taken;
              sweep = λ e. sweep_is ∙ began e
                  ∙ ap (λ (ys : List (ℕ × TreeLeaf C)). first (ids ys)) (sym (append_assoc s.kept ((id, v) ∷ []) tail));
              goes = goes_on;
            }

            module _ (joins : C → C → Bool) (joined : C → C → C)
                (joined_units : (x y : C) → IsTrue (joins x y) → units (joined x y) ≡ units x ++ units y)
                (joined_by : (x y : C) → IsTrue (joins x y) → by (joined x y) ≡ by x)
                (joins_by : (x y : C) → IsTrue (joins x y) → by y ≡ by x) where
              -- the leaf was joined to the one kept last
              merged-on : (l : ℕ) → last ≡ Some l → MayJoinNext joins now.floor now.leaves l
                  → new.leaves ≡ join_leaf (joined_leaf joined) now.leaves l → KeepsReferences now.refs new.refs → new.sweep
                  ≡ sweep_joined now.leaves l now.sweep
                  → Sweeps units by old new before (seen ++ (id, v) ∷ []) ahead rest last base taken
              merged-on l last_eq may leaves_is keeps sweep_is =
                  let sp = last-split s.kept l (sym s.last_is ∙ last_eq) in
                  let p = sp.0 in
                  let u = sp.1.0 in
                  let is : s.kept ≡ p ++ (l, u) ∷ [] = sp.1.1 in
                  let now_pair : now.leaves ≡ (before ++ p) ++ (l, u) ∷ (id, v) ∷ tail =
                  now_at ∙ ap (λ zs. (before ++ zs) ++ (id, v) ∷ tail) is
                  ∙ ap (λ zs. zs ++ (id, v) ∷ tail) (sym (append_assoc before p ((l, u) ∷ [])))
                  ∙ append_assoc (before ++ p) ((l, u) ∷ []) ((id, v) ∷ tail) in
                  let lone = apart (before ++ p) ((id, v) ∷ tail) l u
                  (λ z. subst (λ (ys : List (ℕ × TreeLeaf C)). times_leaf ys z ≤ 1) now_pair (once z)) in
                  let here : value_at now.leaves l ≡ Some u = ap (λ ys. value_at ys l) now_pair
                  ∙ value-split l u ((id, v) ∷ tail) (before ++ p) lone.0 in
                  let next : value_after now.leaves l ≡ Some v = ap (λ ys. value_after ys l) now_pair
                  ∙ next-split l u ((id, v) ∷ tail) (before ++ p) lone.0 in
                  let m0 : MayJoin joins now.floor u v =
                  subst (MayJoinGiven joins now.floor (Some u)) next
                  (subst (λ (o : Option (TreeLeaf C)). MayJoinGiven joins now.floor o (value_after now.leaves l)) here may) in
                  let m : MayJoin joins floor u v = subst (λ f. MayJoin joins f u v) s.goes.floor m0 in
                  let j = joined_leaf joined u v in
                  let a = u.content in
                  let b = v.content in
                  record {
                    kept = p ++ (l, j) ∷ [];
                    old_is = old_at;
                    now_is =
                        leaves_is ∙ ap (λ ys. join_leaf (joined_leaf joined) ys l) now_pair
                        ∙ join-split l u ((id, v) ∷ tail) (joined_leaf joined) (before ++ p) lone.0
                        ∙ append_assoc before p ((l, j) ∷ tail) ∙ ap (λ zs. before ++ zs) (sym (append_assoc p ((l, j) ∷ []) tail));
                    last_is = last_eq ∙ sym (last-put p (l, j));
                    writes =
                        let now_elements : elements units by (p ++ (l, j) ∷ []) ≡ elements units by p ++ leaf_elements units by j =
                        elements-append units by p ((l, j) ∷ []) ∙ ap (λ es. elements units by p ++ es) (elements-one units by (l, j)) in
                        let was_elements : elements units by s.kept ++ xs ≡ elements units by p ++ (leaf_elements units by u ++ xs) =
                        ap (λ ys. elements units by ys ++ xs) is
                        ∙ ap (λ es. es ++ xs) (elements-append units by p ((l, u) ∷ [])
                        ∙ ap (λ es. elements units by p ++ es) (elements-one units by (l, u)))
                        ∙ append_assoc (elements units by p) (leaf_elements units by u) xs in
                        let joining = writes-append floor (writes-same floor (elements units by p))
                        (writes-joined units by floor joins joined u v m (joined_units a b m.contents) (joined_by a b m.contents)
                        (joins_by a b m.contents)) in
                        rw now_elements (writes-after floor joining (rw was_elements at more_writes));
                    refs = same_refs keeps;
                    taken_is = same_taken;
                    sweep = λ e.
                        let next_is : after (ids now.leaves) l ≡ Some id =
                        ap (λ (ys : List (ℕ × TreeLeaf C)). after (ids ys) l) now_pair
                        ∙ after-split l u ((id, v) ∷ tail) (before ++ p) lone.0 in
                        sweep_is ∙ ap (λ o. sweep_behind now.leaves now.sweep o) next_is ∙ ap (λ o. sweep_without now.leaves id o) (began e)
                        ∙ ap (λ (ys : List (ℕ × TreeLeaf C)). sweep_without now.leaves id (first (ids (ys ++ (id, v) ∷ tail)))) is
                        ∙ sweep-merged now.leaves p ((id, v) ∷ tail) tail l id u j (ap (λ ys. times_leaf ys id) (sym is) ∙ none_kept);
                    goes = goes_on;
                  }

module _ {C U : Type 0} (units : C → List U) (by : C → Option Stamp) (joins : C → C → Bool) (joined : C → C → C)
    (joined_units : (x y : C) → IsTrue (joins x y) → units (joined x y) ≡ units x ++ units y)
    (joined_by : (x y : C) → IsTrue (joins x y) → by (joined x y) ≡ by x)
    (joins_by : (x y : C) → IsTrue (joins x y) → by y ≡ by x) where
  same_value : (xs : List (ℕ × TreeLeaf C)) (id : ℕ) (v x : TreeLeaf C) → value_at xs id ≡ Some v → value_at xs id ≡ Some x → x ≡ v
  same_value xs id v x e d = let both : Some v ≡ Some x = sym e ∙ d in (cc)

  -- the sweep goes on
  pub looks-on : (old now new : TreeState C) (before seen ahead rest : List (ℕ × TreeLeaf C)) (id : ℕ) (v : TreeLeaf C)
      (last next : Option ℕ) (base given taken : List C)
      → Sweeps units by old now before seen ((id, v) ∷ ahead) rest last base given
      → ((z : ℕ) → times_leaf now.leaves z ≤ 1) → AreClear old.floor (elements units by old.leaves) old.refs
      → Goes now new → Looks units by joins joined now new id last next given taken
      → Sweeps units by old new before (seen ++ (id, v) ∷ []) ahead rest next base taken
  looks-on old now new before seen ahead rest id v last next base given taken s once clear goes
      (took {x = x} here h leaves_is refs_is sweep_is) =
      let same = same_value now.leaves id v x (value units by old now before seen ahead rest id v last base given s once) here in
      let there : is_collectable old.floor v.stamps ≡ true = rw (sym same, sym s.goes.floor) h in
      rw same (took-on units by old now before seen ahead rest id v last base given s once clear new goes there leaves_is refs_is sweep_is)
  looks-on old now new before seen ahead rest id v last next base given taken s once clear goes
      (merged {last = l} {x = x} here h may leaves_is keeps sweep_is) =
      let same = same_value now.leaves id v x (value units by old now before seen ahead rest id v last base given s once) here in
      let there : is_collectable old.floor v.stamps ≡ false = rw (sym same, sym s.goes.floor) h in
      merged-on units by old now before seen ahead rest id v last base given s once clear new goes there joins joined joined_units
      joined_by joins_by l refl may leaves_is keeps sweep_is
  looks-on old now new before seen ahead rest id v last next base given taken s once clear goes
      (stayed {x = x} here h leaves_is keeps sweep_is) =
      let same = same_value now.leaves id v x (value units by old now before seen ahead rest id v last base given s once) here in
      let there : is_collectable old.floor v.stamps ≡ false = rw (sym same, sym s.goes.floor) h in
      stayed-on units by old now before seen ahead rest id v last base given s once clear new goes there leaves_is keeps sweep_is
