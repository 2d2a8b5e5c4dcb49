-- The two sweeps of which compaction is made: from its place to the end, and from the head to its place.
use Rattle.std.proofs.Common.{◌≡◌, ℕ, ◌-◌, ◌≤◌, Bool, true, false, cond, nat_eq, nat_le, IfSome, List, [], ◌∷◌, ◌++◌, length, map, take, drop, slice_get, Option, Some, None, subst, refl, sym, ◌∙◌, ap, arith, append-nil, append_assoc, length-append}
use Rattle.std.proofs.lemmas.Bool.Decides.{nat_tests}
use Rattle.std.proofs.lemmas.List.{length-map, map-append, take-append-drop}
use Rattle.std.proofs.lemmas.Option.{slice_get-map}
use Rattle.ft_arena.specs.Ids.{first}
use Rattle.ft_base.specs.declared.stamps.Stamp.{Stamp}
use Rattle.ft_block.specs.Leaves.{IsPlaceIn, ids, times_leaf}
use Rattle.ft_tree_blocks.specs.Walks.{before_place, from_place}
use Rattle.ft_tree_blocks.proofs.Walks.{before_first, first_in_place, from_first}
use Rattle.ft_tree_leaves.specs.declared.leaves.TreeLeaf.{TreeLeaf}
use Rattle.ft_tree_leaves.specs.Edits.{with_place}
use Rattle.ft_tree_leaves.specs.Elements.{TreeElement}
use Rattle.ft_tree_leaves.specs.LeafLists.{elements}
use Rattle.ft_tree_leaves.specs.References.{ChangesReferences}
use Rattle.ft_tree_leaves.proofs.CutLeaves.{times-append}
use Rattle.ft_tree_leaves.proofs.LeafRuns.{elements-append}
use Rattle.ft_tree_leaves.proofs.Standing.{left-split}
use Rattle.ft_tree.specs.State.{TreeState}
use Rattle.ft_zamboni.specs.declared.sweeps.Reached.{Reached}
use Rattle.ft_zamboni.specs.Scours.{AreClear, Writes, ahead, around, collected, is_collectable, left_over, looked_at, marked, marks, next_sweep, place_among, staying, swept, unmarked}
use Rattle.ft_zamboni.specs.Sweeps.{Goes, Rounds, Sweeps, SweptUpTo, next_start, seen_marks, start}
use Rattle.ft_zamboni.proofs.LookedLists.{apart, first-from, from-split}
use Rattle.ft_zamboni.proofs.Marks.{IsClearAt, placed-twice, stay, staying-append, staying-at, staying-stay}
use Rattle.ft_zamboni.proofs.PassedReferences.{changes-twice, place-was}
use Rattle.ft_zamboni.proofs.SweptLeaves.{collected-append, marks-clear}
use Rattle.ft_zamboni.proofs.Writing.{writes-append, writes-clear, writes-same}

module _ {L : Type 0} where
  -- a list in two parts, by the node of the first leaf of the second part
  pub parts : (xs ys : List (ℕ × L)) → ((z : ℕ) → times_leaf (xs ++ ys) z ≤ 1)
      → (before_place (xs ++ ys) (first (ids ys)) ≡ xs) × (from_place (xs ++ ys) (first (ids ys)) ≡ ys)
  parts xs [] once = (append-nil xs, refl)
  parts xs (y ∷ ys) once = let a = apart xs ys y.0 y.1 once in (left-split y.0 y.1 ys xs a.0, from-split y.0 y.1 ys xs a.0)

  pub ahead-start : (xs : List (ℕ × L)) (s : Option ℕ) → ahead xs s ≡ from_place xs (start xs s)
  ahead-start xs None = sym (from_first xs)
  ahead-start xs (Some id) = refl

  pub around-start : (xs : List (ℕ × L)) (s : Option ℕ) → around xs s ≡ before_place xs (start xs s)
  around-start xs None = sym (before_first xs)
  around-start xs (Some id) = refl

  pub place-behind : (xs ys : List (ℕ × L)) (at : Option ℕ) → IsPlaceIn ys at → IsPlaceIn (xs ++ ys) at
  place-behind xs ys None h = tt
  place-behind xs ys (Some id) h = omega (arith, h, times-append xs ys id)

  pub place-before : (xs ys : List (ℕ × L)) (at : Option ℕ) → IsPlaceIn xs at → IsPlaceIn (xs ++ ys) at
  place-before xs ys None h = tt
  place-before xs ys (Some id) h = omega (arith, h, times-append xs ys id)

abbrev pub second : {A : Type 0} → Bool × A → A
second m = m.1

module _ {A : Type 0} (test : A → Bool) where
  pub seconds-marked : (es : List A) → map second (map (λ e. (test e, e)) es) ≡ es
  seconds-marked [] = refl
  seconds-marked (e ∷ es) = ap (λ zs. e ∷ zs) (seconds-marked es)

pub seconds-stay : {A : Type 0} (es : List A) → map second (map stay es) ≡ es
seconds-stay es = seconds-marked (λ e. false) es

module _ {C U : Type 0} (units : C → List U) (by : C → Option Stamp) where
  -- the elements of a state that a sweep reached
  module _ (old now : TreeState C) (before seen behind rest : List (ℕ × TreeLeaf C)) (last : Option ℕ) (base taken : List C)
      (s : Sweeps units by old now before seen behind rest last base taken) where
    abbrev pub floor : ℕ
    floor = old.floor

    abbrev pub tail : List (ℕ × TreeLeaf C)
    tail = behind ++ rest

    parts_now : elements units by now.leaves ≡ elements units by before ++ (elements units by s.kept ++ elements units by tail)
    parts_now = ap (elements units by) s.now_is ∙ elements-append units by before (s.kept ++ tail)
        ∙ ap (λ zs. elements units by before ++ zs) (elements-append units by s.kept tail)

    parts_old : elements units by old.leaves ≡ elements units by before ++ (elements units by seen ++ elements units by tail)
    parts_old = ap (elements units by) s.old_is ∙ elements-append units by before (seen ++ tail)
        ∙ ap (λ zs. elements units by before ++ zs) (elements-append units by seen tail)

    stay_parts : staying (seen_marks units by floor before seen tail)
        ≡ elements units by before ++ (staying (map (marked floor) (elements units by seen)) ++ elements units by tail)
    stay_parts =
        let m = map (marked floor) (elements units by seen) in
        staying-append (map unmarked (elements units by before)) (m ++ map unmarked (elements units by tail))
        ∙ ap (λ zs. zs ++ staying (m ++ map unmarked (elements units by tail))) (staying-stay (elements units by before))
        ∙ ap (λ zs. elements units by before ++ zs) (staying-append m (map unmarked (elements units by tail))
        ∙ ap (λ zs. staying m ++ zs) (staying-stay (elements units by tail)))

    seconds : map second (seen_marks units by floor before seen tail) ≡ elements units by old.leaves
    seconds =
        let m = map (marked floor) (elements units by seen) in
        map-append second (map unmarked (elements units by before)) (m ++ map unmarked (elements units by tail))
        ∙ ap (λ zs. zs ++ map second (m ++ map unmarked (elements units by tail))) (seconds-stay (elements units by before))
        ∙ ap (λ zs. elements units by before ++ zs) (map-append second m (map unmarked (elements units by tail))
        ∙ ap (λ zs. zs ++ map second (map unmarked (elements units by tail)))
        (seconds-marked (λ e. is_collectable floor e.stamps) (elements units by seen))
        ∙ ap (λ zs. elements units by seen ++ zs) (seconds-stay (elements units by tail)))
        ∙ sym parts_old

    writes_all : Writes floor (elements units by now.leaves) (staying (seen_marks units by floor before seen tail))
    writes_all =
        rw (parts_now, stay_parts) (writes-append floor (writes-same floor (elements units by before))
        (writes-append floor s.writes (writes-same floor (elements units by tail))))

    -- still no reference is on an element that could go
    pub sweep-clear : AreClear floor (elements units by old.leaves) old.refs → AreClear now.floor (elements units by now.leaves) now.refs
    sweep-clear clear = λ r j e.
        let ms = seen_marks units by floor before seen tail in
        let test : TreeElement U → Bool = λ x. is_collectable floor x.stamps in
        let was = place-was (place_among ms) old.refs now.refs s.refs r j e in
        let i = was.0 in
        let there = clear r i was.1.0 in
        let same : slice_get (staying ms) j ≡ slice_get (elements units by old.leaves) i =
        ap (slice_get (staying ms)) was.1.1 ∙ staying-at ms i (marks-clear units by floor old.leaves before seen tail s.old_is i there)
        ∙ sym (slice_get-map second ms i) ∙ ap (λ zs. slice_get zs i) seconds in
        let stays : IsClearAt test (staying ms) j = subst (λ o. IfSome o (λ x. test x ≡ false)) (sym same) there in
        rw s.goes.floor (writes-clear floor writes_all j stays)

  module _ (tree mid : TreeState C) (from : Option ℕ) (budget : ℕ) (base given : List C) (one : Reached)
      (from_in : IsPlaceIn tree.leaves from) (from_is : tree.sweep ≡ from)
      (s : SweptUpTo units by tree mid from None budget base given one) where
    abbrev pub fronts : List (ℕ × TreeLeaf C)
    fronts = before_place tree.leaves from

    abbrev pub backs : List (ℕ × TreeLeaf C)
    backs = from_place tree.leaves from

    abbrev pub n : ℕ
    n = budget - length backs

    abbrev pub first_part : Sweeps units by tree mid fronts (take budget backs) (drop budget backs) [] s.last base given
    first_part = s.sweeps

    -- what is left of the leaves from the place on
    abbrev pub left_back : List (ℕ × TreeLeaf C)
    left_back = first_part.kept ++ (drop budget backs ++ [])

    mid_is : mid.leaves ≡ fronts ++ left_back
    mid_is = first_part.now_is

    end_is : mid.sweep ≡ first (ids left_back)
    end_is =
        let whole : take budget backs ++ (drop budget backs ++ [])
        ≡ backs = ap (λ zs. take budget backs ++ zs) (append-nil (drop budget backs)) ∙ take-append-drop budget backs in
        first_part.sweep (from_is ∙ sym (first-from tree.leaves from from_in)
        ∙ ap (λ (ys : List (ℕ × TreeLeaf C)). first (ids ys)) (sym whole))

    -- the second one ends where the first began
    pub end-there : IsPlaceIn (from_place mid.leaves (first (ids mid.leaves))) mid.sweep
    end-there =
        let there : IsPlaceIn (fronts ++ left_back) (first (ids left_back)) = place-behind fronts left_back (first (ids left_back))
        (first_in_place left_back) in
        subst (λ ys. IsPlaceIn ys mid.sweep) (sym (from_first mid.leaves))
        (subst (λ ys. IsPlaceIn ys mid.sweep) (sym mid_is) (subst (IsPlaceIn (fronts ++ left_back)) (sym end_is) there))

    module _ (new : TreeState C) (taken : List C) (two : Reached) (once : (z : ℕ) → times_leaf mid.leaves z ≤ 1)
        (t : SweptUpTo units by mid new (first (ids mid.leaves)) mid.sweep one.left given taken two) where
      split : (before_place mid.leaves mid.sweep ≡ fronts) × (from_place mid.leaves mid.sweep ≡ left_back)
      split =
          let p = parts fronts left_back (λ z. subst (λ (ys : List (ℕ × TreeLeaf C)). times_leaf ys z ≤ 1) mid_is (once z)) in (
            ap (λ ys. before_place ys mid.sweep) mid_is ∙ ap (before_place (fronts ++ left_back)) end_is ∙ p.0,
            ap (λ ys. from_place ys mid.sweep) mid_is ∙ ap (from_place (fronts ++ left_back)) end_is ∙ p.1,
          )

      pub second_part : Sweeps units by mid new [] (take n fronts) (drop n fronts) left_back t.last given taken
      second_part =
          let todo : before_place (from_place mid.leaves (first (ids mid.leaves))) mid.sweep
          ≡ fronts = ap (λ ys. before_place ys mid.sweep) (from_first mid.leaves) ∙ split.0 in
          let rest : from_place (from_place mid.leaves (first (ids mid.leaves))) mid.sweep
          ≡ left_back = ap (λ ys. from_place ys mid.sweep) (from_first mid.leaves) ∙ split.1 in
          subst (λ ys. Sweeps units by mid new [] (take n fronts) (drop n fronts) ys t.last given taken) rest
          (subst (λ ys. Sweeps units by mid new [] (take n ys) (drop n ys)
          (from_place (from_place mid.leaves (first (ids mid.leaves))) mid.sweep) t.last given taken) todo
          (subst (λ k. Sweeps units by mid new [] (take k (before_place (from_place mid.leaves (first (ids mid.leaves))) mid.sweep))
          (drop k (before_place (from_place mid.leaves (first (ids mid.leaves))) mid.sweep))
          (from_place (from_place mid.leaves (first (ids mid.leaves))) mid.sweep) t.last given taken) s.left_is
          (subst (λ ys. Sweeps units by mid new ys (take one.left (before_place (from_place mid.leaves (first (ids mid.leaves))) mid.sweep))
          (drop one.left (before_place (from_place mid.leaves (first (ids mid.leaves))) mid.sweep))
          (from_place (from_place mid.leaves (first (ids mid.leaves))) mid.sweep) t.last given taken)
          (before_first mid.leaves) t.sweeps)))

      abbrev pub base_floor : ℕ
      base_floor = tree.floor

      abbrev pub both : List (Bool × TreeElement U)
      both = marks units by base_floor n fronts ++ marks units by base_floor budget backs

      same_floor : mid.floor ≡ base_floor
      same_floor = first_part.goes.floor

      pub both-goes : Goes tree new
      both-goes = record {
        floor = second_part.goes.floor ∙ first_part.goes.floor;
        made = second_part.goes.made ∙ first_part.goes.made;
        usable = second_part.goes.usable;
      }

      new_elements : elements units by new.leaves
          ≡ (elements units by second_part.kept ++ elements units by (drop n fronts))
          ++ (elements units by first_part.kept ++ elements units by (drop budget backs))
      new_elements =
          let es = elements units by second_part.kept in
          ap (elements units by) second_part.now_is ∙ elements-append units by second_part.kept (drop n fronts ++ left_back)
          ∙ ap (λ zs. es ++ zs) (elements-append units by (drop n fronts) left_back)
          ∙ ap (λ zs. es ++ (elements units by (drop n fronts) ++ zs)) (elements-append units by first_part.kept (drop budget backs ++ [])
          ∙ ap (λ ys. elements units by first_part.kept ++ elements units by ys) (append-nil (drop budget backs)))
          ∙ sym (append_assoc es (elements units by (drop n fronts))
          (elements units by first_part.kept ++ elements units by (drop budget backs)))

      stay_marks : (k : ℕ) (xs : List (ℕ × TreeLeaf C)) → staying (marks units by base_floor k xs)
          ≡ staying (map (marked base_floor) (elements units by (take k xs))) ++ elements units by (drop k xs)
      stay_marks k xs =
          let m = map (marked base_floor) (elements units by (take k xs)) in
          staying-append m (map unmarked (elements units by (drop k xs)))
          ∙ ap (λ zs. staying m ++ zs) (staying-stay (elements units by (drop k xs)))

      both_writes : Writes base_floor (elements units by new.leaves) (staying both)
      both_writes =
          let rear = writes-append base_floor first_part.writes (writes-same base_floor (elements units by (drop budget backs))) in
          let front = writes-append base_floor
          (subst (λ f. Writes f (elements units by second_part.kept) (staying (map (marked f) (elements units by (take n fronts)))))
          same_floor second_part.writes)
          (writes-same base_floor (elements units by (drop n fronts))) in
          let e : staying both ≡ (staying (map (marked base_floor) (elements units by (take n fronts)))
          ++ elements units by (drop n fronts))
          ++ (staying (map (marked base_floor) (elements units by (take budget backs))) ++ elements units by (drop budget backs)) =
          staying-append (marks units by base_floor n fronts) (marks units by base_floor budget backs)
          ∙ ap (λ zs. zs ++ staying (marks units by base_floor budget backs)) (stay_marks n fronts)
          ∙ ap (λ zs. (staying (map (marked base_floor) (elements units by (take n fronts))) ++ elements units by (drop n fronts)) ++ zs)
          (stay_marks budget backs) in
          rw (new_elements, e) (writes-append base_floor front rear)

      marks_count : length (marks units by base_floor n fronts) ≡ length (elements units by fronts)
      marks_count =
          let a = elements units by (take n fronts) in
          let b = elements units by (drop n fronts) in
          omega (
            arith,
            length-append (map (marked base_floor) a) (map unmarked b),
            length-map a (marked base_floor),
            length-map b stay,
            ap length (sym (elements-append units by (take n fronts) (drop n fronts)) ∙ ap (elements units by) (take-append-drop n fronts)),
            length-append a b,
          )

      first_marks : seen_marks units by base_floor fronts (take budget backs) (drop budget backs ++ [])
          ≡ map stay (elements units by fronts) ++ marks units by base_floor budget backs
      first_marks =
          ap (λ ys. map unmarked (elements units by fronts)
          ++ (map (marked base_floor) (elements units by (take budget backs)) ++ map unmarked (elements units by ys)))
          (append-nil (drop budget backs))

      second_marks : seen_marks units by mid.floor [] (take n fronts) (drop n fronts ++ left_back) ≡ marks units by base_floor n fronts
          ++ map stay (elements units by left_back)
      second_marks =
          let m = map (marked base_floor) (elements units by (take n fronts)) in
          ap (λ f. map (marked f) (elements units by (take n fronts)) ++ map unmarked (elements units by (drop n fronts ++ left_back)))
          same_floor
          ∙ ap (λ zs. m ++ map unmarked zs) (elements-append units by (drop n fronts) left_back)
          ∙ ap (λ zs. m ++ zs) (map-append unmarked (elements units by (drop n fronts)) (elements units by left_back))
          ∙ sym (append_assoc m (map unmarked (elements units by (drop n fronts))) (map stay (elements units by left_back)))

      both_refs : ChangesReferences (with_place (place_among both)) tree.refs new.refs
      both_refs =
          changes-twice (place_among (seen_marks units by base_floor fronts (take budget backs) (drop budget backs ++ [])))
          (place_among (seen_marks units by mid.floor [] (take n fronts) (drop n fronts ++ left_back))) (place_among both) tree.refs
          mid.refs new.refs
          first_part.refs second_part.refs (λ r i e.
          rw (first_marks, second_marks)
          (placed-twice (marks units by base_floor n fronts) (marks units by base_floor budget backs) (elements units by fronts)
          (elements units by left_back) i marks_count))

      both_taken : taken ≡ base ++ collected base_floor (take budget backs ++ take n fronts)
      both_taken =
          second_part.taken_is ∙ ap (λ f. given ++ collected f (take n fronts)) same_floor
          ∙ ap (λ zs. zs ++ collected base_floor (take n fronts)) first_part.taken_is
          ∙ append_assoc base (collected base_floor (take budget backs)) (collected base_floor (take n fronts))
          ∙ ap (λ zs. base ++ zs) (sym (collected-append base_floor (take budget backs) (take n fronts)))

      one_next : one.next ≡ first (ids (drop budget backs))
      one_next = s.next_is

      two_next : two.next ≡ first (ids (drop n fronts))
      two_next =
          let todo : before_place (from_place mid.leaves (first (ids mid.leaves))) mid.sweep
          ≡ fronts = ap (λ ys. before_place ys mid.sweep) (from_first mid.leaves) ∙ split.0 in
          t.next_is ∙ ap (λ (ys : List (ℕ × TreeLeaf C)). first (ids (drop one.left ys))) todo
          ∙ ap (λ k. first (ids (drop k fronts))) s.left_is

      next_by : (b c : Bool) → nat_eq one.left 0 ≡ b → nat_le budget (length backs) ≡ c
          → cond b one.next two.next ≡ cond c (first (ids (drop budget backs))) (first (ids (drop n fronts)))
      next_by true true e f = one_next
      next_by false false e f = two_next
      next_by true false e f = absurd (grind (arith, nat_tests, s.left_is))
      next_by false true e f = absurd (grind (arith, nat_tests, s.left_is))

      one_there : IsPlaceIn new.leaves one.next
      one_there =
          subst (λ ys. IsPlaceIn ys one.next) (sym second_part.now_is)
          (place-behind second_part.kept (drop n fronts ++ left_back) one.next (place-behind (drop n fronts) left_back one.next
          (place-behind first_part.kept (drop budget backs ++ []) one.next (place-before (drop budget backs) [] one.next
          (subst (IsPlaceIn (drop budget backs)) (sym one_next) (first_in_place (drop budget backs)))))))

      two_there : IsPlaceIn new.leaves two.next
      two_there =
          subst (λ ys. IsPlaceIn ys two.next) (sym second_part.now_is)
          (place-behind second_part.kept (drop n fronts ++ left_back) two.next (place-before (drop n fronts) left_back two.next
          (subst (IsPlaceIn (drop n fronts)) (sym two_next) (first_in_place (drop n fronts)))))

      there_by : (b : Bool) → IsPlaceIn new.leaves (cond b one.next two.next)
      there_by true = one_there
      there_by false = two_there

      pub both-there : IsPlaceIn new.leaves (next_start one two)
      both-there = there_by (nat_eq one.left 0)

      -- by the sweep's place
      module _ (sweep : Option ℕ) (from_start : from ≡ start tree.leaves sweep) where
        ahead_is : ahead tree.leaves sweep ≡ backs
        ahead_is = ahead-start tree.leaves sweep ∙ ap (from_place tree.leaves) (sym from_start)

        around_is : around tree.leaves sweep ≡ fronts
        around_is = around-start tree.leaves sweep ∙ ap (before_place tree.leaves) (sym from_start)

        swept_is : swept units by base_floor budget tree.leaves sweep ≡ both
        swept_is = ap (λ ys. marks units by base_floor (budget - length ys) (around tree.leaves sweep)
            ++ marks units by base_floor budget ys) ahead_is
            ∙ ap (λ ys. marks units by base_floor n ys ++ marks units by base_floor budget backs) around_is

        looked_is : looked_at budget tree.leaves sweep ≡ take budget backs ++ take n fronts
        looked_is = ap (λ ys. take budget ys ++ take (budget - length ys) (around tree.leaves sweep)) ahead_is
            ∙ ap (λ ys. take budget backs ++ take n ys) around_is

        pub both-writes : Writes base_floor (elements units by new.leaves) (staying (swept units by base_floor budget tree.leaves sweep))
        both-writes = rw swept_is both_writes

        pub both-refs : ChangesReferences (with_place (place_among (swept units by base_floor budget tree.leaves sweep))) tree.refs new.refs
        both-refs = subst (λ ms. ChangesReferences (with_place (place_among ms)) tree.refs new.refs) (sym swept_is) both_refs

        pub both-taken : taken ≡ base ++ collected base_floor (looked_at budget tree.leaves sweep)
        both-taken = rw looked_is both_taken

        pub both-next : next_start one two ≡ next_sweep budget tree.leaves sweep
        both-next =
            next_by (nat_eq one.left 0) (nat_le budget (length backs)) refl refl
            ∙ ap (λ ys. cond (nat_le budget (length ys)) (first (ids (drop budget ys))) (first (ids (drop (budget - length ys) fronts))))
            (sym ahead_is)
            ∙ ap (λ ys. cond (nat_le budget (length (ahead tree.leaves sweep))) (first (ids (drop budget (ahead tree.leaves sweep))))
            (first (ids (drop (left_over budget tree.leaves sweep) ys)))) (sym around_is)

        -- what both make of a tree where the next one is set to begin there
        pub both-round : (set : TreeState C) → set ≡ record new { sweep = next_start one two }
            → Rounds units by budget (record tree { sweep = sweep }) set base taken
        both-round set set_is = record {
          list = subst (λ (t : TreeState C). Writes base_floor (elements units by t.leaves)
              (staying (swept units by base_floor budget tree.leaves sweep))) (sym set_is) both-writes;
          taken = both-taken;
          refs = subst (λ (t : TreeState C). ChangesReferences
              (with_place (place_among (swept units by base_floor budget tree.leaves sweep))) tree.refs t.refs) (sym set_is) both-refs;
          sweep = ap (λ (t : TreeState C). t.sweep) set_is ∙ both-next;
          goes = record {
            floor = ap (λ (t : TreeState C). t.floor) set_is ∙ both-goes.floor;
            made = ap (λ (t : TreeState C). t.made) set_is ∙ both-goes.made;
            usable = ap (λ (t : TreeState C). t.usable) set_is ∙ both-goes.usable;
          };
        }
