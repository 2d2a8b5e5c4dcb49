-- A compaction of all leaves that goes from one with a sequenced removal to the next.
use Rattle.std.proofs.Common.{◌≡◌, ℕ, ◌+◌, ◌-◌, ◌<◌, ◌≤◌, Bool, true, false, cond, nat_eq, nat_le, not, All, IsTrue, List, [], ◌∷◌, ◌++◌, length, map, filter, Option, Some, None, subst, refl, sym, ◌∙◌, ap, inl, inr, arith, append-nil, append_assoc}
use Rattle.std.specs.Option.{option_map}
use Rattle.std.specs.List.{AllByRecursion as ByRecursion}
use Rattle.std.proofs.lemmas.Bool.{cases_lt, cond-false, cond-true, le-leb, lt-leb, ne_eqb}
use Rattle.std.proofs.lemmas.List.Elements.{recursion_from_All}
use Rattle.ft_arena.proofs.IdLemmas.{same_refl}
use Rattle.ft_base.specs.declared.stamps.Stamp.{Stamp}
use Rattle.ft_base.specs.declared.stamps.Stamp.TheVariants.{Acked, Local}
use Rattle.ft_block.specs.declared.blocks.Found.{Found}
use Rattle.ft_block.specs.Leaves.{IsLeafIn, is_first_sequenced, is_removed, length_by, place_by, place_from, times_leaf, value_at, without_leaf}
use Rattle.ft_tree_leaves.specs.declared.leaves.TreeLeaf.{TreeLeaf}
use Rattle.ft_tree_leaves.specs.Edits.{with_place}
use Rattle.ft_tree_leaves.specs.Elements.{TreeElement}
use Rattle.ft_tree_leaves.specs.LeafLists.{elements, leaf_removed}
use Rattle.ft_tree_leaves.specs.Places.{seen_before}
use Rattle.ft_tree_leaves.proofs.CutLeaves.{times-append}
use Rattle.ft_tree_leaves.proofs.LeafRuns.{length-elements}
use Rattle.ft_tree_leaves.proofs.Standing.{value-split}
use Rattle.ft_props.specs.Compaction.{has_collectable_removal}
use Rattle.ft_tree.specs.State.{TreeState}
use Rattle.ft_zamboni.specs.Collections.{Collects, CollectsAll, leaf_found, length_kept, next_removed}
use Rattle.ft_zamboni.specs.Scours.{AreClear, Writes, collected, is_collectable, marked, place_among, staying}
use Rattle.ft_zamboni.specs.Scours.Writes.{none}
use Rattle.ft_zamboni.specs.Sweeps.{Goes, IsFreeIfCollectable, Looks, Sweeps, seen_marks}
use Rattle.ft_zamboni.specs.Sweeps.Looks.{took, merged, stayed}
use Rattle.ft_zamboni.proofs.LookedLists.{apart, without-split}
use Rattle.ft_zamboni.proofs.PassedReferences.{changes-none, changes-same}
use Rattle.ft_zamboni.proofs.SweepSteps.{untouched}
use Rattle.ft_zamboni.proofs.SweptLeaves.{free-here, looks-on, value}
use Rattle.ft_zamboni.proofs.WholeSweeps.{gone-all, staying-all}

module _ {A : Type 0} (P : A → Type 0) where
  all_parts : (xs ys : List A) → ByRecursion P (xs ++ ys) → ByRecursion P xs × ByRecursion P ys
  all_parts [] ys h = (tt, h)
  all_parts (x ∷ xs) ys h = let r = all_parts xs ys h.1 in ((h.0, r.0), r.1)

module _ {L : Type 0} (f : L → ℕ) where
  length_join : (xs ys : List (ℕ × L)) → length_by f (xs ++ ys) ≡ length_by f xs + length_by f ys
  length_join [] ys = omega arith
  length_join (x ∷ xs) ys = omega (arith, length_join xs ys)

  length_empty : (xs : List (ℕ × L)) → ByRecursion (λ x. f x.1 ≡ 0) xs → length_by f xs ≡ 0
  length_empty [] h = refl
  length_empty (x ∷ xs) h = omega (arith, h.0, length_empty xs h.1)

  -- behind leaves that are so long the place is one among the rest
  place_behind : (ks ys : List (ℕ × L)) (p : ℕ) → 1 ≤ p → place_from f (ks ++ ys) (length_by f ks + p) ≡ place_from f ys p
  place_behind [] ys p l = ap (place_from f ys) (omega arith)
  place_behind (k ∷ ks) ys p l =
      let q : ℕ = f k.1 + length_by f ks + p in
      let more : f k.1 < q = omega arith in
      let rest : q - f k.1 ≡ length_by f ks + p = omega arith in
      cond-false (nat_le q (f k.1)) _ _ (lt-leb q (f k.1) more) ∙ ap (place_from f (ks ++ ys)) rest ∙ place_behind ks ys p l

  place_here : (xs ks ys : List (ℕ × L)) (passed : ℕ) → xs ≡ ks ++ ys → passed ≡ length_by f ks
      → place_by f xs (passed + 1) ≡ place_from f ys 1
  place_here xs ks ys passed whole many =
      cond-false (nat_eq (passed + 1) 0) _ _ (ne_eqb (passed + 1) 0 (omega arith))
      ∙ ap (λ zs. place_from f zs (passed + 1)) whole
      ∙ ap (λ n. place_from f (ks ++ ys) (n + 1)) many
      ∙ place_behind ks ys 1 (omega arith)

  -- where no place is found, nothing is measured
  first_none : (ys : List (ℕ × L)) → leaf_found (place_from f ys 1) ≡ None → ByRecursion (λ x. f x.1 ≡ 0) ys
  first_none [] e = tt
  first_none (y ∷ ys) e = elim (cases_lt (f y.1) 1) [
    | inl later ↦
        let zero : f y.1 ≡ 0 = omega (arith, later) in
        let one : 1 - f y.1 ≡ 1 = omega (arith, zero) in
        let rest : place_from f (y ∷ ys) 1 ≡ place_from f ys 1 =
        cond-false (nat_le 1 (f y.1)) _ _ (lt-leb 1 (f y.1) later) ∙ ap (place_from f ys) one in
        (zero, first_none ys (sym (ap leaf_found rest) ∙ e))
    | inr here ↦
        let found : Found = record { leaf = Some y.0; offset = 1 } in
        let is : place_from f (y ∷ ys) 1 ≡ Some found =
        cond-true (nat_le 1 (f y.1)) (Some found) (place_from f ys (1 - f y.1)) (le-leb 1 (f y.1) here) in
        let first : Some y.0 ≡ None = sym (ap leaf_found is) ∙ e in
        let no : ⊥ = (cc) in
        absurd no
  ]

  -- the first leaf of which something is measured
  pub record FirstAt (ys : List (ℕ × L)) (id : ℕ) : Type 0 where
    pub clean : List (ℕ × L)
    pub value : L
    pub rest : List (ℕ × L)
    pub is : ys ≡ clean ++ (id, value) ∷ rest
    pub empty : ByRecursion (λ x. f x.1 ≡ 0) clean
    pub some : 1 ≤ f value

  first_some : (ys : List (ℕ × L)) (id : ℕ) → leaf_found (place_from f ys 1) ≡ Some id → FirstAt ys id
  first_some [] id e = (cc)
  first_some (y ∷ ys) id e = elim (cases_lt (f y.1) 1) [
    | inl later ↦
        let zero : f y.1 ≡ 0 = omega (arith, later) in
        let one : 1 - f y.1 ≡ 1 = omega (arith, zero) in
        let rest : place_from f (y ∷ ys) 1 ≡ place_from f ys 1 =
        cond-false (nat_le 1 (f y.1)) _ _ (lt-leb 1 (f y.1) later) ∙ ap (place_from f ys) one in
        let r = first_some ys id (sym (ap leaf_found rest) ∙ e) in
        record {
          clean = y ∷ r.clean;
          value = r.value;
          rest = r.rest;
          is = ap (λ zs. y ∷ zs) r.is;
          empty = (zero, r.empty);
          some = r.some;
        }
    | inr here ↦
        let found : Found = record { leaf = Some y.0; offset = 1 } in
        let is : place_from f (y ∷ ys) 1 ≡ Some found =
        cond-true (nat_le 1 (f y.1)) (Some found) (place_from f ys (1 - f y.1)) (le-leb 1 (f y.1) here) in
        let first : Some y.0 ≡ Some id = sym (ap leaf_found is) ∙ e in
        let same : y.0 ≡ id = (cc) in
        record { clean = []; value = y.1; rest = ys; is = ap (λ k. (k, y.1) ∷ ys) same; empty = tt; some = here }
  ]

cond_le : (b : Bool) (n : ℕ) → cond b n 0 ≤ n
cond_le true n = omega arith
cond_le false n = omega arith

cond_all : (b : Bool) (n : ℕ) → 1 ≤ cond b n 0 → cond b n 0 ≡ n
cond_all true n h = refl
cond_all false n h = absurd (omega (arith, h))

pub kept-few : (k : Option ℕ) (n : ℕ) → length_kept k n ≤ n
kept-few None n = omega arith
kept-few (Some id) n = omega arith

-- what was removed at or below the floor has a sequenced removal first
removed_first : (floor : ℕ) (ds : List Stamp) → has_collectable_removal floor ds ≡ true → is_first_sequenced ds ≡ true
removed_first floor [] h = (cc)
removed_first floor (Acked s c ∷ ds) h = refl
removed_first floor (Local k ∷ ds) h = (cc)

clear_step : (b r : Bool) (n : ℕ) → (b ≡ true → r ≡ true) → 1 ≤ n → cond r n 0 ≡ 0 → b ≡ false
clear_step true r n h some zero = absurd (omega (arith, some, zero, ap (λ c. cond c n 0) (h refl)))
clear_step false r n h some zero = refl

module _ {C U : Type 0} (units : C → List U) where
  clear_one : (floor : ℕ) (v : TreeLeaf C) → 1 ≤ length (units v.content) → leaf_removed units v ≡ 0 → is_collectable floor v.stamps ≡ false
  clear_one floor v some zero = clear_step (is_collectable floor v.stamps) (is_removed v.stamps) (length (units v.content))
      (removed_first floor v.stamps.dels) some zero

  all_clear : (floor : ℕ) (xs : List (ℕ × TreeLeaf C)) → ByRecursion (λ x. 1 ≤ length (units x.1.content)) xs
      → ByRecursion (λ x. leaf_removed units x.1 ≡ 0) xs → ByRecursion (λ x. is_collectable floor x.1.stamps ≡ false) xs
  all_clear floor [] some zero = tt
  all_clear floor (x ∷ xs) some zero = (clear_one floor x.1 some.0 zero.0, all_clear floor xs some.1 zero.1)

  removed_le : (xs : List (ℕ × TreeLeaf C)) → length_by (leaf_removed units) xs ≤ length_by (λ x. length (units x.content)) xs
  removed_le [] = omega arith
  removed_le (x ∷ xs) = omega (arith, cond_le (is_removed x.1.stamps) (length (units x.1.content)), removed_le xs)

module _ {C U : Type 0} (units : C → List U) (by : C → Option Stamp) (old : TreeState C) (base : List C) where
  -- there are no more elements with a sequenced removal than elements
  pub collect-within : (now : TreeState C) (passed : ℕ) (taken : List C) → Collects units by old now passed base taken
      → passed ≤ length (elements units by now.leaves)
  collect-within now passed taken s = omega (
    arith,
    s.passed_is,
    ap (length_by (leaf_removed units)) s.now_is,
    length_join (leaf_removed units) s.kept s.ahead,
    removed_le units now.leaves,
    length-elements units by now.leaves,
  )

  -- before the first look nothing is passed
  pub collect-start : IsTrue old.usable → Collects units by old old 0 base base
  collect-start usable =
      let whole : old.leaves ≡ old.leaves ++ [] = sym (append-nil old.leaves) in
      record {
        seen = [];
        ahead = old.leaves;
        kept = [];
        last = None;
        sweeps = record {
          kept = [];
          old_is = whole;
          now_is = whole;
          last_is = refl;
          writes = none;
          refs = changes-none (place_among (seen_marks units by old.floor [] [] (old.leaves ++ []))) old.refs
              (untouched [] (elements units by (old.leaves ++ [])));
          taken_is = sym (append-nil base);
          sweep = λ e. e;
          goes = record { floor = refl; made = refl; usable = usable };
        };
        now_is = refl;
        passed_is = refl;
      }

  -- the leaf to look at, behind such as nobody removed
  pub record StopsAt (now : TreeState C) (passed id : ℕ) (taken : List C) : Type 0 where
    pub value : TreeLeaf C
    pub seen : List (ℕ × TreeLeaf C)
    pub rest : List (ℕ × TreeLeaf C)
    pub kept : List (ℕ × TreeLeaf C)
    pub last : Option ℕ
    pub sweeps : Sweeps units by old now [] seen ((id, value) ∷ rest) [] last base taken
    pub now_is : now.leaves ≡ kept ++ (id, value) ∷ rest
    pub passed_is : passed ≡ length_by (leaf_removed units) kept
    pub some : 1 ≤ leaf_removed units value

  -- a sweep over all leaves
  pub whole-collected : (now : TreeState C) (all : List (ℕ × TreeLeaf C)) (last : Option ℕ) (taken : List C)
      → Sweeps units by old now [] all [] [] last base taken → CollectsAll units by old (record now { sweep = None }) base taken
  whole-collected now all last taken s =
      let test : TreeElement U → Bool = λ e. is_collectable old.floor e.stamps in
      let old_eq : old.leaves ≡ all = s.old_is ∙ append-nil all in
      let now_eq : now.leaves ≡ s.kept = s.now_is ∙ append-nil s.kept in
      let stays : staying (map (marked old.floor) (elements units by all)) ≡ filter (λ e. not (test e)) (elements units by old.leaves) =
      staying-all test (elements units by all) ∙ ap (λ ys. filter (λ e. not (test e)) (elements units by ys)) (sym old_eq) in
      record {
        list = rw (now_eq, sym stays) s.writes;
        taken_is = s.taken_is ∙ ap (λ ys. base ++ collected old.floor ys) (sym old_eq);
        refs = changes-same (place_among (seen_marks units by old.floor [] all [])) (λ i. i - seen_before test (elements units by old.leaves) i)
            old.refs now.refs
            (λ i.
            ap (λ ms. place_among ms i) (append-nil (map (marked old.floor) (elements units by all)))
            ∙ ap (λ k. i - k) (gone-all test (elements units by all) i)
            ∙ ap (λ ys. i - seen_before test (elements units by ys) i) (sym old_eq))
            s.refs;
        sweep = refl;
        goes = record { floor = s.goes.floor; made = s.goes.made; usable = s.goes.usable };
      }

  module _ (now : TreeState C) (taken : List C) (once : (z : ℕ) → times_leaf now.leaves z ≤ 1)
      (clear : AreClear old.floor (elements units by old.leaves) old.refs) where
    module _ (passed id : ℕ) (p : StopsAt now passed id taken) where
      lone : (times_leaf p.kept id ≡ 0) × (times_leaf p.rest id ≡ 0)
      lone = apart p.kept p.rest id p.value (λ z. subst (λ (ys : List (ℕ × TreeLeaf C)). times_leaf ys z ≤ 1) p.now_is (once z))

      pub stops-live : IsLeafIn now.leaves id
      stops-live = omega (
        arith,
        ap (λ ys. times_leaf ys id) p.now_is,
        times-append p.kept ((id, p.value) ∷ p.rest) id,
        same_refl id,
      )

      pub stops-free : IsFreeIfCollectable units by now.floor now.leaves id now.refs
      stops-free = free-here units by old now [] p.seen p.rest [] id p.value p.last base taken p.sweeps once clear

      module _ (len : ℕ) (is : option_map (λ x. length (units x.content)) (value_at now.leaves id) ≡ Some len) where
        len_is : leaf_removed units p.value ≡ len
        len_is =
            let here : value_at now.leaves id ≡ Some p.value =
            ap (λ ys. value_at ys id) p.now_is ∙ value-split id p.value p.rest p.kept lone.0 in
            let both : Some (length (units p.value.content)) ≡ Some len =
            sym (ap (option_map (λ (x : TreeLeaf C). length (units x.content))) here) ∙ is in
            let same : length (units p.value.content) ≡ len = (cc) in
            cond_all (is_removed p.value.stamps) (length (units p.value.content)) p.some ∙ same

        long_is : length_by (leaf_removed units) now.leaves ≡ passed + len + length_by (leaf_removed units) p.rest
        long_is = omega (
          arith,
          ap (length_by (leaf_removed units)) p.now_is,
          length_join (leaf_removed units) p.kept ((id, p.value) ∷ p.rest),
          p.passed_is,
          len_is,
        )

        pub stops-within : passed + len ≤ length (elements units by now.leaves)
        stops-within = omega (arith, long_is, removed_le units now.leaves, length-elements units by now.leaves)

        module _ (joins : C → C → Bool) (joined : C → C → C)
            (joined_units : (x y : C) → IsTrue (joins x y) → units (joined x y) ≡ units x ++ units y)
            (joined_by : (x y : C) → IsTrue (joins x y) → by (joined x y) ≡ by x)
            (joins_by : (x y : C) → IsTrue (joins x y) → by y ≡ by x)
            (new : TreeState C) (goes : Goes now new) where
          -- the way goes on behind the leaf
          pub stops-step : (l k : Option ℕ) (from given : List C) → l ≡ None → from ≡ taken
              → Looks units by joins joined now new id l k from given → Collects units by old new (passed + length_kept k len) base given
          stops-step l k from given head same (took {x = x} here h leaves_is refs_is sweep_is) =
              let sweeps = subst (λ ts. Sweeps units by old now [] p.seen ((id, p.value) ∷ p.rest) [] p.last base ts) (sym same) p.sweeps in
              record {
                seen = p.seen ++ (id, p.value) ∷ [];
                ahead = p.rest;
                kept = p.kept;
                last = p.last;
                sweeps = looks-on units by joins joined joined_units joined_by joins_by old now new [] p.seen p.rest [] id p.value p.last p.last
                    base from (from ++ x.content ∷ []) sweeps once clear goes (took here h leaves_is refs_is sweep_is);
                now_is = leaves_is ∙ ap (λ ys. without_leaf ys id) p.now_is ∙ without-split id p.value p.rest p.kept lone.0 lone.1;
                passed_is = omega (arith, p.passed_is, ap (λ o. length_kept o len) head);
              }
          stops-step l k from given head same (merged here h may leaves_is keeps sweep_is) = (cc)
          stops-step l k from given head same (stayed {x = x} here h leaves_is keeps sweep_is) =
              let sweeps = subst (λ ts. Sweeps units by old now [] p.seen ((id, p.value) ∷ p.rest) [] p.last base ts) (sym same) p.sweeps in
              record {
                seen = p.seen ++ (id, p.value) ∷ [];
                ahead = p.rest;
                kept = p.kept ++ (id, p.value) ∷ [];
                last = Some id;
                sweeps = looks-on units by joins joined joined_units joined_by joins_by old now new [] p.seen p.rest [] id p.value p.last (Some id)
                    base from from sweeps once clear goes (stayed here h leaves_is keeps sweep_is);
                now_is = leaves_is ∙ p.now_is ∙ sym (append_assoc p.kept ((id, p.value) ∷ []) p.rest);
                passed_is = omega (arith, p.passed_is, len_is, length_join (leaf_removed units) p.kept ((id, p.value) ∷ []));
              }

          -- and less is ahead
          pub stops-smaller : (l k : Option ℕ) (from given : List C) → l ≡ None → Looks units by joins joined now new id l k from given
              → length_by (leaf_removed units) new.leaves - (passed + length_kept k len) < length_by (leaf_removed units) now.leaves - passed
          stops-smaller l k from given head (took {x = x} here h leaves_is refs_is sweep_is) =
              omega (
                arith,
                ap (λ o. length_kept o len) head,
                ap (length_by (leaf_removed units)) (leaves_is ∙ ap (λ ys. without_leaf ys id) p.now_is
                    ∙ without-split id p.value p.rest p.kept lone.0 lone.1),
                length_join (leaf_removed units) p.kept p.rest,
                p.passed_is,
                long_is,
                len_is,
                p.some,
              )
          stops-smaller l k from given head (merged here h may leaves_is keeps sweep_is) = (cc)
          stops-smaller l k from given head (stayed {x = x} here h leaves_is keeps sweep_is) =
              omega (arith, ap (length_by (leaf_removed units)) leaves_is, long_is, len_is, p.some)

    module _ (joins : C → C → Bool) (joined : C → C → C)
        (joined_units : (x y : C) → IsTrue (joins x y) → units (joined x y) ≡ units x ++ units y)
        (joined_by : (x y : C) → IsTrue (joins x y) → by (joined x y) ≡ by x)
        (joins_by : (x y : C) → IsTrue (joins x y) → by y ≡ by x) where
      -- leaves that nobody removed are passed
      pass_all : (clean seen ys : List (ℕ × TreeLeaf C)) (last : Option ℕ)
          → ByRecursion (λ x. is_collectable old.floor x.1.stamps ≡ false) clean
          → Sweeps units by old now [] seen (clean ++ ys) [] last base taken
          → (l : Option ℕ) × Sweeps units by old now [] (seen ++ clean) ys [] l base taken
      pass_all [] seen ys last h s =
          (last, subst (λ zs. Sweeps units by old now [] zs ys [] last base taken) (sym (append-nil seen)) s)
      pass_all (x ∷ clean) seen ys last h s =
          let here : value_at now.leaves x.0 ≡ Some x.1 = value units by old now [] seen (clean ++ ys) [] x.0 x.1 last base taken s once in
          let stays : is_collectable now.floor x.1.stamps ≡ false = ap (λ n. is_collectable n x.1.stamps) s.goes.floor ∙ h.0 in
          let on = looks-on units by joins joined joined_units joined_by joins_by old now now [] seen (clean ++ ys) [] x.0 x.1 last (Some x.0) base
          taken taken s once clear (record { floor = refl; made = refl; usable = s.goes.usable }) (stayed here stays refl (λ r. refl) refl) in
          let r = pass_all clean (seen ++ x ∷ []) ys (Some x.0) h.1 on in
          (r.0, subst (λ zs. Sweeps units by old now [] zs ys [] r.0 base taken) (append_assoc seen (x ∷ []) clean) r.1)

      module _ (passed : ℕ) (s : Collects units by old now passed base taken)
          (filled : All (λ x. 1 ≤ length (units x.1.content)) now.leaves) where
        ahead_filled : ByRecursion (λ x. 1 ≤ length (units x.1.content)) s.ahead
        ahead_filled =
            let P = λ (x : ℕ × TreeLeaf C). 1 ≤ length (units x.1.content) in
            (all_parts P s.kept s.ahead (subst (ByRecursion P) s.now_is (recursion_from_All P now.leaves filled))).1

        -- where the next leaf is found
        pub collect-stops : (id : ℕ) → next_removed units passed now.leaves ≡ Some id → StopsAt now passed id taken
        collect-stops id e =
            let f = leaf_removed units in
            let at = first_some f s.ahead id (sym (ap leaf_found (place_here f now.leaves s.kept s.ahead passed s.now_is s.passed_is)) ∙ e) in
            let P = λ (x : ℕ × TreeLeaf C). 1 ≤ length (units x.1.content) in
            let some = (all_parts P at.clean ((id, at.value) ∷ at.rest) (subst (ByRecursion P) at.is ahead_filled)).0 in
            let sweeps = subst (λ zs. Sweeps units by old now [] s.seen zs [] s.last base taken) at.is s.sweeps in
            let r = pass_all at.clean s.seen ((id, at.value) ∷ at.rest) s.last (all_clear units old.floor at.clean some at.empty) sweeps in
            record {
              value = at.value;
              seen = s.seen ++ at.clean;
              rest = at.rest;
              kept = s.kept ++ at.clean;
              last = r.0;
              sweeps = r.1;
              now_is = s.now_is ∙ ap (λ zs. s.kept ++ zs) at.is ∙ sym (append_assoc s.kept at.clean ((id, at.value) ∷ at.rest));
              passed_is = omega (arith, s.passed_is, length_join f s.kept at.clean, length_empty f at.clean at.empty);
              some = at.some;
            }

        -- where there is none
        pub collect-ends : next_removed units passed now.leaves ≡ None → CollectsAll units by old (record now { sweep = None }) base taken
        collect-ends e =
            let f = leaf_removed units in
            let zero = first_none f s.ahead (sym (ap leaf_found (place_here f now.leaves s.kept s.ahead passed s.now_is s.passed_is)) ∙ e) in
            let sweeps = subst (λ zs. Sweeps units by old now [] s.seen zs [] s.last base taken) (sym (append-nil s.ahead)) s.sweeps in
            let r = pass_all s.ahead s.seen [] s.last (all_clear units old.floor s.ahead ahead_filled zero) sweeps in
            whole-collected now (s.seen ++ s.ahead) r.0 taken r.1
