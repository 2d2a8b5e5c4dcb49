-- Runs of units made leaf by leaf: the last one so far may still go on.
use Rattle.std.proofs.Common.{◌≡◌, ℕ, zero, suc, ◌+◌, ◌≤◌, Bool, true, false, cond, List, [], ◌∷◌, ◌++◌, Option, Some, None, refl, sym, ◌∙◌, ap, subst, length, option_map, slice_index_or, slice_set, if◌then◌else◌, is_ok, IfOk, OnOk, Result, Ok, Err, arith, append_assoc}
use Rattle.ft_arena.specs.Ids.{after, first}
use Rattle.ft_base.specs.declared.elements.Element.{Element as ElementStamps}
use Rattle.ft_base.specs.declared.memory.OutOfMemory.{OutOfMemory}
use Rattle.ft_block.specs.Leaves.{IsLeafIn, IsPlaceIn, ids, times_leaf, value_at}
use Rattle.ft_tree_blocks.specs.Walks.{from_place}
use Rattle.ft_tree_blocks.proofs.Walks.{after_in_place, first_in_place, from_first}
use Rattle.ft_tree_leaves.specs.declared.leaves.TreeLeaf.{TreeLeaf}
use Rattle.ft_tree_leaves.specs.Elements.{TreeElement, elements_with}
use Rattle.ft_tree_leaves.specs.LeafLists.{elements}
use Rattle.ft_named.proofs.LeafWalks.{stands-next}
use Rattle.ft_msg.specs.JoinedRuns.{with_run}
use Rattle.ft_msg.proofs.JoinedRuns.{run-alike, with_run-apart, with_run-joined}
use Rattle.ft_perm.specs.Handles.{HandleRun, handles_of}
use Rattle.ft_perm.proofs.SeenRuns.{Leaves}
use Rattle.ft_props.specs.Compaction.{has_collectable_removal}
use Rattle.ft_props.specs.Overlay.{OverlayState}
use Rattle.ft_sumdoc.specs.declared.summary.RunRec.{RunRec}
use Rattle.ft_sumdoc.specs.WellFormed.{same_stamps}
use Rattle.ft_matrix.specs.SavedUnits.{AddsLeaf, Joins, continued, saved_runs, unit_run}

-- ---- runs of which the last one goes on

continued-last : (runs : List RunRec) (r : RunRec) (rest : List RunRec) → continued (runs ++ r ∷ []) rest ≡ runs ++ with_run r rest
continued-last [] r rest = refl
continued-last (s ∷ []) r rest = refl
continued-last (s ∷ t ∷ runs) r rest = ap (λ us. s ∷ us) (continued-last (t ∷ runs) r rest)

pub continued-none : (runs : List RunRec) → continued runs [] ≡ runs
continued-none [] = refl
continued-none (r ∷ []) = refl
continued-none (r ∷ s ∷ runs) = ap (λ us. r ∷ us) (continued-none (s ∷ runs))

joined-run : (front old new : List RunRec) (last r : RunRec) → old ≡ front ++ last ∷ [] → same_stamps last.ins last.dels r.ins r.dels ≡ true
    → new ≡ front ++ record r { count = r.count + last.count } ∷ [] → (rest : List RunRec) → continued new rest ≡ continued old (with_run r rest)
joined-run front old new last r e s f rest =
    ap (λ us. continued us rest) f ∙ continued-last front (record r { count = r.count + last.count }) rest
    ∙ ap (λ us. front ++ us) (sym (ap (λ q. with_run q (with_run r rest)) (run-alike last r.ins r.dels s) ∙ with_run-joined last.count r.count r.ins r.dels rest))
    ∙ sym (ap (λ us. continued us (with_run r rest)) e ∙ continued-last front last (with_run r rest))

apart-run : (front old new : List RunRec) (last r : RunRec) → old ≡ front ++ last ∷ [] → same_stamps last.ins last.dels r.ins r.dels ≡ false
    → new ≡ (front ++ last ∷ []) ++ r ∷ [] → (rest : List RunRec) → continued new rest ≡ continued old (with_run r rest)
apart-run front old new last r e s f rest =
    ap (λ us. continued us rest) f ∙ continued-last (front ++ last ∷ []) r rest ∙ append_assoc front (last ∷ []) (with_run r rest)
    ∙ ap (λ us. front ++ us) (sym (with_run-apart last r rest s))
    ∙ sym (ap (λ us. continued us (with_run r rest)) e ∙ continued-last front last (with_run r rest))

-- the last one of a list, and what the list is where another one is written in its place
record EndsWith {A : Type 0} (xs : List A) (n : ℕ) (x : A) : Type 0 where
  front : List A
  is : xs ≡ front ++ x ∷ []
  written : (y : A) → slice_set xs n y ≡ front ++ y ∷ []

ends-with : {A : Type 0} (xs : List A) (n : ℕ) (x : A) → n + 1 ≡ length xs → x ≡ slice_index_or xs n x → EndsWith xs n x
ends-with [] n x e h = absurd (omega (arith, e))
ends-with (w ∷ []) zero x e h = record { front = []; is = ap (λ v. v ∷ []) (sym h); written = λ y. refl }
ends-with (w ∷ []) (suc n) x e h = absurd (omega (arith, e))
ends-with (w ∷ v ∷ xs) zero x e h = absurd (omega (arith, e))
ends-with (w ∷ v ∷ xs) (suc n) x e h =
    let rest = ends-with (v ∷ xs) n x (omega (arith, e)) h in
    record { front = w ∷ rest.front; is = ap (λ us. w ∷ us) rest.is; written = λ y. ap (λ us. w ∷ us) (rest.written y) }

module _ (old : List RunRec) (n : ℕ) (last r : RunRec) (e : n + 1 ≡ length old) (h : last ≡ slice_index_or old n last) where
  pub run-counted : (count : ℕ) → same_stamps last.ins last.dels r.ins r.dels ≡ true → count ≡ r.count + last.count → Joins r old
      (slice_set old n (record last { count = count })) true
  run-counted count s sum =
      let end = ends-with old n last e h in
      joined-run end.front old (slice_set old n (record last { count = count })) last r end.is s
      (end.written (record last { count = count }) ∙ ap (λ q. end.front ++ record q { count = count } ∷ []) (run-alike last r.ins r.dels s)
      ∙ ap (λ m. end.front ++ record r { count = m } ∷ []) sum)

  pub run-uncounted : same_stamps last.ins last.dels r.ins r.dels ≡ false → Joins r old (slice_set old n last) false
  run-uncounted s =
      let end = ends-with old n last e h in
      (end.written last ∙ sym end.is, apart-run end.front old (old ++ r ∷ []) last r end.is s (ap (λ us. us ++ r ∷ []) end.is))

pub run-pushed : {A : Type 0} (there : Result Bool OutOfMemory) (done : Result A OutOfMemory) (r : RunRec) (old between new : List RunRec) → IfOk
    there (Joins r old between)
    → OnOk done (is_ok there ≡ true) → OnOk done (IfOk there (λ t. new ≡ (if t then between else between ++ r ∷ [])))
    → OnOk done ((rest : List RunRec) → continued new rest ≡ continued old (with_run r rest))
run-pushed there (Err f) r old between new j k n = tt
run-pushed (Err f) (Ok x) r old between new j k n = (cc)
run-pushed (Ok true) (Ok x) r old between new j k n = λ rest. ap (λ us. continued us rest) n ∙ j rest
run-pushed (Ok false) (Ok x) r old between new j k n = λ rest. ap (λ us. continued us rest) (n ∙ ap (λ us. us ++ r ∷ []) j.0) ∙ j.1 rest

-- ---- the units of a leaf

module _ (min : ℕ) where
  same-units : (stamps : ElementStamps) (overlay : OverlayState) (u : ℕ) (us : List ℕ) (es : List (TreeElement ℕ))
      → has_collectable_removal min stamps.dels ≡ false
      → saved_runs min (elements_with stamps None overlay (u ∷ us) ++ es) ≡ with_run (unit_run min stamps (suc (length us))) (saved_runs min es)
  same-units stamps overlay u [] es h =
      ap (λ b. cond b (saved_runs min es) (with_run (unit_run min stamps 1) (saved_runs min es))) h
  same-units stamps overlay u (v ∷ us) es h =
      let count : suc (length us) + 1 ≡ suc (suc (length us)) = omega arith in
      ap (λ b. cond b (saved_runs min (elements_with stamps None overlay (v ∷ us) ++ es))
      (with_run (unit_run min stamps 1) (saved_runs min (elements_with stamps None overlay (v ∷ us) ++ es)))) h
      ∙ ap (with_run (unit_run min stamps 1)) (same-units stamps overlay v us es h)
      ∙ with_run-joined 1 (suc (length us)) (unit_run min stamps 1).ins (unit_run min stamps 1).dels (saved_runs min es)
      ∙ ap (λ n. with_run (unit_run min stamps n) (saved_runs min es)) count

  no-units : (stamps : ElementStamps) (overlay : OverlayState) (us : List ℕ) (es : List (TreeElement ℕ)) → has_collectable_removal min stamps.dels ≡ true
      → saved_runs min (elements_with stamps None overlay us ++ es) ≡ saved_runs min es
  no-units stamps overlay [] es h = refl
  no-units stamps overlay (u ∷ us) es h =
      ap (λ b. cond b (saved_runs min (elements_with stamps None overlay us ++ es))
      (with_run (unit_run min stamps 1) (saved_runs min (elements_with stamps None overlay us ++ es)))) h
      ∙ no-units stamps overlay us es h

  some-units : (stamps : ElementStamps) (overlay : OverlayState) (us : List ℕ) (es : List (TreeElement ℕ)) → 1 ≤ length us
      → saved_runs min (elements_with stamps None overlay us ++ es)
      ≡ cond (has_collectable_removal min stamps.dels) (saved_runs min es) (with_run (unit_run min stamps (length us)) (saved_runs min es))
  some-units stamps overlay [] es l = absurd (omega arith)
  some-units stamps overlay (u ∷ us) es l = step (has_collectable_removal min stamps.dels) refl
    where
      step : (b : Bool) → has_collectable_removal min stamps.dels ≡ b
          → saved_runs min (elements_with stamps None overlay (u ∷ us) ++ es)
          ≡ cond b (saved_runs min es) (with_run (unit_run min stamps (suc (length us))) (saved_runs min es))
      step true h = no-units stamps overlay (u ∷ us) es h
      step false h = same-units stamps overlay u us es h

  -- ---- the walk

  abbrev runs-in : Leaves → List RunRec
  runs-in leaves = saved_runs min (elements handles_of (λ x. None) leaves)

  pub record SavesSoFar (all : Leaves) (next : Option ℕ) (runs : List RunRec) : Type 0 where
    pub place : IsPlaceIn all next
    pub whole : continued runs (runs-in (from_place all next)) ≡ runs-in all

  pub saves-begin : (all : Leaves) (next : Option ℕ) (runs : List RunRec) → next ≡ first (ids all) → runs ≡ [] → SavesSoFar all next runs
  saves-begin all next runs e f =
      subst (λ n. SavesSoFar all n runs) (sym e) (record {
        place = first_in_place all;
        whole = ap (λ us. continued us (runs-in (from_place all (first (ids all))))) f ∙ ap runs-in (from_first all);
      })

  pub saves-next : (all : Leaves) → ((i : ℕ) → times_leaf all i ≤ 1) → (next behind : Option ℕ) (id : ℕ) (old new : List RunRec)
      → SavesSoFar all next old → next ≡ Some id
      → ((x : TreeLeaf HandleRun) → value_at all id ≡ Some x → AddsLeaf min x old new) → behind ≡ after (ids all) id → SavesSoFar all behind new
  saves-next all once next behind id old new s e f g =
      let live : IsLeafIn all id = subst (λ n. IsPlaceIn all n) e s.place in
      let here = stands-next all once id live in
      let added = f here.leaf here.value in
      let rest = from_place all (after (ids all) id) in
      subst (λ n. SavesSoFar all n new) (sym g) (record {
        place = after_in_place all id;
        whole = added.adds (runs-in rest)
            ∙ ap (continued old) (sym (ap runs-in here.ahead
            ∙ some-units here.leaf.stamps here.leaf.overlay (handles_of here.leaf.content) (elements handles_of (λ (x : HandleRun). None) rest) added.some))
            ∙ ap (λ n. continued old (runs-in (from_place all n))) (sym e) ∙ s.whole;
      })

  pub saves-all : (all : Leaves) (next : Option ℕ) (runs : List RunRec) → SavesSoFar all next runs → next ≡ None → runs ≡ runs-in all
  saves-all all next runs s e = sym (continued-none runs) ∙ ap (λ n. continued runs (runs-in (from_place all n))) (sym e) ∙ s.whole

module _ (min : ℕ) (leaves : Leaves) (id : ℕ) (old new : List RunRec) (stamps : ElementStamps) (count : ℕ) (r : RunRec)
    (own : option_map (λ x. x.stamps) (value_at leaves id) ≡ Some stamps) (size : option_map (λ x. length (handles_of x.content)) (value_at leaves id) ≡ Some count)
    (some : 1 ≤ count) where
  stamps-of : (x : TreeLeaf HandleRun) → value_at leaves id ≡ Some x → stamps ≡ x.stamps
  stamps-of x v = let e : Some stamps ≡ Some x.stamps = sym own ∙ ap (option_map (λ (y : TreeLeaf HandleRun). y.stamps)) v in (cc)

  count-of : (x : TreeLeaf HandleRun) → value_at leaves id ≡ Some x → count ≡ length (handles_of x.content)
  count-of x v = let e : Some count ≡ Some (length (handles_of x.content)) = sym size ∙ ap (option_map (λ (y : TreeLeaf HandleRun). length (handles_of y.content))) v in (cc)

  pub adds-leaf : has_collectable_removal min stamps.dels ≡ false → r ≡ unit_run min stamps count
      → ((rest : List RunRec) → continued new rest ≡ continued old (with_run r rest)) → (x : TreeLeaf HandleRun)
      → value_at leaves id ≡ Some x → AddsLeaf min x old new
  adds-leaf stays is adds x v =
      let s = stamps-of x v in
      let n = count-of x v in
      record {
        some = subst (λ m. 1 ≤ m) n some;
        adds = λ rest. adds rest
            ∙ ap (λ q. continued old (with_run q rest)) (is ∙ ap (λ t. unit_run min t count) s ∙ ap (unit_run min x.stamps) n)
            ∙ ap (continued old) (sym (ap (λ b. cond b rest (with_run (unit_run min x.stamps (length (handles_of x.content))) rest))
            (sym (ap (λ (t : ElementStamps). has_collectable_removal min t.dels) s) ∙ stays)));
      }
