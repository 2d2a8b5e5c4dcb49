-- The handles that are seen, as a map of runs: what one more run makes of it, what is found in it, and the walk that fills it.
use Rattle.std.proofs.Common.{◌≡◌, ℕ, zero, suc, ◌+◌, ◌-◌, ◌^◌, ◌≤◌, ◌<◌, ◌⊎◌, Bool, true, false, cond, nat_eq, List, [], ◌∷◌, ◌++◌, Option, Some, None, refl, sym, ◌∙◌, ap, subst, inl, inr, SomeIff, length, slice_get, arith, length-append}
use Rattle.std.specs.BTreeMap as tree
use Rattle.std.specs.BTreeMap.{BTreeMap, is_at}
use Rattle.std.specs.BTreeMap.Range.{IsRangeOf, IsLeBy}
use Rattle.std.specs.declared.ops.Bound.TheVariants.{Included, Unbounded}
use Rattle.std.specs.Map.{lookup}
use Rattle.std.specs.Ordering.{is_gt, nat_cmp}
use Rattle.std.proofs.lemmas.Bool.Decides.{nat_tests}
use Rattle.std.proofs.lemmas.Option.{slice_get_within}
use Rattle.ft_base.specs.Scan.{len, one_more_if, retain_map}
use Rattle.ft_arena.specs.Ids.{after, first}
use Rattle.ft_block.specs.Leaves.{IsPlaceIn, ids, last_stage, times_leaf, value_at}
use Rattle.ft_tree_leaves.specs.declared.leaves.TreeLeaf.{TreeLeaf}
use Rattle.ft_tree_leaves.specs.Elements.{TreeElement}
use Rattle.ft_tree_blocks.specs.Walks.{from_place}
use Rattle.ft_named.proofs.LeafWalks.{Walks, stands-next, walk-begin, walk-done, walk-next}
use Rattle.ft_perm.specs.Handles.{HandleRun, handles_of, numbers_from}
use Rattle.ft_perm.specs.HandleLaws.{length-numbers_from}
use Rattle.ft_perm.proofs.SeenRuns.{Leaves, shown_runs, shown_runs-more}
use Rattle.ft_matrix.specs.declared.seen.SeenRun.{SeenRun}
use Rattle.ft_matrix.specs.declared.seen.SeenRuns.{SeenRuns}
use Rattle.ft_matrix.specs.Seen.{HoldsRuns, IsCovered, PlacesHandle, StandOnce, seen_in_leaf}
use Rattle.ft_matrix.proofs.HeldGrids.{HandlesOnce, handles-tail}
use Rattle.ft_matrix.proofs.Writes.{some-more}

-- ---- the items of two lists behind one another

module _ {A : Type 0} where
  pub get-left : (xs ys : List A) (i : ℕ) (h : A) → slice_get xs i ≡ Some h → slice_get (xs ++ ys) i ≡ Some h
  get-left [] ys i h e = (cc)
  get-left (x ∷ xs) ys zero h e = e
  get-left (x ∷ xs) ys (suc i) h e = get-left xs ys i h e

  pub get-right : (xs ys : List A) (i k : ℕ) → i ≡ length xs + k → slice_get (xs ++ ys) i ≡ slice_get ys k
  get-right [] ys i k e = let same : i ≡ k = omega arith in ap (slice_get ys) same
  get-right (x ∷ xs) ys zero k e = absurd (omega arith)
  get-right (x ∷ xs) ys (suc i) k e = get-right xs ys i k (omega arith)

  pub get-split : (xs ys : List A) (i : ℕ) (h : A) → slice_get (xs ++ ys) i ≡ Some h
      → (slice_get xs i ≡ Some h) ⊎ ((k : ℕ) × (i ≡ length xs + k) × (slice_get ys k ≡ Some h))
  get-split [] ys i h e = inr (i, omega arith, e)
  get-split (x ∷ xs) ys zero h e = inl e
  get-split (x ∷ xs) ys (suc i) h e = elim (get-split xs ys i h e) [ inl g ↦ inl g | inr r ↦ inr (r.0, omega (arith, r.1), r.2) ]

pub get-number : (first n k h : ℕ) → slice_get (numbers_from first n) k ≡ Some h → (h ≡ first + k) × (k < n)
get-number first zero k h e = (cc)
get-number first (suc n) zero h e = let same : first ≡ h = (cc) in (omega arith, omega arith)
get-number first (suc n) (suc k) h e = let r = get-number (first + 1) n k h e in (omega arith, omega arith)

pub number-at : (first n k h : ℕ) → k < n → h ≡ first + k → slice_get (numbers_from first n) k ≡ Some h
number-at first zero k h l e = absurd (omega arith)
number-at first (suc n) zero h l e = let same : first ≡ h = omega arith in ap Some same
number-at first (suc n) (suc k) h l e = number-at (first + 1) n k h (omega arith) (omega arith)

pub once-front : (xs ys : List ℕ) → StandOnce (xs ++ ys) → StandOnce xs
once-front xs ys o i j h a b = o i j h (get-left xs ys i h a) (get-left xs ys j h b)

-- ---- each seen handle stands at one place

module _ (see : TreeElement ℕ → Bool) where
  abbrev handles : List (TreeElement ℕ) → List ℕ
  handles es = retain_map see (λ e. e.unit) es

  get-held : (es : List (TreeElement ℕ)) (i h : ℕ) → slice_get (handles es) i ≡ Some h → 1 ≤ len (λ e. nat_eq e.unit h) es
  get-held [] i h e = (cc)
  get-held (x ∷ es) i h e = step (see x) i e (λ j g. get-held es j h g)
    where
      here : x.unit ≡ h → 1 ≤ one_more_if (nat_eq x.unit h) (len (λ (d : TreeElement ℕ). nat_eq d.unit h) es)
      here g = let b : nat_eq x.unit h ≡ true = grind (arith, nat_tests) in rw b (omega arith)

      step : (b : Bool) (i : ℕ) → slice_get (cond b (x.unit ∷ handles es) (handles es)) i ≡ Some h
          → ((j : ℕ) → slice_get (handles es) j ≡ Some h → 1 ≤ len (λ (d : TreeElement ℕ). nat_eq d.unit h) es)
          → 1 ≤ one_more_if (nat_eq x.unit h) (len (λ (d : TreeElement ℕ). nat_eq d.unit h) es)
      step true zero g r = here (cc)
      step true (suc i) g r = some-more (nat_eq x.unit h) (len (λ (d : TreeElement ℕ). nat_eq d.unit h) es) (r i g)
      step false i g r = some-more (nat_eq x.unit h) (len (λ (d : TreeElement ℕ). nat_eq d.unit h) es) (r i g)

  not-behind : (x : TreeElement ℕ) (es : List (TreeElement ℕ)) (j h : ℕ) → HandlesOnce (x ∷ es) → x.unit ≡ h → slice_get (handles es) j ≡ Some h → ⊥
  not-behind x es j h o e g =
      let there = get-held es j h g in
      let b : nat_eq x.unit h ≡ true = grind (arith, nat_tests) in
      let two : one_more_if (nat_eq x.unit h) (len (λ (d : TreeElement ℕ). nat_eq d.unit h) es) ≤ 1 = o h in
      let more : suc (len (λ (d : TreeElement ℕ). nat_eq d.unit h) es) ≤ 1 = rw b at two in
      omega arith

  pub once-seen : (es : List (TreeElement ℕ)) → HandlesOnce es → StandOnce (handles es)
  once-seen [] o i j h a b = (cc)
  once-seen (x ∷ es) o i j h a b = step (see x) i j a b (λ i j c d. once-seen es (handles-tail x es o) i j h c d)
    where
      step : (c : Bool) (i j : ℕ) → slice_get (cond c (x.unit ∷ handles es) (handles es)) i ≡ Some h
          → slice_get (cond c (x.unit ∷ handles es) (handles es)) j ≡ Some h
          → ((i j : ℕ) → slice_get (handles es) i ≡ Some h → slice_get (handles es) j ≡ Some h → i ≡ j) → i ≡ j
      step true zero zero a b r = refl
      step true zero (suc j) a b r = absurd (not-behind x es j h o (cc) b)
      step true (suc i) zero a b r = absurd (not-behind x es i h o (cc) a)
      step true (suc i) (suc j) a b r = ap suc (r i j a b)
      step false i j a b r = r i j a b

-- ---- the map of runs

is-none : (r : SeenRuns) → r.runs.entries ≡ [] → (l : ℕ) → tree.get nat_cmp r.runs l ≡ None
is-none r e l = ap (λ (es : List (ℕ × SeenRun)). lookup (is_at (nat_cmp l)) es) e

pub no-runs : (r : SeenRuns) → r.count ≡ 0 → r.runs.entries ≡ [] → HoldsRuns [] r
no-runs r c e = record {
  count = c;
  few = omega arith;
  once = λ i j h a b. (cc);
  rises = λ l x g. let n = is-none r e l in (cc);
  stands = λ l x g h a b. let n = is-none r e l in (cc);
  covered = λ i h a. (cc);
  apart = λ l m x y g f a b. let n = is-none r e l in (cc);
}

pub record IsNew (runs : BTreeMap ℕ SeenRun) (last : ℕ) (run : SeenRun) (l : ℕ) (x : SeenRun) : Type 0 where
  pub at : last ≡ l
  pub is : run ≡ x

module _ (hs : List ℕ) (old new : SeenRuns) (run : HandleRun) (last : ℕ) (added : SeenRun) (some : 1 ≤ run.count) (ends : last ≡ run.first + (run.count - 1))
    (begins : added.first ≡ run.first) (at : added.place ≡ old.count)
    (count : new.count ≡ old.count + run.count) (fits : new.count < 2 ^ 64)
    (is : (l : ℕ) → tree.get nat_cmp new.runs l ≡ cond (is_at (nat_cmp last) l) (Some added) (tree.get nat_cmp old.runs l))
    (h : HoldsRuns hs old) (o : StandOnce (hs ++ handles_of run)) where
  eq-test : (l : ℕ) → is_at (nat_cmp last) l ≡ nat_eq last l
  eq-test l = grind (arith, nat_tests)

  either : (l : ℕ) (x : SeenRun) → tree.get nat_cmp new.runs l ≡ Some x → (IsNew new.runs last added l x) ⊎ (tree.get nat_cmp old.runs l ≡ Some x)
  either l x g = step (nat_eq last l) refl (sym (ap (λ b. cond b (Some added) (tree.get nat_cmp old.runs l)) (eq-test l)) ∙ sym (is l) ∙ g)
    where
      step : (b : Bool) → nat_eq last l ≡ b → cond b (Some added) (tree.get nat_cmp old.runs l) ≡ Some x
          → (IsNew new.runs last added l x) ⊎ (tree.get nat_cmp old.runs l ≡ Some x)
      step true t f = inl (record { at = grind (arith, nat_tests); is = (cc) })
      step false t f = inr f

  here : tree.get nat_cmp new.runs last ≡ Some added
  here = let t : is_at (nat_cmp last) last ≡ true = grind (arith, nat_tests) in is last ∙ ap (λ b. cond b (Some added) (tree.get nat_cmp old.runs last)) t

  -- a handle of the new run
  own : (g : ℕ) → run.first ≤ g → g ≤ last → slice_get (hs ++ handles_of run) (length hs + (g - run.first)) ≡ Some g
  own g a b =
      get-right hs (handles_of run) (length hs + (g - run.first)) (g - run.first) refl ∙ number-at run.first run.count (g - run.first) g (omega arith) (omega arith)

  not-both : (i g : ℕ) → run.first ≤ g → g ≤ last → slice_get hs i ≡ Some g → ⊥
  not-both i g a b e =
      let same : i ≡ length hs + (g - run.first) = o i (length hs + (g - run.first)) g (get-left hs (handles_of run) i g e) (own g a b) in
      let low = slice_get_within hs i g e in
      omega arith

  -- no run of before ends in it
  kept : (l : ℕ) (x : SeenRun) → tree.get nat_cmp old.runs l ≡ Some x → tree.get nat_cmp new.runs l ≡ Some x
  kept l x g = is l ∙ ap (λ b. cond b (Some added) (tree.get nat_cmp old.runs l)) (eq-test l) ∙ step (nat_eq last l) refl
    where
      step : (b : Bool) → nat_eq last l ≡ b → cond b (Some added) (tree.get nat_cmp old.runs l) ≡ Some x
      step false t = g
      step true t =
          let same : last ≡ l = grind (arith, nat_tests) in
          let low = h.rises l x g in
          absurd (not-both (x.place + (l - x.first)) l (omega arith) (omega arith) (h.stands l x g l low (omega arith)))

  total : length (hs ++ handles_of run) ≡ length hs + run.count
  total = length-append hs (handles_of run) ∙ ap (λ n. length hs + n) (length-numbers_from run.first run.count)

  now-rises : (l : ℕ) (x : SeenRun) → tree.get nat_cmp new.runs l ≡ Some x → x.first ≤ l
  now-rises l x g = elim (either l x g) [
    | inl n ↦ let f = ap (λ (r : SeenRun). r.first) n.is in let e = n.at in omega arith
    | inr f ↦ h.rises l x f
  ]

  now-stands : (l : ℕ) (x : SeenRun) → tree.get nat_cmp new.runs l ≡ Some x → (g : ℕ) → x.first ≤ g → g ≤ l
      → slice_get (hs ++ handles_of run) (x.place + (g - x.first)) ≡ Some g
  now-stands l x e g a b = elim (either l x e) [
    | inl n ↦
        let first = ap (λ (r : SeenRun). r.first) n.is in
        let place = ap (λ (r : SeenRun). r.place) n.is in
        let ended = n.at in
        let c = h.count in
        let same : length hs + (g - run.first) ≡ x.place + (g - x.first) = omega arith in
        ap (slice_get (hs ++ handles_of run)) (sym same) ∙ own g (omega arith) (omega arith)
    | inr f ↦ get-left hs (handles_of run) (x.place + (g - x.first)) g (h.stands l x f g a b)
  ]

  now-covered : (i g : ℕ) → slice_get (hs ++ handles_of run) i ≡ Some g → IsCovered new.runs g
  now-covered i g e = elim (get-split hs (handles_of run) i g e) [
    | inl f ↦ let c = h.covered i g f in record { last = c.last; run = c.run; is = kept c.last c.run c.is; from = c.from; to = c.to }
    | inr f ↦
        let n = get-number run.first run.count f.0 g f.2 in
        record { last = last; run = added; is = here; from = omega (arith, n.0); to = omega (arith, n.0, n.1) }
  ]

  now-apart : (l m : ℕ) (x y : SeenRun) → tree.get nat_cmp new.runs l ≡ Some x → tree.get nat_cmp new.runs m ≡ Some y → y.first ≤ l → l ≤ m → l ≡ m
  now-apart l m x y e f a b = elim (either l x e) [
    | inl n ↦ elim (either m y f) [
      | inl k ↦ sym n.at ∙ k.at
      | inr k ↦
          let same = n.at in
          absurd (not-both (y.place + (l - y.first)) l (omega arith) (omega arith) (h.stands m y k l a b))
    ]
    | inr n ↦ elim (either m y f) [
      | inl k ↦
          let same = k.at in
          let first = ap (λ (r : SeenRun). r.first) k.is in
          absurd (not-both (x.place + (l - x.first)) l (omega arith) (omega arith) (h.stands l x n l (h.rises l x n) (omega arith)))
      | inr k ↦ h.apart l m x y n k a b
    ]
  ]

  pub one-run-more : HoldsRuns (hs ++ handles_of run) new
  one-run-more = record {
    count = let t = total in let c = h.count in omega arith;
    few = let t = total in let c = h.count in omega arith;
    once = o;
    rises = now-rises;
    stands = now-stands;
    covered = now-covered;
    apart = now-apart;
  }

-- ---- what is found

from-test : (i j : ℕ) → is_gt (nat_cmp i j) ≡ false → i ≤ j
from-test i j h = grind (arith, nat_tests)

test-from : (i j : ℕ) → i ≤ j → is_gt (nat_cmp i j) ≡ false
test-from i j h = grind (arith, nat_tests)

module _ (hs : List ℕ) (r : SeenRuns) (handle : ℕ) (found : List (ℕ × SeenRun))
    (is : IsRangeOf nat_cmp (Included handle) Unbounded r.runs found) (h : HoldsRuns hs r) where
  pub place-none : found ≡ [] → PlacesHandle hs handle None
  place-none e i g =
      let c = h.covered i handle g in
      let none : tree.get nat_cmp r.runs c.last ≡ None = is.5 e c.last (test-from handle c.last c.to, tt) in
      let some = c.is in
      absurd (cc)

  module _ (e : ℕ × SeenRun) (first : slice_get found 0 ≡ Some e) where
    there : tree.get nat_cmp r.runs e.0 ≡ Some e.1
    there = (rw first at is.1).1

    from : handle ≤ e.0
    from = from-test handle e.0 (rw first at is.1).0.0

    pub place-before : handle < e.1.first → PlacesHandle hs handle None
    place-before l i g =
        let c = h.covered i handle g in
        let some = c.is in
        let least : IsLeBy nat_cmp e.0 c.last = rw first at (is.2 c.last (test-from handle c.last c.to, tt) (rw some refl)) in
        let below : e.0 ≤ c.last = from-test e.0 c.last least in
        let low = h.rises e.0 e.1 there in
        let near = c.from in
        let same : e.0 ≡ c.last = h.apart e.0 c.last e.1 c.run there some (omega (arith, from)) below in
        let runs : Some e.1 ≡ Some c.run = sym there ∙ ap (tree.get nat_cmp r.runs) same ∙ some in
        let run : e.1 ≡ c.run = (cc) in
        let begin = ap (λ (x : SeenRun). x.first) run in
        omega arith

    pub place-there : e.1.first ≤ handle → slice_get hs (e.1.place + (handle - e.1.first)) ≡ Some handle
    place-there l = h.stands e.0 e.1 there handle l from

    pub place-fits : e.1.first ≤ handle → e.1.place + (handle - e.1.first) < 2 ^ 64
    place-fits l = let low = slice_get_within hs (e.1.place + (handle - e.1.first)) handle (place-there l) in let few = h.few in omega arith

pub placed : (hs : List ℕ) (handle i : ℕ) (o : Option ℕ) → SomeIff o (i < 2 ^ 64) i → i < 2 ^ 64 → slice_get hs i ≡ Some handle → PlacesHandle hs handle o
placed hs handle i (Some j) f l e = ap (slice_get hs) f.1 ∙ e
placed hs handle i None f l e = absurd (f l)

-- ---- the walk

pub handles-step : (id : ℕ) (x : TreeLeaf HandleRun) (xs : Leaves) → shown_runs last_stage ((id, x) ∷ xs) ≡ seen_in_leaf x ++ shown_runs last_stage xs
handles-step id x xs = shown_runs-more last_stage (id, x) xs

abbrev pub handles_in : Leaves → List ℕ
handles_in leaves = shown_runs last_stage leaves

pub record RunsSoFar (all : Leaves) (next : Option ℕ) (runs : SeenRuns) : Type 0 where
  pub done : List ℕ
  pub walk : Walks handles_in seen_in_leaf refl handles-step all next done
  pub holds : HoldsRuns done runs

pub runs-begin : (all : Leaves) (next : Option ℕ) (runs : SeenRuns) → next ≡ first (ids all) → HoldsRuns [] runs → RunsSoFar all next runs
runs-begin all next runs e h = record { done = []; walk = walk-begin handles_in seen_in_leaf refl handles-step all next e; holds = h }

same-leaf : (all : Leaves) (id : ℕ) (x y : TreeLeaf HandleRun) → value_at all id ≡ Some x → value_at all id ≡ Some y → x ≡ y
same-leaf all id x y e f = (cc)

pub runs-next : (all : Leaves) → ((i : ℕ) → times_leaf all i ≤ 1) → StandOnce (handles_in all)
    → (next behind : Option ℕ) (id : ℕ) (old new : SeenRuns) → RunsSoFar all next old
    → next ≡ Some id
    → ((x : TreeLeaf HandleRun) → value_at all id ≡ Some x → (hs : List ℕ) → HoldsRuns hs old → StandOnce (hs ++ seen_in_leaf x)
    → HoldsRuns (hs ++ seen_in_leaf x) new)
    → behind ≡ after (ids all) id → RunsSoFar all behind new
runs-next all once apart next behind id old new r e f g =
    let s = stands-next all once id (subst (λ n. IsPlaceIn all n) e r.walk.place) in
    let more = r.done ++ seen_in_leaf s.leaf in
    let walk = walk-next handles_in seen_in_leaf refl handles-step all once next behind id r.done more r.walk e
    (λ x v. ap (λ y. r.done ++ seen_in_leaf y) (same-leaf all id s.leaf x s.value v)) g in
    record {
      done = more;
      walk = walk;
      holds = f s.leaf s.value r.done r.holds (once-front more (handles_in (from_place all behind)) (subst StandOnce (sym walk.whole) apart));
    }

pub runs-all : (all : Leaves) (next : Option ℕ) (runs : SeenRuns) → RunsSoFar all next runs → next ≡ None → HoldsRuns (handles_in all) runs
runs-all all next runs r e = subst (λ hs. HoldsRuns hs runs) (walk-done handles_in seen_in_leaf refl handles-step all next r.done r.walk e) r.holds
