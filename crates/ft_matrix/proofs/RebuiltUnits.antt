-- A vector whose pending units are put in afresh: what stays of it, and that it goes on beside the document's list.
use Rattle.std.proofs.Common.{◌≡◌, ℕ, zero, suc, ◌+◌, ◌≤◌, ◌<◌, All, Bool, true, false, cond, not, ◌&&◌, ◌||◌, nat_eq, nat_le, List, [], ◌∷◌, None, OnOk, Result, Ok, Err, refl, sym, ◌∙◌, ap, subst, filter, arith}
use Rattle.std.specs.List.{AllByRecursion, list_all, list_any}
use Rattle.std.proofs.lemmas.Bool.Decides.{nat_tests}
use Rattle.std.proofs.lemmas.List.Elements.{All-from_recursion, recursion_from_All}
use Rattle.ft_base.specs.declared.stamps.Stamp.{Stamp}
use Rattle.ft_base.specs.declared.stamps.Stamp.TheVariants.{Acked, Local}
use Rattle.ft_base.specs.declared.elements.Element.{Element as ElementStamps}
use Rattle.ft_base.specs.Scan.{len, no_run, one_more_if, put, retain_map}
use Rattle.ft_base.specs.Visibility.{is_acked, is_of_stage, seen_at}
use Rattle.ft_props.specs.Element.{ElementId, ListElement, id, is_sequenced, seen, stamps_of}
use Rattle.ft_props.specs.Steps.{Sequence, is_inserted_by, rebuilt_list}
use Rattle.ft_props.specs.Steps.{carried_element as document_carried}
use Rattle.ft_tree_leaves.specs.Elements.{TreeElement}
use Rattle.ft_tree_leaves.specs.declared.references.Reference.{Reference}
use Rattle.ft_tree_leaves.specs.References.{ChangesReferences}
use Rattle.ft_tree.specs.State.{KeepsRest}
use Rattle.ft_perm.specs.Vectors.{VectorState, in_use}
use Rattle.ft_laws_agreement.proofs.AgreedStage.{len-put-add}
use Rattle.ft_laws_names.proofs.Beside.{beside-choice, beside-filter, beside-put, beside-rank, ends, next}
use Rattle.ft_rebase.specs.Normalised.{carried_element, without_pending}
use Rattle.ft_rebase.specs.Normalised.{rebuilt_list as tree_rebuilt}
use Rattle.ft_rebase.specs.StageLists.{StagesUpTo, inserted_by, next_position, seen_by, sequenced, with_stages}
use Rattle.ft_rebase.proofs.NamedLists.{AreStagesOf, listed-stages}
use Rattle.ft_named.specs.Nodes.{KeepsNodes}
use Rattle.ft_named.proofs.RebuiltSteps.{carried-alike, stamps_in}
use Rattle.ft_matrix.specs.Rebuilt.{RebuildsUnits}
use Rattle.ft_matrix.specs.Sound.{IsSoundVector, IsStaged, no_properties}
use Rattle.ft_matrix.specs.Units.{has_handle, units_of}
use Rattle.ft_matrix.proofs.CompactedGrids.{grid_content}
use Rattle.ft_matrix.proofs.SoundVectors.{all-put, all-weaker, no-references}
use Rattle.ft_matrix.proofs.UnitLists.{BesideUnits, HandleNamed, all-acked, unit-stamps}

-- ---- an element that goes through

carried-unit : (e : TreeElement ℕ) → (carried_element e).unit ≡ e.unit
carried-unit e = step (list_any is_acked e.stamps.dels)
  where
    step : (b : Bool) → (cond b (without_pending e) e).unit ≡ e.unit
    step true = refl
    step false = refl

carried-plain : (e : TreeElement ℕ) → e.overlay ≡ no_properties → (carried_element e).overlay ≡ no_properties
carried-plain e h = step (list_any is_acked e.stamps.dels)
  where
    step : (b : Bool) → (cond b (without_pending e) e).overlay ≡ no_properties
    step true = ap (λ o. record { acked = o.acked; pending = [] }) h
    step false = h

carried-staged : (e : TreeElement ℕ) → IsStaged e → IsStaged (carried_element e)
carried-staged e h = step (list_any is_acked e.stamps.dels)
  where
    step : (b : Bool) → IsStaged (cond b (without_pending e) e)
    step true = h
    step false = h

-- ---- what holds of each unit

module _ (P : TreeElement ℕ → Type 0) where
  all-filter : (test : TreeElement ℕ → Bool) (xs : List (TreeElement ℕ)) → AllByRecursion P xs → AllByRecursion P (filter test xs)
  all-filter test [] a = tt
  all-filter test (x ∷ xs) a = step (test x) (all-filter test xs a.1)
    where
      step : (b : Bool) → AllByRecursion P (filter test xs) → AllByRecursion P (cond b (x ∷ filter test xs) (filter test xs))
      step true r = (a.0, r)
      step false r = r

  all-retained : ((x : TreeElement ℕ) → P x → P (carried_element x)) → (xs : List (TreeElement ℕ)) → AllByRecursion P xs
      → AllByRecursion P (retain_map (sequenced stamps_in) carried_element xs)
  all-retained f [] a = tt
  all-retained f (x ∷ xs) a = step (is_acked x.stamps.ins) (all-retained f xs a.1)
    where
      step : (b : Bool) → AllByRecursion P (retain_map (sequenced stamps_in) carried_element xs)
          → AllByRecursion P (cond b (carried_element x ∷ retain_map (sequenced stamps_in) carried_element xs) (retain_map (sequenced stamps_in) carried_element xs))
      step true r = (f x a.0, r)
      step false r = r

  all-stages : (xs ys : List (TreeElement ℕ)) → AllByRecursion P xs → AllByRecursion P ys → (k : ℕ) → AllByRecursion P (with_stages stamps_in xs ys k)
  all-stages xs ys a b zero = b
  all-stages xs ys a b (suc k) = all-put P no_run (filter (inserted_by stamps_in (suc k)) xs)
      (all-filter (inserted_by stamps_in (suc k)) xs a) (seen_by stamps_in k) (next_position stamps_in k xs)
      (with_stages stamps_in xs ys k) (all-stages xs ys a b k)

  pub all-rebuilt : ((x : TreeElement ℕ) → P x → P (carried_element x)) → (last : ℕ) (xs : List (TreeElement ℕ)) → AllByRecursion P xs
      → AllByRecursion P (tree_rebuilt last xs)
  all-rebuilt f last xs a = all-stages xs (retain_map (sequenced stamps_in) carried_element xs) a (all-retained f xs a) last

-- ---- each handle stands once

-- whether the insertion is sequenced, or of a stage from 1 to k
abbrev has_arrived : ℕ → Stamp → Bool
has_arrived k (Acked s c) = true
has_arrived k (Local j) = nat_le 1 j && nat_le j k

more-is : (b : Bool) (n : ℕ) → one_more_if b n ≡ one_more_if b 0 + n
more-is true n = omega arith
more-is false n = omega arith

add-tests : {A : Type 0} (a b c : A → Bool) → ((x : A) → one_more_if (a x) 0 + one_more_if (b x) 0 ≡ one_more_if (c x) 0) → (xs : List A)
    → len a xs + len b xs ≡ len c xs
add-tests a b c f [] = omega arith
add-tests a b c f (x ∷ xs) =
    let h = f x in
    let p = more-is (a x) (len a xs) in
    let q = more-is (b x) (len b xs) in
    let r = more-is (c x) (len c xs) in
    let ih = add-tests a b c f xs in
    omega (arith, h, p, q, r, ih)

len-both : {A : Type 0} (is other : A → Bool) (xs : List A) → len (λ x. is x && other x) xs ≤ len is xs
len-both is other [] = omega arith
len-both is other (x ∷ xs) = step (is x) (other x) (len-both is other xs)
  where
    step : (b c : Bool) → len (λ x. is x && other x) xs ≤ len is xs → one_more_if (b && c) (len (λ x. is x && other x) xs) ≤ one_more_if b (len is xs)
    step true true l = omega (arith, l)
    step true false l = omega (arith, l)
    step false c l = l

stage-arrives : (k : ℕ) (t : Stamp) → one_more_if (is_of_stage (suc k) t) 0 + one_more_if (has_arrived k t) 0 ≡ one_more_if (has_arrived (suc k) t) 0
stage-arrives k (Acked s c) = omega arith
stage-arrives k (Local j) = step (nat_le 1 j) (nat_le j (suc k)) (nat_le j k) (nat_eq j (suc k)) refl refl refl refl
  where
    step : (a b c d : Bool) → nat_le 1 j ≡ a → nat_le j (suc k) ≡ b → nat_le j k ≡ c → nat_eq j (suc k) ≡ d
        → one_more_if d 0 + one_more_if (a && c) 0 ≡ one_more_if (a && b) 0
    step a b c d e f g h = grind (arith, nat_tests)

module _ (h : ℕ) where
  abbrev arrives : ℕ → TreeElement ℕ → Bool
  arrives k e = nat_eq e.unit h && has_arrived k e.stamps.ins

  filter-count : (k : ℕ) (xs : List (TreeElement ℕ)) → len (has_handle h) (filter (inserted_by stamps_in k) xs) ≡ len (λ e. nat_eq e.unit h && is_of_stage k e.stamps.ins) xs
  filter-count k [] = refl
  filter-count k (x ∷ xs) = step (is_of_stage k x.stamps.ins) (nat_eq x.unit h) (filter-count k xs)
    where
      step : (b c : Bool) → len (has_handle h) (filter (inserted_by stamps_in k) xs) ≡ len (λ e. nat_eq e.unit h && is_of_stage k e.stamps.ins) xs
          → len (has_handle h) (cond b (x ∷ filter (inserted_by stamps_in k) xs) (filter (inserted_by stamps_in k) xs))
          ≡ one_more_if (nat_eq x.unit h && b) (len (λ e. nat_eq e.unit h && is_of_stage k e.stamps.ins) xs)
      step true c r = ap (one_more_if (nat_eq x.unit h)) r ∙ ap (λ d. one_more_if d (len (λ e. nat_eq e.unit h && is_of_stage k e.stamps.ins) xs)) (sym (and-true (nat_eq x.unit h)))
        where
          and-true : (d : Bool) → d && true ≡ d
          and-true true = refl
          and-true false = refl
      step false c r = r ∙ ap (λ d. one_more_if d (len (λ e. nat_eq e.unit h && is_of_stage k e.stamps.ins) xs)) (sym (and-false (nat_eq x.unit h)))
        where
          and-false : (d : Bool) → d && false ≡ false
          and-false true = refl
          and-false false = refl

  retained-count : (xs : List (TreeElement ℕ)) → len (has_handle h) (retain_map (sequenced stamps_in) carried_element xs) ≡ len (arrives 0) xs
  retained-count [] = refl
  retained-count (x ∷ xs) = step x.stamps.ins (retained-count xs)
    where
      none : (j : ℕ) → nat_le 1 j && nat_le j 0 ≡ false
      none j = both (nat_le 1 j) (nat_le j 0) refl refl
        where
          both : (a b : Bool) → nat_le 1 j ≡ a → nat_le j 0 ≡ b → a && b ≡ false
          both a b e f = grind (arith, nat_tests)

      and-false : (d b : Bool) → b ≡ false → d && b ≡ false
      and-false true b e = e
      and-false false b e = refl

      and-true : (d : Bool) → d && true ≡ d
      and-true true = refl
      and-true false = refl

      step : (t : Stamp) → len (has_handle h) (retain_map (sequenced stamps_in) carried_element xs) ≡ len (arrives 0) xs
          → len (has_handle h) (cond (is_acked t) (carried_element x ∷ retain_map (sequenced stamps_in) carried_element xs) (retain_map (sequenced stamps_in) carried_element xs))
          ≡ one_more_if (nat_eq x.unit h && has_arrived 0 t) (len (arrives 0) xs)
      step (Acked s c) r = ap (λ u. one_more_if (nat_eq u h) (len (has_handle h) (retain_map (sequenced stamps_in) carried_element xs))) (carried-unit x)
          ∙ ap (one_more_if (nat_eq x.unit h)) r ∙ ap (λ d. one_more_if d (len (arrives 0) xs)) (sym (and-true (nat_eq x.unit h)))
      step (Local j) r = r ∙ ap (λ d. one_more_if d (len (arrives 0) xs)) (sym (and-false (nat_eq x.unit h) (nat_le 1 j && nat_le j 0) (none j)))

  one-stage : (k : ℕ) (e : TreeElement ℕ) → one_more_if (nat_eq e.unit h && is_of_stage (suc k) e.stamps.ins) 0 + one_more_if (arrives k e) 0 ≡ one_more_if (arrives (suc k) e) 0
  one-stage k e = step (nat_eq e.unit h)
    where
      step : (b : Bool) → one_more_if (b && is_of_stage (suc k) e.stamps.ins) 0 + one_more_if (b && has_arrived k e.stamps.ins) 0
          ≡ one_more_if (b && has_arrived (suc k) e.stamps.ins) 0
      step true = stage-arrives k e.stamps.ins
      step false = omega arith

  stages-count : (xs : List (TreeElement ℕ)) (k : ℕ) → len (has_handle h) (with_stages stamps_in xs (retain_map (sequenced stamps_in) carried_element xs) k) ≡ len (arrives k) xs
  stages-count xs zero = retained-count xs
  stages-count xs (suc k) =
      len-put-add (has_handle h) (seen_by stamps_in k) no_run (next_position stamps_in k xs) (filter (inserted_by stamps_in (suc k)) xs)
      (with_stages stamps_in xs (retain_map (sequenced stamps_in) carried_element xs) k)
      ∙ ap (λ n. n + len (has_handle h) (with_stages stamps_in xs (retain_map (sequenced stamps_in) carried_element xs) k)) (filter-count (suc k) xs)
      ∙ ap (λ n. len (λ e. nat_eq e.unit h && is_of_stage (suc k) e.stamps.ins) xs + n) (stages-count xs k)
      ∙ add-tests (λ e. nat_eq e.unit h && is_of_stage (suc k) e.stamps.ins) (arrives k) (arrives (suc k)) (one-stage k) xs

  pub rebuilt-once : (last : ℕ) (xs : List (TreeElement ℕ)) → len (has_handle h) xs ≤ 1 → len (has_handle h) (tree_rebuilt last xs) ≤ 1
  rebuilt-once last xs l =
      let e = stages-count xs last in
      let m = len-both (has_handle h) (λ x. has_arrived last x.stamps.ins) xs in
      omega (arith, e, m, l)

-- ---- a stage above all

some-last : (xs : List (TreeElement ℕ)) → (last : ℕ) × ((k : ℕ) → last < k → list_any (inserted_by stamps_in k) xs ≡ false)
some-last [] = (0, λ k l. refl)
some-last (x ∷ xs) = step x.stamps.ins (some-last xs)
  where
    apart : (j k : ℕ) → j < k → nat_eq j k ≡ false
    apart j k l = grind (arith, nat_tests)

    step : (t : Stamp) → ((last : ℕ) × ((k : ℕ) → last < k → list_any (inserted_by stamps_in k) xs ≡ false))
        → (last : ℕ) × ((k : ℕ) → last < k → is_of_stage k t || list_any (inserted_by stamps_in k) xs ≡ false)
    step (Acked s c) r = r
    step (Local j) r = (j + r.0, λ k l. ap (λ b. b || list_any (inserted_by stamps_in k) xs) (apart j k (omega (arith, l))) ∙ r.1 k (omega (arith, l)))

pub none-first : (xs : List (TreeElement ℕ)) → AllByRecursion IsStaged xs → list_any (inserted_by stamps_in 0) xs ≡ false
none-first [] a = refl
none-first (x ∷ xs) a = ap (λ b. b || list_any (inserted_by stamps_in 0) xs) a.0 ∙ none-first xs a.1

pub stages-up-to : (v : VectorState) → IsSoundVector v → (last : ℕ) × StagesUpTo stamps_in last (units_of v)
stages-up-to v s = ((some-last (units_of v)).0, record { first = none-first (units_of v) (recursion_from_All IsStaged (units_of v) s.staged); above = (some-last (units_of v)).1 })

-- ---- the vector

module _ (old new : VectorState) (f : ℕ → Reference → Reference) (s : IsSoundVector old) (same : new ≡ record old { tree = new.tree })
    (elements : (last : ℕ) → StagesUpTo stamps_in last (units_of old) → units_of new ≡ tree_rebuilt last (units_of old)) (usable : new.tree.usable ≡ true)
    (refs : (last : ℕ) → StagesUpTo stamps_in last (units_of old) → ChangesReferences (f last) old.tree.refs new.tree.refs) (made : new.tree.made ≡ old.tree.made) where
  abbrev last : ℕ
  last = (stages-up-to old s).0

  is : units_of new ≡ tree_rebuilt last (units_of old)
  is = elements last (stages-up-to old s).1

  all-new : (P : TreeElement ℕ → Type 0) → ((x : TreeElement ℕ) → P x → P (carried_element x)) → AllByRecursion P (units_of old) → All P (units_of new)
  all-new P g a = All-from_recursion P (units_of new) (subst (AllByRecursion P) (sym is) (all-rebuilt P g last (units_of old) a))

  pub vector-rebuilt : IsSoundVector new
  vector-rebuilt = record {
    usable = usable;
    refs = no-references (f last) old.tree.refs new.tree.refs s.refs (refs last (stages-up-to old s).1);
    proper = record {
      used = all-new (λ e. in_use new e.unit ≡ true) (λ e g. ap (in_use new) (carried-unit e) ∙ g)
          (all-weaker (λ (e : TreeElement ℕ). in_use old e.unit ≡ true) (λ (e : TreeElement ℕ). in_use new e.unit ≡ true) (λ e g. ap (λ v. in_use v e.unit) same ∙ g) (units_of old)
          (recursion_from_All (λ (e : TreeElement ℕ). in_use old e.unit ≡ true) (units_of old) s.proper.used));
      once = λ h. subst (λ es. len (has_handle h) es ≤ 1) (sym is) (rebuilt-once h last (units_of old) (s.proper.once h));
    };
    fresh = fresh (ap (λ (v : VectorState). v.next) same);
    plain = all-new (λ e. e.overlay ≡ no_properties) carried-plain (recursion_from_All (λ (e : TreeElement ℕ). e.overlay ≡ no_properties) (units_of old) s.plain);
    staged = all-new IsStaged carried-staged (recursion_from_All IsStaged (units_of old) s.staged);
  }
    where
      fresh : new.next ≡ old.next → new.next ≤ new.tree.made
      fresh e = let g = s.fresh in omega (arith, e, g, made)

pub rebuilt-ok : {A E : Type 0} (r : Result A E) (old new : VectorState) (f : ℕ → Reference → Reference) → IsSoundVector old
    → new ≡ record old { tree = new.tree }
    → ((last : ℕ) → StagesUpTo stamps_in last (units_of old) → OnOk r (units_of new ≡ tree_rebuilt last (units_of old))) → OnOk r (new.tree.usable ≡ true)
    → ((last : ℕ) → StagesUpTo stamps_in last (units_of old) → OnOk r (ChangesReferences (f last) old.tree.refs new.tree.refs))
    → OnOk r (new.tree.made ≡ old.tree.made)
    → OnOk r (IsSoundVector new)
rebuilt-ok (Ok x) old new f s same e u c m = vector-rebuilt old new f s same e u c m
rebuilt-ok (Err x) old new f s same e u c m = tt

pub rebuilds-ok : {A E : Type 0} (r : Result A E) (old new : VectorState) → new ≡ record old { tree = new.tree }
    → ((last : ℕ) → StagesUpTo stamps_in last (units_of old) → OnOk r (units_of new ≡ tree_rebuilt last (units_of old))) → OnOk r (KeepsRest old.tree new.tree)
    → OnOk r (KeepsNodes old.tree.leaves new.tree.leaves) → OnOk r (RebuildsUnits old new)
rebuilds-ok (Ok x) old new same e k n = record { units = e; used = λ h. ap (λ v. in_use v h) same; floor = k.floor; nodes = n }
rebuilds-ok (Err x) old new same e k n = tt

-- ---- beside the document's list

document-id : (x : ListElement) → id (document_carried x) ≡ id x
document-id x = step (list_any is_acked x.dels)
  where
    step : (b : Bool) → id (cond b (record x { removal_stage = None; pending = [] }) x) ≡ id x
    step true = refl
    step false = refl

module _ (P : ElementId → ℕ → Type 0) where
  carried-named : (x : ListElement) (e : TreeElement ℕ) → HandleNamed P x e → HandleNamed P (document_carried x) (carried_element e)
  carried-named x e q = (
    record { same = sym (carried-alike grid_content e x (sym q.0.same) (all-acked x q.0.even)); even = even (list_any is_acked x.dels) },
    subst (λ a. P a (carried_element e).unit) (sym (document-id x)) (subst (P (id x)) (sym (carried-unit e)) q.1),
  )
    where
      even : (b : Bool) → not (list_all is_acked (cond b (record x { removal_stage = None; pending = [] }) x).dels) ≡ false
      even true = q.0.even
      even false = q.0.even

  retained-units : {es : List ListElement} {us : List (TreeElement ℕ)} → BesideUnits (HandleNamed P) es us
      → BesideUnits (HandleNamed P) (retain_map is_sequenced document_carried es) (retain_map (sequenced stamps_in) carried_element us)
  retained-units ends = ends
  retained-units (next {x = x} {y = e} q qs) =
      beside-choice (is_sequenced x) (sequenced stamps_in e) (ap (λ (s : ElementStamps). is_acked s.ins) (unit-stamps x e q.0))
      (next (carried-named x e q) (retained-units qs)) (retained-units qs)

  module _ {es : List ListElement} {us : List (TreeElement ℕ)} (b : BesideUnits (HandleNamed P) es us) where
    is-same : (k : ℕ) (x : ListElement) (e : TreeElement ℕ) → HandleNamed P x e → is_inserted_by k x ≡ inserted_by stamps_in k e
    is-same k x e q = ap (λ (s : ElementStamps). is_of_stage k s.ins) (unit-stamps x e q.0)

    seen-same : (k : ℕ) (x : ListElement) (e : TreeElement ℕ) → HandleNamed P x e → seen k x ≡ seen_by stamps_in k e
    seen-same k x e q = ap (λ s. seen_at s k) (unit-stamps x e q.0)

    stages-units : {fs : List ListElement} {vs : List (TreeElement ℕ)} → BesideUnits (HandleNamed P) fs vs → (k : ℕ)
        → BesideUnits (HandleNamed P) (with_stages stamps_of es fs k) (with_stages stamps_in us vs k)
    stages-units c zero = c
    stages-units {fs} {vs} c (suc k) =
        subst (λ p. BesideUnits (HandleNamed P) (with_stages stamps_of es fs (suc k)) (put (seen_by stamps_in k) no_run p (filter (inserted_by stamps_in (suc k)) us) (with_stages stamps_in us vs k)))
        (beside-rank (is_inserted_by (suc k)) (inserted_by stamps_in (suc k)) (is-same (suc k)) (seen k) (seen_by stamps_in k) (seen-same k) b)
        (beside-put (seen k) (seen_by stamps_in k) (seen-same k) no_run no_run (λ x e q. refl)
        (beside-filter (is_inserted_by (suc k)) (inserted_by stamps_in (suc k)) (is-same (suc k)) b) (next_position stamps_of k es) (stages-units c k))

  pub rebuilt-units : (last : ℕ) (ms : List ℕ) (list : Sequence) → AreStagesOf 0 last list.items ms → {us : List (TreeElement ℕ)}
      → BesideUnits (HandleNamed P) list.items us
      → BesideUnits (HandleNamed P) (rebuilt_list ms list).items (tree_rebuilt last us)
  rebuilt-units last ms list of {us} b = subst (λ ys. BesideUnits (HandleNamed P) ys (tree_rebuilt last us))
      (sym (listed-stages list.items (retain_map is_sequenced document_carried list.items) 0 last ms (omega arith) of)) (stages-units b (retained-units b) last)
