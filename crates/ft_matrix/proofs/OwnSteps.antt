-- A named list beside the units of a vector through a client's own splices, at the stage above all that is pending.
use Rattle.std.proofs.Common.{◌≡◌, ℕ, zero, suc, ◌≤◌, ◌<◌, Bool, true, false, cond, not, ◌&&◌, ◌||◌, nat_le, nat_lt, List, [], ◌∷◌, ◌++◌, Option, Some, None, refl, sym, ◌∙◌, ap, subst, map, replicate, arith}
use Rattle.std.specs.List.{AllByRecursion, list_all, list_any}
use Rattle.std.proofs.lemmas.Bool.Decides.{nat_tests}
use Rattle.ft_base.specs.declared.stamps.Stamp.{Stamp}
use Rattle.ft_base.specs.declared.stamps.Stamp.TheVariants.{Acked, Local}
use Rattle.ft_base.specs.declared.elements.Element.{Element as ElementStamps}
use Rattle.ft_base.specs.Scan.{change_range_from, len, no_run, one_more_if, put, within}
use Rattle.ft_base.specs.Visibility.{has_occurred_at_stage}
use Rattle.ft_base.proofs.Booleans.{both}
use Rattle.ft_block.specs.declared.leaves.LenView.TheVariants.{Stage}
use Rattle.ft_block.specs.Leaves.{last_stage}
use Rattle.ft_props.specs.Element.{ElementId, GridUnit, ListElement, PendingId, new_elements, removal_stamp, seen, with_pending_removal}
use Rattle.ft_props.specs.Steps.{Sequence}
use Rattle.ft_tree_leaves.specs.Elements as tree
use Rattle.ft_tree_leaves.specs.Elements.{TreeElement, removed_stamps, seen_in, with_stamps}
use Rattle.ft_perm.specs.Handles.{handles_of, numbers_from}
use Rattle.ft_perm.specs.Vectors.{VectorState, in_use}
use Rattle.ft_laws_agreement.proofs.SlidEnds.{true-false}
use Rattle.ft_laws_names.specs.WellNamed.{IsUnused}
use Rattle.ft_laws_names.proofs.Beside.{Beside, beside-len, beside-put, ends, next}
use Rattle.ft_laws_names.specs.GridFacts.{is_stamp_below, is_unit_below}
use Rattle.ft_matrix.specs.Splices.{MarksUnits, PutsUnits}
use Rattle.ft_matrix.specs.Units.{shown_unit, units_of}
use Rattle.ft_matrix.proofs.Effects.{within-run}
use Rattle.ft_matrix.proofs.HeldGrids.{UnitStep}
use Rattle.ft_matrix.proofs.UnitLists.{BesideUnits, HandleNamed, IsUnit, marked-unit, new-units, unit-seen, unit-stamps}

-- the greatest number of a stage, at which the local view is
abbrev pub top : ℕ
top = 18446744073709551615

-- ---- the local view is that of the stage before, where nothing of a later stage is pending

stamp-same : (k m : ℕ) (t : Stamp) → is_stamp_below (suc k) t ≡ true → k ≤ m → has_occurred_at_stage m t ≡ has_occurred_at_stage k t
stamp-same k m (Acked s c) b l = refl
stamp-same k m (Local j) b l = grind (arith, nat_tests)

any-same : (k m : ℕ) (ts : List Stamp) → list_all (is_stamp_below (suc k)) ts ≡ true → k ≤ m
    → list_any (has_occurred_at_stage m) ts ≡ list_any (has_occurred_at_stage k) ts
any-same k m [] a l = refl
any-same k m (t ∷ ts) a l =
    let p = both (is_stamp_below (suc k) t) (list_all (is_stamp_below (suc k)) ts) a in
    ap (λ b. b || list_any (has_occurred_at_stage m) ts) (stamp-same k m t p.0 l) ∙ ap (λ b. has_occurred_at_stage k t || b) (any-same k m ts p.1 l)

pub seen-same : (k m : ℕ) (e : TreeElement ℕ) → is_unit_below (suc k) (shown_unit e) ≡ true → k ≤ m → seen_in (Stage m) e ≡ seen_in (Stage k) e
seen-same k m e b l =
    let p = both (is_stamp_below (suc k) e.stamps.ins) (list_all (is_stamp_below (suc k)) e.stamps.dels) b in
    ap (λ i. i && not (list_any (has_occurred_at_stage m) e.stamps.dels)) (stamp-same k m e.stamps.ins p.0 l)
    ∙ ap (λ i. has_occurred_at_stage k e.stamps.ins && not i) (any-same k m e.stamps.dels p.1 l)

-- the stamps of each unit are below the stage
abbrev pub AreBelow : ℕ → List (TreeElement ℕ) → Type 0
AreBelow k es = AllByRecursion (λ e. is_unit_below k (shown_unit e) ≡ true) es

pub below-of : (k : ℕ) (es : List (TreeElement ℕ)) → AllByRecursion (λ e. is_unit_below k e ≡ true) (map shown_unit es) → AreBelow k es
below-of k [] a = tt
below-of k (e ∷ es) a = (a.0, below-of k es a.1)

-- ---- scans by tests that agree on each element

module _ {A : Type 0} (s t : A → Bool) where
  abbrev Agree : List A → Type 0
  Agree xs = AllByRecursion (λ x. s x ≡ t x) xs

  pub put-tests : (past : A → Bool) (p : ℕ) (new xs : List A) → Agree xs → put s past p new xs ≡ put t past p new xs
  put-tests past zero new xs a = refl
  put-tests past (suc p) new [] a = refl
  put-tests past (suc p) new (x ∷ xs) a =
      ap (λ b. x ∷ put s past (cond b p (suc p)) new xs) a.0 ∙ ap (λ ys. x ∷ ys) (put-tests past (cond (t x) p (suc p)) new xs a.1)

  pub range-tests : (f : A → A) (i p q : ℕ) (xs : List A) → Agree xs → change_range_from i s p q f xs ≡ change_range_from i t p q f xs
  range-tests f i p q [] a = refl
  range-tests f i p q (x ∷ xs) a =
      ap (λ b. cond (b && within p q i) (f x) x ∷ change_range_from (one_more_if b i) s p q f xs) a.0
      ∙ ap (λ ys. cond (t x && within p q i) (f x) x ∷ ys) (range-tests f (one_more_if (t x) i) p q xs a.1)

  pub len-tests : (xs : List A) → Agree xs → len s xs ≡ len t xs
  len-tests [] a = refl
  len-tests (x ∷ xs) a = ap (λ b. one_more_if b (len s xs)) a.0 ∙ ap (one_more_if (t x)) (len-tests xs a.1)

-- the local view agrees with the view of the stage before
pub views-agree : (k : ℕ) → k ≤ 18446744073709551615 → (es : List (TreeElement ℕ)) → AreBelow (suc k) es
    → AllByRecursion (λ e. seen_in last_stage e ≡ seen_in (Stage k) e) es
views-agree k l [] a = tt
views-agree k l (e ∷ es) a = (seen-same k 18446744073709551615 e a.0 l, views-agree k l es a.1)

-- ---- a change of seen elements alone

module _ {A B : Type 0} {Q R : A → B → Type 0} (sees : A → Bool) (sees' : B → Bool) (agree : (x : A) (y : B) → Q x y → sees x ≡ sees' y)
    (f : A → A) (g : B → B) (same : (x : A) (y : B) → Q x y → R x y) (changed : (x : A) (y : B) → Q x y → sees x ≡ true → R (f x) (g y)) where
  choice : (x : A) (y : B) (b c d : Bool) → sees x ≡ b → b ≡ c → Q x y → R (cond (b && d) (f x) x) (cond (c && d) (g y) y)
  choice x y true true true e h q = changed x y q e
  choice x y true true false e h q = same x y q
  choice x y false false d e h q = same x y q
  choice x y true false d e h q = (cc)
  choice x y false true d e h q = (cc)

  pub range-two : (i p q : ℕ) {xs : List A} {ys : List B} → Beside A B Q xs ys
      → Beside A B R (change_range_from i sees p q f xs) (change_range_from i sees' p q g ys)
  range-two i p q ends = ends
  range-two i p q (next {x = x} {y = y} {xs = xs} {ys = ys} r rs) =
      next (choice x y (sees x) (sees' y) (within p q i) refl (agree x y r) r)
      (subst (λ b. Beside A B R (change_range_from (one_more_if (sees x) i) sees p q f xs) (change_range_from (one_more_if b i) sees' p q g ys))
      (agree x y r) (range-two (one_more_if (sees x) i) p q rs))

pub beside-all : {Q : ListElement → TreeElement ℕ → Type 0} (R : TreeElement ℕ → Type 0) {xs : List ListElement}
    {es : List (TreeElement ℕ)} → BesideUnits Q xs es
    → AllByRecursion R es → BesideUnits (λ x e. Q x e × R e) xs es
beside-all R ends a = ends
beside-all R (next q qs) a = next (q, a.0) (beside-all R qs a.1)

-- what is seen at the stage before carries no pending removal
pub all-first : (test : Stamp → Bool) (ts us : List Stamp) → list_all test (ts ++ us) ≡ true → list_all test us ≡ true
all-first test [] us a = a
all-first test (t ∷ ts) us a = all-first test ts us (both (test t) (list_all test (ts ++ us)) a).1

pub any-last : (test : Stamp → Bool) (ts us : List Stamp) → list_any test us ≡ true → list_any test (ts ++ us) ≡ true
any-last test [] us a = a
any-last test (t ∷ ts) us a = later (test t) (any-last test ts us a)
  where
    later : (b : Bool) → list_any test (ts ++ us) ≡ true → b || list_any test (ts ++ us) ≡ true
    later true h = refl
    later false h = h

pub none-pending : (k : ℕ) (x : ListElement) (e : TreeElement ℕ) → IsUnit x e → is_unit_below (suc k) (shown_unit e) ≡ true
    → seen k x ≡ true → x.removal_stage ≡ None
none-pending k x e u b s = step x.removal_stage refl
  where
    below : list_all (is_stamp_below (suc k)) (x.dels ++ removal_stamp x.removal_stage) ≡ true
    below = ap (λ (t : ElementStamps). list_all (is_stamp_below (suc k)) t.dels) (unit-stamps x e u)
        ∙ (both (is_stamp_below (suc k) e.stamps.ins) (list_all (is_stamp_below (suc k)) e.stamps.dels) b).1

    unseen : (a c : Bool) → a && not c ≡ true → c ≡ false
    unseen true false h = refl
    unseen true true h = (cc)
    unseen false c h = (cc)

    earlier : (j : ℕ) → list_all (is_stamp_below (suc k)) (Local j ∷ []) ≡ true → list_any (has_occurred_at_stage k) (Local j ∷ []) ≡ true
    earlier j h = occurs (nat_lt j (suc k)) (nat_le j k) h (same j)
      where
        same : (j : ℕ) → nat_lt j (suc k) ≡ true → nat_le j k ≡ true
        same j g = grind (arith, nat_tests)

        occurs : (a c : Bool) → a && true ≡ true → (a ≡ true → c ≡ true) → c || false ≡ true
        occurs true true h f = refl
        occurs true false h f = let g = f refl in (cc)
        occurs false c h f = (cc)

    step : (o : Option ℕ) → x.removal_stage ≡ o → o ≡ None
    step None e = refl
    step (Some j) e =
        let here = earlier j (all-first (is_stamp_below (suc k)) x.dels (Local j ∷ []) (ap (λ r. list_all (is_stamp_below (suc k)) (x.dels ++ removal_stamp r)) (sym e) ∙ below)) in
        let hidden = unseen (has_occurred_at_stage k x.ins) (list_any (has_occurred_at_stage k) (x.dels ++ removal_stamp x.removal_stage)) s in
        absurd (true-false (sym (any-last (has_occurred_at_stage k) x.dels (Local j ∷ []) here) ∙ ap (λ r. list_any (has_occurred_at_stage k) (x.dels ++ removal_stamp r)) (sym e) ∙ hidden))

-- ---- steps

module _ (last : ℕ) (few : last ≤ 18446744073709551615) (old new : VectorState) (list : Sequence) (below : AreBelow (suc last) (units_of old)) where
  agree : AllByRecursion (λ (e : TreeElement ℕ). seen_in last_stage e ≡ seen_in (Stage last) e) (units_of old)
  agree = views-agree last few (units_of old) below

  pub own-count : BesideUnits IsUnit list.items (units_of old) → len (seen last) list.items ≡ len (seen_in last_stage) (units_of old)
  own-count h = beside-len (seen last) (seen_in (Stage last)) (λ x e u. unit-seen x e u last) h ∙ sym (len-tests (seen_in last_stage) (seen_in (Stage last)) (units_of old) agree)

  pub own-insert-step : (p count : ℕ) → PutsUnits last_stage no_run (Local (suc last)) p count old new
      → UnitStep last list.made old list.items (put (seen last) no_run p (new_elements 0 (Local (suc last)) [] None [] (replicate count GridUnit)) list.items) (units_of old) (units_of new)
  own-insert-step p count puts = record {
    carries = λ P f h. subst (λ gs. BesideUnits (HandleNamed P) (put (seen last) no_run p (new_elements 0 (Local (suc last)) [] None [] (replicate count GridUnit)) list.items) gs)
        (sym (puts.units ∙ put-tests (seen_in last_stage) (seen_in (Stage last)) no_run p (tree.new_elements (Local (suc last)) None [] (handles_of puts.run)) (units_of old) agree))
        (beside-put (seen last) (seen_in (Stage last)) (λ x e q. unit-seen x e q.0 last) no_run no_run (λ x e q. refl) (news P f) p h);
  }
    where
      later : last < suc last
      later = omega arith

      news : (P : ElementId → ℕ → Type 0) → ((a : ElementId) (h : ℕ) → IsUnused list.made last a → in_use old h ≡ false → P a h)
          → BesideUnits (HandleNamed P) (new_elements 0 (Local (suc last)) [] None [] (replicate count GridUnit))
          (tree.new_elements (Local (suc last)) None [] (handles_of puts.run))
      news P f = subst (λ n. BesideUnits (HandleNamed P) (new_elements 0 (Local (suc last)) [] None [] (replicate count GridUnit))
          (tree.new_elements (Local (suc last)) None [] (numbers_from puts.run.first n))) (sym puts.count_is)
          (new-units P (Local (suc last)) 0 puts.run.first count
          (λ i h a b l. f (PendingId (suc last) i) h later (puts.unused h (within-run h puts.run.first puts.run.count count puts.count_is b l))))

  pub own-remove-step : (p q : ℕ) → MarksUnits last_stage (Local (suc last)) p q old new
      → UnitStep last list.made old list.items (change_range_from 0 (seen last) p q (with_pending_removal (suc last)) list.items) (units_of old) (units_of new)
  own-remove-step p q marks = record {
    carries = λ P f h. subst (λ gs. BesideUnits (HandleNamed P) (change_range_from 0 (seen last) p q (with_pending_removal (suc last)) list.items) gs)
        (sym (marks.units ∙ range-tests (seen_in last_stage) (seen_in (Stage last)) (with_stamps (removed_stamps (Local (suc last)))) 0 p q (units_of old) agree))
        (range-two (seen last) (seen_in (Stage last)) (λ x e u. unit-seen x e u.0.0 last) (with_pending_removal (suc last)) (with_stamps (removed_stamps (Local (suc last))))
        (λ x e u. u.0) (λ x e u g. (marked-unit (suc last) x e (none-pending last x e u.0.0 u.1 g) u.0.0, u.0.1)) 0 p q
        (beside-all (λ (e : TreeElement ℕ). is_unit_below (suc last) (shown_unit e) ≡ true) h below));
  }
