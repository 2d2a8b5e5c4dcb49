-- A named list beside the units of a vector: they differ in names and handles alone, and go through the same steps.
use Rattle.std.proofs.Common.{◌≡◌, ℕ, zero, suc, ◌+◌, ◌≤◌, ◌<◌, Bool, true, false, cond, not, ◌&&◌, List, [], ◌∷◌, ◌++◌, Option, Some, None, refl, sym, ◌∙◌, ap, subst, map, replicate, arith, append-nil}
use Rattle.std.specs.List.{list_all}
use Rattle.ft_base.specs.declared.stamps.Stamp.{Stamp}
use Rattle.ft_base.specs.declared.stamps.Stamp.TheVariants.{Acked, Local}
use Rattle.ft_base.specs.declared.elements.Element.{Element as ElementStamps}
use Rattle.ft_base.specs.declared.elements.Perspective.{Perspective}
use Rattle.ft_base.specs.Scan.{change_range_from, len, one_more_if, put_past, within}
use Rattle.ft_base.specs.Visibility.{is_acked, is_of_stage, seen_at, sees}
use Rattle.ft_block.specs.declared.leaves.LenView.TheVariants.{At, Stage}
use Rattle.ft_props.specs.Element.{ElementId, GridUnit, ListElement, NamelessElement, id, id_of_stamp, is_pending, nameless, new_elements, removal_stamp, seen, seen_by, stamps_of, with_pending_removal, with_removal}
use Rattle.ft_props.specs.Steps.{is_inserted_by}
use Rattle.ft_tree_leaves.specs.Elements as tree
use Rattle.ft_tree_leaves.specs.Elements.{TreeElement, removed_stamps, seen_in, with_stamps}
use Rattle.ft_perm.specs.Handles.{numbers_from}
use Rattle.ft_laws_names.specs.WellNamed.{has_odd_removal}
use Rattle.ft_laws_names.proofs.Beside.{Beside, ends, next, same-map}
use Rattle.ft_laws_names.proofs.Twins.{none-more}
use Rattle.ft_laws_names.proofs.ForeignAlike.{all-behind}
use Rattle.ft_matrix.specs.Units.{shown_unit}

-- the element without its name is the unit without its handle, and what counts as its sequenced removals are such
pub record IsUnit (x : ListElement) (e : TreeElement ℕ) : Type 0 where
  pub same : nameless x ≡ shown_unit e
  pub even : has_odd_removal x ≡ false

abbrev pub BesideUnits : (ListElement → TreeElement ℕ → Type 0) → List ListElement → List (TreeElement ℕ) → Type 0
BesideUnits Q xs es = Beside ListElement (TreeElement ℕ) Q xs es

-- and the relation holds of name and handle
abbrev pub HandleNamed : (ElementId → ℕ → Type 0) → ListElement → TreeElement ℕ → Type 0
HandleNamed P x e = IsUnit x e × P (id x) e.unit

-- ---- equal lists

pub units-beside : (xs : List ListElement) (es : List (TreeElement ℕ)) → len has_odd_removal xs ≡ 0 → map nameless xs ≡ map shown_unit es
    → BesideUnits IsUnit xs es
units-beside [] [] a h = ends
units-beside [] (e ∷ es) a h = (cc)
units-beside (x ∷ xs) [] a h = (cc)
units-beside (x ∷ xs) (e ∷ es) a h =
    let p = none-more (has_odd_removal x) (len has_odd_removal xs) a in
    let first : nameless x ≡ shown_unit e = (cc) in
    let rest : map nameless xs ≡ map shown_unit es = (cc) in
    next (record { same = first; even = p.0 }) (units-beside xs es p.1 rest)

pub beside-units : {xs : List ListElement} {es : List (TreeElement ℕ)} → BesideUnits IsUnit xs es → map nameless xs ≡ map shown_unit es
beside-units h = same-map nameless shown_unit (λ x e u. u.same) h

-- ---- tests

module _ (x : ListElement) (e : TreeElement ℕ) (u : IsUnit x e) where
  pub unit-stamps : stamps_of x ≡ e.stamps
  unit-stamps = ap (λ (n : NamelessElement). n.stamps) u.same

  pub unit-seen_by : (at : Perspective) → seen_by at.r at.c x ≡ seen_in (At at) e
  unit-seen_by at = ap (λ s. sees s at.r at.c) unit-stamps

  pub unit-seen : (k : ℕ) → seen k x ≡ seen_in (Stage k) e
  unit-seen k = ap (λ s. seen_at s k) unit-stamps

  pub unit-pending : is_pending x ≡ tree.is_pending e
  unit-pending = ap (λ (s : ElementStamps). not (is_acked s.ins)) unit-stamps

  pub unit-inserted : (k : ℕ) → is_inserted_by k x ≡ is_of_stage k e.stamps.ins
  unit-inserted k = ap (λ (s : ElementStamps). is_of_stage k s.ins) unit-stamps

-- ---- a change of stamps

pub shown-stamps : (f : ElementStamps → ElementStamps) (x y : ListElement) (e : TreeElement ℕ) → nameless y ≡ record (nameless x) { stamps = f (stamps_of x) }
    → IsUnit x e → nameless y ≡ shown_unit (with_stamps f e)
shown-stamps f x y e h u = h ∙ ap (λ (n : NamelessElement). record n { stamps = f n.stamps }) u.same

pub all-acked : (x : ListElement) → has_odd_removal x ≡ false → list_all is_acked x.dels ≡ true
all-acked x h = shown (list_all is_acked x.dels) h
  where
    shown : (b : Bool) → not b ≡ false → b ≡ true
    shown true g = refl
    shown false g = (cc)

past-acked : (ds : List Stamp) (t : Stamp) (o : Option ℕ) → list_all is_acked ds ≡ true
    → put_past is_acked (t ∷ []) (ds ++ removal_stamp o) ≡ (ds ++ (t ∷ [])) ++ removal_stamp o
past-acked [] t None h = refl
past-acked [] t (Some k) h = refl
past-acked (Acked s c ∷ ds) t o h = ap (λ es. Acked s c ∷ es) (past-acked ds t o h)
past-acked (Local k ∷ ds) t o h = (cc)

-- a sequenced removal
pub removed-unit : (s c : ℕ) (x : ListElement) (e : TreeElement ℕ) → IsUnit x e → IsUnit (with_removal s c x) (with_stamps (removed_stamps (Acked s c)) e)
removed-unit s c x e u = record {
  same = shown-stamps (removed_stamps (Acked s c)) x (with_removal s c x) e
      (ap (λ ds. record (nameless x) { stamps = record { ins = x.ins; dels = ds } })
      (sym (past-acked x.dels (Acked s c) x.removal_stage (all-acked x u.even)))) u;
  even = ap not (all-behind x.dels (Acked s c ∷ []) refl) ∙ u.even;
}

-- a removal of a pending stage, where none was pending
pub marked-unit : (k : ℕ) (x : ListElement) (e : TreeElement ℕ) → x.removal_stage ≡ None → IsUnit x e
    → IsUnit (with_pending_removal k x) (with_stamps (removed_stamps (Local k)) e)
marked-unit k x e none u = record {
  same = shown-stamps (removed_stamps (Local k)) x (with_pending_removal k x) e
      (ap (λ ds. record (nameless x) { stamps = record { ins = x.ins; dels = ds } }) stamps) u;
  even = u.even;
}
  where
    stamps : x.dels ++ (Local k ∷ []) ≡ put_past is_acked (Local k ∷ []) (x.dels ++ removal_stamp x.removal_stage)
    stamps = sym (append-nil (x.dels ++ (Local k ∷ []))) ∙ sym (past-acked x.dels (Local k) None (all-acked x u.even))
        ∙ ap (λ o. put_past is_acked (Local k ∷ []) (x.dels ++ removal_stamp o)) (sym none)

-- ---- new units

within-run : (first count : ℕ) → first < first + suc count
within-run first count = omega arith

pub new-units : (P : ElementId → ℕ → Type 0) (ins : Stamp) (n first count : ℕ)
    → ((i h : ℕ) → n ≤ i → first ≤ h → h < first + count → P (id_of_stamp ins i) h)
    → BesideUnits (HandleNamed P) (new_elements n ins [] None [] (replicate count GridUnit)) (tree.new_elements ins None [] (numbers_from first count))
new-units P ins n first zero f = ends
new-units P ins n first (suc count) f =
    next (record { same = refl; even = refl }, f n first (omega arith) (omega arith) (within-run first count))
    (new-units P ins (n + 1) (first + 1) count (λ i h a b c. f i h (omega arith) (omega arith) (omega arith)))

-- ---- a range in which only seen elements are changed

module _ {A B : Type 0} {Q : A → B → Type 0} (sees : A → Bool) (sees' : B → Bool) (agree : (x : A) (y : B) → Q x y → sees x ≡ sees' y)
    (f : A → A) (g : B → B) (changed : (x : A) (y : B) → Q x y → sees x ≡ true → Q (f x) (g y)) where
  choice : (x : A) (y : B) (b c d : Bool) → sees x ≡ b → b ≡ c → Q x y → Q (cond (b && d) (f x) x) (cond (c && d) (g y) y)
  choice x y true true true e h q = changed x y q e
  choice x y true true false e h q = q
  choice x y false false d e h q = q
  choice x y true false d e h q = (cc)
  choice x y false true d e h q = (cc)

  pub range-seen : (i p q : ℕ) {xs : List A} {ys : List B} → Beside A B Q xs ys
      → Beside A B Q (change_range_from i sees p q f xs) (change_range_from i sees' p q g ys)
  range-seen i p q ends = ends
  range-seen i p q (next {x = x} {y = y} {xs = xs} {ys = ys} r rs) =
      next (choice x y (sees x) (sees' y) (within p q i) refl (agree x y r) r)
      (subst (λ b. Beside A B Q (change_range_from (one_more_if (sees x) i) sees p q f xs) (change_range_from (one_more_if b i) sees' p q g ys))
      (agree x y r) (range-seen (one_more_if (sees x) i) p q rs))
