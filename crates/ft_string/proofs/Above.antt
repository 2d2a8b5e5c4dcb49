-- The pending changes of a tree's elements are below a stage, before and after the client's own operations.
use Rattle.std.proofs.Common.{◌≡◌, ℕ, ◌+◌, ◌<◌, Bool, true, List, [], ◌∷◌, All, None, refl, arith, nat_lt}
use Rattle.std.specs.List.{list_all}
use Rattle.std.proofs.lemmas.Bool.Decides.{nat_tests}
use Rattle.std.proofs.lemmas.List.Elements.{All-cons, All-head, All-nil, All-tail}
use Rattle.ft_base.specs.declared.stamps.Stamp.TheVariants.{Local}
use Rattle.ft_base.specs.Scan.{no_run}
use Rattle.ft_base.proofs.Booleans.{both}
use Rattle.ft_block.specs.Leaves.{last_stage}
use Rattle.ft_tree_leaves.specs.Elements.{IsAboveChanges, TreeElement, new_elements, removed_stamps, seen_in, with_overlay, with_stamps}
use Rattle.ft_op.specs.declared.operations.BaseOp.{BaseOp}
use Rattle.ft_op.specs.declared.operations.BaseOp.TheVariants.{Insert, Remove, Annotate}
use Rattle.ft_op.specs.Operation.{segment_contents}
use Rattle.ft_props.specs.declared.properties.Changes.{Changes}
use Rattle.ft_props.specs.Element.{ElementContent}
use Rattle.ft_props.specs.Overlay.{after_pending_changes}
use Rattle.ft_props.specs.Properties.{PropertyList, apply}
use Rattle.ft_text.specs.Texts.{TextElements}
use Rattle.ft_string.specs.Parts.{taken_elements}
use Rattle.ft_named.proofs.Lists.{all-append, all-put, all-range, all-weaker}

-- whether changes, and those of an element, are of stages below k
abbrev pub are_below : ℕ → List (ℕ × Changes) → Bool
are_below k cs = list_all (λ c. nat_lt c.0 k) cs

abbrev pub has_below : ℕ → TreeElement ElementContent → Bool
has_below k x = are_below k x.overlay.pending

abbrev pub HaveBelow : ℕ → TextElements → Type 0
HaveBelow k xs = list_all (has_below k) xs ≡ true

below-self : (k : ℕ) → nat_lt k (k + 1) ≡ true
below-self k = grind (arith, nat_tests)

below-later : (k n : ℕ) → nat_lt n k ≡ true → nat_lt n (k + 1) ≡ true
below-later k n h = grind (arith, nat_tests)

have-later : (k : ℕ) (x : TreeElement ElementContent) → has_below k x ≡ true → has_below (k + 1) x ≡ true
have-later k x h = all-weaker (λ c. nat_lt c.0 k) (λ c. nat_lt c.0 (k + 1)) (λ c g. below-later k c.0 g) x.overlay.pending h

have-noted : (k : ℕ) (c : Changes) (x : TreeElement ElementContent) → has_below (k + 1) x ≡ true
    → has_below (k + 1) (with_overlay (after_pending_changes k c) x) ≡ true
have-noted k c x h = all-append (λ p. nat_lt p.0 (k + 1)) x.overlay.pending ((k, c) ∷ []) h (rw (below-self k) refl)

have-new : (k : ℕ) (props : PropertyList) (us : List ElementContent) → HaveBelow (k + 1) (new_elements (Local k) None props us)
have-new k props [] = refl
have-new k props (u ∷ us) = have-new k props us

-- after an operation of stage k
pub taken-below : (k : ℕ) (op : BaseOp) (xs : TextElements) → HaveBelow k xs → HaveBelow (k + 1) (taken_elements k op xs)
taken-below k op xs h = step op (all-weaker (has_below k) (has_below (k + 1)) (have-later k) xs h)
  where
    step : (op : BaseOp) → HaveBelow (k + 1) xs → HaveBelow (k + 1) (taken_elements k op xs)
    step (Insert p seg props) g =
        all-put (has_below (k + 1)) (seen_in last_stage) no_run p (new_elements (Local k) None (apply [] props) (segment_contents seg)) xs
        (have-new k (apply [] props) (segment_contents seg)) g
    step (Remove p q) g = all-range (has_below (k + 1)) (seen_in last_stage) (with_stamps (removed_stamps (Local k))) (λ x e. e) 0 p q xs g
    step (Annotate p q changes) g =
        all-range (has_below (k + 1)) (seen_in last_stage) (with_overlay (after_pending_changes k changes)) (have-noted k changes) 0 p q xs g

-- ---- as it is said of trees

below-is : (k n : ℕ) → nat_lt n k ≡ true → n < k
below-is k n h = grind (arith, nat_tests)

is-above : (k : ℕ) (cs : List (ℕ × Changes)) → are_below k cs ≡ true → All (λ c. c.0 < k) cs
is-above k [] h = All-nil (λ c. c.0 < k)
is-above k (c ∷ cs) h = let p = both (nat_lt c.0 k) (are_below k cs) h in All-cons (λ d. d.0 < k) c cs (below-is k c.0 p.0) (is-above k cs p.1)

pub are-above : (k : ℕ) (xs : TextElements) → HaveBelow k xs → All (λ e. IsAboveChanges k e.overlay) xs
are-above k [] h = All-nil (λ (e : TreeElement ElementContent). IsAboveChanges k e.overlay)
are-above k (x ∷ xs) h =
    let p = both (has_below k x) (list_all (has_below k) xs) h in
    All-cons (λ (e : TreeElement ElementContent). IsAboveChanges k e.overlay) x xs (is-above k x.overlay.pending p.0) (are-above k xs p.1)

lt-is : (k n : ℕ) → n < k → nat_lt n k ≡ true
lt-is k n h = grind (arith, nat_tests)

back-below : (k : ℕ) (cs : List (ℕ × Changes)) → All (λ c. c.0 < k) cs → are_below k cs ≡ true
back-below k [] h = refl
back-below k (c ∷ cs) h = rw (lt-is k c.0 (All-head (λ d. d.0 < k) c cs h), back-below k cs (All-tail (λ d. d.0 < k) c cs h)) refl

pub have-below : (k : ℕ) (xs : TextElements) → All (λ e. IsAboveChanges k e.overlay) xs → HaveBelow k xs
have-below k [] h = refl
have-below k (x ∷ xs) h =
    rw (
      back-below k x.overlay.pending (All-head (λ (e : TreeElement ElementContent). IsAboveChanges k e.overlay) x xs h),
      have-below k xs (All-tail (λ (e : TreeElement ElementContent). IsAboveChanges k e.overlay) x xs h),
    ) refl
