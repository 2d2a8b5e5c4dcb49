-- What a view sees of leaves, against their sizes.
use Rattle.std.proofs.Common.{◌≡◌, ℕ, ◌+◌, ◌≤◌, List, [], ◌∷◌, Bool, true, false, cond, refl, ap, ◌∙◌, arith}
use Rattle.ft_base.specs.declared.elements.Element.{Element}
use Rattle.ft_arena.specs.Forest.{Forest, IsForest, entry, leaf_value}
use Rattle.ft_arena.proofs.IdLemmas.{same_refl}
use Rattle.ft_shape.specs.declared.headed.Headed.{Headed}
use Rattle.ft_block.specs.declared.summaries.Summary.{Summary}
use Rattle.ft_block.specs.declared.leaves.View.{View}
use Rattle.ft_block.specs.Tree.{shows, shown_length}
use Rattle.ft_shape.specs.Tree.{total, length_of}
use Rattle.ft_block.specs.Tree.{by_view, by_size}
use Rattle.ft_shape.proofs.EditLemmas.{some_of}
use Rattle.ft_shape.proofs.FitLemmas.{AllLeaves, leaves_live, leaf_length}

cond_parts : (b : Bool) (x y z : ℕ) → x + y ≡ z → cond b x 0 + cond b y 0 ≡ cond b z 0
cond_parts true x y z e = e
cond_parts false x y z e = refl

cond_le : (b : Bool) (x : ℕ) → cond b x 0 ≤ x
cond_le true x = omega arith
cond_le false x = omega arith

module _ {L : Type 0} (size : L → ℕ) (element : L → Element) (view : View) where
  -- two parts with the stamps of the whole
  pub seen_parts : (x y z : L) → element y ≡ element x → element z ≡ element x → size y + size z ≡ size x
      → shown_length size element view y + shown_length size element view z ≡ shown_length size element view x
  seen_parts x y z ey ez parts =
      let by : shown_length size element view y ≡ cond (shows view (element x)) (size y) 0 = ap (λ (e : Element). cond (shows view e) (size y) 0) ey in
      let bz : shown_length size element view z ≡ cond (shows view (element x)) (size z) 0 = ap (λ (e : Element). cond (shows view e) (size z) 0) ez in
      omega (arith, by, bz, cond_parts (shows view (element x)) (size y) (size z) (size x) parts)

  pub seen_same : (x y : L) → element y ≡ element x → size y ≡ size x → shown_length size element view y ≡ shown_length size element view x
  seen_same x y e n = ap (λ (z : Element). cond (shows view z) (size y) 0) e ∙ ap (λ (m : ℕ). cond (shows view (element x)) m 0) n

  pub seen_le : (x : L) → shown_length size element view x ≤ size x
  seen_le x = cond_le (shows view (element x)) (size x)

  -- a view sees no more of leaves than there is
  pub view_fits : (s : Forest L (Headed Summary)) (xs : List ℕ) → AllLeaves s xs
      → total (length_of (by_view size element view) s) xs ≤ total (length_of (by_size size) s) xs
  view_fits s [] all = omega arith
  view_fits s (x ∷ xs) all =
      let v = some_of (leaf_value s x) (all x (omega (arith, same_refl x))) in
      omega (
        arith,
        leaf_length (by_view size element view) (entry s x) v.0 v.1,
        leaf_length (by_size size) (entry s x) v.0 v.1,
        seen_le v.0,
        view_fits s xs
            (λ y m. all y (omega arith)),
      )

  pub all_fit : (s : Forest L (Headed Summary)) → IsForest s
      → total (length_of (by_view size element view) s) s.leaves ≤ total (length_of (by_size size) s) s.leaves
  all_fit s f = view_fits s s.leaves (leaves_live s f)
