-- A list of tree elements beside the document's list: each shows the document's element without its name; of any content.
use Rattle.std.proofs.Common.{◌≡◌, not, List, [], ◌∷◌, ap, map}
use Rattle.ft_base.specs.Visibility.{is_acked, is_present}
use Rattle.ft_block.specs.declared.leaves.LenView.{LenView}
use Rattle.ft_block.specs.Leaves.{sees_in}
use Rattle.ft_tree_leaves.specs.Elements.{TreeElement, seen_in}
use Rattle.ft_tree_leaves.specs.Elements.{is_pending as tree_pending, is_unremoved as tree_unremoved}
use Rattle.ft_props.specs.Element.{ElementContent, ListElement, NamelessElement, is_pending, is_unremoved, nameless, stamps_of}
use Rattle.ft_laws_names.proofs.Beside.{Beside, ends, next, same-map}
use Rattle.ft_named.specs.Bare.{bare}

module _ {U : Type 0} (content : U → ElementContent) where
  -- the tree's element is the document's without its name
  abbrev pub IsElement : TreeElement U → ListElement → Type 0
  IsElement x e = bare content x ≡ nameless e

  abbrev pub AreElements : List (TreeElement U) → List ListElement → Type 0
  AreElements xs es = Beside (TreeElement U) ListElement IsElement xs es

  pub from-bare : (xs : List (TreeElement U)) (es : List ListElement) → map (bare content) xs ≡ map nameless es → AreElements xs es
  from-bare [] [] h = ends
  from-bare [] (e ∷ es) h = (cc)
  from-bare (x ∷ xs) [] h = (cc)
  from-bare (x ∷ xs) (e ∷ es) h =
      let first : bare content x ≡ nameless e = (cc) in
      let rest : map (bare content) xs ≡ map nameless es = (cc) in
      next first (from-bare xs es rest)

  pub to-bare : {xs : List (TreeElement U)} {es : List ListElement} → AreElements xs es → map (bare content) xs ≡ map nameless es
  to-bare h = same-map (bare content) nameless (λ x e q. q) h

  -- both have the same stamps, so they are seen alike
  pub same-stamps : (x : TreeElement U) (e : ListElement) → IsElement x e → x.stamps ≡ stamps_of e
  same-stamps x e q = ap (λ (n : NamelessElement). n.stamps) q

  pub seen-alike : (view : LenView) (x : TreeElement U) (e : ListElement) → IsElement x e → seen_in view x ≡ sees_in view (stamps_of e)
  seen-alike view x e q = ap (λ t. sees_in view t) (same-stamps x e q)

  pub pending-alike : (x : TreeElement U) (e : ListElement) → IsElement x e → tree_pending x ≡ is_pending e
  pending-alike x e q = ap (λ (n : NamelessElement). not (is_acked n.stamps.ins)) q

  pub unremoved-alike : (x : TreeElement U) (e : ListElement) → IsElement x e → tree_unremoved x ≡ is_unremoved e
  unremoved-alike x e q = ap (λ t. is_present is_acked t) (same-stamps x e q)
