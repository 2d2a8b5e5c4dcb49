-- Where a reference goes, as a loop over the list does it, which keeps places and not elements. No public clause cites this
-- module.
use Rattle.std.specs.Prelude.{ℕ, ◌+◌, Bool, cond, nat_eq, List, [], ◌∷◌, Option, Some, None}
use Rattle.std.specs.Option.{option_or}
use Rattle.ft_tree_leaves.specs.declared.leaves.Standing.{Standing}
use Rattle.ft_tree_leaves.specs.declared.leaves.Standing.TheVariants.{Unremoved, SeenIn}
use Rattle.ft_base.specs.declared.elements.Element.{Element as ElementStamps}
use Rattle.ft_base.specs.Visibility.{is_acked, is_present}
use Rattle.ft_block.specs.Leaves.{sees_in}
use Rattle.ft_tree_leaves.specs.Elements.{TreeElement}

-- whether a reference may stand on an element with these stamps
abbrev pub allows : Standing → ElementStamps → Bool
allows Unremoved e = is_present is_acked e
allows (SeenIn view) e = sees_in view e

-- whether a reference may stand on the element
abbrev pub stands : {U : Type 0} → Standing → TreeElement U → Bool
stands test e = allows test e.stamps

module _ {A : Type 0} (ok : A → Bool) where
  -- the place of the first element that is ok, where n stand before the list
  abbrev pub first_from : ℕ → List A → Option ℕ
  first_from n [] = None
  first_from n (x ∷ xs) = cond (ok x) (Some n) (first_from (n + 1) xs)

  -- where a reference at place i goes, where n stand before the list and `last` is the last place before it that is ok
  abbrev pub settled_from : ℕ → Option ℕ → ℕ → List A → Option ℕ
  settled_from i last n [] = None
  settled_from i last n (x ∷ xs) = cond (nat_eq n i) (option_or (first_from n (x ∷ xs)) last) (settled_from i (cond (ok x) (Some n) last) (n + 1) xs)
