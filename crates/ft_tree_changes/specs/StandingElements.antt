-- Which elements of a tree stand, and which of them are seen at each stage: both are told by the stamps alone.
use Rattle.std.specs.Prelude.{◌≡◌, ℕ, Bool, true, not, ◌&&◌, ◌||◌, List, [], ◌∷◌, drop, filter, reverse, take}
use Rattle.std.specs.List.{list_any}
use Rattle.ft_base.specs.declared.elements.Element.{Element}
use Rattle.ft_base.specs.Visibility.{is_acked}
use Rattle.ft_block.specs.declared.leaves.LenView.TheVariants.{All}
use Rattle.ft_tree_leaves.specs.Elements.{TreeElement, is_pending, seen_in}
use Rattle.ft_changes.specs.Beside.{first_passes, marked_range, pass_beside_marked}
use Rattle.ft_changes.specs.ShownRuns.{shown_in_run}

-- whether no sequenced removal took an element with these stamps
abbrev pub stamps_stand : Element → Bool
stamps_stand e = not (list_any is_acked e.dels)

-- whether each stage sees an element with these stamps, and the agreed document too: it is sequenced, and nobody removed it
abbrev pub stamps_always_seen : Element → Bool
stamps_always_seen e = is_acked e.ins && not (list_any (λ t. true) e.dels)

module _ {U : Type 0} where
  abbrev pub is_standing : TreeElement U → Bool
  is_standing e = stamps_stand e.stamps

  abbrev pub is_always_seen : TreeElement U → Bool
  is_always_seen e = stamps_always_seen e.stamps

  -- no run of pending elements stands behind the first n, and those that stand on both sides are always seen
  pub record IsFreePlace (n : ℕ) (xs : List (TreeElement U)) : Type 0 where
    pub no_run : shown_in_run is_pending (seen_in All) (drop n xs) ≡ 0
    pub before : first_passes is_standing is_always_seen (reverse (take n xs)) ≡ true
    pub behind : first_passes is_standing is_always_seen (drop n xs) ≡ true

-- whether the first is marked or passes the test, if there is one, and so it is of each that stands beside a marked one
abbrev pub pass_from_marked : {A : Type 0} → (A → Bool) → List (Bool × A) → Bool
pass_from_marked test [] = true
pass_from_marked test (a ∷ xs) = (a.0 || test a.1) && pass_beside_marked test (a ∷ xs)

-- so of those that stand in a list with n seen elements before it, each marked if it is in the range
abbrev pub pass_from_front : {U : Type 0} → (TreeElement U → Bool) → ℕ → ℕ → ℕ → List (TreeElement U) → Bool
pass_from_front seen p q n xs = pass_from_marked is_always_seen (filter (λ m. is_standing m.1) (marked_range n seen p q xs))
