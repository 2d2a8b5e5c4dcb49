use Rattle.std.proofs.Common.{◌≡◌, List, ◌++◌, drop}
use Rattle.serde_json.specs.View.{items_view, members_view}
use Rattle.ft_json.specs.Canonical.{items_have_whole_numbers, members_have_whole_numbers, ItemsAreCanonical, MembersAreCanonical}
use Rattle.serde_json.proofs.Views.{Entry}
use Rattle.ft_json.proofs.checks.+whole.Given as goal

-- the items that are left decide
abbrev pub invariant-have_whole_numbers-loop-item : goal.invariant-have_whole_numbers-loop-item
invariant-have_whole_numbers-loop-item l =
    (items_have_whole_numbers (items_view (drop l.item-index l.item-items)) ≡ items_have_whole_numbers (items_view l.item-items))
    × (ItemsAreCanonical (items_view (drop l.item-index l.item-items)) → ItemsAreCanonical (items_view l.item-items))

-- the members that are left are the last ones, and they decide
abbrev pub invariant-members_have_whole_numbers-loop-member : goal.invariant-members_have_whole_numbers-loop-member
invariant-members_have_whole_numbers-loop-member l =
    ((done : List Entry) × (l.members.entries ≡ done ++ l.member-iterator))
    × (members_have_whole_numbers (members_view l.member-iterator) ≡ members_have_whole_numbers (members_view l.members.entries))
    × (MembersAreCanonical (members_view l.member-iterator) → MembersAreCanonical (members_view l.members.entries))
