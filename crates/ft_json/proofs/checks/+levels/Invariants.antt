use Rattle.std.proofs.Common.{◌≡◌, nat_le, drop}
use Rattle.serde_json.specs.Data.{items_depth, members_depth}
use Rattle.serde_json.specs.View.{items_view, members_view}
use Rattle.ft_json.proofs.checks.+levels.Given as goal

-- the items that are left decide
abbrev pub invariant-have_at_most-loop-item : goal.invariant-have_at_most-loop-item
invariant-have_at_most-loop-item l =
    nat_le (items_depth (items_view (drop l.item-index l.item-items))) l.levels ≡ nat_le (items_depth (items_view l.item-items)) l.levels

-- the members that are left decide
abbrev pub invariant-members_have_at_most-loop-member : goal.invariant-members_have_at_most-loop-member
invariant-members_have_at_most-loop-member l =
    nat_le (members_depth (members_view l.member-iterator)) l.levels ≡ nat_le (members_depth (members_view l.members.entries)) l.levels
