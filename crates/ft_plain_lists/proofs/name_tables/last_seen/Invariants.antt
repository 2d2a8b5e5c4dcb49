use Rattle.std.proofs.Common.{◌≡◌, drop, option_map}
use Rattle.std.specs.Option.{option_or}
use Rattle.ft_props.specs.Element.{id}
use Rattle.ft_plain_lists.specs.NameTables.{last_seen}
use Rattle.ft_plain_lists.proofs.name_tables.last_seen.Given as goal

-- the last one of the rest, or else the last one so far, is that of all
abbrev pub invariant-loop-e : goal.invariant-loop-e
invariant-loop-e g l =
    let seen = g.T.ElementTest.test l.seen in
    option_or (option_map id (last_seen seen (drop l.e-index l.items))) l.last ≡ option_map id (last_seen seen l.items)
