use Rattle.std.proofs.Common.{arith}
use Rattle.ft_props.specs.Element.{is_pending}
use Rattle.ft_plain_lists.proofs.HeldElements.{len-at-most-length}
use Rattle.ft_plain_lists.proofs.lists.PlainList.held.Goals as goal

-- both counts are below 2^53
pub overflow_add-result : goal.overflow_add-result
overflow_add-result c = grind (arith, c.seen_count.ensures, len-at-most-length is_pending c.self.inside.items.items, c.self.invariant.0, c.self.invariant.1)
