use Rattle.ft_shared_map.proofs.MapLaws.{rising-written}
use Rattle.ft_shared_map.proofs.shared.SharedMap.apply.Goals as goal

pub invariant_of-self : goal.invariant_of-self
invariant_of-self c =
    let s = c.self.inside in
    (c.self.invariant.0, c.self.invariant.1, rising-written s.acked c.put.new.map c.args.op.now c.put.result c.put.ensures.ok c.put.ensures.err c.self.invariant.2)
