use Rattle.std.proofs.Common.{refl, subst, sym}
use Rattle.ft_msg.specs.Agreed.{body_effect, reference_number}
use Rattle.ft_client.specs.Holds.{HoldsTree}
use Rattle.ft_client.proofs.Answered.{then-ok}
use Rattle.ft_client.proofs.ForeignSteps.{known-above, other-counted}
use Rattle.ft_client.proofs.own.TreeOwn.take_body.Goals as goal

pub apply-requires-clause-known : goal.apply-requires-clause-known
apply-requires-clause-known g c = known-above c.args.self.now c.args.entry.now c.in-Op.op c.reference_number.result c.requires.formed
    c.in-Op.is c.reference_number.ensures c.requires.known

pub returns-in-Elsewhere-clause-takes : goal.returns-in-Elsewhere-clause-takes
returns-in-Elsewhere-clause-takes g c = λ held named h.
    let e = c.args.entry.now in
    let new = record c.args.self.now { numbers = c.count_other.new.self } in
    then-ok c.count_other.result c.count_other.ensures
    (λ n. subst (λ b. HoldsTree new (record held { doc = body_effect held.doc e.msg.seq e.origin (reference_number e.msg.ref_seq) b })) (sym c.in-Elsewhere.is)
    (other-counted c.args.self.now new held h refl n))
