use Rattle.std.proofs.Common.{refl}
use Rattle.ft_msg.specs.Agreed.{body_effect, reference_number}
use Rattle.ft_client.proofs.ForeignSteps.{numbers-taken}
use Rattle.ft_client.proofs.own.TreeOwn.take_in.Goals as goal

pub returns-clause-takes : goal.returns-clause-takes
returns-clause-takes g c = λ held named h.
    let e = c.args.entry.now in
    numbers-taken c.take_body.new.self (record c.take_body.new.self { numbers = c.take.new.self }) held
    (body_effect held.doc e.msg.seq e.origin (reference_number e.msg.ref_seq) e.msg.body) e
    (c.in_ok-take_body.ensures.takes held named h) refl c.take.ensures
