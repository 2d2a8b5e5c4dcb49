use Rattle.std.proofs.Common.{◌≡◌, ◌∷◌, ◌++◌, [], cond, subst, sym}
use Rattle.std.specs.Prelude.{OnOk}
use Rattle.ft_client.specs.Rejoins.{GivesStage}
use Rattle.ft_client.proofs.GivenParts.{first-of, given-stage, some-left}
use Rattle.ft_client.proofs.own.TreeOwn.give_stage.Goals as goal

pub take_next-stage-requires : goal.take_next-stage-requires
take_next-stage-requires c = some-left c.args.self.now c.requires.known

pub give_part-requires : goal.give_part-requires
give_part-requires c = record { known = first-of c.args.self.now (record c.args.self.now { stages = c.take_next-stage.new.stages }) c.take_next-stage.result c.requires.known c.take_next-stage.ensures }

pub returns : goal.returns
returns c = λ low last doc front t rest h.
    let mid = c.give_part.new.self in
    let put = c.put_behind-put.new.stages in
    let stage = c.take_next-stage.result in
    let done = subst (λ r. OnOk r (put.items ≡ cond c.is_some.result (mid.stages.items ++ stage ∷ []) mid.stages.items)) c.in_ok-_put.ensures.made c.put_behind-put.ensures in
    subst (λ op. GivesStage (record mid { stages = put }) low last doc front t rest op) (sym c.in_ok-_put.ensures.value)
    (given-stage c.args.self.now (record c.args.self.now { stages = c.take_next-stage.new.stages }) mid (record mid { stages = put }) stage c.in_ok-op.op c.in_ok-op.ensures
    c.take_next-stage.ensures (subst (λ b. put.items ≡ cond b (mid.stages.items ++ stage ∷ []) mid.stages.items) c.is_some.ensures done) low last doc front t rest h)
