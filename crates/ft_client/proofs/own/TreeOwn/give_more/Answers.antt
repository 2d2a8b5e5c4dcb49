use Rattle.std.proofs.Common.{◌++◌, ◌∷◌, Option, subst, sym}
use Rattle.std.specs.Prelude.{IfOk, Result}
use Rattle.ft_base.specs.declared.memory.OutOfMemory.{OutOfMemory}
use Rattle.ft_op.specs.declared.operations.ChannelOp.{ChannelOp}
use Rattle.ft_replica.specs.declared.document.Resent.{Resent}
use Rattle.ft_client.specs.Rejoins.{GivesEdit, GivesNext, GivesStage}
use Rattle.ft_client.proofs.GivenEdits.{more-given, parts-alike, some-of-next, still-few}
use Rattle.ft_client.proofs.own.TreeOwn.give_more.Goals as goal

pub give_stage-op-requires : goal.give_stage-op-requires
give_stage-op-requires c = record { known = some-of-next c.args.self.now c.args.again c.requires.known }

pub returns : goal.returns
returns c = λ low last doc front mine t rest one e.
    let new = c.give_stage-op.new.self in
    let given = subst (λ (r : Result (Option ChannelOp) OutOfMemory). IfOk r (λ op. GivesStage new low last doc (front ++ mine) t rest op)) c.in_ok-op.ensures.made
    (c.give_stage-op.ensures low last doc (front ++ mine) t rest e.tree) in
    let edit = subst (λ (a : Resent). GivesEdit c.args.self.now low last doc front mine (t ∷ rest) a) (sym c.in_ok-op.ensures.value) e in
    more-given c.args.self.now new low last doc front mine t rest c.in_ok-op.so_far c.in_ok-again.again c.in_ok-op.op one edit given c.in_ok-again.ensures

pub with_pieces-requires-clause-few : goal.with_pieces-requires-clause-few
with_pieces-requires-clause-few c =
    still-few c.args.self.now c.in_ok-op.so_far (subst (λ (a : Resent). GivesNext c.args.self.now a) (sym c.in_ok-op.ensures.value) c.requires.known)

pub with_pieces-requires-clause-one : goal.with_pieces-requires-clause-one
with_pieces-requires-clause-one c =
    let new = c.give_stage-op.new.self in
    let f = subst (λ (a : Resent). GivesNext c.args.self.now a) (sym c.in_ok-op.ensures.value) c.requires.known in
    let given = subst (λ (r : Result (Option ChannelOp) OutOfMemory). IfOk r (λ op. GivesStage new f.low f.last f.doc (f.front ++ f.mine) f.t f.rest op)) c.in_ok-op.ensures.made
    (c.give_stage-op.ensures f.low f.last f.doc (f.front ++ f.mine) f.t f.rest f.gives.tree) in
    parts-alike c.args.self.now new c.in_ok-op.so_far c.in_ok-op.op f given
