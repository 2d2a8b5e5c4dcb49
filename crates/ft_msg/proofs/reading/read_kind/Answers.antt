use Rattle.std.proofs.Common.{ap, ◌∙◌}
use Rattle.ft_msg.specs.declared.messages.MsgKind.TheVariants.{Other}
use Rattle.ft_msg.proofs.Words.{kind_of-op, kind_of-join, kind_of-leave, kind_of-noop, kind_of-other}
use Rattle.ft_msg.proofs.reading.read_kind.Goals as goal

pub returns-in-op : goal.returns-in-op
returns-in-op c = kind_of-op c.args.word.now c.in-op.is

pub returns-in-join : goal.returns-in-join
returns-in-join c = kind_of-join c.args.word.now c.in-join.is

pub returns-in-leave : goal.returns-in-leave
returns-in-leave c = kind_of-leave c.args.word.now c.in-leave.is

pub returns-in-noop : goal.returns-in-noop
returns-in-noop c = kind_of-noop c.args.word.now c.in-noop.is

pub returns-in_ok-new-in_default : goal.returns-in_ok-new-in_default
returns-in_ok-new-in_default c =
    ap (λ word. Other word) c.in_ok-new-in_default.ensures
    ∙ kind_of-other c.args.word.now c.utf8.word c.in_default.not-op c.in_default.not-join c.in_default.not-leave c.in_default.not-noop
