use Rattle.std.proofs.Common.{None, Some, ap, ◌∙◌}
use Rattle.ft_msg.specs.NameTable.{name_at}
use Rattle.ft_msg.proofs.NameLemmas.{name_at-entry}
use Rattle.ft_msg.proofs.names.Names.name.Goals as goal

pub returns-in-Some : goal.returns-in-Some
returns-in-Some c =
    name_at-entry c.self.inside.table.entries c.args.n (Some (c.in-Some.field-0-0.now, c.in-Some.name.now)) c.if-n-eq0.false c.in-Some.ensures.entry
    ∙ ap (λ names. name_at names c.args.n) c.self.view_is

pub returns-in-None : goal.returns-in-None
returns-in-None c =
    name_at-entry c.self.inside.table.entries c.args.n None c.if-n-eq0.false c.in-None.ensures.entry ∙ ap (λ names. name_at names c.args.n) c.self.view_is
