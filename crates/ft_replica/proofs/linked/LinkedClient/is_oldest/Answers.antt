use Rattle.std.proofs.Common.{◌∙◌, ap, sym}
use Rattle.std.specs.Prelude.{map}
use Rattle.ft_msg.specs.Process.{is_oldest}
use Rattle.ft_replica.specs.Linked.{LinkedState, bare_edit}
use Rattle.ft_replica.proofs.LinkedReads.{oldest-is}
use Rattle.ft_replica.proofs.linked.LinkedClient.is_oldest.Goals as goal

pub returns-in-Some : goal.returns-in-Some
returns-in-Some g c =
    let entry = c.args.entry.now in
    c.is_sent_as.ensures ∙ oldest-is entry c.self.inside.pending c.in-Some.edit.now (sym c.in-Some.ensures)
    ∙ ap (λ (s : LinkedState _). is_oldest entry (map bare_edit s.pending)) c.self.view_is
