use Rattle.ft_msg.specs.Client.{stages_of}
use Rattle.ft_client.proofs.Shown.{view-sound}
use Rattle.ft_client.proofs.ToldParts.{rest-shown}
use Rattle.ft_client.proofs.own.TreeOwn.rest_at.Goals as goal

pub returns : goal.returns
returns c = λ low p named e h.
    let sound = view-sound c.args.self.now c.args.last c.requires low p named h in
    rest-shown p c.args.compared c.args.op.now c.shown_count-elements.result c.in_ok-intervals.intervals c.in_ok-cells.cells
    (c.shown_count-elements.ensures p.last_stage p.doc (stages_of p) sound h.text) (c.in_ok-intervals.ensures low p named e h)
    (c.in_ok-cells.ensures low p named e h)
