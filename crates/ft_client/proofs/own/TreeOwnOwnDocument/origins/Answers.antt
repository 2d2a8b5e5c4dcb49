use Rattle.ft_msg.specs.Client.{stages_of}
use Rattle.ft_replica.specs.Own.{held_by}
use Rattle.ft_client.proofs.Known.{held-sound}
use Rattle.ft_client.proofs.own.TreeOwnOwnDocument.origins.Goals as goal

pub returns : goal.returns
returns c = λ low p named e h.
    let k = c.requires in
    c.attribution.ensures p.last_stage p.doc (stages_of p) (held-sound k.start k.client k.made c.args.self.now k.low k.document (held_by low p) named h) h.text
