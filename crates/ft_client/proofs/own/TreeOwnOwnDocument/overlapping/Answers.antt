use Rattle.ft_msg.specs.Client.{stages_of}
use Rattle.ft_replica.specs.Own.{held_by}
use Rattle.ft_client.proofs.FewReads.{interval-few, label-few}
use Rattle.ft_client.proofs.Known.{held-sound}
use Rattle.ft_client.proofs.own.TreeOwnOwnDocument.overlapping.Goals as goal

pub returns-clause-found : goal.returns-clause-found
returns-clause-found g c = λ low p named e h.
    let k = c.requires.known in
    c.overlapping.ensures.found p.last_stage p.doc (stages_of p) (held-sound k.start k.client k.made c.args.self.now k.low k.document (held_by low p) named h) h.text

pub returns-clause-reads : goal.returns-clause-reads
returns-clause-reads g c = λ counts low p named e h.
    let k = c.requires.known in
    interval-few c.args.self.now.text p c.args.label.now c.args.a c.args.b c.args.steps.now c.overlapping.new.steps h.text
    (c.overlapping.ensures.cost p.last_stage p.doc (stages_of p) (held-sound k.start k.client k.made c.args.self.now k.low k.document (held_by low p) named h) h.text)

pub returns-clause-labelled : goal.returns-clause-labelled
returns-clause-labelled g c = λ counts low p named e h.
    let k = c.requires.known in
    label-few c.args.self.now.text p c.args.label.now c.args.a c.args.b c.args.steps.now c.overlapping.new.steps h.text
    (c.overlapping.ensures.labelled p.last_stage p.doc (stages_of p) (held-sound k.start k.client k.made c.args.self.now k.low k.document (held_by low p) named h) h.text)
