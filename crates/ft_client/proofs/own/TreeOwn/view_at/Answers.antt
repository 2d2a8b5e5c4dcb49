use Rattle.ft_msg.specs.Client.{stages_of}
use Rattle.ft_client.proofs.Known.{is-named}
use Rattle.ft_client.proofs.Shown.{same-numbers, shows-all, view-above, view-sound}
use Rattle.ft_client.proofs.own.TreeOwn.view_at.Goals as goal

pub returns-clause-numbers : goal.returns-clause-numbers
returns-clause-numbers c =
    let k = c.requires in
    let p = k.client in
    same-numbers p c.empty_view-view.result c.view.new.out c.view-2.new.out c.args.numbers c.empty_view-view.ensures c.in_ok-view.ensures.others
    (c.in_ok-view-2.ensures p.last_stage p.doc (stages_of p) k.document.numbers.fits (is-named k.start p k.made) k.document.table
    (view-above c.args.self.now c.args.last k p.last_stage k.fits))

pub returns-clause-content : goal.returns-clause-content
returns-clause-content c = λ low p named e h.
    shows-all p c.view.new.out c.view-2.new.out
    (c.in_ok-view.ensures.shows p.last_stage p.doc (stages_of p) (view-sound c.args.self.now c.args.last c.requires low p named h) h.text)
    (c.in_ok-view-2.ensures p.last_stage p.doc (stages_of p) h.numbers.fits named h.table (view-above c.args.self.now c.args.last c.requires p.last_stage e))
