use Rattle.std.proofs.Common.{ap}
use Rattle.ft_door.specs.Editors.{listening, with_listener}
use Rattle.ft_door.proofs.Editing.{anew-told, editor-as, editor-reached, state_of}
use Rattle.ft_door.proofs.parts.Parts.tell.Goals as goal

pub returns-clause-ok : goal.returns-clause-ok
returns-clause-ok g c = λ x h.
    let i = c.self.inside in
    let old = state_of (g.R.Replica.state i.replica) i.told i.names i.name i.waits i.load in
    let here = editor-as old c.args.self.now x c.self.view_is h in
    let told = c.in_ok-told.told in
    editor-as (record old { told = c.replace.new.dest }) (record old { told = told }) (with_listener (listening c.args.listens) x)
    (ap (λ changes. record old { told = changes }) c.replace.ensures.after)
    (anew-told old told (listening c.args.listens) x here (c.in_ok-told.ensures x.client (editor-reached old x here) here.runs))
