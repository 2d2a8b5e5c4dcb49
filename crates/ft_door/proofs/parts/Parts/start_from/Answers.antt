use Rattle.std.proofs.Common.{◌∙◌, Bool, ap, is_some, length, subst}
use Rattle.ft_msg.specs.Client.{client_over}
use Rattle.ft_msg.specs.Summary.{doc_of}
use Rattle.ft_door.specs.Editors.{EditorState, Leads, listening}
use Rattle.ft_door.proofs.Editing.{listener-same, start-reached, summary-full, summary-stands}
use Rattle.ft_door.proofs.parts.Parts.start_from.Goals as goal

pub returns-in-Some : goal.returns-in-Some
returns-in-Some g c =
    let sum = c.args.sum.now in
    let changes = c.in_ok-told.told in
    let starts = c.in_ok-replica.ensures.starts in
    let listens = ap (λ (s : EditorState). is_some s.told) c.self.view_is in
    c.begin.ensures (λ x h. summary-stands sum (g.R.Replica.state c.in_ok-replica.replica) changes (is_some x.listener) c.numbers.result c.in-Some.load (length sum.conns)
    c.requires.valid starts c.numbers.ensures.numbers c.in-Some.ensures.some.0 c.in-Some.ensures.some.1
    (subst (λ (b : Bool). Leads (listening b) changes (client_over (doc_of sum)))
    (c.is_some.ensures ∙ listens ∙ listener-same x.listener c.args.self.now.told x.client h.leads)
    (c.in_ok-told.ensures (client_over (doc_of sum)) (start-reached sum c.requires.valid) starts.runs)))

pub returns-in-None : goal.returns-in-None
returns-in-None g c =
    let sum = c.args.sum.now in
    summary-full c.args.self.now sum (g.R.Replica.state c.in_ok-replica.replica) c.numbers.result (length sum.conns) c.in_ok-replica.ensures.starts c.numbers.ensures.numbers
    c.in-None.ensures.none
