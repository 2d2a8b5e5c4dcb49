-- A client that begins from another one.
use Rattle.std.proofs.Common.{◌≡◌, [], Some, Err, Ok, sym, ◌∙◌, ap, subst}
use Rattle.indexmap.specs.IndexMap.{values}
use Rattle.ft_seqr.specs.declared.refusals.Refusal.TheVariants.{UnknownClient}
use Rattle.ft_map.specs.MapClient.{client_over}
use Rattle.ft_map.specs.MapSession.{MapSession, NamedMapClient}
use Rattle.ft_map.specs.MapWorlds.{AnswersPending, AnswersStart}
use Rattle.ft_map.proofs.Turns.{begin-copied, begin-pending, begin-unknown, handed-on}
use Rattle.ft_map.proofs.world.Session.copied.Goals as goal

pub returns-in_default : goal.returns-in_default
returns-in_default c =
    let w : MapSession = record { clients = values c.self.inside.members; service = c.self.inside.service } in
    let from = c.args.from.now in
    let at = sym (c.place_of.ensures (λ (d : NamedMapClient). d.name) c.self.invariant) ∙ c.in_default.is in
    subst (λ (v : MapSession). AnswersStart v (Some from) (Err UnknownClient)) c.self.view_is (begin-unknown w from at)

pub returns-in_err-nothing_pending : goal.returns-in_err-nothing_pending
returns-in_err-nothing_pending c =
    let w : MapSession = record { clients = values c.self.inside.members; service = c.self.inside.service } in
    let from = c.args.from.now in
    let d = c.index.result.now in
    let why = c.in_err-nothing_pending.field-0.0 in
    let at = sym (c.place_of.ensures (λ (d : NamedMapClient). d.name) c.self.invariant) ∙ c.in-Some.is in
    let some = subst (λ (x : NamedMapClient). AnswersPending x.client.state.pending (Err why)) c.behind-self.view_is c.in_err-nothing_pending.ensures in
    handed-on (AnswersStart c.args.self.now (Some from)) why c.from_residual.result c.from_residual.ensures
    (subst (λ (v : MapSession). AnswersStart v (Some from) (Err why)) c.self.view_is (begin-pending w from c.in-Some.place d at c.index.ensures why some))

pub returns : goal.returns
returns c =
    let w : MapSession = record { clients = values c.self.inside.members; service = c.self.inside.service } in
    let from = c.args.from.now in
    let d = c.index.result.now in
    let at = sym (c.place_of.ensures (λ (d : NamedMapClient). d.name) c.self.invariant) ∙ c.in-Some.is in
    let none = subst (λ (x : NamedMapClient). x.client.state.pending ≡ []) c.behind-self.view_is c.in_ok-nothing_pending.ensures in
    let copied = c.in_ok-successor.ensures ∙ ap (λ (x : NamedMapClient). client_over x.client.state.acked x.client.number x.client.minimum) c.behind-self.view_is in
    subst (λ (v : MapSession). AnswersStart v (Some from) (Ok c.in_ok-successor.field-0)) c.self.view_is
    (begin-copied w from c.in-Some.place d at c.index.ensures c.in_ok-successor.field-0 none copied)
