use Rattle.std.proofs.Common.{◌≡◌, ◌∙◌, Some, refl, subst}
use Rattle.ft_door.specs.Clients.{CallsClient}
use Rattle.ft_door.specs.Editors.{call_exceeds, call_step}
use Rattle.ft_door.proofs.Calling.{call-ended}
use Rattle.ft_door.proofs.clients.HeldClient.call.Goals as goal

pub returns-in-Ok : goal.returns-in-Ok
returns-in-Ok g c =
    let step = call_step c.args.call c.args.bytes.now in
    let exceeds = call_exceeds c.args.call c.args.bytes.now in
    let same : Some c.in-Some.client ≡ c.args.self.now.client = (cc) in
    subst (λ client. CallsClient step exceeds (record c.args.self.now { client = client }) c.settle.new.self c.settle.result) same
    (c.settle.ensures c.in-Some.client c.in-Ok.client step exceeds c.replace.ensures.after c.in-Ok.ensures)

pub returns-in-Err : goal.returns-in-Err
returns-in-Err g c =
    call-ended c.args.self.now (record c.args.self.now { client = c.take.new.self }) (call_step c.args.call c.args.bytes.now) (call_exceeds c.args.call c.args.bytes.now)
    (λ none. let same : Some c.in-Some.client ≡ c.args.self.now.client = (cc) in (let e = same ∙ none in cc)) c.take.ensures.after refl
