use Rattle.std.proofs.Common.{Some, subst, sym}
use Rattle.ft_door.specs.declared.calls.Told.{Told}
use Rattle.ft_door.specs.Clients.{CallsClient}
use Rattle.ft_door.specs.Editors.{TellsStep}
use Rattle.ft_door.proofs.Calling.{call-full, call-taken}
use Rattle.ft_door.proofs.clients.HeldClient.settle.Goals as goal

pub returns-in-Taken : goal.returns-in-Taken
returns-in-Taken g c = λ s t step exceeds is tells.
    let run = c.args.self.now in
    subst (λ client. CallsClient step exceeds (record run { client = Some s }) (record run { client = client }) 0) (sym is)
    (call-taken run s t step exceeds (subst (λ (k : Told). TellsStep k s t step exceeds) c.in-Taken.is tells))

pub returns-in-Refused : goal.returns-in-Refused
returns-in-Refused g c = λ s t step exceeds is tells. c.refuse.ensures s t step exceeds is (subst (λ (k : Told). TellsStep k s t step exceeds) c.in-Refused.is tells)

pub returns-in-Full : goal.returns-in-Full
returns-in-Full g c = λ s t step exceeds is tells.
    let run = c.args.self.now in
    subst (λ client. CallsClient step exceeds (record run { client = Some s }) (record run { client = client }) 6) (sym is)
    (call-full run s t step exceeds (subst (λ (k : Told). TellsStep k s t step exceeds) c.in-Full.is tells))
