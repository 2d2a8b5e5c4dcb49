use Rattle.std.proofs.Common.{subst, sym}
use Rattle.std.specs.Prelude.{IfOk}
use Rattle.ft_door.specs.declared.calls.Call.{Call}
use Rattle.ft_door.specs.Editors.{TellsStep, call_exceeds, call_step}
use Rattle.ft_door.proofs.parts.Parts.take.Goals as goal

pub returns-in-Load : goal.returns-in-Load
returns-in-Load g c =
    subst (λ (k : Call). IfOk c.load.result (λ told. TellsStep told c.args.self.now c.load.new.self (call_step k c.args.bytes.now) (call_exceeds k c.args.bytes.now))) (sym c.in-Load.is) c.load.ensures

pub returns-in-Connect : goal.returns-in-Connect
returns-in-Connect g c =
    subst (λ (k : Call). IfOk c.connect.result (λ told. TellsStep told c.args.self.now c.connect.new.self (call_step k c.args.bytes.now) (call_exceeds k c.args.bytes.now))) (sym c.in-Connect.is) c.connect.ensures

pub returns-in-Drop : goal.returns-in-Drop
returns-in-Drop g c =
    subst (λ (k : Call). IfOk c.drop_link.result (λ told. TellsStep told c.args.self.now c.drop_link.new.self (call_step k c.args.bytes.now) (call_exceeds k c.args.bytes.now)))
    (sym c.in-Drop.is) c.drop_link.ensures

pub returns-in-Edit : goal.returns-in-Edit
returns-in-Edit g c =
    subst (λ (k : Call). IfOk c.edit.result (λ told. TellsStep told c.args.self.now c.edit.new.self (call_step k c.args.bytes.now) (call_exceeds k c.args.bytes.now))) (sym c.in-Edit.is) c.edit.ensures

pub returns-in-Process : goal.returns-in-Process
returns-in-Process g c =
    subst (λ (k : Call). IfOk c.process.result (λ told. TellsStep told c.args.self.now c.process.new.self (call_step k c.args.bytes.now) (call_exceeds k c.args.bytes.now))) (sym c.in-Process.is) c.process.ensures
