use Rattle.std.proofs.Common.{subst, sym}
use Rattle.std.proofs.lemmas.Result.{IfOk-at_ok}
use Rattle.ft_door.specs.declared.calls.Told.{Told}
use Rattle.ft_door.specs.Editors.{EditorState, IsSomeEditor, TellsStep, call_exceeds, call_step}
use Rattle.ft_door.proofs.Editing.{still-some}
use Rattle.ft_door.proofs.editors.Editor.take.Goals as goal

pub invariant_of-editor : goal.invariant_of-editor
invariant_of-editor g c =
    let step = call_step c.args.call c.args.bytes.now in
    let exceeds = call_exceeds c.args.call c.args.bytes.now in
    let new = c.take-told.new.self in
    subst IsSomeEditor (sym c.in_ok-told.ensures.value) (still-some c.in_ok-told.told c.self.inside.parts new step exceeds
    (IfOk-at_ok (λ (told : Told). TellsStep told c.self.inside.parts new step exceeds) c.in_ok-told.ensures.made c.take-told.ensures) c.self.invariant)

pub returns : goal.returns
returns g c =
    let step = call_step c.args.call c.args.bytes.now in
    let exceeds = call_exceeds c.args.call c.args.bytes.now in
    let new = c.take-told.new.self in
    subst (λ (s : EditorState). TellsStep c.in_ok-told.told c.args.self s step exceeds) (sym c.in_ok-told.ensures.value)
    (subst (λ (s : EditorState). TellsStep c.in_ok-told.told s new step exceeds) c.self.view_is
    (IfOk-at_ok (λ (told : Told). TellsStep told c.self.inside.parts new step exceeds) c.in_ok-told.ensures.made c.take-told.ensures))
