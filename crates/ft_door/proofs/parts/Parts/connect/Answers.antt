use Rattle.std.proofs.Common.{chars, refl}
use Rattle.std.proofs.lemmas.Result.{IfOk-weaker}
use Rattle.ft_seqr.specs.declared.refusals.Refusal.TheVariants.{Malformed}
use Rattle.ft_msg.specs.declared.faults.Cause.TheVariants.{NotUtf8}
use Rattle.ft_door.specs.Editors.{connect_as, connect_line, never_exceeds}
use Rattle.ft_door.proofs.Editing.{name-read, name-refused, refused-told, step-same}
use Rattle.ft_door.proofs.parts.Parts.connect.Goals as goal

pub returns-in_default : goal.returns-in_default
returns-in_default g c =
    refused-told (Malformed NotUtf8) c.args.self.now (connect_line c.args.line.now) (λ x h. name-refused c.args.line.now x c.in_default.ensures.cases.0)

pub returns : goal.returns
returns g c =
    IfOk-weaker c.connect_as.result _ _ (λ told t. step-same told c.args.self.now c.connect_as.new.self (connect_as (chars c.in-Ok.name.now)) (connect_line c.args.line.now)
    never_exceeds never_exceeds (λ x h. name-read c.args.line.now c.in-Ok.name.now x c.in-Ok.ensures.cases.1 c.in-Ok.ensures.cases.0) (λ x h. refl) t) c.connect_as.ensures
