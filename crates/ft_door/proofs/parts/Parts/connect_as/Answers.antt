use Rattle.std.proofs.Common.{◌&&◌, ◌∙◌, ap, chars, not, sym}
use Rattle.ft_msg.specs.declared.views.Numbers.{Numbers}
use Rattle.ft_seqr.specs.declared.refusals.Refusal.TheVariants.{AlreadyConnected}
use Rattle.ft_door.specs.Editors.{EditorState, connect_as, is_offline}
use Rattle.ft_door.proofs.Editing.{connect-refused, refused-told}
use Rattle.ft_door.proofs.parts.Parts.connect_as.Goals as goal

pub wait_as-requires : goal.wait_as-requires
wait_as-requires g c =
    ap (λ (s : EditorState). not s.waits && is_offline s.replica.client.link) (sym c.self.view_is)
    ∙ ap (λ (n : Numbers). not c.self.inside.waits && is_offline n.link) (sym c.numbers.ensures.numbers) ∙ sym c.is_free.ensures ∙ c.if-is_free.true

pub returns-else-is_free : goal.returns-else-is_free
returns-else-is_free g c =
    let free = ap (λ (s : EditorState). not s.waits && is_offline s.replica.client.link) (sym c.self.view_is)
    ∙ ap (λ (n : Numbers). not c.self.inside.waits && is_offline n.link) (sym c.numbers.ensures.numbers) ∙ sym c.is_free.ensures ∙ c.if-is_free.false in
    refused-told AlreadyConnected c.args.self.now (connect_as (chars c.args.name.now)) (connect-refused c.args.self.now (chars c.args.name.now) free)
