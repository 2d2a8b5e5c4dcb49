use Rattle.std.proofs.Common.{◌∙◌, refl, subst, sym}
use Rattle.ft_client.specs.Rejoins.{GivesGrid, GivesText, gives_grid, gives_text}
use Rattle.ft_client.proofs.GivenParts.{gives-grid, gives-text, text-some}
use Rattle.ft_client.proofs.own.TreeOwn.give_part.Goals as goal

pub reconnect-requires-clause-held : goal.reconnect-requires-clause-held
reconnect-requires-clause-held c = text-some c.args.self.now c.args.stage c.requires.known (sym c.is_of_text.ensures ∙ c.if-is_of_text.true)

pub returns-in_ok-op : goal.returns-in_ok-op
returns-in_ok-op c =
    let e = c.in_ok-op.ensures in
    gives_text (sym c.is_of_text.ensures ∙ c.if-is_of_text.true) (subst (λ o. GivesText c.args.stage o c.args.self.now.text c.reconnect.new.self) (sym c.text_again.ensures)
    (gives-text c.args.self.now c.args.stage c.requires.known c.in_ok-op.op c.reconnect.new.self e.op e.holds e.given e.floor e.usable)) refl

pub returns-in_ok-op-2 : goal.returns-in_ok-op-2
returns-in_ok-op-2 c =
    let e = c.in_ok-op-2.ensures in
    gives_grid (sym c.is_of_text.ensures ∙ c.if-is_of_text.false)
    (subst (λ o. GivesGrid c.args.stage o c.args.self.now.table c.reconnect-else-is_of_text.new.self) (sym c.grid_again.ensures)
    (gives-grid c.args.self.now c.args.stage c.requires.known c.in_ok-op-2.op c.reconnect-else-is_of_text.new.self e.answer e.holds e.given e.floor e.usable)) refl
