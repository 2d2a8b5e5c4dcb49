use Rattle.std.proofs.Common.{◌≡◌, ◌∙◌, option_map, string_bytes, subst, sym}
use Rattle.std.specs.Prelude.{IfOk}
use Rattle.ft_change_lines.specs.ChangeTexts.{changes_text}
use Rattle.ft_door.specs.Clients.{changes_of}
use Rattle.ft_door.proofs.clients.HeldClient.changes.Goals as goal

pub returns-in-Some : goal.returns-in-Some
returns-in-Some g c =
    c.give.ensures (subst (λ client. IfOk c.changes_text-lines.result (λ lines. option_map (λ text. string_bytes text) lines ≡ option_map changes_text (changes_of client)))
    (sym c.in-Some.is) c.changes_text-lines.ensures)

pub give-requires : goal.give-requires
give-requires g c = λ none. let e = sym c.in-Some.is ∙ none in cc
