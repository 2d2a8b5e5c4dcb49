use Rattle.std.proofs.Common.{◌≡◌, ◌∙◌, Global, List, Option, Some, String, ap, option_map, refl, string_bytes, sym, ℕ}
use Rattle.std.proofs.lemmas.Result.{IfOk-at_ok}
use Rattle.ft_change_lines.specs.ChangeTexts.{changes_text}
use Rattle.ft_door.specs.Clients.{changes_of}
use Rattle.ft_door.proofs.Calling.{changes-kept, nobody-told}
use Rattle.ft_door.proofs.clients.HeldClient.give.Goals as goal

-- the bytes of lines, if there are some
abbrev line_bytes : Option (String Global) → Option (List ℕ)
line_bytes lines = option_map (λ text. string_bytes text) lines

pub returns-in-Some : goal.returns-in-Some
returns-in-Some g c = λ texts.
    let changes = option_map changes_text (changes_of c.args.self.now.client) in
    c.give_lines.ensures (sym (IfOk-at_ok (λ lines. line_bytes lines ≡ changes) c.in-Ok.is texts) ∙ ap line_bytes c.in-Some.is ∙ ap Some (sym c.as_str.ensures.value))

pub returns-in-None : goal.returns-in-None
returns-in-None g c = λ texts.
    let changes = option_map changes_text (changes_of c.args.self.now.client) in
    nobody-told c.args.self.now c.requires (sym (ap line_bytes c.in-None.is) ∙ IfOk-at_ok (λ lines. line_bytes lines ≡ changes) c.in-Ok.is texts)

pub returns-in_default : goal.returns-in_default
returns-in_default g c = λ texts. changes-kept c.args.self.now c.args.self.now c.requires refl refl
