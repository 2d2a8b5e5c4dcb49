use Rattle.std.proofs.Common.{◌≡◌, ◌∙◌, Global, List, Option, Some, String, ap, option_map, refl, string_bytes, sym, ℕ}
use Rattle.std.proofs.lemmas.Result.{IfOk-at_ok}
use Rattle.ft_door.specs.Editors.{oldest_bytes}
use Rattle.ft_door.proofs.Calling.{draft-kept, nothing-sent}
use Rattle.ft_door.proofs.clients.HeldClient.send.Goals as goal

-- the bytes of a line, if there is one
abbrev line_bytes : Option (String Global) → Option (List ℕ)
line_bytes line = option_map (λ text. string_bytes text) line

pub returns-in-Some : goal.returns-in-Some
returns-in-Some g c = λ oldest.
    c.send_line.ensures (λ x h. sym (IfOk-at_ok (λ line. line_bytes line ≡ oldest_bytes x.client.queue) c.in-Ok.is (oldest x h))
    ∙ ap line_bytes c.in-Some.is ∙ ap Some (sym c.as_str.ensures.value))

pub returns-in-None : goal.returns-in-None
returns-in-None g c = λ oldest.
    nothing-sent c.args.self.now c.requires (λ x h. sym (ap line_bytes c.in-None.is)
    ∙ IfOk-at_ok (λ line. line_bytes line ≡ oldest_bytes x.client.queue) c.in-Ok.is (oldest x h))

pub returns-in_default : goal.returns-in_default
returns-in_default g c = λ oldest. draft-kept c.args.self.now c.args.self.now c.requires refl refl
