use Rattle.std.proofs.Common.{◌≡◌, ◌∙◌, ◌++◌, ap, drop, rules, string_bytes}
use Rattle.std.proofs.lemmas.Result.{IfOk-at_ok, on_ok_weaker}
use Rattle.ft_door.proofs.waiting.Waiting.push_made.Goals as goal

pub returns-in-Ok-clause-ok : goal.returns-in-Ok-clause-ok
returns-in-Ok-clause-ok c = λ bytes is.
    let value : c.as_bytes.result.now ≡ string_bytes c.in-Ok.text = search rules in
    let waits = drop c.args.self.now.taken c.args.self.now.bytes.items in
    on_ok_weaker c.push.result (λ e. e ∙ ap (λ more. waits ++ more) (value ∙ IfOk-at_ok (λ text. string_bytes text ≡ bytes) c.in-Ok.is is)) c.push.ensures.ok
