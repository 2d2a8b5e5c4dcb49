use Rattle.std.proofs.Common.{◌≡◌, ℕ, OnErr, ◌∙◌, ap, subst, sym}
use Rattle.std.proofs.lemmas.Result.{IfErr-at_err, IfOk-at_ok, err_from_is_err_and}
use Rattle.ft_msg.specs.declared.messages.Entry.{Entry}
use Rattle.ft_msg.specs.declared.messages.Message.{Message}
use Rattle.ft_replay.specs.Observation.{names_with, sender_number}
use Rattle.ft_replay.proofs.observer.number_sender.Goals as goal

abbrev entry_of : Message → ℕ → Entry
entry_of m origin = record { msg = m; origin = origin }

pub returns-clause-ok : goal.returns-clause-ok
returns-clause-ok c =
    let names = c.args.names.now in
    let sent = c.args.msg in
    ap (entry_of c.in_ok-origin.msg) (IfOk-at_ok (λ n. n ≡ sender_number names sent.client_id) c.in_ok-origin.ensures.made c.sender_number-number.ensures.ok)
    ∙ ap (λ (m : Message). entry_of m (sender_number names sent.client_id)) c.in_ok-origin.ensures.value

pub returns-clause-names : goal.returns-clause-names
returns-clause-names c =
    IfOk-at_ok (λ _. c.sender_number-number.new.names ≡ names_with c.args.names.now c.args.msg.client_id) c.in_ok-origin.ensures.made c.sender_number-number.ensures.names

pub returns-in_err-origin-clause-err : goal.returns-in_err-origin-clause-err
returns-in_err-origin-clause-err c =
    let p = err_from_is_err_and c.from_residual.result c.from_residual.ensures.1 in
    subst (λ r. OnErr r (c.sender_number-number.new.names ≡ c.args.names.now)) (sym p.1)
    (IfErr-at_err (λ _. c.sender_number-number.new.names ≡ c.args.names.now) c.in_err-origin.ensures.err c.sender_number-number.ensures.err)
