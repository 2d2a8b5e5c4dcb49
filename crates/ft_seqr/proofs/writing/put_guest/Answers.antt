use Rattle.std.proofs.Common.{◌∙◌, ap, codes}
use Rattle.std.proofs.lemmas.Result.{on_ok_weaker}
use Rattle.serde_json.specs.Data.{object, put, string}
use Rattle.ft_op.specs.Written.{written_text}
use Rattle.ft_seqr.proofs.writing.put_guest.Goals as goal

pub returns-clause-value : goal.returns-clause-value
returns-clause-value c =
    on_ok_weaker c.put_text.result
    (λ e. ap object (e ∙ ap (put (codes "guest") (written_text c.args.guest.now))
    (c.in_ok-put_str.ensures ∙ ap (put (codes "do") (string c.args.word.now)) c.requires)))
    c.put_text.ensures.value

pub returns-clause-guest : goal.returns-clause-guest
returns-clause-guest c = on_ok_weaker c.put_text.result (λ e. c.put_text.ensures.text) c.put_text.ensures.value
