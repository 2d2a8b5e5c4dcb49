use Rattle.std.proofs.Common.{◌∙◌, ap, codes}
use Rattle.std.proofs.lemmas.Result.{on_ok_weaker}
use Rattle.serde_json.specs.Data.{object, put, string}
use Rattle.ft_op.specs.Written.{written_text}
use Rattle.ft_seqr.proofs.writing.put_client.Goals as goal

pub returns-clause-value : goal.returns-clause-value
returns-clause-value c =
    on_ok_weaker c.put_str.result
    (λ e. ap object (e ∙ ap (put (codes "do") (string c.args.word.now))
    (c.in_ok-put_text.ensures.value ∙ ap (put (codes "client") (written_text c.args.client.now)) c.requires)))
    c.put_str.ensures
