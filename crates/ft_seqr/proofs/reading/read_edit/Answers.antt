use Rattle.std.proofs.Common.{Ok, Err, rules}
use Rattle.std.proofs.lemmas.Result.{err_from_is_err_and}
use Rattle.serde_json.specs.View.{view}
use Rattle.ft_seqr.proofs.AddressedEdits.{edit-no_client, edit-op}
use Rattle.ft_seqr.proofs.reading.read_edit.Goals as goal

pub returns-in_err-client : goal.returns-in_err-client
returns-in_err-client c =
    let p = err_from_is_err_and c.from_residual.result c.from_residual.ensures.1 in
    record {
      ok = search rules;
      err = rw (p.1, p.2) (λ apart. edit-no_client (view c.args.value.now) c.in_err-client.field-0.0 (c.in_err-client.ensures.err apart));
    }

pub returns-in_err-op : goal.returns-in_err-op
returns-in_err-op c =
    let p = err_from_is_err_and c.from_residual-in_err-op.result c.from_residual-in_err-op.ensures.1 in
    record {
      ok = search rules;
      err = rw (p.1, p.2) (λ apart.
          edit-op (view c.args.value.now) c.in_ok-client.client (Err c.in_err-op.field-0.0) c.in_ok-client.ensures.ok
          (c.in_err-op.ensures.err apart));
    }

pub returns : goal.returns
returns c = record {
  ok = edit-op (view c.args.value.now) c.in_ok-client.client (Ok c.in_ok-op.op) c.in_ok-client.ensures.ok c.in_ok-op.ensures.ok;
  err = search rules;
}
