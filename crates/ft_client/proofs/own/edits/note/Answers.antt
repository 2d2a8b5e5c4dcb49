use Rattle.std.proofs.Common.{◌∙◌, arith, sym}
use Rattle.ft_client.proofs.Answered.{not-err}
use Rattle.ft_client.proofs.own.edits.note.Goals as goal

pub push_stages-requires : goal.push_stages-requires
push_stages-requires c =
    let fits = not-err c.take_stages.result c.take_stages.ensures.fits (sym c.is_err.ensures.value ∙ c.if-is_err.false) in
    omega (arith, c.requires, fits)
