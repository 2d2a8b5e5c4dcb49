-- The characters of the name, of the slash, and of the number.
use Rattle.std.proofs.Common.{◌≡◌, ◌++◌, ◌∙◌, ap, subst}
use Rattle.std.specs.Prelude.{IfOk, codes, decimal}
use Rattle.std.specs.Str.{chars}
use Rattle.ft_seqr.proofs.ConnectionNames.{named-chars}
use Rattle.ft_seqr.proofs.connections.connection_name.Goals as goal

pub returns : goal.returns
returns c =
    let bytes = c.as_str.ensures.value ∙ c.in_ok-text.ensures.ok in
    let spelled = ap chars bytes ∙ named-chars c.as_str-name.result.now c.args.k c.as_str-name.utf8 c.ranges.k.fits ∙ ap (λ t. t ++ (codes "/" ++ decimal c.args.k)) c.as_str-name.ensures.characters in
    subst (λ name. IfOk c.new.result (λ text. text ≡ name)) spelled c.new.ensures
