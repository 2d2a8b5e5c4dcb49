use Rattle.std.proofs.Common.{◌≡◌, ◌≢◌, ◌∙◌, ap, sym, rules, replicate}
use Rattle.ft_attrib.specs.Runs.{how_many, same_origin}
use Rattle.ft_attrib.proofs.HowMany.{how_many-other, how_many-same}
use Rattle.ft_attrib.proofs.pieces.share.Goals as goal

pub returns-then-eq : goal.returns-then-eq
returns-then-eq c =
    let e : c.args.of ≡ c.args.who = search rules in
    sym (how_many-same c.args.len c.args.of) ∙ ap (λ o. how_many (same_origin c.args.of) (replicate c.args.len o)) e

pub returns-else-eq : goal.returns-else-eq
returns-else-eq c =
    let e : c.args.of ≢ c.args.who = search rules in
    sym (how_many-other c.args.len c.args.of c.args.who e)
