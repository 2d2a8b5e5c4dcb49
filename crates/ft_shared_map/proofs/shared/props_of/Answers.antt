use Rattle.std.proofs.Common.{◌+◌, ◌∷◌, ◌∙◌, ap, drop, refl, sym}
use Rattle.std.proofs.lemmas.List.{drop_more}
use Rattle.ft_shared_map.specs.declared.ops.MapPair.{MapPair}
use Rattle.ft_shared_map.proofs.MapLaws.{loaded-on}
use Rattle.ft_shared_map.proofs.shared.props_of.Goals as goal

pub loop-pair-preserved : goal.loop-pair-preserved
loop-pair-preserved c =
    let pairs = c.args.pairs.now in
    let i = c.loop-pair.pair-index in
    let pair = c.pair-item.result in
    let rest = drop_more pairs i pair c.loop-pair-test.true ∙ ap (λ (p : MapPair). p ∷ drop (i + 1) pairs) (sym c.pair-item.is) in
    loaded-on c.loop-pair.map c.set.new.map pairs (drop i pairs) (drop (i + 1) pairs) pair pair.key pair.value c.requires c.loop-pair.invariant
    rest refl refl c.in_ok-set.ensures.ok
