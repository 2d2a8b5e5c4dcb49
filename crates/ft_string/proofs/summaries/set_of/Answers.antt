use Rattle.std.proofs.Common.{◌∙◌, [], ap, map, subst, sym}
use Rattle.std.proofs.lemmas.List.{take_all}
use Rattle.ft_props.specs.Keys.{KeysRise}
use Rattle.ft_props.specs.Properties.{PropertyList, apply}
use Rattle.ft_string.specs.Loads.{given_property}
use Rattle.ft_string.proofs.GivenProperties.{set-makes, set-next}
use Rattle.ft_string.proofs.summaries.set_of.Goals as goal

pub loop-property-preserved : goal.loop-property-preserved
loop-property-preserved c =
    set-next c.as_slice-properties.result.now c.loop-property.property-index c.property-item.result c.loop-property.set c.put_copy.new.set
    (subst (λ (ps : PropertyList). KeysRise ps) (sym c.as_slice-properties.ensures.value) c.as_slice-properties.ensures.rising) c.loop-property-test.true c.property-item.is
    c.loop-property.invariant c.in_ok-put_copy.ensures

pub returns : goal.returns
returns c =
    let props = c.as_slice-properties.result.now in
    ap (apply []) (c.loop-property.invariant ∙ ap (map given_property) (take_all c.loop-property.property-index props c.loop-property-test.false))
    ∙ ap (λ (ps : PropertyList). apply [] (map given_property ps)) c.as_slice-properties.ensures.value ∙ set-makes c.args.props.now c.as_slice-properties.ensures.rising
