use Rattle.std.proofs.Common.{◌≡◌, [], refl}
use Rattle.std.proofs.lemmas.Result.{IfOk-at_ok}
use Rattle.ft_props.specs.Properties.{apply}
use Rattle.ft_string.proofs.summaries.add_of.Goals as goal

pub returns : goal.returns
returns c =
    let i = c.args.i.now in
    let e = c.in_ok-label.ensures in
    let label = IfOk-at_ok (λ t. t ≡ i.label) e.first c.copy.ensures in
    let id = IfOk-at_ok (λ t. t ≡ i.id) e.second c.copy-2.ensures in
    record {
      set = c.in_ok-label.props;
      is = rw (label, id, c.given_ends.ensures) refl;
      makes = IfOk-at_ok (λ set. apply [] set ≡ i.props) e.third c.set_of.ensures;
    }
