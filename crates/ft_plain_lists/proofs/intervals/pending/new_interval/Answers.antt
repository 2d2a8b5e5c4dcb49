use Rattle.std.proofs.Common.{◌≡◌, [], refl}
use Rattle.std.proofs.lemmas.Result.{IfOk-at_ok}
use Rattle.ft_props.specs.Properties.{apply}
use Rattle.ft_plain_lists.proofs.intervals.pending.new_interval.Goals as goal

pub returns : goal.returns
returns c =
    let copies = c.in_ok-label.ensures in
    let label = IfOk-at_ok (λ t. t ≡ c.args.label.now) copies.first c.copy.ensures in
    let id = IfOk-at_ok (λ t. t ≡ c.args.id.now) copies.second c.copy-2.ensures in
    let props = IfOk-at_ok (λ ps. ps ≡ apply [] c.args.set.now) copies.third c.first_props.ensures in
    rw (c.new.ensures, label, id, props) refl
