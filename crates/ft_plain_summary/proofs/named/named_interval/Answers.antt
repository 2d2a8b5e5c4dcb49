use Rattle.std.proofs.Common.{◌≡◌, refl}
use Rattle.std.proofs.lemmas.Result.{IfOk-at_ok}
use Rattle.ft_plain_summary.proofs.named.named_interval.Goals as goal

pub returns : goal.returns
returns c =
    let rec = c.args.rec.now in
    let copies = c.in_ok-label.ensures in
    let label = IfOk-at_ok (λ t. t ≡ rec.label) copies.first c.copy.ensures in
    let id = IfOk-at_ok (λ t. t ≡ rec.id) copies.second c.copy-2.ensures in
    let props = IfOk-at_ok (λ ps. ps ≡ rec.props) copies.third c.copy-3.ensures in
    rw (c.new.ensures, label, id, props, c.named_ends-ends.ensures) refl
