use Rattle.std.proofs.Common.{◌≡◌, refl}
use Rattle.std.proofs.lemmas.Result.{IfOk-at_ok}
use Rattle.ft_plain_lists.proofs.elements.PlainElement.new.Goals as goal

pub returns : goal.returns
returns c =
    let copies = c.in_ok-dels.ensures in
    let dels = IfOk-at_ok (λ ds. ds ≡ c.args.dels.now) copies.first c.copy.ensures in
    let props = IfOk-at_ok (λ ps. ps ≡ c.args.props.now) copies.second c.copy-2.ensures in
    rw (c.new.ensures.items, dels, props) refl
