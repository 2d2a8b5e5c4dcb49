use Rattle.std.proofs.Common.{◌≡◌, ◌∙◌, Ok, refl}
use Rattle.std.proofs.lemmas.Result.{IfOk-at_ok}
use Rattle.ft_plain_lists.proofs.elements.PlainElement.copy_with.Goals as goal

pub returns : goal.returns
returns c =
    let e = c.self.inside in
    let all = c.in_ok-dels.ensures in
    let kept = c.both-kept.ensures in
    let dels = IfOk-at_ok (λ ds. ds ≡ e.dels) (IfOk-at_ok (λ p. c.copy.result ≡ Ok p.0) all.first kept.first) c.copy.ensures in
    let props = IfOk-at_ok (λ ps. ps ≡ e.props) (IfOk-at_ok (λ p. c.copy-2.result ≡ Ok p.1) all.first kept.second) c.copy-2.ensures in
    let pending = IfOk-at_ok (λ ps. ps.items ≡ c.as_slice.result.now) all.second c.copied_changes-changes.ensures ∙ c.as_slice.ensures.value in
    rw (← c.self.view_is) (rw (dels, props, pending) refl)
