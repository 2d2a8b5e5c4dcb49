use Rattle.std.proofs.Common.{◌≡◌, Ok}
use Rattle.std.proofs.lemmas.Result.{IfOk-at_ok, IfOk-weaker}
use Rattle.ft_plain_lists.proofs.intervals.PlainInterval.copied_parts.Goals as goal

pub returns-clause-label : goal.returns-clause-label
returns-clause-label c =
    let label = c.self.inside.label in
    rw (← c.self.view_is)
    (IfOk-weaker c.all_three.result (λ q. c.copy.result ≡ Ok q.0) (λ q. q.0 ≡ label)
    (λ q e. IfOk-at_ok (λ t. t ≡ label) e c.copy.ensures) c.all_three.ensures.first)

pub returns-clause-id : goal.returns-clause-id
returns-clause-id c =
    let id = c.self.inside.id in
    rw (← c.self.view_is)
    (IfOk-weaker c.all_three.result (λ q. c.copy-2.result ≡ Ok q.1) (λ q. q.1 ≡ id)
    (λ q e. IfOk-at_ok (λ t. t ≡ id) e c.copy-2.ensures) c.all_three.ensures.second)

pub returns-clause-props : goal.returns-clause-props
returns-clause-props c =
    let props = c.self.inside.props in
    rw (← c.self.view_is)
    (IfOk-weaker c.all_three.result (λ q. c.copy-3.result ≡ Ok q.2) (λ q. q.2 ≡ props)
    (λ q e. IfOk-at_ok (λ ps. ps ≡ props) e c.copy-3.ensures) c.all_three.ensures.third)
