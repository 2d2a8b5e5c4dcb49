use Rattle.std.proofs.Common.{◌≡◌, length, sym, ◌∙◌, ap}
use Rattle.std.proofs.lemmas.Result.{IfOk-weaker}
use Rattle.ft_op.specs.Operation.{segment_contents}
use Rattle.ft_changes.specs.declared.rest.Shift.TheVariants.{In, Out}
use Rattle.ft_changes.specs.Rest.{rest_of}
use Rattle.ft_changes.specs.Shown.{after_change}
use Rattle.ft_changes.proofs.RestSteps.{put-rest, shifted, style-rest, take-rest}
use Rattle.ft_changes.proofs.rest.ShownRest.moved.Goals as goal

pub returns-in-Put : goal.returns-in-Put
returns-in-Put c = λ s e lists.
    let x = c.in-Put in
    let n = c.element_count.result in
    let m = length (segment_contents x.seg) in
    IfOk-weaker c.with_elements.result (λ rest. rest ≡ shifted (In x.pos n) c.args.self) (λ rest. rest ≡ rest_of (after_change s c.args.change.now))
    (λ rest h.
    h ∙ ap (λ k. shifted (In x.pos k) c.args.self) c.element_count.ensures ∙ ap (shifted (In x.pos m)) (sym e) ∙ put-rest s x.pos x.seg x.props
    ∙ ap (λ change. rest_of (after_change s change)) (sym x.is)) c.with_elements.ensures

pub returns-in-Take : goal.returns-in-Take
returns-in-Take c = λ s e lists.
    let x = c.in-Take in
    IfOk-weaker c.with_elements-in-Take.result (λ rest. rest ≡ shifted (Out x.pos x.count) c.args.self) (λ rest. rest ≡ rest_of (after_change s c.args.change.now))
    (λ rest h. h ∙ ap (shifted (Out x.pos x.count)) (sym e) ∙ take-rest s x.pos x.count ∙ ap (λ change. rest_of (after_change s change)) (sym x.is)) c.with_elements-in-Take.ensures

pub returns-in-Style : goal.returns-in-Style
returns-in-Style c = λ s e lists.
    let x = c.in-Style in
    sym e ∙ style-rest s x.pos x.count x.props ∙ ap (λ change. rest_of (after_change s change)) (sym x.is)
