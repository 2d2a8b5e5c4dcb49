use Rattle.std.proofs.Common.{◌≡◌, ◌&&◌, false, nat_eq, [], arith, sym}
use Rattle.std.proofs.lemmas.Bool.Decides.{nat_tests, same_from_decides}
use Rattle.std.proofs.lemmas.Result.{on_ok_weaker}
use Rattle.ft_sumdoc.specs.WellFormed.{same_props}
use Rattle.ft_marks.proofs.SameStamps.{same_props-Decides}
use Rattle.ft_text.proofs.ShownRuns.{run-apart, run-joined}
use Rattle.ft_text.proofs.shown.push_run.Goals as goal
use Rattle.ft_text.proofs.shown.push_run.Goals.{else-last-start-via-then-last-start+else-same, else-last-start-via-else-last-start}

pub returns-then-same : goal.returns-then-same
returns-then-same c =
    let filled : c.args.props.now ≡ [] → ⊥ = λ e. (let full = c.is_empty.ensures.1 e in absurd cc) in
    on_ok_weaker c.push.result (run-joined c.args.start c.args.end c.args.props.now c.args.runs.now.items c.push.new.items.items filled c.pop.new.self.items c.in-Some.last
    c.in-Some.ensures.items c.if-last-start.true (c.same.ensures.0 c.if-same.true)) c.push.ensures.items

pub returns : goal.returns
returns c =
    let last = c.in-Some.last in
    let filled : c.args.props.now ≡ [] → ⊥ = λ e. (let full = c.is_empty.ensures.1 e in absurd cc) in
    let differs : (nat_eq c.args.start last.end && same_props c.args.props.now last.props) ≡ false =
    elim c.else-last-start.branch [
      | else-last-start-via-then-last-start+else-same w ↦
          (let same = same_from_decides (same_props c.args.props.now last.props) w.same.result (same_props-Decides c.args.props.now last.props) (λ t. sym (w.same.ensures.0 t), λ e. w.same.ensures.1 (sym e)) in grind (arith, nat_tests))
      | else-last-start-via-else-last-start w ↦ grind (arith, nat_tests)
    ] in
    on_ok_weaker c.begin_run-2.result (λ made. run-apart c.args.start c.args.end c.args.props.now c.args.runs.now.items c.begin_run-2.new.runs.items filled
    c.pop.new.self.items last c.in-Some.ensures.items differs
    (cc (made, c.in_ok-push.ensures.items)))
    c.begin_run-2.ensures
