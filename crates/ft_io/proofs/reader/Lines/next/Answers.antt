use Rattle.std.proofs.Common.{◌+◌, ◌≤◌, sym, ◌∙◌, ap, subst}
use Rattle.ft_io.specs.Reader.{input_limit}
use Rattle.ft_io.proofs.Gathering.{call_ended}
use Rattle.ft_io.proofs.reader.Lines.next.Goals as goal

pub returns-then-self-clause-call : goal.returns-then-self-clause-call
returns-then-self-clause-call g c =
    let a = c.self.inside in
    let old = c.args.self.now in
    let left = g.S.Source.remaining c.args.src.now in
    let now = g.S.Source.faults c.args.src.now in
    let ended = sym (ap (λ r. r.ended) c.self.view_is) ∙ c.if-self.true in
    let within : old.given ≤ input_limit + 1 = subst (λ given. given ≤ input_limit + 1) (ap (λ r. r.given) c.self.view_is) a.intake.within in
    let nothing = sym (ap (λ r. r.pending) c.self.view_is) ∙ a.intake.none_left c.if-self.true in
    λ runs. call_ended old left now within ended nothing runs
