use Rattle.std.proofs.Common.{◌≡◌, ◌<◌, ◌∙◌, ℕ, List, Some, ap, subst, sym}
use Rattle.ft_io.specs.Reader.{input_limit}
use Rattle.ft_door.specs.Runs.{HearsLine, SessionGoesOn, Stands}
use Rattle.ft_door.proofs.Hearing.{line-full}
use Rattle.ft_door.proofs.sessions.HeldSession.hear.Goals as goal

pub returns-then-is_full : goal.returns-then-is_full
returns-then-is_full g c =
    let old = c.args.self.now in
    let same : Some c.in-Some.session ≡ old.session = (cc) in
    let above = c.is_full.ensures.0 c.if-is_full.true in
    line-full old (record old { session = c.replace.new.self }) c.args.line.now (λ none. let e = same ∙ none in cc) (ap (λ session. record old { session = session }) (c.replace.ensures.after ∙ same))
    (λ (heard : List (List ℕ)) (read : List ℕ) (has : Stands old heard read).
    let follows = subst (λ session. SessionGoesOn session heard) (sym same) has.session in
    subst (λ n. input_limit < n) (follows.lines ∙ c.session_pieces.ensures.counted heard) above)

pub returns : goal.returns
returns g c =
    let same : Some c.in-Some.session ≡ c.args.self.now.session = (cc) in
    subst (λ session. HearsLine (record c.args.self.now { session = session }) c.hear_more.new.self c.args.line.now c.hear_more.result) same c.hear_more.ensures
