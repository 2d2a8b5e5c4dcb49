use Rattle.std.proofs.Common.{ℕ, List, [], ◌∷◌, ◌++◌, Some, drop, subst, sym}
use Rattle.ft_door.specs.Runs.{SessionGoesOn, Stands}
use Rattle.ft_door.proofs.Hearing.{breaks, line-broken, line-heard, refused-more, report-more}
use Rattle.ft_door.proofs.sessions.HeldSession.hear_more.Goals as goal

pub returns-in-Ok : goal.returns-in-Ok
returns-in-Ok g c =
    let line = c.args.line.now in
    let old = record c.args.self.now { session = Some c.args.session } in
    let new = record c.args.self.now { session = c.replace.new.self; waiting = c.hear.new.out } in
    let waits = drop c.args.self.now.waiting.taken c.args.self.now.waiting.bytes.items in
    let unread = drop c.hear.new.out.taken c.hear.new.out.bytes.items in
    line-heard old new line c.status_of-status.result (λ none. cc) c.status_of-status.ensures.one
    (λ (heard : List (List ℕ)) (read : List ℕ) (has : Stands old heard read). record {
      session = subst (λ session. SessionGoesOn session (heard ++ line ∷ [])) (sym c.replace.ensures.after) (c.in-Ok.ensures.after heard has.session);
      report = report-more waits unread heard line read c.args.self.now.waiting.faults c.hear.new.out.faults c.in-Ok.session c.session_pieces.ensures.grow has.report
          (c.in-Ok.ensures.writes heard has.session);
    })
    (λ (heard : List (List ℕ)) (read : List ℕ) (has : Stands old heard read). refused-more _ _ _ _ c.status_of-status.result (c.refused-before.ensures heard has.session)
    (c.refused.ensures (heard ++ line ∷ []) (c.in-Ok.ensures.after heard has.session)) (c.session_pieces.ensures.refused heard line) c.status_of-status.ensures.sum)

pub returns-in-Err : goal.returns-in-Err
returns-in-Err g c =
    let old = record c.args.self.now { session = Some c.args.session } in
    let new = record c.args.self.now { waiting = c.hear.new.out } in
    let waits = drop c.args.self.now.waiting.taken c.args.self.now.waiting.bytes.items in
    line-broken old new c.args.line.now (λ none. cc) (λ (heard : List (List ℕ)) (read : List ℕ) (has : Stands old heard read).
    breaks new waits _ _ read c.args.self.now.waiting.faults c.hear.new.out.faults c.in-Err.field-0 c.requires.out has.report (c.in-Err.ensures.writes heard has.session))
