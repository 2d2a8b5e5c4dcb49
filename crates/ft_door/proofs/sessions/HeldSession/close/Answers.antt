use Rattle.std.proofs.Common.{◌≡◌, ◌∙◌, ℕ, List, Some, drop, subst, sym}
use Rattle.ft_replay.specs.declared.endings.Ending.TheVariants.{Done, SomeRefused}
use Rattle.ft_door.specs.Runs.{SessionGoesOn, Stands}
use Rattle.ft_door.proofs.Hearing.{breaks, end-broken, report-whole, session-closed}
use Rattle.ft_door.proofs.sessions.HeldSession.close.Goals as goal

pub returns-in-Ok-Done : goal.returns-in-Ok-Done
returns-in-Ok-Done g c =
    let old = c.args.self.now in
    let same : Some c.in-Some.session ≡ old.session = (cc) in
    let new = record old { session = c.take.new.self; waiting = c.close.new.out } in
    let waits = drop old.waiting.taken old.waiting.bytes.items in
    let unread = drop c.close.new.out.taken c.close.new.out.bytes.items in
    session-closed old new Done (λ none. let e = same ∙ none in cc) (λ (heard : List (List ℕ)) (read : List ℕ) (has : Stands old heard read). record {
      session = c.take.ensures.after;
      report = report-whole waits unread heard read old.waiting.faults c.close.new.out.faults c.in-Ok-Done.field-0 c.session_pieces.ensures.end has.report
          (c.in-Ok-Done.ensures.writes heard (subst (λ session. SessionGoesOn session heard) (sym same) has.session));
    })
    (λ (heard : List (List ℕ)) (read : List ℕ) (has : Stands old heard read). sym c.in-Ok-Done.field-0-is
    ∙ c.in-Ok-Done.ensures.ending heard (subst (λ session. SessionGoesOn session heard) (sym same) has.session))

pub returns-in-Ok-SomeRefused : goal.returns-in-Ok-SomeRefused
returns-in-Ok-SomeRefused g c =
    let old = c.args.self.now in
    let same : Some c.in-Some.session ≡ old.session = (cc) in
    let new = record old { session = c.take.new.self; waiting = c.close.new.out } in
    let waits = drop old.waiting.taken old.waiting.bytes.items in
    let unread = drop c.close.new.out.taken c.close.new.out.bytes.items in
    session-closed old new SomeRefused (λ none. let e = same ∙ none in cc) (λ (heard : List (List ℕ)) (read : List ℕ) (has : Stands old heard read). record {
      session = c.take.ensures.after;
      report = report-whole waits unread heard read old.waiting.faults c.close.new.out.faults c.in-Ok-SomeRefused.field-0 c.session_pieces.ensures.end has.report
          (c.in-Ok-SomeRefused.ensures.writes heard (subst (λ session. SessionGoesOn session heard) (sym same) has.session));
    })
    (λ (heard : List (List ℕ)) (read : List ℕ) (has : Stands old heard read). sym c.in-Ok-SomeRefused.field-0-is
    ∙ c.in-Ok-SomeRefused.ensures.ending heard (subst (λ session. SessionGoesOn session heard) (sym same) has.session))

pub returns-in-Err : goal.returns-in-Err
returns-in-Err g c =
    let old = c.args.self.now in
    let same : Some c.in-Some.session ≡ old.session = (cc) in
    let new = record old { session = c.take.new.self; waiting = c.close.new.out } in
    let waits = drop old.waiting.taken old.waiting.bytes.items in
    end-broken old new (λ none. let e = same ∙ none in cc) (λ (heard : List (List ℕ)) (read : List ℕ) (has : Stands old heard read).
    breaks new waits _ _ read old.waiting.faults c.close.new.out.faults c.in-Err.field-0 c.take.ensures.after has.report
    (c.in-Err.ensures.writes heard (subst (λ session. SessionGoesOn session heard) (sym same) has.session)))
