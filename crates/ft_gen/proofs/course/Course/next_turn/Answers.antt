use Rattle.std.proofs.Common.{◌≡◌, ◌+◌, ◌++◌, ap, sym, ◌∙◌, arith}
use Rattle.ft_gen.specs.Rounds.{share}
use Rattle.ft_gen.specs.Course.{rounds_on}
use Rattle.ft_gen.proofs.Turns.{begins-sound, idle-sound, turn-begins, turn-idle, turns-over}
use Rattle.ft_gen.proofs.course.Course.next_turn.Goals as goal

pub returns-then-edits-gt0 : goal.returns-then-edits-gt0
returns-then-edits-gt0 c =
    let l = c.loop-client in
    let course = c.args.self in
    let share = c.share-edits in
    let here = turn-begins course.clients course.round c.args.roles c.args.agreed l.client share.result l.progress share.new.self (omega arith) share.ensures.share share.ensures.progress in
    let sound = begins-sound course.clients course.round c.args.roles c.args.agreed l.client share.result l.progress share.new.self l.invariant.numbers (omega arith) (omega arith) share.ensures.share share.ensures.progress in
    record {
      told = l.invariant.told ∙ here;
      sound = record { first = c.requires.first; few = c.requires.few; place = (sound, omega arith) };
    }

pub loop-client-preserved : goal.loop-client-preserved
loop-client-preserved c =
    let l = c.loop-client in
    let course = c.args.self in
    let made = c.share-edits in
    let none : share l.progress ≡ 0 = omega (arith, made.ensures.share) in
    let next = turn-idle course.clients course.round c.args.roles c.args.agreed l.client l.progress (omega arith) none in
    record {
      within = omega arith;
      numbers = idle-sound course.round c.args.roles c.args.agreed l.client l.progress made.new.self l.invariant.numbers none made.ensures.progress;
      told = l.invariant.told ∙ (next ∙ sym cc);
    }

pub returns : goal.returns
returns c =
    let l = c.loop-client in
    let course = c.args.self in
    let numbers = l.invariant.numbers in
    let over = turns-over course.clients course.round c.args.roles c.args.agreed l.client l.progress (omega arith) in
    let rest = rounds_on course.clients (course.round + 1) l.progress in
    record {
      told = l.invariant.told ∙ (over ∙ ap (λ es. es ++ rest) c.first-exchange.ensures.told);
      sound = record {
        first = c.requires.first;
        few = c.requires.few;
        place = (c.first-exchange.ensures.sound, record { rounds = omega (arith, numbers.later (omega arith)); intervals = numbers.intervals; length = numbers.length });
      };
    }
