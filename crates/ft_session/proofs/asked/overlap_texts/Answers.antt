-- One text more.
use Rattle.std.proofs.Common.{◌+◌, drop}
use Rattle.serde_json.specs.Written.{compact_text}
use Rattle.ft_seqr.specs.AnswerTexts.{written_overlap}
use Rattle.ft_session.proofs.Asking.{text-added}
use Rattle.ft_delivery.proofs.Rests.{rest-at}
use Rattle.ft_session.proofs.asked.overlap_texts.Goals as goal

pub loop-interval-preserved : goal.loop-interval-preserved
loop-interval-preserved c = text-added written_overlap compact_text c.args.intervals.now (drop c.loop-interval.interval-index c.args.intervals.now)
    (drop (c.loop-interval.interval-index + 1) c.args.intervals.now) c.interval-item.result
    c.overlap_text.result c.loop-interval.values c.push_text.new.texts
    (rest-at c.args.intervals.now c.loop-interval.interval-index c.interval-item.result c.loop-interval-test.true c.interval-item.is)
    c.overlap_text.ensures c.in_ok-push_text.ensures c.loop-interval.invariant
