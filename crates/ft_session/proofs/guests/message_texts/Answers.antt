-- One text more.
use Rattle.std.proofs.Common.{◌+◌, drop}
use Rattle.serde_json.specs.Written.{compact_text}
use Rattle.ft_msg.specs.declared.messages.Entry.{Entry}
use Rattle.ft_msg.specs.Written.{written_message}
use Rattle.ft_session.proofs.Asking.{text-added}
use Rattle.ft_delivery.proofs.Rests.{rest-at}
use Rattle.ft_session.proofs.guests.message_texts.Goals as goal

pub loop-entry-preserved : goal.loop-entry-preserved
loop-entry-preserved c = text-added (λ (entry : Entry). written_message entry.msg) compact_text c.args.entries.now
    (drop c.loop-entry.entry-index c.args.entries.now) (drop (c.loop-entry.entry-index + 1) c.args.entries.now) c.entry-item.result
    c.write_message.result c.loop-entry.values c.push_text.new.texts
    (rest-at c.args.entries.now c.loop-entry.entry-index c.entry-item.result c.loop-entry-test.true c.entry-item.is) c.write_message.ensures.text
    c.in_ok-push_text.ensures c.loop-entry.invariant
