use Rattle.std.proofs.Common.{string_bytes}
use Rattle.ft_replay.proofs.LastLines.{lines-none, lines-some}
use Rattle.ft_replay.proofs.report.push_last.Goals as goal

pub returns-in-None : goal.returns-in-None
returns-in-None c = λ doc h.
    lines-none c.args.refused c.args.counts (string_bytes c.args.text.now) (string_bytes c.push_refused.new.text) c.push_refused.result doc
    c.in-None.is h c.push_refused.ensures

pub returns-in-Some : goal.returns-in-Some
returns-in-Some c = λ doc h.
    lines-some c.args.refused c.args.counts (string_bytes c.args.text.now) (string_bytes c.push_closing.new.text) c.push_closing.result doc
    c.in-Some.counts c.in-Some.is h c.push_closing.ensures
