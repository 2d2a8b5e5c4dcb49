use Rattle.std.proofs.Common.{ap, string_bytes}
use Rattle.std.proofs.lemmas.Result.{on_ok_weaker}
use Rattle.ft_seqr.specs.ViewLines.{content_lines}
use Rattle.ft_replay.proofs.ClientHeads.{head_of, lines_behind}
use Rattle.ft_replay.proofs.event_lines.push_client.Goals as goal

pub returns : goal.returns
returns c = λ m v.
    let before = string_bytes c.args.text.now in
    let first = string_bytes c.push_head.new.text in
    let all = string_bytes c.push_content.new.text in
    on_ok_weaker c.push_content.result (lines_behind before first all _ _ _ _ c.in_ok-push_head.ensures
    (head_of m c.args.name.now c.args.view.now v) (ap content_lines v.shows))
    c.push_content.ensures
