use Rattle.std.proofs.Common.{ap, map, string_bytes, ◌∙◌}
use Rattle.std.proofs.lemmas.Result.{on_ok_weaker}
use Rattle.ft_map.specs.MapClient.{view_of}
use Rattle.ft_map.specs.MapReport.{entry_line}
use Rattle.ft_shared_map.specs.Maps.{FiniteMap, map_of}
use Rattle.ft_shared_map.proofs.MapLaws.{map_of-pairs_of}
use Rattle.ft_replay.proofs.ClientHeads.{lines_behind, map_head_of}
use Rattle.ft_replay.proofs.map_lines.push_view.Goals as goal

pub returns : goal.returns
returns c = λ m v.
    let before = string_bytes c.args.text.now in
    let first = string_bytes c.push_head.new.text in
    let all = string_bytes c.push_entries.new.text in
    let shown = ap (λ (es : FiniteMap). map entry_line es) (ap map_of v.shows ∙ map_of-pairs_of (view_of m.client)) in
    on_ok_weaker c.push_entries.result
    (lines_behind before first all _ _ _ _ c.in_ok-push_head.ensures (map_head_of m c.args.name.now c.args.numbers v.name_is v.numbers_are) shown)
    c.push_entries.ensures
