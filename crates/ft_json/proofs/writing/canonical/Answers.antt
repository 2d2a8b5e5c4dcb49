use Rattle.std.proofs.Common.{◌≤◌, arith, ap, sym, ◌∙◌, leb-true}
use Rattle.serde_json.specs.Data.{depth}
use Rattle.serde_json.specs.View.{view}
use Rattle.ft_json.specs.Reading.{read_line}
use Rattle.ft_json.proofs.Back.{read_line-compact_text}
use Rattle.ft_json.proofs.writing.canonical.Goals as goal

pub returns-clause-reads_back : goal.returns-clause-reads_back
returns-clause-reads_back c =
    let d = view c.args.value.now in
    let shallow : depth d ≤ 100 = leb-true _ _ (sym c.has_at_most.ensures ∙ c.if-not-has_at_most.false) in
    ap read_line c.in_ok-compact.ensures ∙ read_line-compact_text d (c.has_whole_numbers.ensures.canonical c.if-not-has_whole_numbers.false) (omega arith)
