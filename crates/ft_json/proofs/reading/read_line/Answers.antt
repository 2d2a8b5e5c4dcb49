use Rattle.std.proofs.Common.{◌∙◌, ap, sym, true≢false}
use Rattle.serde_json.specs.Read.{read}
use Rattle.ft_json.proofs.Lines.{read_line-not_utf8, read_line-not_json, read_line-value}
use Rattle.ft_json.proofs.reading.read_line.Goals as goal

pub returns-in_default-clause-err : goal.returns-in_default-clause-err
returns-in_default-clause-err c = λ _. read_line-not_utf8 c.args.bytes.now c.in_default.ensures.cases.0

pub returns-in-Ok-from_str-clause-ok : goal.returns-in-Ok-from_str-clause-ok
returns-in-Ok-from_str-clause-ok c =
    let utf8 = c.in-Ok.ensures.cases.1 in
    let same = c.in-Ok.ensures.cases.0 in
    read_line-value c.args.bytes.now _ utf8 (ap read (sym same) ∙ c.in-Ok-from_str.ensures.ok)

pub returns-in-Err-2-clause-err : goal.returns-in-Err-2-clause-err
returns-in-Err-2-clause-err c =
    let utf8 = c.in-Ok.ensures.cases.1 in
    let same = c.in-Ok.ensures.cases.0 in
    λ _. read_line-not_json c.args.bytes.now utf8 (ap read (sym same) ∙ c.in-Err.ensures.err (λ memory. true≢false (sym (c.is_memory.ensures.1 memory) ∙ c.if-is_memory.false)))
