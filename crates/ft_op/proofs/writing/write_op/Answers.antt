use Rattle.std.proofs.Common.{◌≤◌, ◌∙◌, sym, ap, subst, arith}
use Rattle.std.proofs.lemmas.Result.{IfOk-weaker}
use Rattle.serde_json.specs.Data.{depth}
use Rattle.serde_json.specs.Written.{compact_text}
use Rattle.ft_json.specs.Canonical.{IsCanonical}
use Rattle.ft_json.specs.Reading.{read_line}
use Rattle.ft_json.proofs.Back.{read_line-compact_text}
use Rattle.ft_op.specs.Written.{written}
use Rattle.ft_op.proofs.CanonicalOperations.{canonical_op}
use Rattle.ft_op.proofs.LevelsOfOperations.{op_levels}
use Rattle.ft_op.proofs.ReadOperations.{op_back}
use Rattle.ft_op.proofs.writing.write_op.Goals as goal

pub compact-requires : goal.compact-requires
compact-requires c =
    subst IsCanonical (sym c.in_ok-value.ensures.value) (canonical_op c.args.op.now c.in_ok-value.ensures.representable c.requires)

pub returns-clause-text : goal.returns-clause-text
returns-clause-text c = IfOk-weaker c.compact.result _ _ (λ text e. e ∙ ap compact_text c.in_ok-value.ensures.value) c.compact.ensures

pub returns-clause-reads_back : goal.returns-clause-reads_back
returns-clause-reads_back c =
    let op = c.args.op.now in
    let shallow : depth (written op) ≤ 127 = omega (arith, op_levels op c.requires) in
    let reads = read_line-compact_text (written op) (canonical_op op c.in_ok-value.ensures.representable c.requires) shallow in
    IfOk-weaker c.compact.result _ _ (λ text e. ap read_line (e ∙ ap compact_text c.in_ok-value.ensures.value) ∙ reads) c.compact.ensures

pub returns-clause-same : goal.returns-clause-same
returns-clause-same c =
    IfOk-weaker c.compact.result _ _ (λ text e. op_back c.args.op.now c.in_ok-value.ensures.representable c.requires) c.compact.ensures
