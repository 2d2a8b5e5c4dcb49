use Rattle.std.proofs.Common.{◌≡◌, ◌∙◌, ◌&&◌, true, ap, sym}
use Rattle.std.proofs.lemmas.Bool.Decides.{same_from_decides}
use Rattle.ft_op.specs.Same.{same_list}
use Rattle.ft_sumdoc.specs.Stamps.{same_mark}
use Rattle.ft_marks.proofs.SameStamps.{same_marks-Decides}
use Rattle.ft_marks.proofs.marks.same_stamps.Goals as goal

pub returns-then-same_mark : goal.returns-then-same_mark
returns-then-same_mark c =
    let dels = c.args.dels.now in
    let others = c.args.other_dels.now in
    let ins : same_mark c.args.ins c.args.other_ins ≡ true = sym c.same_mark.ensures ∙ c.if-same_mark.true in
    same_from_decides c.same.result (same_list same_mark dels others) c.same.ensures (same_marks-Decides dels others)
    ∙ sym (ap (λ b. b && same_list same_mark dels others) ins)
