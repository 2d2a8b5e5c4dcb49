use Rattle.std.proofs.Common.{ap, sym, ◌++◌}
use Rattle.ft_msg.specs.Client.{stages_of}
use Rattle.ft_changes.specs.Shown.{shown_content}
use Rattle.ft_changes.specs.Told.{told_rest}
use Rattle.ft_replica.specs.Comparing.{compared_part}
use Rattle.ft_replica.proofs.ComparedParts.{after-compared, ok-same}
use Rattle.ft_replica.proofs.linked.telling.tell_rest.Goals as goal

pub returns : goal.returns
returns g c = λ s low p is lists named last h.
    let compared = c.args.compared in
    let old = c.args.changes.now in
    let op = c.args.op.now in
    let stages = stages_of p in
    let after = compared_part compared op stages (shown_content p) in
    ok-same c.add_rest.result _ _ _ (ap (λ t. old ++ told_rest t after) (after-compared compared op stages s old lists))
    (c.add_rest.ensures (compared_part compared op stages s) after is (sym (c.in_ok-after.ensures low p named last h)) lists)
