use Rattle.std.proofs.Common.{◌∙◌, ap, length}
use Rattle.ft_block.proofs.CallerLemmas.{length-put_leaf}
use Rattle.ft_tests_tree.proofs.NewLeaves.{put-in}
use Rattle.ft_tests_tree.proofs.bounds.put_behind.Goals as goal

pub returns-clause-place : goal.returns-clause-place
returns-clause-place g c =
    rw c.in_ok-insert_after.ensures.ok (put-in c.args.blocks.now.leaves c.args.at (c.in_ok-insert_after.field-0, c.args.leaf) c.requires.place)

pub returns-clause-more : goal.returns-clause-more
returns-clause-more g c =
    ap length c.in_ok-insert_after.ensures.ok
    ∙ length-put_leaf c.args.blocks.now.leaves c.args.at (c.in_ok-insert_after.field-0, c.args.leaf) c.requires.place c.first-first.ensures.once
