use Rattle.std.proofs.Common.{◌≡◌, arith}
use Rattle.ft_block.specs.Leaves.{times_leaf}
use Rattle.ft_tree_blocks.proofs.MovedLeaves.{place_among, place_apart}
use Rattle.ft_tree_steps.proofs.edits.move_at.Goals as goal

pub move_after-requires : goal.move_after-requires
move_after-requires g c =
    let xs = c.args.blocks.now.leaves in
    let one : times_leaf xs c.args.id ≡ 1 = omega (arith, c.requires.live, c.first-first.ensures.once c.args.id) in
    record {
      usable = c.requires.usable;
      live = c.requires.live;
      place = place_among xs c.args.id one c.args.at c.requires.place;
      differ = place_apart xs c.args.id one c.args.at c.requires.place;
    }
