use Rattle.std.proofs.Common.{sym, ◌∙◌}
use Rattle.ft_block.specs.Leaves.{last_stage}
use Rattle.ft_tree_blocks.proofs.FoundLeaves.{len_elements}
use Rattle.ft_tree_steps.proofs.FoundPlaces.{found_at, found_inside}
use Rattle.ft_tree_steps.proofs.places.find_local.Goals as goal

pub returns-in-Ok : goal.returns-in-Ok
returns-in-Ok g c =
    let us = g.C.Content.units in
    let by = g.C.Content.by in
    let xs = c.args.blocks.now.leaves in
    let at = found_at us by last_stage xs c.args.p c.in-Ok.found c.first-first.ensures.once c.in-Ok.ensures.found in
    record {
      held = at.held;
      place = sym at.place;
      inside = found_inside us by last_stage xs c.args.p c.in-Ok.found c.in-Ok.ensures.found;
      length = tt;
      beyond = tt;
      cost = c.in-Ok.ensures.cost;
    }

pub returns-in-Err : goal.returns-in-Err
returns-in-Err g c =
    record {
      held = tt;
      place = tt;
      inside = tt;
      length = c.in-Err.ensures.length ∙ sym (len_elements g.C.Content.units g.C.Content.by last_stage c.args.blocks.now.leaves);
      beyond = c.in-Err.ensures.beyond;
      cost = c.in-Err.ensures.cost;
    }
