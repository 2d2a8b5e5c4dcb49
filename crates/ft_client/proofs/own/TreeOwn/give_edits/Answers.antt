use Rattle.std.proofs.Common.{◌+◌, drop, slice_index_or, subst, sym}
use Rattle.ft_client.proofs.GivenEdits.{GivesEach, count-ahead, each-next, edit-given, edits-given}
use Rattle.ft_client.proofs.own.TreeOwn.give_edits.Goals as goal

pub give_edit-requires : goal.give_edit-requires
give_edit-requires c =
    let counts = c.args.counts.now in
    let i = c.loop-count.count-index in
    record {
      known = edit-given c.args.self.now c.loop-count.self counts i (slice_index_or counts i 0) (drop (i + 1) counts)
          c.loop-count.again.items (count-ahead counts i 0 c.loop-count-test.true) c.loop-count.invariant c.requires.known;
    }

pub loop-count-preserved : goal.loop-count-preserved
loop-count-preserved c =
    let counts = c.args.counts.now in
    let i = c.loop-count.count-index in
    subst (GivesEach c.args.self.now c.give_edit.new.self counts (i + 1)) (sym c.in_ok-push_back.ensures.items)
    (each-next c.args.self.now c.loop-count.self counts i (slice_index_or counts i 0) (drop (i + 1) counts) c.loop-count.again.items
    (count-ahead counts i 0 c.loop-count-test.true) c.loop-count.invariant
    c.give_edit.new.self c.in_ok-edit.edit c.in_ok-edit.ensures)

pub returns : goal.returns
returns c = edits-given c.args.self.now c.loop-count.self c.args.counts.now c.loop-count.count-index c.loop-count.again.items c.loop-count-test.false c.loop-count.invariant
