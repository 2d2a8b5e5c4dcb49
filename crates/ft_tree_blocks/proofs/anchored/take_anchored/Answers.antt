use Rattle.std.proofs.lemmas.Result.{on_ok_weaker}
use Rattle.ft_tree_blocks.proofs.KeptRefs.{kept_without}
use Rattle.ft_tree_blocks.proofs.RefSteps.{free_places}
use Rattle.ft_tree_blocks.proofs.Walks.{live_value}
use Rattle.ft_block.specs.Leaves.{without_leaf}
use Rattle.ft_tree_blocks.specs.Touched.{all_purged}
use Rattle.ft_tree_blocks.proofs.TrackedSteps.{tracks-is, tracks-without}
use Rattle.ft_tree_blocks.proofs.anchored.take_anchored.Goals as goal

pub returns-clause-refs : goal.returns-clause-refs
returns-clause-refs g c =
    let us = g.C.Content.units in
    let by = g.C.Content.by in
    let xs = c.args.blocks.now.leaves in
    let once = c.first-first.ensures.once in
    let a = c.args._refs.now.anchors in
    let ns = c.args._refs.now.unsettled.items in
    let v = live_value xs c.args.id c.requires.live in
    on_ok_weaker c.take.result
    (λ e. (kept_without us by xs once a ns c.requires.sound c.take.new.self.leaves c.args.id v.0 v.1 e
    (free_places us by xs once a ns c.requires.sound c.take.new.self.leaves c.args.id v.0 v.1 c.requires.free)).references)
    c.take.ensures.ok

pub returns-clause-sound : goal.returns-clause-sound
returns-clause-sound g c =
    let us = g.C.Content.units in
    let by = g.C.Content.by in
    let xs = c.args.blocks.now.leaves in
    let once = c.first-first.ensures.once in
    let a = c.args._refs.now.anchors in
    let ns = c.args._refs.now.unsettled.items in
    let v = live_value xs c.args.id c.requires.live in
    on_ok_weaker c.take.result
    (λ e. (kept_without us by xs once a ns c.requires.sound c.take.new.self.leaves c.args.id v.0 v.1 e
    (free_places us by xs once a ns c.requires.sound c.take.new.self.leaves c.args.id v.0 v.1 c.requires.free)).sound)
    c.take.ensures.ok

pub returns-clause-tracks : goal.returns-clause-tracks
returns-clause-tracks g c =
    let xs = c.args.blocks.now.leaves in
    let ss = c.args.touched.now.items in
    let id = c.args.id in
    on_ok_weaker c.take.result
    (λ e. tracks-is (without_leaf xs id) c.take.new.self.leaves (all_purged id ss) c.purge.new.touched.items e c.purge.ensures (tracks-without xs ss
    c.requires.tracks id))
    c.take.ensures.ok

pub first-first-requires : goal.first-first-requires
first-first-requires g c = c.requires.usable

pub take-requires-clause-usable : goal.take-requires-clause-usable
take-requires-clause-usable g c = c.requires.usable

pub take-requires-clause-live : goal.take-requires-clause-live
take-requires-clause-live g c = c.requires.live

pub returns-clause-value : goal.returns-clause-value
returns-clause-value g c = c.take.ensures.value

pub returns-clause-ok : goal.returns-clause-ok
returns-clause-ok g c = c.take.ensures.ok

pub returns-clause-usable : goal.returns-clause-usable
returns-clause-usable g c = c.take.ensures.usable

pub returns-clause-floor : goal.returns-clause-floor
returns-clause-floor g c = c.take.ensures.floor
