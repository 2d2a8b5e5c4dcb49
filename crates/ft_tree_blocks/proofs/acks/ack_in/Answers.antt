use Rattle.std.proofs.Common.{◌≡◌, ℕ, List, map, refl, subst, sym, ◌∙◌, ap}
use Rattle.std.proofs.lemmas.Result.{on_ok_weaker}
use Rattle.ft_block.specs.Leaves.{IsLeafIn}
use Rattle.ft_tree_leaves.specs.LeafChanges.{acked_pair}
use Rattle.ft_tree_leaves.specs.References.{KeepsReferences}
use Rattle.ft_tree_blocks.specs.Anchors.{AnchorLists, references_on}
use Rattle.ft_tree_blocks.specs.Touched.{holds, is_listed}
use Rattle.ft_tree_blocks.specs.Unsettled.{IsSoundOn, NotesAll}
use Rattle.ft_tree_blocks.proofs.AckedNodes.{all-held}
use Rattle.ft_tree_blocks.proofs.KeptRefs.{kept_references}
use Rattle.ft_tree_blocks.proofs.RefSteps.{kept_acked}
use Rattle.ft_tree_blocks.proofs.StepValues.{is_live}
use Rattle.ft_tree_blocks.proofs.TouchedLists.{Takes}
use Rattle.ft_tree_blocks.proofs.TrackedSteps.{tracks-acked, tracks-is}
use Rattle.ft_tree_blocks.proofs.acks.ack_in.Goals as goal

pub ack_nodes-requires : goal.ack_nodes-requires
ack_nodes-requires g c =
    let xs = c.args.blocks.now.leaves in
    let ss = c.args.touched.now.items in
    let k = c.args.stage in
    let same : (z : ℕ) → holds c.as_slice-nodes.result.now z ≡ is_listed ss k z = λ z.
    ap (λ (ns : List ℕ). holds ns z) c.as_slice-nodes.ensures ∙ c.take_stage-taken.ensures.nodes z in
    record {
      usable = c.requires.usable;
      lowest = c.requires.lowest;
      live = all-held (IsLeafIn xs) c.as_slice-nodes.result.now (λ z h. is_live xs z (c.requires.tracks.live k z (sym (same z) ∙ h)));
      covers = λ z x e t. same z ∙ c.requires.tracks.covers k z x e t;
    }

pub returns-clause-tracks : goal.returns-clause-tracks
returns-clause-tracks g c =
    let xs = c.args.blocks.now.leaves in
    let ss = c.args.touched.now.items in
    let ts = c.take_stage-taken.new.touched.items in
    let k = c.args.stage in
    let stamped = g.C.Content.stamped in
    let e = c.take_stage-taken.ensures in
    let takes : Takes k ss ts c.take_stage-taken.result.items = record { nodes = e.nodes; gone = e.gone; others = e.others; rising = e.rising } in
    on_ok_weaker c.ack_nodes.result
    (λ h. tracks-is (map (acked_pair stamped k c.args.seq c.args.conn) xs) c.ack_nodes.new.blocks.leaves ts ts h refl
    (tracks-acked stamped k c.args.seq c.args.conn xs ss ts c.take_stage-taken.result.items c.requires.tracks takes))
    c.ack_nodes.ensures.leaves

pub returns-clause-refs : goal.returns-clause-refs
returns-clause-refs g c =
    let us = g.C.Content.units in
    let by = g.C.Content.by in
    let xs = c.args.blocks.now.leaves in
    let once = c.first-first.ensures.once in
    let a = c.args.refs.now.anchors in
    let ns = c.args.refs.now.unsettled.items in
    let ss = c.args.touched.now.items in
    let k = c.args.stage in
    let ids = c.as_slice-nodes.result.now in
    let same : (z : ℕ) → holds ids z ≡ is_listed ss k z = λ z.
    ap (λ (ns : List ℕ). holds ns z) c.as_slice-nodes.ensures ∙ c.take_stage-taken.ensures.nodes z in
    let more = c.unsettle_all.new.self.unsettled.items in
    let now = c.ack_nodes.new.blocks.leaves in
    let notes = subst (λ (b : AnchorLists). NotesAll b ids ns more) c.unsettle_all.ensures.anchors c.in_ok-unsettle_all.ensures.notes in
    let b = c.unsettle_all.new.self.anchors in
    on_ok_weaker c.ack_nodes.result
    (λ e. subst (λ (d : AnchorLists). KeepsReferences (references_on us by xs a) (references_on us by now d)) (sym c.unsettle_all.ensures.anchors)
    (kept_references us by xs now a a more (kept_acked us by xs once a ns c.requires.sound now g.C.Content.stamped g.met.C.Content.stamped_units k c.args.seq c.args.conn ids more
    (λ z x v t. same z ∙ c.requires.tracks.covers k z x v t) notes e)))
    c.ack_nodes.ensures.leaves

pub returns-clause-sound : goal.returns-clause-sound
returns-clause-sound g c =
    let us = g.C.Content.units in
    let by = g.C.Content.by in
    let xs = c.args.blocks.now.leaves in
    let once = c.first-first.ensures.once in
    let a = c.args.refs.now.anchors in
    let ns = c.args.refs.now.unsettled.items in
    let ss = c.args.touched.now.items in
    let k = c.args.stage in
    let ids = c.as_slice-nodes.result.now in
    let same : (z : ℕ) → holds ids z ≡ is_listed ss k z = λ z.
    ap (λ (ns : List ℕ). holds ns z) c.as_slice-nodes.ensures ∙ c.take_stage-taken.ensures.nodes z in
    let more = c.unsettle_all.new.self.unsettled.items in
    let now = c.ack_nodes.new.blocks.leaves in
    let notes = subst (λ (b : AnchorLists). NotesAll b ids ns more) c.unsettle_all.ensures.anchors c.in_ok-unsettle_all.ensures.notes in
    on_ok_weaker c.ack_nodes.result
    (λ e. subst (λ (d : AnchorLists). IsSoundOn us now d more) (sym c.unsettle_all.ensures.anchors)
    (kept_acked us by xs once a ns c.requires.sound now g.C.Content.stamped g.met.C.Content.stamped_units k c.args.seq c.args.conn ids more
    (λ z x v t. same z ∙ c.requires.tracks.covers k z x v t) notes e).sound)
    c.ack_nodes.ensures.leaves
