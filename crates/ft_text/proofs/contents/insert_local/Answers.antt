use Rattle.std.proofs.Common.{[], None, ap, length, refl}
use Rattle.ft_base.specs.declared.stamps.Stamp.TheVariants.{Local}
use Rattle.ft_base.specs.Scan.{no_run}
use Rattle.ft_block.specs.Leaves.{last_stage}
use Rattle.ft_tree_leaves.specs.Elements.{seen_in}
use Rattle.ft_tree_leaves.specs.TextLeaves.{text_units}
use Rattle.ft_op.specs.Operation.{segment_contents}
use Rattle.ft_props.specs.Properties.{apply, max_safe_integer}
use Rattle.ft_text.specs.Contents.{contents_in}
use Rattle.ft_text.proofs.PutInParts.{fewer, inserts-begin, inserts-done, inserts-next, inserts-room, last-new, puts-by, puts-made, reads-begin, reads-next}
use Rattle.ft_text.proofs.contents.insert_local.Goals as goal

pub loop-content-init : goal.loop-content-init
loop-content-init g c = record {
  inserts = inserts-begin (seen_in last_stage) no_run c.args.p (Local c.args.stage) None (apply [] c.args.props.now) (segment_contents c.args.seg.now)
      (contents_in c.in_ok-contents.contents) c.args.tree.now c.in_ok-contents.ensures.units c.in_ok-contents.ensures.new c.requires.usable;
  reads = reads-begin (segment_contents c.args.seg.now) (contents_in c.in_ok-contents.contents) c.args.tree.now c.args.steps.now c.in_ok-contents.ensures.one;
}

pub loop-content-smaller : goal.loop-content-smaller
loop-content-smaller g c = fewer (contents_in c.pop.new.self) (contents_in c.loop-content.contents) c.in-Some.content c.in-Some.ensures

pub loop-content-preserved : goal.loop-content-preserved
loop-content-preserved g c =
    let ins = Local c.args.stage in
    let props = apply [] c.args.props.now in
    let by = last-new (seen_in last_stage) no_run c.args.p ins None props (contents_in c.pop.new.self) c.in-Some.content (contents_in c.loop-content.contents)
    c.loop-content.invariant.inserts.fresh c.in-Some.ensures in
    record {
      inserts = inserts-next (seen_in last_stage) no_run c.args.p ins None props (segment_contents c.args.seg.now) (contents_in c.pop.new.self) c.in-Some.content
          (contents_in c.loop-content.contents) c.args.tree.now c.loop-content.tree c.insert_local.new.self c.loop-content.invariant.inserts c.in-Some.ensures
          (λ e h. refl) c.in_ok-insert_local.ensures.inside
          (puts-made (seen_in last_stage) no_run c.args.p ins None props (text_units c.in-Some.content) c.loop-content.tree c.insert_local.new.self
          (puts-by (seen_in last_stage) no_run c.args.p ins props (text_units c.in-Some.content) c.loop-content.tree c.insert_local.new.self by c.in_ok-insert_local.ensures.elements)
          c.in_ok-insert_local.ensures.refs c.in_ok-insert_local.ensures.rest c.in_ok-insert_local.ensures.made);
      reads = reads-next (segment_contents c.args.seg.now) (contents_in c.pop.new.self) (contents_in c.loop-content.contents) c.in-Some.content c.args.tree.now c.loop-content.tree
          c.insert_local.new.self c.args.steps.now c.loop-content.steps c.insert_local.new.steps c.loop-content.invariant.reads c.in-Some.ensures
          c.in_ok-insert_local.ensures.reads;
    }

pub returns-clause-ok : goal.returns-clause-ok
returns-clause-ok g c =
    inserts-done (seen_in last_stage) no_run c.args.p (Local c.args.stage) None (apply [] c.args.props.now)
    (segment_contents c.args.seg.now) (contents_in c.loop-content.contents) c.args.tree.now c.loop-content.tree c.loop-content.invariant.inserts
    (ap length c.in_default.ensures)

pub returns-clause-reads : goal.returns-clause-reads
returns-clause-reads g c = c.loop-content.invariant.reads.after

pub insert_local-requires-clause-usable : goal.insert_local-requires-clause-usable
insert_local-requires-clause-usable g c = c.loop-content.invariant.inserts.usable

pub insert_local-requires-clause-made : goal.insert_local-requires-clause-made
insert_local-requires-clause-made g c =
    inserts-room (seen_in last_stage) no_run c.args.p (Local c.args.stage) None (apply [] c.args.props.now) max_safe_integer
    (segment_contents c.args.seg.now) (contents_in c.pop.new.self) c.in-Some.content (contents_in c.loop-content.contents) c.args.tree.now c.loop-content.tree
    c.loop-content.invariant.inserts c.in-Some.ensures c.requires.made
