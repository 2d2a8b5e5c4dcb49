use Rattle.std.proofs.Common.{[], ap, length, not}
use Rattle.ft_base.specs.declared.stamps.Stamp.TheVariants.{Acked}
use Rattle.ft_base.specs.Visibility.{is_acked}
use Rattle.ft_block.specs.declared.leaves.LenView.TheVariants.{At}
use Rattle.ft_tree_leaves.specs.Elements.{is_pending, seen_in}
use Rattle.ft_tree_leaves.specs.TextLeaves.{text_author, text_units}
use Rattle.ft_op.specs.Operation.{segment_contents}
use Rattle.ft_props.specs.Properties.{apply, max_safe_integer}
use Rattle.ft_text.specs.Contents.{contents_in}
use Rattle.ft_text.proofs.PutInParts.{fewer, inserts-begin, inserts-done, inserts-next, inserts-room, puts-made}
use Rattle.ft_text.proofs.contents.insert_remote.Goals as goal

pub loop-content-init : goal.loop-content-init
loop-content-init g c =
    inserts-begin (seen_in (At c.args.at)) is_pending c.args.p (Acked c.args.seq c.args.at.c) (text_author c.args.seq c.args.at.c) (apply [] c.args.props.now)
    (segment_contents c.args.seg.now) (contents_in c.in_ok-contents.contents) c.args.tree.now c.in_ok-contents.ensures.units c.in_ok-contents.ensures.new c.requires.usable

pub loop-content-smaller : goal.loop-content-smaller
loop-content-smaller g c = fewer (contents_in c.pop.new.self) (contents_in c.loop-content.contents) c.in-Some.content c.in-Some.ensures

pub loop-content-preserved : goal.loop-content-preserved
loop-content-preserved g c =
    let at = c.args.at in
    let ins = Acked c.args.seq at.c in
    let by = text_author c.args.seq at.c in
    let props = apply [] c.args.props.now in
    inserts-next (seen_in (At at)) is_pending c.args.p ins by props (segment_contents c.args.seg.now) (contents_in c.pop.new.self) c.in-Some.content
    (contents_in c.loop-content.contents) c.args.tree.now c.loop-content.tree c.insert_remote.new.self c.loop-content.invariant c.in-Some.ensures
    (λ e h. ap (λ t. not (is_acked t)) h) c.in_ok-insert_remote.ensures.inside
    (puts-made (seen_in (At at)) is_pending c.args.p ins by props (text_units c.in-Some.content) c.loop-content.tree c.insert_remote.new.self
    c.in_ok-insert_remote.ensures.elements c.in_ok-insert_remote.ensures.refs c.in_ok-insert_remote.ensures.rest c.in_ok-insert_remote.ensures.made)

pub returns : goal.returns
returns g c =
    inserts-done (seen_in (At c.args.at)) is_pending c.args.p (Acked c.args.seq c.args.at.c) (text_author c.args.seq c.args.at.c) (apply [] c.args.props.now)
    (segment_contents c.args.seg.now) (contents_in c.loop-content.contents) c.args.tree.now c.loop-content.tree c.loop-content.invariant
    (ap length c.in_default.ensures)

pub insert_remote-requires-clause-usable : goal.insert_remote-requires-clause-usable
insert_remote-requires-clause-usable g c = c.loop-content.invariant.usable

pub insert_remote-requires-clause-made : goal.insert_remote-requires-clause-made
insert_remote-requires-clause-made g c =
    inserts-room (seen_in (At c.args.at)) is_pending c.args.p (Acked c.args.seq c.args.at.c) (text_author c.args.seq c.args.at.c) (apply [] c.args.props.now) max_safe_integer
    (segment_contents c.args.seg.now) (contents_in c.pop.new.self) c.in-Some.content (contents_in c.loop-content.contents) c.args.tree.now c.loop-content.tree
    c.loop-content.invariant c.in-Some.ensures c.requires.made
