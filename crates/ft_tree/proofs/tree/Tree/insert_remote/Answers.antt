use Rattle.std.proofs.Common.{◌≡◌, ◌+◌, [], length, option_map, ap, ◌∙◌}
use Rattle.std.proofs.lemmas.Result.{on_ok_weaker}
use Rattle.ft_base.specs.declared.stamps.Stamp.TheVariants.{Acked}
use Rattle.ft_base.specs.Scan.{put}
use Rattle.ft_block.specs.declared.leaves.LenView.TheVariants.{At}
use Rattle.ft_tree_leaves.specs.Elements.{is_pending, seen_in}
use Rattle.ft_tree_leaves.specs.Edits.{with_place}
use Rattle.ft_tree_leaves.specs.LeafLists.{elements}
use Rattle.ft_tree_leaves.specs.Places.{put_place, shifted_place}
use Rattle.ft_tree_leaves.specs.References.{reference_at}
use Rattle.ft_props.specs.Properties.{apply}
use Rattle.ft_tree.proofs.TreeInside.{fresh_elements, held_listed}
use Rattle.ft_tree.proofs.tree.Tree.insert_remote.Goals as goal

pub returns-in-Ok-clause-elements : goal.returns-in-Ok-clause-elements
returns-in-Ok-clause-elements g c =
    let us = g.C.Content.units in
    let by = g.C.Content.by in
    let laws = g.met.C.Content in
    let k = c.args.content in
    let fresh =
    fresh_elements us by k c.stamped.new.self (Acked c.args.seq c.args.at.c) (g.C.Content.author c.args.seq c.args.at.c) (apply [] c.args.props.now)
    (ap us c.stamped.ensures ∙ laws.stamped_units k c.args.seq c.args.at.c) (ap by c.stamped.ensures ∙ laws.stamped_by k c.args.seq c.args.at.c) in
    let place = held_listed us by c.self.inside c.args.self.now c.self.view_is c.in-Ok.found.leaf c.in-Ok.found.offset
    (seen_in {U = g.row.C-Unit.Denot} (At c.args.at)) c.args.p c.list.result.now c.list.ensures c.in-Ok.ensures.place in
    on_ok_weaker c.put.result
    (λ p. p.list ∙ ap (λ es. put (seen_in (At c.args.at)) is_pending c.args.p es (elements us by c.args.self.now.leaves)) fresh)
    (c.put.ensures.ok (At c.args.at) c.args.p place)

pub returns-in-Ok-clause-refs : goal.returns-in-Ok-clause-refs
returns-in-Ok-clause-refs g c =
    let us = g.C.Content.units in
    let by = g.C.Content.by in
    let laws = g.met.C.Content in
    let size : length (us c.stamped.new.self) ≡ length (us c.args.content) =
    ap length (ap us c.stamped.ensures ∙ laws.stamped_units c.args.content c.args.seq c.args.at.c) in
    let place = held_listed us by c.self.inside c.args.self.now c.self.view_is c.in-Ok.found.leaf c.in-Ok.found.offset
    (seen_in {U = g.row.C-Unit.Denot} (At c.args.at)) c.args.p c.list.result.now c.list.ensures c.in-Ok.ensures.place in
    on_ok_weaker c.put.result (λ p r. p.refs r ∙ ap (λ n. option_map (with_place (shifted_place
    (put_place (seen_in {U = g.row.C-Unit.Denot} (At c.args.at)) is_pending c.args.p (elements us by c.args.self.now.leaves)) n))
    (reference_at c.args.self.now.refs r)) size) (c.put.ensures.ok (At c.args.at) c.args.p place)

pub returns-in-Ok-clause-nodes : goal.returns-in-Ok-clause-nodes
returns-in-Ok-clause-nodes g c =
    let us = g.C.Content.units in
    let by = g.C.Content.by in
    let place = held_listed us by c.self.inside c.args.self.now c.self.view_is c.in-Ok.found.leaf c.in-Ok.found.offset
    (seen_in {U = g.row.C-Unit.Denot} (At c.args.at)) c.args.p c.list.result.now c.list.ensures c.in-Ok.ensures.place in
    on_ok_weaker c.put.result (λ p. p.nodes) (c.put.ensures.ok (At c.args.at) c.args.p place)

pub returns-in-Ok-clause-rest : goal.returns-in-Ok-clause-rest
returns-in-Ok-clause-rest g c =
    let us = g.C.Content.units in
    let by = g.C.Content.by in
    let place = held_listed us by c.self.inside c.args.self.now c.self.view_is c.in-Ok.found.leaf c.in-Ok.found.offset
    (seen_in {U = g.row.C-Unit.Denot} (At c.args.at)) c.args.p c.list.result.now c.list.ensures c.in-Ok.ensures.place in
    on_ok_weaker c.put.result (λ p. p.rest) (c.put.ensures.ok (At c.args.at) c.args.p place)

pub returns-in-Ok-clause-made : goal.returns-in-Ok-clause-made
returns-in-Ok-clause-made g c =
    let us = g.C.Content.units in
    let by = g.C.Content.by in
    let laws = g.met.C.Content in
    let size : length (us c.stamped.new.self) ≡ length (us c.args.content) =
    ap length (ap us c.stamped.ensures ∙ laws.stamped_units c.args.content c.args.seq c.args.at.c) in
    let place = held_listed us by c.self.inside c.args.self.now c.self.view_is c.in-Ok.found.leaf c.in-Ok.found.offset
    (seen_in {U = g.row.C-Unit.Denot} (At c.args.at)) c.args.p c.list.result.now c.list.ensures c.in-Ok.ensures.place in
    on_ok_weaker c.put.result (λ p. p.made ∙ ap (λ n. c.args.self.now.made + n) size) (c.put.ensures.ok (At c.args.at) c.args.p place)
