use Rattle.std.proofs.Common.{◌≡◌, ℕ, ◌+◌, List, drop, get_or, subst, sym, arith}
use Rattle.std.proofs.lemmas.List.{drop_all}
use Rattle.ft_tree_blocks.proofs.NotedLeaves.{NotesSome, drop_next, some_all, some_first, some_next}
use Rattle.ft_tree_blocks.proofs.leaf_refs.note_all.Goals as goal

pub loop-id-init : goal.loop-id-init
loop-id-init c = some_first c.args.anchors.now c.args.nodes.now c.args.unsettled.now.items

pub loop-id-preserved : goal.loop-id-preserved
loop-id-preserved c =
    let nodes = c.args.nodes.now in
    let i = c.loop-id.id-index in
    let id = c.id.inside.0 in
    let is : id ≡ get_or nodes i id = subst (λ z. z ≡ get_or nodes i z) (sym c.id.view_is) c.id-item.is in
    let next = drop_next nodes i id c.loop-id-test.true is in
    some_next c.args.anchors.now nodes (drop (i + 1) nodes) c.args.unsettled.now.items c.loop-id.unsettled.items c.note.new.unsettled.items id
    (subst (λ (zs : List ℕ). NotesSome c.args.anchors.now nodes zs c.args.unsettled.now.items c.loop-id.unsettled.items) next c.loop-id.invariant) c.in_ok-note.ensures

pub returns : goal.returns
returns c =
    some_all c.args.anchors.now c.args.nodes.now (drop c.loop-id.id-index c.args.nodes.now) c.args.unsettled.now.items c.loop-id.unsettled.items c.loop-id.invariant
    (drop_all c.loop-id.id-index c.args.nodes.now (omega (arith, c.loop-id-test.false)))
