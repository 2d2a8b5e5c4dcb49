use Rattle.std.proofs.Common.{◌≡◌, true, false, [], refl, sym, ◌∙◌}
use Rattle.std.specs.List.{remove, slice_get}
use Rattle.ft_tree_blocks.specs.Touched.{is_list_of}
use Rattle.ft_tree_blocks.proofs.TouchedLists.{take-found, take-none}
use Rattle.ft_tree_blocks.proofs.touched.nodes_of.Goals as goal

pub returns-then-not-is_at : goal.returns-then-not-is_at
returns-then-not-is_at c =
    let xs = c.args.touched.now.items in
    let i = c.stage_place-i.result in
    let test : is_list_of c.args.stage (slice_get xs i) ≡ false = sym c.is_at.ensures ∙ c.if-not-is_at.true in
    (take-none c.args.stage i xs [] c.requires c.stage_place-i.ensures.place test refl).nodes

pub returns : goal.returns
returns c =
    let xs = c.args.touched.now.items in
    let i = c.stage_place-i.result in
    let test : is_list_of c.args.stage (slice_get xs i) ≡ true = sym c.is_at.ensures ∙ c.if-not-is_at.false in
    (take-found c.args.stage i xs (remove xs i) c.index.result.now c.nodes.result.now c.requires c.stage_place-i.ensures.place test
    c.index.ensures c.nodes.ensures refl).nodes
