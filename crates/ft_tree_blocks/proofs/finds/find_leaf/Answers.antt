use Rattle.std.proofs.Common.{sym, ◌∙◌, ap}
use Rattle.ft_block.specs.declared.leaves.LenView.{LenView}
use Rattle.ft_block.specs.declared.leaves.LenView.TheVariants.{All, At, Stage}
use Rattle.ft_block.specs.Leaves.{last_stage, place_by}
use Rattle.ft_tree_leaves.specs.LeafLists.{leaf_length}
use Rattle.ft_tree_blocks.proofs.FoundLeaves.{place-found}
use Rattle.ft_tree_blocks.proofs.finds.find_leaf.Goals as goal

pub returns-in-At : goal.returns-in-At
returns-in-At g c =
    let xs = c.args.blocks.now.leaves in
    let found = c.find.ensures in
    c.ok.ensures.value ∙ place-found (leaf_length g.C.Content.units (At c.in-At.at)) xs c.args.p c.find.result found.found found.length found.beyond
    ∙ ap (λ (view : LenView). place_by (leaf_length g.C.Content.units view) xs c.args.p) (sym c.in-At.is)

pub returns-then-stage : goal.returns-then-stage
returns-then-stage g c =
    let xs = c.args.blocks.now.leaves in
    let found = c.find_local.ensures in
    c.ok-then-stage.ensures.value ∙ place-found (leaf_length g.C.Content.units last_stage) xs c.args.p c.find_local.result found.found found.length found.beyond
    ∙ ap (λ (view : LenView). place_by (leaf_length g.C.Content.units view) xs c.args.p) (sym (c.in-Stage.is ∙ ap (λ n. Stage n) c.if-stage.true))

pub returns-in-Stage : goal.returns-in-Stage
returns-in-Stage g c =
    let xs = c.args.blocks.now.leaves in
    let found = c.find_at_stage.ensures in
    c.ok-else-stage.ensures.value ∙ place-found (leaf_length g.C.Content.units (Stage c.in-Stage.stage)) xs c.args.p c.find_at_stage.result found.found found.length found.beyond
    ∙ ap (λ (view : LenView). place_by (leaf_length g.C.Content.units view) xs c.args.p) (sym c.in-Stage.is)

pub returns : goal.returns
returns g c =
    let xs = c.args.blocks.now.leaves in
    let found = c.find_any.ensures in
    c.ok-in-All.ensures.value ∙ place-found (leaf_length g.C.Content.units All) xs c.args.p c.find_any.result found.found found.length found.beyond
    ∙ ap (λ (view : LenView). place_by (leaf_length g.C.Content.units view) xs c.args.p) (sym c.in-All.is)
