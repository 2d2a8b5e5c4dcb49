use Rattle.std.proofs.Common.{◌≡◌, Some, ap, sym, ◌∙◌, arith}
use Rattle.ft_arena.specs.Forest.{kids_of, kids_of_entry, kids_of_node, block_of_entry, block_of_node, entry}
use Rattle.ft_shape.specs.declared.headed.Headed.{Headed}
use Rattle.ft_block.specs.declared.summaries.Summary.{Summary}
use Rattle.ft_shape.specs.Tree.{total, length_of}
use Rattle.ft_block.specs.Tree.{by_view}
use Rattle.ft_shape.proofs.RefreshLemmas.{refreshed_shape, refreshed_sums}
use Rattle.ft_block.proofs.Floors.{written_floors}
use Rattle.ft_arena.specs.Ids.{times}
use Rattle.ft_shape.proofs.KindLemmas.{block_live}
use Rattle.ft_block.proofs.PositionLemmas.{forest_kid_live}
use Rattle.std.proofs.lemmas.Result.{IfOk-from_err}
use Rattle.ft_block.proofs.refresh.rebuild.Goals as goal

pub returns-clause-shape : goal.returns-clause-shape
returns-clause-shape g c =
    let read : Some c.in-Block.value ≡ Some c.block_mut.result.now =
    sym (ap block_of_entry c.read.ensures.node ∙ ap block_of_node c.in-Block.is) ∙ c.block_mut.ensures.value in
    let is : c.in-Block.value ≡ c.block_mut.result.now = cc read in
    let w : Headed Summary = record { height = c.in-Block.value.height; sum = c.in_ok-sum.sum } in
    refreshed_shape c.args.arena.now c.args.block c.block_mut.result.now w c.block_mut.ensures.value (ap (λ (v : Headed Summary). v.height) is) c.requires.forest

pub returns-clause-floors : goal.returns-clause-floors
returns-clause-floors g c =
    let w : Headed Summary = record { height = c.in-Block.value.height; sum = c.in_ok-sum.sum } in
    written_floors c.args.floor c.args.arena.now c.args.block c.block_mut.result.now w c.block_mut.ensures.value
    c.in_ok-sum.ensures.floor c.requires.floors

pub returns-clause-sums : goal.returns-clause-sums
returns-clause-sums g c = λ view k.
    let kids : kids_of c.args.arena.now c.args.block ≡ c.in-Block.kids = ap kids_of_entry c.read.ensures.node ∙ ap kids_of_node c.in-Block.is in
    refreshed_sums (by_view g.L.Leaf.size g.L.Leaf.element view) c.args.arena.now c.args.block c.block_mut.result.now _ c.block_mut.ensures.value c.requires.apart
    (c.in_ok-sum.ensures.sum view k ∙ ap (total (length_of (by_view g.L.Leaf.size g.L.Leaf.element view) c.args.arena.now)) (sym kids))

pub read-requires : goal.read-requires
read-requires g c = block_live (entry c.args.arena.now c.args.block) c.requires.block

pub sum_of-requires-clause-live : goal.sum_of-requires-clause-live
sum_of-requires-clause-live g c = λ id m.
    let kids : kids_of c.args.arena.now c.args.block ≡ c.in-Block.kids = ap kids_of_entry c.read.ensures.node ∙ ap kids_of_node c.in-Block.is in
    forest_kid_live c.args.arena.now c.args.block id c.requires.forest (omega (arith, m, ap (λ zs. times zs id) kids))

pub sum_of-requires-clause-floors : goal.sum_of-requires-clause-floors
sum_of-requires-clause-floors g c = c.requires.floors

pub sum_of-requires-clause-fits : goal.sum_of-requires-clause-fits
sum_of-requires-clause-fits g c = λ view k.
    let kids : kids_of c.args.arena.now c.args.block ≡ c.in-Block.kids = ap kids_of_entry c.read.ensures.node ∙ ap kids_of_node c.in-Block.is in
    omega (arith, c.requires.fits view k, ap (total (length_of (by_view g.L.Leaf.size g.L.Leaf.element view) c.args.arena.now)) kids)

pub block_mut-requires : goal.block_mut-requires
block_mut-requires g c = c.requires.block

pub returns-in_err-sum : goal.returns-in_err-sum
returns-in_err-sum g c =
    let r = c.from_residual in
    record {
      shape = IfOk-from_err r.result _ r.ensures.0;
      floors = IfOk-from_err r.result _ r.ensures.0;
      sums = IfOk-from_err r.result _ r.ensures.0;
    }
