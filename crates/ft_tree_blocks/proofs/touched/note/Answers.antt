use Rattle.std.proofs.Common.{◌≡◌, true, false, List, sym, subst, ◌∙◌, ap}
use Rattle.std.specs.List.{slice_get}
use Rattle.std.proofs.lemmas.Result.{on_ok_weaker}
use Rattle.ft_tree_blocks.specs.Touched.{NodesOfStage, Notes, is_list_of, is_listed, stages_below}
use Rattle.ft_tree_blocks.proofs.TouchedLists.{insert-is, noted-notes, noted-there, write-noted}
use Rattle.ft_tree_blocks.proofs.touched.note.Goals as goal

pub returns-then-is_at : goal.returns-then-is_at
returns-then-is_at c =
    let xs = c.args.touched.now.items in
    let k = c.args.stage in
    let id = c.args.id in
    let i = c.stage_place-i.result in
    let place : i ≡ stages_below k xs = c.stage_place-i.ensures.place in
    let test : is_list_of k (slice_get xs i) ≡ true = sym c.is_at.ensures ∙ c.if-is_at.true in
    let x = c.index_mut.result.now in
    record {
      notes = on_ok_weaker c.add.result
          (λ e. subst (Notes id xs) (sym (write-noted k id i xs x c.add.new.self c.requires place test c.index_mut.ensures.value e)) (noted-notes k id xs c.requires))
          c.add.ensures;
      listed = on_ok_weaker c.add.result
          (λ e. ap (λ (ys : List NodesOfStage). is_listed ys k id) (write-noted k id i xs x c.add.new.self c.requires place test c.index_mut.ensures.value e) ∙ noted-there k id xs)
          c.add.ensures;
    }

pub returns : goal.returns
returns c =
    let xs = c.args.touched.now.items in
    let k = c.args.stage in
    let id = c.args.id in
    let i = c.stage_place-i.result in
    let place : i ≡ stages_below k xs = c.stage_place-i.ensures.place in
    let test : is_list_of k (slice_get xs i) ≡ false = sym c.is_at.ensures ∙ c.if-is_at.false in
    let new = insert-is k id i xs c.insert.new.self.items c.in_ok-list.list place test c.in_ok-list.ensures c.in_ok-insert.ensures.items in
    record {
      notes = subst (Notes id xs) (sym new) (noted-notes k id xs c.requires);
      listed = ap (λ (ys : List NodesOfStage). is_listed ys k id) new ∙ noted-there k id xs;
    }
