use Rattle.std.proofs.Common.{ap, length, arith}
use Rattle.ft_block.specs.Tree.{by_view}
use Rattle.ft_block.proofs.KeptLemmas.{same_floors, added_floors}
use Rattle.ft_block.proofs.RootLemmas.{new_apart, made_block, made_bare, made_live, made_alone, first_block, first_kids, first_live, first_alone}
use Rattle.ft_block.proofs.RootLemmas.{both_block, both_apart, both_fit, both_roots, both_resums}
use Rattle.std.proofs.lemmas.Result.{IfOk-from_err}
use Rattle.ft_block.proofs.grow.root_over.Goals as goal

pub add_block-top-requires : goal.add_block-top-requires
add_block-top-requires g c = c.requires.spare

pub put_child-requires-clause-block : goal.put_child-requires-clause-block
put_child-requires-clause-block g c =
    made_block c.args.arena.now c.add_block-top.new.self c.add_block-top.result _ c.add_block-top.ensures.fresh c.add_block-top.ensures.changes

pub put_child-requires-clause-child : goal.put_child-requires-clause-child
put_child-requires-clause-child g c =
    made_live c.args.arena.now c.add_block-top.new.self c.add_block-top.result _ c.add_block-top.ensures.fresh c.add_block-top.ensures.changes
    c.args.root c.requires.root

pub put_child-requires-clause-at : goal.put_child-requires-clause-at
put_child-requires-clause-at g c = omega arith

pub put_child-requires-clause-room : goal.put_child-requires-clause-room
put_child-requires-clause-room g c = omega (
  arith,
  ap length (made_bare c.args.arena.now c.add_block-top.new.self c.add_block-top.result _ c.add_block-top.ensures.fresh
      c.add_block-top.ensures.changes),
)

pub put_child-requires-clause-alone : goal.put_child-requires-clause-alone
put_child-requires-clause-alone g c =
    made_alone c.args.arena.now c.add_block-top.new.self c.add_block-top.result _ c.add_block-top.ensures.fresh c.add_block-top.ensures.changes
    c.args.root c.requires.root c.requires.root_alone

pub put_child-requires-clause-differ : goal.put_child-requires-clause-differ
put_child-requires-clause-differ g c =
    new_apart c.args.arena.now c.add_block-top.new.self c.add_block-top.result _ c.add_block-top.ensures.fresh c.add_block-top.ensures.changes
    c.args.root c.requires.root

pub put_child-requires-2-clause-block : goal.put_child-requires-2-clause-block
put_child-requires-2-clause-block g c =
    first_block c.args.arena.now c.add_block-top.new.self c.add_block-top.result _ c.add_block-top.ensures.fresh c.add_block-top.ensures.changes
    c.args.root c.requires.root c.put_child.new.self c.put_child.ensures.puts

pub put_child-requires-2-clause-child : goal.put_child-requires-2-clause-child
put_child-requires-2-clause-child g c =
    first_live c.args.arena.now c.add_block-top.new.self c.add_block-top.result _ c.add_block-top.ensures.fresh c.add_block-top.ensures.changes
    c.args.root c.requires.root c.put_child.new.self c.put_child.ensures.puts c.args.id c.requires.id

pub put_child-requires-2-clause-at : goal.put_child-requires-2-clause-at
put_child-requires-2-clause-at g c = omega (
  arith,
  ap length (first_kids c.args.arena.now c.add_block-top.new.self c.add_block-top.result _ c.add_block-top.ensures.fresh
      c.add_block-top.ensures.changes c.args.root c.requires.root c.put_child.new.self c.put_child.ensures.puts),
)

pub put_child-requires-2-clause-room : goal.put_child-requires-2-clause-room
put_child-requires-2-clause-room g c = omega (
  arith,
  ap length (first_kids c.args.arena.now c.add_block-top.new.self c.add_block-top.result _ c.add_block-top.ensures.fresh
      c.add_block-top.ensures.changes c.args.root c.requires.root c.put_child.new.self c.put_child.ensures.puts),
)

pub put_child-requires-2-clause-alone : goal.put_child-requires-2-clause-alone
put_child-requires-2-clause-alone g c =
    first_alone c.args.arena.now c.add_block-top.new.self c.add_block-top.result _ c.add_block-top.ensures.fresh c.add_block-top.ensures.changes
    c.args.root c.requires.root c.put_child.new.self c.put_child.ensures.puts c.args.id c.requires.differ c.requires.id c.requires.id_alone

pub put_child-requires-2-clause-differ : goal.put_child-requires-2-clause-differ
put_child-requires-2-clause-differ g c =
    new_apart c.args.arena.now c.add_block-top.new.self c.add_block-top.result _ c.add_block-top.ensures.fresh c.add_block-top.ensures.changes
    c.args.id c.requires.id

pub rebuild-requires-clause-block : goal.rebuild-requires-clause-block
rebuild-requires-clause-block g c =
    both_block c.args.arena.now c.add_block-top.new.self c.add_block-top.result _ c.add_block-top.ensures.fresh c.add_block-top.ensures.changes
    c.args.root c.requires.root c.put_child.new.self c.put_child.ensures.puts c.args.id c.requires.id c.put_child-2.new.self
    c.put_child-2.ensures.puts

pub rebuild-requires-clause-forest : goal.rebuild-requires-clause-forest
rebuild-requires-clause-forest g c = c.put_child-2.ensures.sound

pub rebuild-requires-clause-apart : goal.rebuild-requires-clause-apart
rebuild-requires-clause-apart g c =
    both_apart c.args.arena.now c.add_block-top.new.self c.add_block-top.result _ c.add_block-top.ensures.fresh c.add_block-top.ensures.changes
    c.args.root c.requires.root c.put_child.new.self c.put_child.ensures.puts c.args.id c.requires.id c.put_child-2.new.self
    c.put_child-2.ensures.puts

pub rebuild-requires-clause-floors : goal.rebuild-requires-clause-floors
rebuild-requires-clause-floors g c = same_floors c.args.floor c.put_child.new.self c.put_child-2.new.self c.put_child-2.ensures.puts.block_values
    (same_floors c.args.floor c.add_block-top.new.self c.put_child.new.self c.put_child.ensures.puts.block_values
    (added_floors c.args.floor c.args.arena.now c.add_block-top.new.self c.add_block-top.result _ _ c.add_block-top.ensures.changes
    c.new.ensures.floor
    c.requires.floors))

pub rebuild-requires-clause-fits : goal.rebuild-requires-clause-fits
rebuild-requires-clause-fits g c = λ view k.
    both_fit c.args.arena.now c.add_block-top.new.self c.add_block-top.result _ c.add_block-top.ensures.fresh c.add_block-top.ensures.changes
    c.args.root c.requires.root c.put_child.new.self c.put_child.ensures.puts c.args.id c.requires.id c.put_child-2.new.self
    c.put_child-2.ensures.puts
    (by_view g.L.Leaf.size g.L.Leaf.element view) (c.requires.fits view k)

pub returns-clause-roots : goal.returns-clause-roots
returns-clause-roots g c =
    both_roots c.args.arena.now c.add_block-top.new.self c.add_block-top.result _ c.add_block-top.ensures.fresh c.add_block-top.ensures.changes
    c.args.root c.requires.root c.put_child.new.self c.put_child.ensures.puts c.args.id c.requires.id c.put_child-2.new.self
    c.put_child-2.ensures.puts
    c.rebuild.new.arena c.in_ok-rebuild.ensures.shape c.requires.height c.add_block-top.ensures.leaves c.put_child.ensures.leaves
    c.put_child-2.ensures.leaves

pub returns-clause-sums : goal.returns-clause-sums
returns-clause-sums g c = λ view k.
    both_resums c.args.arena.now c.add_block-top.new.self c.add_block-top.result _ c.add_block-top.ensures.fresh c.add_block-top.ensures.changes
    c.args.root c.requires.root c.put_child.new.self c.put_child.ensures.puts c.args.id c.requires.id c.put_child-2.new.self
    c.put_child-2.ensures.puts
    c.rebuild.new.arena c.in_ok-rebuild.ensures.shape (by_view g.L.Leaf.size g.L.Leaf.element view) (c.in_ok-rebuild.ensures.sums view k)

pub returns-clause-floors : goal.returns-clause-floors
returns-clause-floors g c = c.in_ok-rebuild.ensures.floors

pub returns-in_err-rebuild : goal.returns-in_err-rebuild
returns-in_err-rebuild g c =
    let r = c.from_residual in
    record {
      roots = IfOk-from_err r.result _ r.ensures.0;
      floors = IfOk-from_err r.result _ r.ensures.0;
      sums = IfOk-from_err r.result _ r.ensures.0;
    }
