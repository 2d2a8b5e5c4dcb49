use Rattle.std.proofs.Common.{◌<◌, ◌^◌, ℕ, Option, Some, None, IsSomeAnd, OnOk, sym, subst, arith}
use Rattle.ft_shape.specs.Tree.{IsTree}
use Rattle.ft_base.specs.declared.elements.Element.{Element}
use Rattle.ft_block.specs.Tree.{SumsKeptBut, AreFromFloor, MakesExchange}
use Rattle.ft_shape.specs.Steps.{ChangesLeaf}
use Rattle.ft_block.specs.Inside.{IsRooted, IsSound}
use Rattle.ft_block.proofs.SoundLemmas.{changes_sound, on_ok_four, leaf_rooted}
use Rattle.ft_block.proofs.counted.set_stamps_in.Goals as goal

pub returns-clause-sound : goal.returns-clause-sound
returns-clause-sound g c =
    let was = subst (λ r. IsSound g.L.Leaf.size g.L.Leaf.element c.args.floor c.args.arena.now r) c.in-Some.is c.requires.sound in
    subst (λ r. OnOk c.put_stamps.result (IsSound g.L.Leaf.size g.L.Leaf.element c.args.floor c.put_stamps.new.arena r)) (sym c.in-Some.is)
    (on_ok_four c.put_stamps.result (IsTree c.put_stamps.new.arena c.in-Some.root)
    (SumsKeptBut g.L.Leaf.size g.L.Leaf.element c.args.floor c.put_stamps.new.arena None) (AreFromFloor c.args.floor c.put_stamps.new.arena)
    (ChangesLeaf (λ v. g.L.Leaf.with_element v c.args.e) c.args.arena.now c.put_stamps.new.arena c.args.id)
    (IsSound g.L.Leaf.size g.L.Leaf.element c.args.floor c.put_stamps.new.arena (Some c.in-Some.root))
    (λ t sums floors i. changes_sound g.L.Leaf.size g.L.Leaf.element c.args.floor (λ v. g.L.Leaf.with_element v c.args.e) c.args.arena.now
    c.put_stamps.new.arena
    c.in-Some.root c.args.id was (λ v q. (let e = g.met.L.Leaf.with_element_size v c.args.e in
    (omega (arith, e, was.filled c.args.id v q), omega (arith, e, was.fits)))) t sums floors i) c.put_stamps.ensures.tree c.put_stamps.ensures.sums
    c.put_stamps.ensures.floors c.put_stamps.ensures.changes)

pub put_stamps-requires-clause-tree : goal.put_stamps-requires-clause-tree
put_stamps-requires-clause-tree g c = subst (λ (o : Option ℕ). IsRooted c.args.arena.now o) c.in-Some.is c.requires.sound.rooted

pub put_stamps-requires-clause-sums : goal.put_stamps-requires-clause-sums
put_stamps-requires-clause-sums g c = c.requires.sound.sums

pub put_stamps-requires-clause-floors : goal.put_stamps-requires-clause-floors
put_stamps-requires-clause-floors g c = c.requires.sound.floors

pub put_stamps-requires-clause-fits : goal.put_stamps-requires-clause-fits
put_stamps-requires-clause-fits g c = c.requires.sound.fits

pub returns-clause-changes : goal.returns-clause-changes
returns-clause-changes g c = c.put_stamps.ensures.changes

pub unreachable-requires : goal.unreachable-requires
unreachable-requires g c = leaf_rooted c.args.arena.now c.args.root c.args.id c.requires.sound.rooted c.requires.live c.in_default.is

pub leaf_at-leaf-requires : goal.leaf_at-leaf-requires
leaf_at-leaf-requires g c = c.requires.live

pub put_stamps-requires-clause-makes : goal.put_stamps-requires-clause-makes
put_stamps-requires-clause-makes g c =
    let v = c.leaf_at-leaf.result.now in
    let x = c.in_ok-exchange.exchange in
    subst (λ (o : Option g.row.L.Denot). IsSomeAnd o (λ v. (g.L.Leaf.size v < 2 ^ 64) × MakesExchange c.args.floor x (g.L.Leaf.element v)
    (g.L.Leaf.size v) c.args.e
    (g.L.Leaf.size v))) (sym c.leaf_at-leaf.ensures.value) (
      omega (arith, c.len-len.ensures.value),
      subst (λ (n : ℕ). MakesExchange c.args.floor x (g.L.Leaf.element v) n c.args.e n) c.len-len.ensures.value
          (subst (λ (d : Element). MakesExchange c.args.floor x d c.len-len.result c.args.e c.len-len.result) c.element.ensures
          c.in_ok-exchange.ensures),
    )
