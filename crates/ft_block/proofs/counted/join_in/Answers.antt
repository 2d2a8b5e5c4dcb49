use Rattle.std.proofs.Common.{◌≡◌, Option, Some, None, IsTrue, IsSomeAnd, OnOk, sym, subst, arith, ℕ}
use Rattle.ft_shape.specs.Tree.{IsTree}
use Rattle.ft_base.specs.declared.elements.Element.{Element}
use Rattle.ft_block.specs.Tree.{SumsKeptBut, AreFromFloor, MakesExchange}
use Rattle.ft_shape.specs.Steps.{ChangesLeaf}
use Rattle.ft_block.specs.Inside.{IsRooted, IsSound}
use Rattle.ft_block.proofs.SoundLemmas.{changes_sound, on_ok_four, is_some_by, leaf_rooted}
use Rattle.ft_arena.specs.Forest.{leaf_value}
use Rattle.ft_block.proofs.counted.join_in.Goals as goal

pub returns-clause-sound : goal.returns-clause-sound
returns-clause-sound g c =
    let was = subst (λ r. IsSound g.L.Leaf.size g.L.Leaf.element c.args.floor c.args.arena.now r) c.in-Some.is c.requires.sound in
    subst (λ r. OnOk c.put_elements.result (IsSound g.L.Leaf.size g.L.Leaf.element c.args.floor c.put_elements.new.arena r)) (sym c.in-Some.is)
    (on_ok_four c.put_elements.result (IsTree c.put_elements.new.arena c.in-Some.root) (SumsKeptBut g.L.Leaf.size g.L.Leaf.element c.args.floor
    c.put_elements.new.arena None)
    (AreFromFloor c.args.floor c.put_elements.new.arena) (ChangesLeaf (λ v. g.L.Leaf.joined v c.args.other) c.args.arena.now c.put_elements.new.arena
    c.args.id)
    (IsSound g.L.Leaf.size g.L.Leaf.element c.args.floor c.put_elements.new.arena (Some c.in-Some.root))
    (λ t sums floors i. changes_sound g.L.Leaf.size g.L.Leaf.element c.args.floor (λ v. g.L.Leaf.joined v c.args.other) c.args.arena.now
    c.put_elements.new.arena
    c.in-Some.root c.args.id was (λ v q. (let can =
    subst (λ (o : Option g.row.L.Denot). IsSomeAnd o (λ w. IsTrue (g.L.Leaf.joins w c.args.other) × (g.L.Leaf.element w ≡ g.L.Leaf.element c.args.other))) q
    c.requires.can in let e = g.met.L.Leaf.joined_size v c.args.other can.0 can.1 in (omega (arith, e, was.filled c.args.id v q), omega (arith, e, c.requires.fits))))
    t sums floors i) c.put_elements.ensures.tree c.put_elements.ensures.sums c.put_elements.ensures.floors c.put_elements.ensures.changes)

pub put_elements-requires-clause-tree : goal.put_elements-requires-clause-tree
put_elements-requires-clause-tree g c = subst (λ (o : Option ℕ). IsRooted c.args.arena.now o) c.in-Some.is c.requires.sound.rooted

pub put_elements-requires-clause-sums : goal.put_elements-requires-clause-sums
put_elements-requires-clause-sums g c = c.requires.sound.sums

pub put_elements-requires-clause-floors : goal.put_elements-requires-clause-floors
put_elements-requires-clause-floors g c = c.requires.sound.floors

pub put_elements-requires-clause-can : goal.put_elements-requires-clause-can
put_elements-requires-clause-can g c = c.requires.can

pub put_elements-requires-clause-fits : goal.put_elements-requires-clause-fits
put_elements-requires-clause-fits g c = c.requires.fits

pub returns-clause-changes : goal.returns-clause-changes
returns-clause-changes g c = c.put_elements.ensures.changes

pub unreachable-requires : goal.unreachable-requires
unreachable-requires g c = leaf_rooted c.args.arena.now c.args.root c.args.id c.requires.sound.rooted
    (is_some_by (leaf_value c.args.arena.now c.args.id) (λ v. IsTrue (g.L.Leaf.joins v c.args.other) × (g.L.Leaf.element v ≡ g.L.Leaf.element
    c.args.other)) c.requires.can)
    c.in_default.is

pub leaf_at-requires : goal.leaf_at-requires
leaf_at-requires g c = is_some_by (leaf_value c.args.arena.now c.args.id)
    (λ x. IsTrue (g.L.Leaf.joins x c.args.other) × (g.L.Leaf.element x ≡ g.L.Leaf.element c.args.other)) c.requires.can

pub put_elements-requires-clause-makes : goal.put_elements-requires-clause-makes
put_elements-requires-clause-makes g c =
    let v = c.leaf_at.result.now in
    let x = c.in_ok-exchange.exchange in
    subst (λ (o : Option g.row.L.Denot). IsSomeAnd o (λ v. MakesExchange c.args.floor x (g.L.Leaf.element v) 0 (g.L.Leaf.element v) (g.L.Leaf.size
    c.args.other)))
    (sym c.leaf_at.ensures.value)
    (subst (λ (n : ℕ). MakesExchange c.args.floor x (g.L.Leaf.element v) 0 (g.L.Leaf.element v) n) c.len-more.ensures.value
    (subst (λ (d : Element). MakesExchange c.args.floor x d 0 d c.len-more.result) c.element-e.ensures c.in_ok-exchange.ensures))
