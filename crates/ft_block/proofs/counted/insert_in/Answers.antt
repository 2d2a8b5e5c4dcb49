use Rattle.std.proofs.Common.{ℕ, Option, Some, None, IsSome, ◌∷◌, subst, IfOk, sym, arith}
use Rattle.ft_arena.specs.Ids.{insert_after, put_after}
use Rattle.ft_arena.specs.Forest.{IsPlace, leaf_value}
use Rattle.ft_shape.specs.Tree.{IsTree}
use Rattle.ft_block.specs.Tree.{SumsKeptBut, AreFromFloor}
use Rattle.ft_shape.specs.Steps.{InsertsLeaf}
use Rattle.ft_block.specs.Inside.{IsSound, IsRooted}
use Rattle.ft_block.proofs.SoundLemmas.{rooted_forest, inserts_sound, if_ok_four, front_longer, after_longer, bare_place}
use Rattle.ft_block.proofs.counted.insert_in.Goals as goal

pub returns-in-None-clause-sound : goal.returns-in-None-clause-sound
returns-in-None-clause-sound g c = if_ok_four c.insert_first.result (λ r. IsTree c.insert_first.new.arena r.0)
    (λ r. InsertsLeaf c.args.arena.now c.insert_first.new.arena r.1 c.args.leaf (λ xs. r.1 ∷ xs))
    (λ r. IsSound g.L.Leaf.size g.L.Leaf.element c.args.floor c.insert_first.new.arena (Some r.0))
    (SumsKeptBut g.L.Leaf.size g.L.Leaf.element c.args.floor c.insert_first.new.arena None) (AreFromFloor c.args.floor c.insert_first.new.arena)
    (λ r t sums floors i. inserts_sound g.L.Leaf.size g.L.Leaf.element c.args.floor c.args.arena.now c.insert_first.new.arena c.args.root r.0 r.1 c.args.leaf
    (λ xs. r.1 ∷ xs) c.requires.sound c.requires.some c.requires.fits (λ f. front_longer f c.args.arena.now.leaves r.1) t sums floors i) c.insert_first.ensures.tree
    c.insert_first.ensures.sums c.insert_first.ensures.floors c.insert_first.ensures.inserts

pub returns-in-None-at-clause-sound : goal.returns-in-None-at-clause-sound
returns-in-None-at-clause-sound g c = if_ok_four c.insert_front.result (λ r. IsTree c.insert_front.new.arena r.0)
    (λ r. InsertsLeaf c.args.arena.now c.insert_front.new.arena r.1 c.args.leaf (λ xs. r.1 ∷ xs))
    (λ r. IsSound g.L.Leaf.size g.L.Leaf.element c.args.floor c.insert_front.new.arena (Some r.0))
    (SumsKeptBut g.L.Leaf.size g.L.Leaf.element c.args.floor c.insert_front.new.arena None) (AreFromFloor c.args.floor c.insert_front.new.arena)
    (λ r t sums floors i. inserts_sound g.L.Leaf.size g.L.Leaf.element c.args.floor c.args.arena.now c.insert_front.new.arena c.args.root r.0 r.1 c.args.leaf
    (λ xs. r.1 ∷ xs) c.requires.sound c.requires.some c.requires.fits (λ f. front_longer f c.args.arena.now.leaves r.1) t sums floors i) c.insert_front.ensures.tree
    c.insert_front.ensures.sums c.insert_front.ensures.floors c.insert_front.ensures.inserts

pub returns-clause-sound : goal.returns-clause-sound
returns-clause-sound g c =
    let live : IsSome (leaf_value c.args.arena.now c.in-Some-at.at) = subst (λ (o : Option ℕ). IsPlace c.args.arena.now o) c.in-Some-at.is c.requires.at in
    if_ok_four c.insert_at.result (λ r. IsTree c.insert_at.new.arena r.0)
    (λ r. InsertsLeaf c.args.arena.now c.insert_at.new.arena r.1 c.args.leaf (λ xs. insert_after xs c.in-Some-at.at r.1))
    (λ r. IsSound g.L.Leaf.size g.L.Leaf.element c.args.floor c.insert_at.new.arena (Some r.0))
    (SumsKeptBut g.L.Leaf.size g.L.Leaf.element c.args.floor c.insert_at.new.arena None) (AreFromFloor c.args.floor c.insert_at.new.arena)
    (λ r t sums floors i. inserts_sound g.L.Leaf.size g.L.Leaf.element c.args.floor c.args.arena.now c.insert_at.new.arena c.args.root r.0 r.1 c.args.leaf
    (λ xs. insert_after xs c.in-Some-at.at r.1) c.requires.sound c.requires.some c.requires.fits
    (λ f. after_longer f c.args.arena.now c.in-Some-at.at r.1 (rooted_forest c.args.arena.now c.args.root c.requires.sound.rooted) live) t sums floors i)
    c.insert_at.ensures.tree c.insert_at.ensures.sums c.insert_at.ensures.floors c.insert_at.ensures.inserts

pub insert_first-requires-clause-bare : goal.insert_first-requires-clause-bare
insert_first-requires-clause-bare g c = subst (λ (o : Option ℕ). IsRooted c.args.arena.now o) c.in-None.is c.requires.sound.rooted

pub insert_first-requires-clause-fits : goal.insert_first-requires-clause-fits
insert_first-requires-clause-fits g c = omega (arith, c.requires.fits)

pub insert_front-requires-clause-tree : goal.insert_front-requires-clause-tree
insert_front-requires-clause-tree g c = subst (λ (o : Option ℕ). IsRooted c.args.arena.now o) c.in-Some.is c.requires.sound.rooted

pub insert_front-requires-clause-sums : goal.insert_front-requires-clause-sums
insert_front-requires-clause-sums g c = c.requires.sound.sums

pub insert_front-requires-clause-floors : goal.insert_front-requires-clause-floors
insert_front-requires-clause-floors g c = c.requires.sound.floors

pub insert_front-requires-clause-fits : goal.insert_front-requires-clause-fits
insert_front-requires-clause-fits g c = c.requires.fits

pub insert_at-requires-clause-tree : goal.insert_at-requires-clause-tree
insert_at-requires-clause-tree g c = subst (λ (o : Option ℕ). IsRooted c.args.arena.now o) c.in-Some.is c.requires.sound.rooted

pub insert_at-requires-clause-sums : goal.insert_at-requires-clause-sums
insert_at-requires-clause-sums g c = c.requires.sound.sums

pub insert_at-requires-clause-floors : goal.insert_at-requires-clause-floors
insert_at-requires-clause-floors g c = c.requires.sound.floors

pub insert_at-requires-clause-at : goal.insert_at-requires-clause-at
insert_at-requires-clause-at g c = subst (λ (o : Option ℕ). IsPlace c.args.arena.now o) c.in-Some-at.is c.requires.at

pub insert_at-requires-clause-fits : goal.insert_at-requires-clause-fits
insert_at-requires-clause-fits g c = c.requires.fits

pub returns-in-None-clause-inserts : goal.returns-in-None-clause-inserts
returns-in-None-clause-inserts g c =
    let bare = subst (λ (o : Option ℕ). IsRooted c.args.arena.now o) c.in-None.is c.requires.sound.rooted in
    subst (λ (o : Option ℕ). IfOk c.insert_first.result (λ r. InsertsLeaf c.args.arena.now c.insert_first.new.arena r.1 c.args.leaf (λ xs. put_after
    xs o r.1)))
    (sym (bare_place c.args.arena.now c.args.at bare c.requires.at)) c.insert_first.ensures.inserts

pub returns-in-None-at-clause-inserts : goal.returns-in-None-at-clause-inserts
returns-in-None-at-clause-inserts g c =
    subst (λ (o : Option ℕ). IfOk c.insert_front.result (λ r. InsertsLeaf c.args.arena.now c.insert_front.new.arena r.1 c.args.leaf (λ xs. put_after
    xs o r.1)))
    (sym c.in-None-at.is) c.insert_front.ensures.inserts

pub returns-clause-inserts : goal.returns-clause-inserts
returns-clause-inserts g c =
    subst (λ (o : Option ℕ). IfOk c.insert_at.result (λ r. InsertsLeaf c.args.arena.now c.insert_at.new.arena r.1 c.args.leaf (λ xs. put_after xs o
    r.1)))
    (sym c.in-Some-at.is) c.insert_at.ensures.inserts
