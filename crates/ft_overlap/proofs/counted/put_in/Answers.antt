use Rattle.std.proofs.Common.{ℕ, Option, subst}
use Rattle.ft_shape.specs.Tree.{IsTree}
use Rattle.ft_overlap.specs.Inside.{IsRooted}
use Rattle.ft_overlap.proofs.Leaves.{place_live, put_items_after, put_items_front}
use Rattle.ft_overlap.proofs.counted.put_in.Goals as goal

pub insert_at-requires-clause-at : goal.insert_at-requires-clause-at
insert_at-requires-clause-at g c =
    let tree : IsTree c.args.arena.now c.in-Some.root = subst (λ (o : Option ℕ). IsRooted c.args.arena.now o) c.in-Some.is c.requires.rooted in
    place_live (g.P.Places.end_place c.args.at.now) c.args.arena.now tree.shape.forest c.args.item c.in-Some-place_for.before
    c.in-Some-place_for.ensures

pub returns-in-Some-place_for-clause-items : goal.returns-in-Some-place_for-clause-items
returns-in-Some-place_for-clause-items g c =
    let tree : IsTree c.args.arena.now c.in-Some.root = subst (λ (o : Option ℕ). IsRooted c.args.arena.now o) c.in-Some.is c.requires.rooted in
    put_items_after (g.P.Places.end_place c.args.at.now) c.args.arena.now tree.shape.forest c.args.item c.in-Some-place_for.before
    c.in-Some-place_for.ensures
    c.insert_at.new.arena c.insert_at.result.leaf c.insert_at.ensures.inserts

pub returns-clause-items : goal.returns-clause-items
returns-clause-items g c =
    let tree : IsTree c.args.arena.now c.in-Some.root = subst (λ (o : Option ℕ). IsRooted c.args.arena.now o) c.in-Some.is c.requires.rooted in
    put_items_front (g.P.Places.end_place c.args.at.now) c.args.arena.now tree.shape.forest c.args.item c.in-None.ensures
    c.insert_front.new.arena c.insert_front.result.leaf c.insert_front.ensures.inserts
