use Rattle.std.proofs.Common.{Result, Ok, Err, Some, None, subst, ◌∙◌}
use Rattle.std.specs.Prelude.{OnOk}
use Rattle.ft_block.specs.Leaves.{IsPlaceIn, without_leaf}
use Rattle.ft_tree_blocks.proofs.Walks.{live_value}
use Rattle.ft_rebase.proofs.MovedSpots.{keeps_spots}
use Rattle.ft_rebase.proofs.moves.move_behind.Goals as goal

both_ok : {T E A B P : Type 0} (r : Result T E) → OnOk r A → OnOk r B → (A → B → P) → OnOk r P
both_ok (Ok v) a b f = f a b
both_ok (Err e) a b f = tt

pub returns-in-Some-clause-refs : goal.returns-in-Some-clause-refs
returns-in-Some-clause-refs g c =
    let xs = c.args.tree.now.leaves in
    let v = live_value xs c.args.leaf c.requires.live in
    let place = subst (IsPlaceIn (without_leaf xs c.args.leaf)) c.in-Some.is c.requires.place in
    both_ok c.move_leaf.result c.move_leaf.ensures.leaves c.move_leaf.ensures.refs
    (λ moved refs. keeps_spots g.C.Content.units g.C.Content.by c.args.tree.now c.move_leaf.new.self c.args.leaf (Some c.in-Some.other) v.0
    c.first_leaf-first.ensures.once c.requires.live v.1 place moved refs)

pub returns-in-None-clause-refs : goal.returns-in-None-clause-refs
returns-in-None-clause-refs g c =
    let xs = c.args.tree.now.leaves in
    let v = live_value xs c.args.leaf c.requires.live in
    let place = subst (IsPlaceIn (without_leaf xs c.args.leaf)) c.in-None.is c.requires.place in
    both_ok c.move_leaf-in-None.result c.move_leaf-in-None.ensures.leaves c.move_leaf-in-None.ensures.refs
    (λ moved refs. keeps_spots g.C.Content.units g.C.Content.by c.args.tree.now c.move_leaf-in-None.new.self c.args.leaf None v.0
    c.first_leaf-first.ensures.once c.requires.live v.1 place moved refs)

pub returns-in-Some-clause-stays : goal.returns-in-Some-clause-stays
returns-in-Some-clause-stays g c =
    both_ok c.move_leaf.result c.move_leaf.ensures.rest c.move_leaf.ensures.made
    (λ rest made. record { rest = rest; made = made; usable = rest.usable ∙ c.requires.usable })

pub returns-in-None-clause-stays : goal.returns-in-None-clause-stays
returns-in-None-clause-stays g c =
    both_ok c.move_leaf-in-None.result c.move_leaf-in-None.ensures.rest c.move_leaf-in-None.ensures.made
    (λ rest made. record { rest = rest; made = made; usable = rest.usable ∙ c.requires.usable })
