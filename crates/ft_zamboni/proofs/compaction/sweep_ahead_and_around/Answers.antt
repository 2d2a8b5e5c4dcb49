use Rattle.std.proofs.Common.{◌≡◌, ℕ, Option, None, refl, sym, subst, ◌∙◌, ap}
use Rattle.ft_arena.specs.Ids.{first}
use Rattle.ft_block.specs.Leaves.{IsPlaceIn, ids}
use Rattle.ft_tree_blocks.specs.Walks.{from_place}
use Rattle.ft_tree_blocks.proofs.Walks.{first_in_place}
use Rattle.ft_tree.specs.State.{TreeState}
use Rattle.ft_zamboni.specs.Sweeps.{SweptUpTo}
use Rattle.ft_zamboni.proofs.BothSweeps.{both-round, both-there, end-there, sweep-clear}
use Rattle.ft_zamboni.proofs.compaction.sweep_ahead_and_around.Goals as goal

pub sweep-requires-2-clause-from : goal.sweep-requires-2-clause-from
sweep-requires-2-clause-from g c =
    let xs = c.sweep.new.tree.leaves in
    subst (IsPlaceIn xs) (sym c.first_leaf-first.ensures.value) (first_in_place xs)

pub sweep-requires-2-clause-end : goal.sweep-requires-2-clause-end
sweep-requires-2-clause-end g c =
    let us = g.C.Content.units in
    let by = g.C.Content.by in
    let mid = c.sweep.new.tree in
    let place = c.start-place.result in
    let base = c.args.taken.now.items in
    let given = c.sweep.new.taken.items in
    let tree : TreeState g.row.C.Denot = record c.args.tree.now { sweep = place } in
    let from_eq : c.sweep-from.result ≡ place = c.sweep-from.ensures ∙ ap (λ (t : TreeState g.row.C.Denot). t.sweep) c.set_sweep.ensures in
    let s = subst (λ (t : TreeState g.row.C.Denot). SweptUpTo us by t mid place None c.args.budget base given c.in_ok-ahead.ahead)
    c.set_sweep.ensures
    (subst (λ (o : Option ℕ). SweptUpTo us by c.set_sweep.new.self mid o None c.args.budget base given c.in_ok-ahead.ahead) from_eq
    c.in_ok-ahead.ensures) in
    let there = end-there us by tree mid place c.args.budget base given c.in_ok-ahead.ahead c.start-place.ensures.live refl s in
    subst (IsPlaceIn (from_place mid.leaves c.first_leaf-first.result)) (sym c.sweep-end.ensures)
    (subst (λ (o : Option ℕ). IsPlaceIn (from_place mid.leaves o) mid.sweep) (sym c.first_leaf-first.ensures.value) there)

pub sweep-requires-2-clause-clear : goal.sweep-requires-2-clause-clear
sweep-requires-2-clause-clear g c =
    let us = g.C.Content.units in
    let by = g.C.Content.by in
    let mid = c.sweep.new.tree in
    let place = c.start-place.result in
    let base = c.args.taken.now.items in
    let given = c.sweep.new.taken.items in
    let tree : TreeState g.row.C.Denot = record c.args.tree.now { sweep = place } in
    let from_eq : c.sweep-from.result ≡ place = c.sweep-from.ensures ∙ ap (λ (t : TreeState g.row.C.Denot). t.sweep) c.set_sweep.ensures in
    let s = subst (λ (t : TreeState g.row.C.Denot). SweptUpTo us by t mid place None c.args.budget base given c.in_ok-ahead.ahead)
    c.set_sweep.ensures
    (subst (λ (o : Option ℕ). SweptUpTo us by c.set_sweep.new.self mid o None c.args.budget base given c.in_ok-ahead.ahead) from_eq
    c.in_ok-ahead.ensures) in
    sweep-clear us by tree mid _ _ _ _ s.last base given s.sweeps c.requires.clear

pub set_sweep-requires-2-clause-live : goal.set_sweep-requires-2-clause-live
set_sweep-requires-2-clause-live g c =
    let us = g.C.Content.units in
    let by = g.C.Content.by in
    let mid = c.sweep.new.tree in
    let new = c.sweep-2.new.tree in
    let place = c.start-place.result in
    let base = c.args.taken.now.items in
    let given = c.sweep.new.taken.items in
    let taken = c.sweep-2.new.taken.items in
    let one = c.in_ok-ahead.ahead in
    let two = c.in_ok-around.around in
    let tree : TreeState g.row.C.Denot = record c.args.tree.now { sweep = place } in
    let from_eq : c.sweep-from.result ≡ place = c.sweep-from.ensures ∙ ap (λ (t : TreeState g.row.C.Denot). t.sweep) c.set_sweep.ensures in
    let s = subst (λ (t : TreeState g.row.C.Denot). SweptUpTo us by t mid place None c.args.budget base given one) c.set_sweep.ensures
    (subst (λ (o : Option ℕ). SweptUpTo us by c.set_sweep.new.self mid o None c.args.budget base given one) from_eq
    c.in_ok-ahead.ensures) in
    let t = subst (λ (o : Option ℕ). SweptUpTo us by mid new (first (ids mid.leaves)) o one.left given taken two) c.sweep-end.ensures
    (subst (λ (o : Option ℕ). SweptUpTo us by mid new o c.sweep-end.result one.left given taken two) c.first_leaf-first.ensures.value
    c.in_ok-around.ensures) in
    subst (IsPlaceIn new.leaves) (sym c.next_start.ensures)
    (both-there us by tree mid place c.args.budget base given one c.start-place.ensures.live refl s new taken two
    c.first_leaf-first.ensures.once t)

pub returns : goal.returns
returns g c =
    let us = g.C.Content.units in
    let by = g.C.Content.by in
    let mid = c.sweep.new.tree in
    let new = c.sweep-2.new.tree in
    let place = c.start-place.result in
    let base = c.args.taken.now.items in
    let given = c.sweep.new.taken.items in
    let taken = c.sweep-2.new.taken.items in
    let one = c.in_ok-ahead.ahead in
    let two = c.in_ok-around.around in
    let tree : TreeState g.row.C.Denot = record c.args.tree.now { sweep = place } in
    let from_eq : c.sweep-from.result ≡ place = c.sweep-from.ensures ∙ ap (λ (t : TreeState g.row.C.Denot). t.sweep) c.set_sweep.ensures in
    let s = subst (λ (t : TreeState g.row.C.Denot). SweptUpTo us by t mid place None c.args.budget base given one) c.set_sweep.ensures
    (subst (λ (o : Option ℕ). SweptUpTo us by c.set_sweep.new.self mid o None c.args.budget base given one) from_eq
    c.in_ok-ahead.ensures) in
    let t = subst (λ (o : Option ℕ). SweptUpTo us by mid new (first (ids mid.leaves)) o one.left given taken two) c.sweep-end.ensures
    (subst (λ (o : Option ℕ). SweptUpTo us by mid new o c.sweep-end.result one.left given taken two) c.first_leaf-first.ensures.value
    c.in_ok-around.ensures) in
    both-round us by tree mid place c.args.budget base given one c.start-place.ensures.live refl s new taken two
    c.first_leaf-first.ensures.once t
    c.args.tree.now.sweep c.start-place.ensures.value c.set_sweep-2.new.self
    (c.set_sweep-2.ensures ∙ ap (λ (o : Option ℕ). let n : TreeState g.row.C.Denot = record new { sweep = o } in n) c.next_start.ensures)
