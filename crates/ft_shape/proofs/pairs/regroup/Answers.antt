use Rattle.std.proofs.Common.{◌≡◌, ◌+◌, ◌-◌, ◌++◌, ◌∷◌, ℕ, List, insert, remove, length, ap, sym, ◌∙◌, arith}
use Rattle.std.proofs.lemmas.List.{length-append}
use Rattle.std.proofs.lemmas.List.Edits.{length-insert, length-remove}
use Rattle.std.proofs.lemmas.Option.{slice_get_within}
use Rattle.ft_arena.specs.Ids.{times}
use Rattle.ft_arena.specs.Forest.{kids_of}
use Rattle.ft_arena.proofs.IdLemmas.{times-append}
use Rattle.ft_shape.proofs.Lists.{times_at}
use Rattle.ft_shape.proofs.PairLemmas.{head_moved, last_moved, taken_live}
use Rattle.ft_shape.proofs.pairs.regroup.Goals as goal

pub put_child-requires-clause-child : goal.put_child-requires-clause-child
put_child-requires-clause-child g c = taken_live c.fill.arena c.take_child-child.new.self c.args.rear 0 c.take_child-child.result c.fill.invariant.forest
    c.take_child-child.ensures.child c.take_child-child.ensures.takes

pub put_child-requires-clause-differ : goal.put_child-requires-clause-differ
put_child-requires-clause-differ g c = λ e.
    let m = times_at (kids_of c.fill.arena c.args.rear) 0 c.take_child-child.result c.take_child-child.ensures.child in
    omega (
      arith,
      m,
      ap (times (kids_of c.fill.arena c.args.rear)) e,
      times-append (kids_of c.fill.arena c.args.front) (kids_of c.fill.arena c.args.rear) c.args.front,
      times-append (kids_of c.args.arena.now c.args.front) (kids_of c.args.arena.now c.args.rear) c.args.front,
      ap (λ (zs : List ℕ). times zs c.args.front)
          c.fill.invariant.joined,
      c.requires.front_apart,
      c.requires.front_own,
    )

pub fill-preserved : goal.fill-preserved
fill-preserved g c =
    let i = c.fill.invariant in
    let t = c.take_child-child.ensures.takes in
    let p = c.put_child.ensures.puts in
    let k = c.take_child-child.result in
    let front : kids_of c.put_child.new.self c.args.front ≡ insert (kids_of c.fill.arena c.args.front) c.fill.count c.take_child-child.result =
    p.kids ∙ ap (λ (zs : List ℕ). insert zs c.fill.count c.take_child-child.result) (t.other_kids c.args.front c.requires.differ) in
    let rear : kids_of c.put_child.new.self c.args.rear ≡ remove (kids_of c.fill.arena c.args.rear) 0 = p.other_kids c.args.rear (λ e. c.requires.differ (sym e)) ∙ t.kids in
    record {
      leaves = c.put_child.ensures.leaves ∙ c.take_child-child.ensures.leaves ∙ i.leaves;
      forest = c.put_child.ensures.sound;
      leaf_values = λ x. p.leaf_values x ∙ t.leaf_values x ∙ i.leaf_values x;
      block_values = λ x. p.block_values x ∙ t.block_values x ∙ i.block_values x;
      joined = ap (λ (zs : List ℕ). zs ++ kids_of c.put_child.new.self c.args.rear) front
          ∙ ap (λ (zs : List ℕ). insert (kids_of c.fill.arena c.args.front) c.fill.count c.take_child-child.result ++ zs) rear
          ∙ head_moved (kids_of c.fill.arena c.args.front) (kids_of c.fill.arena c.args.rear) c.fill.count c.take_child-child.result i.count
          c.take_child-child.ensures.child ∙ i.joined;
      count = omega (arith, ap length front, length-insert (kids_of c.fill.arena c.args.front) c.fill.count c.take_child-child.result (omega (arith, i.count)), i.count);
      other_kids = λ x f r. p.other_kids x f ∙ t.other_kids x r ∙ i.other_kids x f r;
    }

pub put_child-requires-in-spill-clause-child : goal.put_child-requires-in-spill-clause-child
put_child-requires-in-spill-clause-child g c =
    taken_live c.spill.arena c.take_child-child-in-spill.new.self c.args.front (c.spill.count - 1) c.take_child-child-in-spill.result c.spill.invariant.forest
    c.take_child-child-in-spill.ensures.child c.take_child-child-in-spill.ensures.takes

pub put_child-requires-in-spill-clause-room : goal.put_child-requires-in-spill-clause-room
put_child-requires-in-spill-clause-room g c =
    let t = c.take_child-child-in-spill.ensures.takes in
    omega (
      arith,
      ap length (t.other_kids c.args.rear (λ e. c.requires.differ (sym e))),
      length-append (kids_of c.spill.arena c.args.front)
          (kids_of c.spill.arena c.args.rear),
      length-append (kids_of c.fill.arena c.args.front) (kids_of c.fill.arena c.args.rear),
      length-append
          (kids_of c.args.arena.now c.args.front) (kids_of c.args.arena.now c.args.rear),
      ap length c.spill.invariant.joined,
      ap length c.fill.invariant.joined,
      c.spill.invariant.count,
      c.spill-test.true,
      c.requires.room,
    )

pub put_child-requires-in-spill-clause-differ : goal.put_child-requires-in-spill-clause-differ
put_child-requires-in-spill-clause-differ g c = λ e.
    let m = times_at (kids_of c.spill.arena c.args.front) (c.spill.count - 1) c.take_child-child-in-spill.result c.take_child-child-in-spill.ensures.child in
    omega (
      arith,
      m,
      ap (times (kids_of c.spill.arena c.args.front)) e,
      times-append (kids_of c.spill.arena c.args.front) (kids_of c.spill.arena c.args.rear) c.args.rear,
      times-append (kids_of c.fill.arena c.args.front) (kids_of c.fill.arena c.args.rear) c.args.rear,
      times-append (kids_of c.args.arena.now c.args.front)
          (kids_of c.args.arena.now c.args.rear) c.args.rear,
      ap (λ (zs : List ℕ). times zs c.args.rear) c.spill.invariant.joined,
      ap
          (λ (zs : List ℕ). times zs c.args.rear) c.fill.invariant.joined,
      c.requires.rear_apart,
      c.requires.rear_own,
    )

pub spill-preserved : goal.spill-preserved
spill-preserved g c =
    let i = c.spill.invariant in
    let t = c.take_child-child-in-spill.ensures.takes in
    let p = c.put_child-in-spill.ensures.puts in
    let child = c.take_child-child-in-spill.ensures.child in
    let less : (c.spill.count - 1) + 1 ≡ length (kids_of c.spill.arena c.args.front) = omega (arith, i.count, c.spill-test.true) in
    let front : kids_of c.put_child-in-spill.new.self c.args.front ≡ remove (kids_of c.spill.arena c.args.front) (c.spill.count - 1) =
    p.other_kids c.args.front c.requires.differ ∙ t.kids in
    let rear : kids_of c.put_child-in-spill.new.self c.args.rear ≡ c.take_child-child-in-spill.result ∷ kids_of c.spill.arena c.args.rear =
    p.kids ∙ ap (λ (zs : List ℕ). c.take_child-child-in-spill.result ∷ zs) (t.other_kids c.args.rear (λ e. c.requires.differ (sym e))) in
    record {
      leaves = c.put_child-in-spill.ensures.leaves ∙ c.take_child-child-in-spill.ensures.leaves ∙ i.leaves;
      forest = c.put_child-in-spill.ensures.sound;
      leaf_values = λ x. p.leaf_values x ∙ t.leaf_values x ∙ i.leaf_values x;
      block_values = λ x. p.block_values x ∙ t.block_values x ∙ i.block_values x;
      joined = ap (λ (zs : List ℕ). zs ++ kids_of c.put_child-in-spill.new.self c.args.rear) front
          ∙ ap (λ (zs : List ℕ). remove (kids_of c.spill.arena c.args.front) (c.spill.count - 1) ++ zs) rear
          ∙ last_moved (kids_of c.spill.arena c.args.front) (kids_of c.spill.arena c.args.rear) (c.spill.count - 1) c.take_child-child-in-spill.result less child
          ∙ i.joined;
      count = omega (
        arith,
        ap length front,
        length-remove (kids_of c.spill.arena c.args.front) (c.spill.count - 1)
            (slice_get_within (kids_of c.spill.arena c.args.front) (c.spill.count - 1) c.take_child-child-in-spill.result child),
        i.count,
        c.spill-test.true,
      );
      other_kids = λ x f r. p.other_kids x r ∙ t.other_kids x f ∙ i.other_kids x f r;
      enough = omega (arith, c.spill-test.true);
    }
