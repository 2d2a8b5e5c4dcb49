use Rattle.std.proofs.Common.{◌≡◌, Option, IsSomeAnd, Result, Ok, Err, OnOk, subst, ap, ◌∙◌}
use Rattle.ft_block.proofs.SoundLemmas.{changed_sound}
use Rattle.ft_block.proofs.change.change_in.Goals as goal

on_ok : {T E : Type 0} (r : Result T E) (P Q : Type 0) → (P → Q) → OnOk r P → OnOk r Q
on_ok (Ok x) P Q f h = f h
on_ok (Err e) P Q f h = tt

pub returns-clause-sound : goal.returns-clause-sound
returns-clause-sound g c =
    let v = c.leaf_mut.result.now in
    let can : g.L.Leaf.CanChange c.leaf_mut.result.now c.args.c.now =
    subst (λ (o : Option g.row.L.Denot). IsSomeAnd o (λ v. g.L.Leaf.CanChange v c.args.c.now)) c.leaf_mut.ensures.value c.requires.can in
    on_ok c.change.result _ _ (λ (e : c.change.new.self ≡ g.L.Leaf.changed c.leaf_mut.result.now c.args.c.now). changed_sound g.L.Leaf.size g.L.Leaf.element c.args.floor
    c.args.arena.now c.args.root c.args.id c.leaf_mut.result.now c.change.new.self c.requires.sound c.leaf_mut.ensures.value (ap g.L.Leaf.element e
    ∙ g.met.L.Leaf.changed_element c.leaf_mut.result.now c.args.c.now can) (ap g.L.Leaf.size e ∙ g.met.L.Leaf.changed_size c.leaf_mut.result.now c.args.c.now can))
    c.change.ensures.ok
