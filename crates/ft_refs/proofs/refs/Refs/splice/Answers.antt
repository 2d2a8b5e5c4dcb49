use Rattle.std.proofs.Common.{[], refl, sym, ◌∙◌, arith}
use Rattle.ft_refs.specs.RefLists.{references_of}
use Rattle.ft_refs.proofs.LoopLemmas.{offset_some, live_at, splice_fits, splice_step, splice_shorter, splice_from, splice_to, splice_refs}
use Rattle.ft_refs.proofs.refs.Refs.splice.Goals as goal

pub offset-requires : goal.offset-requires
offset-requires c = live_at c.refs.self c.args.from c.in-Some.r [] (references_of c.refs.self c.args.from) c.first.ensures.sound refl (sym c.first.ensures.value ∙ c.in-Some.is)

pub unwrap-offset-requires : goal.unwrap-offset-requires
unwrap-offset-requires c = rw c.offset.ensures (offset_some c.refs.self c.args.from c.in-Some.r [] (references_of c.refs.self c.args.from) c.first.ensures.sound refl (sym c.first.ensures.value ∙ c.in-Some.is))

pub overflow_add-offset : goal.overflow_add-offset
overflow_add-offset c = omega (arith, splice_fits c.args.self.now c.refs.self c.refs.self c.args.from c.args.to c.args.add c.in-Some.r c.unwrap-offset.result c.first.ensures.sound (sym c.first.ensures.value ∙ c.in-Some.is) (sym c.offset.ensures ∙ c.unwrap-offset.ensures) c.requires.differ c.refs.invariant)

pub refs-smaller : goal.refs-smaller
refs-smaller c = splice_shorter c.args.self.now c.refs.self c.put.new.self c.args.from c.args.to c.args.add c.in-Some.r c.unwrap-offset.result c.first.ensures.sound (sym c.first.ensures.value ∙ c.in-Some.is) (sym c.offset.ensures ∙ c.unwrap-offset.ensures) c.requires.differ c.refs.invariant c.put.ensures.list c.put.ensures.others c.put.ensures.changes c.put.ensures.same_held

pub refs-preserved : goal.refs-preserved
refs-preserved c = splice_step c.args.self.now c.refs.self c.put.new.self c.args.from c.args.to c.args.add c.in-Some.r c.unwrap-offset.result c.first.ensures.sound (sym c.first.ensures.value ∙ c.in-Some.is) (sym c.offset.ensures ∙ c.unwrap-offset.ensures) c.requires.differ c.refs.invariant c.put.ensures.list c.put.ensures.others c.put.ensures.changes c.put.ensures.same_held

pub returns-clause-from : goal.returns-clause-from
returns-clause-from c = splice_from c.args.self.now c.refs.self c.args.from c.args.to c.args.add c.first.ensures.sound
    (λ r e. c.in_default.not-Some r (c.first.ensures.value ∙ e)) c.refs.invariant

pub returns-clause-to : goal.returns-clause-to
returns-clause-to c = splice_to c.args.self.now c.refs.self c.args.from c.args.to c.args.add c.first.ensures.sound
    (λ r e. c.in_default.not-Some r (c.first.ensures.value ∙ e)) c.refs.invariant

pub returns-clause-refs : goal.returns-clause-refs
returns-clause-refs c = splice_refs c.args.self.now c.refs.self c.args.from c.args.to c.args.add c.first.ensures.sound
    (λ r e. c.in_default.not-Some r (c.first.ensures.value ∙ e)) c.refs.invariant
