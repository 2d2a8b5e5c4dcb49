use Rattle.std.proofs.Common.{ℕ, ◌<◌, Option, sym, subst, ◌∙◌, arith}
use Rattle.ft_refs.specs.RefLists.{references_of}
use Rattle.ft_refs.proofs.LoopLemmas.{Splits, count_from, live_at, offset_some, is_none, split_stays, split_goes, stays_shorter, goes_shorter, split_from_list, split_to_list, split_refs}
use Rattle.ft_refs.proofs.refs.Refs.split_list.Goals as goal

pub next-ahead-requires : goal.next-ahead-requires
next-ahead-requires c = live_at c.refs.self c.args.from c.in-Some.r c.refs.invariant.done c.refs.invariant.rest c.refs.invariant.sound
    c.refs.invariant.list (c.refs.invariant.starts ∙ c.in-Some.is)

pub offset-requires : goal.offset-requires
offset-requires c = live_at c.refs.self c.args.from c.in-Some.r c.refs.invariant.done c.refs.invariant.rest c.refs.invariant.sound
    c.refs.invariant.list (c.refs.invariant.starts ∙ c.in-Some.is)

pub unwrap-offset-requires : goal.unwrap-offset-requires
unwrap-offset-requires c = rw c.offset.ensures (offset_some c.refs.self c.args.from c.in-Some.r c.refs.invariant.done c.refs.invariant.rest c.refs.invariant.sound c.refs.invariant.list (c.refs.invariant.starts ∙ c.in-Some.is))

pub refs-smaller-then-offset-at : goal.refs-smaller-then-offset-at
refs-smaller-then-offset-at c = subst (λ (z : Option ℕ). count_from c.next-ahead.result (references_of c.put.new.self c.args.from) < count_from z (references_of c.refs.self c.args.from)) (sym c.in-Some.is) (goes_shorter c.args.self.now c.refs.self c.args.from c.args.at c.args.to c.in-Some.r c.unwrap-offset.result (sym c.offset.ensures ∙ c.unwrap-offset.ensures) (subst (λ (z : Option ℕ). Splits c.args.self.now c.refs.self c.args.from c.args.at c.args.to z) c.in-Some.is c.refs.invariant) c.next-ahead.result c.next-ahead.ensures c.put.new.self c.requires.differ (omega (arith, c.if-offset-at.true)) c.put.ensures.sound c.put.ensures.list c.put.ensures.others c.put.ensures.changes c.put.ensures.same_held)

pub refs-preserved-then-offset-at : goal.refs-preserved-then-offset-at
refs-preserved-then-offset-at c = split_goes c.args.self.now c.refs.self c.args.from c.args.at c.args.to c.in-Some.r c.unwrap-offset.result (sym c.offset.ensures ∙ c.unwrap-offset.ensures) (subst (λ (z : Option ℕ). Splits c.args.self.now c.refs.self c.args.from c.args.at c.args.to z) c.in-Some.is c.refs.invariant) c.next-ahead.result c.next-ahead.ensures c.put.new.self c.requires.differ (omega (arith, c.if-offset-at.true)) c.put.ensures.sound c.put.ensures.list c.put.ensures.others c.put.ensures.changes c.put.ensures.same_held

pub refs-smaller : goal.refs-smaller
refs-smaller c = subst (λ (z : Option ℕ). count_from c.next-ahead.result (references_of c.refs.self c.args.from) < count_from z (references_of c.refs.self c.args.from)) (sym c.in-Some.is) (stays_shorter c.args.self.now c.refs.self c.args.from c.args.at c.args.to c.in-Some.r c.unwrap-offset.result (sym c.offset.ensures ∙ c.unwrap-offset.ensures) (subst (λ (z : Option ℕ). Splits c.args.self.now c.refs.self c.args.from c.args.at c.args.to z) c.in-Some.is c.refs.invariant) c.next-ahead.result c.next-ahead.ensures (omega (arith, c.if-offset-at.false)))

pub refs-preserved : goal.refs-preserved
refs-preserved c = split_stays c.args.self.now c.refs.self c.args.from c.args.at c.args.to c.in-Some.r c.unwrap-offset.result (sym c.offset.ensures ∙ c.unwrap-offset.ensures) (subst (λ (z : Option ℕ). Splits c.args.self.now c.refs.self c.args.from c.args.at c.args.to z) c.in-Some.is c.refs.invariant) c.next-ahead.result c.next-ahead.ensures (omega (arith, c.if-offset-at.false))

pub returns-clause-from : goal.returns-clause-from
returns-clause-from c = split_from_list c.args.self.now c.refs.self c.args.from c.args.at c.args.to
    (subst (λ (z : Option ℕ). Splits c.args.self.now c.refs.self c.args.from c.args.at c.args.to z)
    (is_none c.refs.ahead c.in_default.not-Some) c.refs.invariant)

pub returns-clause-to : goal.returns-clause-to
returns-clause-to c = split_to_list c.args.self.now c.refs.self c.args.from c.args.at c.args.to
    (subst (λ (z : Option ℕ). Splits c.args.self.now c.refs.self c.args.from c.args.at c.args.to z)
    (is_none c.refs.ahead c.in_default.not-Some) c.refs.invariant)

pub returns-clause-refs : goal.returns-clause-refs
returns-clause-refs c = split_refs c.args.self.now c.refs.self c.args.from c.args.at c.args.to
    (subst (λ (z : Option ℕ). Splits c.args.self.now c.refs.self c.args.from c.args.at c.args.to z)
    (is_none c.refs.ahead c.in_default.not-Some) c.refs.invariant)
