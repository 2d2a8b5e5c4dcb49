use Rattle.std.proofs.Common.{◌≡◌, ℕ, ◌<◌, Option, true, false, get_or, subst, sym, ◌∙◌, ap, arith}
use Rattle.ft_refs.specs.RefLists.{references_of}
use Rattle.ft_refs.proofs.LoopLemmas.{count_from}
use Rattle.ft_tree_blocks.proofs.SentReferences.{Sends, ahead_live, past_shorter, sends_all, sends_one, sends_past, sent_shorter}
use Rattle.ft_tree_blocks.proofs.anchors.send_acked.Goals as goal

pub next-ahead-requires : goal.next-ahead-requires
next-ahead-requires c =
    let k = subst (Sends c.args.acked.now c.args.from c.args.to.now c.args.refs.now c.loop-ahead.refs) c.in-Some.is c.loop-ahead.invariant in
    ahead_live c.args.acked.now c.args.from c.args.to.now c.args.refs.now c.loop-ahead.refs c.in-Some.r k

pub bounds-acked-r-inside : goal.bounds-acked-r-inside
bounds-acked-r-inside c =
    let k = subst (Sends c.args.acked.now c.args.from c.args.to.now c.args.refs.now c.loop-ahead.refs) c.in-Some.is c.loop-ahead.invariant in
    let live = ahead_live c.args.acked.now c.args.from c.args.to.now c.args.refs.now c.loop-ahead.refs c.in-Some.r k in
    omega (arith, c.requires.flags c.in-Some.r (k.live c.in-Some.r live), c.r.view_is)

pub send-requires-clause-live : goal.send-requires-clause-live
send-requires-clause-live c =
    let k = subst (Sends c.args.acked.now c.args.from c.args.to.now c.args.refs.now c.loop-ahead.refs) c.in-Some.is c.loop-ahead.invariant in
    ahead_live c.args.acked.now c.args.from c.args.to.now c.args.refs.now c.loop-ahead.refs c.in-Some.r k

pub loop-ahead-smaller-then-acked-r : goal.loop-ahead-smaller-then-acked-r
loop-ahead-smaller-then-acked-r c =
    let k = subst (Sends c.args.acked.now c.args.from c.args.to.now c.args.refs.now c.loop-ahead.refs) c.in-Some.is c.loop-ahead.invariant in
    let flag : get_or c.args.acked.now c.in-Some.r false ≡ true = ap (λ (z : ℕ). get_or c.args.acked.now z false) (sym c.r.view_is) ∙ c.if-acked-r.true in
    subst (λ (z : Option ℕ). count_from c.next-ahead.result (references_of c.send.new.refs c.args.from)
    < count_from z (references_of c.loop-ahead.refs c.args.from)) (sym c.in-Some.is)
    (sent_shorter c.args.acked.now c.args.from c.args.to.now c.args.refs.now c.loop-ahead.refs c.in-Some.r k c.next-ahead.result c.next-ahead.ensures
    c.send.new.refs flag c.requires.differ c.send.ensures.sound c.send.ensures.others c.send.ensures.changes c.send.ensures.same_held)

pub loop-ahead-preserved-then-acked-r : goal.loop-ahead-preserved-then-acked-r
loop-ahead-preserved-then-acked-r c =
    let k = subst (Sends c.args.acked.now c.args.from c.args.to.now c.args.refs.now c.loop-ahead.refs) c.in-Some.is c.loop-ahead.invariant in
    let flag : get_or c.args.acked.now c.in-Some.r false ≡ true = ap (λ (z : ℕ). get_or c.args.acked.now z false) (sym c.r.view_is) ∙ c.if-acked-r.true in
    sends_one c.args.acked.now c.args.from c.args.to.now c.args.refs.now c.loop-ahead.refs c.in-Some.r k c.next-ahead.result c.next-ahead.ensures
    c.send.new.refs flag c.requires.differ c.send.ensures.sound c.send.ensures.others c.send.ensures.changes c.send.ensures.same_held

pub loop-ahead-smaller : goal.loop-ahead-smaller
loop-ahead-smaller c =
    let k = subst (Sends c.args.acked.now c.args.from c.args.to.now c.args.refs.now c.loop-ahead.refs) c.in-Some.is c.loop-ahead.invariant in
    let flag : get_or c.args.acked.now c.in-Some.r false ≡ false = ap (λ (z : ℕ). get_or c.args.acked.now z false) (sym c.r.view_is) ∙ c.if-acked-r.false in
    subst (λ (z : Option ℕ). count_from c.next-ahead.result (references_of c.loop-ahead.refs c.args.from)
    < count_from z (references_of c.loop-ahead.refs c.args.from)) (sym c.in-Some.is)
    (past_shorter c.args.acked.now c.args.from c.args.to.now c.args.refs.now c.loop-ahead.refs c.in-Some.r k c.next-ahead.result c.next-ahead.ensures flag)

pub loop-ahead-preserved : goal.loop-ahead-preserved
loop-ahead-preserved c =
    let k = subst (Sends c.args.acked.now c.args.from c.args.to.now c.args.refs.now c.loop-ahead.refs) c.in-Some.is c.loop-ahead.invariant in
    let flag : get_or c.args.acked.now c.in-Some.r false ≡ false = ap (λ (z : ℕ). get_or c.args.acked.now z false) (sym c.r.view_is) ∙ c.if-acked-r.false in
    sends_past c.args.acked.now c.args.from c.args.to.now c.args.refs.now c.loop-ahead.refs c.in-Some.r k c.next-ahead.result c.next-ahead.ensures flag

pub returns-clause-places : goal.returns-clause-places
returns-clause-places c =
    let k = subst (Sends c.args.acked.now c.args.from c.args.to.now c.args.refs.now c.loop-ahead.refs) c.in_default.is c.loop-ahead.invariant in
    sends_all c.args.acked.now c.args.from c.args.to.now c.args.refs.now c.loop-ahead.refs k
