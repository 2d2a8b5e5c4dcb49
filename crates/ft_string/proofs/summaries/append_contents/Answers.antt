use Rattle.std.proofs.Common.{IsTrue, arith, subst, sym}
use Rattle.std.proofs.lemmas.List.{nil_from_length}
use Rattle.ft_string.proofs.Appended.{appends-none, content-next, contents-done}
use Rattle.ft_string.proofs.summaries.append_contents.Goals as goal

pub loop-content-init : goal.loop-content-init
loop-content-init c = record { appends = appends-none c.args.tree.now; whole = c.into_iter-content-iterator.ensures.into_iter_gives.0 }

pub loop-content-preserved : goal.loop-content-preserved
loop-content-preserved c =
    content-next c.args.seg.now c.args.contents.items c.loop-content.yielded c.in-Some.content c.loop-content.content-iterator.rest.items c.next.new.self.rest.items c.args.tree.now
    c.loop-content.tree c.append_content.new.tree c.in-Some.ensures.steps.0 c.loop-content.invariant c.in_ok-append_content.ensures

pub append_content-requires : goal.append_content-requires
append_content-requires c = subst (λ b. IsTrue b) (sym c.loop-content.invariant.appends.rest.usable) c.requires

-- what was gone over are all contents
pub returns : goal.returns
returns c =
    let rest = c.loop-content.content-iterator.rest in
    contents-done c.args.seg.now c.args.contents.items c.loop-content.yielded rest.items c.args.tree.now c.loop-content.tree
    (nil_from_length rest.items (omega (arith, c.in-None.ensures.steps.0, rest.ok.0))) c.loop-content.invariant
