use Rattle.std.proofs.Common.{ℕ, None, sym, subst}
use Rattle.ft_shape.specs.Tree.{IsTree}
use Rattle.ft_shape.proofs.UnlinkLemmas.{unlinked_tree, unlinked_takes}
use Rattle.ft_shape.proofs.ToldLemmas.{bare_keeps, unlinked_keeps}
use Rattle.ft_overlap.specs.Inside.{IsSpan, SpansLast}
use Rattle.ft_overlap.proofs.shrink.take_at.Goals as goal

pub unlink-requires-clause-live : goal.unlink-requires-clause-live
unlink-requires-clause-live g c = c.detach-top.ensures.apart.live

pub unlink-requires-clause-alone : goal.unlink-requires-clause-alone
unlink-requires-clause-alone g c = c.detach-top.ensures.apart.top

pub returns-then-is_only-clause-one : goal.returns-then-is_only-clause-one
returns-then-is_only-clause-one g c = bare_keeps IsSpan c.take_last.new.arena c.take_last.ensures.bare None

pub returns-clause-one : goal.returns-clause-one
returns-clause-one g c = unlinked_keeps IsSpan c.detach-top.new.arena c.unlink.new.self c.args.id c.unlink.ensures.sound c.unlink.ensures.changes c.detach-top.ensures.one

pub returns-then-is_only-clause-last : goal.returns-then-is_only-clause-last
returns-then-is_only-clause-last g c = bare_keeps (SpansLast (g.P.Places.end_place c.args.at.now)) c.take_last.new.arena c.take_last.ensures.bare None

pub returns-clause-last : goal.returns-clause-last
returns-clause-last g c = unlinked_keeps (SpansLast (g.P.Places.end_place c.args.at.now)) c.detach-top.new.arena c.unlink.new.self
    c.args.id c.unlink.ensures.sound c.unlink.ensures.changes c.detach-top.ensures.last

pub returns-clause-rooted : goal.returns-clause-rooted
returns-clause-rooted g c = subst (λ (z : ℕ). IsTree c.unlink.new.self z) (sym c.top.view_is)
    (unlinked_tree c.detach-top.new.arena c.unlink.new.self c.detach-top.result c.args.id c.unlink.result c.detach-top.ensures.apart c.unlink.ensures.sound c.unlink.ensures.value
    c.unlink.ensures.leaves c.unlink.ensures.changes)

pub returns-clause-takes : goal.returns-clause-takes
returns-clause-takes g c = unlinked_takes c.detach-top.new.arena c.unlink.new.self c.detach-top.result c.args.id c.unlink.result
    c.detach-top.ensures.apart c.unlink.ensures.sound c.unlink.ensures.value
    c.unlink.ensures.leaves c.unlink.ensures.changes c.args.arena.now c.detach-top.ensures.leaves c.detach-top.ensures.leaf_values
