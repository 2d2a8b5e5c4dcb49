use Rattle.std.proofs.Common.{◌≡◌, ℕ, Option, ap, sym, ◌∙◌}
use Rattle.std.proofs.lemmas.Bool.{eqb-true}
use Rattle.ft_arena.specs.Ids.{put_after, without, after}
use Rattle.ft_block.proofs.MovedLemmas.{stays_after, stays_first, without_le}
use Rattle.ft_block.proofs.shrink.stands_there.Goals as goal

pub returns-in-None-prev-clause-there : goal.returns-in-None-prev-clause-there
returns-in-None-prev-clause-there g c = λ _. ap (λ (o : Option ℕ). put_after (without c.args.arena.now.leaves c.args.id) o c.args.id) c.in-None.is
    ∙ stays_first c.args.arena.now.leaves c.args.id (sym c.in-None-prev.ensures) (λ z. without_le c.args.arena.now c.requires.forest z)

pub returns-in-Some-prev-2-clause-there : goal.returns-in-Some-prev-2-clause-there
returns-in-Some-prev-2-clause-there g c = λ h.
    let e : c.in-Some-prev-2.before ≡ c.in-Some.at = eqb-true c.in-Some-prev-2.before c.in-Some.at (sym c.eq.ensures ∙ h) in
    ap (λ (o : Option ℕ). put_after (without c.args.arena.now.leaves c.args.id) o c.args.id) c.in-Some.is
    ∙ stays_after c.args.arena.now.leaves c.in-Some.at c.args.id (ap (after c.args.arena.now.leaves) (sym e)
    ∙ c.in-Some-prev-2.ensures) (λ z. without_le c.args.arena.now c.requires.forest z)
