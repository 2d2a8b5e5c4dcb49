use Rattle.std.proofs.Common.{◌∙◌, ◌<◌, length, arith}
use Rattle.ft_refs.proofs.ListLemmas.{seen_sound, first_is, read_at}
use Rattle.ft_refs.proofs.refs.Refs.first.Goals as goal

pub returns-then-at-len-clause-value : goal.returns-then-at-len-clause-value
returns-then-at-len-clause-value c =
    let l : c.owner.inside.0 < length c.self.inside.ends.items = omega (arith, c.if-at-len.true, c.len.ensures, c.self.inside.ends.ok.0) in
    rw (← c.self.view_is, ← c.owner.view_is) (c.wrap.ensures ∙ first_is c.self.inside.slots c.self.inside.ends.items c.owner.inside.0 c.index.result.now c.self.invariant (read_at c.self.inside.ends.items c.owner.inside.0 c.index.result.now l c.index.ensures))

pub returns-then-at-len-clause-sound : goal.returns-then-at-len-clause-sound
returns-then-at-len-clause-sound c = rw (← c.self.view_is) (seen_sound c.self.inside.slots c.self.inside.ends.items c.self.invariant)

pub returns-else-at-len-clause-sound : goal.returns-else-at-len-clause-sound
returns-else-at-len-clause-sound c = rw (← c.self.view_is) (seen_sound c.self.inside.slots c.self.inside.ends.items c.self.invariant)
