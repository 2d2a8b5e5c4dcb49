use Rattle.std.proofs.Common.{◌<◌, ◌^◌, [], arith, ap, refl, sym, ◌∙◌}
use Rattle.ft_partial.specs.declared.stages.Recent.{Recent}
use Rattle.ft_partial.specs.EntryLists.{entries_of}
use Rattle.ft_partial.specs.Stages.{recent_entries}
use Rattle.ft_partial.proofs.TableLemmas.{length_at_is, length_at-last}
use Rattle.ft_partial.proofs.stages.Stages.length.Goals as goal

pub returns-then-at-eq-LAST-clause-at : goal.returns-then-at-eq-LAST-clause-at
returns-then-at-eq-LAST-clause-at c =
    length_at-last c.args.self.now c.self.inside.last _ c.args.at.r c.args.at.c (ap (λ t. t.last) c.self.view_is)
    (ap (λ t. t.entries) c.self.view_is) c.self.invariant c.if-at-eq-LAST.true (omega arith)

pub returns-then-at-eq-LAST-clause-sum : goal.returns-then-at-eq-LAST-clause-sum
returns-then-at-eq-LAST-clause-sum c = λ xs from stands fits.
    let same = returns-then-at-eq-LAST-clause-at c in
    let low : c.args.at.r < 2 ^ 64 = omega arith in
    let conn : c.args.at.c < 2 ^ 32 = omega arith in
    omega (arith, same, stands c.args.at.r c.args.at.c from low conn)

pub returns-in-Some-clause-at : goal.returns-in-Some-clause-at
returns-in-Some-clause-at c =
    length_at_is c.args.self.now c.self.inside.last c.as_slice.result.now c.args.at.r c.args.at.c c.unseen.result (ap (λ t. t.last) c.self.view_is)
    (c.as_slice.ensures ∙ ap (λ (z : Recent). entries_of z.entries) c.deref.ensures ∙ ap recent_entries (sym c.in-Some.is) ∙ ap (λ t. t.entries) c.self.view_is)
    c.unseen.ensures

pub returns-in-Some-clause-sum : goal.returns-in-Some-clause-sum
returns-in-Some-clause-sum c = λ xs from stands fits.
    let same = returns-in-Some-clause-at c in
    let low : c.args.at.r < 2 ^ 64 = omega arith in
    let conn : c.args.at.c < 2 ^ 32 = omega arith in
    omega (arith, same, stands c.args.at.r c.args.at.c from low conn)

pub returns-in-None-clause-at : goal.returns-in-None-clause-at
returns-in-None-clause-at c =
    omega (
      arith,
      length_at_is c.args.self.now c.self.inside.last [] c.args.at.r c.args.at.c 0 (ap (λ t. t.last) c.self.view_is)
          (ap recent_entries (sym c.in-None.is) ∙ ap (λ t. t.entries) c.self.view_is) refl,
    )

pub returns-in-None-clause-sum : goal.returns-in-None-clause-sum
returns-in-None-clause-sum c = λ xs from stands fits.
    let same = returns-in-None-clause-at c in
    let low : c.args.at.r < 2 ^ 64 = omega arith in
    let conn : c.args.at.c < 2 ^ 32 = omega arith in
    omega (arith, same, stands c.args.at.r c.args.at.c from low conn)
