use Rattle.std.proofs.Common.{◌<◌, ◌^◌, arith, ap, ◌∙◌}
use Rattle.ft_partial.specs.EntryLists.{entries_of}
use Rattle.ft_partial.proofs.TableLemmas.{length_at_is, length_at-latest}
use Rattle.ft_partial.proofs.table.Table.length.Goals as goal

pub returns-then-self-at-clause-at : goal.returns-then-self-at-clause-at
returns-then-self-at-clause-at c =
    length_at-latest c.args.self.now c.self.inside.latest c.self.inside.last (entries_of c.self.inside.entries) c.args.at.r c.args.at.c (ap (λ t. t.last) c.self.view_is)
    (ap (λ t. t.entries) c.self.view_is) c.self.invariant.up_to c.if-self-at.true (omega arith)

pub returns-then-self-at-clause-sum : goal.returns-then-self-at-clause-sum
returns-then-self-at-clause-sum c = λ xs from stands fits.
    let same = returns-then-self-at-clause-at c in
    let low : c.args.at.r < 2 ^ 64 = omega arith in
    let conn : c.args.at.c < 2 ^ 32 = omega arith in
    omega (arith, same, stands c.args.at.r c.args.at.c from low conn)

pub returns-clause-at : goal.returns-clause-at
returns-clause-at c =
    length_at_is c.args.self.now c.self.inside.last c.as_slice.result.now c.args.at.r c.args.at.c c.unseen.result (ap (λ t. t.last) c.self.view_is)
    (c.as_slice.ensures ∙ ap (λ t. t.entries) c.self.view_is) c.unseen.ensures

pub returns-clause-sum : goal.returns-clause-sum
returns-clause-sum c = λ xs from stands fits.
    let same = returns-clause-at c in
    let low : c.args.at.r < 2 ^ 64 = omega arith in
    let conn : c.args.at.c < 2 ^ 32 = omega arith in
    omega (arith, same, stands c.args.at.r c.args.at.c from low conn)
