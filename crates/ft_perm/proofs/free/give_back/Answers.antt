use Rattle.std.proofs.Common.{◌≡◌, ◌≤◌, ◌∷◌, ◌++◌, zero, suc, take, drop, ◌∙◌, ap, sym, subst, arith}
use Rattle.ft_perm.specs.Handles.{HandleRun, in_run}
use Rattle.ft_perm.specs.Vectors.{AreApart, begun, joined_at, times_held}
use Rattle.ft_perm.proofs.RunCounts.{len-insert}
use Rattle.ft_perm.proofs.ApartRuns.{apart_given, given_at, joined_before}
use Rattle.ft_perm.proofs.free.give_back.Goals as goal

pub returns-in-Some-clause-ok : goal.returns-in-Some-clause-ok
returns-in-Some-clause-ok c = λ h.
    c.join_next-in-Some.ensures.held h ∙ c.join_next.ensures.held h ∙ ap (times_held h) c.in_ok-insert.ensures.items
    ∙ len-insert (in_run h) c.args.free.now.items c.place_for-at.result c.args.run

pub returns-in-Some-clause-apart : goal.returns-in-Some-clause-apart
returns-in-Some-clause-apart c = λ apart free.
    let xs = c.args.free.now.items in
    let at = c.place_for-at.result in
    let up : suc c.in-Some.before ≡ at = omega (arith, c.in-Some.ensures.0, c.in-Some.ensures.1) in
    let first = ap (begun c.run.inside.first) c.deref.ensures.value ∙ ap (λ (r : HandleRun). begun r.first xs) c.run.view_is in
    let put = take at xs ++ c.args.run ∷ drop at xs in
    let made : c.join_next-in-Some.new.free.items ≡ given_at c.args.run at xs =
    c.join_next-in-Some.ensures.joined ∙ ap (joined_at c.in-Some.before) (c.join_next.ensures.joined ∙ ap (joined_at at) c.in_ok-insert.ensures.items)
    ∙ ap (λ k. joined_before k (joined_at at put)) up in
    subst AreApart (sym (made ∙ ap (λ k. given_at c.args.run k xs) (c.place_for-at.ensures.place ∙ first))) (apart_given c.args.run
    (subst (λ (r : HandleRun). 1 ≤ r.count) c.run.view_is c.run.invariant.0) xs free apart)

pub returns-in_default-clause-apart : goal.returns-in_default-clause-apart
returns-in_default-clause-apart c = λ apart free.
    let xs = c.args.free.now.items in
    let at = c.place_for-at.result in
    let front : zero ≡ at = omega (arith, λ (some : 1 ≤ at). c.in_default.ensures some) in
    let first = ap (begun c.run.inside.first) c.deref.ensures.value ∙ ap (λ (r : HandleRun). begun r.first xs) c.run.view_is in
    let put = take at xs ++ c.args.run ∷ drop at xs in
    let made : c.join_next.new.free.items ≡ given_at c.args.run at xs =
    c.join_next.ensures.joined ∙ ap (joined_at at) c.in_ok-insert.ensures.items ∙ ap (λ k. joined_before k (joined_at at put)) front in
    subst AreApart (sym (made ∙ ap (λ k. given_at c.args.run k xs) (c.place_for-at.ensures.place ∙ first))) (apart_given c.args.run
    (subst (λ (r : HandleRun). 1 ≤ r.count) c.run.view_is c.run.invariant.0) xs free apart)
