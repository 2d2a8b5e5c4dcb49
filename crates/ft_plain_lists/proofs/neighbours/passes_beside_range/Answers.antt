use Rattle.std.proofs.Common.{◌≡◌, ℕ, ◌+◌, ◌≤◌, Bool, ◌&&◌, true, false, suc, ◌∷◌, ◌∙◌, ap, arith, drop, subst, sym}
use Rattle.std.proofs.lemmas.List.{drop_all, drop_more}
use Rattle.ft_base.specs.Scan.{one_more_if, within}
use Rattle.ft_changes.specs.Beside.{is_always_seen, is_standing}
use Rattle.ft_plain_lists.proofs.StandingPairs.{RestPasses, pass_next_to, rest-none, rest-passed, rest-standing, standing_from}
use Rattle.ft_plain_lists.proofs.neighbours.passes_beside_range.Goals as goal
use Rattle.ft_plain_lists.proofs.neighbours.passes_beside_range.Goals.{then-is_standing+else-not-may_meet, else-is_standing, then-is_seen, else-is_seen}

more-most : (b : Bool) (n : ℕ) → one_more_if b n ≤ n + 1
more-most true n = omega arith
more-most false n = omega arith

pub loop-e-init : goal.loop-e-init
loop-e-init g c =
    let seen = g.S.ElementTest.test c.args.seen in
    record { counted = omega arith; all = rest-none seen is_standing is_always_seen c.args.p c.args.q c.args.items.now }

pub loop-e-preserved : goal.loop-e-preserved
loop-e-preserved g c =
    let seen = g.S.ElementTest.test c.args.seen in
    let p = c.args.p in
    let q = c.args.q in
    let xs = c.args.items.now in
    let l = c.loop-e in
    let x = c.e-item.result in
    let rest = drop (l.e-index + 1) xs in
    let n = l.place in
    let at_front = drop_more xs l.e-index x c.loop-e-test.true ∙ ap (λ e. e ∷ rest) (sym c.e-item.is) in
    let here = subst (λ ys. RestPasses seen is_standing is_always_seen p q l.last.is_inside l.last.passes n ys xs) at_front l.invariant.all in
    let inside = ap (λ b. b && within p q n) c.passes-is_seen.ensures in
    let next : RestPasses seen is_standing is_always_seen p q c.if-is_standing.last.is_inside c.if-is_standing.last.passes
    (one_more_if (seen x) n) rest xs = elim c.if-is_standing.branch [
      | then-is_standing+else-not-may_meet w ↦
          let k = w.as_neighbour-next.result in
          subst (λ m. RestPasses seen is_standing is_always_seen p q m.is_inside m.passes (one_more_if (seen x) n) rest xs) (sym w.last-is)
          (rest-standing seen is_standing is_always_seen p q l.last.is_inside l.last.passes n x rest xs here k.is_inside k.passes
          (sym c.is_standing.ensures ∙ w.if-is_standing.true)
          (ap (λ m. m.is_inside) w.as_neighbour-next.ensures ∙ w.is_inside.ensures ∙ inside)
          (ap (λ m. m.passes) w.as_neighbour-next.ensures)
          (sym w.may_meet.ensures ∙ w.if-not-may_meet.false))
      | else-is_standing w ↦
          subst (λ m. RestPasses seen is_standing is_always_seen p q m.is_inside m.passes (one_more_if (seen x) n) rest xs) (sym w.last-is)
          (rest-passed seen is_standing is_always_seen p q l.last.is_inside l.last.passes n x rest xs here
          (sym c.is_standing.ensures ∙ w.if-is_standing.false))
    ] in
    let counted : one_more_if (seen x) n ≡ c.if-is_seen.place = elim c.if-is_seen.branch [
      | then-is_seen w ↦
          let more : suc n ≡ n + 1 = omega arith in
          ap (λ b. one_more_if b n) (sym c.passes-is_seen.ensures ∙ w.if-is_seen.true) ∙ more ∙ sym w.place-is
      | else-is_seen w ↦ ap (λ b. one_more_if b n) (sym c.passes-is_seen.ensures ∙ w.if-is_seen.false) ∙ sym w.place-is
    ] in
    record {
      counted = omega (arith, counted, more-most (seen x) n, l.invariant.counted);
      all = subst (λ k. RestPasses seen is_standing is_always_seen p q c.if-is_standing.last.is_inside
          c.if-is_standing.last.passes k rest xs) counted next;
    }

pub returns : goal.returns
returns g c =
    let seen = g.S.ElementTest.test c.args.seen in
    let xs = c.args.items.now in
    let l = c.loop-e in
    ap (λ ys. pass_next_to is_always_seen l.last.is_inside l.last.passes (standing_from seen is_standing c.args.p c.args.q l.place ys))
    (sym (drop_all l.e-index xs c.loop-e-test.false))
    ∙ l.invariant.all
