use Rattle.std.proofs.Common.{ℕ, Option, Some, None, refl, sym, subst}
use Rattle.ft_shape.specs.Told.{KeepsBut}
use Rattle.ft_shape.proofs.RefreshLemmas.{SameShape-refl, SameShape-then, SameShape-part}
use Rattle.ft_shape.proofs.ToldLemmas.{up_keeps}
use Rattle.ft_overlap.specs.Inside.{IsSpan, SpansLast, IsUnraised}
use Rattle.ft_overlap.proofs.Upward.{no_own_child, up_block, up_less}
use Rattle.ft_overlap.proofs.Raised.{up_unraised}
use Rattle.ft_overlap.proofs.Renamed.{stays_right}
use Rattle.ft_overlap.proofs.raise.raise_up.Goals as goal

pub up-init : goal.up-init
up-init g c =
    record {
      tree = c.requires.tree;
      same = SameShape-refl c.args.arena.now c.requires.tree.shape.forest;
      block = c.requires.block;
      known = c.requires.known;
      one = c.requires.one;
      last = c.requires.last;
      unraised = c.requires.unraised;
    }

pub raise-requires-clause-block : goal.raise-requires-clause-block
raise-requires-clause-block g c = c.up.invariant.block c.in-Some.block c.in-Some.is

pub raise-requires-clause-forest : goal.raise-requires-clause-forest
raise-requires-clause-forest g c = c.up.invariant.tree.shape.forest

pub raise-requires-clause-apart : goal.raise-requires-clause-apart
raise-requires-clause-apart g c = no_own_child c.up.arena c.args._root None None c.up.invariant.tree c.in-Some.block

pub raise-requires-clause-known : goal.raise-requires-clause-known
raise-requires-clause-known g c = c.up.invariant.known

pub raise-requires-clause-unraised : goal.raise-requires-clause-unraised
raise-requires-clause-unraised g c =
    subst (λ (o : Option ℕ). IsUnraised (g.P.Places.end_place c.args.at.now) c.args.item c.up.arena o) c.in-Some.is c.up.invariant.unraised

pub returns-then-not-raise-clause-one : goal.returns-then-not-raise-clause-one
returns-then-not-raise-clause-one g c =
    stays_right IsSpan c.up.arena c.raise.new.arena c.in-Some.block (c.if-not-raise.ensures.same refl) c.raise.ensures.one
    (subst (λ (o : Option ℕ). KeepsBut IsSpan c.up.arena o) c.in-Some.is c.up.invariant.one)

pub returns-then-not-raise-clause-last : goal.returns-then-not-raise-clause-last
returns-then-not-raise-clause-last g c =
    stays_right (SpansLast (g.P.Places.end_place c.args.at.now)) c.up.arena c.raise.new.arena c.in-Some.block (c.if-not-raise.ensures.same refl) c.raise.ensures.last
    (subst (λ (o : Option ℕ). KeepsBut (SpansLast (g.P.Places.end_place c.args.at.now)) c.up.arena o) c.in-Some.is c.up.invariant.last)

pub up-smaller : goal.up-smaller
up-smaller g c = up_less c.up.arena c.args._root None None c.up.invariant.tree c.in-Some.block c.raise.new.arena c.raise.ensures.shape
    (c.up.invariant.block c.in-Some.block c.in-Some.is) c.up.stale c.parent-stale.result c.in-Some.is c.parent-stale.ensures

pub up-preserved : goal.up-preserved
up-preserved g c =
    let s = c.up.arena in
    let s' = c.raise.new.arena in
    let i = c.up.invariant in
    let b = c.in-Some.block in
    let place = g.P.Places.end_place c.args.at.now in
    let r = c.raise.ensures.shape in
    let block = i.block b c.in-Some.is in
    let one : KeepsBut IsSpan s (Some b) = subst (λ (o : Option ℕ). KeepsBut IsSpan s o) c.in-Some.is i.one in
    let last : KeepsBut (SpansLast place) s (Some b) = subst (λ (o : Option ℕ). KeepsBut (SpansLast place) s o) c.in-Some.is i.last in
    record {
      tree = SameShape-part s s' c.args._root None None i.tree r;
      same = SameShape-then c.args.arena.now s s' i.same r;
      block = up_block s c.args._root None None i.tree b s' r block c.parent-stale.result c.parent-stale.ensures;
      known = c.raise.ensures.known;
      one = subst (λ (o : Option ℕ). KeepsBut IsSpan s' o) (sym c.parent-stale.ensures) (up_keeps IsSpan s s' b r c.raise.ensures.one one);
      last = subst (λ (o : Option ℕ). KeepsBut (SpansLast place) s' o) (sym c.parent-stale.ensures)
          (up_keeps (SpansLast place) s s' b r c.raise.ensures.last last);
      unraised = up_unraised place c.args.item s s' b r c.raise.ensures.one (c.if-not-raise.ensures.rises refl)
          (no_own_child s c.args._root None None i.tree b) one last c.parent-stale.result c.parent-stale.ensures;
    }

pub returns-clause-shape : goal.returns-clause-shape
returns-clause-shape g c = c.up.invariant.same

pub returns-clause-one : goal.returns-clause-one
returns-clause-one g c = subst (λ (o : Option ℕ). KeepsBut IsSpan c.up.arena o) c.in_default.is c.up.invariant.one

pub returns-clause-last : goal.returns-clause-last
returns-clause-last g c = subst (λ (o : Option ℕ). KeepsBut (SpansLast (g.P.Places.end_place c.args.at.now)) c.up.arena o) c.in_default.is c.up.invariant.last
