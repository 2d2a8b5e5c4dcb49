use Rattle.std.proofs.Common.{ℕ, Option, refl, sym, subst}
use Rattle.ft_shape.specs.Told.{KeepsBut}
use Rattle.ft_shape.proofs.RefreshLemmas.{SameShape-refl, SameShape-then, SameShape-part}
use Rattle.ft_shape.proofs.ToldLemmas.{up_keeps}
use Rattle.ft_overlap.specs.Inside.{IsSpan, SpansLast}
use Rattle.ft_overlap.proofs.Upward.{no_own_child, up_block, up_less, up_filled}
use Rattle.ft_overlap.proofs.Renamed.{stays_right}
use Rattle.ft_overlap.proofs.names.rename_up.Goals as goal

pub up-init : goal.up-init
up-init g c =
    record {
      tree = c.requires.tree;
      same = SameShape-refl c.args.arena.now c.requires.tree.shape.forest;
      block = c.requires.block;
      filled = c.requires.filled;
      known = c.requires.known;
      one = c.requires.one;
      last = c.requires.last;
    }

pub rename-requires-clause-block : goal.rename-requires-clause-block
rename-requires-clause-block g c = c.up.invariant.block c.in-Some.block c.in-Some.is

pub rename-requires-clause-forest : goal.rename-requires-clause-forest
rename-requires-clause-forest g c = c.up.invariant.tree.shape.forest

pub rename-requires-clause-apart : goal.rename-requires-clause-apart
rename-requires-clause-apart g c = no_own_child c.up.arena c.args._root c.args._apart c.args._short c.up.invariant.tree c.in-Some.block

pub rename-requires-clause-filled : goal.rename-requires-clause-filled
rename-requires-clause-filled g c = c.up.invariant.filled c.in-Some.block (c.up.invariant.block c.in-Some.block c.in-Some.is)

pub rename-requires-clause-known : goal.rename-requires-clause-known
rename-requires-clause-known g c = c.up.invariant.known

pub returns-then-not-rename-clause-one : goal.returns-then-not-rename-clause-one
returns-then-not-rename-clause-one g c =
    stays_right IsSpan c.up.arena c.rename.new.arena c.in-Some.block (c.if-not-rename.ensures.same refl) c.rename.ensures.one
    (subst (λ (o : Option ℕ). KeepsBut IsSpan c.up.arena o) c.in-Some.is c.up.invariant.one)

pub returns-then-not-rename-clause-last : goal.returns-then-not-rename-clause-last
returns-then-not-rename-clause-last g c =
    stays_right (SpansLast (g.P.Places.end_place c.args.at.now)) c.up.arena c.rename.new.arena c.in-Some.block (c.if-not-rename.ensures.same refl) c.rename.ensures.last
    (subst (λ (o : Option ℕ). KeepsBut (SpansLast (g.P.Places.end_place c.args.at.now)) c.up.arena o) c.in-Some.is c.up.invariant.last)

pub up-smaller : goal.up-smaller
up-smaller g c = up_less c.up.arena c.args._root c.args._apart c.args._short c.up.invariant.tree c.in-Some.block c.rename.new.arena c.rename.ensures.shape
    (c.up.invariant.block c.in-Some.block c.in-Some.is) c.up.stale c.parent-stale.result c.in-Some.is c.parent-stale.ensures

pub up-preserved : goal.up-preserved
up-preserved g c =
    let s = c.up.arena in
    let s' = c.rename.new.arena in
    let i = c.up.invariant in
    let b = c.in-Some.block in
    let r = c.rename.ensures.shape in
    let block = i.block b c.in-Some.is in
    record {
      tree = SameShape-part s s' c.args._root c.args._apart c.args._short i.tree r;
      same = SameShape-then c.args.arena.now s s' i.same r;
      block = up_block s c.args._root c.args._apart c.args._short i.tree b s' r block c.parent-stale.result c.parent-stale.ensures;
      filled = up_filled s c.args._root c.args._apart c.args._short i.tree b s' r block i.filled;
      known = c.rename.ensures.known;
      one = subst (λ (o : Option ℕ). KeepsBut IsSpan s' o) (sym c.parent-stale.ensures)
          (up_keeps IsSpan s s' b r c.rename.ensures.one (subst (λ (o : Option ℕ). KeepsBut IsSpan s o) c.in-Some.is i.one));
      last = subst (λ (o : Option ℕ). KeepsBut (SpansLast (g.P.Places.end_place c.args.at.now)) s' o) (sym c.parent-stale.ensures)
          (up_keeps (SpansLast (g.P.Places.end_place c.args.at.now)) s s' b r c.rename.ensures.last
          (subst (λ (o : Option ℕ). KeepsBut (SpansLast (g.P.Places.end_place c.args.at.now)) s o) c.in-Some.is i.last));
    }

pub returns-clause-shape : goal.returns-clause-shape
returns-clause-shape g c = c.up.invariant.same

pub returns-clause-one : goal.returns-clause-one
returns-clause-one g c = subst (λ (o : Option ℕ). KeepsBut IsSpan c.up.arena o) c.in_default.is c.up.invariant.one

pub returns-clause-last : goal.returns-clause-last
returns-clause-last g c = subst (λ (o : Option ℕ). KeepsBut (SpansLast (g.P.Places.end_place c.args.at.now)) c.up.arena o) c.in_default.is c.up.invariant.last
