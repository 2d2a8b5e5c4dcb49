use Rattle.std.proofs.Common.{ℕ, ◌≡◌, drop, subst, arith}
use Rattle.ft_partial.specs.Entries.{AreFrom}
use Rattle.ft_partial.proofs.EntryLemmas.{up_to_before, up_to_past, up_to_none, from_past, from_none}
use Rattle.ft_partial.proofs.entries.entry_place.Goals as goal

pub returns-then-entries-count : goal.returns-then-entries-count
returns-then-entries-count c = record {
  inside = omega arith;
  below = up_to_before c.args.seq _ _ c.args.entries.now c.requires (omega arith) (omega arith) c.if-entries-count.true;
  above = from_none c.args.seq c.args.entries.now;
}

pub loop-low-init : goal.loop-low-init
loop-low-init c = record {
  order = omega arith;
  inside = omega arith;
  below = up_to_none c.args.seq c.args.entries.now;
  above = from_none c.args.seq c.args.entries.now;
}

pub loop-low-preserved-then-entries-middle : goal.loop-low-preserved-then-entries-middle
loop-low-preserved-then-entries-middle c = record {
  order = omega arith;
  inside = omega arith;
  below = up_to_past c.args.seq _ _ c.args.entries.now c.requires (omega arith) c.if-entries-middle.true;
  above = c.loop-low.invariant.above;
}

pub loop-low-preserved : goal.loop-low-preserved
loop-low-preserved c = record {
  order = omega arith;
  inside = omega arith;
  below = c.loop-low.invariant.below;
  above = from_past c.args.seq _ _ c.args.entries.now c.requires (omega arith) c.if-entries-middle.false;
}

pub returns : goal.returns
returns c =
    let same : c.loop-low.high ≡ c.loop-low.low = omega arith in
    record {
      inside = omega arith;
      below = c.loop-low.invariant.below;
      above = subst (λ (n : ℕ). AreFrom c.args.seq (drop n c.args.entries.now)) same c.loop-low.invariant.above;
    }
