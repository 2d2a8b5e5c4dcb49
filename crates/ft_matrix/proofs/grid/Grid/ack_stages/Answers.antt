use Rattle.std.proofs.Common.{◌≡◌, ◌+◌, ◌<◌, ◌≤◌, ◌∙◌, ℕ, All, arith, refl, sym, subst}
use Rattle.ft_matrix.specs.declared.stages.GridStage.{GridStage}
use Rattle.ft_matrix.specs.Acked.{AcksWithin}
use Rattle.ft_matrix.proofs.AckedEdits.{all-acked, none-acked-yet, one-more-acked}
use Rattle.ft_matrix.proofs.AckedWithin.{all-within, number-acked, within-begins}
use Rattle.ft_matrix.proofs.grid.Grid.ack_stages.Goals as goal

plus-zero : (n : ℕ) → n ≡ n + 0
plus-zero n = omega arith

next-number : (n i k : ℕ) → k ≡ n + i → k + 1 ≡ n + (i + 1)
next-number n i k e = omega arith

fewer : (n i k count : ℕ) → k ≡ n + i → i < count → k < n + count
fewer n i k count e l = omega arith

all-taken : (n count i : ℕ) → count ≤ i → n + count ≤ n + i
all-taken n count i l = omega arith

pub loop-i-init : goal.loop-i-init
loop-i-init g = record {
  sound = g.requires.sound;
  lowest = subst (λ n. All (λ (t : GridStage). n ≤ t.stage) g.args.self.now.stages.items) (plus-zero g.args.first) g.requires.lowest;
  floor = refl;
  acked = λ last doc acked rest h n c. none-acked-yet last g.args.seq g.args.conn doc acked rest g.args.self.now h c;
  within = λ last doc acked rest h oldest marks c.
      subst (λ k. AcksWithin last g.args.seq g.args.conn g.args.self.now doc acked rest k (g.args.first + g.args.count)) (plus-zero g.args.first)
      (within-begins last g.args.seq g.args.conn doc acked rest g.args.first (g.args.first + g.args.count) g.args.self.now h oldest marks c);
}

pub loop-i-preserved : goal.loop-i-preserved
loop-i-preserved g =
    let i = g.loop-i.invariant in
    let number : g.in_ok-more.field-0 ≡ g.args.first + g.loop-i.i = g.in_ok-more.ensures in
    let lowest = subst (λ n. All (λ (t : GridStage). n ≤ t.stage) g.loop-i.self.stages.items) (sym number) i.lowest in
    record {
      sound = g.in_ok-ack_stage.ensures.sound;
      lowest = subst (λ n. All (λ (t : GridStage). n ≤ t.stage) g.ack_stage.new.self.stages.items) (next-number g.args.first g.loop-i.i g.in_ok-more.field-0 number)
          g.in_ok-ack_stage.ensures.lowest;
      floor = g.in_ok-ack_stage.ensures.acks.rows.floor ∙ i.floor;
      acked = λ last doc acked rest h n c. one-more-acked last g.args.seq g.args.conn doc acked rest g.args.first g.args.count g.loop-i.i
          g.in_ok-more.field-0 g.loop-i.self g.ack_stage.new.self
          number g.loop-i-test.true i.sound lowest g.in_ok-ack_stage.ensures.acks n (i.acked last doc acked rest h n c);
      within = λ last doc acked rest h oldest marks c.
          let end = g.args.first + g.args.count in
          let more = fewer g.args.first g.loop-i.i g.in_ok-more.field-0 g.args.count number g.loop-i-test.true in
          subst (λ k. AcksWithin last g.args.seq g.args.conn g.ack_stage.new.self doc acked rest k end) (next-number g.args.first g.loop-i.i g.in_ok-more.field-0 number)
          (number-acked last g.args.seq g.args.conn doc acked rest g.in_ok-more.field-0 end g.loop-i.self g.ack_stage.new.self i.sound lowest
          g.in_ok-ack_stage.ensures.acks more
          (subst (λ k. AcksWithin last g.args.seq g.args.conn g.loop-i.self doc acked rest k end) (sym number) (i.within last doc acked rest h oldest marks c)));
    }

pub returns : goal.returns
returns g = record {
  sound = g.loop-i.invariant.sound;
  floor = g.loop-i.invariant.floor;
  acked = λ last doc acked rest h n c. all-acked last g.args.seq g.args.conn doc acked rest g.args.first g.args.count g.loop-i.i g.loop-i.self g.loop-i-test.false n
      (g.loop-i.invariant.acked last doc acked rest h n c);
  within = λ last doc acked rest h oldest marks c. all-within last g.args.seq g.args.conn doc acked rest (g.args.first + g.loop-i.i) (g.args.first + g.args.count)
      g.loop-i.self (all-taken g.args.first g.args.count g.loop-i.i g.loop-i-test.false) (g.loop-i.invariant.within last doc acked rest h oldest marks c);
}
