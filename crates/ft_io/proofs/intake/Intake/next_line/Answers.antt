use Rattle.std.proofs.Common.{length, None, Some, Err, refl, sym, ◌∙◌, ap, subst, arith}
use Rattle.std.specs.Result.{result_err}
use Rattle.std.proofs.lemmas.Result.{err_from_is_err_and}
use Rattle.ft_io.specs.Reader.{Reader, Call}
use Rattle.ft_io.specs.LineParts.{CutsLine}
use Rattle.ft_io.specs.Intake.{as_reader}
use Rattle.ft_io.proofs.Gathering.{gathers_more, call_whole, call_last, call_fault}
use Rattle.ft_io.proofs.intake.Intake.next_line.Goals as goal

pub returns-in-Last-clause-call : goal.returns-in-Last-clause-call
returns-in-Last-clause-call g c =
    let left = g.S.Source.remaining in
    let faults = g.S.Source.faults in
    let now = c.loop-whole in
    let h = now.invariant.gathers in
    let cuts = subst (CutsLine c.args.limit h.so_far now.self.piece c.cut.new.piece) c.in-Last.is (c.in_ok-whole.ensures h.so_far h.is_line) in
    let old = as_reader c.args.self.now c.args.limit None in
    let new : Reader = record { pending = c.cut.new.piece; given = now.self.given; limit = c.args.limit; ended = now.self.ended; fault = None } in
    call_whole old (left c.args.src.now) (faults c.args.src.now) now.self.piece now.self.given now.line (left now.src) (faults now.src) h
    new c.requires cuts.0 c.in-Last.whole cuts.1 cuts.2 cuts.3 refl refl now.invariant.goes_on refl

pub returns-in_err-fill-clause-call : goal.returns-in_err-fill-clause-call
returns-in_err-fill-clause-call g c =
    let left = g.S.Source.remaining in
    let faults = g.S.Source.faults in
    let now = c.loop-whole in
    let h = now.invariant.gathers in
    let cuts = subst (CutsLine c.args.limit h.so_far now.self.piece c.cut.new.piece) c.in-More.is (c.in_ok-whole.ensures h.so_far h.is_line) in
    let old = as_reader c.args.self.now c.args.limit None in
    let told = c.in_err-fill.ensures in
    let fault = c.in_err-fill.field-0.0 in
    let p = err_from_is_err_and c.from_residual-in_err-fill.result c.from_residual-in_err-fill.ensures.1 in
    let is = p.1 ∙ ap Err p.2 in
    subst (λ r. Call old (as_reader c.fill.new.self c.args.limit (result_err r)) (left c.args.src.now) (left c.fill.new.src) (faults c.args.src.now) (faults c.fill.new.src) r) (sym is)
    (call_fault old (left c.args.src.now) (faults c.args.src.now) now.self.piece now.self.given now.line (left now.src) (faults now.src) h
    (as_reader c.fill.new.self c.args.limit (Some fault)) c.requires (left c.fill.new.src) (faults c.fill.new.src) told.err.1 told.later fault cuts.0 told.err.0 refl refl
    (λ e. told.read (ap Err e)) (λ e. told.limit (ap Err e)) (λ e. told.memory (ap Err e)))

pub returns-then-self-clause-call : goal.returns-then-self-clause-call
returns-then-self-clause-call g c =
    let left = g.S.Source.remaining in
    let faults = g.S.Source.faults in
    let now = c.loop-whole in
    let h = now.invariant.gathers in
    let cuts = subst (CutsLine c.args.limit h.so_far now.self.piece c.cut.new.piece) c.in-More.is (c.in_ok-whole.ensures h.so_far h.is_line) in
    let old = as_reader c.args.self.now c.args.limit None in
    let told = c.in_ok-fill.ensures in
    let ended = told.ended c.if-self.true in
    let nothing = ended.0 in
    let more = gathers_more old (left c.args.src.now) (faults c.args.src.now) now.self.piece now.self.given now.line (left now.src) (faults now.src) h
    c.fill.new.self.piece c.fill.new.self.given c.in-More.part (left c.fill.new.src) (faults c.fill.new.src) cuts.0 cuts.1 told.bytes told.given.1 c.fill.new.self.within told.later in
    call_last old (left c.args.src.now) (faults c.args.src.now) c.fill.new.self.piece c.fill.new.self.given c.in-More.part (left c.fill.new.src) (faults c.fill.new.src) more
    (as_reader c.fill.new.self c.args.limit None) c.requires c.last.result (c.last.ensures c.args.limit more.so_far more.is_line) nothing ended.1 (omega (arith, told.given, ap length nothing)) nothing refl refl c.if-self.true refl

pub loop-whole-preserved : goal.loop-whole-preserved
loop-whole-preserved g c =
    let left = g.S.Source.remaining in
    let faults = g.S.Source.faults in
    let now = c.loop-whole in
    let h = now.invariant.gathers in
    let cuts = subst (CutsLine c.args.limit h.so_far now.self.piece c.cut.new.piece) c.in-More.is (c.in_ok-whole.ensures h.so_far h.is_line) in
    let old = as_reader c.args.self.now c.args.limit None in
    let told = c.in_ok-fill.ensures in
    record {
      gathers = gathers_more old (left c.args.src.now) (faults c.args.src.now) now.self.piece now.self.given now.line (left now.src) (faults now.src) h
          c.fill.new.self.piece c.fill.new.self.given c.in-More.part (left c.fill.new.src) (faults c.fill.new.src) cuts.0 cuts.1 told.bytes told.given.1 c.fill.new.self.within told.later;
      goes_on = c.if-self.false;
      steady = told.steady ∙ now.invariant.steady;
    }
