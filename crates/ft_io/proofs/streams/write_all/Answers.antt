use Rattle.std.proofs.Common.{◌≡◌, ◌+◌, ◌-◌, ◌++◌, length, take, drop, sym, ◌∙◌, ap, subst, arith}
use Rattle.std.proofs.Math.Seq.{take-add}
use Rattle.std.proofs.lemmas.List.{take_rest, length-drop}
use Rattle.std.specs.Io.KnownBytes.{Appends}
use Rattle.ft_io.proofs.TakenAndLeft.{Appends-append}
use Rattle.ft_io.proofs.streams.write_all.Goals as goal

pub loop-at-preserved : goal.loop-at-preserved
loop-at-preserved g c =
    let e = c.in_ok-at.ensures in
    let at = c.loop-at.at in
    let n = c.in_ok-at.field-0 in
    let bytes = c.args.bytes.now in
    let held = g.K.Sink.contents in
    let rest = take_rest bytes at in
    let both : take at bytes ++ take n (take (length bytes - at) (drop at bytes)) ≡ take (at + n) bytes = ap (λ r. take at bytes ++ take n r) rest ∙ sym (take-add at n bytes) in
    record {
      within = omega (arith, e.count, ap length rest, length-drop at bytes);
      taken = subst (λ r. Appends (held c.args.out.now) (held c.write.new.self) r) both (Appends-append (held c.args.out.now) (held c.loop-at.out) (held c.write.new.self) (take at bytes) (take n (take (length bytes - at) (drop at bytes))) c.loop-at.invariant.taken e.bytes);
      steady = e.cause.steady ∙ c.loop-at.invariant.steady;
    }
