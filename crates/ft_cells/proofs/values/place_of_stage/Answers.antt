use Rattle.std.proofs.Common.{◌≡◌, true, false, length, rules, arith, refl, ◌∙◌}
use Rattle.ft_cells.proofs.Writes.{other-there, position-found, position-missing}
use Rattle.ft_cells.proofs.values.place_of_stage.Goals as goal

pub returns-in_err-write : goal.returns-in_err-write
returns-in_err-write c =
    let len : c.args.pending.now.len ≡ length c.args.pending.now.items = search rules in
    c.from_residual.ensures
    ∙ position-missing c.args.stage c.lower_writes-i.result c.args.pending.now.items c.lower_writes-i.ensures.within c.lower_writes-i.ensures.end c.requires
    (λ w lt is. let no : false ≡ true = c.in_err-write.ensures.variant.1 (omega (arith, lt, len)) in (cc))

pub returns-then-write-stage : goal.returns-then-write-stage
returns-then-write-stage c =
    let len : c.args.pending.now.len ≡ length c.args.pending.now.items = search rules in
    position-found c.args.stage c.lower_writes-i.result c.args.pending.now.items c.in_ok-write.write.now c.lower_writes-i.ensures.end
    (omega (arith, c.in_ok-write.ensures.variant.0 refl, len)) c.in_ok-write.ensures.lookup c.if-write-stage.true

pub returns-else-write-stage : goal.returns-else-write-stage
returns-else-write-stage c =
    let len : c.args.pending.now.len ≡ length c.args.pending.now.items = search rules in
    position-missing c.args.stage c.lower_writes-i.result c.args.pending.now.items c.lower_writes-i.ensures.within c.lower_writes-i.ensures.end c.requires
    (other-there c.args.stage c.lower_writes-i.result c.args.pending.now.items c.in_ok-write.write.now (omega (arith, c.in_ok-write.ensures.variant.0 refl, len))
    c.in_ok-write.ensures.lookup c.if-write-stage.false)
