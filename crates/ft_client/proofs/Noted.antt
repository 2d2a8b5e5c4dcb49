-- Stages of one part, as they are noted, and the units that operations put in.
use Rattle.std.proofs.Common.{◌≡◌, ℕ, zero, suc, ◌+◌, List, [], ◌∷◌, ◌++◌, refl, ◌∙◌, ap, append_assoc, map, sym, arith}
use Rattle.ft_op.specs.declared.operations.CellOp.{CellOp}
use Rattle.ft_op.specs.declared.operations.Target.{Target}
use Rattle.ft_op.specs.Operation.{OnGrid}
use Rattle.ft_client.specs.declared.stages.OwnStage.{OwnStage}
use Rattle.ft_client.specs.declared.stages.Part.{Part}
use Rattle.ft_client.specs.Parts.{stages_from, units_by, units_by_all, units_of}

abbrev stage_at : Part → ℕ → OwnStage
stage_at part k = record { stage = k; part = part }

last-of : (k n : ℕ) (part : Part) → stages_from k (suc n) part ≡ stages_from k n part ++ stage_at part (k + n) ∷ []
last-of k zero part =
    let e : k ≡ k + 0 = omega arith in
    ap (λ i. stage_at part i ∷ []) e
last-of k (suc n) part =
    let e : k + 1 + n ≡ k + suc n = omega arith in
    ap (λ ss. stage_at part k ∷ ss) (last-of (k + 1) n part ∙ ap (λ i. stages_from (k + 1) n part ++ stage_at part i ∷ []) e)

pub stages_more : (before : List OwnStage) (k n : ℕ) (part : Part)
    → (before ++ stages_from k n part) ++ record { stage = k + n; part = part } ∷ [] ≡ before ++ stages_from k (n + 1) part
stages_more before k n part =
    let e : suc n ≡ n + 1 = omega arith in
    append_assoc before (stages_from k n part) (stage_at part (k + n) ∷ []) ∙ ap (λ ss. before ++ ss) (sym (last-of k n part) ∙ ap (λ i. stages_from k i part) e)

pub units_group : (target : Target) (ops : List CellOp) → units_by_all target ops ≡ units_of target (map (λ op. OnGrid op) ops)
units_group target [] = refl
units_group target (op ∷ ops) = ap (λ n. units_by target op + n) (units_group target ops)
