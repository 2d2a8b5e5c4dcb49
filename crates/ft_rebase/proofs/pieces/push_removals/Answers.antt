use Rattle.std.proofs.Common.{◌≡◌, List, ◌++◌, ◌∷◌, [], map, ap, sym, ◌∙◌, append_assoc}
use Rattle.ft_rebase.specs.declared.pieces.Piece.TheVariants.{Remove}
use Rattle.ft_rebase.proofs.MarkedRunLemmas.{lowers_next}
use Rattle.ft_rebase.proofs.pieces.push_removals.Goals as goal

pushed : {A : Type 0} (old new : List A) (x : A) (more rest : List A) → new ≡ old ++ x ∷ [] → rest ≡ x ∷ more → new ++ more ≡ old ++ rest
pushed old new x more rest e f = ap (λ ps. ps ++ more) e ∙ append_assoc old (x ∷ []) more ∙ ap (λ ps. old ++ ps) (sym f)

pub loop-start-preserved : goal.loop-start-preserved
loop-start-preserved c =
    let next = lowers_next c.loop-start.removed c.loop-start.start-index c.args.runs.now c.loop-start-test.true
    c.loop-start.invariant.rise in
    record {
      all =
          pushed c.loop-start.pieces.items c.push.new.self.items _ _ _ c.in_ok-push.ensures.items
          (ap (map (λ r. Remove r.0 r.1)) next.lowered)
          ∙ c.loop-start.invariant.all;
      rise = next.rise;
    }
