-- Each edit that a client sent inserts, as it was sent, what its stages insert.
use Rattle.std.proofs.Common.{◌≡◌, ℕ, List, [], ◌∷◌, ◌++◌, Option, Some, None, map, refl, sym, ◌∙◌, ap, arith}
use Rattle.std.specs.List.{flat_map}
use Rattle.ft_op.specs.declared.operations.BaseOp.TheVariants.{Insert, Remove, Annotate}
use Rattle.ft_op.specs.declared.operations.CellOp.TheVariants.{SpliceIn, SpliceOut, Set}
use Rattle.ft_op.specs.declared.operations.TextOp.{TextOp}
use Rattle.ft_op.specs.Operation.{OnGrid, OnIntervals, OnText, SubOperation}
use Rattle.ft_msg.specs.Client.{NaiveClient, PendingEdit, SentAs}
use Rattle.ft_seqr.specs.World.{inserted_count}
use Rattle.ft_laws_agreement.specs.Agreement.{IsRun}
use Rattle.ft_msg.specs.ClientSteps.{ClientStep}
use Rattle.ft_laws_agreement.specs.Sequencing.{Each}
use Rattle.ft_laws_agreement.proofs.ClientHolds.{EditsTold, SentTold, flat}
use Rattle.ft_laws_agreement.proofs.ClientsAgree.{all-stepped}
use Rattle.ft_laws_agreement.proofs.SentStages.{IsPlaced, SentStage, placed, told_as}
use Rattle.ft_laws_agreement.proofs.ToldStages.{AreTold, ToldStage}
use Rattle.ft_laws_sessions.proofs.Owing.{IsPriced, IsPricedAs, edit_inserts, stage_inserts, total, total-append}

-- no range inserts anything
ranges-insert : (f : ℕ × ℕ → SubOperation) → ((r : ℕ × ℕ) → inserted_count (f r) ≡ 0) → (ranges : List (ℕ × ℕ)) → total inserted_count (map f ranges) ≡ 0
ranges-insert f h [] = refl
ranges-insert f h (r ∷ ranges) = let ih = ranges-insert f h ranges in let e = h r in omega (arith, ih, e)

-- as a message tells a stage, it inserts what the stage does
placed-insert : (p q : ℕ) (ranges : List (ℕ × ℕ)) (other : TextOp) (o : SubOperation) → total inserted_count (told_as (placed p q ranges other o)) ≡ inserted_count o
placed-insert p q ranges other (OnText (Insert i seg props)) = omega arith
placed-insert p q ranges other (OnText (Remove i j)) = ranges-insert (λ r. OnText (Remove r.0 r.1)) (λ r. refl) ranges
placed-insert p q ranges other (OnText (Annotate i j changes)) = ranges-insert (λ r. OnText (Annotate r.0 r.1 changes)) (λ r. refl) ranges
placed-insert p q ranges other (OnIntervals op) = omega arith
placed-insert p q ranges other (OnGrid (SpliceIn target i count)) = omega arith
placed-insert p q ranges other (OnGrid (SpliceOut target i j)) = ranges-insert (λ r. OnGrid (SpliceOut target r.0 r.1)) (λ r. refl) ranges
placed-insert p q ranges other (OnGrid (Set i j value)) = omega arith

told-insert : (o : SubOperation) (sent : SentStage) → IsPlaced o sent → total inserted_count (told_as sent) ≡ inserted_count o
told-insert o sent h = ap (λ s. total inserted_count (told_as s)) h.made ∙ placed-insert h.first h.second h.ranges h.other o

told-front : (m : ℕ) (gs ts : List ToldStage) → AreTold m (gs ++ ts) → AreTold m gs × AreTold m ts
told-front m [] ts h = (tt, h)
told-front m (g ∷ gs) ts h = let r = told-front m gs ts h.3 in ((h.0, h.1, h.2, r.0), r.1)

stages-insert : (m : ℕ) (gs : List ToldStage) → AreTold m gs → total inserted_count (flat_map (λ (g : ToldStage). told_as g.sent) gs)
    ≡ total stage_inserts (map (λ (g : ToldStage). g.stage) gs)
stages-insert m [] h = refl
stages-insert m (g ∷ gs) h =
    let one = told-insert g.stage.sub_operation g.sent h.1.place in
    let ih = stages-insert m gs h.3 in
    let sum = total-append inserted_count (told_as g.sent) (flat_map (λ (g : ToldStage). told_as g.sent) gs) in
    omega (arith, one, ih, sum)

sent-priced : (c m : ℕ) (gs : List ToldStage) (edit : PendingEdit) → AreTold m gs → edit.stages ≡ map (λ g. g.stage) gs → (sent : Option SentAs)
    → SentTold c gs sent → IsPricedAs (edit_inserts edit) sent
sent-priced c m gs edit told e None h = tt
sent-priced c m gs edit told e (Some sent) h = ap (total inserted_count) h.1 ∙ (stages-insert m gs told ∙ sym (ap (total stage_inserts) e))

edits-priced : (c m : ℕ) (gss : List (List ToldStage)) (edits : List PendingEdit) → AreTold m (flat gss) → EditsTold c gss edits → Each IsPriced edits
edits-priced c m [] [] told h = tt
edits-priced c m [] (edit ∷ edits) told h = absurd h
edits-priced c m (gs ∷ gss) [] told h = absurd h
edits-priced c m (gs ∷ gss) (edit ∷ edits) told h =
    let r = told-front m gs (flat gss) told in
    (sent-priced c m gs edit r.0 h.0.stages edit.sent h.0.sent, edits-priced c m gss edits r.1 h.1)

pub client-priced : (steps : List ClientStep) (x : NaiveClient) → IsRun steps x → Each IsPriced x.pending
client-priced steps x r =
    let s = all-stepped steps x r.made r.bodies in
    edits-priced s.c x.doc.number s.gss x.pending s.client.doc.told s.client.edits
