-- The renaming by acknowledged stages as code does it: name by name, and stage by stage.
use Rattle.std.proofs.Common.{◌≡◌, ℕ, List, [], ◌∷◌, ◌++◌, refl, sym, ◌∙◌, ap}
use Rattle.ft_props.specs.Element.{ElementId}
use Rattle.ft_props.specs.Steps.{acked_id}
use Rattle.ft_op.specs.Document.{Document}
use Rattle.ft_op.specs.Stages.{Stage}
use Rattle.ft_msg.specs.Acknowledgement.{ack_stage, ack_stages, made_before}
use Rattle.ft_plain_document.specs.Renamed.{renaming_after, renaming_of}

-- one name taken through the stages
abbrev pub renamed_through : List (ℕ × ℕ) → ElementId → ElementId
renamed_through [] x = x
renamed_through ((stage, made) ∷ rest) x = renamed_through rest (acked_id stage made x)

pub through-after : (rename : ElementId → ElementId) (acked : List (ℕ × ℕ)) (x : ElementId) → renamed_through acked (rename x) ≡ renaming_after rename acked x
through-after rename [] x = refl
through-after rename ((stage, made) ∷ rest) x = through-after (λ y. acked_id stage made (rename y)) rest x

-- one stage more
pub after-push : (rename : ElementId → ElementId) (acked : List (ℕ × ℕ)) (stage made : ℕ)
    → renaming_after rename (acked ++ ((stage, made) ∷ [])) ≡ (λ x. acked_id stage made (renaming_after rename acked x))
after-push rename [] stage made = refl
after-push rename ((s, m) ∷ rest) stage made = after-push (λ y. acked_id s m (rename y)) rest stage made

-- one stage more is acknowledged
pub acked-next : (s c made : ℕ) (acked pushed : List (ℕ × ℕ)) (t : Stage) (stages rest : List Stage) (doc next : Document) (all : Document × (ElementId → ElementId))
    → stages ≡ t ∷ rest → made ≡ made_before doc t.sub_operation → next ≡ ack_stage s c (renaming_of acked) t doc → pushed ≡ acked ++ ((t.stage, made) ∷ [])
    → ack_stages s c (renaming_of acked) stages doc ≡ all → ack_stages s c (renaming_of pushed) rest next ≡ all
acked-next s c made acked pushed t stages rest doc next all at_front counted made_next renamed so_far =
    ap (λ r. ack_stages s c (renaming_of r) rest next) renamed
    ∙ ap (λ (f : ElementId → ElementId). ack_stages s c f rest next) (after-push (λ x. x) acked t.stage made)
    ∙ ap (λ d. ack_stages s c (λ x. acked_id t.stage made (renaming_of acked x)) rest d) made_next
    ∙ ap (λ m. ack_stages s c (λ x. acked_id t.stage m (renaming_of acked x)) rest (ack_stage s c (renaming_of acked) t doc)) counted
    ∙ ap (λ ts. ack_stages s c (renaming_of acked) ts doc) (sym at_front)
    ∙ so_far
