use Rattle.std.proofs.Common.{◌≡◌, ◌||◌, Bool, None, not, refl, subst, sym, true}
use Rattle.std.proofs.lemmas.Bool.{or_right}
use Rattle.std.specs.List.{list_any}
use Rattle.ft_op.specs.Stages.{Stage}
use Rattle.ft_msg.specs.declared.messages.Body.{Body}
use Rattle.ft_msg.specs.declared.messages.Body.TheVariants.{Op}
use Rattle.ft_msg.specs.Agreed.{reference_number}
use Rattle.ft_msg.specs.Client.{stages_of}
use Rattle.ft_msg.specs.Process.{process_fault}
use Rattle.ft_changes.specs.Beside.{body_moves_ends_alike}
use Rattle.ft_replica.specs.Own.{held_by}
use Rattle.ft_replica.proofs.MadeSteps.{other-fact}
use Rattle.ft_client.specs.Holds.{HoldsTree}
use Rattle.ft_client.proofs.ForeignSteps.{known-above}
use Rattle.ft_client.proofs.own.telling.TreeOwnTellingDocument.moves_ends_alike.Goals as goal

pub operation_moves_ends_alike-requires-clause-known : goal.operation_moves_ends_alike-requires-clause-known
operation_moves_ends_alike-requires-clause-known c =
    let s = c.args.self.now in
    let entry = c.args.entry.now in
    known-above s entry c.in-Op.op c.reference_number.result c.requires.formed c.in-Op.is c.reference_number.ensures
    (other-fact HoldsTree s s (λ p. (process_fault p entry ≡ None) × (p.last_stage ≡ c.args._last)) (λ p. process_fault p entry ≡ None) c.requires.known (λ p f. f.0))

pub returns-in-Op : goal.returns-in-Op
returns-in-Op c = λ low p named e h alike.
    let entry = c.args.entry.now in
    let r = reference_number entry.msg.ref_seq in
    let idle : Bool = not (list_any (λ (t : Stage). true) (stages_of p)) in
    let found = c.operation_moves_ends_alike.ensures (held_by low p) named h alike in
    subst (λ (b : Body). idle || body_moves_ends_alike p.doc entry.origin r b ≡ true) (sym c.in-Op.is)
    (or_right idle (body_moves_ends_alike p.doc entry.origin r (Op c.in-Op.op))
    (subst (λ n. body_moves_ends_alike p.doc entry.origin n (Op c.in-Op.op) ≡ true) c.reference_number.ensures found))

pub returns-in-Nothing : goal.returns-in-Nothing
returns-in-Nothing c = λ low p named e h alike.
    let entry = c.args.entry.now in
    let r = reference_number entry.msg.ref_seq in
    let idle : Bool = not (list_any (λ (t : Stage). true) (stages_of p)) in
    subst (λ (b : Body). idle || body_moves_ends_alike p.doc entry.origin r b ≡ true) (sym c.in-Nothing.is) (or_right idle true refl)

pub returns-in-Elsewhere : goal.returns-in-Elsewhere
returns-in-Elsewhere c = λ low p named e h alike.
    let entry = c.args.entry.now in
    let r = reference_number entry.msg.ref_seq in
    let idle : Bool = not (list_any (λ (t : Stage). true) (stages_of p)) in
    subst (λ (b : Body). idle || body_moves_ends_alike p.doc entry.origin r b ≡ true) (sym c.in-Elsewhere.is) (or_right idle true refl)
