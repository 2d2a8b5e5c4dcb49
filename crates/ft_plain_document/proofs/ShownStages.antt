-- The intervals after some stages and then others; which interval operations are taken.
use Rattle.std.proofs.Common.{◌≡◌, ℕ, ◌-◌, Bool, true, cond, List, [], ◌∷◌, ◌++◌, None, Ok, Err, refl, sym, ◌∙◌, ap}
use Rattle.ft_op.specs.declared.operations.TextOp.{TextOp}
use Rattle.ft_msg.specs.declared.faults.EditFault.TheVariants.{OutOfRange}
use Rattle.ft_base.specs.Scan.{len}
use Rattle.ft_props.specs.Element.{ListElement, seen}
use Rattle.ft_op.specs.Document.{Document, elements_at_given_ends, ends_of, given_ends_fit}
use Rattle.ft_op.specs.Intervals.{Interval, NamedElements, settle_elements, settle_ends}
use Rattle.ft_op.specs.Stages.{Stage, intervals_after_stage, shown_intervals}
use Rattle.ft_msg.specs.Client.{EditResult, id_fault, local_interval, unless_fault}

-- after some stages and then others
pub shown-append : (xs : List ListElement) (is : List Interval) (first rest : List Stage)
    → shown_intervals xs is (first ++ rest) ≡ shown_intervals xs (shown_intervals xs is first) rest
shown-append xs is [] rest = refl
shown-append xs is (t ∷ first) rest = shown-append xs (intervals_after_stage t.sub_operation (settle_elements xs t.stage t.names) (settle_ends xs t.stage is)) first rest

-- an interval operation of the client's own is taken whose id and whose ends fit
pub ends-taken : (doc : Document) (stages : List Stage) (k : ℕ) (op : TextOp) (named : NamedElements)
    → id_fault (shown_intervals doc.text.items doc.intervals stages) op ≡ None
    → given_ends_fit (len (seen (k - 1)) doc.text.items) (ends_of op) ≡ true
    → named ≡ elements_at_given_ends (seen (k - 1)) doc.text.items (ends_of op)
    → local_interval doc stages k op ≡ Ok (doc, named)
ends-taken doc stages k op named no_fault fits at_ends =
    let n = len (seen (k - 1)) doc.text.items in
    let there = elements_at_given_ends (seen (k - 1)) doc.text.items (ends_of op) in
    let fitting : Bool → EditResult = λ b. cond b (Ok (doc, there)) (Err (OutOfRange n)) in
    ap (λ fault. unless_fault fault (fitting (given_ends_fit n (ends_of op)))) no_fault ∙ ap fitting fits ∙ ap (λ names. Ok (doc, names)) (sym at_ends)
