-- The document after an interval operation, as a function makes it that takes the operation.
use Rattle.std.proofs.Common.{◌≡◌, ℕ, true, cond, List, sym, ◌∙◌, ap}
use Rattle.ft_op.specs.declared.operations.TextOp.{TextOp}
use Rattle.ft_base.specs.Scan.{len}
use Rattle.ft_props.specs.Element.{seen_by}
use Rattle.ft_op.specs.Intervals.{Interval, NamedElements, after_interval_operation}
use Rattle.ft_op.specs.Document.{Document, elements_at_given_ends, ends_of, given_ends_fit, interval_effect, with_skip, with_slid_ends}

-- the document with these intervals, slid
abbrev slid : Document → List Interval → Document
slid doc is = with_slid_ends (record doc { intervals = is })

pub interval-taken : (doc new : Document) (c r : ℕ) (op : TextOp) (is : List Interval) (named : NamedElements)
    → given_ends_fit (len (seen_by r c) doc.text.items) (ends_of op) ≡ true
    → named ≡ elements_at_given_ends (seen_by r c) doc.text.items (ends_of op)
    → is ≡ after_interval_operation op named doc.intervals → new ≡ with_slid_ends (record doc { intervals = is })
    → new ≡ interval_effect doc c r op
interval-taken doc new c r op is named fits at_ends after made =
    made ∙ ap (slid doc) (after ∙ ap (λ at. after_interval_operation op at doc.intervals) at_ends)
    ∙ sym (ap (λ b. cond b (slid doc (after_interval_operation op (elements_at_given_ends (seen_by r c) doc.text.items (ends_of op)) doc.intervals)) (with_skip doc)) fits)
