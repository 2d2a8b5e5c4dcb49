-- What is known at a step of which text and table tell, and what is shown beside the elements.
use Rattle.std.proofs.Common.{◌≡◌, ◌<◌, ◌≤◌, ◌+◌, ℕ, suc, Bool, true, false, cond, List, [], ◌∷◌, refl, sym, ◌∙◌, ap, arith, length}
use Rattle.ft_base.specs.Scan.{len, one_more_if}
use Rattle.ft_changes.specs.declared.rest.ShownRest.{ShownRest}
use Rattle.ft_changes.specs.Rest.{rest_of}
use Rattle.ft_replica.specs.Comparing.{compared_intervals, compared_part}
use Rattle.ft_replica.specs.declared.comparing.Compared.{Compared}
use Rattle.ft_changes.specs.Shown.{shown_content, shown_element, shown_elements}
use Rattle.ft_op.specs.declared.operations.ChannelOp.{ChannelOp}
use Rattle.ft_msg.specs.Client.{NaiveClient, floor, stages_of}
use Rattle.ft_props.specs.Element.{ListElement, seen}
use Rattle.ft_sumdoc.specs.declared.summary.CellRec.{CellRec}
use Rattle.ft_sumdoc.specs.declared.summary.IntervalRec.{IntervalRec}
use Rattle.ft_replica.specs.Own.{HeldDocument, HoldsOne, NamesFit}
use Rattle.ft_matrix.specs.Conditions.{IsAboveAll}
use Rattle.ft_client.specs.declared.own.TreeOwn.{TreeOwn}
use Rattle.ft_client.specs.Holds.{HoldsTree}
use Rattle.ft_client.proofs.Known.{above-all, same-last}

-- what is pending on the table is of stages up to the last one of each document that is held
pub held-above : (s : TreeOwn) {n : ℕ} → HoldsOne HoldsTree s (λ p. floor p ≤ n) → (held : HeldDocument) → NamesFit held → HoldsTree s held
    → IsAboveAll (held.last + 1) s.table
held-above s known held named h =
    above-all known.start known.client known.made s known.low known.document (held.last + 1)
    (next-one known.client.last_stage held.last (same-last known.start known.client known.made s known.low known.document held named h))
  where
    next-one : (a b : ℕ) → a ≡ b → a < b + 1
    next-one a b e = omega arith

shown-length : (k : ℕ) (xs : List ListElement) → length (shown_elements k xs) ≡ len (seen k) xs
shown-length k [] = refl
shown-length k (x ∷ xs) = step (seen k x) (shown-length k xs)
  where
    step : (b : Bool) → length (shown_elements k xs) ≡ len (seen k) xs
        → length (cond b (shown_element x ∷ shown_elements k xs) (shown_elements k xs)) ≡ one_more_if b (len (seen k) xs)
    step true h = ap suc h
    step false h = h

abbrev rest_with : ℕ → List IntervalRec → List CellRec → ShownRest
rest_with n is cs = record { elements = n; intervals = is; cells = cs }

-- what is compared of what is shown beside the elements
pub rest-shown : (p : NaiveClient) (compared : Compared) (op : ChannelOp) (n : ℕ) (is : List IntervalRec) (cs : List CellRec)
    → n ≡ len (seen p.last_stage) p.doc.text.items
    → is ≡ compared_intervals compared.intervals op (stages_of p) (shown_content p).intervals → cs ≡ cond compared.cells (shown_content p).cells []
    → rest_with n is cs ≡ rest_of (compared_part compared op (stages_of p) (shown_content p))
rest-shown p compared op n is cs e f g =
    let count = length (shown_elements p.last_stage p.doc.text.items) in
    ap (λ k. rest_with k is cs) (e ∙ sym (shown-length p.last_stage p.doc.text.items))
    ∙ ap (λ js. rest_with count js cs) f
    ∙ ap (rest_with count (compared_intervals compared.intervals op (stages_of p) (shown_content p).intervals)) g
