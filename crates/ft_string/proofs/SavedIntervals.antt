-- The intervals of a text without pending stages are shown as those of the document that it holds, and of its trimmed form.
use Rattle.std.proofs.Common.{◌≡◌, ℕ, ◌≤◌, Bool, true, false, nat_lt, List, [], ◌∷◌, Option, Some, None, refl, sym, ◌∙◌, ap, arith, map, pos, min}
use Rattle.std.specs.List.{list_all}
use Rattle.std.proofs.lemmas.Bool.Decides.{nat_tests}
use Rattle.ft_base.specs.declared.stamps.Stamp.{Stamp}
use Rattle.ft_base.specs.declared.stamps.Stamp.TheVariants.{Acked, Local}
use Rattle.ft_base.specs.Scan.{len}
use Rattle.ft_base.specs.Visibility.{is_acked}
use Rattle.ft_base.proofs.Booleans.{both}
use Rattle.ft_block.specs.declared.leaves.LenView.TheVariants.{Stage as at_stage}
use Rattle.ft_interval_store.specs.Intervals.{NamesRise}
use Rattle.ft_interval_store.specs.Shown.{last as top, shown_intervals, shown_record}
use Rattle.ft_tree_leaves.specs.Elements.{seen_in}
use Rattle.ft_msg.specs.Content.{interval_record}
use Rattle.ft_op.specs.Document.{Document}
use Rattle.ft_op.specs.Intervals.{Interval as NamedInterval}
use Rattle.ft_props.specs.Element.{ElementId, ListElement, SequencedId, has_id, id, id_of_stamp, seen}
use Rattle.ft_props.specs.Compaction.{trim_list}
use Rattle.ft_props.specs.Steps.{empty_list}
use Rattle.ft_props.specs.Slide.{end_number}
use Rattle.ft_sumdoc.specs.declared.summary.IntervalRec.{IntervalRec}
use Rattle.ft_laws_agreement.specs.Trimming.{IsConsistent, is_numbered_below}
use Rattle.ft_laws_agreement.specs.Sequencing.{Each}
use Rattle.ft_laws_agreement.proofs.FollowingOrder.{rank-same}
use Rattle.ft_laws_agreement.proofs.ListSteps.{each-all}
use Rattle.ft_laws_agreement.proofs.TrimmedContent.{records-kept}
use Rattle.ft_laws_agreement.proofs.TrimmedFromNow.{trim-trimmed}
use Rattle.ft_named.proofs.Lists.{each-weaker}
use Rattle.ft_named.proofs.Slid.{each-there}
use Rattle.ft_interval_store.specs.State.{CollectionsState, placed, text_elements}
use Rattle.ft_tree_leaves.specs.declared.text.TextContent.{TextContent}
use Rattle.ft_tree.specs.State.{TreeState}
use Rattle.ft_string.specs.Holds.{HoldsText, IsTextSound}
use Rattle.ft_string.specs.declared.pending.PendingOp.{PendingOp}
use Rattle.ft_string.specs.Parts.{state_of}
use Rattle.ft_string.proofs.CarriedIntervals.{intervals-alike}
use Rattle.ft_string.proofs.SavedTexts.{is_settled, seen-same, settled}

module _ (es : List ListElement) (bare : list_all is_settled es ≡ true) where
  number-same : (k : ℕ) (o : Option ElementId) → end_number k es o ≡ end_number 0 es o
  number-same k None = refl
  number-same k (Some a) = ap pos (rank-same (has_id a) (seen k) (seen 0) es (each-weaker (λ e g. seen-same k e g) es (each-all is_settled es bare)))

  -- where nothing is pending all stages show the same
  records-same : (k : ℕ) (ds : List NamedInterval) → map (interval_record k es) ds ≡ map (interval_record 0 es) ds
  records-same k [] = refl
  records-same k (d ∷ ds) = rw (number-same k d.start, number-same k d.end, records-same k ds) refl

-- ---- the trimmed form

below-made : (made : ℕ) (all : List ListElement) → ((n : ℕ) → made ≤ n → len (has_id (SequencedId n)) all ≡ 0) → (n : ℕ) (b : Bool) → nat_lt n made ≡ b
    → 1 ≤ len (has_id (SequencedId n)) all → nat_lt n made ≡ true
below-made made all h n true e l = e
below-made made all h n false e l = let up : made ≤ n = grind (arith, nat_tests) in let none = h n up in absurd (omega arith)

numbered-below : (made : ℕ) (all es : List ListElement) → ((n : ℕ) → made ≤ n → len (has_id (SequencedId n)) all ≡ 0)
    → Each (λ e. 1 ≤ len (has_id (id e)) all) es
    → list_all is_settled es ≡ true → list_all (is_numbered_below made) es ≡ true
numbered-below made all [] h t g = refl
numbered-below made all (e ∷ es) h t g =
    let p = both (is_settled e) (list_all is_settled es) g in
    let s = settled e p.0 in
    rw (s.sequenced, step e.ins s.sequenced t.0, numbered-below made all es h t.1 p.1) refl
  where
    step : (u : Stamp) → is_acked u ≡ true → 1 ≤ len (has_id (id_of_stamp u e.nth)) all → nat_lt e.nth made ≡ true
    step (Acked s c) k l = below-made made all h e.nth (nat_lt e.nth made) refl l
    step (Local j) k l = (cc)

abbrev text_alone : ℕ → Document → Document
text_alone min doc =
    record { text = doc.text; rows = empty_list; cols = empty_list; intervals = doc.intervals; cells = []; skipped = 0; other = 0; number = 0; minimum = min }

consistent-alone : (min last : ℕ) (doc : Document) → IsTextSound last doc [] → IsConsistent (text_alone min doc)
consistent-alone min last doc h = record {
  text = record { below = numbered-below doc.text.made doc.text.items doc.text.items h.list.below (each-there doc.text.items) h.place.marks; distinct = h.place.distinct };
  rows = record { below = refl; distinct = refl };
  cols = record { below = refl; distinct = refl };
  ends = h.ends;
  cells = refl;
}

records-trimmed : (min last : ℕ) (doc : Document) → IsTextSound last doc []
    → map (interval_record 0 (trim_list min doc.text).items) doc.intervals ≡ map (interval_record 0 doc.text.items) doc.intervals
records-trimmed min last doc h =
    let t = trim-trimmed (text_alone min doc) (consistent-alone min last doc h) in records-kept t.text.items 0 doc.intervals t.ends

pub intervals-saved : (min last : ℕ) (tree : TreeState TextContent) (c : CollectionsState) (ops : List PendingOp) (given : ℕ) (usable : Bool) (doc : Document)
    → IsTextSound last doc [] → HoldsText (state_of tree c ops given usable) doc [] → NamesRise c.acked
    → len (seen_in (at_stage top)) (text_elements tree) ≤ 9223372036854775807
    → (all items : List IntervalRec) → all ≡ items → items ≡ map (shown_record (text_elements tree)) (shown_intervals (text_elements tree) (placed tree.refs c).acked (placed tree.refs c).pending)
    → all ≡ map (interval_record 0 (trim_list min doc.text).items) doc.intervals
intervals-saved min last tree c ops given usable doc sound holds names few all items f e =
    f ∙ e ∙ intervals-alike tree c ops given last usable doc [] sound holds names few ∙ records-same doc.text.items sound.place.marks last doc.intervals
    ∙ sym (records-trimmed min last doc sound)
