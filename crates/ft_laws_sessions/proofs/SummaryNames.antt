-- A summary that a text is has fewer names than the text has bytes.
use Rattle.std.proofs.Common.{◌≡◌, ◌∙◌, ℕ, suc, ◌<◌, nat_lt, List, [], ◌∷◌, length, Option, Some, None, Ok, refl, sym, ap, arith}
use Rattle.std.specs.Option.{ok_or}
use Rattle.serde_json.specs.Data.{Data}
use Rattle.ft_json.specs.declared.faults.FieldFault.TheVariants.{WrongKind}
use Rattle.ft_json.specs.declared.fields.Field.{Field}
use Rattle.ft_json.specs.declared.fields.Field.TheVariants.{Cells, Conns, Intervals, Min, Other, Seq, Skipped, Version}
use Rattle.ft_json.specs.Reading.{count_field, field, items, needed_field, read_line, read_or_fault}
use Rattle.ft_op.specs.Reading.{is_object}
use Rattle.ft_op.proofs.ReadSteps.{fault_step, read_step, same_value, test_failed, test_held}
use Rattle.ft_props.specs.Properties.{Characters}
use Rattle.ft_sumdoc.specs.declared.summary.SumDoc.{SumDoc}
use Rattle.ft_sumdoc.specs.Cells.{cells_form}
use Rattle.ft_sumdoc.specs.Counts.{Head, are_distinct_names, distinct_names, head, known_version, names_form}
use Rattle.ft_sumdoc.specs.Faults.{fault_of_field, fault_of_json}
use Rattle.ft_sumdoc.specs.Forms.{characters, each_of}
use Rattle.ft_sumdoc.specs.Intervals.{intervals_form}
use Rattle.ft_sumdoc.specs.Runs.{unremoved_units}
use Rattle.ft_sumdoc.specs.Segments.{unremoved_text}
use Rattle.ft_sumdoc.specs.Summary.{element_count, lists, summary, summary_of_object}
use Rattle.ft_sumdoc.specs.Values.{kept_cell, kept_each, kept_interval}
use Rattle.ft_sumdoc.proofs.ReadValid.{some_step, where_held}
use Rattle.ft_laws_sessions.specs.FormedReads.{SummariesNameFew}
use Rattle.ft_laws_sessions.proofs.TextSizes.{array-within}

names-read : (ds : List Data) (names : List Characters) → each_of characters ds ≡ Some names → length names ≡ length ds
names-read [] names e = let same : [] ≡ names = (cc) in ap length (sym same)
names-read (d ∷ ds) names e =
    let name = some_step _ (characters d) names e in
    let more = some_step _ (each_of characters ds) names name.2 in
    let same : name.0 ∷ more.0 ≡ names = (cc) in
    ap length (sym same) ∙ ap suc (names-read ds more.0 more.1)

-- a field that was read is there
found_field : {A : Type 0} (reads : Data → Option A) (f : Field) (o : Option Data) (x : A) → read_or_fault reads f o ≡ Ok x → (d : Data) × (o ≡ Some d) × (reads d ≡ Some x)
found_field reads f None x e = (cc)
found_field {A} reads f (Some d) x e = (d, refl, by (reads d) e)
  where
    by : (o : Option A) → ok_or o (WrongKind f) ≡ Ok x → o ≡ Some x
    by None g = (cc)
    by (Some a) g = cc

names-few : (bytes : List ℕ) (d : Data) (names : List Characters) → read_line bytes ≡ Ok d → needed_field names_form d Conns ≡ Ok names → length names < length bytes
names-few bytes d names line e =
    let there = found_field names_form Conns (field d Conns) names e in
    let ds = some_step distinct_names (items there.0) names there.2 in
    let all = some_step _ (each_of characters ds.0) names ds.2 in
    let kept = where_held (are_distinct_names all.0) all.0 names all.2 in
    omega (arith, array-within bytes d there.0 Conns ds.0 line there.1 ds.1, names-read ds.0 all.0 all.1, ap length kept.1)

head-names : (d : Data) (h : Head) → head d ≡ Ok h → needed_field names_form d Conns ≡ Ok h.conns
unfolding head
head-names d h e =
    let n = fault_step fault_of_field (count_field d Version) _ h e in
    let version = read_step (known_version n.0) _ h n.2 in
    let seq = fault_step fault_of_field (count_field d Seq) _ h version.2 in
    let min = fault_step fault_of_field (count_field d Min) _ h seq.2 in
    let skipped = fault_step fault_of_field (count_field d Skipped) _ h min.2 in
    let other = fault_step fault_of_field (count_field d Other) _ h skipped.2 in
    let order = test_failed (nat_lt seq.0 min.0) _ _ h other.2 in
    let names = fault_step fault_of_field (needed_field names_form d Conns) _ h order.1 in
    let made : Head = record { version = version.0; seq = seq.0; min = min.0; skipped = skipped.0; other = other.0; conns = names.0 } in
    names.1 ∙ ap (λ x. Ok x.conns) (same_value made h _ refl names.2)

-- the summary that an object is has the names of its head
object-names : (d : Data) (sum : SumDoc) → summary_of_object d ≡ Ok sum → needed_field names_form d Conns ≡ Ok sum.conns
unfolding summary_of_object
object-names d sum e =
    let h = read_step (head d) _ sum e in
    let ls = read_step (lists h.0 d) _ sum h.2 in
    let elements = read_step (element_count ls.0 d) _ sum ls.2 in
    let n = unremoved_text ls.0.text in
    let rows = unremoved_units ls.0.rows in
    let cols = unremoved_units ls.0.cols in
    let is_given = fault_step fault_of_field (needed_field (intervals_form n) d Intervals) _ sum elements.2 in
    let is_kept = read_step (kept_each kept_interval is_given.0) _ sum is_given.2 in
    let cs_given = fault_step fault_of_field (needed_field (cells_form rows cols) d Cells) _ sum is_kept.2 in
    let cs_kept = read_step (kept_each kept_cell cs_given.0) _ sum cs_given.2 in
    let made : SumDoc = record {
      seq = h.0.seq;
      min = h.0.min;
      skipped = h.0.skipped;
      other = h.0.other;
      conns = h.0.conns;
      text = ls.0.text;
      rows = ls.0.rows;
      cols = ls.0.cols;
      intervals = is_kept.0;
      cells = cs_kept.0;
    } in
    head-names d h.0 h.1 ∙ ap (λ x. Ok x.conns) (same_value made sum _ refl cs_kept.2)

pub summaries-name-few : SummariesNameFew
unfolding summary
summaries-name-few bytes sum e =
    let d = fault_step fault_of_json (read_line bytes) _ sum e in
    let held = test_held (is_object d.0) (summary_of_object d.0) _ sum d.2 in
    names-few bytes d.0 sum.conns d.1 (object-names d.0 sum held.1)
