-- An edit of the text leaves the table, and one of the table the text; what each call says of its part says of the whole.
use Rattle.std.proofs.Common.{◌≡◌, ◌<◌, ◌≤◌, ◌^◌, ℕ, ◌+◌, ◌-◌, true, List, [], ◌∷◌, ◌++◌, Result, Ok, Err, refl, sym, ◌∙◌, ap, subst, length, map, arith}
use Rattle.std.specs.List.{list_all}
use Rattle.ft_op.specs.declared.operations.BaseOp.{BaseOp}
use Rattle.ft_op.specs.declared.operations.CellOp.{CellOp}
use Rattle.ft_op.specs.declared.operations.ChannelOp.TheVariants.{Grid}
use Rattle.ft_op.specs.declared.operations.GridOp.{GridOp}
use Rattle.ft_op.specs.declared.operations.GridOp.TheVariants as grid
use Rattle.ft_op.specs.declared.operations.Target.TheVariants.{Rows, Cols}
use Rattle.ft_op.specs.declared.operations.TextOp.{TextOp}
use Rattle.ft_op.specs.declared.operations.TextOp.TheVariants.{One, Group, IntervalAdd, IntervalChange, IntervalDelete}
use Rattle.ft_op.specs.Document.{Document}
use Rattle.ft_op.specs.Operation.{OnGrid, OnText, sub_operations, text_sub_operations}
use Rattle.ft_op.specs.Stages.{Stage}
use Rattle.ft_msg.specs.declared.faults.EditFault.{EditFault}
use Rattle.ft_msg.specs.declared.faults.EditFault.TheVariants.{IdInUse, NoSuchInterval, OutOfMemory, OutOfRange, Stopped}
use Rattle.ft_msg.specs.Answers.{count_held}
use Rattle.ft_msg.specs.Client.{local_sub_operations, stages_of}
use Rattle.std.specs.Prelude.{IfErr, IfOk}
use Rattle.ft_replica.specs.Own.{AnswersStages, HeldDocument, HoldsOne, NamesFit}
use Rattle.ft_string.specs.Calls.{AnswersEdit as AnswersText, Leaves, TakesEdit as TakesText}
use Rattle.ft_string.specs.Holds.{HoldsSome, HoldsText, IsTextSound, is_on_text}
use Rattle.ft_string.specs.State.{KeepsRest as KeepsText, TextState}
use Rattle.ft_matrix.specs.Conditions.{IsAboveAll, KeepsRest as KeepsGrid, TakesEdit as TakesGrid}
use Rattle.ft_matrix.specs.GridStates.{GridState}
use Rattle.ft_matrix.specs.HoldsGrid.{HoldsGrid}
use Rattle.ft_named.proofs.Lists.{map-append}
use Rattle.ft_client.specs.declared.own.TreeOwn.{TreeOwn}
use Rattle.ft_client.specs.declared.stages.OwnStage.{OwnStage}
use Rattle.ft_client.specs.declared.stages.Part.{Part}
use Rattle.ft_client.specs.declared.stages.Part.TheVariants as part
use Rattle.ft_client.specs.Holds.{HoldsTree}
use Rattle.ft_client.specs.Notes.{Notes}
use Rattle.ft_client.specs.Numbers.{HasNumbers, NumberState}
use Rattle.ft_client.specs.Parts.{own_stage, stages_from, text_part, units_of}
use Rattle.ft_client.proofs.Known.{above-all, client-sound, held-sound}
use Rattle.ft_client.proofs.LocalRuns.{AreOn, grid-run, local-run, run-stages, text-run}
use Rattle.ft_client.proofs.Parts.{elements-apart, grid-apart-stages, grid-same, intervals-apart, text-same}

-- ---- the sub-operations of one part

on-elements : (ops : List BaseOp) → AreOn part.Elements (map (λ op. OnText op) ops)
on-elements [] = tt
on-elements (op ∷ ops) = (refl, on-elements ops)

on-grid : (ops : List CellOp) → AreOn part.Grid (map (λ op. OnGrid op) ops)
on-grid [] = tt
on-grid (op ∷ ops) = (refl, on-grid ops)

all-elements : (ops : List BaseOp) → list_all is_on_text (map (λ op. OnText op) ops) ≡ true
all-elements [] = refl
all-elements (op ∷ ops) = all-elements ops

on-part : (op : TextOp) → AreOn (text_part op) (text_sub_operations op)
on-part (One op) = (refl, tt)
on-part (Group ops) = on-elements ops
on-part (IntervalAdd label id ends props) = (refl, tt)
on-part (IntervalChange label id ends props) = (refl, tt)
on-part (IntervalDelete label id) = (refl, tt)

pub all-on-text : (op : TextOp) → list_all is_on_text (text_sub_operations op) ≡ true
all-on-text (One op) = refl
all-on-text (Group ops) = all-elements ops
all-on-text (IntervalAdd label id ends props) = refl
all-on-text (IntervalChange label id ends props) = refl
all-on-text (IntervalDelete label id) = refl

abbrev pub ops_of : GridOp → List CellOp
ops_of (grid.One op) = op ∷ []
ops_of (grid.Group ops) = ops

pub ops-are : (op : GridOp) → sub_operations (Grid op) ≡ map (λ op. OnGrid op) (ops_of op)
ops-are (grid.One op) = refl
ops-are (grid.Group ops) = refl

-- ---- what is noted

noted-stages : (first count : ℕ) (kind : Part) (before after : List OwnStage) (stages more : List Stage) → before ≡ map own_stage stages
    → map own_stage more ≡ stages_from first (length more) kind → length more ≡ count → after ≡ before ++ stages_from first count kind
    → after ≡ map own_stage (stages ++ more)
noted-stages first count kind before after stages more e f g h =
    h ∙ ap (λ ss. ss ++ stages_from first count kind) e ∙ ap (λ n. map own_stage stages ++ stages_from first n kind) (sym g) ∙ ap (λ ss. map own_stage stages ++ ss) (sym f)
    ∙ sym (map-append own_stage stages more)

noted-numbers : (old new mid : NumberState) (doc after : Document) (last count rows cols : ℕ) (more : List Stage) → HasNumbers old doc last
    → after ≡ record doc { text = after.text; rows = after.rows; cols = after.cols } → count_held after.rows ≡ count_held doc.rows + rows
    → count_held after.cols ≡ count_held doc.cols + cols
    → mid ≡ record old { rows = old.rows + rows; cols = old.cols + cols } → new ≡ record mid { last = mid.last + count }
    → mid.last + count < 2 ^ 64 → length more ≡ count
    → HasNumbers new after (last + length more)
noted-numbers old new mid doc after last count rows cols more h same in_rows in_cols m n fits counted =
    let told : new ≡ record { number = old.number; minimum = old.minimum; skipped = old.skipped; other = old.other; rows = old.rows + rows; cols = old.cols + cols; last = old.last + count }
    = n ∙ ap (λ (x : NumberState). record x { last = x.last + count }) m in
    let lasts : mid.last ≡ last = ap (λ (x : NumberState). x.last) m ∙ h.last in
    record {
      number = ap (λ (x : NumberState). x.number) told ∙ h.number ∙ sym (ap (λ (d : Document). d.number) same);
      minimum = ap (λ (x : NumberState). x.minimum) told ∙ h.minimum ∙ sym (ap (λ (d : Document). d.minimum) same);
      skipped = ap (λ (x : NumberState). x.skipped) told ∙ h.skipped ∙ sym (ap (λ (d : Document). d.skipped) same);
      other = ap (λ (x : NumberState). x.other) told ∙ h.other ∙ sym (ap (λ (d : Document). d.other) same);
      rows = ap (λ (x : NumberState). x.rows) told ∙ ap (λ i. i + rows) h.rows ∙ sym in_rows;
      cols = ap (λ (x : NumberState). x.cols) told ∙ ap (λ i. i + cols) h.cols ∙ sym in_cols;
      last = ap (λ (x : NumberState). x.last) told ∙ ap (λ i. i + count) h.last ∙ ap (λ i. last + i) (sym counted);
      fits = subst (λ i. i < 2 ^ 64) (ap (λ i. i + count) lasts ∙ ap (λ i. last + i) (sym counted)) fits;
    }

no-more : (n : ℕ) → n ≡ n + 0
no-more n = omega arith

-- ---- the text

module _ (old new : TreeOwn) (held : HeldDocument) (h : HoldsTree old held) (first : ℕ) where
  pub text-taken : (op : TextOp) (count n : ℕ) → TakesText new.text held.stages (local_sub_operations held.doc held.stages first (text_sub_operations op)) count
      → KeepsText old.text new.text → new.table ≡ old.table → Notes first count (text_part op) n old.stages.items new.stages.items old.numbers new.numbers
      → AnswersStages (HoldsTree new) held (local_sub_operations held.doc held.stages first (text_sub_operations op)) (Ok n)
  text-taken op count n t keeps table notes =
      let run = local-run first held.doc held.stages (text_sub_operations op) t.after t.more t.is in
      let texts = text-run (all-on-text op) run in
      let same = texts.leaves in (
        (t.after, t.more),
        t.is,
        t.counted ∙ sym notes.counted,
        record {
          text = t.holds;
          table = subst (λ g. HoldsGrid g t.after (held.stages ++ t.more)) (sym table)
              (grid-same held.doc t.after old.table held.stages (held.stages ++ t.more) (ap (λ (d : Document). d.rows) same) (ap (λ (d : Document). d.cols) same)
              (ap (λ (d : Document). d.cells) same) (grid-apart-stages held.doc held.stages t.more texts.stages) h.table);
          stages = noted-stages first count (text_part op) old.stages.items new.stages.items held.stages t.more h.stages
              (run-stages (text_part op) (on-part op) run) t.counted notes.stages;
          numbers = noted-numbers old.numbers new.numbers old.numbers held.doc t.after held.last count 0 0 t.more h.numbers
              (same ∙ rw (ap (λ (d : Document). d.rows) same, ap (λ (d : Document). d.cols) same) refl)
              (ap (λ (d : Document). count_held d.rows) same ∙ no-more (count_held held.doc.rows))
              (ap (λ (d : Document). count_held d.cols) same ∙ no-more (count_held held.doc.cols))
              (rw (sym (no-more old.numbers.rows), sym (no-more old.numbers.cols)) refl) notes.numbers notes.fits t.counted;
          settled = record {
            text = keeps.usable ∙ h.settled.text;
            table = ap (λ (g : GridState). g.usable) table ∙ h.settled.table;
            text_given = keeps.given ∙ h.settled.text_given;
            table_given = ap (λ (g : GridState). g.given) table ∙ h.settled.table_given;
            text_floor = subst (λ n. n ≤ held.low) (sym keeps.floor) h.settled.text_floor;
            table_floor = subst (λ (g : GridState). g.floor ≤ held.low) (sym table) h.settled.table_floor;
          };
        },
      )

  refused-same : new ≡ old → HoldsTree new held
  refused-same e = subst (λ (s : TreeOwn). HoldsTree s held) (sym e) h

  pub text-refused : (step : Result (Document × List Stage) EditFault) (fault : EditFault)
      → AnswersText new.text held.stages step (Err fault) → Leaves old.text new.text fault
      → new ≡ record old { text = new.text } → AnswersStages (HoldsTree new) held step (Err fault)
  text-refused step OutOfMemory a l e = tt
  text-refused step (Stopped seq) a l e = absurd l
  text-refused step (OutOfRange n) a l e = (a, refused-same (e ∙ ap (λ t. record old { text = t }) l))
  text-refused step IdInUse a l e = (a, refused-same (e ∙ ap (λ t. record old { text = t }) l))
  text-refused step NoSuchInterval a l e = (a, refused-same (e ∙ ap (λ t. record old { text = t }) l))

  -- ---- the table

  pub grid-taken : (op : GridOp) (count n rows cols : ℕ) (mid : NumberState)
      → TakesGrid new.table held.stages (local_sub_operations held.doc held.stages first (sub_operations (Grid op))) count
      → KeepsGrid old.table new.table → new.text ≡ old.text → rows ≡ units_of Rows (sub_operations (Grid op)) → cols ≡ units_of Cols (sub_operations (Grid op))
      → mid ≡ record old.numbers { rows = old.numbers.rows + rows; cols = old.numbers.cols + cols }
      → Notes first count part.Grid n old.stages.items new.stages.items mid new.numbers
      → AnswersStages (HoldsTree new) held (local_sub_operations held.doc held.stages first (sub_operations (Grid op))) (Ok n)
  grid-taken op count n rows cols mid t keeps text in_rows in_cols m notes =
      let run = local-run first held.doc held.stages (sub_operations (Grid op)) t.later t.taken t.is in
      let grids = grid-run (ops_of op) (ops-are op) run in
      let same = grids.leaves in
      let on = subst (AreOn part.Grid) (sym (ops-are op)) (on-grid (ops_of op)) in (
        (t.later, t.taken),
        t.is,
        t.counted ∙ sym notes.counted,
        record {
          text = subst (λ s. HoldsText s t.later (held.stages ++ t.taken)) (sym text)
              (text-same held.doc t.later old.text held.stages (held.stages ++ t.taken) (ap (λ (d : Document). d.text) same) (ap (λ (d : Document). d.intervals) same)
              (elements-apart held.stages t.taken grids.stages) (intervals-apart held.stages t.taken grids.stages) h.text);
          table = t.holds;
          stages = noted-stages first count part.Grid old.stages.items new.stages.items held.stages t.taken h.stages (run-stages part.Grid on run) t.counted notes.stages;
          numbers = noted-numbers old.numbers new.numbers mid held.doc t.later held.last count rows cols t.taken h.numbers
              (same ∙ rw (ap (λ (d : Document). d.text) same) refl)
              (grids.rows ∙ ap (λ i. count_held held.doc.rows + i) (sym in_rows)) (grids.cols ∙ ap (λ i. count_held held.doc.cols + i) (sym in_cols))
              m notes.numbers notes.fits t.counted;
          settled = record {
            text = ap (λ (x : TextState). x.usable) text ∙ h.settled.text;
            table = keeps.usable ∙ h.settled.table;
            text_given = ap (λ (x : TextState). x.given) text ∙ h.settled.text_given;
            table_given = keeps.given ∙ h.settled.table_given;
            text_floor = subst (λ (x : TextState). x.floor ≤ held.low) (sym text) h.settled.text_floor;
            table_floor = subst (λ n. n ≤ held.low) (sym keeps.floor) h.settled.table_floor;
          };
        },
      )

-- ---- what is known at an edit, and how it ends

before : (k n : ℕ) → k + 1 ≡ n → k ≡ n - 1
before k n e = omega arith

module _ (s : TreeOwn) (first : ℕ) (known : HoldsOne HoldsTree s (λ p. p.last_stage + 1 ≡ first)) where
  pub holds-some : HoldsSome (first - 1) s.text
  holds-some = record {
    doc = known.client.doc;
    stages = stages_of known.client;
    sound = subst (λ k. IsTextSound k known.client.doc (stages_of known.client)) (before known.client.last_stage first known.fits)
        (client-sound known.start known.client known.made known.document.numbers.fits);
    holds = known.document.text;
  }

  pub above-table : IsAboveAll first s.table
  above-table = above-all known.start known.client known.made s known.low known.document first (next-one known.client.last_stage first known.fits)
    where
      next-one : (k n : ℕ) → k + 1 ≡ n → k < n
      next-one k n e = omega arith

  -- the number of the next stage, also where other numbers changed
  pub next-first : (n : NumberState) → n.last ≡ s.numbers.last → first ≤ n.last + 1
  next-first n same =
      let last = known.document.numbers.last in
      let fits = known.fits in
      omega (arith, same, last, fits)

  pub sound-before : (held : HeldDocument) → NamesFit held → held.last + 1 ≡ first → HoldsTree s held → IsTextSound (first - 1) held.doc held.stages
  sound-before held named e h =
      subst (λ k. IsTextSound k held.doc held.stages) (before held.last first e) (held-sound known.start known.client known.made s known.low known.document held named h)

pub noted-answer : (Holds : HeldDocument → Type 0) (held : HeldDocument) (step : Result (Document × List Stage) EditFault) (N : ℕ → Type 0)
    (r : Result ℕ EditFault)
    → IfOk r N → IfErr r (λ fault. fault ≡ OutOfMemory) → ((n : ℕ) → N n → AnswersStages Holds held step (Ok n)) → AnswersStages Holds held step r
noted-answer Holds held step N (Ok n) h e f = f n h
noted-answer Holds held step N (Err fault) h e f = subst (λ x. AnswersStages Holds held step (Err x)) (sym e) tt
