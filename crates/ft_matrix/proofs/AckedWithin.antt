-- The stages that are left of an edit acknowledged one after another, past the numbers of those that it lost.
use Rattle.std.proofs.Common.{◌≡◌, ℕ, ◌+◌, ◌≤◌, ◌<◌, All, Bool, true, false, cond, ◌&&◌, ◌||◌, nat_eq, List, [], ◌∷◌, ◌++◌, Option, Some, None, refl, sym, ◌∙◌, ap, subst, map, arith}
use Rattle.std.specs.List.{AllByRecursion, list_all}
use Rattle.std.specs.Map.{lookup}
use Rattle.std.specs.Option.{option_and_then, option_map, option_or}
use Rattle.std.proofs.lemmas.Bool.Decides.{nat_tests}
use Rattle.std.proofs.lemmas.List.Elements.{recursion_from_All}
use Rattle.ft_base.specs.declared.elements.Element.{Element as ElementStamps}
use Rattle.ft_base.specs.declared.stamps.Stamp.{Stamp}
use Rattle.ft_base.specs.declared.stamps.Stamp.TheVariants.{Acked, Local}
use Rattle.ft_base.specs.Scan.{rank}
use Rattle.ft_base.specs.Visibility.{is_acked, is_of_stage}
use Rattle.ft_base.proofs.Booleans.{both}
use Rattle.ft_op.specs.declared.operations.Target.TheVariants.{Rows, Cols}
use Rattle.ft_op.specs.Document.{Document}
use Rattle.ft_op.specs.Operation.{OnGrid, SubOperation}
use Rattle.ft_op.specs.Stages.{Stage}
use Rattle.ft_msg.specs.Acknowledgement.{ack_stages, renamed_stage}
use Rattle.ft_msg.specs.Indexed.{IndexedStage}
use Rattle.ft_props.specs.Element.{ElementId, ListElement, NamelessElement, nameless, removal_stamp}
use Rattle.ft_props.specs.Overlay.{OverlayState, after_ack}
use Rattle.ft_props.specs.Steps.{acked_element as acked_named, acked_removal, acked_stamp, remaining_removal}
use Rattle.ft_tree_leaves.specs.Elements.{TreeElement, acked_element, acked_stamps, element_with}
use Rattle.ft_cells.specs.CellTables.{cell_at, unless_null}
use Rattle.ft_laws_agreement.specs.Reconnecting.{has_insertion_of, has_marks_of, has_removal_of, is_stage_of}
use Rattle.ft_laws_agreement.specs.Sequencing.{inserts_in, is_grid_stage, removes_in}
use Rattle.ft_laws_agreement.proofs.SlidEnds.{true-false}
use Rattle.ft_laws_names.specs.GridFacts.{AreCounted}
use Rattle.ft_laws_names.specs.WellNamed.{RiseTo}
use Rattle.ft_matrix.specs.declared.grid.Grid.{Grid}
use Rattle.ft_matrix.specs.declared.stages.GridStage.{GridStage}
use Rattle.ft_matrix.specs.Acked.{AcksSome, AcksStage, AcksWithin, acked_stage, after_stage, cols_put_by, rows_put_by}
use Rattle.ft_matrix.specs.Applied.{Holds}
use Rattle.ft_matrix.specs.Conditions.{AreOldest, HasItsMarks}
use Rattle.ft_matrix.specs.GridStates.{grid_state}
use Rattle.ft_matrix.specs.HoldsGrid.{HoldsGrid}
use Rattle.ft_matrix.specs.Sound.{IsSound, no_properties}
use Rattle.ft_matrix.specs.Units.{acked_value, has_handle, placed_cells, shown_unit, unit_value, units_of}
use Rattle.ft_matrix.proofs.AckedEdits.{none-acked-yet, rise-back, with-next}
use Rattle.ft_matrix.proofs.AckedStages.{front-lookup, later-front, written_by}
use Rattle.ft_matrix.proofs.SoundVectors.{all-weaker}

-- ---- stages above a number

abbrev AreAbove : ℕ → List Stage → Type 0
AreAbove k ts = AllByRecursion (λ (t : Stage). k < t.stage) ts

other-number : (j k : ℕ) → k < j → nat_eq j k ≡ false
other-number j k l = grind (arith, nat_tests)

-- none of them has it
none-of : (kind : SubOperation → Bool) (k : ℕ) (ts : List Stage) → AreAbove k ts → is_stage_of kind ts k ≡ false
none-of kind k [] a = refl
none-of kind k (t ∷ ts) a = rw (other-number t.stage k a.0) (none-of kind k ts a.1)

-- those behind a first one are above it
risen : (k low last : ℕ) (ts : List Stage) → k ≤ low → RiseTo low last ts → AreAbove k ts
risen k low last [] l r = tt
risen k low last (t ∷ ts) l r = (let up = r.0 in omega (arith, l, up), risen k t.stage last ts (let up = r.0 in omega (arith, l, up)) r.1)

-- the numbers rise from there
above-rise : (k last : ℕ) (ts : List Stage) → RiseTo 0 last ts → AreAbove k ts → RiseTo k (last + k) ts
above-rise k last [] r a = omega arith
above-rise k last (t ∷ ts) r a = (a.0, further t.stage ts r.1)
  where
    further : (low : ℕ) (us : List Stage) → RiseTo low last us → RiseTo low (last + k) us
    further low [] h = omega arith
    further low (u ∷ us) h = (h.0, further u.stage us h.1)

renamed-above : (k : ℕ) (f : ElementId → ElementId) (ts : List Stage) → AreAbove k ts → AreAbove k (map (renamed_stage f) ts)
renamed-above k f [] a = tt
renamed-above k f (t ∷ ts) a = (a.0, renamed-above k f ts a.1)

-- ---- units on which nothing of a stage is pending

module _ (inserts removes : SubOperation → Bool) (stages : List Stage) (k s c : ℕ) (above : AreAbove k stages) where
  unlike : (kind : SubOperation → Bool) (j : ℕ) → is_stage_of kind stages j ≡ true → nat_eq j k ≡ false
  unlike kind j h = by (nat_eq j k) refl
    where
      by : (b : Bool) → nat_eq j k ≡ b → b ≡ false
      by false e = refl
      by true e =
          let same : j ≡ k = grind (arith, nat_tests) in
          absurd (true-false (sym h ∙ ap (is_stage_of kind stages) same ∙ none-of kind k stages above))

  insertion-other : (t : Stamp) → has_insertion_of inserts stages t ≡ true → is_of_stage k t ≡ false
  insertion-other (Acked r d) h = refl
  insertion-other (Local j) h = unlike inserts j h

  removals-same : (dels : List Stamp) (o : Option ℕ) → list_all is_acked dels ≡ true → has_removal_of removes stages o ≡ true
      → map (acked_stamp k s c) (dels ++ removal_stamp o) ≡ dels ++ removal_stamp o
  removals-same [] None h g = refl
  removals-same [] (Some j) h g = ap (λ b. cond b (Acked s c) (Local j) ∷ []) (unlike removes j g)
  removals-same (Acked r d ∷ dels) o h g = ap (λ ts. Acked r d ∷ ts) (removals-same dels o h g)
  removals-same (Local j ∷ dels) o h g = (cc)

  unit-same : (e : ListElement) (u : TreeElement ℕ) → nameless e ≡ shown_unit u → has_marks_of inserts removes stages e ≡ true → u.overlay ≡ no_properties
      → acked_element k s c None u ≡ u
  unit-same e u n h plain =
      let p = both (has_insertion_of inserts stages e.ins && has_removal_of removes stages e.removal_stage) (list_all is_acked e.dels) h in
      let q = both (has_insertion_of inserts stages e.ins) (has_removal_of removes stages e.removal_stage) p.0 in
      let stamps : e.ins ≡ u.stamps.ins = ap (λ (m : NamelessElement). m.stamps.ins) n in
      let dels : e.dels ++ removal_stamp e.removal_stage ≡ u.stamps.dels = ap (λ (m : NamelessElement). m.stamps.dels) n in
      let other : is_of_stage k u.stamps.ins ≡ false = subst (λ t. is_of_stage k t ≡ false) stamps (insertion-other e.ins q.0) in
      let first : acked_stamp k s c u.stamps.ins ≡ u.stamps.ins = ap (λ b. cond b (Acked s c) u.stamps.ins) other in
      let second : map (acked_stamp k s c) u.stamps.dels ≡ u.stamps.dels =
      subst (λ ts. map (acked_stamp k s c) ts ≡ ts) dels (removals-same e.dels e.removal_stage p.1 q.1)
      in
      let both_same : acked_stamps k s c u.stamps ≡ u.stamps = λ i. record { ins = first i; dels = second i } in
      let none : after_ack k u.overlay ≡ u.overlay = ap (after_ack k) plain ∙ sym plain in
      ap (λ (ts : ElementStamps). element_with ts (cond (is_of_stage k u.stamps.ins) None u.by) (after_ack k u.overlay) u.unit) both_same
      ∙ ap (λ b. element_with u.stamps (cond b None u.by) (after_ack k u.overlay) u.unit) other
      ∙ ap (λ (o : OverlayState). element_with u.stamps u.by o u.unit) none

  units-same : (es : List ListElement) (us : List (TreeElement ℕ)) → map nameless es ≡ map shown_unit us → list_all (has_marks_of inserts removes stages) es ≡ true
      → AllByRecursion (λ (u : TreeElement ℕ). u.overlay ≡ no_properties) us → map (acked_element k s c None) us ≡ us
  units-same [] [] n h p = refl
  units-same [] (u ∷ us) n h p = (cc)
  units-same (e ∷ es) [] n h p = (cc)
  units-same (e ∷ es) (u ∷ us) n h p =
      let here : nameless e ≡ shown_unit u = (cc) in
      let more : map nameless es ≡ map shown_unit us = (cc) in
      let m = both (has_marks_of inserts removes stages e) (list_all (has_marks_of inserts removes stages) es) h in
      ap (λ v. v ∷ map (acked_element k s c None) us) (unit-same e u here m.0 p.0) ∙ ap (λ vs. u ∷ vs) (units-same es us more m.1 p.1)

-- ---- a number that no stage has

plus-zero : (n m : ℕ) → n ≡ m + 0 → n ≡ m
plus-zero n m e = omega (arith, e)

-- a stage by the units of rows and columns
abbrev stage_by : List (TreeElement ℕ) → List (TreeElement ℕ) → GridStage → IndexedStage
stage_by rows cols t = record {
  stage = t.stage;
  sub_operation = OnGrid t.op;
  places = record { first = option_map (λ h. rank (has_handle h) (λ _. true) rows) t.row; second = option_map (λ h. rank (has_handle h) (λ _. true) cols) t.col };
}

module _ (last k s c : ℕ) (f : ElementId → ElementId) (doc : Document) (ts : List Stage) (old new : Grid) (sound : IsSound old)
    (lowest : All (λ (t : GridStage). k ≤ t.stage) old.stages.items) (acks : AcksStage k s c old new) (h : Holds last old doc (map (renamed_stage f) ts))
    (above : AreAbove k ts) (marks : HasItsMarks ts doc) where
  same-rows : units_of new.rows ≡ units_of old.rows
  same-rows = acks.rows.units ∙ units-same (inserts_in Rows) (removes_in Rows) ts k s c above doc.rows.items (units_of old.rows) h.holds.rows marks.rows
      (recursion_from_All (λ (u : TreeElement ℕ). u.overlay ≡ no_properties) (units_of old.rows) sound.rows.plain)

  same-cols : units_of new.cols ≡ units_of old.cols
  same-cols = acks.cols.units ∙ units-same (inserts_in Cols) (removes_in Cols) ts k s c above doc.cols.items (units_of old.cols) h.holds.cols marks.cols
      (recursion_from_All (λ (u : TreeElement ℕ). u.overlay ≡ no_properties) (units_of old.cols) sound.cols.plain)

  no-front : (acked_stage k old.stages.items ≡ None) × (after_stage k old.stages.items ≡ old.stages.items)
  no-front = later-front (last + k) k k doc old.rows old.cols (map (renamed_stage f) ts) (omega arith)
      (above-rise k last (map (renamed_stage f) ts) h.named.rise (renamed-above k f ts above)) old.stages.items h.holds.stages

  same-cell : (row col : ℕ) → acked_value (cell_at new.cells row col) ≡ acked_value (cell_at old.cells row col)
  same-cell row col =
      let none : lookup (λ j. nat_eq j k) (cell_at old.cells row col).pending ≡ None =
      ap (lookup (λ j. nat_eq j k)) (sound.writes row col)
      ∙ front-lookup row col k old.stages.items (recursion_from_All (λ (t : GridStage). k ≤ t.stage) old.stages.items lowest) sound.rise
      ∙ ap (written_by row col) no-front.0
      in
      ap acked_value (acks.cells row col) ∙ ap (λ o. option_and_then unless_null (option_or o (cell_at old.cells row col).acked)) none

  same-values : unit_value new.cells ≡ unit_value old.cells
  same-values = λ i e d. same-cell e.unit d.unit i

  pub passed-held : HoldsGrid (grid_state new 0 true) doc (map (renamed_stage f) ts)
  passed-held = record {
    rows = h.holds.rows ∙ ap (map shown_unit) (sym same-rows);
    cols = h.holds.cols ∙ ap (map shown_unit) (sym same-cols);
    rows_made = h.holds.rows_made ∙ sym (plus-zero new.rows_made old.rows_made (acks.rows_made ∙ ap (λ t. old.rows_made + rows_put_by t) no-front.0));
    cols_made = h.holds.cols_made ∙ sym (plus-zero new.cols_made old.cols_made (acks.cols_made ∙ ap (λ t. old.cols_made + cols_put_by t) no-front.0));
    cells = h.holds.cells ∙ ap (λ v. placed_cells v (units_of old.cols) 0 (units_of old.rows)) (sym same-values)
        ∙ ap (λ us. placed_cells (unit_value new.cells) us 0 (units_of old.rows)) (sym same-cols)
        ∙ ap (λ us. placed_cells (unit_value new.cells) (units_of new.cols) 0 us) (sym same-rows);
    stages = h.holds.stages ∙ ap (λ us. map (stage_by us (units_of old.cols)) old.stages.items) (sym same-rows)
        ∙ ap (λ us. map (stage_by (units_of new.rows) us) old.stages.items) (sym same-cols)
        ∙ ap (map (stage_by (units_of new.rows) (units_of new.cols))) (sym (acks.stages ∙ no-front.1));
  }

-- ---- what is pending after a stage was acknowledged is of the others

drop-first : (b x y : Bool) → b ≡ false → (b && x) || y ≡ true → y ≡ true
drop-first false x y e h = h
drop-first true x y e h = (cc)

turn : (j k : ℕ) → nat_eq j k ≡ false → nat_eq k j ≡ false
turn j k e = grind (arith, nat_tests)

module _ (inserts removes : SubOperation → Bool) (t : Stage) (us : List Stage) (s c n : ℕ) where
  insertion-left : (a : Stamp) → has_insertion_of inserts (t ∷ us) a ≡ true → has_insertion_of inserts us (acked_stamp t.stage s c a) ≡ true
  insertion-left (Acked r d) h = refl
  insertion-left (Local j) h = by (nat_eq j t.stage) refl
    where
      by : (b : Bool) → nat_eq j t.stage ≡ b → has_insertion_of inserts us (cond b (Acked s c) (Local j)) ≡ true
      by true e = refl
      by false e = drop-first (nat_eq t.stage j) (inserts t.sub_operation) (is_stage_of inserts us j) (turn j t.stage e) h

  removal-left : (o : Option ℕ) → has_removal_of removes (t ∷ us) o ≡ true → has_removal_of removes us (remaining_removal t.stage o) ≡ true
  removal-left None h = refl
  removal-left (Some j) h = by (nat_eq j t.stage) refl
    where
      by : (b : Bool) → nat_eq j t.stage ≡ b → has_removal_of removes us (cond b None (Some j)) ≡ true
      by true e = refl
      by false e = drop-first (nat_eq t.stage j) (removes t.sub_operation) (is_stage_of removes us j) (turn j t.stage e) h

  still-acked : (dels : List Stamp) (o : Option ℕ) → list_all is_acked dels ≡ true → list_all is_acked (dels ++ acked_removal t.stage s c o) ≡ true
  still-acked [] None h = refl
  still-acked [] (Some j) h = by (nat_eq j t.stage)
    where
      by : (b : Bool) → list_all is_acked (cond b (Acked s c ∷ []) []) ≡ true
      by true = refl
      by false = refl
  still-acked (Acked r d ∷ dels) o h = still-acked dels o h
  still-acked (Local j ∷ dels) o h = (cc)

  marks-left : (es : List ListElement) → list_all (has_marks_of inserts removes (t ∷ us)) es ≡ true
      → list_all (has_marks_of inserts removes us) (map (acked_named t.stage n s c) es) ≡ true
  marks-left [] h = refl
  marks-left (e ∷ es) h =
      let m = both (has_marks_of inserts removes (t ∷ us) e) (list_all (has_marks_of inserts removes (t ∷ us)) es) h in
      let p = both (has_insertion_of inserts (t ∷ us) e.ins && has_removal_of removes (t ∷ us) e.removal_stage) (list_all is_acked e.dels) m.0 in
      let q = both (has_insertion_of inserts (t ∷ us) e.ins) (has_removal_of removes (t ∷ us) e.removal_stage) p.0 in
      rw (insertion-left e.ins q.0, removal-left e.removal_stage q.1, still-acked e.dels e.removal_stage p.1, marks-left es m.1) refl

-- ---- the numbers of an edit one after another

module _ (last s c : ℕ) (doc : Document) (acked rest : List Stage) where
  pub within-begins : (first end : ℕ) (g : Grid) → Holds last g doc (acked ++ rest) → AreOldest first end acked rest → HasItsMarks (acked ++ rest) doc
      → AreCounted doc acked → AcksWithin last s c g doc acked rest first end
  unfolding none-acked-yet
  within-begins first end g h oldest marks counted =
      let within = recursion_from_All (λ (t : Stage). (first ≤ t.stage) × (t.stage < end) × (is_grid_stage t ≡ true)) acked oldest.within in
      record {
        left = acked;
        some = none-acked-yet last s c doc acked rest g h counted;
        marks = marks;
        from = all-weaker (λ (t : Stage). (first ≤ t.stage) × (t.stage < end) × (is_grid_stage t ≡ true)) (λ (t : Stage). first ≤ t.stage) (λ t w. w.0) acked within;
        below = all-weaker (λ (t : Stage). (first ≤ t.stage) × (t.stage < end) × (is_grid_stage t ≡ true)) (λ (t : Stage). t.stage < end) (λ t w. w.1) acked within;
        behind = recursion_from_All (λ (t : Stage). end ≤ t.stage) rest oldest.behind;
      }

  module _ (k end : ℕ) (old new : Grid) (sound : IsSound old) (lowest : All (λ (t : GridStage). k ≤ t.stage) old.stages.items) (acks : AcksStage k s c old new)
      (more : k < end) (behind : AllByRecursion (λ (t : Stage). end ≤ t.stage) rest) where
    rest-above : (us : List Stage) → AllByRecursion (λ (t : Stage). end ≤ t.stage) us → AreAbove k us
    rest-above us b = all-weaker (λ (t : Stage). end ≤ t.stage) (λ (t : Stage). k < t.stage) (λ t l. omega (arith, l, more)) us b

    -- no stage has the number
    passes : (left : List Stage) (p : AcksSome last s c old doc acked left rest) → HasItsMarks (left ++ rest) p.between → AreAbove k (left ++ rest)
        → AllByRecursion (λ (t : Stage). t.stage < end) left → AllByRecursion (λ (t : Stage). k + 1 ≤ t.stage) left → AcksWithin last s c new doc acked rest (k + 1) end
    passes left p marks above below from = record {
      left = left;
      some = record {
        between = p.between;
        rename = p.rename;
        now = record { named = p.now.named; holds = passed-held last k s c p.rename p.between (left ++ rest) old new sound lowest acks p.now above marks };
        same = p.same;
        counted = p.counted;
      };
      marks = marks;
      from = from;
      below = below;
      behind = behind;
    }

    -- the next stage has it
    takes : (t : Stage) (ts : List Stage) (p : AcksSome last s c old doc acked (t ∷ ts) rest) → HasItsMarks (t ∷ (ts ++ rest)) p.between → t.stage ≡ k
        → AllByRecursion (λ (u : Stage). u.stage < end) ts → AcksWithin last s c new doc acked rest (k + 1) end
    unfolding with-next
    takes t ts p marks number below =
        let rise = rise-back p.rename 0 last (t ∷ (ts ++ rest)) p.now.named.rise in
        let later : AreAbove t.stage (ts ++ rest) = risen t.stage t.stage last (ts ++ rest) (omega arith) rise.1 in
        record {
          left = ts;
          some = with-next last s c doc acked rest k old new (t ∷ ts) t ts refl number sound
              (recursion_from_All (λ (u : GridStage). k ≤ u.stage) old.stages.items lowest) acks p;
          marks = record {
            rows = marks-left (inserts_in Rows) (removes_in Rows) t (ts ++ rest) s c p.between.rows.made p.between.rows.items marks.rows;
            cols = marks-left (inserts_in Cols) (removes_in Cols) t (ts ++ rest) s c p.between.cols.made p.between.cols.items marks.cols;
          };
          from = front ts later;
          below = below;
          behind = behind;
        }
      where
        front : (us : List Stage) → AreAbove t.stage (us ++ rest) → AllByRecursion (λ (u : Stage). k + 1 ≤ u.stage) us
        front [] a = tt
        front (u ∷ us) a = (let up = a.0 in omega (arith, up, number), front us a.1)

    one-number : (left : List Stage) (p : AcksSome last s c old doc acked left rest) → HasItsMarks (left ++ rest) p.between
        → AllByRecursion (λ (t : Stage). k ≤ t.stage) left → AllByRecursion (λ (t : Stage). t.stage < end) left → AcksWithin last s c new doc acked rest (k + 1) end
    one-number [] p marks from below = passes [] p marks (rest-above rest behind) tt tt
    one-number (t ∷ ts) p marks from below = by (nat_eq t.stage k) refl
      where
        rise : RiseTo 0 last (t ∷ (ts ++ rest))
        rise = rise-back p.rename 0 last (t ∷ (ts ++ rest)) p.now.named.rise

        by : (b : Bool) → nat_eq t.stage k ≡ b → AcksWithin last s c new doc acked rest (k + 1) end
        by true e = takes t ts p marks (equal e) below.1
          where
            equal : nat_eq t.stage k ≡ true → t.stage ≡ k
            equal g = grind (arith, nat_tests)
        by false e =
            let low = from.0 in
            let above : k < t.stage = higher low e in
            let later : AreAbove k (ts ++ rest) = risen k t.stage last (ts ++ rest) (omega (arith, above)) rise.1 in
            passes (t ∷ ts) p marks (above, later) below (omega (arith, above), front ts later)
          where
            higher : k ≤ t.stage → nat_eq t.stage k ≡ false → k < t.stage
            higher l g = grind (arith, nat_tests)

            front : (us : List Stage) → AreAbove k (us ++ rest) → AllByRecursion (λ (u : Stage). k + 1 ≤ u.stage) us
            front [] a = tt
            front (u ∷ us) a = (let up = a.0 in omega (arith, up), front us a.1)

  pub number-acked : (k end : ℕ) (old new : Grid) → IsSound old → All (λ (t : GridStage). k ≤ t.stage) old.stages.items → AcksStage k s c old new → k < end
      → AcksWithin last s c old doc acked rest k end → AcksWithin last s c new doc acked rest (k + 1) end
  number-acked k end old new sound lowest acks more w = one-number k end old new sound lowest acks more w.behind w.left w.some w.marks w.from w.below

  none-left : (k end : ℕ) (left : List Stage) → end ≤ k → AllByRecursion (λ (t : Stage). k ≤ t.stage) left → AllByRecursion (λ (t : Stage). t.stage < end) left → left ≡ []
  none-left k end [] l from below = refl
  none-left k end (t ∷ ts) l from below = (let low = from.0 in let high = below.0 in absurd (omega (arith, l, low, high)))

  pub all-within : (k end : ℕ) (g : Grid) → end ≤ k → AcksWithin last s c g doc acked rest k end
      → HoldsGrid (grid_state g 0 true) (ack_stages s c (λ i. i) acked doc).0 (map (renamed_stage (ack_stages s c (λ i. i) acked doc).1) rest)
  all-within k end g l w =
      let p = w.some in
      let none = none-left k end w.left l w.from w.below in
      let now = subst (λ us. Holds last g p.between (map (renamed_stage p.rename) (us ++ rest))) none p.now in
      let same : (p.between, p.rename) ≡ ack_stages s c (λ i. i) acked doc = ap (λ us. ack_stages s c p.rename us p.between) (sym none) ∙ p.same in
      subst (λ r. HoldsGrid (grid_state g 0 true) r.0 (map (renamed_stage r.1) rest)) same now.holds
