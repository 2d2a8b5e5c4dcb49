-- Before any of its pending stages a client's document stands beside the one without what is pending.
use Rattle.std.proofs.Common.{◌≡◌, ℕ, ◌≤◌, Bool, true, false, cond, not, ◌&&◌, ◌||◌, List, [], ◌∷◌, ◌++◌, Option, Some, None, refl, sym, ◌∙◌, ap, subst, arith, nat_eq, nat_le}
use Rattle.std.specs.List.{list_all, list_any}
use Rattle.std.proofs.lemmas.Bool.Decides.{nat_tests}
use Rattle.ft_base.specs.declared.stamps.Stamp.{Stamp}
use Rattle.ft_base.specs.declared.stamps.Stamp.TheVariants.{Acked, Local}
use Rattle.ft_base.specs.Scan.{retain_map}
use Rattle.ft_base.specs.Visibility.{has_occurred, has_occurred_at_stage, is_acked}
use Rattle.ft_base.proofs.Booleans.{all_three, both}
use Rattle.ft_props.specs.declared.properties.Changes.{Changes}
use Rattle.ft_props.specs.Properties.{shown_props}
use Rattle.ft_props.specs.Element.{ListElement, ElementId, id, is_sequenced, is_unremoved, removal_stamp, same_id, seen, sequenced_elements, without_pending}
use Rattle.ft_props.specs.Steps.{Sequence, carried_element}
use Rattle.ft_op.specs.Operation.{SubOperation}
use Rattle.ft_op.specs.Document.{sequenced_part}
use Rattle.ft_op.specs.Intervals.{Interval}
use Rattle.ft_op.specs.Stages.{Stage}
use Rattle.ft_op.specs.declared.operations.Target.TheVariants.{Cols, Rows}
use Rattle.ft_msg.specs.Client.{NaiveClient, stages_of}
use Rattle.ft_laws_agreement.specs.Reconnecting.{StagesRiseTo, has_insertion_of, has_marks_of, has_removal_of, inserts_text, is_stage_of, removes_text}
use Rattle.ft_laws_agreement.specs.Sequencing.{Each, IsReady, IsReadyList, annotates_text, has_none, inserts_in, is_known, is_known_stamp, no_kind, removes_in}
use Rattle.ft_laws_agreement.specs.Trimming.{IsConsistent, has_ends_on, is_end_on}
use Rattle.ft_laws_agreement.proofs.AfterOwnJoin.{unremoved-seen}
use Rattle.ft_laws_agreement.proofs.EditsInOrder.{Reached}
use Rattle.ft_laws_agreement.proofs.ListStages.{left_changes}
use Rattle.ft_laws_agreement.proofs.OwnNames.{all-weaker, has_named}
use Rattle.ft_laws_agreement.proofs.PairedIntervals.{IntervalPairs}
use Rattle.ft_laws_agreement.proofs.PairedLists.{IsEndPair, Pair, has_pair, lefts, rights}
use Rattle.ft_laws_agreement.proofs.SequencedStages.{Beside, Image, pending_up_to}
use Rattle.ft_laws_agreement.proofs.SettledEnds.{has_ends_at, is_end_at, is_left, left-first, named-weaker}
use Rattle.ft_laws_agreement.proofs.StageViews.{carried-id, rise-absent, stage_list}
use Rattle.ft_props.proofs.RebuiltList.{carried_element-ins}
use Rattle.ft_laws_agreement.proofs.SideBySideStages.{carried-seen}

-- each sequenced element as it goes on, and without what is pending on it
abbrev pub started : List ListElement → List Pair
started xs = retain_map is_sequenced (λ e. (carried_element e, without_pending e)) xs

started-left : (xs : List ListElement) → lefts (started xs) ≡ retain_map is_sequenced carried_element xs
started-left [] = refl
started-left (e ∷ xs) = step (is_sequenced e) (started-left xs)
  where
    step : (b : Bool) → lefts (started xs) ≡ retain_map is_sequenced carried_element xs
        → lefts (cond b ((carried_element e, without_pending e) ∷ started xs) (started xs))
        ≡ cond b (carried_element e ∷ retain_map is_sequenced carried_element xs) (retain_map is_sequenced carried_element xs)
    step true h = ap (λ us. carried_element e ∷ us) h
    step false h = h

started-right : (xs : List ListElement) → rights (started xs) ≡ sequenced_elements xs
started-right [] = refl
started-right (e ∷ xs) = step (is_sequenced e) (started-right xs)
  where
    step : (b : Bool) → rights (started xs) ≡ sequenced_elements xs → rights (cond b ((carried_element e, without_pending e) ∷ started xs) (started xs))
        ≡ cond b (without_pending e ∷ sequenced_elements xs) (sequenced_elements xs)
    step true h = ap (λ us. without_pending e ∷ us) h
    step false h = h

-- what a test sees by which each sequenced stamp has occurred
seen-by-test : (test : Stamp → Bool) (dels more : List Stamp) → list_all test dels ≡ true → list_any test more ≡ false → not (list_any test (dels ++ more)) ≡ has_none dels
seen-by-test test [] more h k = ap not k
seen-by-test test (s ∷ dels) more h k = ap (λ b. not (b || list_any test (dels ++ more))) (both (test s) (list_all test dels) h).0

module _ (inserts removes annotates : SubOperation → Bool) (n conn m : ℕ) (stages : List Stage) (rise : StagesRiseTo 0 stages m) where
  none-first : (kind : SubOperation → Bool) (i : ℕ) → is_stage_of kind stages i ≡ true → nat_le i 0 ≡ false
  none-first kind i h = step (nat_le i 0) refl
    where
      step : (b : Bool) → nat_le i 0 ≡ b → b ≡ false
      step true e = let l : i ≤ 0 = grind (arith, nat_tests) in absurd (cc (rise-absent [] kind i 0 m stages rise l))
      step false e = refl

  known-dels : (dels : List Stamp) → list_all is_acked dels ≡ true → list_all (is_known_stamp n) dels ≡ true → list_all (has_occurred n conn) dels ≡ true
  known-dels [] h k = refl
  known-dels (Acked s c ∷ dels) h k =
      let p = both (nat_le s n) (list_all (is_known_stamp n) dels) k in
      rw (p.0, known-dels dels h p.1) refl
  known-dels (Local i ∷ dels) h k = absurd cc

  acked-dels : (dels : List Stamp) → list_all is_acked dels ≡ true → list_all (has_occurred_at_stage 0) dels ≡ true
  acked-dels [] h = refl
  acked-dels (Acked s c ∷ dels) h = acked-dels dels h
  acked-dels (Local i ∷ dels) h = absurd cc

  no-removal : (o : Option ℕ) → has_removal_of removes stages o ≡ true → list_any (has_occurred_at_stage 0) (removal_stamp o) ≡ false
  no-removal None h = refl
  no-removal (Some i) h = ap (λ b. b || false) (none-first removes i h)

  no-changes : (qs : List (ℕ × Changes)) → list_all (λ q. is_stage_of annotates stages q.0) qs ≡ true → pending_up_to 0 qs ≡ []
  no-changes [] h = refl
  no-changes (q ∷ qs) h =
      let p = both (is_stage_of annotates stages q.0) (list_all (λ q. is_stage_of annotates stages q.0) qs) h in
      rw (none-first annotates q.0 p.0) (no-changes qs p.1)

  start-image : (made : ℕ) (e : ListElement) → is_sequenced e ≡ true → has_marks_of inserts removes stages e ≡ true → is_known n e ≡ true
      → list_all (λ q. is_stage_of annotates stages q.0) e.pending ≡ true → Image n conn made 0 (carried_element e, without_pending e)
  start-image made e q h k c =
      let p = all_three (has_insertion_of inserts stages e.ins) (has_removal_of removes stages e.removal_stage) (list_all is_acked e.dels) h in
      let g = both (is_known_stamp n e.ins) (list_all (is_known_stamp n) e.dels) k in
      let now : seen 0 (carried_element e) ≡ has_none e.dels =
      carried-seen 0 e ∙ ap (λ b. b && not (list_any (has_occurred_at_stage 0) (e.dels ++ removal_stamp e.removal_stage))) (at_stage e.ins q)
      ∙ seen-by-test (has_occurred_at_stage 0) e.dels (removal_stamp e.removal_stage) (acked-dels e.dels p.2) (no-removal e.removal_stage p.1) in
      record {
        perspective = ap (λ b. b && not (list_any (has_occurred n conn) (e.dels ++ []))) (occurred e.ins q g.0)
            ∙ seen-by-test (has_occurred n conn) e.dels [] (known-dels e.dels p.2 g.1) refl ∙ sym now;
        unremoved = ap (λ b. b && not (list_any is_acked (e.dels ++ []))) q ∙ seen-by-test is_acked e.dels [] p.2 refl ∙ sym now;
        at_last = ap (λ b. b && not (list_any (has_occurred_at_stage 0) (e.dels ++ []))) (at_stage e.ins q)
            ∙ seen-by-test (has_occurred_at_stage 0) e.dels [] (acked-dels e.dels p.2) refl ∙ sym now;
        sequenced = q;
        content = content (list_any is_acked e.dels);
        bare = refl;
        props = λ _. props (list_any is_acked e.dels);
        old = λ _. sym (carried-id e);
        new = λ u. absurd (cc (u, ap is_acked (carried_element-ins e), q));
      }
    where
      at_stage : (s : Stamp) → is_acked s ≡ true → has_occurred_at_stage 0 s ≡ true
      at_stage (Acked s c) h = refl
      at_stage (Local i) h = absurd cc

      occurred : (s : Stamp) → is_acked s ≡ true → is_known_stamp n s ≡ true → has_occurred n conn s ≡ true
      occurred (Acked s c) h k = ap (λ b. b || nat_eq c conn) k
      occurred (Local i) h k = absurd cc

      content : (b : Bool) → e.content ≡ (cond b (without_pending e) e).content
      content true = refl
      content false = refl

      props : (b : Bool) → e.props ≡ shown_props (cond b (without_pending e) e).props (pending_up_to 0 (cond b (without_pending e) e).pending)
      props true = refl
      props false = sym (ap (shown_props e.props) (no-changes e.pending c))

  start-images : (made : ℕ) (xs : List ListElement) → list_all (has_marks_of inserts removes stages) xs ≡ true → list_all (is_known n) xs ≡ true
      → list_all (λ e. list_all (λ q. is_stage_of annotates stages q.0) e.pending) xs ≡ true
      → Each (Image n conn made 0) (started xs)
  start-images made [] h k c = tt
  start-images made (e ∷ xs) h k c =
      let p = both (has_marks_of inserts removes stages e) (list_all (has_marks_of inserts removes stages) xs) h in
      let q = both (is_known n e) (list_all (is_known n) xs) k in
      let r = both (list_all (λ q. is_stage_of annotates stages q.0) e.pending) (list_all (λ e. list_all (λ q. is_stage_of annotates stages q.0) e.pending) xs) c in
      step (is_sequenced e) refl p.0 q.0 r.0 (start-images made xs p.1 q.1 r.1)
    where
      step : (b : Bool) → is_sequenced e ≡ b → has_marks_of inserts removes stages e ≡ true → is_known n e ≡ true
          → list_all (λ q. is_stage_of annotates stages q.0) e.pending ≡ true → Each (Image n conn made 0) (started xs)
          → Each (Image n conn made 0) (cond b ((carried_element e, without_pending e) ∷ started xs) (started xs))
      step true s h k c g = (start-image made e s h k c, g)
      step false s h k c g = g

-- a list before its pending stages beside the one without what is pending
abbrev start : (inserts removes annotates : SubOperation → Bool) (n conn m : ℕ) (stages : List Stage) → StagesRiseTo 0 stages m → (list : Sequence)
    → IsReadyList inserts removes annotates n stages list
    → Beside n conn list.made 0 (stage_list list.items 0) (sequenced_elements list.items)
start inserts removes annotates n conn m stages rise list h = record {
  pairs = started list.items;
  left = started-left list.items;
  right = started-right list.items;
  images = start-images inserts removes annotates n conn m stages rise list.made list.items h.place.marks h.known h.changes;
}

-- ends on unremoved elements are on pairs
started-pair : (x : ElementId) (xs : List ListElement) → has_named is_unremoved xs x ≡ true → has_pair (started xs) x x ≡ true
started-pair x [] h = absurd cc
started-pair x (e ∷ xs) h = step (same_id x (id e)) (is_sequenced e) refl refl h (started-pair x xs)
  where
    or_true : (a b : Bool) → b ≡ true → a || b ≡ true
    or_true true b h = refl
    or_true false b h = h

    unsequenced : is_sequenced e ≡ false → is_unremoved e ≡ false
    unsequenced q = ap (λ b. b && not (list_any is_acked (e.dels ++ removal_stamp e.removal_stage))) q

    step : (a b : Bool) → same_id x (id e) ≡ a → is_sequenced e ≡ b → (a && is_unremoved e) || has_named is_unremoved xs x ≡ true
        → (has_named is_unremoved xs x ≡ true → has_pair (started xs) x x ≡ true)
        → has_pair (cond b ((carried_element e, without_pending e) ∷ started xs) (started xs)) x x ≡ true
    step true true p q h g = ap (λ i. (same_id x i && same_id x (id e)) || has_pair (started xs) x x) (carried-id e) ∙ ap (λ b. (b && b) || has_pair (started xs) x x) p
    step false true p q h g = or_true (same_id x (id (carried_element e)) && same_id x (id e)) (has_pair (started xs) x x) (g h)
    step true false p q h g = g (subst (λ b. b || has_named is_unremoved xs x ≡ true) (unsequenced q) h)
    step false false p q h g = g h

started-end : (xs : List ListElement) (x : Option ElementId) → is_end_on xs x ≡ true → IsEndPair (started xs) x x
started-end xs None h = tt
started-end xs (Some x) h = started-pair x xs h

started-intervals : (xs : List ListElement) (is : List Interval) → list_all (has_ends_on xs) is ≡ true → IntervalPairs (started xs) is is
started-intervals xs [] h = tt
started-intervals xs (i ∷ is) h =
    let p = both (has_ends_on xs i) (list_all (has_ends_on xs) is) h in
    let q = both (is_end_on xs i.start) (is_end_on xs i.end) p.0 in
    (record { label = refl; id = refl; props = refl; start = started-end xs i.start q.0; end = started-end xs i.end q.1 }, started-intervals xs is p.1)

changes-first : (annotates : SubOperation → Bool) (stages : List Stage) (xs : List ListElement)
    → list_all (λ e. list_all (λ q. is_stage_of annotates stages q.0) e.pending) xs ≡ true → list_all (left_changes annotates stages 0) xs ≡ true
changes-first annotates stages xs h =
    all-weaker (λ e. list_all (λ q. is_stage_of annotates stages q.0) e.pending) (left_changes annotates stages 0)
    (λ e k. all-weaker (λ q. is_stage_of annotates stages q.0) (λ q. nat_le q.0 0 || is_stage_of annotates stages q.0) (λ q g. or_true (nat_le q.0 0) _ g) e.pending k) xs h
  where
    or_true : (a b : Bool) → b ≡ true → a || b ≡ true
    or_true true b h = refl
    or_true false b h = h

left-start : (inserts removes : SubOperation → Bool) (stages : List Stage) (xs : List ListElement) → list_all (has_marks_of inserts removes stages) xs ≡ true
    → list_all (is_left inserts removes stages 0) xs ≡ true
left-start inserts removes stages xs h = all-weaker (has_marks_of inserts removes stages) (is_left inserts removes stages 0) (left-first inserts removes stages) xs h

module _ (x : NaiveClient) (conn : ℕ) (ready : IsReady x) where
  first-end : (i : Option ElementId) → is_end_on x.doc.text.items i ≡ true → is_end_at 0 x.doc.text.items i ≡ true
  first-end None k = refl
  first-end (Some i) k =
      named-weaker is_unremoved (seen 0) i x.doc.text.items
      (all-weaker (has_marks_of inserts_text removes_text (stages_of x)) (λ e. not (is_unremoved e) || seen 0 e)
      (unremoved-seen inserts_text removes_text (stages_of x) x.last_stage ready.stages x.doc.text ready.text.place) x.doc.text.items ready.text.place.marks) k

  first-ends : list_all (has_ends_at 0 x.doc.text.items) x.doc.intervals ≡ true
  first-ends =
      all-weaker (has_ends_on x.doc.text.items) (has_ends_at 0 x.doc.text.items)
      (λ i k. let p = both (is_end_on x.doc.text.items i.start) (is_end_on x.doc.text.items i.end) k in rw (first-end i.start p.0, first-end i.end p.1) refl)
      x.doc.intervals ready.ends

  -- before any stage
  pub reached-first : IsConsistent (sequenced_part x.doc) → Reached x conn ready (stages_of x) x.doc.intervals [] (sequenced_part x.doc)
  reached-first sound = record {
    level = 0;
    ahead = record {
      rise = ready.stages;
      text_left = left-start inserts_text removes_text (stages_of x) x.doc.text.items ready.text.place.marks;
      text_changes = changes-first annotates_text (stages_of x) x.doc.text.items ready.text.changes;
      rows_left = left-start (inserts_in Rows) (removes_in Rows) (stages_of x) x.doc.rows.items ready.rows.place.marks;
      rows_changes = changes-first no_kind (stages_of x) x.doc.rows.items ready.rows.changes;
      cols_left = left-start (inserts_in Cols) (removes_in Cols) (stages_of x) x.doc.cols.items ready.cols.place.marks;
      cols_changes = changes-first no_kind (stages_of x) x.doc.cols.items ready.cols.changes;
    };
    follows = record {
      text = start inserts_text removes_text annotates_text x.doc.number conn x.last_stage (stages_of x) ready.stages x.doc.text ready.text;
      rows = start (inserts_in Rows) (removes_in Rows) no_kind x.doc.number conn x.last_stage (stages_of x) ready.stages x.doc.rows ready.rows;
      cols = start (inserts_in Cols) (removes_in Cols) no_kind x.doc.number conn x.last_stage (stages_of x) ready.stages x.doc.cols ready.cols;
      sound = sound;
      text_made = omega arith;
      rows_made = omega arith;
      cols_made = omega arith;
      ends = first-ends;
      intervals = started-intervals x.doc.text.items x.doc.intervals ready.ends;
      log = [];
      logged = refl;
      cells = refl;
      entries = tt;
    };
  }
