-- When the elements of a stage stand side by side in its view, and that a client whose pending edits can be sequenced is in
-- order for a reconnection.
use Rattle.std.proofs.Common.{◌≡◌, ℕ, suc, Bool, true, false, cond, not, ◌&&◌, ◌||◌, List, [], ◌∷◌, ◌++◌, Option, Some, None, refl, sym, ◌∙◌, ap, arith, filter, append-nil, nat_eq}
use Rattle.std.specs.List.{list_all, list_any}
use Rattle.ft_base.specs.declared.stamps.Stamp.{Stamp}
use Rattle.ft_base.specs.declared.stamps.Stamp.TheVariants.{Acked, Local}
use Rattle.ft_base.specs.Scan.{no_run, one_more_if, put, rank}
use Rattle.ft_base.specs.Visibility.{is_acked}
use Rattle.ft_base.proofs.Booleans.{all_three, both}
use Rattle.ft_base.proofs.ScanLaws.{put_past-no_run}
use Rattle.ft_op.specs.declared.operations.Target.TheVariants.{Cols, Rows}
use Rattle.ft_props.specs.Element.{ListElement, seen}
use Rattle.ft_props.specs.Steps.{Sequence, is_inserted_by, stage_position}
use Rattle.ft_op.specs.Operation.{SubOperation}
use Rattle.ft_op.specs.Stages.{Stage}
use Rattle.ft_msg.specs.Client.{NaiveClient, stages_of}
use Rattle.ft_laws_agreement.specs.Reconnecting.{IsInPlace, IsOrderly, StagesRiseTo, StandSideBySide, any_kind, has_insertion_of, has_marks_of, has_removal_of, is_seen_or_next, is_stage_of}
use Rattle.ft_laws_agreement.specs.Sequencing.{IsReady, inserts_in, removes_in}
use Rattle.ft_laws_agreement.proofs.AfterOwnJoin.{all-side}
use Rattle.ft_laws_agreement.proofs.OwnNames.{all-weaker}
use Rattle.ft_laws_agreement.proofs.SettledEnds.{rank-filter}
use Rattle.ft_laws_agreement.proofs.StageViews.{filter-append, filter-none, filter-twice, put-nothing, unseen-before}
use Rattle.ft_props.proofs.RebuiltList.{pred_suc, or_left, or_right}

module _ {A : Type 0} (is see : A → Bool) where
  filter-whole : (test : A → Bool) (xs : List A) → list_all test xs ≡ true → filter test xs ≡ xs
  filter-whole test [] h = refl
  filter-whole test (x ∷ xs) h = let p = both (test x) (list_all test xs) h in rw p.0 (ap (λ us. x ∷ us) (filter-whole test xs p.1))

  -- elements that are meant stand side by side between seen ones: they are put in at their rank
  between : (front : List A) (x : A) (mid back : List A) → list_all see front ≡ true → list_any is front ≡ false → is x ≡ true
      → put see no_run (rank is see (front ++ (x ∷ (mid ++ back)))) (x ∷ mid) (front ++ back) ≡ front ++ (x ∷ (mid ++ back))
  between [] x mid back h k e = ap (λ b. put see no_run (cond b 0 (one_more_if (see x) (rank is see (mid ++ back)))) (x ∷ mid) back) e ∙ put_past-no_run (x ∷ mid) back
  between (f ∷ front) x mid back h k e =
      let p = both (see f) (list_all see front) h in
      step (is f) k p.0 (between front x mid back p.1)
    where
      step : (b : Bool) → b || list_any is front ≡ false → see f ≡ true → (list_any is front ≡ false → is x ≡ true
          → put see no_run (rank is see (front ++ (x ∷ (mid ++ back)))) (x ∷ mid) (front ++ back) ≡ front ++ (x ∷ (mid ++ back)))
          → put see no_run (cond b 0 (one_more_if (see f) (rank is see (front ++ (x ∷ (mid ++ back)))))) (x ∷ mid) (f ∷ (front ++ back)) ≡ f ∷ (front ++ (x ∷ (mid ++ back)))
      step true k s g = absurd cc
      step false k s g =
          ap (λ b. put see no_run (one_more_if b (rank is see (front ++ (x ∷ (mid ++ back))))) (x ∷ mid) (f ∷ (front ++ back))) s
          ∙ ap (λ b. f ∷ put see no_run (cond b (rank is see (front ++ (x ∷ (mid ++ back)))) (suc (rank is see (front ++ (x ∷ (mid ++ back)))))) (x ∷ mid) (front ++ back)) s
          ∙ ap (λ us. f ∷ us) (g k e)

  all-always : (test : A → Bool) → ((x : A) → test x ≡ true) → (xs : List A) → list_all test xs ≡ true
  all-always test h [] = refl
  all-always test h (x ∷ xs) = rw (h x, all-always test h xs) refl

-- it is enough that the elements of the stage stand next to each other among those that are seen before or inserted by it
pub side_by_side : (k : ℕ) (xs front mid back : List ListElement) → filter (is_seen_or_next k) xs ≡ front ++ (mid ++ back)
    → list_all (seen k) front ≡ true → list_any (is_inserted_by (suc k)) front ≡ false → list_all (is_inserted_by (suc k)) mid ≡ true → list_all (seen k) back
    ≡ true → list_any (is_inserted_by (suc k)) back ≡ false
    → StandSideBySide k xs
side_by_side k xs front mid back e sf nf am sb nb =
    let S = seen k in
    let I = is_inserted_by (suc k) in
    let T = is_seen_or_next k in
    let seen_ones : filter (seen k) xs ≡ front ++ back =
    sym (filter-twice (seen k) (is_seen_or_next k) (λ x h. or_left (seen k x) (is_inserted_by (suc k) x) h) xs) ∙ ap (filter (seen k)) e
    ∙ filter-append (seen k) front (mid ++ back) ∙ ap (λ us. us ++ filter (seen k) (mid ++ back)) (filter-whole S S (seen k) front sf)
    ∙ ap (λ us. front ++ us) (filter-append (seen k) mid back ∙ ap (λ us. us ++ filter (seen k) back) (filter-none (seen k) mid (none-seen mid am))
    ∙ filter-whole S S (seen k) back sb) in
    let block : filter (is_inserted_by (suc k)) xs ≡ mid =
    sym (filter-twice (is_inserted_by (suc k)) (is_seen_or_next k) (λ x h. second-false (seen k x) (is_inserted_by (suc k) x) h) xs) ∙ ap (filter (is_inserted_by (suc k))) e
    ∙ filter-append (is_inserted_by (suc k)) front (mid ++ back) ∙ ap (λ us. us ++ filter (is_inserted_by (suc k)) (mid ++ back)) (filter-none (is_inserted_by (suc k)) front nf)
    ∙ filter-append (is_inserted_by (suc k)) mid back ∙ ap (λ us. us ++ filter (is_inserted_by (suc k)) back) (filter-whole I I (is_inserted_by (suc k)) mid am)
    ∙ ap (λ us. mid ++ us) (filter-none (is_inserted_by (suc k)) back nb) ∙ append-nil mid in
    let position : stage_position (suc k) xs ≡ rank (is_inserted_by (suc k)) (seen k) (front ++ (mid ++ back)) =
    ap (λ i. rank (is_inserted_by (suc k)) (seen i) xs) (pred_suc k)
    ∙ sym (rank-filter (is_inserted_by (suc k)) (seen k) (is_seen_or_next k) (λ x h. or_left (seen k x) (is_inserted_by (suc k) x) h) xs
    (all-always I I (λ x. not (is_inserted_by (suc k) x) || is_seen_or_next k x) (λ x. implied (is_inserted_by (suc k) x) (seen k x)) xs))
    ∙ ap (rank (is_inserted_by (suc k)) (seen k)) e in
    rw (seen_ones, block, position) (e ∙ sym (placed mid am))
  where
    second-false : (a b : Bool) → a || b ≡ false → b ≡ false
    second-false true b h = absurd cc
    second-false false b h = h

    implied : (a b : Bool) → not a || (b || a) ≡ true
    implied true b = or_right b true refl
    implied false b = refl

    none-seen : (ys : List ListElement) → list_all (is_inserted_by (suc k)) ys ≡ true → list_any (seen k) ys ≡ false
    none-seen [] h = refl
    none-seen (y ∷ ys) h = let p = both (is_inserted_by (suc k) y) (list_all (is_inserted_by (suc k)) ys) h in rw (unseen-before (suc k) k y (omega arith) p.0) (none-seen ys p.1)

    placed : (ys : List ListElement) → list_all (is_inserted_by (suc k)) ys ≡ true
        → put (seen k) no_run (rank (is_inserted_by (suc k)) (seen k) (front ++ (ys ++ back))) ys (front ++ back) ≡ front ++ (ys ++ back)
    placed [] h = put-nothing (seen k) (rank (is_inserted_by (suc k)) (seen k) (front ++ back)) (front ++ back)
    placed (y ∷ ys) h = between (is_inserted_by (suc k)) (seen k) front y ys back sf nf (both (is_inserted_by (suc k) y) (list_all (is_inserted_by (suc k)) ys) h).0

-- ---- one premise for both laws

wider-stage : (kind : SubOperation → Bool) (stages : List Stage) (k : ℕ) → is_stage_of kind stages k ≡ true → is_stage_of any_kind stages k ≡ true
wider-stage kind [] k h = h
wider-stage kind (t ∷ stages) k h = step (nat_eq t.stage k) (kind t.sub_operation) h (wider-stage kind stages k)
  where
    step : (a b : Bool) → (a && b) || is_stage_of kind stages k ≡ true → (is_stage_of kind stages k ≡ true → is_stage_of any_kind stages k ≡ true)
        → (a && true) || is_stage_of any_kind stages k ≡ true
    step true b h g = refl
    step false b h g = g h

any-place : (inserts removes : SubOperation → Bool) (stages : List Stage) (m : ℕ) → StagesRiseTo 0 stages m → (list : Sequence)
    → IsInPlace inserts removes stages list → IsInPlace any_kind any_kind stages list
any-place inserts removes stages m rise list h = record {
  marks = all-weaker (has_marks_of inserts removes stages) (has_marks_of any_kind any_kind stages) wider list.items h.marks;
  side_by_side = λ k _. all-side inserts removes stages m rise list h k;
  distinct = h.distinct;
}
  where
    insertion : (s : Stamp) → has_insertion_of inserts stages s ≡ true → has_insertion_of any_kind stages s ≡ true
    insertion (Acked r c) h = refl
    insertion (Local i) h = wider-stage inserts stages i h

    removal : (o : Option ℕ) → has_removal_of removes stages o ≡ true → has_removal_of any_kind stages o ≡ true
    removal None h = refl
    removal (Some i) h = wider-stage removes stages i h

    wider : (e : ListElement) → has_marks_of inserts removes stages e ≡ true → has_marks_of any_kind any_kind stages e ≡ true
    wider e h =
        let p = all_three (has_insertion_of inserts stages e.ins) (has_removal_of removes stages e.removal_stage) (list_all is_acked e.dels) h in
        rw (insertion e.ins p.0, removal e.removal_stage p.1, p.2) refl

-- a client whose pending edits can be sequenced next is in order for a reconnection
pub ready-orderly : (x : NaiveClient) → IsReady x → IsOrderly x
ready-orderly x h = record {
  stages = h.stages;
  text = h.text.place;
  rows = any-place (inserts_in Rows) (removes_in Rows) (stages_of x) x.last_stage h.stages x.doc.rows h.rows.place;
  cols = any-place (inserts_in Cols) (removes_in Cols) (stages_of x) x.last_stage h.stages x.doc.cols h.cols.place;
  ends = h.ends;
  writes = h.writes;
}
