-- Where ends settle goes by the views alone, so intervals are shown alike over two lists with the same views.
use Rattle.std.proofs.Common.{◌≡◌, ℕ, zero, suc, ◌+◌, ◌-◌, ◌<◌, ◌≤◌, Bool, true, false, cond, not, ◌&&◌, ◌||◌, inl, inr, List, [], ◌∷◌, ◌++◌, Option, Some, None, refl, sym, ◌∙◌, ap, subst, arith, filter, find, flat_map, map, nat_eq, nat_le, nat_lt, pos}
use Rattle.std.specs.List.{list_all, list_any}
use Rattle.std.specs.Option.{option_map, option_or}
use Rattle.std.proofs.lemmas.Bool.Decides.{nat_tests}
use Rattle.std.proofs.lemmas.Bool.{cases_lt}
use Rattle.ft_base.specs.declared.stamps.Stamp.{Stamp}
use Rattle.ft_base.specs.declared.stamps.Stamp.TheVariants.{Acked, Local}
use Rattle.ft_laws_agreement.specs.Sequencing.{are_ends_in}
use Rattle.ft_base.specs.Scan.{len, one_more_if, rank, settled_after}
use Rattle.ft_base.specs.Visibility.{has_occurred_at_stage, is_acked}
use Rattle.ft_base.proofs.Booleans.{all_three, both}
use Rattle.ft_op.specs.declared.operations.BaseOp.{BaseOp}
use Rattle.ft_op.specs.declared.operations.BaseOp.TheVariants.{Annotate, Insert, Remove}
use Rattle.ft_op.specs.declared.operations.TextOp.{TextOp}
use Rattle.ft_props.specs.Element.{ListElement, ElementId, ElementContent, has_id, id, removal_stamp, same_id, seen}
use Rattle.ft_props.specs.Steps.{carried_element, is_removed_by, lowered_runs, marked_runs_from, extended_runs}
use Rattle.ft_props.specs.Slide.{end_number, settle}
use Rattle.ft_op.specs.Operation.{OnGrid, OnIntervals, OnText, SubOperation, segment_contents}
use Rattle.ft_op.specs.Intervals.{Interval, NamedElements, after_interval_operation, ends_fit, settle_elements, settle_ends}
use Rattle.ft_op.specs.Document.{Document}
use Rattle.ft_op.specs.Pieces.{grid_pieces, text_pieces, unless_empty}
use Rattle.ft_op.specs.Stages.{Stage, intervals_after_stage, shown_intervals}
use Rattle.ft_msg.specs.Content.{interval_record}
use Rattle.ft_msg.specs.Reconnection.{carried_stage}
use Rattle.ft_laws_agreement.specs.Reconnecting.{StagesRiseTo, has_insertion_of, has_marks_of, has_removal_of, has_some, inserts_text, is_seen_or_next, is_stage_of, removes_text}
use Rattle.ft_laws_agreement.specs.Trimming.{are_distinct_elements}
use Rattle.ft_laws_agreement.proofs.CompactedScans.{is_held_end}
use Rattle.ft_laws_agreement.proofs.HeldNames.{settled-held}
use Rattle.ft_laws_agreement.proofs.OwnNames.{all-weaker, has_named, named-passes, other-named, own-named}
use Rattle.ft_laws_agreement.proofs.StageViews.{carried-id, rise-absent, seen-next}
use Rattle.ft_laws_agreement.proofs.TrimmedDocument.{has_held_ends, operation-held}
use Rattle.ft_laws_agreement.proofs.Booleans.{hidden}
use Rattle.ft_props.proofs.RebuiltList.{carried_element-ins, pred_suc, or_right}
use Rattle.ft_laws_agreement.proofs.SideBySideStages.{carried-seen}
use Rattle.ft_laws_agreement.proofs.SlidEnds.{same_id-eq}

-- ---- two lists with the same views up to stage m

pub record SameViews (m : ℕ) (xs ys : List ListElement) : Type 0 where
  pub view : (k : ℕ) → k ≤ m → filter (seen k) ys ≡ filter (seen k) xs
  pub next : (k : ℕ) → k < m → filter (is_seen_or_next k) ys ≡ filter (is_seen_or_next k) xs
  pub all : (P : ListElement → Bool) → ((e : ListElement) → P e ≡ true → P (carried_element e) ≡ true) → list_all P xs ≡ true → list_all P ys ≡ true

-- the elements that are meant are among those that are kept, and so are those that pass
module _ {A : Type 0} (is ok kept : A → Bool) (h : (x : A) → kept x ≡ false → ok x ≡ false) where
  find-filter : (xs : List A) → find ok (filter kept xs) ≡ find ok xs
  find-filter [] = refl
  find-filter (x ∷ xs) = grind (arith, find-filter xs, h x)

  settled-filter : (last : Option A) (xs : List A) → list_all (λ x. not (is x) || kept x) xs ≡ true → settled_after is ok last (filter kept xs) ≡ settled_after is ok last xs
  settled-filter last [] k = refl
  settled-filter last (x ∷ xs) k =
      let p = both (not (is x) || kept x) (list_all (λ y. not (is y) || kept y) xs) k in
      step (kept x) refl p.0 (settled-filter (cond (ok x) (Some x) last) xs p.1)
    where
      step : (b : Bool) → kept x ≡ b → not (is x) || kept x ≡ true → settled_after is ok (cond (ok x) (Some x) last) (filter kept xs)
          ≡ settled_after is ok (cond (ok x) (Some x) last) xs
          → settled_after is ok last (cond b (x ∷ filter kept xs) (filter kept xs)) ≡ settled_after is ok last (x ∷ xs)
      step true e k q = rw (find-filter xs, q) refl
      step false e k q = grind (arith, h x)

  pub rank-filter : (xs : List A) → list_all (λ x. not (is x) || kept x) xs ≡ true → rank is ok (filter kept xs) ≡ rank is ok xs
  rank-filter [] k = refl
  rank-filter (x ∷ xs) k =
      let p = both (not (is x) || kept x) (list_all (λ y. not (is y) || kept y) xs) k in
      step (kept x) refl p.0 (rank-filter xs p.1)
    where
      step : (b : Bool) → kept x ≡ b → not (is x) || kept x ≡ true → rank is ok (filter kept xs) ≡ rank is ok xs
          → rank is ok (cond b (x ∷ filter kept xs) (filter kept xs)) ≡ rank is ok (x ∷ xs)
      step true e k q = rw q refl
      step false e k q = grind (arith, h x)

-- ---- elements that a name means

de_morgan : (test : ListElement → Bool) (x : ElementId) (xs : List ListElement) → not (has_named (λ e. not (test e)) xs x) ≡ true
    → list_all (λ e. not (has_id x e) || test e) xs ≡ true
de_morgan test x [] h = refl
de_morgan test x (e ∷ xs) h = step (same_id x (id e)) (test e) h (de_morgan test x xs)
  where
    step : (a b : Bool) → not ((a && not b) || has_named (λ e. not (test e)) xs x) ≡ true
        → (not (has_named (λ e. not (test e)) xs x) ≡ true → list_all (λ e. not (has_id x e) || test e) xs ≡ true) → (not a || b)
        && list_all (λ e. not (has_id x e) || test e) xs ≡ true
    step true true h g = g h
    step true false h g = (cc)
    step false b h g = g h

-- where names are distinct, all that a name means pass if one does
pub only-named : (test : ListElement → Bool) (xs : List ListElement) → are_distinct_elements xs ≡ true → (x : ElementId) → has_named test xs x ≡ true
    → list_all (λ e. not (has_id x e) || test e) xs ≡ true
only-named test xs d x h =
    de_morgan test x xs
    (named-passes test (λ e. not (test e) || not (has_named (λ e. not (test e)) xs (id e))) (λ y. not (has_named (λ e. not (test e)) xs y))
    (λ e k t. second (test e) _ k t) x xs (other-named (λ e. not (test e)) xs d) h)
  where
    second : (a b : Bool) → not a || b ≡ true → a ≡ true → b ≡ true
    second true b h t = h
    second false b h t = (cc)

-- ---- ends at a stage

-- whether the end is detached or on an element seen at the stage
abbrev pub is_end_at : ℕ → List ListElement → Option ElementId → Bool
is_end_at k xs x = is_held_end (has_named (seen k) xs) x

abbrev pub has_ends_at : ℕ → List ListElement → Interval → Bool
has_ends_at k xs i = has_held_ends (has_named (seen k) xs) i

-- an end that settled is at the stage
pub settle-at : (k : ℕ) (xs : List ListElement) (x : Option ElementId) → is_end_at k xs (settle xs k x) ≡ true
settle-at k xs None = refl
settle-at k xs (Some x) = settled-held (λ e. not (seen k e)) (has_named (seen k) xs) (seen k) (λ e h. hidden (seen k e) h) (has_id x) None xs refl (own-named (seen k) xs)

-- an end at the stage settles where it is
pub stays : (ok : ListElement → Bool) (x : ElementId) (last : Option ListElement) (xs : List ListElement) → list_all (λ e. not (has_id x e) || ok e) xs ≡ true
    → has_named ok xs x ≡ true
    → option_map id (settled_after (has_id x) ok last xs) ≡ Some x
stays ok x last [] h k = (cc)
stays ok x last (e ∷ xs) h k =
    let p = both (not (has_id x e) || ok e) (list_all (λ e. not (has_id x e) || ok e) xs) h in
    step (same_id x (id e)) (ok e) refl p.0 k (stays ok x (cond (ok e) (Some e) last) xs p.1)
  where
    step : (a b : Bool) → same_id x (id e) ≡ a → not a || b ≡ true → (a && b) || has_named ok xs x ≡ true
        → (has_named ok xs x ≡ true → option_map id (settled_after (has_id x) ok (cond (ok e) (Some e) last) xs) ≡ Some x)
        → option_map id (cond a (option_or (cond b (Some e) (find ok xs)) last) (settled_after (has_id x) ok (cond (ok e) (Some e) last) xs)) ≡ Some x
    step true true a h k g = ap Some (sym (same_id-eq x (id e) a))
    step true false a h k g = (cc)
    step false b a h k g = g k

pub settle-stays : (k : ℕ) (xs : List ListElement) → are_distinct_elements xs ≡ true → (x : Option ElementId) → is_end_at k xs x ≡ true → settle xs k x ≡ x
settle-stays k xs d None h = refl
settle-stays k xs d (Some x) h = stays (seen k) x None xs (only-named (seen k) xs d x h) h

wider : (a b c : Bool) → (b ≡ true → c ≡ true) → not a || b ≡ true → not a || c ≡ true
wider false b c f h = refl
wider true b c f h = f h

module _ {m : ℕ} {xs ys : List ListElement} (v : SameViews m xs ys) (d : are_distinct_elements xs ≡ true) where
  carried-next : (x : ElementId) (k : ℕ) (e : ListElement) → not (has_id x e) || is_seen_or_next k e ≡ true → not (has_id x (carried_element e))
      || is_seen_or_next k (carried_element e) ≡ true
  carried-next x k e h = rw (carried-id e, carried-seen k e, carried_element-ins e) h

  -- an end on elements seen before or inserted by the stage settles alike
  settle-next : (k : ℕ) → k < m → (x : ElementId) → list_all (λ e. not (has_id x e) || is_seen_or_next k e) xs ≡ true → settle ys (suc k) (Some x) ≡ settle xs (suc k) (Some x)
  settle-next k l x h =
      ap (option_map id)
      (sym (settled-filter (has_id x) (seen (suc k)) (is_seen_or_next k) (seen-next k) None ys (v.all (λ e. not (has_id x e) || is_seen_or_next k e) (carried-next x k) h))
      ∙ ap (settled_after (has_id x) (seen (suc k)) None) (v.next k l)
      ∙ settled-filter (has_id x) (seen (suc k)) (is_seen_or_next k) (seen-next k) None xs h)

  or_left : (a b : Bool) → a ≡ true → a || b ≡ true
  or_left true b h = refl
  or_left false b h = (cc)

  -- an end at the stage before settles alike
  settle-same : (k : ℕ) → 0 < k → k ≤ m → (x : Option ElementId) → is_end_at (k - 1) xs x ≡ true → settle ys k x ≡ settle xs k x
  settle-same k p l None h = refl
  settle-same zero p l (Some x) h = absurd (omega arith)
  settle-same (suc k) p l (Some x) h =
      let g : has_named (seen k) xs x ≡ true = subst (λ i. has_named (seen i) xs x ≡ true) (pred_suc k) h in
      settle-next k (omega arith) x
      (all-weaker (λ e. not (has_id x e) || seen k e) (λ e. not (has_id x e) || is_seen_or_next k e)
      (λ e q. wider (has_id x e) (seen k e) (is_seen_or_next k e) (λ s. or_left (seen k e) _ s) q) xs (only-named (seen k) xs d x g))

  -- an end at the stage stays where it is in the other list
  pub stays-other : (k : ℕ) → 0 < k → k ≤ m → (x : Option ElementId) → is_end_at k xs x ≡ true → settle ys k x ≡ x
  stays-other k p l None h = refl
  stays-other zero p l (Some x) h = absurd (omega arith)
  stays-other (suc k) p l (Some x) h =
      settle-next k (omega arith) x
      (all-weaker (λ e. not (has_id x e) || seen (suc k) e) (λ e. not (has_id x e) || is_seen_or_next k e)
      (λ e q. wider (has_id x e) (seen (suc k) e) (is_seen_or_next k e) (λ s. turned (is_seen_or_next k e) refl e s) q) xs (only-named (seen (suc k)) xs d x h))
      ∙ settle-stays (suc k) xs d (Some x) h
    where
      turned : (b : Bool) {c : Bool} → b ≡ c → (e : ListElement) → seen (suc k) e ≡ true → is_seen_or_next k e ≡ true
      turned b q e s = step (is_seen_or_next k e) refl
        where
          step : (b : Bool) → is_seen_or_next k e ≡ b → b ≡ true
          step true h = refl
          step false h = cc (seen-next k e h)

  pub ends-same : (k : ℕ) → 0 < k → k ≤ m → (is : List Interval) → list_all (has_ends_at (k - 1) xs) is ≡ true → settle_ends ys k is ≡ settle_ends xs k is
  ends-same k p l [] h = refl
  ends-same k p l (i ∷ is) h =
      let q = both (has_ends_at (k - 1) xs i) (list_all (has_ends_at (k - 1) xs) is) h in
      let r = both (is_end_at (k - 1) xs i.start) (is_end_at (k - 1) xs i.end) q.0 in
      rw (settle-same k p l i.start r.0, settle-same k p l i.end r.1, ends-same k p l is q.1) refl

  -- ends at the stage stay where they are in the other list
  pub ends-other : (k : ℕ) → 0 < k → k ≤ m → (is : List Interval) → list_all (has_ends_at k xs) is ≡ true → settle_ends ys k is ≡ is
  ends-other k p l [] h = refl
  ends-other k p l (i ∷ is) h =
      let q = both (has_ends_at k xs i) (list_all (has_ends_at k xs) is) h in
      let r = both (is_end_at k xs i.start) (is_end_at k xs i.end) q.0 in
      rw (stays-other k p l i.start r.0, stays-other k p l i.end r.1, ends-other k p l is q.1) refl

  -- and has the same number
  pub number-same : (x : Option ElementId) → is_end_at m xs x ≡ true → end_number m ys x ≡ end_number m xs x
  number-same None h = refl
  number-same (Some x) h =
      let g = only-named (seen m) xs d x h in
      ap pos
      (sym (rank-filter (has_id x) (seen m) (seen m) (λ e q. q) ys (v.all (λ e. not (has_id x e) || seen m e) (λ e q. rw (carried-id e, carried-seen m e) q) g))
      ∙ ap (rank (has_id x) (seen m)) (v.view m (omega arith))
      ∙ rank-filter (has_id x) (seen m) (seen m) (λ e q. q) xs g)

  pub records-same : (is : List Interval) → list_all (has_ends_at m xs) is ≡ true → map (interval_record m ys) is ≡ map (interval_record m xs) is
  records-same [] h = refl
  records-same (i ∷ is) h =
      let q = both (has_ends_at m xs i) (list_all (has_ends_at m xs) is) h in
      let r = both (is_end_at m xs i.start) (is_end_at m xs i.end) q.0 in
      rw (number-same i.start r.0, number-same i.end r.1, records-same is q.1) refl

pub ends-at : (k : ℕ) (xs : List ListElement) (is : List Interval) → list_all (has_ends_at k xs) (settle_ends xs k is) ≡ true
ends-at k xs [] = refl
ends-at k xs (i ∷ is) = rw (settle-at k xs i.start, settle-at k xs i.end, ends-at k xs is) refl

pub ends-stay : (k : ℕ) (xs : List ListElement) → are_distinct_elements xs ≡ true → (is : List Interval) → list_all (has_ends_at k xs) is ≡ true → settle_ends xs k is ≡ is
ends-stay k xs d [] h = refl
ends-stay k xs d (i ∷ is) h =
    let q = both (has_ends_at k xs i) (list_all (has_ends_at k xs) is) h in
    let r = both (is_end_at k xs i.start) (is_end_at k xs i.end) q.0 in
    rw (settle-stays k xs d i.start r.0, settle-stays k xs d i.end r.1, ends-stay k xs d is q.1) refl

-- ---- between stages nothing changes

-- what is pending on the element is of a stage up to j, or of one of these stages
abbrev pub left_insertion : (SubOperation → Bool) → List Stage → ℕ → Stamp → Bool
left_insertion inserts stages j (Acked s c) = true
left_insertion inserts stages j (Local i) = nat_le i j || is_stage_of inserts stages i

abbrev pub left_removal : (SubOperation → Bool) → List Stage → ℕ → Option ℕ → Bool
left_removal removes stages j None = true
left_removal removes stages j (Some i) = nat_le i j || is_stage_of removes stages i

abbrev pub is_left : (SubOperation → Bool) → (SubOperation → Bool) → List Stage → ℕ → ListElement → Bool
is_left inserts removes stages j e = left_insertion inserts stages j e.ins && left_removal removes stages j e.removal_stage && list_all is_acked e.dels

module _ (inserts removes : SubOperation → Bool) where
  pub left-first : (stages : List Stage) (e : ListElement) → has_marks_of inserts removes stages e ≡ true → is_left inserts removes stages 0 e ≡ true
  left-first stages e h =
      let p = all_three (has_insertion_of inserts stages e.ins) (has_removal_of removes stages e.removal_stage) (list_all is_acked e.dels) h in
      rw (insertion e.ins p.0, removal e.removal_stage p.1, p.2) refl
    where
      insertion : (t : Stamp) → has_insertion_of inserts stages t ≡ true → left_insertion inserts stages 0 t ≡ true
      insertion (Acked s c) h = refl
      insertion (Local i) h = or_right (nat_le i 0) _ h

      removal : (o : Option ℕ) → has_removal_of removes stages o ≡ true → left_removal removes stages 0 o ≡ true
      removal None h = refl
      removal (Some i) h = or_right (nat_le i 0) _ h

  pub next-left : (kind : SubOperation → Bool) (i j k : ℕ) (b c : Bool) → j < k → nat_le i j || ((nat_eq k i && b) || c) ≡ true → nat_le i k || c ≡ true
  next-left kind i j k b c l h = step (nat_le i j) (nat_eq k i) (nat_le i k) refl refl refl h
    where
      step : (x y z : Bool) → nat_le i j ≡ x → nat_eq k i ≡ y → nat_le i k ≡ z → x || ((y && b) || c) ≡ true → z || c ≡ true
      step x y true p q r h = refl
      step true y false p q r h = absurd (grind (arith, nat_tests))
      step false true false p q r h = absurd (grind (arith, nat_tests))
      step false false false p q r h = h

  pub left-next : (t : Stage) (stages : List Stage) (j : ℕ) (e : ListElement) → j < t.stage → is_left inserts removes (t ∷ stages) j e ≡ true
      → is_left inserts removes stages t.stage e ≡ true
  left-next t stages j e l h =
      let p = all_three (left_insertion inserts (t ∷ stages) j e.ins) (left_removal removes (t ∷ stages) j e.removal_stage) (list_all is_acked e.dels) h in
      rw (insertion e.ins p.0, removal e.removal_stage p.1, p.2) refl
    where
      insertion : (s : Stamp) → left_insertion inserts (t ∷ stages) j s ≡ true → left_insertion inserts stages t.stage s ≡ true
      insertion (Acked s c) h = refl
      insertion (Local i) h = next-left inserts i j t.stage (inserts t.sub_operation) (is_stage_of inserts stages i) l h

      removal : (o : Option ℕ) → left_removal removes (t ∷ stages) j o ≡ true → left_removal removes stages t.stage o ≡ true
      removal None h = refl
      removal (Some i) h = next-left removes i j t.stage (removes t.sub_operation) (is_stage_of removes stages i) l h

  left-stage : (i j k : ℕ) (c : Bool) → j ≤ k → (i ≤ k → c ≡ false) → nat_le i j || c ≡ true → nat_le i k ≡ nat_le i j
  left-stage i j k c l f h = elim (cases_lt k i) [
    | inl b ↦ grind (arith, nat_tests)
    | inr b ↦ (let g : c ≡ false = f b in grind (arith, nat_tests))
  ]

  module _ (stages : List Stage) (j k m : ℕ) (l : j ≤ k) (rise : StagesRiseTo k stages m) where
    occurred-insertion : (s : Stamp) → left_insertion inserts stages j s ≡ true → has_occurred_at_stage k s ≡ has_occurred_at_stage j s
    occurred-insertion (Acked s c) h = refl
    occurred-insertion (Local i) h = left-stage i j k (is_stage_of inserts stages i) l (λ b. rise-absent [] inserts i k m stages rise b) h

    occurred-removal : (o : Option ℕ) → left_removal removes stages j o ≡ true → list_any (has_occurred_at_stage k) (removal_stamp o)
        ≡ list_any (has_occurred_at_stage j) (removal_stamp o)
    occurred-removal None h = refl
    occurred-removal (Some i) h = ap (λ b. b || false) (left-stage i j k (is_stage_of removes stages i) l (λ b. rise-absent [] removes i k m stages rise b) h)

    occurred-dels : (dels more : List Stamp) → list_all is_acked dels ≡ true → list_any (has_occurred_at_stage k) more ≡ list_any (has_occurred_at_stage j) more
        → list_any (has_occurred_at_stage k) (dels ++ more) ≡ list_any (has_occurred_at_stage j) (dels ++ more)
    occurred-dels [] more h g = g
    occurred-dels (Acked s c ∷ dels) more h g = refl
    occurred-dels (Local i ∷ dels) more h g = (cc)

    -- an element is seen as before where nothing of a stage in between is pending on it
    pub seen-same : (e : ListElement) → is_left inserts removes stages j e ≡ true → seen k e ≡ seen j e
    seen-same e h =
        let p = all_three (left_insertion inserts stages j e.ins) (left_removal removes stages j e.removal_stage) (list_all is_acked e.dels) h in
        rw (occurred-insertion e.ins p.0, occurred-dels e.dels (removal_stamp e.removal_stage) p.2 (occurred-removal e.removal_stage p.1)) refl

implied : (a b : Bool) → b ≡ a → not a || b ≡ true
implied true b h = h
implied false b h = refl

-- what is seen at stage j is seen at stage k
abbrev pub StillSeen : ℕ → ℕ → List ListElement → Type 0
StillSeen j k xs = list_all (λ e. not (seen j e) || seen k e) xs ≡ true

-- a test that each element passes which passes another is passed by an element of the name too
pub named-weaker : (P Q : ListElement → Bool) (x : ElementId) (xs : List ListElement) → list_all (λ e. not (P e) || Q e) xs ≡ true → has_named P xs x ≡ true
    → has_named Q xs x ≡ true
named-weaker P Q x [] h n = (cc)
named-weaker P Q x (e ∷ xs) h n =
    let p = both (not (P e) || Q e) (list_all (λ e. not (P e) || Q e) xs) h in
    step (same_id x (id e)) (P e) (Q e) p.0 n (named-weaker P Q x xs p.1)
  where
    step : (a b c : Bool) → not b || c ≡ true → (a && b) || has_named P xs x ≡ true → (has_named P xs x ≡ true → has_named Q xs x ≡ true) → (a && c) || has_named Q xs x ≡ true
    step true true true h n g = refl
    step true true false h n g = (cc)
    step true false c h n g = or_right c _ (g n)
    step false b c h n g = g n

still-end : (j k : ℕ) (xs : List ListElement) → StillSeen j k xs → (x : Option ElementId) → is_end_at j xs x ≡ true → is_end_at k xs x ≡ true
still-end j k xs h None n = refl
still-end j k xs h (Some x) n = named-weaker (seen j) (seen k) x xs h n

pub still-ends : (j k : ℕ) (xs : List ListElement) → StillSeen j k xs → (is : List Interval) → list_all (has_ends_at j xs) is ≡ true → list_all (has_ends_at k xs) is ≡ true
still-ends j k xs h is n =
    all-weaker (has_ends_at j xs) (has_ends_at k xs) (λ i q. let p = both (is_end_at j xs i.start) (is_end_at j xs i.end) q in rw
    (still-end j k xs h i.start p.0, still-end j k xs h i.end p.1) refl) is n

-- ---- a stage without a piece

-- a removal of that stage marks nothing that is seen
no_runs : (i : ℕ) (see is_marked : ListElement → Bool) (xs : List ListElement) → marked_runs_from i see is_marked xs ≡ [] → list_all (λ e. not (see e && is_marked e)) xs ≡ true
no_runs i see is_marked [] h = refl
no_runs i see is_marked (e ∷ xs) h = step (see e && is_marked e) (marked_runs_from (one_more_if (see e) i) see is_marked xs) h (no_runs (one_more_if (see e) i) see is_marked xs)
  where
    extended : (runs : List (ℕ × ℕ)) → extended_runs i runs ≡ [] → false ≡ true
    extended [] h = (cc)
    extended (r ∷ runs) h = chosen (nat_eq r.0 (i + 1)) r.0 r.1 h
      where
        chosen : (b : Bool) (x y : ℕ) → cond b ((i, y) ∷ runs) ((i, i + 1) ∷ (x, y) ∷ runs) ≡ [] → false ≡ true
        chosen true x y h = (cc)
        chosen false x y h = (cc)

    step : (b : Bool) (runs : List (ℕ × ℕ)) → cond b (extended_runs i runs) runs ≡ [] → (runs ≡ [] → list_all (λ e. not (see e && is_marked e)) xs ≡ true)
        → not b && list_all (λ e. not (see e && is_marked e)) xs ≡ true
    step true runs h g = extended runs h
    step false runs h g = g h

no_lowered : (d : ℕ) (runs : List (ℕ × ℕ)) → lowered_runs d runs ≡ [] → runs ≡ []
no_lowered d [] h = refl
no_lowered d (r ∷ runs) h = absurd cc

no_mapped : {A B : Type 0} (f : A → B) (xs : List A) → map f xs ≡ [] → xs ≡ []
no_mapped f [] h = refl
no_mapped f (x ∷ xs) h = absurd cc

module _ (inserts removes : SubOperation → Bool) (t : Stage) (stages : List Stage) (j m : ℕ) (l : j < t.stage) (rise : StagesRiseTo t.stage stages m) where
  never : (a b : Bool) → b ≡ false → a && b ≡ false
  never true b h = h
  never false b h = refl

  left-other : (i : ℕ) (a b c : Bool) → b ≡ false → nat_le i j || ((a && b) || c) ≡ true → nat_le i j || c ≡ true
  left-other i a b c e h = rw (never a b e) at h

  without-insertion : (s : Stamp) → inserts t.sub_operation ≡ false → left_insertion inserts (t ∷ stages) j s ≡ true → left_insertion inserts stages j s ≡ true
  without-insertion (Acked s c) e h = refl
  without-insertion (Local i) e h = left-other i (nat_eq t.stage i) (inserts t.sub_operation) (is_stage_of inserts stages i) e h

  without-removal : (o : Option ℕ) → removes t.sub_operation ≡ false → left_removal removes (t ∷ stages) j o ≡ true → left_removal removes stages j o ≡ true
  without-removal None e h = refl
  without-removal (Some i) e h = left-other i (nat_eq t.stage i) (removes t.sub_operation) (is_stage_of removes stages i) e h

  -- a stage of neither kind changes nothing that is seen
  pub still-seen-other : inserts t.sub_operation ≡ false → removes t.sub_operation ≡ false → (xs : List ListElement)
      → list_all (is_left inserts removes (t ∷ stages) j) xs ≡ true → StillSeen j t.stage xs
  still-seen-other a b xs h =
      all-weaker (is_left inserts removes (t ∷ stages) j) (λ e. not (seen j e) || seen t.stage e)
      (λ e q. let p = all_three (left_insertion inserts (t ∷ stages) j e.ins) (left_removal removes (t ∷ stages) j e.removal_stage) (list_all is_acked e.dels) q in
      implied (seen j e) (seen t.stage e) (seen-same inserts removes stages j t.stage m (omega arith) rise e
      (rw (without-insertion e.ins a p.0, without-removal e.removal_stage b p.1, p.2) refl))) xs h

  -- up to the stage before nothing changes
  pub still-seen-before : (xs : List ListElement) → list_all (is_left inserts removes (t ∷ stages) j) xs ≡ true → StillSeen j (t.stage - 1) xs
  still-seen-before xs h =
      all-weaker (is_left inserts removes (t ∷ stages) j) (λ e. not (seen j e) || seen (t.stage - 1) e)
      (λ e q. implied (seen j e) (seen (t.stage - 1) e) (seen-same inserts removes (t ∷ stages) j (t.stage - 1) m (omega arith) (omega arith, rise) e q)) xs h

  -- nor does a removal that marks nothing that is seen
  pub still-seen-removal : inserts t.sub_operation ≡ false → (xs : List ListElement) → list_all (is_left inserts removes (t ∷ stages) j) xs ≡ true
      → list_all (λ e. not (seen (t.stage - 1) e && is_removed_by t.stage e)) xs ≡ true → StillSeen j t.stage xs
  still-seen-removal a [] h k = refl
  still-seen-removal a (e ∷ xs) h k =
      let p = both (is_left inserts removes (t ∷ stages) j e) (list_all (is_left inserts removes (t ∷ stages) j) xs) h in
      let q = both (not (seen (t.stage - 1) e && is_removed_by t.stage e)) (list_all (λ e. not (seen (t.stage - 1) e && is_removed_by t.stage e)) xs) k in
      rw (here p.0 q.0, still-seen-removal a xs p.1 q.1) refl
    where
      unmarked : (o : Option ℕ) → list_any (λ s. elim s [ Acked s c ↦ false | Local i ↦ nat_eq i t.stage ]) (removal_stamp o) ≡ false
          → left_removal removes (t ∷ stages) j o ≡ true → left_removal removes stages j o ≡ true
      unmarked None n h = refl
      unmarked (Some i) n h = step (nat_eq i t.stage) (nat_eq t.stage i) (nat_le i j) refl refl n h
        where
          step : (x y z : Bool) → nat_eq i t.stage ≡ x → nat_eq t.stage i ≡ y → x || false ≡ false → z
              || ((y && removes t.sub_operation) || is_stage_of removes stages i) ≡ true → z || is_stage_of removes stages i ≡ true
          step true y z p q n h = (cc)
          step false true z p q n h = absurd (grind (arith, nat_tests))
          step false false z p q n h = h

      before : is_left inserts removes (t ∷ stages) j e ≡ true → seen (t.stage - 1) e ≡ seen j e
      before q = seen-same inserts removes (t ∷ stages) j (t.stage - 1) m (omega arith) (omega arith, rise) e q

      here : is_left inserts removes (t ∷ stages) j e ≡ true → not (seen (t.stage - 1) e && is_removed_by t.stage e) ≡ true → not (seen j e) || seen t.stage e ≡ true
      here p q = step (is_removed_by t.stage e) (seen (t.stage - 1) e) refl refl q
        where
          parts : (left_insertion inserts (t ∷ stages) j e.ins ≡ true) × (left_removal removes (t ∷ stages) j e.removal_stage ≡ true) × (list_all is_acked e.dels ≡ true)
          parts = all_three (left_insertion inserts (t ∷ stages) j e.ins) (left_removal removes (t ∷ stages) j e.removal_stage) (list_all is_acked e.dels) p

          step : (x y : Bool) → is_removed_by t.stage e ≡ x → seen (t.stage - 1) e ≡ y → not (y && x) ≡ true → not (seen j e) || seen t.stage e ≡ true
          step true true a b c = (cc)
          step true false a b c = rw (sym (before p) ∙ b) refl
          step false y u b c =
              implied (seen j e) (seen t.stage e) (seen-same inserts removes stages j t.stage m (omega arith) rise e
              (rw (without-insertion e.ins a parts.0, unmarked e.removal_stage u parts.1, parts.2) refl))

-- ---- the intervals after all stages

no_insertion : (bs : List ElementContent) (o : SubOperation) → unless_empty bs o ≡ [] → has_some bs ≡ false
no_insertion [] o h = refl
no_insertion (b ∷ bs) o h = absurd cc

module _ (doc : Document) (t : Stage) (stages : List Stage) (j m : ℕ) (l : j < t.stage) (rise : StagesRiseTo t.stage stages m)
    (left : list_all (is_left inserts_text removes_text (t ∷ stages) j) doc.text.items ≡ true) where
  still-seen-text : (op : BaseOp) → t.sub_operation ≡ OnText op → text_pieces t.stage doc.text.items op ≡ [] → StillSeen j t.stage doc.text.items
  still-seen-text (Insert p seg props) e h =
      still-seen-other inserts_text removes_text t stages j m l rise (ap inserts_text e ∙ no_insertion (segment_contents seg) _ h) (ap removes_text e) doc.text.items left
  still-seen-text (Remove p q) e h =
      still-seen-removal inserts_text removes_text t stages j m l rise (ap inserts_text e) doc.text.items left
      (no_runs 0 (seen (t.stage - 1)) (is_removed_by t.stage) doc.text.items (no_lowered 0 _ (no_mapped _ _ h)))
  still-seen-text (Annotate p q changes) e h = still-seen-other inserts_text removes_text t stages j m l rise (ap inserts_text e) (ap removes_text e) doc.text.items left

  still-seen-grid : inserts_text t.sub_operation ≡ false → removes_text t.sub_operation ≡ false → StillSeen j t.stage doc.text.items
  still-seen-grid a b = still-seen-other inserts_text removes_text t stages j m l rise a b doc.text.items left

module _ (doc : Document) (ys : List ListElement) (m : ℕ) (v : SameViews m doc.text.items ys) (d : are_distinct_elements doc.text.items ≡ true) where
  abbrev xs : List ListElement
  xs = doc.text.items

  rise-below : (j k : ℕ) (stages : List Stage) → StagesRiseTo j stages k → j ≤ k
  rise-below j k [] h = h
  rise-below j k (t ∷ stages) h =
      let b : j < t.stage = h.0 in
      let c : t.stage ≤ k = rise-below t.stage k stages h.1 in
      omega arith

  -- each end is at the last stage in the end
  pub shown-at : (stages : List Stage) (j : ℕ) (is : List Interval) → StagesRiseTo j stages m → list_all (is_left inserts_text removes_text stages j) xs ≡ true
      → list_all (has_ends_at j xs) is ≡ true
      → list_all (has_ends_at m xs) (shown_intervals xs is stages) ≡ true
  shown-at [] j is rise left h =
      still-ends j m xs
      (all-weaker (is_left inserts_text removes_text [] j) (λ e. not (seen j e) || seen m e)
      (λ e q. implied (seen j e) (seen m e) (seen-same inserts_text removes_text [] j m m rise (omega arith) e q)) xs left) is h
  shown-at (t ∷ stages) j is rise left h =
      let b : j < t.stage = rise.0 in
      shown-at stages t.stage (intervals_after_stage t.sub_operation (settle_elements xs t.stage t.names) (settle_ends xs t.stage is)) rise.1
      (all-weaker (is_left inserts_text removes_text (t ∷ stages) j) (is_left inserts_text removes_text stages t.stage)
      (λ e q. left-next inserts_text removes_text t stages j e b q) xs left)
      (after t.sub_operation)
    where
      after : (o : SubOperation) → list_all (has_ends_at t.stage xs) (intervals_after_stage o (settle_elements xs t.stage t.names) (settle_ends xs t.stage is)) ≡ true
      after (OnText op) = ends-at t.stage xs is
      after (OnGrid op) = ends-at t.stage xs is
      after (OnIntervals op) =
          operation-held (has_named (seen t.stage) xs) op (settle_elements xs t.stage t.names) (settle_ends xs t.stage is)
          (rw (settle-at t.stage xs t.names.first, settle-at t.stage xs t.names.second) refl) (ends-at t.stage xs is)

  names-same : (k : ℕ) → 0 < k → k ≤ m → (names : NamedElements) → settle_elements ys k (settle_elements xs k names) ≡ settle_elements xs k names
  names-same k p l names = rw (
    stays-other v d k p l (settle xs k names.first) (settle-at k xs names.first),
    stays-other v d k p l (settle xs k names.second)
        (settle-at k xs names.second),
  ) refl

  -- a stage shows the intervals alike, if the later ones do
  module _ (t : Stage) (stages : List Stage) (j : ℕ) (is : List Interval) (above : j < t.stage) (rise : StagesRiseTo t.stage stages m)
      (left : list_all (is_left inserts_text removes_text (t ∷ stages) j) xs ≡ true)
      (h : list_all (has_ends_at j xs) is ≡ true) (later : (js : List Interval) → list_all (has_ends_at t.stage xs) js ≡ true
      → shown_intervals ys js (flat_map (carried_stage doc) stages) ≡ shown_intervals xs js stages) where
    within_last : t.stage ≤ m
    within_last = rise-below t.stage m stages rise

    positive : 0 < t.stage
    positive = omega arith

    same-ends : settle_ends ys t.stage is ≡ settle_ends xs t.stage is
    same-ends = ends-same v d t.stage positive within_last is (still-ends j (t.stage - 1) xs (still-seen-before inserts_text removes_text t stages j m above rise xs left) is h)

    with_piece : shown_intervals ys (settle_ends ys t.stage is) (flat_map (carried_stage doc) stages) ≡ shown_intervals xs (settle_ends xs t.stage is) stages
    with_piece = ap (λ js. shown_intervals ys js (flat_map (carried_stage doc) stages)) same-ends ∙ later (settle_ends xs t.stage is) (ends-at t.stage xs is)

    without_piece : StillSeen j t.stage xs → shown_intervals ys is (flat_map (carried_stage doc) stages) ≡ shown_intervals xs (settle_ends xs t.stage is) stages
    without_piece s =
        let e = still-ends j t.stage xs s is h in
        later is e ∙ ap (λ js. shown_intervals xs js stages) (sym (ends-stay t.stage xs d is e))

    with_operation : (op : TextOp) → shown_intervals ys (after_interval_operation op (settle_elements ys t.stage (settle_elements xs t.stage t.names))
        (settle_ends ys t.stage is)) (flat_map (carried_stage doc) stages)
        ≡ shown_intervals xs (after_interval_operation op (settle_elements xs t.stage t.names) (settle_ends xs t.stage is)) stages
    with_operation op =
        ap (λ names. shown_intervals ys (after_interval_operation op names (settle_ends ys t.stage is)) (flat_map (carried_stage doc) stages))
        (names-same t.stage positive within_last t.names)
        ∙ ap (λ js. shown_intervals ys (after_interval_operation op (settle_elements xs t.stage t.names) js) (flat_map (carried_stage doc) stages)) same-ends
        ∙ later (after_interval_operation op (settle_elements xs t.stage t.names) (settle_ends xs t.stage is))
        (operation-held (has_named (seen t.stage) xs) op (settle_elements xs t.stage t.names) (settle_ends xs t.stage is)
        (rw (settle-at t.stage xs t.names.first, settle-at t.stage xs t.names.second) refl) (ends-at t.stage xs is))

    by_pieces : ((names : NamedElements) (js : List Interval) → intervals_after_stage t.sub_operation names js ≡ js) → (ps : List SubOperation) → (ps ≡ [] → StillSeen j t.stage xs)
        → shown_intervals ys is ((elim ps [ [] ↦ [] | _ ∷ _ ↦ t ∷ [] ]) ++ flat_map (carried_stage doc) stages) ≡ shown_intervals xs (settle_ends xs t.stage is) stages
    by_pieces n [] f = without_piece (f refl)
    by_pieces n (p ∷ ps) f = ap (λ js. shown_intervals ys js (flat_map (carried_stage doc) stages))
        (n (settle_elements ys t.stage t.names) (settle_ends ys t.stage is)) ∙ with_piece

  stage-same : (k : ℕ) (o : SubOperation) (names : NamedElements) (stages : List Stage) (j : ℕ) (is : List Interval) → j < k → StagesRiseTo k stages m
      → list_all (is_left inserts_text removes_text (record { stage = k; sub_operation = o; names = names } ∷ stages) j) xs ≡ true → list_all (has_ends_at j xs) is ≡ true
      → ((js : List Interval) → list_all (has_ends_at k xs) js ≡ true → shown_intervals ys js (flat_map (carried_stage doc) stages) ≡ shown_intervals xs js stages)
      → shown_intervals ys is (flat_map (carried_stage doc) (record { stage = k; sub_operation = o; names = names } ∷ stages))
      ≡ shown_intervals xs is (record { stage = k; sub_operation = o; names = names } ∷ stages)
  stage-same k (OnText op) names stages j is above rise left h later =
      let t : Stage = record { stage = k; sub_operation = OnText op; names = names } in
      by_pieces t stages j is above rise left h later (λ _ _. refl) (text_pieces k xs op) (λ e. still-seen-text doc t stages j m above rise left op refl e)
  stage-same k (OnGrid op) names stages j is above rise left h later =
      let t : Stage = record { stage = k; sub_operation = OnGrid op; names = names } in
      by_pieces t stages j is above rise left h later (λ _ _. refl) (grid_pieces k doc names op) (λ e. still-seen-grid doc t stages j m above rise left refl refl)
  stage-same k (OnIntervals op) names stages j is above rise left h later =
      let t : Stage = record { stage = k; sub_operation = OnIntervals op; names = names } in
      with_operation t stages j is above rise left h later op

  -- the intervals are shown alike, with the stages as they go on
  pub intervals-same : (stages : List Stage) (j : ℕ) (is : List Interval) → StagesRiseTo j stages m → list_all (is_left inserts_text removes_text stages j) xs
      ≡ true → list_all (has_ends_at j xs) is ≡ true
      → shown_intervals ys is (flat_map (carried_stage doc) stages) ≡ shown_intervals xs is stages
  intervals-same [] j is rise left h = refl
  intervals-same (t ∷ stages) j is rise left h =
      let b : j < t.stage = rise.0 in
      stage-same t.stage t.sub_operation t.names stages j is b rise.1 left h
      (λ js g. intervals-same stages t.stage js rise.1 (all-weaker (is_left inserts_text removes_text (t ∷ stages) j)
      (is_left inserts_text removes_text stages t.stage) (λ e q. left-next inserts_text removes_text t stages j e b q) xs left) g)

-- ---- settled ends of an operation fit

any-of-named : (test : ListElement → Bool) (x : ElementId) (xs : List ListElement) → has_named test xs x ≡ true → list_any test xs ≡ true
any-of-named test x [] h = absurd cc
any-of-named test x (e ∷ xs) h = step (same_id x (id e)) (test e) h (any-of-named test x xs)
  where
    step : (a b : Bool) → (a && b) || has_named test xs x ≡ true → (has_named test xs x ≡ true → list_any test xs ≡ true) → b || list_any test xs ≡ true
    step a true h g = refl
    step true false h g = g h
    step false false h g = g h

-- the elements of a name that pass are those of the name among the ones that pass
pub named-filter : (test : ListElement → Bool) (x : ElementId) (xs : List ListElement) → has_named test xs x ≡ list_any (has_id x) (filter test xs)
named-filter test x [] = refl
named-filter test x (e ∷ xs) = step (same_id x (id e)) (test e) refl (named-filter test x xs)
  where
    step : (a b : Bool) → same_id x (id e) ≡ a → has_named test xs x ≡ list_any (has_id x) (filter test xs) → (a && b) || has_named test xs x
        ≡ list_any (has_id x) (cond b (e ∷ filter test xs) (filter test xs))
    step true true p h = sym (ap (λ b. b || list_any (has_id x) (filter test xs)) p)
    step false true p h = h ∙ sym (ap (λ b. b || list_any (has_id x) (filter test xs)) p)
    step true false p h = h
    step false false p h = h

-- where nothing was found, nothing passes
record NoneFound (ok : ListElement → Bool) (last : Option ListElement) (xs : List ListElement) : Type 0 where
  nothing : last ≡ None
  none : list_any ok xs ≡ false

found-none : (ok : ListElement → Bool) (xs : List ListElement) (last : Option ListElement) → option_or (find ok xs) last ≡ None → NoneFound ok last xs
found-none ok [] last h = record { nothing = h; none = refl }
found-none ok (e ∷ xs) last h = step (ok e) refl h (found-none ok xs last)
  where
    step : (b : Bool) → ok e ≡ b → option_or (cond b (Some e) (find ok xs)) last ≡ None → (option_or (find ok xs) last ≡ None → NoneFound ok last xs) → NoneFound ok last (e ∷ xs)
    step true p h g = absurd cc
    step false p h g = let r = g h in record { nothing = r.nothing; none = ap (λ b. b || list_any ok xs) p ∙ r.none }

settled-none : (is ok : ListElement → Bool) (last : Option ListElement) (xs : List ListElement) → list_any is xs ≡ true → settled_after is ok last xs ≡ None → NoneFound ok last xs
settled-none is ok last [] h k = absurd cc
settled-none is ok last (e ∷ xs) h k = step (is e) (ok e) refl h k (settled-none is ok (cond (ok e) (Some e) last) xs)
  where
    step : (a b : Bool) → ok e ≡ b → a || list_any is xs ≡ true → cond a (option_or (find ok (e ∷ xs)) last) (settled_after is ok (cond (ok e) (Some e) last) xs) ≡ None
        → (list_any is xs ≡ true → settled_after is ok (cond (ok e) (Some e) last) xs ≡ None → NoneFound ok (cond (ok e) (Some e) last) xs) → NoneFound ok last (e ∷ xs)
    step true b p h k g = found-none ok (e ∷ xs) last k
    step false true p h k g = let r = g h k in absurd (cc (r.nothing, ap (λ b. cond b (Some e) last) p))
    step false false p h k g = let r = g h k in record { nothing = sym (ap (λ b. cond b (Some e) last) p) ∙ r.nothing; none = ap (λ b. b || list_any ok xs) p ∙ r.none }

unnamed : (o : Option ListElement) → option_map id o ≡ None → o ≡ None
unnamed None h = refl
unnamed (Some e) h = absurd cc

-- an element of the list settles nowhere only where nothing is seen
nowhere : (k : ℕ) (xs : List ListElement) (x y : ElementId) → list_any (has_id x) xs ≡ true → settle xs k (Some x) ≡ None → is_end_at k xs (Some y) ≡ true → false ≡ true
nowhere k xs x y h n e = cc ((settled-none (has_id x) (seen k) None xs h (unnamed _ n)).none, any-of-named (seen k) y xs e)

rank-below : (is ok : ListElement → Bool) (xs : List ListElement) → list_all (λ e. not (is e) || ok e) xs ≡ true → list_any is xs ≡ true → rank is ok xs < len ok xs
rank-below is ok [] h k = absurd cc
rank-below is ok (e ∷ xs) h k =
    let p = both (not (is e) || ok e) (list_all (λ e. not (is e) || ok e) xs) h in
    step (is e) (ok e) p.0 k (rank-below is ok xs p.1)
  where
    step : (a b : Bool) → not a || b ≡ true → a || list_any is xs ≡ true → (list_any is xs ≡ true → rank is ok xs < len ok xs)
        → cond a 0 (one_more_if b (rank is ok xs)) < one_more_if b (len ok xs)
    step true true h k g = omega arith
    step true false h k g = absurd cc
    step false true h k g = let r = g k in omega arith
    step false false h k g = g k

any-has_id : (test : ListElement → Bool) (x : ElementId) (xs : List ListElement) → has_named test xs x ≡ true → list_any (has_id x) xs ≡ true
any-has_id test x [] h = absurd cc
any-has_id test x (e ∷ xs) h = step (same_id x (id e)) h (any-has_id test x xs)
  where
    step : (a : Bool) → (a && test e) || has_named test xs x ≡ true → (has_named test xs x ≡ true → list_any (has_id x) xs ≡ true) → a || list_any (has_id x) xs ≡ true
    step true h g = refl
    step false h g = g h

end-place : (k : ℕ) (xs : List ListElement) → are_distinct_elements xs ≡ true → (x : ElementId) → has_named (seen k) xs x ≡ true
    → nat_lt (rank (has_id x) (seen k) xs) (len (seen k) xs) ≡ true
end-place k xs d x h = below (rank (has_id x) (seen k) xs) (len (seen k) xs) (rank-below (has_id x) (seen k) xs (only-named (seen k) xs d x h) (any-has_id (seen k) x xs h))
  where
    below : (p q : ℕ) → p < q → nat_lt p q ≡ true
    below p q l = grind (arith, nat_tests)

-- both ends of an operation fit where they settled
pub ends-fit : (k : ℕ) (xs : List ListElement) → are_distinct_elements xs ≡ true → (x y : Option ElementId) → are_ends_in xs x y ≡ true
    → ends_fit (len (seen k) xs) (record { start = end_number k xs (settle xs k x); end = end_number k xs (settle xs k y) }) ≡ true
ends-fit k xs d None None h = refl
ends-fit k xs d None (Some y) h = absurd cc
ends-fit k xs d (Some x) None h = absurd cc
ends-fit k xs d (Some x) (Some y) h =
    let p = both (list_any (has_id x) xs) (list_any (has_id y) xs) h in
    step (settle xs k (Some x)) (settle xs k (Some y)) refl refl (settle-at k xs (Some x)) (settle-at k xs (Some y)) p.0 p.1
  where
    step : (u v : Option ElementId) → settle xs k (Some x) ≡ u → settle xs k (Some y) ≡ v → is_end_at k xs (settle xs k (Some x)) ≡ true
        → is_end_at k xs (settle xs k (Some y)) ≡ true → list_any (has_id x) xs ≡ true → list_any (has_id y) xs ≡ true
        → ends_fit (len (seen k) xs) (record { start = end_number k xs u; end = end_number k xs v }) ≡ true
    step None None p q a b i j = refl
    step None (Some v) p q a b i j = absurd (cc (nowhere k xs x v i p (subst (λ o. is_end_at k xs o ≡ true) q b)))
    step (Some u) None p q a b i j = absurd (cc (nowhere k xs y u j q (subst (λ o. is_end_at k xs o ≡ true) p a)))
    step (Some u) (Some v) p q a b i j = rw (end-place k xs d u (subst (λ o. is_end_at k xs o ≡ true) p a), end-place k xs d v (subst (λ o. is_end_at k xs o ≡ true) q b)) refl
