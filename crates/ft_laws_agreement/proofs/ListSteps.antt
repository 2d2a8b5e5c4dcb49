-- One list at its next stage: what each kind of stage makes of it, on the client's side and on the log's.
use Rattle.std.proofs.Common.{◌≡◌, ℕ, suc, ◌-◌, ◌<◌, ◌≤◌, Bool, true, false, cond, not, ◌&&◌, ◌||◌, List, [], ◌∷◌, ◌++◌, Option, Some, None, refl, sym, ◌∙◌, ap, subst, arith, filter, length, nat_eq, nat_le, nat_lt}
use Rattle.std.specs.List.{list_all, list_any}
use Rattle.std.proofs.lemmas.Bool.Decides.{nat_tests}
use Rattle.ft_base.specs.declared.stamps.Stamp.{Stamp}
use Rattle.ft_base.specs.declared.stamps.Stamp.TheVariants.{Acked, Local}
use Rattle.ft_base.specs.Scan.{len, one_more_if, rank}
use Rattle.ft_base.specs.Visibility.{has_occurred_at_stage, is_acked, is_of_stage}
use Rattle.ft_base.proofs.Booleans.{all_three, both}
use Rattle.ft_props.specs.declared.properties.Changes.{Changes}
use Rattle.ft_props.specs.Overlay.{StagesRise}
use Rattle.ft_props.specs.Properties.{PropertyList}
use Rattle.ft_props.specs.Element.{ElementContent, ListElement, removal_stamp, seen, seen_by, with_annotation, with_removal, without_pending}
use Rattle.ft_props.specs.Steps.{Sequence, after_insertion, carried_element, extended_runs, is_annotated_by, is_inserted_by, is_removed_by, lowered_runs, marked_runs, marked_runs_from, stage_position}
use Rattle.ft_op.specs.Operation.{SubOperation}
use Rattle.ft_op.specs.Stages.{Stage}
use Rattle.ft_laws_agreement.specs.Reconnecting.{StagesRiseTo}
use Rattle.ft_laws_agreement.specs.Sequencing.{has_none, is_marked_later, is_removed_after}
use Rattle.ft_laws_agreement.proofs.ListStages.{changes-added, changes-same, inserted-left, left_changes, list-next, list-same, not-annotated, not-removed, seen-before, seen-untouched}
use Rattle.ft_laws_agreement.proofs.PairedLists.{each-both, each-with, len-map}
use Rattle.ft_laws_agreement.proofs.RunsOfMarks.{Each, change_runs}
use Rattle.ft_laws_agreement.proofs.SequencedStages.{AnnotatedAt, Beside, Image, IsBlockOf, IsNew, Onward, RemovedAt, SameAt, beside-annotation, beside-insertion, beside-removal, beside-same, pending_up_to}
use Rattle.ft_laws_agreement.proofs.SettledEnds.{is_left, left_insertion, left_removal}
use Rattle.ft_laws_agreement.proofs.StageViews.{all-rebuilt, later-absent, stage_list}

pub each-all : {A : Type 0} (test : A → Bool) (xs : List A) → list_all test xs ≡ true → Each (λ x. test x ≡ true) xs
each-all test [] h = tt
each-all test (x ∷ xs) h = let p = both (test x) (list_all test xs) h in (p.0, each-all test xs p.1)

pub each-none : {A : Type 0} (test : A → Bool) (xs : List A) → list_any test xs ≡ false → Each (λ x. test x ≡ false) xs
each-none test [] h = tt
each-none test (x ∷ xs) h = step (test x) refl h (each-none test xs)
  where
    step : (b : Bool) → test x ≡ b → b || list_any test xs ≡ false → (list_any test xs ≡ false → Each (λ x. test x ≡ false) xs) → Each (λ x. test x ≡ false) (x ∷ xs)
    step true e h g = absurd cc
    step false e h g = (e, g h)

-- ---- runs and counts go by the view

runs-view : (i : ℕ) (see is_marked : ListElement → Bool) (xs : List ListElement) → marked_runs_from i see is_marked (filter see xs) ≡ marked_runs_from i see is_marked xs
runs-view i see is_marked [] = refl
runs-view i see is_marked (e ∷ xs) = step (see e) refl (runs-view (suc i) see is_marked xs) (runs-view i see is_marked xs)
  where
    step : (b : Bool) → see e ≡ b → marked_runs_from (suc i) see is_marked (filter see xs) ≡ marked_runs_from (suc i) see is_marked xs
        → marked_runs_from i see is_marked (filter see xs) ≡ marked_runs_from i see is_marked xs
        → marked_runs_from i see is_marked (cond b (e ∷ filter see xs) (filter see xs)) ≡ marked_runs_from i see is_marked (e ∷ xs)
    step true h p q =
        ap (λ b. cond (b && is_marked e) (extended_runs i (marked_runs_from (one_more_if b i) see is_marked (filter see xs)))
        (marked_runs_from (one_more_if b i) see is_marked (filter see xs))) h
        ∙ ap (λ rs. cond (is_marked e) (extended_runs i rs) rs) p
        ∙ sym (ap (λ b. cond (b && is_marked e) (extended_runs i (marked_runs_from (one_more_if b i) see is_marked xs)) (marked_runs_from (one_more_if b i) see is_marked xs)) h)
    step false h p q =
        q ∙ sym (ap (λ b. cond (b && is_marked e) (extended_runs i (marked_runs_from (one_more_if b i) see is_marked xs)) (marked_runs_from (one_more_if b i) see is_marked xs)) h)

pub len-view : (see : ListElement → Bool) (xs : List ListElement) → len see xs ≡ length (filter see xs)
len-view see [] = refl
len-view see (e ∷ xs) = step (see e) (len-view see xs)
  where
    step : (b : Bool) → len see xs ≡ length (filter see xs) → one_more_if b (len see xs) ≡ length (cond b (e ∷ filter see xs) (filter see xs))
    step true h = ap suc h
    step false h = h

rank-len : (is see : ListElement → Bool) (xs : List ListElement) → rank is see xs ≤ len see xs
rank-len is see [] = omega arith
rank-len is see (e ∷ xs) = step (is e) (see e) (rank-len is see xs)
  where
    step : (a b : Bool) → rank is see xs ≤ len see xs → cond a 0 (one_more_if b (rank is see xs)) ≤ one_more_if b (len see xs)
    step true b h = omega arith
    step false true h = omega arith
    step false false h = h

len-same : (see see' : ListElement → Bool) (xs : List ListElement) → Each (λ e. see e ≡ see' e) xs → len see xs ≡ len see' xs
len-same see see' [] h = refl
len-same see see' (e ∷ xs) h = rw (h.0, len-same see see' xs h.1) refl

module _ (inserts removes annotates : SubOperation → Bool) (t : Stage) (stages : List Stage) (j m : ℕ) (l : j < t.stage) (rise : StagesRiseTo t.stage stages m)
    (xs : List ListElement)
    (left : list_all (is_left inserts removes (t ∷ stages) j) xs ≡ true) (changes : list_all (left_changes annotates (t ∷ stages) j) xs ≡ true)
    (views : (i k : ℕ) → k ≤ i → filter (seen k) (stage_list xs i) ≡ filter (seen k) xs) where
  -- what is known of each element of the list up to the stage before
  record IsAhead (e : ListElement) : Type 0 where
    still : is_left inserts removes (t ∷ stages) j e ≡ true
    pending : left_changes annotates (t ∷ stages) j e ≡ true
    absent : is_inserted_by t.stage e ≡ false

  carried-left : (e : ListElement) → is_left inserts removes (t ∷ stages) j e ≡ true → is_left inserts removes (t ∷ stages) j (carried_element e) ≡ true
  carried-left e h = step (list_any is_acked e.dels)
    where
      step : (b : Bool) → is_left inserts removes (t ∷ stages) j (cond b (without_pending e) e) ≡ true
      step true =
          let p = all_three (left_insertion inserts (t ∷ stages) j e.ins) (left_removal removes (t ∷ stages) j e.removal_stage) (list_all is_acked e.dels) h in
          rw (p.0, p.2) refl
      step false = h

  carried-changes : (e : ListElement) → left_changes annotates (t ∷ stages) j e ≡ true → left_changes annotates (t ∷ stages) j (carried_element e) ≡ true
  carried-changes e h = step (list_any is_acked e.dels)
    where
      step : (b : Bool) → left_changes annotates (t ∷ stages) j (cond b (without_pending e) e) ≡ true
      step true = refl
      step false = h

  each-ahead : Each IsAhead (stage_list xs j)
  each-ahead =
      each-both (λ e. (is_left inserts removes (t ∷ stages) j e ≡ true) × (left_changes annotates (t ∷ stages) j e ≡ true))
      (λ e. is_inserted_by t.stage e ≡ false) IsAhead (λ e a b. record { still = a.0; pending = a.1; absent = b }) (stage_list xs j)
      (each-both (λ e. is_left inserts removes (t ∷ stages) j e ≡ true) (λ e. left_changes annotates (t ∷ stages) j e ≡ true)
      (λ e. (is_left inserts removes (t ∷ stages) j e ≡ true) × (left_changes annotates (t ∷ stages) j e ≡ true)) (λ e a b. (a, b)) (stage_list xs j)
      (each-all (is_left inserts removes (t ∷ stages) j) (stage_list xs j) (all-rebuilt xs (is_left inserts removes (t ∷ stages) j) carried-left left j))
      (each-all (left_changes annotates (t ∷ stages) j) (stage_list xs j) (all-rebuilt xs (left_changes annotates (t ∷ stages) j) carried-changes changes j)))
      (each-none (is_inserted_by t.stage) (stage_list xs j) (later-absent xs j t.stage l))

  before : (e : ListElement) → IsAhead e → seen (t.stage - 1) e ≡ seen j e
  before e a = seen-before inserts removes annotates t stages j m l rise e a.still

  -- as many are seen before the stage on the client's side
  len-before : len (seen j) (stage_list xs j) ≡ len (seen (t.stage - 1)) xs
  len-before =
      len-view (seen j) (stage_list xs j) ∙ ap length (views j j (omega arith)) ∙ sym (len-view (seen j) xs)
      ∙ sym (len-same (seen (t.stage - 1)) (seen j) xs (each-with (λ e. is_left inserts removes (t ∷ stages) j e ≡ true) (λ e. seen (t.stage - 1) e ≡ seen j e)
      (λ e h. seen-before inserts removes annotates t stages j m l rise e h) xs (each-all (is_left inserts removes (t ∷ stages) j) xs left)))

  -- a stage that touches nothing changes nothing that is seen
  pub same-view : inserts t.sub_operation ≡ false → removes t.sub_operation ≡ false → Each (λ e. seen (t.stage - 1) e ≡ seen t.stage e) xs
  same-view i r =
      each-both (λ e. is_left inserts removes (t ∷ stages) j e ≡ true) (λ e. is_inserted_by t.stage e ≡ false) (λ e. seen (t.stage - 1) e ≡ seen t.stage e)
      (λ e h a. seen-before inserts removes annotates t stages j m l rise e h
      ∙ sym (seen-untouched inserts removes annotates t stages j m l rise e h a (not-removed inserts removes annotates t stages j m l rise r e h))) xs
      (each-all (is_left inserts removes (t ∷ stages) j) xs left)
      (each-none (is_inserted_by t.stage) xs (inserted-left inserts removes annotates t stages j m l rise xs left t.stage l (omega arith)
      (rw (i, none (nat_eq t.stage t.stage)) refl)))
    where
      none : (b : Bool) → b && false ≡ false
      none true = refl
      none false = refl

  module _ (n conn made : ℕ) where
    -- as many as on the log's side
    pub len-beside : (ds : List ListElement) → Beside n conn made j (stage_list xs j) ds → len (seen_by n conn) ds ≡ len (seen (t.stage - 1)) xs
    len-beside ds b =
        ap (len (seen_by n conn)) (sym b.right)
        ∙ len-map (λ p. p.1) (λ p. seen j p.0) (seen_by n conn) b.pairs (each-with (Image n conn made j) (λ p. seen_by n conn p.1 ≡ seen j p.0)
        (λ p i. i.perspective) b.pairs b.images)
        ∙ sym (len-map (λ p. p.0) (λ p. seen j p.0) (seen j) b.pairs (each-with (Image n conn made j) (λ p. seen j p.0 ≡ seen j p.0) (λ p i. refl) b.pairs b.images))
        ∙ ap (len (seen j)) b.left
        ∙ len-before

    -- so the place of an insertion is in range
    pub place-fits : (ds : List ListElement) → Beside n conn made j (stage_list xs j) ds → nat_le (stage_position t.stage xs) (len (seen_by n conn) ds) ≡ true
    place-fits ds b = fits (stage_position t.stage xs) (len (seen_by n conn) ds)
        (let h : stage_position t.stage xs ≤ len (seen (t.stage - 1)) xs = rank-len (is_inserted_by t.stage) (seen (t.stage - 1)) xs in let e = len-beside ds b in omega arith)
      where
        fits : (p q : ℕ) → p ≤ q → nat_le p q ≡ true
        fits p q h = grind (arith, nat_tests)

    same-ahead : removes t.sub_operation ≡ false → annotates t.sub_operation ≡ false → (e : ListElement) → IsAhead e → SameAt n conn made j t.stage e
    same-ahead r c e a = record {
      view = seen-untouched inserts removes annotates t stages j m l rise e a.still a.absent (not-removed inserts removes annotates t stages j m l rise r e a.still);
      pending = changes-same inserts removes annotates t stages j m l rise e a.pending (not-annotated inserts removes annotates t stages j m l rise c e a.pending);
    }

    -- a stage of none of these kinds
    pub untouched : inserts t.sub_operation ≡ false → removes t.sub_operation ≡ false → annotates t.sub_operation ≡ false
        → (ds : List ListElement) (b : Beside n conn made j (stage_list xs j) ds) → Onward n conn made j t.stage b (stage_list xs t.stage) ds
    untouched i r c ds b =
        subst (λ us. Onward n conn made j t.stage b us ds) (sym (list-same inserts removes annotates t stages j m l rise i xs left))
        (beside-same n conn made j t.stage (each-with IsAhead (SameAt n conn made j t.stage) (same-ahead r c) (stage_list xs j) each-ahead) b)

    new-element : (e : ListElement) → is_inserted_by t.stage e ≡ true → is_marked_later e ≡ true → IsNew n conn made t.stage e
    new-element e h k = by_stamp e.ins refl h k
      where
        own : (k : ℕ) → nat_le k k ≡ true
        own k = grind (arith, nat_tests)

        no_removal : (dels : List Stamp) → has_none dels ≡ true → dels ≡ []
        no_removal [] h = refl
        no_removal (s ∷ dels) h = absurd cc

        after : (k : ℕ) (o : Option ℕ) → is_removed_after k o ≡ true → list_any (has_occurred_at_stage k) (removal_stamp o) ≡ false
        after k None h = refl
        after k (Some i) h = ap (λ b. b || false) (apart h)
          where
            apart : nat_lt k i ≡ true → nat_le i k ≡ false
            apart h = grind (arith, nat_tests)

        none : (k : ℕ) (qs : List (ℕ × Changes)) → list_all (λ q. nat_lt k q.0) qs ≡ true → pending_up_to k qs ≡ []
        none k [] h = refl
        none k (q ∷ qs) h =
            let p = both (nat_lt k q.0) (list_all (λ q. nat_lt k q.0) qs) h in
            rw (apart q.0 p.0) (none k qs p.1)
          where
            apart : (i : ℕ) → nat_lt k i ≡ true → nat_le i k ≡ false
            apart i h = grind (arith, nat_tests)

        by_stamp : (s : Stamp) → e.ins ≡ s → is_of_stage t.stage s ≡ true → (elim s
            [ Acked r c ↦ true | Local i ↦ has_none e.dels && is_removed_after i e.removal_stage && list_all (λ q. nat_lt i q.0) e.pending ]) ≡ true → IsNew n conn made t.stage e
        by_stamp (Acked r c) q h k = absurd cc
        by_stamp (Local i) q h k =
            let same : i ≡ t.stage = grind (arith, nat_tests) in
            let k' = subst (λ z. has_none e.dels && is_removed_after z e.removal_stage && list_all (λ q. nat_lt z q.0) e.pending ≡ true) same k in
            let p = all_three (has_none e.dels) (is_removed_after t.stage e.removal_stage) (list_all (λ q. nat_lt t.stage q.0) e.pending) k' in
            let ins : e.ins ≡ Local t.stage = q ∙ ap (λ z. Local z) same in
            record {
              view = ap (λ s. has_occurred_at_stage t.stage s && not (list_any (has_occurred_at_stage t.stage) (e.dels ++ removal_stamp e.removal_stage))) ins
                  ∙ ap (λ b. b && not (list_any (has_occurred_at_stage t.stage) (e.dels ++ removal_stamp e.removal_stage))) (own t.stage)
                  ∙ ap (λ ds. not (list_any (has_occurred_at_stage t.stage) (ds ++ removal_stamp e.removal_stage))) (no_removal e.dels p.0)
                  ∙ ap not (after t.stage e.removal_stage p.1);
              pending = none t.stage e.pending p.2;
              own = ap is_acked ins;
            }

    block-new : (ys : List ListElement) → list_all is_marked_later ys ≡ true → Each (IsNew n conn made t.stage) (filter (is_inserted_by t.stage) ys)
    block-new [] h = tt
    block-new (e ∷ ys) h =
        let p = both (is_marked_later e) (list_all is_marked_later ys) h in
        step (is_inserted_by t.stage e) refl p.0 (block-new ys p.1)
      where
        step : (b : Bool) → is_inserted_by t.stage e ≡ b → is_marked_later e ≡ true → Each (IsNew n conn made t.stage) (filter (is_inserted_by t.stage) ys)
            → Each (IsNew n conn made t.stage) (cond b (e ∷ filter (is_inserted_by t.stage) ys) (filter (is_inserted_by t.stage) ys))
        step true q h g = (new-element e q h, g)
        step false q h g = g

    -- a stage that inserts
    pub inserted : removes t.sub_operation ≡ false → annotates t.sub_operation ≡ false → list_all is_marked_later xs ≡ true
        → (s : ℕ) (by : Option Stamp) (props : PropertyList) (bs : List ElementContent) → IsBlockOf props bs (filter (is_inserted_by t.stage) xs)
        → (list : Sequence) → made ≤ list.made → (b : Beside n conn made j (stage_list xs j) list.items)
        → Onward n conn made j t.stage b (stage_list xs t.stage) (after_insertion s conn n (stage_position t.stage xs) by props bs list).items
    inserted r c later s by props bs isblock list more b =
        subst (λ us. Onward n conn made j t.stage b us (after_insertion s conn n (stage_position t.stage xs) by props bs list).items)
        (list-next inserts removes annotates t stages j m l rise xs left)
        (beside-insertion n conn made j t.stage s (stage_position t.stage xs) by props bs (filter (is_inserted_by t.stage) xs) (stage_list xs j) list
        (each-with IsAhead (SameAt n conn made j t.stage) (same-ahead r c) (stage_list xs j) each-ahead)
        (each-with IsAhead (λ e. seen (t.stage - 1) e ≡ seen j e) before (stage_list xs j) each-ahead) more isblock (block-new xs later) b)

    -- the runs of a stage are the same in the list up to it
    runs-same : inserts t.sub_operation ≡ false → (is_marked : ListElement → Bool) → marked_runs_from 0 (seen (t.stage - 1)) is_marked (stage_list xs j)
        ≡ marked_runs t.stage is_marked xs
    runs-same i is_marked =
        sym (runs-view 0 (seen (t.stage - 1)) is_marked (stage_list xs j))
        ∙ ap (marked_runs_from 0 (seen (t.stage - 1)) is_marked) (ap (filter (seen (t.stage - 1)))
        (sym (list-same inserts removes annotates t stages j m l rise i xs left)) ∙ views t.stage (t.stage - 1) (omega arith))
        ∙ runs-view 0 (seen (t.stage - 1)) is_marked xs

    -- a stage that removes
    pub removed : inserts t.sub_operation ≡ false → annotates t.sub_operation ≡ false → (s : ℕ) (ds : List ListElement) (b : Beside n conn made j (stage_list xs j) ds)
        → Onward n conn made j t.stage b (stage_list xs t.stage) (change_runs (seen_by n conn) (with_removal s conn)
        (lowered_runs 0 (marked_runs t.stage (is_removed_by t.stage) xs)) ds)
    removed i c s ds b =
        subst (λ us. Onward n conn made j t.stage b us (change_runs (seen_by n conn) (with_removal s conn)
        (lowered_runs 0 (marked_runs t.stage (is_removed_by t.stage) xs)) ds)) (sym (list-same inserts removes annotates t stages j m l rise i xs left))
        (subst (λ rs. Onward n conn made j t.stage b (stage_list xs j) (change_runs (seen_by n conn) (with_removal s conn) (lowered_runs 0 rs) ds))
        (runs-same i (is_removed_by t.stage))
        (beside-removal n conn made j t.stage s (stage_list xs j) ds
        (each-with IsAhead (RemovedAt n conn made j t.stage) (λ e a. record {
          before = before e a;
          view = λ q. seen-untouched inserts removes annotates t stages j m l rise e a.still a.absent q;
          pending = changes-same inserts removes annotates t stages j m l rise e a.pending (not-annotated inserts removes annotates t stages j m l rise c e a.pending);
        }) (stage_list xs j) each-ahead) b))

    -- a stage that annotates
    pub annotated : inserts t.sub_operation ≡ false → removes t.sub_operation ≡ false → (c : Changes)
        → Each (λ e. StagesRise e.pending × Each (λ q. nat_eq q.0 t.stage ≡ true → q.1 ≡ c) e.pending) (stage_list xs j)
        → (ds : List ListElement) (b : Beside n conn made j (stage_list xs j) ds)
        → Onward n conn made j t.stage b (stage_list xs t.stage) (change_runs (seen_by n conn) (with_annotation c) (marked_runs t.stage (is_annotated_by t.stage) xs) ds)
    annotated i r c typed ds b =
        subst (λ us. Onward n conn made j t.stage b us (change_runs (seen_by n conn) (with_annotation c) (marked_runs t.stage (is_annotated_by t.stage) xs)
        ds)) (sym (list-same inserts removes annotates t stages j m l rise i xs left))
        (subst (λ rs. Onward n conn made j t.stage b (stage_list xs j) (change_runs (seen_by n conn) (with_annotation c) rs ds)) (runs-same i (is_annotated_by t.stage))
        (beside-annotation n conn made j t.stage c (stage_list xs j) ds
        (each-both IsAhead (λ e. StagesRise e.pending × Each (λ q. nat_eq q.0 t.stage ≡ true → q.1 ≡ c) e.pending) (AnnotatedAt n conn made j t.stage c) (λ e a u. record {
          before = before e a;
          view = seen-untouched inserts removes annotates t stages j m l rise e a.still a.absent (not-removed inserts removes annotates t stages j m l rise r e a.still);
          others = λ q. changes-same inserts removes annotates t stages j m l rise e a.pending q;
          changed = λ q. changes-added inserts removes annotates t stages j m l rise c e.pending u.0 a.pending u.1 q;
        }) (stage_list xs j) each-ahead typed) b))
