-- What is known of each element of a client's list at its next pending stage.
use Rattle.std.proofs.Common.{◌≡◌, ℕ, ◌-◌, ◌<◌, ◌≤◌, Bool, true, false, not, ◌&&◌, ◌||◌, inl, inr, List, [], ◌∷◌, ◌++◌, Option, Some, None, refl, sym, ◌∙◌, ap, subst, arith, filter, nat_eq, nat_le}
use Rattle.std.specs.List.{list_all, list_any}
use Rattle.std.proofs.lemmas.Bool.Decides.{nat_tests}
use Rattle.std.proofs.lemmas.Bool.{cases_lt}
use Rattle.ft_base.specs.declared.stamps.Stamp.{Stamp}
use Rattle.ft_base.specs.declared.stamps.Stamp.TheVariants.{Acked, Local}
use Rattle.ft_base.specs.Scan.{no_run, put}
use Rattle.ft_base.specs.Visibility.{has_occurred_at_stage, is_acked, is_of_stage}
use Rattle.ft_base.proofs.Booleans.{all_three, both}
use Rattle.ft_props.specs.declared.properties.Changes.{Changes}
use Rattle.ft_props.specs.Element.{ListElement, removal_stamp, seen}
use Rattle.ft_props.specs.Overlay.{IsBelowStages, StagesRise}
use Rattle.ft_props.specs.Steps.{is_annotated_by, is_inserted_by, is_removed_by, stage_position}
use Rattle.ft_op.specs.Operation.{SubOperation}
use Rattle.ft_op.specs.Stages.{Stage}
use Rattle.ft_laws_agreement.specs.Reconnecting.{StagesRiseTo, is_stage_of}
use Rattle.ft_laws_agreement.proofs.SettledEnds.{is_left, left_insertion, left_removal, seen-same, StillSeen}
use Rattle.ft_laws_agreement.proofs.StageViews.{filter-none, put-nothing, put_stages-all, rise-absent, stage_list}
use Rattle.ft_laws_agreement.proofs.RunsOfMarks.{Each}
use Rattle.ft_laws_agreement.proofs.SequencedStages.{pending_up_to}
use Rattle.ft_laws_agreement.proofs.OwnNames.{all-weaker, none-passes}

-- the changes are of a stage up to j, or of one of these stages
abbrev pub left_change : (SubOperation → Bool) → List Stage → ℕ → (ℕ × Changes) → Bool
left_change annotates stages j q = nat_le q.0 j || is_stage_of annotates stages q.0

abbrev pub left_changes : (SubOperation → Bool) → List Stage → ℕ → ListElement → Bool
left_changes annotates stages j e = list_all (left_change annotates stages j) e.pending

module _ (inserts removes annotates : SubOperation → Bool) (t : Stage) (stages : List Stage) (j m : ℕ) (l : j < t.stage) (rise : StagesRiseTo t.stage stages m) where
  other-stage : (kind : SubOperation → Bool) (i : ℕ) → nat_eq i t.stage ≡ false → nat_le i j || is_stage_of kind (t ∷ stages) i ≡ true → nat_le i j
      || is_stage_of kind stages i ≡ true
  other-stage kind i h g = step (nat_eq t.stage i) refl g
    where
      step : (b : Bool) → nat_eq t.stage i ≡ b → nat_le i j || ((b && kind t.sub_operation) || is_stage_of kind stages i) ≡ true → nat_le i j || is_stage_of kind stages i ≡ true
      step true e k = absurd (grind (arith, nat_tests))
      step false e k = k

  -- an element that the stage neither inserts nor removes is seen as before
  pub seen-untouched : (e : ListElement) → is_left inserts removes (t ∷ stages) j e ≡ true → is_inserted_by t.stage e ≡ false → is_removed_by t.stage e ≡ false
      → seen t.stage e ≡ seen j e
  seen-untouched e h a b =
      let p = all_three (left_insertion inserts (t ∷ stages) j e.ins) (left_removal removes (t ∷ stages) j e.removal_stage) (list_all is_acked e.dels) h in
      seen-same inserts removes stages j t.stage m (omega arith) rise e (rw (insertion e.ins a p.0, removal e.removal_stage b p.1, p.2) refl)
    where
      insertion : (s : Stamp) → is_of_stage t.stage s ≡ false → left_insertion inserts (t ∷ stages) j s ≡ true → left_insertion inserts stages j s ≡ true
      insertion (Acked s c) a h = refl
      insertion (Local i) a h = other-stage inserts i a h

      first : (b : Bool) → b || false ≡ false → b ≡ false
      first true h = (cc)
      first false h = refl

      removal : (o : Option ℕ) → list_any (is_of_stage t.stage) (removal_stamp o) ≡ false → left_removal removes (t ∷ stages) j o ≡ true → left_removal removes stages j o ≡ true
      removal None b h = refl
      removal (Some i) b h = other-stage removes i (first (nat_eq i t.stage) b) h

  -- up to the stage before each element is seen as before
  pub seen-before : (e : ListElement) → is_left inserts removes (t ∷ stages) j e ≡ true → seen (t.stage - 1) e ≡ seen j e
  seen-before e h = seen-same inserts removes (t ∷ stages) j (t.stage - 1) m (omega arith) (omega arith, rise) e h

  later-stage : (kind : SubOperation → Bool) (i : ℕ) → i ≤ t.stage → is_stage_of kind stages i ≡ false
  later-stage kind i b = rise-absent [] kind i t.stage m stages rise b

  -- a stage that doesn't remove marks nothing as removed
  pub not-removed : removes t.sub_operation ≡ false → (e : ListElement) → is_left inserts removes (t ∷ stages) j e ≡ true → is_removed_by t.stage e ≡ false
  not-removed k e h = removal e.removal_stage (all_three (left_insertion inserts (t ∷ stages) j e.ins) (left_removal removes (t ∷ stages) j e.removal_stage)
      (list_all is_acked e.dels) h).1
    where
      removal : (o : Option ℕ) → left_removal removes (t ∷ stages) j o ≡ true → list_any (is_of_stage t.stage) (removal_stamp o) ≡ false
      removal None h = refl
      removal (Some i) h = step (nat_eq i t.stage) refl
        where
          never : (a b : Bool) → b ≡ false → a && b ≡ false
          never true b h = h
          never false b h = refl

          none : nat_eq i t.stage ≡ true → nat_le i j || ((nat_eq t.stage i && removes t.sub_operation) || is_stage_of removes stages i) ≡ true → false ≡ true
          none e g =
              let q : i ≡ t.stage = grind (arith, nat_tests) in
              let u : nat_le i j ≡ false = grind (arith, nat_tests) in
              let v : is_stage_of removes stages i ≡ false = later-stage removes i (omega arith) in
              rw (u, never (nat_eq t.stage i) (removes t.sub_operation) k, v) at g

          step : (b : Bool) → nat_eq i t.stage ≡ b → b || false ≡ false
          step true e = absurd (cc (none e h))
          step false e = refl

  -- an element that was seen is seen at a stage that doesn't remove
  pub still-seen-kept : removes t.sub_operation ≡ false → (xs : List ListElement) → list_all (is_left inserts removes (t ∷ stages) j) xs ≡ true → StillSeen j t.stage xs
  still-seen-kept k xs h = all-weaker (is_left inserts removes (t ∷ stages) j) (λ e. not (seen j e) || seen t.stage e) (λ e g. step (is_inserted_by t.stage e) refl e g) xs h
    where
      not-yet : (s : Stamp) → is_of_stage t.stage s ≡ true → has_occurred_at_stage j s ≡ false
      not-yet (Acked s c) h = (cc)
      not-yet (Local i) h = grind (arith, nat_tests)

      implied : (a b : Bool) → b ≡ a → not a || b ≡ true
      implied true b h = h
      implied false b h = refl

      step : (b : Bool) {c : Bool} → c ≡ b → (e : ListElement) → is_left inserts removes (t ∷ stages) j e ≡ true → not (seen j e) || seen t.stage e ≡ true
      step b c e g = by_insertion (is_inserted_by t.stage e) refl
        where
          by_insertion : (d : Bool) → is_inserted_by t.stage e ≡ d → not (seen j e) || seen t.stage e ≡ true
          by_insertion true i = ap (λ d. not (d && not (list_any (has_occurred_at_stage j) (e.dels ++ removal_stamp e.removal_stage))) || seen t.stage e) (not-yet e.ins i)
          by_insertion false i = implied (seen j e) (seen t.stage e) (seen-untouched e g i (not-removed k e g))

  -- ---- pending changes

  same_reach : (i : ℕ) → nat_le i j || is_stage_of annotates stages i ≡ true → nat_le i t.stage ≡ nat_le i j
  same_reach i h = elim (cases_lt t.stage i) [
    | inl b ↦ grind (arith, nat_tests)
    | inr b ↦ (let g : is_stage_of annotates stages i ≡ false = later-stage annotates i b in grind (arith, nat_tests))
  ]

  filter-same : (qs : List (ℕ × Changes)) → list_all (left_change annotates stages j) qs ≡ true → pending_up_to t.stage qs ≡ pending_up_to j qs
  filter-same [] h = refl
  filter-same (q ∷ qs) h =
      let p = both (left_change annotates stages j q) (list_all (left_change annotates stages j) qs) h in
      rw (same_reach q.0 p.0, filter-same qs p.1) refl

  -- where the stage has no changes of the element, the changes up to it are those before
  pub changes-same : (e : ListElement) → left_changes annotates (t ∷ stages) j e ≡ true → is_annotated_by t.stage e ≡ false → pending_up_to t.stage e.pending
      ≡ pending_up_to j e.pending
  changes-same e h a = filter-same e.pending (others e.pending h a)
    where
      others : (qs : List (ℕ × Changes)) → list_all (left_change annotates (t ∷ stages) j) qs ≡ true → list_any (λ q. nat_eq q.0 t.stage) qs ≡ false
          → list_all (left_change annotates stages j) qs ≡ true
      others [] h a = refl
      others (q ∷ qs) h a =
          let p = both (left_change annotates (t ∷ stages) j q) (list_all (left_change annotates (t ∷ stages) j) qs) h in
          step (nat_eq q.0 t.stage) refl a p.0 (others qs p.1)
        where
          step : (b : Bool) → nat_eq q.0 t.stage ≡ b → b || list_any (λ q. nat_eq q.0 t.stage) qs ≡ false → left_change annotates (t ∷ stages) j q ≡ true
              → (list_any (λ q. nat_eq q.0 t.stage) qs ≡ false → list_all (left_change annotates stages j) qs ≡ true)
              → left_change annotates stages j q && list_all (left_change annotates stages j) qs ≡ true
          step true e a h g = (cc)
          step false e a h g = rw (other-stage annotates q.0 e h, g a) refl

  -- a stage that doesn't annotate has no changes
  pub not-annotated : annotates t.sub_operation ≡ false → (e : ListElement) → left_changes annotates (t ∷ stages) j e ≡ true → is_annotated_by t.stage e ≡ false
  not-annotated k e h = none e.pending h
    where
      never : (a b : Bool) → b ≡ false → a && b ≡ false
      never true b h = h
      never false b h = refl

      absent : (i : ℕ) → nat_eq i t.stage ≡ true → nat_le i j || ((nat_eq t.stage i && annotates t.sub_operation) || is_stage_of annotates stages i) ≡ true → false ≡ true
      absent i e g =
          let q : i ≡ t.stage = grind (arith, nat_tests) in
          let u : nat_le i j ≡ false = grind (arith, nat_tests) in
          let v : is_stage_of annotates stages i ≡ false = later-stage annotates i (omega arith) in
          rw (u, never (nat_eq t.stage i) (annotates t.sub_operation) k, v) at g

      none : (qs : List (ℕ × Changes)) → list_all (left_change annotates (t ∷ stages) j) qs ≡ true → list_any (λ q. nat_eq q.0 t.stage) qs ≡ false
      none qs h = none-passes (left_change annotates (t ∷ stages) j) (λ q. nat_eq q.0 t.stage) (λ q g. step (nat_eq q.0 t.stage) q refl g) qs h
        where
          step : (b : Bool) (q : ℕ × Changes) → nat_eq q.0 t.stage ≡ b → left_change annotates (t ∷ stages) j q ≡ true → nat_eq q.0 t.stage ≡ false
          step true q e g = absurd (cc (absent q.0 e g))
          step false q e g = e

  -- ---- the list up to the stage

  pub inserted-left : (xs : List ListElement) → list_all (is_left inserts removes (t ∷ stages) j) xs ≡ true → (i : ℕ) → j < i → i ≤ t.stage
      → is_stage_of inserts (t ∷ []) i ≡ false → list_any (is_inserted_by i) xs ≡ false
  inserted-left xs h i a b k = none-passes (is_left inserts removes (t ∷ stages) j) (is_inserted_by i)
      (λ e g. by_stamp e.ins (all_three (left_insertion inserts (t ∷ stages) j e.ins) (left_removal removes (t ∷ stages) j e.removal_stage) (list_all is_acked e.dels) g).0) xs h
    where
      by_stamp : (s : Stamp) → left_insertion inserts (t ∷ stages) j s ≡ true → is_of_stage i s ≡ false
      by_stamp (Acked s c) g = refl
      by_stamp (Local o) g = step (nat_eq o i) refl
        where
          first : (b : Bool) → b || false ≡ false → b ≡ false
          first true h = (cc)
          first false h = refl

          none : o ≡ i → false ≡ true
          none q =
              let u : nat_le o j ≡ false = grind (arith, nat_tests) in
              let v : is_stage_of inserts stages o ≡ false = later-stage inserts o (omega arith) in
              let w : nat_eq t.stage o && inserts t.sub_operation ≡ false = subst (λ z. nat_eq t.stage z && inserts t.sub_operation ≡ false) (sym q)
              (first (nat_eq t.stage i && inserts t.sub_operation) k) in
              rw (u, w, v) at g

          step : (b : Bool) → nat_eq o i ≡ b → b ≡ false
          step true e = let q : o ≡ i = grind (arith, nat_tests) in absurd (cc (none q))
          step false e = refl

  -- the list with the stage's elements put in
  pub list-next : (xs : List ListElement) → list_all (is_left inserts removes (t ∷ stages) j) xs ≡ true
      → put (seen (t.stage - 1)) no_run (stage_position t.stage xs) (filter (is_inserted_by t.stage) xs) (stage_list xs j) ≡ stage_list xs t.stage
  list-next xs h = put_stages-all xs inserts (t ∷ []) j t.stage (l, omega arith) (λ i a b k. inserted-left xs h i a b k)

  -- without elements of the stage it is the list as it was
  pub list-same : inserts t.sub_operation ≡ false → (xs : List ListElement) → list_all (is_left inserts removes (t ∷ stages) j) xs ≡ true → stage_list xs t.stage ≡ stage_list xs j
  list-same k xs h =
      sym (list-next xs h)
      ∙ ap (λ new. put (seen (t.stage - 1)) no_run (stage_position t.stage xs) new (stage_list xs j))
      (filter-none (is_inserted_by t.stage) xs (inserted-left xs h t.stage l (omega arith) (rw (k, none (nat_eq t.stage t.stage)) refl)))
      ∙ put-nothing (seen (t.stage - 1)) (stage_position t.stage xs) (stage_list xs j)
    where
      none : (b : Bool) → b && false ≡ false
      none true = refl
      none false = refl

  -- ---- a stage that annotates

  beyond_stage : (i : ℕ) (qs : List (ℕ × Changes)) → t.stage ≤ i → IsBelowStages i qs → list_any (λ q. nat_eq q.0 t.stage) qs ≡ false
  beyond_stage i [] b h = refl
  beyond_stage i (q ∷ qs) b h =
      let c : i < q.0 = h.0 in
      rw (apart q.0 (omega arith)) (beyond_stage i qs b h.1)
    where
      apart : (k : ℕ) → t.stage < k → nat_eq k t.stage ≡ false
      apart k b = grind (arith, nat_tests)

  none_beyond : (i n : ℕ) (qs : List (ℕ × Changes)) → n ≤ i → IsBelowStages i qs → pending_up_to n qs ≡ []
  none_beyond i n [] b h = refl
  none_beyond i n (q ∷ qs) b h =
      let c : i < q.0 = h.0 in
      rw (apart q.0 (omega arith)) (none_beyond i n qs b h.1)
    where
      apart : (k : ℕ) → n < k → nat_le k n ≡ false
      apart k b = grind (arith, nat_tests)

  -- the changes of a stage come behind those before it
  pub changes-added : (c : Changes) (qs : List (ℕ × Changes)) → StagesRise qs → list_all (left_change annotates (t ∷ stages) j) qs ≡ true
      → Each (λ q. nat_eq q.0 t.stage ≡ true → q.1 ≡ c) qs
      → list_any (λ q. nat_eq q.0 t.stage) qs ≡ true → pending_up_to t.stage qs ≡ pending_up_to j qs ++ ((t.stage, c) ∷ [])
  changes-added c [] r h e a = (cc)
  changes-added c (q ∷ qs) r h e a =
      let p = both (left_change annotates (t ∷ stages) j q) (list_all (left_change annotates (t ∷ stages) j) qs) h in
      step (nat_eq q.0 t.stage) refl a (changes-added c qs r.1 p.1 e.1)
    where
      here : nat_eq q.0 t.stage ≡ true → pending_up_to t.stage (q ∷ qs) ≡ pending_up_to j (q ∷ qs) ++ ((t.stage, c) ∷ [])
      here g =
          let i : q.0 ≡ t.stage = grind (arith, nat_tests) in
          let u : nat_le q.0 t.stage ≡ true = grind (arith, nat_tests) in
          let v : nat_le q.0 j ≡ false = grind (arith, nat_tests) in
          let same : q ≡ (t.stage, c) = ap (λ k. (k, q.1)) i ∙ ap (λ ch. (t.stage, ch)) (e.0 g) in
          rw (u, v, none_beyond q.0 t.stage qs (omega arith) r.0, none_beyond q.0 j qs (omega arith) r.0) (ap (λ x. x ∷ []) same)

      before : nat_eq q.0 t.stage ≡ false → list_any (λ q. nat_eq q.0 t.stage) qs ≡ true → q.0 < t.stage
      before g k = elim (cases_lt q.0 t.stage) [
        | inl b ↦ b
        | inr b ↦ (let f = beyond_stage q.0 qs b r.0 in absurd (cc (f, k)))
      ]

      reach : q.0 < t.stage → left_change annotates (t ∷ stages) j q ≡ true → nat_le q.0 j ≡ true
      reach b h =
          let u : nat_eq q.0 t.stage ≡ false = grind (arith, nat_tests) in
          let v : is_stage_of annotates stages q.0 ≡ false = later-stage annotates q.0 (omega arith) in
          second (nat_le q.0 j) (is_stage_of annotates stages q.0) v (other-stage annotates q.0 u h)
        where
          second : (a b : Bool) → b ≡ false → a || b ≡ true → a ≡ true
          second true b e h = refl
          second false b e h = cc

      step : (b : Bool) → nat_eq q.0 t.stage ≡ b → b || list_any (λ q. nat_eq q.0 t.stage) qs ≡ true
          → (list_any (λ q. nat_eq q.0 t.stage) qs ≡ true → pending_up_to t.stage qs ≡ pending_up_to j qs ++ ((t.stage, c) ∷ []))
          → pending_up_to t.stage (q ∷ qs) ≡ pending_up_to j (q ∷ qs) ++ ((t.stage, c) ∷ [])
      step true g k f = here g
      step false g k f =
          let b = before g k in
          let u : nat_le q.0 t.stage ≡ true = grind (arith, nat_tests) in
          let v : nat_le q.0 j ≡ true = reach b (both (left_change annotates (t ∷ stages) j q) (list_all (left_change annotates (t ∷ stages) j) qs) h).0 in
          rw (u, v) (ap (λ us. q ∷ us) (f k))
