-- A reconnection in two lists side by side. Where each pending element is of one of the stages, no name is lost.
use Rattle.std.proofs.Common.{◌≡◌, ℕ, ◌+◌, ◌-◌, ◌≤◌, ◌<◌, Bool, true, false, cond, ◌&&◌, ◌||◌, nat_eq, List, [], ◌∷◌, refl, sym, ◌∙◌, ap, subst, filter, arith}
use Rattle.std.specs.List.{list_any}
use Rattle.std.proofs.lemmas.Bool.Decides.{nat_tests}
use Rattle.ft_base.specs.declared.stamps.Stamp.{Stamp}
use Rattle.ft_base.specs.declared.stamps.Stamp.TheVariants.{Acked, Local}
use Rattle.ft_base.specs.Scan.{len, no_run, one_more_if, put, retain_map}
use Rattle.ft_base.specs.Visibility.{is_acked, is_of_stage}
use Rattle.ft_props.specs.Element.{ElementId, ListElement, PendingId, SequencedId, has_id, id, id_of_stamp, is_sequenced, same_id, seen, without_pending}
use Rattle.ft_props.specs.Steps.{Sequence, carried_element, is_inserted_by, put_stage, put_stages, rebuilt_list, stage_position}
use Rattle.ft_laws_agreement.proofs.AgreedStage.{len-put-add}
use Rattle.ft_laws_agreement.proofs.SlidEnds.{true-false}
use Rattle.ft_laws_names.specs.WellNamed.{IsWellNumbered, has_odd_removal}
use Rattle.ft_laws_names.proofs.Beside.{beside-choice, beside-filter, beside-more, beside-put, ends, next}
use Rattle.ft_laws_names.proofs.AckedLists.{len-weaker}
use Rattle.ft_laws_names.proofs.ListSteps.{ListStep, ListsAlike}
use Rattle.ft_laws_names.proofs.Twins.{BesideList, IsTwin, Named, len-alike, position-alike, twin-inserted, twin-seen, twin-sequenced, twins-of}

-- ---- counts

module _ (test : ListElement → Bool) where
  filter-all : (keep : ListElement → Bool) → ((e : ListElement) → test e ≡ true → keep e ≡ true) → (xs : List ListElement) → len test (filter keep xs) ≡ len test xs
  filter-all keep h [] = refl
  filter-all keep h (e ∷ xs) = step (test e) (keep e) refl refl (h e) (filter-all keep h xs)
    where
      step : (a b : Bool) → test e ≡ a → keep e ≡ b → (test e ≡ true → keep e ≡ true) → len test (filter keep xs) ≡ len test xs
          → len test (cond b (e ∷ filter keep xs) (filter keep xs)) ≡ one_more_if (test e) (len test xs)
      step a true p q g ih = ap (one_more_if (test e)) ih
      step false false p q g ih = ih ∙ sym (ap (λ b. one_more_if b (len test xs)) p)
      step true false p q g ih = absurd (true-false (sym (g p) ∙ q))

  pub filter-none : (keep : ListElement → Bool) → ((e : ListElement) → keep e ≡ true → test e ≡ false) → (xs : List ListElement) → len test (filter keep xs) ≡ 0
  filter-none keep h [] = refl
  filter-none keep h (e ∷ xs) = step (keep e) refl (h e) (filter-none keep h xs)
    where
      step : (b : Bool) → keep e ≡ b → (keep e ≡ true → test e ≡ false) → len test (filter keep xs) ≡ 0 → len test (cond b (e ∷ filter keep xs) (filter keep xs)) ≡ 0
      step true q g ih = ap (λ b. one_more_if b (len test (filter keep xs))) (g q) ∙ ih
      step false q g ih = ih

  filter-less : (keep : ListElement → Bool) (xs : List ListElement) → len test xs ≡ 0 → len test (filter keep xs) ≡ 0
  filter-less keep [] h = refl
  filter-less keep (e ∷ xs) h = step (test e) refl (keep e) h (λ g. filter-less keep xs g)
    where
      step : (a : Bool) → test e ≡ a → (b : Bool) → one_more_if a (len test xs) ≡ 0 → (len test xs ≡ 0 → len test (filter keep xs) ≡ 0)
          → len test (cond b (e ∷ filter keep xs) (filter keep xs)) ≡ 0
      step true p b g ih = absurd (omega arith)
      step false p true g ih = ap (λ i. one_more_if i (len test (filter keep xs))) p ∙ ih g
      step false p false g ih = ih g

  module _ (carried : (e : ListElement) → test (carried_element e) ≡ test e) where
    pub sequenced-all : ((e : ListElement) → test e ≡ true → is_sequenced e ≡ true) → (xs : List ListElement) → len test (retain_map is_sequenced carried_element xs) ≡ len test xs
    sequenced-all h [] = refl
    sequenced-all h (e ∷ xs) = step (test e) (is_sequenced e) refl refl (h e) (sequenced-all h xs)
      where
        rest : List ListElement
        rest = retain_map is_sequenced carried_element xs

        step : (a b : Bool) → test e ≡ a → is_sequenced e ≡ b → (test e ≡ true → is_sequenced e ≡ true) → len test rest ≡ len test xs
            → len test (cond b (carried_element e ∷ rest) rest) ≡ one_more_if (test e) (len test xs)
        step a true p q g ih = ap (λ b. one_more_if b (len test rest)) (carried e) ∙ ap (one_more_if (test e)) ih
        step false false p q g ih = ih ∙ sym (ap (λ b. one_more_if b (len test xs)) p)
        step true false p q g ih = absurd (true-false (sym (g p) ∙ q))

    sequenced-none : ((e : ListElement) → is_sequenced e ≡ true → test e ≡ false) → (xs : List ListElement) → len test (retain_map is_sequenced carried_element xs) ≡ 0
    sequenced-none h [] = refl
    sequenced-none h (e ∷ xs) = step (is_sequenced e) refl (h e) (sequenced-none h xs)
      where
        rest : List ListElement
        rest = retain_map is_sequenced carried_element xs

        step : (b : Bool) → is_sequenced e ≡ b → (is_sequenced e ≡ true → test e ≡ false) → len test rest ≡ 0 → len test (cond b (carried_element e ∷ rest) rest) ≡ 0
        step true q g ih = ap (λ b. one_more_if b (len test rest)) (carried e ∙ g q) ∙ ih
        step false q g ih = ih

    sequenced-less : (xs : List ListElement) → len test xs ≡ 0 → len test (retain_map is_sequenced carried_element xs) ≡ 0
    sequenced-less [] h = refl
    sequenced-less (e ∷ xs) h = step (test e) refl (is_sequenced e) h (λ g. sequenced-less xs g)
      where
        rest : List ListElement
        rest = retain_map is_sequenced carried_element xs

        step : (a : Bool) → test e ≡ a → (b : Bool) → one_more_if a (len test xs) ≡ 0 → (len test xs ≡ 0 → len test rest ≡ 0)
            → len test (cond b (carried_element e ∷ rest) rest) ≡ 0
        step true p b g ih = absurd (omega arith)
        step false p true g ih = ap (λ i. one_more_if i (len test rest)) (carried e ∙ p) ∙ ih g
        step false p false g ih = ih g

  put-sum : (xs ys : List ListElement) (k : ℕ) → len test (put_stage xs ys k) ≡ len test (filter (is_inserted_by k) xs) + len test ys
  put-sum xs ys k = len-put-add test (seen (k - 1)) no_run (stage_position k xs) (filter (is_inserted_by k) xs) ys

  -- a test that no stage's elements pass
  pub stages-none : (xs : List ListElement) → ((k : ℕ) → len test (filter (is_inserted_by k) xs) ≡ 0) → (ks : List ℕ) (ys : List ListElement)
      → len test (put_stages xs ys ks) ≡ len test ys
  stages-none xs h [] ys = refl
  stages-none xs h (k ∷ ks) ys = stages-none xs h ks (put_stage xs ys k) ∙ put-sum xs ys k ∙ zero-left _ _ (h k)
    where
      zero-left : (m n : ℕ) → m ≡ 0 → m + n ≡ n
      zero-left m n e = omega arith

-- the stages' numbers rise from above low
abbrev pub Rises : ℕ → List ℕ → Type 0
Rises low [] = Unit {0}
Rises low (k ∷ ks) = (low < k) × Rises k ks

stage-below : (k low : ℕ) (ks : List ℕ) → k ≤ low → Rises low ks → list_any (nat_eq k) ks ≡ false
stage-below k low [] l h = refl
stage-below k low (j ∷ ks) l h = rw (other k j (omega arith), stage-below k j ks (omega arith) h.1) refl
  where
    other : (k j : ℕ) → k < j → nat_eq k j ≡ false
    other k j g = grind (arith, nat_tests)

-- a test that elements of stage k alone pass
module _ (test : ListElement → Bool) (k : ℕ) (only : (e : ListElement) → test e ≡ true → is_inserted_by k e ≡ true) (xs : List ListElement) where
  other-stage : (j : ℕ) → nat_eq k j ≡ false → len test (filter (is_inserted_by j) xs) ≡ 0
  other-stage j h = filter-none test (is_inserted_by j) (λ e g. step (test e) refl (only e) g) xs
    where
      apart : (t : Stamp) → is_of_stage k t ≡ true → is_of_stage j t ≡ true → k ≡ j
      apart (Local i) p q = grind (arith, nat_tests)
      apart (Acked s c) p q = (cc)

      step : {e : ListElement} (b : Bool) → test e ≡ b → (test e ≡ true → is_inserted_by k e ≡ true) → is_inserted_by j e ≡ true → test e ≡ false
      step {e} true p o q =
          let same : k ≡ j = apart e.ins (o p) q in
          absurd (wrong same h)
        where
          wrong : k ≡ j → nat_eq k j ≡ false → ⊥
          wrong s f = grind (arith, nat_tests)
      step false p o q = p

  zero-left : (m n : ℕ) → m ≡ 0 → m + n ≡ n
  zero-left m n e = omega arith

  stage-passes : (ks : List ℕ) (ys : List ListElement) → list_any (nat_eq k) ks ≡ false → len test (put_stages xs ys ks) ≡ len test ys
  stage-passes [] ys h = refl
  stage-passes (j ∷ ks) ys h = step (nat_eq k j) refl h (λ g. stage-passes ks (put_stage xs ys j) g)
    where
      step : (b : Bool) → nat_eq k j ≡ b → b || list_any (nat_eq k) ks ≡ false
          → (list_any (nat_eq k) ks ≡ false → len test (put_stages xs (put_stage xs ys j) ks) ≡ len test (put_stage xs ys j))
          → len test (put_stages xs (put_stage xs ys j) ks) ≡ len test ys
      step true e g ih = (cc)
      step false e g ih = ih g ∙ put-sum test xs ys j ∙ zero-left _ _ (other-stage j e)

  stage-once : (low : ℕ) (ks : List ℕ) (ys : List ListElement) → Rises low ks → list_any (nat_eq k) ks ≡ true → len test (put_stages xs ys ks) ≡ len test xs + len test ys
  stage-once low [] ys r h = (cc)
  stage-once low (j ∷ ks) ys r h = step (nat_eq k j) refl h (λ g. stage-once j ks (put_stage xs ys j) r.1 g)
    where
      step : (b : Bool) → nat_eq k j ≡ b → b || list_any (nat_eq k) ks ≡ true
          → (list_any (nat_eq k) ks ≡ true → len test (put_stages xs (put_stage xs ys j) ks) ≡ len test xs + len test (put_stage xs ys j))
          → len test (put_stages xs (put_stage xs ys j) ks) ≡ len test xs + len test ys
      step true e g ih =
          let same : k ≡ j = grind (arith, nat_tests) in
          stage-passes ks (put_stage xs ys j) (stage-below k j ks (omega arith) r.1) ∙ put-sum test xs ys j
          ∙ ap (λ n. n + len test ys) (filter-all test (is_inserted_by j) (λ x q. subst (λ i. is_inserted_by i x ≡ true) same (only x q)) xs)
      step false e g ih = ih g ∙ ap (λ n. len test xs + n) (put-sum test xs ys j ∙ zero-left _ _ (other-stage j e))

-- ---- one list

abbrev pub IsStagedAmong : List ℕ → List ListElement → Type 0
IsStagedAmong ks xs = (k : ℕ) → list_any (nat_eq k) ks ≡ false → len (is_inserted_by k) xs ≡ 0

carried-id : (e : ListElement) → id (carried_element e) ≡ id e
carried-id e = step (list_any is_acked e.dels)
  where
    step : (b : Bool) → id (cond b (without_pending e) e) ≡ id e
    step true = refl
    step false = refl

carried-ins : (e : ListElement) → (carried_element e).ins ≡ e.ins
carried-ins e = step (list_any is_acked e.dels)
  where
    step : (b : Bool) → (cond b (without_pending e) e).ins ≡ e.ins
    step true = refl
    step false = refl

carried-odd : (e : ListElement) → has_odd_removal (carried_element e) ≡ has_odd_removal e
carried-odd e = step (list_any is_acked e.dels)
  where
    step : (b : Bool) → has_odd_removal (cond b (without_pending e) e) ≡ has_odd_removal e
    step true = refl
    step false = refl

carried-twin : (x y : ListElement) → IsTwin x y → IsTwin (carried_element x) (carried_element y)
carried-twin x y t = subst (λ z. IsTwin (carried_element x) (carried_element z)) (sym t) (step (list_any is_acked x.dels))
  where
    step : (b : Bool) → IsTwin (cond b (without_pending x) x) (cond b (without_pending (record x { nth = y.nth })) (record x { nth = y.nth }))
    step true = refl
    step false = refl

test-weaker : (s t : ListElement → Bool) → ((e : ListElement) → s e ≡ true → t e ≡ true) → (xs : List ListElement) → len t xs ≡ 0 → len s xs ≡ 0
test-weaker s t only xs g = none _ _ (len-weaker s t only xs) g
  where
    none : (m n : ℕ) → m ≤ n → n ≡ 0 → m ≡ 0
    none m n l e = omega arith

pending-stage : (k : ℕ) (t : Stamp) → is_of_stage k t ≡ true → is_acked t ≡ false
pending-stage k (Local j) g = refl
pending-stage k (Acked s c) g = (cc)

-- what passes only with another test doesn't pass without it
unless-passed : (a b : Bool) → (a ≡ true → b ≡ false) → b ≡ true → a ≡ false
unless-passed false b f g = refl
unless-passed true b f g = absurd (true-false (sym g ∙ f refl))

module _ (last : ℕ) (ks : List ℕ) (rises : Rises 0 ks) (list : Sequence) (h : IsWellNumbered last list) (staged : IsStagedAmong ks list.items) where
  -- what elements of a stage alone pass is counted as before
  stage-kept : (test : ListElement → Bool) (k : ℕ) → ((e : ListElement) → test e ≡ true → is_inserted_by k e ≡ true)
      → ((e : ListElement) → test (carried_element e) ≡ test e) → len test (rebuilt_list ks list).items ≡ len test list.items
  stage-kept test k only carried = step (list_any (nat_eq k) ks) refl
    where
      begin : len test (retain_map is_sequenced carried_element list.items) ≡ 0
      begin = sequenced-none test carried (λ e g. unless-passed (test e) (is_sequenced e) (λ p. pending-stage k e.ins (only e p)) g) list.items

      step : (b : Bool) → list_any (nat_eq k) ks ≡ b → len test (rebuilt_list ks list).items ≡ len test list.items
      step true e = stage-once test k only list.items 0 ks _ rises e ∙ right-zero _ _ begin
        where
          right-zero : (m n : ℕ) → n ≡ 0 → m + n ≡ m
          right-zero m n e = omega arith
      step false e = stage-passes test k only list.items ks _ e ∙ begin ∙ sym (test-weaker test (is_inserted_by k) only list.items (staged k e))

  -- so is what no pending element passes
  sequenced-kept : (test : ListElement → Bool) → ((e : ListElement) → test e ≡ true → is_sequenced e ≡ true)
      → ((e : ListElement) → test (carried_element e) ≡ test e) → len test (rebuilt_list ks list).items ≡ len test list.items
  sequenced-kept test h carried =
      stages-none test list.items (λ k. filter-none test (is_inserted_by k) (λ e g. unless-passed (test e) (is_inserted_by k e) (λ p. unstaged k e.ins (h e p))
      g) list.items) ks _ ∙ sequenced-all test carried h list.items
    where
      unstaged : (k : ℕ) (t : Stamp) → is_acked t ≡ true → is_of_stage k t ≡ false
      unstaged k (Acked s c) g = refl
      unstaged k (Local j) g = (cc)

  pub names-rebuilt : (a : ElementId) → len (has_id a) (rebuilt_list ks list).items ≡ len (has_id a) list.items
  names-rebuilt (SequencedId n) = sequenced-kept (has_id (SequencedId n)) (λ e g. of e.nth e.ins g) (λ e. ap (same_id (SequencedId n)) (carried-id e))
    where
      of : (i : ℕ) (t : Stamp) → same_id (SequencedId n) (id_of_stamp t i) ≡ true → is_acked t ≡ true
      of i (Acked s c) g = refl
      of i (Local j) g = (cc)
  names-rebuilt (PendingId k n) = stage-kept (has_id (PendingId k n)) k (λ e g. of e.nth e.ins g) (λ e. ap (same_id (PendingId k n)) (carried-id e))
    where
      first : (a b : Bool) → a && b ≡ true → a ≡ true
      first true b g = refl
      first false b g = (cc)

      turned : (i j : ℕ) → nat_eq i j ≡ true → nat_eq j i ≡ true
      turned i j g = grind (arith, nat_tests)

      of : (i : ℕ) (t : Stamp) → same_id (PendingId k n) (id_of_stamp t i) ≡ true → is_of_stage k t ≡ true
      of i (Acked s c) g = (cc)
      of i (Local j) g = turned k j (first (nat_eq k j) (nat_eq n i) g)

  pub stages-rebuilt : (k : ℕ) → len (is_inserted_by k) (rebuilt_list ks list).items ≡ len (is_inserted_by k) list.items
  stages-rebuilt k = stage-kept (is_inserted_by k) k (λ e g. g) (λ e. ap (is_of_stage k) (carried-ins e))

  pub rebuilt-numbered : IsWellNumbered last (rebuilt_list ks list)
  rebuilt-numbered = record {
    once = λ a. subst (λ n. n ≤ 1) (sym (names-rebuilt a)) (h.once a);
    below = λ n l. names-rebuilt (SequencedId n) ∙ h.below n l;
    counted = λ k n l. names-rebuilt (PendingId k n) ∙ h.counted k n (subst (λ m. m ≤ n) (stages-rebuilt k) l);
    stages = λ k l. stages-rebuilt k ∙ h.stages k l;
    removals = stages-none has_odd_removal list.items (λ k. filter-less has_odd_removal (is_inserted_by k) list.items h.removals) ks _
        ∙ sequenced-less has_odd_removal (λ e. carried-odd e) list.items h.removals;
  }

-- ---- two lists

module _ (P : ElementId → ElementId → Type 0) where
  carried-beside : {xs ys : List ListElement} → BesideList (Named P) xs ys
      → BesideList (Named P) (retain_map is_sequenced carried_element xs) (retain_map is_sequenced carried_element ys)
  carried-beside ends = ends
  carried-beside (next {x = x} {y = y} q qs) =
      beside-choice (is_sequenced x) (is_sequenced y) (twin-sequenced x y q.0)
      (next (carried-twin x y q.0, subst (λ a. P a (id (carried_element y))) (sym (carried-id x)) (subst (λ b. P (id x) b) (sym (carried-id y)) q.1))
      (carried-beside qs)) (carried-beside qs)

  put_stage-beside : (k : ℕ) {xs ys us vs : List ListElement} → BesideList (Named P) xs ys → BesideList (Named P) us vs
      → BesideList (Named P) (put_stage xs us k) (put_stage ys vs k)
  put_stage-beside k {xs} {ys} {us} {vs} h g =
      subst (λ p. BesideList (Named P) (put (seen (k - 1)) no_run (stage_position k xs) (filter (is_inserted_by k) xs) us)
      (put (seen (k - 1)) no_run p (filter (is_inserted_by k) ys) vs)) (position-alike k (twins-of P h))
      (beside-put (seen (k - 1)) (seen (k - 1)) (λ x y q. twin-seen (k - 1) x y q.0) no_run no_run (λ x y q. refl)
      (beside-filter (is_inserted_by k) (is_inserted_by k) (λ x y q. twin-inserted k x y q.0) h) (stage_position k xs) g)

  put_stages-beside : (ks : List ℕ) {xs ys us vs : List ListElement} → BesideList (Named P) xs ys → BesideList (Named P) us vs
      → BesideList (Named P) (put_stages xs us ks) (put_stages ys vs ks)
  put_stages-beside [] h g = g
  put_stages-beside (k ∷ ks) h g = put_stages-beside ks h (put_stage-beside k h g)

  rebuilt-carries : (ks : List ℕ) (l m : Sequence) → BesideList (Named P) l.items m.items → BesideList (Named P) (rebuilt_list ks l).items (rebuilt_list ks m).items
  rebuilt-carries ks l m h = put_stages-beside ks h (carried-beside h)

pub staged-twins : (ks : List ℕ) {xs ys : List ListElement} → BesideList IsTwin xs ys → IsStagedAmong ks xs → IsStagedAmong ks ys
staged-twins ks t h k g = sym (len-alike (is_inserted_by k) (λ x y q. twin-inserted k x y q) t) ∙ h k g

pub rebuilt-step : (last : ℕ) (ks : List ℕ) → Rises 0 ks → (l m : Sequence) → ListsAlike last l m → IsStagedAmong ks l.items
    → ListStep last l m (rebuilt_list ks l) (rebuilt_list ks m)
rebuilt-step last ks r l m h s = record {
  carries = λ P u g. rebuilt-carries P ks l m g;
  stay = λ a g. subst (λ n. 1 ≤ n) (sym (names-rebuilt last ks r l h.left s a)) g;
}

pub rebuilt-alike : (last : ℕ) (ks : List ℕ) → Rises 0 ks → (l m : Sequence) → ListsAlike last l m → IsStagedAmong ks l.items
    → ListsAlike last (rebuilt_list ks l) (rebuilt_list ks m)
rebuilt-alike last ks r l m h s = record {
  left = rebuilt-numbered last ks r l h.left s;
  right = rebuilt-numbered last ks r m h.right (staged-twins ks h.twins s);
  twins = beside-more (λ x y q. q.0) (rebuilt-carries (λ a b. Unit {0}) ks l m (beside-more (λ x y q. (q, tt)) h.twins));
}
