-- A reconnection of a list, of any content: what the tree's list is once its pending stages are put in afresh is what the document's is,
-- and the element of each name stands where its place tells.
use Rattle.std.proofs.Common.{◌≡◌, ℕ, zero, suc, ◌+◌, ◌≤◌, ◌<◌, Bool, true, false, cond, not, ◌&&◌, ◌||◌, nat_eq, nat_le, List, [], ◌∷◌, ◌++◌, Option, Some, None, refl, sym, ◌∙◌, ap, subst, arith, filter}
use Rattle.std.specs.List.{list_all, list_any}
use Rattle.std.proofs.lemmas.Bool.Decides.{nat_tests}
use Rattle.ft_base.specs.declared.stamps.Stamp.{Stamp}
use Rattle.ft_base.specs.declared.stamps.Stamp.TheVariants.{Acked, Local}
use Rattle.ft_base.specs.declared.elements.Element.{Element as ElementStamps}
use Rattle.ft_base.specs.Scan.{len, no_run, one_more_if, put, retain_map}
use Rattle.ft_base.specs.Visibility.{is_acked, is_of_stage, seen_at}
use Rattle.ft_base.proofs.Booleans.{both}
use Rattle.ft_base.proofs.ScanLaws.{put_past-no_run}
use Rattle.ft_props.specs.Element.{ElementContent, ElementId, ListElement, NamelessElement, has_id, is_pending, is_sequenced, removal_stamp, seen, stamps_of}
use Rattle.ft_props.specs.Steps.{Sequence, is_inserted_by, rebuilt_list, stage_position}
use Rattle.ft_props.specs.Steps.{carried_element as document_carried}
use Rattle.ft_props.proofs.RebuiltList.{any-filter}
use Rattle.ft_tree_leaves.specs.Elements.{TreeElement, sequenced_stamps}
use Rattle.ft_laws_agreement.specs.Reconnecting.{has_insertion_of, has_marks_of, is_seen_or_next, is_stage_of}
use Rattle.ft_laws_agreement.specs.Reconnecting.{StandSideBySide as StandSideBySideNamed}
use Rattle.ft_laws_agreement.proofs.AgreedStage.{len-put-add}
use Rattle.ft_op.specs.Operation.{SubOperation}
use Rattle.ft_op.specs.Stages.{Stage}
use Rattle.ft_laws_names.specs.WellNamed.{IsWellNumbered}
use Rattle.ft_laws_names.proofs.AckedLists.{len-none, len-sum}
use Rattle.ft_laws_names.proofs.Beside.{Beside, beside-any, beside-choice, beside-filter, beside-put, beside-rank, ends, next, same-map}
use Rattle.ft_laws_names.proofs.RebuiltLists.{IsStagedAmong, Rises, names-rebuilt, rebuilt-numbered}
use Rattle.ft_rebase.specs.Normalised.{carried_element, without_pending}
use Rattle.ft_rebase.specs.Normalised.{rebuilt_list as tree_rebuilt}
use Rattle.ft_rebase.specs.RebuiltPlaces.{rebuilt_place}
use Rattle.ft_rebase.specs.StageLists.{StandSideBySide, inserted_by, is_one_run, is_run_at_front, next_position, seen_by, seen_or_next, sequenced, with_stages}
use Rattle.ft_rebase.proofs.KeptPlaces.{rebuilt_place-image}
use Rattle.ft_rebase.proofs.NamedLists.{AreStagesOf, listed-stages, named-place}
use Rattle.ft_rebase.proofs.StageListLemmas.{unseen}
use Rattle.ft_named.proofs.Bares.{AreElements, IsElement, same-stamps}
use Rattle.ft_named.proofs.Changed.{beside-all}
use Rattle.ft_named.proofs.ListSteps.{StepsList, even-removals}
use Rattle.ft_named.proofs.Placed.{name_place}

-- ---- one run

module _ {A : Type 0} (is see : A → Bool) where
  run-front : (new xs : List A) → list_all is new ≡ true → list_any is xs ≡ false → is_run_at_front is (new ++ xs) ≡ true
  run-front [] [] h g = refl
  run-front [] (x ∷ xs) h g = grind (arith)
  run-front (n ∷ new) xs h g = grind (arith, run-front new xs)

  run-none : (xs : List A) → list_any is xs ≡ false → is_one_run is xs ≡ true
  run-none [] h = refl
  run-none (x ∷ xs) h = grind (arith, run-none xs)

  run-new : (new xs : List A) → list_all is new ≡ true → list_any is xs ≡ false → is_one_run is (new ++ xs) ≡ true
  run-new [] xs h g = run-none xs g
  run-new (n ∷ new) xs h g = grind (arith, run-front new xs)

  run-put : (p : ℕ) (new xs : List A) → list_all is new ≡ true → list_any is xs ≡ false → is_one_run is (put see no_run p new xs) ≡ true
  run-put zero new xs h g = ap (is_one_run is) (put_past-no_run new xs) ∙ run-new new xs h g
  run-put (suc p) new [] h g = ap (is_one_run is) (sym (append-none new)) ∙ run-new new [] h refl
    where
      append-none : (ys : List A) → ys ++ [] ≡ ys
      append-none [] = refl
      append-none (y ∷ ys) = ap (λ zs. y ∷ zs) (append-none ys)
  run-put (suc p) new (x ∷ xs) h g =
      let a = none (is x) (list_any is xs) g in
      step (is x) a.0 (run-put (cond (see x) p (suc p)) new xs h a.1)
    where
      none : (b c : Bool) → b || c ≡ false → (b ≡ false) × (c ≡ false)
      none true c e = (cc)
      none false c e = (refl, e)

      step : (b : Bool) → b ≡ false → is_one_run is (put see no_run (cond (see x) p (suc p)) new xs) ≡ true
          → cond b (is_run_at_front is (put see no_run (cond (see x) p (suc p)) new xs)) (is_one_run is (put see no_run (cond (see x) p (suc p)) new xs)) ≡ true
      step true e r = (cc)
      step false e r = r

filter-passes : {A : Type 0} (is : A → Bool) (xs : List A) → list_all is (filter is xs) ≡ true
filter-passes is [] = refl
filter-passes is (x ∷ xs) = step (is x) refl (filter-passes is xs)
  where
    step : (b : Bool) → is x ≡ b → list_all is (filter is xs) ≡ true → list_all is (cond b (x ∷ filter is xs) (filter is xs)) ≡ true
    step true h r = rw (h, r) refl
    step false h r = r

filter-none : {A : Type 0} (is keep : A → Bool) (xs : List A) → list_any is xs ≡ false → list_any is (filter keep xs) ≡ false
filter-none is keep [] h = refl
filter-none is keep (x ∷ xs) h = step (is x) (list_any is xs) h (keep x) refl (λ g. filter-none is keep xs g)
  where
    step : (b c : Bool) → b || c ≡ false → (k : Bool) → is x ≡ b → (c ≡ false → list_any is (filter keep xs) ≡ false)
        → list_any is (cond k (x ∷ filter keep xs) (filter keep xs)) ≡ false
    step true c e k g r = (cc)
    step false c e true g r = rw (g, r e) refl
    step false c e false g r = r e

-- ---- side by side

unseen-next : (k : ℕ) (e : ListElement) → seen k e ≡ true → is_inserted_by (suc k) e ≡ false
unseen-next k e h = step (is_inserted_by (suc k) e) refl
  where
    step : (b : Bool) → is_inserted_by (suc k) e ≡ b → is_inserted_by (suc k) e ≡ false
    step false g = g
    step true g = let never = sym h ∙ unseen stamps_of k e g in (cc)

-- the elements of the next stage are one run
named-run : (k : ℕ) (es : List ListElement) → StandSideBySideNamed k es → is_one_run (is_inserted_by (suc k)) (filter (is_seen_or_next k) es) ≡ true
named-run k es h =
    ap (is_one_run (is_inserted_by (suc k))) h
    ∙ run-put (is_inserted_by (suc k)) (seen k) (stage_position (suc k) es) (filter (is_inserted_by (suc k)) es) (filter (seen k) es)
    (filter-passes (is_inserted_by (suc k)) es) (any-filter (is_inserted_by (suc k)) (seen k) (λ e g. unseen-next k e g) es)

none-run : (k : ℕ) (es : List ListElement) → list_any (is_inserted_by (suc k)) es ≡ false
    → is_one_run (is_inserted_by (suc k)) (filter (is_seen_or_next k) es) ≡ true
none-run k es h =
    run-none (is_inserted_by (suc k)) (seen k) (filter (is_seen_or_next k) es) (filter-none (is_inserted_by (suc k)) (is_seen_or_next k) es h)

module _ (inserts removes : SubOperation → Bool) (stages : List Stage) where
  insertion-of : (k : ℕ) (t : Stamp) → is_stage_of inserts stages k ≡ false → has_insertion_of inserts stages t ≡ true → is_of_stage k t ≡ false
  insertion-of k (Acked s c) h g = refl
  insertion-of k (Local j) h g = step (nat_eq j k) refl
    where
      same : nat_eq j k ≡ true → j ≡ k
      same e = grind (arith, nat_tests)

      step : (b : Bool) → nat_eq j k ≡ b → nat_eq j k ≡ false
      step false e = e
      step true e = let never = sym (ap (is_stage_of inserts stages) (same e) ∙ h) ∙ g in (cc)

  -- none is of a stage that doesn't insert
  pub marks-none : (k : ℕ) (es : List ListElement) → is_stage_of inserts stages k ≡ false → list_all (has_marks_of inserts removes stages) es ≡ true
      → list_any (is_inserted_by k) es ≡ false
  marks-none k [] h g = refl
  marks-none k (e ∷ es) h g =
      let p = both (has_marks_of inserts removes stages e) (list_all (has_marks_of inserts removes stages) es) g in
      let q = both (has_insertion_of inserts stages e.ins && _) (list_all is_acked e.dels) p.0 in
      rw (insertion-of k e.ins h (both (has_insertion_of inserts stages e.ins) _ q.0).0, marks-none k es h p.1) refl

  -- the elements of each stage are one run in its view
  pub stages-run : (es : List ListElement) → list_all (has_marks_of inserts removes stages) es ≡ true
      → ((k : ℕ) → is_stage_of inserts stages (suc k) ≡ true → StandSideBySideNamed k es) → (k : ℕ)
      → is_one_run (is_inserted_by (suc k)) (filter (is_seen_or_next k) es) ≡ true
  stages-run es marks side k = step (is_stage_of inserts stages (suc k)) refl
    where
      step : (b : Bool) → is_stage_of inserts stages (suc k) ≡ b → is_one_run (is_inserted_by (suc k)) (filter (is_seen_or_next k) es) ≡ true
      step true h = named-run k es (side k h)
      step false h = none-run k es (marks-none (suc k) es h marks)

module _ {A B : Type 0} {Q : A → B → Type 0} (is : A → Bool) (is' : B → Bool) (agree : (x : A) (y : B) → Q x y → is x ≡ is' y) where
  beside-front : {xs : List A} {ys : List B} → Beside A B Q xs ys → is_run_at_front is xs ≡ is_run_at_front is' ys
  beside-front ends = refl
  beside-front (next {x = x} {y = y} q qs) = rw (agree x y q, beside-front qs, beside-any is is' agree qs) refl

  pub beside-run : {xs : List A} {ys : List B} → Beside A B Q xs ys → is_one_run is xs ≡ is_one_run is' ys
  beside-run ends = refl
  beside-run (next {x = x} {y = y} q qs) = rw (agree x y q, beside-front qs, beside-run qs) refl

-- ---- a list of a tree

-- the stamps of an element
abbrev pub stamps_in : {U : Type 0} → TreeElement U → ElementStamps
stamps_in x = x.stamps

module _ {U : Type 0} (content : U → ElementContent) where
  inserted-alike : (k : ℕ) (x : TreeElement U) (e : ListElement) → IsElement content x e → inserted_by stamps_in k x ≡ is_inserted_by k e
  inserted-alike k x e q = ap (λ (s : ElementStamps). is_of_stage k s.ins) (same-stamps content x e q)

  view-alike : (k : ℕ) (x : TreeElement U) (e : ListElement) → IsElement content x e → seen_by stamps_in k x ≡ seen k e
  view-alike k x e q = ap (λ s. seen_at s k) (same-stamps content x e q)

  sequenced-alike : (x : TreeElement U) (e : ListElement) → IsElement content x e → sequenced stamps_in x ≡ is_sequenced e
  sequenced-alike x e q = ap (λ (s : ElementStamps). is_acked s.ins) (same-stamps content x e q)

  next-alike : (k : ℕ) (x : TreeElement U) (e : ListElement) → IsElement content x e → seen_or_next stamps_in k x ≡ is_seen_or_next k e
  next-alike k x e q = ap (λ b. b || inserted_by stamps_in (suc k) x) (view-alike k x e q) ∙ ap (λ b. seen k e || b) (inserted-alike (suc k) x e q)

  -- the elements of each stage stand side by side
  pub side-alike : {xs : List (TreeElement U)} {es : List ListElement} → AreElements content xs es
      → ((k : ℕ) → is_one_run (is_inserted_by (suc k)) (filter (is_seen_or_next k) es) ≡ true) → StandSideBySide stamps_in xs
  side-alike b h k =
      beside-run (inserted_by stamps_in (suc k)) (is_inserted_by (suc k)) (λ x e q. inserted-alike (suc k) x e q)
      (beside-filter (seen_or_next stamps_in k) (is_seen_or_next k) (λ x e q. next-alike k x e q) b) ∙ h k

  pub any-inserted : (k : ℕ) {xs : List (TreeElement U)} {es : List ListElement} → AreElements content xs es
      → list_any (inserted_by stamps_in k) xs ≡ list_any (is_inserted_by k) es
  any-inserted k b = beside-any (inserted_by stamps_in k) (is_inserted_by k) (λ x e q. inserted-alike k x e q) b

  -- ---- what goes through

  any-removed : (ds : List Stamp) (o : Option ℕ) → list_any is_acked (ds ++ removal_stamp o) ≡ list_any is_acked ds
  any-removed [] None = refl
  any-removed [] (Some k) = refl
  any-removed (d ∷ ds) o = ap (λ b. is_acked d || b) (any-removed ds o)

  acked-left : (ds : List Stamp) (o : Option ℕ) → list_all is_acked ds ≡ true → filter is_acked (ds ++ removal_stamp o) ≡ ds ++ []
  acked-left [] None h = refl
  acked-left [] (Some k) h = refl
  acked-left (Acked s c ∷ ds) o h = ap (λ ts. Acked s c ∷ ts) (acked-left ds o h)
  acked-left (Local k ∷ ds) o h = (cc)

  pub carried-alike : (x : TreeElement U) (e : ListElement) → IsElement content x e → list_all is_acked e.dels ≡ true
      → IsElement content (carried_element x) (document_carried e)
  carried-alike x e q h =
      step (list_any is_acked x.stamps.dels) (list_any is_acked e.dels)
      (ap (λ (s : ElementStamps). list_any is_acked s.dels) (same-stamps content x e q) ∙ any-removed e.dels e.removal_stage)
    where
      bare-alike : IsElement content (without_pending x) (record e { removal_stage = None; pending = [] })
      bare-alike =
          ap (λ (n : NamelessElement). record n { stamps = sequenced_stamps n.stamps; pending = [] }) q
          ∙ ap (λ ts. record { content = e.content; stamps = record { ins = e.ins; dels = ts }; by = e.by; props = e.props; pending = [] }) (acked-left e.dels e.removal_stage h)

      step : (b c : Bool) → b ≡ c → IsElement content (cond b (without_pending x) x) (cond c (record e { removal_stage = None; pending = [] }) e)
      step true true g = bare-alike
      step false false g = q
      step true false g = (cc)
      step false true g = (cc)

  retained-alike : {xs : List (TreeElement U)} {es : List ListElement}
      → Beside (TreeElement U) ListElement (λ x e. IsElement content x e × (list_all is_acked e.dels ≡ true)) xs es
      → AreElements content (retain_map (sequenced stamps_in) carried_element xs) (retain_map is_sequenced document_carried es)
  retained-alike ends = ends
  retained-alike (next {x = x} {y = e} q qs) =
      beside-choice (sequenced stamps_in x) (is_sequenced e) (sequenced-alike x e q.0) (next (carried-alike x e q.0 q.1) (retained-alike qs)) (retained-alike qs)

  stages-alike : {xs ys : List (TreeElement U)} {es fs : List ListElement} → AreElements content xs es → AreElements content ys fs → (k : ℕ)
      → AreElements content (with_stages stamps_in xs ys k) (with_stages stamps_of es fs k)
  stages-alike b c zero = c
  stages-alike {xs} {ys} {es} {fs} b c (suc k) =
      subst (λ p. AreElements content (with_stages stamps_in xs ys (suc k)) (put (seen k) no_run p (filter (is_inserted_by (suc k)) es) (with_stages stamps_of es fs k)))
      (beside-rank (inserted_by stamps_in (suc k)) (is_inserted_by (suc k)) (λ x e q. inserted-alike (suc k) x e q) (seen_by stamps_in k) (seen k) (λ x e q. view-alike k x e q) b)
      (beside-put (seen_by stamps_in k) (seen k) (λ x e q. view-alike k x e q) no_run no_run (λ x e q. refl)
      (beside-filter (inserted_by stamps_in (suc k)) (is_inserted_by (suc k)) (λ x e q. inserted-alike (suc k) x e q) b) (next_position stamps_in k xs) (stages-alike b c k))

  -- ---- a list of the document

  module _ (last : ℕ) (ms : List ℕ) (list : Sequence) (h : IsWellNumbered last list) (of : AreStagesOf 0 last list.items ms) where
    abbrev es : List ListElement
    es = list.items

    put-in : (rebuilt_list ms list).items ≡ with_stages stamps_of es (retain_map is_sequenced document_carried es) last
    put-in = listed-stages es (retain_map is_sequenced document_carried es) 0 last ms (omega arith) of

    pub rebuilt-alike : {xs : List (TreeElement U)} → AreElements content xs es → AreElements content (tree_rebuilt last xs) (rebuilt_list ms list).items
    rebuilt-alike {xs} b =
        subst (λ ys. AreElements content (tree_rebuilt last xs) ys) (sym put-in)
        (stages-alike b (retained-alike (beside-all (λ e. list_all is_acked e.dels) (even-removals es h.removals) b)) last)

    -- where the element of a name stands
    module _ (rises : Rises 0 ms) (staged : IsStagedAmong ms es) {xs : List (TreeElement U)} (b : AreElements content xs es) where
      once : (a : ElementId) → 1 ≤ len (has_id a) es → len (has_id a) es ≡ 1
      once a there = let most = h.once a in omega arith

      place-named : (a : ElementId) → 1 ≤ len (has_id a) es → name_place (rebuilt_list ms list).items a ≡ rebuilt_place stamps_in last xs (name_place es a)
      place-named a there =
          named-place (λ s. s) stamps_of (λ e. refl) list ms last a of (once a there)
          ∙ ap (λ ss. rebuilt_place (λ s. s) last ss (name_place es a)) (sym (same-map stamps_in stamps_of (λ x e q. same-stamps content x e q) b))
          ∙ rebuilt_place-image stamps_in (λ s. s) stamps_in (λ k x. refl) (λ k x. refl) (λ x. refl) last xs (name_place es a)

      pub rebuilt-step : len is_pending (rebuilt_list ms list).items ≡ len is_pending es
          → StepsList last 0 (rebuilt_place stamps_in last xs) list (rebuilt_list ms list)
      rebuilt-step count = record {
        numbered = rebuilt-numbered last ms rises list h staged;
        stays = λ a there. subst (λ n. 1 ≤ n) (sym (names-rebuilt last ms rises list h staged a)) there;
        moves = λ a there. place-named a there;
        held = let same = count in omega arith;
      }

-- ---- how many are pending

-- whether the insertion is of a stage from 1 to k
abbrev is_pending_up_to : ℕ → Stamp → Bool
is_pending_up_to k (Acked s c) = false
is_pending_up_to k (Local j) = nat_le 1 j && nat_le j k

one-more : (k : ℕ) (t : Stamp) → one_more_if (is_pending_up_to (suc k) t) 0 ≡ one_more_if (is_pending_up_to k t) 0 + one_more_if (is_of_stage (suc k) t) 0
one-more k (Acked s c) = omega arith
one-more k (Local j) = step (nat_le 1 j) (nat_le j (suc k)) (nat_le j k) (nat_eq j (suc k)) refl refl refl refl
  where
    step : (a b c d : Bool) → nat_le 1 j ≡ a → nat_le j (suc k) ≡ b → nat_le j k ≡ c → nat_eq j (suc k) ≡ d
        → one_more_if (a && b) 0 ≡ one_more_if (a && c) 0 + one_more_if d 0
    step a b c d e f g h = grind (arith, nat_tests)

len-inserted : (k : ℕ) (es : List ListElement) → len is_pending (filter (is_inserted_by k) es) ≡ len (is_inserted_by k) es
len-inserted k [] = refl
len-inserted k (e ∷ es) = step e.ins (len-inserted k es)
  where
    pending : (t : Stamp) → is_of_stage k t ≡ true → not (is_acked t) ≡ true
    pending (Acked s c) g = (cc)
    pending (Local j) g = refl

    here : (b : Bool) → is_inserted_by k e ≡ b → len is_pending (filter (is_inserted_by k) es) ≡ len (is_inserted_by k) es
        → len is_pending (cond b (e ∷ filter (is_inserted_by k) es) (filter (is_inserted_by k) es)) ≡ one_more_if b (len (is_inserted_by k) es)
    here true g r = rw (pending e.ins g, r) refl
    here false g r = r

    step : (t : Stamp) → len is_pending (filter (is_inserted_by k) es) ≡ len (is_inserted_by k) es
        → len is_pending (cond (is_inserted_by k e) (e ∷ filter (is_inserted_by k) es) (filter (is_inserted_by k) es))
        ≡ one_more_if (is_inserted_by k e) (len (is_inserted_by k) es)
    step t r = here (is_inserted_by k e) refl r

len-stages : (es ys : List ListElement) (k : ℕ) → len is_pending (with_stages stamps_of es ys k) ≡ len is_pending ys + len (λ e. is_pending_up_to k e.ins) es
len-stages es ys zero =
    let none = len-none (λ (e : ListElement). is_pending_up_to 0 e.ins) (λ e. never e.ins) es in omega arith
  where
    never : (t : Stamp) → is_pending_up_to 0 t ≡ false
    never (Acked s c) = refl
    never (Local j) = step (nat_le 1 j) (nat_le j 0) refl refl
      where
        step : (a b : Bool) → nat_le 1 j ≡ a → nat_le j 0 ≡ b → a && b ≡ false
        step a b e f = grind (arith, nat_tests)
len-stages es ys (suc k) =
    let sum = len-put-add is_pending (seen_by stamps_of k) no_run (next_position stamps_of k es) (filter (is_inserted_by (suc k)) es) (with_stages stamps_of es ys k) in
    let new = len-inserted (suc k) es in
    let before = len-stages es ys k in
    let parts = len-sum (λ (e : ListElement). is_pending_up_to (suc k) e.ins) (λ e. is_pending_up_to k e.ins) (is_inserted_by (suc k)) (λ e. one-more k e.ins) es in
    omega arith

len-retained : (es : List ListElement) → len is_pending (retain_map is_sequenced document_carried es) ≡ 0
len-retained [] = refl
len-retained (e ∷ es) = step (is_sequenced e) refl (len-retained es)
  where
    carried-ins : (b : Bool) → (cond b (record e { removal_stage = None; pending = [] }) e).ins ≡ e.ins
    carried-ins true = refl
    carried-ins false = refl

    step : (b : Bool) → is_sequenced e ≡ b → len is_pending (retain_map is_sequenced document_carried es) ≡ 0
        → len is_pending (cond b (document_carried e ∷ retain_map is_sequenced document_carried es) (retain_map is_sequenced document_carried es)) ≡ 0
    step true g r = ap (λ t. one_more_if (not (is_acked t)) (len is_pending (retain_map is_sequenced document_carried es))) (carried-ins (list_any is_acked e.dels))
        ∙ ap (λ b. one_more_if (not b) (len is_pending (retain_map is_sequenced document_carried es))) g ∙ r
    step false g r = r

-- none is of stage 0 or above the last one
up-to-last : (last : ℕ) (es : List ListElement) → ((k : ℕ) → last < k → len (is_inserted_by k) es ≡ 0) → len (is_inserted_by 0) es ≡ 0
    → len (λ e. is_pending_up_to last e.ins) es ≡ len is_pending es
up-to-last last [] above first = refl
up-to-last last (e ∷ es) above first =
    step e.ins (λ k l. less (is_inserted_by k e) (len (is_inserted_by k) es) (above k l)) (less (is_inserted_by 0 e) (len (is_inserted_by 0) es) first)
    (up-to-last last es (λ k l. (less (is_inserted_by k e) (len (is_inserted_by k) es) (above k l)).1) (less (is_inserted_by 0 e) (len (is_inserted_by 0) es) first).1)
  where
    less : (b : Bool) (n : ℕ) → one_more_if b n ≡ 0 → (b ≡ false) × (n ≡ 0)
    less true n g = absurd (omega arith)
    less false n g = (refl, g)

    within-last : (j : ℕ) → ((k : ℕ) → last < k → nat_eq j k ≡ false) → nat_eq j 0 ≡ false → nat_le 1 j && nat_le j last ≡ true
    within-last j f g = both-hold (nat_le 1 j) (nat_le j last) refl refl
      where
        low : nat_le 1 j ≡ false → ⊥
        low e = let zero_is : nat_eq j 0 ≡ true = grind (arith, nat_tests) in let never = sym zero_is ∙ g in (cc)

        self : (n : ℕ) → nat_eq n n ≡ true
        self n = grind (arith, nat_tests)

        high : nat_le j last ≡ false → ⊥
        high e = let over : last < j = grind (arith, nat_tests) in let never = sym (self j) ∙ f j over in (cc)

        both-hold : (a b : Bool) → nat_le 1 j ≡ a → nat_le j last ≡ b → a && b ≡ true
        both-hold true true p q = refl
        both-hold false b p q = absurd (low p)
        both-hold true false p q = absurd (high q)

    step : (t : Stamp) → ((k : ℕ) → last < k → (is_of_stage k t ≡ false) × (len (is_inserted_by k) es ≡ 0))
        → (is_of_stage 0 t ≡ false) × (len (is_inserted_by 0) es ≡ 0)
        → len (λ e. is_pending_up_to last e.ins) es ≡ len is_pending es
        → one_more_if (is_pending_up_to last t) (len (λ e. is_pending_up_to last e.ins) es) ≡ one_more_if (not (is_acked t)) (len is_pending es)
    step (Acked s c) f g r = r
    step (Local j) f g r = rw (within-last j (λ k l. (f k l).0) g.0, r) refl

pub rebuilt-pending : (last : ℕ) (ms : List ℕ) (list : Sequence) → AreStagesOf 0 last list.items ms
    → ((k : ℕ) → last < k → len (is_inserted_by k) list.items ≡ 0)
    → len (is_inserted_by 0) list.items ≡ 0 → len is_pending (rebuilt_list ms list).items ≡ len is_pending list.items
rebuilt-pending last ms list of above first =
    let es = list.items in
    let ys = retain_map is_sequenced document_carried es in
    let is = listed-stages es ys 0 last ms (omega arith) of in
    let all = len-stages es ys last in
    let none = len-retained es in
    ap (len is_pending) is ∙ all ∙ up-to-last-sum (len is_pending ys) (len (λ e. is_pending_up_to last e.ins) es) none ∙ up-to-last last es above first
  where
    up-to-last-sum : (m n : ℕ) → m ≡ 0 → m + n ≡ n
    up-to-last-sum m n e = omega arith

-- ---- the stages of a list

any-from-len : (is : ListElement → Bool) (es : List ListElement) → len is es ≡ 0 → list_any is es ≡ false
any-from-len is [] h = refl
any-from-len is (e ∷ es) h = step (is e) (len is es) h (λ g. any-from-len is es g)
  where
    step : (b : Bool) (n : ℕ) → one_more_if b n ≡ 0 → (n ≡ 0 → list_any is es ≡ false) → b || list_any is es ≡ false
    step true n g f = absurd (omega arith)
    step false n g f = f g

pub none-from-len : (k : ℕ) (es : List ListElement) → len (is_inserted_by k) es ≡ 0 → list_any (is_inserted_by k) es ≡ false
none-from-len k es h = any-from-len (is_inserted_by k) es h

-- numbers that rise, beside which the list has nothing
pub stages-of : (k last : ℕ) (xs : List ListElement) (ms : List ℕ) → Rises k ms
    → ((j : ℕ) → k < j → list_any (nat_eq j) ms ≡ false → list_any (is_inserted_by j) xs ≡ false)
    → (list_all (λ m. nat_le m last) ms ≡ true) → AreStagesOf k last xs ms
stages-of k last xs [] r none most = λ j l m. none j l refl
stages-of k last xs (m ∷ ms) r none most =
    let p = both (nat_le m last) (list_all (λ i. nat_le i last) ms) most in (
      r.0,
      le-is m last p.0,
      λ j l g. none j l (rw (apart j m g, below-all j m ms g r.1) refl),
      stages-of m last xs ms r.1 (λ j l e. none j (later k m j r.0 l) (rw (apart-above j m l, e) refl)) p.1,
    )
  where
    le-is : (m n : ℕ) → nat_le m n ≡ true → m ≤ n
    le-is m n e = grind (arith, nat_tests)

    apart : (j m : ℕ) → j < m → nat_eq j m ≡ false
    apart j m l = grind (arith, nat_tests)

    apart-above : (j m : ℕ) → m < j → nat_eq j m ≡ false
    apart-above j m l = grind (arith, nat_tests)

    later : (a b c : ℕ) → a < b → b < c → a < c
    later a b c p q = omega arith

    below-all : (j m : ℕ) (is : List ℕ) → j < m → Rises m is → list_any (nat_eq j) is ≡ false
    below-all j m [] l s = refl
    below-all j m (i ∷ is) l s = rw (apart j i (later j m i l s.0), below-all j i is (later j m i l s.0) s.1) refl
