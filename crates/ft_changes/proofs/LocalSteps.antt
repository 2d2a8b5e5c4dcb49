-- What is told of an edit of the client's own leads from the lists that were shown to those that are.
use Rattle.std.proofs.Common.{◌≡◌, ℕ, zero, suc, ◌+◌, ◌-◌, ◌≤◌, Bool, true, false, cond, not, ◌&&◌, nat_le, List, [], ◌∷◌, ◌++◌, None, refl, sym, ◌∙◌, ap, arith, replicate}
use Rattle.std.proofs.lemmas.Bool.Decides.{nat_tests}
use Rattle.std.specs.List.{list_all, list_any}
use Rattle.ft_base.specs.declared.stamps.Stamp.{Stamp}
use Rattle.ft_base.specs.declared.stamps.Stamp.TheVariants.{Acked, Local}
use Rattle.ft_base.specs.Scan.{change_range_from, len, no_run, one_more_if, put, within}
use Rattle.ft_base.specs.Visibility.{has_occurred_at_stage}
use Rattle.ft_props.specs.declared.properties.Changes.{Changes}
use Rattle.ft_props.specs.Properties.{PropertyList}
use Rattle.ft_props.specs.Element.{ElementContent, GridUnit, ListElement, new_elements, removal_stamp, seen, with_pending_annotation, with_pending_removal}
use Rattle.ft_props.specs.Steps.{Sequence, after_local_insertion, after_local_mark}
use Rattle.ft_changes.specs.Shown.{restyled, shown_element, shown_elements, shown_properties, styled_elements}
use Rattle.ft_changes.specs.ShownRuns.{changed_runs, gone_runs, place_of_insertion, put_in, with_runs, without_runs}
use Rattle.ft_changes.proofs.ForeignSteps.{gone-counted, len-put, less_runs}
use Rattle.ft_changes.proofs.RunLaws.{changed-shown, gone-shown, put-shown}

both : (a b : Bool) → a && b ≡ true → (a ≡ true) × (b ≡ true)
both true b h = (refl, h)
both false b h = absurd (cc)

joined : (a b : Bool) → a ≡ true → b ≡ true → a && b ≡ true
joined true b e d = d
joined false b e d = absurd (cc)

-- ---- what is pending up to a stage

-- whether what is pending on the element is of stages up to k
abbrev pub is_up_to : ℕ → ListElement → Bool
is_up_to k e = has_occurred_at_stage k e.ins && list_all (has_occurred_at_stage k) (e.dels ++ removal_stamp e.removal_stage)

module _ (j k : ℕ) (le : j ≤ k) where
  later : (t : Stamp) → has_occurred_at_stage j t ≡ true → has_occurred_at_stage k t ≡ true
  later (Acked s c) h = refl
  later (Local i) h = grind (arith, nat_tests, h, le)

  any-later : (ts : List Stamp) → list_all (has_occurred_at_stage j) ts ≡ true → list_any (has_occurred_at_stage k) ts ≡ list_any (has_occurred_at_stage j) ts
  any-later [] h = refl
  any-later (t ∷ ts) h = let p = both (has_occurred_at_stage j t) (list_all (has_occurred_at_stage j) ts) h in let q = later t p.0 in rw (p.0, q) refl

  all-later : (ts : List Stamp) → list_all (has_occurred_at_stage j) ts ≡ true → list_all (has_occurred_at_stage k) ts ≡ true
  all-later [] h = refl
  all-later (t ∷ ts) h =
      let p = both (has_occurred_at_stage j t) (list_all (has_occurred_at_stage j) ts) h in
      joined (has_occurred_at_stage k t) (list_all (has_occurred_at_stage k) ts) (later t p.0) (all-later ts p.1)

  pub seen-later : (e : ListElement) → is_up_to j e ≡ true → seen k e ≡ seen j e
  seen-later e h =
      let p = both (has_occurred_at_stage j e.ins) (list_all (has_occurred_at_stage j) (e.dels ++ removal_stamp e.removal_stage)) h in
      ap (λ b. b && not (list_any (has_occurred_at_stage k) (e.dels ++ removal_stamp e.removal_stage))) (later e.ins p.0 ∙ sym p.0)
      ∙ ap (λ b. has_occurred_at_stage j e.ins && not b) (any-later (e.dels ++ removal_stamp e.removal_stage) p.1)

  up_to-later : (e : ListElement) → is_up_to j e ≡ true → is_up_to k e ≡ true
  up_to-later e h =
      let p = both (has_occurred_at_stage j e.ins) (list_all (has_occurred_at_stage j) (e.dels ++ removal_stamp e.removal_stage)) h in
      joined (has_occurred_at_stage k e.ins) _ (later e.ins p.0) (all-later (e.dels ++ removal_stamp e.removal_stage) p.1)

  pub all-up_to-later : (xs : List ListElement) → list_all (is_up_to j) xs ≡ true → list_all (is_up_to k) xs ≡ true
  all-up_to-later [] h = refl
  all-up_to-later (e ∷ xs) h =
      let p = both (is_up_to j e) (list_all (is_up_to j) xs) h in
      joined (is_up_to k e) (list_all (is_up_to k) xs) (up_to-later e p.0) (all-up_to-later xs p.1)

  -- nothing else is shown at the later stage
  pub shown-later : (xs : List ListElement) → list_all (is_up_to j) xs ≡ true → shown_elements k xs ≡ shown_elements j xs
  shown-later [] h = refl
  shown-later (e ∷ xs) h =
      let p = both (is_up_to j e) (list_all (is_up_to j) xs) h in
      ap (λ b. cond b (shown_element e ∷ shown_elements k xs) (shown_elements k xs)) (seen-later e p.0)
      ∙ ap (λ es. cond (seen j e) (shown_element e ∷ es) es) (shown-later xs p.1)

  pub len-later : (xs : List ListElement) → list_all (is_up_to j) xs ≡ true → len (seen k) xs ≡ len (seen j) xs
  len-later [] h = refl
  len-later (e ∷ xs) h =
      let p = both (is_up_to j e) (list_all (is_up_to j) xs) h in
      ap (λ b. one_more_if b (len (seen k) xs)) (seen-later e p.0) ∙ ap (one_more_if (seen j e)) (len-later xs p.1)

  -- an insertion stands where it is typed
  pub place-same : (p : ℕ) (xs : List ListElement) → list_all (is_up_to j) xs ≡ true → p ≤ len (seen j) xs → place_of_insertion (seen j) no_run (seen k) p xs ≡ p
  place-same zero [] h l = refl
  place-same zero (e ∷ xs) h l = refl
  place-same (suc p) [] h l = absurd (omega arith)
  place-same (suc p) (e ∷ xs) h l = by (seen j e) (both (is_up_to j e) (list_all (is_up_to j) xs) h).0 refl l (λ q g. place-same q xs (both (is_up_to j e) (list_all (is_up_to j) xs) h).1 g)
    where
      by : (b : Bool) → is_up_to j e ≡ true → seen j e ≡ b → suc p ≤ one_more_if b (len (seen j) xs) → ((q : ℕ) → q ≤ len (seen j) xs → place_of_insertion (seen j) no_run (seen k) q xs ≡ q)
          → one_more_if (seen k e) (place_of_insertion (seen j) no_run (seen k) (cond b p (suc p)) xs) ≡ suc p
      by true u s g rest = ap (λ c. one_more_if c (place_of_insertion (seen j) no_run (seen k) p xs)) (seen-later e u ∙ s) ∙ ap suc (rest p (omega arith))
      by false u s g rest = ap (λ c. one_more_if c (place_of_insertion (seen j) no_run (seen k) (suc p) xs)) (seen-later e u ∙ s) ∙ rest (suc p) g

-- ---- one list

at_own : (k : ℕ) → nat_le k k ≡ true
at_own k = grind (arith, nat_tests)

-- an element with a removal of the stage isn't seen at it
pub local-hidden : (k : ℕ) (e : ListElement) → seen k (with_pending_removal k e) ≡ false
local-hidden k e = by (has_occurred_at_stage k e.ins) (list_any (has_occurred_at_stage k) (e.dels ++ Local k ∷ [])) (marked e.dels)
  where
    marked : (ds : List Stamp) → list_any (has_occurred_at_stage k) (ds ++ Local k ∷ []) ≡ true
    marked [] = grind (arith, at_own k)
    marked (d ∷ ds) = grind (arith, marked ds)

    by : (a b : Bool) → b ≡ true → a && not b ≡ false
    by true b e = ap not e
    by false b e = refl

new-shown : (k n : ℕ) (props : PropertyList) (bs : List ElementContent) → shown_elements k (new_elements n (Local k) [] None props bs) ≡ styled_elements props bs
new-shown k n props [] = refl
new-shown k n props (b ∷ bs) =
    ap (λ c. cond (c && true) (record { content = b; props = props } ∷ shown_elements k (new_elements (n + 1) (Local k) [] None props bs)) (shown_elements k (new_elements (n + 1) (Local k) [] None props bs))) (at_own k)
    ∙ ap (λ es. record { content = b; props = props } ∷ es) (new-shown k (n + 1) props bs)

new-count : (k n count : ℕ) → len (seen k) (new_elements n (Local k) [] None [] (replicate count GridUnit)) ≡ count
new-count k n zero = refl
new-count k n (suc count) =
    ap (λ c. one_more_if (c && true) (len (seen k) (new_elements (n + 1) (Local k) [] None [] (replicate count GridUnit)))) (at_own k) ∙ ap suc (new-count k (n + 1) count)

new-up_to : (k n : ℕ) (props : PropertyList) (bs : List ElementContent) → list_all (is_up_to k) (new_elements n (Local k) [] None props bs) ≡ true
new-up_to k n props [] = refl
new-up_to k n props (b ∷ bs) = rw (at_own k) (new-up_to k (n + 1) props bs)

all-append : {A : Type 0} (test : A → Bool) (xs ys : List A) → list_all test xs ≡ true → list_all test ys ≡ true → list_all test (xs ++ ys) ≡ true
all-append test [] ys h g = g
all-append test (x ∷ xs) ys h g = let p = both (test x) (list_all test xs) h in joined (test x) (list_all test (xs ++ ys)) p.0 (all-append test xs ys p.1 g)

all-put : {A : Type 0} (seen test : A → Bool) (p : ℕ) (new xs : List A) → list_all test new ≡ true → list_all test xs ≡ true → list_all test (put seen no_run p new xs) ≡ true
all-put seen test zero new [] h g = h
all-put seen test zero new (x ∷ xs) h g = all-append test new (x ∷ xs) h g
all-put seen test (suc p) new [] h g = h
all-put seen test (suc p) new (x ∷ xs) h g =
    let q = both (test x) (list_all test xs) g in joined (test x) _ q.0 (all-put seen test (cond (seen x) p (suc p)) new xs h q.1)

all-range : {A : Type 0} (seen test : A → Bool) (f : A → A) → ((x : A) → test x ≡ true → test (f x) ≡ true) → (n p q : ℕ) (xs : List A) → list_all test xs ≡ true
    → list_all test (change_range_from n seen p q f xs) ≡ true
all-range seen test f keeps n p q [] h = refl
all-range seen test f keeps n p q (x ∷ xs) h =
    let g = both (test x) (list_all test xs) h in
    joined (test (cond (seen x && within p q n) (f x) x)) _ (by (seen x && within p q n) g.0) (all-range seen test f keeps (one_more_if (seen x) n) p q xs g.1)
  where
    by : (b : Bool) → test x ≡ true → test (cond b (f x) x) ≡ true
    by true t = keeps x t
    by false t = t

all-front : (test : Stamp → Bool) (xs ys : List Stamp) → list_all test (xs ++ ys) ≡ true → list_all test xs ≡ true
all-front test [] ys h = refl
all-front test (x ∷ xs) ys h = let p = both (test x) (list_all test (xs ++ ys)) h in joined (test x) (list_all test xs) p.0 (all-front test xs ys p.1)

removal-up_to : (k : ℕ) (e : ListElement) → is_up_to k e ≡ true → is_up_to k (with_pending_removal k e) ≡ true
removal-up_to k e h =
    let p = both (has_occurred_at_stage k e.ins) (list_all (has_occurred_at_stage k) (e.dels ++ removal_stamp e.removal_stage)) h in
    joined (has_occurred_at_stage k e.ins) _ p.0
    (all-append (has_occurred_at_stage k) e.dels (Local k ∷ []) (all-front (has_occurred_at_stage k) e.dels (removal_stamp e.removal_stage) p.1) (rw (at_own k) refl))

module _ (k : ℕ) (list : Sequence) (h : list_all (is_up_to (k - 1)) list.items ≡ true) where
  low : k - 1 ≤ k
  low = omega arith

  pub local-insertion-shown : (p : ℕ) (props : PropertyList) (bs : List ElementContent) → p ≤ len (seen (k - 1)) list.items
      → shown_elements k (after_local_insertion k p props bs list).items ≡ put_in p (styled_elements props bs) (shown_elements (k - 1) list.items)
  local-insertion-shown p props bs l =
      put-shown (seen (k - 1)) no_run (seen k) shown_element p (new_elements 0 (Local k) [] None props bs) list.items
      ∙ ap (λ i. put_in i (shown_elements k (new_elements 0 (Local k) [] None props bs)) (shown_elements k list.items)) (place-same (k - 1) k low p list.items h l)
      ∙ ap (λ es. put_in p es (shown_elements k list.items)) (new-shown k 0 props bs)
      ∙ ap (put_in p (styled_elements props bs)) (shown-later (k - 1) k low list.items h)

  pub local-insertion-count : (p count : ℕ) → len (seen k) (after_local_insertion k p [] (replicate count GridUnit) list).items ≡ len (seen (k - 1)) list.items + count
  local-insertion-count p count =
      len-put (seen (k - 1)) no_run (seen k) p (new_elements 0 (Local k) [] None [] (replicate count GridUnit)) list.items
      ∙ ap (λ m. len (seen k) list.items + m) (new-count k 0 count) ∙ ap (λ m. m + count) (len-later (k - 1) k low list.items h)

  pub local-removal-shown : (p q : ℕ)
      → shown_elements k (after_local_mark k p q (with_pending_removal k) list).items ≡ without_runs (gone_runs (seen (k - 1)) (seen k) p q list.items) (shown_elements (k - 1) list.items)
  local-removal-shown p q =
      sym (gone-shown (seen (k - 1)) (seen k) shown_element p q (with_pending_removal k) (local-hidden k) list.items)
      ∙ ap (without_runs (gone_runs (seen (k - 1)) (seen k) p q list.items)) (shown-later (k - 1) k low list.items h)

  pub local-removal-count : (p q : ℕ)
      → less_runs (gone_runs (seen (k - 1)) (seen k) p q list.items) (len (seen (k - 1)) list.items) ≡ len (seen k) (after_local_mark k p q (with_pending_removal k) list).items
  local-removal-count p q =
      ap (less_runs (gone_runs (seen (k - 1)) (seen k) p q list.items)) (sym (len-later (k - 1) k low list.items h))
      ∙ gone-counted (seen (k - 1)) (seen k) p q (with_pending_removal k) (local-hidden k) list.items

  pub local-annotation-shown : (same : PropertyList → PropertyList → Bool) (same-is : (a b : PropertyList) → same a b ≡ true → a ≡ b) (p q : ℕ) (changes : Changes)
      → shown_elements k (after_local_mark k p q (with_pending_annotation k changes) list).items
      ≡ with_runs restyled (changed_runs same shown_properties (with_pending_annotation k changes) (seen (k - 1)) (seen k) p q list.items) (shown_elements (k - 1) list.items)
  local-annotation-shown same same-is p q changes =
      sym (changed-shown same same-is restyled (seen (k - 1)) (seen k) shown_element shown_properties (with_pending_annotation k changes) p q (λ e. refl) (λ e. refl)
      (λ e same_props. ap (λ props. record { content = e.content; props = props }) (sym (same-is (shown_properties e) (shown_properties (with_pending_annotation k changes e)) same_props))) list.items)
      ∙ ap (with_runs restyled (changed_runs same shown_properties (with_pending_annotation k changes) (seen (k - 1)) (seen k) p q list.items)) (shown-later (k - 1) k low list.items h)

  pub insertion-up_to : (p : ℕ) (props : PropertyList) (bs : List ElementContent) → list_all (is_up_to k) (after_local_insertion k p props bs list).items ≡ true
  insertion-up_to p props bs = all-put (seen (k - 1)) (is_up_to k) p (new_elements 0 (Local k) [] None props bs) list.items (new-up_to k 0 props bs) (all-up_to-later (k - 1) k low list.items h)

  pub removal-all_up_to : (p q : ℕ) → list_all (is_up_to k) (after_local_mark k p q (with_pending_removal k) list).items ≡ true
  removal-all_up_to p q = all-range (seen (k - 1)) (is_up_to k) (with_pending_removal k) (removal-up_to k) 0 p q list.items (all-up_to-later (k - 1) k low list.items h)

  pub annotation-up_to : (p q : ℕ) (changes : Changes) → list_all (is_up_to k) (after_local_mark k p q (with_pending_annotation k changes) list).items ≡ true
  annotation-up_to p q changes = all-range (seen (k - 1)) (is_up_to k) (with_pending_annotation k changes) (λ e t. t) 0 p q list.items (all-up_to-later (k - 1) k low list.items h)
