-- The acknowledgement of stages of one part leaves the other part, since nothing of it is of these stages.
use Rattle.std.proofs.Common.{◌≡◌, ◌≤◌, ◌<◌, ℕ, ◌+◌, Bool, true, false, cond, not, ◌&&◌, ◌||◌, nat_eq, List, [], ◌∷◌, ◌++◌, Option, Some, None, append-nil, refl, sym, ◌∙◌, ap, subst, filter, map, arith}
use Rattle.std.specs.List.{list_all, list_any}
use Rattle.std.proofs.lemmas.Bool.Decides.{nat_tests}
use Rattle.ft_base.specs.declared.stamps.Stamp.{Stamp}
use Rattle.ft_base.specs.declared.stamps.Stamp.TheVariants.{Acked, Local}
use Rattle.ft_base.specs.Scan.{len, one_more_if}
use Rattle.ft_base.specs.Visibility.{is_acked, is_of_stage}
use Rattle.ft_base.proofs.Booleans.{both}
use Rattle.ft_op.specs.Document.{Document}
use Rattle.ft_op.specs.Intervals.{Interval, NamedElements, slide_ends}
use Rattle.ft_op.specs.Operation.{OnGrid, OnIntervals, OnText, SubOperation}
use Rattle.ft_op.specs.Stages.{Stage}
use Rattle.ft_props.specs.declared.properties.Changes.{Changes}
use Rattle.ft_props.specs.Element.{ElementId, ListElement, PendingId, SequencedId, has_id, is_pending, is_unremoved}
use Rattle.ft_props.specs.Properties.{PropertyList}
use Rattle.ft_props.specs.Steps.{Sequence, acked_element, acked_id, acked_list, acked_props, acked_removal, acked_stamp, is_inserted_by, remaining_removal}
use Rattle.ft_msg.specs.Acknowledgement.{ack_stage, ack_stages, made_before, renamed}
use Rattle.ft_msg.specs.Answers.{count_held}
use Rattle.ft_laws_agreement.specs.Reconnecting.{has_insertion_of, has_marks_of, has_removal_of, is_stage_of}
use Rattle.ft_laws_agreement.specs.Sequencing.{Each, is_grid_stage}
use Rattle.ft_laws_agreement.specs.Trimming.{has_ends_on, is_end_on}
use Rattle.ft_laws_agreement.proofs.AgreedStage.{EndsStand, ends-stay}
use Rattle.ft_laws_agreement.proofs.SlidEnds.{Once, Stands, is_standing_at}
use Rattle.ft_laws_names.specs.WellNamed.{IsWellNumbered, RiseTo, StandsIn}
use Rattle.ft_laws_names.proofs.AckedLists.{len-map, len-sum}
use Rattle.ft_string.specs.Holds.{is_on_text}

-- ---- one list

-- whether a pending removal, if there is one, is of another stage
abbrev pub IsOther : ℕ → Option ℕ → Type 0
IsOther k None = Unit {0}
IsOther k (Some j) = nat_eq j k ≡ false

-- nothing of the element is of stage k
pub record IsUnmarked (k : ℕ) (e : ListElement) : Type 0 where
  pub insertion : is_of_stage k e.ins ≡ false
  pub removal : IsOther k e.removal_stage
  pub changes : list_any (λ q. nat_eq q.0 k) e.pending ≡ false

none-acked : (k s c : ℕ) (o : Option ℕ) → IsOther k o → acked_removal k s c o ≡ []
none-acked k s c None h = refl
none-acked k s c (Some j) h = rw h refl

all-remain : (k : ℕ) (o : Option ℕ) → IsOther k o → remaining_removal k o ≡ o
all-remain k None h = refl
all-remain k (Some j) h = rw h refl

neither : (a b : Bool) → a || b ≡ false → (a ≡ false) × (b ≡ false)
neither true b h = (cc)
neither false b h = (refl, h)

same-props : (k : ℕ) (props : PropertyList) (qs : List (ℕ × Changes)) → list_any (λ q. nat_eq q.0 k) qs ≡ false → acked_props k props qs ≡ props
same-props k props [] h = refl
same-props k props ((j, m) ∷ qs) h =
    let p = neither (nat_eq j k) (list_any (λ (q : ℕ × Changes). nat_eq q.0 k) qs) h in
    rw p.0 (same-props k props qs p.1)

all-kept : (k : ℕ) (qs : List (ℕ × Changes)) → list_any (λ q. nat_eq q.0 k) qs ≡ false → filter (λ q. not (nat_eq q.0 k)) qs ≡ qs
all-kept k [] h = refl
all-kept k (q ∷ qs) h =
    let p = neither (nat_eq q.0 k) (list_any (λ (q : ℕ × Changes). nat_eq q.0 k) qs) h in
    rw p.0 (ap (λ ms. q ∷ ms) (all-kept k qs p.1))

element-same : (k n s c : ℕ) (e : ListElement) → IsUnmarked k e → acked_element k n s c e ≡ e
element-same k n s c e u =
    rw (u.insertion, none-acked k s c e.removal_stage u.removal, all-remain k e.removal_stage u.removal, same-props k e.props e.pending u.changes, all-kept k e.pending u.changes)
    (ap (λ ds. record e { dels = ds }) (append-nil e.dels))

items-same : (k n s c : ℕ) (xs : List ListElement) → Each (IsUnmarked k) xs → map (acked_element k n s c) xs ≡ xs
items-same k n s c [] h = refl
items-same k n s c (x ∷ xs) h = ap (λ e. e ∷ map (acked_element k n s c) xs) (element-same k n s c x h.0) ∙ ap (λ es. x ∷ es) (items-same k n s c xs h.1)

none-of : (k : ℕ) (xs : List ListElement) → Each (IsUnmarked k) xs → len (λ e. is_of_stage k e.ins) xs ≡ 0
none-of k [] h = refl
none-of k (x ∷ xs) h = ap (λ b. one_more_if b (len (λ (e : ListElement). is_of_stage k e.ins) xs)) h.0.insertion ∙ none-of k xs h.1

no-more : (n : ℕ) → n + 0 ≡ n
no-more n = omega arith

pub list-same : (k s c : ℕ) (list : Sequence) → Each (IsUnmarked k) list.items → acked_list k s c list ≡ list
list-same k s c list h =
    ap (λ es. (let l : Sequence = record { items = es; made = list.made + len (λ (e : ListElement). is_of_stage k e.ins) list.items } in l)) (items-same k list.made s c list.items h)
    ∙ ap (λ n. (let l : Sequence = record { items = list.items; made = list.made + n } in l)) (none-of k list.items h)
    ∙ ap (λ n. (let l : Sequence = record { items = list.items; made = n } in l)) (no-more list.made)

-- as many are held as before
pub count-same : (k s c : ℕ) (list : Sequence) → count_held (acked_list k s c list) ≡ count_held list
count-same k s c list =
    sums list.made _ _ _ (len-map is_pending (acked_element k list.made s c) list.items)
    (len-sum is_pending (λ e. is_of_stage k e.ins) (λ e. is_pending (acked_element k list.made s c e)) (λ e. split e.ins) list.items)
  where
    sums : (m a p q : ℕ) {r : ℕ} → q ≡ r → p ≡ a + r → m + a + q ≡ m + p
    sums m a p q e f = omega arith

    split : (t : Stamp) → one_more_if (not (is_acked t)) 0 ≡ one_more_if (is_of_stage k t) 0 + one_more_if (not (is_acked (acked_stamp k s c t))) 0
    split (Acked r d) = refl
    split (Local j) = step (nat_eq j k)
      where
        step : (b : Bool) → 1 ≡ one_more_if b 0 + one_more_if (not (is_acked (cond b (Acked s c) (Local j)))) 0
        step true = refl
        step false = refl

-- ---- all stages

-- each stage leaves the list
abbrev pub AreUnmarked : List Stage → List ListElement → Type 0
AreUnmarked ts xs = Each (λ t. Each (IsUnmarked t.stage) xs) ts

module _ (s c : ℕ) where
  pub rows-stay : (ts : List Stage) (f : ElementId → ElementId) (doc : Document) → AreUnmarked ts doc.rows.items → (ack_stages s c f ts doc).0.rows ≡ doc.rows
  rows-stay [] f doc h = refl
  rows-stay (t ∷ ts) f doc h =
      let same = list-same t.stage s c doc.rows h.0 in
      rows-stay ts (λ x. acked_id t.stage (made_before doc t.sub_operation) (f x)) (ack_stage s c f t doc) (subst (λ (l : Sequence). AreUnmarked ts l.items) (sym same) h.1) ∙ same

  pub cols-stay : (ts : List Stage) (f : ElementId → ElementId) (doc : Document) → AreUnmarked ts doc.cols.items → (ack_stages s c f ts doc).0.cols ≡ doc.cols
  cols-stay [] f doc h = refl
  cols-stay (t ∷ ts) f doc h =
      let same = list-same t.stage s c doc.cols h.0 in
      cols-stay ts (λ x. acked_id t.stage (made_before doc t.sub_operation) (f x)) (ack_stage s c f t doc) (subst (λ (l : Sequence). AreUnmarked ts l.items) (sym same) h.1) ∙ same

  pub cells-stay : (ts : List Stage) (f : ElementId → ElementId) (doc : Document) → list_all (λ t. is_on_text t.sub_operation) ts ≡ true
      → (ack_stages s c f ts doc).0.cells ≡ doc.cells
  cells-stay [] f doc h = refl
  cells-stay (t ∷ ts) f doc h =
      let p = both (is_on_text t.sub_operation) (list_all (λ (t : Stage). is_on_text t.sub_operation) ts) h in
      cells-stay ts (λ x. acked_id t.stage (made_before doc t.sub_operation) (f x)) (ack_stage s c f t doc) p.1 ∙ one t.sub_operation t.names p.0
    where
      one : (o : SubOperation) (names : NamedElements) → is_on_text o ≡ true
          → (ack_stage s c f (record { stage = t.stage; sub_operation = o; names = names }) doc).cells ≡ doc.cells
      one (OnText op) names g = refl
      one (OnIntervals op) names g = refl
      one (OnGrid op) names g = (cc)

  pub record TextStays (doc after : Document) : Type 0 where
    pub text : after.text ≡ doc.text
    pub intervals : after.intervals ≡ doc.intervals

  pub text-stays : (ts : List Stage) (f : ElementId → ElementId) (doc : Document) → AreUnmarked ts doc.text.items
      → list_all is_grid_stage ts ≡ true → Once doc.text.items
      → EndsStand doc.text.items doc.intervals → TextStays doc (ack_stages s c f ts doc).0
  text-stays [] f doc h g once stand = record { text = refl; intervals = refl }
  text-stays (t ∷ ts) f doc h g once stand =
      let p = both (is_grid_stage t) (list_all is_grid_stage ts) g in
      let same = list-same t.stage s c doc.text h.0 in
      let ends = one t.sub_operation t.names p.0 same in
      let after = ack_stage s c f t doc in
      let rest = text-stays ts (λ x. acked_id t.stage (made_before doc t.sub_operation) (f x)) after (subst (λ (l : Sequence). AreUnmarked ts l.items) (sym same) h.1) p.1
      (subst (λ (l : Sequence). Once l.items) (sym same) once)
      (subst (λ is. EndsStand after.text.items is) (sym ends) (subst (λ (l : Sequence). EndsStand l.items doc.intervals) (sym same) stand)) in
      record { text = rest.text ∙ same; intervals = rest.intervals ∙ ends }
    where
      one : (o : SubOperation) (names : NamedElements) → is_grid_stage (record { stage = t.stage; sub_operation = o; names = names }) ≡ true → acked_list t.stage s c doc.text ≡ doc.text
          → (ack_stage s c f (record { stage = t.stage; sub_operation = o; names = names }) doc).intervals ≡ doc.intervals
      one (OnGrid op) names q e = ap (λ (l : Sequence). slide_ends l.items doc.intervals) e ∙ ends-stay doc.text.items doc.intervals once stand
      one (OnText op) names q e = (cc)
      one (OnIntervals op) names q e = (cc)

  -- what else stays
  pub record RestStays (doc after : Document) : Type 0 where
    pub skipped : after.skipped ≡ doc.skipped
    pub other : after.other ≡ doc.other
    pub rows : count_held after.rows ≡ count_held doc.rows
    pub cols : count_held after.cols ≡ count_held doc.cols

  pub rest-stays : (ts : List Stage) (f : ElementId → ElementId) (doc : Document) → RestStays doc (ack_stages s c f ts doc).0
  rest-stays [] f doc = record { skipped = refl; other = refl; rows = refl; cols = refl }
  rest-stays (t ∷ ts) f doc =
      let rest = rest-stays ts (λ x. acked_id t.stage (made_before doc t.sub_operation) (f x)) (ack_stage s c f t doc) in
      record {
        skipped = rest.skipped;
        other = rest.other;
        rows = rest.rows ∙ count-same t.stage s c doc.rows;
        cols = rest.cols ∙ count-same t.stage s c doc.cols;
      }

  -- ---- names

  -- the name isn't one of stage k
  abbrev pub IsOtherName : ElementId → ℕ → Type 0
  IsOtherName (SequencedId n) k = Unit {0}
  IsOtherName (PendingId j n) k = nat_eq j k ≡ false

  name-kept : (k n : ℕ) (x : ElementId) → IsOtherName x k → acked_id k n x ≡ x
  name-kept k n (SequencedId i) h = refl
  name-kept k n (PendingId j i) h = rw h refl

  name-stays : (ts : List Stage) (f : ElementId → ElementId) (doc : Document) (x : ElementId) → f x ≡ x
      → Each (λ t. IsOtherName x t.stage) ts → (ack_stages s c f ts doc).1 x ≡ x
  name-stays [] f doc x e h = e
  name-stays (t ∷ ts) f doc x e h =
      let k = made_before doc t.sub_operation in
      name-stays ts (λ y. acked_id t.stage k (f y)) (ack_stage s c f t doc) x (ap (acked_id t.stage k) e ∙ name-kept t.stage k x h.0) h.1

  other-name : (last : ℕ) (list : Sequence) → IsWellNumbered last list → (x : ElementId) → 1 ≤ len (has_id x) list.items → (k : ℕ)
      → Each (IsUnmarked k) list.items → IsOtherName x k
  other-name last list w (SequencedId n) l k u = tt
  other-name last list w (PendingId j n) l k u = step (nat_eq j k) refl
    where
      same : nat_eq j k ≡ true → k ≡ j
      same e = grind (arith, nat_tests)

      never : (m : ℕ) → 1 ≤ m → m ≡ 0 → true ≡ false
      never m g e = absurd (omega arith)

      below : (m i : ℕ) → m ≡ 0 → m ≤ i
      below m i e = omega arith

      step : (b : Bool) → nat_eq j k ≡ b → b ≡ false
      step false e = refl
      step true e = never (len (has_id (PendingId j n)) list.items) l
          (w.counted j n (below (len (is_inserted_by j) list.items) n (subst (λ i. len (is_inserted_by i) list.items ≡ 0) (same e) (none-of k list.items u))))

  other-names : (last : ℕ) (list : Sequence) → IsWellNumbered last list → (x : ElementId) → 1 ≤ len (has_id x) list.items
      → (ts : List Stage) → AreUnmarked ts list.items
      → Each (λ t. IsOtherName x t.stage) ts
  other-names last list w x l [] u = tt
  other-names last list w x l (t ∷ ts) u = (other-name last list w x l t.stage u.0, other-names last list w x l ts u.1)

  -- an element that is named in a list goes on to be named so
  pub named-stays : (ts : List Stage) (doc : Document) (last : ℕ) (list : Sequence) → IsWellNumbered last list → AreUnmarked ts list.items
      → (o : Option ElementId)
      → StandsIn list.items o → renamed (ack_stages s c (λ i. i) ts doc).1 o ≡ o
  named-stays ts doc last list w u None t = refl
  named-stays ts doc last list w u (Some x) t = ap Some (name-stays ts (λ i. i) doc x refl (other-names last list w x t ts u))

-- ---- what is unmarked

module _ (inserts removes annotates : SubOperation → Bool) (stages : List Stage) (k : ℕ) (i : is_stage_of inserts stages k ≡ false) (r : is_stage_of removes stages k ≡ false)
    (a : is_stage_of annotates stages k ≡ false) where
  apart : (is : Bool) (j : ℕ) (test : ℕ → Bool) → nat_eq j k ≡ is → test j ≡ true → test k ≡ false → is ≡ false
  apart false j test e t f = refl
  apart true j test e t f =
      let same : j ≡ k = equal e in
      sym t ∙ ap test same ∙ f
    where
      equal : nat_eq j k ≡ true → j ≡ k
      equal g = grind (arith, nat_tests)

  stamp-unmarked : (t : Stamp) → has_insertion_of inserts stages t ≡ true → is_of_stage k t ≡ false
  stamp-unmarked (Acked s c) h = refl
  stamp-unmarked (Local j) h = apart (nat_eq j k) j (is_stage_of inserts stages) refl h i

  removal-unmarked : (o : Option ℕ) → has_removal_of removes stages o ≡ true → IsOther k o
  removal-unmarked None h = tt
  removal-unmarked (Some j) h = apart (nat_eq j k) j (is_stage_of removes stages) refl h r

  changes-unmarked : (qs : List (ℕ × Changes)) → list_all (λ q. is_stage_of annotates stages q.0) qs ≡ true → list_any (λ q. nat_eq q.0 k) qs ≡ false
  changes-unmarked [] h = refl
  changes-unmarked (q ∷ qs) h =
      let p = both (is_stage_of annotates stages q.0) (list_all (λ (q : ℕ × Changes). is_stage_of annotates stages q.0) qs) h in
      rw (apart (nat_eq q.0 k) q.0 (is_stage_of annotates stages) refl p.0 a) (changes-unmarked qs p.1)

  pub list-unmarked : (xs : List ListElement) → list_all (has_marks_of inserts removes stages) xs ≡ true
      → list_all (λ e. list_all (λ q. is_stage_of annotates stages q.0) e.pending) xs ≡ true
      → Each (IsUnmarked k) xs
  list-unmarked [] m n = tt
  list-unmarked (x ∷ xs) m n =
      let p = both (has_marks_of inserts removes stages x) (list_all (has_marks_of inserts removes stages) xs) m in
      let q = both (list_all (λ (q : ℕ × Changes). is_stage_of annotates stages q.0) x.pending)
      (list_all (λ (e : ListElement). list_all (λ (q : ℕ × Changes). is_stage_of annotates stages q.0) e.pending) xs) n in
      let one = both (has_insertion_of inserts stages x.ins && has_removal_of removes stages x.removal_stage) (list_all is_acked x.dels) p.0 in
      let two = both (has_insertion_of inserts stages x.ins) (has_removal_of removes stages x.removal_stage) one.0 in
      (record { insertion = stamp-unmarked x.ins two.0; removal = removal-unmarked x.removal_stage two.1; changes = changes-unmarked x.pending q.0 }, list-unmarked xs p.1 q.1)

-- ---- stages of another kind

module _ (kind : SubOperation → Bool) where
  never : (b : Bool) → b && false ≡ false
  never true = refl
  never false = refl

  other-number : (i j : ℕ) → i < j → nat_eq i j ≡ false
  other-number i j l = grind (arith, nat_tests)

  later-number : (i j : ℕ) → i < j → nat_eq j i ≡ false
  later-number i j l = grind (arith, nat_tests)

  none-at : (j k last : ℕ) (ts : List Stage) → j ≤ k → RiseTo k last ts → is_stage_of kind ts j ≡ false
  none-at j k last [] l r = refl
  none-at j k last (t ∷ ts) l r = rw (later-number j t.stage (omega arith)) (none-at j t.stage last ts (omega arith) r.1)

  -- the stage isn't of the kind, and has its number alone
  abbrev pub IsApart : List Stage → Stage → Type 0
  IsApart all t = kind t.sub_operation ≡ false → is_stage_of kind all t.stage ≡ false

  more-apart : (t : Stage) (last k : ℕ) (all us : List Stage) → t.stage ≤ k → RiseTo k last us → Each (IsApart all) us → Each (IsApart (t ∷ all)) us
  more-apart t last k all [] l r h = tt
  more-apart t last k all (u ∷ us) l r h = (
    (λ e. rw (other-number t.stage u.stage (omega arith)) (h.0 e)),
    more-apart t last u.stage all us (omega arith) r.1 h.1,
  )

  pub each-apart : (low last : ℕ) (all : List Stage) → RiseTo low last all → Each (IsApart all) all
  each-apart low last [] r = tt
  each-apart low last (t ∷ ts) r = (
    (λ e. rw e (ap (λ b. b || is_stage_of kind ts t.stage) (never (nat_eq t.stage t.stage)) ∙ none-at t.stage t.stage last ts (omega arith) r.1)),
    more-apart t last t.stage ts ts (omega arith) r.1 (each-apart t.stage last ts r.1),
  )

pub each-front : {A : Type 0} (P : A → Type 0) (xs ys : List A) → Each P (xs ++ ys) → Each P xs
each-front P [] ys h = tt
each-front P (x ∷ xs) ys h = (h.0, each-front P xs ys h.1)

-- ---- a list without elements of the first stages

module _ (inserts removes annotates : SubOperation → Bool) (stages : List Stage) (xs : List ListElement)
    (marks : list_all (has_marks_of inserts removes stages) xs ≡ true) (changes : list_all (λ e. list_all (λ q. is_stage_of annotates stages q.0) e.pending) xs ≡ true) where
  some-unmarked : (own : List Stage) → Each (IsApart inserts stages) own → Each (IsApart removes stages) own → Each (IsApart annotates stages) own
      → Each (λ t. (inserts t.sub_operation ≡ false) × (removes t.sub_operation ≡ false) × (annotates t.sub_operation ≡ false)) own → AreUnmarked own xs
  some-unmarked [] i r a k = tt
  some-unmarked (t ∷ own) i r a k = (
    list-unmarked inserts removes annotates stages t.stage (i.0 k.0.0) (r.0 k.0.1) (a.0 k.0.2) xs marks changes,
    some-unmarked own i.1 r.1 a.1 k.1,
  )

  pub own-unmarked : (low last : ℕ) (own rest : List Stage) → stages ≡ own ++ rest → RiseTo low last stages
      → Each (λ t. (inserts t.sub_operation ≡ false) × (removes t.sub_operation ≡ false) × (annotates t.sub_operation ≡ false)) own → AreUnmarked own xs
  own-unmarked low last own rest e r k =
      some-unmarked own (front inserts) (front removes) (front annotates) k
    where
      front : (kind : SubOperation → Bool) → Each (IsApart kind stages) own
      front kind = each-front (IsApart kind stages) own rest (subst (λ ts. Each (IsApart kind stages) ts) e (each-apart kind low last stages r))

-- ---- ends that stand

standing-found : (a : ElementId) (xs : List ListElement) → list_any (λ e. has_id a e && is_unremoved e) xs ≡ list_any (is_standing_at a) xs
standing-found a [] = refl
standing-found a (e ∷ xs) = ap (λ c. (has_id a e && is_unremoved e) || c) (standing-found a xs) ∙ swapped (has_id a e) (is_unremoved e) (list_any (is_standing_at a) xs)
  where
    swapped : (a b c : Bool) → (a && b) || c ≡ (b && a) || c
    swapped true true c = refl
    swapped true false c = refl
    swapped false true c = refl
    swapped false false c = refl

end-stands : (xs : List ListElement) (o : Option ElementId) → is_end_on xs o ≡ true → Stands xs o
end-stands xs None h = tt
end-stands xs (Some a) h = sym (standing-found a xs) ∙ h

pub ends-stand : (xs : List ListElement) (is : List Interval) → list_all (has_ends_on xs) is ≡ true → EndsStand xs is
ends-stand xs [] h = tt
ends-stand xs (i ∷ is) h =
    let p = both (has_ends_on xs i) (list_all (has_ends_on xs) is) h in
    let q = both (is_end_on xs i.start) (is_end_on xs i.end) p.0 in
    (end-stands xs i.start q.0, end-stands xs i.end q.1, ends-stand xs is p.1)
