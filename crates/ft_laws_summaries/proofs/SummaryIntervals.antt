-- The intervals that the summary of an idle client gives are those of its trimmed document, by the places of their ends.
use Rattle.std.proofs.Common.{◌≡◌, ℕ, zero, suc, ◌+◌, ◌≤◌, ◌<◌, Bool, true, false, cond, not, ◌&&◌, ◌||◌, nat_eq, List, [], ◌∷◌, ◌++◌, map, length, replicate, Option, Some, None, option_map, refl, sym, ◌∙◌, ap, subst, arith}
use Rattle.std.specs.List.{list_all, list_any}
use Rattle.std.proofs.lemmas.Bool.Decides.{nat_tests}
use Rattle.ft_base.proofs.Booleans.{all_four, both}
use Rattle.ft_base.specs.declared.stamps.Stamp.{Stamp}
use Rattle.ft_base.specs.declared.stamps.Stamp.TheVariants.{Acked, Local}
use Rattle.ft_base.specs.Scan.{at, len, one_more_if, rank}
use Rattle.ft_base.specs.Visibility.{has_occurred_at_stage, is_acked, is_present}
use Rattle.ft_sumdoc.specs.declared.summary.RunRec.{RunRec}
use Rattle.ft_sumdoc.specs.declared.summary.SegRec.{SegRec}
use Rattle.ft_props.specs.Properties.{PropertyList}
use Rattle.ft_props.specs.Element.{ElementContent, ElementId, GridUnit, ListElement, NamelessElement, SequencedId, has_id, id, is_unremoved, nameless, new_elements, same_id, seen}
use Rattle.ft_props.specs.Slide.{end_number}
use Rattle.ft_op.specs.Intervals.{Interval, element_at_end}
use Rattle.ft_msg.specs.Content.{interval_record}
use Rattle.ft_msg.specs.Indexed.{indexed_interval, place_in_list}
use Rattle.ft_marks.specs.Marks.{stamp_of}
use Rattle.ft_msg.specs.Summary.{interval_of, run_items, segment_bodies, segment_items}
use Rattle.ft_laws_agreement.specs.Trimming.{are_distinct_elements, has_ends_on, is_end_on}
use Rattle.ft_laws_agreement.proofs.SettledNames.{at-rank}
use Rattle.ft_laws_agreement.proofs.SlidEnds.{same_id-eq, same_id-refl}
use Rattle.ft_laws_summaries.proofs.OrderedEnds.{at-named, other-name}
use Rattle.ft_laws_summaries.proofs.SummaryLists.{is_authored, is_empty, is_none, is_of_text, is_plain, is_settled}

-- ---- places

-- how many elements stand before the p-th that passes
abbrev pub before : {A : Type 0} → (A → Bool) → ℕ → List A → ℕ
before test p [] = 0
before test zero (x ∷ xs) = cond (test x) 0 (suc (before test zero xs))
before test (suc p) (x ∷ xs) = suc (before test (cond (test x) p (suc p)) xs)

before-map : {A B : Type 0} (test : B → Bool) (f : A → B) (p : ℕ) (xs : List A) → before test p (map f xs) ≡ before (λ x. test (f x)) p xs
before-map test f p [] = refl
before-map test f zero (x ∷ xs) = ap (λ n. cond (test (f x)) 0 (suc n)) (before-map test f zero xs)
before-map test f (suc p) (x ∷ xs) = ap suc (before-map test f (cond (test (f x)) p (suc p)) xs)

at-map : {A B : Type 0} (test : B → Bool) (f : A → B) (p : ℕ) (xs : List A) → at test p (map f xs) ≡ option_map f (at (λ x. test (f x)) p xs)
at-map test f p [] = refl
at-map test f zero (x ∷ xs) = by (test (f x)) (at-map test f zero xs)
  where
    by : (b : Bool) → at test zero (map f xs) ≡ option_map f (at (λ x. test (f x)) zero xs) → cond b (Some (f x)) (at test zero (map f xs))
        ≡ option_map f (cond b (Some x) (at (λ x. test (f x)) zero xs))
    by true h = refl
    by false h = h
at-map test f (suc p) (x ∷ xs) = at-map test f (cond (test (f x)) p (suc p)) xs

-- the place of the p-th element that passes
at-place : (test : ListElement → Bool) (p : ℕ) (xs : List ListElement) (e : ListElement) → are_distinct_elements xs ≡ true → at test p xs ≡ Some e
    → rank (has_id (id e)) (λ d. true) xs ≡ before test p xs
at-place test p [] e d h = refl
at-place test p (x ∷ xs) e d h = by (test x) refl p h (λ q g. at-place test q xs e (both (not (list_any (has_id (id x)) xs)) (are_distinct_elements xs) d).1 g)
  where
    later : (q : ℕ) → at test q xs ≡ Some e → rank (has_id (id e)) (λ d. true) xs ≡ before test q xs
        → cond (has_id (id e) x) 0 (suc (rank (has_id (id e)) (λ d. true) xs)) ≡ suc (before test q xs)
    later q g ih = ap (λ b. cond b 0 (suc (rank (has_id (id e)) (λ d. true) xs))) (other-name (id e) x xs d (at-named test q xs e g)) ∙ ap suc ih

    by : (t : Bool) → test x ≡ t → (q : ℕ) → at test q (x ∷ xs) ≡ Some e → ((n : ℕ) → at test n xs ≡ Some e → rank (has_id (id e)) (λ d. true) xs ≡ before test n xs)
        → cond (has_id (id e) x) 0 (suc (rank (has_id (id e)) (λ d. true) xs)) ≡ before test q (x ∷ xs)
    by true c zero g ih =
        let first : Some x ≡ Some e = sym (ap (λ b. cond b (Some x) (at test zero xs)) c) ∙ g in
        let same : x ≡ e = (cc) in
        ap (λ b. cond b 0 (suc (rank (has_id (id e)) (λ d. true) xs))) (ap (λ (z : ListElement). same_id (id e) (id z)) same ∙ same_id-refl (id e))
        ∙ sym (ap (λ b. cond b 0 (suc (before test zero xs))) c)
    by false c zero g ih =
        let n : at test zero xs ≡ Some e = sym (ap (λ b. cond b (Some x) (at test zero xs)) c) ∙ g in
        later zero n (ih zero n) ∙ sym (ap (λ b. cond b 0 (suc (before test zero xs))) c)
    by true c (suc q) g ih =
        let n : at test q xs ≡ Some e = sym (ap (λ b. at test (cond b q (suc q)) xs) c) ∙ g in
        later q n (ih q n) ∙ sym (ap (λ b. suc (before test (cond b q (suc q)) xs)) c)
    by false c (suc q) g ih =
        let n : at test (suc q) xs ≡ Some e = sym (ap (λ b. at test (cond b q (suc q)) xs) c) ∙ g in
        later (suc q) n (ih (suc q) n) ∙ sym (ap (λ b. suc (before test (cond b q (suc q)) xs)) c)

-- two lists with the same elements but for names, each with distinct names: the p-th unremoved one stands at the same place
same-place : (p : ℕ) (xs ys : List ListElement) (e : ListElement) → map nameless ys ≡ map nameless xs → are_distinct_elements xs ≡ true → are_distinct_elements ys ≡ true
    → at is_unremoved p xs ≡ Some e
    → place_in_list ys (option_map id (at is_unremoved p ys)) ≡ place_in_list xs (Some (id e))
same-place p xs ys e same d f h = by (at is_unremoved p ys) refl
  where
    u : NamelessElement → Bool
    u n = is_present is_acked n.stamps

    there : option_map nameless (at is_unremoved p ys) ≡ Some (nameless e)
    there = sym (at-map (λ (n : NamelessElement). is_present is_acked n.stamps) nameless p ys)
        ∙ (ap (at (λ (n : NamelessElement). is_present is_acked n.stamps) p) same
        ∙ (at-map (λ (n : NamelessElement). is_present is_acked n.stamps) nameless p xs ∙ ap (option_map nameless) h))

    count : before is_unremoved p ys ≡ before is_unremoved p xs
    count = sym (before-map (λ (n : NamelessElement). is_present is_acked n.stamps) nameless p ys)
        ∙ (ap (before (λ (n : NamelessElement). is_present is_acked n.stamps) p) same ∙ before-map (λ (n : NamelessElement). is_present is_acked n.stamps) nameless p xs)

    by : (o : Option ListElement) → at is_unremoved p ys ≡ o → place_in_list ys (option_map id o) ≡ place_in_list xs (Some (id e))
    by None g = let wrong : None ≡ Some (nameless e) = sym (ap (option_map nameless) g) ∙ there in (cc)
    by (Some y) g = ap Some (at-place is_unremoved p ys y f g ∙ (count ∙ sym (at-place is_unremoved p xs e d h)))

-- ---- names of a summary's elements

abbrev pub AreNumbered : ℕ → List ListElement → Type 0
AreNumbered n [] = Unit {0}
AreNumbered n (e ∷ xs) = (id e ≡ SequencedId n) × AreNumbered (n + 1) xs

numbered-more : (n : ℕ) (xs ys : List ListElement) → AreNumbered n xs → AreNumbered (n + length xs) ys → AreNumbered n (xs ++ ys)
numbered-more n [] ys h g = subst (λ i. AreNumbered i ys) (none n) g
  where
    none : (i : ℕ) → i + 0 ≡ i
    none i = omega arith
numbered-more n (x ∷ xs) ys h g = (h.0, numbered-more (n + 1) xs ys h.1 (subst (λ i. AreNumbered i ys) (next n (length xs)) g))
  where
    next : (i j : ℕ) → i + suc j ≡ i + 1 + j
    next i j = omega arith

new-numbered : (n s c : ℕ) (dels : List Stamp) (by : Option Stamp) (props : PropertyList) (bs : List ElementContent) → AreNumbered n (new_elements n (Acked s c) dels by props bs)
new-numbered n s c dels by props [] = tt
new-numbered n s c dels by props (b ∷ bs) = (refl, new-numbered (n + 1) s c dels by props bs)

new-length : (n s c : ℕ) (dels : List Stamp) (by : Option Stamp) (props : PropertyList) (bs : List ElementContent)
    → length (new_elements n (Acked s c) dels by props bs) ≡ length bs
new-length n s c dels by props [] = refl
new-length n s c dels by props (b ∷ bs) = ap suc (new-length (n + 1) s c dels by props bs)

segments-numbered : (n : ℕ) (segs : List SegRec) → AreNumbered n (segment_items n segs)
segments-numbered n [] = tt
segments-numbered n (s ∷ segs) =
    let new = new_elements n (stamp_of s.ins) (map stamp_of s.dels) (Some (stamp_of s.by)) s.props (segment_bodies s.body) in
    numbered-more n (new_elements n (stamp_of s.ins) (map stamp_of s.dels) (Some (stamp_of s.by)) s.props (segment_bodies s.body))
    (segment_items (n + length (segment_bodies s.body)) segs)
    (new-numbered n s.ins.seq s.ins.conn (map stamp_of s.dels) (Some (stamp_of s.by)) s.props (segment_bodies s.body))
    (subst (λ i. AreNumbered (n + i) (segment_items (n + length (segment_bodies s.body)) segs))
    (sym (new-length n s.ins.seq s.ins.conn (map stamp_of s.dels) (Some (stamp_of s.by)) s.props (segment_bodies s.body)))
    (segments-numbered (n + length (segment_bodies s.body)) segs))

pub runs-numbered : (n : ℕ) (runs : List RunRec) → AreNumbered n (run_items n runs)
runs-numbered n [] = tt
runs-numbered n (r ∷ runs) =
    numbered-more n (new_elements n (stamp_of r.ins) (map stamp_of r.dels) None [] (replicate r.count GridUnit)) (run_items (n + r.count) runs)
    (new-numbered n r.ins.seq r.ins.conn (map stamp_of r.dels) None [] (replicate r.count GridUnit))
    (subst (λ i. AreNumbered (n + i) (run_items (n + r.count) runs))
    (sym (new-length n r.ins.seq r.ins.conn (map stamp_of r.dels) None [] (replicate r.count GridUnit) ∙ length-replicate r.count))
    (runs-numbered (n + r.count) runs))
  where
    length-replicate : (k : ℕ) → length (replicate k GridUnit) ≡ k
    length-replicate zero = refl
    length-replicate (suc k) = ap suc (length-replicate k)

none-below : (m n : ℕ) (xs : List ListElement) → m < n → AreNumbered n xs → list_any (has_id (SequencedId m)) xs ≡ false
none-below m n [] l h = refl
none-below m n (x ∷ xs) l h = rw (ap (same_id (SequencedId m)) h.0 ∙ other m n l, none-below m (n + 1) xs (omega (arith, l)) h.1) refl
  where
    other : (i j : ℕ) → i < j → nat_eq i j ≡ false
    other i j k = grind (arith, nat_tests)

numbered-distinct : (n : ℕ) (xs : List ListElement) → AreNumbered n xs → are_distinct_elements xs ≡ true
numbered-distinct n [] h = refl
numbered-distinct n (x ∷ xs) h = rw (ap (λ a. list_any (has_id a) xs) h.0 ∙ none-below n (n + 1) xs (omega arith) h.1, numbered-distinct (n + 1) xs h.1) refl

-- ---- ends

-- what is sequenced is seen where it is unremoved
pub settled-seen : (e : ListElement) → is_settled e ≡ true → seen 0 e ≡ is_unremoved e
settled-seen e h =
    let q = all_four (is_acked e.ins) (list_all is_acked e.dels) (is_none e.removal_stage) (is_empty e.pending) h in
    by e.removal_stage q.2 (stamp e.ins q.0) (stamps e.dels q.1)
  where
    stamp : (t : Stamp) → is_acked t ≡ true → has_occurred_at_stage 0 t ≡ is_acked t
    stamp (Acked s c) g = refl
    stamp (Local k) g = (cc)

    stamps : (ts : List Stamp) → list_all is_acked ts ≡ true → list_any (has_occurred_at_stage 0) (ts ++ []) ≡ list_any is_acked (ts ++ [])
    stamps [] g = refl
    stamps (Acked s c ∷ ts) g = refl
    stamps (Local k ∷ ts) g = (cc)

    by : (m : Option ℕ) → is_none m ≡ true → has_occurred_at_stage 0 e.ins ≡ is_acked e.ins → list_any (has_occurred_at_stage 0) (e.dels ++ []) ≡ list_any is_acked (e.dels ++ [])
        → seen 0 (record e { removal_stage = m }) ≡ is_unremoved (record e { removal_stage = m })
    by (Some k) n a b = (cc)
    by None n a b = rw (a, b) refl

pub plain-seen : (e : ListElement) → is_plain e ≡ true → seen 0 e ≡ is_unremoved e
plain-seen e h = settled-seen e (both (is_settled e) (is_authored e.by && is_of_text e.content) h).0

pub plain-rank : (is : ListElement → Bool) (xs : List ListElement) → list_all is_plain xs ≡ true → rank is (seen 0) xs ≡ rank is is_unremoved xs
plain-rank is [] h = refl
plain-rank is (e ∷ xs) h =
    let p = both (is_plain e) (list_all is_plain xs) h in
    ap (λ n. cond (is e) 0 (one_more_if (seen 0 e) n)) (plain-rank is xs p.1) ∙ ap (λ b. cond (is e) 0 (one_more_if b (rank is is_unremoved xs))) (plain-seen e p.0)

pub distinct-once : (xs : List ListElement) (a : ElementId) → are_distinct_elements xs ≡ true → len (has_id a) xs ≤ 1
distinct-once [] a h = omega arith
distinct-once (e ∷ xs) a h =
    let p = both (not (list_any (has_id (id e)) xs)) (are_distinct_elements xs) h in
    by (has_id a e) refl p.0 (distinct-once xs a p.1)
  where
    none : (b : ElementId) (ys : List ListElement) → not (list_any (has_id b) ys) ≡ true → len (has_id b) ys ≡ 0
    none b [] g = refl
    none b (y ∷ ys) g = step (has_id b y) g (λ k. none b ys k)
      where
        step : (t : Bool) → not (t || list_any (has_id b) ys) ≡ true → (not (list_any (has_id b) ys) ≡ true → len (has_id b) ys ≡ 0) → one_more_if t (len (has_id b) ys) ≡ 0
        step true k ih = (cc)
        step false k ih = ih k

    by : (t : Bool) → has_id a e ≡ t → not (list_any (has_id (id e)) xs) ≡ true → len (has_id a) xs ≤ 1 → one_more_if t (len (has_id a) xs) ≤ 1
    by true g n ih = let z : len (has_id a) xs ≡ 0 = ap (λ b. len (has_id b) xs) (same_id-eq a (id e) g) ∙ none (id e) xs n in omega (arith, z)
    by false g n ih = ih

module _ (xs ys : List ListElement) (same : map nameless ys ≡ map nameless xs) (d : are_distinct_elements xs ≡ true) (f : are_distinct_elements ys ≡ true) (plain : list_all
    is_plain xs ≡ true) where
  end-back : (o : Option ElementId) → is_end_on xs o ≡ true → place_in_list ys (element_at_end is_unremoved ys (end_number 0 xs o)) ≡ place_in_list xs o
  end-back None h = refl
  end-back (Some a) h =
      let p = rank (has_id a) is_unremoved xs in
      let there : option_map id (at is_unremoved (rank (has_id a) is_unremoved xs) xs) ≡ Some a = at-rank is_unremoved a xs (distinct-once xs a d) h in
      ap (λ n. place_in_list ys (option_map id (at is_unremoved n ys))) (plain-rank (has_id a) xs plain)
      ∙ by (at is_unremoved (rank (has_id a) is_unremoved xs) xs) refl there
    where
      by : (o : Option ListElement) → at is_unremoved (rank (has_id a) is_unremoved xs) xs ≡ o → option_map id o ≡ Some a
          → place_in_list ys (option_map id (at is_unremoved (rank (has_id a) is_unremoved xs) ys)) ≡ place_in_list xs (Some a)
      by None g k = (cc)
      by (Some e) g k =
          let named : id e ≡ a = (cc) in
          same-place (rank (has_id a) is_unremoved xs) xs ys e same d f g ∙ ap (λ b. place_in_list xs (Some b)) named

  -- intervals by the places of their ends
  pub intervals-back : (is : List Interval) → list_all (has_ends_on xs) is ≡ true
      → map (indexed_interval ys) (map (interval_of ys) (map (interval_record 0 xs) is)) ≡ map (indexed_interval xs) is
  intervals-back [] h = refl
  intervals-back (i ∷ is) h =
      let p = both (has_ends_on xs i) (list_all (has_ends_on xs) is) h in
      let q = both (is_end_on xs i.start) (is_end_on xs i.end) p.0 in
      rw (end-back i.start q.0, end-back i.end q.1, intervals-back is p.1) refl

pub segments-distinct : (segs : List SegRec) → are_distinct_elements (segment_items 0 segs) ≡ true
segments-distinct segs = numbered-distinct 0 (segment_items 0 segs) (segments-numbered 0 segs)
