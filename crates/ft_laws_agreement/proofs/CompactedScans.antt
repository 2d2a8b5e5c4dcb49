-- Scans of a compacted list give what they give of the whole list, for each test that passes no element that is gone and
-- that sees an old insertion as the universal one.
use Rattle.std.proofs.Common.{◌≡◌, ℕ, zero, suc, ◌≤◌, Bool, true, false, cond, not, ◌&&◌, ◌||◌, List, [], ◌∷◌, ◌++◌, Option, Some, None, refl, sym, ◌∙◌, ap, subst, arith, find, filter, map, nat_le}
use Rattle.std.specs.Option.{option_or, option_map}
use Rattle.std.specs.List.{list_any}
use Rattle.std.proofs.lemmas.Bool.Decides.{nat_tests}
use Rattle.ft_base.specs.declared.stamps.Stamp.{Stamp}
use Rattle.ft_base.specs.declared.stamps.Stamp.TheVariants.{Acked, Local}
use Rattle.ft_base.specs.Scan.{one_more_if, len, at, within, change_range_from, settled_after, rank}
use Rattle.ft_base.specs.Visibility.{has_occurred_at_stage, is_acked}
use Rattle.ft_base.proofs.Booleans.{both}
use Rattle.ft_props.specs.declared.properties.Changes.{Changes}
use Rattle.ft_props.specs.Element.{ListElement, ElementId, SequencedId, same_id, id, id_of_stamp, seen, seen_by, is_pending, is_sequenced, is_unremoved, has_id, removal_stamp, with_removal, with_annotation}
use Rattle.ft_props.specs.Compaction.{Keeps, none, same, universal, collected, is_collectable, has_collectable_removal, is_insertion_at_or_below, with_universal_insertion, is_before_pending, trim_element}
use Rattle.ft_props.specs.Slide.{settle, slide}
use Rattle.ft_props.proofs.CompactedList.{collected-unseen, with_universal_insertion-seen}
use Rattle.ft_laws_agreement.proofs.Booleans.{never}
use Rattle.ft_laws_agreement.proofs.SlidEnds.{same_id-eq}
use Rattle.ft_laws_agreement.proofs.AnyAndAll.{any-append}

-- the test passes no element that is gone, and sees an old insertion as the universal one
pub record Alike (floor : ℕ) (held : ElementId → Bool) (test : ListElement → Bool) : Type 0 where
  pub gone : (e : ListElement) → is_collectable floor e ≡ true → held (id e) ≡ false → test e ≡ false
  pub old : (e : ListElement) → is_insertion_at_or_below floor e.ins ≡ true → test (with_universal_insertion e) ≡ test e

-- an old insertion has its name also as the universal one
pub id-universal : (floor : ℕ) (e : ListElement) → is_insertion_at_or_below floor e.ins ≡ true → id (with_universal_insertion e) ≡ id e
id-universal floor e f = named e.ins f
  where
    named : (t : Stamp) → is_insertion_at_or_below floor t ≡ true → SequencedId e.nth ≡ id_of_stamp t e.nth
    named (Acked s c) f = refl
    named (Local k) f = (cc)

at_least_zero : (n : ℕ) → nat_le 0 n ≡ true
at_least_zero n = grind (arith, nat_tests)

pub trim-universal : (floor : ℕ) (e : ListElement) → is_insertion_at_or_below floor e.ins ≡ true → trim_element floor (with_universal_insertion e) ≡ trim_element floor e
trim-universal floor e f = rw (at_least_zero floor, f) refl

module _ {floor : ℕ} {held : ElementId → Bool} where
  module _ (test : ListElement → Bool) (h : Alike floor held test) where
    pub len-kept : {ks xs : List ListElement} → Keeps floor held ks xs → len test ks ≡ len test xs
    len-kept none = refl
    len-kept (same {e = e} k) = ap (one_more_if (test e)) (len-kept k)
    len-kept (universal {e = e} f k) = rw (h.old e f) (ap (one_more_if (test e)) (len-kept k))
    len-kept (collected {e = e} g u n k) = rw (h.gone e g u) (len-kept k)

    found-same : (e : ListElement) (b : Bool) (o p : Option ListElement) → option_map id o ≡ option_map id p → option_map id (cond b (Some e) o) ≡ option_map id (cond b (Some e) p)
    found-same e true o p q = refl
    found-same e false o p q = q

    found-universal : (e : ListElement) (b : Bool) (o p : Option ListElement) → is_insertion_at_or_below floor e.ins ≡ true → option_map id o ≡ option_map id p
        → option_map id (cond b (Some (with_universal_insertion e)) o) ≡ option_map id (cond b (Some e) p)
    found-universal e true o p f q = ap Some (id-universal floor e f)
    found-universal e false o p f q = q

    pub find-kept : {ks xs : List ListElement} → Keeps floor held ks xs → option_map id (find test ks) ≡ option_map id (find test xs)
    find-kept none = refl
    find-kept (same {e = e} {ks = ks} {xs = xs} k) = found-same e (test e) (find test ks) (find test xs) (find-kept k)
    find-kept (universal {e = e} {ks = ks} {xs = xs} f k) = rw (h.old e f) (found-universal e (test e) (find test ks) (find test xs) f (find-kept k))
    find-kept (collected {e = e} g u n k) = rw (h.gone e g u) (find-kept k)

    pub at-kept : {ks xs : List ListElement} (i : ℕ) → Keeps floor held ks xs → option_map id (at test i ks) ≡ option_map id (at test i xs)
    at-kept i none = refl
    at-kept zero (same {e = e} {ks = ks} {xs = xs} k) = found-same e (test e) (at test zero ks) (at test zero xs) (at-kept zero k)
    at-kept zero (universal {e = e} {ks = ks} {xs = xs} f k) = rw (h.old e f) (found-universal e (test e) (at test zero ks) (at test zero xs) f (at-kept zero k))
    at-kept zero (collected {e = e} g u n k) = rw (h.gone e g u) (at-kept zero k)
    at-kept (suc i) (same {e = e} k) = at-kept (cond (test e) i (suc i)) k
    at-kept (suc i) (universal {e = e} f k) = rw (h.old e f) (at-kept (cond (test e) i (suc i)) k)
    at-kept (suc i) (collected {e = e} g u n k) = rw (h.gone e g u) (at-kept (suc i) k)

    -- the elements that pass are the same, but for old insertions
    pub filter-kept : {ks xs : List ListElement} → Keeps floor held ks xs → map (trim_element floor) (filter test ks) ≡ map (trim_element floor) (filter test xs)
    filter-kept none = refl
    filter-kept (same {e = e} {ks = ks} {xs = xs} k) = chosen (test e) (filter-kept k)
      where
        chosen : (b : Bool) → map (trim_element floor) (filter test ks) ≡ map (trim_element floor) (filter test xs)
            → map (trim_element floor) (cond b (e ∷ filter test ks) (filter test ks)) ≡ map (trim_element floor) (cond b (e ∷ filter test xs) (filter test xs))
        chosen true q = ap (λ us. trim_element floor e ∷ us) q
        chosen false q = q
    filter-kept (universal {e = e} {ks = ks} {xs = xs} f k) = rw (h.old e f) (chosen (test e) (filter-kept k))
      where
        chosen : (b : Bool) → map (trim_element floor) (filter test ks) ≡ map (trim_element floor) (filter test xs)
            → map (trim_element floor) (cond b (with_universal_insertion e ∷ filter test ks) (filter test ks))
            ≡ map (trim_element floor) (cond b (e ∷ filter test xs) (filter test xs))
        chosen true q = ap (λ d. d ∷ map (trim_element floor) (filter test ks)) (trim-universal floor e f) ∙ ap (λ us. trim_element floor e ∷ us) q
        chosen false q = q
    filter-kept (collected {e = e} g u n k) = rw (h.gone e g u) (filter-kept k)

  module _ (is ok : ListElement → Bool) (h : Alike floor held is) (g : Alike floor held ok) where
    pub rank-kept : {ks xs : List ListElement} → Keeps floor held ks xs → rank is ok ks ≡ rank is ok xs
    rank-kept none = refl
    rank-kept (same {e = e} k) = ap (λ n. cond (is e) 0 (one_more_if (ok e) n)) (rank-kept k)
    rank-kept (universal {e = e} f k) = rw (h.old e f, g.old e f) (ap (λ n. cond (is e) 0 (one_more_if (ok e) n)) (rank-kept k))
    rank-kept (collected {e = e} c u n k) = rw (h.gone e c u, g.gone e c u) (rank-kept k)

    or-kept : (a b c d : Option ListElement) → option_map id a ≡ option_map id b → option_map id c ≡ option_map id d → option_map id (option_or a c) ≡ option_map id (option_or b d)
    or-kept None None c d p q = q
    or-kept (Some x) (Some y) c d p q = p
    or-kept None (Some y) c d p q = (cc)
    or-kept (Some x) None c d p q = (cc)

    chosen-kept : (b : Bool) (o p u v : Option ListElement) → option_map id o ≡ option_map id p → option_map id u ≡ option_map id v
        → option_map id (cond b o u) ≡ option_map id (cond b p v)
    chosen-kept true o p u v q r = q
    chosen-kept false o p u v q r = r

    pub settled-kept : {ks xs : List ListElement} (before last : Option ListElement) → option_map id before ≡ option_map id last → Keeps floor held ks xs
        → option_map id (settled_after is ok before ks) ≡ option_map id (settled_after is ok last xs)
    settled-kept before last q none = refl
    settled-kept before last q (same {e = e} {ks = ks} {xs = xs} k) =
        chosen-kept (is e) (option_or (find ok (e ∷ ks)) before) (option_or (find ok (e ∷ xs)) last) (settled_after is ok (cond (ok e) (Some e) before) ks)
        (settled_after is ok (cond (ok e) (Some e) last) xs)
        (or-kept (find ok (e ∷ ks)) (find ok (e ∷ xs)) before last (find-kept ok g (same k)) q)
        (settled-kept (cond (ok e) (Some e) before) (cond (ok e) (Some e) last) (found-same ok g e (ok e) before last q) k)
    settled-kept before last q (universal {e = e} {ks = ks} {xs = xs} f k) =
        let d = with_universal_insertion e in
        rw (h.old e f) (chosen-kept (is e) (option_or (find ok (d ∷ ks)) before) (option_or (find ok (e ∷ xs)) last)
        (settled_after is ok (cond (ok d) (Some d) before) ks) (settled_after is ok (cond (ok e) (Some e) last) xs)
        (or-kept (find ok (d ∷ ks)) (find ok (e ∷ xs)) before last (find-kept ok g (universal f k)) q)
        (settled-kept (cond (ok d) (Some d) before) (cond (ok e) (Some e) last) (rw (g.old e f) (found-universal ok g e (ok e) before last f q)) k))
    settled-kept before last q (collected {e = e} c u n k) = rw (h.gone e c u, g.gone e c u) (settled-kept before last q k)

-- ---- the tests

pub seen_by-alike : (floor r c : ℕ) (held : ElementId → Bool) → floor ≤ r → Alike floor held (seen_by r c)
seen_by-alike floor r c held above = record { gone = λ e g u. collected-unseen floor r c above e g; old = λ e f. with_universal_insertion-seen floor r c above e f }

pub removed-by : (floor : ℕ) (occurred : Stamp → Bool) → ((s c : ℕ) → occurred (Acked s c) ≡ true) → (dels : List Stamp) → has_collectable_removal floor dels
    ≡ true → list_any occurred dels ≡ true
removed-by floor occurred h [] g = (cc)
removed-by floor occurred h (Acked s c ∷ dels) g = ap (λ b. b || list_any occurred dels) (h s c)
removed-by floor occurred h (Local k ∷ dels) g = (cc)

-- every test of stamps by which each sequenced stamp has occurred
present-alike : (floor : ℕ) (held : ElementId → Bool) (occurred : Stamp → Bool) → ((s c : ℕ) → occurred (Acked s c) ≡ true)
    → Alike floor held (λ e. occurred e.ins && not (list_any occurred (e.dels ++ removal_stamp e.removal_stage)))
present-alike floor held occurred h = record {
  gone = λ e g u. rw (any-append occurred e.dels (removal_stamp e.removal_stage)
      (removed-by floor occurred h e.dels (both (is_acked e.ins) (has_collectable_removal floor e.dels) g).1)) (never (occurred e.ins));
  old = λ e f. ap (λ b. b && not (list_any occurred (e.dels ++ removal_stamp e.removal_stage))) (h 0 0 ∙ sym (sequenced e.ins f));
}
  where
    sequenced : (t : Stamp) → is_insertion_at_or_below floor t ≡ true → occurred t ≡ true
    sequenced (Acked s c) f = h s c
    sequenced (Local k) f = (cc)

pub seen-alike : (floor k : ℕ) (held : ElementId → Bool) → Alike floor held (seen k)
seen-alike floor k held = present-alike floor held (has_occurred_at_stage k) (λ s c. refl)

pub unremoved-alike : (floor : ℕ) (held : ElementId → Bool) → Alike floor held is_unremoved
unremoved-alike floor held = present-alike floor held is_acked (λ s c. refl)

-- a name that is held is none that isn't
pub held-apart : (held : ElementId → Bool) (x y : ElementId) → held x ≡ true → held y ≡ false → same_id x y ≡ false
held-apart held x y h k = step (same_id x y) refl
  where
    step : (b : Bool) → same_id x y ≡ b → b ≡ false
    step true e = let q : x ≡ y = same_id-eq x y e in cc (ap held q)
    step false e = refl

pub has_id-alike : (floor : ℕ) (held : ElementId → Bool) (x : ElementId) → held x ≡ true → Alike floor held (has_id x)
has_id-alike floor held x h = record { gone = λ e g u. held-apart held x (id e) h u; old = λ e f. ap (same_id x) (id-universal floor e f) }

pub sequenced_id-alike : (floor : ℕ) (held : ElementId → Bool) (x : ElementId) → held x ≡ true → Alike floor held (λ e. is_sequenced e && has_id x e)
sequenced_id-alike floor held x h = record {
  gone = λ e g u. rw (held-apart held x (id e) h u) (never (is_sequenced e));
  old = λ e f. sequenced e e.ins f;
}
  where
    sequenced : (e : ListElement) (t : Stamp) → is_insertion_at_or_below floor t ≡ true → same_id x (SequencedId e.nth) ≡ is_acked t && same_id x (id_of_stamp t e.nth)
    sequenced e (Acked s c) f = refl
    sequenced e (Local k) f = (cc)

-- ---- ends of intervals

-- the end is detached, or its name is held
abbrev pub is_held_end : (ElementId → Bool) → Option ElementId → Bool
is_held_end held None = true
is_held_end held (Some x) = held x

-- an end that is held slides in a compacted list as in the whole one
pub slide-kept : {floor : ℕ} {held : ElementId → Bool} {ks xs : List ListElement} (x : Option ElementId) → is_held_end held x ≡ true → Keeps floor held ks xs
    → slide ks x ≡ slide xs x
slide-kept None h k = refl
slide-kept {floor} {held} (Some x) h k =
    settled-kept (λ e. is_sequenced e && has_id x e) is_unremoved (sequenced_id-alike floor held x h) (unremoved-alike floor held) None None refl k

-- and settles there as in the whole one
pub settle-kept : {floor : ℕ} {held : ElementId → Bool} {ks xs : List ListElement} (k : ℕ) (x : Option ElementId) → is_held_end held x ≡ true
    → Keeps floor held ks xs → settle ks k x ≡ settle xs k x
settle-kept k None h kept = refl
settle-kept {floor} {held} k (Some x) h kept = settled-kept (has_id x) (seen k) (has_id-alike floor held x h) (seen-alike floor k held) None None refl kept

-- ---- marks of elements

-- f leaves names and insertions alone, and takes no removal away
pub record Marking (floor : ℕ) (f : ListElement → ListElement) : Type 0 where
  pub name : (e : ListElement) → id (f e) ≡ id e
  pub ins : (e : ListElement) → (f e).ins ≡ e.ins
  pub gone : (e : ListElement) → is_collectable floor e ≡ true → is_collectable floor (f e) ≡ true
  pub old : (e : ListElement) → f (with_universal_insertion e) ≡ with_universal_insertion (f e)

pub removal-more : (floor : ℕ) (dels more : List Stamp) → has_collectable_removal floor dels ≡ true → has_collectable_removal floor (dels ++ more) ≡ true
removal-more floor [] more h = (cc)
removal-more floor (Acked s c ∷ dels) more h = h
removal-more floor (Local k ∷ dels) more h = (cc)

pub with_removal-marking : (floor s c : ℕ) → Marking floor (with_removal s c)
with_removal-marking floor s c = record {
  name = λ e. refl;
  ins = λ e. refl;
  gone = λ e g. let p = both (is_acked e.ins) (has_collectable_removal floor e.dels) g in rw (p.0, removal-more floor e.dels (Acked s c ∷ []) p.1) refl;
  old = λ e. refl;
}

pub with_annotation-marking : (floor : ℕ) (c : Changes) → Marking floor (with_annotation c)
with_annotation-marking floor c = record { name = λ e. refl; ins = λ e. refl; gone = λ e g. g; old = λ e. refl }

module _ {floor : ℕ} {held : ElementId → Bool} (test : ListElement → Bool) (h : Alike floor held test) (f : ListElement → ListElement) (m : Marking floor f) where
  pending-choice : (b : Bool) (e : ListElement) → is_pending (cond b (f e) e) ≡ is_pending e
  pending-choice true e = ap (λ t. not (is_acked t)) (m.ins e)
  pending-choice false e = refl

  before-range : (i p q : ℕ) (xs : List ListElement) → is_before_pending (change_range_from i test p q f xs) ≡ is_before_pending xs
  before-range i p q [] = refl
  before-range i p q (x ∷ xs) = pending-choice (test x && within p q i) x

  universal-choice : (b : Bool) (e : ListElement) {ks xs : List ListElement} → is_insertion_at_or_below floor e.ins ≡ true → Keeps floor held ks xs
      → Keeps floor held (cond b (f (with_universal_insertion e)) (with_universal_insertion e) ∷ ks) (cond b (f e) e ∷ xs)
  universal-choice true e {ks} {xs} g k = subst (λ d. Keeps floor held (d ∷ ks) (f e ∷ xs)) (sym (m.old e)) (universal (rw (m.ins e) g) k)
  universal-choice false e g k = universal g k

  collected-choice : (b : Bool) (e : ListElement) {ks xs : List ListElement} → is_collectable floor e ≡ true → held (id e) ≡ false → is_before_pending xs
      ≡ false → Keeps floor held ks xs
      → Keeps floor held ks (cond b (f e) e ∷ xs)
  collected-choice true e g u n k = collected (m.gone e g) (rw (m.name e) u) n k
  collected-choice false e g u n k = collected g u n k

  -- marks on a range keep the relation
  pub range-kept : {ks xs : List ListElement} (i p q : ℕ) → Keeps floor held ks xs → Keeps floor held (change_range_from i test p q f ks) (change_range_from i test p q f xs)
  range-kept i p q none = none
  range-kept i p q (same {e = e} k) = same (range-kept (one_more_if (test e) i) p q k)
  range-kept i p q (universal {e = e} {ks = ks} {xs = xs} g k) =
      subst (λ b. Keeps floor held (cond (b && within p q i) (f (with_universal_insertion e)) (with_universal_insertion e) ∷ change_range_from
      (one_more_if b i) test p q f ks) (cond (test e && within p q i) (f e) e ∷ change_range_from (one_more_if (test e) i) test p q f xs))
      (sym (h.old e g)) (universal-choice (test e && within p q i) e g (range-kept (one_more_if (test e) i) p q k))
  range-kept i p q (collected {e = e} {ks = ks} {xs = xs} g u n k) =
      subst (λ b. Keeps floor held (change_range_from i test p q f ks) (cond (b && within p q i) (f e) e ∷ change_range_from (one_more_if b i) test p q f xs))
      (sym (h.gone e g u)) (collected g u (before-range i p q xs ∙ n) (range-kept i p q k))
