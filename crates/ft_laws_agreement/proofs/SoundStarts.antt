-- What is known of a client that begins with a sound start: nothing is pending, and all that the laws ask of a client holds.
use Rattle.std.proofs.Common.{◌≡◌, ℕ, ◌≤◌, Bool, true, false, not, ◌&&◌, ◌||◌, List, [], ◌∷◌, Option, Some, None, refl, sym, ◌∙◌, ap, subst, arith}
use Rattle.std.specs.List.{list_all, list_any}
use Rattle.std.proofs.lemmas.Bool.Decides.{nat_tests}
use Rattle.ft_base.proofs.Booleans.{all_four, both}
use Rattle.ft_base.specs.declared.stamps.Stamp.{Stamp}
use Rattle.ft_base.specs.declared.stamps.Stamp.TheVariants.{Acked, Local}
use Rattle.ft_base.specs.Scan.{len, one_more_if}
use Rattle.ft_props.specs.Element.{ElementId, ListElement, PendingId, SequencedId, has_id, id, is_unremoved, same_id}
use Rattle.ft_props.specs.Steps.{Sequence}
use Rattle.ft_op.specs.Document.{Document, empty, sequenced_part}
use Rattle.ft_op.specs.Intervals.{Interval}
use Rattle.ft_msg.specs.Client.{client_over}
use Rattle.ft_laws_agreement.specs.Starts.{IsSoundStart, has_no_items, is_nothing, is_sequenced_up_to, is_settled}
use Rattle.ft_laws_agreement.specs.Trimming.{IsConsistent, IsNumbered, are_distinct_elements, has_ends_on, is_end_on, is_numbered_below}
use Rattle.ft_laws_agreement.proofs.AgreedStage.{EndsStand, IsFresh, IsNamed, IsSound}
use Rattle.ft_laws_agreement.proofs.BareLists.{lists-bare}
use Rattle.ft_laws_agreement.proofs.ClientHolds.{ClientHolds}
use Rattle.ft_laws_agreement.proofs.NumberTests.{below-other}
use Rattle.ft_laws_agreement.proofs.OwnNames.{all-weaker}
use Rattle.ft_laws_agreement.proofs.OrderedMarks.{is_ordered, is_unremoved_pending}
use Rattle.ft_laws_agreement.proofs.SlidEnds.{Once, Stands, is_standing_at, same_id-eq}
use Rattle.ft_laws_agreement.proofs.WithinStages.{is_numbered, is_within, stamp_within}

-- ---- elements

within-stamp : (n : ℕ) (t : Stamp) → is_sequenced_up_to n t ≡ true → stamp_within n [] t ≡ true
within-stamp n (Acked s c) h = h
within-stamp n (Local k) h = (cc)

numbered-stamp : (n : ℕ) (t : Stamp) → is_sequenced_up_to n t ≡ true → is_numbered n t ≡ true
numbered-stamp n (Acked s c) h = h
numbered-stamp n (Local k) h = (cc)

no-mark : (m : Option ℕ) → is_nothing m ≡ true → m ≡ None
no-mark None h = refl
no-mark (Some k) h = (cc)

no-changes : {A : Type 0} (xs : List A) → has_no_items xs ≡ true → xs ≡ []
no-changes [] h = refl
no-changes (x ∷ xs) h = (cc)

settled-within : (n : ℕ) (e : ListElement) → is_settled n e ≡ true → is_within n [] e ≡ true
settled-within n e h =
    let p = all_four (is_sequenced_up_to n e.ins) (list_all (is_sequenced_up_to n) e.dels) (is_nothing e.removal_stage) (has_no_items e.pending) h in
    rw (within-stamp n e.ins p.0, all-weaker (is_sequenced_up_to n) (is_numbered n) (numbered-stamp n) e.dels p.1, no-mark e.removal_stage p.2, no-changes e.pending p.3) refl

acked-ordered : (t : Stamp) (n : ℕ) (dels : List Stamp) → is_sequenced_up_to n t ≡ true → is_unremoved_pending t dels None ≡ true
acked-ordered (Acked s c) n dels h = refl
acked-ordered (Local k) n dels h = (cc)

settled-ordered : (n : ℕ) (e : ListElement) → is_settled n e ≡ true → is_ordered e ≡ true
settled-ordered n e h =
    let p = all_four (is_sequenced_up_to n e.ins) (list_all (is_sequenced_up_to n) e.dels) (is_nothing e.removal_stage) (has_no_items e.pending) h in
    rw (no-mark e.removal_stage p.2, no-changes e.pending p.3, acked-ordered e.ins n e.dels p.0) refl

-- ---- names

not-there : (a b : ElementId) (xs : List ListElement) → same_id a b ≡ true → list_any (has_id b) xs ≡ false → len (has_id a) xs ≡ 0
not-there a b [] e h = refl
not-there a b (x ∷ xs) e h = rw (ap (λ i. has_id i x) (same_id-eq a b e)) (not-first (has_id b x) (list_any (has_id b) xs) (len (has_id a) xs) (not-there a b xs e) h)
  where
    not-first : (t r : Bool) (n : ℕ) → (r ≡ false → n ≡ 0) → t || r ≡ false → one_more_if t n ≡ 0
    not-first true r n f g = (cc)
    not-first false r n f g = f g

pub distinct-once : (xs : List ListElement) → are_distinct_elements xs ≡ true → Once xs
distinct-once [] h a = omega arith
distinct-once (e ∷ xs) h a =
    let p = both (not (list_any (has_id (id e)) xs)) (are_distinct_elements xs) h in
    step (has_id a e) refl (distinct-once xs p.1 a) p.0
  where
    hidden-any : (b : Bool) → not b ≡ true → b ≡ false
    hidden-any true g = (cc)
    hidden-any false g = refl

    step : (b : Bool) → has_id a e ≡ b → len (has_id a) xs ≤ 1 → not (list_any (has_id (id e)) xs) ≡ true → one_more_if b (len (has_id a) xs) ≤ 1
    step true f l g =
        let none : len (has_id a) xs ≡ 0 = not-there a (id e) xs f (hidden-any (list_any (has_id (id e)) xs) g) in
        rw none (omega arith)
    step false f l g = l

fresh-step : (n m : ℕ) (e : ListElement) → n ≤ m → is_numbered_below n e ≡ true → has_id (SequencedId m) e ≡ false
fresh-step n m e l h = grind (arith, nat_tests)

pending-step : (n k m : ℕ) (e : ListElement) → is_numbered_below n e ≡ true → has_id (PendingId k m) e ≡ false
pending-step n k m e h = grind (arith, nat_tests)

none-has : (a : ElementId) (n : ℕ) → ((e : ListElement) → is_numbered_below n e ≡ true → has_id a e ≡ false) → (xs : List ListElement)
    → list_all (is_numbered_below n) xs ≡ true → len (has_id a) xs ≡ 0
none-has a n f [] h = refl
none-has a n f (e ∷ xs) h =
    let p = both (is_numbered_below n e) (list_all (is_numbered_below n) xs) h in
    rw (f e p.0) (none-has a n f xs p.1)

numbered-fresh : (n : ℕ) (xs : List ListElement) → list_all (is_numbered_below n) xs ≡ true → (a : ElementId) → IsFresh n a → len (has_id a) xs ≡ 0
numbered-fresh n xs h (SequencedId m) l = none-has (SequencedId m) n (λ e g. fresh-step n m e l g) xs h
numbered-fresh n xs h (PendingId k m) l = none-has (PendingId k m) n (λ e g. pending-step n k m e g) xs h

pub numbered-named : (list : Sequence) → IsNumbered list → IsNamed list
numbered-named list h = record { once = distinct-once list.items h.distinct; fresh = numbered-fresh list.made list.items h.below }

-- ---- ends of intervals

swapped : (a b c : Bool) → (a && b) || c ≡ (b && a) || c
swapped true true c = refl
swapped true false c = refl
swapped false true c = refl
swapped false false c = refl

standing-found : (a : ElementId) (xs : List ListElement) → list_any (λ e. has_id a e && is_unremoved e) xs ≡ list_any (is_standing_at a) xs
standing-found a [] = refl
standing-found a (e ∷ xs) = ap (λ c. (has_id a e && is_unremoved e) || c) (standing-found a xs) ∙ swapped (has_id a e) (is_unremoved e) (list_any (is_standing_at a) xs)

end-stands : (xs : List ListElement) (o : Option ElementId) → is_end_on xs o ≡ true → Stands xs o
end-stands xs None h = tt
end-stands xs (Some a) h = sym (standing-found a xs) ∙ h

ends-stand : (xs : List ListElement) (is : List Interval) → list_all (has_ends_on xs) is ≡ true → EndsStand xs is
ends-stand xs [] h = tt
ends-stand xs (i ∷ is) h =
    let p = both (has_ends_on xs i) (list_all (has_ends_on xs) is) h in
    let q = both (is_end_on xs i.start) (is_end_on xs i.end) p.0 in
    (end-stands xs i.start q.0, end-stands xs i.end q.1, ends-stand xs is p.1)

pub consistent-sound : (doc : Document) → IsConsistent doc → IsSound doc
consistent-sound doc h = record {
  named = numbered-named doc.text h.text;
  ends = ends-stand doc.text.items doc.intervals h.ends;
  rows = numbered-named doc.rows
      h.rows;
  cols = numbered-named doc.cols h.cols;
}

-- ---- the client

pub start-holds : (bound : ℕ) (start : Document) → IsSoundStart start → ClientHolds bound bound [] (client_over start)
start-holds bound start h =
    let n = start.number in
    let within = λ (xs : List ListElement) (k : list_all (is_settled n) xs ≡ true). all-weaker (is_settled n) (is_within n []) (settled-within n) xs k in
    let ordered = λ (xs : List ListElement) (k : list_all (is_settled n) xs ≡ true). all-weaker (is_settled n) is_ordered (settled-ordered n) xs k in
    let bare : sequenced_part start ≡ start = lists-bare n start (within start.text.items h.text) (within start.rows.items h.rows) (within start.cols.items h.cols) in
    record {
      doc = record {
        told = tt;
        rising = omega arith;
        text = within start.text.items h.text;
        rows = within start.rows.items h.rows;
        cols = within start.cols.items h.cols;
        text_order = ordered start.text.items h.text;
        rows_order = ordered start.rows.items h.rows;
        cols_order = ordered start.cols.items h.cols;
        stand = tt;
        sound = subst IsSound (sym bare) (consistent-sound start h.consistent);
      };
      edits = tt;
      link = tt;
      conn = λ o l g. below-other o bound l;
    }

pub empty-sound : IsSoundStart empty
empty-sound = record {
  consistent = record {
    text = record { below = refl; distinct = refl };
    rows = record { below = refl; distinct = refl };
    cols = record
        { below = refl; distinct = refl };
    ends = refl;
    cells = refl;
  };
  numbers = omega arith;
  text = refl;
  rows = refl;
  cols = refl;
  cells = refl;
}
