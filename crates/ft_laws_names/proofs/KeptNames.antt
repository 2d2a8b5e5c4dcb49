-- What keeps a well named client is well named.
use Rattle.std.proofs.Common.{◌≡◌, ℕ, ◌≤◌, Bool, true, false, ◌||◌, List, [], ◌∷◌, Option, Some, None, refl, sym, ◌∙◌, ap, subst, arith}
use Rattle.std.specs.List.{list_any}
use Rattle.ft_base.specs.Scan.{len, one_more_if}
use Rattle.ft_op.specs.declared.operations.CellOp.TheVariants.{SpliceIn, SpliceOut, Set}
use Rattle.ft_props.specs.Element.{ElementId, ListElement, PendingId, SequencedId, has_id, id, is_named_by, same_id}
use Rattle.ft_props.specs.Compaction.{Keeps, KeepsList, none, same, universal, collected, with_universal_insertion, is_insertion_at_or_below}
use Rattle.ft_props.specs.Steps.{Sequence, is_inserted_by}
use Rattle.ft_op.specs.Operation.{OnGrid, OnIntervals, OnText, SubOperation}
use Rattle.ft_op.specs.Intervals.{Interval, NamedElements}
use Rattle.ft_op.specs.Cells.{Cell}
use Rattle.ft_op.specs.Document.{Document}
use Rattle.ft_op.specs.Stages.{Stage}
use Rattle.ft_msg.specs.Client.{NaiveClient, floor, stages_of}
use Rattle.ft_msg.specs.Compacted.{IsCompacted, holds_col, holds_row, holds_text, interval_holds, stage_holds_col, stage_holds_row, stage_holds_text}
use Rattle.ft_msg.specs.Indexed.{indexed_client}
use Rattle.ft_laws_agreement.proofs.CompactedScans.{held-apart, id-universal, len-kept}
use Rattle.ft_laws_agreement.proofs.SlidEnds.{same_id-refl}
use Rattle.ft_laws_compaction.specs.Keeping.{IsMadeOrKept}
use Rattle.ft_laws_compaction.proofs.Acknowledged.{inserted-alike}
use Rattle.ft_laws_compaction.proofs.Compacting.{kept-shape}
use Rattle.ft_laws_names.specs.Renaming.{DifferInNames}
use Rattle.ft_laws_names.specs.WellNamed.{AreSettledIn, AreStagesNamed, AreThere, HasNoCellsAhead, IsAhead, IsSettledIn, IsWellNamed, IsWellNumbered, StandsIn, has_odd_removal}
use Rattle.ft_laws_names.proofs.NamedSteps.{reached-named}

-- ---- one list

at_most : (a b : Bool) (m n : ℕ) → a ≡ b → m ≤ n → one_more_if a m ≤ one_more_if b n
at_most true true m n e l = omega arith
at_most false false m n e l = l
at_most true false m n e l = (cc)
at_most false true m n e l = (cc)

one_less : (b : Bool) (m n : ℕ) → m ≤ n → m ≤ one_more_if b n
one_less true m n l = omega arith
one_less false m n l = l

zero-less : (m n : ℕ) → m ≤ n → n ≡ 0 → m ≡ 0
zero-less m n l e = omega arith

module _ {low : ℕ} {held : ElementId → Bool} where
  -- no more elements pass a test
  len-less : (test : ListElement → Bool) → ((e : ListElement) → is_insertion_at_or_below low e.ins ≡ true → test (with_universal_insertion e) ≡ test e)
      → {ks xs : List ListElement} → Keeps low held ks xs → len test ks ≤ len test xs
  len-less test old none = omega arith
  len-less test old (same {e = e} {ks = ks} {xs = xs} k) = at_most (test e) (test e) (len test ks) (len test xs) refl (len-less test old k)
  len-less test old (universal {e = e} {ks = ks} {xs = xs} f k) = at_most (test (with_universal_insertion e)) (test e) (len test ks) (len test xs) (old e f) (len-less test old k)
  len-less test old (collected {e = e} {ks = ks} {xs = xs} g u n k) = one_less (test e) (len test ks) (len test xs) (len-less test old k)

  name-less : (a : ElementId) {ks xs : List ListElement} → Keeps low held ks xs → len (has_id a) ks ≤ len (has_id a) xs
  name-less a k = len-less (has_id a) (λ e f. ap (same_id a) (id-universal low e f)) k

  -- a held name stays
  name-kept : (a : ElementId) → held a ≡ true → {ks xs : List ListElement} → Keeps low held ks xs → len (has_id a) ks ≡ len (has_id a) xs
  name-kept a h k = len-kept (has_id a) (record { gone = λ e g u. held-apart held a (id e) h u; old = λ e f. ap (same_id a) (id-universal low e f) }) k

  pub kept-numbered : (last : ℕ) (kept list : Sequence) → KeepsList low held kept list → IsWellNumbered last list → IsWellNumbered last kept
  kept-numbered last kept list k h = record {
    once = λ a. (let l = name-less a k.items in let o = h.once a in omega arith);
    below = λ n l. (let m = k.made in zero-less _ _ (name-less (SequencedId n) k.items) (h.below n (omega arith)));
    counted = λ j n l. zero-less _ _ (name-less (PendingId j n) k.items) (h.counted j n (subst (λ m. m ≤ n) (stage j) l));
    stages = λ j l. stage j ∙ h.stages j l;
    removals = zero-less _ _ (len-less has_odd_removal (λ e f. refl) k.items) h.removals;
  }
    where
      stage : (j : ℕ) → len (is_inserted_by j) kept.items ≡ len (is_inserted_by j) list.items
      stage j = len-kept (is_inserted_by j) (inserted-alike low j held) k.items

  stands-kept : (o : Option ElementId) → ((a : ElementId) → o ≡ Some a → held a ≡ true) → {ks xs : List ListElement} → Keeps low held ks xs → StandsIn xs o → StandsIn ks o
  stands-kept None h k s = tt
  stands-kept (Some a) h k s = subst (λ n. 1 ≤ n) (sym (name-kept a (h a refl) k)) s

  settled-kept : (o : Option ElementId) → ((a : ElementId) → o ≡ Some a → held a ≡ true) → {ks xs : List ListElement} → Keeps low held ks xs → IsSettledIn xs o → IsSettledIn ks o
  settled-kept None h k s = tt
  settled-kept (Some (SequencedId n)) h k s = subst (λ i. 1 ≤ i) (sym (name-kept (SequencedId n) (h (SequencedId n) refl) k)) s
  settled-kept (Some (PendingId j n)) h k s = s

named-self : (o : Option ElementId) (a : ElementId) → o ≡ Some a → is_named_by a o ≡ true
named-self o a e = ap (is_named_by a) e ∙ same_id-refl a

or-left : (a b : Bool) → a ≡ true → a || b ≡ true
or-left true b h = refl
or-left false b h = (cc)

or-right : (a b : Bool) → b ≡ true → a || b ≡ true
or-right true b h = refl
or-right false b h = h

module _ {low : ℕ} {held : ElementId → Bool} {ks xs : List ListElement} (k : Keeps low held ks xs) where
  intervals-kept : (is : List Interval) → ((a : ElementId) → list_any (interval_holds a) is ≡ true → held a ≡ true) → AreSettledIn xs is → AreSettledIn ks is
  intervals-kept [] h s = tt
  intervals-kept (i ∷ is) h s = (
    (
      settled-kept i.start (λ a e. h a (or-left (interval_holds a i) (list_any (interval_holds a) is)
          (or-left (is_named_by a i.start) (is_named_by a i.end) (named-self i.start a e)))) k s.0.0,
      settled-kept i.end (λ a e. h a (or-left (interval_holds a i) (list_any (interval_holds a) is)
          (or-right (is_named_by a i.start) (is_named_by a i.end) (named-self i.end a e)))) k s.0.1,
    ),
    intervals-kept is (λ a e. h a (or-right (interval_holds a i) (list_any (interval_holds a) is) e)) s.1,
  )

-- ---- a client

module _ (x : NaiveClient) (h : IsWellNamed x) (text rows cols : Sequence) (cells : List Cell) (kt : KeepsList (floor x) (holds_text x) text x.doc.text)
    (kr : KeepsList (floor x) (holds_row x) rows x.doc.rows) (kc : KeepsList (floor x) (holds_col x) cols x.doc.cols) where
  abbrev kept_doc : Document
  kept_doc = record x.doc { text = text; rows = rows; cols = cols; cells = cells }

  there-kept : (n : ℕ) (o : SubOperation) (names : NamedElements) → ((a : ElementId)
      → stage_holds_text a (record { stage = n; sub_operation = o; names = names }) ≡ true → holds_text x a ≡ true)
      → ((a : ElementId) → stage_holds_row a (record { stage = n; sub_operation = o; names = names }) ≡ true → holds_row x a ≡ true)
      → ((a : ElementId) → stage_holds_col a (record { stage = n; sub_operation = o; names = names }) ≡ true → holds_col x a ≡ true)
      → AreThere x.doc o names → AreThere (record x.doc { text = text; rows = rows; cols = cols; cells = cells }) o names
  there-kept n (OnText op) names f g i t = t
  there-kept n (OnIntervals op) names f g i t = (
    stands-kept names.first (λ a e. f a (or-left (is_named_by a names.first) (is_named_by a names.second) (named-self names.first a e))) kt.items t.0,
    stands-kept names.second (λ a e. f a (or-right (is_named_by a names.first) (is_named_by a names.second) (named-self names.second a e))) kt.items t.1,
  )
  there-kept n (OnGrid (SpliceIn target p count)) names f g i t = t
  there-kept n (OnGrid (SpliceOut target p q)) names f g i t = t
  there-kept n (OnGrid (Set p q value)) names f g i t = (
    stands-kept names.first (λ a e. g a (named-self names.first a e)) kr.items t.0,
    stands-kept
        names.second (λ a e. i a (named-self names.second a e)) kc.items t.1,
  )

  stages-kept : (ts : List Stage) → ((a : ElementId) → list_any (stage_holds_text a) ts ≡ true → holds_text x a ≡ true)
      → ((a : ElementId) → list_any (stage_holds_row a) ts ≡ true → holds_row x a ≡ true) → ((a : ElementId) → list_any (stage_holds_col a) ts ≡ true → holds_col x a ≡ true)
      → AreStagesNamed x.doc ts → AreStagesNamed (record x.doc { text = text; rows = rows; cols = cols; cells = cells }) ts
  stages-kept [] f g i s = tt
  stages-kept (t ∷ ts) f g i s = (
    (
      there-kept t.stage t.sub_operation t.names (λ a e. f a (or-left (stage_holds_text a t) (list_any (stage_holds_text a) ts) e))
          (λ a e. g a (or-left (stage_holds_row a t) (list_any (stage_holds_row a) ts) e))
          (λ a e. i a (or-left (stage_holds_col a t) (list_any (stage_holds_col a) ts) e)) s.0.0,
      s.0.1,
    ),
    stages-kept ts (λ a e. f a (or-right (stage_holds_text a t) (list_any (stage_holds_text a) ts) e))
        (λ a e. g a (or-right (stage_holds_row a t) (list_any (stage_holds_row a) ts) e)) (λ a e. i a (or-right (stage_holds_col a t) (list_any (stage_holds_col a) ts) e)) s.1,
  )

  pub shape-named : HasNoCellsAhead (record x.doc { text = text; rows = rows; cols = cols; cells = cells })
      → IsWellNamed (record x { doc = record x.doc { text = text; rows = rows; cols = cols; cells = cells } })
  shape-named ahead = record {
    text = kept-numbered x.last_stage text x.doc.text kt h.text;
    rows = kept-numbered x.last_stage rows x.doc.rows kr h.rows;
    cols = kept-numbered x.last_stage cols x.doc.cols kc h.cols;
    intervals = intervals-kept kt.items x.doc.intervals (λ a e. or-left (list_any (interval_holds a) x.doc.intervals) (list_any (stage_holds_text a) (stages_of x)) e) h.intervals;
    cells = ahead;
    stages = stages-kept (stages_of x) (λ a e. or-right (list_any (interval_holds a) x.doc.intervals) (list_any (stage_holds_text a) (stages_of x)) e)
        (λ a e. e) (λ a e. e) h.stages;
    own = record {
      text = λ k g. len-kept (is_inserted_by k) (inserted-alike (floor x) k (holds_text x)) kt.items ∙ h.own.text k g;
      rows = λ k g. len-kept (is_inserted_by k) (inserted-alike (floor x) k (holds_row x)) kr.items ∙ h.own.rows k g;
      cols = λ k g. len-kept (is_inserted_by k) (inserted-alike (floor x) k (holds_col x)) kc.items ∙ h.own.cols k g;
    };
    rise = h.rise;
  }

-- a kept client has no cell that the whole one hasn't
kept-ahead : (x kept : NaiveClient) → IsWellNamed x → IsCompacted kept x → HasNoCellsAhead kept.doc
kept-ahead x kept h k = record {
  rows = λ row col u. k.doc.cells.none row col (h.cells.rows row col (subst (λ n. IsAhead n row) k.doc.rows.made u));
  cols = λ row col u. k.doc.cells.none row col (h.cells.cols row col (subst (λ n. IsAhead n col) k.doc.cols.made u));
}

pub kept-named : (x kept : NaiveClient) → IsWellNamed x → IsCompacted kept x → IsWellNamed kept
kept-named x kept h k =
    subst IsWellNamed (sym (kept-shape x kept k))
    (shape-named x h kept.doc.text kept.doc.rows kept.doc.cols kept.doc.cells k.doc.text k.doc.rows k.doc.cols (subst HasNoCellsAhead k.doc.rest (kept-ahead x kept h k)))

-- each client that steps made, or that keeps one which they made, is well named
pub made-or-kept-named : (start : Document) (kept : NaiveClient) → IsMadeOrKept start kept → IsWellNamed kept
made-or-kept-named start kept h = kept-named h.whole kept (reached-named h.whole h.reached) h.keeps

-- so it differs in names alone from each well named client that shows the same
pub kept-differs : (p x kept : NaiveClient) → IsWellNamed p → IsWellNamed x → IsCompacted kept x → indexed_client p ≡ indexed_client kept → DifferInNames p kept
kept-differs p x kept g h k e = record { left = g; right = kept-named x kept h k; same = e }
