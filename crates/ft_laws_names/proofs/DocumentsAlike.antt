-- Two documents that differ in the names of their elements alone, and their steps.
use Rattle.std.proofs.Common.{◌≡◌, ℕ, ◌≤◌, Bool, true, false, cond, ◌&&◌, nat_eq, List, Option, None, refl, sym, ◌∙◌, ap, arith}
use Rattle.ft_base.specs.Scan.{len}
use Rattle.ft_props.specs.Properties.{ValueBytes}
use Rattle.ft_props.specs.Element.{ElementId, ListElement, PendingId, SequencedId, has_id, id, same_id}
use Rattle.ft_props.specs.Steps.{Sequence}
use Rattle.ft_op.specs.Intervals.{Interval, slide_ends}
use Rattle.ft_op.specs.Cells.{Cell, cell_value, write_cell}
use Rattle.ft_op.specs.Document.{Document, with_slid_ends}
use Rattle.ft_msg.specs.Content.{value_unless_null}
use Rattle.ft_laws_agreement.proofs.CellValues.{value-write}
use Rattle.ft_laws_names.specs.WellNamed.{HasNoCellsAhead, IsAhead, IsSequencedName, IsUnused, IsWellNumbered}
use Rattle.ft_laws_names.proofs.AckedLists.{symmetric}
use Rattle.ft_laws_names.proofs.Beside.{beside-both, beside-more}
use Rattle.ft_laws_names.proofs.IntervalsAlike.{IntervalsBeside, SettledAlike, intervals-more, intervals-slide, settled-beside, settled-stay}
use Rattle.ft_laws_names.proofs.ListSteps.{ListStep, ListsAlike, step-stands, unused-other}
use Rattle.ft_laws_names.proofs.NumberedLists.{later-numbered}
use Rattle.ft_laws_names.proofs.Twins.{AreTwins, BesideList, EndsBeside, Named, StandAlike, places-alike, there-other}

-- ---- the relation

-- two names of rows have equal values in the columns at the same places
abbrev pub RowsAlike : List ListElement → List ListElement → List Cell → List Cell → ElementId → ElementId → Type 0
RowsAlike cols others cells values i j = BesideList (Named (λ c d. cell_value i c cells ≡ cell_value j d values)) cols others

-- two documents that differ in the names of their elements alone, but for their intervals
pub record PartsAlike (last : ℕ) (p q : Document) : Type 0 where
  pub text : ListsAlike last p.text q.text
  pub rows : ListsAlike last p.rows q.rows
  pub cols : ListsAlike last p.cols q.cols
  pub cells : BesideList (Named (RowsAlike p.cols.items q.cols.items p.cells q.cells)) p.rows.items q.rows.items
  pub left : HasNoCellsAhead p
  pub right : HasNoCellsAhead q
  pub skipped : p.skipped ≡ q.skipped
  pub other : p.other ≡ q.other
  pub number : p.number ≡ q.number
  pub minimum : p.minimum ≡ q.minimum

pub record DocsAlike (last : ℕ) (p q : Document) : Type 0 where
  pub parts : PartsAlike last p q
  pub intervals : IntervalsBeside (SettledAlike p.text.items q.text.items) p.intervals q.intervals

-- names that stand at the same places go on doing so
abbrev pub Stays : List ListElement → List ListElement → List ListElement → List ListElement → Type 0
Stays xs ys us vs = (a b : ElementId) → StandAlike xs ys a b → StandAlike us vs a b

pub record NamesStay (p q after other : Document) : Type 0 where
  pub text : Stays p.text.items q.text.items after.text.items other.text.items
  pub rows : Stays p.rows.items q.rows.items after.rows.items other.rows.items
  pub cols : Stays p.cols.items q.cols.items after.cols.items other.cols.items

-- a step of both
pub record DocsStep (last more : ℕ) (p q after other : Document) : Type 0 where
  pub alike : DocsAlike more after other
  pub names : NamesStay p q after other

pub names-twice : (p q a b c d : Document) → NamesStay p q a b → NamesStay a b c d → NamesStay p q c d
names-twice p q a b c d f g = record { text = λ i j s. g.text i j (f.text i j s); rows = λ i j s. g.rows i j (f.rows i j s); cols = λ i j s. g.cols i j (f.cols i j s) }

pub places : (last : ℕ) (l m : Sequence) → ListsAlike last l m → BesideList (AreTwins l.items m.items) l.items m.items
places last l m h = places-alike h.left.once h.right.once h.twins

pub later-lists : (last more : ℕ) (l m : Sequence) → last ≤ more → ListsAlike last l m → ListsAlike more l m
later-lists last more l m g h = record { left = later-numbered last more l g h.left; right = later-numbered last more m g h.right; twins = h.twins }

-- an unused name comes later, and what comes later than more does so
unused-ahead : (last made : ℕ) (a : ElementId) → IsUnused made last a → IsAhead made a
unused-ahead last made (SequencedId i) u = u
unused-ahead last made (PendingId k i) u = tt

pub less-ahead : (made n : ℕ) (a : ElementId) → made ≤ n → IsAhead n a → IsAhead made a
less-ahead made n (SequencedId i) g u = omega arith
less-ahead made n (PendingId k i) g u = tt

-- ---- steps of one list

module _ (last more : ℕ) (grows : last ≤ more) (p q : Document) (h : DocsAlike last p q) (l m : Sequence) (alike : ListsAlike more l m) where
  text-alike : Stays p.text.items q.text.items l.items m.items → DocsStep last more p q (record p { text = l }) (record q { text = m })
  text-alike s = record {
    alike = record {
      parts = record {
        text = alike;
        rows = later-lists last more p.rows q.rows grows h.parts.rows;
        cols = later-lists last more p.cols q.cols grows h.parts.cols;
        cells = h.parts.cells;
        left = record { rows = λ row col u. h.parts.left.rows row col u; cols = λ row col u. h.parts.left.cols row col u };
        right = record { rows = λ row col u. h.parts.right.rows row col u; cols = λ row col u. h.parts.right.cols row col u };
        skipped = h.parts.skipped;
        other = h.parts.other;
        number = h.parts.number;
        minimum = h.parts.minimum;
      };
      intervals = intervals-more (SettledAlike p.text.items q.text.items) (SettledAlike l.items m.items) (λ i j e. settled-stay s e) h.intervals;
    };
    names = record { text = s; rows = λ i j t. t; cols = λ i j t. t };
  }

  pub text-step : ListStep last p.text q.text l m → DocsStep last more p q (record p { text = l }) (record q { text = m })
  text-step s = text-alike (step-stands last p.text q.text l m s h.parts.text)

  absent-equal : {A : Type 0} (a b : Option A) → a ≡ None → b ≡ None → a ≡ b
  absent-equal a b e f = e ∙ sym f

  all-absent : (i j : ElementId) → ((c : ElementId) → cell_value i c p.cells ≡ None) → ((d : ElementId) → cell_value j d q.cells ≡ None)
      → RowsAlike p.cols.items q.cols.items p.cells q.cells i j
  all-absent i j f g = beside-more (λ x y t. (t, f (id x) ∙ sym (g (id y)))) h.parts.cols.twins

  pub rows-step : p.rows.made ≤ l.made → q.rows.made ≤ m.made → ListStep last p.rows q.rows l m → DocsStep last more p q (record p { rows = l }) (record q { rows = m })
  rows-step grown grown' s = record {
    alike = record {
      parts = record {
        text = later-lists last more p.text q.text grows h.parts.text;
        rows = alike;
        cols = later-lists last more p.cols q.cols grows h.parts.cols;
        cells = s.carries (RowsAlike p.cols.items q.cols.items p.cells q.cells)
            (λ i j u v. all-absent i j (λ c. h.parts.left.rows i c (unused-ahead last p.rows.made i u))
            (λ d. h.parts.right.rows j d (unused-ahead last q.rows.made j v))) h.parts.cells;
        left = record { rows = λ row col u. h.parts.left.rows row col (less-ahead p.rows.made l.made row grown u); cols = λ row col u. h.parts.left.cols row col u };
        right = record { rows = λ row col u. h.parts.right.rows row col (less-ahead q.rows.made m.made row grown' u); cols = λ row col u. h.parts.right.cols row col u };
        skipped = h.parts.skipped;
        other = h.parts.other;
        number = h.parts.number;
        minimum = h.parts.minimum;
      };
      intervals = h.intervals;
    };
    names = record { text = λ i j t. t; rows = step-stands last p.rows q.rows l m s h.parts.rows; cols = λ i j t. t };
  }

  pub cols-step : p.cols.made ≤ l.made → q.cols.made ≤ m.made → ListStep last p.cols q.cols l m → DocsStep last more p q (record p { cols = l }) (record q { cols = m })
  cols-step grown grown' s = record {
    alike = record {
      parts = record {
        text = later-lists last more p.text q.text grows h.parts.text;
        rows = later-lists last more p.rows q.rows grows h.parts.rows;
        cols = alike;
        cells = beside-more (λ x y r. (
          r.0,
          s.carries (λ c d. cell_value (id x) c p.cells ≡ cell_value (id y) d q.cells)
              (λ c d u v. h.parts.left.cols (id x) c (unused-ahead last p.cols.made c u) ∙ sym (h.parts.right.cols (id y) d (unused-ahead last q.cols.made d v))) r.1,
        )) h.parts.cells;
        left = record { rows = λ row col u. h.parts.left.rows row col u; cols = λ row col u. h.parts.left.cols row col (less-ahead p.cols.made l.made col grown u) };
        right = record { rows = λ row col u. h.parts.right.rows row col u; cols = λ row col u. h.parts.right.cols row col (less-ahead q.cols.made m.made col grown' u) };
        skipped = h.parts.skipped;
        other = h.parts.other;
        number = h.parts.number;
        minimum = h.parts.minimum;
      };
      intervals = h.intervals;
    };
    names = record { text = λ i j t. t; rows = λ i j t. t; cols = step-stands last p.cols q.cols l m s h.parts.cols };
  }

pub same-docs : (last more : ℕ) (p q : Document) → last ≤ more → DocsAlike last p q → DocsStep last more p q p q
same-docs last more p q l h = text-alike last more l p q h p.text q.text (later-lists last more p.text q.text l h.parts.text) (λ a b s. s)

-- ---- intervals and cells

pub parts-intervals : (last : ℕ) (p q : Document) → PartsAlike last p q → (is js : List Interval) → PartsAlike last (record p { intervals = is }) (record q { intervals = js })
parts-intervals last p q h is js = record {
  text = h.text;
  rows = h.rows;
  cols = h.cols;
  cells = h.cells;
  left = record { rows = λ row col u. h.left.rows row col u; cols = λ row col u. h.left.cols row col u };
  right = record { rows = λ row col u. h.right.rows row col u; cols = λ row col u. h.right.cols row col u };
  skipped = h.skipped;
  other = h.other;
  number = h.number;
  minimum = h.minimum;
}

-- the ends slide alike
pub slid-docs : (last : ℕ) (p q : Document) → PartsAlike last p q → IntervalsBeside (EndsBeside p.text.items q.text.items) p.intervals q.intervals
    → DocsAlike last (with_slid_ends p) (with_slid_ends q)
slid-docs last p q h is = record {
  parts = parts-intervals last p q h (slide_ends p.text.items p.intervals) (slide_ends q.text.items q.intervals);
  intervals = intervals-slide (places last p.text q.text h.text) is;
}

pub slid-again : (last : ℕ) (p q : Document) → DocsAlike last p q → DocsAlike last (with_slid_ends p) (with_slid_ends q)
slid-again last p q h = slid-docs last p q h.parts (intervals-more (SettledAlike p.text.items q.text.items) (EndsBeside p.text.items q.text.items)
    (λ i j e. settled-beside e) h.intervals)

pub same_id-turn : (a b : ElementId) → same_id a b ≡ same_id b a
same_id-turn (SequencedId m) (SequencedId n) = sym (symmetric m n (nat_eq m n) refl)
same_id-turn (SequencedId m) (PendingId k n) = refl
same_id-turn (PendingId j m) (SequencedId n) = refl
same_id-turn (PendingId j m) (PendingId k n) = ap (λ b. b && nat_eq m n) (sym (symmetric j k (nat_eq j k) refl)) ∙ ap (λ b. nat_eq k j && b) (sym (symmetric m n (nat_eq m n) refl))

-- a name that comes later is no other that stands
ahead-other : (last : ℕ) (list : Sequence) (a i : ElementId) → IsWellNumbered last list → 1 ≤ len (has_id a) list.items → IsSequencedName a
    → IsAhead list.made i → same_id a i ≡ false
ahead-other last list (SequencedId n) (SequencedId m) h l z u = unused-other last list (SequencedId n) (SequencedId m) h l u
ahead-other last list (SequencedId n) (PendingId k m) h l z u = refl
ahead-other last list (PendingId k n) i h l z u = absurd z

-- a write to the cell of names that stand at the same places
pub cells-written : (last : ℕ) (p q : Document) → DocsAlike last p q → (value : ValueBytes) (a b c d : ElementId) → StandAlike p.rows.items q.rows.items a b
    → StandAlike p.cols.items q.cols.items c d
    → IsSequencedName a → IsSequencedName b → IsSequencedName c → IsSequencedName d
    → DocsAlike last (record p { cells = write_cell (record { row = a; col = c; value = value }) p.cells })
    (record q { cells = write_cell (record { row = b; col = d; value = value }) q.cells })
cells-written last p q h value a b c d rows cols sa sb sc sd = record {
  parts = record {
    text = h.parts.text;
    rows = h.parts.rows;
    cols = h.parts.cols;
    cells = beside-more (λ x y r. (
      r.0.0,
      beside-more (λ u v s. (s.0.0, value_of (id x) (id u) (id y) (id v) r.1.1 s.1.1 s.0.1))
          (beside-both r.0.1 cols.twins),
    )) (beside-both h.parts.cells rows.twins);
    left = record {
      rows = λ row col u. ahead-row last p a c h.parts.left h.parts.rows.left rows.there sa row col u;
      cols = λ row col u. ahead-col last p a c
          h.parts.left h.parts.cols.left cols.there sc row col u;
    };
    right = record {
      rows = λ row col u. ahead-row last q b d h.parts.right h.parts.rows.right (there-other rows) sb row col u;
      cols = λ row col u. ahead-col
          last q b d h.parts.right h.parts.cols.right (there-other cols) sd row col u;
    };
    skipped = h.parts.skipped;
    other = h.parts.other;
    number = h.parts.number;
    minimum = h.parts.minimum;
  };
  intervals = h.intervals;
}
  where
    value_of : (i u j v : ElementId) → same_id a i ≡ same_id b j → same_id c u ≡ same_id d v → cell_value i u p.cells ≡ cell_value j v q.cells
        → cell_value i u (write_cell (record { row = a; col = c; value = value }) p.cells) ≡ cell_value j v (write_cell (record { row = b; col = d; value = value }) q.cells)
    value_of i u j v e f g =
        value-write i u (record { row = a; col = c; value = value }) p.cells
        ∙ ap (λ x. cond (x && same_id u c) (value_unless_null value) (cell_value i u p.cells)) (same_id-turn i a ∙ e ∙ same_id-turn b j)
        ∙ ap (λ x. cond (same_id j b && x) (value_unless_null value) (cell_value i u p.cells)) (same_id-turn u c ∙ f ∙ same_id-turn d v)
        ∙ ap (λ x. cond (same_id j b && same_id v d) (value_unless_null value) x) g
        ∙ sym (value-write j v (record { row = b; col = d; value = value }) q.cells)

    never : (x : Bool) → x && false ≡ false
    never true = refl
    never false = refl

    ahead-row : (last : ℕ) (p : Document) (a c : ElementId) → HasNoCellsAhead p → IsWellNumbered last p.rows → 1 ≤ len (has_id a) p.rows.items
        → IsSequencedName a → (row col : ElementId) → IsAhead p.rows.made row
        → cell_value row col (write_cell (record { row = a; col = c; value = value }) p.cells) ≡ None
    ahead-row last p a c n w t z row col u =
        value-write row col (record { row = a; col = c; value = value }) p.cells
        ∙ ap (λ x. cond (x && same_id col c) (value_unless_null value) (cell_value row col p.cells)) (same_id-turn row a ∙ ahead-other last p.rows a row w t z u) ∙ n.rows row col u

    ahead-col : (last : ℕ) (p : Document) (a c : ElementId) → HasNoCellsAhead p → IsWellNumbered last p.cols → 1 ≤ len (has_id c) p.cols.items
        → IsSequencedName c → (row col : ElementId) → IsAhead p.cols.made col
        → cell_value row col (write_cell (record { row = a; col = c; value = value }) p.cells) ≡ None
    ahead-col last p a c n w t z row col u =
        value-write row col (record { row = a; col = c; value = value }) p.cells
        ∙ ap (λ x. cond x (value_unless_null value) (cell_value row col p.cells))
        (ap (λ x. same_id row a && x) (same_id-turn col c ∙ ahead-other last p.cols c col w t z u) ∙ never (same_id row a)) ∙ n.cols row col u

-- other numbers
pub with-numbers : (last : ℕ) (p q : Document) (skipped other number minimum : ℕ) → DocsAlike last p q
    → DocsAlike last (record p { skipped = skipped; other = other; number = number; minimum = minimum })
    (record q { skipped = skipped; other = other; number = number; minimum = minimum })
with-numbers last p q skipped other number minimum h = record {
  parts = record {
    text = h.parts.text;
    rows = h.parts.rows;
    cols = h.parts.cols;
    cells = h.parts.cells;
    left = record { rows = λ row col u. h.parts.left.rows row col u; cols = λ row col u. h.parts.left.cols row col u };
    right = record { rows = λ row col u. h.parts.right.rows row col u; cols = λ row col u. h.parts.right.cols row col u };
    skipped = refl;
    other = refl;
    number = refl;
    minimum = refl;
  };
  intervals = h.intervals;
}
