-- A client over a document that it may begin with is well named.
use Rattle.std.proofs.Common.{◌≡◌, ℕ, ◌≤◌, Bool, true, false, not, ◌&&◌, ◌||◌, nat_le, List, [], ◌∷◌, Option, Some, None, refl, ap, arith}
use Rattle.std.specs.List.{list_all, list_any}
use Rattle.std.proofs.lemmas.Bool.Decides.{nat_tests}
use Rattle.ft_base.proofs.Booleans.{all_four, both}
use Rattle.ft_base.specs.declared.stamps.Stamp.{Stamp}
use Rattle.ft_base.specs.declared.stamps.Stamp.TheVariants.{Acked, Local}
use Rattle.ft_base.specs.Scan.{len, one_more_if}
use Rattle.ft_base.specs.Visibility.{is_acked}
use Rattle.ft_props.specs.Element.{ElementId, ListElement, PendingId, SequencedId, has_id, is_sequenced, is_unremoved, same_id}
use Rattle.ft_props.specs.Steps.{Sequence, is_inserted_by}
use Rattle.ft_op.specs.Cells.{Cell, cell_value, is_cell}
use Rattle.ft_op.specs.Document.{Document}
use Rattle.ft_op.specs.Intervals.{Interval}
use Rattle.ft_msg.specs.Client.{client_over}
use Rattle.ft_laws_agreement.specs.Sequencing.{is_cell_below, is_name_below}
use Rattle.ft_laws_agreement.specs.Starts.{IsSoundStart, has_no_items, is_nothing, is_sequenced_up_to, is_settled}
use Rattle.ft_laws_agreement.specs.Trimming.{IsNumbered, has_ends_on, is_end_on}
use Rattle.ft_laws_agreement.proofs.SoundStarts.{numbered-named}
use Rattle.ft_laws_names.specs.WellNamed.{AreSettledIn, HasNoCellsAhead, IsAhead, IsSettledIn, IsWellNamed, IsWellNumbered, has_odd_removal}

-- ---- lists

none-passes : (P test : ListElement → Bool) → ((e : ListElement) → P e ≡ true → test e ≡ false) → (xs : List ListElement) → list_all P xs ≡ true → len test xs ≡ 0
none-passes P test f [] h = refl
none-passes P test f (e ∷ xs) h =
    let p = both (P e) (list_all P xs) h in
    rw (f e p.0) (none-passes P test f xs p.1)

settled-sequenced : (n : ℕ) (e : ListElement) → is_settled n e ≡ true → is_sequenced e ≡ true
settled-sequenced n e h = of-stamp e.ins (all_four (is_sequenced_up_to n e.ins) (list_all (is_sequenced_up_to n) e.dels) (is_nothing e.removal_stage) (has_no_items e.pending) h).0
  where
    of-stamp : (t : Stamp) → is_sequenced_up_to n t ≡ true → is_acked t ≡ true
    of-stamp (Acked s c) g = refl
    of-stamp (Local k) g = (cc)

not-pending : (k m : ℕ) (e : ListElement) → is_sequenced e ≡ true → has_id (PendingId k m) e ≡ false
not-pending k m e h = grind (arith, nat_tests)

not-inserted : (k : ℕ) (e : ListElement) → is_sequenced e ≡ true → is_inserted_by k e ≡ false
not-inserted k e h = grind (arith, nat_tests)

acked-all : (n : ℕ) (dels : List Stamp) → list_all (is_sequenced_up_to n) dels ≡ true → list_all is_acked dels ≡ true
acked-all n [] h = refl
acked-all n (Acked s c ∷ dels) h = acked-all n dels (both (nat_le s n) (list_all (is_sequenced_up_to n) dels) h).1
acked-all n (Local k ∷ dels) h = (cc)

no-odd : (n : ℕ) (e : ListElement) → is_settled n e ≡ true → has_odd_removal e ≡ false
no-odd n e h = ap not (acked-all n e.dels (all_four (is_sequenced_up_to n e.ins) (list_all (is_sequenced_up_to n) e.dels) (is_nothing e.removal_stage)
    (has_no_items e.pending) h).1)

start-numbered : (n : ℕ) (list : Sequence) → IsNumbered list → list_all (is_settled n) list.items ≡ true → IsWellNumbered 0 list
start-numbered n list h s =
    let named = numbered-named list h in
    record {
      once = named.once;
      below = λ m l. named.fresh (SequencedId m) l;
      counted = λ k m l. none-passes (is_settled n) (has_id (PendingId k m)) (λ e g. not-pending k m e (settled-sequenced n e g)) list.items s;
      stages = λ k l. none-passes (is_settled n) (is_inserted_by k) (λ e g. not-inserted k e (settled-sequenced n e g)) list.items s;
      removals = none-passes (is_settled n) has_odd_removal (no-odd n) list.items s;
    }

none-put_in : (n k : ℕ) (xs : List ListElement) → list_all (is_settled n) xs ≡ true → len (is_inserted_by k) xs ≡ 0
none-put_in n k xs s = none-passes (is_settled n) (is_inserted_by k) (λ e g. not-inserted k e (settled-sequenced n e g)) xs s

-- ---- ends of intervals

found-counted : (a : ElementId) (xs : List ListElement) → list_any (λ e. has_id a e && is_unremoved e) xs ≡ true → 1 ≤ len (has_id a) xs
found-counted a [] h = (cc)
found-counted a (e ∷ xs) h = step (has_id a e) (is_unremoved e) (found-counted a xs) h
  where
    step : (b u : Bool) → (list_any (λ d. has_id a d && is_unremoved d) xs ≡ true → 1 ≤ len (has_id a) xs) → (b && u)
        || list_any (λ d. has_id a d && is_unremoved d) xs ≡ true → 1 ≤ one_more_if b (len (has_id a) xs)
    step true u ih g = omega arith
    step false u ih g = ih g

nothing-counted : (n : ℕ) → n ≡ 0 → 1 ≤ n → ⊥
nothing-counted n e l = absurd (omega arith)

end-settled : (n : ℕ) (xs : List ListElement) → list_all (is_settled n) xs ≡ true → (o : Option ElementId) → is_end_on xs o ≡ true → IsSettledIn xs o
end-settled n xs s None h = tt
end-settled n xs s (Some (SequencedId i)) h = found-counted (SequencedId i) xs h
end-settled n xs s (Some (PendingId k i)) h =
    nothing-counted (len (has_id (PendingId k i)) xs) (none-passes (is_settled n) (has_id (PendingId k i)) (λ e g. not-pending k i e (settled-sequenced n e g))
    xs s) (found-counted (PendingId k i) xs h)

ends-settled : (n : ℕ) (xs : List ListElement) → list_all (is_settled n) xs ≡ true → (is : List Interval) → list_all (has_ends_on xs) is ≡ true → AreSettledIn xs is
ends-settled n xs s [] h = tt
ends-settled n xs s (i ∷ is) h =
    let p = both (has_ends_on xs i) (list_all (has_ends_on xs) is) h in
    let q = both (is_end_on xs i.start) (is_end_on xs i.end) p.0 in
    ((end-settled n xs s i.start q.0, end-settled n xs s i.end q.1), ends-settled n xs s is p.1)

-- ---- cells

ahead-apart : (made : ℕ) (a b : ElementId) → IsAhead made a → is_name_below made b ≡ true → same_id a b ≡ false
ahead-apart made (SequencedId m) (SequencedId n) l h = grind (arith, nat_tests)
ahead-apart made (PendingId k m) (SequencedId n) l h = refl
ahead-apart made a (PendingId k n) l h = (cc)

no-cell : (rows cols : ℕ) (row col : ElementId) → ((c : Cell) → is_cell_below rows cols c ≡ true → is_cell row col c ≡ false) → (cells : List Cell)
    → list_all (is_cell_below rows cols) cells ≡ true
    → cell_value row col cells ≡ None
no-cell rows cols row col f [] h = refl
no-cell rows cols row col f (c ∷ cells) h =
    let p = both (is_cell_below rows cols c) (list_all (is_cell_below rows cols) cells) h in
    rw (f c p.0) (no-cell rows cols row col f cells p.1)

second-false : (a b : Bool) → b ≡ false → a && b ≡ false
second-false true b h = h
second-false false b h = refl

start-cells : (doc : Document) → list_all (is_cell_below doc.rows.made doc.cols.made) doc.cells ≡ true → HasNoCellsAhead doc
start-cells doc h = record {
  rows = λ row col l. no-cell doc.rows.made doc.cols.made row col
      (λ c g. ap (λ b. b && same_id col c.col) (ahead-apart doc.rows.made row c.row l
      (both (is_name_below doc.rows.made c.row) (is_name_below doc.cols.made c.col) g).0)) doc.cells h;
  cols = λ row col l. no-cell doc.rows.made doc.cols.made row col
      (λ c g. second-false (same_id row c.row) (same_id col c.col) (ahead-apart doc.cols.made col c.col l
      (both (is_name_below doc.rows.made c.row) (is_name_below doc.cols.made c.col) g).1)) doc.cells h;
}

-- ---- the client

pub start-named : (start : Document) → IsSoundStart start → IsWellNamed (client_over start)
start-named start h =
    let n = start.number in
    record {
      text = start-numbered n start.text h.consistent.text h.text;
      rows = start-numbered n start.rows h.consistent.rows h.rows;
      cols = start-numbered n start.cols h.consistent.cols h.cols;
      intervals = ends-settled n start.text.items h.text start.intervals h.consistent.ends;
      cells = start-cells start h.cells;
      stages = tt;
      own = record {
        text = λ k g. none-put_in n k start.text.items h.text;
        rows = λ k g. none-put_in n k start.rows.items h.rows;
        cols = λ k g. none-put_in n
            k start.cols.items h.cols;
      };
      rise = omega arith;
    }
