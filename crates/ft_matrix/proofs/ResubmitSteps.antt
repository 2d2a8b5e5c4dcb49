-- The stages of an edit sent again one after another.
use Rattle.std.proofs.Common.{◌≡◌, ℕ, zero, suc, ◌+◌, ◌-◌, ◌≤◌, ◌<◌, Bool, true, false, cond, not, ◌&&◌, nat_eq, nat_le, nat_lt, List, [], ◌∷◌, ◌++◌, Option, Some, None, refl, sym, ◌∙◌, ap, subst, filter, length, slice_get, get_or, remove, length-append, drop, arith, append_assoc, append-nil}
use Rattle.std.specs.List.{AllByRecursion, prefix_len}
use Rattle.std.proofs.lemmas.Bool.Decides.{nat_tests}
use Rattle.std.proofs.lemmas.Option.{get_or_from_slice_get}
use Rattle.std.specs.List.Sorted.{IsPartitionPoint, IsPartitionedBy}
use Rattle.std.proofs.lemmas.List.Edits.{length-remove, remove-append_right}
use Rattle.ft_op.specs.declared.operations.CellOp.{CellOp}
use Rattle.ft_op.specs.declared.operations.CellOp.TheVariants.{SpliceIn, SpliceOut, Set}
use Rattle.ft_props.specs.Properties.{ValueBytes}
use Rattle.ft_tree_leaves.specs.Elements.{TreeElement}
use Rattle.ft_cells.specs.CellTables.{cell_at, without_write}
use Rattle.ft_named.proofs.Lists.{filter-append}
use Rattle.ft_laws_agreement.proofs.NumberTests.{below-other}
use Rattle.ft_matrix.specs.declared.grid.Grid.{Grid}
use Rattle.ft_matrix.specs.declared.stages.GridStage.{GridStage}
use Rattle.ft_matrix.specs.Resubmitted.{DropsStage, Resubmits, ResubmitsOne, due_pieces, has_any, is_due, is_due_at, kept_stage, stage_pieces, stages_after}
use Rattle.ft_matrix.specs.Sound.{IsSound, StagesRise, is_handle, write_of, writes_to}
use Rattle.ft_matrix.specs.Units.{units_of}
use Rattle.ft_matrix.proofs.ResubmittedGrids.{before-due, behind-due}

-- those in front were looked at, the others are to be
pub record ResubmitsSome (first count : ℕ) (old now : Grid) (i : ℕ) (ops : List CellOp) : Type 0 where
  pub front : List GridStage
  pub back : List GridStage
  pub is : old.stages.items ≡ front ++ back
  pub stages : now.stages.items ≡ stages_after first count (units_of old.rows) (units_of old.cols) front ++ back
  pub place : i ≡ length (stages_after first count (units_of old.rows) (units_of old.cols) front)
  pub sent : ops ≡ due_pieces first count (units_of old.rows) (units_of old.cols) front
  pub high : AllByRecursion (λ t. first ≤ t.stage) back
  pub rise : StagesRise 0 now.stages.items
  pub cells : (r c : ℕ) → cell_at now.cells r c ≡ record (cell_at old.cells r c) { pending = writes_to r c now.stages.items }
  pub rest : now ≡ record old { stages = now.stages; cells = now.cells }

-- ---- the first stage that may be due

-- the stages below the number, and the others
record SplitAt (first : ℕ) (ts : List GridStage) : Type 0 where
  pub front : List GridStage
  pub back : List GridStage
  pub is : ts ≡ front ++ back
  pub place : prefix_len (λ t. nat_lt t.stage first) ts ≡ length front
  pub low : AllByRecursion (λ t. t.stage < first) front
  pub high : AllByRecursion (λ t. first ≤ t.stage) back

all-high : (first low : ℕ) (ts : List GridStage) → first ≤ low → StagesRise low ts → AllByRecursion (λ t. first ≤ t.stage) ts
all-high first low [] l r = tt
all-high first low (t ∷ ts) l r = let up = r.0 in (omega (arith, l, up), all-high first t.stage ts (omega (arith, l, up)) r.1)

split-at : (first low : ℕ) (ts : List GridStage) → StagesRise low ts → SplitAt first ts
split-at first low [] r = record { front = []; back = []; is = refl; place = refl; low = tt; high = tt }
split-at first low (t ∷ ts) r = step (nat_lt t.stage first) refl (split-at first t.stage ts r.1)
  where
    here : nat_lt t.stage first ≡ true → t.stage < first
    here e = grind (arith, nat_tests)

    above : nat_lt t.stage first ≡ false → first ≤ t.stage
    above e = grind (arith, nat_tests)

    one : (n m : ℕ) → n ≡ m → 1 + n ≡ suc m
    one n m e = omega (arith, e)

    step : (b : Bool) → nat_lt t.stage first ≡ b → SplitAt first ts → SplitAt first (t ∷ ts)
    step true e s = record {
      front = t ∷ s.front;
      back = s.back;
      is = ap (λ us. t ∷ us) s.is;
      place = ap (λ c. cond c (1 + prefix_len (λ u. nat_lt u.stage first) ts) 0) e ∙ one (prefix_len (λ u. nat_lt u.stage first) ts) (length s.front) s.place;
      low = (here e, s.low);
      high = s.high;
    }
    step false e s = record {
      front = [];
      back = t ∷ ts;
      is = refl;
      place = ap (λ c. cond c (1 + prefix_len (λ u. nat_lt u.stage first) ts) 0) e;
      low = tt;
      high = (above e, all-high first t.stage ts (above e) r.1);
    }

module _ (first count : ℕ) (rows cols : List (TreeElement ℕ)) where
  low-stay : (ts : List GridStage) → AllByRecursion (λ t. t.stage < first) ts → stages_after first count rows cols ts ≡ ts
  low-stay [] a = refl
  low-stay (t ∷ ts) a = ap (λ b. cond b (kept_stage rows cols t) (t ∷ []) ++ stages_after first count rows cols ts)
      (before-due first count t.stage a.0) ∙ ap (λ us. t ∷ us) (low-stay ts a.1)

  low-none : (ts : List GridStage) → AllByRecursion (λ t. t.stage < first) ts → due_pieces first count rows cols ts ≡ []
  low-none [] a = refl
  low-none (t ∷ ts) a = ap (λ b. cond b (stage_pieces rows cols t) [] ++ due_pieces first count rows cols ts) (before-due first count t.stage a.0) ∙ low-none ts a.1

  high-stay : (ts : List GridStage) → AllByRecursion (λ t. first + count ≤ t.stage) ts → stages_after first count rows cols ts ≡ ts
  high-stay [] a = refl
  high-stay (t ∷ ts) a = ap (λ b. cond b (kept_stage rows cols t) (t ∷ []) ++ stages_after first count rows cols ts)
      (behind-due first count t.stage a.0) ∙ ap (λ us. t ∷ us) (high-stay ts a.1)

  high-none : (ts : List GridStage) → AllByRecursion (λ t. first + count ≤ t.stage) ts → due_pieces first count rows cols ts ≡ []
  high-none [] a = refl
  high-none (t ∷ ts) a = ap (λ b. cond b (stage_pieces rows cols t) [] ++ due_pieces first count rows cols ts) (behind-due first count t.stage a.0) ∙ high-none ts a.1

  after-append : (ts us : List GridStage) → stages_after first count rows cols (ts ++ us) ≡ stages_after first count rows cols ts
      ++ stages_after first count rows cols us
  after-append [] us = refl
  after-append (t ∷ ts) us =
      let one = cond (is_due first count t.stage) (kept_stage rows cols t) (t ∷ []) in
      ap (λ vs. one ++ vs) (after-append ts us) ∙ sym (append_assoc one (stages_after first count rows cols ts) (stages_after first count rows cols us))

  pieces-append : (ts us : List GridStage) → due_pieces first count rows cols (ts ++ us) ≡ due_pieces first count rows cols ts ++ due_pieces first count rows cols us
  pieces-append [] us = refl
  pieces-append (t ∷ ts) us =
      let one = cond (is_due first count t.stage) (stage_pieces rows cols t) [] in
      ap (λ vs. one ++ vs) (pieces-append ts us) ∙ sym (append_assoc one (due_pieces first count rows cols ts) (due_pieces first count rows cols us))

pub none-sent : (first count i : ℕ) (old : Grid) (ops : List CellOp) → IsSound old
    → i ≡ prefix_len (λ t. nat_lt t.stage first) old.stages.items → ops ≡ [] → ResubmitsSome first count old old i ops
none-sent first count i old ops sound e none =
    let s = split-at first 0 old.stages.items sound.rise in
    let rows = units_of old.rows in
    let cols = units_of old.cols in
    record {
      front = s.front;
      back = s.back;
      is = s.is;
      stages = s.is ∙ ap (λ ts. ts ++ s.back) (sym (low-stay first count rows cols s.front s.low));
      place = e ∙ s.place ∙ ap (λ (ts : List GridStage). length ts) (sym (low-stay first count rows cols s.front s.low));
      sent = none ∙ sym (low-none first count rows cols s.front s.low);
      high = s.high;
      rise = sound.rise;
      cells = λ r c. ap (λ ws. record (cell_at old.cells r c) { pending = ws }) (sound.writes r c);
      rest = refl;
    }

-- ---- the end

high-from : (first count low : ℕ) (ts : List GridStage) → first + count ≤ low → StagesRise low ts → AllByRecursion (λ t. first + count ≤ t.stage) ts
high-from first count low ts l r = all-high (first + count) low ts l r

rise-tail : (low : ℕ) (xs ys : List GridStage) → StagesRise low (xs ++ ys) → (m : ℕ) × StagesRise m ys
rise-tail low [] ys r = (low, r)
rise-tail low (x ∷ xs) ys r = rise-tail x.stage xs ys r.1

at-back : (xs ys : List GridStage) (n : ℕ) → n ≡ length xs → slice_get (xs ++ ys) n ≡ slice_get ys 0
at-back [] ys n e = ap (slice_get ys) e
at-back (x ∷ xs) ys zero e = cc e
at-back (x ∷ xs) ys (suc n) e = let less : n ≡ length xs = omega (arith, e) in at-back xs ys n less

pub all-sent : (first count i : ℕ) (old now : Grid) (ops : List CellOp) → ResubmitsSome first count old now i ops
    → is_due_at first count (slice_get now.stages.items i) ≡ false
    → Resubmits first count old now ops
all-sent first count i old now ops s e = by s.back s.is s.stages s.high
    (ap (λ o. is_due_at first count o) (sym (ap (λ ts. slice_get ts i) s.stages ∙ at-back (stages_after first count (units_of old.rows) (units_of old.cols) s.front) s.back i s.place)) ∙ e)
    (rise-tail 0 (stages_after first count (units_of old.rows) (units_of old.cols) s.front) s.back (subst (StagesRise 0) s.stages s.rise))
  where
    rows : List (TreeElement ℕ)
    rows = units_of old.rows

    cols : List (TreeElement ℕ)
    cols = units_of old.cols

    not-due : (k : ℕ) → first ≤ k → is_due first count k ≡ false → first + count ≤ k
    not-due k l f = step (nat_lt k (first + count)) refl
      where
        step : (b : Bool) → nat_lt k (first + count) ≡ b → first + count ≤ k
        step false g = grind (arith, nat_tests)
        step true g =
            let low : nat_le first k ≡ true = grind (arith, nat_tests) in
            absurd (never (sym f ∙ ap (λ c. c && nat_lt k (first + count)) low ∙ g))
          where
            never : false ≡ true → ⊥
            never h = cc h

    all-high-back : (ts : List GridStage) → AllByRecursion (λ t. first ≤ t.stage) ts → is_due_at first count (slice_get ts 0) ≡ false
        → ((m : ℕ) × StagesRise m ts)
        → AllByRecursion (λ t. first + count ≤ t.stage) ts
    all-high-back [] h f r = tt
    all-high-back (t ∷ ts) h f r = (not-due t.stage h.0 f, high-from first count t.stage ts (not-due t.stage h.0 f) r.1.1)

    by : (back : List GridStage) → old.stages.items ≡ s.front ++ back → now.stages.items ≡ stages_after first count (units_of old.rows) (units_of old.cols) s.front ++ back
        → AllByRecursion (λ t. first ≤ t.stage) back → is_due_at first count (slice_get back 0) ≡ false → ((m : ℕ) × StagesRise m back)
        → Resubmits first count old now ops
    by back is stages high f r =
        let a = all-high-back back high f r in
        record {
          stages = stages ∙ ap (λ ts. stages_after first count rows cols s.front ++ ts) (sym (high-stay first count rows cols back a))
              ∙ sym (after-append first count rows cols s.front back) ∙ ap (stages_after first count rows cols) (sym is);
          sent = s.sent ∙ sym (append-nil (due_pieces first count rows cols s.front))
              ∙ ap (λ ps. due_pieces first count rows cols s.front ++ ps) (sym (high-none first count rows cols back a))
              ∙ sym (pieces-append first count rows cols s.front back) ∙ ap (due_pieces first count rows cols) (sym is);
          cells = s.cells;
          rest = s.rest;
        }

-- ---- the writes of the stages that are left

module _ (r c k : ℕ) where
  -- whether a write is of another stage
  abbrev is_other : ℕ × ValueBytes → Bool
  is_other w = not (nat_eq w.0 k)

  writes-append : (xs ys : List GridStage) → writes_to r c (xs ++ ys) ≡ writes_to r c xs ++ writes_to r c ys
  writes-append [] ys = refl
  writes-append (x ∷ xs) ys = ap (λ ws. write_of r c x ++ ws) (writes-append xs ys) ∙ sym (append_assoc (write_of r c x) (writes_to r c xs) (writes_to r c ys))

  other-write : (t : GridStage) → nat_eq t.stage k ≡ false → filter is_other (write_of r c t) ≡ write_of r c t
  other-write t e = by t.op
    where
      step : (b : Bool) (value : ValueBytes) → filter is_other (cond b ((t.stage, value) ∷ []) []) ≡ cond b ((t.stage, value) ∷ []) []
      step true value = ap (λ d. cond (not d) ((t.stage, value) ∷ []) []) e
      step false value = refl

      by : (op : CellOp) → filter is_other (write_of r c (record t { op = op })) ≡ write_of r c (record t { op = op })
      by (SpliceIn target p count) = refl
      by (SpliceOut target p q) = refl
      by (Set i j value) = step (is_handle r t.row && is_handle c t.col) value

  own-write : (t : GridStage) → nat_eq t.stage k ≡ true → filter is_other (write_of r c t) ≡ []
  own-write t e = by t.op
    where
      step : (b : Bool) (value : ValueBytes) → filter is_other (cond b ((t.stage, value) ∷ []) []) ≡ []
      step true value = ap (λ d. cond (not d) ((t.stage, value) ∷ []) []) e
      step false value = refl

      by : (op : CellOp) → filter is_other (write_of r c (record t { op = op })) ≡ []
      by (SpliceIn target p count) = refl
      by (SpliceOut target p q) = refl
      by (Set i j value) = step (is_handle r t.row && is_handle c t.col) value

  other-writes : (ts : List GridStage) → AllByRecursion (λ t. nat_eq t.stage k ≡ false) ts → filter is_other (writes_to r c ts) ≡ writes_to r c ts
  other-writes [] a = refl
  other-writes (t ∷ ts) a =
      filter-append is_other (write_of r c t) (writes_to r c ts) ∙ ap (λ ws. ws ++ filter is_other (writes_to r c ts)) (other-write t a.0)
      ∙ ap (λ ws. write_of r c t ++ ws) (other-writes ts a.1)

  dropped-writes : (xs : List GridStage) (t : GridStage) (ys : List GridStage) → AllByRecursion (λ u. nat_eq u.stage k ≡ false) xs → nat_eq t.stage k ≡ true
      → AllByRecursion (λ u. nat_eq u.stage k ≡ false) ys → filter is_other (writes_to r c (xs ++ (t ∷ ys))) ≡ writes_to r c (xs ++ ys)
  dropped-writes xs t ys a e b =
      ap (filter is_other) (writes-append xs (t ∷ ys)) ∙ filter-append is_other (writes_to r c xs) (write_of r c t ++ writes_to r c ys)
      ∙ ap (λ ws. ws ++ filter is_other (write_of r c t ++ writes_to r c ys)) (other-writes xs a)
      ∙ ap (λ ws. writes_to r c xs ++ ws) (filter-append is_other (write_of r c t) (writes_to r c ys)
      ∙ ap (λ ws. ws ++ filter is_other (writes_to r c ys)) (own-write t e) ∙ other-writes ys b)
      ∙ sym (writes-append xs ys)

-- ---- numbers that rise

below-one : (low : ℕ) (xs : List GridStage) (t : GridStage) (ys : List GridStage) → StagesRise low (xs ++ (t ∷ ys)) → low < t.stage
below-one low [] t ys r = r.0
below-one low (x ∷ xs) t ys r = let up = r.0 in let more = below-one x.stage xs t ys r.1 in omega (arith, up, more)

number-above : (j k : ℕ) → k < j → nat_eq j k ≡ false
number-above j k l = grind (arith, nat_tests)

apart-left : (low : ℕ) (xs : List GridStage) (t : GridStage) (ys : List GridStage) → StagesRise low (xs ++ (t ∷ ys))
    → AllByRecursion (λ u. nat_eq u.stage t.stage ≡ false) xs
apart-left low [] t ys r = tt
apart-left low (x ∷ xs) t ys r = (below-other x.stage t.stage (below-one x.stage xs t ys r.1), apart-left x.stage xs t ys r.1)

apart-right : (k low : ℕ) (ys : List GridStage) → k ≤ low → StagesRise low ys → AllByRecursion (λ u. nat_eq u.stage k ≡ false) ys
apart-right k low [] l r = tt
apart-right k low (y ∷ ys) l r = let up = r.0 in (number-above y.stage k (omega (arith, l, up)), apart-right k y.stage ys (omega (arith, l, up)) r.1)

behind-one : (low : ℕ) (xs : List GridStage) (t : GridStage) (ys : List GridStage) → StagesRise low (xs ++ (t ∷ ys)) → StagesRise t.stage ys
behind-one low [] t ys r = r.1
behind-one low (x ∷ xs) t ys r = behind-one x.stage xs t ys r.1

rise-without : (low : ℕ) (xs : List GridStage) (t : GridStage) (ys : List GridStage) → StagesRise low (xs ++ (t ∷ ys)) → StagesRise low (xs ++ ys)
rise-without low [] t [] r = tt
rise-without low [] t (y ∷ ys) r = let up = r.0 in let more = r.1.0 in (omega (arith, up, more), r.1.1)
rise-without low (x ∷ xs) t ys r = (r.0, rise-without x.stage xs t ys r.1)

remove-at : (xs : List GridStage) (t : GridStage) (ys : List GridStage) (n : ℕ) → n ≡ length xs → remove (xs ++ (t ∷ ys)) n ≡ xs ++ ys
remove-at xs t ys n e = remove-append_right xs (t ∷ ys) n n (sym e) (omega arith) ∙ ap (λ m. xs ++ remove (t ∷ ys) m) (same n)
  where
    same : (m : ℕ) → m - m ≡ 0
    same m = omega arith

-- ---- one stage more

length-one : (xs : List GridStage) (t : GridStage) (n : ℕ) → n ≡ length xs → n + 1 ≡ length (xs ++ (t ∷ []))
length-one [] t n e = omega (arith, e)
length-one (x ∷ xs) t zero e = cc e
length-one (x ∷ xs) t (suc n) e =
    let less : n ≡ length xs = omega (arith, e) in
    let more = length-one xs t n less in
    omega (arith, more)

module _ (first count : ℕ) (old now new : Grid) (i : ℕ) (ops more : List CellOp) (s : ResubmitsSome first count old now i ops) (t : GridStage) (us : List GridStage)
    (back : s.back ≡ t ∷ us) (due : is_due first count t.stage ≡ true) where
  abbrev rows : List (TreeElement ℕ)
  rows = units_of old.rows

  abbrev cols : List (TreeElement ℕ)
  cols = units_of old.cols

  abbrev done : List GridStage
  done = stages_after first count rows cols s.front

  is-more : old.stages.items ≡ (s.front ++ (t ∷ [])) ++ us
  is-more = s.is ∙ ap (λ b. s.front ++ b) back ∙ sym (append_assoc s.front (t ∷ []) us)

  after-more : stages_after first count rows cols (s.front ++ (t ∷ [])) ≡ done ++ (kept_stage rows cols t ++ [])
  after-more = after-append first count rows cols s.front (t ∷ []) ∙ ap (λ b. done ++ (cond b (kept_stage rows cols t) (t ∷ []) ++ [])) due

  sent-more : more ≡ ops ++ stage_pieces rows cols t → more ≡ due_pieces first count rows cols (s.front ++ (t ∷ []))
  sent-more e = e ∙ ap (λ os. os ++ stage_pieces rows cols t) s.sent
      ∙ ap (λ ps. due_pieces first count rows cols s.front ++ ps) (sym (append-nil (stage_pieces rows cols t)))
      ∙ ap (λ b. due_pieces first count rows cols s.front ++ (cond b (stage_pieces rows cols t) [] ++ [])) (sym due)
      ∙ sym (pieces-append first count rows cols s.front (t ∷ []))

  high-more : AllByRecursion (λ u. first ≤ u.stage) us
  high-more = (subst (AllByRecursion (λ u. first ≤ u.stage)) back s.high).1

  now-is : now.stages.items ≡ done ++ (t ∷ us)
  now-is = s.stages ∙ ap (λ b. done ++ b) back

  -- it stays, where it has pieces
  pub one-stays : new ≡ now → (kept_stage rows cols t ≡ t ∷ []) → more ≡ ops ++ stage_pieces rows cols t → ResubmitsSome first count old new (i + 1) more
  one-stays e k m = subst (λ g. ResubmitsSome first count old g (i + 1) more) (sym e) (record {
    front = s.front ++ (t ∷ []);
    back = us;
    is = is-more;
    stages = now-is ∙ sym (append_assoc done (t ∷ []) us) ∙ ap (λ ts. ts ++ us) (sym after);
    place = length-one done t i s.place ∙ ap (λ (ts : List GridStage). length ts) (sym after);
    sent = sent-more m;
    high = high-more;
    rise = s.rise;
    cells = s.cells;
    rest = s.rest;
  })
    where
      after : stages_after first count rows cols (s.front ++ (t ∷ [])) ≡ done ++ (t ∷ [])
      after = after-more ∙ ap (λ ts. done ++ (ts ++ [])) k

  -- it is gone, where it has none
  pub one-drops : DropsStage i t now new → kept_stage rows cols t ≡ [] → more ≡ ops ++ stage_pieces rows cols t → ResubmitsSome first count old new i more
  one-drops d k m = record {
    front = s.front ++ (t ∷ []);
    back = us;
    is = is-more;
    stages = left ∙ ap (λ ts. ts ++ us) (sym after);
    place = s.place ∙ ap (λ (ts : List GridStage). length ts) (sym after);
    sent = sent-more m;
    high = high-more;
    rise = subst (StagesRise 0) (sym left) (rise-without 0 done t us rising);
    cells = λ r c. d.cells r c ∙ ap (without_write t.stage) (s.cells r c)
        ∙ ap (λ ws. record (cell_at old.cells r c) { pending = ws }) (ap (λ ts. filter (is_other r c t.stage) (writes_to r c ts)) now-is
        ∙ dropped-writes r c t.stage done t us (apart-left 0 done t us rising) (same-stage t.stage) (apart-right t.stage t.stage us (omega arith) (behind-one 0 done t us rising))
        ∙ ap (writes_to r c) (sym left));
    rest = d.rest ∙ ap (λ (g : Grid). record g { stages = new.stages; cells = new.cells }) s.rest;
  }
    where
      after : stages_after first count rows cols (s.front ++ (t ∷ [])) ≡ done
      after = after-more ∙ ap (λ ts. done ++ (ts ++ [])) k ∙ append-nil done

      left : new.stages.items ≡ done ++ us
      left = d.stages ∙ ap (λ ts. remove ts i) now-is ∙ remove-at done t us i s.place

      rising : StagesRise 0 (done ++ (t ∷ us))
      rising = subst (StagesRise 0) now-is s.rise

      same-stage : (n : ℕ) → nat_eq n n ≡ true
      same-stage n = grind (arith, nat_tests)

-- whether a stage goes on
kept-any : (rows cols : List (TreeElement ℕ)) (t : GridStage) → has_any (stage_pieces rows cols t) ≡ true → kept_stage rows cols t ≡ t ∷ []
kept-any rows cols t h = step (stage_pieces rows cols t) h
  where
    step : (ps : List CellOp) → has_any ps ≡ true → elim ps as (λ _. List GridStage) [ [] ↦ [] | _ ∷ _ ↦ t ∷ [] ] ≡ t ∷ []
    step [] g = cc g
    step (p ∷ ps) g = refl

kept-none : (rows cols : List (TreeElement ℕ)) (t : GridStage) → has_any (stage_pieces rows cols t) ≡ false → kept_stage rows cols t ≡ []
kept-none rows cols t h = step (stage_pieces rows cols t) h
  where
    step : (ps : List CellOp) → has_any ps ≡ false → elim ps as (λ _. List GridStage) [ [] ↦ [] | _ ∷ _ ↦ t ∷ [] ] ≡ []
    step [] g = refl
    step (p ∷ ps) g = cc g

pub one-sent : (first count : ℕ) (old now new : Grid) (i next : ℕ) (ops more : List CellOp) → ResubmitsSome first count old now i ops
    → is_due_at first count (slice_get now.stages.items i) ≡ true
    → ((t : GridStage) → slice_get now.stages.items i ≡ Some t → ResubmitsOne i t now new ops more next)
    → ResubmitsSome first count old new next more
one-sent first count old now new i next ops more s e f = by s.back refl
  where
    there : slice_get now.stages.items i ≡ slice_get s.back 0
    there = ap (λ ts. slice_get ts i) s.stages ∙ at-back (stages_after first count (units_of old.rows) (units_of old.cols) s.front) s.back i s.place

    same-pieces : (t : GridStage) → stage_pieces (units_of now.rows) (units_of now.cols) t ≡ stage_pieces (units_of old.rows) (units_of old.cols) t
    same-pieces t = ap (λ (g : Grid). stage_pieces (units_of g.rows) (units_of g.cols) t) s.rest

    one : (t : GridStage) (us : List GridStage) → s.back ≡ t ∷ us → is_due first count t.stage ≡ true → ResubmitsOne i t now new ops more next
        → (b : Bool) → has_any (stage_pieces (units_of now.rows) (units_of now.cols) t) ≡ b → ResubmitsSome first count old new next more
    one t us back due o true h =
        let m = o.stays h in
        subst (λ n. ResubmitsSome first count old new n more) (sym m.1)
        (one-stays first count old now new i ops more s t us back due m.0 (kept-any (units_of old.rows) (units_of old.cols) t (sym (ap has_any (same-pieces t)) ∙ h))
        (o.sent ∙ ap (λ ps. ops ++ ps) (same-pieces t)))
    one t us back due o false h =
        let m = o.drops h in
        subst (λ n. ResubmitsSome first count old new n more) (sym m.1)
        (one-drops first count old now new i ops more s t us back due m.0 (kept-none (units_of old.rows) (units_of old.cols) t (sym (ap has_any (same-pieces t)) ∙ h))
        (o.sent ∙ ap (λ ps. ops ++ ps) (same-pieces t)))

    by : (back : List GridStage) → s.back ≡ back → ResubmitsSome first count old new next more
    by [] g = absurd (never (sym (ap (is_due_at first count) (there ∙ ap (λ b. slice_get b 0) g)) ∙ e))
      where
        never : false ≡ true → ⊥
        never h = cc h
    by (t ∷ us) g =
        let here : slice_get now.stages.items i ≡ Some t = there ∙ ap (λ b. slice_get b 0) g in
        one t us g (sym (ap (is_due_at first count) here) ∙ e) (f t here) (has_any (stage_pieces (units_of now.rows) (units_of now.cols) t)) refl

pub place-less : (ts : List GridStage) (i : ℕ) (t : GridStage) → slice_get ts i ≡ Some t → i < length ts
place-less [] i t e = cc e
place-less (x ∷ ts) zero t e = omega arith
place-less (x ∷ ts) (suc i) t e = let l = place-less ts i t e in omega (arith, l)

-- fewer are to be looked at then
pub fewer-left : (first count : ℕ) (now new : Grid) (i next : ℕ) (ops more : List CellOp) → is_due_at first count (slice_get now.stages.items i) ≡ true
    → ((t : GridStage) → slice_get now.stages.items i ≡ Some t → ResubmitsOne i t now new ops more next)
    → length new.stages.items - next < length now.stages.items - i
fewer-left first count now new i next ops more e f = by (slice_get now.stages.items i) refl e
  where
    one : (t : GridStage) → ResubmitsOne i t now new ops more next → i < length now.stages.items → (b : Bool)
        → has_any (stage_pieces (units_of now.rows) (units_of now.cols) t) ≡ b
        → length new.stages.items - next < length now.stages.items - i
    one t o l true h =
        let m = o.stays h in
        let size : length new.stages.items ≡ length now.stages.items = ap (λ (g : Grid). length g.stages.items) m.0 in
        let at = m.1 in
        omega (arith, l, size, at)
    one t o l false h =
        let m = o.drops h in
        let size = ap (λ (ts : List GridStage). length ts) m.0.stages in
        let less = length-remove now.stages.items i l in
        let at = m.1 in
        omega (arith, l, size, less, at)

    by : (q : Option GridStage) → slice_get now.stages.items i ≡ q → is_due_at first count q ≡ true → length new.stages.items - next < length now.stages.items - i
    by None g h = cc h
    by (Some t) g h = one t (f t g) (place-less now.stages.items i t g) (has_any (stage_pieces (units_of now.rows) (units_of now.cols) t)) refl

-- ---- what the calls on a grid make of one stage

pub drops-stage : (i : ℕ) (t : GridStage) (old new : Grid) → t ≡ get_or old.stages.items i t → new.stages.items ≡ remove old.stages.items i
    → ((r c : ℕ) → cell_at new.cells r c ≡ without_write t.stage (cell_at old.cells r c)) → new ≡ record old { stages = new.stages; cells = new.cells }
    → (u : GridStage) → slice_get old.stages.items i ≡ Some u → DropsStage i u old new
drops-stage i t old new look items cells rest u e =
    let same : t ≡ u = look ∙ get_or_from_slice_get old.stages.items i u t e in
    record { stages = items; cells = λ r c. cells r c ∙ ap (λ (x : GridStage). without_write x.stage (cell_at old.cells r c)) same; rest = rest }

pub dropped-one : (i : ℕ) (t : GridStage) (old new : Grid) (ops more : List CellOp) → t ≡ get_or old.stages.items i t
    → more ≡ ops ++ stage_pieces (units_of old.rows) (units_of old.cols) t → length more ≤ length ops
    → ((u : GridStage) → slice_get old.stages.items i ≡ Some u → DropsStage i u old new) → (u : GridStage)
    → slice_get old.stages.items i ≡ Some u → ResubmitsOne i u old new ops more i
dropped-one i t old new ops more look sent short drop u e =
    let same : t ≡ u = look ∙ get_or_from_slice_get old.stages.items i u t e in
    let all = sent ∙ ap (λ x. ops ++ stage_pieces (units_of old.rows) (units_of old.cols) x) same in
    record {
      sent = all;
      stays = λ h. absurd (none (stage_pieces (units_of old.rows) (units_of old.cols) u) all h);
      drops = λ h. (drop u e, refl);
    }
  where
    none : (ps : List CellOp) → more ≡ ops ++ ps → has_any ps ≡ true → ⊥
    none [] g h = cc h
    none (p ∷ ps) g h = let size = ap (λ (os : List CellOp). length os) g in let parts = length-append ops (p ∷ ps) in omega (arith, size, parts, short)

-- ---- the first stage from a number on

above-at : (low : ℕ) (xs : List GridStage) → StagesRise low xs → (j : ℕ) (d : GridStage) → j < length xs → low < (get_or xs j d).stage
above-at low [] r j d l = absurd (omega (arith, l))
above-at low (x ∷ xs) r zero d l = r.0
above-at low (x ∷ xs) r (suc j) d l = let up = r.0 in let more = above-at x.stage xs r.1 j d (omega (arith, l)) in omega (arith, up, more)

rises-at : (low : ℕ) (xs : List GridStage) → StagesRise low xs → (i j : ℕ) (d : GridStage) → i ≤ j → j < length xs
    → (get_or xs i d).stage ≤ (get_or xs j d).stage
rises-at low [] r i j d le l = absurd (omega (arith, l))
rises-at low (x ∷ xs) r zero zero d le l = omega arith
rises-at low (x ∷ xs) r zero (suc j) d le l = let more = above-at x.stage xs r.1 j d (omega (arith, l)) in omega (arith, more)
rises-at low (x ∷ xs) r (suc i) zero d le l = absurd (omega (arith, le))
rises-at low (x ∷ xs) r (suc i) (suc j) d le l = rises-at x.stage xs r.1 i j d (omega (arith, le)) (omega (arith, l))

lower-too : (n m k : ℕ) → n ≤ m → nat_lt m k ≡ true → nat_lt n k ≡ true
lower-too n m k le h = grind (arith, nat_tests)

pub partitioned : (k : ℕ) (xs : List GridStage) → StagesRise 0 xs → IsPartitionedBy (λ (t : GridStage). nat_lt t.stage k) xs
partitioned k xs r = λ i j d le l h. lower-too (get_or xs i d).stage (get_or xs j d).stage k (rises-at 0 xs r i j d le l) h

pub point-is : (p : GridStage → Bool) (xs : List GridStage) (i : ℕ) → i ≤ length xs
    → IsPartitionPoint (λ t. p t ≡ true) (λ t. p t ≡ false) xs i → i ≡ prefix_len p xs
point-is p [] i le h = omega arith
point-is p (x ∷ xs) zero le h =
    let no-more : p x ≡ false = h.1 0 x (omega arith) (omega arith) in
    sym (ap (λ b. cond b (1 + prefix_len p xs) 0) no-more)
point-is p (x ∷ xs) (suc i) le h =
    let yes : p x ≡ true = h.0 0 x (omega arith) (omega arith) in
    let rest = point-is p xs i (omega arith) (λ k d lo hi. h.0 (suc k) d (omega arith) (omega arith), λ k d lo hi. h.1 (suc k) d (omega arith) (omega arith)) in
    let here : prefix_len p (x ∷ xs) ≡ 1 + prefix_len p xs = ap (λ b. cond b (1 + prefix_len p xs) 0) yes in
    omega (arith, rest, here)
