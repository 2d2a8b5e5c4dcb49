-- Cells by the places of their handles: a map that has the value of each two places is, entry by entry, the list of the cells.
use Rattle.std.proofs.Common.{◌≡◌, ℕ, zero, suc, ◌+◌, ◌≤◌, ◌⊎◌, Bool, true, false, cond, ◌&&◌, ◌||◌, nat_eq, nat_lt, List, [], ◌∷◌, ◌++◌, Option, Some, None, refl, sym, ◌∙◌, ap, subst, inl, inr, is_some, IfOk, Result, Ok, Err, map, option_and_then, slice_get, arith}
use Rattle.std.specs.BTreeMap as tree
use Rattle.std.specs.BTreeMap.{BTreeMap, is_at}
use Rattle.std.specs.List.{AllByRecursion, list_any}
use Rattle.std.specs.List.Sorted.{IsStrictlySortedBy}
use Rattle.std.specs.Map.{keys_of, lookup}
use Rattle.std.specs.Ordering.{is_eq}
use Rattle.std.specs.declared.cmp.Ordering.TheVariants.{Less}
use Rattle.std.proofs.lemmas.Bool.Decides.{nat_tests}
use Rattle.ft_base.specs.declared.memory.OutOfMemory.{OutOfMemory}
use Rattle.ft_base.specs.Scan.{len, one_more_if}
use Rattle.ft_sumdoc.specs.declared.summary.CellRec.{CellRec}
use Rattle.ft_props.specs.Properties.{ValueBytes}
use Rattle.ft_msg.specs.Content.{cell_record}
use Rattle.ft_cells.specs.declared.cells.CellKey.{CellKey}
use Rattle.ft_cells.specs.CellTables.{CellList, CellState, cell_at, holds_value, is_key, last_value, shown_value, unless_null}
use Rattle.ft_laws_agreement.proofs.SideBySideStages.{none-counted}
use Rattle.ft_matrix.specs.declared.seen.SeenRuns.{SeenRuns}
use Rattle.ft_matrix.specs.Seen.{ArePlaced, HoldsRuns, PlacesCell, PlacesHandle, cell_of, place_cmp, shown_among, shown_at, value_at}
use Rattle.ft_matrix.specs.Units.{placed_cells, placed_row}
use Rattle.ft_matrix.proofs.SoundVectors.{all-append, all-weaker}

abbrev pub Value : Type 0
Value = Option ValueBytes

-- ---- values at places

value-same : (v w : ℕ → ℕ → Value) (hs gs : List ℕ) (i j : ℕ) → ((r c : ℕ) → slice_get hs i ≡ Some r → slice_get gs j ≡ Some c → v r c ≡ w r c)
    → value_at v hs gs i j ≡ value_at w hs gs i j
value-same v w hs gs i j f = step (slice_get hs i) (slice_get gs j) refl refl
  where
    step : (o p : Option ℕ) → slice_get hs i ≡ o → slice_get gs j ≡ p
        → option_and_then (λ r. option_and_then (λ c. v r c) p) o ≡ option_and_then (λ r. option_and_then (λ c. w r c) p) o
    step None p a b = refl
    step (Some r) None a b = refl
    step (Some r) (Some c) a b = f r c a b

value-is : (v : ℕ → ℕ → Value) (hs gs : List ℕ) (i j r c : ℕ) → slice_get hs i ≡ Some r → slice_get gs j ≡ Some c → value_at v hs gs i j ≡ v r c
value-is v hs gs i j r c a b =
    ap (λ o. option_and_then (λ r. option_and_then (λ c. v r c) (slice_get gs j)) o) a ∙ ap (λ o. option_and_then (λ c. v r c) o) b

-- ---- one key more

any-last : {A : Type 0} (test : A → Bool) (xs : List A) (x : A) → list_any test (xs ++ x ∷ []) ≡ (list_any test xs || test x)
any-last test [] x = step (test x)
  where
    step : (b : Bool) → b || false ≡ false || b
    step true = refl
    step false = refl
any-last test (y ∷ xs) x = ap (λ b. test y || b) (any-last test xs x) ∙ step (test y)
  where
    step : (b : Bool) → b || (list_any test xs || test x) ≡ (b || list_any test xs) || test x
    step true = refl
    step false = refl

key-parts : (r c : ℕ) (key : CellKey) → is_key r c key ≡ true → (r ≡ key.row) × (c ≡ key.col)
key-parts r c key e = (grind (arith, nat_tests), grind (arith, nat_tests))

key-itself : (key : CellKey) → is_key key.row key.col key ≡ true
key-itself key = grind (arith, nat_tests)

module _ (cells : CellList) (keys : List CellKey) (key : CellKey) where
  abbrev more : List CellKey
  more = keys ++ key ∷ []

  -- another cell, or one that has no value, is as before
  among-same : (r c : ℕ) → (is_key r c key ≡ true → shown_at cells r c ≡ None) → shown_among more cells r c ≡ shown_among keys cells r c
  among-same r c f = ap (λ b. cond b (shown_at cells r c) None) (any-last (is_key r c) keys key) ∙ step (list_any (is_key r c) keys) (is_key r c key) refl
    where
      step : (a b : Bool) → is_key r c key ≡ b → cond (a || b) (shown_at cells r c) None ≡ cond a (shown_at cells r c) None
      step true b e = refl
      step false false e = refl
      step false true e = f e

  among-now : (r c : ℕ) → is_key r c key ≡ true → shown_among more cells r c ≡ shown_at cells r c
  among-now r c e = ap (λ b. cond b (shown_at cells r c) None) (any-last (is_key r c) keys key ∙ step (list_any (is_key r c) keys) (is_key r c key) e)
    where
      step : (a b : Bool) → b ≡ true → a || b ≡ true
      step true b e = refl
      step false b e = e

pub no-row : (cells : CellList) (rows cols : SeenRuns) (key : CellKey) (placed : BTreeMap (ℕ × ℕ) ValueBytes)
    → ((hs : List ℕ) → HoldsRuns hs rows → PlacesHandle hs key.row None) → PlacesCell cells rows cols key placed placed
no-row cells rows cols key placed f hs gs keys a b p i j =
    p i j ∙ sym (value-same (shown_among (keys ++ key ∷ []) cells) (shown_among keys cells) hs gs i j (λ r c d e. among-same cells keys key r c (λ g.
    absurd (f hs a i (d ∙ ap Some (key-parts r c key g).0)))))

pub no-col : (cells : CellList) (rows cols : SeenRuns) (key : CellKey) (placed : BTreeMap (ℕ × ℕ) ValueBytes)
    → ((gs : List ℕ) → HoldsRuns gs cols → PlacesHandle gs key.col None) → PlacesCell cells rows cols key placed placed
no-col cells rows cols key placed f hs gs keys a b p i j =
    p i j ∙ sym (value-same (shown_among (keys ++ key ∷ []) cells) (shown_among keys cells) hs gs i j (λ r c d e. among-same cells keys key r c (λ g.
    absurd (f gs b j (e ∙ ap Some (key-parts r c key g).1)))))

pub no-value : (cells : CellList) (rows cols : SeenRuns) (key : CellKey) (placed : BTreeMap (ℕ × ℕ) ValueBytes) → shown_at cells key.row key.col ≡ None
    → PlacesCell cells rows cols key placed placed
no-value cells rows cols key placed f hs gs keys a b p i j =
    p i j ∙ sym (value-same (shown_among (keys ++ key ∷ []) cells) (shown_among keys cells) hs gs i j (λ r c d e. among-same cells keys key r c (λ g.
    let k = key-parts r c key g in ap (λ i. shown_at cells i c) k.0 ∙ ap (λ i. shown_at cells key.row i) k.1 ∙ f)))

place-test : (x y i j : ℕ) → is_at (place_cmp (x, y)) (i, j) ≡ (nat_eq x i && nat_eq y j)
place-test x y i j = grind (arith, nat_tests)

both-parts : (x y i j : ℕ) → (nat_eq x i && nat_eq y j) ≡ true → (x ≡ i) × (y ≡ j)
both-parts x y i j e = (grind (arith, nat_tests), grind (arith, nat_tests))

pub one-placed : (cells : CellList) (rows cols : SeenRuns) (key : CellKey) (old new : BTreeMap (ℕ × ℕ) ValueBytes) (x y : ℕ) (v : ValueBytes)
    → ((hs : List ℕ) → HoldsRuns hs rows → PlacesHandle hs key.row (Some x)) → ((gs : List ℕ) → HoldsRuns gs cols → PlacesHandle gs key.col (Some y))
    → shown_at cells key.row key.col ≡ Some v
    → ((q : ℕ × ℕ) → tree.get place_cmp new q ≡ cond (is_at (place_cmp (x, y)) q) (Some v) (tree.get place_cmp old q))
    → PlacesCell cells rows cols key old new
one-placed cells rows cols key old new x y v f g s n hs gs keys a b p i j =
    n (i, j) ∙ ap (λ t. cond t (Some v) (tree.get place_cmp old (i, j))) (place-test x y i j) ∙ step (nat_eq x i && nat_eq y j) refl
  where
    step : (t : Bool) → (nat_eq x i && nat_eq y j) ≡ t → cond t (Some v) (tree.get place_cmp old (i, j)) ≡ value_at (shown_among (keys ++ key ∷ []) cells) hs gs i j
    step true e =
        let q = both-parts x y i j e in
        sym (value-is (shown_among (keys ++ key ∷ []) cells) hs gs i j key.row key.col (ap (slice_get hs) (sym q.0) ∙ f hs a) (ap (slice_get gs) (sym q.1) ∙ g gs b)
        ∙ among-now cells keys key key.row key.col (key-itself key) ∙ s)
    step false e =
        p i j ∙ sym (value-same (shown_among (keys ++ key ∷ []) cells) (shown_among keys cells) hs gs i j (λ r c d o. among-same cells keys key r c (λ t.
        let k = key-parts r c key t in
        let m : i ≡ x = a.once i x key.row (d ∙ ap Some k.0) (f hs a) in
        let l : j ≡ y = b.once j y key.col (o ∙ ap Some k.1) (g gs b) in
        let is : (nat_eq x i && nat_eq y j) ≡ true = grind (arith, nat_tests) in
        absurd (cc))))

-- ---- all keys

some-any : {A : Type 0} (test : A → Bool) (xs : List A) → 1 ≤ len test xs → list_any test xs ≡ true
some-any test [] l = absurd (omega arith)
some-any test (x ∷ xs) l = step (test x) l (some-any test xs)
  where
    step : (b : Bool) → 1 ≤ one_more_if b (len test xs) → (1 ≤ len test xs → list_any test xs ≡ true) → b || list_any test xs ≡ true
    step true n r = refl
    step false n r = r n

any-once : {A : Type 0} (test : A → Bool) (xs : List A) (b : Bool) → len test xs ≡ one_more_if b 0 → list_any test xs ≡ b
any-once test xs true e = some-any test xs (omega arith)
any-once test xs false e = none-counted test xs e

shown-held : (cell : CellState) → cond (holds_value cell) (shown_value cell) None ≡ shown_value cell
shown-held cell = step (last_value cell.acked cell.pending)
  where
    step : (o : Option ValueBytes) → cond (is_some o) (option_and_then unless_null o) None ≡ option_and_then unless_null o
    step None = refl
    step (Some v) = refl

pub all-among : (cells : CellList) (keys : List CellKey) (hs gs : List ℕ) (placed : BTreeMap (ℕ × ℕ) ValueBytes)
    → ((row col : ℕ) → len (is_key row col) keys ≡ one_more_if (holds_value (cell_at cells row col)) 0)
    → ArePlaced (shown_among keys cells) hs gs placed → ArePlaced (shown_at cells) hs gs placed
all-among cells keys hs gs placed once p i j =
    p i j ∙ value-same (shown_among keys cells) (shown_at cells) hs gs i j (λ r c d e.
    ap (λ b. cond b (shown_at cells r c) None) (any-once (is_key r c) keys (holds_value (cell_at cells r c)) (once r c)) ∙ shown-held (cell_at cells r c))

pub none-among : (cells : CellList) (hs gs : List ℕ) (placed : BTreeMap (ℕ × ℕ) ValueBytes) → placed.entries ≡ []
    → ArePlaced (shown_among [] cells) hs gs placed
none-among cells hs gs placed e i j =
    ap (λ (es : List ((ℕ × ℕ) × ValueBytes)). lookup (is_at (place_cmp (i, j))) es) e ∙ step (slice_get hs i) (slice_get gs j)
  where
    step : (o p : Option ℕ) → let none : Value = None in none ≡ option_and_then (λ r. option_and_then (λ c. shown_among [] cells r c) p) o
    step None p = refl
    step (Some r) None = refl
    step (Some r) (Some c) = refl

-- ---- the cells as entries

abbrev Entry : Type 0
Entry = (ℕ × ℕ) × ValueBytes

abbrev entry_of : CellRec → Entry
entry_of c = ((c.row, c.col), c.value)

abbrev entries_of : List CellRec → List Entry
entries_of cs = map entry_of cs

cells-back : (cs : List CellRec) → map cell_of (entries_of cs) ≡ cs
cells-back [] = refl
cells-back (c ∷ cs) = ap (λ ds. c ∷ ds) (cells-back cs)

abbrev find : ℕ → ℕ → List CellRec → Value
find i j cs = lookup (is_at (place_cmp (i, j))) (entries_of cs)

-- none of the cells stands at the place
abbrev Misses : ℕ → ℕ → List CellRec → Type 0
Misses i j cs = AllByRecursion (λ c. (nat_eq i c.row && nat_eq j c.col) ≡ false) cs

find-missed : (i j : ℕ) (xs ys : List CellRec) → Misses i j xs → find i j (xs ++ ys) ≡ find i j ys
find-missed i j [] ys m = refl
find-missed i j (x ∷ xs) ys m =
    ap (λ b. cond b (Some x.value) (find i j (xs ++ ys))) (place-test i j x.row x.col ∙ m.0) ∙ find-missed i j xs ys m.1

find-none : (i j : ℕ) (xs : List CellRec) → Misses i j xs → find i j xs ≡ None
find-none i j [] m = refl
find-none i j (x ∷ xs) m = ap (λ b. cond b (Some x.value) (find i j xs)) (place-test i j x.row x.col ∙ m.0) ∙ find-none i j xs m.1

-- what is found in the first list, where the second one misses the place
find-left : (i j : ℕ) (xs ys : List CellRec) → find i j ys ≡ None → find i j (xs ++ ys) ≡ find i j xs
find-left i j [] ys m = m
find-left i j (x ∷ xs) ys m = ap (λ o. cond (is_at (place_cmp (i, j)) (x.row, x.col)) (Some x.value) o) (find-left i j xs ys m)

-- the cells of a row stand in it, at or behind column j; those of rows from i on stand at or behind row i
abbrev InRow : ℕ → ℕ → List CellRec → Type 0
InRow i j cs = AllByRecursion (λ c. (c.row ≡ i) × (j ≤ c.col)) cs

abbrev FromRow : ℕ → List CellRec → Type 0
FromRow i cs = AllByRecursion (λ c. i ≤ c.row) cs

not-there : (i j r c : ℕ) → (i ≡ r → j ≡ c → ⊥) → (nat_eq i r && nat_eq j c) ≡ false
not-there i j r c f = step (nat_eq i r) (nat_eq j c) refl refl
  where
    step : (a b : Bool) → nat_eq i r ≡ a → nat_eq j c ≡ b → a && b ≡ false
    step false b d e = refl
    step true false d e = refl
    step true true d e = absurd (f (grind (arith, nat_tests)) (grind (arith, nat_tests)))

-- ---- entries by rising places with equal look-ups are equal

at-itself : (k : ℕ × ℕ) → is_at (place_cmp k) k ≡ true
at-itself k = grind (arith, nat_tests)

same-place : (x y : ℕ × ℕ) → is_at (place_cmp x) y ≡ true → x ≡ y
same-place x y e = let p = both-parts x.0 x.1 y.0 y.1 (sym (place-test x.0 x.1 y.0 y.1) ∙ e) in ap (λ (i : ℕ). (i, x.1)) p.0 ∙ ap (λ (j : ℕ). (y.0, j)) p.1

less-chain : (x y z : ℕ × ℕ) → place_cmp x y ≡ Less → place_cmp y z ≡ Less → place_cmp x z ≡ Less
less-chain x y z a b = grind (arith, nat_tests)

abbrev look : ℕ × ℕ → List Entry → Value
look q es = lookup (is_at (place_cmp q)) es

none-behind : (k : ℕ × ℕ) (es : List Entry) → AllByRecursion (λ y. place_cmp k y ≡ Less) (keys_of es) → look k es ≡ None
none-behind k [] a = refl
none-behind k (e ∷ es) a = ap (λ o. cond (is_eq o) (Some e.1) (look k es)) a.0 ∙ none-behind k es a.1

look-head : (e : Entry) (es : List Entry) → look e.0 (e ∷ es) ≡ Some e.1
look-head e es = ap (λ b. cond b (Some e.1) (look e.0 es)) (at-itself e.0)

none-below : (k : ℕ × ℕ) (e : Entry) (es : List Entry) → place_cmp k e.0 ≡ Less → AllByRecursion (λ y. place_cmp e.0 y ≡ Less) (keys_of es)
    → look k (e ∷ es) ≡ None
none-below k e es l a =
    none-behind k (e ∷ es) (l, all-weaker (λ (y : ℕ × ℕ). place_cmp e.0 y ≡ Less) (λ (y : ℕ × ℕ). place_cmp k y ≡ Less) (λ y m. less-chain k e.0 y l m) (keys_of es) a)

apart-keys : (x y : ℕ × ℕ) → (place_cmp x y ≡ Less) ⊎ ((x ≡ y) ⊎ (place_cmp y x ≡ Less))
apart-keys x y = step (nat_lt x.0 y.0) (nat_lt y.0 x.0) (nat_lt x.1 y.1) (nat_lt y.1 x.1) refl refl refl refl
  where
    step : (a b c d : Bool) → nat_lt x.0 y.0 ≡ a → nat_lt y.0 x.0 ≡ b → nat_lt x.1 y.1 ≡ c → nat_lt y.1 x.1 ≡ d
        → (place_cmp x y ≡ Less) ⊎ ((x ≡ y) ⊎ (place_cmp y x ≡ Less))
    step true b c d e f g h = inl (grind (arith, nat_tests))
    step false true c d e f g h = inr (inr (grind (arith, nat_tests)))
    step false false true d e f g h = inl (grind (arith, nat_tests))
    step false false false true e f g h = inr (inr (grind (arith, nat_tests)))
    step false false false false e f g h =
        let first : x.0 ≡ y.0 = grind (arith, nat_tests) in
        let second : x.1 ≡ y.1 = grind (arith, nat_tests) in
        inr (inl (ap (λ (i : ℕ). (i, x.1)) first ∙ ap (λ (j : ℕ). (y.0, j)) second))

same-entries : (es fs : List Entry) → IsStrictlySortedBy place_cmp (keys_of es) → IsStrictlySortedBy place_cmp (keys_of fs)
    → ((q : ℕ × ℕ) → look q es ≡ look q fs) → es ≡ fs
unfolding IsStrictlySortedBy
same-entries [] [] s t h = refl
same-entries [] (f ∷ fs) s t h = let found = look-head f fs in let e = h f.0 in absurd (cc)
same-entries (e ∷ es) [] s t h = let found = look-head e es in let f = h e.0 in absurd (cc)
same-entries (e ∷ es) (f ∷ fs) s t h = elim (apart-keys e.0 f.0) [
  | inl l ↦ let found = look-head e es in let none = none-below e.0 f fs l t.0 in let same = h e.0 in absurd (cc)
  | inr r ↦ elim r [
    | inr l ↦ let found = look-head f fs in let none = none-below f.0 e es l s.0 in let same = h f.0 in absurd (cc)
    | inl k ↦ both-heads e f es fs k s.0 t.0 h (λ g. same-entries es fs s.1 t.1 g)
  ]
]
  where
    both-heads : (e f : Entry) (es fs : List Entry) → e.0 ≡ f.0 → AllByRecursion (λ y. place_cmp e.0 y ≡ Less) (keys_of es)
        → AllByRecursion (λ y. place_cmp f.0 y ≡ Less) (keys_of fs) → ((q : ℕ × ℕ) → look q (e ∷ es) ≡ look q (f ∷ fs))
        → (((q : ℕ × ℕ) → look q es ≡ look q fs) → es ≡ fs) → e ∷ es ≡ f ∷ fs
    both-heads e f es fs k a b h r =
        let values : Some e.1 ≡ Some f.1 = sym (look-head e es) ∙ h e.0 ∙ ap (λ q. look q (f ∷ fs)) k ∙ look-head f fs in
        let value : e.1 ≡ f.1 = (cc) in
        ap (λ (i : ℕ × ℕ). (i, e.1) ∷ es) k ∙ ap (λ (v : ValueBytes). (f.0, v) ∷ es) value ∙ ap (λ gs. f ∷ gs) (r (λ q. tails q (is_at (place_cmp q) e.0) refl))
      where
        tails : (q : ℕ × ℕ) (t : Bool) → is_at (place_cmp q) e.0 ≡ t → look q es ≡ look q fs
        tails q false t =
            sym (ap (λ b. cond b (Some e.1) (look q es)) t) ∙ h q ∙ ap (λ b. cond b (Some f.1) (look q fs)) (sym (ap (λ i. is_at (place_cmp q) i) k) ∙ t)
        tails q true t =
            let same = same-place q e.0 t in
            ap (λ i. look i es) same ∙ none-behind e.0 es a ∙ sym (ap (λ i. look i fs) (same ∙ k) ∙ none-behind f.0 fs b)

module _ (v : ℕ → ℕ → Value) where
  one-in : (i j : ℕ) (o : Value) → InRow i j (cell_record i j o)
  one-in i j None = tt
  one-in i j (Some w) = ((refl, omega arith), tt)

  row-in : (i j r : ℕ) (gs : List ℕ) → InRow i j (placed_row (v r) i j gs)
  row-in i j r [] = tt
  row-in i j r (g ∷ gs) =
      all-append (λ (c : CellRec). (c.row ≡ i) × (j ≤ c.col)) (cell_record i j (v r g)) (placed_row (v r) i (j + 1) gs) (one-in i j (v r g))
      (all-weaker (λ (c : CellRec). (c.row ≡ i) × (j + 1 ≤ c.col)) (λ (c : CellRec). (c.row ≡ i) × (j ≤ c.col)) (λ c q. (q.0, let l = q.1 in omega arith))
      (placed_row (v r) i (j + 1) gs) (row-in i (j + 1) r gs))

  rows-from : (gs : List ℕ) (i : ℕ) (hs : List ℕ) → FromRow i (placed_cells v gs i hs)
  rows-from gs i [] = tt
  rows-from gs i (h ∷ hs) =
      all-append (λ (c : CellRec). i ≤ c.row) (placed_row (v h) i 0 gs) (placed_cells v gs (i + 1) hs)
      (all-weaker (λ (c : CellRec). (c.row ≡ i) × (0 ≤ c.col)) (λ (c : CellRec). i ≤ c.row) (λ c q. let e = q.0 in omega arith) (placed_row (v h) i 0 gs) (row-in i 0 h gs))
      (all-weaker (λ (c : CellRec). i + 1 ≤ c.row) (λ (c : CellRec). i ≤ c.row) (λ c q. omega arith) (placed_cells v gs (i + 1) hs) (rows-from gs (i + 1) hs))

  -- ---- what is found

  find-one : (i j : ℕ) (o : Value) → find i j (cell_record i j o) ≡ o
  find-one i j None = refl
  find-one i j (Some w) =
      let t : is_at (place_cmp (i, j)) (i, j) ≡ true = grind (arith, nat_tests) in
      let none : Value = None in ap (λ b. cond b (Some w) none) t

  find-row : (i j k n r : ℕ) (gs : List ℕ) → n ≡ j + k → find i n (placed_row (v r) i j gs) ≡ option_and_then (λ c. v r c) (slice_get gs k)
  find-row i j k n r [] e = refl
  find-row i j zero n r (g ∷ gs) e =
      let same : n ≡ j = omega arith in
      ap (λ m. find i m (cell_record i j (v r g) ++ placed_row (v r) i (j + 1) gs)) same
      ∙ find-left i j (cell_record i j (v r g)) (placed_row (v r) i (j + 1) gs) (find-none i j (placed_row (v r) i (j + 1) gs)
      (all-weaker (λ (c : CellRec). (c.row ≡ i) × (j + 1 ≤ c.col)) (λ (c : CellRec). (nat_eq i c.row && nat_eq j c.col) ≡ false)
      (λ c q. not-there i j c.row c.col (λ a b. let l = q.1 in omega arith)) (placed_row (v r) i (j + 1) gs) (row-in i (j + 1) r gs)))
      ∙ find-one i j (v r g)
  find-row i j (suc k) n r (g ∷ gs) e =
      find-missed i n (cell_record i j (v r g)) (placed_row (v r) i (j + 1) gs) (missed (v r g)) ∙ find-row i (j + 1) k n r gs (omega arith)
    where
      missed : (o : Value) → Misses i n (cell_record i j o)
      missed None = tt
      missed (Some w) = (not-there i n i j (λ a b. omega arith), tt)

  find-cells : (gs : List ℕ) (i k n j : ℕ) (hs : List ℕ) → n ≡ i + k → find n j (placed_cells v gs i hs) ≡ value_at v hs gs k j
  find-cells gs i k n j [] e = refl
  find-cells gs i zero n j (h ∷ hs) e =
      let same : n ≡ i = omega arith in
      ap (λ m. find m j (placed_row (v h) i 0 gs ++ placed_cells v gs (i + 1) hs)) same
      ∙ find-left i j (placed_row (v h) i 0 gs) (placed_cells v gs (i + 1) hs) (find-none i j (placed_cells v gs (i + 1) hs)
      (all-weaker (λ (c : CellRec). i + 1 ≤ c.row) (λ (c : CellRec). (nat_eq i c.row && nat_eq j c.col) ≡ false)
      (λ c q. not-there i j c.row c.col (λ a b. omega arith)) (placed_cells v gs (i + 1) hs) (rows-from gs (i + 1) hs)))
      ∙ find-row i 0 j j h gs (omega arith)
  find-cells gs i (suc k) n j (h ∷ hs) e =
      find-missed n j (placed_row (v h) i 0 gs) (placed_cells v gs (i + 1) hs)
      (all-weaker (λ (c : CellRec). (c.row ≡ i) × (0 ≤ c.col)) (λ (c : CellRec). (nat_eq n c.row && nat_eq j c.col) ≡ false)
      (λ c q. not-there n j c.row c.col (λ a b. let l = q.0 in omega arith)) (placed_row (v h) i 0 gs) (row-in i 0 h gs))
      ∙ find-cells gs (i + 1) k n j hs (omega arith)

  -- ---- and in which order

  abbrev Rises : List CellRec → Type 0
  Rises cs = IsStrictlySortedBy place_cmp (keys_of (entries_of cs))

  -- each cell of the second list is behind the place
  keys-behind : (i j : ℕ) (cs : List CellRec) → AllByRecursion (λ c. place_cmp (i, j) (c.row, c.col) ≡ Less) cs
      → AllByRecursion (λ y. place_cmp (i, j) y ≡ Less) (keys_of (entries_of cs))
  keys-behind i j [] a = tt
  keys-behind i j (c ∷ cs) a = (a.0, keys-behind i j cs a.1)

  rises-one : (i j : ℕ) (o : Value) (cs : List CellRec) → Rises cs → AllByRecursion (λ c. place_cmp (i, j) (c.row, c.col) ≡ Less) cs
      → Rises (cell_record i j o ++ cs)
  unfolding IsStrictlySortedBy
  rises-one i j None cs s a = s
  rises-one i j (Some w) cs s a = (keys-behind i j cs a, s)

  later-col : (i j r c : ℕ) → r ≡ i → j + 1 ≤ c → place_cmp (i, j) (r, c) ≡ Less
  later-col i j r c a b = grind (arith, nat_tests)

  later-row : (i j r c : ℕ) → i + 1 ≤ r → place_cmp (i, j) (r, c) ≡ Less
  later-row i j r c a = grind (arith, nat_tests)

  -- a row, and rows behind it
  rises-row : (i j r : ℕ) (gs : List ℕ) (cs : List CellRec) → Rises cs → FromRow (i + 1) cs → Rises (placed_row (v r) i j gs ++ cs)
  rises-row i j r [] cs s f = s
  rises-row i j r (g ∷ gs) cs s f =
      subst (λ ds. Rises ds) (sym (apart (v r g)))
      (rises-one i j (v r g) (placed_row (v r) i (j + 1) gs ++ cs) (rises-row i (j + 1) r gs cs s f)
      (all-append (λ (c : CellRec). place_cmp (i, j) (c.row, c.col) ≡ Less) (placed_row (v r) i (j + 1) gs) cs
      (all-weaker (λ (c : CellRec). (c.row ≡ i) × (j + 1 ≤ c.col)) (λ (c : CellRec). place_cmp (i, j) (c.row, c.col) ≡ Less) (λ c q. later-col i j c.row c.col q.0 q.1)
      (placed_row (v r) i (j + 1) gs) (row-in i (j + 1) r gs))
      (all-weaker (λ (c : CellRec). i + 1 ≤ c.row) (λ (c : CellRec). place_cmp (i, j) (c.row, c.col) ≡ Less) (λ c q. later-row i j c.row c.col q) cs f)))
    where
      apart : (o : Value) → (cell_record i j o ++ placed_row (v r) i (j + 1) gs) ++ cs ≡ cell_record i j o ++ (placed_row (v r) i (j + 1) gs ++ cs)
      apart None = refl
      apart (Some w) = refl

  rises-cells : (gs : List ℕ) (i : ℕ) (hs : List ℕ) → Rises (placed_cells v gs i hs)
  unfolding IsStrictlySortedBy
  rises-cells gs i [] = tt
  rises-cells gs i (h ∷ hs) = rises-row i 0 h gs (placed_cells v gs (i + 1) hs) (rises-cells gs (i + 1) hs) (rows-from gs (i + 1) hs)

  -- the entries of the map are the cells
  pub cells-listed : (hs gs : List ℕ) (placed : BTreeMap (ℕ × ℕ) ValueBytes) → tree.IsOrdered place_cmp placed → ArePlaced v hs gs placed
      → map cell_of placed.entries ≡ placed_cells v gs 0 hs
  cells-listed hs gs placed o p =
      ap (map cell_of) (same-entries placed.entries (entries_of (placed_cells v gs 0 hs)) o (rises-cells gs 0 hs)
      (λ q. p q.0 q.1 ∙ sym (find-cells gs 0 q.0 q.0 q.1 hs (omega arith))))
      ∙ cells-back (placed_cells v gs 0 hs)

pub listed-all : (r : Result (List CellRec) OutOfMemory) (target : List CellRec) (placed : BTreeMap (ℕ × ℕ) ValueBytes)
    → IfOk r (λ cells. cells ≡ map cell_of placed.entries) → IfOk r (λ cells. tree.IsOrdered place_cmp placed)
    → (tree.IsOrdered place_cmp placed → map cell_of placed.entries ≡ target)
    → IfOk r (λ cells. cells ≡ target)
listed-all (Ok cells) target placed a o f = a ∙ f o
listed-all (Err e) target placed a o f = tt
