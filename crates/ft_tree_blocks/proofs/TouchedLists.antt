-- What a note, an heir, a purge and the taking of a stage make of the lists of nodes by stage.
use Rattle.std.proofs.Common.{◌≡◌, ◌≢◌, ℕ, suc, ◌+◌, ◌<◌, ◌≤◌, zero, Bool, true, false, cond, not, ◌&&◌, ◌||◌, nat_eq, nat_lt, List, [], ◌∷◌, ◌++◌, Option, Some, None, drop, filter, length, map, get_or, insert, refl, sym, subst, ◌∙◌, inl, inr, ap, arith}
use Rattle.std.specs.List.{AllByRecursion, prefix_len, remove, slice_get}
use Rattle.std.specs.List.Sorted.{IsPartitionedBy, IsPartitionPoint}
use Rattle.std.specs.Prelude.{slice_set}
use Rattle.std.proofs.lemmas.Bool.{and_from, and_parts, cases_eq, eq-eqb, ne_eqb, or_cases, or_left, or_right}
use Rattle.std.proofs.lemmas.Bool.Decides.{nat_tests}
use Rattle.std.proofs.lemmas.Option.{get_or_from_slice_get}
use Rattle.ft_tree_blocks.specs.Touched.{AreRising, NodesOfStage, Notes, all_purged, holds, is_list_of, is_listed, is_some_node, purged, stages_below, with_heir}

-- truth tables
pub or_assoc : (a b c : Bool) → (a || (b || c)) ≡ ((a || b) || c)
or_assoc true b c = refl
or_assoc false b c = refl

or_none : (a : Bool) → (a || false) ≡ a
or_none true = refl
or_none false = refl

or_true : (a : Bool) → (a || true) ≡ true
or_true true = refl
or_true false = refl

or_comm : (a b : Bool) → (a || b) ≡ (b || a)
or_comm true b = sym (or_true b)
or_comm false b = sym (or_none b)

pub or_again : (a b : Bool) → (a || (a || b)) ≡ (a || b)
or_again true b = refl
or_again false b = refl

pub eq_from : (n m : ℕ) → nat_eq n m ≡ true → n ≡ m
eq_from n m h = grind (arith, nat_tests)

pub eq_to : (n : ℕ) → nat_eq n n ≡ true
eq_to n = eq-eqb n n refl

-- nodes of one list
pub holds-append : (ns ms : List ℕ) (z : ℕ) → holds (ns ++ ms) z ≡ (holds ns z || holds ms z)
holds-append [] ms z = refl
holds-append (n ∷ ns) ms z = ap (λ b. nat_eq n z || b) (holds-append ns ms z) ∙ or_assoc (nat_eq n z) (holds ns z) (holds ms z)

pub holds-more : (ns : List ℕ) (id z : ℕ) → holds (ns ++ id ∷ []) z ≡ (holds ns z || nat_eq id z)
holds-more ns id z = holds-append ns (id ∷ []) z ∙ ap (λ b. holds ns z || b) (or_none (nat_eq id z))

and_none : (a : Bool) → (a && false) ≡ false
and_none true = refl
and_none false = refl

-- the lists with one node more
abbrev pub noted : ℕ → ℕ → List NodesOfStage → List NodesOfStage
noted k id [] = record { stage = k; nodes = id ∷ [] } ∷ []
noted k id (x ∷ xs) =
    cond (nat_lt x.stage k) (x ∷ noted k id xs)
    (cond (nat_eq x.stage k) (record x { nodes = x.nodes ++ id ∷ [] } ∷ xs) (record { stage = k; nodes = id ∷ [] } ∷ x ∷ xs))

table1 : (a h e r : Bool) → ((a && (h || e)) || r) ≡ (((a && h) || r) || (a && e))
table1 false h e r = sym (or_none r)
table1 true true e r = refl
table1 true false e r = or_comm e r

noted_by : (b c : Bool) (k id : ℕ) (x : NodesOfStage) (xs ys : List NodesOfStage) (j z : ℕ) → nat_eq x.stage k ≡ c
    → is_listed ys j z ≡ (is_listed xs j z || (nat_eq k j && nat_eq id z))
    → is_listed (cond b (x ∷ ys) (cond c (record x { nodes = x.nodes ++ id ∷ [] } ∷ xs) (record { stage = k; nodes = id ∷ [] } ∷ x ∷ xs))) j z
    ≡ (is_listed (x ∷ xs) j z || (nat_eq k j && nat_eq id z))
noted_by true c k id x xs ys j z e h =
    ap (λ r. (nat_eq x.stage j && holds x.nodes z) || r) h
    ∙ or_assoc (nat_eq x.stage j && holds x.nodes z) (is_listed xs j z) (nat_eq k j && nat_eq id z)
noted_by false true k id x xs ys j z e h =
    ap (λ r. (nat_eq x.stage j && r) || is_listed xs j z) (holds-more x.nodes id z)
    ∙ table1 (nat_eq x.stage j) (holds x.nodes z) (nat_eq id z) (is_listed xs j z)
    ∙ ap (λ (n : ℕ). is_listed (x ∷ xs) j z || (nat_eq n j && nat_eq id z)) (eq_from x.stage k e)
noted_by false false k id x xs ys j z e h =
    ap (λ r. (nat_eq k j && r) || is_listed (x ∷ xs) j z) (or_none (nat_eq id z))
    ∙ or_comm (nat_eq k j && nat_eq id z) (is_listed (x ∷ xs) j z)

noted-listed : (k id : ℕ) (xs : List NodesOfStage) (j z : ℕ) → is_listed (noted k id xs) j z ≡ (is_listed xs j z || (nat_eq k j && nat_eq id z))
noted-listed k id [] j z = or_none (nat_eq k j && (nat_eq id z || false)) ∙ ap (λ r. nat_eq k j && r) (or_none (nat_eq id z))
noted-listed k id (x ∷ xs) j z = noted_by (nat_lt x.stage k) (nat_eq x.stage k) k id x xs (noted k id xs) j z refl (noted-listed k id xs j z)

all_above : (m k : ℕ) (xs : List NodesOfStage) → k < m → AllByRecursion (λ t. m < t.stage) xs → AllByRecursion (λ t. k < t.stage) xs
all_above m k [] lt h = tt
all_above m k (x ∷ xs) lt h = (omega (arith, h.0), all_above m k xs lt h.1)

below_at : (n k : ℕ) → nat_lt n k ≡ true → n < k
below_at n k h = grind (arith, nat_tests)

above_at : (n k : ℕ) → nat_lt n k ≡ false → nat_eq n k ≡ false → k < n
above_at n k h e = grind (arith, nat_tests)

all_by : (m k id : ℕ) (b c : Bool) (x : NodesOfStage) (xs ys : List NodesOfStage) → m < k → AllByRecursion (λ t. m < t.stage) (x ∷ xs)
    → AllByRecursion (λ t. m < t.stage) ys
    → AllByRecursion (λ t. m < t.stage) (cond b (x ∷ ys) (cond c (record x { nodes = x.nodes ++ id ∷ [] } ∷ xs) (record { stage = k; nodes = id ∷ [] } ∷ x ∷ xs)))
all_by m k id true c x xs ys lt h hy = (h.0, hy)
all_by m k id false true x xs ys lt h hy = h
all_by m k id false false x xs ys lt h hy = (lt, h)

all_noted : (m k id : ℕ) (xs : List NodesOfStage) → m < k → AllByRecursion (λ t. m < t.stage) xs → AllByRecursion (λ t. m < t.stage) (noted k id xs)
all_noted m k id [] lt h = (lt, tt)
all_noted m k id (x ∷ xs) lt h = all_by m k id (nat_lt x.stage k) (nat_eq x.stage k) x xs (noted k id xs) lt h (all_noted m k id xs lt h.1)

rising_by : (k id : ℕ) (b c : Bool) (x : NodesOfStage) (xs ys : List NodesOfStage) → nat_lt x.stage k ≡ b → nat_eq x.stage k ≡ c → AreRising (x ∷ xs)
    → (x.stage < k → AllByRecursion (λ t. x.stage < t.stage) ys) → AreRising ys
    → AreRising (cond b (x ∷ ys) (cond c (record x { nodes = x.nodes ++ id ∷ [] } ∷ xs) (record { stage = k; nodes = id ∷ [] } ∷ x ∷ xs)))
rising_by k id true c x xs ys lt e h all rest = (all (below_at x.stage k lt), rest)
rising_by k id false true x xs ys lt e h all rest = h
rising_by k id false false x xs ys lt e h all rest =
    let up = above_at x.stage k lt e in
    ((up, all_above x.stage k xs up h.0), h)

noted-rising : (k id : ℕ) (xs : List NodesOfStage) → AreRising xs → AreRising (noted k id xs)
noted-rising k id [] h = (tt, tt)
noted-rising k id (x ∷ xs) h =
    rising_by k id (nat_lt x.stage k) (nat_eq x.stage k) x xs (noted k id xs) refl refl h (λ lt. all_noted x.stage k id xs lt h.0) (noted-rising k id xs h.1)

pub noted-notes : (k id : ℕ) (xs : List NodesOfStage) → AreRising xs → Notes id xs (noted k id xs)
noted-notes k id xs h = record {
  kept = λ j z l. noted-listed k id xs j z ∙ or_left (is_listed xs j z) (nat_eq k j && nat_eq id z) l;
  only = λ j z l. elim (or_cases (is_listed xs j z) (nat_eq k j && nat_eq id z) (sym (noted-listed k id xs j z) ∙ l)) [
    | inl old ↦ inl old
    | inr new ↦ inr (sym (eq_from id z (and_parts (nat_eq k j) (nat_eq id z) new).1))
  ];
  rising = noted-rising k id xs h;
}

pub noted-there : (k id : ℕ) (xs : List NodesOfStage) → is_listed (noted k id xs) k id ≡ true
noted-there k id xs = noted-listed k id xs k id ∙ or_right (is_listed xs k id) (nat_eq k k && nat_eq id id) (and_from (nat_eq k k) (nat_eq id id) (eq_to k) (eq_to id))

insert_by : (b c : Bool) (k id n : ℕ) (x : NodesOfStage) (xs ys : List NodesOfStage) → nat_eq x.stage k ≡ c
    → (is_list_of k (slice_get xs n) ≡ false → insert xs n (record { stage = k; nodes = id ∷ [] }) ≡ ys)
    → is_list_of k (slice_get (x ∷ xs) (cond b (1 + n) 0)) ≡ false
    → insert (x ∷ xs) (cond b (1 + n) 0) (record { stage = k; nodes = id ∷ [] })
    ≡ cond b (x ∷ ys) (cond c (record x { nodes = x.nodes ++ id ∷ [] } ∷ xs) (record { stage = k; nodes = id ∷ [] } ∷ x ∷ xs))
insert_by true c k id n x xs ys e h test =
    let next : 1 + n ≡ suc n = omega arith in
    ap (λ i. insert (x ∷ xs) i (record { stage = k; nodes = id ∷ [] })) next
    ∙ ap (λ zs. x ∷ zs) (h (subst (λ i. is_list_of k (slice_get (x ∷ xs) i) ≡ false) next test))
insert_by false true k id n x xs ys e h test = (cc)
insert_by false false k id n x xs ys e h test = refl

-- where no list is of the stage yet
pub insert-noted : (k id : ℕ) (xs : List NodesOfStage) → is_list_of k (slice_get xs (stages_below k xs)) ≡ false
    → insert xs (stages_below k xs) (record { stage = k; nodes = id ∷ [] }) ≡ noted k id xs
insert-noted k id [] test = refl
insert-noted k id (x ∷ xs) test =
    insert_by (nat_lt x.stage k) (nat_eq x.stage k) k id (stages_below k xs) x xs (noted k id xs) refl (insert-noted k id xs) test

set_by : (b c : Bool) (k id n : ℕ) (s x : NodesOfStage) (xs ys : List NodesOfStage) → nat_eq x.stage k ≡ c → nat_eq s.stage k ≡ true
    → (slice_get xs n ≡ Some s → slice_set xs n (record s { nodes = s.nodes ++ id ∷ [] }) ≡ ys)
    → slice_get (x ∷ xs) (cond b (1 + n) 0) ≡ Some s
    → slice_set (x ∷ xs) (cond b (1 + n) 0) (record s { nodes = s.nodes ++ id ∷ [] })
    ≡ cond b (x ∷ ys) (cond c (record x { nodes = x.nodes ++ id ∷ [] } ∷ xs) (record { stage = k; nodes = id ∷ [] } ∷ x ∷ xs))
set_by true c k id n s x xs ys e of h test =
    let next : 1 + n ≡ suc n = omega arith in
    ap (λ i. slice_set (x ∷ xs) i (record s { nodes = s.nodes ++ id ∷ [] })) next
    ∙ ap (λ zs. x ∷ zs) (h (subst (λ i. slice_get (x ∷ xs) i ≡ Some s) next test))
set_by false true k id n s x xs ys e of h test =
    let same : x ≡ s = (cc) in
    ap (λ (y : NodesOfStage). record y { nodes = y.nodes ++ id ∷ [] } ∷ xs) (sym same)
set_by false false k id n s x xs ys e of h test =
    let same : x ≡ s = (cc) in
    let yes : nat_eq x.stage k ≡ true = ap (λ (y : NodesOfStage). nat_eq y.stage k) same ∙ of in
    (cc)

-- where the list of the stage stands
pub set-noted : (k id : ℕ) (s : NodesOfStage) (xs : List NodesOfStage) → nat_eq s.stage k ≡ true → slice_get xs (stages_below k xs) ≡ Some s
    → slice_set xs (stages_below k xs) (record s { nodes = s.nodes ++ id ∷ [] }) ≡ noted k id xs
set-noted k id s [] of test = (cc)
set-noted k id s (x ∷ xs) of test =
    set_by (nat_lt x.stage k) (nat_eq x.stage k) k id (stages_below k xs) s x xs (noted k id xs) refl of (set-noted k id s xs of) test

-- notes one after another
pub notes-none : (id : ℕ) (xs : List NodesOfStage) → AreRising xs → Notes id xs xs
notes-none id xs h = record { kept = λ k z l. l; only = λ k z l. inl l; rising = h }

-- the lists with one node fewer
table2 : (a h p : Bool) → (a && (h && p)) ≡ ((a && h) && p)
table2 true h p = refl
table2 false h p = refl

pub table3 : (a b p : Bool) → ((a && p) || (b && p)) ≡ ((a || b) && p)
table3 true b true = refl
table3 true true false = refl
table3 true false false = refl
table3 false b p = refl

filter_by : (test : ℕ → Bool) (b : Bool) (n z : ℕ) (ns ms : List ℕ) → test n ≡ b → holds ms z ≡ (holds ns z && test z)
    → holds (cond b (n ∷ ms) ms) z ≡ (holds (n ∷ ns) z && test z)
filter_by test true n z ns ms e h = elim (cases_eq n z) [
  | inl same ↦
      let yes : nat_eq n z ≡ true = eq-eqb n z same in
      let kept : test z ≡ true = ap test (sym same) ∙ e in
      ap (λ p. p || holds ms z) yes ∙ sym (ap (λ p. (p || holds ns z) && test z) yes ∙ kept)
  | inr d ↦ ap (λ p. p || holds ms z) (ne_eqb n z d) ∙ h ∙ ap (λ p. (p || holds ns z) && test z) (sym (ne_eqb n z d))
]
filter_by test false n z ns ms e h = elim (cases_eq n z) [
  | inl same ↦
      let left : test z ≡ false = ap test (sym same) ∙ e in
      h ∙ ap (λ p. holds ns z && p) left ∙ and_none (holds ns z) ∙ sym (ap (λ p. (nat_eq n z || holds ns z) && p) left ∙ and_none (nat_eq n z || holds ns z))
  | inr d ↦ h ∙ ap (λ p. (p || holds ns z) && test z) (sym (ne_eqb n z d))
]

pub holds-filter : (test : ℕ → Bool) (ns : List ℕ) (z : ℕ) → holds (filter test ns) z ≡ (holds ns z && test z)
holds-filter test [] z = refl
holds-filter test (n ∷ ns) z = filter_by test (test n) n z ns (filter test ns) refl (holds-filter test ns z)

purged-listed : (id k z : ℕ) (xs : List NodesOfStage) → is_listed (map (purged id) xs) k z ≡ (is_listed xs k z && not (nat_eq z id))
purged-listed id k z [] = refl
purged-listed id k z (x ∷ xs) =
    ap (λ h. (nat_eq x.stage k && h) || is_listed (map (purged id) xs) k z) (holds-filter (λ n. not (nat_eq n id)) x.nodes z)
    ∙ ap (λ h. h || is_listed (map (purged id) xs) k z) (table2 (nat_eq x.stage k) (holds x.nodes z) (not (nat_eq z id)))
    ∙ ap (λ r. ((nat_eq x.stage k && holds x.nodes z) && not (nat_eq z id)) || r) (purged-listed id k z xs)
    ∙ table3 (nat_eq x.stage k && holds x.nodes z) (is_listed xs k z) (not (nat_eq z id))

-- lists that keep their stages
module _ (f : NodesOfStage → NodesOfStage) (same : (x : NodesOfStage) → (f x).stage ≡ x.stage) where
  all_mapped : (m : ℕ) (xs : List NodesOfStage) → AllByRecursion (λ t. m < t.stage) xs → AllByRecursion (λ t. m < t.stage) (map f xs)
  all_mapped m [] h = tt
  all_mapped m (x ∷ xs) h = (omega (arith, same x, h.0), all_mapped m xs h.1)

  pub rising_mapped : (xs : List NodesOfStage) → AreRising xs → AreRising (map f xs)
  rising_mapped [] h = tt
  rising_mapped (x ∷ xs) h = (subst (λ n. AllByRecursion (λ t. n < t.stage) (map f xs)) (sym (same x)) (all_mapped x.stage xs h.0), rising_mapped xs h.1)

-- lists without any node say nothing
listed_by : (b : Bool) (k z : ℕ) (x : NodesOfStage) (xs ys : List NodesOfStage) → is_some_node x.nodes ≡ b → is_listed ys k z ≡ is_listed xs k z
    → is_listed (cond b (x ∷ ys) ys) k z ≡ is_listed (x ∷ xs) k z
listed_by true k z x xs ys e h = ap (λ r. (nat_eq x.stage k && holds x.nodes z) || r) h
listed_by false k z x xs ys e h = h ∙ sym (ap (λ b. (nat_eq x.stage k && b) || is_listed xs k z) (nobody x.nodes e)
    ∙ ap (λ b. b || is_listed xs k z) (and_none (nat_eq x.stage k)))
  where
    nobody : (ns : List ℕ) → is_some_node ns ≡ false → holds ns z ≡ false
    nobody [] e = refl
    nobody (n ∷ ns) e = (cc)

pub filled-listed : (k z : ℕ) (xs : List NodesOfStage) → is_listed (filter (λ s. is_some_node s.nodes) xs) k z ≡ is_listed xs k z
filled-listed k z [] = refl
filled-listed k z (x ∷ xs) = listed_by (is_some_node x.nodes) k z x xs (filter (λ s. is_some_node s.nodes) xs) refl (filled-listed k z xs)

pub all_purged-listed : (id k z : ℕ) (xs : List NodesOfStage) → is_listed (all_purged id xs) k z ≡ (is_listed xs k z && not (nat_eq z id))
all_purged-listed id k z xs = filled-listed k z (map (purged id) xs) ∙ purged-listed id k z xs

module _ (test : NodesOfStage → Bool) where
  all_filtered : (m : ℕ) (xs : List NodesOfStage) → AllByRecursion (λ t. m < t.stage) xs → AllByRecursion (λ t. m < t.stage) (filter test xs)
  all_filtered m [] h = tt
  all_filtered m (x ∷ xs) h = step (test x) (all_filtered m xs h.1)
    where
      step : (b : Bool) → AllByRecursion (λ t. m < t.stage) (filter test xs) → AllByRecursion (λ t. m < t.stage) (cond b (x ∷ filter test xs) (filter test xs))
      step true rest = (h.0, rest)
      step false rest = rest

  pub rising_filtered : (xs : List NodesOfStage) → AreRising xs → AreRising (filter test xs)
  rising_filtered [] h = tt
  rising_filtered (x ∷ xs) h = step (test x) (rising_filtered xs h.1)
    where
      step : (b : Bool) → AreRising (filter test xs) → AreRising (cond b (x ∷ filter test xs) (filter test xs))
      step true rest = (all_filtered x.stage xs h.0, rest)
      step false rest = rest

pub rising_purged : (id : ℕ) (xs : List NodesOfStage) → AreRising xs → AreRising (all_purged id xs)
rising_purged id xs h = rising_filtered (λ s. is_some_node s.nodes) (map (purged id) xs) (rising_mapped (purged id) (λ x. refl) xs h)

-- the lists with an heir
table4 : (a h f e r q : Bool) → ((a && (h || (f && e))) || (r || (q && e))) ≡ (((a && h) || r) || (((a && f) || q) && e))
table4 false h f e r q = refl
table4 true true f e r q = refl
table4 true false f e true q = or_true (f && e)
table4 true false true true false q = refl
table4 true false true false false q = and_none q
table4 true false false e false q = refl

heir-stage : (front rear : ℕ) (b : Bool) (x : NodesOfStage) → (cond b (record x { nodes = x.nodes ++ rear ∷ [] }) x).stage ≡ x.stage
heir-stage front rear true x = refl
heir-stage front rear false x = refl

heir_by : (b : Bool) (rear k z : ℕ) (x : NodesOfStage) → let y : NodesOfStage = cond b (record x { nodes = x.nodes ++ rear ∷ [] }) x in
    (nat_eq y.stage k && holds y.nodes z) ≡ (nat_eq x.stage k && (holds x.nodes z || (b && nat_eq rear z)))
heir_by true rear k z x = ap (λ h. nat_eq x.stage k && h) (holds-more x.nodes rear z)
heir_by false rear k z x = ap (λ h. nat_eq x.stage k && h) (sym (or_none (holds x.nodes z)))

pub heir-listed : (front rear k z : ℕ) (xs : List NodesOfStage)
    → is_listed (map (with_heir front rear) xs) k z ≡ (is_listed xs k z || (is_listed xs k front && nat_eq rear z))
heir-listed front rear k z [] = refl
heir-listed front rear k z (x ∷ xs) =
    ap (λ h. h || is_listed (map (with_heir front rear) xs) k z) (heir_by (holds x.nodes front) rear k z x)
    ∙ ap (λ r. (nat_eq x.stage k && (holds x.nodes z || (holds x.nodes front && nat_eq rear z))) || r) (heir-listed front rear k z xs)
    ∙ table4 (nat_eq x.stage k) (holds x.nodes z) (holds x.nodes front) (nat_eq rear z) (is_listed xs k z) (is_listed xs k front)

pub heir-notes : (front rear : ℕ) (xs : List NodesOfStage) → AreRising xs → Notes rear xs (map (with_heir front rear) xs)
heir-notes front rear xs h = record {
  kept = λ k z l. heir-listed front rear k z xs ∙ or_left (is_listed xs k z) (is_listed xs k front && nat_eq rear z) l;
  only = λ k z l. elim (or_cases (is_listed xs k z) (is_listed xs k front && nat_eq rear z) (sym (heir-listed front rear k z xs) ∙ l)) [
    | inl old ↦ inl old
    | inr new ↦ inr (sym (eq_from rear z (and_parts (is_listed xs k front) (nat_eq rear z) new).1))
  ];
  rising = rising_mapped (with_heir front rear) (λ x. heir-stage front rear (holds x.nodes front) x) xs h;
}

pub heir-there : (front rear k : ℕ) (xs : List NodesOfStage) → is_listed xs k front ≡ true → is_listed (map (with_heir front rear) xs) k rear ≡ true
heir-there front rear k xs l =
    heir-listed front rear k rear xs ∙ or_right (is_listed xs k rear) (is_listed xs k front && nat_eq rear rear) (and_from (is_listed xs k front) (nat_eq rear rear) l (eq_to rear))

-- the lists without that of a stage
abbrev pub taken : ℕ → List NodesOfStage → List NodesOfStage
taken k [] = []
taken k (x ∷ xs) = cond (nat_lt x.stage k) (x ∷ taken k xs) xs

remove_by : (b : Bool) (n : ℕ) (x : NodesOfStage) (xs ys : List NodesOfStage) → remove xs n ≡ ys → remove (x ∷ xs) (cond b (1 + n) 0) ≡ cond b (x ∷ ys) xs
remove_by true n x xs ys h =
    let next : 1 + n ≡ suc n = omega arith in
    ap (remove (x ∷ xs)) next ∙ ap (λ zs. x ∷ zs) h
remove_by false n x xs ys h = refl

pub remove-taken : (k : ℕ) (xs : List NodesOfStage) → remove xs (stages_below k xs) ≡ taken k xs
remove-taken k [] = refl
remove-taken k (x ∷ xs) = remove_by (nat_lt x.stage k) (stages_below k xs) x xs (taken k xs) (remove-taken k xs)

-- above a stage nothing is listed for it
apart : (k z : ℕ) (xs : List NodesOfStage) → AllByRecursion (λ t. k < t.stage) xs → is_listed xs k z ≡ false
apart k z [] h = refl
apart k z (x ∷ xs) h =
    let other : nat_eq x.stage k ≡ false = ne_eqb x.stage k (λ e. omega (arith, e, h.0)) in
    ap (λ a. (a && holds x.nodes z) || is_listed xs k z) other ∙ apart k z xs h.1

lower : (n k : ℕ) → nat_lt n k ≡ true → nat_eq n k ≡ false
lower n k h = grind (arith, nat_tests)

skipped : (k z : ℕ) (x : NodesOfStage) (xs : List NodesOfStage) → nat_eq x.stage k ≡ false → is_listed (x ∷ xs) k z ≡ is_listed xs k z
skipped k z x xs e = ap (λ a. (a && holds x.nodes z) || is_listed xs k z) e

-- the nodes that were listed for stage k, and the lists without them
pub record Takes (k : ℕ) (xs ys : List NodesOfStage) (ns : List ℕ) : Type 0 where
  pub nodes : (z : ℕ) → holds ns z ≡ is_listed xs k z
  pub gone : (z : ℕ) → is_listed ys k z ≡ false
  pub others : (j z : ℕ) → j ≢ k → is_listed ys j z ≡ is_listed xs j z
  pub rising : AreRising ys

all_taken_by : (m : ℕ) (b : Bool) (x : NodesOfStage) (xs ys : List NodesOfStage) → AllByRecursion (λ t. m < t.stage) (x ∷ xs)
    → AllByRecursion (λ t. m < t.stage) ys
    → AllByRecursion (λ t. m < t.stage) (cond b (x ∷ ys) xs)
all_taken_by m true x xs ys h hy = (h.0, hy)
all_taken_by m false x xs ys h hy = h.1

all_taken : (m k : ℕ) (xs : List NodesOfStage) → AllByRecursion (λ t. m < t.stage) xs → AllByRecursion (λ t. m < t.stage) (taken k xs)
all_taken m k [] h = tt
all_taken m k (x ∷ xs) h = all_taken_by m (nat_lt x.stage k) x xs (taken k xs) h (all_taken m k xs h.1)

takes_by : (b : Bool) (k n : ℕ) (s x : NodesOfStage) (xs ys : List NodesOfStage) → nat_lt x.stage k ≡ b → nat_eq s.stage k ≡ true → AreRising (x ∷ xs)
    → AllByRecursion (λ t. x.stage < t.stage) ys → (slice_get xs n ≡ Some s → Takes k xs ys s.nodes)
    → slice_get (x ∷ xs) (cond b (1 + n) 0) ≡ Some s → Takes k (x ∷ xs) (cond b (x ∷ ys) xs) s.nodes
takes_by true k n s x xs ys lt of rise all h test =
    let next : 1 + n ≡ suc n = omega arith in
    let rest = h (subst (λ i. slice_get (x ∷ xs) i ≡ Some s) next test) in
    let other = lower x.stage k lt in
    record {
      nodes = λ z. rest.nodes z ∙ sym (skipped k z x xs other);
      gone = λ z. skipped k z x ys other ∙ rest.gone z;
      others = λ j z d. ap (λ r. (nat_eq x.stage j && holds x.nodes z) || r) (rest.others j z d);
      rising = (all, rest.rising);
    }
takes_by false k n s x xs ys lt of rise all h test =
    let same : x ≡ s = (cc) in
    let own : nat_eq x.stage k ≡ true = ap (λ (y : NodesOfStage). nat_eq y.stage k) same ∙ of in
    let stage : x.stage ≡ k = eq_from x.stage k own in
    let above : AllByRecursion (λ t. k < t.stage) xs = subst (λ n. AllByRecursion (λ t. n < t.stage) xs) stage rise.0 in
    record {
      nodes = λ z. ap (λ (y : NodesOfStage). holds y.nodes z) (sym same)
          ∙ sym (or_none (holds x.nodes z))
          ∙ sym (ap (λ a. (a && holds x.nodes z) || is_listed xs k z) own ∙ ap (λ r. holds x.nodes z || r) (apart k z xs above));
      gone = λ z. apart k z xs above;
      others = λ j z d. sym (skipped j z x xs (ne_eqb x.stage j (λ e. d (sym e ∙ stage))));
      rising = rise.1;
    }

pub takes-found : (k : ℕ) (s : NodesOfStage) (xs : List NodesOfStage) → AreRising xs → nat_eq s.stage k ≡ true → slice_get xs (stages_below k xs) ≡ Some s
    → Takes k xs (taken k xs) s.nodes
takes-found k s [] h of test = (cc)
takes-found k s (x ∷ xs) h of test =
    takes_by (nat_lt x.stage k) k (stages_below k xs) s x xs (taken k xs) refl of h (all_taken x.stage k xs h.0) (takes-found k s xs h.1 of) test

none_by : (b : Bool) (k n z : ℕ) (x : NodesOfStage) (xs : List NodesOfStage) → nat_lt x.stage k ≡ b → AreRising (x ∷ xs)
    → (is_list_of k (slice_get xs n) ≡ false → is_listed xs k z ≡ false)
    → is_list_of k (slice_get (x ∷ xs) (cond b (1 + n) 0)) ≡ false → is_listed (x ∷ xs) k z ≡ false
none_by true k n z x xs lt rise h test =
    let next : 1 + n ≡ suc n = omega arith in
    skipped k z x xs (lower x.stage k lt) ∙ h (subst (λ i. is_list_of k (slice_get (x ∷ xs) i) ≡ false) next test)
none_by false k n z x xs lt rise h test =
    let up = above_at x.stage k lt test in
    apart k z (x ∷ xs) (up, all_above x.stage k xs up rise.0)

none-listed : (k z : ℕ) (xs : List NodesOfStage) → AreRising xs → is_list_of k (slice_get xs (stages_below k xs)) ≡ false
    → is_listed xs k z ≡ false
none-listed k z [] h test = refl
none-listed k z (x ∷ xs) h test = none_by (nat_lt x.stage k) k (stages_below k xs) z x xs refl h (none-listed k z xs h.1) test

pub takes-none : (k : ℕ) (xs : List NodesOfStage) → AreRising xs → is_list_of k (slice_get xs (stages_below k xs)) ≡ false
    → Takes k xs xs []
takes-none k xs h test = record {
  nodes = λ z. sym (none-listed k z xs h test);
  gone = λ z. none-listed k z xs h test;
  others = λ j z d. refl;
  rising = h;
}

-- the lists from a stage on
pub rising-drop : (n : ℕ) (xs : List NodesOfStage) → AreRising xs → AreRising (drop n xs)
rising-drop zero [] h = tt
rising-drop (suc n) [] h = tt
rising-drop zero (x ∷ xs) h = h
rising-drop (suc n) (x ∷ xs) h = rising-drop n xs h.1

from_by : (b : Bool) (k j n z : ℕ) (x : NodesOfStage) (xs : List NodesOfStage) → nat_lt x.stage k ≡ b → k ≤ j → is_listed (drop n xs) j z ≡ is_listed xs j z
    → is_listed (drop (cond b (1 + n) 0) (x ∷ xs)) j z ≡ is_listed (x ∷ xs) j z
from_by true k j n z x xs lt le h =
    let next : 1 + n ≡ suc n = omega arith in
    let below = below_at x.stage k lt in
    ap (λ i. is_listed (drop i (x ∷ xs)) j z) next ∙ h ∙ sym (skipped j z x xs (ne_eqb x.stage j (λ e. omega (arith, e, below, le))))
from_by false k j n z x xs lt le h = refl

pub from-listed : (k j z : ℕ) (xs : List NodesOfStage) → k ≤ j → is_listed (drop (stages_below k xs) xs) j z ≡ is_listed xs j z
from-listed k j z [] le = refl
from-listed k j z (x ∷ xs) le = from_by (nat_lt x.stage k) k j (stages_below k xs) z x xs refl le (from-listed k j z xs le)

-- how a place among rising stages is found
above_head : (m j : ℕ) (xs : List NodesOfStage) (d : NodesOfStage) → AllByRecursion (λ t. m < t.stage) xs → j < length xs → m < (get_or xs j d).stage
above_head m j [] d h lt = absurd (omega arith)
above_head m zero (x ∷ xs) d h lt = h.0
above_head m (suc j) (x ∷ xs) d h lt = above_head m j xs d h.1 (omega arith)

rises : (xs : List NodesOfStage) → AreRising xs → (i j : ℕ) (d : NodesOfStage) → i ≤ j → j < length xs → (get_or xs i d).stage ≤ (get_or xs j d).stage
rises [] h i j d le lt = absurd (omega arith)
rises (x ∷ xs) h zero zero d le lt = omega arith
rises (x ∷ xs) h zero (suc j) d le lt = omega (arith, above_head x.stage j xs d h.0 (omega arith))
rises (x ∷ xs) h (suc i) zero d le lt = absurd (omega arith)
rises (x ∷ xs) h (suc i) (suc j) d le lt = rises xs h.1 i j d (omega arith) (omega arith)

lower_too : (n m k : ℕ) → n ≤ m → nat_lt m k ≡ true → nat_lt n k ≡ true
lower_too n m k le h = grind (arith, nat_tests)

pub partitioned : (k : ℕ) (xs : List NodesOfStage) → AreRising xs → IsPartitionedBy (λ s. nat_lt s.stage k) xs
partitioned k xs h = λ i j d le lt t. lower_too (get_or xs i d).stage (get_or xs j d).stage k (rises xs h i j d le lt) t

pub point_is : (p : NodesOfStage → Bool) (xs : List NodesOfStage) (i : ℕ) → i ≤ length xs → IsPartitionPoint (λ s. p s ≡ true) (λ s. p s ≡ false) xs i
    → i ≡ prefix_len p xs
point_is p [] i le h = omega arith
point_is p (x ∷ xs) zero le h =
    let no : p x ≡ false = h.1 0 x (omega arith) (omega arith) in
    sym (ap (λ b. cond b (1 + prefix_len p xs) 0) no)
point_is p (x ∷ xs) (suc i) le h =
    let yes : p x ≡ true = h.0 0 x (omega arith) (omega arith) in
    let rest = point_is p xs i (omega arith) (λ k d lo hi. h.0 (suc k) d (omega arith) (omega arith), λ k d lo hi. h.1 (suc k) d (omega arith) (omega arith)) in
    let here : prefix_len p (x ∷ xs) ≡ 1 + prefix_len p xs = ap (λ b. cond b (1 + prefix_len p xs) 0) yes in
    omega (arith, rest, here)

-- the list that stands where the test says
pub found : (k : ℕ) (o : Option NodesOfStage) → is_list_of k o ≡ true → (s : NodesOfStage) × (o ≡ Some s) × (nat_eq s.stage k ≡ true)
found k None h = (cc)
found k (Some s) h = (s, refl, h)

-- what is written there, and what is read
pub write-noted : (k id i : ℕ) (xs : List NodesOfStage) (x new : NodesOfStage) → AreRising xs → i ≡ stages_below k xs → is_list_of k (slice_get xs i) ≡ true
    → x ≡ get_or xs i x → new ≡ record x { nodes = x.nodes ++ id ∷ [] } → slice_set xs i new ≡ noted k id xs
write-noted k id i xs x new h e test is is_new =
    let s = found k (slice_get xs i) test in
    let same : x ≡ s.0 = is ∙ get_or_from_slice_get xs i s.0 x s.1 in
    ap (λ j. slice_set xs j new) e
    ∙ ap (slice_set xs (stages_below k xs)) (is_new ∙ ap (λ (y : NodesOfStage). record y { nodes = y.nodes ++ id ∷ [] }) same)
    ∙ set-noted k id s.0 xs s.2 (subst (λ j. slice_get xs j ≡ Some s.0) e s.1)

pub insert-is : (k id i : ℕ) (xs ys : List NodesOfStage) (new : NodesOfStage) → i ≡ stages_below k xs → is_list_of k (slice_get xs i) ≡ false
    → new ≡ record { stage = k; nodes = id ∷ [] } → ys ≡ insert xs i new → ys ≡ noted k id xs
insert-is k id i xs ys new e test is_new is =
    is ∙ ap (λ j. insert xs j new) e ∙ ap (insert xs (stages_below k xs)) is_new
    ∙ insert-noted k id xs (subst (λ j. is_list_of k (slice_get xs j) ≡ false) e test)

pub take-found : (k i : ℕ) (xs ys : List NodesOfStage) (x : NodesOfStage) (ns : List ℕ) → AreRising xs → i ≡ stages_below k xs
    → is_list_of k (slice_get xs i) ≡ true
    → x ≡ get_or xs i x → ns ≡ x.nodes → ys ≡ remove xs i → Takes k xs ys ns
take-found k i xs ys x ns h e test is is_ns is_ys =
    let s = found k (slice_get xs i) test in
    let same : x ≡ s.0 = is ∙ get_or_from_slice_get xs i s.0 x s.1 in
    subst (Takes k xs ys) (sym (is_ns ∙ ap (λ (y : NodesOfStage). y.nodes) same))
    (subst (λ zs. Takes k xs zs s.0.nodes) (sym (is_ys ∙ ap (remove xs) e ∙ remove-taken k xs))
    (takes-found k s.0 xs h s.2 (subst (λ j. slice_get xs j ≡ Some s.0) e s.1)))

pub take-none : (k i : ℕ) (xs : List NodesOfStage) (ns : List ℕ) → AreRising xs → i ≡ stages_below k xs → is_list_of k (slice_get xs i) ≡ false
    → ns ≡ [] → Takes k xs xs ns
take-none k i xs ns h e test none =
    subst (Takes k xs xs) (sym none) (takes-none k xs h (subst (λ j. is_list_of k (slice_get xs j) ≡ false) e test))
