-- One pending operation gets new references as its ends, and those that it had end.
use Rattle.std.proofs.Common.{◌≡◌, ◌≢◌, ℕ, ◌+◌, ◌<◌, ◌≤◌, Bool, true, false, cond, nat_eq, List, [], ◌∷◌, ◌++◌, map, length, get_or, set, take, drop, suc, not, nat_lt, Some, None, IsSome, option_map, refl, sym, ◌∙◌, ap, subst, arith}
use Rattle.std.specs.List.{list_any, position, position_or_len}
use Rattle.std.proofs.lemmas.List.{drop_more, get_or_read, set_split, take-append-drop}
use Rattle.std.proofs.lemmas.Bool.Decides.{nat_tests}
use Rattle.std.proofs.lemmas.Grind.{flat_map-append}
use Rattle.std.proofs.lemmas.Option.{none-some}
use Rattle.ft_base.specs.Scan.{len}
use Rattle.ft_tree_leaves.proofs.Runs.{len-append}
use Rattle.ft_tree_leaves.specs.declared.references.Reference.{Reference}
use Rattle.ft_tree_leaves.specs.References.{reference_at}
use Rattle.ft_interval_store.specs.declared.intervals.EndPair.{EndPair}
use Rattle.ft_interval_store.specs.declared.intervals.Interval.{Interval}
use Rattle.ft_interval_store.specs.declared.pending.Operation.{Operation}
use Rattle.ft_interval_store.specs.Ends.{AreAddedEnds, AreDistinctEnds, AreLiveEnds, References, both_ends, holds_end, is_reference, no_ends, places_of_ends}
use Rattle.ft_interval_store.specs.State.{CollectionsState, IsInOrder, IsLive, IsMarked, KeepsReferences, StagesRise, ends_of_intervals, ends_of_operations, is_acknowledged, is_at_stage, keeps, kept_ends, operation_at, placed, placed_operations, times_kept, with_ends_at, with_mapped_names}
use Rattle.ft_interval_store.proofs.AppliedEffect.{not-live, there}
use Rattle.ft_interval_store.proofs.HandedOn.{held, no-times, none-there, one-there, some-times}
use Rattle.ft_interval_store.proofs.KeptEnds.{ends-same, intervals-same, live-ends, operations-same}

-- ---- stages

rises-again : (k : ℕ) (left : List Operation) (t : Operation) (ends : EndPair ℕ) (right : List Operation) → StagesRise k (left ++ t ∷ right)
    → StagesRise k (left ++ (record t { ends = ends }) ∷ right)
rises-again k [] t ends right r = r
rises-again k (x ∷ left) t ends right r = (r.0, rises-again x.stage left t ends right r.1)

above-all : (k : ℕ) (left : List Operation) (t : Operation) (right : List Operation) → StagesRise k (left ++ t ∷ right) → k < t.stage
above-all k [] t right r = r.0
above-all k (x ∷ left) t right r = (let l = above-all x.stage left t right r.1 in omega (arith, r.0, l))

-- those above a stage have others
module _ (k : ℕ) (f : EndPair ℕ → EndPair ℕ) where
  abbrev at-stage : Operation → Operation
  at-stage t = cond (is_at_stage k t) (with_mapped_names f t) t

  not-at : (t : Operation) → t.stage ≢ k → at-stage t ≡ t
  not-at t d = (let no : nat_eq t.stage k ≡ false = grind (arith, nat_tests, d) in ap (λ b. cond b (with_mapped_names f t) t) no)

  behind-stay : (j : ℕ) (ts : List Operation) → k ≤ j → StagesRise j ts → map at-stage ts ≡ ts
  behind-stay j [] l r = refl
  behind-stay j (t ∷ ts) l r =
      let d : t.stage ≢ k = omega (arith, l, r.0) in
      let first = not-at t d in
      let rest = behind-stay t.stage ts (omega (arith, l, r.0)) r.1 in
      λ i. first i ∷ rest i

  one-changed : (j : ℕ) (left : List Operation) (t : Operation) (right : List Operation) → t.stage ≡ k → StagesRise j (left ++ t ∷ right)
      → map at-stage (left ++ t ∷ right) ≡ left ++ with_mapped_names f t ∷ right
  one-changed j [] t right e r =
      let yes : nat_eq t.stage k ≡ true = grind (arith, nat_tests, e) in
      let first = ap (λ b. cond b (with_mapped_names f t) t) yes in
      let rest = behind-stay t.stage right (omega (arith, e)) r.1 in
      λ i. first i ∷ rest i
  one-changed j (x ∷ left) t right e r =
      let l = above-all x.stage left t right r.1 in
      let d : x.stage ≢ k = omega (arith, l, e) in
      let first = not-at x d in
      let rest = one-changed x.stage left t right e r.1 in
      λ i. first i ∷ rest i

-- ---- places

placed-append : (refs : References) (xs ys : List Operation) → placed_operations refs (xs ++ ys) ≡ placed_operations refs xs ++ placed_operations refs ys
placed-append refs [] ys = refl
placed-append refs (x ∷ xs) ys = ap (λ zs. with_mapped_names (places_of_ends refs) x ∷ zs) (placed-append refs xs ys)

pub placed-rise : (refs : References) (k : ℕ) (ts : List Operation) → StagesRise k ts → StagesRise k (placed_operations refs ts)
placed-rise refs k [] r = tt
placed-rise refs k (t ∷ ts) r = (r.0, placed-rise refs t.stage ts r.1)

pub placed-at : (refs : References) (k : ℕ) (ts : List Operation)
    → operation_at k (placed_operations refs ts) ≡ option_map (with_mapped_names (places_of_ends refs)) (operation_at k ts)
placed-at refs k [] = refl
placed-at refs k (t ∷ ts) = by (is_at_stage k t) (placed-at refs k ts)
  where
    by : (b : Bool) → operation_at k (placed_operations refs ts) ≡ option_map (with_mapped_names (places_of_ends refs)) (operation_at k ts)
        → cond b (Some (with_mapped_names (places_of_ends refs) t)) (operation_at k (placed_operations refs ts))
        ≡ option_map (with_mapped_names (places_of_ends refs)) (cond b (Some t) (operation_at k ts))
    by true h = refl
    by false h = h

module _ (acked : List (Interval ℕ)) (left : List Operation) (t : Operation) (right : List Operation) (places again : EndPair ℕ) (before mid : References) where
  abbrev pub was : CollectionsState
  was = record { acked = acked; pending = left ++ t ∷ right }

  abbrev pub settled : CollectionsState
  settled = record { acked = acked; pending = left ++ (record t { ends = again }) ∷ right }

  split : (e : EndPair ℕ) → ends_of_operations (left ++ (record t { ends = e }) ∷ right) ≡ ends_of_operations left ++ (both_ends e ++ ends_of_operations right)
  split e = flat_map-append (λ (x : Operation). both_ends x.ends) left ((record t { ends = e }) ∷ right)

  -- how often a reference is kept, where these are the ends of the operation
  parts : (e : EndPair ℕ) (r : ℕ) → len (is_reference r) (ends_of_intervals acked ++ ends_of_operations (left ++ (record t { ends = e }) ∷ right))
      ≡ len (is_reference r) (ends_of_intervals acked) + (len (is_reference r) (ends_of_operations left)
      + (len (is_reference r) (both_ends e) + len (is_reference r) (ends_of_operations right)))
  parts e r =
      let p = is_reference r in
      let all = len-append p (ends_of_intervals acked) (ends_of_operations (left ++ (record t { ends = e }) ∷ right)) in
      let cut = ap (λ es. len p es) (split e) ∙ len-append p (ends_of_operations left) (both_ends e ++ ends_of_operations right) in
      let back = len-append p (both_ends e) (ends_of_operations right) in
      omega (arith, all, cut, back)

  pending-parts : (e : EndPair ℕ) (r : ℕ) → len (is_reference r) (ends_of_operations (left ++ (record t { ends = e }) ∷ right))
      ≡ len (is_reference r) (ends_of_operations left) + (len (is_reference r) (both_ends e) + len (is_reference r) (ends_of_operations right))
  pending-parts e r =
      let p = is_reference r in
      let cut = ap (λ es. len p es) (split e) ∙ len-append p (ends_of_operations left) (both_ends e ++ ends_of_operations right) in
      let back = len-append p (both_ends e) (ends_of_operations right) in
      omega (arith, cut, back)

  was-parts : (r : ℕ) → times_kept r was ≡ len (is_reference r) (ends_of_intervals acked) + (len (is_reference r) (ends_of_operations left)
      + (len (is_reference r) (both_ends t.ends) + len (is_reference r) (ends_of_operations right)))
  was-parts r = parts t.ends r

  new-parts : (r : ℕ) → times_kept r settled ≡ len (is_reference r) (ends_of_intervals acked) + (len (is_reference r) (ends_of_operations left)
      + (len (is_reference r) (both_ends again) + len (is_reference r) (ends_of_operations right)))
  new-parts r = parts again r

  was-pending : (r : ℕ) → len (is_reference r) (ends_of_operations was.pending)
      ≡ len (is_reference r) (ends_of_operations left) + (len (is_reference r) (both_ends t.ends) + len (is_reference r) (ends_of_operations right))
  was-pending r = pending-parts t.ends r

  new-pending : (r : ℕ) → len (is_reference r) (ends_of_operations settled.pending)
      ≡ len (is_reference r) (ends_of_operations left) + (len (is_reference r) (both_ends again) + len (is_reference r) (ends_of_operations right))
  new-pending r = pending-parts again r

  module _ (order : IsInOrder was) (live : IsLive before was) where
    known : (r : ℕ) → 1 ≤ times_kept r was → IsSome (reference_at before r)
    known r l = live r (one-there r (kept_ends was) l)

    pub own-live : AreLiveEnds before t.ends
    own-live = live-ends before t.ends (λ r h. (let some = some-times r (both_ends t.ends) (held r t.ends ∙ h) in known r (omega (arith, some, was-parts r))))

    pub own-distinct : AreDistinctEnds t.ends
    own-distinct r = omega (arith, was-parts r, order.once r)

    module _ (added : AreAddedEnds places before mid again) where
      -- what was kept is not new
      new-ends : (r : ℕ) → holds_end r again ≡ true → times_kept r was ≡ 0
      new-ends r h = no-times r (kept_ends was) (by (keeps r was) refl)
        where
          by : (b : Bool) → keeps r was ≡ b → b ≡ false
          by true f = absurd (not-live (reference_at before r) (added.fresh r h) (live r f))
          by false f = refl

      old-ends : (r : ℕ) → 1 ≤ times_kept r was → holds_end r again ≡ false
      old-ends r l = by (holds_end r again) refl
        where
          by : (b : Bool) → holds_end r again ≡ b → b ≡ false
          by true f = absurd (omega (arith, l, new-ends r f))
          by false f = refl

      pub own-live-mid : AreLiveEnds mid t.ends
      own-live-mid = live-ends mid t.ends (λ r h. (let some = some-times r (both_ends t.ends) (held r t.ends ∙ h) in
          let kept : 1 ≤ times_kept r was = omega (arith, some, was-parts r) in
          subst (λ x. IsSome x) (sym (added.others r (old-ends r kept))) (known r kept)))

      pub settled-in_order : IsInOrder settled
      settled-in_order = record {
        once = λ r. by r (holds_end r again) refl;
        rising = rises-again 0 left t again right order.rising;
      }
        where
          by : (r : ℕ) (b : Bool) → holds_end r again ≡ b → times_kept r settled ≤ 1
          by r true h = omega (arith, new-parts r, was-parts r, new-ends r h, added.once r)
          by r false h =
              let none = no-times r (both_ends again) (held r again ∙ h) in
              omega (arith, new-parts r, was-parts r, none, order.once r)

      module _ (after : References) (dropped : (r : ℕ) → reference_at after r ≡ cond (holds_end r t.ends) None (reference_at mid r)) where
        not-own : (r : ℕ) → len (is_reference r) (both_ends t.ends) ≡ 0 → reference_at after r ≡ reference_at mid r
        not-own r z = dropped r ∙ ap (λ b. cond b None (reference_at mid r)) (sym (held r t.ends) ∙ none-there r (both_ends t.ends) z)

        -- a new end
        new-stays : (r : ℕ) → holds_end r again ≡ true → reference_at after r ≡ reference_at mid r
        new-stays r h = not-own r (omega (arith, new-ends r h, was-parts r))

        -- what is kept beside the operation
        beside : (r : ℕ) → 1 ≤ times_kept r was → len (is_reference r) (both_ends t.ends) ≡ 0 → reference_at after r ≡ reference_at before r
        beside r l z = not-own r z ∙ added.others r (old-ends r l)

        acked-stays : (r : ℕ) → list_any (is_reference r) (ends_of_intervals acked) ≡ true → reference_at after r ≡ reference_at before r
        acked-stays r h =
            let some = some-times r (ends_of_intervals acked) h in
            beside r (omega (arith, some, was-parts r)) (omega (arith, some, was-parts r, order.once r))

        left-stays : (r : ℕ) → list_any (is_reference r) (ends_of_operations left) ≡ true → reference_at after r ≡ reference_at before r
        left-stays r h =
            let some = some-times r (ends_of_operations left) h in
            beside r (omega (arith, some, was-parts r)) (omega (arith, some, was-parts r, order.once r))

        right-stays : (r : ℕ) → list_any (is_reference r) (ends_of_operations right) ≡ true → reference_at after r ≡ reference_at before r
        right-stays r h =
            let some = some-times r (ends_of_operations right) h in
            beside r (omega (arith, some, was-parts r)) (omega (arith, some, was-parts r, order.once r))

        pub settled-references : KeepsReferences was settled before after
        settled-references = record {
          live = λ r h. alive r (some-times r (kept_ends settled) h) (holds_end r again) refl;
          marked = λ m. record {
            acked = λ r h. ap (option_map (λ (x : Reference). x.acked)) (acked-stays r h) ∙ m.acked r h;
            pending = λ r h. unacked m r (some-times r (ends_of_operations settled.pending) h) (holds_end r again) refl;
          };
          others = λ r h. rest r (no-times r (kept_ends settled) h) (keeps r was) refl;
        }
          where
            alive : (r : ℕ) → 1 ≤ times_kept r settled → (b : Bool) → holds_end r again ≡ b → IsSome (reference_at after r)
            alive r l true h = subst (λ x. IsSome x) (sym (new-stays r h)) (there (reference_at mid r) (added.pending r h))
            alive r l false h =
                let none = no-times r (both_ends again) (held r again ∙ h) in
                let kept : 1 ≤ times_kept r was = omega (arith, l, none, new-parts r, was-parts r) in
                let z : len (is_reference r) (both_ends t.ends) ≡ 0 = omega (arith, l, none, new-parts r, was-parts r, order.once r) in
                subst (λ x. IsSome x) (sym (beside r kept z)) (known r kept)

            unacked : IsMarked before was → (r : ℕ) → 1 ≤ len (is_reference r) (ends_of_operations settled.pending) → (b : Bool) → holds_end r again ≡ b
                → is_acknowledged after r ≡ Some false
            unacked m r l true h = ap (option_map (λ (x : Reference). x.acked)) (new-stays r h) ∙ added.pending r h
            unacked m r l false h =
                let none = no-times r (both_ends again) (held r again ∙ h) in
                let some : 1 ≤ len (is_reference r) (ends_of_operations was.pending) = omega (arith, l, none, new-pending r, was-pending r) in
                let kept : 1 ≤ times_kept r was = omega (arith, some, was-pending r, was-parts r) in
                let z : len (is_reference r) (both_ends t.ends) ≡ 0 =
                omega (arith, l, none, new-pending r, was-parts r, order.once r) in
                ap (option_map (λ (x : Reference). x.acked)) (beside r kept z) ∙ m.pending r (one-there r (ends_of_operations was.pending) some)

            rest : (r : ℕ) → times_kept r settled ≡ 0 → (b : Bool) → keeps r was ≡ b → reference_at after r ≡ cond b None (reference_at before r)
            rest r z true h =
                let some : 1 ≤ times_kept r was = some-times r (kept_ends was) h in
                let own = one-there r (both_ends t.ends) (omega (arith, z, some, new-parts r, was-parts r)) in
                dropped r ∙ ap (λ b. cond b None (reference_at mid r)) (sym (held r t.ends) ∙ own)
            rest r z false h =
                let none : times_kept r was ≡ 0 = no-times r (kept_ends was) h in
                let free = none-there r (both_ends again) (omega (arith, z, new-parts r)) in
                not-own r (omega (arith, none, was-parts r)) ∙ added.others r (sym (held r again) ∙ free)

        pub settled-places : (k : ℕ) (f : EndPair ℕ → EndPair ℕ) → t.stage ≡ k → places ≡ f (places_of_ends before t.ends)
            → placed after settled ≡ with_ends_at k f (placed before was)
        settled-places k f e p =
            let front = operations-same before after left left-stays in
            let back = operations-same before after right right-stays in
            let own = new-places ∙ added.places_are ∙ p in
            let same = intervals-same before after acked acked-stays in
            let now = placed-append after left ((record t { ends = again }) ∷ right) in
            let then = ap (map (at-stage k f)) (placed-append before left (t ∷ right))
            ∙ one-changed k f 0 (placed_operations before left) (with_mapped_names (places_of_ends before) t) (placed_operations before right) e
            (subst (λ ts. StagesRise 0 ts) (placed-append before left (t ∷ right)) (placed-rise before 0 (left ++ t ∷ right) order.rising)) in
            let all = now ∙ (λ i. front i ++ (record t { ends = own i }) ∷ back i) ∙ sym then in
            λ i. record { acked = same i; pending = all i }
          where
            new-places : places_of_ends after again ≡ places_of_ends mid again
            new-places = ends-same mid after again new-stays

-- the first operation of a stage, by its place
pub at-place : (k : ℕ) (left : List Operation) (t : Operation) (right : List Operation) (j : ℕ) → t.stage ≡ k → StagesRise j (left ++ t ∷ right)
    → operation_at k (left ++ t ∷ right) ≡ Some t
at-place k [] t right j e r = (let yes : nat_eq t.stage k ≡ true = grind (arith, nat_tests, e) in ap (λ b. cond b (Some t) (operation_at k right)) yes)
at-place k (x ∷ left) t right j e r =
    let l = above-all x.stage left t right r.1 in
    let no : nat_eq x.stage k ≡ false = grind (arith, nat_tests, l, e) in
    ap (λ b. cond b (Some x) (operation_at k (left ++ t ∷ right))) no ∙ at-place k left t right x.stage e r.1

-- ---- the place of a stage

stage-at : (k : ℕ) (ts : List Operation) (d : Operation) → position_or_len (is_at_stage k) ts < length ts
    → (get_or ts (position_or_len (is_at_stage k) ts) d).stage ≡ k
stage-at k [] d l = absurd (omega (arith, l))
stage-at k (t ∷ ts) d l = by (nat_eq t.stage k) refl l (stage-at k ts d)
  where
    by : (b : Bool) → nat_eq t.stage k ≡ b → cond (not b) (1 + position_or_len (is_at_stage k) ts) 0 < length (t ∷ ts)
        → (position_or_len (is_at_stage k) ts < length ts → (get_or ts (position_or_len (is_at_stage k) ts) d).stage ≡ k)
        → (get_or (t ∷ ts) (cond (not b) (1 + position_or_len (is_at_stage k) ts) 0) d).stage ≡ k
    by true e l f = grind (arith, nat_tests)
    by false e l f =
        let next : 1 + position_or_len (is_at_stage k) ts ≡ suc (position_or_len (is_at_stage k) ts) = omega arith in
        ap (λ n. (get_or (t ∷ ts) n d).stage) next ∙ f (omega (arith, l))

pub place-at : (k i : ℕ) (ts : List Operation) (d : Operation) → position (is_at_stage k) ts ≡ Some i → (i < length ts) × ((get_or ts i d).stage ≡ k)
place-at k i ts d h = by (nat_lt (position_or_len (is_at_stage k) ts) (length ts)) refl h
  where
    by : (b : Bool) → nat_lt (position_or_len (is_at_stage k) ts) (length ts) ≡ b → cond b (Some (position_or_len (is_at_stage k) ts)) None ≡ Some i
        → (i < length ts) × ((get_or ts i d).stage ≡ k)
    by true e h =
        let same : position_or_len (is_at_stage k) ts ≡ i = cc in
        let l : position_or_len (is_at_stage k) ts < length ts = grind (arith, nat_tests) in
        (subst (λ n. n < length ts) same l, sym (ap (λ n. (get_or ts n d).stage) same) ∙ stage-at k ts d l)
    by false e h = absurd cc

pub place-within : (k i : ℕ) (ts : List Operation) → position (is_at_stage k) ts ≡ Some i → i < length ts
place-within k i [] h = absurd cc
place-within k i (t ∷ ts) h = (place-at k i (t ∷ ts) t h).0

-- where the stage has an operation, it has a place
some-within : (k : ℕ) (ts : List Operation) → IsSome (operation_at k ts) → position_or_len (is_at_stage k) ts < length ts
some-within k [] h = absurd cc
some-within k (t ∷ ts) h = by (nat_eq t.stage k) h (some-within k ts)
  where
    by : (b : Bool) → IsSome (cond b (Some t) (operation_at k ts))
        → (IsSome (operation_at k ts) → position_or_len (is_at_stage k) ts < length ts)
        → cond (not b) (1 + position_or_len (is_at_stage k) ts) 0 < length (t ∷ ts)
    by true h f = omega arith
    by false h f = (let l = f h in omega (arith, l))

pub some-place : (k : ℕ) (ts : List Operation) → position (is_at_stage k) ts ≡ None → IsSome (operation_at k ts) → ⊥
some-place k ts none some =
    let l = some-within k ts some in
    let yes : nat_lt (position_or_len (is_at_stage k) ts) (length ts) ≡ true = grind (arith, nat_tests) in
    let found = ap (λ b. cond b (Some (position_or_len (is_at_stage k) ts)) None) yes in
    none-some (position_or_len (is_at_stage k) ts) (sym none ∙ found)

-- a list around one place
pub around : (ts : List Operation) (i : ℕ) (d : Operation) → i < length ts → ts ≡ take i ts ++ get_or ts i d ∷ drop (i + 1) ts
around ts i d l = sym (take-append-drop i ts) ∙ ap (λ us. take i ts ++ us) (drop_more ts i d l)

pub set-around : (ts : List Operation) (i : ℕ) (t : Operation) → i < length ts → set ts i t ≡ take i ts ++ t ∷ drop (i + 1) ts
set-around ts i t l = (let next : suc i ≡ i + 1 = omega arith in set_split ts i t l ∙ ap (λ n. take i ts ++ t ∷ drop n ts) next)

-- the operation of stage k stands at place i of the pending ones; the state with all of them is `now`
pub record StandsPending (is : List (Interval ℕ)) (ps : List Operation) (i : ℕ) (d : Operation) (k : ℕ) (now : CollectionsState)
    (before : References) : Type 0 where
  pub found : position (is_at_stage k) ps ≡ Some i
  pub view : (let x : CollectionsState = record { acked = is; pending = ps } in x ≡ now)
  pub order : (let x : CollectionsState = record { acked = is; pending = ps } in IsInOrder x)
  pub live : IsLive before now

module _ {is : List (Interval ℕ)} {ps : List Operation} {i : ℕ} {d : Operation} {k : ℕ} {now : CollectionsState} {before : References}
    (s : StandsPending is ps i d k now before) where
  abbrev own : Operation
  own = get_or ps i d

  abbrev front : List Operation
  front = take i ps

  abbrev back : List Operation
  back = drop (i + 1) ps

  within : i < length ps
  within = (place-at k i ps d s.found).0

  at-stage-k : own.stage ≡ k
  at-stage-k = (place-at k i ps d s.found).1

  cut-now : was is front own back no_ends no_ends before before ≡ now
  cut-now = ap (λ (us : List Operation). let x : CollectionsState = record { acked = is; pending = us } in x) (sym (around ps i d within)) ∙ s.view

  cut-order : IsInOrder (was is front own back no_ends no_ends before before)
  cut-order = subst (λ (us : List Operation). let x : CollectionsState = record { acked = is; pending = us } in IsInOrder x) (around ps i d within) s.order

  cut-live : IsLive before (was is front own back no_ends no_ends before before)
  cut-live = subst (λ x. IsLive before x) (sym cut-now) s.live

  -- what is read at its place
  pub settle-own : (x : Operation) → x ≡ get_or ps i x → x ≡ own
  settle-own x e = get_or_read ps i x within e d

  pub settle-live : AreLiveEnds before own.ends
  settle-live = own-live is front own back no_ends no_ends before before cut-order cut-live

  pub settle-distinct : AreDistinctEnds own.ends
  settle-distinct = own-distinct is front own back no_ends no_ends before before cut-order cut-live

  -- what is pending at the stage
  pub settle-operation : operation_at k (placed before now).pending ≡ Some (with_mapped_names (places_of_ends before) own)
  settle-operation =
      sym (ap (λ (x : CollectionsState). operation_at k (placed_operations before x.pending)) cut-now)
      ∙ placed-at before k (front ++ own ∷ back)
      ∙ ap (option_map (with_mapped_names (places_of_ends before))) (at-place k front own back 0 at-stage-k cut-order.rising)

  module _ (places again : EndPair ℕ) (mid : References) (added : AreAddedEnds places before mid again) where
    pub settle-live-mid : AreLiveEnds mid own.ends
    settle-live-mid = own-live-mid is front own back places again before mid cut-order cut-live added

    abbrev pub with-new : CollectionsState
    with-new = record { acked = is; pending = set ps i (record own { ends = again }) }

    new-is : settled is front own back places again before mid ≡ with-new
    new-is = ap (λ (us : List Operation). let x : CollectionsState = record { acked = is; pending = us } in x) (sym (set-around ps i (record own { ends = again }) within))

    settle-in_order : IsInOrder with-new
    settle-in_order = subst (λ x. IsInOrder x) new-is (settled-in_order is front own back places again before mid cut-order cut-live added)

    -- the same of what is written at its place
    pub settle-written : (x : Operation) → x ≡ get_or ps i x
        → (let y : CollectionsState = record { acked = is; pending = set ps i (record x { ends = again }) } in IsInOrder y)
    settle-written x e =
        subst (λ (t : Operation). let y : CollectionsState = record { acked = is; pending = set ps i (record t { ends = again }) } in IsInOrder y)
        (sym (settle-own x e)) settle-in_order

    module _ (after : References) (dropped : (r : ℕ) → reference_at after r ≡ cond (holds_end r own.ends) None (reference_at mid r)) where
      pub settle-references : KeepsReferences now with-new before after
      settle-references =
          subst (λ x. KeepsReferences now x before after) new-is (subst (λ x. KeepsReferences x (settled is front own back places again before mid) before after) cut-now
          (settled-references is front own back places again before mid cut-order cut-live added after dropped))

      pub settle-places : (f : EndPair ℕ → EndPair ℕ) → places ≡ f (places_of_ends before own.ends)
          → placed after with-new ≡ with_ends_at k f (placed before now)
      settle-places f p =
          sym (ap (λ x. placed after x) new-is)
          ∙ settled-places is front own back places again before mid cut-order cut-live added after dropped k f at-stage-k p
          ∙ ap (λ x. with_ends_at k f (placed before x)) cut-now
