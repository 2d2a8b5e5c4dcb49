-- An operation takes effect on the acknowledged intervals, beside other pending ones.
use Rattle.std.proofs.Common.{◌≡◌, ℕ, ◌+◌, ◌≤◌, Bool, true, false, cond, ◌||◌, List, [], ◌∷◌, ◌++◌, Option, None, IsSome, option_map, refl, sym, ◌∙◌, ap, subst, arith}
use Rattle.std.specs.List.{list_any}
use Rattle.std.proofs.lemmas.List.Folds.{list_any-append}
use Rattle.ft_base.specs.Scan.{len, one_more_if}
use Rattle.ft_tree_leaves.proofs.Runs.{len-append}
use Rattle.ft_tree_leaves.specs.declared.references.Reference.{Reference}
use Rattle.ft_tree_leaves.specs.References.{reference_at}
use Rattle.ft_interval_store.specs.declared.intervals.EndPair.{EndPair}
use Rattle.ft_interval_store.specs.declared.intervals.Interval.{Interval}
use Rattle.ft_interval_store.specs.declared.pending.Operation.{Operation}
use Rattle.ft_interval_store.specs.Ends.{References, both_ends, is_reference}
use Rattle.ft_interval_store.specs.State.{AreKeptOnce, CollectionsState, HandsOn, IsInOrder, IsLive, IsMarked, KeepsReferences, StagesRise, ends_of_intervals, ends_of_operations, ends_with, keeps, times_kept}

pub rise-below : (j k : ℕ) (ts : List Operation) → j ≤ k → StagesRise k ts → StagesRise j ts
rise-below j k [] l r = tt
rise-below j k (t ∷ ts) l r = (omega (arith, r.0), r.1)

-- how many of a list are this reference, where one is
some_times : (r : ℕ) (es : List (Option ℕ)) → list_any (is_reference r) es ≡ true → 1 ≤ len (is_reference r) es
some_times r [] h = absurd cc
some_times r (e ∷ es) h = step (is_reference r e) h (some_times r es)
  where
    step : (b : Bool) → (b || list_any (is_reference r) es) ≡ true → (list_any (is_reference r) es ≡ true → 1 ≤ len (is_reference r) es)
        → 1 ≤ one_more_if b (len (is_reference r) es)
    step true h f = omega arith
    step false h f = f h

neither : (a b : Bool) → (a || b) ≡ false → (a ≡ false) × (b ≡ false)
neither true b h = absurd cc
neither false b h = (refl, h)

-- two lists of which one reference stands in one at most
apart : (r : ℕ) (xs ys : List (Option ℕ)) → len (is_reference r) xs + len (is_reference r) ys ≤ 1 → list_any (is_reference r) ys ≡ true
    → list_any (is_reference r) xs ≡ false
apart r xs ys once h = step (list_any (is_reference r) xs) refl
  where
    step : (b : Bool) → list_any (is_reference r) xs ≡ b → b ≡ false
    step false e = refl
    step true e = absurd (omega (arith, some_times r xs e, some_times r ys h, once))

module _ (e : EndPair ℕ) (is now : List (Interval ℕ)) (ts : List Operation) (before after : References) where
  abbrev old : CollectionsState
  old = record { acked = is; pending = ts }

  abbrev new : CollectionsState
  new = record { acked = now; pending = ts }

  -- no reference stands twice in the ends of the operation, of the intervals and of the other operations
  abbrev pub OnceWith : Type 0
  OnceWith = (r : ℕ) → len (is_reference r) (ends_with e is) + len (is_reference r) (ends_of_operations ts) ≤ 1

  pub effect-in_order : OnceWith → HandsOn e is now before after → StagesRise 0 ts → IsInOrder new
  effect-in_order once hands rise = record {
    once = λ r.
        let all : times_kept r new ≡ len (is_reference r) (ends_of_intervals now) + len (is_reference r) (ends_of_operations ts) =
        len-append (is_reference r) (ends_of_intervals now) (ends_of_operations ts) in
        omega (arith, all, once r, hands.once r);
    rising = rise;
  }

  pub others-stay : OnceWith → HandsOn e is now before after → (r : ℕ) → list_any (is_reference r) (ends_of_operations ts) ≡ true
      → reference_at after r ≡ reference_at before r
  others-stay once hands r h = hands.others r (apart r (ends_with e is) (ends_of_operations ts) (once r) h)

  pub effect-live : OnceWith → HandsOn e is now before after
      → ((r : ℕ) → list_any (is_reference r) (ends_of_operations ts) ≡ true → IsSome (reference_at before r)) → IsLive after new
  effect-live once hands live r h =
      step (list_any (is_reference r) (ends_of_intervals now)) refl (sym (list_any-append (is_reference r) (ends_of_intervals now) (ends_of_operations ts)) ∙ h)
    where
      step : (b : Bool) → list_any (is_reference r) (ends_of_intervals now) ≡ b
          → (list_any (is_reference r) (ends_of_intervals now) || list_any (is_reference r) (ends_of_operations ts)) ≡ true → IsSome (reference_at after r)
      step true f k = hands.live r f
      step false f k =
          let there : list_any (is_reference r) (ends_of_operations ts) ≡ true = sym (ap (λ b. b || list_any (is_reference r) (ends_of_operations ts)) f) ∙ k in
          subst (λ x. IsSome x) (sym (others-stay once hands r there)) (live r there)

  pub effect-marked : OnceWith → HandsOn e is now before after → IsMarked before old → IsMarked after new
  effect-marked once hands m = record {
    acked = hands.marked m.acked;
    pending = λ r h. ap (option_map (λ (x : Reference). x.acked)) (others-stay once hands r h) ∙ m.pending r h;
  }

  -- a reference that is kept no more
  pub effect-others : HandsOn e is now before after → (r : ℕ) → keeps r new ≡ false
      → reference_at after r ≡ cond (list_any (is_reference r) (ends_with e is)) None (reference_at before r)
  effect-others hands r h =
      let no = neither (list_any (is_reference r) (ends_of_intervals now)) (list_any (is_reference r) (ends_of_operations ts))
      (sym (list_any-append (is_reference r) (ends_of_intervals now) (ends_of_operations ts)) ∙ h) in
      step (list_any (is_reference r) (ends_with e is)) refl no.0
    where
      step : (b : Bool) → list_any (is_reference r) (ends_with e is) ≡ b → list_any (is_reference r) (ends_of_intervals now) ≡ false
          → reference_at after r ≡ cond b None (reference_at before r)
      step true f n = hands.gone r f n
      step false f n = hands.others r f

-- ---- the first pending operation

module _ (is now : List (Interval ℕ)) (t : Operation) (ts : List Operation) (before after : References) where
  abbrev whole : CollectionsState
  whole = record { acked = is; pending = t ∷ ts }

  abbrev left : CollectionsState
  left = record { acked = now; pending = ts }

  counted : (r : ℕ) → times_kept r whole ≡ len (is_reference r) (ends_with t.ends is) + len (is_reference r) (ends_of_operations ts)
  counted r =
      let p = is_reference r in
      let a = ends_of_intervals is in
      let b = both_ends t.ends in
      let c = ends_of_operations ts in
      let all : times_kept r whole ≡ len p a + len p (b ++ c) = len-append p a (b ++ c) in
      let back = len-append p b c in
      let with : len p (ends_with t.ends is) ≡ len p b + len p a = len-append p b a in
      omega (arith, all, back, with)

  front_any : (a b c : Bool) → (b || a) ≡ true → (a || (b || c)) ≡ true
  front_any true b c h = refl
  front_any false true c h = refl
  front_any false false c h = absurd cc

  kept_any : (r : ℕ) → keeps r whole
      ≡ (list_any (is_reference r) (ends_of_intervals is) || (list_any (is_reference r) (both_ends t.ends) || list_any (is_reference r) (ends_of_operations ts)))
  kept_any r =
      let p = is_reference r in
      list_any-append p (ends_of_intervals is) (both_ends t.ends ++ ends_of_operations ts)
      ∙ ap (λ b. list_any p (ends_of_intervals is) || b) (list_any-append p (both_ends t.ends) (ends_of_operations ts))

  with_any : (r : ℕ) → list_any (is_reference r) (ends_with t.ends is)
      ≡ (list_any (is_reference r) (both_ends t.ends) || list_any (is_reference r) (ends_of_intervals is))
  with_any r = list_any-append (is_reference r) (both_ends t.ends) (ends_of_intervals is)

  pub first-kept_once : IsInOrder whole → IsLive before whole → AreKeptOnce before t.ends is
  first-kept_once o live = record {
    live = λ r h. live r (kept_any r ∙ front_any (list_any (is_reference r) (ends_of_intervals is)) (list_any (is_reference r) (both_ends t.ends))
        (list_any (is_reference r) (ends_of_operations ts)) (sym (with_any r) ∙ h));
    once = λ r. omega (arith, counted r, o.once r);
  }

  once_with : IsInOrder whole → OnceWith t.ends is now ts before after
  once_with o r = omega (arith, counted r, o.once r)

  pub first-in_order : IsInOrder whole → HandsOn t.ends is now before after → IsInOrder left
  first-in_order o hands = effect-in_order t.ends is now ts before after (once_with o) hands (rise-below 0 t.stage ts (omega arith) o.rising.1)

  behind_any : (a b c : Bool) → c ≡ true → (a || (b || c)) ≡ true
  behind_any true b c h = refl
  behind_any false true c h = refl
  behind_any false false c h = h

  unmark : IsMarked before whole → IsMarked before (record { acked = is; pending = ts })
  unmark m = record {
    acked = m.acked;
    pending = λ r h. m.pending r (list_any-append (is_reference r) (both_ends t.ends) (ends_of_operations ts)
        ∙ or_right (list_any (is_reference r) (both_ends t.ends)) (list_any (is_reference r) (ends_of_operations ts)) h);
  }
    where
      or_right : (a b : Bool) → b ≡ true → (a || b) ≡ true
      or_right true b h = refl
      or_right false b h = h

  pub first-references : IsInOrder whole → IsLive before whole → HandsOn t.ends is now before after → KeepsReferences whole left before after
  first-references o live hands = record {
    live = effect-live t.ends is now ts before after (once_with o) hands
        (λ r h. live r (kept_any r
        ∙ behind_any (list_any (is_reference r) (ends_of_intervals is)) (list_any (is_reference r) (both_ends t.ends)) (list_any (is_reference r) (ends_of_operations ts)) h));
    marked = λ m. effect-marked t.ends is now ts before after (once_with o) hands (unmark m);
    others = λ r h. gone r h;
  }
    where
      regroup : (a b c : Bool) → c ≡ false → (a || (b || c)) ≡ (b || a)
      regroup true true c h = refl
      regroup true false c h = refl
      regroup false true c h = refl
      regroup false false c h = h

      gone : (r : ℕ) → keeps r left ≡ false → reference_at after r ≡ cond (keeps r whole) None (reference_at before r)
      gone r h =
          let no = neither (list_any (is_reference r) (ends_of_intervals now)) (list_any (is_reference r) (ends_of_operations ts))
          (sym (list_any-append (is_reference r) (ends_of_intervals now) (ends_of_operations ts)) ∙ h) in
          let alike : keeps r whole ≡ list_any (is_reference r) (ends_with t.ends is) =
          kept_any r
          ∙ regroup (list_any (is_reference r) (ends_of_intervals is)) (list_any (is_reference r) (both_ends t.ends)) (list_any (is_reference r) (ends_of_operations ts)) no.1
          ∙ sym (with_any r) in
          effect-others t.ends is now ts before after hands r h ∙ ap (λ b. cond b None (reference_at before r)) (sym alike)

  -- the places of the other operations stay
  pub first-stays : IsInOrder whole → HandsOn t.ends is now before after → (r : ℕ) → list_any (is_reference r) (ends_of_operations ts) ≡ true
      → reference_at after r ≡ reference_at before r
  first-stays o hands r h = others-stay t.ends is now ts before after (once_with o) hands r h
