-- Acknowledged intervals that are gathered by their names, and what is shown of them.
use Rattle.std.proofs.Common.{◌≡◌, ℕ, Bool, true, false, cond, ◌||◌, List, [], ◌∷◌, ◌++◌, ◌<◌, ◌≤◌, ◌+◌, All, length, take, get_or, Some, None, option_map, refl, sym, ◌∙◌, ap, subst, inl, inr, map, filter}
use Rattle.std.specs.Prelude.{◌⊎◌}
use Rattle.std.specs.List.{list_any}
use Rattle.std.specs.Ordering.{is_eq}
use Rattle.std.proofs.lemmas.List.{take_more}
use Rattle.std.proofs.lemmas.List.Elements.{All-append, All-cons, All-nil}
use Rattle.ft_op.specs.declared.operations.TextOp.{TextOp}
use Rattle.ft_props.specs.Keys.{put_rising}
use Rattle.ft_sumdoc.specs.declared.summary.IntervalRec.{IntervalRec}
use Rattle.ft_tree_leaves.specs.Elements.{TreeElement}
use Rattle.ft_interval_store.specs.declared.intervals.EndPair.{EndPair}
use Rattle.ft_interval_store.specs.declared.intervals.Interval.{Interval}
use Rattle.ft_interval_store.specs.declared.pending.Operation.{Operation}
use Rattle.ft_interval_store.specs.Ends.{References, map_ends, places_of_ends}
use Rattle.ft_interval_store.specs.Gathered.{IsPartOf, is_on_any}
use Rattle.ft_interval_store.specs.Intervals.{Name, NamesRise, after_own, interval_cmp, interval_of, is_on, name_cmp, one_after}
use Rattle.ft_interval_store.specs.Shown.{carried_interval, last, settled_end, settled_interval, shown_from, shown_one_from, shown_record}
use Rattle.ft_interval_store.specs.State.{placed_intervals, placed_operations, with_mapped_ends}
use Rattle.ft_interval_store.proofs.OneInterval.{NamesRise-after, NamesRise-map, interval_of-map, interval_of-put, same_name}
use Rattle.ft_interval_store.proofs.RisingLists.{filter-map, filtered-alike, found-name, kept}
use Rattle.ft_interval_store.proofs.RisingNames.{NamesRise-put}
use Rattle.ft_interval_store.proofs.ShownOne.{interval_of-shown_from}

no-more : (b : Bool) → b || false ≡ true → b ≡ true
no-more true h = refl
no-more false h = h

-- ---- one more

module _ (from is : List (Interval ℕ)) (before : Name → Bool) (n : Name) (p : IsPartOf from is before) where
  -- where it isn't there
  pub part-without : interval_of n from ≡ None → IsPartOf from is (λ m. before m || is_eq (name_cmp m n))
  part-without none = record { part = p.part; there = λ m h. by m (before m) refl h; rising = p.rising }
    where
      other : (m : Name) → is_eq (name_cmp m n) ≡ true → interval_of m is ≡ interval_of m from
      other m e = elim (p.part m) [
        | inl q ↦ q ∙ sym none ∙ ap (λ k. interval_of k from) (sym (same_name m n e))
        | inr q ↦ q
      ]

      by : (m : Name) → (b : Bool) → before m ≡ b → b || is_eq (name_cmp m n) ≡ true → interval_of m is ≡ interval_of m from
      by m true e h = p.there m e
      by m false e h = other m h

  -- where it is
  pub part-with : (x : Interval ℕ) → interval_of n from ≡ Some x → IsPartOf from (put_rising interval_cmp x is) (λ m. before m || is_eq (name_cmp m n))
  part-with x found = record {
    part = λ m. either m (is_eq (name_cmp m n)) refl;
    there = λ m h. by m (is_eq (name_cmp m n)) refl h;
    rising = NamesRise-put x is p.rising;
  }
    where
      at : (m : Name) → interval_of m (put_rising interval_cmp x is) ≡ cond (is_eq (name_cmp m n)) (Some x) (interval_of m is)
      at m = interval_of-put m x is ∙ ap (λ k. cond (is_eq (name_cmp m k)) (Some x) (interval_of m is)) (found-name n from x found)

      here : (m : Name) → is_eq (name_cmp m n) ≡ true → interval_of m (put_rising interval_cmp x is) ≡ interval_of m from
      here m e = at m ∙ ap (λ b. cond b (Some x) (interval_of m is)) e ∙ sym found ∙ ap (λ k. interval_of k from) (sym (same_name m n e))

      there : (m : Name) → is_eq (name_cmp m n) ≡ false → interval_of m (put_rising interval_cmp x is) ≡ interval_of m is
      there m e = at m ∙ ap (λ b. cond b (Some x) (interval_of m is)) e

      either : (m : Name) → (b : Bool) → is_eq (name_cmp m n) ≡ b
          → (interval_of m (put_rising interval_cmp x is) ≡ None) ⊎ (interval_of m (put_rising interval_cmp x is) ≡ interval_of m from)
      either m true e = inr (here m e)
      either m false e = elim (p.part m) [
        | inl q ↦ inl (there m e ∙ q)
        | inr q ↦ inr (there m e ∙ q)
      ]

      by : (m : Name) → (b : Bool) → is_eq (name_cmp m n) ≡ b → before m || b ≡ true → interval_of m (put_rising interval_cmp x is) ≡ interval_of m from
      by m true e h = here m e
      by m false e h = there m e ∙ p.there m (no-more (before m) h)

-- ---- what is shown

module _ {U : Type 0} (xs : List (TreeElement U)) where
  none-after : (n : Name) (op : TextOp) (ends : EndPair ℕ) → is_on n op ≡ false → one_after n op ends None ≡ None
  none-after n op ends e = ap (λ b. cond b (after_own op ends None) None) e

  -- an interval that isn't there and that no operation is on isn't shown
  pub unnamed-none : (n : Name) (k : ℕ) (ts : List Operation) → is_on_any n ts ≡ false → shown_one_from xs n k ts None ≡ None
  unnamed-none n k [] h = refl
  unnamed-none n k (t ∷ ts) h = step (is_on n t.op) refl h (λ g. unnamed-none n t.stage ts g)
    where
      step : (b : Bool) → is_on n t.op ≡ b → b || is_on_any n ts ≡ false → (is_on_any n ts ≡ false → shown_one_from xs n t.stage ts None ≡ None)
          → shown_one_from xs n k (t ∷ ts) None ≡ None
      step true e g rest = (cc)
      step false e g rest = ap (shown_one_from xs n t.stage ts) (none-after n t.op (map_ends (settled_end xs t.stage) t.ends) e) ∙ rest g

  pub rise-shown_from : (k : ℕ) (ts : List Operation) (is : List (Interval ℕ)) → NamesRise is → NamesRise (shown_from xs k ts is)
  rise-shown_from k [] is r = NamesRise-map (carried_interval xs k last) is (λ i. refl) r
  rise-shown_from k (t ∷ ts) is r =
      rise-shown_from t.stage ts _ (NamesRise-after t.op (map_ends (settled_end xs t.stage) t.ends) _ (NamesRise-map (carried_interval xs k t.stage) is (λ i. refl) r))

  module _ (ts : List Operation) (from is : List (Interval ℕ)) (wanted : Name → Bool) (p : IsPartOf from is wanted) (rise : NamesRise from)
      (pending : (n : Name) → wanted n ≡ false → is_on_any n ts ≡ false) (test : IntervalRec → Bool)
      (unwanted : (n : Name) → wanted n ≡ false → kept (λ i. test (shown_record xs i)) (interval_of n (shown_from xs 0 ts from)) ≡ None) where
    abbrev passes : Interval ℕ → Bool
    passes i = test (shown_record xs i)

    alike : (n : Name) → kept passes (interval_of n (shown_from xs 0 ts is)) ≡ kept passes (interval_of n (shown_from xs 0 ts from))
    alike n = by (wanted n) refl
      where
        same : interval_of n is ≡ interval_of n from → kept passes (interval_of n (shown_from xs 0 ts is)) ≡ kept passes (interval_of n (shown_from xs 0 ts from))
        same e = ap (kept passes) (interval_of-shown_from xs n 0 ts is p.rising ∙ ap (shown_one_from xs n 0 ts) e ∙ sym (interval_of-shown_from xs n 0 ts from rise))

        by : (b : Bool) → wanted n ≡ b → kept passes (interval_of n (shown_from xs 0 ts is)) ≡ kept passes (interval_of n (shown_from xs 0 ts from))
        by true e = same (p.there n e)
        by false e = elim (p.part n) [
          | inl q ↦ ap (kept passes) (interval_of-shown_from xs n 0 ts is p.rising ∙ ap (shown_one_from xs n 0 ts) q ∙ unnamed-none n 0 ts (pending n e)) ∙ sym (unwanted n e)
          | inr q ↦ same q
        ]

    -- the gathered intervals show all that pass the test
    pub gathered-shown : filter test (map (shown_record xs) (shown_from xs 0 ts is)) ≡ filter test (map (shown_record xs) (shown_from xs 0 ts from))
    gathered-shown =
        filter-map test (shown_record xs) (shown_from xs 0 ts is)
        ∙ ap (map (shown_record xs)) (filtered-alike passes (shown_from xs 0 ts is) (shown_from xs 0 ts from)
        (rise-shown_from 0 ts is p.rising) (rise-shown_from 0 ts from rise) alike)
        ∙ sym (filter-map test (shown_record xs) (shown_from xs 0 ts from))

  -- the interval of a name at stage 0
  pub from-at : (refs : References) (acked : List (Interval ℕ)) (n : Name) → interval_of n (map (settled_interval xs 0) (placed_intervals refs acked))
      ≡ option_map (settled_interval xs 0) (option_map (with_mapped_ends (places_of_ends refs)) (interval_of n acked))
  from-at refs acked n =
      interval_of-map n (settled_interval xs 0) (placed_intervals refs acked) (λ i. refl)
      ∙ ap (option_map (settled_interval xs 0)) (interval_of-map n (with_mapped_ends (places_of_ends refs)) acked (λ i. refl))

-- ---- one after another

pub any-append : {A : Type 0} (f : A → Bool) (xs : List A) (y : A) → list_any f (xs ++ y ∷ []) ≡ list_any f xs || f y
any-append f [] y = by (f y)
  where
    by : (b : Bool) → b || false ≡ b
    by true = refl
    by false = refl
any-append f (x ∷ xs) y = step (f x) (any-append f xs y)
  where
    step : (b : Bool) → list_any f (xs ++ y ∷ []) ≡ list_any f xs || f y → b || list_any f (xs ++ y ∷ []) ≡ (b || list_any f xs) || f y
    step true e = refl
    step false e = e

-- the same intervals are a part by any test that passes less
pub part-less : (from is : List (Interval ℕ)) (more less : Name → Bool) → ((n : Name) → less n ≡ true → more n ≡ true)
    → IsPartOf from is more → IsPartOf from is less
part-less from is more less h p = record { part = p.part; there = λ n e. p.there n (h n e); rising = p.rising }

pub none-part : (from : List (Interval ℕ)) (ts : List Operation) → IsPartOf from [] (λ n. is_on_any n [])
none-part from ts = record { part = λ n. inl refl; there = λ n h. (cc); rising = tt }

-- one operation more
pub on-next : (ts : List Operation) (i : ℕ) (t : Operation) → i < length ts → t ≡ get_or ts i t → (n : Name)
    → is_on_any n (take (i + 1) ts) ≡ is_on_any n (take i ts) || is_on n t.op
on-next ts i t within at n =
    ap (λ (us : List Operation). is_on_any n us) (take_more ts i t within ∙ ap (λ (u : Operation). take i ts ++ u ∷ []) (sym at))
    ∙ any-append (λ (u : Operation). is_on n u.op) (take i ts) t

pub next-part : (from is : List (Interval ℕ)) (ts : List Operation) (i : ℕ) (t : Operation) → i < length ts → t ≡ get_or ts i t
    → IsPartOf from is (λ n. is_on_any n (take i ts) || is_on n t.op) → IsPartOf from is (λ n. is_on_any n (take (i + 1) ts))
next-part from is ts i t within at p =
    part-less from is (λ n. is_on_any n (take i ts) || is_on n t.op) (λ n. is_on_any n (take (i + 1) ts)) (λ n e. sym (on-next ts i t within at n) ∙ e) p

-- its stage is a number of 64 bits too
pub next-fits : (ts : List Operation) (i : ℕ) (t : Operation) → i < length ts → t ≡ get_or ts i t → t.stage ≤ last
    → All (λ (u : Operation). u.stage ≤ last) (take i ts) → All (λ (u : Operation). u.stage ≤ last) (take (i + 1) ts)
next-fits ts i t within at fits all =
    let P : Operation → Type 0 = λ u. u.stage ≤ last in
    subst (λ (us : List Operation). All P us) (sym (take_more ts i t within ∙ ap (λ (u : Operation). take i ts ++ u ∷ []) (sym at)))
    (All-append P (take i ts) (t ∷ []) all (All-cons P t [] fits (All-nil P)))

-- with places in place of references they are on the same
pub on-placed : (refs : References) (n : Name) (ts : List Operation) → is_on_any n (placed_operations refs ts) ≡ is_on_any n ts
on-placed refs n [] = refl
on-placed refs n (t ∷ ts) = ap (λ b. is_on n t.op || b) (on-placed refs n ts)
