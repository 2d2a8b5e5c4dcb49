-- Ends of intervals that are of names on either side of a step, where the sequenced elements stay in their order.
use Rattle.std.proofs.Common.{◌≡◌, ℕ, suc, ◌<◌, ◌≤◌, Bool, true, false, cond, List, [], ◌∷◌, Option, Some, None, is_some, length, refl, sym, ap, subst, arith}
use Rattle.ft_base.specs.Scan.{len, one_more_if, rank, retain_map}
use Rattle.ft_base.specs.declared.stamps.Stamp.{Stamp}
use Rattle.ft_base.specs.declared.stamps.Stamp.TheVariants.{Acked, Local}
use Rattle.ft_interval_index.specs.Order.{IsAtMost, IsWithin}
use Rattle.ft_interval_store.specs.declared.intervals.Interval.{Interval}
use Rattle.ft_interval_store.specs.Ends.{References}
use Rattle.ft_msg.specs.Indexed.{place_in_list}
use Rattle.ft_op.specs.Intervals.{Interval as NamedInterval}
use Rattle.ft_props.specs.Element.{ElementId, ListElement, PendingId, SequencedId, has_id, is_sequenced, sequenced_elements, without_pending}
use Rattle.ft_laws_names.specs.WellNamed.{AreSettledIn, IsSettledIn}
use Rattle.ft_laws_names.proofs.Beside.{Beside, ends, next}
use Rattle.ft_string.proofs.Ends.{HaveEnds, SameEnd, SameIntervals, end-of, start-of}

-- the end is of a name that stands, before and after
pub record IsOfOneName (refs after : References) (es fs : List ListElement) (e : Option ℕ) : Type 0 where
  pub name : Option ElementId
  pub settled : IsSettledIn es name
  pub before : SameEnd refs es e name
  pub behind : SameEnd after fs e name

module _ (refs after : References) (es fs : List ListElement)
    (moves : (r : Option ℕ) (o : Option ElementId) → IsSettledIn es o → SameEnd refs es r o → SameEnd after fs r o) where
  of-name : (e : Option ℕ) (o : Option ElementId) → IsSettledIn es o → SameEnd refs es e o → IsOfOneName refs after es fs e
  of-name e o s h = record { name = o; settled = s; before = h; behind = moves e o s h }

  pub named-ends : {is : List (Interval ℕ)} {ds : List NamedInterval} → AreSettledIn es ds → SameIntervals refs es is ds
      → HaveEnds (IsOfOneName refs after es fs) is
  named-ends s ends = tt
  named-ends s (next {x = i} {y = d} q qs) =
      ((of-name i.ends.start d.start s.0.0 (start-of refs es i d q), of-name i.ends.end d.end s.0.1 (end-of refs es i d q)), named-ends s.1 qs)

-- ---- which of two stands first

module _ {A : Type 0} (p q keep : A → Bool) (f : A → A) (first : (x : A) → keep x ≡ false → p x ≡ false) (second : (x : A) → keep x ≡ false → q x ≡ false)
    (same : (x : A) → p (f x) ≡ p x) (alike : (x : A) → q (f x) ≡ q x) where
  abbrev at_most : List A → Type 0
  at_most xs = rank p (λ _. true) xs ≤ rank q (λ _. true) xs

  abbrev at_most_if : Bool → Bool → ℕ → ℕ → Type 0
  at_most_if a b m n = cond a 0 (suc m) ≤ cond b 0 (suc n)

  pub kept-first : (xs : List A) → at_most xs → at_most (retain_map keep f xs)
  kept-first [] h = h
  kept-first (x ∷ xs) h = step (keep x) refl (kept-first xs)
    where
      both : (a b : Bool) → at_most_if a b (rank p (λ _. true) xs) (rank q (λ _. true) xs)
          → (at_most xs → at_most (retain_map keep f xs)) → at_most_if a b (rank p (λ _. true) (retain_map keep f xs)) (rank q (λ _. true) (retain_map keep f xs))
      both true b g rest = omega arith
      both false true g rest = absurd (omega (arith, g))
      both false false g rest = (let more = rest (omega (arith, g)) in omega (arith, more))

      step : (c : Bool) → keep x ≡ c → (at_most xs → at_most (retain_map keep f xs)) → at_most (cond c (f x ∷ retain_map keep f xs) (retain_map keep f xs))
      step true e rest =
          subst (λ a. at_most_if a (q (f x)) (rank p (λ _. true) (retain_map keep f xs)) (rank q (λ _. true) (retain_map keep f xs))) (sym (same x))
          (subst (λ b. at_most_if (p x) b (rank p (λ _. true) (retain_map keep f xs)) (rank q (λ _. true) (retain_map keep f xs))) (sym (alike x)) (both (p x) (q x) h rest))
      step false e rest =
          let less : at_most_if false false (rank p (λ _. true) xs) (rank q (λ _. true) xs) =
          subst (λ b. at_most_if false b (rank p (λ _. true) xs) (rank q (λ _. true) xs)) (second x e)
          (subst (λ a. at_most_if a (q x) (rank p (λ _. true) xs) (rank q (λ _. true) xs)) (first x e) h) in
          rest (omega (arith, less))

  pub first-kept : (xs : List A) → at_most (retain_map keep f xs) → at_most xs
  first-kept [] h = h
  first-kept (x ∷ xs) h = step (keep x) refl (first-kept xs) h
    where
      both : (a b : Bool) → at_most_if a b (rank p (λ _. true) (retain_map keep f xs)) (rank q (λ _. true) (retain_map keep f xs))
          → (at_most (retain_map keep f xs) → at_most xs) → at_most_if a b (rank p (λ _. true) xs) (rank q (λ _. true) xs)
      both true b g rest = omega arith
      both false true g rest = absurd (omega (arith, g))
      both false false g rest = (let more = rest (omega (arith, g)) in omega (arith, more))

      step : (c : Bool) → keep x ≡ c → (at_most (retain_map keep f xs) → at_most xs)
          → at_most (cond c (f x ∷ retain_map keep f xs) (retain_map keep f xs)) → at_most (x ∷ xs)
      step true e rest g =
          both (p x) (q x)
          (subst (λ b. at_most_if (p x) b (rank p (λ _. true) (retain_map keep f xs)) (rank q (λ _. true) (retain_map keep f xs))) (alike x)
          (subst (λ a. at_most_if a (q (f x)) (rank p (λ _. true) (retain_map keep f xs)) (rank q (λ _. true) (retain_map keep f xs))) (same x) g)) rest
      step false e rest g =
          let more = rest g in
          let less : at_most_if false false (rank p (λ _. true) xs) (rank q (λ _. true) xs) = omega (arith, more) in
          subst (λ a. at_most_if a (q x) (rank p (λ _. true) xs) (rank q (λ _. true) xs)) (sym (first x e))
          (subst (λ b. at_most_if false b (rank p (λ _. true) xs) (rank q (λ _. true) xs)) (sym (second x e)) less)

-- the place of one that is there is within
pub rank-within : {A : Type 0} (p : A → Bool) (xs : List A) → 1 ≤ len p xs → rank p (λ _. true) xs < length xs
rank-within p [] h = absurd (omega (arith, h))
rank-within p (x ∷ xs) h = step (p x) h (rank-within p xs)
  where
    step : (b : Bool) → 1 ≤ one_more_if b (len p xs) → (1 ≤ len p xs → rank p (λ _. true) xs < length xs)
        → cond b 0 (suc (rank p (λ _. true) xs)) < suc (length xs)
    step true g rest = omega arith
    step false g rest = (let more = rest g in omega (arith, more))

pub beside-length : {A B : Type 0} {Q : A → B → Type 0} {xs : List A} {ys : List B} → Beside A B Q xs ys → length xs ≡ length ys
beside-length ends = refl
beside-length (next q qs) = ap suc (beside-length qs)

-- ---- names of sequenced elements

unsequenced : (n : ℕ) (e : ListElement) → is_sequenced e ≡ false → has_id (SequencedId n) e ≡ false
unsequenced n e h = step e.ins h
  where
    step : (t : Stamp) → is_sequenced (record e { ins = t }) ≡ false → has_id (SequencedId n) (record e { ins = t }) ≡ false
    step (Acked s c) g = (cc)
    step (Local k) g = refl

module _ (es fs : List ListElement) (same : sequenced_elements fs ≡ sequenced_elements es)
    (stays : (n : ℕ) → 1 ≤ len (has_id (SequencedId n)) es → 1 ≤ len (has_id (SequencedId n)) fs) where
  first-stays : (n m : ℕ) → rank (has_id (SequencedId n)) (λ _. true) es ≤ rank (has_id (SequencedId m)) (λ _. true) es
      → rank (has_id (SequencedId n)) (λ _. true) fs ≤ rank (has_id (SequencedId m)) (λ _. true) fs
  first-stays n m h =
      let p = has_id (SequencedId n) in
      let q = has_id (SequencedId m) in
      first-kept p q is_sequenced without_pending (unsequenced n) (unsequenced m) (λ x. refl) (λ x. refl) fs
      (subst (λ xs. rank p (λ _. true) xs ≤ rank q (λ _. true) xs) (sym same)
      (kept-first p q is_sequenced without_pending (unsequenced n) (unsequenced m) (λ x. refl) (λ x. refl) es h))

  pub names-rise : (o p : Option ElementId) → IsSettledIn es o → IsSettledIn es p → IsAtMost (place_in_list es o) (place_in_list es p)
      → IsAtMost (place_in_list fs o) (place_in_list fs p)
  names-rise None p s t h = tt
  names-rise (Some (PendingId k n)) p s t h = absurd s
  names-rise (Some (SequencedId n)) None s t h = absurd h
  names-rise (Some (SequencedId n)) (Some (PendingId k m)) s t h = absurd t
  names-rise (Some (SequencedId n)) (Some (SequencedId m)) s t h = first-stays n m h

  pub names-within : (o : Option ElementId) → IsSettledIn es o → IsWithin (length fs) (place_in_list fs o)
  names-within None s = tt
  names-within (Some (PendingId k n)) s = absurd s
  names-within (Some (SequencedId n)) s = rank-within (has_id (SequencedId n)) fs (stays n s)

  pub names-some : (o : Option ElementId) → is_some (place_in_list fs o) ≡ is_some (place_in_list es o)
  names-some None = refl
  names-some (Some x) = refl

  pub names-gone : (o : Option ElementId) → place_in_list es o ≡ None → place_in_list fs o ≡ None
  names-gone None h = refl
  names-gone (Some x) h = (cc)
