-- A list beside the document's list of elements, of any content: an element is known here by its place, there by its name.
use Rattle.std.proofs.Common.{◌≡◌, ℕ, suc, ◌+◌, ◌≤◌, ◌<◌, Bool, true, false, cond, nat_eq, List, ◌∷◌, Option, Some, refl, sym, ◌∙◌, ap, arith, take}
use Rattle.std.specs.List.{enumerate_from}
use Rattle.std.specs.Option.{option_map}
use Rattle.std.proofs.lemmas.Bool.Decides.{nat_tests}
use Rattle.ft_base.specs.Scan.{at, len, one_more_if, rank, settled}
use Rattle.ft_props.specs.Element.{ElementId, ListElement, has_id, id}
use Rattle.ft_laws_agreement.proofs.SlidEnds.{Once, once-tail, same_id-refl}
use Rattle.ft_laws_agreement.proofs.NumberTests.{below-other}
use Rattle.ft_tree_leaves.specs.Places.{place_at, seen_before, settled_place}
use Rattle.ft_msg.specs.Indexed.{place_in_list}
use Rattle.ft_laws_names.proofs.Beside.{Beside, Both, beside-both, beside-more, both-at, both-settled, each, ends, neither, next}
use Rattle.ft_laws_names.proofs.Twins.{none-more}

-- the place of a name in a list
abbrev pub name_place : List ListElement → ElementId → ℕ
name_place es a = rank (has_id a) (λ _. true) es

some-more : (b : Bool) (n : ℕ) → 1 ≤ n → 1 ≤ one_more_if b n
some-more true n l = omega arith
some-more false n l = l

one-more : (b : Bool) (n : ℕ) → b ≡ true → 1 ≤ one_more_if b n
one-more true n h = omega arith
one-more false n h = (cc)

only-here : (b : Bool) (n : ℕ) → one_more_if b n ≤ 1 → b ≡ true → n ≡ 0
only-here true n l h = omega arith
only-here false n l h = (cc)

only-there : (b : Bool) (n : ℕ) → one_more_if b n ≤ 1 → 1 ≤ n → b ≡ false
only-there true n l h = absurd (omega arith)
only-there false n l h = refl

fewer : (b : Bool) (n : ℕ) → one_more_if b n ≤ 1 → n ≤ 1
fewer true n l = omega arith
fewer false n l = l

not-here : (b : Bool) (n : ℕ) → b ≡ false → 1 ≤ one_more_if b n → 1 ≤ n
not-here true n h l = (cc)
not-here false n h l = l

same-number : (n i : ℕ) → n ≡ i → nat_eq n i ≡ true
same-number n i h = grind (arith, nat_tests)

below-number : (n i : ℕ) → i < n → nat_eq n i ≡ false
below-number n i h = grind (arith, nat_tests)

-- the place of a name behind a first element
place-behind : (a : ElementId) (e : ListElement) (es : List ListElement) → has_id a e ≡ false → name_place (e ∷ es) a ≡ suc (name_place es a)
place-behind a e es h = rw h refl

place-first : (a : ElementId) (e : ListElement) (es : List ListElement) → has_id a e ≡ true → name_place (e ∷ es) a ≡ 0
place-first a e es h = rw h refl

module _ {A : Type 0} (Q : A → ListElement → Type 0) where
  -- an element with its number n or more, and the one beside it, whose name has that place
  pub record IsAt (es : List ListElement) (n : ℕ) (x : ℕ × A) (e : ListElement) : Type 0 where
    pub is : Q x.1 e
    pub there : 1 ≤ len (has_id (id e)) es
    pub place : n + name_place es (id e) ≡ x.0

  further : (es : List ListElement) (d : ListElement) (n : ℕ) → Once (d ∷ es) → (x : ℕ × A) (e : ListElement) → IsAt es (n + 1) x e → IsAt (d ∷ es) n x e
  further es d n once x e h =
      let away : has_id (id e) d ≡ false = only-there (has_id (id e) d) (len (has_id (id e)) es) (once (id e)) h.there in
      let behind = place-behind (id e) d es away in
      let place = h.place in
      record { is = h.is; there = some-more (has_id (id e) d) (len (has_id (id e)) es) h.there; place = omega arith }

  pub each-at : (n : ℕ) {xs : List A} {es : List ListElement} → Once es → Beside A ListElement Q xs es
      → Beside (ℕ × A) ListElement (IsAt es n) (enumerate_from n xs) es
  each-at n once ends = ends
  each-at n once (next {x = x} {y = e} {xs = xs} {ys = es} q qs) =
      let first = place-first (id e) e es (same_id-refl (id e)) in
      next (record {
        is = q;
        there = one-more (has_id (id e) e) (len (has_id (id e)) es) (same_id-refl (id e));
        place = omega arith;
      }) (beside-more (further es e n once) (each-at (n + 1) (once-tail e es once) qs))

  -- a name that doesn't stand in the list
  none-at : (a : ElementId) (i n : ℕ) → i < n → {xs : List A} {es : List ListElement} → len (has_id a) es ≡ 0 → Beside A ListElement Q xs es
      → Beside (ℕ × A) ListElement (λ x e. nat_eq x.0 i ≡ has_id a e) (enumerate_from n xs) es
  none-at a i n l h ends = ends
  none-at a i n l h (next {x = x} {y = e} {xs = xs} {ys = es} q qs) =
      let p = none-more (has_id a e) (len (has_id a) es) h in
      next (below-number n i l ∙ sym p.0) (none-at a i (n + 1) (omega arith) p.1 qs)

  -- just the element at the place of a name has it
  pub one-at : (a : ElementId) (i n : ℕ) {xs : List A} {es : List ListElement} → len (has_id a) es ≤ 1 → 1 ≤ len (has_id a) es → n + name_place es a ≡ i
      → Beside A ListElement Q xs es → Beside (ℕ × A) ListElement (λ x e. nat_eq x.0 i ≡ has_id a e) (enumerate_from n xs) es
  one-at a i n one there h ends = ends
  one-at a i n one there h (next {x = x} {y = e} {xs = xs} {ys = es} q qs) =
      step (has_id a e) refl (λ t g. one-at a i (n + 1) (fewer (has_id a e) (len (has_id a) es) one) t g qs)
    where
      step : (b : Bool) → has_id a e ≡ b
          → (1 ≤ len (has_id a) es → n + 1 + name_place es a ≡ i → Beside (ℕ × A) ListElement (λ x e. nat_eq x.0 i ≡ has_id a e) (enumerate_from (n + 1) xs) es)
          → Beside (ℕ × A) ListElement (λ x e. nat_eq x.0 i ≡ has_id a e) (enumerate_from n (x ∷ xs)) (e ∷ es)
      step true g rec =
          let first = place-first a e es g in
          next (same-number n i (omega arith) ∙ sym g) (none-at a i (n + 1) (omega arith) (only-here (has_id a e) (len (has_id a) es) one g) qs)
      step false g rec =
          let behind = place-behind a e es g in
          next (below-other n i (omega arith) ∙ sym g) (rec (not-here (has_id a e) (len (has_id a) es) g there) (omega arith))

  -- places of two elements, if there are two
  both-places : (es : List ListElement) {R : ℕ × A → ListElement → Type 0} → ((x : ℕ × A) (e : ListElement) → R x e → name_place es (id e) ≡ x.0)
      → {o : Option (ℕ × A)} {p : Option ListElement} → Both (ℕ × A) ListElement R o p → place_in_list es (option_map id p) ≡ option_map (λ x. x.0) o
  both-places es h neither = refl
  both-places es h (each {x = x} {y = e} r) = ap Some (h x e r)

  at-zero : (es : List ListElement) (x : ℕ × A) (e : ListElement) → IsAt es 0 x e → name_place es (id e) ≡ x.0
  at-zero es x e h = let place = h.place in omega arith

  module _ {xs : List A} {es : List ListElement} (once : Once es) (qs : Beside A ListElement Q xs es) where
    -- the element with i seen ones before it
    pub place-at : (seen : A → Bool) (seen' : ListElement → Bool) → ((x : A) (e : ListElement) → Q x e → seen x ≡ seen' e) → (i : ℕ)
        → place_in_list es (option_map id (at seen' i es)) ≡ place_at seen i xs
    place-at seen seen' agree i = both-places es (λ x e r. at-zero es x e r.0)
        (both-at (λ x. seen x.1) seen' (λ x e r. agree x.1 e r.is) i (each-at 0 once qs))

    -- where an end goes whose element isn't ok
    pub place-settled : (ok : A → Bool) (ok' : ListElement → Bool) → ((x : A) (e : ListElement) → Q x e → ok x ≡ ok' e) → (a : ElementId)
        → 1 ≤ len (has_id a) es → place_in_list es (option_map id (settled (has_id a) ok' es)) ≡ settled_place ok xs (name_place es a)
    place-settled ok ok' agree a there =
        both-places es (λ x e r. at-zero es x e r.0.0) (both-settled (λ x. nat_eq x.0 (name_place es a)) (has_id a) (λ x e r. r.1)
        (λ x. ok x.1) ok' (λ x e r. agree x.1 e r.0.is)
        (beside-both (each-at 0 once qs) (one-at a (name_place es a) 0 (once a) there (omega arith) qs)) neither)

  -- how many seen elements stand left of a name
  pub rank-place : (seen : A → Bool) (seen' : ListElement → Bool) → ((x : A) (e : ListElement) → Q x e → seen x ≡ seen' e) → (a : ElementId)
      → {xs : List A} {es : List ListElement} → Beside A ListElement Q xs es → rank (has_id a) seen' es ≡ seen_before seen xs (name_place es a)
  rank-place seen seen' agree a ends = refl
  rank-place seen seen' agree a (next {x = x} {y = e} {xs = xs} {ys = es} q qs) = step (has_id a e) refl (rank-place seen seen' agree a qs)
    where
      step : (b : Bool) → has_id a e ≡ b → rank (has_id a) seen' es ≡ seen_before seen xs (name_place es a)
          → cond b 0 (one_more_if (seen' e) (rank (has_id a) seen' es)) ≡ len seen (take (cond b 0 (suc (name_place es a))) (x ∷ xs))
      step true g h = refl
      step false g h = rw (sym (agree x e q), h) refl
