-- Two lists whose elements differ in their numbers alone, and names that stand at the same places in both.
use Rattle.std.proofs.Common.{◌≡◌, ℕ, suc, ◌-◌, ◌≤◌, Bool, true, false, cond, ◌&&◌, List, [], ◌∷◌, Option, Some, None, refl, sym, ◌∙◌, ap, subst, arith, pos}
use Rattle.std.specs.Option.{option_map}
use Rattle.ft_base.specs.Scan.{at, len, one_more_if, rank}
use Rattle.ft_props.specs.Element.{ElementId, ListElement, has_id, id, is_pending, is_sequenced, is_unremoved, seen, seen_by}
use Rattle.ft_props.specs.Slide.{end_number, settle, slide}
use Rattle.ft_props.specs.Steps.{is_annotated_by, is_inserted_by, is_removed_by, marked_runs, marked_runs_from, extended_runs, stage_position}
use Rattle.ft_laws_agreement.proofs.SlidEnds.{Once, once-tail, same_id-refl}
use Rattle.ft_laws_names.proofs.Beside.{Beside, Both, beside-both, beside-len, beside-more, beside-rank, both-at, both-settled, each, ends, neither, next}

-- the other element differs in its number alone
abbrev pub IsTwin : ListElement → ListElement → Type 0
IsTwin x y = y ≡ record x { nth = y.nth }

abbrev pub BesideList : (ListElement → ListElement → Type 0) → List ListElement → List ListElement → Type 0
BesideList Q xs ys = Beside ListElement ListElement Q xs ys

-- and has the one name just where the element has the other
abbrev pub IsTwinNamed : ElementId → ElementId → ListElement → ListElement → Type 0
IsTwinNamed a b x y = IsTwin x y × (has_id a x ≡ has_id b y)

-- the first name stands in the first list, and the second one at the same places of the other list
pub record StandAlike (xs ys : List ListElement) (a b : ElementId) : Type 0 where
  pub there : 1 ≤ len (has_id a) xs
  pub twins : BesideList (IsTwinNamed a b) xs ys

-- what doesn't look at the number
pub same-of : {A : Type 0} (f : ListElement → A) → ((e : ListElement) (n : ℕ) → f (record e { nth = n }) ≡ f e) → (x y : ListElement) → IsTwin x y → f x ≡ f y
same-of f h x y t = sym (ap f t ∙ h x y.nth)

pub twin-seen : (k : ℕ) (x y : ListElement) → IsTwin x y → seen k x ≡ seen k y
twin-seen k x y t = same-of (seen k) (λ e n. refl) x y t

pub twin-seen_by : (r c : ℕ) (x y : ListElement) → IsTwin x y → seen_by r c x ≡ seen_by r c y
twin-seen_by r c x y t = same-of (seen_by r c) (λ e n. refl) x y t

pub twin-pending : (x y : ListElement) → IsTwin x y → is_pending x ≡ is_pending y
twin-pending x y t = same-of is_pending (λ e n. refl) x y t

pub twin-unremoved : (x y : ListElement) → IsTwin x y → is_unremoved x ≡ is_unremoved y
twin-unremoved x y t = same-of is_unremoved (λ e n. refl) x y t

pub twin-sequenced : (x y : ListElement) → IsTwin x y → is_sequenced x ≡ is_sequenced y
twin-sequenced x y t = same-of is_sequenced (λ e n. refl) x y t

pub twin-inserted : (k : ℕ) (x y : ListElement) → IsTwin x y → is_inserted_by k x ≡ is_inserted_by k y
twin-inserted k x y t = same-of (is_inserted_by k) (λ e n. refl) x y t

pub twins-self : (xs : List ListElement) → BesideList IsTwin xs xs
twins-self [] = ends
twins-self (x ∷ xs) = next refl (twins-self xs)

-- ---- names that stand

pub there-other : {xs ys : List ListElement} {a b : ElementId} → StandAlike xs ys a b → 1 ≤ len (has_id b) ys
there-other {xs} {ys} {a} {b} h = subst (λ n. 1 ≤ n) (beside-len (has_id a) (has_id b) (λ x y q. q.1) h.twins) h.there

pub none-more : (b : Bool) (n : ℕ) → one_more_if b n ≡ 0 → (b ≡ false) × (n ≡ 0)
none-more true n h = absurd (omega arith)
none-more false n h = (refl, h)

pub absent-twins : (a b : ElementId) {xs ys : List ListElement} → len (has_id a) xs ≡ 0 → len (has_id b) ys ≡ 0 → BesideList IsTwin xs ys → BesideList (IsTwinNamed a b) xs ys
absent-twins a b h g ends = ends
absent-twins a b h g (next {x = x} {y = y} {xs = xs} {ys = ys} t ts) =
    let p = none-more (has_id a x) (len (has_id a) xs) h in
    let q = none-more (has_id b y) (len (has_id b) ys) g in
    next (t, p.0 ∙ sym q.0) (absent-twins a b p.1 q.1 ts)

some-more : (b : Bool) (n : ℕ) → 1 ≤ n → 1 ≤ one_more_if b n
some-more true n l = omega arith
some-more false n l = l

one-more : (b : Bool) (n : ℕ) → b ≡ true → 1 ≤ one_more_if b n
one-more true n h = omega arith
one-more false n h = (cc)

only-here : (b : Bool) (n : ℕ) → one_more_if b n ≤ 1 → b ≡ true → n ≡ 0
only-here true n l h = omega arith
only-here false n l h = (cc)

only-there : (b : Bool) (n : ℕ) → one_more_if b n ≤ 1 → 1 ≤ n → b ≡ false
only-there true n l h = absurd (omega arith)
only-there false n l h = refl

-- the relation of two lists of which each name stands once
pub record AreTwins (xs ys : List ListElement) (x y : ListElement) : Type 0 where
  pub twin : IsTwin x y
  pub stand : StandAlike xs ys (id x) (id y)

-- the names of two elements at the same place stand at the same places
pub places-alike : {xs ys : List ListElement} → Once xs → Once ys → BesideList IsTwin xs ys → BesideList (AreTwins xs ys) xs ys
places-alike g h ends = ends
places-alike g h (next {x = x} {y = y} {xs = xs} {ys = ys} t ts) = next (record { twin = t; stand = here })
    (beside-more more (places-alike (once-tail x xs g) (once-tail y ys h) ts))
  where
    here : StandAlike (x ∷ xs) (y ∷ ys) (id x) (id y)
    here = record {
      there = one-more (has_id (id x) x) (len (has_id (id x)) xs) (same_id-refl (id x));
      twins = next (t, same_id-refl (id x) ∙ sym (same_id-refl (id y)))
          (absent-twins (id x) (id y) (only-here (has_id (id x) x) (len (has_id (id x)) xs) (g (id x)) (same_id-refl (id x)))
          (only-here (has_id (id y) y) (len (has_id (id y)) ys) (h (id y)) (same_id-refl (id y))) ts);
    }

    more : (u v : ListElement) → AreTwins xs ys u v → AreTwins (x ∷ xs) (y ∷ ys) u v
    more u v s = record {
      twin = s.twin;
      stand = record {
        there = some-more (has_id (id u) x) (len (has_id (id u)) xs) s.stand.there;
        twins = next (
          t,
          only-there (has_id (id u) x) (len (has_id (id u)) xs) (g (id u)) s.stand.there
              ∙ sym (only-there (has_id (id v) y) (len (has_id (id v)) ys) (h (id v)) (there-other s.stand)),
        ) s.stand.twins;
      };
    }

-- the same places say so
pub from-rank : (a b : ElementId) {xs ys : List ListElement} → Once xs → Once ys → BesideList IsTwin xs ys → rank (has_id a) (λ _. true) xs
    ≡ rank (has_id b) (λ _. true) ys → BesideList (IsTwinNamed a b) xs ys
from-rank a b g h ends r = ends
from-rank a b g h (next {x = x} {y = y} {xs = xs} {ys = ys} t ts) r = step (has_id a x) (has_id b y) refl refl r (λ q. from-rank a b (once-tail x xs g) (once-tail y ys h) ts q)
  where
    step : (i j : Bool) → has_id a x ≡ i → has_id b y ≡ j → cond i 0 (suc (rank (has_id a) (λ _. true) xs)) ≡ cond j 0 (suc (rank (has_id b) (λ _. true) ys))
        → (rank (has_id a) (λ _. true) xs ≡ rank (has_id b) (λ _. true) ys → BesideList (IsTwinNamed a b) xs ys) → BesideList (IsTwinNamed a b) (x ∷ xs) (y ∷ ys)
    step true true e f q ih = next (t, e ∙ sym f) (absent-twins a b (only-here (has_id a x) (len (has_id a) xs) (g a) e) (only-here (has_id b y) (len (has_id b) ys) (h b) f) ts)
    step false false e f q ih = next (t, e ∙ sym f) (ih (omega arith))
    step true false e f q ih = absurd (omega arith)
    step false true e f q ih = absurd (omega arith)

-- ---- ends

-- two ends: both are detached, or their names stand at the same places
pub data EndsAlike (xs ys : List ListElement) : Option ElementId → Option ElementId → Type 0 where
  detached : EndsAlike xs ys None None
  on : {a b : ElementId} → StandAlike xs ys a b → EndsAlike xs ys (Some a) (Some b)

-- the same places, where the names needn't stand any more
pub data EndsBeside (xs ys : List ListElement) : Option ElementId → Option ElementId → Type 0 where
  loose : EndsBeside xs ys None None
  at_names : {a b : ElementId} → BesideList (IsTwinNamed a b) xs ys → EndsBeside xs ys (Some a) (Some b)

pub ends-beside : {xs ys : List ListElement} {o p : Option ElementId} → EndsAlike xs ys o p → EndsBeside xs ys o p
ends-beside detached = loose
ends-beside (on s) = at_names s.twins

-- the names of two elements, if there are two
pub named-both : {xs ys : List ListElement} {R : ListElement → ListElement → Type 0} → ((x y : ListElement) → R x y → StandAlike xs ys (id x) (id y))
    → {o p : Option ListElement} → Both ListElement ListElement R o p → EndsAlike xs ys (option_map id o) (option_map id p)
named-both f neither = detached
named-both f (each {x = x} {y = y} r) = on (f x y r)

module _ {xs ys : List ListElement} (places : BesideList (AreTwins xs ys) xs ys) where
  pub named-places : (a b : ElementId) → BesideList (IsTwinNamed a b) xs ys → BesideList (λ x y. AreTwins xs ys x y × IsTwinNamed a b x y) xs ys
  named-places a b h = beside-both places h

  pub element-alike : (test : ListElement → Bool) → ((x y : ListElement) → IsTwin x y → test x ≡ test y) → (i : ℕ)
      → EndsAlike xs ys (option_map id (at test i xs)) (option_map id (at test i ys))
  element-alike test h i = named-both (λ x y q. q.0.stand) (both-at test test (λ x y q. h x y q.twin) i places)

  pub settle-alike : (k : ℕ) {o p : Option ElementId} → EndsBeside xs ys o p → EndsAlike xs ys (settle xs k o) (settle ys k p)
  settle-alike k loose = detached
  settle-alike k (at_names {a = a} {b = b} h) =
      named-both (λ x y q. q.0.0.stand) (both-settled (has_id a) (has_id b) (λ x y q. q.1.1) (seen k) (seen k) (λ x y q. twin-seen k x y q.0.twin) (named-places a b h) neither)

  pub same-meant : (a b : ElementId) (x y : ListElement) → (AreTwins xs ys x y × IsTwinNamed a b x y) → is_sequenced x && has_id a x ≡ is_sequenced y && has_id b y
  same-meant a b x y q = rw (twin-sequenced x y q.0.twin, q.1.1) refl

  pub slide-alike : {o p : Option ElementId} → EndsBeside xs ys o p → EndsAlike xs ys (slide xs o) (slide ys p)
  slide-alike loose = detached
  slide-alike (at_names {a = a} {b = b} h) =
      named-both (λ x y q. q.0.0.stand) (both-settled (λ e. is_sequenced e && has_id a e) (λ e. is_sequenced e && has_id b e) (λ x y q. same-meant a b x y q)
      is_unremoved is_unremoved (λ x y q. twin-unremoved x y q.0.twin) (named-places a b h) neither)

pub end_number-alike : (k : ℕ) {xs ys : List ListElement} {o p : Option ElementId} → EndsBeside xs ys o p → end_number k xs o ≡ end_number k ys p
end_number-alike k loose = refl
end_number-alike k (at_names {a = a} {b = b} h) = ap pos (beside-rank (has_id a) (has_id b) (λ x y q. q.1) (seen k) (seen k) (λ x y q. twin-seen k x y q.0) h)

-- ---- marks

pub runs-alike : (i : ℕ) (seen marked : ListElement → Bool) → ((x y : ListElement) → IsTwin x y → seen x ≡ seen y) → ((x y : ListElement) → IsTwin x y → marked x ≡ marked y)
    → {xs ys : List ListElement} → BesideList IsTwin xs ys → marked_runs_from i seen marked xs ≡ marked_runs_from i seen marked ys
runs-alike i seen marked f g ends = refl
runs-alike i seen marked f g (next {x = x} {y = y} {xs = xs} {ys = ys} t ts) =
    ap (λ b. cond (b && marked x) (extended_runs i (marked_runs_from (one_more_if b i) seen marked xs)) (marked_runs_from (one_more_if b i) seen marked xs)) (f x y t)
    ∙ ap (λ b. cond (seen y && b) (extended_runs i (marked_runs_from (one_more_if (seen y) i) seen marked xs)) (marked_runs_from (one_more_if (seen y) i) seen marked xs)) (g x y t)
    ∙ ap (λ rs. cond (seen y && marked y) (extended_runs i rs) rs) (runs-alike (one_more_if (seen y) i) seen marked f g ts)

pub removed_runs-alike : (k : ℕ) {xs ys : List ListElement} → BesideList IsTwin xs ys → marked_runs k (is_removed_by k) xs ≡ marked_runs k (is_removed_by k) ys
removed_runs-alike k t = runs-alike 0 (seen (k - 1)) (is_removed_by k) (λ x y q. twin-seen (k - 1) x y q) (λ x y q. same-of (is_removed_by k) (λ e n. refl) x y q) t

pub annotated_runs-alike : (k : ℕ) {xs ys : List ListElement} → BesideList IsTwin xs ys → marked_runs k (is_annotated_by k) xs ≡ marked_runs k (is_annotated_by k) ys
annotated_runs-alike k t = runs-alike 0 (seen (k - 1)) (is_annotated_by k) (λ x y q. twin-seen (k - 1) x y q) (λ x y q. same-of (is_annotated_by k) (λ e n. refl) x y q) t

pub position-alike : (k : ℕ) {xs ys : List ListElement} → BesideList IsTwin xs ys → stage_position k xs ≡ stage_position k ys
position-alike k t = beside-rank (is_inserted_by k) (is_inserted_by k) (λ x y q. twin-inserted k x y q) (seen (k - 1)) (seen (k - 1)) (λ x y q. twin-seen (k - 1) x y q) t

pub len-alike : (test : ListElement → Bool) → ((x y : ListElement) → IsTwin x y → test x ≡ test y) → {xs ys : List ListElement} → BesideList IsTwin xs ys
    → len test xs ≡ len test ys
len-alike test h t = beside-len test test h t

-- ---- relations of twins by their names

-- the other element differs in its number alone, and the relation holds of their names
abbrev pub Named : (ElementId → ElementId → Type 0) → ListElement → ListElement → Type 0
Named P x y = IsTwin x y × P (id x) (id y)

pub twins-of : (P : ElementId → ElementId → Type 0) {xs ys : List ListElement} → BesideList (Named P) xs ys → BesideList IsTwin xs ys
twins-of P h = beside-more (λ x y q. q.0) h
