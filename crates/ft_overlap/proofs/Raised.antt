-- What blocks name above a leaf with a new item, where these names rise to it.
use Rattle.std.proofs.Common.{◌≡◌, ◌≢◌, ℕ, zero, suc, ℤ, ◌+◌, ◌≤◌, ◌≤ℤ◌, ◌<ℤ◌, List, [], ◌∷◌, length, map, insert, Option, Some, None, refl, sym, ap, subst, ◌∙◌, inl, inr, arith}
use Rattle.std.proofs.lemmas.Int.{ints}
use Rattle.std.proofs.lemmas.Bool.{cases_eq}
use Rattle.ft_arena.specs.Ids.{times, points, same}
use Rattle.ft_arena.specs.Forest.{IsForest, kids_of, parent_of, block_value, leaf_value}
use Rattle.ft_arena.proofs.IdLemmas.{same_refl, same_other, times-insert}
use Rattle.ft_shape.specs.declared.headed.Headed.{Headed}
use Rattle.ft_shape.specs.Steps.{SameShape, PutsAt}
use Rattle.ft_shape.specs.Told.{sum_of, told, KeepsBut, Retells}
use Rattle.ft_shape.proofs.Levels.{points_at}
use Rattle.ft_shape.proofs.ToldLemmas.{told_from_values}
use Rattle.ft_overlap.specs.declared.items.Item.{Item}
use Rattle.ft_overlap.specs.declared.items.Span.{Span}
use Rattle.ft_overlap.specs.Inside.{Nodes, either_named, span_last, named_by, start_by, first_start, NamesOne, NamesLast, IsSpan, SpansLast, MayRise, IsUnraised, Rises}
use Rattle.ft_overlap.proofs.Named.{told_from, told_each}
use Rattle.ft_overlap.proofs.Last.{told_in, all_last}

-- where each tells the same start, the first does
starts_same : (f f' : ℕ → Option Item × Option Span) (xs : List ℕ) → ((x : ℕ) → start_by (f' x) ≡ start_by (f x))
    → first_start (map f' xs) ≡ first_start (map f xs)
starts_same f f' [] h = refl
starts_same f f' (x ∷ xs) h = h x

-- and so it does where a node is put behind it
first_insert : (f : ℕ → Option Item × Option Span) (xs : List ℕ) (i x : ℕ) → 1 ≤ i → 1 ≤ length xs
    → first_start (map f (insert xs i x)) ≡ first_start (map f xs)
first_insert f [] i x a b = absurd (omega arith)
first_insert f (y ∷ ys) zero x a b = absurd (omega arith)
first_insert f (y ∷ ys) (suc i) x a b = refl

of_sum : (o : Option (Headed Span)) (v : Span) → sum_of o ≡ Some v → (w : Headed Span) × (o ≡ Some w) × (w.sum ≡ v)
of_sum None v e = cc
of_sum (Some w) v e = (w, refl, cc)

-- a block that isn't stale keeps what is right
right_of : (R : Span → List (Option Item × Option Span) → Type 0) (s : Nodes) (stale : Option ℕ) (b : ℕ) (v : Span) → KeepsBut R s stale → stale ≢ Some b
    → sum_of (block_value s b) ≡ Some v → R v (map (told s) (kids_of s b))
right_of R s stale b v keeps d e =
    let w = of_sum (block_value s b) v e in
    subst (λ (z : Span). R z (map (told s) (kids_of s b))) w.2 (keeps b w.0 w.1 d)

module _ (place : ℕ → ℤ) (item : Item) where
  -- what is settled where the new item doesn't end behind the block's, and where it does
  module _ (s : Nodes) (b : ℕ) (v : Span) (m : MayRise place item s b v) where
    pub settled_last : place item.end ≤ℤ place v.last.end → SpansLast place v (map (told s) (kids_of s b))
    settled_last l = all_last s place v.last (kids_of s b) (λ x y n e. elim (m.others x y n e) [
      | inl q ↦ subst (λ (z : Item). place z.end ≤ℤ place v.last.end) (sym q) l
      | inr h ↦ h
    ])

    pub risen_last : place v.last.end <ℤ place item.end → NamesLast place item (map (told s) (kids_of s b))
    risen_last l = all_last s place item (kids_of s b) (λ x y n e. elim (m.others x y n e) [
      | inl q ↦ subst (λ (z : Item). place z.end ≤ℤ place item.end) (sym q) (omega (arith, ints))
      | inr h ↦ omega (arith, ints, h, l)
    ])

  -- one child of a block names the new item now, and the others name what they did
  module _ (s s' : Nodes) (p n : ℕ) (v : Span) (names : named_by (told s' n) ≡ Some item) (there : 1 ≤ times (kids_of s' p) n)
      (kids : (x : ℕ) → x ≢ n → times (kids_of s' p) x ≡ times (kids_of s p) x) (still : (x : ℕ) → x ≢ n → told s' x ≡ told s x)
      (less : (y : Item) → 1 ≤ times (kids_of s p) n → named_by (told s n) ≡ Some y → place y.end <ℤ place item.end)
      (start : first_start (map (told s') (kids_of s' p)) ≡ Some v.start)
      (one : NamesOne v.last (map (told s) (kids_of s p))) (last : NamesLast place v.last (map (told s) (kids_of s p))) where
    may_rise : MayRise place item s' p v
    may_rise =
        record {
          there = (told s' n, told_in s' (kids_of s' p) n there, names);
          start = start;
          one = λ l.
              let r = told_from (told s) (kids_of s p) one.0 one.1 in
              let by : named_by (told s r.0) ≡ Some v.last = ap named_by r.2 ∙ one.2 in
              elim (cases_eq r.0 n) [
                | inl q ↦
                    let h : place v.last.end <ℤ place item.end =
                    less v.last (subst (λ (z : ℕ). 1 ≤ times (kids_of s p) z) q r.1) (ap (λ (z : ℕ). named_by (told s z)) (sym q) ∙ by) in
                    absurd (omega (arith, ints, h, l))
                | inr d ↦ (told s' r.0, told_in s' (kids_of s' p) r.0 (omega (arith, kids r.0 d, r.1)), ap named_by (still r.0 d) ∙ by)
              ];
          others = λ x y m e. elim (cases_eq x n) [
            | inl q ↦
                let both : Some y ≡ Some item = sym e ∙ ap (λ (z : ℕ). named_by (told s' z)) q ∙ names in
                inl (cc both)
            | inr d ↦ inr (told_each (λ t. (z : Item) → named_by t ≡ Some z → place z.end ≤ℤ place v.last.end) (told s) (kids_of s p) last x
                (omega (arith, kids x d, m)) y (ap named_by (sym (still x d)) ∙ e))
          ];
        }

  -- where a leaf with the new item was put among a block's children
  pub put_unraised : (s s' : Nodes) (p at id : ℕ) → PutsAt s s' p at id → IsForest s → parent_of s id ≡ None → leaf_value s id ≡ Some item → 1 ≤ at → 1 ≤ length
      (kids_of s p)
      → KeepsBut IsSpan s None → KeepsBut (SpansLast place) s None → IsUnraised place item s' (Some p)
  put_unraised s s' p at id r forest alone leaf inside filled one last b v is e =
      let q : p ≡ b = cc is in
      let was : sum_of (block_value s p) ≡ Some v = ap sum_of (sym (r.block_values p)) ∙ ap (λ (z : ℕ). sum_of (block_value s' z)) q ∙ e in
      let right : IsSpan v (map (told s) (kids_of s p)) = right_of IsSpan s None p v one (λ c. cc) was in
      let none : times (kids_of s p) id ≡ 0 = forest.child_once p id ∙ ap (λ (o : Option ℕ). points o p) alone in
      let kids : (x : ℕ) → times (kids_of s' p) x ≡ times (kids_of s p) x + same id x = λ x. ap (λ ks. times ks x) r.kids ∙ times-insert (kids_of s p) at id x in
      subst (λ (z : ℕ). MayRise place item s' z v) q
      (may_rise s s' p id v
      (ap (λ o. either_named o (span_last (sum_of (block_value s' id)))) (r.leaf_values id ∙ leaf))
      (omega (arith, kids id, same_refl id))
      (λ x d. omega (arith, kids x, same_other id x (λ c. d (sym c))))
      (λ x d. told_from_values s s' x (r.leaf_values x) (r.block_values x))
      (λ y m c. absurd (omega (arith, m, none)))
      (starts_same (told s) (told s') (kids_of s' p) (λ x. ap start_by (told_from_values s s' x (r.leaf_values x) (r.block_values x)))
      ∙ ap (λ ks. first_start (map (told s) ks)) r.kids ∙ first_insert (told s) (kids_of s p) at id inside filled ∙ right.start)
      right.one
      (right_of (SpansLast place) s None p v last (λ c. cc) was))

  -- where a block names the new item now, the one above it
  pub up_unraised : (s s' : Nodes) (b : ℕ) (r : SameShape s s') (u : Retells IsSpan s s' b) (rises : Rises place item s s' b) → times (kids_of s b) b ≡ 0
      → KeepsBut IsSpan s (Some b) → KeepsBut (SpansLast place) s (Some b) → (next : Option ℕ) → next ≡ parent_of s' b → IsUnraised place item s' next
  up_unraised s s' b r u rises apart one last next is k v up e =
      let above : parent_of s' b ≡ Some k = sym is ∙ up in
      let there : times (kids_of s' k) b ≡ 1 = r.forest.child_once k b ∙ points_at (parent_of s' b) k above in
      let far : k ≢ b = λ q. omega (arith, there, ap (λ ks. times ks b) (r.kids k), apart, ap (λ (z : ℕ). times (kids_of s z) b) q) in
      let was : sum_of (block_value s k) ≡ Some v = ap (λ (z : Option Item × Option Span). z.1) (sym (u.others k far)) ∙ e in
      let right : IsSpan v (map (told s) (kids_of s k)) = right_of IsSpan s (Some b) k v one (λ c. far (cc c)) was in
      may_rise s s' k b v rises.now
      (omega (arith, there))
      (λ x d. ap (λ ks. times ks x) (r.kids k))
      (λ x d. u.others x d)
      (λ y m c. let q : rises.before ≡ y = cc (sym rises.was ∙ c) in subst (λ (z : Item). place z.end <ℤ place item.end) q rises.ends)
      (starts_same (told s) (told s') (kids_of s' k) (λ x. elim (cases_eq x b) [
        | inl q ↦ subst (λ (z : ℕ). start_by (told s' z) ≡ start_by (told s z)) (sym q) rises.start
        | inr d ↦ ap start_by (u.others x d)
      ]) ∙ ap (λ ks. first_start (map (told s) ks)) (r.kids k) ∙ right.start)
      right.one
      (right_of (SpansLast place) s (Some b) k v last (λ c. far (cc c)) was)
