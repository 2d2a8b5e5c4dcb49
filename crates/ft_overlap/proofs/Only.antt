-- The first item of all, under a new root.
use Rattle.std.proofs.Common.{◌≡◌, ℕ, ℤ, ◌≤ℤ◌, List, [], ◌∷◌, map, Some, None, IsSome, refl, sym, ap, subst, ◌∙◌, arith}
use Rattle.std.proofs.lemmas.Int.{ints}
use Rattle.std.proofs.lemmas.List.Elements.{All-nil, All-cons}
use Rattle.ft_arena.specs.Forest.{kids_of, block_value, leaf_value}
use Rattle.ft_shape.specs.declared.headed.Headed.{Headed}
use Rattle.ft_shape.specs.Told.{sum_of, told, KeepsBut}
use Rattle.ft_shape.proofs.EditLemmas.{is_some_from}
use Rattle.ft_overlap.specs.declared.items.Item.{Item}
use Rattle.ft_overlap.specs.declared.items.Span.{Span}
use Rattle.ft_overlap.specs.Inside.{Nodes, either_named, either_start, span_last, span_start, named_by, start_by, IsSpan, SpansLast}

-- the only item of all, under its root
module _ (s : Nodes) (id top : ℕ) (item : Item) (z : Headed Span) (z_is : z.sum ≡ record { start = item.start; last = item }) (leaf : leaf_value s id ≡ Some item)
    (kids : kids_of s top ≡ id ∷ [])
    (block : block_value s top ≡ Some z) (only : (x : ℕ) → IsSome (block_value s x) → x ≡ top) where
  first_sum : (b : ℕ) (v : Headed Span) → block_value s b ≡ Some v → record { start = item.start; last = item } ≡ v.sum
  first_sum b v e =
      let q : b ≡ top = only b (is_some_from (block_value s b) v e) in
      let d : z ≡ v = cc (sym block ∙ ap (block_value s) (sym q) ∙ e) in
      sym z_is ∙ ap (λ (w : Headed Span). w.sum) d

  first_names : named_by (told s id) ≡ Some item
  first_names = ap (λ o. either_named o (span_last (sum_of (block_value s id)))) leaf

  first_starts : start_by (told s id) ≡ Some item.start
  first_starts = ap (λ o. either_start o (span_start (sum_of (block_value s id)))) leaf

  pub first_one : KeepsBut IsSpan s None
  first_one b v e stale =
      let q : b ≡ top = only b (is_some_from (block_value s b) v e) in
      subst (λ (ks : List ℕ). IsSpan v.sum (map (told s) ks)) (sym (ap (kids_of s) q ∙ kids)) record {
        one = (told s id, (0, omega arith, refl), first_names ∙ ap (λ (w : Span). Some w.last) (first_sum b v e));
        start = first_starts ∙ ap (λ (w : Span). Some w.start) (first_sum b v e);
      }

  pub first_last : (place : ℕ → ℤ) → KeepsBut (SpansLast place) s None
  first_last place b v e stale =
      let q : b ≡ top = only b (is_some_from (block_value s b) v e) in
      subst (λ (ks : List ℕ). SpansLast place v.sum (map (told s) ks)) (sym (ap (kids_of s) q ∙ kids))
      (All-cons (λ t. (x : Item) → named_by t ≡ Some x → place x.end ≤ℤ place v.sum.last.end) (told s id) []
      (λ x n. let n1 : x ≡ item = cc (sym first_names ∙ n) in let d : x ≡ v.sum.last = n1 ∙ ap (λ (w : Span). w.last) (first_sum b v e) in subst (λ (y : Item). place
      x.end ≤ℤ place y.end) d (omega (arith, ints)))
      (All-nil (λ t. (x : Item) → named_by t ≡ Some x → place x.end ≤ℤ place v.sum.last.end)))
