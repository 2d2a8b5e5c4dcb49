-- Of the items that some nodes name, the one that ends last.
use Rattle.std.proofs.Common.{◌≡◌, ℕ, ℤ, ◌+◌, ◌≤◌, ◌≤ℤ◌, List, [], ◌∷◌, ◌++◌, map, take, drop, slice_get, Option, Some, None, Contains, refl, sym, ap, subst, ◌∙◌, inl, inr, arith}
use Rattle.std.proofs.lemmas.Int.{ints}
use Rattle.std.proofs.lemmas.Bool.{cases_eq}
use Rattle.std.proofs.lemmas.List.{take_more, take-append-drop}
use Rattle.std.proofs.lemmas.Option.{slice_get_within, get_or_from_slice_get}
use Rattle.std.proofs.lemmas.List.Elements.{All-nil, All-cons, Contains-append_right}
use Rattle.ft_arena.specs.Ids.{times}
use Rattle.ft_arena.specs.Forest.{Entry, entry, leaf_of_node, block_of_node, leaf_of_entry, block_of_entry}
use Rattle.ft_arena.proofs.IdLemmas.{same_refl, same_other, times-append}
use Rattle.ft_shape.specs.declared.headed.Headed.{Headed}
use Rattle.ft_shape.specs.Told.{sum_of, told}
use Rattle.ft_shape.proofs.Lists.{times_at, drop_none}
use Rattle.ft_overlap.specs.declared.items.Item.{Item}
use Rattle.ft_overlap.specs.declared.items.Span.{Span}
use Rattle.ft_overlap.specs.Inside.{Nodes, either_named, either_start, span_last, span_start, named_by, start_by, first_start, NamesOne, NamesLast}

module _ (s : Nodes) where
  -- what a node that was read names
  pub named_of : (x : ℕ) (e : Entry Item (Headed Span)) (v : Item) → entry s x ≡ Some e → either_named (leaf_of_node e.node) (span_last (sum_of (block_of_node
      e.node))) ≡ Some v
      → named_by (told s x) ≡ Some v
  named_of x e v read h = ap (λ (o : Option (Entry Item (Headed Span))). either_named (leaf_of_entry o) (span_last (sum_of (block_of_entry o)))) read ∙ h

  -- and where its first item starts
  pub start_of : (x : ℕ) (e : Entry Item (Headed Span)) (b : ℕ) → entry s x ≡ Some e
      → either_start (leaf_of_node e.node) (span_start (sum_of (block_of_node e.node)))
      ≡ Some b
      → start_by (told s x) ≡ Some b
  start_of x e b read h = ap (λ (o : Option (Entry Item (Headed Span))). either_start (leaf_of_entry o) (span_start (sum_of (block_of_entry o)))) read ∙ h

  -- the first of some nodes tells where they start
  pub first_told : (xs : List ℕ) (x : ℕ) → slice_get xs 0 ≡ Some x → first_start (map (told s) xs) ≡ start_by (told s x)
  first_told [] x h = cc
  first_told (y ∷ ys) x h = let q : y ≡ x = cc h in ap (λ (z : ℕ). start_by (told s z)) q

  pub told_in : (xs : List ℕ) (x : ℕ) → 1 ≤ times xs x → Contains (map (told s) xs) (told s x)
  told_in [] x m = absurd (omega arith)
  told_in (y ∷ ys) x m = elim (cases_eq y x) [
    | inl e ↦ subst (λ (z : ℕ). Contains (map (told s) (y ∷ ys)) (told s z)) e (0, omega arith, refl)
    | inr d ↦ Contains-append_right (told s y ∷ []) (map (told s) ys) (told s x) (told_in ys x (omega (arith, same_other y x d)))
  ]

  pub names_one : (kids : List ℕ) (i kid : ℕ) (v : Item) → slice_get kids i ≡ Some kid → named_by (told s kid) ≡ Some v → NamesOne v (map (told s) kids)
  names_one kids i kid v there e = (told s kid, told_in kids kid (times_at kids i kid there), e)

  module _ (place : ℕ → ℤ) where
    -- no item that these nodes name ends behind it
    abbrev pub IsLastOf : Item → List ℕ → Type 0
    IsLastOf v xs = (x : ℕ) (y : Item) → 1 ≤ times xs x → named_by (told s x) ≡ Some y → place y.end ≤ℤ place v.end

    one_more : (kids : List ℕ) (i kid x : ℕ) → slice_get kids i ≡ Some kid → times (take (i + 1) kids) x ≡ times (take i kids) x + times (kid ∷ []) x
    one_more kids i kid x there =
        ap (λ ks. times ks x) (take_more kids i kid (slice_get_within kids i kid there) ∙ ap (λ (k : ℕ). take i kids ++ k ∷ []) (get_or_from_slice_get kids i kid kid
        there))
        ∙ times-append (take i kids) (kid ∷ []) x

    pub last_more : (kids : List ℕ) (i kid : ℕ) (v next w : Item) → slice_get kids i ≡ Some kid → named_by (told s kid) ≡ Some next → IsLastOf v (take i kids)
        → place v.end ≤ℤ place w.end → place next.end ≤ℤ place w.end → IsLastOf w (take (i + 1) kids)
    last_more kids i kid v next w there names last low low' x y m e = elim (cases_eq kid x) [
      | inl q ↦
          let is : next ≡ y = cc (sym names ∙ ap (λ (z : ℕ). named_by (told s z)) q ∙ e) in
          subst (λ (z : Item). place z.end ≤ℤ place w.end) is low'
      | inr d ↦
          let h = last x y (omega (arith, m, one_more kids i kid x there, same_other kid x d)) e in
          omega (arith, ints, h, low)
    ]

    pub last_first : (kids : List ℕ) (kid : ℕ) (v : Item) → slice_get kids 0 ≡ Some kid → named_by (told s kid) ≡ Some v → IsLastOf v (take 1 kids)
    last_first [] kid v there names x y m e = cc
    last_first (k ∷ ks) kid v there names x y m e =
        let q : k ≡ kid = cc there in
        elim (cases_eq kid x) [
          | inl c ↦
              let is : v ≡ y = cc (sym names ∙ ap (λ (z : ℕ). named_by (told s z)) c ∙ e) in
              subst (λ (z : Item). place z.end ≤ℤ place v.end) is (omega (arith, ints))
          | inr d ↦ absurd (omega (arith, m, same_other kid x d, ap (λ (z : ℕ). times (z ∷ []) x) q))
        ]

    pub all_last : (v : Item) (xs : List ℕ) → IsLastOf v xs → NamesLast place v (map (told s) xs)
    all_last v [] h = All-nil (λ t. (x : Item) → named_by t ≡ Some x → place x.end ≤ℤ place v.end)
    all_last v (x ∷ xs) h = All-cons (λ t. (x : Item) → named_by t ≡ Some x → place x.end ≤ℤ place v.end) (told s x) (map (told s) xs)
        (λ y e. h x y (omega (arith, same_refl x)) e) (all_last v xs (λ y z m e. h y z (omega arith) e))

    pub last_all : (kids : List ℕ) (i : ℕ) (v : Item) → slice_get kids i ≡ None → IsLastOf v (take i kids) → NamesLast place v (map (told s) kids)
    last_all kids i v none h = all_last v kids (λ x y m e. h x y (omega (
      arith,
      m,
      ap (λ ks. times ks x) (sym (take-append-drop i kids)),
      times-append (take i kids) (drop i kids) x,
      ap (λ ks. times ks x) (drop_none kids i none),
    )) e)
