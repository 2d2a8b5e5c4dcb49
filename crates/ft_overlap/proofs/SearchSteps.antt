-- What a search of a block makes, child by child.
use Rattle.std.proofs.Common.{◌≡◌, ℕ, zero, suc, ℤ, ◌+◌, ◌-◌, ◌≤◌, ◌≤ℤ◌, ◌++◌, List, [], true, false, drop, length, slice_get, Some, None, IsSome, refl, sym, ap, subst, ◌∙◌, arith}
use Rattle.std.proofs.lemmas.List.{append-nil}
use Rattle.ft_arena.specs.Ids.{times}
use Rattle.ft_arena.specs.Forest.{entry, kids_of, block_value}
use Rattle.ft_shape.specs.declared.headed.Headed.{Headed}
use Rattle.ft_shape.specs.Tree.{IsTree, height_of, below}
use Rattle.ft_shape.proofs.Lists.{times_at, drop_none}
use Rattle.ft_shape.proofs.Levels.{steps_down, kid_parent, live_from_parent}
use Rattle.ft_shape.proofs.EditLemmas.{is_some_from}
use Rattle.ft_overlap.specs.declared.items.Item.{Item}
use Rattle.ft_overlap.specs.declared.items.Span.{Span}
use Rattle.ft_overlap.specs.Items.{keys_within, IsRising, AreKnown}
use Rattle.ft_overlap.specs.Inside.{Nodes, items_of, items_below, AreNamed}
use Rattle.ft_overlap.specs.Search.{Collects, IsCheap}
use Rattle.ft_overlap.proofs.Keys.{all_front, all_rest, rising_front}
use Rattle.ft_overlap.proofs.Collecting.{Collecting, collecting_init, collecting_step, collecting_stop, collecting_cheap, collecting_end, collecting_end_cheap}
use Rattle.ft_overlap.proofs.Under.{under_kids, first_kid}

module _ (place : ℕ → ℤ) (a b : ℤ) (s : Nodes) (root n : ℕ) (t : IsTree s root) (kids : List ℕ) (v : Headed Span) (is_kids : kids_of s n ≡ kids)
    (is_block : block_value s n ≡ Some v) where
  -- how many levels a child heads
  abbrev pub under : ℕ
  under = height_of s n - 1

  pub b_high : height_of s n ≡ suc under
  b_high = omega (arith, t.shape.high n (is_some_from (block_value s n) v is_block))

  pub b_all : items_below s n ≡ items_of s (below s under kids)
  b_all = under_kids s under n kids b_high is_kids

  pub b_start : (old : List ℕ) (start : ℕ) → Collecting place a b (items_below s n) (items_of s (below s under (drop 0 kids))) under 0 old old start start
  b_start old start = subst (λ (zs : List Item). Collecting place a b (items_below s n) zs under 0 old old start start) b_all
      (collecting_init place a b (items_below s n) under old start)

  module _ (i kid : ℕ) (there : slice_get kids i ≡ Some kid) where
    k_member : 1 ≤ times (kids_of s n) kid
    k_member = subst (λ (ks : List ℕ). 1 ≤ times ks kid) (sym is_kids) (times_at kids i kid there)

    pub k_high : height_of s kid ≡ under
    k_high = omega (arith, steps_down s root None t.shape n kid k_member, b_high)

    pub k_live : IsSome (entry s kid)
    k_live = live_from_parent (entry s kid) n (kid_parent s root None t.shape n kid k_member)

    pub k_rest : items_of s (below s under (drop i kids)) ≡ items_below s kid ++ items_of s (below s under (drop (i + 1) kids))
    k_rest = first_kid s under i kid kids k_high there

    pub k_known : (Knows : ℕ → Type 0) → AreKnown Knows (items_of s (below s under (drop i kids))) → AreKnown Knows (items_below s kid)
    k_known Knows h = all_front (λ x. Knows x.start × Knows x.end) (items_below s kid) (items_of s (below s under (drop (i + 1) kids)))
        (subst (λ (zs : List Item). AreKnown Knows zs) k_rest h)

    pub k_known_rest : (Knows : ℕ → Type 0) → AreKnown Knows (items_of s (below s under (drop i kids)))
        → AreKnown Knows (items_of s (below s under (drop (i + 1) kids)))
    k_known_rest Knows h = all_rest (λ x. Knows x.start × Knows x.end) (items_below s kid) (items_of s (below s under (drop (i + 1) kids)))
        (subst (λ (zs : List Item). AreKnown Knows zs) k_rest h)

    module _ (old now : List ℕ) (start s1 : ℕ) (c : Collecting place a b (items_below s n) (items_of s (below s under (drop i kids))) under i old now start s1) where
      here : Collecting place a b (items_below s n) (items_below s kid ++ items_of s (below s under (drop (i + 1) kids))) under i old now start s1
      here = subst (λ (zs : List Item). Collecting place a b (items_below s n) zs under i old now start s1) k_rest c

      pub k_rising : IsRising place (items_below s n) → IsRising place (items_below s kid)
      k_rising r = rising_front place (items_below s kid) (items_of s (below s under (drop (i + 1) kids)))
          (subst (IsRising place) (append-nil (items_below s kid ++ items_of s (below s under (drop (i + 1) kids))))
          (here.suffix [] (subst (IsRising place) (sym (append-nil (items_below s n))) r)))

      module _ (next : List ℕ) (s2 : ℕ) where
        pub k_step : Collects place a b (items_below s kid) (height_of s kid) now next s1 s2 true
            → Collecting place a b (items_below s n) (items_of s (below s under (drop (i + 1) kids))) under (i + 1) old next start s2
        k_step k = collecting_step place a b (items_below s n) (items_below s kid) (items_of s (below s under (drop (i + 1) kids))) under i old now next start s1 s2 here
            (subst (λ (h : ℕ). Collects place a b (items_below s kid) h now next s1 s2 true) k_high k)

        pub k_stop : IsRising place (items_below s n) → Collects place a b (items_below s kid) (height_of s kid) now next s1 s2 false → (before after : ℕ)
            → Collects place a b (items_below s n) (height_of s n) old next before after false
        k_stop r k before after = subst (λ (h : ℕ). Collects place a b (items_below s n) h old next before after false) (sym b_high)
            (collecting_stop place a b (items_below s n) (items_below s kid) (items_of s (below s under (drop (i + 1) kids))) under i old now next start s1 s2 here r
            (subst (λ (h : ℕ). Collects place a b (items_below s kid) h now next s1 s2 false) k_high k) before after)

        pub k_cheap : (before : ℕ) → start ≡ before + 1 → i ≤ 7 → IsCheap (height_of s kid) (length (keys_within place a b (items_below s kid))) s1 s2
            → IsCheap (height_of s n) (length (keys_within place a b (items_below s n))) before s2
        k_cheap before e few k = subst (λ (h : ℕ). IsCheap h (length (keys_within place a b (items_below s n))) before s2) (sym b_high)
            (collecting_cheap place a b (items_below s n) (items_below s kid) (items_of s (below s under (drop (i + 1) kids))) under i old now next start s1 s2 here before e few
            (subst (λ (h : ℕ). IsCheap h (length (keys_within place a b (items_below s kid))) s1 s2) k_high k))

  module _ (i : ℕ) (gone : slice_get kids i ≡ None) (few : i ≤ 8) (old now : List ℕ) (before start steps : ℕ) (tick : start ≡ before + 1)
      (c : Collecting place a b (items_below s n) (items_of s (below s under (drop i kids))) under i old now start steps) where
    below-none : (h : ℕ) → below s h [] ≡ []
    below-none zero = refl
    below-none (suc h) = below-none h

    last : Collecting place a b (items_below s n) [] under i old now (before + 1) steps
    last = subst (λ (k : ℕ). Collecting place a b (items_below s n) [] under i old now k steps) tick
        (subst (λ (zs : List Item). Collecting place a b (items_below s n) zs under i old now start steps)
        (ap (λ ks. items_of s (below s under ks)) (drop_none kids i gone) ∙ ap (items_of s) (below-none under)) c)

    pub b_end : AreNamed s → a ≤ℤ place v.sum.last.end → Collects place a b (items_below s n) (height_of s n) old now before steps true
    b_end named reaches = subst (λ (h : ℕ). Collects place a b (items_below s n) h old now before steps true) (sym b_high)
        (collecting_end place a b (items_below s n) v.sum.last under i old now before steps last few (named n v is_block) reaches)

    pub b_end_cheap : IsCheap (height_of s n) (length (keys_within place a b (items_below s n))) before steps
    b_end_cheap = subst (λ (h : ℕ). IsCheap h (length (keys_within place a b (items_below s n))) before steps) (sym b_high)
        (collecting_end_cheap place a b (items_below s n) v.sum.last under i old now before steps last few)
