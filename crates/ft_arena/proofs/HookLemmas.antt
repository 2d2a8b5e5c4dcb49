-- How the list of leaves, the links and the counts change together where a leaf is hooked in or out.
use Rattle.std.proofs.Common.{◌≡◌, ◌≢◌, ℕ, ◌≤◌, List, get_or, Option, Some, None, refl, sym, ap, subst, ◌∙◌, inl, inr, arith}
use Rattle.std.proofs.lemmas.Bool.{cases_eq}
use Rattle.slab.specs.Slab.{Slab}
use Rattle.ft_arena.specs.Links.{Slot}
use Rattle.ft_arena.specs.Ids.{same, times, put_after, insert_after, without}
use Rattle.ft_arena.specs.Forest.{leaf_of_entry, kids_of_entry, parent_of_entry}
use Rattle.ft_arena.specs.Links.{IsWalk, IsRing, IsChain, entries_of, leaves_of, live_of, next_of, prev_of, nodes_of, HasPlace}
use Rattle.ft_arena.proofs.IdLemmas.{IsIn, times-put_after, times-without_same, times-without_other, same_refl, same_other}
use Rattle.ft_arena.proofs.RingLemmas.{IsWalk-other, IsWalk-insert, IsWalk-without, IsWalk-after, IsRing-insert, IsRing-without, after_self, same_place}
use Rattle.ft_arena.proofs.ArenaLemmas.{count_some_le, leaf_has_slot, leaves_is, IsForest-other}

-- each live place, but the head, stands once in the list, along which the links lead
pub record IsLinked (live : Option ℕ → ℕ) (next prev : Option ℕ → Option ℕ) (xs : List ℕ) : Type 0 where
  pub none : live None ≡ 1
  pub bound : (p : Option ℕ) → live p ≤ 1
  pub walks : IsWalk next (next None) xs
  pub ring : IsRing live next prev
  pub once : (id : ℕ) → times xs id ≡ live (Some id)

-- no leaf leads to itself
pub next_apart : (live : Option ℕ → ℕ) (next prev : Option ℕ → Option ℕ) (xs : List ℕ) (id : ℕ) → IsLinked live next prev xs
    → live (Some id) ≡ 1 → next (Some id) ≢ Some id
next_apart live next prev xs id g here =
    let once_id : times xs id ≡ 1 = g.once id ∙ here in
    λ e. after_self xs id (omega (arith, once_id)) (sym (IsWalk-after next (next None) xs id g.walks (omega (arith, once_id))) ∙ e)

module _ (live : Option ℕ → ℕ) (next prev : Option ℕ → Option ℕ) (live' : Option ℕ → ℕ) (next' prev' : Option ℕ → Option ℕ) (xs : List ℕ) (id : ℕ)
    (g : IsLinked live next prev xs) where
  -- the links lead past a leaf
  pub unhooked : live (Some id) ≡ 1 → live' (Some id) ≡ 0 → ((p : Option ℕ) → p ≢ Some id → live' p ≡ live p) → next' (prev (Some id)) ≡ next (Some id)
      → ((p : Option ℕ) → p ≢ prev (Some id) → p ≢ Some id → next' p ≡ next p) → prev' (next (Some id)) ≡ prev (Some id)
      → ((p : Option ℕ) → p ≢ next (Some id) → p ≢ Some id → prev' p ≡ prev p) → IsLinked live' next' prev' (without xs id)
  unhooked here dead lives n nr p po =
      let once_id : times xs id ≡ 1 = g.once id ∙ here in
      let apart : next (Some id) ≢ Some id = next_apart live next prev xs id g here in
      let leads : (p : Option ℕ) → live p ≡ 1 → next p ≡ Some id → p ≡ prev (Some id) = λ q h e. sym (g.ring.back q h) ∙ ap prev e in
      let led : (p : Option ℕ) → p ≡ prev (Some id) → next p ≡ Some id = λ q e. ap next e ∙ g.ring.forth (Some id) here in
      let in_live : (x : ℕ) → 1 ≤ times xs x → x ≢ id → live (Some x) ≡ 1 = λ x i d. omega (arith, i, g.once x, g.bound (Some x)) in
      record {
        none = lives None (λ e. cc) ∙ g.none;
        bound = λ p. elim (same_place p (Some id)) [ inl e ↦ omega (arith, ap live' e, dead) | inr d ↦ omega (arith, lives p d, g.bound p) ];
        walks = IsWalk-without next next' (next None) (next' None) xs id (λ x i d e. ap next' (leads (Some x) (in_live x i d) e)
            ∙ n) (λ x i d e. nr (Some x) (λ q. e (led (Some x) q)) (λ q. d (cc))) (λ e. ap next' (leads None g.none e) ∙ n) (λ e. nr None (λ q. e (led None q)) (λ q. cc))
            (omega (arith, once_id)) g.walks;
        ring = IsRing-without live next prev live' next' prev' (Some id) g.ring here apart dead lives n nr p po;
        once = λ x. elim (cases_eq x id) [
          | inl e ↦ ap (times (without xs id)) e ∙ times-without_same xs id ∙ sym dead ∙ ap (λ z. live' (Some z)) (sym e)
          | inr d ↦ times-without_other xs id x d ∙ g.once x ∙ sym (lives (Some x) (λ q. d (cc)))
        ];
      }

  -- the links lead to a leaf after that place
  pub hooked : (at : Option ℕ) → live at ≡ 1 → live (Some id) ≡ 0 → live' (Some id) ≡ 1 → ((p : Option ℕ) → p ≢ Some id → live' p ≡ live p) → next' at ≡ Some id
      → next' (Some id) ≡ next at → ((p : Option ℕ) → p ≢ at → p ≢ Some id → next' p ≡ next p) → prev' (next at) ≡ Some id → prev' (Some id) ≡ at
      → ((p : Option ℕ) → p ≢ next at → p ≢ Some id → prev' p ≡ prev p) → IsLinked live' next' prev' (put_after xs at id)
  hooked at here dead new lives n ni nr p pi po =
      let not_in : times xs id ≡ 0 = g.once id ∙ dead in
      let is_in : IsIn xs at = at_place at here in
      record {
        none = lives None (λ e. cc) ∙ g.none;
        bound = λ p. elim (same_place p (Some id)) [ inl e ↦ omega (arith, ap live' e, new) | inr d ↦ omega (arith, lives p d, g.bound p) ];
        walks = walked at n ni nr not_in (g_in at here);
        ring = IsRing-insert live next prev live' next' prev' at (Some id) g.ring here dead new lives n ni nr p pi po;
        once = λ x. times-put_after xs at id x is_in ∙ elim (cases_eq x id) [
          | inl e ↦ omega (arith, ap (times xs) e, not_in, ap (same id) e, same_refl id, ap (λ z. live' (Some z)) e, new)
          | inr d ↦ omega (arith, same_other id x (λ q. d (sym q)), g.once x, lives (Some x) (λ q. d (cc)))
        ];
      }
    where
      at_place : (q : Option ℕ) → live q ≡ 1 → IsIn xs q
      at_place None h = tt
      at_place (Some a) h = g.once a ∙ h

      g_in : (q : Option ℕ) → live q ≡ 1 → IsIn xs q
      g_in q h = at_place q h

      walked : (q : Option ℕ) → next' q ≡ Some id → next' (Some id) ≡ next q → ((p : Option ℕ) → p ≢ q → p ≢ Some id → next' p ≡ next p)
          → times xs id ≡ 0 → IsIn xs q
          → IsWalk next' (next' None) (put_after xs q id)
      walked None n ni nr z i =
          let rest : IsWalk next' (next None) xs = IsWalk-other next next' (next None) xs (λ x m. nr (Some x) (λ e. cc) (λ e. let q : x ≡ id = cc in
          omega (arith, z, ap (times xs) q))) g.walks in (
            n,
            subst (λ (o : Option ℕ). IsWalk next' o xs) (sym ni) rest,
          )
      walked (Some a) n ni nr z i =
          let start : next' None ≡ next None = nr None (λ e. cc) (λ e. cc) in
          subst (λ (o : Option ℕ). IsWalk next' o (insert_after xs a id)) (sym start)
          (IsWalk-insert next next' (next None) xs a id n ni (λ x d m. nr (Some x) (λ e. d (cc)) (λ e. m (cc))) i z g.walks)

module _ {L B : Type 0} where
  pub live_bound : (s : Slab (Slot L B)) (p : Option ℕ) → live_of (entries_of s) p ≤ 1
  live_bound s None = omega arith
  live_bound s (Some x) = count_some_le (leaf_of_entry (get_or (entries_of s) x None))

  -- a sound arena is linked
  pub linked_from : (s : Slab (Slot L B)) (h t : Option ℕ) → IsChain record { slots = s; head = h; tail = t }
      → IsLinked (live_of (entries_of s)) (next_of s h) (prev_of s t) (leaves_of s h)
  linked_from s h t f = record { none = refl; bound = live_bound s; walks = f.0.walks; ring = f.0.ring; once = f.1.leaf_once }

  -- the list that the links lead along is the list of leaves
  pub leaves_from : (s : Slab (Slot L B)) (h t : Option ℕ) (xs : List ℕ) → IsLinked (live_of (entries_of s)) (next_of s h) (prev_of s t) xs → leaves_of s h ≡ xs
  leaves_from s h t xs g = leaves_is s h xs g.walks g.once

  -- linked slots whose children and parents are those of a sound arena make a sound arena
  pub sound_from : (s s' : Slab (Slot L B)) (h t h' t' : Option ℕ) (xs : List ℕ) → IsChain record { slots = s; head = h; tail = t }
      → IsLinked (live_of (entries_of s')) (next_of s' h') (prev_of s' t') xs
      → ((id : ℕ) → kids_of_entry (get_or (entries_of s') id None) ≡ kids_of_entry (get_or (entries_of s) id None))
      → ((id : ℕ) → parent_of_entry (get_or (entries_of s') id None) ≡ parent_of_entry (get_or (entries_of s) id None)) → IsChain record {
        slots = s';
        head = h';
        tail =
            t';
      }
  sound_from s s' h t h' t' xs f g kids parents =
      let e : leaves_of s' h' ≡ xs = leaves_from s' h' t' xs g in (
        record { walks = subst (λ (zs : List ℕ). IsWalk (next_of s' h') h' zs) (sym e) g.walks; ring = g.ring },
        IsForest-other (nodes_of record { slots = s; head = h; tail = t }) (nodes_of record { slots = s'; head = h'; tail = t' }) (λ x. ap (λ zs. times zs x) e
            ∙ g.once x) kids parents f.1,
      )

  -- a live place has a slot in slots with the same entry there
  pub placed : (s s' : Slab (Slot L B)) (p : Option ℕ) → live_of (entries_of s') p ≡ live_of (entries_of s) p → live_of (entries_of s) p ≡ 1 → HasPlace s' p
  placed s s' None e h = tt
  placed s s' (Some x) e h = leaf_has_slot s' x (e ∙ h)
