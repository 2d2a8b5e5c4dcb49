-- What `push` leaves.
use Rattle.std.proofs.Common.{◌≡◌, ◌≢◌, ℕ, ◌<◌, ◌≤◌, ◌++◌, List, [], ◌∷◌, map, length, get_or, set, Option, Some, None, refl, sym, ap, subst, ◌∙◌, inl, inr, arith}
use Rattle.std.proofs.lemmas.Bool.{cases_eq}
use Rattle.std.proofs.lemmas.List.{get_or-set_same, get_or-set_other, length-set}
use Rattle.slab.specs.Slab.{Slab, Updates}
use Rattle.ft_arena.specs.Ids.{times, points, put_after, insert_after}
use Rattle.ft_arena.specs.Links.{IsWalk}
use Rattle.ft_arena.proofs.IdLemmas.{IsIn, same_refl, same_other}
use Rattle.ft_arena.proofs.RingLemmas.{insert_after_here, insert_after_later}
use Rattle.ft_arena.proofs.KidLemmas.{points_other}
use Rattle.ft_arena.proofs.HookLemmas.{IsLinked, hooked}
use Rattle.ft_refs.specs.declared.numbers.Slot.{Slot}
use Rattle.ft_refs.specs.declared.numbers.Ends.{Ends}
use Rattle.ft_refs.specs.RefLists.{references_of, place_of_entry, owner_of_place, ChangesOne}
use Rattle.ft_refs.specs.Links.{next_of_slot, prev_of_slot, next_slot, prev_of, entries_of, owner_at, offset_or, with_offset, refs_from, list_from, live_on, no_ends, ends_at, AreLinks, AreLists, shown_lists, SetsNext, HasPlace}
use Rattle.ft_refs.proofs.ListLemmas.{linked_from, refs_is, links_from, links_kept, list_at, offsets_kept, live_has_slot, entries_other, entries_here, nexts_other, prevs_other}

-- what is put after the last reference stands at the end
insert_last : (next : Option ℕ → Option ℕ) (at : Option ℕ) (xs : List ℕ) (a r : ℕ) → IsWalk next at xs → next (Some a) ≡ None
    → times xs a ≡ 1 → insert_after xs a r ≡ xs ++ r ∷ []
insert_last next at [] a r w h i = absurd (omega arith)
insert_last next at (y ∷ ys) a r w h i = elim (cases_eq y a) [
  | inl e ↦ alone ys e w.1
  | inr d ↦ insert_after_later y ys a r d ∙ ap (λ t. y ∷ t) (insert_last next (next (Some y)) ys a r w.1 h (omega (arith, same_other y a d)))
]
  where
    alone : (zs : List ℕ) → y ≡ a → IsWalk next (next (Some y)) zs → insert_after (y ∷ zs) a r ≡ y ∷ zs ++ r ∷ []
    alone [] e v = subst (λ (z : ℕ). insert_after (z ∷ []) a r ≡ z ∷ [] ++ r ∷ []) (sym e) (insert_after_here [] a r (omega (arith, same_refl a)))
    alone (z ∷ zs) e v = let n : next (Some y) ≡ None = ap (λ k. next (Some k)) e ∙ h in cc (v.0, n)

put_last : (next : Option ℕ → Option ℕ) (xs : List ℕ) (p : Option ℕ) (r : ℕ) → IsWalk next (next None) xs → next p ≡ None → IsIn xs p
    → put_after xs p r ≡ xs ++ r ∷ []
put_last next [] None r w h i = refl
put_last next (y ∷ ys) None r w h i = cc (w.0, h)
put_last next xs (Some a) r w h i = insert_last next (next None) xs a r w h i

pub map-last : {X Y : Type 0} (f : X → Y) (xs : List X) (x : X) → map f (xs ++ x ∷ []) ≡ map f xs ++ f x ∷ []
map-last f [] x = refl
map-last f (y ∷ ys) x = ap (λ t. f y ∷ t) (map-last f ys x)

module _ (s0 s1 s2 : Slab Slot) (es : List Ends) (e : Ends) (f2 : Option ℕ) (r o off : ℕ) (f : AreLists s0 es) (is : ends_at es o ≡ e) (within : o < length es) (idle : owner_at s0 r ≡ None) (u : Updates s0 s1 r (Some record { place = Some record { owner = o; offset = off }; prev = e.last; next = None })) where
  g : IsLinked (live_on s0 o) (next_slot s0 e.first) (prev_of s0 e.last) (refs_from s0 e.first)
  g = linked_from s0 o e (subst (λ (z : Ends). AreLinks s0 o z) is (f.links o))

  off_r : (o' : ℕ) → live_on s0 o' (Some r) ≡ 0
  off_r o' = ap (λ q. points q o') idle

  last_live : live_on s0 o e.last ≡ 1
  last_live = g.ring.prev_live None refl

  apart : (o' : ℕ) (p : Option ℕ) → live_on s0 o' p ≡ 1 → p ≢ Some r
  apart o' p h = λ q. omega (arith, ap (live_on s0 o') q, h, off_r o')

  lives1 : (p : Option ℕ) → p ≢ Some r → live_on s1 o p ≡ live_on s0 o p
  lives1 None d = refl
  lives1 (Some x) d = ap (λ q. points (owner_of_place (place_of_entry q)) o) (entries_other s0 s1 r _ u x (λ q. d (ap Some q)))

  -- the last reference has its place when `set_next` is called
  pub push_place : HasPlace s1 e.last
  push_place = live_has_slot s1 o e.last (lives1 e.last (apart o e.last last_live) ∙ last_live)

  module _ (nx : SetsNext s1 e.first s2 f2 e.last (Some r)) where
    abbrev e2 : Ends
    e2 = record { first = f2; last = Some r }

    pub push_other : (x : ℕ) → x ≢ r → get_or (entries_of s2) x None ≡ get_or (entries_of s0) x None
    push_other x d = ap (λ zs. get_or zs x None) nx.entries ∙ entries_other s0 s1 r _ u x d

    pub push_here : get_or (entries_of s2) r None ≡ Some (Some record { owner = o; offset = off })
    push_here = ap (λ zs. get_or zs r None) nx.entries ∙ entries_here s0 s1 r _ u

    lives : (o' : ℕ) (p : Option ℕ) → p ≢ Some r → live_on s2 o' p ≡ live_on s0 o' p
    lives o' None d = refl
    lives o' (Some x) d = ap (λ q. points (owner_of_place (place_of_entry q)) o') (push_other x (λ q. d (ap Some q)))

    at_end : next_slot s0 e.first e.last ≡ None
    at_end = g.ring.forth None refl

    in_list : (p : Option ℕ) → live_on s0 o p ≡ 1 → IsIn (refs_from s0 e.first) p
    in_list None h = tt
    in_list (Some x) h = g.once x ∙ h

    hooked_prevs : (p : Option ℕ) → p ≢ next_slot s0 e.first e.last → p ≢ Some r → prev_of s2 (Some r) p ≡ prev_of s0 e.last p
    hooked_prevs None a d = absurd (a (sym at_end))
    hooked_prevs (Some x) a d = nx.prevs e.last (Some x) ∙ prevs_other s0 s1 r _ e.last u (Some x) d

    linked : IsLinked (live_on s2 o) (next_slot s2 f2) (prev_of s2 (Some r)) (refs_from s0 e.first ++ r ∷ [])
    linked =
        subst (λ (xs : List ℕ). IsLinked (live_on s2 o) (next_slot s2 f2) (prev_of s2 (Some r)) xs) (put_last (next_slot s0 e.first) (refs_from s0 e.first) e.last r g.walks at_end (in_list e.last last_live)) (hooked (live_on s0 o) (next_slot s0 e.first) (prev_of s0 e.last) (live_on s2 o) (next_slot s2 f2) (prev_of s2 (Some r)) (refs_from s0 e.first) r g e.last last_live (off_r o) (ap (λ q. points (owner_of_place (place_of_entry q)) o) push_here ∙ same_refl o) (lives o) nx.changed (nx.others (Some r) (λ q. apart o e.last last_live (sym q)) ∙ ap next_of_slot u.changed ∙ sym at_end) (λ p a d. nx.others p a ∙ nexts_other s0 s1 r _ e.first u p d) (ap (prev_of s2 (Some r)) at_end) (nx.prevs (Some r) (Some r) ∙ ap prev_of_slot u.changed) hooked_prevs)

    off_other : (o' : ℕ) → o' ≢ o → (x : ℕ) → points (owner_at s2 x) o' ≡ points (owner_at s0 x) o'
    off_other o' n x = elim (cases_eq x r) [
      | inl q ↦ ap (λ z. points (owner_at s2 z) o') q ∙ ap (λ z. points (owner_of_place (place_of_entry z)) o') push_here ∙ same_other o o' (λ z. n (sym z)) ∙ sym (off_r o') ∙ ap (λ z. points (owner_at s0 z) o') (sym q)
      | inr d ↦ ap (λ q. points (owner_of_place (place_of_entry q)) o') (push_other x d)
    ]

    other : (o' : ℕ) → o' ≢ o → IsLinked (live_on s2 o') (next_slot s2 (ends_at es o').first) (prev_of s2 (ends_at es o').last) (refs_from s0 (ends_at es o').first)
    other o' n = links_kept s0 s2 o' (ends_at es o') nexts prevs lives' (f.links o')
      where
        nexts : (p : Option ℕ) → live_on s0 o' p ≡ 1 → next_slot s2 (ends_at es o').first p ≡ next_slot s0 (ends_at es o').first p
        nexts None h = refl
        nexts (Some x) h = nx.others (Some x) (λ q. omega (arith, ap (live_on s0 o) q, last_live, points_other o' o (owner_at s0 x) n h))
            ∙ nexts_other s0 s1 r _ e.first u (Some x) (apart o' (Some x) h)

        prevs : (p : Option ℕ) → live_on s0 o' p ≡ 1 → prev_of s2 (ends_at es o').last p ≡ prev_of s0 (ends_at es o').last p
        prevs None h = refl
        prevs (Some x) h = nx.prevs e.last (Some x) ∙ prevs_other s0 s1 r _ e.last u (Some x) (apart o' (Some x) h)

        lives' : (p : Option ℕ) → live_on s2 o' p ≡ live_on s0 o' p
        lives' None = refl
        lives' (Some x) = off_other o' n x

    ends_here : ends_at (set es o e2) o ≡ e2
    ends_here = get_or-set_same es o e2 no_ends within

    ends_other : (o' : ℕ) → o' ≢ o → ends_at (set es o e2) o' ≡ ends_at es o'
    ends_other o' n = get_or-set_other es o o' e2 no_ends n

    pub pushed_lists : AreLists s2 (set es o record { first = f2; last = Some r })
    pushed_lists =
        record {
          links = λ o'. elim (cases_eq o' o) [
            | inl q ↦ subst (λ (z : ℕ). AreLinks s2 z (ends_at (set es o e2) z)) (sym q) (subst (λ (z : Ends). AreLinks s2 o z) (sym ends_here) (links_from s2 o e2 _ linked))
            | inr n ↦ subst (λ (z : Ends). AreLinks s2 o' z) (sym (ends_other o' n)) (links_from s2 o' (ends_at es o') _ (other o' n))
          ];
          held = λ o' x h. elim (cases_eq x r) [
            | inl q ↦
                let z : Some o ≡ Some o' = sym (ap (λ k. owner_of_place (place_of_entry k)) push_here) ∙ ap (owner_at s2) (sym q) ∙ h in
                let y : o ≡ o' = cc in omega (arith, y, within, length-set es o e2)
            | inr d ↦ omega (arith, f.held o' x (sym (ap (λ k. owner_of_place (place_of_entry k)) (push_other x d)) ∙ h), length-set es o e2)
          ];
        }

    absent : (o' x : ℕ) → 1 ≤ times (refs_from s0 (ends_at es o').first) x → x ≢ r
    absent o' x i = λ q. omega (arith, i, (f.links o').once x, ap (λ z. points (owner_at s0 z) o') q, off_r o')

    pub pushed_list : references_of (shown_lists s2 (set es o record { first = f2; last = Some r })) o ≡ references_of (shown_lists s0 es) o ++ (r, off) ∷ []
    pushed_list =
        list_at s2 (set es o e2) o ∙ ap (λ (z : Ends). list_from s2 z.first) ends_here
        ∙ ap (map (with_offset s2)) (refs_is s2 o e2 _ linked) ∙ map-last (with_offset s2) (refs_from s0 e.first) r
        ∙ ap (λ z. map (with_offset s2) (refs_from s0 e.first) ++ (r, z) ∷ []) (ap (λ q. offset_or (place_of_entry q)) push_here)
        ∙ ap (λ zs. zs ++ (r, off) ∷ []) (ap (λ (z : Ends). map (with_offset s2) (refs_from s0 z.first)) (sym is)
        ∙ offsets_kept s0 s2 (refs_from s0 (ends_at es o).first) (λ x i. push_other x (absent o x i)) ∙ sym (list_at s0 es o))

    pub pushed_other : (o' : ℕ) → o' ≢ o → references_of (shown_lists s2 (set es o record { first = f2; last = Some r })) o' ≡ references_of (shown_lists s0 es) o'
    pushed_other o' n =
        list_at s2 (set es o e2) o' ∙ ap (λ (z : Ends). list_from s2 z.first) (ends_other o' n) ∙ ap (map (with_offset s2)) (refs_is s2 o' (ends_at es o') _ (other o' n))
        ∙ offsets_kept s0 s2 (refs_from s0 (ends_at es o').first) (λ x i. push_other x (absent o' x i)) ∙ sym (list_at s0 es o')

    pub pushed_changes : ChangesOne (shown_lists s0 es) (shown_lists s2 (set es o record { first = f2; last = Some r })) r
        (Some (Some record { owner = o; offset = off }))
    pushed_changes = record { changed = push_here; others = push_other }
