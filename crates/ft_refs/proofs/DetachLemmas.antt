-- What `detach` leaves.
use Rattle.std.proofs.Common.{◌≡◌, ◌≢◌, ℕ, ◌<◌, ◌≤◌, List, map, length, get_or, set, Option, Some, None, refl, sym, ap, subst, ◌∙◌, inl, inr, arith}
use Rattle.std.proofs.lemmas.Bool.{cases_eq}
use Rattle.std.proofs.lemmas.List.{get_or-set_same, get_or-set_other, length-set}
use Rattle.std.specs.Option.{option_map}
use Rattle.slab.specs.Slab.{Slab, get, Updates}
use Rattle.ft_arena.specs.Ids.{times, points, without}
use Rattle.ft_arena.proofs.IdLemmas.{same_refl, same_other, times-without_same}
use Rattle.ft_arena.proofs.KidLemmas.{points_other}
use Rattle.ft_arena.proofs.HookLemmas.{IsLinked, unhooked, next_apart}
use Rattle.ft_refs.specs.declared.numbers.Slot.{Slot}
use Rattle.ft_refs.specs.declared.numbers.Ends.{Ends}
use Rattle.ft_refs.specs.RefLists.{entry, references_of, place_of_entry, owner_of_place, ChangesOne}
use Rattle.ft_refs.specs.RefLists as seen
use Rattle.ft_refs.specs.Links.{next_of_slot, prev_of_slot, next_slot, prev_of, place_of_slot, entries_of, owner_at, with_offset, refs_from, list_from, live_on, no_ends, ends_at, AreLinks, AreLists, shown_lists, SetsNext, SetsPrev, HasPlace}
use Rattle.ft_refs.proofs.ListLemmas.{linked_from, refs_is, links_from, links_kept, list_at, offsets_kept, live_has_slot, entries_other, entries_here, nexts_other, prevs_other, entries_at, without-map, without_none}

module _ (s0 s1 s2 s3 : Slab Slot) (es : List Ends) (e : Ends) (f2 l3 : Option ℕ) (r o off : ℕ) (before after : Option ℕ) (f : AreLists s0 es) (is : ends_at es o ≡ e) (found : get s0 r ≡ Some record { place = Some record { owner = o; offset = off }; prev = before; next = after }) (u : Updates s0 s1 r (Some record { place = None; prev = None; next = None })) where
  g : IsLinked (live_on s0 o) (next_slot s0 e.first) (prev_of s0 e.last) (refs_from s0 e.first)
  g = linked_from s0 o e (subst (λ (z : Ends). AreLinks s0 o z) is (f.links o))

  was : get_or (entries_of s0) r None ≡ Some (Some record { owner = o; offset = off })
  was = entries_at s0 r ∙ ap (option_map place_of_slot) found

  here : live_on s0 o (Some r) ≡ 1
  here = ap (λ q. points (owner_of_place (place_of_entry q)) o) was ∙ same_refl o

  within : o < length es
  within = f.held o r (ap (λ q. owner_of_place (place_of_entry q)) was)

  next0 : next_slot s0 e.first (Some r) ≡ after
  next0 = ap next_of_slot found

  prev0 : prev_of s0 e.last (Some r) ≡ before
  prev0 = ap prev_of_slot found

  apart : next_slot s0 e.first (Some r) ≢ Some r
  apart = next_apart (live_on s0 o) (next_slot s0 e.first) (prev_of s0 e.last) (refs_from s0 e.first) r g here

  apart' : prev_of s0 e.last (Some r) ≢ Some r
  apart' = λ q. apart (ap (next_slot s0 e.first) (sym q) ∙ g.ring.forth (Some r) here)

  before_live : live_on s0 o before ≡ 1
  before_live = ap (live_on s0 o) (sym prev0) ∙ g.ring.prev_live (Some r) here

  after_live : live_on s0 o after ≡ 1
  after_live = ap (live_on s0 o) (sym next0) ∙ g.ring.next_live (Some r) here

  lives1 : (s : Slab Slot) → entries_of s ≡ entries_of s1 → (o' : ℕ) (p : Option ℕ) → p ≢ Some r → live_on s o' p ≡ live_on s0 o' p
  lives1 s q o' None d = refl
  lives1 s q o' (Some x) d = ap (λ z. points (owner_of_place (place_of_entry z)) o') (ap (λ zs. get_or zs x None) q ∙ entries_other s0 s1 r _ u x (λ z. d (ap Some z)))

  -- the reference before has its place when `set_next` is called
  pub before_place : HasPlace s1 before
  before_place = live_has_slot s1 o before (lives1 s1 refl o before (λ q. apart' (prev0 ∙ q)) ∙ before_live)

  module _ (nx : SetsNext s1 e.first s2 f2 before after) where
    -- the reference after has its place when `set_prev` is called
    pub after_place : HasPlace s2 after
    after_place = live_has_slot s2 o after (lives1 s2 nx.entries o after (λ q. apart (next0 ∙ q)) ∙ after_live)

    module _ (pv : SetsPrev s2 e.last s3 l3 after before) where
      abbrev e3 : Ends
      e3 = record { first = f2; last = l3 }

      entries3 : entries_of s3 ≡ entries_of s1
      entries3 = pv.entries ∙ nx.entries

      other_entry : (x : ℕ) → x ≢ r → get_or (entries_of s3) x None ≡ get_or (entries_of s0) x None
      other_entry x d = ap (λ zs. get_or zs x None) entries3 ∙ entries_other s0 s1 r _ u x d

      this_entry : get_or (entries_of s3) r None ≡ Some None
      this_entry = ap (λ zs. get_or zs r None) entries3 ∙ entries_here s0 s1 r _ u

      linked : IsLinked (live_on s3 o) (next_slot s3 f2) (prev_of s3 l3) (without (refs_from s0 e.first) r)
      linked =
          unhooked (live_on s0 o) (next_slot s0 e.first) (prev_of s0 e.last) (live_on s3 o) (next_slot s3 f2) (prev_of s3 l3) (refs_from s0 e.first) r g here (ap (λ q. points (owner_of_place (place_of_entry q)) o) this_entry) (lives1 s3 entries3 o) (ap (next_slot s3 f2) prev0 ∙ pv.nexts f2 before ∙ nx.changed ∙ sym next0) (λ p a d. pv.nexts f2 p ∙ nx.others p (λ q. a (q ∙ sym prev0)) ∙ nexts_other s0 s1 r _ e.first u p d) (ap (prev_of s3 l3) next0 ∙ pv.changed ∙ sym prev0) (λ p a d. pv.others p (λ q. a (q ∙ sym next0)) ∙ nx.prevs e.last p ∙ prevs_other s0 s1 r _ e.last u p d)

      -- a reference of another owner is none of those whose links change
      elsewhere : (o' : ℕ) → o' ≢ o → (x : ℕ) → live_on s0 o' (Some x) ≡ 1 → (p : Option ℕ) → live_on s0 o p ≡ 1 → Some x ≢ p
      elsewhere o' n x h p v = λ q. omega (arith, ap (live_on s0 o) q, v, points_other o' o (owner_at s0 x) n h)

      other : (o' : ℕ) → o' ≢ o → IsLinked (live_on s3 o') (next_slot s3 (ends_at es o').first) (prev_of s3 (ends_at es o').last) (refs_from s0 (ends_at es o').first)
      other o' n = links_kept s0 s3 o' (ends_at es o') nexts prevs lives' (f.links o')
        where
          nexts : (p : Option ℕ) → live_on s0 o' p ≡ 1 → next_slot s3 (ends_at es o').first p ≡ next_slot s0 (ends_at es o').first p
          nexts None h = refl
          nexts (Some x) h = pv.nexts e.first (Some x) ∙ nx.others (Some x) (elsewhere o' n x h before before_live)
              ∙ nexts_other s0 s1 r _ e.first u (Some x) (elsewhere o' n x h (Some r) here)

          prevs : (p : Option ℕ) → live_on s0 o' p ≡ 1 → prev_of s3 (ends_at es o').last p ≡ prev_of s0 (ends_at es o').last p
          prevs None h = refl
          prevs (Some x) h = pv.others (Some x) (elsewhere o' n x h after after_live) ∙ nx.prevs e.last (Some x)
              ∙ prevs_other s0 s1 r _ e.last u (Some x) (elsewhere o' n x h (Some r) here)

          lives' : (p : Option ℕ) → live_on s3 o' p ≡ live_on s0 o' p
          lives' None = refl
          lives' (Some x) = elim (cases_eq x r) [
            | inl q ↦
                ap (λ z. points (owner_at s3 z) o') q ∙ ap (λ z. points (owner_of_place (place_of_entry z)) o') this_entry
                ∙ sym (ap (λ z. points (owner_at s0 z) o') q ∙ ap (λ z. points (owner_of_place (place_of_entry z)) o') was ∙ same_other o o' (λ z. n (sym z)))
            | inr d ↦ ap (λ z. points (owner_of_place (place_of_entry z)) o') (other_entry x d)
          ]

      ends_here : ends_at (set es o e3) o ≡ e3
      ends_here = get_or-set_same es o e3 no_ends within

      ends_other : (o' : ℕ) → o' ≢ o → ends_at (set es o e3) o' ≡ ends_at es o'
      ends_other o' n = get_or-set_other es o o' e3 no_ends n

      pub detached_lists : AreLists s3 (set es o record { first = f2; last = l3 })
      detached_lists =
          record {
            links = λ o'. elim (cases_eq o' o) [
              | inl q ↦ subst (λ (z : ℕ). AreLinks s3 z (ends_at (set es o e3) z)) (sym q) (subst (λ (z : Ends). AreLinks s3 o z) (sym ends_here) (links_from s3 o e3 _ linked))
              | inr n ↦ subst (λ (z : Ends). AreLinks s3 o' z) (sym (ends_other o' n)) (links_from s3 o' (ends_at es o') _ (other o' n))
            ];
            held = λ o' x h. elim (cases_eq x r) [
              | inl q ↦
                  let z : None ≡ Some o' = sym (ap (λ k. owner_of_place (place_of_entry k)) this_entry) ∙ ap (owner_at s3) (sym q) ∙ h in cc
              | inr d ↦ omega (arith, f.held o' x (sym (ap (λ k. owner_of_place (place_of_entry k)) (other_entry x d)) ∙ h), length-set es o e3)
            ];
          }

      absent : (xs : List ℕ) → times xs r ≡ 0 → (x : ℕ) → 1 ≤ times xs x → x ≢ r
      absent xs z x i = λ q. omega (arith, i, z, ap (times xs) q)

      -- the reference stands on no other owner
      not_on : (o' : ℕ) → o' ≢ o → times (refs_from s0 (ends_at es o').first) r ≡ 0
      not_on o' n = (f.links o').once r ∙ ap (λ z. points (owner_of_place (place_of_entry z)) o') was ∙ same_other o o' (λ z. n (sym z))

      pub detached_list : (o' : ℕ) → references_of (shown_lists s3 (set es o record { first = f2; last = l3 })) o' ≡ seen.without_reference (references_of (shown_lists s0 es) o') r
      detached_list o' = elim (cases_eq o' o) [
        | inl q ↦ subst (λ (z : ℕ). references_of (shown_lists s3 (set es o e3)) z ≡ seen.without_reference (references_of (shown_lists s0 es) z) r) (sym q) (
            list_at s3 (set es o e3) o ∙ ap (λ (z : Ends). list_from s3 z.first) ends_here ∙ ap (map (with_offset s3)) (refs_is s3 o e3 _ linked)
            ∙ offsets_kept s0 s3 (without (refs_from s0 e.first) r) (λ x i. other_entry x (absent _ (times-without_same (refs_from s0 e.first) r) x i))
            ∙ without-map s0 (refs_from s0 e.first) r ∙ ap (λ zs. seen.without_reference zs r) (ap (λ (z : Ends). list_from s0 z.first) (sym is) ∙ sym (list_at s0 es o)))
        | inr n ↦
            list_at s3 (set es o e3) o' ∙ ap (λ (z : Ends). list_from s3 z.first) (ends_other o' n) ∙ ap (map (with_offset s3)) (refs_is s3 o' (ends_at es o') _ (other o' n))
            ∙ offsets_kept s0 s3 (refs_from s0 (ends_at es o').first) (λ x i. other_entry x (absent _ (not_on o' n) x i))
            ∙ sym (without_none s0 (refs_from s0 (ends_at es o').first) r (not_on o' n)) ∙ ap (λ zs. seen.without_reference zs r) (sym (list_at s0 es o'))
      ]

      pub detached_changes : ChangesOne (shown_lists s0 es) (shown_lists s3 (set es o record { first = f2; last = l3 })) r (Some None)
      detached_changes = record { changed = this_entry; others = other_entry }
