-- Lemmas on what the slots of `Refs` show of each owner's list.
use Rattle.std.proofs.Common.{◌≡◌, ◌≢◌, ℕ, ◌<◌, ◌≤◌, List, [], ◌∷◌, map, length, get_or, set, Option, Some, None, IsSome, refl, sym, ap, subst, ◌∙◌, inl, inr, arith, Result, Ok, Err, IfOk, OnErr}
use Rattle.std.proofs.lemmas.Bool.{cases_eq, cases_lt}
use Rattle.std.proofs.lemmas.List.{get_or_past, get_or_default, length-map, get_or-map, map-set, set-get_or}
use Rattle.std.specs.Option.{option_map, option_and_then}
use Rattle.slab.specs.Slab.{Slab, get, with_value, Updates}
use Rattle.slab.proofs.SlabLemmas.{ContainsKey-within, Updates-with_value}
use Rattle.ft_arena.specs.Ids.{same, times, points, first, after, without}
use Rattle.ft_arena.specs.Links.{IsWalk}
use Rattle.ft_arena.proofs.IdLemmas.{length_from_once, same_refl, same_other}
use Rattle.ft_arena.proofs.RingLemmas.{walk_is, IsWalk-first, IsWalk-after, IsWalk-other}
use Rattle.ft_arena.proofs.KidLemmas.{points_le}
use Rattle.ft_arena.proofs.ArenaLemmas.{walk_none}
use Rattle.ft_arena.proofs.HookLemmas.{IsLinked}
use Rattle.ft_refs.specs.declared.numbers.Place.{Place}
use Rattle.ft_refs.specs.declared.numbers.Slot.{Slot}
use Rattle.ft_refs.specs.declared.numbers.Ends.{Ends}
use Rattle.ft_refs.specs.RefLists.{RefLists, entry, references_of, ids, ids_of, place_of_entry, owner_of_place, owner_of, AreOn, IsRefs}
use Rattle.ft_refs.specs.RefLists as seen
use Rattle.std.proofs.lemmas.Grind.{common_steps}
use Rattle.ft_refs.specs.Links.{next_of_slot, prev_of_slot, next_slot, prev_of, place_of_slot, entries_of, owner_at, offset_or, with_offset, refs_from, list_from, live_on, no_ends, ends_at, AreLinks, AreLists, shown_lists, MakesRoom, SetsNext, SetsPrev, HasPlace}

-- what stands at a number, read through the slab
pub entries_at : (s : Slab Slot) (r : ℕ) → get_or (entries_of s) r None ≡ option_map place_of_slot (get s r)
entries_at s r = elim (cases_lt r (length s.slots)) [
  | inl l ↦ get_or-map (option_map place_of_slot) s.slots r None None l
  | inr g ↦ get_or_past (entries_of s) r None (omega (arith, length-map s.slots (option_map place_of_slot))) ∙ ap (option_map place_of_slot) (sym (get_or_past s.slots r None g))
]

-- a write of one slot that keeps its place
pub entries_kept : (s : Slab Slot) (r : ℕ) (old new : Slot) → get s r ≡ Some old → place_of_slot new ≡ place_of_slot old
    → entries_of (with_value s r new) ≡ entries_of s
entries_kept s r old new found same =
    let l : r < length s.slots = ContainsKey-within s r (rw found refl) in
    let here : get_or (entries_of s) r None ≡ Some (place_of_slot new) = entries_at s r ∙ ap (option_map place_of_slot) found ∙ ap Some (sym same) in
    map-set (option_map place_of_slot) s.slots r (Some new) ∙ subst (λ (e : Option (Option Place)). set (entries_of s) r e ≡ entries_of s) here (set-get_or (entries_of s) r None)

pub sets_next : (s : Slab Slot) (first to : Option ℕ) (r : ℕ) (slot : Slot) → get s r ≡ Some slot
    → SetsNext s first (with_value s r record { place = slot.place; prev = slot.prev; next = to }) first (Some r) to
sets_next s first to r slot found =
    let new : Slot = record { place = slot.place; prev = slot.prev; next = to } in
    let u : Updates s (with_value s r new) r (Some new) = Updates-with_value s r new (rw found refl) in
    record {
      changed = ap next_of_slot u.changed;
      others = elim [ None ↦ λ d. refl | Some x ↦ λ d. ap next_of_slot (u.others x (λ e. d (ap Some e))) ];
      prevs = λ last. elim [
        | None ↦ refl
        | Some x ↦ elim (cases_eq x r) [
          | inl e ↦ subst (λ (z : ℕ). prev_of_slot (get (with_value s r new) z) ≡ prev_of_slot (get s z)) (sym e) (ap prev_of_slot u.changed ∙ sym (ap prev_of_slot found))
          | inr d ↦ ap prev_of_slot (u.others x d)
        ]
      ];
      entries = entries_kept s r slot new found refl;
    }

pub sets_prev : (s : Slab Slot) (last to : Option ℕ) (r : ℕ) (slot : Slot) → get s r ≡ Some slot
    → SetsPrev s last (with_value s r record { place = slot.place; prev = to; next = slot.next }) last (Some r) to
sets_prev s last to r slot found =
    let new : Slot = record { place = slot.place; prev = to; next = slot.next } in
    let u : Updates s (with_value s r new) r (Some new) = Updates-with_value s r new (rw found refl) in
    record {
      changed = ap prev_of_slot u.changed;
      others = elim [ None ↦ λ d. refl | Some x ↦ λ d. ap prev_of_slot (u.others x (λ e. d (ap Some e))) ];
      nexts = λ first. elim [
        | None ↦ refl
        | Some x ↦ elim (cases_eq x r) [
          | inl e ↦ subst (λ (z : ℕ). next_of_slot (get (with_value s r new) z) ≡ next_of_slot (get s z)) (sym e) (ap next_of_slot u.changed ∙ sym (ap next_of_slot found))
          | inr d ↦ ap next_of_slot (u.others x d)
        ]
      ];
      entries = entries_kept s r slot new found refl;
    }

pub live_bound : (s : Slab Slot) (o : ℕ) (p : Option ℕ) → live_on s o p ≤ 1
live_bound s o None = omega arith
live_bound s o (Some x) = points_le (owner_at s x) o

-- a reference of an owner has that owner
pub points_some : (q : Option ℕ) (o : ℕ) → points q o ≡ 1 → q ≡ Some o
points_some None o h = absurd (omega arith)
points_some (Some y) o h = elim (cases_eq y o) [ inl e ↦ ap Some e | inr d ↦ absurd (omega (arith, same_other y o d)) ]

pub linked_from : (s : Slab Slot) (o : ℕ) (e : Ends) → AreLinks s o e → IsLinked (live_on s o) (next_slot s e.first) (prev_of s e.last) (refs_from s e.first)
linked_from s o e f = record { none = refl; bound = live_bound s o; walks = f.walks; ring = f.ring; once = f.once }

-- the list that the links lead along is the list of the owner
pub refs_is : (s : Slab Slot) (o : ℕ) (e : Ends) (xs : List ℕ) → IsLinked (live_on s o) (next_slot s e.first) (prev_of s e.last) xs → refs_from s e.first ≡ xs
refs_is s o e xs g =
    walk_is (next_slot s e.first) (length s.slots) e.first xs g.walks (length_from_once xs (length s.slots) (λ x. omega (arith, g.once x, live_bound s o (Some x))) (λ x far. g.once x ∙ ap (λ q. points (owner_of_place (place_of_entry q)) o) (get_or_past (entries_of s) x None (omega (arith, length-map s.slots (option_map place_of_slot))))))

pub links_from : (s : Slab Slot) (o : ℕ) (e : Ends) (xs : List ℕ) → IsLinked (live_on s o) (next_slot s e.first) (prev_of s e.last) xs → AreLinks s o e
links_from s o e xs g =
    let q : xs ≡ refs_from s e.first = sym (refs_is s o e xs g) in
    record {
      walks = subst (λ (zs : List ℕ). IsWalk (next_slot s e.first) e.first zs) q g.walks;
      ring = g.ring;
      once = λ r. subst (λ (zs : List ℕ). times zs r ≡ live_on s o (Some r)) q (g.once r);
    }

-- the same links among the same references
pub links_kept : (s s' : Slab Slot) (o : ℕ) (e : Ends) → ((p : Option ℕ) → live_on s o p ≡ 1 → next_slot s' e.first p ≡ next_slot s e.first p) → ((p : Option ℕ) → live_on s o p ≡ 1 → prev_of s' e.last p ≡ prev_of s e.last p) → ((p : Option ℕ) → live_on s' o p ≡ live_on s o p) → AreLinks s o e → IsLinked (live_on s' o) (next_slot s' e.first) (prev_of s' e.last) (refs_from s e.first)
links_kept s s' o e n p l f =
    let one : (x : ℕ) → 1 ≤ times (refs_from s e.first) x → live_on s o (Some x) ≡ 1 = λ x i. omega (arith, i, f.once x, live_bound s o (Some x)) in
    let r = f.ring in
    record {
      none = refl;
      bound = live_bound s' o;
      walks = IsWalk-other (next_slot s e.first) (next_slot s' e.first) e.first (refs_from s e.first) (λ x i. n (Some x) (one x i)) f.walks;
      ring = record {
        next_live = λ q v. ap (live_on s' o) (n q (sym (l q) ∙ v)) ∙ l (next_slot s e.first q) ∙ r.next_live q (sym (l q) ∙ v);
        prev_live = λ q v. ap (live_on s' o) (p q (sym (l q) ∙ v)) ∙ l (prev_of s e.last q) ∙ r.prev_live q (sym (l q) ∙ v);
        back = λ q v. ap (prev_of s' e.last) (n q (sym (l q) ∙ v)) ∙ p (next_slot s e.first q) (r.next_live q (sym (l q) ∙ v)) ∙ r.back q (sym (l q) ∙ v);
        forth = λ q v. ap (next_slot s' e.first) (p q (sym (l q) ∙ v)) ∙ n (prev_of s e.last q) (r.prev_live q (sym (l q) ∙ v)) ∙ r.forth q (sym (l q) ∙ v);
      };
      once = λ id. f.once id ∙ sym (l (Some id));
    }

-- the list that a contract sees
pub list_at : (s : Slab Slot) (es : List Ends) (o : ℕ) → references_of (shown_lists s es) o ≡ list_from s (ends_at es o).first
list_at s es o = elim (cases_lt o (length es)) [
  | inl l ↦ get_or-map (λ (e : Ends). list_from s e.first) es o no_ends [] l
  | inr g ↦
      get_or_past (shown_lists s es).lists o [] (omega (arith, length-map es (λ (e : Ends). list_from s e.first)))
      ∙ sym (ap (map (with_offset s)) (ap (λ (e : Ends). refs_from s e.first) (get_or_past es o no_ends g) ∙ walk_none (next_slot s None) (length s.slots)))
]

pub ids_with : (s : Slab Slot) (xs : List ℕ) → ids (map (with_offset s) xs) ≡ xs
ids_with s [] = refl
ids_with s (x ∷ xs) = ap (λ t. x ∷ t) (ids_with s xs)

pub ids_at : (s : Slab Slot) (es : List Ends) (o : ℕ) → ids_of (shown_lists s es) o ≡ refs_from s (ends_at es o).first
ids_at s es o = ap ids (list_at s es o) ∙ ids_with s (refs_from s (ends_at es o).first)

-- what contracts see of linked lists
pub seen_sound : (s : Slab Slot) (es : List Ends) → AreLists s es → IsRefs (shown_lists s es)
seen_sound s es f =
    record {
      once = λ o r. ap (λ xs. times xs r) (ids_at s es o) ∙ (f.links o).once r;
      on = λ o. subst (λ (xs : List (ℕ × ℕ)). AreOn (shown_lists s es) o xs) (sym (list_at s es o)) (all_on o (refs_from s (ends_at es o).first) (λ r i. points_some (owner_at s r) o (omega (arith, i, (f.links o).once r, points_le (owner_at s r) o))));
      held = λ o r h. omega (arith, f.held o r h, length-map es (λ (e : Ends). list_from s e.first));
    }
  where
    stands : (q : Option (Option Place)) (o : ℕ) → owner_of_place (place_of_entry q) ≡ Some o
        → q ≡ Some (Some record { owner = o; offset = offset_or (place_of_entry q) })
    stands None o h = cc
    stands (Some None) o h = cc
    stands (Some (Some p)) o h = let e : p.owner ≡ o = cc in ap (λ z. Some (Some record { owner = z; offset = p.offset })) e

    all_on : (o : ℕ) (xs : List ℕ) → ((r : ℕ) → 1 ≤ times xs r → owner_at s r ≡ Some o) → AreOn (shown_lists s es) o (map (with_offset s) xs)
    all_on o [] h = tt
    all_on o (x ∷ xs) h = (stands (get_or (entries_of s) x None) o (h x (omega (arith, same_refl x))), all_on o xs (λ r i. h r (omega arith)))

-- the same lists under another capacity
pub lists_same : (s s' : Slab Slot) (es : List Ends) → s'.slots ≡ s.slots → AreLists s es → AreLists s' es
lists_same s s' es q f =
    record {
      links = λ o. let l = f.links o in record { walks = rw q l.walks; ring = rw q l.ring; once = λ r. rw q (l.once r) };
      held = λ o r h. f.held o r (rw (← q) h);
    }

pub shown_same : (s s' : Slab Slot) (es : List Ends) → s'.slots ≡ s.slots → shown_lists s' es ≡ shown_lists s es
shown_same s s' es q = rw q refl

-- the same lists with room for more
pub lists_longer : (s : Slab Slot) (es es' : List Ends) (owner : ℕ) → MakesRoom es es' owner → AreLists s es → AreLists s es'
lists_longer s es es' owner m f =
    record {
      links = λ o. subst (λ (e : Ends). AreLinks s o e) (sym (m.same o)) (f.links o);
      held = λ o r h. omega (arith, f.held o r h, m.longer);
    }

pub list_longer : (s : Slab Slot) (es es' : List Ends) (owner : ℕ) → MakesRoom es es' owner → (o : ℕ)
    → references_of (shown_lists s es') o ≡ references_of (shown_lists s es) o
list_longer s es es' owner m o = list_at s es' o ∙ ap (λ (e : Ends). list_from s e.first) (m.same o) ∙ sym (list_at s es o)

-- the references of a list keep their offsets
pub offsets_kept : (s s' : Slab Slot) (xs : List ℕ) → ((x : ℕ) → 1 ≤ times xs x → get_or (entries_of s') x None ≡ get_or (entries_of s) x None) → map (with_offset s') xs ≡ map (with_offset s) xs
offsets_kept s s' [] h = refl
offsets_kept s s' (x ∷ xs) h =
    let here : with_offset s' x ≡ with_offset s x = ap (λ q. (x, offset_or (place_of_entry q))) (h x (omega (arith, same_refl x))) in
    let rest : map (with_offset s') xs ≡ map (with_offset s) xs = offsets_kept s s' xs (λ y i. h y (omega arith)) in
    cc

-- a reference of an owner has a slot
pub live_has_slot : (s : Slab Slot) (o : ℕ) (p : Option ℕ) → live_on s o p ≡ 1 → HasPlace s p
live_has_slot s o None h = tt
live_has_slot s o (Some x) h = filled (get s x) (ap (λ q. points (owner_of_place (place_of_entry q)) o) (sym (entries_at s x)) ∙ h)
  where
    filled : (q : Option Slot) → points (owner_of_place (place_of_entry (option_map place_of_slot q))) o ≡ 1 → IsSome q
    filled None h = absurd (omega arith)
    filled (Some slot) h = refl

-- what a change of one slot leaves of the others
pub entries_other : (s s' : Slab Slot) (r : ℕ) (q : Option Slot) → Updates s s' r q → (x : ℕ) → x ≢ r
    → get_or (entries_of s') x None ≡ get_or (entries_of s) x None
entries_other s s' r q u x d = entries_at s' x ∙ ap (option_map place_of_slot) (u.others x d) ∙ sym (entries_at s x)

pub entries_here : (s s' : Slab Slot) (r : ℕ) (q : Option Slot) → Updates s s' r q → get_or (entries_of s') r None ≡ option_map place_of_slot q
entries_here s s' r q u = entries_at s' r ∙ ap (option_map place_of_slot) u.changed

pub nexts_other : (s s' : Slab Slot) (r : ℕ) (q : Option Slot) (e : Option ℕ) → Updates s s' r q → (p : Option ℕ) → p ≢ Some r
    → next_slot s' e p ≡ next_slot s e p
nexts_other s s' r q e u None d = refl
nexts_other s s' r q e u (Some x) d = ap next_of_slot (u.others x (λ z. d (ap Some z)))

pub prevs_other : (s s' : Slab Slot) (r : ℕ) (q : Option Slot) (e : Option ℕ) → Updates s s' r q → (p : Option ℕ) → p ≢ Some r → prev_of s' e p ≡ prev_of s e p
prevs_other s s' r q e u None d = refl
prevs_other s s' r q e u (Some x) d = ap prev_of_slot (u.others x (λ z. d (ap Some z)))

pub lives_same : (s s' : Slab Slot) (o : ℕ) → ((x : ℕ) → points (owner_at s' x) o ≡ points (owner_at s x) o) → (p : Option ℕ) → live_on s' o p ≡ live_on s o p
lives_same s s' o h None = refl
lives_same s s' o h (Some x) = h x

-- a reference that is on no owner is made, changed or taken away
module _ (s s' : Slab Slot) (es : List Ends) (r : ℕ) (q : Option Slot) (f : AreLists s es) (idle : owner_at s r ≡ None)
    (u : Updates s s' r q) (idle' : owner_of_place (place_of_entry (option_map place_of_slot q)) ≡ None) where
  owners : (x : ℕ) → owner_at s' x ≡ owner_at s x
  owners x = elim (cases_eq x r) [
    | inl e ↦ ap (owner_at s') e ∙ ap (λ z. owner_of_place (place_of_entry z)) (entries_here s s' r q u) ∙ idle' ∙ sym idle ∙ ap (owner_at s) (sym e)
    | inr d ↦ ap (λ z. owner_of_place (place_of_entry z)) (entries_other s s' r q u x d)
  ]

  apart : (o : ℕ) (p : Option ℕ) → live_on s o p ≡ 1 → p ≢ Some r
  apart o p h = λ e. omega (arith, ap (live_on s o) e, h, ap (λ z. points z o) idle)

  linked : (o : ℕ) → IsLinked (live_on s' o) (next_slot s' (ends_at es o).first) (prev_of s' (ends_at es o).last) (refs_from s (ends_at es o).first)
  linked o =
      links_kept s s' o (ends_at es o) (λ p h. nexts_other s s' r q (ends_at es o).first u p (apart o p h))
      (λ p h. prevs_other s s' r q (ends_at es o).last u p (apart o p h)) (lives_same s s' o (λ x. ap (λ z. points z o) (owners x)))
      (f.links o)

  pub idle_lists : AreLists s' es
  idle_lists = record { links = λ o. links_from s' o (ends_at es o) _ (linked o); held = λ o x h. f.held o x (sym (owners x) ∙ h) }

  pub idle_list : (o : ℕ) → references_of (shown_lists s' es) o ≡ references_of (shown_lists s es) o
  idle_list o =
      list_at s' es o ∙ ap (map (with_offset s')) (refs_is s' o (ends_at es o) _ (linked o))
      ∙ offsets_kept s s' (refs_from s (ends_at es o).first) (λ x i. entries_other s s' r q u x (λ e. apart o (Some x) (omega (arith, i, (f.links o).once x, live_bound s o (Some x))) (ap Some e)))
      ∙ sym (list_at s es o)

-- a reference is taken out of a list with offsets
pub without-map : (s : Slab Slot) (xs : List ℕ) (r : ℕ) → map (with_offset s) (without xs r) ≡ seen.without_reference (map (with_offset s) xs) r
without-map s [] r = refl
without-map s (x ∷ xs) r = elim (cases_eq x r) [
  | inl e ↦ grind (arith, common_steps, without-map s xs r)
  | inr d ↦ grind (arith, common_steps, without-map s xs r)
]

pub without_absent : (xs : List (ℕ × ℕ)) (r : ℕ) → times (ids xs) r ≡ 0 → seen.without_reference xs r ≡ xs
without_absent [] r h = refl
without_absent (x ∷ xs) r h = elim (cases_eq x.0 r) [
  | inl e ↦ absurd (omega (arith, same_refl x.0, ap (same x.0) e))
  | inr d ↦ grind (arith, common_steps, without_absent xs r)
]

pub without_none : (s : Slab Slot) (xs : List ℕ) (r : ℕ) → times xs r ≡ 0 → seen.without_reference (map (with_offset s) xs) r ≡ map (with_offset s) xs
without_none s xs r h = without_absent (map (with_offset s) xs) r (ap (λ zs. times zs r) (ids_with s xs) ∙ h)

-- a detached reference stands in no list
pub idle_without : (v : RefLists) (r : ℕ) → IsRefs v → seen.owner_of v r ≡ None → (o : ℕ) → references_of v o ≡ seen.without_reference (references_of v o) r
idle_without v r f h o = sym (without_absent (references_of v o) r (f.once o r ∙ ap (λ q. points q o) h))

-- the slot of an attached reference, and its owner
pub slot_at : (s : Slab Slot) (r : ℕ) (slot : Slot) (p : Place) → get s r ≡ Some slot → slot.place ≡ Some p
    → get s r ≡ Some record { place = Some record { owner = p.owner; offset = p.offset }; prev = slot.prev; next = slot.next }
slot_at s r slot p h q =
    let f : Option Place → Option Slot = λ z. Some record { place = z; prev = slot.prev; next = slot.next } in
    h ∙ ap f q

pub owner_in : (s : Slab Slot) (es : List Ends) (r : ℕ) (slot : Slot) (p : Place) → AreLists s es → get s r ≡ Some slot
    → slot.place ≡ Some p → p.owner < length es
owner_in s es r slot p f h q = f.held p.owner r (ap (λ z. owner_of_place (place_of_entry z)) (entries_at s r ∙ ap (option_map place_of_slot) h) ∙ ap owner_of_place q)

-- a fact of the value, read at the fields
pub at_view : (P : RefLists → ℕ → Type 0) (s : Slab Slot) (es : List Ends) (v : RefLists) (i k : ℕ) → shown_lists s es ≡ v → i ≡ k → P v k
    → P (shown_lists s es) i
at_view P s es v i k e q h = subst (λ (z : RefLists). P z i) (sym e) (subst (λ (j : ℕ). P v j) (sym q) h)

pub held_within : (s : Slab Slot) (es : List Ends) (v : RefLists) (i k : ℕ) → shown_lists s es ≡ v → i ≡ k → k < length v.lists → i < length es
held_within s es v i k e q h = omega (arith, at_view (λ z j. j < length z.lists) s es v i k e q h, length-map es (λ (z : Ends). list_from s z.first))

-- an element that is read stands there under any default
pub read_at : (es : List Ends) (o : ℕ) (e : Ends) → o < length es → e ≡ get_or es o e → ends_at es o ≡ e
read_at es o e l h = sym (h ∙ get_or_default es o e no_ends l)

-- what `first` and `next` answer
pub first_is : (s : Slab Slot) (es : List Ends) (o : ℕ) (e : Ends) → AreLists s es → ends_at es o ≡ e → e.first ≡ first (ids_of (shown_lists s es) o)
first_is s es o e f h = ap (λ (z : Ends). z.first) (sym h) ∙ IsWalk-first (next_slot s (ends_at es o).first) (ends_at es o).first
    (refs_from s (ends_at es o).first) (f.links o).walks ∙ ap first (sym (ids_at s es o))

pub next_is : (s : Slab Slot) (es : List Ends) (r : ℕ) (slot : Slot) (p : Place) → AreLists s es → get s r ≡ Some slot
    → slot.place ≡ Some p → slot.next ≡ seen.next_of (shown_lists s es) r
next_is s es r slot p f h q =
    let owner : owner_at s r ≡ Some p.owner = ap (λ z. owner_of_place (place_of_entry z)) (entries_at s r ∙ ap (option_map place_of_slot) h) ∙ ap owner_of_place q in
    let l = f.links p.owner in
    let once : times (refs_from s (ends_at es p.owner).first) r ≡ 1 = l.once r ∙ ap (λ z. points z p.owner) owner ∙ same_refl p.owner in
    sym (ap next_of_slot h) ∙ IsWalk-after (next_slot s (ends_at es p.owner).first) (ends_at es p.owner).first
    (refs_from s (ends_at es p.owner).first) r l.walks (omega (arith, once)) ∙ ap (λ xs. after xs r) (sym (ids_at s es p.owner))
    ∙ ap (option_and_then (λ o. after (ids_of (shown_lists s es) o) r)) (sym owner)

-- the lists after room was asked for
pub lists_after_room : {X E : Type 0} (s : Slab Slot) (es es' : List Ends) (owner : ℕ) (r : Result X E)
    → IfOk r (λ _. MakesRoom es es' owner) → OnErr r (es' ≡ es) → AreLists s es → AreLists s es'
lists_after_room s es es' owner (Ok x) m n f = lists_longer s es es' owner m f
lists_after_room s es es' owner (Err x) m n f = subst (λ (zs : List Ends). AreLists s zs) (sym n) f

pub holds_after_room : {X E : Type 0} (s : Slab Slot) (es es' : List Ends) (owner : ℕ) (r : Result X E)
    → IfOk r (λ _. MakesRoom es es' owner) → IfOk r (λ _. seen.Holds (shown_lists s es) (shown_lists s es') owner)
holds_after_room s es es' owner (Ok x) m =
    record {
      held = omega (arith, m.held, length-map es' (λ (e : Ends). list_from s e.first));
      still = λ o h. omega (arith, h, m.longer, length-map es (λ (e : Ends). list_from s e.first), length-map es' (λ (e : Ends). list_from s e.first));
      lists = list_longer s es es' owner m;
      refs = refl;
    }
holds_after_room s es es' owner (Err x) m = tt

-- the lists after a detached reference was made in slots with room
pub made_list : (s0 s1 s2 : Slab Slot) (es es' : List Ends) (owner r : ℕ) (q : Option Slot) → s1.slots ≡ s0.slots → AreLists s0 es
    → MakesRoom es es' owner → get s1 r ≡ None → Updates s1 s2 r q → owner_of_place (place_of_entry (option_map place_of_slot q)) ≡ None
    → (o : ℕ) → references_of (shown_lists s2 es') o ≡ references_of (shown_lists s0 es) o
made_list s0 s1 s2 es es' owner r q same f m vacant u none o =
    idle_list s1 s2 es' r q (lists_longer s1 es es' owner m (lists_same s0 s1 es same f))
    (ap (λ z. owner_of_place (place_of_entry z)) (entries_at s1 r ∙ ap (option_map place_of_slot) vacant)) u none o
    ∙ list_longer s1 es es' owner m o ∙ ap (λ (v : RefLists). references_of v o) (shown_same s0 s1 es same)
