-- Lemmas on what the slots of an arena show.
use Rattle.std.proofs.Common.{IsSome, ◌≡◌, ◌≢◌, ℕ, zero, suc, ◌<◌, ◌≤◌, List, [], length, get_or}
use Rattle.std.proofs.Common.{set, Option, Some, None, refl, sym, ap, subst, ◌∙◌, inl, inr, arith, true≢false}
use Rattle.std.proofs.lemmas.Bool.{cases_eq, cases_lt}
use Rattle.std.proofs.lemmas.List.{get_or_past, length-map, get_or-map}
use Rattle.std.specs.Option.{option_map, MatchOption}
use Rattle.std.specs.Option.{is_some}
use Rattle.std.proofs.lemmas.List.{map-set, set-get_or}
use Rattle.slab.specs.Slab.{Slab, get, ContainsKey, with_value, Updates}
use Rattle.slab.proofs.SlabLemmas.{ContainsKey-within, Updates-with_value}
use Rattle.ft_arena.specs.Links.{Slot}
use Rattle.ft_arena.specs.declared.arena.Arena.TheInside.{Inside}
use Rattle.ft_arena.specs.Ids.{times, points, first, after}
use Rattle.ft_arena.specs.Forest.{Forest, Entry, IsForest, Changes, PutsChild, TakesChild, count_some, leaf_of_entry, kids_of_entry, parent_of_entry, entry, IsPlace, leaf_value}
use Rattle.ft_arena.specs.Links.{walk, IsWalk, forest_of, entries_of, entry_of, leaves_of, live_of, next_of, prev_of, view_of, IsChain, next_of_slot, prev_of_slot}
use Rattle.ft_arena.proofs.IdLemmas.{length_from_once}
use Rattle.ft_arena.proofs.RingLemmas.{walk_is, IsWalk-first, IsWalk-after}

pub count_some_le : {X : Type 0} (o : Option X) → count_some o ≤ 1
count_some_le None = omega arith
count_some_le (Some x) = omega arith

pub count_is_some : {X : Type 0} (o : Option X) → IsSome o → count_some o ≡ 1
count_is_some None h = cc
count_is_some (Some x) h = refl

-- a place is live
pub place_is_live : {L B : Type 0} (s : Forest L B) (p : Option ℕ) → IsPlace s p → live_of s.nodes p ≡ 1
place_is_live s None h = refl
place_is_live s (Some a) h = count_is_some (leaf_value s a) h

pub forest_eq : {L B : Type 0} (a b : Forest L B) → a.leaves ≡ b.leaves → a.nodes ≡ b.nodes → a.spare ≡ b.spare → a ≡ b
forest_eq {L} {B} a b l n p =
    let f : List ℕ → Forest L B = λ x. record { leaves = x; nodes = a.nodes; spare = a.spare } in
    let g : List (Option (Entry L B)) → Forest L B = λ x. record { leaves = b.leaves; nodes = x; spare = a.spare } in
    let h : ℕ → Forest L B = λ x. record { leaves = b.leaves; nodes = b.nodes; spare = x } in
    ap f l ∙ ap g n ∙ ap h p

-- no law on the leaves and the nodes looks at how many are spare
abbrev pub with_spare : {L B : Type 0} → Forest L B → ℕ → Forest L B
with_spare s n = record { leaves = s.leaves; nodes = s.nodes; spare = n }

pub IsForest-spare : {L B : Type 0} (a : Forest L B) (n : ℕ) → IsForest a → IsForest (with_spare a n)
IsForest-spare a n f = record { leaf_once = f.leaf_once; child_once = f.child_once; few = f.few }

pub Changes-spare : {L B : Type 0} (a b : Forest L B) (m n id : ℕ) (now : Option (Entry L B)) → Changes a b id now
    → Changes (with_spare a m) (with_spare b n) id now
Changes-spare a b m n id now h = record { changed = h.changed; others = h.others }

pub PutsChild-spare : {L B : Type 0} (a b : Forest L B) (m n block at child : ℕ) → PutsChild a b block at child
    → PutsChild (with_spare a m) (with_spare b n) block at child
PutsChild-spare a b m n block at child h =
    record { kids = h.kids; other_kids = h.other_kids; parent = h.parent; other_parents = h.other_parents; leaf_values = h.leaf_values; block_values = h.block_values }

pub TakesChild-spare : {L B : Type 0} (a b : Forest L B) (m n block at child : ℕ) → TakesChild a b block at child
    → TakesChild (with_spare a m) (with_spare b n) block at child
TakesChild-spare a b m n block at child h =
    record { kids = h.kids; other_kids = h.other_kids; parent = h.parent; other_parents = h.other_parents; leaf_values = h.leaf_values; block_values = h.block_values }

-- a fact of the value, read at the fields
pub at_view : {L B : Type 0} (P : Forest L B → ℕ → Type 0) (a : Inside L B) (v : Forest L B) (id k : ℕ) → view_of a ≡ v → id ≡ k → P v k → P (view_of a) id
at_view {L} {B} P a v id k e q h = subst (λ (s : Forest L B). P s id) (sym e) (subst (λ (i : ℕ). P v i) (sym q) h)

pub walk_none : (next : Option ℕ → Option ℕ) (n : ℕ) → walk n next None ≡ []
walk_none next zero = refl
walk_none next (suc n) = refl

pub IsForest-same : {L B : Type 0} (a b : Forest L B) → b.leaves ≡ a.leaves → b.nodes ≡ a.nodes → IsForest a → IsForest b
IsForest-same {L} {B} a b l n f =
    record {
      leaf_once = λ id. ap (λ xs. times xs id) l ∙ f.leaf_once id ∙ ap (λ (ns : List (Option (Entry L B))). count_some (leaf_of_entry (get_or ns id None))) (sym n);
      child_once = λ block id. rw n (f.child_once block id);
      few = λ block. rw n (f.few block);
    }

-- the children and parents are those of before
pub IsForest-other : {L B : Type 0} (a b : Forest L B) → ((id : ℕ) → times b.leaves id ≡ count_some (leaf_of_entry (entry b id)))
    → ((id : ℕ) → kids_of_entry (entry b id) ≡ kids_of_entry (entry a id))
    → ((id : ℕ) → parent_of_entry (entry b id) ≡ parent_of_entry (entry a id)) → IsForest a
    → IsForest b
IsForest-other a b once kids parents f =
    record {
      leaf_once = once;
      child_once = λ block id. ap (λ ks. times ks id) (kids block) ∙ f.child_once block id ∙ ap (λ o. points o block) (sym (parents id));
      few = λ block. subst (λ (ks : List ℕ). length ks ≤ 8) (sym (kids block)) (f.few block);
    }

module _ {L B : Type 0} where
  -- what stands at a number, read through the slab
  pub entries_at : (s : Slab (Slot L B)) (id : ℕ) → get_or (entries_of s) id None ≡ option_map entry_of (get s id)
  entries_at s id = elim (cases_lt id (length s.slots)) [
    | inl l ↦ get_or-map (option_map entry_of) s.slots id None None l
    | inr g ↦ get_or_past (entries_of s) id None (omega (arith, length-map s.slots (option_map entry_of))) ∙ ap (option_map entry_of) (sym (get_or_past s.slots id None g))
  ]

  -- a live node is among the slots
  pub live_within : (s : Slab (Slot L B)) (id : ℕ) → IsSome (get_or (entries_of s) id None) → id < length s.slots
  live_within s id h = elim (cases_lt id (length s.slots)) [
    | inl l ↦ l
    | inr g ↦ absurd (true≢false (sym h ∙ ap is_some (get_or_past (entries_of s) id None (omega (arith, g, length-map s.slots (option_map entry_of))))))
  ]

  -- a live leaf has a slot
  pub leaf_has_slot : (s : Slab (Slot L B)) (id : ℕ) → live_of (entries_of s) (Some id) ≡ 1 → ContainsKey s id
  leaf_has_slot s id h = filled (get s id) (ap (λ o. count_some (leaf_of_entry o)) (sym (entries_at s id)) ∙ h)
    where
      filled : (o : Option (Slot L B)) → count_some (leaf_of_entry (option_map entry_of o)) ≡ 1 → IsSome o
      filled None h = absurd (omega arith)
      filled (Some slot) h = refl

  -- a list that the links lead along, with each leaf once, is the list of leaves
  pub leaves_is : (s : Slab (Slot L B)) (head : Option ℕ) (xs : List ℕ) → IsWalk (next_of s head) head xs
      → ((id : ℕ) → times xs id ≡ count_some (leaf_of_entry (get_or (entries_of s) id None))) → leaves_of s head ≡ xs
  leaves_is s head xs w once =
      walk_is (next_of s head) (length s.slots) head xs w
      (length_from_once xs (length s.slots) (λ x. omega (arith, once x, count_some_le (leaf_of_entry (get_or (entries_of s) x None)))) (λ x far. once x
      ∙ ap (λ o. count_some (leaf_of_entry o)) (get_or_past (entries_of s) x None (omega (arith, length-map s.slots (option_map entry_of))))))

  -- there are at most as many leaves as slots
  pub leaves_fit : (s : Slab (Slot L B)) (h t : Option ℕ) → IsChain record { slots = s; head = h; tail = t } → length (leaves_of s h) ≤ length s.slots
  leaves_fit s h t f = length_from_once (leaves_of s h) (length s.slots)
      (λ x. omega (arith, f.1.leaf_once x, count_some_le (leaf_of_entry (get_or (entries_of s) x None)))) (λ x far. f.1.leaf_once x
      ∙ ap (λ o. count_some (leaf_of_entry o)) (get_or_past (entries_of s) x None (omega (arith, length-map s.slots (option_map entry_of)))))

  pub empty_sound : (s : Slab (Slot L B)) → s.slots ≡ [] → IsChain record { slots = s; head = None; tail = None }
  empty_sound s e =
      let gone : (id : ℕ) → get_or (entries_of s) id None ≡ None = (λ id. rw e refl) in
      let none : leaves_of s None ≡ [] = walk_none (next_of s None) (length s.slots) in
      let still : (p : Option ℕ) → live_of (entries_of s) p ≡ 1 → None ≡ p = only s gone in (
        record {
          walks = rw none refl;
          ring = record {
            next_live = λ p h. subst (λ (q : Option ℕ). live_of (entries_of s) (next_of s None q) ≡ 1) (still p h) refl;
            prev_live = λ p h. subst (λ (q : Option ℕ). live_of (entries_of s) (prev_of s None q) ≡ 1) (still p h) refl;
            back = λ p h. subst (λ (q : Option ℕ). prev_of s None (next_of s None q) ≡ q) (still p h) refl;
            forth = λ p h. subst (λ (q : Option ℕ). next_of s None (prev_of s None q) ≡ q) (still p h) refl;
          };
        },
        record {
          leaf_once = λ id. rw (none, gone id) refl;
          child_once = λ block id. rw (gone block, gone id) refl;
          few = λ block. rw (gone block) (omega arith);
        },
      )
    where
      only : (s : Slab (Slot L B)) → ((id : ℕ) → get_or (entries_of s) id None ≡ None) → (p : Option ℕ) → live_of (entries_of s) p ≡ 1 → None ≡ p
      only s gone None h = refl
      only s gone (Some id) h = absurd (omega (arith, ap (λ o. count_some (leaf_of_entry o)) (gone id)))

  -- the same slots under another capacity
  pub sound_same : (s s' : Slab (Slot L B)) (head tail : Option ℕ) → s'.slots ≡ s.slots → IsChain record { slots = s; head = head; tail = tail }
      → IsChain record { slots = s'; head = head; tail = tail }
  sound_same s s' head tail e h = (
    record { walks = rw e h.0.walks; ring = rw e h.0.ring },
    record {
      leaf_once = λ id. rw e (h.1.leaf_once id);
      child_once = λ b id. rw e (h.1.child_once b id);
      few =
          λ b. rw e (h.1.few b);
    },
  )

  pub shown_same : (s s' : Slab (Slot L B)) (head tail : Option ℕ) (spare : ℕ) → s'.slots ≡ s.slots
      → forest_of record { slots = s'; head = head; tail = tail } spare ≡ forest_of record { slots = s; head = head; tail = tail } spare
  shown_same s s' head tail spare e =
      ap (λ (zs : List (Option (Slot L B))). forest_of record { slots = record { slots = zs; vacant_key = 0; capacity = 0 }; head = head; tail = tail } spare) e

  -- a write of one slot that keeps its node and parent
  pub entries_kept : (s : Slab (Slot L B)) (id : ℕ) (old new : Slot L B) → get s id ≡ Some old → entry_of new ≡ entry_of old
      → entries_of (with_value s id new) ≡ entries_of s
  entries_kept s id old new found same =
      let l : id < length s.slots = ContainsKey-within s id (rw found refl) in
      let here : get_or (entries_of s) id None ≡ Some (entry_of new) = entries_at s id ∙ ap (option_map entry_of) found ∙ ap Some (sym same) in
      map-set (option_map entry_of) s.slots id (Some new) ∙ subst (λ (e : Option (Entry L B)). set (entries_of s) id e ≡ entries_of s) here (set-get_or (entries_of s) id None)

  -- the one place has this next, and nothing else changes
  pub record SetsNext (old : Slab (Slot L B)) (old_head : Option ℕ) (new : Slab (Slot L B)) (new_head at to : Option ℕ) : Type 0 where
    pub changed : next_of new new_head at ≡ to
    pub others : (p : Option ℕ) → p ≢ at → next_of new new_head p ≡ next_of old old_head p
    pub prevs : (tail p : Option ℕ) → prev_of new tail p ≡ prev_of old tail p
    pub entries : entries_of new ≡ entries_of old

  -- the one place has this prev, and nothing else changes
  pub record SetsPrev (old : Slab (Slot L B)) (old_tail : Option ℕ) (new : Slab (Slot L B)) (new_tail at to : Option ℕ) : Type 0 where
    pub changed : prev_of new new_tail at ≡ to
    pub others : (p : Option ℕ) → p ≢ at → prev_of new new_tail p ≡ prev_of old old_tail p
    pub nexts : (head p : Option ℕ) → next_of new head p ≡ next_of old head p
    pub entries : entries_of new ≡ entries_of old

  pub sets_next : (s : Slab (Slot L B)) (head to : Option ℕ) (id : ℕ) (slot : Slot L B) → get s id ≡ Some slot
      → SetsNext s head (with_value s id record { node = slot.node; parent = slot.parent; prev = slot.prev; next = to }) head (Some id) to
  sets_next s head to id slot found =
      let new : Slot L B = record { node = slot.node; parent = slot.parent; prev = slot.prev; next = to } in
      let u : Updates s (with_value s id new) id (Some new) = Updates-with_value s id new (rw found refl) in
      record {
        changed = ap next_of_slot u.changed;
        others = elim [ None ↦ λ d. refl | Some x ↦ λ d. ap next_of_slot (u.others x (λ e. d (ap Some e))) ];
        prevs = λ tail. elim [
          | None ↦ refl
          | Some x ↦ elim (cases_eq x id) [
            | inl e ↦ subst (λ (z : ℕ). prev_of_slot (get (with_value s id new) z) ≡ prev_of_slot (get s z)) (sym e) (ap prev_of_slot u.changed ∙ sym (ap prev_of_slot found))
            | inr d ↦ ap prev_of_slot (u.others x d)
          ]
        ];
        entries = entries_kept s id slot new found refl;
      }

  pub sets_prev : (s : Slab (Slot L B)) (tail to : Option ℕ) (id : ℕ) (slot : Slot L B) → get s id ≡ Some slot
      → SetsPrev s tail (with_value s id record { node = slot.node; parent = slot.parent; prev = to; next = slot.next }) tail (Some id) to
  sets_prev s tail to id slot found =
      let new : Slot L B = record { node = slot.node; parent = slot.parent; prev = to; next = slot.next } in
      let u : Updates s (with_value s id new) id (Some new) = Updates-with_value s id new (rw found refl) in
      record {
        changed = ap prev_of_slot u.changed;
        others = elim [ None ↦ λ d. refl | Some x ↦ λ d. ap prev_of_slot (u.others x (λ e. d (ap Some e))) ];
        nexts = λ head. elim [
          | None ↦ refl
          | Some x ↦ elim (cases_eq x id) [
            | inl e ↦ subst (λ (z : ℕ). next_of_slot (get (with_value s id new) z) ≡ next_of_slot (get s z)) (sym e) (ap next_of_slot u.changed ∙ sym (ap next_of_slot found))
            | inr d ↦ ap next_of_slot (u.others x d)
          ]
        ];
        entries = entries_kept s id slot new found refl;
      }

  -- what the link back says in terms of the list
  pub before_is : (s : Slab (Slot L B)) (h t : Option ℕ) (id : ℕ) → IsChain record { slots = s; head = h; tail = t } → live_of (entries_of s) (Some id) ≡ 1
      → MatchOption (prev_of s t (Some id)) (first (leaves_of s h) ≡ Some id) (λ p. after (leaves_of s h) p ≡ Some id)
  before_is s h t id f live = by_place (prev_of s t (Some id)) (f.0.ring.forth (Some id) live) (f.0.ring.prev_live (Some id) live)
    where
      by_place : (q : Option ℕ) → next_of s h q ≡ Some id → live_of (entries_of s) q ≡ 1
          → MatchOption q (first (leaves_of s h) ≡ Some id) (λ p. after (leaves_of s h) p
          ≡ Some id)
      by_place None e v = sym (IsWalk-first (next_of s h) h (leaves_of s h) f.0.walks) ∙ e
      by_place (Some p) e v = sym (IsWalk-after (next_of s h) h (leaves_of s h) p f.0.walks (omega (arith, f.1.leaf_once p, v))) ∙ e
