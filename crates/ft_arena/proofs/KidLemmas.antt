-- What changes of blocks, of children and of values leave of the leaves and of the forest.
use Rattle.std.proofs.Common.{◌≡◌, ◌≢◌, ℕ, ◌+◌, ◌<◌, ◌≤◌, List, [], length, get_or, slice_get, Option, Some, None, refl, sym, ap, subst, ◌∙◌, inl, inr, arith}
use Rattle.std.proofs.lemmas.Bool.{cases_eq}
use Rattle.std.proofs.lemmas.List.Edits.{length-insert, length-remove}
use Rattle.std.proofs.lemmas.Option.{slice_get_within}
use Rattle.std.specs.Option.{option_map}
use Rattle.slab.specs.Slab.{Slab, get, Updates}
use Rattle.ft_arena.specs.Links.{Slot}
use Rattle.ft_arena.specs.Ids.{same, times, points}
use Rattle.ft_arena.specs.Forest.{Forest, Entry, IsForest, Changes, PutsChild, TakesChild, count_some, leaf_of_entry, kids_of_entry, parent_of_entry, entry, kids_of, parent_of}
use Rattle.ft_arena.specs.Links.{IsWalk, AreLinks, entries_of, entry_of, leaves_of, live_of, next_of, prev_of, nodes_of, IsChain, next_of_slot, prev_of_slot}
use Rattle.ft_arena.proofs.IdLemmas.{same_refl, same_other, times-insert, times-remove}
use Rattle.ft_arena.proofs.RingLemmas.{IsWalk-other}
use Rattle.ft_arena.proofs.ArenaLemmas.{entries_at, leaves_is, count_some_le, IsForest-other}

pub points_other : (x y : ℕ) (o : Option ℕ) → x ≢ y → points o x ≡ 1 → points o y ≡ 0
points_other x y None d h = refl
points_other x y (Some z) d h = elim (cases_eq z y) [
  | inl e ↦ absurd (omega (arith, same_other z x (λ q. d (sym q ∙ e))))
  | inr n ↦ same_other z y n
]

pub points_le : (o : Option ℕ) (x : ℕ) → points o x ≤ 1
points_le None x = omega arith
points_le (Some y) x = elim (cases_eq y x) [ inl e ↦ omega (arith, same_refl y, ap (same y) e) | inr d ↦ omega (arith, same_other y x d) ]

pub IsForest-puts : {L B : Type 0} (a b : Forest L B) (block at child : ℕ) → b.leaves ≡ a.leaves → PutsChild a b block at child → at ≤ length (kids_of a block)
    → length (kids_of a block) < 8 → parent_of a child ≡ None → IsForest a → IsForest b
IsForest-puts a b block at child l p within room alone f =
    record {
      leaf_once = λ id. ap (λ xs. times xs id) l ∙ f.leaf_once id ∙ sym (ap count_some (p.leaf_values id));
      child_once = λ k id. elim (cases_eq k block) [
        | inl e ↦
            let old : times (kids_of a block) id ≡ points (parent_of a id) block = f.child_once block id in
            let new : times (kids_of b k) id ≡ times (kids_of a block) id + same child id = ap (λ z. times (kids_of b z) id) e ∙ ap (λ ks. times ks id) p.kids
            ∙ times-insert (kids_of a block) at child id in
            elim (cases_eq id child) [
              | inl c ↦
                  let now : points (parent_of b id) k ≡ 1 = ap (λ z. points (parent_of b z) k) c ∙ ap (λ o. points o k) p.parent ∙ ap (λ z. same block z) e ∙ same_refl block in
                  let was : points (parent_of a id) block ≡ 0 = ap (λ z. points (parent_of a z) block) c ∙ ap (λ o. points o block) alone in
                  omega (arith, new, old, now, was, ap (same child) c, same_refl child)
              | inr d ↦ omega (arith, new, old, ap (λ o. points o k) (p.other_parents id d), ap (points (parent_of a id)) e, same_other child id (λ q. d (sym q)))
            ]
        | inr n ↦
            let old : times (kids_of b k) id ≡ points (parent_of a id) k = ap (λ ks. times ks id) (p.other_kids k n) ∙ f.child_once k id in
            elim (cases_eq id child) [
              | inl c ↦
                  let now : points (parent_of b id) k ≡ 0 = ap (λ z. points (parent_of b z) k) c ∙ ap (λ o. points o k) p.parent ∙ same_other block k (λ q. n (sym q)) in
                  let was : points (parent_of a id) k ≡ 0 = ap (λ z. points (parent_of a z) k) c ∙ ap (λ o. points o k) alone in
                  omega (arith, old, now, was)
              | inr d ↦ old ∙ sym (ap (λ o. points o k) (p.other_parents id d))
            ]
      ];
      few = λ k. elim (cases_eq k block) [
        | inl e ↦ omega (arith, ap (λ z. length (kids_of b z)) e, ap length p.kids, length-insert (kids_of a block) at child within)
        | inr n ↦ omega (arith, ap length (p.other_kids k n), f.few k)
      ];
    }

pub IsForest-takes : {L B : Type 0} (a b : Forest L B) (block at child : ℕ) → b.leaves ≡ a.leaves → TakesChild a b block at child
    → slice_get (kids_of a block) at ≡ Some child → IsForest a → IsForest b
IsForest-takes a b block at child l p found f =
    let gone : (id : ℕ) → times (kids_of b block) id + same child id ≡ times (kids_of a block) id =
    (λ id. ap (λ ks. times ks id + same child id) p.kids ∙ times-remove (kids_of a block) at child id found) in
    let was : points (parent_of a child) block ≡ 1 = omega (arith, gone child, same_refl child, f.child_once block child, points_le (parent_of a child) block) in
    record {
      leaf_once = λ id. ap (λ xs. times xs id) l ∙ f.leaf_once id ∙ sym (ap count_some (p.leaf_values id));
      child_once = λ k id. elim (cases_eq k block) [
        | inl e ↦
            let new : times (kids_of b k) id + same child id ≡ points (parent_of a id) block =
            ap (λ z. times (kids_of b z) id + same child id) e ∙ gone id ∙ f.child_once block id in
            elim (cases_eq id child) [
              | inl c ↦
                  let now : points (parent_of b id) k ≡ 0 = ap (λ z. points (parent_of b z) k) c ∙ ap (λ o. points o k) p.parent in
                  omega (arith, new, now, ap (λ z. points (parent_of a z) block) c, was, ap (same child) c, same_refl child)
              | inr d ↦ omega (arith, new, ap (λ o. points o k) (p.other_parents id d), ap (points (parent_of a id)) e, same_other child id (λ q. d (sym q)))
            ]
        | inr n ↦
            let old : times (kids_of b k) id ≡ points (parent_of a id) k = ap (λ ks. times ks id) (p.other_kids k n) ∙ f.child_once k id in
            elim (cases_eq id child) [
              | inl c ↦
                  let now : points (parent_of b id) k ≡ 0 = ap (λ z. points (parent_of b z) k) c ∙ ap (λ o. points o k) p.parent in
                  omega (arith, old, now, ap (λ z. points (parent_of a z) k) c, points_other block k (parent_of a child) (λ q. n (sym q)) was)
              | inr d ↦ old ∙ sym (ap (λ o. points o k) (p.other_parents id d))
            ]
      ];
      few = λ k. elim (cases_eq k block) [
        | inl e ↦ omega (arith, ap (λ z. length (kids_of b z)) e, ap length p.kids, length-remove (kids_of a block) at (slice_get_within _ _ _ found), f.few block)
        | inr n ↦ omega (arith, ap length (p.other_kids k n), f.few k)
      ];
    }

module _ {L B : Type 0} where
  -- 1 where the slot holds a leaf
  abbrev pub count_slot : Option (Slot L B) → ℕ
  count_slot o = count_some (leaf_of_entry (option_map entry_of o))

  -- the leaves lead to one another, each once
  pub record Linked (s : Slab (Slot L B)) (h t : Option ℕ) : Type 0 where
    pub links : AreLinks s h t
    pub once : (id : ℕ) → times (leaves_of s h) id ≡ live_of (entries_of s) (Some id)

  pub Linked-from : (s : Slab (Slot L B)) (h t : Option ℕ) → IsChain record { slots = s; head = h; tail = t } → Linked s h t
  Linked-from s h t f = record { links = f.0; once = f.1.leaf_once }

  -- the same links among the same leaves
  pub links_kept : (s s' : Slab (Slot L B)) (h t : Option ℕ) → ((p : Option ℕ) → live_of (entries_of s) p ≡ 1 → next_of s' h p ≡ next_of s h p)
      → ((p : Option ℕ) → live_of (entries_of s) p ≡ 1 → prev_of s' t p ≡ prev_of s t p)
      → ((p : Option ℕ) → live_of (entries_of s') p ≡ live_of (entries_of s) p)
      → Linked s h t → Linked s' h t × (leaves_of s' h ≡ leaves_of s h)
  links_kept s s' h t n p l f =
      let one : (x : ℕ) → 1 ≤ times (leaves_of s h) x → live_of (entries_of s) (Some x) ≡ 1 =
      λ x i. omega (arith, i, f.once x, count_some_le (leaf_of_entry (get_or (entries_of s) x None))) in
      let walks : IsWalk (next_of s' h) h (leaves_of s h) = IsWalk-other (next_of s h) (next_of s' h) h (leaves_of s h) (λ x i. n (Some x) (one x i)) f.links.walks in
      let e : leaves_of s' h ≡ leaves_of s h = leaves_is s' h (leaves_of s h) walks (λ id. f.once id ∙ sym (l (Some id))) in
      let r = f.links.ring in (
        record {
          links = record {
            walks = subst (λ (xs : List ℕ). IsWalk (next_of s' h) h xs) (sym e) walks;
            ring = record {
              next_live = λ q v. ap (live_of (entries_of s')) (n q (sym (l q) ∙ v)) ∙ l (next_of s h q) ∙ r.next_live q (sym (l q) ∙ v);
              prev_live = λ q v. ap (live_of (entries_of s')) (p q (sym (l q) ∙ v)) ∙ l (prev_of s t q) ∙ r.prev_live q (sym (l q) ∙ v);
              back = λ q v. ap (prev_of s' t) (n q (sym (l q) ∙ v)) ∙ p (next_of s h q) (r.next_live q (sym (l q) ∙ v)) ∙ r.back q (sym (l q) ∙ v);
              forth = λ q v. ap (next_of s' h) (p q (sym (l q) ∙ v)) ∙ n (prev_of s t q) (r.prev_live q (sym (l q) ∙ v)) ∙ r.forth q (sym (l q) ∙ v);
            };
          };
          once = λ id. ap (λ xs. times xs id) e ∙ f.once id ∙ sym (l (Some id));
        },
        e,
      )

  -- one slot changed, from these to those, with the same links
  pub links_at : (s s' : Slab (Slot L B)) (h t : Option ℕ) (id : ℕ) (old new : Option (Slot L B)) → get s id ≡ old → Updates s s' id new
      → next_of_slot new ≡ next_of_slot old → prev_of_slot new ≡ prev_of_slot old → count_slot new ≡ count_slot old → Linked s h t
      → Linked s' h t × (leaves_of s' h ≡ leaves_of s h)
  links_at s s' h t id old new was u n p l f = links_kept s s' h t (λ q _. nexts q) (λ q _. prevs q) lives f
    where
      nexts : (q : Option ℕ) → next_of s' h q ≡ next_of s h q
      nexts None = refl
      nexts (Some x) = elim (cases_eq x id) [
        | inl e ↦ ap (λ z. next_of_slot (get s' z)) e ∙ ap next_of_slot u.changed ∙ n ∙ sym (ap next_of_slot was) ∙ ap (λ z. next_of_slot (get s z)) (sym e)
        | inr d ↦ ap next_of_slot (u.others x d)
      ]

      prevs : (q : Option ℕ) → prev_of s' t q ≡ prev_of s t q
      prevs None = refl
      prevs (Some x) = elim (cases_eq x id) [
        | inl e ↦ ap (λ z. prev_of_slot (get s' z)) e ∙ ap prev_of_slot u.changed ∙ p ∙ sym (ap prev_of_slot was) ∙ ap (λ z. prev_of_slot (get s z)) (sym e)
        | inr d ↦ ap prev_of_slot (u.others x d)
      ]

      lives : (q : Option ℕ) → live_of (entries_of s') q ≡ live_of (entries_of s) q
      lives None = refl
      lives (Some x) = ap (λ o. count_some (leaf_of_entry o)) (entries_at s' x) ∙ elim (cases_eq x id) [
        | inl e ↦ ap (λ z. count_slot (get s' z)) e ∙ ap count_slot u.changed ∙ l ∙ sym (ap count_slot was) ∙ ap (λ z. count_slot (get s z)) (sym e)
        | inr d ↦ ap count_slot (u.others x d)
      ] ∙ sym (ap (λ o. count_some (leaf_of_entry o)) (entries_at s x))

  -- a change of one slot, seen as a change of one node
  pub Changes-at : (s s' : Slab (Slot L B)) (h t h' t' : Option ℕ) (id : ℕ) (new : Option (Slot L B)) → Updates s s' id new
      → Changes (nodes_of record { slots = s; head = h; tail = t }) (nodes_of record { slots = s'; head = h'; tail = t' }) id (option_map entry_of new)
  Changes-at s s' h t h' t' id new u =
      record {
        changed = entries_at s' id ∙ ap (option_map entry_of) u.changed;
        others = λ x d. entries_at s' x ∙ ap (option_map entry_of) (u.others x d) ∙ sym (entries_at s x);
      }

  -- what the change keeps at the one node, it keeps everywhere
  pub kept : {X : Type 0} (F : Option (Entry L B) → X) (a b : Forest L B) (id : ℕ) (e : Option (Entry L B)) → Changes a b id e → F e ≡ F (entry a id) → (x : ℕ)
      → F (entry b x) ≡ F (entry a x)
  kept F a b id e c same x = elim (cases_eq x id) [
    | inl q ↦ ap (λ z. F (entry b z)) q ∙ ap F c.changed ∙ same ∙ ap (λ z. F (entry a z)) (sym q)
    | inr d ↦ ap F (c.others x d)
  ]

  -- a change of one slot that keeps its links, children and parent
  pub sound_at : (s s' : Slab (Slot L B)) (h t : Option ℕ) (id : ℕ) (old new : Option (Slot L B)) → get s id ≡ old → Updates s s' id new
      → next_of_slot new ≡ next_of_slot old → prev_of_slot new ≡ prev_of_slot old → count_slot new ≡ count_slot old
      → kids_of_entry (option_map entry_of new) ≡ kids_of_entry (option_map entry_of old)
      → parent_of_entry (option_map entry_of new) ≡ parent_of_entry (option_map entry_of old) → IsChain record { slots = s; head = h; tail = t }
      → IsChain record { slots = s'; head = h; tail = t } × (leaves_of s' h ≡ leaves_of s h)
  sound_at s s' h t id old new was u n p l k q f =
      let r = links_at s s' h t id old new was u n p l (Linked-from s h t f) in
      let c = Changes-at s s' h t h t id new u in
      let a : Forest L B = nodes_of record { slots = s; head = h; tail = t } in
      let b : Forest L B = nodes_of record { slots = s'; head = h; tail = t } in
      let before : option_map entry_of old ≡ entry a id = ap (option_map entry_of) (sym was) ∙ sym (entries_at s id) in (
        (
          r.0.links,
          IsForest-other a b r.0.once (kept kids_of_entry a b id _ c (k ∙ ap kids_of_entry before))
              (kept parent_of_entry a b id _ c (q ∙ ap parent_of_entry before)) f.1,
        ),
        r.1,
      )

  -- a node that is no leaf, and has no children and parent, is gone
  pub sound_gone : (s s' : Slab (Slot L B)) (h t : Option ℕ) (id : ℕ) (old : Slot L B) → get s id ≡ Some old → Updates s s' id None → count_slot (Some old) ≡ 0
      → kids_of_entry (Some (entry_of old)) ≡ [] → old.parent ≡ None → IsChain record { slots = s; head = h; tail = t } → IsChain record {
        slots = s';
        head = h;
        tail =
            t;
      } × (leaves_of s' h ≡ leaves_of s h)
  sound_gone s s' h t id old was u dead k q f =
      let c = Changes-at s s' h t h t id None u in
      let a : Forest L B = nodes_of record { slots = s; head = h; tail = t } in
      let b : Forest L B = nodes_of record { slots = s'; head = h; tail = t } in
      let before : Some (entry_of old) ≡ entry a id = ap (option_map entry_of) (sym was) ∙ sym (entries_at s id) in
      let lives : (p : Option ℕ) → live_of (entries_of s') p ≡ live_of (entries_of s) p =
      elim [
        | None ↦ refl
        | Some x ↦ kept (λ (o : Option (Entry L B)). count_some (leaf_of_entry o)) a b id None c (sym dead
            ∙ ap (λ (o : Option (Entry L B)). count_some (leaf_of_entry o)) before) x
      ] in
      let apart : (x : ℕ) → live_of (entries_of s) (Some x) ≡ 1 → x ≢ id =
      λ x v e. omega (arith, v, ap (λ z. live_of (entries_of s) (Some z)) e, dead, ap (λ (o : Option (Entry L B)). count_some (leaf_of_entry o)) before) in
      let nexts : (p : Option ℕ) → live_of (entries_of s) p ≡ 1 → next_of s' h p ≡ next_of s h p =
      elim [ None ↦ λ v. refl | Some x ↦ λ v. ap next_of_slot (u.others x (apart x v)) ] in
      let prevs : (p : Option ℕ) → live_of (entries_of s) p ≡ 1 → prev_of s' t p ≡ prev_of s t p =
      elim [ None ↦ λ v. refl | Some x ↦ λ v. ap prev_of_slot (u.others x (apart x v)) ] in
      let r = links_kept s s' h t nexts prevs lives (Linked-from s h t f) in (
        (
          r.0.links,
          IsForest-other a b r.0.once (kept kids_of_entry a b id None c (sym k ∙ ap kids_of_entry before))
              (kept parent_of_entry a b id None c (sym q ∙ ap parent_of_entry before)) f.1,
        ),
        r.1,
      )
