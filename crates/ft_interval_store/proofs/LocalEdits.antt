-- That the view has the name of a local edit just where that adds none; and that stages rise behind one.
use Rattle.std.proofs.Common.{◌≡◌, ℕ, ◌+◌, ◌<◌, ◌≤◌, Bool, true, false, not, List, [], ◌∷◌, All, sym, ap, subst, inl, inr, arith}
use Rattle.std.specs.Prelude.{◌⊎◌}
use Rattle.std.proofs.lemmas.List.Elements.{All-append, All-cons, All-head, All-nil, All-tail}
use Rattle.ft_tree_leaves.specs.declared.text.TextContent.{TextContent}
use Rattle.ft_tree_leaves.specs.Elements.{TreeElement}
use Rattle.ft_op.specs.Document.{ends_of}
use Rattle.ft_op.specs.declared.operations.TextOp.{TextOp}
use Rattle.ft_tree.specs.State.{TreeState}
use Rattle.ft_interval_store.specs.declared.pending.Operation.{Operation}
use Rattle.ft_interval_store.specs.Ends.{References, places_of_ends, places_of_given}
use Rattle.ft_interval_store.specs.State.{CollectionsState, IsAboveAll, Pushes, placed_operations, with_mapped_names}

pub shown-unless-added : (adds shown : Bool) → ((adds ≡ true) × (shown ≡ false)) ⊎ (adds ≡ false) → ((adds ≡ false) × (shown ≡ true)) ⊎ (adds ≡ true)
    → shown ≡ not adds
shown-unless-added true shown (inl h) k = h.1
shown-unless-added true shown (inr h) k = (cc)
shown-unless-added false shown h (inl k) = k.1
shown-unless-added false shown h (inr k) = (cc)

-- ---- stages

module _ (refs : References) (n : ℕ) where
  abbrev IsBelow : Operation → Type 0
  IsBelow t = t.stage < n

  placed-below : (ts : List Operation) → All IsBelow ts → All IsBelow (placed_operations refs ts)
  placed-below [] h = All-nil IsBelow
  placed-below (t ∷ ts) h =
      All-cons IsBelow (with_mapped_names (places_of_ends refs) t) (placed_operations refs ts) (All-head IsBelow t ts h) (placed-below ts (All-tail IsBelow t ts h))

  below-placed : (ts : List Operation) → All IsBelow (placed_operations refs ts) → All IsBelow ts
  below-placed [] h = All-nil IsBelow
  below-placed (t ∷ ts) h =
      let u = with_mapped_names (places_of_ends refs) t in
      All-cons IsBelow t ts (All-head IsBelow u (placed_operations refs ts) h) (below-placed ts (All-tail IsBelow u (placed_operations refs ts) h))

below-more : (k n : ℕ) → k ≤ n → (ts : List Operation) → All (λ (t : Operation). t.stage < k) ts → All (λ (t : Operation). t.stage < n) ts
below-more k n le [] h = All-nil (λ (t : Operation). t.stage < n)
below-more k n le (t ∷ ts) h =
    let first : t.stage < k = All-head (λ (x : Operation). x.stage < k) t ts h in
    let next : t.stage < n = omega (arith, first, le) in
    All-cons (λ (x : Operation). x.stage < n) t ts next (below-more k n le ts (All-tail (λ (x : Operation). x.stage < k) t ts h))

-- a greater stage is above all too
pub above-more : (k n : ℕ) (c : CollectionsState) → k ≤ n → IsAboveAll k c → IsAboveAll n c
above-more k n c le h = below-more k n le c.pending h

-- behind an edit of stage k the next stage is above all
pub above-pushed : {U : Type 0} {seen : TreeElement U → Bool} {xs : List (TreeElement U)} {k : ℕ} {op : TextOp} {old new : CollectionsState}
    {before after : TreeState TextContent} → Pushes seen xs k op old new before after → IsAboveAll k old → IsAboveAll (k + 1) new
above-pushed {U} {seen} {xs} {k} {op} {old} {new} {before} {after} p h =
    let own : Operation = record { stage = k; op = op; ends = places_of_given seen xs (ends_of op) } in
    let P : Operation → Type 0 = λ t. t.stage < k + 1 in
    let all = ap (λ (c : CollectionsState). c.pending) p.pending in
    let last : k < k + 1 = omega arith in
    below-placed after.refs (k + 1) new.pending
    (subst (λ (ts : List Operation). All P ts) (sym all)
    (All-append P (placed_operations before.refs old.pending) (own ∷ []) (placed-below before.refs (k + 1) old.pending (below-more k (k + 1) (omega arith) old.pending h))
    (All-cons P own [] last (All-nil P))))
