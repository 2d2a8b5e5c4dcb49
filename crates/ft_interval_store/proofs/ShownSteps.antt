-- The steps over pending operations, one after the other, from the first to the last.
use Rattle.std.proofs.Common.{◌≡◌, ℕ, ◌+◌, ◌<◌, ◌≤◌, List, [], ◌∷◌, drop, length, get_or, Option, Some, None, option_map, sym, ◌∙◌, ap, subst, arith}
use Rattle.std.proofs.lemmas.List.{drop_more}
use Rattle.std.proofs.lemmas.List.Elements.{All-head, All-tail}
use Rattle.ft_tree_leaves.specs.declared.text.TextContent.{TextContent}
use Rattle.ft_tree_leaves.specs.Elements.{TreeElement}
use Rattle.ft_refs.specs.declared.numbers.Place.{Place}
use Rattle.ft_tree.specs.State.{TreeState}
use Rattle.ft_interval_store.specs.declared.intervals.EndPair.{EndPair}
use Rattle.ft_interval_store.specs.declared.intervals.Interval.{Interval}
use Rattle.ft_interval_store.specs.declared.pending.Operation.{Operation}
use Rattle.ft_interval_store.specs.Ends.{AreLiveEnds, References, map_ends, places_of_ends}
use Rattle.ft_interval_store.specs.Intervals.{Name, one_after}
use Rattle.ft_interval_store.specs.Shown.{carried_interval, last, settled_end, shown_one_from}
use Rattle.ft_interval_store.specs.Standing.{IsCarried, ShowsEnds, StandAt}
use Rattle.ft_interval_store.specs.State.{AreLiveOperations, StagesRise, placed_operations, text_elements}

module _ (ts : List Operation) (i : ℕ) (t : Operation) (within : i < length ts) (is : t ≡ get_or ts i t) where
  at-front : drop i ts ≡ t ∷ drop (i + 1) ts
  at-front = drop_more ts i t within ∙ ap (λ u. u ∷ drop (i + 1) ts) (sym is)

  next-rises : (k : ℕ) → StagesRise k (drop i ts) → (k < t.stage) × StagesRise t.stage (drop (i + 1) ts)
  next-rises k r = subst (λ us. StagesRise k us) at-front r

  pub next-le : (k : ℕ) → StagesRise k (drop i ts) → k ≤ t.stage
  next-le k r = (let both = next-rises k r in omega (arith, both.0))

  pub rest-rises : (k : ℕ) → StagesRise k (drop i ts) → StagesRise t.stage (drop (i + 1) ts)
  rest-rises k r = (next-rises k r).1

  all-live : (refs : References) → AreLiveOperations refs (drop i ts) → AreLiveOperations refs (t ∷ drop (i + 1) ts)
  all-live refs l = subst (λ us. AreLiveOperations refs us) at-front l

  pub next-live : (refs : References) → AreLiveOperations refs (drop i ts) → AreLiveEnds refs t.ends
  next-live refs l = All-head (λ (x : Operation). AreLiveEnds refs x.ends) t (drop (i + 1) ts) (all-live refs l)

  pub rest-live : (refs : References) → AreLiveOperations refs (drop i ts) → AreLiveOperations refs (drop (i + 1) ts)
  rest-live refs l = All-tail (λ (x : Operation). AreLiveEnds refs x.ends) t (drop (i + 1) ts) (all-live refs l)

  -- what is known of the ends, one step on
  pub next-shows : (tree : TreeState TextContent) (refs : References) (n : Name) (k : ℕ) (o : Option (Interval ℕ)) (result : Option (EndPair Place))
      (all : Option (Interval ℕ)) → (let xs = text_elements tree in ShowsEnds tree t.stage (one_after n t.op (map_ends (settled_end xs t.stage) (places_of_ends refs t.ends)) (option_map (carried_interval xs k t.stage) o)) result
      → shown_one_from xs n k (placed_operations refs (drop i ts)) o ≡ all
      → (p : Option (Interval ℕ)) × ShowsEnds tree t.stage p result × (shown_one_from xs n t.stage (placed_operations refs (drop (i + 1) ts)) p ≡ all))
  next-shows tree refs n k o result all s e =
      let xs = text_elements tree in (
        one_after n t.op (map_ends (settled_end xs t.stage) (places_of_ends refs t.ends)) (option_map (carried_interval xs k t.stage) o),
        s,
        sym (ap (λ us. shown_one_from xs n k (placed_operations refs us) o) at-front) ∙ e,
      )

-- behind the last one
pub last-shown : {U : Type 0} (xs : List (TreeElement U)) (refs : References) (n : Name) (k i : ℕ) (ts : List Operation)
    (o : Option (Interval ℕ)) → drop i ts ≡ []
    → option_map (carried_interval xs k last) o ≡ shown_one_from xs n k (placed_operations refs (drop i ts)) o
last-shown xs refs n k i ts o none = sym (ap (λ us. shown_one_from xs n k (placed_operations refs us) o) none)

-- the ends, carried on, show the interval carried on
pub carried-shown : (tree : TreeState TextContent) (k m : ℕ) (i : Option (Interval ℕ)) (shown : Option (EndPair Place)) (e after : EndPair Place)
    → shown ≡ Some e → ShowsEnds tree k i shown → IsCarried tree k m e.start after.start → IsCarried tree k m e.end after.end
    → ShowsEnds tree m (option_map (carried_interval (text_elements tree) k m) i) (Some after)
carried-shown tree k m None shown e after is s first second = absurd (subst (λ x. ShowsEnds tree k None x) is s)
carried-shown tree k m (Some i) shown e after is s first second =
    let n : StandAt tree k i.ends e = subst (λ x. ShowsEnds tree k (Some i) x) is s in
    record { start = first i.ends.start n.start; end = second i.ends.end n.end }
