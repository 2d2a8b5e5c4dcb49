-- Ends on leaves, of intervals that are there or not.
use Rattle.std.proofs.Common.{◌≡◌, ℕ, ◌≤◌, List, [], ◌∷◌, Option, Some, None, IfSome, option_map, refl}
use Rattle.std.specs.List.{AllZip}
use Rattle.ft_tree_leaves.specs.declared.text.TextContent.{TextContent}
use Rattle.ft_tree_leaves.specs.Edits.{next_removal_above}
use Rattle.ft_op.specs.declared.operations.Ends.{Ends}
use Rattle.ft_refs.specs.declared.numbers.Place.{Place}
use Rattle.ft_tree.specs.State.{TreeState}
use Rattle.ft_interval_store.specs.declared.intervals.EndPair.{EndPair}
use Rattle.ft_interval_store.specs.declared.intervals.Interval.{Interval}
use Rattle.ft_interval_store.specs.Numbers.{until}
use Rattle.ft_interval_store.specs.Shown.{last, numbers_at}
use Rattle.ft_interval_store.specs.Standing.{AreOnTree, IsCarriedInterval, ShowsEnds, end_places}
use Rattle.ft_interval_store.specs.State.{text_elements}
use Rattle.ft_interval_store.proofs.Removals.{last-stands}

module _ (tree : TreeState TextContent) where
  -- where no stage behind a up to m removes elements, an interval stays as it is
  pub one-stays : (a m : ℕ) → a ≤ m → until m (next_removal_above a (text_elements tree)) ≡ None → (i : Interval Place) → IsCarriedInterval tree a m i i
  one-stays a m rises none i = record {
    label = refl;
    id = refl;
    props = refl;
    start = λ end s. last-stands tree a m end i.ends.start rises none s;
    end = λ end s. last-stands tree a m end i.ends.end rises none s;
  }

  -- and so do all
  pub all-stay : (a m : ℕ) → a ≤ m → until m (next_removal_above a (text_elements tree)) ≡ None → (is : List (Interval Place))
      → AllZip (IsCarriedInterval tree a m) is is
  all-stay a m rises none [] = tt
  all-stay a m rises none (i ∷ is) = (one-stays a m rises none i, all-stay a m rises none is)

  -- ends that are shown stand on leaves
  pub shows-on : (k : ℕ) (i : Option (Interval ℕ)) (e : Option (EndPair Place)) → ShowsEnds tree k i e → IfSome e (AreOnTree tree)
  shows-on k None None h = tt
  shows-on k None (Some e) h = absurd h
  shows-on k (Some i) None h = absurd h
  shows-on k (Some i) (Some e) h = (h.start.on_leaf, h.end.on_leaf)

  -- the ends as numbers, where the interval is there
  abbrev pub numbers_of : Option (Interval ℕ) → Option Ends
  numbers_of i = option_map (λ (j : Interval ℕ). numbers_at (text_elements tree) last j.ends) i

  pub shows-numbers : (i : Option (Interval ℕ)) (e : Option (EndPair Place)) → ShowsEnds tree last i e
      → option_map (λ (p : EndPair Place). numbers_at (text_elements tree) last (end_places tree p)) e ≡ numbers_of i
  shows-numbers None None h = refl
  shows-numbers None (Some e) h = absurd h
  shows-numbers (Some i) None h = absurd h
  shows-numbers (Some i) (Some e) h =
      let first = h.start.is in
      let second = h.end.is in
      λ t. Some (numbers_at (text_elements tree) last (record { start = first t; end = second t }))
