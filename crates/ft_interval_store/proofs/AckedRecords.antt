-- Acknowledged intervals as they are shown where nothing is pending on them and no stage removes elements.
use Rattle.std.proofs.Common.{◌≡◌, ℕ, ◌+◌, ◌<◌, false, List, [], ◌∷◌, ◌++◌, get_or, length, map, take, Option, Some, None, is_some, refl, sym, ◌∙◌, ap, arith}
use Rattle.std.proofs.lemmas.List.{map-append, take_more}
use Rattle.ft_sumdoc.specs.declared.summary.IntervalRec.{IntervalRec}
use Rattle.ft_tree_leaves.specs.declared.text.TextContent.{TextContent}
use Rattle.ft_refs.specs.declared.numbers.Place.{Place}
use Rattle.ft_tree.specs.State.{TreeState}
use Rattle.ft_interval_store.specs.declared.intervals.Interval.{Interval}
use Rattle.ft_interval_store.specs.Ends.{places_of_ends}
use Rattle.ft_interval_store.specs.Shown.{carried_interval, last, settled_interval, shown_intervals, shown_record}
use Rattle.ft_interval_store.specs.Standing.{HasNoRemoval, ShowsInterval, acked_record, record_at}
use Rattle.ft_interval_store.specs.State.{placed_intervals, text_elements, with_mapped_ends}
use Rattle.ft_interval_store.proofs.ShownAll.{carried-one, record-shown}
use Rattle.ft_interval_store.proofs.StandingEnds.{one-stays}

pub none-there : (o : Option ℕ) → is_some o ≡ false → o ≡ None
none-there None e = refl
none-there (Some k) e = (cc)

-- one step after the other, and all at once
map-four : {A B C D E : Type 0} (f : D → E) (g : C → D) (h : B → C) (k : A → B) (xs : List A) → map (λ x. f (g (h (k x)))) xs ≡ map f (map g (map h (map k xs)))
map-four f g h k [] = refl
map-four f g h k (x ∷ xs) = ap (λ ys. f (g (h (k x))) ∷ ys) (map-four f g h k xs)

module _ (tree : TreeState TextContent) where
  pub acked-shown : HasNoRemoval tree → (i : Interval ℕ) (j : Interval Place)
      → ShowsInterval tree 0 (settled_interval (text_elements tree) 0 (with_mapped_ends (places_of_ends tree.refs) i)) j
      → record_at tree j ≡ acked_record tree i
  unfolding acked_record
  acked-shown still i j h =
      let xs = text_elements tree in
      let settled = settled_interval xs 0 (with_mapped_ends (places_of_ends tree.refs) i) in
      record-shown tree (carried_interval xs 0 last settled) j (carried-one tree 0 last settled j j h (one-stays tree 0 last (omega arith) still j))

  -- one more
  pub next-acked : (is : List (Interval ℕ)) (n : ℕ) (i : Interval ℕ) (rs : List IntervalRec) → n < length is → i ≡ get_or is n i
      → rs ≡ map (acked_record tree) (take n is) → rs ++ acked_record tree i ∷ [] ≡ map (acked_record tree) (take (n + 1) is)
  next-acked is n i rs within at e =
      let front : take (n + 1) is ≡ take n is ++ i ∷ [] = take_more is n i within ∙ ap (λ x. take n is ++ x ∷ []) (sym at) in
      ap (λ us. us ++ acked_record tree i ∷ []) e ∙ sym (map-append (acked_record tree) (take n is) (i ∷ [])) ∙ sym (ap (map (acked_record tree)) front)

  -- all of them
  pub all-acked : (is : List (Interval ℕ)) → map (acked_record tree) is ≡ map (shown_record (text_elements tree)) (shown_intervals (text_elements tree) (placed_intervals tree.refs is) [])
  unfolding acked_record
  all-acked is =
      let xs = text_elements tree in
      map-four (shown_record xs) (carried_interval xs 0 last) (settled_interval xs 0) (with_mapped_ends (places_of_ends tree.refs)) is
