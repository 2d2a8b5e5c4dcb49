-- Collections stand on a tree after a step that leaves the acknowledged intervals and their places.
use Rattle.std.proofs.Common.{◌≡◌, ℕ, false, true, List, [], length, None, Some, option_map, refl, sym, ◌∙◌, ap, subst, inl, inr, arith}
use Rattle.std.specs.Prelude.{◌⊎◌}
use Rattle.std.proofs.lemmas.List.Elements.{All-nil}
use Rattle.ft_overlap.specs.Items.{NamesGreatest}
use Rattle.ft_props.specs.Keys.{Characters}
use Rattle.ft_tree_leaves.specs.declared.text.TextContent.{TextContent}
use Rattle.ft_tree_leaves.specs.References.{reference_place}
use Rattle.ft_tree.specs.State.{TreeState}
use Rattle.ft_interval_store.specs.declared.intervals.EndPair.{EndPair}
use Rattle.ft_interval_store.specs.declared.intervals.Interval.{Interval}
use Rattle.ft_interval_store.specs.Ends.{References, no_ends, place_of_end, places_of_ends}
use Rattle.ft_interval_store.specs.Intervals.{Name, interval_of}
use Rattle.ft_interval_store.specs.State.{CollectionsState, IsLive, ends_of_name, placed_intervals, text_elements, with_mapped_ends}
use Rattle.ft_interval_store.proofs.OneInterval.{interval_of-map}
use Rattle.ft_interval_index.specs.Indexes.{LabelIndex, AreListed, IsListed, attached_ends, index_of}
use Rattle.ft_interval.specs.State.{IndexedState, StandsOn}
use Rattle.ft_interval_index.specs.Order.{list_place}
use Rattle.ft_interval_index.proofs.Listed.{moved-listed, some-is}
use Rattle.ft_interval.proofs.ListedEffects.{has-end}
use Rattle.ft_interval_index.proofs.ShownOrder.{same-order}

module _ (before after : References) (is : List (Interval ℕ)) (eq : placed_intervals after is ≡ placed_intervals before is) where
  places-stay : (m : Name) (i : Interval ℕ) → interval_of m is ≡ Some i → places_of_ends after i.ends ≡ places_of_ends before i.ends
  places-stay m i e =
      let placed : option_map (with_mapped_ends (places_of_ends after)) (interval_of m is) ≡ option_map (with_mapped_ends (places_of_ends before)) (interval_of m is) =
      sym (interval_of-map m (with_mapped_ends (places_of_ends after)) is (λ j. refl)) ∙ ap (interval_of m) eq
      ∙ interval_of-map m (with_mapped_ends (places_of_ends before)) is (λ j. refl) in
      ap (λ (j : Interval ℕ). j.ends) (some-is (sym (ap (option_map (with_mapped_ends (places_of_ends after))) e) ∙ placed ∙ ap (option_map (with_mapped_ends (places_of_ends before))) e))

  end-stays : (m : Name) (r : ℕ) → ((ends_of_name m is).start ≡ Some r) ⊎ ((ends_of_name m is).end ≡ Some r)
      → reference_place after r ≡ reference_place before r
  end-stays m r h = elim h [
    | inl g ↦ let w = has-end (λ (p : EndPair ℕ). p.start) refl is m r g in
        sym (ap (place_of_end after) w.end) ∙ ap (λ (p : EndPair ℕ). p.start) (places-stay m w.interval w.there) ∙ ap (place_of_end before) w.end
    | inr g ↦ let w = has-end (λ (p : EndPair ℕ). p.end) refl is m r g in
        sym (ap (place_of_end after) w.end) ∙ ap (λ (p : EndPair ℕ). p.end) (places-stay m w.interval w.there) ∙ ap (place_of_end before) w.end
  ]

  -- each index is that of its intervals still
  pub listed-kept : (n : ℕ) (idx : List LabelIndex) → AreListed n before (λ m. ends_of_name m is) idx → AreListed n after (λ m. ends_of_name m is) idx
  listed-kept n idx h l =
      moved-listed n n (λ p. p) (same-order n) before after (λ j. ends_of_name (l, j) is) (index_of l idx) (λ j r e. end-stays (l, j) r e) (h l)

-- so the collections stand
pub stands-kept : (tree new : TreeState TextContent) (c d : CollectionsState) (idx : List LabelIndex) → d.acked ≡ c.acked
    → placed_intervals new.refs d.acked ≡ placed_intervals tree.refs c.acked → new ≡ record tree { refs = new.refs } → IsLive new.refs d
    → AreListed (length (text_elements tree)) tree.refs (λ n. ends_of_name n c.acked) idx
    → (let x : IndexedState = record { state = d; indexes = idx } in StandsOn new x)
stands-kept tree new c d idx same eq rest live s = record {
  live = live;
  listed = subst (λ (k : ℕ). AreListed k new.refs (λ m. ends_of_name m d.acked) idx) (ap (λ (t : TreeState TextContent). length (text_elements t)) (sym rest))
      (subst (λ (is : List (Interval ℕ)). AreListed (length (text_elements tree)) new.refs (λ m. ends_of_name m is) idx) (sym same)
      (listed-kept tree.refs new.refs c.acked (sym (ap (placed_intervals new.refs) same) ∙ eq) (length (text_elements tree)) idx s));
}

-- where there are no intervals, none is in an index
no-interval : (n : ℕ) (refs : References) (x : Characters → EndPair ℕ) → ((id : Characters) → x id ≡ no_ends) → IsListed n refs x None
no-interval n refs x none = record {
  listed = λ id s e h. absurd (none-some (sym (ap (attached_ends refs) (none id)) ∙ h));
  only = λ k y h. absurd (none-some h);
  once = λ k. omega arith;
  order = record { rising = tt; greatest = All-nil (NamesGreatest (list_place refs)) };
  law = λ p q k o. record { rising = tt; greatest = All-nil (NamesGreatest q) };
  within = λ k y h. absurd (none-some h);
  together = λ k y h. absurd (none-some h);
}
  where
    none-some : {A : Type 0} {y : A} → None ≡ Some y → ⊥
    none-some h = (cc)

pub stands-none : (tree : TreeState TextContent) → (let x : IndexedState = record { state = record { acked = []; pending = [] }; indexes = [] } in StandsOn tree x)
stands-none tree = record {
  live = λ r k. absurd (let never : false ≡ true = k in cc never);
  listed = λ l. no-interval (length (text_elements tree)) tree.refs (λ id. ends_of_name (l, id) []) (λ id. refl);
}
