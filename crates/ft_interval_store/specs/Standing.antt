-- Ends as elements on leaves of the tree, as they are carried from stage to stage, beside their places in the whole list.
use Rattle.std.specs.Prelude.{◌≡◌, ℕ, ◌-◌, List, Option, Some, None, IfSome, ⊤, option_map}
use Rattle.std.specs.List.{AllZip}
use Rattle.ft_sumdoc.specs.declared.summary.IntervalRec.{IntervalRec}
use Rattle.ft_tree_leaves.specs.declared.text.TextContent.{TextContent}
use Rattle.ft_tree_leaves.specs.Edits.{next_removal_above}
use Rattle.ft_tree_leaves.specs.TextLeaves.{text_units}
use Rattle.ft_tree_blocks.specs.LeafPlaces.{IsOnLeaf, place_on}
use Rattle.ft_refs.specs.declared.numbers.Place.{Place}
use Rattle.ft_tree.specs.State.{TreeState}
use Rattle.ft_interval_store.specs.declared.intervals.EndPair.{EndPair}
use Rattle.ft_interval_store.specs.declared.intervals.Interval.{Interval}
use Rattle.ft_interval_store.specs.Ends.{places_of_ends}
use Rattle.ft_interval_store.specs.Numbers.{until}
use Rattle.ft_interval_store.specs.Shown.{carried_end, carried_interval, last, number_at, settled_end, settled_interval, shown_record}
use Rattle.ft_interval_store.specs.State.{text_elements, with_mapped_ends}

module _ (tree : TreeState TextContent) where
  -- the place of the element in the whole list, none where the end is detached
  abbrev pub end_place : Option Place → Option ℕ
  end_place at = option_map (place_on text_units (λ x. x.by) tree.leaves) at

  -- the places of both
  abbrev pub end_places : EndPair Place → EndPair ℕ
  end_places e = record { start = end_place e.start; end = end_place e.end }

  -- an end is detached, or on an element of a leaf
  abbrev pub IsOnTree : Option Place → Type 0
  IsOnTree at = IfSome at (IsOnLeaf text_units tree.leaves)

  -- both ends are
  abbrev pub AreOnTree : EndPair Place → Type 0
  AreOnTree e = IsOnTree e.start × IsOnTree e.end

  -- those of an interval
  abbrev pub HasPlaces : Interval Place → Type 0
  HasPlaces i = AreOnTree i.ends

  -- an end that is detached, or on an element of a leaf that stage k sees, with its place
  pub record StandsAt (k : ℕ) (end : Option ℕ) (at : Option Place) : Type 0 where
    pub on_leaf : IsOnTree at
    pub is : end_place at ≡ end
    pub seen : settled_end (text_elements tree) k end ≡ end

  -- the same of both ends
  pub record StandAt (k : ℕ) (ends : EndPair ℕ) (at : EndPair Place) : Type 0 where
    pub start : StandsAt k ends.start at.start
    pub end : StandsAt k ends.end at.end

  -- an interval that is there or not, and its ends on leaves
  abbrev pub ShowsEnds : ℕ → Option (Interval ℕ) → Option (EndPair Place) → Type 0
  ShowsEnds k None None = ⊤
  ShowsEnds k (Some i) (Some e) = StandAt k i.ends e
  ShowsEnds k _ _ = ⊥

  -- an interval with places in the whole list, and the same on leaves
  pub record ShowsInterval (k : ℕ) (i : Interval ℕ) (j : Interval Place) : Type 0 where
    pub label : j.label ≡ i.label
    pub id : j.id ≡ i.id
    pub props : j.props ≡ i.props
    pub ends : StandAt k i.ends j.ends

  -- the same of all
  abbrev pub ShowsAll : ℕ → List (Interval ℕ) → List (Interval Place) → Type 0
  ShowsAll k is js = AllZip (ShowsInterval k) is js

  -- where one end is behind the stages up to m
  abbrev pub IsCarried : ℕ → ℕ → Option Place → Option Place → Type 0
  IsCarried k m before after = (end : Option ℕ) → StandsAt k end before → StandsAt m (carried_end (text_elements tree) k (m - k) end) after

  -- an interval at stage k, and with its ends where they are behind the stages up to m
  pub record IsCarriedInterval (k m : ℕ) (i j : Interval Place) : Type 0 where
    pub label : j.label ≡ i.label
    pub id : j.id ≡ i.id
    pub props : j.props ≡ i.props
    pub start : IsCarried k m i.ends.start j.ends.start
    pub end : IsCarried k m i.ends.end j.ends.end

  -- an interval as it is shown
  abbrev pub record_at : Interval Place → IntervalRec
  record_at i =
      let xs = text_elements tree in
      record {
        label = i.label;
        id = i.id;
        ends = record { start = number_at xs last (end_place i.ends.start); end = number_at xs last (end_place i.ends.end) };
        props = i.props;
      }

  -- no stage removes an element
  abbrev pub HasNoRemoval : Type 0
  HasNoRemoval = until last (next_removal_above 0 (text_elements tree)) ≡ None

  -- an acknowledged interval as it is shown where nothing is pending on it
  unfoldable pub acked_record : Interval ℕ → IntervalRec
  acked_record i =
      let xs = text_elements tree in
      shown_record xs (carried_interval xs 0 last (settled_interval xs 0 (with_mapped_ends (places_of_ends tree.refs) i)))
