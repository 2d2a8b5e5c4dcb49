-- All indexes beside an operation: the interval of its name goes out of them, takes effect, and comes in again.
use Rattle.std.proofs.Common.{◌≡◌, ℕ, ℤ, ◌≤◌, nat_eq, IsTrue, Bool, true, false, cond, List, ◌∷◌, Option, Some, None, refl, sym, ◌∙◌, ap, subst}
use Rattle.std.specs.Ordering.{is_eq}
use Rattle.std.proofs.lemmas.List.Elements.{All-cons}
use Rattle.ft_base.specs.Scan.{len}
use Rattle.ft_props.specs.Keys.{Characters, text_cmp}
use Rattle.std.proofs.lemmas.List.Elements.{All-nil}
use Rattle.ft_overlap.specs.Items.{AreKnown, IsInOrder as IsIndexInOrder, ItemList, NamesGreatest, has_key, item_at, no_items, put_item}
use Rattle.ft_overlap.specs.declared.items.Item.{Item}
use Rattle.ft_tree_leaves.specs.declared.text.TextContent.{TextContent}
use Rattle.ft_tree_leaves.specs.References.{IsReferenceIn, reference_place}
use Rattle.ft_tree.specs.State.{TreeState}
use Rattle.ft_interval_store.specs.declared.intervals.EndPair.{EndPair}
use Rattle.ft_interval_store.specs.declared.intervals.Interval.{Interval}
use Rattle.ft_interval_store.specs.Ends.{AreLiveEnds, IsLiveEnd, References, no_ends}
use Rattle.ft_interval_index.specs.Indexes.{LabelIndex, IsSameIndex, AreAttached, AreListed, AreNamedEndsWithin, Enlists, IsListed, KeepsOtherLabels, PutsItem, StaysInOrder, TakesItem, Unlists, attached_ends, ends_without, id_in, index_of, item_for, list_in}
use Rattle.ft_interval_store.specs.State.{CollectionsState, IsInOrder, IsLive, ends_of_name}
use Rattle.ft_interval_store.specs.Intervals.{Name, interval_of, name_cmp}
use Rattle.ft_interval_index.specs.Order.{IsPlaced, IsWithin, list_place}
use Rattle.ft_interval_index.proofs.FoundItems.{text-is, text-self}
use Rattle.ft_interval_index.proofs.Listed.{DifferAt, StartOnce, absent-listed, from-attached, key-fresh, listed-same, put-listed, taken-listed, unattached-listed}
use Rattle.ft_interval_store.proofs.OneInterval.{same_name}
use Rattle.ft_interval_index.proofs.PlaceOrder.{within-more}
use Rattle.ft_interval_store.proofs.KeptEnds.{live-intervals, live-named}
use Rattle.ft_interval_store.proofs.RisingLists.{name_cmp-self}
use Rattle.ft_interval_index.proofs.StartsOnce.{starts-once}

true-false : {b : Bool} → b ≡ true → b ≡ false → ⊥
true-false p q = (let n : true ≡ false = sym p ∙ q in cc n)

-- an index with the same items and ids is that of the same intervals
same-listed : (n : ℕ) (refs : References) (ends : Characters → EndPair ℕ) (x y : Option LabelIndex) → IsSameIndex x y → IsListed n refs ends x
    → IsListed n refs ends y
same-listed n refs ends x y same l =
    let at : (k : ℕ) (z : Item) → item_at k (list_in y).items ≡ Some z → item_at k (list_in x).items ≡ Some z =
    λ k z e. sym (ap (λ (w : ItemList). item_at k w.items) same.list) ∙ e in
    record {
      listed = λ id s e h. (ap (λ (w : ItemList). item_at s w.items) same.list ∙ (l.listed id s e h).0, same.ids s ∙ (l.listed id s e h).1);
      only = λ k z e. (let o = l.only k z (at k z e) in record { id = o.id; id_is = same.ids k ∙ o.id_is; item = o.item; ends = o.ends });
      once = λ k. subst (λ (w : ItemList). len (λ (z : Item). nat_eq z.key k) w.items ≤ 1) (sym same.list) (l.once k);
      order = subst (IsIndexInOrder (list_place refs)) (sym same.list) l.order;
      law = subst StaysInOrder (sym same.list) l.law;
      within = λ k z e. l.within k z (at k z e);
      together = λ k z e. l.together k z (at k z e);
    }

-- a test that fails where it leads nowhere
not-so : (b : Bool) → (b ≡ true → ⊥) → b ≡ false
not-so true f = absurd (f refl)
not-so false f = refl

module _ (label id : Characters) (is : List (Interval ℕ)) where
  abbrev all : Name → EndPair ℕ
  all n = ends_of_name n is

  abbrev but : Name → EndPair ℕ
  but n = ends_without (label, id) is n

  abbrev is_it : Characters → Bool
  is_it j = is_eq (name_cmp (label, j) (label, id))

  -- the interval of another label is the same
  other-label : (l : Characters) → is_eq (text_cmp l label) ≡ false → (j : Characters) → but (l, j) ≡ all (l, j)
  other-label l h j = ap (λ b. cond b no_ends (all (l, j)))
      (not-so (is_eq (name_cmp (l, j) (label, id))) (λ e. true-false (ap (λ (n : Name). is_eq (text_cmp n.0 label)) (same_name (l, j) (label, id) e) ∙ text-self label) h))

  it-is : is_it id ≡ true
  it-is = ap is_eq (name_cmp-self (label, id))

  differ-out : DifferAt id is_it (λ j. all (label, j)) (λ j. but (label, j))
  differ-out = record {
    here = it-is;
    same = λ j e. ap (λ (n : Name). n.1) (same_name (label, j) (label, id) e);
    others = λ j e. ap (λ b. cond b no_ends (all (label, j))) e;
  }

  differ-in : DifferAt id is_it (λ j. but (label, j)) (λ j. all (label, j))
  differ-in = record {
    here = it-is;
    same = λ j e. ap (λ (n : Name). n.1) (same_name (label, j) (label, id) e);
    others = λ j e. sym (ap (λ b. cond b no_ends (all (label, j))) e);
  }

  gone : but (label, id) ≡ no_ends
  gone = ap (λ b. cond b no_ends (all (label, id))) it-is

  module _ (n : ℕ) (refs : References) (old new : List LabelIndex) (once : (l : Characters) → StartOnce (λ j. all (l, j)))
      (others : KeepsOtherLabels label old new) where
    -- ---- out

    out-here : AreListed n refs all old → Unlists refs (all (label, id)) (index_of label old) (index_of label new)
        → IsListed n refs (λ j. but (label, j)) (index_of label new)
    out-here h u = by (all (label, id)).start refl u
      where
        by : (o : Option ℕ) → (all (label, id)).start ≡ o
            → elim o as (λ _. Type 0) [ None ↦ index_of label new ≡ index_of label old | Some s ↦ TakesItem refs s (index_of label old) (index_of label new) ]
            → IsListed n refs (λ j. but (label, j)) (index_of label new)
        by None e t = subst (λ x. IsListed n refs (λ j. but (label, j)) x) (sym t)
            (absent-listed n refs id is_it (λ j. all (label, j)) (λ j. but (label, j)) differ-out (index_of label old) (h label) e gone)
        by (Some s) e t = taken-listed n refs id is_it (λ j. all (label, j)) (λ j. but (label, j)) differ-out (index_of label old) (index_of label new) s (h label) (once label) e gone t

    pub unlisted : AreListed n refs all old → Unlists refs (all (label, id)) (index_of label old) (index_of label new) → AreListed n refs but new
    unlisted h u l = by (is_eq (text_cmp l label)) refl
      where
        by : (b : Bool) → is_eq (text_cmp l label) ≡ b → IsListed n refs (λ j. but (l, j)) (index_of l new)
        by true e = subst (λ c. IsListed n refs (λ j. but (c, j)) (index_of c new)) (sym (text-is l label e)) (out-here h u)
        by false e = subst (λ x. IsListed n refs (λ j. but (l, j)) x) (sym (others l e))
            (listed-same n refs (index_of l old) (λ j. all (l, j)) (λ j. but (l, j)) (other-label l e) (h l))

    -- ---- in

    in-here : AreListed n refs but old → Enlists refs id (all (label, id)) (index_of label old) (index_of label new) → AreNamedEndsWithin n refs (label, id) is
        → IsListed n refs (λ j. all (label, j)) (index_of label new)
    in-here h u w = by (attached_ends refs (all (label, id))) refl u
      where
        by : (o : Option (ℕ × ℕ)) → attached_ends refs (all (label, id)) ≡ o
            → elim o as (λ _. Type 0) [
              | None ↦ IsSameIndex (index_of label old) (index_of label new)
              | Some p ↦ PutsItem refs id p.0 p.1 (index_of label old) (index_of label new)
            ]
            → IsListed n refs (λ j. all (label, j)) (index_of label new)
        by None e t = same-listed n refs (λ j. all (label, j)) (index_of label old) (index_of label new) t
            (unattached-listed n refs id is_it (λ j. but (label, j)) (λ j. all (label, j)) differ-in (index_of label old) (h label) (once label) gone e)
        by (Some p) e t =
            let a = from-attached refs (all (label, id)) p.0 p.1 e in
            put-listed n refs id is_it (λ j. but (label, j)) (λ j. all (label, j)) differ-in (index_of label old) (h label) (once label)
            gone p.0 p.1 a (index_of label new) (w p.0 p.1 a) t

    pub enlisted : AreListed n refs but old → Enlists refs id (all (label, id)) (index_of label old) (index_of label new)
        → AreNamedEndsWithin n refs (label, id) is
        → AreListed n refs all new
    enlisted h u w l = by (is_eq (text_cmp l label)) refl
      where
        by : (b : Bool) → is_eq (text_cmp l label) ≡ b → IsListed n refs (λ j. all (l, j)) (index_of l new)
        by true e = subst (λ c. IsListed n refs (λ j. all (c, j)) (index_of c new)) (sym (text-is l label e)) (in-here h u w)
        by false e = subst (λ x. IsListed n refs (λ j. all (l, j)) x) (sym (others l e))
            (listed-same n refs (index_of l old) (λ j. but (l, j)) (λ j. all (l, j)) (λ j. sym (other-label l e j)) (h l))

  -- what is put in isn't there yet
  pub fresh-name : (n : ℕ) (refs : References) (x : Option LabelIndex) (once : StartOnce (λ j. all (label, j))) → IsListed n refs (λ j. but (label, j)) x
      → (s e : ℕ) → AreAttached refs (all (label, id)) s e → has_key s (list_in x).items ≡ false
  fresh-name n refs x once h s e a = key-fresh n refs id is_it (λ j. but (label, j)) (λ j. all (label, j)) differ-in x h once gone s e a

pub starts-once-in : (c : CollectionsState) → IsInOrder c → (l : Characters) → StartOnce (λ j. ends_of_name (l, j) c.acked)
starts-once-in c o l i j s h k = ap (λ (n : Name). n.1) (starts-once c o (l, i) (l, j) s h k)

-- ---- an item of an index of the list

abbrev none-index : Option LabelIndex
none-index = None

nothing : (b : Bool) → id_in none-index 0 ≡ cond b None (id_in none-index 0)
nothing true = refl
nothing false = refl

pub none-in-order : (place : ℕ → ℤ) → IsIndexInOrder place no_items
none-in-order place = record { rising = tt; greatest = All-nil (NamesGreatest place) }

-- where the label has no index there is nothing to take out
pub none-taken : (refs : References) (s : ℕ) (x : Option LabelIndex) → x ≡ None → TakesItem refs s x x
none-taken refs s x none = subst (λ y. TakesItem refs s y y) (sym none)
    record { items = refl; order = none-in-order (list_place refs); law = λ p q k o. none-in-order q; ids = λ k. nothing (nat_eq s k) }

pub unlists-by : (refs : References) (ends : EndPair ℕ) (s : ℕ) (x y : Option LabelIndex) → ends.start ≡ Some s → TakesItem refs s x y → Unlists refs ends x y
unlists-by refs ends s x y start t =
    subst (λ (o : Option ℕ). elim o as (λ _. Type 0) [ None ↦ y ≡ x | Some s ↦ TakesItem refs s x y ]) (sym start) t

pub enlists-none : (refs : References) (id : Characters) (ends : EndPair ℕ) (x y : Option LabelIndex) → attached_ends refs ends ≡ None
    → IsSameIndex x y → Enlists refs id ends x y
enlists-none refs id ends x y none same =
    subst (λ (o : Option (ℕ × ℕ)). elim o as (λ _. Type 0) [ None ↦ IsSameIndex x y | Some p ↦ PutsItem refs id p.0 p.1 x y ]) (sym none) same

pub enlists-by : (refs : References) (id : Characters) (ends : EndPair ℕ) (p : ℕ × ℕ) (x y : Option LabelIndex)
    → attached_ends refs ends ≡ Some p → PutsItem refs id p.0 p.1 x y
    → Enlists refs id ends x y
enlists-by refs id ends p x y at t =
    subst (λ (o : Option (ℕ × ℕ)). elim o as (λ _. Type 0) [ None ↦ IsSameIndex x y | Some p ↦ PutsItem refs id p.0 p.1 x y ]) (sym at) t

pub puts-from : (refs : References) (id : Characters) (s e : ℕ) (old mid new : Option LabelIndex) → IsSameIndex old mid
    → PutsItem refs id s e mid new → PutsItem refs id s e old new
puts-from refs id s e old mid new same p = record {
  items = p.items ∙ ap (λ (x : ItemList). put_item (list_place refs) (item_for s e) x.items) same.list;
  order = p.order;
  law = p.law;
  ids = λ k. p.ids k ∙ ap (λ o. cond (nat_eq s k) (Some id) o) (same.ids k);
}

-- ---- ends of names

pub live-ends-of : (refs : References) (c : CollectionsState) → IsLive refs c → (n : Name) → AreLiveEnds refs (ends_of_name n c.acked)
live-ends-of refs c live n = by (interval_of n c.acked) refl
  where
    by : (o : Option (Interval ℕ)) → interval_of n c.acked ≡ o → AreLiveEnds refs (elim o as (λ _. EndPair ℕ) [ None ↦ no_ends | Some i ↦ i.ends ])
    by None e = (tt, tt)
    by (Some i) e = live-named refs n c.acked i (live-intervals refs c live) e

pub live-without : (refs : References) (c : CollectionsState) → IsLive refs c → (m n : Name) → AreLiveEnds refs (ends_without m c.acked n)
live-without refs c live m n = by (is_eq (name_cmp n m)) (live-ends-of refs c live n)
  where
    by : (b : Bool) → AreLiveEnds refs (ends_of_name n c.acked) → AreLiveEnds refs (cond b no_ends (ends_of_name n c.acked))
    by true h = (tt, tt)
    by false h = h

-- an item more is known where its ends are live and within
pub known-more : (tree : TreeState TextContent) (n : ℕ) (ends : EndPair ℕ) (s e : ℕ) (xs : List Item) → IsTrue tree.usable
    → n ≤ 9223372036854775808 → AreLiveEnds tree.refs ends
    → AreAttached tree.refs ends s e → IsWithin n (reference_place tree.refs s) × IsWithin n (reference_place tree.refs e)
    → AreKnown (IsPlaced tree) xs → AreKnown (IsPlaced tree) (item_for s e ∷ xs)
known-more tree n ends s e xs usable few live a w k =
    let first : IsReferenceIn tree.refs s = subst (IsLiveEnd tree.refs) a.start live.0 in
    let second : IsReferenceIn tree.refs e = subst (IsLiveEnd tree.refs) a.end live.1 in
    All-cons (λ (y : Item). IsPlaced tree y.start × IsPlaced tree y.end) (item_for s e) xs (
      (usable, first, within-more n 9223372036854775808 (reference_place tree.refs s) few w.0),
      (usable, second, within-more n 9223372036854775808 (reference_place tree.refs e) few w.1),
    ) k
