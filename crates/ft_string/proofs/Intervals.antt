-- What an operation of a message makes of the intervals: with places here, with names there.
use Rattle.std.proofs.Common.{◌≡◌, ℕ, zero, suc, ◌≤◌, Bool, true, false, cond, not, ◌&&◌, ◌||◌, List, [], ◌∷◌, Option, Some, None, refl, sym, ◌∙◌, ap, option_map, ℤ, pos, negsuc}
use Rattle.std.specs.List.{list_all, list_any}
use Rattle.ft_base.specs.declared.elements.Perspective.{Perspective}
use Rattle.ft_base.specs.declared.stamps.Stamp.{Stamp}
use Rattle.ft_base.specs.declared.stamps.Stamp.TheVariants.{Acked, Local}
use Rattle.ft_base.specs.Scan.{at, len}
use Rattle.ft_base.specs.Visibility.{has_occurred}
use Rattle.ft_base.proofs.Booleans.{both}
use Rattle.ft_block.specs.declared.leaves.LenView.TheVariants.{At}
use Rattle.ft_interval_store.specs.declared.intervals.EndPair.{EndPair}
use Rattle.ft_interval_store.specs.declared.intervals.Interval.{Interval}
use Rattle.ft_interval_store.specs.Ends.{map_ends, place_of_position, places_of_given, slid_end}
use Rattle.ft_interval_store.specs.Intervals.{NamesRise, after_operation, changed_interval}
use Rattle.ft_tree_leaves.specs.Elements.{TreeElement, seen_in}
use Rattle.ft_msg.specs.Indexed.{IndexedInterval, indexed_interval, place_in_list}
use Rattle.ft_op.specs.declared.operations.Ends.{Ends}
use Rattle.ft_op.specs.declared.operations.TextOp.{TextOp}
use Rattle.ft_op.specs.Document.{elements_at_given_ends}
use Rattle.ft_op.specs.Intervals.{NamedElements, after_interval_operation, element_at_end, slide_ends, slide_interval, with_ends}
use Rattle.ft_op.specs.Intervals.{Interval as NamedInterval}
use Rattle.ft_props.specs.Element.{ElementContent, ElementId, ListElement, has_id, id, id_of_stamp, is_unremoved, seen_by, stamps_of}
use Rattle.ft_props.specs.Keys.{Characters}
use Rattle.ft_props.specs.Properties.{PropertySet, apply}
use Rattle.ft_props.specs.Slide.{slide}
use Rattle.ft_laws_agreement.specs.Sequencing.{Each}
use Rattle.ft_laws_agreement.specs.Trimming.{has_ends_on, is_end_on}
use Rattle.ft_laws_agreement.proofs.AgreedStage.{EndsStand, ends-stay}
use Rattle.ft_laws_agreement.proofs.SlidEnds.{Once, Stands, is_standing_at}
use Rattle.ft_laws_names.specs.WellNamed.{IsSettledIn}
use Rattle.ft_laws_names.proofs.Beside.{Beside}
use Rattle.ft_string.specs.Bare.{text_content}
use Rattle.ft_string.specs.State.{interval_with_places}
use Rattle.ft_named.proofs.Bares.{AreElements, IsElement, seen-alike}
use Rattle.ft_string.proofs.Ends.{name-slid}
use Rattle.ft_named.proofs.Placed.{place-at}
use Rattle.ft_string.proofs.RisingBeside.{operation-beside}
use Rattle.ft_named.proofs.Slid.{each-there}

-- ---- ends on unremoved elements stay where they are

swapped : (a b c : Bool) → (a && b) || c ≡ (b && a) || c
swapped true true c = refl
swapped true false c = refl
swapped false true c = refl
swapped false false c = refl

standing-found : (a : ElementId) (xs : List ListElement) → list_any (λ e. has_id a e && is_unremoved e) xs ≡ list_any (is_standing_at a) xs
standing-found a [] = refl
standing-found a (e ∷ xs) = ap (λ c. (has_id a e && is_unremoved e) || c) (standing-found a xs) ∙ swapped (has_id a e) (is_unremoved e) (list_any (is_standing_at a) xs)

end-stands : (xs : List ListElement) (o : Option ElementId) → is_end_on xs o ≡ true → Stands xs o
end-stands xs None h = tt
end-stands xs (Some a) h = sym (standing-found a xs) ∙ h

ends-stand : (xs : List ListElement) (is : List NamedInterval) → list_all (has_ends_on xs) is ≡ true → EndsStand xs is
ends-stand xs [] h = tt
ends-stand xs (i ∷ is) h =
    let p = both (has_ends_on xs i) (list_all (has_ends_on xs) is) h in
    let q = both (is_end_on xs i.start) (is_end_on xs i.end) p.0 in
    (end-stands xs i.start q.0, end-stands xs i.end q.1, ends-stand xs is p.1)

pub ends-on-stay : (es : List ListElement) (ds : List NamedInterval) → Once es → list_all (has_ends_on es) ds ≡ true → slide_ends es ds ≡ ds
ends-on-stay es ds once h = ends-stay es ds once (ends-stand es ds h)

-- ---- the ends that an operation gives

module _ (at' : Perspective) where
  seen-settled : (es : List ListElement) (e : ListElement) → seen_by at'.r at'.c e ≡ true → 1 ≤ len (has_id (id e)) es → IsSettledIn es (Some (id e))
  seen-settled es e h l = step e.ins h l
    where
      step : (t : Stamp) → has_occurred at'.r at'.c t && not (list_any (has_occurred at'.r at'.c) (stamps_of e).dels) ≡ true
          → 1 ≤ len (has_id (id_of_stamp t e.nth)) es → IsSettledIn es (Some (id_of_stamp t e.nth))
      step (Acked s c) g there = there
      step (Local k) g there = (cc)

  at-settled : (all es : List ListElement) → Each (λ e. 1 ≤ len (has_id (id e)) all) es → (p : ℕ)
      → IsSettledIn all (option_map id (at (seen_by at'.r at'.c) p es))
  at-settled all [] h p = tt
  at-settled all (e ∷ es) h zero = step (seen_by at'.r at'.c e) refl (at-settled all es h.1 0)
    where
      step : (b : Bool) → seen_by at'.r at'.c e ≡ b → IsSettledIn all (option_map id (at (seen_by at'.r at'.c) 0 es))
          → IsSettledIn all (option_map id (cond b (Some e) (at (seen_by at'.r at'.c) 0 es)))
      step true g rest = seen-settled all e g h.0
      step false g rest = rest
  at-settled all (e ∷ es) h (suc p) = at-settled all es h.1 (cond (seen_by at'.r at'.c e) p (suc p))

  module _ (xs : List (TreeElement ElementContent)) (es : List ListElement) (once : Once es) (b : AreElements text_content xs es) where
    end-alike : (z : ℤ) → slid_end xs (place_of_position (seen_in (At at')) xs z) ≡ place_in_list es (slide es (element_at_end (seen_by at'.r at'.c) es z))
    end-alike (pos p) =
        ap (slid_end xs) (sym (place-at (IsElement text_content) once b (seen_in (At at')) (seen_by at'.r at'.c) (λ x e q. seen-alike text_content (At at') x e q) p))
        ∙ sym (name-slid text_content xs es once b (option_map id (at (seen_by at'.r at'.c) p es)) (at-settled es es (each-there es) p))
    end-alike (negsuc p) = refl

    abbrev pub places : Option Ends → EndPair ℕ
    places given = map_ends (slid_end xs) (places_of_given (seen_in (At at')) xs given)

    abbrev pub names : Option Ends → NamedElements
    names given = elements_at_given_ends (seen_by at'.r at'.c) es given

    -- they end on the same places, once they slid
    pub start-alike : (given : Option Ends) → (places given).start ≡ place_in_list es (slide es (names given).first)
    start-alike None = refl
    start-alike (Some e) = end-alike e.start

    pub finish-alike : (given : Option Ends) → (places given).end ≡ place_in_list es (slide es (names given).second)
    finish-alike None = refl
    finish-alike (Some e) = end-alike e.end

-- ---- intervals of the same name, properties and places, once the ends slid

module _ (es : List ListElement) where
  abbrev pub IsAlike : Interval ℕ → NamedInterval → Type 0
  IsAlike i d = interval_with_places i ≡ indexed_interval es (slide_interval es d)

  abbrev pub AreAlike : List (Interval ℕ) → List NamedInterval → Type 0
  AreAlike is ds = Beside (Interval ℕ) NamedInterval IsAlike is ds

  with-given : (given : Option Ends) (places : EndPair ℕ) (names : NamedElements) (props : PropertySet) → places.start ≡ place_in_list es (slide es names.first)
      → places.end ≡ place_in_list es (slide es names.second) → (i : Interval ℕ) (d : NamedInterval) → IsAlike i d
      → IsAlike (changed_interval given places props i) (let j = with_ends given names d in record j { props = apply j.props props })
  with-given None places names props start end i d q =
      let label = ap (λ (j : IndexedInterval). j.label) q in
      let name = ap (λ (j : IndexedInterval). j.id) q in
      let pair = ap (λ (j : IndexedInterval). j.ends) q in
      let sets = ap (λ (j : IndexedInterval). apply j.props props) q in
      rw (label, name, pair, sets) refl
  with-given (Some given) places names props start end i d q =
      let label = ap (λ (j : IndexedInterval). j.label) q in
      let name = ap (λ (j : IndexedInterval). j.id) q in
      let sets = ap (λ (j : IndexedInterval). apply j.props props) q in
      rw (label, name, start, end, sets) refl

  new-alike : (label name : Characters) (places : EndPair ℕ) (names : NamedElements) (props : PropertySet)
      → places.start ≡ place_in_list es (slide es names.first)
      → places.end ≡ place_in_list es (slide es names.second)
      → IsAlike (record { label = label; id = name; ends = places; props = apply [] props })
      (record { label = label; id = name; start = names.first; end = names.second; props = apply [] props })
  new-alike label name places names props start end = rw (start, end) refl

  pub operation-alike : (op : TextOp) (places : EndPair ℕ) (names : NamedElements) → places.start ≡ place_in_list es (slide es names.first)
      → places.end ≡ place_in_list es (slide es names.second) → {is : List (Interval ℕ)} {ds : List NamedInterval} → NamesRise is → AreAlike is ds
      → AreAlike (after_operation op places is) (after_interval_operation op names ds)
  operation-alike op places names start end r b =
      operation-beside IsAlike (λ i d q. ap (λ (j : IndexedInterval). j.label) q) (λ i d q. ap (λ (j : IndexedInterval). j.id) q) op places names
      (λ label name props. new-alike label name places names props start end) (λ given props i d q. with-given given places names props start end i d q) r b
