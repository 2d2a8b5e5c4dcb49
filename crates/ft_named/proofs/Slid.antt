-- Names that slide stay names of sequenced elements that are there.
use Rattle.std.proofs.Common.{◌≡◌, ℕ, ◌≤◌, Bool, true, false, cond, not, ◌&&◌, List, [], ◌∷◌, Option, Some, None, refl, arith, find}
use Rattle.std.specs.List.{list_any}
use Rattle.std.specs.Option.{option_map, option_or}
use Rattle.ft_base.specs.declared.stamps.Stamp.{Stamp}
use Rattle.ft_base.specs.declared.stamps.Stamp.TheVariants.{Acked, Local}
use Rattle.ft_base.specs.Scan.{len, one_more_if, settled_after}
use Rattle.ft_base.specs.Visibility.{is_acked}
use Rattle.ft_base.proofs.Booleans.{both}
use Rattle.ft_props.specs.Element.{ElementId, ListElement, SequencedId, PendingId, has_id, id, id_of_stamp, is_sequenced, is_unremoved, seen, stamps_of}
use Rattle.ft_props.specs.Slide.{settle, slide}
use Rattle.ft_laws_agreement.specs.Sequencing.{Each}
use Rattle.ft_laws_agreement.proofs.SlidEnds.{same_id-refl}
use Rattle.ft_laws_names.specs.WellNamed.{AreSettledIn, IsSettledIn, StandsIn}
use Rattle.ft_named.proofs.Lists.{each-weaker}
use Rattle.ft_op.specs.Intervals.{Interval as NamedInterval, slide_ends}

-- a fact of the element, if there is one
abbrev OfSome : (ListElement → Type 0) → Option ListElement → Type 0
OfSome P None = Unit {0}
OfSome P (Some e) = P e

module _ (P : ListElement → Type 0) (is ok : ListElement → Bool) where
  of-found : (es : List ListElement) → Each (λ e. ok e ≡ true → P e) es → OfSome P (find ok es)
  of-found [] h = tt
  of-found (e ∷ es) h = step (ok e) refl (of-found es h.1)
    where
      step : (b : Bool) → ok e ≡ b → OfSome P (find ok es) → OfSome P (cond b (Some e) (find ok es))
      step true g rest = h.0 g
      step false g rest = rest

  of-or : (o p : Option ListElement) → OfSome P o → OfSome P p → OfSome P (option_or o p)
  of-or None p a b = b
  of-or (Some e) p a b = a

  of-settled : (es : List ListElement) → Each (λ e. ok e ≡ true → P e) es → (last : Option ListElement) → OfSome P last → OfSome P (settled_after is ok last es)
  of-settled [] h last l = tt
  of-settled (e ∷ es) h last l = step (is e) (of-or (find ok (e ∷ es)) last (of-found (e ∷ es) h) l) (of-settled es h.1 (cond (ok e) (Some e) last) (here (ok e) refl))
    where
      here : (b : Bool) → ok e ≡ b → OfSome P (cond b (Some e) last)
      here true g = h.0 g
      here false g = l

      step : (b : Bool) → OfSome P (option_or (find ok (e ∷ es)) last) → OfSome P (settled_after is ok (cond (ok e) (Some e) last) es)
          → OfSome P (cond b (option_or (find ok (e ∷ es)) last) (settled_after is ok (cond (ok e) (Some e) last) es))
      step true p q = p
      step false p q = q

some-more : (b : Bool) (n : ℕ) → 1 ≤ n → 1 ≤ one_more_if b n
some-more true n l = omega arith
some-more false n l = l

one-more : (b : Bool) (n : ℕ) → b ≡ true → 1 ≤ one_more_if b n
one-more true n h = omega arith
one-more false n h = (cc)

-- the name of each element stands
pub each-there : (es : List ListElement) → Each (λ e. 1 ≤ len (has_id (id e)) es) es
each-there [] = tt
each-there (e ∷ es) = (
  one-more (has_id (id e) e) (len (has_id (id e)) es) (same_id-refl (id e)),
  each-weaker (λ d l. some-more (has_id (id d) e) (len (has_id (id d)) es) l) es (each-there es),
)

sequenced-settled : (es : List ListElement) (e : ListElement) → is_sequenced e ≡ true → 1 ≤ len (has_id (id e)) es → IsSettledIn es (Some (id e))
sequenced-settled es e s l = step e.ins s l
  where
    step : (t : Stamp) → is_acked t ≡ true → 1 ≤ len (has_id (id_of_stamp t e.nth)) es → IsSettledIn es (Some (id_of_stamp t e.nth))
    step (Acked q c) a there = there
    step (Local k) a there = (cc)

from-some : (es : List ListElement) (o : Option ListElement) → OfSome (λ e. IsSettledIn es (Some (id e))) o → IsSettledIn es (option_map id o)
from-some es None h = tt
from-some es (Some e) h = h

pub unremoved-sequenced : (e : ListElement) → is_unremoved e ≡ true → is_sequenced e ≡ true
unremoved-sequenced e h = (both (is_acked e.ins) (not (list_any is_acked (stamps_of e).dels)) h).0

pub slide-settled : (es : List ListElement) (o : Option ElementId) → IsSettledIn es (slide es o)
slide-settled es None = tt
slide-settled es (Some a) = from-some es (settled_after (λ e. is_sequenced e && has_id a e) is_unremoved None es)
    (of-settled (λ e. IsSettledIn es (Some (id e))) (λ e. is_sequenced e && has_id a e) is_unremoved es
    (each-weaker (λ e l u. sequenced-settled es e (unremoved-sequenced e u) l) es (each-there es)) None tt)

pub slides-settled : (es : List ListElement) (ds : List NamedInterval) → AreSettledIn es (slide_ends es ds)
slides-settled es [] = tt
slides-settled es (d ∷ ds) = ((slide-settled es d.start, slide-settled es d.end), slides-settled es ds)

-- names that stand after a step
pub settled-after : (es fs : List ListElement) → ((a : ElementId) → 1 ≤ len (has_id a) es → 1 ≤ len (has_id a) fs) → (o : Option ElementId)
    → IsSettledIn es o → IsSettledIn fs o
settled-after es fs h None s = tt
settled-after es fs h (Some (SequencedId n)) s = h (SequencedId n) s
settled-after es fs h (Some (PendingId k n)) s = absurd s

pub all-stay : (es fs : List ListElement) → ((a : ElementId) → 1 ≤ len (has_id a) es → 1 ≤ len (has_id a) fs) → (ds : List NamedInterval)
    → AreSettledIn es ds → AreSettledIn fs ds
all-stay es fs h [] s = tt
all-stay es fs h (d ∷ ds) s = ((settled-after es fs h d.start s.0.0, settled-after es fs h d.end s.0.1), all-stay es fs h ds s.1)

-- where an end settles there is an element
from-there : (es : List ListElement) (o : Option ListElement) → OfSome (λ e. 1 ≤ len (has_id (id e)) es) o → StandsIn es (option_map id o)
from-there es None h = tt
from-there es (Some e) h = h

pub settle-stands : (es : List ListElement) (k : ℕ) (o : Option ElementId) → StandsIn es (settle es k o)
settle-stands es k None = tt
settle-stands es k (Some a) =
    from-there es (settled_after (has_id a) (seen k) None es)
    (of-settled (λ e. 1 ≤ len (has_id (id e)) es) (has_id a) (seen k) es (each-weaker (λ e l u. l) es (each-there es)) None tt)
