-- A segment before others that are made from the front: it joins the open one or ends it.
use Rattle.std.proofs.Common.{◌≡◌, Bool, true, false, not, cond, ◌&&◌, List, [], ◌∷◌, ◌++◌, Option, Some, refl, sym, ◌∙◌, ap}
use Rattle.ft_base.proofs.Booleans.{both}
use Rattle.ft_sumdoc.specs.declared.summary.SegRec.{SegRec}
use Rattle.ft_sumdoc.specs.WellFormed.{are_alike}
use Rattle.ft_msg.specs.OpenSegments.{ended_segments, open_segment}
use Rattle.ft_msg.specs.SummaryOf.{extended_segments, joined, joined_bodies}
use Rattle.ft_msg.proofs.AlikeSegments.{alike, alike-before, alike-behind, alike-with, joined-together}

-- before no segment
alone : (t : Bool) (last seg : SegRec) → cond t (joined last seg ∷ []) (last ∷ seg ∷ []) ≡ cond t [] (last ∷ []) ++ (cond t (joined last seg) seg ∷ [])
alone true last seg = refl
alone false last seg = refl

-- before others: whether the element joins the open segment, and whether it joins the next one
before_others : (e f : Bool) (last seg next : SegRec) (segs : List SegRec) (t u : Bool) → (not e && are_alike last seg) ≡ t → (not f && are_alike seg next) ≡ u
    → extended_segments e last (cond u (joined seg next ∷ segs) (seg ∷ next ∷ segs)) ≡ cond t [] (last ∷ []) ++ extended_segments f (cond t (joined last seg) seg) (next ∷ segs)
before_others e f last seg next segs true true h k =
    let front = (both (not e) (are_alike last seg) h).1 in
    let back = (both (not f) (are_alike seg next) k).1 in
    ap (λ b. cond (not e && b) (joined last (joined seg next) ∷ segs) (last ∷ joined seg next ∷ segs)) (alike-before last seg next back)
    ∙ ap (λ b. cond b (joined last (joined seg next) ∷ segs) (last ∷ joined seg next ∷ segs)) h
    ∙ ap (λ x. x ∷ segs) (joined-together last seg next front back)
    ∙ sym (ap (λ b. cond b (joined (joined last seg) next ∷ segs) (joined last seg ∷ next ∷ segs)) k)
    ∙ sym (ap (λ b. cond (not f && b) (joined (joined last seg) next ∷ segs) (joined last seg ∷ next ∷ segs)) (alike-behind last seg next front))
before_others e f last seg next segs true false h k =
    let front = (both (not e) (are_alike last seg) h).1 in
    ap (λ b. cond b (joined last seg ∷ next ∷ segs) (last ∷ seg ∷ next ∷ segs)) h
    ∙ sym (ap (λ b. cond b (joined (joined last seg) next ∷ segs) (joined last seg ∷ next ∷ segs)) k)
    ∙ sym (ap (λ b. cond (not f && b) (joined (joined last seg) next ∷ segs) (joined last seg ∷ next ∷ segs)) (alike-behind last seg next front))
before_others e f last seg next segs false true h k =
    let back = (both (not f) (are_alike seg next) k).1 in
    ap (λ b. cond (not e && b) (joined last (joined seg next) ∷ segs) (last ∷ joined seg next ∷ segs)) (alike-before last seg next back)
    ∙ ap (λ b. cond b (joined last (joined seg next) ∷ segs) (last ∷ joined seg next ∷ segs)) h
    ∙ sym (ap (λ b. last ∷ cond b (joined seg next ∷ segs) (seg ∷ next ∷ segs)) k)
before_others e f last seg next segs false false h k =
    ap (λ b. cond b (joined last seg ∷ next ∷ segs) (last ∷ seg ∷ next ∷ segs)) h ∙ sym (ap (λ b. last ∷ cond b (joined seg next ∷ segs) (seg ∷ next ∷ segs)) k)

-- the next segment goes into the open one or ends it
pub extended-next : (e f : Bool) (last seg : SegRec) (segs : List SegRec)
    → extended_segments e last (extended_segments f seg segs) ≡ ended_segments e (Some last) seg ++ extended_segments f (open_segment e (Some last) seg) segs
extended-next e f last seg [] = alone (not e && are_alike last seg) last seg
extended-next e f last seg (next ∷ segs) = before_others e f last seg next segs (not e && are_alike last seg) (not f && are_alike seg next) refl refl

-- an open segment that the next one joins
pub segment-joined : (begins : Bool) (given : Option SegRec) (last next seg : SegRec) → given ≡ Some last → begins ≡ false → are_alike last next ≡ true
    → seg ≡ record last { body = joined_bodies last.body next.body } → seg ≡ open_segment begins given next
segment-joined begins given last next seg is goes_on same made =
    made ∙ alike-with last next (alike last next same) (joined_bodies last.body next.body)
    ∙ sym (ap (λ o. open_segment begins o next) is ∙ ap (λ b. cond (not b && are_alike last next) (joined last next) next) goes_on ∙ ap
    (λ b. cond b (joined last next) next) same)
