-- The intervals of a summary, which are added one after another by rising names, each behind those before.
use Rattle.std.proofs.Common.{◌≡◌, ℕ, ◌+◌, ◌<◌, Bool, true, false, cond, ◌&&◌, ◌||◌, is_some, IsTrue, List, [], ◌∷◌, ◌++◌, Option, None, refl, sym, ◌∙◌, ap, subst, arith, append_assoc, bytes_eq, drop, get_or, length, map, take}
use Rattle.std.proofs.lemmas.List.{map-append, take-append-drop, take_more}
use Rattle.std.proofs.lemmas.Slice.Eq.{bytes_eq-Decides}
use Rattle.std.specs.Ordering.{is_lt, ordering_then}
use Rattle.std.specs.declared.cmp.Ordering.{Ordering}
use Rattle.std.specs.declared.cmp.Ordering.TheVariants.{Less, Equal, Greater}
use Rattle.ft_base.proofs.Booleans.{both}
use Rattle.ft_base.specs.declared.elements.Perspective.{Perspective}
use Rattle.ft_base.specs.Scan.{len}
use Rattle.ft_block.specs.declared.leaves.LenView.TheVariants.{At}
use Rattle.ft_interval_store.specs.declared.intervals.Interval.{Interval}
use Rattle.ft_interval_store.specs.Ends.{map_ends, places_of_given, slid_end}
use Rattle.ft_interval_store.specs.Intervals.{Name, interval_cmp, interval_of, name_cmp, name_of}
use Rattle.ft_interval_store.specs.State.{CollectionsState, KeepsReferences, placed, text_elements, with_effect}
use Rattle.ft_interval_store.proofs.RisingNames.{name_cmp-back, name_cmp-trans}
use Rattle.ft_laws_agreement.specs.Sequencing.{Each}
use Rattle.ft_tree_leaves.specs.declared.text.TextContent.{TextContent}
use Rattle.ft_tree_leaves.specs.Elements.{seen_in}
use Rattle.ft_tree_leaves.specs.References.{reference_at}
use Rattle.ft_op.specs.declared.operations.TextOp.{TextOp}
use Rattle.ft_op.specs.Document.{ends_of, given_ends_fit}
use Rattle.ft_props.specs.Keys.{Characters, put_rising, text_cmp}
use Rattle.ft_props.specs.Properties.{PropertyList}
use Rattle.ft_props.proofs.RisingKeys.{text_cmp-same}
use Rattle.ft_sumdoc.specs.declared.summary.IntervalRec.{IntervalRec}
use Rattle.ft_sumdoc.specs.Forms.{rises}
use Rattle.ft_sumdoc.specs.Valid.{is_interval_before}
use Rattle.ft_tree.specs.State.{TreeState}
use Rattle.ft_text.specs.Texts.{TextElements}
use Rattle.ft_string.specs.Loads.{AddsInterval, AllFitOn, HasIntervals, IsAddOf, everybody, fits_on, interval_on, with_one_more}
use Rattle.ft_string.proofs.AppliedIntervals.{kept-sound}
use Rattle.ft_string.proofs.PutLast.{each-at, each-map, put-last}

-- ---- names

name-before : (o : Ordering) (same : Bool) (p : Ordering) → (same ≡ true → o ≡ Equal) → is_lt o || (same && is_lt p) ≡ true → ordering_then o p ≡ Less
name-before Less same p f h = refl
name-before Equal same Less f h = refl
name-before Equal true Equal f h = (cc)
name-before Equal false Equal f h = (cc)
name-before Equal true Greater f h = (cc)
name-before Equal false Greater f h = (cc)
name-before Greater true p f h = (let wrong = f refl in cc)
name-before Greater false p f h = (cc)

abbrev rec_name : IntervalRec → Name
rec_name i = (i.label, i.id)

rec-before : (i j : IntervalRec) → is_interval_before i j ≡ true → name_cmp (rec_name i) (rec_name j) ≡ Less
rec-before i j h =
    name-before (text_cmp i.label j.label) (bytes_eq i.label j.label) (text_cmp i.id j.id)
    (λ e. ap (λ (l : Characters). text_cmp i.label l) (sym ((bytes_eq-Decides i.label j.label).0 e)) ∙ text_cmp-same i.label) h

-- each one comes before the last of rising ones
all-before : (front : List IntervalRec) (x : IntervalRec) (rest : List IntervalRec) → rises is_interval_before (front ++ x ∷ rest) ≡ true
    → Each (λ d. name_cmp (rec_name d) (rec_name x) ≡ Less) front
all-before [] x rest h = tt
all-before (d ∷ []) x rest h = (rec-before d x (both (is_interval_before d x) (rises is_interval_before (x ∷ rest)) h).0, tt)
all-before (d ∷ e ∷ front) x rest h =
    let p = both (is_interval_before d e) (rises is_interval_before (e ∷ front ++ x ∷ rest)) h in
    let more = all-before (e ∷ front) x rest p.1 in
    (name_cmp-trans (rec_name d) (rec_name e) (rec_name x) (rec-before d e p.0) more.0, more)

all-behind : (xs : TextElements) (x : IntervalRec) (front : List IntervalRec) → Each (λ d. name_cmp (rec_name d) (rec_name x) ≡ Less) front
    → Each (λ d. name_cmp (rec_name x) (name_of (interval_on xs d)) ≡ Greater) front
all-behind xs x [] h = tt
all-behind xs x (d ∷ front) h = (name_cmp-back (rec_name d) (rec_name x) h.0, all-behind xs x front h.1)

not-here : (n : Name) (y : Interval ℕ) (ys : List (Interval ℕ)) → name_cmp n (name_of y) ≡ Greater → interval_of n (y ∷ ys) ≡ interval_of n ys
not-here n y ys h = grind arith

absent : (n : Name) (ys : List (Interval ℕ)) → Each (λ y. name_cmp n (name_of y) ≡ Greater) ys → interval_of n ys ≡ None
absent n [] h = refl
absent n (y ∷ ys) h = not-here n y ys h.0 ∙ absent n ys h.1

-- one more is put at the end
added-last : (xs : TextElements) (front : List IntervalRec) (x : IntervalRec) (rest : List IntervalRec) → rises is_interval_before (front ++ x ∷ rest) ≡ true
    → with_one_more (interval_on xs x) (map (interval_on xs) front) ≡ map (interval_on xs) (front ++ x ∷ [])
added-last xs front x rest h =
    let there = map (interval_on xs) front in
    let behind : Each (λ (y : Interval ℕ). name_cmp (rec_name x) (name_of y) ≡ Greater) (map (interval_on xs) front) =
    each-map (interval_on xs) (λ y. name_cmp (rec_name x) (name_of y) ≡ Greater) front (all-behind xs x front (all-before front x rest h)) in
    ap (λ (o : Option (Interval ℕ)). cond (is_some o) there (put_rising interval_cmp (interval_on xs x) there)) (absent (rec_name x) there behind)
    ∙ put-last interval_cmp (interval_on xs x) there behind ∙ sym (map-append (interval_on xs) front (x ∷ []))

-- ---- one interval

-- the collections after it was added with these properties
abbrev after_adding : TextElements → IntervalRec → CollectionsState → PropertyList → CollectionsState
after_adding xs i c props = record { acked = with_one_more (record (interval_on xs i) { props = props }) c.acked; pending = c.pending }

-- what the operation that adds it makes
adds : (i : IntervalRec) (op : TextOp) (xs : TextElements) (c : CollectionsState) → IsAddOf i op
    → with_effect op (map_ends (slid_end xs) (places_of_given (seen_in (At everybody)) xs (ends_of op))) c
    ≡ record { acked = with_one_more (interval_on xs i) c.acked; pending = c.pending }
adds i op xs c a =
    ap (λ (o : TextOp). with_effect o (map_ends (slid_end xs) (places_of_given (seen_in (At everybody)) xs (ends_of o))) c) a.is
    ∙ ap (after_adding xs i c) a.makes

-- the call that applies it adds it
pub interval-added : (i : IntervalRec) (op : TextOp) (at' : Perspective) (before after : TreeState TextContent)
    (old new : CollectionsState) (fits : Bool) → at' ≡ everybody
    → IsAddOf i op → fits_on (text_elements before) i ≡ true → fits ≡ given_ends_fit (len (seen_in (At at')) (text_elements before)) (ends_of op)
    → (fits ≡ true → placed after.refs new
    ≡ with_effect op (map_ends (slid_end (text_elements before)) (places_of_given (seen_in (At at')) (text_elements before) (ends_of op))) (placed before.refs old))
    → (fits ≡ true → KeepsReferences old new before.refs after.refs) → after ≡ record before { refs = after.refs } → AddsInterval i old new before after
interval-added i op at' before after old new fits same a fit told effect refs leaves =
    let xs = text_elements before in
    let yes : fits ≡ true =
    told ∙ ap (λ (p : Perspective). given_ends_fit (len (seen_in (At p)) xs) (ends_of op)) same
    ∙ ap (λ (o : TextOp). given_ends_fit (len (seen_in (At everybody)) xs) (ends_of o)) a.is ∙ fit in
    record {
      placed_are = effect yes
          ∙ ap (λ (p : Perspective). with_effect op (map_ends (slid_end xs) (places_of_given (seen_in (At p)) xs (ends_of op))) (placed before.refs old)) same
          ∙ adds i op xs (placed before.refs old) a;
      refs = refs yes;
      leaves = leaves;
    }

-- ---- all of them

pub none-on : (tree : TreeState TextContent) → IsTrue tree.usable → ((r : ℕ) → reference_at tree.refs r ≡ None)
    → HasIntervals [] tree tree (record { acked = []; pending = [] })
none-on tree usable bare = record {
  placed_are = refl;
  leaves = refl;
  sound = record {
    tree = usable;
    live = λ r e. absurd (not-kept e);
    marked = record { acked = λ r e. absurd (not-kept e); pending = λ r e. absurd (not-kept e) };
    only = λ r e. bare r;
  };
}
  where
    not-kept : false ≡ true → ⊥
    not-kept e = (cc)

-- collections of these intervals alone, and with one more
abbrev with_acked : List (Interval ℕ) → CollectionsState
with_acked is = record { acked = is; pending = [] }

abbrev with_interval : Interval ℕ → CollectionsState → CollectionsState
with_interval x c = record { acked = with_one_more x c.acked; pending = c.pending }

next-on : (front : List IntervalRec) (x : IntervalRec) (rest : List IntervalRec) (old mid new : TreeState TextContent) (c d : CollectionsState)
    → rises is_interval_before (front ++ x ∷ rest) ≡ true → HasIntervals front old mid c → AddsInterval x c d mid new → HasIntervals (front ++ x ∷ []) old new d
next-on front x rest old mid new c d rise h a =
    let same : text_elements mid ≡ text_elements old = ap text_elements h.leaves in
    record {
      placed_are = a.placed_are
          ∙ ap (λ (s : CollectionsState). with_interval (interval_on (text_elements mid) x) s) h.placed_are
          ∙ ap (λ (xs : TextElements). with_interval (interval_on xs x) (with_acked (map (interval_on (text_elements old)) front))) same
          ∙ ap with_acked (added-last (text_elements old) front x rest rise);
      leaves = a.leaves ∙ ap (λ (t : TreeState TextContent). record t { refs = new.refs }) h.leaves;
      sound = kept-sound mid new c d h.sound a.leaves a.refs;
    }

pub interval-next : (recs : List IntervalRec) (i : ℕ) (x : IntervalRec) (old mid new : TreeState TextContent) (c d : CollectionsState)
    → rises is_interval_before recs ≡ true → i < length recs → x ≡ get_or recs i x → HasIntervals (take i recs) old mid c → AddsInterval x c d mid new
    → HasIntervals (take (i + 1) recs) old new d
interval-next recs i x old mid new c d rise l e h a =
    let next : take (i + 1) recs ≡ take i recs ++ x ∷ [] = take_more recs i x l ∙ ap (λ y. take i recs ++ y ∷ []) (sym e) in
    let whole : (take i recs ++ x ∷ []) ++ drop (i + 1) recs ≡ recs = ap (λ ys. ys ++ drop (i + 1) recs) (sym next) ∙ take-append-drop (i + 1) recs in
    subst (λ ys. HasIntervals ys old new d) (sym next)
    (next-on (take i recs) x (drop (i + 1) recs) old mid new c d
    (ap (rises is_interval_before) (sym (append_assoc (take i recs) (x ∷ []) (drop (i + 1) recs)) ∙ whole) ∙ rise) h a)

-- the interval at hand fits
pub fits-here : (recs : List IntervalRec) (i : ℕ) (x : IntervalRec) (old mid : TreeState TextContent) → mid ≡ record old { refs = mid.refs } → i < length recs
    → x ≡ get_or recs i x → AllFitOn (text_elements old) recs → fits_on (text_elements mid) x ≡ true
fits-here recs i x old mid leaves l e h =
    ap (λ (xs : TextElements). fits_on xs x) (ap text_elements leaves) ∙ each-at (λ (y : IntervalRec). fits_on (text_elements old) y ≡ true) recs i x l e h
