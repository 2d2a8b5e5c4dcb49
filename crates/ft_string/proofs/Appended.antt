-- Contents that are put at the end of a tree one after another are put there at once.
use Rattle.std.proofs.Common.{◌≡◌, ℕ, ◌+◌, ◌<◌, List, [], ◌∷◌, ◌++◌, refl, sym, ◌∙◌, ap, subst, arith, length, length-append, append_assoc, append-nil, Result, Ok, Err, Some, drop, flat_map, get_or, map}
use Rattle.std.specs.Prelude.{OnOk}
use Rattle.std.proofs.lemmas.List.{drop_more}
use Rattle.ft_tree_leaves.specs.declared.text.TextContent.{TextContent}
use Rattle.ft_tree_leaves.specs.Elements.{element_with}
use Rattle.ft_tree_leaves.specs.TextLeaves.{text_units}
use Rattle.ft_marks.specs.Marks.{stamp_of}
use Rattle.ft_msg.specs.Summary.{segment_bodies}
use Rattle.ft_sumdoc.specs.declared.summary.SegRec.{SegRec}
use Rattle.ft_named.proofs.Lists.{map-append}
use Rattle.ft_props.specs.Element.{ElementContent}
use Rattle.ft_tree.specs.State.{KeepsRest, TreeState}
use Rattle.ft_interval_store.specs.State.{text_elements}
use Rattle.ft_text.specs.Texts.{TextElements}
use Rattle.ft_string.specs.Loads.{Appends, segment_elements, summary_elements}

pub appends-none : (tree : TreeState TextContent) → Appends [] tree tree
appends-none tree = record {
  elements = sym (append-nil (text_elements tree));
  refs = λ r. refl;
  rest = record { floor = refl; sweep = refl; usable = refl };
  made = omega arith;
}

pub appends-next : (front more : TextElements) (old mid new : TreeState TextContent) → Appends front old mid → Appends more mid new
    → Appends (front ++ more) old new
appends-next front more old mid new a b = record {
  elements = b.elements ∙ ap (λ xs. xs ++ more) a.elements ∙ append_assoc (text_elements old) front more;
  refs = λ r. b.refs r ∙ a.refs r;
  rest = record { floor = b.rest.floor ∙ a.rest.floor; sweep = b.rest.sweep ∙ a.rest.sweep; usable = b.rest.usable ∙ a.rest.usable };
  made = let first = a.made in let second = b.made in let both = length-append front more in omega arith;
}

more-units : (ys : List TextContent) (x : TextContent) → flat_map text_units (ys ++ x ∷ []) ≡ flat_map text_units ys ++ text_units x
more-units [] x = append-nil (text_units x)
more-units (y ∷ ys) x = ap (λ us. text_units y ++ us) (more-units ys x) ∙ sym (append_assoc (text_units y) (flat_map text_units ys) (text_units x))

-- ---- the contents of a segment

-- one more of them
content-more : (seg : SegRec) (done : List TextContent) (x : TextContent) (old mid new : TreeState TextContent)
    → Appends (segment_elements seg (flat_map text_units done)) old mid
    → Appends (segment_elements seg (text_units x)) mid new → Appends (segment_elements seg (flat_map text_units (done ++ x ∷ []))) old new
content-more seg done x old mid new a b =
    subst (λ es. Appends es old new)
    (sym (ap (segment_elements seg) (more-units done x)
    ∙ map-append (element_with (record { ins = stamp_of seg.ins; dels = map stamp_of seg.dels }) (Some (stamp_of seg.by)) (record { acked = seg.props; pending = [] }))
    (flat_map text_units done) (text_units x)))
    (appends-next (segment_elements seg (flat_map text_units done)) (segment_elements seg (text_units x)) old mid new a b)

-- what was gone over stands at the end, and with what is left it is all
pub record AppendsSoFar (seg : SegRec) (all done left : List TextContent) (old now : TreeState TextContent) : Type 0 where
  pub appends : Appends (segment_elements seg (flat_map text_units done)) old now
  pub whole : done ++ left ≡ all

pub content-next : (seg : SegRec) (all done : List TextContent) (x : TextContent) (left rest : List TextContent)
    (old mid new : TreeState TextContent) → left ≡ x ∷ rest
    → AppendsSoFar seg all done left old mid → Appends (segment_elements seg (text_units x)) mid new → AppendsSoFar seg all (done ++ x ∷ []) rest old new
content-next seg all done x left rest old mid new front a b = record {
  appends = content-more seg done x old mid new a.appends b;
  whole = append_assoc done (x ∷ []) rest ∙ ap (λ zs. done ++ zs) (sym front) ∙ a.whole;
}

pub contents-done : (seg : SegRec) (all done left : List TextContent) (old new : TreeState TextContent) → left ≡ [] → AppendsSoFar seg all done left old new
    → Appends (segment_elements seg (flat_map text_units all)) old new
contents-done seg all done left old new none a =
    subst (λ xs. Appends (segment_elements seg (flat_map text_units xs)) old new) (sym (append-nil done) ∙ ap (λ zs. done ++ zs) (sym none) ∙ a.whole) a.appends

-- the last one, if there is one, behind those before it
pub with-last : {E : Type 0} (r : Result (Unit {0}) E) (seg : SegRec) (us : List ElementContent) (before : List TextContent)
    (x : TextContent) (old mid new : TreeState TextContent)
    → flat_map text_units (before ++ x ∷ []) ≡ us → Appends (segment_elements seg (flat_map text_units before)) old mid
    → OnOk r (Appends (segment_elements seg (text_units x)) mid new)
    → OnOk r (Appends (segment_elements seg us) old new)
with-last (Ok u) seg us before x old mid new e a b = subst (λ vs. Appends (segment_elements seg vs) old new) e (content-more seg before x old mid new a b)
with-last (Err f) seg us before x old mid new e a b = tt

pub without-last : (seg : SegRec) (us : List ElementContent) (before : List TextContent) (old new : TreeState TextContent)
    → flat_map text_units (before ++ []) ≡ us
    → Appends (segment_elements seg (flat_map text_units before)) old new → Appends (segment_elements seg us) old new
without-last seg us before old new e a = subst (λ vs. Appends (segment_elements seg vs) old new) (ap (flat_map text_units) (sym (append-nil before)) ∙ e) a

-- ---- segments

-- what was gone over stands at the end, and with what the others make it is all
pub record SegmentsSoFar (all rest : List SegRec) (old now : TreeState TextContent) : Type 0 where
  pub whole : (new : TreeState TextContent) → Appends (summary_elements rest) now new → Appends (summary_elements all) old new
  pub keeps : KeepsRest old now

segment-next : (seg : SegRec) (all rest : List SegRec) (old mid new : TreeState TextContent) → SegmentsSoFar all (seg ∷ rest) old mid
    → Appends (segment_elements seg (segment_bodies seg.body)) mid new → SegmentsSoFar all rest old new
segment-next seg all rest old mid new a b = record {
  whole = λ last h. a.whole last (appends-next (segment_elements seg (segment_bodies seg.body)) (summary_elements rest) mid new last b h);
  keeps = record { floor = b.rest.floor ∙ a.keeps.floor; sweep = b.rest.sweep ∙ a.keeps.sweep; usable = b.rest.usable ∙ a.keeps.usable };
}

pub segments-begin : (all : List SegRec) (tree : TreeState TextContent) → SegmentsSoFar all all tree tree
segments-begin all tree = record { whole = λ new h. h; keeps = record { floor = refl; sweep = refl; usable = refl } }

pub segments-next : (all : List SegRec) (i : ℕ) (seg : SegRec) (old mid new : TreeState TextContent) → SegmentsSoFar all (drop i all) old mid → i < length all
    → seg ≡ get_or all i seg → Appends (segment_elements seg (segment_bodies seg.body)) mid new → SegmentsSoFar all (drop (i + 1) all) old new
segments-next all i seg old mid new a l e b =
    segment-next seg all (drop (i + 1) all) old mid new
    (subst (λ segs. SegmentsSoFar all segs old mid) (drop_more all i seg l ∙ ap (λ s. s ∷ drop (i + 1) all) (sym e)) a) b

pub segments-done : (all rest : List SegRec) (old new : TreeState TextContent) → rest ≡ [] → SegmentsSoFar all rest old new
    → Appends (summary_elements all) old new
segments-done all rest old new none a = a.whole new (subst (λ segs. Appends (summary_elements segs) new new) (sym none) (appends-none new))
