-- What the client's own operations on elements make of a tree of text, and of the document that this holds.
use Rattle.std.proofs.Common.{◌≡◌, ℕ, suc, ◌+◌, ◌-◌, ◌≤◌, ◌<◌, Bool, true, false, cond, nat_le, List, [], ◌∷◌, ◌++◌, Option, None, Result, Ok, Err, refl, sym, ◌∙◌, ap, subst, arith, length, map, option_map, append_assoc, append-nil, inl, inr, ◌⊎◌, is_ok}
use Rattle.std.proofs.lemmas.Bool.Decides.{nat_tests}
use Rattle.ft_base.specs.declared.stamps.Stamp.TheVariants.{Local}
use Rattle.ft_base.specs.Scan.{change_range, len, no_run, put}
use Rattle.ft_block.specs.Leaves.{last_stage}
use Rattle.ft_interval_store.specs.State.{CollectionsState, text_elements}
use Rattle.ft_interval_store.specs.Ends.{place_of_end}
use Rattle.ft_tree_leaves.specs.declared.references.Reference.{Reference}
use Rattle.ft_tree_leaves.specs.declared.text.TextContent.{TextContent}
use Rattle.ft_tree_leaves.specs.Edits.{with_place}
use Rattle.ft_tree_leaves.specs.Elements.{seen_in}
use Rattle.ft_tree_leaves.specs.Places.{put_place, shifted_place}
use Rattle.ft_tree_leaves.specs.References.{ChangesReferences}
use Rattle.ft_msg.specs.declared.faults.EditFault.{EditFault}
use Rattle.ft_msg.specs.declared.faults.EditFault.TheVariants.{OutOfRange}
use Rattle.ft_msg.specs.Client.{if_in_range, local_sub_operations, local_text}
use Rattle.ft_msg.specs.Indexed.{indexed_stage}
use Rattle.ft_op.specs.declared.operations.BaseOp.{BaseOp}
use Rattle.ft_op.specs.declared.operations.BaseOp.TheVariants.{Insert, Remove, Annotate}
use Rattle.ft_op.specs.Document.{Document}
use Rattle.ft_op.specs.Intervals.{NamedElements, no_elements}
use Rattle.ft_op.specs.Operation.{OnText, segment_contents}
use Rattle.ft_op.specs.Stages.{Stage}
use Rattle.ft_props.specs.Element.{ListElement, seen, with_pending_annotation, with_pending_removal}
use Rattle.ft_props.specs.Element.{new_elements as document_elements}
use Rattle.ft_props.specs.Properties.{apply}
use Rattle.ft_laws_agreement.proofs.AgreedStage.{len-put-add}
use Rattle.ft_laws_agreement.proofs.RangesOfLists.{len-range}
use Rattle.ft_laws_names.proofs.NumberedLists.{later-numbered}
use Rattle.ft_tree.specs.State.{TreeState}
use Rattle.ft_text.specs.Lengths.{count_after, count_after_all, end_of}
use Rattle.ft_string.specs.Bare.{text_content}
use Rattle.ft_msg.specs.Overlap.{is_on_intervals}
use Rattle.ft_string.specs.Holds.{element_stages, interval_stages, is_on_elements}
use Rattle.ft_string.specs.Parts.{TakesOp, TakesOps, noted}
use Rattle.ft_string.specs.State.{element_stage}
use Rattle.ft_string.specs.declared.pending.PendingOp.{PendingOp}
use Rattle.ft_string.proofs.Applied.{Holds, elements-of, same-contents}
use Rattle.ft_named.proofs.Bares.{AreElements}
use Rattle.ft_named.proofs.Changed.{is_up_to, seen-later}
use Rattle.ft_string.proofs.Documents.{keeps-end, keeps-settled, sound-step, step-holds, step-named}
use Rattle.ft_string.proofs.Ends.{end-moved, same-names}
use Rattle.ft_named.proofs.ListSteps.{StepsList, mark-names, note-names, range-step}
use Rattle.ft_named.proofs.Slid.{all-stay}
use Rattle.ft_string.proofs.Stages.{AreNamesIn}
use Rattle.ft_named.proofs.Lists.{all-put, all-range, filter-append, map-append, each-append}
use Rattle.ft_named.proofs.OwnSteps.{AreUpTo, later-all, new-up_to, marked-up_to, noted-up_to, local-alike, local-step, marks-alike, notes-alike, same-next, seen-new, inside-is, removed-count, unseen-marked}
use Rattle.ft_named.proofs.SubOperations.{next-taken, next-refused, first-refused}

-- ---- the document after it

-- the list after an operation of stage m + 1
abbrev pub taken_items : ℕ → BaseOp → List ListElement → List ListElement
taken_items m (Insert p seg props) es = put (seen m) no_run p (document_elements 0 (Local (m + 1)) [] None (apply [] props) (segment_contents seg)) es
taken_items m (Remove p q) es = change_range (seen m) p q (with_pending_removal (m + 1)) es
taken_items m (Annotate p q changes) es = change_range (seen m) p q (with_pending_annotation (m + 1) changes) es

abbrev pub taken_document : ℕ → BaseOp → Document → Document
taken_document m op doc = record doc { text = record { items = taken_items m op doc.text.items; made = doc.text.made } }

before : (m : ℕ) → m + 1 - 1 ≡ m
before m = omega arith

-- what the definitions make of it
pub text-taken : (m : ℕ) (op : BaseOp) (doc : Document) → local_text doc (m + 1) op ≡ if_in_range (end_of op) (len (seen m) doc.text.items) (taken_document m op doc)
text-taken m (Insert p seg props) doc = rw (before m) refl
text-taken m (Remove p q) doc = rw (before m) refl
text-taken m (Annotate p q changes) doc = rw (before m) refl

pub taken-up_to : (m : ℕ) (op : BaseOp) (es : List ListElement) → AreUpTo m es → AreUpTo (m + 1) (taken_items m op es)
taken-up_to m (Insert p seg props) es h =
    all-put (is_up_to (m + 1)) (seen m) no_run p (document_elements 0 (Local (m + 1)) [] None (apply [] props) (segment_contents seg)) es
    (new-up_to 0 (m + 1) (apply [] props) (segment_contents seg)) (later-all m (m + 1) (omega arith) es h)
taken-up_to m (Remove p q) es h =
    all-range (is_up_to (m + 1)) (seen m) (with_pending_removal (m + 1)) (λ e g. marked-up_to (m + 1) e g) 0 p q es (later-all m (m + 1) (omega arith) es h)
taken-up_to m (Annotate p q changes) es h =
    all-range (is_up_to (m + 1)) (seen m) (with_pending_annotation (m + 1) changes) (λ e g. noted-up_to (m + 1) changes e g) 0 p q es (later-all m (m + 1) (omega arith) es h)

-- the positions are in order
abbrev pub IsOrdered : BaseOp → Type 0
IsOrdered (Insert p seg props) = Unit {0}
IsOrdered (Remove p q) = p ≤ q
IsOrdered (Annotate p q changes) = p ≤ q

pub count-taken : (m : ℕ) (op : BaseOp) (es : List ListElement) → AreUpTo m es → IsOrdered op → end_of op ≤ len (seen m) es
    → len (seen (m + 1)) (taken_items m op es) ≡ count_after (len (seen m) es) op
count-taken m (Insert p seg props) es h o l =
    let sum = len-put-add (seen (m + 1)) (seen m) no_run p (document_elements 0 (Local (m + 1)) [] None (apply [] props) (segment_contents seg)) es in
    let new = seen-new 0 (m + 1) (apply [] props) (segment_contents seg) in
    let old = same-next m (m + 1) (omega arith) es h in
    omega arith
count-taken m (Remove p q) es h o l =
    let sum = removed-count (is_up_to m) (seen m) (seen (m + 1)) (with_pending_removal (m + 1)) p q (λ e g. seen-later m (m + 1) (omega arith) e g)
    (λ e g. unseen-marked m e) 0 es h in
    let window = inside-is 0 p q (len (seen m) es) (omega arith) in
    omega arith
count-taken m (Annotate p q changes) es h o l =
    len-range (seen (m + 1)) (seen m) (with_pending_annotation (m + 1) changes) (λ e. refl) p q 0 es ∙ same-next m (m + 1) (omega arith) es h

-- ---- the document's part

-- the stage of an operation on elements
abbrev pub stage_of : ℕ → BaseOp → Stage
stage_of k op = record { stage = k; sub_operation = OnText op; names = no_elements }

module _ (c : CollectionsState) (ops : List PendingOp) (given : ℕ) (usable : Bool) (stages : List Stage) where
  -- a stage more on elements
  pub push-op : (tree : TreeState TextContent) (doc : Document) (m : ℕ) (op : BaseOp) → Holds tree c ops given usable (m + 1) doc stages
      → Holds tree c (ops ++ (record { stage = m + 1; op = op } ∷ [])) given usable (m + 1) doc (stages ++ (stage_of (m + 1) op ∷ []))
  push-op tree doc m op h = record {
    named = record {
      list = h.named.list;
      intervals = h.named.intervals;
      names = each-append (λ t. AreNamesIn doc.text.items t.sub_operation t.names) stages (stage_of (m + 1) op ∷ []) h.named.names (refl, tt);
    };
    sound = h.sound;
    holds = record {
      elements = h.holds.elements;
      made = h.holds.made;
      intervals = h.holds.intervals;
      ops = map-append element_stage ops (record { stage = m + 1; op = op } ∷ []) ∙ ap (λ ss. ss ++ (indexed_stage doc (stage_of (m + 1) op) ∷ [])) h.holds.ops
          ∙ sym (ap (map (indexed_stage doc)) (filter-append (λ t. is_on_elements t.sub_operation) stages (stage_of (m + 1) op ∷ []))
          ∙ map-append (indexed_stage doc) (element_stages stages) (stage_of (m + 1) op ∷ []));
      interval_ops = h.holds.interval_ops
          ∙ ap (map (indexed_stage doc)) (sym (filter-append (λ t. is_on_intervals t.sub_operation) stages (stage_of (m + 1) op ∷ []) ∙ append-nil (interval_stages stages)));
    };
  }

  module _ (m : ℕ) (fits : m < 18446744073709551616) (tree new : TreeState TextContent) (doc : Document) (h : Holds tree c ops given usable m doc stages)
      (up : AreUpTo m doc.text.items) where
    moved-op : (op : BaseOp) (count : ℕ) (f : ℕ → ℕ) → AreElements text_content (text_elements new) (taken_items m op doc.text.items)
        → StepsList (m + 1) count f doc.text (taken_document m op doc).text → new.made ≡ tree.made + count
        → ((r : Option ℕ) → place_of_end new.refs r ≡ option_map f (place_of_end tree.refs r)) → (g : Reference → Reference)
        → ((x : Reference) → (g x).acked ≡ x.acked)
        → ChangesReferences g tree.refs new.refs → new.usable ≡ tree.usable
        → Holds new c ops given usable (m + 1) (taken_document m op doc) stages
    moved-op op count f list step made moved g k changes same =
        let after = taken_document m op doc in
        record {
          named = step-named tree new c ops given usable m (m + 1) count f (λ o. o) doc after stages h.named h.sound h.holds list step made (sym (same-names doc.intervals))
              (λ r o a t e. keeps-settled (m + 1) count f doc.text after.text step tree.refs new.refs moved r o t e)
              (λ r o a t e. keeps-end (m + 1) count f doc.text after.text step tree.refs new.refs moved r o t e)
              (all-stay doc.text.items after.text.items step.stays doc.intervals h.named.intervals);
          sound = sound-step g k tree new c changes same h.sound;
          holds = step-holds tree new c ops given usable m (m + 1) count f (λ o. o) doc after stages h.named h.sound h.holds list step made (sym (same-names doc.intervals))
              (λ r o a t e. keeps-settled (m + 1) count f doc.text after.text step tree.refs new.refs moved r o t e)
              (λ r o a t e. keeps-end (m + 1) count f doc.text after.text step tree.refs new.refs moved r o t e);
        }

    unmoved : ChangesReferences (with_place (λ i. i)) tree.refs new.refs → (r : Option ℕ)
        → place_of_end new.refs r ≡ option_map (λ i. i) (place_of_end tree.refs r)
    unmoved changes r = end-moved (λ i. i) tree.refs new.refs changes r

    pub taken-op : (op : BaseOp) → TakesOp (m + 1) op tree new → Holds new c ops given usable (m + 1) (taken_document m op doc) stages
    taken-op (Insert p seg props) t =
        let us = segment_contents seg in
        let b = elements-of c ops given usable m stages tree doc h in
        let f = shifted_place (put_place (seen_in last_stage) no_run p (text_elements tree)) (length us) in
        moved-op (Insert p seg props) (length us) f
        (subst (λ xs. AreElements text_content xs (taken_items m (Insert p seg props) doc.text.items)) (sym t.elements)
        (local-alike text_content m fits p (apply [] props) us us (same-contents us) up b))
        (local-step text_content m fits p (apply [] props) us us (same-contents us) doc.text h.named.list up b) t.made
        (λ r. end-moved f tree.refs new.refs t.refs r) (with_place f) (λ x. refl) t.refs t.rest.usable
    taken-op (Remove p q) t =
        let b = elements-of c ops given usable m stages tree doc h in
        moved-op (Remove p q) 0 (λ i. i)
        (subst (λ xs. AreElements text_content xs (taken_items m (Remove p q) doc.text.items)) (sym t.elements) (marks-alike text_content m fits p q up b))
        (range-step (m + 1) p q (seen m) (with_pending_removal (m + 1)) (mark-names (m + 1)) doc.text (later-numbered m (m + 1) doc.text (omega arith) h.named.list))
        t.made (λ r. unmoved t.refs r) (with_place (λ i. i)) (λ x. refl) t.refs t.rest.usable
    taken-op (Annotate p q changes) t =
        let b = elements-of c ops given usable m stages tree doc h in
        moved-op (Annotate p q changes) 0 (λ i. i)
        (subst (λ xs. AreElements text_content xs (taken_items m (Annotate p q changes) doc.text.items)) (sym t.elements) (notes-alike text_content m fits p q changes up b))
        (range-step (m + 1) p q (seen m) (with_pending_annotation (m + 1) changes) (note-names (m + 1) changes) doc.text
        (later-numbered m (m + 1) doc.text (omega arith) h.named.list))
        t.made (λ r. unmoved t.refs r) (with_place (λ i. i)) (λ x. refl) t.refs t.rest.usable

-- ---- operations one after another

-- each has its positions in order
abbrev pub AreOrdered : List BaseOp → Type 0
AreOrdered [] = Unit {0}
AreOrdered (op ∷ os) = IsOrdered op × AreOrdered os

pub fits-true : (p n : ℕ) (doc : Document) → nat_le p n ≡ true → if_in_range p n doc ≡ Ok (doc, no_elements)
fits-true p n doc h = ap (λ b. cond b (Ok (doc, no_elements)) (Err (OutOfRange n))) h

fits-false : (p n : ℕ) (doc : Document) → nat_le p n ≡ false → if_in_range p n doc ≡ Err (OutOfRange n)
fits-false p n doc h = ap (λ b. cond b (Ok (doc, no_elements)) (Err (OutOfRange n))) h

refused-as : {a b : EditFault} → a ≡ b → let r : Result (Document × NamedElements) EditFault = Err a in let s : Result (Document × NamedElements) EditFault = Err b in r ≡ s
refused-as h = (cc)

pub count-step : (b : Bool) (r : Result ℕ EditFault) (fault : EditFault) → is_ok (cond b r (Err fault)) ≡ true → (b ≡ true) × (is_ok r ≡ true)
count-step true r fault h = (refl, h)
count-step false r fault h = (cc)

count-refused : (b : Bool) (r : Result ℕ EditFault) (mine fault : EditFault) → cond b r (Err mine) ≡ Err fault
    → ((b ≡ true) × (r ≡ Err fault)) ⊎ ((b ≡ false) × (mine ≡ fault))
count-refused true r mine fault h = inl (refl, h)
count-refused false r mine fault h = inr (refl, (cc))

pub le-back : (m n : ℕ) → nat_le m n ≡ true → m ≤ n
le-back m n h = grind (arith, nat_tests)

-- operations that fit are taken, and what they make is held
pub record TookOps (c : CollectionsState) (ops : List PendingOp) (given : ℕ) (usable : Bool) (stages : List Stage) (m : ℕ) (os : List BaseOp) (new : TreeState TextContent) (doc : Document)
    : Type 0 where
  pub after : Document
  pub more : List Stage
  pub is : local_sub_operations doc stages (m + 1) (map (λ o. OnText o) os) ≡ Ok (after, more)
  pub holds : Holds new c (ops ++ noted (m + 1) os) given usable (m + length os) after (stages ++ more)
  pub counted : length more ≡ length os

pub takes-ops : (c : CollectionsState) (ops : List PendingOp) (given : ℕ) (usable : Bool) (stages : List Stage) (m : ℕ) (os : List BaseOp)
    → m + length os < 18446744073709551616 → (tree new : TreeState TextContent) (doc : Document)
    → Holds tree c ops given usable m doc stages → AreUpTo m doc.text.items
    → AreOrdered os → is_ok (count_after_all (len (seen m) doc.text.items) os) ≡ true → TakesOps (m + 1) os tree new
    → TookOps c ops given usable stages m os new doc
takes-ops c ops given usable stages m [] l tree new doc h up o fits t = record {
  after = doc;
  more = [];
  is = refl;
  holds = subst (λ n. Holds new c (ops ++ []) given usable n doc (stages ++ [])) (zero-more m)
      (subst (λ ts. Holds new c (ops ++ []) given usable m doc ts) (sym (append-nil stages)) (subst (λ ps. Holds new c ps given usable m doc stages) (sym (append-nil ops))
      (subst (λ x. Holds x c ops given usable m doc stages) (sym t) h)));
  counted = refl;
}
  where
    zero-more : (n : ℕ) → n ≡ n + 0
    zero-more n = omega arith
takes-ops c ops given usable stages m (op ∷ os) l tree new doc h up o fits t =
    let n = len (seen m) doc.text.items in
    let f = count-step (nat_le (end_of op) n) (count_after_all (count_after n op) os) (OutOfRange n) fits in
    let d = taken_document m op doc in
    let here = stage_of (m + 1) op in
    let first = push-op c ops given usable stages t.0 d m op (taken-op c ops given usable stages m (omega arith) tree t.0 doc h up op t.1.0) in
    let count = count-taken m op doc.text.items up o.0 (le-back (end_of op) n f.0) in
    let rest = takes-ops c (ops ++ (record { stage = m + 1; op = op } ∷ [])) given usable (stages ++ (here ∷ [])) (m + 1) os (omega arith) t.0 new d first
    (taken-up_to m op doc.text.items up) o.1 (subst (λ k. is_ok (count_after_all k os) ≡ true) (sym count) f.1) t.1.1 in
    record {
      after = rest.after;
      more = here ∷ rest.more;
      is = next-taken doc d rest.after stages rest.more (m + 1) (OnText op) (map (λ o. OnText o) os) no_elements
          (text-taken m op doc ∙ fits-true (end_of op) n d f.0) rest.is;
      holds = subst (λ k. Holds new c (ops ++ noted (m + 1) (op ∷ os)) given usable k rest.after (stages ++ (here ∷ rest.more))) (one-more m (length os))
          (subst (λ ts. Holds new c (ops ++ noted (m + 1) (op ∷ os)) given usable (m + 1 + length os) rest.after ts) (append_assoc stages (here ∷ []) rest.more)
          (subst (λ ps. Holds new c ps given usable (m + 1 + length os) rest.after ((stages ++ (here ∷ [])) ++ rest.more))
          (append_assoc ops (record { stage = m + 1; op = op } ∷ []) (noted (m + 1 + 1) os)) rest.holds));
      counted = ap suc rest.counted;
    }
  where
    one-more : (i k : ℕ) → i + 1 + k ≡ i + suc k
    one-more i k = omega arith

-- where one doesn't fit, all are refused
pub refuses-ops : (stages : List Stage) (m : ℕ) (os : List BaseOp) (doc : Document) (fault : EditFault) → AreUpTo m doc.text.items → AreOrdered os
    → count_after_all (len (seen m) doc.text.items) os ≡ Err fault → local_sub_operations doc stages (m + 1) (map (λ o. OnText o) os) ≡ Err fault
refuses-ops stages m [] doc fault up o h = (cc)
refuses-ops stages m (op ∷ os) doc fault up o h =
    let n = len (seen m) doc.text.items in
    let d = taken_document m op doc in
    elim (count-refused (nat_le (end_of op) n) (count_after_all (count_after n op) os) (OutOfRange n) fault h) [
      | inl p ↦
          let count = count-taken m op doc.text.items up o.0 (le-back (end_of op) n p.0) in
          next-refused doc d stages (m + 1) (OnText op) (map (λ o. OnText o) os) no_elements fault (text-taken m op doc ∙ fits-true (end_of op) n d p.0)
          (refuses-ops (stages ++ (stage_of (m + 1) op ∷ [])) (m + 1) os d fault (taken-up_to m op doc.text.items up) o.1
          (ap (λ k. count_after_all k os) count ∙ p.1))
      | inr p ↦ first-refused doc stages (m + 1) (OnText op) (map (λ o. OnText o) os) fault (text-taken m op doc ∙ fits-false (end_of op) n d p.0 ∙ refused-as p.1)
    ]
