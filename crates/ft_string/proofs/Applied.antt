-- What a message of another client makes of a tree of text, and of the document that this holds.
use Rattle.std.proofs.Common.{◌≡◌, ℕ, zero, suc, ◌+◌, ◌≤◌, ◌<◌, Bool, true, false, cond, nat_le, List, [], ◌∷◌, Option, Some, None, refl, sym, ◌∙◌, ap, subst, arith, length, map, option_map, option_and_then}
use Rattle.std.proofs.lemmas.Bool.Decides.{nat_tests}
use Rattle.ft_base.specs.declared.elements.Perspective.{Perspective}
use Rattle.ft_base.specs.declared.stamps.Stamp.TheVariants.{Acked}
use Rattle.ft_base.specs.Scan.{change_range, len}
use Rattle.ft_block.specs.declared.leaves.LenView.TheVariants.{At}
use Rattle.ft_interval_store.specs.State.{CollectionsState, text_elements}
use Rattle.ft_interval_store.specs.Ends.{References, place_of_end, slid_end}
use Rattle.ft_tree_leaves.specs.declared.references.Reference.{Reference}
use Rattle.ft_tree_leaves.specs.declared.text.TextContent.{TextContent}
use Rattle.ft_tree_leaves.specs.Edits.{with_place}
use Rattle.ft_tree_leaves.specs.Elements.{TreeElement, seen_in}
use Rattle.ft_tree_leaves.specs.Elements.{is_pending as tree_pending}
use Rattle.ft_tree_leaves.specs.Places.{put_place, shifted_place}
use Rattle.ft_tree_leaves.specs.References.{ChangesReferences, reference_at, slid_reference}
use Rattle.ft_op.specs.declared.operations.BaseOp.{BaseOp}
use Rattle.ft_op.specs.declared.operations.BaseOp.TheVariants.{Insert, Remove, Annotate}
use Rattle.ft_op.specs.Document.{Document, effects, text_effect, with_skip, with_slid_ends}
use Rattle.ft_op.specs.Operation.{OnText, segment_contents}
use Rattle.ft_op.specs.Stages.{Stage}
use Rattle.ft_props.specs.Element.{ElementContent, ElementId, seen_by, with_annotation}
use Rattle.ft_props.specs.Properties.{apply}
use Rattle.ft_props.specs.Slide.{slide}
use Rattle.ft_props.specs.Steps.{Sequence, after_insertion, after_removal}
use Rattle.ft_laws_names.proofs.Beside.{beside-len}
use Rattle.ft_laws_names.specs.WellNamed.{IsSettledIn, StandsIn}
use Rattle.ft_tree.specs.State.{TreeState}
use Rattle.ft_string.specs.Bare.{text_content}
use Rattle.ft_string.specs.Holds.{HoldsText}
use Rattle.ft_string.specs.Parts.{AppliesOp, AreSound, TriesOp, TriesOps, state_of}
use Rattle.ft_string.specs.declared.pending.PendingOp.{PendingOp}
use Rattle.ft_named.proofs.Bares.{AreElements, from-bare, seen-alike}
use Rattle.ft_laws_agreement.proofs.NumberTests.{from_self}
use Rattle.ft_string.proofs.Documents.{IsNamed, keeps-end, name-same, keeps-settled, settled-stands, sound-step, step-holds, step-named}
use Rattle.ft_string.proofs.Ends.{IsMarkedEnd, SameEnd, end-kept, end-moved, end-slid, name-slid, same-names}
use Rattle.ft_named.proofs.ListSteps.{StepsList, annotation-alike, annotation-step, insertion-alike, insertion-step, removal-alike, removal-step}
use Rattle.ft_named.proofs.Slid.{all-stay, settled-after, slides-settled}

pub same-contents : (us : List ElementContent) → map text_content us ≡ us
same-contents [] = refl
same-contents (u ∷ us) = ap (λ vs. u ∷ vs) (same-contents us)

pub same-place : (o : Option ℕ) → option_map (λ i. i) o ≡ o
same-place None = refl
same-place (Some i) = refl

pub le-false : (m n : ℕ) → n < m → nat_le m n ≡ false
le-false m n l = grind (arith, nat_tests)

pub choice-true : {A : Type 0} (b : Bool) (x y : A) → b ≡ true → cond b x y ≡ x
choice-true true x y h = refl
choice-true false x y h = (cc)

pub choice-false : {A : Type 0} (b : Bool) (x y : A) → b ≡ false → cond b x y ≡ y
choice-false true x y h = (cc)
choice-false false x y h = refl

-- a reference that slides stays acknowledged or pending
pub slid-acked : (xs : List (TreeElement ElementContent)) (x : Reference) → (slid_reference xs x).acked ≡ x.acked
slid-acked xs x = step x.acked
  where
    step : (b : Bool) → (slid_reference xs (record { place = x.place; acked = b })).acked ≡ b
    step true = refl
    step false = refl

-- an end slides as its name does
pub slid-alike : (last : ℕ) (l m : Sequence) → StepsList last 0 (λ i. i) l m → (xs : List (TreeElement ElementContent)) → AreElements text_content xs m.items
    → (refs after : References) → ChangesReferences (slid_reference xs) refs after → (r : Option ℕ) (o : Option ElementId) → IsMarkedEnd true refs r
    → IsSettledIn l.items o → SameEnd refs l.items r o → SameEnd after m.items r (slide m.items o)
slid-alike last l m step xs list refs after changes r o m' t e =
    let there = settled-after l.items m.items step.stays o t in
    let same = name-same last l m step o (settled-stands l.items o t) in
    end-slid xs refs after changes r m' ∙ ap (slid_end xs) (e ∙ sym same) ∙ sym (name-slid text_content xs m.items step.numbered.once list o there)

pub kept-alike : (last : ℕ) (l m : Sequence) → StepsList last 0 (λ i. i) l m → (xs : List (TreeElement ElementContent))
    → (refs after : References) → ChangesReferences (slid_reference xs) refs after → (r : Option ℕ) (o : Option ElementId) → IsMarkedEnd false refs r
    → StandsIn l.items o → SameEnd refs l.items r o → SameEnd after m.items r o
kept-alike last l m step xs refs after changes r o m' t e = end-kept xs refs after changes r m' ∙ e ∙ sym (name-same last l m step o t)

place-itself : (o : Option Reference) → option_and_then (λ (x : Reference). x.place) (option_map (λ x. x) o) ≡ option_and_then (λ (x : Reference). x.place) o
place-itself None = refl
place-itself (Some x) = refl

pub stayed : (refs after : References) → ChangesReferences (λ x. x) refs after → (r : Option ℕ)
    → place_of_end after r ≡ option_map (λ i. i) (place_of_end refs r)
stayed refs after h None = refl
stayed refs after h (Some r) =
    ap (λ o. option_and_then (λ (x : Reference). x.place) o) (h r) ∙ place-itself (reference_at refs r) ∙ sym (same-place (place_of_end refs (Some r)))

-- the parts hold a document, whose names fit
pub record Holds (tree : TreeState TextContent) (c : CollectionsState) (ops : List PendingOp) (given : ℕ) (usable : Bool) (last : ℕ) (doc : Document) (stages : List Stage)
    : Type 0 where
  pub named : IsNamed last doc stages
  pub sound : AreSound tree c
  pub holds : HoldsText (state_of tree c ops given usable) doc stages

module _ (c : CollectionsState) (ops : List PendingOp) (given : ℕ) (usable : Bool) (last : ℕ) (stages : List Stage) where
  pub elements-of : (tree : TreeState TextContent) (doc : Document) → Holds tree c ops given usable last doc stages
      → AreElements text_content (text_elements tree) doc.text.items
  elements-of tree doc h = from-bare text_content (text_elements tree) doc.text.items h.holds.elements

  pub same-length : (tree : TreeState TextContent) (doc : Document) (at : Perspective) → Holds tree c ops given usable last doc stages
      → len (seen_in (At at)) (text_elements tree) ≡ len (seen_by at.r at.c) doc.text.items
  same-length tree doc at h =
      beside-len (seen_in (At at)) (seen_by at.r at.c) (λ x e q. seen-alike text_content (At at) x e q) (elements-of tree doc h)

  module _ (tree new : TreeState TextContent) (s : ℕ) (at : Perspective) (doc : Document) (h : Holds tree c ops given usable last doc stages) where
    insertion-applied : (p : ℕ) (seg : _) (props : _) → AppliesOp s at (Insert p seg props) tree new
        → Holds new c ops given usable last (record doc { text = after_insertion s at.c at.r p (Some (Acked s at.c)) (apply [] props) (segment_contents seg) doc.text }) stages
    insertion-applied p seg props a =
        let us = segment_contents seg in
        let b = elements-of tree doc h in
        let f = shifted_place (put_place (seen_in (At at)) tree_pending p (text_elements tree)) (length us) in
        let after : Document = record doc { text = after_insertion s at.c at.r p (Some (Acked s at.c)) (apply [] props) us doc.text } in
        let list : AreElements text_content (text_elements new) after.text.items =
        subst (λ xs. AreElements text_content xs after.text.items) (sym a.elements)
        (insertion-alike text_content s p at (Some (Acked s at.c)) (apply [] props) us us (same-contents us) doc.text b) in
        let step : StepsList last (length us) f doc.text after.text =
        insertion-step text_content last s p at (Some (Acked s at.c)) (apply [] props) us us (same-contents us) doc.text h.named.list b in
        let moved = end-moved f tree.refs new.refs a.refs in
        record {
          named = step-named tree new c ops given usable last last (length us) f (λ o. o) doc after stages h.named h.sound h.holds list step a.made (sym (same-names doc.intervals))
              (λ r o m t e. keeps-settled last (length us) f doc.text after.text step tree.refs new.refs moved r o t e)
              (λ r o m t e. keeps-end last (length us) f doc.text after.text step tree.refs new.refs moved r o t e)
              (all-stay doc.text.items after.text.items step.stays doc.intervals h.named.intervals);
          sound = sound-step (with_place f) (λ x. refl) tree new c a.refs a.rest.usable h.sound;
          holds = step-holds tree new c ops given usable last last (length us) f (λ o. o) doc after stages h.named h.sound h.holds list step a.made (sym (same-names doc.intervals))
              (λ r o m t e. keeps-settled last (length us) f doc.text after.text step tree.refs new.refs moved r o t e)
              (λ r o m t e. keeps-end last (length us) f doc.text after.text step tree.refs new.refs moved r o t e);
        }

    removal-applied : (p q : ℕ) → AppliesOp s at (Remove p q) tree new
        → Holds new c ops given usable last (with_slid_ends (record doc { text = after_removal s at.c at.r p q doc.text })) stages
    removal-applied p q a =
        let b = elements-of tree doc h in
        let after : Document = with_slid_ends (record doc { text = after_removal s at.c at.r p q doc.text }) in
        let list : AreElements text_content (text_elements new) after.text.items =
        subst (λ xs. AreElements text_content xs after.text.items) (sym a.elements) (removal-alike text_content last s p q at doc.text h.named.list b) in
        let step : StepsList last 0 (λ i. i) doc.text after.text = removal-step text_content last s p q at doc.text h.named.list in
        let changes : ChangesReferences (slid_reference (text_elements new)) tree.refs new.refs =
        subst (λ xs. ChangesReferences (slid_reference xs) tree.refs new.refs) (sym a.elements) a.refs in
        let acked : (r : Option ℕ) (o : Option ElementId) → IsMarkedEnd true tree.refs r → IsSettledIn doc.text.items o
        → SameEnd tree.refs doc.text.items r o → SameEnd new.refs after.text.items r (slide after.text.items o) =
        λ r o m t e. slid-alike last doc.text after.text step (text_elements new) list tree.refs new.refs changes r o m t e in
        let pending : (r : Option ℕ) (o : Option ElementId) → IsMarkedEnd false tree.refs r → StandsIn doc.text.items o
        → SameEnd tree.refs doc.text.items r o → SameEnd new.refs after.text.items r o =
        λ r o m t e. kept-alike last doc.text after.text step (text_elements new) tree.refs new.refs changes r o m t e in
        record {
          named = step-named tree new c ops given usable last last 0 (λ i. i) (slide after.text.items) doc after stages h.named h.sound h.holds list step a.made refl acked pending
              (slides-settled after.text.items doc.intervals);
          sound = sound-step (slid_reference (text_elements new)) (λ x. slid-acked (text_elements new) x) tree new c changes a.rest.usable h.sound;
          holds = step-holds tree new c ops given usable last last 0 (λ i. i) (slide after.text.items) doc after stages h.named h.sound h.holds list step a.made refl acked pending;
        }

    annotation-applied : (p q : ℕ) (changes : _) → AppliesOp s at (Annotate p q changes) tree new
        → Holds new c ops given usable last
        (record doc { text = record { items = change_range (seen_by at.r at.c) p q (with_annotation changes) doc.text.items; made = doc.text.made } }) stages
    annotation-applied p q changes a =
        let b = elements-of tree doc h in
        let after : Document = record doc { text = record { items = change_range (seen_by at.r at.c) p q (with_annotation changes) doc.text.items; made = doc.text.made } } in
        let list : AreElements text_content (text_elements new) after.text.items =
        subst (λ xs. AreElements text_content xs after.text.items) (sym a.elements) (annotation-alike text_content p q at changes doc.text b) in
        let step : StepsList last 0 (λ i. i) doc.text after.text = annotation-step text_content last p q at changes doc.text h.named.list in
        let moved : (r : Option ℕ) → place_of_end new.refs r ≡ option_map (λ i. i) (place_of_end tree.refs r) =
        λ r. stayed tree.refs new.refs a.refs r in
        record {
          named = step-named tree new c ops given usable last last 0 (λ i. i) (λ o. o) doc after stages h.named h.sound h.holds list step a.made (sym (same-names doc.intervals))
              (λ r o m t e. keeps-settled last 0 (λ i. i) doc.text after.text step tree.refs new.refs moved r o t e)
              (λ r o m t e. keeps-end last 0 (λ i. i) doc.text after.text step tree.refs new.refs moved r o t e)
              (all-stay doc.text.items after.text.items step.stays doc.intervals h.named.intervals);
          sound = sound-step (λ x. x) (λ x. refl) tree new c a.refs a.rest.usable h.sound;
          holds = step-holds tree new c ops given usable last last 0 (λ i. i) (λ o. o) doc after stages h.named h.sound h.holds list step a.made (sym (same-names doc.intervals))
              (λ r o m t e. keeps-settled last 0 (λ i. i) doc.text after.text step tree.refs new.refs moved r o t e)
              (λ r o m t e. keeps-end last 0 (λ i. i) doc.text after.text step tree.refs new.refs moved r o t e);
        }

  skip-holds : (tree : TreeState TextContent) (doc : Document) → Holds tree c ops given usable last doc stages
      → Holds tree c ops given usable last (with_skip doc) stages
  skip-holds tree doc h = record {
    named = record { list = h.named.list; intervals = h.named.intervals; names = h.named.names };
    sound = h.sound;
    holds = record { elements = h.holds.elements; made = h.holds.made; intervals = h.holds.intervals; ops = h.holds.ops; interval_ops = h.holds.interval_ops };
  }

  -- the parts hold the document after so many skipped sub-operations
  pub record Applied (new : TreeState TextContent) (doc after : Document) (skipped : ℕ) : Type 0 where
    pub holds : Holds new c ops given usable last after stages
    pub skips : after.skipped ≡ doc.skipped + skipped

  module _ (tree new : TreeState TextContent) (s : ℕ) (at : Perspective) (doc : Document) (h : Holds tree c ops given usable last doc stages) where
    taken : (op : BaseOp) (after : Document) → text_effect doc s at.c at.r op ≡ after → after.skipped ≡ doc.skipped
        → Holds new c ops given usable last after stages
        → Applied new doc (text_effect doc s at.c at.r op) 0
    taken op after e k a = record {
      holds = subst (λ d. Holds new c ops given usable last d stages) (sym e) a;
      skips = let same = ap (λ (d : Document). d.skipped) e in omega arith;
    }

    fits : (n : ℕ) → n ≤ len (seen_in (At at)) (text_elements tree) → nat_le n (len (seen_by at.r at.c) doc.text.items) ≡ true
    fits n l = let same = same-length tree doc at h in from_self n (len (seen_by at.r at.c) doc.text.items) (omega arith)

    unfit : (n : ℕ) → len (seen_in (At at)) (text_elements tree) < n → nat_le n (len (seen_by at.r at.c) doc.text.items) ≡ false
    unfit n l = let same = same-length tree doc at h in le-false n (len (seen_by at.r at.c) doc.text.items) (omega arith)

    skipped : (op : BaseOp) (n : ℕ) → text_effect doc s at.c at.r op ≡ with_skip doc → n ≡ 0 → new ≡ tree
        → Applied new doc (text_effect doc s at.c at.r op) (suc n)
    skipped op n e z same = record {
      holds = subst (λ t. Holds t c ops given usable last (text_effect doc s at.c at.r op) stages) (sym same)
          (subst (λ d. Holds tree c ops given usable last d stages) (sym e) (skip-holds tree doc h));
      skips = let more = ap (λ (d : Document). d.skipped) e in omega arith;
    }

    pub tries-op : (op : BaseOp) (n : ℕ) → TriesOp s at op n tree new → Applied new doc (text_effect doc s at.c at.r op) n
    tries-op (Insert p seg props) zero t =
        taken (Insert p seg props) _ (choice-true (nat_le p (len (seen_by at.r at.c) doc.text.items)) _ _ (fits p t.0)) refl (insertion-applied tree new s at doc h p seg props t.1)
    tries-op (Remove p q) zero t =
        taken (Remove p q) _ (choice-true (nat_le q (len (seen_by at.r at.c) doc.text.items)) _ _ (fits q t.0)) refl (removal-applied tree new s at doc h p q t.1)
    tries-op (Annotate p q changes) zero t =
        taken (Annotate p q changes) _ (choice-true (nat_le q (len (seen_by at.r at.c) doc.text.items)) _ _ (fits q t.0)) refl
        (annotation-applied tree new s at doc h p q changes t.1)
    tries-op (Insert p seg props) (suc n) t =
        skipped (Insert p seg props) n (choice-false (nat_le p (len (seen_by at.r at.c) doc.text.items)) _ _ (unfit p t.0)) t.1 t.2
    tries-op (Remove p q) (suc n) t =
        skipped (Remove p q) n (choice-false (nat_le q (len (seen_by at.r at.c) doc.text.items)) _ _ (unfit q t.0)) t.1 t.2
    tries-op (Annotate p q changes) (suc n) t =
        skipped (Annotate p q changes) n (choice-false (nat_le q (len (seen_by at.r at.c) doc.text.items)) _ _ (unfit q t.0)) t.1 t.2

  -- all operations of a group
  pub tries-ops : (s : ℕ) (at : Perspective) (os : List BaseOp) (n : ℕ) (tree new : TreeState TextContent) (doc : Document)
      → Holds tree c ops given usable last doc stages
      → TriesOps s at os n tree new → Applied new doc (effects doc s at.c at.r (map (λ op. OnText op) os)) n
  tries-ops s at [] n tree new doc h t = record {
    holds = subst (λ x. Holds x c ops given usable last doc stages) (sym t.1) h;
    skips = let none = t.0 in omega arith;
  }
  tries-ops s at (op ∷ os) n tree new doc h t =
      let first = tries-op tree t.0 s at doc h op t.1 t.3.0 in
      let rest = tries-ops s at os t.2 t.0 new (text_effect doc s at.c at.r op) first.holds t.3.1 in
      record { holds = rest.holds; skips = let a = first.skips in let b = rest.skips in let sum = t.3.2 in omega arith }
