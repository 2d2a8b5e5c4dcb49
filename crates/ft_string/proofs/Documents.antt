-- One step of a tree of text beside one of the document that it holds.
use Rattle.std.proofs.Common.{◌≡◌, ℕ, ◌+◌, Bool, true, false, IsTrue, IsSome, List, Option, Some, None, refl, sym, ◌∙◌, ap, subst, arith, map, option_map}
use Rattle.ft_interval_store.specs.State.{CollectionsState, is_acknowledged, text_elements}
use Rattle.ft_interval_store.specs.Ends.{References, place_of_end}
use Rattle.ft_tree_leaves.specs.declared.references.Reference.{Reference}
use Rattle.ft_tree_leaves.specs.declared.text.TextContent.{TextContent}
use Rattle.ft_tree_leaves.specs.Edits.{with_place}
use Rattle.ft_tree_leaves.specs.References.{ChangesReferences, reference_at}
use Rattle.ft_props.specs.Element.{ElementId, ListElement, PendingId, SequencedId}
use Rattle.ft_props.specs.Steps.{Sequence}
use Rattle.ft_op.specs.Document.{Document}
use Rattle.ft_op.specs.Stages.{Stage}
use Rattle.ft_msg.specs.Indexed.{indexed_interval, place_in_list}
use Rattle.ft_laws_agreement.specs.Sequencing.{Each}
use Rattle.ft_laws_names.specs.WellNamed.{AreSettledIn, IsSettledIn, IsWellNumbered, StandsIn}
use Rattle.ft_tree.specs.State.{TreeState}
use Rattle.ft_string.specs.Bare.{text_content}
use Rattle.ft_msg.specs.Overlap.{is_on_intervals}
use Rattle.ft_string.specs.Holds.{HoldsText, IsTextSound, interval_stages}
use Rattle.ft_string.specs.Parts.{AreSound, state_of}
use Rattle.ft_string.specs.declared.pending.PendingOp.{PendingOp}
use Rattle.ft_named.proofs.Bares.{AreElements, to-bare}
use Rattle.ft_string.proofs.Ends.{IsMarkedEnd, SameEnd, ends-marked, from-placed, moved-intervals, to-placed, with_names}
use Rattle.ft_named.proofs.ListSteps.{StepsList}
use Rattle.ft_string.proofs.Stages.{AreNamesIn, all-stage-names, each-filter, from-stages, moved-stages, names-marked, names-stay, same-ops, to-stages}

-- the names in the text's part of a document with pending stages fit
pub record IsNamed (last : ℕ) (doc : Document) (stages : List Stage) : Type 0 where
  pub list : IsWellNumbered last doc.text
  pub intervals : AreSettledIn doc.text.items doc.intervals
  pub names : Each (λ t. AreNamesIn doc.text.items t.sub_operation t.names) stages

pub sound-named : (last : ℕ) (doc : Document) (stages : List Stage) → IsTextSound last doc stages → IsNamed last doc stages
sound-named last doc stages h = record { list = h.list; intervals = h.intervals; names = all-stage-names doc stages h.names }

pub settled-stands : (es : List ListElement) (o : Option ElementId) → IsSettledIn es o → StandsIn es o
settled-stands es None s = tt
settled-stands es (Some (SequencedId n)) s = s
settled-stands es (Some (PendingId k n)) s = absurd s

-- the place of a name that stands
name-moved : (more count : ℕ) (f : ℕ → ℕ) (l m : Sequence) → StepsList more count f l m → (o : Option ElementId) → StandsIn l.items o
    → place_in_list m.items o ≡ option_map f (place_in_list l.items o)
name-moved more count f l m h None s = refl
name-moved more count f l m h (Some a) s = ap Some (h.moves a s)

-- a name whose place stays
pub name-same : (more : ℕ) (l m : Sequence) → StepsList more 0 (λ i. i) l m → (o : Option ElementId) → StandsIn l.items o
    → place_in_list m.items o ≡ place_in_list l.items o
name-same more l m h None s = refl
name-same more l m h (Some a) s = ap Some (h.moves a s)

-- references that keep their elements
pub keeps-end : (more count : ℕ) (f : ℕ → ℕ) (l m : Sequence) → StepsList more count f l m → (refs after : References)
    → ((r : Option ℕ) → place_of_end after r ≡ option_map f (place_of_end refs r))
    → (r : Option ℕ) (o : Option ElementId) → StandsIn l.items o → SameEnd refs l.items r o → SameEnd after m.items r o
keeps-end more count f l m h refs after moved r o s e = moved r ∙ ap (λ p. option_map f p) e ∙ sym (name-moved more count f l m h o s)

pub keeps-settled : (more count : ℕ) (f : ℕ → ℕ) (l m : Sequence) → StepsList more count f l m → (refs after : References)
    → ((r : Option ℕ) → place_of_end after r ≡ option_map f (place_of_end refs r))
    → (r : Option ℕ) (o : Option ElementId) → IsSettledIn l.items o → SameEnd refs l.items r o → SameEnd after m.items r o
keeps-settled more count f l m h refs after moved r o s e = keeps-end more count f l m h refs after moved r o (settled-stands l.items o s) e

-- ---- the references stay sound

pub some-mapped : (h : Reference → Reference) (o : Option Reference) → IsSome o → IsSome (option_map h o)
some-mapped h None s = s
some-mapped h (Some x) s = refl

pub acked-mapped : (h : Reference → Reference) → ((x : Reference) → (h x).acked ≡ x.acked) → (o : Option Reference)
    → option_map (λ (x : Reference). x.acked) (option_map h o) ≡ option_map (λ (x : Reference). x.acked) o
acked-mapped h k None = refl
acked-mapped h k (Some x) = ap Some (k x)

pub sound-step : (h : Reference → Reference) → ((x : Reference) → (h x).acked ≡ x.acked) → (tree new : TreeState TextContent) (c : CollectionsState)
    → ChangesReferences h tree.refs new.refs → new.usable ≡ tree.usable → AreSound tree c → AreSound new c
sound-step h k tree new c changes usable s = record {
  tree = subst (λ b. IsTrue b) (sym usable) s.tree;
  live = λ r e. subst (λ o. IsSome o) (sym (changes r)) (some-mapped h (reference_at tree.refs r) (s.live r e));
  marked = record { acked = λ r e. same r ∙ s.marked.acked r e; pending = λ r e. same r ∙ s.marked.pending r e };
  only = λ r e. changes r ∙ ap (option_map h) (s.only r e);
}
  where
    same : (r : ℕ) → is_acknowledged new.refs r ≡ is_acknowledged tree.refs r
    same r = ap (λ o. option_map (λ (x : Reference). x.acked) o) (changes r) ∙ acked-mapped h k (reference_at tree.refs r)

-- where the elements stand elsewhere, the references stay sound
pub moved-sound : (tree new : TreeState TextContent) (c : CollectionsState) (f : ℕ → ℕ)
    → ChangesReferences (with_place f) tree.refs new.refs → new.usable ≡ true
    → AreSound tree c → AreSound new c
moved-sound tree new c f refs usable sound = sound-step (with_place f) (λ x. refl) tree new c refs (usable ∙ sym sound.tree) sound

-- ---- a step of the document

module _ (tree new : TreeState TextContent) (c : CollectionsState) (ops : List PendingOp) (given : ℕ) (usable : Bool)
    (last more count : ℕ) (f : ℕ → ℕ) (g : Option ElementId → Option ElementId) (doc after : Document) (stages : List Stage)
    (named : IsNamed last doc stages) (sound : AreSound tree c) (holds : HoldsText (state_of tree c ops given usable) doc stages)
    (list : AreElements text_content (text_elements new) after.text.items) (step : StepsList more count f doc.text after.text)
    (made : new.made ≡ tree.made + count) (intervals : after.intervals ≡ map (with_names g) doc.intervals)
    (acked : (r : Option ℕ) (o : Option ElementId) → IsMarkedEnd true tree.refs r → IsSettledIn doc.text.items o
    → SameEnd tree.refs doc.text.items r o → SameEnd new.refs after.text.items r (g o))
    (pending : (r : Option ℕ) (o : Option ElementId) → IsMarkedEnd false tree.refs r → StandsIn doc.text.items o
    → SameEnd tree.refs doc.text.items r o → SameEnd new.refs after.text.items r o) where
  pub step-holds : HoldsText (state_of new c ops given usable) after stages
  step-holds = record {
    elements = to-bare text_content list;
    made = let before = holds.made in let held = step.held in omega arith;
    intervals = to-placed new.refs after.text.items (moved-intervals tree.refs new.refs doc.text.items after.text.items g (IsMarkedEnd true tree.refs) acked
        (ends-marked true tree.refs c.acked sound.marked.acked) named.intervals (from-placed tree.refs doc.text.items c.acked doc.intervals holds.intervals))
        ∙ ap (map (indexed_interval after.text.items)) (sym intervals);
    ops = holds.ops ∙ same-ops doc after stages named.names;
    interval_ops = to-stages new.refs after (moved-stages tree.refs new.refs doc after (IsMarkedEnd false tree.refs) pending
        (names-marked false tree.refs c.pending sound.marked.pending)
        (each-filter (λ t. AreNamesIn doc.text.items t.sub_operation t.names) (λ t. is_on_intervals t.sub_operation) stages named.names)
        (from-stages tree.refs doc c.pending (interval_stages stages) holds.interval_ops));
  }

  pub step-named : AreSettledIn after.text.items after.intervals → IsNamed more after stages
  step-named settled = record {
    list = step.numbered;
    intervals = settled;
    names = names-stay doc.text.items after.text.items step.stays stages named.names;
  }
