-- What an operation of a message on an interval makes of a whole shared text.
use Rattle.std.proofs.Common.{◌≡◌, ℕ, Bool, true, false, cond, IsTrue, List, [], ◌∷◌, Option, None, refl, sym, ◌∙◌, ap, subst, arith, map}
use Rattle.ft_base.specs.declared.elements.Perspective.{Perspective}
use Rattle.ft_base.specs.Scan.{len}
use Rattle.ft_block.specs.declared.leaves.LenView.TheVariants.{At}
use Rattle.ft_interval_store.specs.declared.intervals.Interval.{Interval}
use Rattle.ft_interval_store.specs.Ends.{map_ends, places_of_ends, places_of_given, slid_end}
use Rattle.ft_interval_store.specs.Intervals.{NamesRise}
use Rattle.ft_interval_store.specs.State.{CollectionsState, KeepsReferences, keeps, placed, placed_intervals, placed_operations, text_elements, with_effect, with_mapped_ends}
use Rattle.ft_interval_store.proofs.OneInterval.{NamesRise-map}
use Rattle.ft_tree_leaves.specs.declared.references.Reference.{Reference}
use Rattle.ft_tree_leaves.specs.declared.text.TextContent.{TextContent}
use Rattle.ft_tree_leaves.specs.Elements.{seen_in}
use Rattle.ft_tree_leaves.specs.References.{reference_at}
use Rattle.ft_msg.specs.Indexed.{indexed_interval}
use Rattle.ft_op.specs.declared.operations.TextOp.{TextOp}
use Rattle.ft_op.specs.Document.{Document, elements_at_given_ends, ends_of, effects, given_ends_fit, with_skip, with_slid_ends}
use Rattle.ft_op.specs.Intervals.{NamedElements, after_interval_operation, slide_ends}
use Rattle.ft_op.specs.Intervals.{Interval as NamedInterval}
use Rattle.ft_op.specs.Operation.{OnIntervals}
use Rattle.ft_op.specs.Stages.{Stage}
use Rattle.ft_props.specs.Element.{ListElement, seen_by}
use Rattle.ft_laws_names.proofs.Beside.{beside-len, ends, next}
use Rattle.ft_tree.specs.State.{TreeState}
use Rattle.ft_named.specs.Bare.{bare}
use Rattle.ft_string.specs.Bare.{text_content}
use Rattle.ft_string.specs.Calls.{IsApplied}
use Rattle.ft_string.specs.Holds.{HoldsText, IsTextSound}
use Rattle.ft_string.specs.Parts.{AreSound, state_of}
use Rattle.ft_string.specs.State.{interval_stage, interval_with_places}
use Rattle.ft_string.specs.declared.pending.PendingOp.{PendingOp}
use Rattle.ft_string.proofs.Applied.{choice-false, choice-true}
use Rattle.ft_named.proofs.Bares.{AreElements, from-bare, seen-alike}
use Rattle.ft_string.proofs.Intervals.{AreAlike, IsAlike, ends-on-stay, finish-alike, operation-alike, start-alike}

-- ---- lists of intervals that are alike

pub from-alike : (es : List ListElement) (is : List (Interval ℕ)) (ds : List NamedInterval)
    → map interval_with_places is ≡ map (indexed_interval es) (slide_ends es ds)
    → AreAlike es is ds
from-alike es [] [] h = ends
from-alike es [] (d ∷ ds) h = (cc)
from-alike es (i ∷ is) [] h = (cc)
from-alike es (i ∷ is) (d ∷ ds) h =
    let first : IsAlike es i d = (cc) in
    let rest : map interval_with_places is ≡ map (indexed_interval es) (slide_ends es ds) = (cc) in
    next first (from-alike es is ds rest)

pub to-alike : (es : List ListElement) {is : List (Interval ℕ)} {ds : List NamedInterval} → AreAlike es is ds
    → map interval_with_places is ≡ map (indexed_interval es) (slide_ends es ds)
to-alike es ends = refl
to-alike es (next q qs) = (let rest = to-alike es qs in cc)

-- the parts stay sound where the references are kept so
pub kept-sound : (tree new : TreeState TextContent) (c d : CollectionsState) → AreSound tree c → new ≡ record tree { refs = new.refs }
    → KeepsReferences c d tree.refs new.refs → AreSound new d
kept-sound tree new c d sound rest h = record {
  tree = subst (λ (x : TreeState TextContent). IsTrue x.usable) (sym rest) sound.tree;
  live = h.live;
  marked = h.marked sound.marked;
  only = λ r e. h.others r e ∙ gone (keeps r c) (reference_at tree.refs r) (λ n. sound.only r n);
}
  where
    gone : (b : Bool) (o : Option Reference) → (b ≡ false → o ≡ None) → cond b None o ≡ None
    gone true o f = refl
    gone false o f = f refl

pub same-sound : (tree new : TreeState TextContent) (c d : CollectionsState) → AreSound tree c → d ≡ c → new ≡ tree → AreSound new d
same-sound tree new c d sound e f = rw (e, f) sound

-- ---- the call

module _ (tree new : TreeState TextContent) (c d : CollectionsState) (ops : List PendingOp) (given : ℕ) (usable : Bool) (op : TextOp) (s : ℕ) (at' : Perspective)
    (sound : AreSound tree c) (rest : new ≡ record tree { refs = new.refs }) where
  module _ (rises : NamesRise c.acked) (last : ℕ) (doc : Document) (stages : List Stage) (text : IsTextSound last doc stages)
      (holds : HoldsText (state_of tree c ops given usable) doc stages) where
    abbrev es : List ListElement
    es = doc.text.items

    list : AreElements text_content (text_elements tree) es
    list = from-bare text_content (text_elements tree) es holds.elements

    -- whether the ends fit
    pub fits-alike : given_ends_fit (len (seen_in (At at')) (text_elements tree)) (ends_of op) ≡ given_ends_fit (len (seen_by at'.r at'.c) es) (ends_of op)
    fits-alike = ap (λ n. given_ends_fit n (ends_of op)) (beside-len (seen_in (At at')) (seen_by at'.r at'.c) (λ x e q. seen-alike text_content (At at') x e q) list)

    abbrev names : NamedElements
    names = elements_at_given_ends (seen_by at'.r at'.c) es (ends_of op)

    abbrev after : Document
    after = with_slid_ends (record doc { intervals = after_interval_operation op names doc.intervals })

    before : AreAlike es (placed_intervals tree.refs c.acked) doc.intervals
    before = from-alike es (placed_intervals tree.refs c.acked) doc.intervals
        (holds.intervals ∙ ap (map (indexed_interval es)) (sym (ends-on-stay es doc.intervals text.list.once text.ends)))

    effect-holds : placed new.refs d ≡ with_effect op (map_ends (slid_end (text_elements tree)) (places_of_given (seen_in (At at')) (text_elements tree) (ends_of op))) (placed tree.refs c)
        → HoldsText (state_of new d ops given true) after stages
    effect-holds h = record {
      elements = ap (λ x. map (bare text_content) (text_elements x)) rest ∙ holds.elements;
      made = ap (λ (x : TreeState TextContent). x.made) rest ∙ holds.made;
      intervals = ap (λ (x : CollectionsState). map interval_with_places x.acked) h
          ∙ to-alike es (operation-alike es op (map_ends (slid_end (text_elements tree)) (places_of_given (seen_in (At at')) (text_elements tree) (ends_of op))) names
          (start-alike at' (text_elements tree) es text.list.once list (ends_of op)) (finish-alike at' (text_elements tree) es text.list.once list (ends_of op))
          (NamesRise-map (with_mapped_ends (places_of_ends tree.refs)) c.acked (λ i. refl) rises) before);
      ops = holds.ops;
      interval_ops = ap (λ (x : CollectionsState). map interval_stage x.pending) h ∙ holds.interval_ops;
    }

    skip-holds : d ≡ c → new ≡ tree → HoldsText (state_of new d ops given true) (with_skip doc) stages
    skip-holds e f = record {
      elements = ap (λ x. map (bare text_content) (text_elements x)) f ∙ holds.elements;
      made = ap (λ (x : TreeState TextContent). x.made) f ∙ holds.made;
      intervals = same ∙ holds.intervals;
      ops = holds.ops;
      interval_ops = alike ∙ holds.interval_ops;
    }
      where
        same : map interval_with_places (placed_intervals new.refs d.acked) ≡ map interval_with_places (placed_intervals tree.refs c.acked)
        same = rw (e, f) refl

        alike : map interval_stage (placed_operations new.refs d.pending) ≡ map interval_stage (placed_operations tree.refs c.pending)
        alike = rw (e, f) refl

    -- it takes effect
    pub interval-applied : given_ends_fit (len (seen_in (At at')) (text_elements tree)) (ends_of op) ≡ true
        → placed new.refs d ≡ with_effect op (map_ends (slid_end (text_elements tree)) (places_of_given (seen_in (At at')) (text_elements tree) (ends_of op))) (placed tree.refs c)
        → IsApplied (state_of new d ops given true) doc (effects doc s at'.c at'.r (OnIntervals op ∷ [])) stages 0
    interval-applied fits h =
        subst (λ x. IsApplied (state_of new d ops given true) doc x stages 0)
        (sym (choice-true (given_ends_fit (len (seen_by at'.r at'.c) es) (ends_of op)) after (with_skip doc) (sym fits-alike ∙ fits)))
        (record { holds = effect-holds h; skips = omega arith })

    -- it is out of range
    pub interval-skipped : given_ends_fit (len (seen_in (At at')) (text_elements tree)) (ends_of op) ≡ false → d ≡ c → new ≡ tree
        → IsApplied (state_of new d ops given true) doc (effects doc s at'.c at'.r (OnIntervals op ∷ [])) stages 1
    interval-skipped fits e f =
        subst (λ x. IsApplied (state_of new d ops given true) doc x stages 1)
        (sym (choice-false (given_ends_fit (len (seen_by at'.r at'.c) es) (ends_of op)) after (with_skip doc) (sym fits-alike ∙ fits)))
        (record { holds = skip-holds e f; skips = omega arith })
