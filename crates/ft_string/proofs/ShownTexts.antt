-- The characters, markers and runs that the client sees: told by the tree's leaves, and by the document.
use Rattle.std.proofs.Common.{◌≡◌, ℕ, ◌+◌, ◌++◌, Bool, true, List, refl, ◌∙◌, ap, map}
use Rattle.ft_interval_store.specs.State.{CollectionsState, text_elements}
use Rattle.ft_tree_leaves.specs.declared.text.TextContent.{TextContent}
use Rattle.ft_tree_leaves.specs.Elements.{TreeElement}
use Rattle.ft_msg.specs.Content.{content_characters, content_markers, extended_property_runs, markers_from, property_runs_from, stage_view, text_characters}
use Rattle.ft_base.specs.Visibility.{seen_at}
use Rattle.ft_op.specs.Document.{Document}
use Rattle.ft_op.specs.Stages.{Stage}
use Rattle.ft_props.specs.Element.{ElementContent, ListElement, NamelessElement, seen}
use Rattle.ft_props.specs.Properties.{shown_props}
use Rattle.ft_laws_names.proofs.Beside.{Beside, beside-filter, ends, next}
use Rattle.ft_tree.specs.State.{TreeState}
use Rattle.ft_named.proofs.Bares.{IsElement, from-bare}
use Rattle.ft_named.proofs.Changed.{beside-all, is_up_to}
use Rattle.ft_named.proofs.OwnSteps.{seen-last}
use Rattle.ft_text.specs.Texts.{TextElements}
use Rattle.ft_text.specs.Shows.{characters_of, markers_of, runs_of, shown_elements}
use Rattle.ft_string.specs.Bare.{text_content}
use Rattle.ft_string.specs.Holds.{HoldsText, IsTextSound}
use Rattle.ft_string.specs.Parts.{state_of}
use Rattle.ft_string.specs.declared.pending.PendingOp.{PendingOp}
use Rattle.ft_string.proofs.Standing.{sound-up_to}

-- elements of a tree beside those of a document
abbrev pub AreSeen : ℕ → TextElements → List ListElement → Type 0
AreSeen last xs es = Beside (TreeElement ElementContent) ListElement (λ x e. IsElement text_content x e × (is_up_to last e ≡ true)) xs es

pub characters-alike : (last : ℕ) {xs : TextElements} {es : List ListElement} → AreSeen last xs es → characters_of (map (λ e. e.unit) xs) ≡ text_characters es
characters-alike last ends = refl
characters-alike last (next {x = x} {y = e} {xs = xs} q qs) =
    ap (λ cs. cs ++ characters_of (map (λ y. y.unit) xs)) (ap (λ (n : NamelessElement). content_characters n.content) q.0)
    ∙ ap (λ cs. content_characters e.content ++ cs) (characters-alike last qs)

pub markers-alike : (last i : ℕ) {xs : TextElements} {es : List ListElement} → AreSeen last xs es → markers_of i (map (λ e. e.unit) xs) ≡ markers_from i es
markers-alike last i ends = refl
markers-alike last i (next {x = x} {y = e} {xs = xs} q qs) =
    ap (λ ms. ms ++ markers_of (i + 1) (map (λ y. y.unit) xs)) (ap (λ (n : NamelessElement). content_markers i n.content) q.0)
    ∙ ap (λ ms. content_markers i e.content ++ ms) (markers-alike last (i + 1) qs)

pub runs-alike : (last i : ℕ) {xs : TextElements} {es : List ListElement} → AreSeen last xs es → runs_of i xs ≡ property_runs_from i es
runs-alike last i ends = refl
runs-alike last i (next {x = x} {y = e} {xs = xs} q qs) =
    ap (λ ps. extended_property_runs i ps (runs_of (i + 1) xs)) (ap (λ (n : NamelessElement). shown_props n.props n.pending) q.0)
    ∙ ap (extended_property_runs i (shown_props e.props e.pending)) (runs-alike last (i + 1) qs)

pub seen-alike-all : (tree : TreeState TextContent) (c : CollectionsState) (ops : List PendingOp) (given last : ℕ) (usable : Bool)
    (doc : Document) (stages : List Stage)
    → IsTextSound last doc stages → HoldsText (state_of tree c ops given usable) doc stages
    → AreSeen last (shown_elements tree.leaves) (stage_view last doc.text.items)
seen-alike-all tree c ops given last usable doc stages sound holds =
    beside-filter (λ (x : TreeElement ElementContent). seen_at x.stamps 18446744073709551615) (seen last)
    (λ x e q. seen-last text_content last sound.fits x e q.0 q.1)
    (beside-all (is_up_to last) (sound-up_to last doc stages sound) (from-bare text_content (text_elements tree) doc.text.items holds.elements))
