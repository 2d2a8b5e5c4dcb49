-- Who inserted what the client sees: told by the tree's leaves, and by the document.
use Rattle.std.proofs.Common.{◌≡◌, ℕ, Bool, List, ap, map}
use Rattle.ft_base.specs.Visibility.{seen_at}
use Rattle.ft_interval_store.specs.State.{CollectionsState, text_elements}
use Rattle.ft_tree_leaves.specs.declared.text.TextContent.{TextContent}
use Rattle.ft_tree_leaves.specs.Elements.{TreeElement}
use Rattle.ft_msg.specs.Blame.{origin_of}
use Rattle.ft_msg.specs.Content.{stage_view}
use Rattle.ft_op.specs.Document.{Document}
use Rattle.ft_op.specs.Stages.{Stage}
use Rattle.ft_props.specs.Element.{ElementContent, ListElement, NamelessElement, seen}
use Rattle.ft_laws_names.proofs.Beside.{beside-filter, same-map}
use Rattle.ft_tree.specs.State.{TreeState}
use Rattle.ft_named.proofs.Bares.{from-bare}
use Rattle.ft_named.proofs.Changed.{beside-all, is_up_to}
use Rattle.ft_named.proofs.OwnSteps.{seen-last}
use Rattle.ft_text.specs.Shows.{origins_in}
use Rattle.ft_string.specs.Bare.{text_content}
use Rattle.ft_string.specs.Holds.{HoldsText, IsTextSound}
use Rattle.ft_string.specs.Parts.{state_of}
use Rattle.ft_string.specs.declared.pending.PendingOp.{PendingOp}
use Rattle.ft_string.proofs.Standing.{sound-up_to}

pub origins-alike : (tree : TreeState TextContent) (c : CollectionsState) (ops : List PendingOp) (given last : ℕ) (usable : Bool)
    (doc : Document) (stages : List Stage)
    → IsTextSound last doc stages → HoldsText (state_of tree c ops given usable) doc stages → origins_in tree.leaves ≡ map (λ e. origin_of e.by) (stage_view last doc.text.items)
origins-alike tree c ops given last usable doc stages sound holds =
    same-map (λ (x : TreeElement ElementContent). origin_of x.by) (λ (e : ListElement). origin_of e.by) (λ x e q. ap (λ (n : NamelessElement). origin_of n.by) q.0)
    (beside-filter (λ (x : TreeElement ElementContent). seen_at x.stamps 18446744073709551615) (seen last)
    (λ x e q. seen-last text_content last sound.fits x e q.0 q.1)
    (beside-all (is_up_to last) (sound-up_to last doc stages sound) (from-bare text_content (text_elements tree) doc.text.items holds.elements)))
