-- What calls on elements make of a whole shared text.
use Rattle.std.proofs.Common.{◌≡◌, ℕ, zero, suc, Bool, true, List, [], ◌∷◌, refl, sym, ◌∙◌, ap, subst, map}
use Rattle.ft_base.specs.declared.elements.Perspective.{Perspective}
use Rattle.ft_interval_store.specs.State.{CollectionsState}
use Rattle.ft_tree_leaves.specs.declared.references.Reference.{Reference}
use Rattle.ft_tree_leaves.specs.declared.text.TextContent.{TextContent}
use Rattle.ft_op.specs.declared.operations.BaseOp.{BaseOp}
use Rattle.ft_op.specs.declared.operations.BaseOp.TheVariants.{Insert, Remove, Annotate}
use Rattle.ft_op.specs.Document.{Document, effects}
use Rattle.ft_op.specs.Operation.{OnText}
use Rattle.ft_op.specs.Stages.{Stage}
use Rattle.ft_tree.specs.State.{TreeState}
use Rattle.ft_string.specs.Calls.{IsApplied}
use Rattle.ft_string.specs.Holds.{HoldsText, IsTextSound}
use Rattle.ft_string.specs.Parts.{AreSound, TriesOp, TriesOps, applied_elements, applied_reference, state_of}
use Rattle.ft_string.specs.declared.pending.PendingOp.{PendingOp}
use Rattle.ft_string.proofs.Applied.{Holds, slid-acked, tries-ops}
use Rattle.ft_string.proofs.Documents.{sound-named, sound-step}
use Rattle.ft_interval_store.specs.State.{text_elements}

-- what is held doesn't depend on the given stage and on use
pub holds-any : (tree : TreeState TextContent) (c : CollectionsState) (ops : List PendingOp) (given more : ℕ) (usable other : Bool)
    (doc : Document) (stages : List Stage)
    → HoldsText (state_of tree c ops given usable) doc stages → HoldsText (state_of tree c ops more other) doc stages
holds-any tree c ops given more usable other doc stages h =
    record { elements = h.elements; made = h.made; intervals = h.intervals; ops = h.ops; interval_ops = h.interval_ops }

-- ---- a message of another client

applied-acked : (s : ℕ) (at : Perspective) (op : BaseOp) (tree : TreeState TextContent) (x : Reference)
    → (applied_reference s at op (text_elements tree) x).acked ≡ x.acked
applied-acked s at (Insert p seg props) tree x = refl
applied-acked s at (Remove p q) tree x = slid-acked (applied_elements s at (Remove p q) (text_elements tree)) x
applied-acked s at (Annotate p q changes) tree x = refl

pub try-sound : (s : ℕ) (at : Perspective) (op : BaseOp) (n : ℕ) (tree new : TreeState TextContent) (c : CollectionsState)
    → TriesOp s at op n tree new → AreSound tree c → AreSound new c
try-sound s at op zero tree new c a h = sound-step (applied_reference s at op (text_elements tree)) (λ x. applied-acked s at op tree x) tree new c a.1.refs a.1.rest.usable h
try-sound s at op (suc m) tree new c a h = subst (λ x. AreSound x c) (sym a.2) h

pub tried-sound : (s : ℕ) (at : Perspective) (os : List BaseOp) (n : ℕ) (tree new : TreeState TextContent) (c : CollectionsState) → TriesOps s at os n tree new
    → AreSound tree c → AreSound new c
tried-sound s at [] n tree new c t h = subst (λ x. AreSound x c) (sym t.1) h
tried-sound s at (op ∷ os) n tree new c t h = tried-sound s at os t.2 t.0 new c t.3.1 (try-sound s at op t.1 tree t.0 c t.3.0 h)

pub tried-floor : (s : ℕ) (at : Perspective) (os : List BaseOp) (n : ℕ) (tree new : TreeState TextContent) → TriesOps s at os n tree new
    → new.floor ≡ tree.floor
tried-floor s at [] n tree new t = ap (λ (x : TreeState TextContent). x.floor) t.1
tried-floor s at (op ∷ os) n tree new t = tried-floor s at os t.2 t.0 new t.3.1 ∙ first t.1 t.3.0
  where
    first : (m : ℕ) → TriesOp s at op m tree t.0 → t.0.floor ≡ tree.floor
    first zero a = a.1.rest.floor
    first (suc m) a = ap (λ (x : TreeState TextContent). x.floor) a.2

pub applied-whole : (s : ℕ) (at : Perspective) (os : List BaseOp) (n : ℕ) (tree new : TreeState TextContent) (c : CollectionsState)
    (ops : List PendingOp) (given : ℕ)
    (usable : Bool) → AreSound tree c → TriesOps s at os n tree new → (last : ℕ) (doc : Document) (stages : List Stage) → IsTextSound last doc stages
    → HoldsText (state_of tree c ops given usable) doc stages
    → IsApplied (state_of new c ops given true) doc (effects doc s at.c at.r (map (λ op. OnText op) os)) stages n
applied-whole s at os n tree new c ops given usable sound t last doc stages h holds =
    let whole : Holds tree c ops given usable last doc stages = record { named = sound-named last doc stages h; sound = sound; holds = holds } in
    let a = tries-ops c ops given usable last stages s at os n tree new doc whole t in
    record { holds = holds-any new c ops given given usable true (effects doc s at.c at.r (map (λ op. OnText op) os)) stages a.holds.holds; skips = a.skips }
