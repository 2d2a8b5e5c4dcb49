-- A leaf that has nothing of a stage is as it was after the acknowledgement of that stage.
use Rattle.std.proofs.Common.{◌≡◌, ℕ, Result, Ok, Err, Bool, true, false, cond, nat_eq, not, ◌||◌, List, [], ◌∷◌, map, refl, ◌∙◌, ap}
use Rattle.std.specs.Prelude.{OnOk}
use Rattle.std.specs.List.{list_any}
use Rattle.ft_base.specs.declared.stamps.Stamp.{Stamp}
use Rattle.ft_base.specs.declared.stamps.Stamp.TheVariants.{Acked}
use Rattle.ft_base.specs.Visibility.{is_of_stage}
use Rattle.ft_props.specs.declared.properties.Changes.{Changes}
use Rattle.ft_props.specs.Overlay.{without_stage}
use Rattle.ft_props.specs.Properties.{PropertyList, change}
use Rattle.ft_props.specs.Steps.{acked_props, acked_stamp}
use Rattle.ft_tree_leaves.specs.declared.leaves.TreeLeaf.{TreeLeaf}
use Rattle.ft_tree_leaves.specs.Edits.{is_marked_by}
use Rattle.ft_tree_leaves.specs.LeafChanges.{acked_leaf}

-- what holds after a call that ended well
pub on-ok : {A E P : Type 0} (r : Result A E) (x : A) → r ≡ Ok x → OnOk r P → P
on-ok (Ok y) x e p = p
on-ok (Err y) x e p = absurd cc

pub neither : (a b : Bool) → (a || b) ≡ false → (a ≡ false) × (b ≡ false)
neither true b h = (cc)
neither false b h = (refl, h)

stamp_stays : (k s c : ℕ) (t : Stamp) → is_of_stage k t ≡ false → acked_stamp k s c t ≡ t
stamp_stays k s c t h = ap (λ b. cond b (Acked s c) t) h

stamps_stay : (k s c : ℕ) (ts : List Stamp) → list_any (is_of_stage k) ts ≡ false → map (acked_stamp k s c) ts ≡ ts
stamps_stay k s c [] h = refl
stamps_stay k s c (t ∷ ts) h =
    let n = neither (is_of_stage k t) (list_any (is_of_stage k) ts) h in
    ap (λ u. u ∷ map (acked_stamp k s c) ts) (stamp_stays k s c t n.0) ∙ ap (λ us. t ∷ us) (stamps_stay k s c ts n.1)

props_stay : (k : ℕ) (props : PropertyList) (pending : List (ℕ × Changes)) → list_any (λ p. nat_eq p.0 k) pending ≡ false → acked_props k props pending ≡ props
props_stay k props [] h = refl
props_stay k props ((j, d) ∷ pending) h =
    let n = neither (nat_eq j k) (list_any (λ p. nat_eq p.0 k) pending) h in
    ap (λ b. acked_props k (cond b (change props d) props) pending) n.0 ∙ props_stay k props pending n.1

pending_stay : (k : ℕ) (pending : List (ℕ × Changes)) → list_any (λ p. nat_eq p.0 k) pending ≡ false → without_stage k pending ≡ pending
pending_stay k [] h = refl
pending_stay k (p ∷ pending) h =
    let n = neither (nat_eq p.0 k) (list_any (λ q. nat_eq q.0 k) pending) h in
    ap (λ b. cond (not b) (p ∷ without_stage k pending) (without_stage k pending)) n.0 ∙ ap (λ ps. p ∷ ps) (pending_stay k pending n.1)

-- a leaf with nothing of the stage
pub acked_stays : {C : Type 0} (stamped : C → ℕ → ℕ → C) (k s c : ℕ) (x : TreeLeaf C) → is_of_stage k x.stamps.ins ≡ false → is_marked_by k x ≡ false
    → acked_leaf stamped k s c x ≡ x
acked_stays {C} stamped k s c x ins marked =
    let n = neither (list_any (is_of_stage k) x.stamps.dels) (list_any (λ p. nat_eq p.0 k) x.overlay.pending) marked in
    let leaf : C → Stamp → List Stamp → PropertyList → List (ℕ × Changes) → TreeLeaf C =
    λ content i dels props pending. record {
      content = content;
      stamps = record { ins = i; dels = dels };
      overlay = record { acked = props; pending = pending };
    } in
    ap (λ a. leaf a (acked_stamp k s c x.stamps.ins) (map (acked_stamp k s c) x.stamps.dels) (acked_props k x.overlay.acked x.overlay.pending) (without_stage k x.overlay.pending))
    (ap (λ b. cond b (stamped x.content s c) x.content) ins)
    ∙ ap (λ a. leaf x.content a (map (acked_stamp k s c) x.stamps.dels) (acked_props k x.overlay.acked x.overlay.pending) (without_stage k x.overlay.pending))
    (stamp_stays k s c x.stamps.ins ins)
    ∙ ap (λ a. leaf x.content x.stamps.ins a (acked_props k x.overlay.acked x.overlay.pending) (without_stage k x.overlay.pending)) (stamps_stay k s c x.stamps.dels n.0)
    ∙ ap (λ a. leaf x.content x.stamps.ins x.stamps.dels a (without_stage k x.overlay.pending)) (props_stay k x.overlay.acked x.overlay.pending n.1)
    ∙ ap (leaf x.content x.stamps.ins x.stamps.dels x.overlay.acked) (pending_stay k x.overlay.pending n.1)
