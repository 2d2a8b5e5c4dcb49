-- What a call makes of a tree of text that its callers go on with.
use Rattle.std.proofs.Common.{◌≡◌, ℕ, zero, suc, Bool, true, false, cond, ◌&&◌, List, [], ◌∷◌, ◌++◌, Option, Some, None, IsSome, option_map, map, ap, subst, refl, sym, ◌∙◌}
use Rattle.std.specs.List.{AllByRecursion}
use Rattle.ft_base.specs.Scan.{change_range, change_range_from, one_more_if, put, put_past, within}
use Rattle.ft_base.specs.declared.elements.Element.{Element as ElementStamps}
use Rattle.ft_base.specs.declared.stamps.Stamp.{Stamp}
use Rattle.ft_tree_leaves.specs.declared.references.Reference.{Reference}
use Rattle.ft_tree_leaves.specs.declared.text.TextContent.{TextContent}
use Rattle.ft_tree_leaves.specs.Elements.{TreeElement, acked_element, elements_with, new_elements, removed_stamps, with_stamps}
use Rattle.ft_tree_leaves.specs.LeafLists.{elements}
use Rattle.ft_tree_leaves.specs.References.{ChangesReferences, KeepsReferences, reference_at}
use Rattle.ft_tree_leaves.specs.TextLeaves.{text_units}
use Rattle.ft_props.specs.Element.{ElementContent}
use Rattle.ft_props.specs.Overlay.{without_stage}
use Rattle.ft_props.specs.Properties.{PropertyList}
use Rattle.ft_tests_tree.specs.Passing.{Passes}
use Rattle.ft_tree.specs.State.{KeepsRest, TreeState}

module _ {A : Type 0} (P : A → Type 0) where
  all_both : (us vs : List A) → AllByRecursion P us → AllByRecursion P vs → AllByRecursion P (us ++ vs)
  all_both [] vs h k = k
  all_both (u ∷ us) vs h k = (h.0, all_both us vs h.1 k)

  all_chosen : (b : Bool) (us vs : List A) → AllByRecursion P us → AllByRecursion P vs → AllByRecursion P (cond b us vs)
  all_chosen true us vs h k = h
  all_chosen false us vs h k = k

  all_past : (past : A → Bool) (new xs : List A) → AllByRecursion P new → AllByRecursion P xs → AllByRecursion P (put_past past new xs)
  all_past past new [] h k = h
  all_past past new (x ∷ xs) h k =
      all_chosen (past x) (x ∷ put_past past new xs) (new ++ (x ∷ xs)) (k.0, all_past past new xs h k.1) (all_both new (x ∷ xs) h k)

  -- what holds of all elements and of the new ones holds of all after an insertion
  all_put : (seen past : A → Bool) (p : ℕ) (new xs : List A) → AllByRecursion P new → AllByRecursion P xs → AllByRecursion P (put seen past p new xs)
  all_put seen past zero new xs h k = all_past past new xs h k
  all_put seen past (suc p) new [] h k = h
  all_put seen past (suc p) new (x ∷ xs) h k = (k.0, all_put seen past (cond (seen x) p (suc p)) new xs h k.1)

  either : (b : Bool) (x y : A) → P x → P y → P (cond b x y)
  either true x y h k = h
  either false x y h k = k

  -- what a change keeps of each element holds of all after it
  all_changed : (f : A → A) → ((x : A) → P x → P (f x)) → (seen : A → Bool) (p q i : ℕ) (xs : List A) → AllByRecursion P xs
      → AllByRecursion P (change_range_from i seen p q f xs)
  all_changed f keeps seen p q i [] h = h
  all_changed f keeps seen p q i (x ∷ xs) h =
      (either (seen x && within p q i) (f x) x (keeps x h.0) h.0, all_changed f keeps seen p q (one_more_if (seen x) i) xs h.1)

  -- what a step keeps of each element holds of all after it
  all_mapped : (f : A → A) → ((x : A) → P x → P (f x)) → (xs : List A) → AllByRecursion P xs → AllByRecursion P (map f xs)
  all_mapped f keeps [] h = h
  all_mapped f keeps (x ∷ xs) h = (keeps x h.0, all_mapped f keeps xs h.1)

-- no changes are pending on new elements
calm_with : {U : Type 0} (e : ElementStamps) (by : Option Stamp) (props : PropertyList) (us : List U)
    → AllByRecursion (λ (x : TreeElement U). x.overlay.pending ≡ []) (elements_with e by (record { acked = props; pending = [] }) us)
calm_with e by props [] = tt
calm_with e by props (u ∷ us) = (refl, calm_with e by props us)

new_calm : {U : Type 0} (ins : Stamp) (by : Option Stamp) (props : PropertyList) (us : List U)
    → AllByRecursion (λ (e : TreeElement U). e.overlay.pending ≡ []) (new_elements ins by props us)
new_calm ins by props us = calm_with (record { ins = ins; dels = [] }) by props us

-- a reference that goes on is live
goes_on : (f : Reference → Reference) (o : Option Reference) → IsSome o → IsSome (option_map f o)
goes_on f None h = h
goes_on f (Some x) h = refl

-- an insertion that callers go on with
pub passes_put : (seen past : TreeElement ElementContent → Bool) (p : ℕ) (ins : Stamp) (by : Option Stamp) (props : PropertyList)
    (us : List ElementContent) (f : Reference → Reference) (old now : TreeState TextContent)
    → elements text_units (λ x. x.by) now.leaves ≡ put seen past p (new_elements ins by props us) (elements text_units (λ x. x.by) old.leaves)
    → ChangesReferences f old.refs now.refs → KeepsRest old now → Passes old now
passes_put seen past p ins by props us f old now list refs rest = record {
  rest = rest;
  calm = λ h. subst (AllByRecursion (λ e. e.overlay.pending ≡ [])) (sym list)
      (all_put (λ e. e.overlay.pending ≡ []) seen past p (new_elements ins by props us) (elements text_units (λ x. x.by) old.leaves)
      (new_calm ins by props us) h);
  live = λ r h. subst IsSome (sym (refs r)) (goes_on f (reference_at old.refs r) h);
  free = λ h r. refs r ∙ ap (option_map f) (h r);
}

-- a change after which references stay
pub passes_change : (f : TreeElement ElementContent → TreeElement ElementContent) → ((e : TreeElement ElementContent) → (f e).overlay.pending ≡ e.overlay.pending)
    → (seen : TreeElement ElementContent → Bool) (p q : ℕ) (old now : TreeState TextContent)
    → elements text_units (λ x. x.by) now.leaves ≡ change_range seen p q f (elements text_units (λ x. x.by) old.leaves)
    → KeepsReferences old.refs now.refs → KeepsRest old now → Passes old now
passes_change f same seen p q old now list refs rest = record {
  rest = rest;
  calm = λ h. subst (AllByRecursion (λ e. e.overlay.pending ≡ [])) (sym list)
      (all_changed (λ e. e.overlay.pending ≡ []) f (λ e k. same e ∙ k) seen p q 0 (elements text_units (λ x. x.by) old.leaves) h);
  live = λ r h. subst IsSome (sym (refs r)) h;
  free = λ h r. refs r ∙ h r;
}

-- a removal
pub passes_removal : (seen : TreeElement ElementContent → Bool) (p q : ℕ) (t : Stamp) (old now : TreeState TextContent)
    → elements text_units (λ x. x.by) now.leaves ≡ change_range seen p q (with_stamps (removed_stamps t)) (elements text_units (λ x. x.by) old.leaves)
    → KeepsReferences old.refs now.refs → KeepsRest old now → Passes old now
passes_removal seen p q t = passes_change (with_stamps (removed_stamps t)) (λ e. refl) seen p q

-- a removal after which references slide
pub passes_slide : (seen : TreeElement ElementContent → Bool) (p q : ℕ) (t : Stamp) (f : Reference → Reference) (old now : TreeState TextContent)
    → elements text_units (λ x. x.by) now.leaves ≡ change_range seen p q (with_stamps (removed_stamps t)) (elements text_units (λ x. x.by) old.leaves)
    → ChangesReferences f old.refs now.refs → KeepsRest old now → Passes old now
passes_slide seen p q t f old now list refs rest = record {
  rest = rest;
  calm = λ h. subst (AllByRecursion (λ e. e.overlay.pending ≡ [])) (sym list)
      (all_changed (λ e. e.overlay.pending ≡ []) (with_stamps (removed_stamps t)) (λ e k. k) seen p q 0
      (elements text_units (λ x. x.by) old.leaves) h);
  live = λ r h. subst IsSome (sym (refs r)) (goes_on f (reference_at old.refs r) h);
  free = λ h r. refs r ∙ ap (option_map f) (h r);
}

-- an acknowledgement, after which references slide
pub passes_ack : (k s c : ℕ) (author : Option Stamp) (f : Reference → Reference) (old now : TreeState TextContent)
    → elements text_units (λ x. x.by) now.leaves ≡ map (acked_element k s c author) (elements text_units (λ x. x.by) old.leaves)
    → ChangesReferences f old.refs now.refs → KeepsRest old now → Passes old now
passes_ack k s c author f old now list refs rest = record {
  rest = rest;
  calm = λ h. subst (AllByRecursion (λ e. e.overlay.pending ≡ [])) (sym list)
      (all_mapped (λ e. e.overlay.pending ≡ []) (acked_element k s c author) (λ e g. ap (without_stage k) g)
      (elements text_units (λ x. x.by) old.leaves) h);
  live = λ r h. subst IsSome (sym (refs r)) (goes_on f (reference_at old.refs r) h);
  free = λ h r. refs r ∙ ap (option_map f) (h r);
}
