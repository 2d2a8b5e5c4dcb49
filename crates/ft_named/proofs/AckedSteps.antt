-- The acknowledgement of a stage, of any content: the elements of the tree stay those of the document's list, and the element of
-- each name stands where it stood, under the name that it has then.
use Rattle.std.proofs.Common.{◌≡◌, ℕ, ◌+◌, ◌≤◌, Bool, true, false, cond, not, nat_eq, List, [], ◌∷◌, ◌++◌, Option, Some, None, refl, sym, ◌∙◌, ap, subst, arith, map}
use Rattle.std.specs.List.{list_all}
use Rattle.ft_base.specs.declared.stamps.Stamp.{Stamp}
use Rattle.ft_base.specs.declared.stamps.Stamp.TheVariants.{Acked, Local}
use Rattle.ft_base.specs.Scan.{len, one_more_if, rank}
use Rattle.ft_base.specs.Visibility.{is_acked, is_of_stage}
use Rattle.ft_props.specs.Element.{ElementContent, ElementId, ListElement, NamelessElement, has_id, id, is_pending, removal_stamp, same_id}
use Rattle.ft_props.specs.Overlay.{without_stage}
use Rattle.ft_props.specs.Steps.{Sequence, acked_id, acked_list, acked_props, acked_removal, acked_stamp, author, remaining_removal}
use Rattle.ft_props.specs.Steps.{acked_element as document_acked}
use Rattle.ft_tree_leaves.specs.Elements.{TreeElement, acked_element, acked_stamps}
use Rattle.ft_msg.specs.Answers.{count_held}
use Rattle.ft_laws_agreement.specs.Sequencing.{Each}
use Rattle.ft_laws_names.specs.WellNamed.{IsWellNumbered}
use Rattle.ft_laws_names.proofs.AckedLists.{acked-id, len-map, len-sum, same-acked, stands-below}
use Rattle.ft_named.proofs.Bares.{IsElement}
use Rattle.ft_named.proofs.Placed.{name_place}
use Rattle.ft_named.proofs.Lists.{each-weaker}
use Rattle.ft_named.proofs.Slid.{each-there}

-- ---- one element

module _ (k s c : ℕ) where
  acked-dels : (ds : List Stamp) (o : Option ℕ) → list_all is_acked ds ≡ true
      → map (acked_stamp k s c) (ds ++ removal_stamp o) ≡ (ds ++ acked_removal k s c o) ++ removal_stamp (remaining_removal k o)
  acked-dels [] None h = refl
  acked-dels [] (Some j) h = step (nat_eq j k)
    where
      step : (b : Bool) → cond b (Acked s c) (Local j) ∷ [] ≡ ([] ++ cond b (Acked s c ∷ []) []) ++ removal_stamp (cond b None (Some j))
      step true = refl
      step false = refl
  acked-dels (Acked r d ∷ ds) o h = ap (λ ts. Acked r d ∷ ts) (acked-dels ds o h)
  acked-dels (Local j ∷ ds) o h = (cc)

  -- where the tree gives the element the author that the document gives it
  pub acked-alike : {U : Type 0} (content : U → ElementContent) (made : Option Stamp) (n : ℕ) (x : TreeElement U) (e : ListElement) → IsElement content x e
      → list_all is_acked e.dels ≡ true → made ≡ author s c e.content → IsElement content (acked_element k s c made x) (document_acked k n s c e)
  acked-alike content made n x e q h a =
      ap (λ (m : NamelessElement). record {
        content = m.content;
        stamps = acked_stamps k s c m.stamps;
        by = cond (is_of_stage k m.stamps.ins) made m.by;
        props = acked_props k m.props m.pending;
        pending = without_stage k m.pending;
      }) q
      ∙ ap (λ ts. record {
        content = e.content;
        stamps = record { ins = acked_stamp k s c e.ins; dels = ts };
        by = cond (is_of_stage k e.ins) made e.by;
        props = acked_props k e.props e.pending;
        pending = without_stage k e.pending;
      }) (acked-dels e.dels e.removal_stage h)
      ∙ ap (λ b. record {
        content = e.content;
        stamps = record { ins = acked_stamp k s c e.ins; dels = (e.dels ++ acked_removal k s c e.removal_stage) ++ removal_stamp (remaining_removal k e.removal_stage) };
        by = cond (is_of_stage k e.ins) b e.by;
        props = acked_props k e.props e.pending;
        pending = without_stage k e.pending;
      }) a

-- ---- places

rank-same : {A B : Type 0} (is : B → Bool) (is' : A → Bool) (f : A → B) (xs : List A) → Each (λ x. is (f x) ≡ is' x) xs
    → rank is (λ _. true) (map f xs) ≡ rank is' (λ _. true) xs
rank-same is is' f [] h = refl
rank-same is is' f (x ∷ xs) h = rw (h.0, rank-same is is' f xs h.1) refl

len-same : {A B : Type 0} (is : B → Bool) (is' : A → Bool) (f : A → B) (xs : List A) → Each (λ x. is (f x) ≡ is' x) xs → len is (map f xs) ≡ len is' xs
len-same is is' f [] h = refl
len-same is is' f (x ∷ xs) h = rw (h.0, len-same is is' f xs h.1) refl

module _ (last k s c : ℕ) (list : Sequence) (h : IsWellNumbered last list) where
  -- each element has the new name just where it had the old one
  named-alike : (a : ElementId) → 1 ≤ len (has_id a) list.items
      → Each (λ e. has_id (acked_id k list.made a) (document_acked k list.made s c e) ≡ has_id a e) list.items
  named-alike a there =
      each-weaker (λ e l. ap (same_id (acked_id k list.made a)) (acked-id k s c list.made e)
      ∙ same-acked k list.made a (id e) (stands-below last k s c list h a there) (stands-below last k s c list h (id e) l)) list.items (each-there list.items)

  pub acked-stays : (a : ElementId) → 1 ≤ len (has_id a) list.items → 1 ≤ len (has_id (acked_id k list.made a)) (acked_list k s c list).items
  acked-stays a there =
      subst (λ n. 1 ≤ n) (sym (len-same (has_id (acked_id k list.made a)) (has_id a) (document_acked k list.made s c) list.items (named-alike a there))) there

  pub acked-moves : (a : ElementId) → 1 ≤ len (has_id a) list.items
      → name_place (acked_list k s c list).items (acked_id k list.made a) ≡ name_place list.items a
  acked-moves a there = rank-same (has_id (acked_id k list.made a)) (has_id a) (document_acked k list.made s c) list.items (named-alike a there)

  -- what was pending of the stage counts as sequenced
  pub acked-held : count_held (acked_list k s c list) ≡ count_held list
  acked-held =
      let all = len-map is_pending (document_acked k list.made s c) list.items in
      let sum = len-sum is_pending (λ e. is_of_stage k e.ins) (λ e. is_pending (document_acked k list.made s c e)) (λ e. parts e.ins) list.items in
      added list.made (len (λ e. is_of_stage k e.ins) list.items) (len is_pending (map (document_acked k list.made s c) list.items))
      (len (λ e. is_pending (document_acked k list.made s c e)) list.items) (len is_pending list.items) all sum
    where
      parts : (t : Stamp) → one_more_if (not (is_acked t)) 0 ≡ one_more_if (is_of_stage k t) 0 + one_more_if (not (is_acked (acked_stamp k s c t))) 0
      parts (Acked r d) = omega arith
      parts (Local j) = step (nat_eq j k)
        where
          step : (b : Bool) → 1 ≡ one_more_if b 0 + one_more_if (not (is_acked (cond b (Acked s c) (Local j)))) 0
          step true = omega arith
          step false = omega arith

      added : (made some left mapped all : ℕ) → left ≡ mapped → all ≡ some + mapped → made + some + left ≡ made + all
      added made some left mapped all e f = omega arith
