-- The pieces as which a pending operation on elements is sent again: as the tree tells them, and as the document does.
use Rattle.std.proofs.Common.{◌≡◌, ℕ, ◌-◌, ◌≤◌, ◌<◌, Bool, true, false, cond, ◌&&◌, ◌||◌, nat_eq, List, [], ◌∷◌, ◌++◌, Option, Some, None, refl, sym, ◌∙◌, ap, subst, arith, map, filter, append-nil}
use Rattle.std.specs.List.{list_all, list_any}
use Rattle.std.specs.Option.{option_map, option_to_list}
use Rattle.std.proofs.lemmas.Bool.Decides.{nat_tests}
use Rattle.ft_base.specs.Visibility.{is_acked, is_of_stage}
use Rattle.ft_base.proofs.Booleans.{both}
use Rattle.ft_op.specs.declared.operations.BaseOp.{BaseOp}
use Rattle.ft_op.specs.declared.operations.BaseOp.TheVariants.{Insert, Remove, Annotate}
use Rattle.ft_op.specs.declared.operations.Seg.{Seg}
use Rattle.ft_op.specs.Document.{Document}
use Rattle.ft_op.specs.Intervals.{NamedElements}
use Rattle.ft_op.specs.Operation.{OnText, SubOperation, segment_contents}
use Rattle.ft_op.specs.Pieces.{text_pieces, unless_empty}
use Rattle.ft_op.specs.Stages.{Stage}
use Rattle.ft_props.specs.declared.properties.Changes.{Changes as ChangesOf}
use Rattle.ft_props.specs.Element.{ElementContent, ListElement, removal_stamp, seen}
use Rattle.ft_props.specs.Properties.{PropertyList, PropertySet, apply}
use Rattle.ft_props.specs.Steps.{is_annotated_by, is_inserted_by, is_removed_by, lowered_runs, stage_position}
use Rattle.ft_laws_agreement.specs.Reconnecting.{has_insertion_of, has_marks_of, has_removal_of, has_some, inserts_text, is_stage_of, removes_text}
use Rattle.ft_laws_agreement.specs.Sequencing.{Each, IsBlockOf, IsTyped, annotates_text}
use Rattle.ft_laws_names.specs.WellNamed.{RiseTo}
use Rattle.ft_rebase.specs.declared.marks.PendingMark.TheVariants.{Removal, Changes}
use Rattle.ft_rebase.specs.declared.pieces.Piece.{Piece}
use Rattle.ft_rebase.specs.declared.pieces.Piece.TheVariants as piece
use Rattle.ft_rebase.specs.Pieces.{annotation_pieces, insertion_pieces, marked_runs, pieces, removal_pieces}
use Rattle.ft_named.proofs.Bares.{AreElements}
use Rattle.ft_named.proofs.ListSteps.{even-removals}
use Rattle.ft_named.proofs.PieceSteps.{change-runs, put-position, removal-runs, runs-none}
use Rattle.ft_named.proofs.RebuiltSteps.{marks-none}
use Rattle.ft_text.specs.Texts.{TextElements}
use Rattle.ft_string.specs.Bare.{text_content}
use Rattle.ft_string.specs.Holds.{IsTextSound}
use Rattle.ft_string.specs.Rejoins.{piece_op}

-- ---- the one stage of a number

module _ (kind : SubOperation → Bool) where
  other-stages : (low k last : ℕ) (ts : List Stage) → k ≤ low → RiseTo low last ts → is_stage_of kind ts k ≡ false
  other-stages low k last [] l r = refl
  other-stages low k last (t ∷ ts) l r = rw (apart t.stage (let up = r.0 in omega arith) (kind t.sub_operation), other-stages t.stage k last ts (let up = r.0 in omega arith) r.1) refl
    where
      apart : (j : ℕ) → k < j → (b : Bool) → nat_eq j k && b ≡ false
      apart j l b = ap (λ a. a && b) (other j l)
        where
          other : (j : ℕ) → k < j → nat_eq j k ≡ false
          other j l = grind (arith, nat_tests)

  -- a stage among others that rise tells by itself what is of its number
  pub stage-kind : (low last : ℕ) (front : List Stage) (t : Stage) (behind : List Stage) → RiseTo low last (front ++ (t ∷ behind))
      → is_stage_of kind (front ++ (t ∷ behind)) t.stage ≡ kind t.sub_operation
  stage-kind low last [] t behind r =
      rw (self t.stage, other-stages t.stage t.stage last behind (omega arith) r.1) (or-false (kind t.sub_operation))
    where
      self : (n : ℕ) → nat_eq n n ≡ true
      self n = grind (arith, nat_tests)

      or-false : (b : Bool) → b || false ≡ b
      or-false true = refl
      or-false false = refl
  stage-kind low last (u ∷ front) t behind r =
      ap (λ b. (b && kind u.sub_operation) || is_stage_of kind (front ++ (t ∷ behind)) t.stage) (apart u.stage t.stage (in-front u.stage last front t behind r.1))
      ∙ stage-kind u.stage last front t behind r.1
    where
      apart : (i k : ℕ) → i < k → nat_eq i k ≡ false
      apart i k l = grind (arith, nat_tests)

      in-front : (low last : ℕ) (front : List Stage) (t : Stage) (behind : List Stage) → RiseTo low last (front ++ (t ∷ behind)) → low < t.stage
      in-front low last [] t behind r = r.0
      in-front low last (u ∷ front) t behind r = let far = in-front u.stage last front t behind r.1 in let up = r.0 in omega arith

-- ---- what is pending on elements is of its stages

removal-of : (removes : SubOperation → Bool) (stages : List Stage) (k : ℕ) (o : Option ℕ) → is_stage_of removes stages k ≡ false
    → has_removal_of removes stages o ≡ true
    → list_any (is_of_stage k) (removal_stamp o) ≡ false
removal-of removes stages k None h g = refl
removal-of removes stages k (Some j) h g = step (nat_eq j k) refl
  where
    same : nat_eq j k ≡ true → j ≡ k
    same e = grind (arith, nat_tests)

    step : (b : Bool) → nat_eq j k ≡ b → nat_eq j k || false ≡ false
    step false e = ap (λ b. b || false) e
    step true e = let never = sym (ap (is_stage_of removes stages) (same e) ∙ h) ∙ g in (cc)

none-removed : (inserts removes : SubOperation → Bool) (stages : List Stage) (k : ℕ) (es : List ListElement) → is_stage_of removes stages k ≡ false
    → list_all (has_marks_of inserts removes stages) es ≡ true → list_any (is_removed_by k) es ≡ false
none-removed inserts removes stages k [] h g = refl
none-removed inserts removes stages k (e ∷ es) h g =
    let p = both (has_marks_of inserts removes stages e) (list_all (has_marks_of inserts removes stages) es) g in
    let q = both (has_insertion_of inserts stages e.ins && has_removal_of removes stages e.removal_stage) (list_all is_acked e.dels) p.0 in
    let r = both (has_insertion_of inserts stages e.ins) (has_removal_of removes stages e.removal_stage) q.0 in
    rw (removal-of removes stages k e.removal_stage h r.1, none-removed inserts removes stages k es h p.1) refl

none-changed : (stages : List Stage) (k : ℕ) (es : List ListElement) → is_stage_of annotates_text stages k ≡ false
    → list_all (λ e. list_all (λ q. is_stage_of annotates_text stages q.0) e.pending) es ≡ true → list_any (is_annotated_by k) es ≡ false
none-changed stages k [] h g = refl
none-changed stages k (e ∷ es) h g =
    let p = both (list_all (λ q. is_stage_of annotates_text stages q.0) e.pending) (list_all (λ e. list_all (λ q. is_stage_of annotates_text stages q.0) e.pending) es) g in
    rw (changes e.pending p.0, none-changed stages k es h p.1) refl
  where
    here : (j : ℕ) → is_stage_of annotates_text stages j ≡ true → nat_eq j k ≡ false
    here j a = step (nat_eq j k) refl
      where
        same : nat_eq j k ≡ true → j ≡ k
        same e = grind (arith, nat_tests)

        step : (b : Bool) → nat_eq j k ≡ b → nat_eq j k ≡ false
        step false e = e
        step true e = let never = sym (ap (is_stage_of annotates_text stages) (same e) ∙ h) ∙ a in (cc)

    changes : (qs : List (ℕ × ChangesOf)) → list_all (λ q. is_stage_of annotates_text stages q.0) qs ≡ true → list_any (λ q. nat_eq q.0 k) qs ≡ false
    changes [] a = refl
    changes (q ∷ qs) a =
        let r = both (is_stage_of annotates_text stages q.0) (list_all (λ q. is_stage_of annotates_text stages q.0) qs) a in rw (here q.0 r.0, changes qs r.1) refl

-- ---- the elements of an insertion

any-of-block : (is : ListElement → Bool) (props : PropertyList) (us : List ElementContent) (es : List ListElement)
    → IsBlockOf props us (filter is es) → list_any is es ≡ has_some us
any-of-block is props us es h = filtered es ∙ counted us (filter is es) h
  where
    counted : (us : List ElementContent) (fs : List ListElement) → IsBlockOf props us fs → list_any (λ e. true) fs ≡ has_some us
    counted [] [] g = refl
    counted [] (f ∷ fs) g = (cc)
    counted (u ∷ us) [] g = (cc)
    counted (u ∷ us) (f ∷ fs) g = refl

    filtered : (es : List ListElement) → list_any is es ≡ list_any (λ e. true) (filter is es)
    filtered [] = refl
    filtered (e ∷ es) = step (is e) (filtered es)
      where
        step : (b : Bool) → list_any is es ≡ list_any (λ e. true) (filter is es)
            → b || list_any is es ≡ list_any (λ e. true) (cond b (e ∷ filter is es) (filter is es))
        step true r = refl
        step false r = r

-- ---- the pieces

abbrev sent : BaseOp → List Piece → List SubOperation
sent op ps = map (λ o. OnText o) (map (piece_op op) ps)

module _ (k : ℕ) {xs : TextElements} {es : List ListElement} (b : AreElements text_content xs es) where
  no-insertion : list_any (is_inserted_by k) es ≡ false → insertion_pieces k xs ≡ []
  no-insertion h = ap (λ o. option_to_list (option_map piece.Insert o)) (put-position text_content k b ∙ ap (λ a. cond a (Some (stage_position k es)) None) h)

  no-removals : list_all (λ e. list_all is_acked e.dels) es ≡ true → list_any (is_removed_by k) es ≡ false → removal_pieces k xs ≡ []
  no-removals d h =
      ap (λ rs. map (λ r. piece.Remove r.0 r.1) (lowered_runs 0 rs)) (removal-runs text_content k b d ∙ runs-none (seen (k - 1)) (is_removed_by k) 0 es h)

  no-changes : list_any (is_annotated_by k) es ≡ false → annotation_pieces k xs ≡ []
  no-changes h = ap (λ rs. map (λ r. piece.Annotate r.0 r.1) rs) (change-runs text_content k b ∙ runs-none (seen (k - 1)) (is_annotated_by k) 0 es h)

  three : {p q r : List Piece} → insertion_pieces k xs ≡ p → removal_pieces k xs ≡ q → annotation_pieces k xs ≡ r → pieces k xs ≡ (p ++ q) ++ r
  three e f g = rw (e, f, g) refl

-- one of some
each-at : (P : Stage → Type 0) (front : List Stage) (t : Stage) (behind : List Stage) → Each P (front ++ (t ∷ behind)) → P t
each-at P [] t behind h = h.0
each-at P (u ∷ front) t behind h = each-at P front t behind h.1

sent-removals : (op : BaseOp) (rs : List (ℕ × ℕ)) → ((a b : ℕ) → piece_op op (piece.Remove a b) ≡ Remove a b)
    → sent op (map (λ r. piece.Remove r.0 r.1) rs) ≡ map (λ r. OnText (Remove r.0 r.1)) rs
sent-removals op [] h = refl
sent-removals op (r ∷ rs) h = ap (λ o. OnText o ∷ sent op (map (λ r. piece.Remove r.0 r.1) rs)) (h r.0 r.1) ∙ ap (λ os. OnText (Remove r.0 r.1) ∷ os) (sent-removals op rs h)

sent-changes : (op : BaseOp) (changes : ChangesOf) (rs : List (ℕ × ℕ)) → ((a b : ℕ) → piece_op op (piece.Annotate a b) ≡ Annotate a b changes)
    → sent op (map (λ r. piece.Annotate r.0 r.1) rs) ≡ map (λ r. OnText (Annotate r.0 r.1 changes)) rs
sent-changes op changes [] h = refl
sent-changes op changes (r ∷ rs) h =
    ap (λ o. OnText o ∷ sent op (map (λ r. piece.Annotate r.0 r.1) rs)) (h r.0 r.1) ∙ ap (λ os. OnText (Annotate r.0 r.1 changes) ∷ os) (sent-changes op changes rs h)

module _ (last : ℕ) (doc : Document) (stages : List Stage) (text : IsTextSound last doc stages) {xs : TextElements}
    (b : AreElements text_content xs doc.text.items) where
  abbrev items : List ListElement
  items = doc.text.items

  acked : list_all (λ e. list_all is_acked e.dels) items ≡ true
  acked = even-removals items text.list.removals

  module _ (front behind : List Stage) (k : ℕ) (names : NamedElements) where
    abbrev here : BaseOp → Stage
    here op = record { stage = k; sub_operation = OnText op; names = names }

    kind-is : (kind : SubOperation → Bool) (op : BaseOp) → stages ≡ front ++ (here op ∷ behind) → is_stage_of kind stages k ≡ kind (OnText op)
    kind-is kind op e =
        ap (λ ss. is_stage_of kind ss k) e ∙ stage-kind kind 0 last front (here op) behind (subst (λ ss. RiseTo 0 last ss) e text.rise)

    insertion-case : (p : ℕ) (seg : Seg) (props : PropertySet) (us : List ElementContent) → list_any (is_inserted_by k) items ≡ has_some us
        → sent (Insert p seg props) (insertion_pieces k xs) ≡ unless_empty us (OnText (Insert (stage_position k items) seg props))
    insertion-case p seg props [] e = ap (sent (Insert p seg props)) (no-insertion k b e)
    insertion-case p seg props (u ∷ us) e =
        ap (λ o. sent (Insert p seg props) (option_to_list (option_map piece.Insert o)))
        (put-position text_content k b ∙ ap (λ a. cond a (Some (stage_position k items)) None) e)

    pub pieces-alike : (op : BaseOp) → stages ≡ front ++ (here op ∷ behind) → sent op (pieces k xs) ≡ text_pieces k items op
    pieces-alike (Insert p seg props) e =
        let op = Insert p seg props in
        let typed = each-at (λ t. IsTyped t.stage doc t.names t.sub_operation) front (here op) behind
        (subst (λ ss. Each (λ t. IsTyped t.stage doc t.names t.sub_operation) ss) e text.typed) in
        ap (sent op) (three k b refl (no-removals k b acked (none-removed inserts_text removes_text stages k items (kind-is removes_text op e) text.place.marks))
        (no-changes k b (none-changed stages k items (kind-is annotates_text op e) text.changes)) ∙ append-nil (insertion_pieces k xs ++ []) ∙ append-nil (insertion_pieces k xs))
        ∙ insertion-case p seg props (segment_contents seg) (any-of-block (is_inserted_by k) (apply [] props) (segment_contents seg) items typed)
    pieces-alike (Remove p q) e =
        let op = Remove p q in
        ap (sent op) (three k b (no-insertion k b (marks-none inserts_text removes_text stages k items (kind-is inserts_text op e) text.place.marks)) refl
        (no-changes k b (none-changed stages k items (kind-is annotates_text op e) text.changes)) ∙ append-nil (removal_pieces k xs))
        ∙ sent-removals op (lowered_runs 0 (marked_runs k Removal xs)) (λ a c. refl)
        ∙ ap (λ rs. map (λ r. OnText (Remove r.0 r.1)) (lowered_runs 0 rs)) (removal-runs text_content k b acked)
    pieces-alike (Annotate p q changes) e =
        let op = Annotate p q changes in
        ap (sent op) (three k b (no-insertion k b (marks-none inserts_text removes_text stages k items (kind-is inserts_text op e) text.place.marks))
        (no-removals k b acked (none-removed inserts_text removes_text stages k items (kind-is removes_text op e) text.place.marks)) refl)
        ∙ sent-changes op changes (marked_runs k Changes xs) (λ a c. refl)
        ∙ ap (λ rs. map (λ r. OnText (Annotate r.0 r.1 changes)) rs) (change-runs text_content k b)
