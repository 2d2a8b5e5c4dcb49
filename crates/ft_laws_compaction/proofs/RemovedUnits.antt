-- A removed row or column stays removed at each step.
use Rattle.std.proofs.Common.{◌≡◌, ℕ, zero, suc, Bool, true, false, cond, ◌&&◌, ◌||◌, nat_le, List, [], ◌∷◌, ◌++◌, Option, Some, None, refl, sym, ◌∙◌, ap, replicate}
use Rattle.std.specs.List.{list_all, list_any}
use Rattle.ft_base.specs.declared.stamps.Stamp.{Stamp}
use Rattle.ft_base.specs.declared.stamps.Stamp.TheVariants.{Acked, Local}
use Rattle.ft_base.specs.Scan.{at, change_range_from, len, one_more_if, put, put_past, within}
use Rattle.ft_base.specs.Visibility.{is_acked}
use Rattle.ft_base.proofs.Booleans.{both}
use Rattle.ft_op.specs.declared.operations.BaseOp.{BaseOp}
use Rattle.ft_op.specs.declared.operations.BaseOp.TheVariants.{Insert, Remove, Annotate}
use Rattle.ft_op.specs.declared.operations.CellOp.{CellOp}
use Rattle.ft_op.specs.declared.operations.CellOp.TheVariants.{SpliceIn, SpliceOut, Set}
use Rattle.ft_op.specs.declared.operations.Target.TheVariants.{Rows, Cols}
use Rattle.ft_msg.specs.declared.messages.Body.{Body}
use Rattle.ft_msg.specs.declared.messages.Body.TheVariants.{Nothing, Op, Elsewhere}
use Rattle.ft_msg.specs.declared.messages.Entry.{Entry}
use Rattle.ft_props.specs.Properties.{ValueBytes}
use Rattle.ft_props.specs.Element.{ElementId, GridUnit, ListElement, has_id, is_pending, new_elements, seen_by, sequenced_elements, with_removal}
use Rattle.ft_op.specs.Operation.{OnGrid, OnIntervals, OnText, SubOperation, sub_operations}
use Rattle.ft_op.specs.Document.{Document, cell_effect, effect, effects, ends_of, given_ends_fit, grid_effect, sequenced_part, text_effect}
use Rattle.ft_msg.specs.Agreed.{body_effect, reference_number, take_entries, take_entry}
use Rattle.ft_laws_agreement.specs.Sequencing.{is_marked_later}
use Rattle.ft_laws_agreement.proofs.AnyAndAll.{any-behind}
use Rattle.ft_laws_agreement.proofs.Booleans.{never}
use Rattle.ft_laws_agreement.proofs.OwnNames.{has_named}
use Rattle.ft_laws_agreement.proofs.TrimmedDocument.{is_removed, removed-more}
use Rattle.ft_props.proofs.RebuiltList.{or_right}

-- ---- one list

any-past : {A : Type 0} (is past : A → Bool) (new xs : List A) → list_any is xs ≡ true → list_any is (put_past past new xs) ≡ true
any-past is past new [] h = (cc)
any-past is past new (x ∷ xs) h = step (past x) (any-past is past new xs)
  where
    inside : (b c d : Bool) → (c ≡ true → d ≡ true) → b || c ≡ true → b || d ≡ true
    inside true c d f g = refl
    inside false c d f g = f g

    step : (b : Bool) → (list_any is xs ≡ true → list_any is (put_past past new xs) ≡ true) → list_any is (cond b (x ∷ put_past past new xs) (new ++ (x ∷ xs))) ≡ true
    step true ih = inside (is x) (list_any is xs) (list_any is (put_past past new xs)) ih h
    step false ih = any-behind is new (x ∷ xs) h

any-put : {A : Type 0} (is seen past : A → Bool) (p : ℕ) (new xs : List A) → list_any is xs ≡ true → list_any is (put seen past p new xs) ≡ true
any-put is seen past zero new xs h = any-past is past new xs h
any-put is seen past (suc p) new [] h = (cc)
any-put is seen past (suc p) new (x ∷ xs) h = inside (is x) (list_any is xs) (any-put is seen past (cond (seen x) p (suc p)) new xs) h
  where
    inside : (b c : Bool) {d : Bool} → (c ≡ true → d ≡ true) → b || c ≡ true → b || d ≡ true
    inside true c f g = refl
    inside false c f g = f g

any-range : {A : Type 0} (is seen : A → Bool) (f : A → A) → ((x : A) → is x ≡ true → is (f x) ≡ true) → (i p q : ℕ) (xs : List A) → list_any is xs ≡ true
    → list_any is (change_range_from i seen p q f xs) ≡ true
any-range is seen f more i p q [] h = (cc)
any-range is seen f more i p q (x ∷ xs) h = inside (is x) (list_any is xs) (here (seen x && within p q i)) (any-range is seen f more (one_more_if (seen x) i) p q xs) h
  where
    here : (b : Bool) → is x ≡ true → is (cond b (f x) x) ≡ true
    here true g = more x g
    here false g = g

    inside : (a b : Bool) {c d : Bool} → (a ≡ true → c ≡ true) → (b ≡ true → d ≡ true) → a || b ≡ true → c || d ≡ true
    inside true b f g h = rw (f refl) refl
    inside false b {c} {d} f g h = or_right c d (g h)

-- ---- effects

-- the removed units of one document are removed in the other
pub record StayRemoved (doc after : Document) : Type 0 where
  pub rows : (a : ElementId) → has_named is_removed doc.rows.items a ≡ true → has_named is_removed after.rows.items a ≡ true
  pub cols : (a : ElementId) → has_named is_removed doc.cols.items a ≡ true → has_named is_removed after.cols.items a ≡ true

removed-itself : (doc : Document) → StayRemoved doc doc
removed-itself doc = record { rows = λ a h. h; cols = λ a h. h }

removed-then : (d e f : Document) → StayRemoved d e → StayRemoved e f → StayRemoved d f
removed-then d e f h g = record { rows = λ a r. g.rows a (h.rows a r); cols = λ a r. g.cols a (h.cols a r) }

chosen : (b : Bool) (doc x y : Document) → StayRemoved doc x → StayRemoved doc y → StayRemoved doc (cond b x y)
chosen true doc x y h g = h
chosen false doc x y h g = g

removal-named : (s c : ℕ) (a : ElementId) (e : ListElement) → has_id a e && is_removed e ≡ true → has_id a (with_removal s c e) && is_removed (with_removal s c e) ≡ true
removal-named s c a e h = let p = both (has_id a e) (is_removed e) h in rw (p.0, removed-more s c e p.1) refl

text-removed : (doc : Document) (s c r : ℕ) (op : BaseOp) → StayRemoved doc (text_effect doc s c r op)
text-removed doc s c r (Insert p seg props) = chosen (nat_le p (len (seen_by r c) doc.text.items)) doc _ _ (record { rows = λ a h. h; cols = λ a h. h })
    (record { rows = λ a h. h; cols = λ a h. h })
text-removed doc s c r (Remove p q) = chosen (nat_le q (len (seen_by r c) doc.text.items)) doc _ _ (record { rows = λ a h. h; cols = λ a h. h })
    (record { rows = λ a h. h; cols = λ a h. h })
text-removed doc s c r (Annotate p q changes) = chosen (nat_le q (len (seen_by r c) doc.text.items)) doc _ _ (record { rows = λ a h. h; cols = λ a h. h })
    (record { rows = λ a h. h; cols = λ a h. h })

cell-removed : (doc : Document) (a b : Option ListElement) (value : ValueBytes) → StayRemoved doc (cell_effect doc a b value)
cell-removed doc (Some a) (Some b) value = record { rows = λ x h. h; cols = λ x h. h }
cell-removed doc None b value = record { rows = λ x h. h; cols = λ x h. h }
cell-removed doc (Some a) None value = record { rows = λ x h. h; cols = λ x h. h }

grid-removed : (doc : Document) (s c r : ℕ) (op : CellOp) → StayRemoved doc (grid_effect doc s c r op)
grid-removed doc s c r (SpliceIn Rows p count) =
    chosen (nat_le p (len (seen_by r c) doc.rows.items)) doc _ _
    (record {
      rows = λ a h. any-put (λ e. has_id a e && is_removed e) (seen_by r c) is_pending p
          (new_elements doc.rows.made (Acked s c) [] None [] (replicate count GridUnit)) doc.rows.items h;
      cols = λ a h. h;
    })
    (record { rows = λ a h. h; cols = λ a h. h })
grid-removed doc s c r (SpliceIn Cols p count) =
    chosen (nat_le p (len (seen_by r c) doc.cols.items)) doc _ _
    (record {
      rows = λ a h. h;
      cols = λ a h. any-put (λ e. has_id a e && is_removed e) (seen_by r c) is_pending p
          (new_elements doc.cols.made (Acked s c) [] None [] (replicate count GridUnit)) doc.cols.items h;
    })
    (record { rows = λ a h. h; cols = λ a h. h })
grid-removed doc s c r (SpliceOut Rows p q) =
    chosen (nat_le q (len (seen_by r c) doc.rows.items)) doc _ _
    (record { rows = λ a h. any-range (λ e. has_id a e && is_removed e) (seen_by r c) (with_removal s c) (removal-named s c a) 0 p q doc.rows.items h; cols = λ a h. h })
    (record { rows = λ a h. h; cols = λ a h. h })
grid-removed doc s c r (SpliceOut Cols p q) =
    chosen (nat_le q (len (seen_by r c) doc.cols.items)) doc _ _
    (record { rows = λ a h. h; cols = λ a h. any-range (λ e. has_id a e && is_removed e) (seen_by r c) (with_removal s c) (removal-named s c a) 0 p q doc.cols.items h })
    (record { rows = λ a h. h; cols = λ a h. h })
grid-removed doc s c r (Set i j value) = cell-removed doc (at (seen_by r c) i doc.rows.items) (at (seen_by r c) j doc.cols.items) value

effect-removed : (doc : Document) (s c r : ℕ) (o : SubOperation) → StayRemoved doc (effect doc s c r o)
effect-removed doc s c r (OnText op) = text-removed doc s c r op
effect-removed doc s c r (OnIntervals op) = chosen (given_ends_fit (len (seen_by r c) doc.text.items) (ends_of op)) doc _ _
    (record { rows = λ a h. h; cols = λ a h. h }) (record { rows = λ a h. h; cols = λ a h. h })
effect-removed doc s c r (OnGrid op) = grid-removed doc s c r op

effects-removed : (os : List SubOperation) (doc : Document) (s c r : ℕ) → StayRemoved doc (effects doc s c r os)
effects-removed [] doc s c r = removed-itself doc
effects-removed (o ∷ os) doc s c r = removed-then doc (effect doc s c r o) (effects (effect doc s c r o) s c r os) (effect-removed doc s c r o)
    (effects-removed os (effect doc s c r o) s c r)

body-removed : (doc : Document) (s c r : ℕ) (body : Body) → StayRemoved doc (body_effect doc s c r body)
body-removed doc s c r Nothing = removed-itself doc
body-removed doc s c r (Op op) = effects-removed (sub_operations op) doc s c r
body-removed doc s c r (Elsewhere address) = record { rows = λ a h. h; cols = λ a h. h }

entry-removed : (doc : Document) (entry : Entry) → StayRemoved doc (take_entry doc entry)
entry-removed doc entry = let b = body-removed doc entry.msg.seq entry.origin (reference_number entry.msg.ref_seq) entry.msg.body in record { rows = b.rows; cols = b.cols }

pub entries-removed : (entries : List Entry) (doc : Document) → StayRemoved doc (take_entries doc entries)
entries-removed [] doc = removed-itself doc
entries-removed (entry ∷ entries) doc = removed-then doc (take_entry doc entry) (take_entries (take_entry doc entry) entries) (entry-removed doc entry)
    (entries-removed entries (take_entry doc entry))

-- ---- with what is pending

removed-sequenced : (a : ElementId) (xs : List ListElement) → list_all is_marked_later xs ≡ true → has_named is_removed (sequenced_elements xs) a ≡ has_named is_removed xs a
removed-sequenced a [] h = refl
removed-sequenced a (e ∷ xs) h =
    let p = both (is_marked_later e) (list_all is_marked_later xs) h in
    step e.ins e.dels p.0 (removed-sequenced a xs p.1)
  where
    step : (t : Stamp) (dels : List Stamp) → is_marked_later (record e { ins = t; dels = dels }) ≡ true → has_named is_removed (sequenced_elements xs) a ≡ has_named is_removed xs a
        → has_named is_removed (sequenced_elements (record e { ins = t; dels = dels } ∷ xs)) a ≡ has_named is_removed (record e { ins = t; dels = dels } ∷ xs) a
    step (Acked s c) dels g ih = ap (λ b. (has_id a (record e { ins = Acked s c; dels = dels }) && list_any is_acked dels) || b) ih
    step (Local k) [] g ih = ih ∙ sym (ap (λ b. b || has_named is_removed xs a) (never (has_id a (record e { ins = Local k; dels = [] }))))
    step (Local k) (t ∷ dels) g ih = (cc)

-- two documents whose sequenced parts are before and after entries
pub removed-stay : (doc after : Document) (entries : List Entry) → list_all is_marked_later doc.rows.items ≡ true → list_all is_marked_later doc.cols.items
    ≡ true → list_all is_marked_later after.rows.items ≡ true → list_all is_marked_later after.cols.items ≡ true
    → sequenced_part after ≡ take_entries (sequenced_part doc) entries → StayRemoved doc after
removed-stay doc after entries r c s d e =
    let g = entries-removed entries (sequenced_part doc) in
    record {
      rows = λ a h. sym (removed-sequenced a after.rows.items s) ∙ ap (λ (y : Document). has_named is_removed y.rows.items a) e
          ∙ g.rows a (removed-sequenced a doc.rows.items r ∙ h);
      cols = λ a h. sym (removed-sequenced a after.cols.items d) ∙ ap (λ (y : Document). has_named is_removed y.cols.items a) e
          ∙ g.cols a (removed-sequenced a doc.cols.items c ∙ h);
    }
