-- A sub-operation of another client keeps what is known of a document.
use Rattle.std.proofs.Common.{◌≡◌, ℕ, suc, ◌≤◌, ◌<◌, Bool, true, false, cond, nat_le, nat_eq, List, [], ◌∷◌, Option, Some, None, append-nil, replicate, refl, sym, ◌∙◌, ap, subst, arith}
use Rattle.std.specs.List.{list_all}
use Rattle.ft_base.specs.declared.stamps.Stamp.{Stamp}
use Rattle.ft_base.specs.declared.stamps.Stamp.TheVariants.{Acked}
use Rattle.ft_base.specs.Scan.{at, change_range, len}
use Rattle.ft_op.specs.declared.operations.BaseOp.{BaseOp}
use Rattle.ft_op.specs.declared.operations.BaseOp.TheVariants.{Insert, Remove, Annotate}
use Rattle.ft_op.specs.declared.operations.CellOp.{CellOp}
use Rattle.ft_op.specs.declared.operations.CellOp.TheVariants.{SpliceIn, SpliceOut, Set}
use Rattle.ft_op.specs.declared.operations.Target.{Target}
use Rattle.ft_op.specs.declared.operations.Target.TheVariants.{Rows, Cols}
use Rattle.ft_op.proofs.ForeignEffect.{effect-sequenced}
use Rattle.ft_props.specs.Properties.{ValueBytes, apply}
use Rattle.ft_props.specs.Element.{GridUnit, ListElement, is_pending, new_elements, seen_by, with_annotation, with_removal}
use Rattle.ft_props.specs.Steps.{Sequence, after_insertion, after_removal}
use Rattle.ft_props.proofs.AcknowledgedInsertion.{expects, list_up_to}
use Rattle.ft_props.proofs.PlacedInsertion.{new-unexpected}
use Rattle.ft_op.specs.Operation.{OnGrid, OnIntervals, OnText, SubOperation, segment_contents}
use Rattle.ft_op.specs.Intervals.{NamedElements, after_interval_operation}
use Rattle.ft_op.specs.Document.{Document, cell_effect, effect, effects, elements_at_given_ends, ends_of, given_ends_fit, grid_effect, rows_or_cols, sequenced_part, text_effect, with_rows_or_cols, with_skip, with_slid_ends}
use Rattle.ft_laws_agreement.proofs.StageEdits.{StageEdit, PutIn, TakenOut, Annotated, IsStanding, after_sequenced, fits_sequenced}
use Rattle.ft_laws_agreement.proofs.SentStages.{SentStage, NamesBy, StageStands, cols_edit, rows_edit, text_edit}
use Rattle.ft_laws_agreement.proofs.ToldStages.{AllStand, AreTold, Holds, ToldStage, stage_numbers}
use Rattle.ft_laws_agreement.proofs.ForeignSteps.{foreign_step-keeps, sequenced-list_up_to, unexpected-removal}
use Rattle.ft_laws_agreement.proofs.AgreedStage.{IsNamed, IsSound, ends-after, ends-stand, named-after}
use Rattle.ft_laws_agreement.proofs.OrderedMarks.{is_ordered, ordered-sequenced}
use Rattle.ft_laws_agreement.proofs.WithinStages.{is_within, within-more, within-sequenced}
use Rattle.ft_laws_agreement.proofs.NamedByPlace.{SeenAs, names-as, names-not_renamed, seen-put, seen-ranges}
use Rattle.ft_laws_agreement.proofs.NumberTests.{one-test}

-- the second list is the first after a sequenced edit that is in range
pub record IsForeign (s d e : ℕ) (xs ys : List ListElement) : Type 0 where
  pub n : ℕ
  pub by : Option Stamp
  pub edit : StageEdit
  pub fits : fits_sequenced s d e edit xs ≡ true
  pub made : ys ≡ after_sequenced s d e n by edit xs

as-it-was : (s d e : ℕ) (xs : List ListElement) → IsForeign s d e xs xs
as-it-was s d e xs = record { n = 0; by = None; edit = TakenOut []; fits = refl; made = refl }

module _ (s d e c : ℕ) (others : nat_eq d c ≡ false) where
  seen-edit : (k r n : ℕ) (by : Option Stamp) (edit : StageEdit) (xs : List ListElement) → r < s
      → SeenAs (expects r c (suc (suc k))) (expects r c (suc (suc k))) (λ x. x) (list_up_to k xs) (after_sequenced s d e n by edit (list_up_to k xs))
  seen-edit k r n by (PutIn p props items) xs above =
      seen-put (expects r c (suc (suc k))) (seen_by e d) is_pending p (new_elements n (Acked s d) [] by props items) (list_up_to k xs)
      (new-unexpected r c (suc (suc k)) n s d by props items above others)
  seen-edit k r n by (TakenOut ranges) xs above =
      seen-ranges (expects r c (suc (suc k))) (seen_by e d) (with_removal s d) (unexpected-removal r c (suc (suc k)) s d above others) (λ x. refl) ranges (list_up_to k xs)
  seen-edit k r n by (Annotated ranges changes) xs above =
      seen-ranges (expects r c (suc (suc k))) (seen_by e d) (with_annotation changes) (λ x. refl) (λ x. refl) ranges (list_up_to k xs)

  seen-foreign : (k r : ℕ) (xs ys : List ListElement) → r < s → IsForeign s d e xs ys
      → SeenAs (expects r c (suc (suc k))) (expects r c (suc (suc k))) (λ x. x) (list_up_to k xs) (list_up_to k ys)
  seen-foreign k r xs ys above f =
      subst (λ zs. SeenAs (expects r c (suc (suc k))) (expects r c (suc (suc k))) (λ x. x) (list_up_to k xs) zs)
      (sym (ap (list_up_to k) f.made ∙ sequenced-list_up_to s d e f.n f.by k f.edit xs)) (seen-edit k r f.n f.by f.edit xs above)

  list-keeps : (k r : ℕ) (edit : StageEdit) (xs ys : List ListElement) → r < s → IsForeign s d e xs ys → IsStanding k r c edit xs → IsStanding k r c edit ys
  list-keeps k r edit xs ys above f h =
      subst (λ zs. IsStanding k r c edit zs) (sym f.made) (foreign_step-keeps s d e f.n f.by k r c edit f.edit xs above others f.fits h)

  module _ (doc after : Document) (text : IsForeign s d e doc.text.items after.text.items) (rows : IsForeign s d e doc.rows.items after.rows.items)
      (cols : IsForeign s d e doc.cols.items after.cols.items) where
    stage-keeps : (k r : ℕ) (sent : SentStage) (names : NamedElements) → r < s → StageStands k r c sent names doc → StageStands k r c sent names after
    stage-keeps k r sent names above h =
        let test = expects r c (suc (suc k)) in
        record {
          text = list-keeps k r (text_edit sent) doc.text.items after.text.items above text h.text;
          rows = list-keeps k r (rows_edit sent) doc.rows.items after.rows.items above rows h.rows;
          cols = list-keeps k r (cols_edit sent) doc.cols.items after.cols.items above cols h.cols;
          named =
              subst (λ ns. NamesBy test (list_up_to k after.text.items) (list_up_to k after.rows.items) (list_up_to k after.cols.items) sent ns) (names-not_renamed names)
              (names-as test test (λ x. x) (list_up_to k doc.text.items) (list_up_to k after.text.items) (list_up_to k doc.rows.items)
              (list_up_to k after.rows.items) (list_up_to k doc.cols.items) (list_up_to k after.cols.items)
              (seen-foreign k r doc.text.items after.text.items above text) (seen-foreign k r doc.rows.items after.rows.items above rows)
              (seen-foreign k r doc.cols.items after.cols.items above cols) sent names h.named);
        }

    stages-keep : (m : ℕ) (ts : List ToldStage) → m < s → AreTold m ts → AllStand c doc ts → AllStand c after ts
    stages-keep m [] above told h = tt
    stages-keep m (t ∷ ts) above told h =
        let ref : t.ref ≤ m = told.2 in
        let before : t.ref < s = omega arith in
        (stage-keeps t.before t.ref t.sent t.stage.names before h.0, stages-keep m ts above told.3 h.1)

    within-keeps : (n : ℕ) (ks : List ℕ) (xs ys : List ListElement) → n ≤ s → IsForeign s d e xs ys → list_all (is_within n ks) xs ≡ true → list_all (is_within s ks) ys ≡ true
    within-keeps n ks xs ys l f h = ap (list_all (is_within s ks)) f.made ∙ within-sequenced n s d e f.n f.by f.edit ks xs l h

    order-keeps : (xs ys : List ListElement) → IsForeign s d e xs ys → list_all is_ordered xs ≡ true → list_all is_ordered ys ≡ true
    order-keeps xs ys f h = ap (list_all is_ordered) f.made ∙ ordered-sequenced s d e f.n f.by f.edit xs h

    pub foreign-holds : (m n last : ℕ) (ts : List ToldStage) → m < s → n ≤ s → IsSound (sequenced_part after) → Holds c m n last ts doc → Holds c m s last ts after
    foreign-holds m n last ts above l sound h = record {
      told = h.told;
      rising = h.rising;
      text = within-keeps n (stage_numbers ts) doc.text.items after.text.items l text h.text;
      rows = within-keeps n (stage_numbers ts) doc.rows.items after.rows.items l rows h.rows;
      cols = within-keeps n (stage_numbers ts) doc.cols.items after.cols.items l cols h.cols;
      text_order = order-keeps doc.text.items after.text.items text h.text_order;
      rows_order = order-keeps doc.rows.items after.rows.items rows h.rows_order;
      cols_order = order-keeps doc.cols.items after.cols.items cols h.cols_order;
      stand = stages-keep m ts above h.told h.stand;
      sound = sound;
    }

-- ---- each sub-operation

by_cond : (P : Document → Type 0) (b : Bool) (x y : Document) → (b ≡ true → P x) → P y → P (cond b x y)
by_cond P true x y h k = h refl
by_cond P false x y h k = k

-- the three lists are as after a sequenced edit in range
abbrev pub AreForeign : ℕ → ℕ → ℕ → Document → Document → Type 0
AreForeign s d e doc after = IsForeign s d e doc.text.items after.text.items × IsForeign s d e doc.rows.items after.rows.items × IsForeign s d e doc.cols.items after.cols.items

same-lists : (s d e : ℕ) (doc : Document) → AreForeign s d e doc doc
same-lists s d e doc = (as-it-was s d e doc.text.items, as-it-was s d e doc.rows.items, as-it-was s d e doc.cols.items)

text-foreign : (s d e : ℕ) (doc : Document) (op : BaseOp) → AreForeign s d e doc (text_effect doc s d e op)
text-foreign s d e doc (Insert p seg props) =
    by_cond (AreForeign s d e doc) (nat_le p (len (seen_by e d) doc.text.items))
    (record doc { text = after_insertion s d e p (Some (Acked s d)) (apply [] props) (segment_contents seg) doc.text }) (with_skip doc)
    (λ h. (
      record { n = doc.text.made; by = Some (Acked s d); edit = PutIn p (apply [] props) (segment_contents seg); fits = h; made = refl },
      as-it-was s d e
          doc.rows.items,
      as-it-was s d e doc.cols.items,
    ))
    (same-lists s d e doc)
text-foreign s d e doc (Remove p q) =
    by_cond (AreForeign s d e doc) (nat_le q (len (seen_by e d) doc.text.items)) (with_slid_ends (record doc { text = after_removal s d e p q doc.text })) (with_skip doc)
    (λ h. (
      record { n = 0; by = None; edit = TakenOut ((p, q) ∷ []); fits = one-test q (len (seen_by e d) doc.text.items) h; made = refl },
      as-it-was s d e
          doc.rows.items,
      as-it-was s d e doc.cols.items,
    ))
    (same-lists s d e doc)
text-foreign s d e doc (Annotate p q changes) =
    by_cond (AreForeign s d e doc) (nat_le q (len (seen_by e d) doc.text.items))
    (record doc { text = record { items = change_range (seen_by e d) p q (with_annotation changes) doc.text.items; made = doc.text.made } }) (with_skip doc)
    (λ h. (
      record { n = 0; by = None; edit = Annotated ((p, q) ∷ []) changes; fits = one-test q (len (seen_by e d) doc.text.items) h; made = refl },
      as-it-was
          s d e doc.rows.items,
      as-it-was s d e doc.cols.items,
    ))
    (same-lists s d e doc)

cell-foreign : (s d e : ℕ) (doc : Document) (row col : Option ListElement) (value : ValueBytes) → AreForeign s d e doc (cell_effect doc row col value)
cell-foreign s d e doc None col value = same-lists s d e doc
cell-foreign s d e doc (Some row) None value = same-lists s d e doc
cell-foreign s d e doc (Some row) (Some col) value = same-lists s d e doc

grid-foreign : (s d e : ℕ) (doc : Document) (op : CellOp) → AreForeign s d e doc (grid_effect doc s d e op)
grid-foreign s d e doc (SpliceIn Rows p count) =
    by_cond (AreForeign s d e doc) (nat_le p (len (seen_by e d) doc.rows.items))
    (record doc { rows = after_insertion s d e p None [] (replicate count GridUnit) doc.rows }) (with_skip doc)
    (λ h. (
      as-it-was s d e doc.text.items,
      record { n = doc.rows.made; by = None; edit = PutIn p [] (replicate count GridUnit); fits = h; made = refl },
      as-it-was s d e doc.cols.items,
    ))
    (same-lists s d e doc)
grid-foreign s d e doc (SpliceIn Cols p count) =
    by_cond (AreForeign s d e doc) (nat_le p (len (seen_by e d) doc.cols.items))
    (record doc { cols = after_insertion s d e p None [] (replicate count GridUnit) doc.cols }) (with_skip doc)
    (λ h. (
      as-it-was s d e doc.text.items,
      as-it-was s d e doc.rows.items,
      record
          { n = doc.cols.made; by = None; edit = PutIn p [] (replicate count GridUnit); fits = h; made = refl },
    ))
    (same-lists s d e doc)
grid-foreign s d e doc (SpliceOut Rows p q) =
    by_cond (AreForeign s d e doc) (nat_le q (len (seen_by e d) doc.rows.items)) (record doc { rows = after_removal s d e p q doc.rows }) (with_skip doc)
    (λ h. (
      as-it-was s d e doc.text.items,
      record {
        n = 0;
        by = None;
        edit = TakenOut ((p, q) ∷ []);
        fits = one-test q (len (seen_by e d) doc.rows.items) h;
        made = refl;
      },
      as-it-was s d e doc.cols.items,
    ))
    (same-lists s d e doc)
grid-foreign s d e doc (SpliceOut Cols p q) =
    by_cond (AreForeign s d e doc) (nat_le q (len (seen_by e d) doc.cols.items)) (record doc { cols = after_removal s d e p q doc.cols }) (with_skip doc)
    (λ h. (
      as-it-was s d e doc.text.items,
      as-it-was s d e doc.rows.items,
      record
          { n = 0; by = None; edit = TakenOut ((p, q) ∷ []); fits = one-test q (len (seen_by e d) doc.cols.items) h; made = refl },
    ))
    (same-lists s d e doc)
grid-foreign s d e doc (Set i j value) = cell-foreign s d e doc (at (seen_by e d) i doc.rows.items) (at (seen_by e d) j doc.cols.items) value

effect-foreign : (s d e : ℕ) (doc : Document) (o : SubOperation) → AreForeign s d e doc (effect doc s d e o)
effect-foreign s d e doc (OnText op) = text-foreign s d e doc op
effect-foreign s d e doc (OnIntervals op) =
    by_cond (AreForeign s d e doc) (given_ends_fit (len (seen_by e d) doc.text.items) (ends_of op))
    (with_slid_ends (record doc { intervals = after_interval_operation op (elements_at_given_ends (seen_by e d) doc.text.items (ends_of op)) doc.intervals })) (with_skip doc)
    (λ h. same-lists s d e doc) (same-lists s d e doc)
effect-foreign s d e doc (OnGrid op) = grid-foreign s d e doc op

-- ---- what stands in the document of messages alone

skip-sound : (doc : Document) → IsSound doc → IsSound (with_skip doc)
skip-sound doc h = record { named = h.named; ends = h.ends; rows = h.rows; cols = h.cols }

text-sound : (s d e : ℕ) (doc : Document) (op : BaseOp) → IsSound doc → IsSound (text_effect doc s d e op)
text-sound s d e doc (Insert p seg props) h =
    by_cond (λ x. IsSound x) (nat_le p (len (seen_by e d) doc.text.items))
    (record doc { text = after_insertion s d e p (Some (Acked s d)) (apply [] props) (segment_contents seg) doc.text }) (with_skip doc)
    (λ f. record {
      named = named-after s d e (Some (Acked s d)) (PutIn p (apply [] props) (segment_contents seg)) doc.text h.named;
      ends = ends-after s d e (Some (Acked s d)) (PutIn p (apply [] props) (segment_contents seg)) doc.text doc.intervals refl h.ends;
      rows = h.rows;
      cols = h.cols;
    }) (skip-sound doc h)
text-sound s d e doc (Remove p q) h =
    by_cond (λ x. IsSound x) (nat_le q (len (seen_by e d) doc.text.items)) (with_slid_ends (record doc { text = after_removal s d e p q doc.text })) (with_skip doc)
    (λ f. record {
      named = named-after s d e None (TakenOut ((p, q) ∷ [])) doc.text h.named;
      ends = ends-stand (after_removal s d e p q doc.text).items
          doc.intervals;
      rows = h.rows;
      cols = h.cols;
    }) (skip-sound doc h)
text-sound s d e doc (Annotate p q changes) h =
    by_cond (λ x. IsSound x) (nat_le q (len (seen_by e d) doc.text.items))
    (record doc { text = record { items = change_range (seen_by e d) p q (with_annotation changes) doc.text.items; made = doc.text.made } }) (with_skip doc)
    (λ f. record {
      named = named-after s d e None (Annotated ((p, q) ∷ []) changes) doc.text h.named;
      ends = ends-after s d e None (Annotated ((p, q) ∷ []) changes) doc.text doc.intervals refl h.ends;
      rows = h.rows;
      cols = h.cols;
    }) (skip-sound doc h)

cell-sound : (doc : Document) (row col : Option ListElement) (value : ValueBytes) → IsSound doc → IsSound (cell_effect doc row col value)
cell-sound doc None col value h = skip-sound doc h
cell-sound doc (Some row) None value h = skip-sound doc h
cell-sound doc (Some row) (Some col) value h = record { named = h.named; ends = h.ends; rows = h.rows; cols = h.cols }

lists-sound : (target : Target) (list : Sequence) (doc : Document) → IsNamed list → IsSound doc → IsSound (with_rows_or_cols target doc list)
lists-sound Rows list doc named h = record { named = h.named; ends = h.ends; rows = named; cols = h.cols }
lists-sound Cols list doc named h = record { named = h.named; ends = h.ends; rows = h.rows; cols = named }

list-sound : (target : Target) (doc : Document) → IsSound doc → IsNamed (rows_or_cols target doc)
list-sound Rows doc h = h.rows
list-sound Cols doc h = h.cols

grid-sound : (s d e : ℕ) (doc : Document) (op : CellOp) → IsSound doc → IsSound (grid_effect doc s d e op)
grid-sound s d e doc (SpliceIn target p count) h =
    by_cond (λ x. IsSound x) (nat_le p (len (seen_by e d) (rows_or_cols target doc).items))
    (with_rows_or_cols target doc (after_insertion s d e p None [] (replicate count GridUnit) (rows_or_cols target doc))) (with_skip doc)
    (λ f. lists-sound target (after_insertion s d e p None [] (replicate count GridUnit) (rows_or_cols target doc)) doc
    (named-after s d e None (PutIn p [] (replicate count GridUnit)) (rows_or_cols target doc) (list-sound target doc h)) h) (skip-sound doc h)
grid-sound s d e doc (SpliceOut target p q) h =
    by_cond (λ x. IsSound x) (nat_le q (len (seen_by e d) (rows_or_cols target doc).items))
    (with_rows_or_cols target doc (after_removal s d e p q (rows_or_cols target doc))) (with_skip doc)
    (λ f. lists-sound target (after_removal s d e p q (rows_or_cols target doc)) doc
    (named-after s d e None (TakenOut ((p, q) ∷ [])) (rows_or_cols target doc) (list-sound target doc h)) h) (skip-sound doc h)
grid-sound s d e doc (Set i j value) h = cell-sound doc (at (seen_by e d) i doc.rows.items) (at (seen_by e d) j doc.cols.items) value h

-- each sub-operation keeps what stands in the document
pub effect-sound : (s d e : ℕ) (doc : Document) (o : SubOperation) → IsSound doc → IsSound (effect doc s d e o)
effect-sound s d e doc (OnText op) h = text-sound s d e doc op h
effect-sound s d e doc (OnIntervals op) h =
    by_cond (λ x. IsSound x) (given_ends_fit (len (seen_by e d) doc.text.items) (ends_of op))
    (with_slid_ends (record doc { intervals = after_interval_operation op (elements_at_given_ends (seen_by e d) doc.text.items (ends_of op)) doc.intervals })) (with_skip doc)
    (λ f. record {
      named = h.named;
      ends = ends-stand doc.text.items (after_interval_operation op
          (elements_at_given_ends (seen_by e d) doc.text.items (ends_of op)) doc.intervals);
      rows = h.rows;
      cols = h.cols;
    }) (skip-sound doc h)
effect-sound s d e doc (OnGrid op) h = grid-sound s d e doc op h

pub effects-sound : (s d e : ℕ) (doc : Document) (os : List SubOperation) → IsSound doc → IsSound (effects doc s d e os)
effects-sound s d e doc [] h = h
effects-sound s d e doc (o ∷ os) h = effects-sound s d e (effect doc s d e o) os (effect-sound s d e doc o h)

-- ---- a sub-operation of another client, and several

pub effect-holds : (s d e c m n last : ℕ) (ts : List ToldStage) (doc : Document) (o : SubOperation) → nat_eq d c ≡ false → m < s → n ≤ s
    → Holds c m n last ts doc → Holds c m s last ts (effect doc s d e o)
effect-holds s d e c m n last ts doc o others above l h =
    let f = effect-foreign s d e doc o in
    foreign-holds s d e c others doc (effect doc s d e o) f.0 f.1 f.2 m n last ts above l
    (subst (λ x. IsSound x) (sym (effect-sequenced doc s d e o)) (effect-sound s d e (sequenced_part doc) o h.sound)) h

pub effects-hold : (s d e c m last : ℕ) (ts : List ToldStage) (doc : Document) (os : List SubOperation) → nat_eq d c ≡ false → m < s → Holds c m s last ts doc
    → Holds c m s last ts (effects doc s d e os)
effects-hold s d e c m last ts doc [] others above h = h
effects-hold s d e c m last ts doc (o ∷ os) others above h =
    effects-hold s d e c m last ts (effect doc s d e o) os others above (effect-holds s d e c m s last ts doc o others above (omega arith) h)

-- more numbers may be known
told-more : (m n : ℕ) (ts : List ToldStage) → m ≤ n → AreTold m ts → AreTold n ts
told-more m n [] l h = tt
told-more m n (t ∷ ts) l h =
    let ref : t.ref ≤ m = h.2 in
    let more : t.ref ≤ n = omega arith in
    (h.0, h.1, more, told-more m n ts l h.3)

pub holds-more : (c m m' n n' last : ℕ) (ts : List ToldStage) (doc : Document) → m ≤ m' → n ≤ n' → Holds c m n last ts doc → Holds c m' n' last ts doc
holds-more c m m' n n' last ts doc l k h =
    let more = λ (xs : List ListElement) (g : list_all (is_within n (stage_numbers ts)) xs ≡ true).
    subst (λ ks. list_all (is_within n' ks) xs ≡ true) (append-nil (stage_numbers ts)) (within-more n n' (stage_numbers ts) [] xs k g) in
    record {
      told = told-more m m' ts l h.told;
      rising = h.rising;
      text = more doc.text.items h.text;
      rows = more doc.rows.items h.rows;
      cols = more doc.cols.items h.cols;
      text_order = h.text_order;
      rows_order = h.rows_order;
      cols_order = h.cols_order;
      stand = h.stand;
      sound = h.sound;
    }
