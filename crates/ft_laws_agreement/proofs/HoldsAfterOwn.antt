-- An edit of the client's own keeps what is known of a document, with one more stage for each sub-operation.
use Rattle.std.proofs.Common.{◌≡◌, ℕ, suc, ◌+◌, ◌≤◌, ◌<◌, Bool, true, false, nat_le, List, [], ◌∷◌, ◌++◌, None, refl, sym, ◌∙◌, ap, subst, arith}
use Rattle.std.specs.List.{list_all, list_any}
use Rattle.ft_base.specs.declared.stamps.Stamp.TheVariants.{Local}
use Rattle.ft_base.specs.Scan.{change_range}
use Rattle.ft_props.specs.Properties.{PropertyList}
use Rattle.ft_props.specs.Element.{ElementContent, ListElement, is_sequenced, new_elements, seen, sequenced_elements, with_pending_annotation, with_pending_removal, without_pending}
use Rattle.ft_props.proofs.AcknowledgedInsertion.{expects, list_up_to}
use Rattle.ft_props.proofs.PlacedInsertion.{drop-put, is_current, list_up_to-now}
use Rattle.ft_op.specs.Intervals.{NamedElements}
use Rattle.ft_op.specs.Document.{Document, sequenced_part}
use Rattle.ft_op.specs.Stages.{Stage}
use Rattle.ft_laws_agreement.proofs.StageEdits.{StageEdit, PutIn, TakenOut, Annotated, IsStanding, after_own, change_ranges, fits_own, has_one_range}
use Rattle.ft_laws_agreement.proofs.SentStages.{SentStage, NamesBy, StageStands, Tells, cols_edit, rows_edit, text_edit}
use Rattle.ft_laws_agreement.proofs.ToldStages.{AllStand, AreTold, Holds, Rise, ToldStage, stage_numbers}
use Rattle.ft_laws_agreement.proofs.OwnEdits.{expected, own-below, own-keeps, own-stands, range-left_out}
use Rattle.ft_laws_agreement.proofs.AgreedStage.{IsSound}
use Rattle.ft_laws_agreement.proofs.OrderedMarks.{is_ordered, ordered-own}
use Rattle.ft_laws_agreement.proofs.WithinStages.{is_within, within-current, within-own}
use Rattle.ft_laws_agreement.proofs.NamedByPlace.{names-as, names-not_renamed, seen-agree}
use Rattle.ft_laws_agreement.proofs.AnyAndAll.{all_true}
use Rattle.ft_laws_agreement.proofs.NumberTests.{from_self}

-- ---- without what is pending the list is as it was

none-sequenced : (k i : ℕ) (props : PropertyList) (items : List ElementContent) → list_any is_sequenced (new_elements i (Local k) [] None props items) ≡ false
none-sequenced k i props [] = refl
none-sequenced k i props (b ∷ bs) = none-sequenced k (i + 1) props bs

marks-sequenced : (seen : ListElement → Bool) (g : ListElement → ListElement) → ((e : ListElement) → is_sequenced (g e) ≡ is_sequenced e)
    → ((e : ListElement) → without_pending (g e) ≡ without_pending e)
    → (ranges : List (ℕ × ℕ)) (xs : List ListElement) → sequenced_elements (change_ranges seen g ranges xs) ≡ sequenced_elements xs
marks-sequenced seen g keep same [] xs = refl
marks-sequenced seen g keep same ((p, q) ∷ ranges) xs =
    marks-sequenced seen g keep same ranges (change_range seen p q g xs)
    ∙ range-left_out (λ e. true) is_sequenced seen without_pending g (λ e h f. keep e) (λ e h f. same e) p q 0 xs (all_true xs)

pub own-sequenced : (k : ℕ) (edit : StageEdit) (xs : List ListElement) → sequenced_elements (after_own k edit xs) ≡ sequenced_elements xs
own-sequenced k (PutIn p props items) xs = drop-put is_sequenced (seen k) without_pending p (new_elements 0 (Local (suc k)) [] None props items) xs
    (none-sequenced (suc k) 0 props items)
own-sequenced k (TakenOut ranges) xs = marks-sequenced (seen k) (with_pending_removal (suc k)) (λ e. refl) (λ e. refl) ranges xs
own-sequenced k (Annotated ranges changes) xs = marks-sequenced (seen k) (with_pending_annotation (suc k) changes) (λ e. refl) (λ e. refl) ranges xs

-- ---- one more stage

-- the second list is the first after an edit of the client's own at stage k + 1 that is in range
pub record IsOwnStep (k : ℕ) (edit : StageEdit) (xs ys : List ListElement) : Type 0 where
  pub one : has_one_range edit ≡ true
  pub fits : fits_own k edit xs ≡ true
  pub made : ys ≡ after_own k edit xs

pub untouched : (k : ℕ) (xs : List ListElement) → IsOwnStep k (TakenOut []) xs xs
untouched k xs = record { one = refl; fits = refl; made = refl }

-- the second document is the first after such a stage, which names these elements
pub record IsOwn (k : ℕ) (sent : SentStage) (names : NamedElements) (doc after : Document) : Type 0 where
  pub text : IsOwnStep k (text_edit sent) doc.text.items after.text.items
  pub rows : IsOwnStep k (rows_edit sent) doc.rows.items after.rows.items
  pub cols : IsOwnStep k (cols_edit sent) doc.cols.items after.cols.items
  pub named : NamesBy (seen k) doc.text.items doc.rows.items doc.cols.items sent names
  pub agrees : sequenced_part after ≡ sequenced_part doc

rise-more : (j last : ℕ) (ts : List ToldStage) (g : ToldStage) → g.before ≡ last → Rise j last ts → Rise j (suc last) (ts ++ (g ∷ []))
rise-more j last [] g e h =
    let here : j ≤ g.before = subst (λ i. j ≤ i) (sym e) h in
    let next : suc g.before ≤ suc last = subst (λ i. suc i ≤ suc last) (sym e) (omega arith) in
    (here, next)
rise-more j last (t ∷ ts) g e h = (h.0, rise-more (suc t.before) last ts g e h.1)

told-append : (m : ℕ) (ts : List ToldStage) (g : ToldStage) → AreTold m ts → AreTold m (g ∷ []) → AreTold m (ts ++ (g ∷ []))
told-append m [] g h k = k
told-append m (t ∷ ts) g h k = (h.0, h.1, h.2, told-append m ts g h.3 k)

stand-append : (c : ℕ) (doc : Document) (ts : List ToldStage) (g : ToldStage) → AllStand c doc ts → AllStand c doc (g ∷ []) → AllStand c doc (ts ++ (g ∷ []))
stand-append c doc [] g h k = k
stand-append c doc (t ∷ ts) g h k = (h.0, stand-append c doc ts g h.1 k)

pub rise-last : (j last : ℕ) (ts : List ToldStage) → Rise j last ts → j ≤ last
rise-last j last [] h = h
rise-last j last (t ∷ ts) h =
    let here : j ≤ t.before = h.0 in
    let there = rise-last (suc t.before) last ts h.1 in
    omega arith

rise-most : (j last : ℕ) (ts : List ToldStage) → Rise j last ts → list_all (λ i. nat_le i last) (stage_numbers ts) ≡ true
rise-most j last [] h = refl
rise-most j last (t ∷ ts) h = rw (from_self (suc t.before) last (rise-last (suc t.before) last ts h.1), rise-most (suc t.before) last ts h.1) refl

module _ (n c k : ℕ) where
  now-below : (edit : StageEdit) (xs ys : List ListElement) → IsOwnStep k edit xs ys → list_all (is_current n c k) xs ≡ true → list_up_to k ys ≡ xs
  now-below edit xs ys o h = ap (list_up_to k) o.made ∙ own-below n c k k edit xs (omega arith) o.one h ∙ list_up_to-now n c k xs h

  same-below : (i : ℕ) (edit : StageEdit) (xs ys : List ListElement) → i < suc k → IsOwnStep k edit xs ys → list_all (is_current n c k) xs ≡ true
      → list_up_to i ys ≡ list_up_to i xs
  same-below i edit xs ys l o h = ap (list_up_to i) o.made ∙ own-below n c k i edit xs l o.one h

  lower-list : (i r d : ℕ) (lower edit : StageEdit) (xs ys : List ListElement) → i < k → IsOwnStep k edit xs ys → list_all (is_current n c k) xs ≡ true
      → IsStanding i r d lower xs → IsStanding i r d lower ys
  lower-list i r d lower edit xs ys l o h stands = subst (λ zs. IsStanding i r d lower zs) (sym o.made) (own-keeps i k r d n c lower edit xs l o.one h stands)

  new-list : (edit : StageEdit) (xs ys : List ListElement) → IsOwnStep k edit xs ys → list_all (is_current n c k) xs ≡ true → IsStanding k n c edit ys
  new-list edit xs ys o h = subst (λ zs. IsStanding k n c edit zs) (sym o.made) (own-stands n c k edit xs o.one h o.fits)

  module _ (sent : SentStage) (names : NamedElements) (doc after : Document) (o : IsOwn k sent names doc after)
      (text : list_all (is_current n c k) doc.text.items ≡ true) (rows : list_all (is_current n c k) doc.rows.items ≡ true)
      (cols : list_all (is_current n c k) doc.cols.items ≡ true) where
    lower-stage : (i r d : ℕ) (lower : SentStage) (own : NamedElements) → i < k → StageStands i r d lower own doc → StageStands i r d lower own after
    lower-stage i r d lower own l h =
        let test = expects r d (suc (suc i)) in
        let l' : i < suc k = omega arith in
        record {
          text = lower-list i r d (text_edit lower) (text_edit sent) doc.text.items after.text.items l o.text text h.text;
          rows = lower-list i r d (rows_edit lower) (rows_edit sent) doc.rows.items after.rows.items l o.rows rows h.rows;
          cols = lower-list i r d (cols_edit lower) (cols_edit sent) doc.cols.items after.cols.items l o.cols cols h.cols;
          named =
              subst (λ xs. NamesBy test xs (list_up_to i after.rows.items) (list_up_to i after.cols.items) lower own)
              (sym (same-below i (text_edit sent) doc.text.items after.text.items l' o.text text))
              (subst (λ xs. NamesBy test (list_up_to i doc.text.items) xs (list_up_to i after.cols.items) lower own)
              (sym (same-below i (rows_edit sent) doc.rows.items after.rows.items l' o.rows rows))
              (subst (λ xs. NamesBy test (list_up_to i doc.text.items) (list_up_to i doc.rows.items) xs lower own)
              (sym (same-below i (cols_edit sent) doc.cols.items after.cols.items l' o.cols cols)) h.named));
        }

    lower-stages : (j : ℕ) (ts : List ToldStage) → Rise j k ts → AllStand c doc ts → AllStand c after ts
    lower-stages j [] rise h = tt
    lower-stages j (t ∷ ts) rise h =
        let below : suc t.before ≤ k = rise-last (suc t.before) k ts rise.1 in
        let here : t.before < k = omega arith in
        (lower-stage t.before t.ref c t.sent t.stage.names here h.0, lower-stages (suc t.before) ts rise.1 h.1)

    new-stage : StageStands k n c sent names after
    new-stage =
        let test = expects n c (suc (suc k)) in
        let agree = λ (xs : List ListElement) (h : list_all (is_current n c k) xs ≡ true). seen-agree (is_current n c k) (seen k) test (λ e g. expected n c k e g) xs h in
        record {
          text = new-list (text_edit sent) doc.text.items after.text.items o.text text;
          rows = new-list (rows_edit sent) doc.rows.items after.rows.items o.rows rows;
          cols = new-list (cols_edit sent) doc.cols.items after.cols.items o.cols cols;
          named =
              subst (λ xs. NamesBy test xs (list_up_to k after.rows.items) (list_up_to k after.cols.items) sent names)
              (sym (now-below (text_edit sent) doc.text.items after.text.items o.text text))
              (subst (λ xs. NamesBy test doc.text.items xs (list_up_to k after.cols.items) sent names)
              (sym (now-below (rows_edit sent) doc.rows.items after.rows.items o.rows rows))
              (subst (λ xs. NamesBy test doc.text.items doc.rows.items xs sent names) (sym (now-below (cols_edit sent) doc.cols.items after.cols.items o.cols cols))
              (subst (λ ns. NamesBy test doc.text.items doc.rows.items doc.cols.items sent ns) (names-not_renamed names)
              (names-as (seen k) test (λ x. x) doc.text.items doc.text.items doc.rows.items doc.rows.items doc.cols.items doc.cols.items
              (agree doc.text.items text) (agree doc.rows.items rows) (agree doc.cols.items cols) sent names o.named))));
        }

numbers-append : (ts : List ToldStage) (g : ToldStage) → stage_numbers (ts ++ (g ∷ [])) ≡ stage_numbers ts ++ (suc g.before ∷ [])
numbers-append [] g = refl
numbers-append (t ∷ ts) g = ap (λ ks. suc t.before ∷ ks) (numbers-append ts g)

within-step : (n k : ℕ) (edit : StageEdit) (ts : List ToldStage) (g : ToldStage) (xs ys : List ListElement) → g.before ≡ k → IsOwnStep k edit xs ys
    → list_all (is_within n (stage_numbers ts)) xs ≡ true
    → list_all (is_within n (stage_numbers (ts ++ (g ∷ [])))) ys ≡ true
within-step n k edit ts g xs ys e o h =
    ap (λ ks. list_all (is_within n ks) ys) (numbers-append ts g ∙ ap (λ i. stage_numbers ts ++ (suc i ∷ [])) e)
    ∙ ap (list_all (is_within n (stage_numbers ts ++ (suc k ∷ [])))) o.made
    ∙ within-own n k edit (stage_numbers ts) xs h

order-step : (n c k : ℕ) (edit : StageEdit) (xs ys : List ListElement) → IsOwnStep k edit xs ys → list_all is_ordered xs ≡ true
    → list_all (is_current n c k) xs ≡ true → list_all is_ordered ys ≡ true
order-step n c k edit xs ys o h g = ap (list_all is_ordered) o.made ∙ ordered-own n c k edit xs o.one h g

-- a stage of the client's own, whose message will have reference number n
pub own-holds : (c n k : ℕ) (ts : List ToldStage) (stage : Stage) (sent : SentStage) (doc after : Document) → stage.stage ≡ suc k
    → Tells stage.sub_operation sent → IsOwn k sent stage.names doc after
    → Holds c n n k ts doc → Holds c n n (suc k) (ts ++ (record { stage = stage; before = k; ref = n; sent = sent } ∷ [])) after
own-holds c n k ts stage sent doc after e tells o h =
    let g : ToldStage = record { stage = stage; before = k; ref = n; sent = sent } in
    let most = rise-most 0 k ts h.rising in
    let text = within-current n c k (stage_numbers ts) doc.text.items most h.text in
    let rows = within-current n c k (stage_numbers ts) doc.rows.items most h.rows in
    let cols = within-current n c k (stage_numbers ts) doc.cols.items most h.cols in
    record {
      told = told-append n ts g h.told (e, tells, (omega arith), tt);
      rising = rise-more 0 k ts g refl h.rising;
      text = within-step n k (text_edit sent) ts g doc.text.items after.text.items refl o.text h.text;
      rows = within-step n k (rows_edit sent) ts g doc.rows.items after.rows.items refl o.rows h.rows;
      cols = within-step n k (cols_edit sent) ts g doc.cols.items after.cols.items refl o.cols h.cols;
      text_order = order-step n c k (text_edit sent) doc.text.items after.text.items o.text h.text_order text;
      rows_order = order-step n c k (rows_edit sent) doc.rows.items after.rows.items o.rows h.rows_order rows;
      cols_order = order-step n c k (cols_edit sent) doc.cols.items after.cols.items o.cols h.cols_order cols;
      stand = stand-append c after ts g (lower-stages n c k sent stage.names doc after o text rows cols 0 ts h.rising h.stand)
          (new-stage n c k sent stage.names doc after o text rows cols, tt);
      sound = subst (λ d. IsSound d) (sym o.agrees) h.sound;
    }
