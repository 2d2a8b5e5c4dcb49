-- The elements that a client's lists ever held are those that the log and its pending edits inserted.
use Rattle.std.proofs.Common.{◌≡◌, ℕ, suc, ◌+◌, ◌≤◌, Bool, true, false, cond, not, ◌&&◌, ◌||◌, nat_eq, nat_le, List, [], ◌∷◌, Option, Some, None, length, filter, replicate, flat_map, refl, sym, ◌∙◌, ap, arith}
use Rattle.std.specs.List.{list_all}
use Rattle.std.proofs.lemmas.Bool.Decides.{nat_tests}
use Rattle.ft_base.specs.declared.stamps.Stamp.{Stamp}
use Rattle.ft_base.specs.declared.stamps.Stamp.TheVariants.{Acked, Local}
use Rattle.ft_base.specs.Scan.{at, change_range, len, one_more_if, put}
use Rattle.ft_base.specs.Visibility.{is_acked, is_of_stage}
use Rattle.ft_base.proofs.Booleans.{all_three, both}
use Rattle.std.proofs.lemmas.List.{length-replicate}
use Rattle.ft_base.proofs.PlainList.{length-filter_seen}
use Rattle.ft_op.specs.declared.operations.BaseOp.TheVariants.{Insert, Remove, Annotate}
use Rattle.ft_op.specs.declared.operations.CellOp.TheVariants.{SpliceIn, SpliceOut, Set}
use Rattle.ft_op.specs.declared.operations.Target.TheVariants.{Rows, Cols}
use Rattle.ft_msg.specs.declared.messages.Body.{Body}
use Rattle.ft_msg.specs.declared.messages.Body.TheVariants.{Nothing, Op, Elsewhere}
use Rattle.ft_msg.specs.declared.messages.Entry.{Entry}
use Rattle.ft_props.specs.Properties.{PropertyList, apply}
use Rattle.ft_props.specs.Element.{ElementContent, GridUnit, ListElement, is_pending, new_elements, seen_by, sequenced_elements, with_annotation, with_removal, without_pending}
use Rattle.ft_props.specs.Steps.{is_inserted_by}
use Rattle.ft_op.specs.Operation.{OnGrid, OnIntervals, OnText, SubOperation, segment_contents, sub_operations}
use Rattle.ft_op.specs.Document.{Document, cell_effect, effect, effects, empty, ends_of, given_ends_fit, with_skip}
use Rattle.ft_op.specs.Stages.{Stage}
use Rattle.ft_msg.specs.Agreed.{agreed, body_effect, reference_number, take_entries, take_entry}
use Rattle.ft_msg.specs.Client.{NaiveClient, PendingEdit, stages_of}
use Rattle.ft_seqr.specs.World.{inserted_count}
use Rattle.ft_laws_agreement.specs.Agreement.{IsRun}
use Rattle.ft_msg.specs.ClientSteps.{ClientStep, taken_entries}
use Rattle.ft_laws_agreement.specs.Reconnecting.{has_insertion_of, has_marks_of, has_removal_of, inserts_text, is_stage_of, removes_text}
use Rattle.ft_laws_agreement.specs.Sequencing.{Each, IsBlockOf, IsReady, IsTyped, inserts_in, removes_in}
use Rattle.ft_laws_agreement.specs.Starts.{IsRunFrom}
use Rattle.ft_laws_agreement.proofs.AgreedStage.{len-put-add}
use Rattle.ft_laws_agreement.proofs.ClientsAgree.{clients-agree, clients-agree-from}
use Rattle.ft_laws_agreement.proofs.EveryClientReady.{client-ready-from, every-client-ready}
use Rattle.ft_laws_agreement.proofs.RangesOfLists.{len-range}
use Rattle.ft_laws_summaries.proofs.Lists.{size}
use Rattle.ft_laws_sessions.specs.Load.{IsHeldWithin}
use Rattle.ft_laws_sessions.proofs.Owing.{body_inserts, edit_inserts, stage_inserts, total, total-append}

-- ---- how many elements are sequenced

-- the second document has at most n elements more in each list
pub record IsMadeWithin (n : ℕ) (doc after : Document) : Type 0 where
  pub text : after.text.made ≤ doc.text.made + n
  pub rows : after.rows.made ≤ doc.rows.made + n
  pub cols : after.cols.made ≤ doc.cols.made + n

made-itself : (n : ℕ) (doc : Document) → IsMadeWithin n doc doc
made-itself n doc = record { text = omega arith; rows = omega arith; cols = omega arith }

made-skipped : (n : ℕ) (doc : Document) → IsMadeWithin n doc (with_skip doc)
made-skipped n doc = record { text = omega arith; rows = omega arith; cols = omega arith }

made-choice : (n : ℕ) (doc : Document) (b : Bool) (p q : Document) → IsMadeWithin n doc p → IsMadeWithin n doc q → IsMadeWithin n doc (cond b p q)
made-choice n doc true p q f g = f
made-choice n doc false p q f g = g

made-then : (m n : ℕ) (doc p q : Document) → IsMadeWithin m doc p → IsMadeWithin n p q → IsMadeWithin (m + n) doc q
made-then m n doc p q f g = record {
  text = let a = f.text in let b = g.text in omega (arith, a, b);
  rows = let a = f.rows in let b = g.rows in omega (arith, a, b);
  cols = let a = f.cols in let b = g.cols in omega (arith, a, b);
}

replicated : (n : ℕ) → length (replicate n GridUnit) ≡ n
replicated n = length-replicate n GridUnit

module _ (s c r : ℕ) where
  effect-made : (doc : Document) (o : SubOperation) → IsMadeWithin (inserted_count o) doc (effect doc s c r o)
  effect-made doc (OnText (Insert p seg props)) = made-choice _ doc (nat_le p (len (seen_by r c) doc.text.items)) _ _
      (record { text = omega arith; rows = omega arith; cols = omega arith }) (made-skipped _ doc)
  effect-made doc (OnText (Remove p q)) = made-choice _ doc (nat_le q (len (seen_by r c) doc.text.items)) _ _
      (record { text = omega arith; rows = omega arith; cols = omega arith }) (made-skipped _ doc)
  effect-made doc (OnText (Annotate p q changes)) = made-choice _ doc (nat_le q (len (seen_by r c) doc.text.items)) _ _
      (record { text = omega arith; rows = omega arith; cols = omega arith }) (made-skipped _ doc)
  effect-made doc (OnIntervals op) = made-choice _ doc (given_ends_fit (len (seen_by r c) doc.text.items) (ends_of op)) _ _
      (record { text = omega arith; rows = omega arith; cols = omega arith }) (made-skipped _ doc)
  effect-made doc (OnGrid (SpliceIn Rows p count)) = let e = replicated count in made-choice _ doc (nat_le p (len (seen_by r c) doc.rows.items)) _ _
      (record { text = omega arith; rows = omega (arith, e); cols = omega arith }) (made-skipped _ doc)
  effect-made doc (OnGrid (SpliceIn Cols p count)) = let e = replicated count in made-choice _ doc (nat_le p (len (seen_by r c) doc.cols.items)) _ _
      (record { text = omega arith; rows = omega arith; cols = omega (arith, e) }) (made-skipped _ doc)
  effect-made doc (OnGrid (SpliceOut Rows p q)) = made-choice _ doc (nat_le q (len (seen_by r c) doc.rows.items)) _ _
      (record { text = omega arith; rows = omega arith; cols = omega arith }) (made-skipped _ doc)
  effect-made doc (OnGrid (SpliceOut Cols p q)) = made-choice _ doc (nat_le q (len (seen_by r c) doc.cols.items)) _ _
      (record { text = omega arith; rows = omega arith; cols = omega arith }) (made-skipped _ doc)
  effect-made doc (OnGrid (Set i j value)) = by (at (seen_by r c) i doc.rows.items) (at (seen_by r c) j doc.cols.items)
    where
      by : (o p : Option ListElement) → IsMadeWithin 0 doc (cell_effect doc o p value)
      by (Some x) (Some y) = record { text = omega arith; rows = omega arith; cols = omega arith }
      by (Some x) None = record { text = omega arith; rows = omega arith; cols = omega arith }
      by None p = record { text = omega arith; rows = omega arith; cols = omega arith }

  effects-made : (os : List SubOperation) (doc : Document) → IsMadeWithin (total inserted_count os) doc (effects doc s c r os)
  effects-made [] doc = made-itself 0 doc
  effects-made (o ∷ os) doc = made-then (inserted_count o) (total inserted_count os) doc (effect doc s c r o) _ (effect-made doc o) (effects-made os (effect doc s c r o))

  body-made : (b : Body) (doc : Document) → IsMadeWithin (body_inserts b) doc (body_effect doc s c r b)
  body-made Nothing doc = made-itself 0 doc
  body-made (Op op) doc = effects-made (sub_operations op) doc
  body-made (Elsewhere address) doc = record { text = omega arith; rows = omega arith; cols = omega arith }

-- what an entry inserts
abbrev pub entry_inserts : Entry → ℕ
entry_inserts e = body_inserts e.msg.body

entry-made : (doc : Document) (e : Entry) → IsMadeWithin (entry_inserts e) doc (take_entry doc e)
entry-made doc e =
    let h = body-made e.msg.seq e.origin (reference_number e.msg.ref_seq) e.msg.body doc in
    record { text = h.text; rows = h.rows; cols = h.cols }

entries-made : (es : List Entry) (doc : Document) → IsMadeWithin (total entry_inserts es) doc (take_entries doc es)
entries-made [] doc = made-itself 0 doc
entries-made (e ∷ es) doc = made-then (entry_inserts e) (total entry_inserts es) doc (take_entry doc e) _ (entry-made doc e) (entries-made es (take_entry doc e))

-- ---- how many elements there are

new-size : (n : ℕ) (ins : Stamp) (dels : List Stamp) (by : Option Stamp) (props : PropertyList) (bs : List ElementContent) → size (new_elements n ins dels by props bs) ≡ length bs
new-size n ins dels by props [] = refl
new-size n ins dels by props (b ∷ bs) = ap suc (new-size (n + 1) ins dels by props bs)

put-size : (s c r p n : ℕ) (by : Option Stamp) (props : PropertyList) (bs : List ElementContent) (xs : List ListElement)
    → size (put (seen_by r c) is_pending p (new_elements n (Acked s c) [] by props bs) xs) ≡ size xs + length bs
put-size s c r p n by props bs xs = sums _ _ _ _ (len-put-add (λ e. true) (seen_by r c) is_pending p (new_elements n (Acked s c) [] by props bs) xs)
    (new-size n (Acked s c) [] by props bs)
  where
    sums : (a i j k : ℕ) → k ≡ j + i → j ≡ a → k ≡ i + a
    sums a i j k f g = omega arith

range-size : (test : ListElement → Bool) (f : ListElement → ListElement) (p q : ℕ) (xs : List ListElement) → size (change_range test p q f xs) ≡ size xs
range-size test f p q xs = len-range (λ e. true) test f (λ e. refl) p q 0 xs

-- the second document has at most n elements more in each list
pub record IsGrownWithin (n : ℕ) (doc after : Document) : Type 0 where
  pub text : size after.text.items ≤ size doc.text.items + n
  pub rows : size after.rows.items ≤ size doc.rows.items + n
  pub cols : size after.cols.items ≤ size doc.cols.items + n

grown-choice : (n : ℕ) (doc : Document) (b : Bool) (p q : Document) → IsGrownWithin n doc p → IsGrownWithin n doc q → IsGrownWithin n doc (cond b p q)
grown-choice n doc true p q f g = f
grown-choice n doc false p q f g = g

grown-skipped : (n : ℕ) (doc : Document) → IsGrownWithin n doc (with_skip doc)
grown-skipped n doc = record { text = omega arith; rows = omega arith; cols = omega arith }

grown-then : (m n : ℕ) (doc p q : Document) → IsGrownWithin m doc p → IsGrownWithin n p q → IsGrownWithin (m + n) doc q
grown-then m n doc p q f g = record {
  text = let a = f.text in let b = g.text in omega (arith, a, b);
  rows = let a = f.rows in let b = g.rows in omega (arith, a, b);
  cols = let a = f.cols in let b = g.cols in omega (arith, a, b);
}

module _ (s c r : ℕ) where
  effect-grown : (doc : Document) (o : SubOperation) → IsGrownWithin (inserted_count o) doc (effect doc s c r o)
  effect-grown doc (OnText (Insert p seg props)) =
      let e = put-size s c r p doc.text.made (Some (Acked s c)) (apply [] props) (segment_contents seg) doc.text.items in
      grown-choice _ doc (nat_le p (len (seen_by r c) doc.text.items)) _ _ (record { text = omega (arith, e); rows = omega arith; cols = omega arith }) (grown-skipped _ doc)
  effect-grown doc (OnText (Remove p q)) =
      let e = range-size (seen_by r c) (with_removal s c) p q doc.text.items in
      grown-choice _ doc (nat_le q (len (seen_by r c) doc.text.items)) _ _ (record { text = omega (arith, e); rows = omega arith; cols = omega arith }) (grown-skipped _ doc)
  effect-grown doc (OnText (Annotate p q changes)) =
      let e = range-size (seen_by r c) (with_annotation changes) p q doc.text.items in
      grown-choice _ doc (nat_le q (len (seen_by r c) doc.text.items)) _ _ (record { text = omega (arith, e); rows = omega arith; cols = omega arith }) (grown-skipped _ doc)
  effect-grown doc (OnIntervals op) = grown-choice _ doc (given_ends_fit (len (seen_by r c) doc.text.items) (ends_of op)) _ _
      (record { text = omega arith; rows = omega arith; cols = omega arith }) (grown-skipped _ doc)
  effect-grown doc (OnGrid (SpliceIn Rows p count)) =
      let e = put-size s c r p doc.rows.made None [] (replicate count GridUnit) doc.rows.items in
      let f = replicated count in
      grown-choice _ doc (nat_le p (len (seen_by r c) doc.rows.items)) _ _ (record { text = omega arith; rows = omega (arith, e, f); cols = omega arith }) (grown-skipped _ doc)
  effect-grown doc (OnGrid (SpliceIn Cols p count)) =
      let e = put-size s c r p doc.cols.made None [] (replicate count GridUnit) doc.cols.items in
      let f = replicated count in
      grown-choice _ doc (nat_le p (len (seen_by r c) doc.cols.items)) _ _ (record { text = omega arith; rows = omega arith; cols = omega (arith, e, f) }) (grown-skipped _ doc)
  effect-grown doc (OnGrid (SpliceOut Rows p q)) =
      let e = range-size (seen_by r c) (with_removal s c) p q doc.rows.items in
      grown-choice _ doc (nat_le q (len (seen_by r c) doc.rows.items)) _ _ (record { text = omega arith; rows = omega (arith, e); cols = omega arith }) (grown-skipped _ doc)
  effect-grown doc (OnGrid (SpliceOut Cols p q)) =
      let e = range-size (seen_by r c) (with_removal s c) p q doc.cols.items in
      grown-choice _ doc (nat_le q (len (seen_by r c) doc.cols.items)) _ _ (record { text = omega arith; rows = omega arith; cols = omega (arith, e) }) (grown-skipped _ doc)
  effect-grown doc (OnGrid (Set i j value)) = by (at (seen_by r c) i doc.rows.items) (at (seen_by r c) j doc.cols.items)
    where
      by : (o p : Option ListElement) → IsGrownWithin 0 doc (cell_effect doc o p value)
      by (Some x) (Some y) = record { text = omega arith; rows = omega arith; cols = omega arith }
      by (Some x) None = record { text = omega arith; rows = omega arith; cols = omega arith }
      by None p = record { text = omega arith; rows = omega arith; cols = omega arith }

  effects-grown : (os : List SubOperation) (doc : Document) → IsGrownWithin (total inserted_count os) doc (effects doc s c r os)
  effects-grown [] doc = record { text = omega arith; rows = omega arith; cols = omega arith }
  effects-grown (o ∷ os) doc = grown-then (inserted_count o) (total inserted_count os) doc (effect doc s c r o) _ (effect-grown doc o) (effects-grown os (effect doc s c r o))

  body-grown : (b : Body) (doc : Document) → IsGrownWithin (body_inserts b) doc (body_effect doc s c r b)
  body-grown Nothing doc = record { text = omega arith; rows = omega arith; cols = omega arith }
  body-grown (Op op) doc = effects-grown (sub_operations op) doc
  body-grown (Elsewhere address) doc = record { text = omega arith; rows = omega arith; cols = omega arith }

entry-grown : (doc : Document) (e : Entry) → IsGrownWithin (entry_inserts e) doc (take_entry doc e)
entry-grown doc e =
    let h = body-grown e.msg.seq e.origin (reference_number e.msg.ref_seq) e.msg.body doc in
    record { text = h.text; rows = h.rows; cols = h.cols }

entries-grown : (es : List Entry) (doc : Document) → IsGrownWithin (total entry_inserts es) doc (take_entries doc es)
entries-grown [] doc = record { text = omega arith; rows = omega arith; cols = omega arith }
entries-grown (e ∷ es) doc = grown-then (entry_inserts e) (total entry_inserts es) doc (take_entry doc e) _ (entry-grown doc e) (entries-grown es (take_entry doc e))

-- each element is sequenced or pending
two-kinds : (xs : List ListElement) → size xs ≡ size (sequenced_elements xs) + len is_pending xs
two-kinds [] = omega arith
two-kinds (e ∷ xs) = by (is_acked e.ins) (two-kinds xs)
  where
    by : (b : Bool) → size xs ≡ size (sequenced_elements xs) + len is_pending xs → suc (size xs)
        ≡ size (cond b (without_pending e ∷ sequenced_elements xs) (sequenced_elements xs)) + one_more_if (not b) (len is_pending xs)
    by true h = omega (arith, h)
    by false h = omega (arith, h)

-- ---- how many elements are pending

-- how many of the elements are of the stage, where it is of the kind
abbrev pub counted_of : (SubOperation → Bool) → List ListElement → Stage → ℕ
counted_of kind xs t = cond (kind t.sub_operation) (len (is_inserted_by t.stage) xs) 0

-- whether an insertion is of the stage, as a count
abbrev pub marks_of : (SubOperation → Bool) → Stamp → Stage → ℕ
marks_of kind s t = cond (kind t.sub_operation) (one_more_if (is_of_stage t.stage s) 0) 0

turned : (j k : ℕ) → nat_eq j k ≡ true → nat_eq k j ≡ true
turned j k h = grind (arith, nat_tests)

stage-counted : (kind : SubOperation → Bool) (k : ℕ) (stages : List Stage) → is_stage_of kind stages k ≡ true → 1 ≤ total (marks_of kind (Local k)) stages
stage-counted kind k [] h = (cc)
stage-counted kind k (t ∷ stages) h = by (nat_eq t.stage k) (kind t.sub_operation) refl h (λ g. stage-counted kind k stages g)
  where
    by : (a b : Bool) → nat_eq t.stage k ≡ a → (a && b) || is_stage_of kind stages k ≡ true → (is_stage_of kind stages k ≡ true → 1 ≤ total (marks_of kind (Local k)) stages)
        → 1 ≤ cond b (one_more_if (nat_eq k t.stage) 0) 0 + total (marks_of kind (Local k)) stages
    by true true e g ih = let one : one_more_if (nat_eq k t.stage) 0 ≡ 1 = ap (λ b. one_more_if b 0) (turned t.stage k e) in omega (arith, one)
    by true false e g ih = let i = ih g in omega (arith, i)
    by false b e g ih = let i = ih g in omega (arith, i)

element-counted : (kind : SubOperation → Bool) (stages : List Stage) (s : Stamp) → has_insertion_of kind stages s ≡ true
    → one_more_if (not (is_acked s)) 0 ≤ total (marks_of kind s) stages
element-counted kind stages (Acked r c) h = omega arith
element-counted kind stages (Local k) h = stage-counted kind k stages h

first-counted : (kind : SubOperation → Bool) (e : ListElement) (xs : List ListElement) (stages : List Stage) → total (counted_of kind (e ∷ xs)) stages
    ≡ total (marks_of kind e.ins) stages + total (counted_of kind xs) stages
first-counted kind e xs [] = omega arith
first-counted kind e xs (t ∷ stages) = let ih = first-counted kind e xs stages in let here = by (kind t.sub_operation) (is_of_stage t.stage e.ins) in omega (arith, ih, here)
  where
    by : (a b : Bool) → cond a (one_more_if b (len (is_inserted_by t.stage) xs)) 0 ≡ cond a (one_more_if b 0) 0 + cond a (len (is_inserted_by t.stage) xs) 0
    by true true = omega arith
    by true false = omega arith
    by false b = omega arith

more-if : (b : Bool) (n : ℕ) → one_more_if b n ≡ one_more_if b 0 + n
more-if true n = omega arith
more-if false n = omega arith

-- each pending element is of a stage
pending-counted : (kind : SubOperation → Bool) (stages : List Stage) (xs : List ListElement) → list_all (λ e. has_insertion_of kind stages e.ins) xs ≡ true
    → len is_pending xs ≤ total (counted_of kind xs) stages
pending-counted kind stages [] h = omega arith
pending-counted kind stages (e ∷ xs) h =
    let p = both (has_insertion_of kind stages e.ins) (list_all (λ e. has_insertion_of kind stages e.ins) xs) h in
    let ih = pending-counted kind stages xs p.1 in
    let here = element-counted kind stages e.ins p.0 in
    let sum = first-counted kind e xs stages in
    let one = more-if (is_pending e) (len is_pending xs) in
    omega (arith, ih, here, sum, one)

marked-inserted : (inserts removes : SubOperation → Bool) (stages : List Stage) (xs : List ListElement) → list_all (has_marks_of inserts removes stages) xs
    ≡ true → list_all (λ e. has_insertion_of inserts stages e.ins) xs ≡ true
marked-inserted inserts removes stages [] h = refl
marked-inserted inserts removes stages (e ∷ xs) h =
    let p = both (has_marks_of inserts removes stages e) (list_all (has_marks_of inserts removes stages) xs) h in
    let first = all_three (has_insertion_of inserts stages e.ins) (has_removal_of removes stages e.removal_stage) (list_all is_acked e.dels) p.0 in
    rw (first.0, marked-inserted inserts removes stages xs p.1) refl

block-length : (props : PropertyList) (cs : List ElementContent) (es : List ListElement) → IsBlockOf props cs es → length es ≡ length cs
block-length props [] [] h = refl
block-length props (c ∷ cs) (e ∷ es) h = ap suc (block-length props cs es h.2)
block-length props [] (e ∷ es) h = (cc)
block-length props (c ∷ cs) [] h = (cc)

block-counted : (props : PropertyList) (cs : List ElementContent) (k : ℕ) (xs : List ListElement) → IsBlockOf props cs (filter (is_inserted_by k) xs)
    → len (is_inserted_by k) xs ≡ length cs
block-counted props cs k xs h = sym (length-filter_seen (is_inserted_by k) xs) ∙ block-length props cs (filter (is_inserted_by k) xs) h

chosen-less : (b : Bool) (m n : ℕ) → m ≤ n → cond b m 0 ≤ n
chosen-less true m n h = h
chosen-less false m n h = omega arith

-- each stage inserted so many
text-stage : (doc : Document) (t : Stage) (o : SubOperation) → IsTyped t.stage doc t.names o → counted_of inserts_text doc.text.items (record t { sub_operation = o }) ≤ inserted_count o
text-stage doc t (OnText (Insert p seg props)) h = let e = block-counted _ (segment_contents seg) t.stage doc.text.items h in chosen-less
    (inserts_text (OnText (Insert p seg props))) _ _ (omega (arith, e))
text-stage doc t (OnText (Remove p q)) h = omega arith
text-stage doc t (OnText (Annotate p q changes)) h = omega arith
text-stage doc t (OnIntervals op) h = omega arith
text-stage doc t (OnGrid op) h = omega arith

rows-stage : (doc : Document) (t : Stage) (o : SubOperation) → IsTyped t.stage doc t.names o
    → counted_of (inserts_in Rows) doc.rows.items (record t { sub_operation = o }) ≤ inserted_count o
rows-stage doc t (OnText (Insert p seg props)) h = omega arith
rows-stage doc t (OnText (Remove p q)) h = omega arith
rows-stage doc t (OnText (Annotate p q changes)) h = omega arith
rows-stage doc t (OnIntervals op) h = omega arith
rows-stage doc t (OnGrid (SpliceIn Rows p count)) h = let e = block-counted [] (replicate count GridUnit) t.stage doc.rows.items h in let n = replicated count
    in chosen-less (inserts_in Rows (OnGrid (SpliceIn Rows p count))) _ _ (omega (arith, e, n))
rows-stage doc t (OnGrid (SpliceIn Cols p count)) h = omega arith
rows-stage doc t (OnGrid (SpliceOut target p q)) h = omega arith
rows-stage doc t (OnGrid (Set i j value)) h = omega arith

cols-stage : (doc : Document) (t : Stage) (o : SubOperation) → IsTyped t.stage doc t.names o
    → counted_of (inserts_in Cols) doc.cols.items (record t { sub_operation = o }) ≤ inserted_count o
cols-stage doc t (OnText (Insert p seg props)) h = omega arith
cols-stage doc t (OnText (Remove p q)) h = omega arith
cols-stage doc t (OnText (Annotate p q changes)) h = omega arith
cols-stage doc t (OnIntervals op) h = omega arith
cols-stage doc t (OnGrid (SpliceIn Rows p count)) h = omega arith
cols-stage doc t (OnGrid (SpliceIn Cols p count)) h = let e = block-counted [] (replicate count GridUnit) t.stage doc.cols.items h in let n = replicated count
    in chosen-less (inserts_in Cols (OnGrid (SpliceIn Cols p count))) _ _ (omega (arith, e, n))
cols-stage doc t (OnGrid (SpliceOut target p q)) h = omega arith
cols-stage doc t (OnGrid (Set i j value)) h = omega arith

stages-less : (f : Stage → ℕ) (P : Stage → Type 0) → ((t : Stage) → P t → f t ≤ stage_inserts t) → (stages : List Stage) → Each P stages
    → total f stages ≤ total stage_inserts stages
stages-less f P h [] g = omega arith
stages-less f P h (t ∷ stages) g = let ih = stages-less f P h stages g.1 in let e = h t g.0 in omega (arith, ih, e)

-- ---- the elements of a client

stages-of : (edits : List PendingEdit) → total stage_inserts (flat_map (λ (e : PendingEdit). e.stages) edits) ≡ total edit_inserts edits
stages-of [] = refl
stages-of (e ∷ edits) = let ih = stages-of edits in let sum = total-append stage_inserts e.stages (flat_map (λ (e : PendingEdit). e.stages) edits) in omega (arith, ih, sum)

-- each list has at most n pending elements
pub record IsPendingWithin (n : ℕ) (doc : Document) : Type 0 where
  pub text : len is_pending doc.text.items ≤ n
  pub rows : len is_pending doc.rows.items ≤ n
  pub cols : len is_pending doc.cols.items ≤ n

-- those of a client that is ready are those that its pending edits inserted
pub pending-ready : (x : NaiveClient) → IsReady x → IsPendingWithin (total edit_inserts x.pending) x.doc
pending-ready x ready =
    let stages = stages_of x in
    let typed = λ (t : Stage). IsTyped t.stage x.doc t.names t.sub_operation in
    let sum = stages-of x.pending in
    let text_pending = pending-counted inserts_text stages x.doc.text.items (marked-inserted inserts_text removes_text stages x.doc.text.items ready.text.place.marks) in
    let rows_pending = pending-counted (inserts_in Rows) stages x.doc.rows.items
    (marked-inserted (inserts_in Rows) (removes_in Rows) stages x.doc.rows.items ready.rows.place.marks) in
    let cols_pending = pending-counted (inserts_in Cols) stages x.doc.cols.items
    (marked-inserted (inserts_in Cols) (removes_in Cols) stages x.doc.cols.items ready.cols.place.marks) in
    let text_less = stages-less (counted_of inserts_text x.doc.text.items) typed (λ t h. text-stage x.doc t t.sub_operation h) stages ready.typed in
    let rows_less = stages-less (counted_of (inserts_in Rows) x.doc.rows.items) typed (λ t h. rows-stage x.doc t t.sub_operation h) stages ready.typed in
    let cols_less = stages-less (counted_of (inserts_in Cols) x.doc.cols.items) typed (λ t h. cols-stage x.doc t t.sub_operation h) stages ready.typed in
    record { text = omega (arith, sum, text_pending, text_less); rows = omega (arith, sum, rows_pending, rows_less); cols = omega (arith, sum, cols_pending, cols_less) }

pending-within : (steps : List ClientStep) (x : NaiveClient) → IsRun steps x → IsPendingWithin (total edit_inserts x.pending) x.doc
pending-within steps x r = pending-ready x (every-client-ready steps x r.made r.bodies)

-- what a client's lists ever held
pub held-within : (steps : List ClientStep) (x : NaiveClient) → IsRun steps x → IsHeldWithin (total entry_inserts (taken_entries steps) + total edit_inserts x.pending) x.doc
held-within steps x r =
    let agrees = clients-agree steps x r.made r.bodies in
    let made = entries-made (taken_entries steps) empty in
    let pending = pending-within steps x r in
    let text_made : x.doc.text.made ≡ (agreed (taken_entries steps)).text.made = ap (λ (d : Document). d.text.made) agrees in
    let rows_made : x.doc.rows.made ≡ (agreed (taken_entries steps)).rows.made = ap (λ (d : Document). d.rows.made) agrees in
    let cols_made : x.doc.cols.made ≡ (agreed (taken_entries steps)).cols.made = ap (λ (d : Document). d.cols.made) agrees in
    record {
      text = let a = made.text in let b = pending.text in omega (arith, text_made, a, b);
      rows = let a = made.rows in let b = pending.rows in omega (arith, rows_made, a, b);
      cols = let a = made.cols in let b = pending.cols in omega (arith, cols_made, a, b);
    }

-- each list has at most n elements
pub record IsSizedWithin (n : ℕ) (doc : Document) : Type 0 where
  pub text : size doc.text.items ≤ n
  pub rows : size doc.rows.items ≤ n
  pub cols : size doc.cols.items ≤ n

pub sized-within : (steps : List ClientStep) (x : NaiveClient) → IsRun steps x → IsSizedWithin (total entry_inserts (taken_entries steps) + total edit_inserts x.pending) x.doc
sized-within steps x r =
    let agrees = clients-agree steps x r.made r.bodies in
    let grown = entries-grown (taken_entries steps) empty in
    let pending = pending-within steps x r in
    let text_size : size (sequenced_elements x.doc.text.items) ≡ size (agreed (taken_entries steps)).text.items = ap (λ (d : Document). size d.text.items) agrees in
    let rows_size : size (sequenced_elements x.doc.rows.items) ≡ size (agreed (taken_entries steps)).rows.items = ap (λ (d : Document). size d.rows.items) agrees in
    let cols_size : size (sequenced_elements x.doc.cols.items) ≡ size (agreed (taken_entries steps)).cols.items = ap (λ (d : Document). size d.cols.items) agrees in
    let text_both = two-kinds x.doc.text.items in
    let rows_both = two-kinds x.doc.rows.items in
    let cols_both = two-kinds x.doc.cols.items in
    record {
      text = let a = grown.text in let b = pending.text in omega (arith, text_size, text_both, a, b);
      rows = let a = grown.rows in let b = pending.rows in omega (arith, rows_size, rows_both, a, b);
      cols = let a = grown.cols in let b = pending.cols in omega (arith, cols_size, cols_both, a, b);
    }

-- the same from any start: the elements that it began with, those that the entries inserted, and those that are pending
pub record IsSizedFrom (n : ℕ) (start doc : Document) : Type 0 where
  pub text : size doc.text.items ≤ size start.text.items + n
  pub rows : size doc.rows.items ≤ size start.rows.items + n
  pub cols : size doc.cols.items ≤ size start.cols.items + n

pub sized-from : (start : Document) (steps : List ClientStep) (x : NaiveClient) → IsRunFrom start steps x
    → IsSizedFrom (total entry_inserts (taken_entries steps) + total edit_inserts x.pending) start x.doc
sized-from start steps x r =
    let after = take_entries start (taken_entries steps) in
    let agrees = clients-agree-from start steps x r in
    let grown = entries-grown (taken_entries steps) start in
    let pending = pending-ready x (client-ready-from start steps x r) in
    let text_size : size (sequenced_elements x.doc.text.items) ≡ size after.text.items = ap (λ (d : Document). size d.text.items) agrees in
    let rows_size : size (sequenced_elements x.doc.rows.items) ≡ size after.rows.items = ap (λ (d : Document). size d.rows.items) agrees in
    let cols_size : size (sequenced_elements x.doc.cols.items) ≡ size after.cols.items = ap (λ (d : Document). size d.cols.items) agrees in
    let text_both = two-kinds x.doc.text.items in
    let rows_both = two-kinds x.doc.rows.items in
    let cols_both = two-kinds x.doc.cols.items in
    record {
      text = let a = grown.text in let b = pending.text in omega (arith, text_size, text_both, a, b);
      rows = let a = grown.rows in let b = pending.rows in omega (arith, rows_size, rows_both, a, b);
      cols = let a = grown.cols in let b = pending.cols in omega (arith, cols_size, cols_both, a, b);
    }
