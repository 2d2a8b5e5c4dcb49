-- A client's own sub-operations in two documents that differ in names alone.
use Rattle.std.proofs.Common.{◌≡◌, ℕ, zero, suc, ◌+◌, ◌-◌, ◌≤◌, ◌<◌, Bool, true, false, cond, not, ◌&&◌, ◌||◌, nat_eq, nat_le, List, [], ◌∷◌, ◌++◌, Option, Some, None, Result, Ok, Err, refl, sym, ◌∙◌, ap, subst, length, arith, replicate, append_assoc, append-nil}
use Rattle.std.specs.List.{list_any}
use Rattle.std.proofs.lemmas.Bool.Decides.{nat_tests}
use Rattle.ft_base.specs.declared.stamps.Stamp.TheVariants.{Local}
use Rattle.ft_base.specs.Scan.{change_range, len, no_run, put}
use Rattle.ft_op.specs.declared.operations.BaseOp.{BaseOp}
use Rattle.ft_op.specs.declared.operations.BaseOp.TheVariants.{Insert, Remove, Annotate}
use Rattle.ft_op.specs.declared.operations.CellOp.{CellOp}
use Rattle.ft_op.specs.declared.operations.CellOp.TheVariants.{SpliceIn, SpliceOut, Set}
use Rattle.ft_op.specs.declared.operations.Target.TheVariants.{Rows, Cols}
use Rattle.ft_op.specs.declared.operations.TextOp.{TextOp}
use Rattle.ft_op.specs.declared.operations.TextOp.TheVariants.{One, Group, IntervalAdd, IntervalChange, IntervalDelete}
use Rattle.ft_props.specs.declared.properties.Changes.{Changes}
use Rattle.ft_msg.specs.declared.faults.EditFault.{EditFault}
use Rattle.ft_msg.specs.declared.faults.EditFault.TheVariants.{IdInUse, NoSuchInterval, OutOfRange}
use Rattle.ft_props.specs.Properties.{PropertyList, apply}
use Rattle.ft_props.specs.Element.{ElementContent, ElementId, GridUnit, ListElement, PendingId, SequencedId, has_id, id, new_elements, seen, with_pending_annotation, with_pending_removal}
use Rattle.ft_props.specs.Steps.{Sequence, after_local_insertion, after_local_mark, is_inserted_by}
use Rattle.ft_op.specs.Operation.{OnGrid, OnIntervals, OnText, SubOperation, segment_contents}
use Rattle.ft_op.specs.Intervals.{Interval, NamedElements, no_elements, settle_elements}
use Rattle.ft_op.specs.Document.{Document, elements_at_given_ends, ends_of, given_ends_fit}
use Rattle.ft_op.specs.Stages.{Stage, shown_intervals}
use Rattle.ft_msg.specs.Client.{EditResult, id_fault, if_in_range, local_grid, local_interval, local_set, local_sub_operation, local_sub_operations, local_text, unless_fault}
use Rattle.ft_laws_agreement.proofs.AgreedStage.{len-put-add}
use Rattle.ft_laws_agreement.proofs.RangesOfLists.{len-range}
use Rattle.ft_laws_names.specs.WellNamed.{AreNamedBefore, ArePutIn, HasItsStages, IsNamedBefore, IsWellNumbered, RiseTo, inserts_cols, inserts_rows, puts_text_in}
use Rattle.ft_laws_names.proofs.Beside.{Beside, Both, beside-append, beside-more, both-at, each, ends, next}
use Rattle.ft_laws_names.proofs.DocumentsAlike.{DocsAlike, DocsStep, NamesStay, cols-step, later-lists, names-twice, places, rows-step, same-docs, text-step}
use Rattle.ft_laws_names.proofs.ForeignAlike.{given-names, ranged-lists, self-le}
use Rattle.ft_laws_names.proofs.IntervalsAlike.{IntervalsBeside, NamesAlike, SettledAlike, ends-stay, has_interval-alike, intervals-after, intervals-more, intervals-settle, names-settle, settled-ends}
use Rattle.ft_laws_names.proofs.ListSteps.{KeepsTwins, ListStep, ListsAlike, local-step, range-step, step-twins, unused-absent}
use Rattle.ft_laws_names.proofs.NumberedLists.{local-numbered, new-count, new-stage}
use Rattle.ft_laws_names.proofs.Twins.{AreTwins, EndsAlike, EndsBeside, IsTwin, detached, ends-beside, len-alike, on, there-other, twin-seen}

-- ---- stages

-- the elements that two stages name stand at the same places; only an interval operation and a cell write name some
abbrev pub StageNames : Document → Document → SubOperation → NamedElements → NamedElements → Type 0
StageNames p q (OnText op) a b = (a ≡ no_elements) × (b ≡ no_elements)
StageNames p q (OnIntervals op) a b = NamesAlike (EndsAlike p.text.items q.text.items) a b
StageNames p q (OnGrid (SpliceIn target i count)) a b = (a ≡ no_elements) × (b ≡ no_elements)
StageNames p q (OnGrid (SpliceOut target i j)) a b = (a ≡ no_elements) × (b ≡ no_elements)
StageNames p q (OnGrid (Set i j value)) a b = EndsAlike p.rows.items q.rows.items a.first b.first × EndsAlike p.cols.items q.cols.items a.second b.second

-- two stages that differ in names alone
pub record StageAlike (p q : Document) (t u : Stage) : Type 0 where
  pub rest : u ≡ record t { names = u.names }
  pub names : StageNames p q t.sub_operation t.names u.names
  pub before : AreNamedBefore t.stage t.sub_operation t.names
  pub other : AreNamedBefore t.stage t.sub_operation u.names

abbrev pub StagesBeside : Document → Document → List Stage → List Stage → Type 0
StagesBeside p q ts us = Beside Stage Stage (StageAlike p q) ts us

pub stage-names-stay : (p q d e : Document) → NamesStay p q d e → (o : SubOperation) (a b : NamedElements) → StageNames p q o a b → StageNames d e o a b
stage-names-stay p q d e s (OnText op) a b n = n
stage-names-stay p q d e s (OnIntervals op) a b n = record { first = ends-stay s.text n.first; second = ends-stay s.text n.second }
stage-names-stay p q d e s (OnGrid (SpliceIn target i count)) a b n = n
stage-names-stay p q d e s (OnGrid (SpliceOut target i j)) a b n = n
stage-names-stay p q d e s (OnGrid (Set i j value)) a b n = (ends-stay s.rows n.0, ends-stay s.cols n.1)

pub stages-stay : (p q d e : Document) → NamesStay p q d e → {ts us : List Stage} → StagesBeside p q ts us → StagesBeside d e ts us
stages-stay p q d e s h = beside-more (λ t u r. record {
  rest = r.rest;
  names = stage-names-stay p q d e s t.sub_operation t.names u.names r.names;
  before =
      r.before;
  other = r.other;
}) h

interval-names : (p q : Document) (o : SubOperation) (a b : NamedElements) → StageNames p q o a b → (op : TextOp) → o ≡ OnIntervals op
    → NamesAlike (EndsAlike p.text.items q.text.items) a b
interval-names p q (OnIntervals op) a b n other e = n
interval-names p q (OnText op) a b n other e = (cc)
interval-names p q (OnGrid op) a b n other e = (cc)

-- the intervals that are shown
pub shown-alike : (last : ℕ) (p q : Document) → ListsAlike last p.text q.text → {ts us : List Stage} → StagesBeside p q ts us → {is js : List Interval}
    → IntervalsBeside (EndsAlike p.text.items q.text.items) is js
    → IntervalsBeside (EndsAlike p.text.items q.text.items) (shown_intervals p.text.items is ts) (shown_intervals q.text.items js us)
shown-alike last p q l ends h = h
shown-alike last p q l (next {x = t} {y = u} {xs = ts} {ys = us} s ss) {is} {js} h =
    let E = EndsAlike p.text.items q.text.items in
    let loosely = intervals-more (EndsAlike p.text.items q.text.items) (EndsBeside p.text.items q.text.items) (λ i j e. ends-beside e) h in
    let settled = intervals-settle (places last p.text q.text l) t.stage loosely in
    let named = (λ (op : TextOp) (e : t.sub_operation ≡ OnIntervals op). (let n = interval-names p q t.sub_operation t.names u.names s.names op e in
    names-settle (places last p.text q.text l) t.stage t.names u.names (record { first = ends-beside n.first; second = ends-beside n.second }))) in
    let here = intervals-after (EndsAlike p.text.items q.text.items) t.sub_operation (settle_elements p.text.items t.stage t.names)
    (settle_elements q.text.items t.stage u.names) named settled in
    subst (λ (v : Stage). IntervalsBeside (EndsAlike p.text.items q.text.items) (shown_intervals p.text.items is (t ∷ ts)) (shown_intervals q.text.items js (v ∷ us))) (sym s.rest)
    (shown-alike last p q l ss here)

-- ---- the stages of a list's elements

any-false : {A : Type 0} (test : A → Bool) (xs ys : List A) → list_any test (xs ++ ys) ≡ false → (list_any test xs ≡ false) × (list_any test ys ≡ false)
any-false test [] ys h = (refl, h)
any-false test (x ∷ xs) ys h = step (test x) refl h (λ g. any-false test xs ys g)
  where
    step : (b : Bool) → test x ≡ b → b || list_any test (xs ++ ys) ≡ false
        → (list_any test (xs ++ ys) ≡ false → (list_any test xs ≡ false) × (list_any test ys ≡ false)) → (b || list_any test xs ≡ false) × (list_any test ys ≡ false)
    step true e g ih = (cc)
    step false e g ih = ih g

pub put-in-same : (inserts : SubOperation → Bool) (ts : List Stage) (t : Stage) (xs ys : List ListElement)
    → ((k : ℕ) → len (is_inserted_by k) ys ≡ len (is_inserted_by k) xs) → ArePutIn inserts ts xs → ArePutIn inserts (ts ++ (t ∷ [])) ys
put-in-same inserts ts t xs ys same h k g = same k ∙ h k (any-false (λ (u : Stage). nat_eq k u.stage && inserts u.sub_operation) ts (t ∷ []) g).0

put-in-new : (inserts : SubOperation → Bool) (ts : List Stage) (t : Stage) (test past : ListElement → Bool) (p : ℕ) (props : PropertyList)
    (bs : List ElementContent) (xs : List ListElement) → inserts t.sub_operation ≡ not (nat_eq (length bs) 0) → ArePutIn inserts ts xs
    → ArePutIn inserts (ts ++ (t ∷ [])) (put test past p (new_elements 0 (Local t.stage) [] None props bs) xs)
put-in-new inserts ts t test past p props bs xs e h k g =
    let parts = any-false (λ (u : Stage). nat_eq k u.stage && inserts u.sub_operation) ts (t ∷ []) g in
    len-put-add (is_inserted_by k) test past p (new_elements 0 (Local t.stage) [] None props bs) xs ∙ none _ _ (new (nat_eq k t.stage) refl parts.1) (h k parts.0)
  where
    none : (m n : ℕ) → m ≡ 0 → n ≡ 0 → m + n ≡ 0
    none m n p q = omega arith

    turned : (i j : ℕ) (b : Bool) → nat_eq i j ≡ b → nat_eq j i ≡ b
    turned i j true h = grind (arith, nat_tests)
    turned i j false h = grind (arith, nat_tests)

    empty : (n : ℕ) → not (nat_eq n 0) || false ≡ false → n ≡ 0
    empty n h = step (nat_eq n 0) refl h
      where
        step : (b : Bool) → nat_eq n 0 ≡ b → not b || false ≡ false → n ≡ 0
        step true f q = grind (arith, nat_tests)
        step false f q = (cc)

    new : (b : Bool) → nat_eq k t.stage ≡ b → nat_eq k t.stage && inserts t.sub_operation || false ≡ false
        → len (is_inserted_by k) (new_elements 0 (Local t.stage) [] None props bs) ≡ 0
    new true f q = new-count None props (Local t.stage) k (turned k t.stage true f) 0 bs
        ∙ empty (length bs) (sym (ap (λ b. b || false) (ap (λ b. b && inserts t.sub_operation) f ∙ e)) ∙ q)
    new false f q = new-stage None props (Local t.stage) k (turned k t.stage false f) 0 bs

-- ---- one sub-operation

-- the answers of two documents to a sub-operation at the stage behind the last one
data SubAlike (last : ℕ) (stages : List Stage) (p q : Document) (o : SubOperation) : EditResult → EditResult → Type 0 where
  refused : (fault : EditFault) → SubAlike last stages p q o (Err fault) (Err fault)
  took : {d e : Document} {a b : NamedElements} → DocsStep last (last + 1) p q d e → StageNames d e o a b → AreNamedBefore (last + 1) o a → AreNamedBefore (last + 1) o b
      → HasItsStages (stages ++ (record { stage = last + 1; sub_operation = o; names = a } ∷ [])) d → SubAlike last stages p q o (Ok (d, a)) (Ok (e, b))

next-le : (n : ℕ) → n ≤ n + 1
next-le n = omega arith

next-lt : (n : ℕ) → n < n + 1
next-lt n = omega arith

module _ (last : ℕ) where
  local-lists : (i : ℕ) (props : PropertyList) (bs : List ElementContent) (l m : Sequence) → ListsAlike last l m
      → ListsAlike (last + 1) (after_local_insertion (last + 1) i props bs l) (after_local_insertion (last + 1) i props bs m)
  local-lists i props bs l m h = record {
    left = local-numbered last i (seen (last + 1 - 1)) no_run props bs l h.left;
    right = local-numbered last i (seen (last + 1 - 1)) no_run props bs m h.right;
    twins = step-twins last l m _ _ (local-step (seen (last + 1 - 1)) no_run (λ x y t. twin-seen (last + 1 - 1) x y t) (λ x y t. refl) last i l m (last + 1)
        (next-lt last) props bs) h.twins;
  }

  inserts : (i : ℕ) (props : PropertyList) (bs : List ElementContent) (l m : Sequence)
      → ListStep last l m (after_local_insertion (last + 1) i props bs l) (after_local_insertion (last + 1) i props bs m)
  inserts i props bs l m = local-step (seen (last + 1 - 1)) no_run (λ x y t. twin-seen (last + 1 - 1) x y t) (λ x y t. refl) last i l m (last + 1) (next-lt last) props bs

  marks : (i j : ℕ) (f : ListElement → ListElement) → KeepsTwins f → (l m : Sequence)
      → ListStep last l m (after_local_mark (last + 1) i j f l) (after_local_mark (last + 1) i j f m)
  marks i j f k l m = range-step (seen (last + 1 - 1)) (λ x y t. twin-seen (last + 1 - 1) x y t) last 0 i j f k l m

  marked-lists : (i j : ℕ) (f : ListElement → ListElement) → KeepsTwins f → (l m : Sequence) → ListsAlike last l m
      → ListsAlike (last + 1) (after_local_mark (last + 1) i j f l) (after_local_mark (last + 1) i j f m)
  marked-lists i j f k l m h = later-lists last (last + 1) _ _ (next-le last) (ranged-lists last i j (seen (last + 1 - 1)) (λ x y t. twin-seen (last + 1 - 1) x y t) f k l m h)

  marked-count : (i j k : ℕ) (f : ListElement → ListElement) → KeepsTwins f → (xs : List ListElement)
      → len (is_inserted_by k) (change_range (seen (last + 1 - 1)) i j f xs) ≡ len (is_inserted_by k) xs
  marked-count i j k f h xs = len-range (is_inserted_by k) (seen (last + 1 - 1)) f (λ e. ap (λ t. is_inserted_by k (record e { ins = t })) (h.names.ins e)) i j 0 xs

  length-alike : (l m : Sequence) → ListsAlike last l m → len (seen (last + 1 - 1)) l.items ≡ len (seen (last + 1 - 1)) m.items
  length-alike l m h = len-alike (seen (last + 1 - 1)) (λ x y t. twin-seen (last + 1 - 1) x y t) h.twins

  -- a name that stands is before the next stage
  stands-before : (list : Sequence) (a : ElementId) → IsWellNumbered last list → 1 ≤ len (has_id a) list.items → IsNamedBefore (last + 1) (Some a)
  stands-before list (SequencedId n) h l = tt
  stands-before list (PendingId k n) h l = step (nat_le k last) refl
    where
      step : (b : Bool) → nat_le k last ≡ b → k < last + 1
      step true e = grind (arith, nat_tests)
      step false e =
          let later : last < k = grind (arith, nat_tests) in
          let none = unused-absent last list (PendingId k n) h later in
          absurd (omega arith)

  -- so are ends on elements that stand
  end-before : (list : Sequence) {ys : List ListElement} {o p : Option ElementId} → EndsAlike list.items ys o p → IsWellNumbered last list → IsNamedBefore (last + 1) o
  end-before list detached h = tt
  end-before list (on {a = a} s) h = stands-before list a h s.there

  other-before : (list : Sequence) {xs : List ListElement} {o p : Option ElementId} → EndsAlike xs list.items o p → IsWellNumbered last list → IsNamedBefore (last + 1) p
  other-before list detached h = tt
  other-before list (on {b = b} s) h = stands-before list b h (there-other s)

  module _ (stages others : List Stage) (p q : Document) (h : DocsAlike last p q) (s : StagesBeside p q stages others) (put : HasItsStages stages p) where
    in-range : (o : SubOperation) (i m n : ℕ) → m ≡ n → (d e : Document) → SubAlike last stages p q o (Ok (d, no_elements)) (Ok (e, no_elements))
        → SubAlike last stages p q o (if_in_range i m d) (if_in_range i n e)
    in-range o i m n same d e t = subst (λ k. SubAlike last stages p q o (if_in_range i m d) (if_in_range i k e)) same (step (nat_le i m))
      where
        step : (b : Bool) → SubAlike last stages p q o (cond b (Ok (d, no_elements)) (Err (OutOfRange m))) (cond b (Ok (e, no_elements)) (Err (OutOfRange m)))
        step true = t
        step false = refused (OutOfRange m)

    here : SubOperation → NamedElements → Stage
    here o a = record { stage = last + 1; sub_operation = o; names = a }

    removal-keeps : KeepsTwins (with_pending_removal (last + 1))
    removal-keeps = record {
      names = record { ins = λ e. refl; nth = λ e. refl; removals = λ e. refl };
      twins = λ x y t. subst
          (λ z. IsTwin (with_pending_removal (last + 1) x) (with_pending_removal (last + 1) z)) (sym t) refl;
    }

    annotation-keeps : (changes : Changes) → KeepsTwins (with_pending_annotation (last + 1) changes)
    annotation-keeps changes = record {
      names = record { ins = λ e. refl; nth = λ e. refl; removals = λ e. refl };
      twins = λ x y t. subst
          (λ z. IsTwin (with_pending_annotation (last + 1) changes x) (with_pending_annotation (last + 1) changes z)) (sym t) refl;
    }

    same-stages : (o : SubOperation) (a : NamedElements) → HasItsStages (stages ++ (record { stage = last + 1; sub_operation = o; names = a } ∷ [])) p
    same-stages o a = record {
      text = put-in-same puts_text_in stages (record { stage = last + 1; sub_operation = o; names = a }) p.text.items p.text.items (λ k. refl) put.text;
      rows = put-in-same inserts_rows stages (record { stage = last + 1; sub_operation = o; names = a }) p.rows.items p.rows.items (λ k. refl) put.rows;
      cols = put-in-same inserts_cols stages (record { stage = last + 1; sub_operation = o; names = a }) p.cols.items p.cols.items (λ k. refl) put.cols;
    }

    text-alike : (op : BaseOp) → SubAlike last stages p q (OnText op) (local_text p (last + 1) op) (local_text q (last + 1) op)
    text-alike (Insert i seg props) =
        let rest = same-stages (OnText (Insert i seg props)) no_elements in
        in-range (OnText (Insert i seg props)) i _ _ (length-alike p.text q.text h.parts.text) _ _
        (took (text-step last (last + 1) (next-le last) p q h _ _ (local-lists i (apply [] props) (segment_contents seg) p.text q.text h.parts.text)
        (inserts i (apply [] props) (segment_contents seg) p.text q.text)) (refl, refl) tt tt
        (record {
          text = put-in-new puts_text_in stages (record { stage = last + 1; sub_operation = OnText (Insert i seg props); names = no_elements })
              (seen (last + 1 - 1)) no_run i (apply [] props) (segment_contents seg) p.text.items refl put.text;
          rows = rest.rows;
          cols = rest.cols;
        }))
    text-alike (Remove i j) =
        let rest = same-stages (OnText (Remove i j)) no_elements in
        in-range (OnText (Remove i j)) j _ _ (length-alike p.text q.text h.parts.text) _ _
        (took (text-step last (last + 1) (next-le last) p q h _ _ (marked-lists i j (with_pending_removal (last + 1)) removal-keeps p.text q.text h.parts.text)
        (marks i j (with_pending_removal (last + 1)) removal-keeps p.text q.text)) (refl, refl) tt tt
        (record {
          text = put-in-same puts_text_in stages (record { stage = last + 1; sub_operation = OnText (Remove i j); names = no_elements }) p.text.items
              (change_range (seen (last + 1 - 1)) i j (with_pending_removal (last + 1)) p.text.items)
              (λ k. marked-count i j k (with_pending_removal (last + 1)) removal-keeps p.text.items) put.text;
          rows = rest.rows;
          cols = rest.cols;
        }))
    text-alike (Annotate i j changes) =
        let rest = same-stages (OnText (Annotate i j changes)) no_elements in
        in-range (OnText (Annotate i j changes)) j _ _ (length-alike p.text q.text h.parts.text) _ _
        (took (text-step last (last + 1) (next-le last) p q h _ _ (marked-lists i j (with_pending_annotation (last + 1) changes) (annotation-keeps changes)
        p.text q.text h.parts.text) (marks i j (with_pending_annotation (last + 1) changes) (annotation-keeps changes) p.text q.text)) (refl, refl) tt tt
        (record {
          text = put-in-same puts_text_in stages (record { stage = last + 1; sub_operation = OnText (Annotate i j changes); names = no_elements })
              p.text.items (change_range (seen (last + 1 - 1)) i j (with_pending_annotation (last + 1) changes) p.text.items)
              (λ k. marked-count i j k (with_pending_annotation (last + 1) changes) (annotation-keeps changes) p.text.items) put.text;
          rows = rest.rows;
          cols = rest.cols;
        }))

    fault-alike : (op : TextOp) {is js : List Interval} → IntervalsBeside (EndsAlike p.text.items q.text.items) is js → id_fault is op ≡ id_fault js op
    fault-alike (IntervalAdd label name given props) g = ap (λ b. cond b (Some IdInUse) None) (has_interval-alike (EndsAlike p.text.items q.text.items) label name g)
    fault-alike (IntervalChange label name given props) g = ap (λ b. cond b None (Some NoSuchInterval)) (has_interval-alike (EndsAlike p.text.items q.text.items) label name g)
    fault-alike (IntervalDelete label name) g = ap (λ b. cond b None (Some NoSuchInterval)) (has_interval-alike (EndsAlike p.text.items q.text.items) label name g)
    fault-alike (One op) g = refl
    fault-alike (Group ops) g = refl

    interval-alike : (op : TextOp) → SubAlike last stages p q (OnIntervals op) (local_interval p stages (last + 1) op) (local_interval q others (last + 1) op)
    interval-alike op =
        let shown = shown-alike last p q h.parts.text s (intervals-more (SettledAlike p.text.items q.text.items) (EndsAlike p.text.items q.text.items)
        (λ i j e. settled-ends e) h.intervals) in
        let same = length-alike p.text q.text h.parts.text in
        let a = elements_at_given_ends (seen (last + 1 - 1)) p.text.items (ends_of op) in
        subst (λ f. SubAlike last stages p q (OnIntervals op) (local_interval p stages (last + 1) op)
        (unless_fault f (answer (len (seen (last + 1 - 1)) q.text.items) q))) (fault-alike op shown)
        (subst (λ n. SubAlike last stages p q (OnIntervals op) (local_interval p stages (last + 1) op)
        (unless_fault (id_fault (shown_intervals p.text.items p.intervals stages) op) (answer n q))) same
        (step (id_fault (shown_intervals p.text.items p.intervals stages) op) (given_ends_fit (len (seen (last + 1 - 1)) p.text.items) (ends_of op))))
      where
        answer : ℕ → Document → EditResult
        answer n d = cond (given_ends_fit n (ends_of op)) (Ok (d, elements_at_given_ends (seen (last + 1 - 1)) d.text.items (ends_of op))) (Err (OutOfRange n))

        step : (f : Option EditFault) (b : Bool) → SubAlike last stages p q (OnIntervals op)
            (unless_fault f (cond b (Ok (p, elements_at_given_ends (seen (last + 1 - 1)) p.text.items (ends_of op))) (Err (OutOfRange (len (seen (last + 1 - 1)) p.text.items)))))
            (unless_fault f (cond b (Ok (q, elements_at_given_ends (seen (last + 1 - 1)) q.text.items (ends_of op))) (Err (OutOfRange (len (seen (last + 1 - 1)) p.text.items)))))
        step (Some fault) b = refused fault
        step None false = refused (OutOfRange (len (seen (last + 1 - 1)) p.text.items))
        step None true =
            let n = given-names (places last p.text q.text h.parts.text) (seen (last + 1 - 1)) (λ x y t. twin-seen (last + 1 - 1) x y t) (ends_of op) in
            took (same-docs last (last + 1) p q (next-le last) h) n
            (end-before p.text n.first h.parts.text.left, end-before p.text n.second h.parts.text.left)
            (other-before q.text n.first h.parts.text.right, other-before q.text n.second h.parts.text.right)
            (same-stages (OnIntervals op) (elements_at_given_ends (seen (last + 1 - 1)) p.text.items (ends_of op)))

    set-alike : (i j : ℕ) (value : List ℕ) (o1 o2 o3 o4 : Option ListElement)
        → Both ListElement ListElement (λ x y. AreTwins p.rows.items q.rows.items x y × (seen (last + 1 - 1) x ≡ true)) o1 o2
        → Both ListElement ListElement (λ x y. AreTwins p.cols.items q.cols.items x y × (seen (last + 1 - 1) x ≡ true)) o3 o4
        → SubAlike last stages p q (OnGrid (Set i j value)) (local_set p (last + 1) o1 o3) (local_set q (last + 1) o2 o4)
    set-alike i j value None None o3 o4 rows cols =
        subst (λ n. SubAlike last stages p q (OnGrid (Set i j value)) (Err (OutOfRange (len (seen (last + 1 - 1)) p.rows.items))) (Err (OutOfRange n)))
        (length-alike p.rows q.rows h.parts.rows) (refused _)
    set-alike i j value (Some x) (Some y) None None rows cols =
        subst (λ n. SubAlike last stages p q (OnGrid (Set i j value)) (Err (OutOfRange (len (seen (last + 1 - 1)) p.cols.items))) (Err (OutOfRange n)))
        (length-alike p.cols q.cols h.parts.cols) (refused _)
    set-alike i j value (Some x) (Some y) (Some u) (Some v) (each t) (each w) =
        took (same-docs last (last + 1) p q (next-le last) h) (on t.0.stand, on w.0.stand)
        (stands-before p.rows (id x) h.parts.rows.left t.0.stand.there, stands-before p.cols (id u) h.parts.cols.left w.0.stand.there)
        (stands-before q.rows (id y) h.parts.rows.right (there-other t.0.stand), stands-before q.cols (id v) h.parts.cols.right (there-other w.0.stand))
        (same-stages (OnGrid (Set i j value)) (record { first = Some (id x); second = Some (id u) }))
    set-alike i j value None (Some y) o3 o4 rows cols = elim rows [ ]
    set-alike i j value (Some x) None o3 o4 rows cols = elim rows [ ]
    set-alike i j value (Some x) (Some y) None (Some v) rows cols = elim cols [ ]
    set-alike i j value (Some x) (Some y) (Some u) None rows cols = elim cols [ ]

    replicated : (n : ℕ) → length (replicate n GridUnit) ≡ n
    replicated zero = refl
    replicated (suc n) = ap suc (replicated n)

    grid-alike : (op : CellOp) → SubAlike last stages p q (OnGrid op) (local_grid p (last + 1) op) (local_grid q (last + 1) op)
    grid-alike (SpliceIn Rows i count) =
        let rest = same-stages (OnGrid (SpliceIn Rows i count)) no_elements in
        in-range (OnGrid (SpliceIn Rows i count)) i _ _ (length-alike p.rows q.rows h.parts.rows) _ _
        (took (rows-step last (last + 1) (next-le last) p q h _ _ (local-lists i [] (replicate count GridUnit) p.rows q.rows h.parts.rows) (self-le _)
        (self-le _) (inserts i [] (replicate count GridUnit) p.rows q.rows)) (refl, refl) (tt, tt) (tt, tt)
        (record {
          text = rest.text;
          rows = put-in-new inserts_rows stages (record
              { stage = last + 1; sub_operation = OnGrid (SpliceIn Rows i count); names = no_elements }) (seen (last + 1 - 1)) no_run i []
              (replicate count GridUnit) p.rows.items (ap (λ n. not (nat_eq n 0)) (sym (replicated count))) put.rows;
          cols = rest.cols;
        }))
    grid-alike (SpliceIn Cols i count) =
        let rest = same-stages (OnGrid (SpliceIn Cols i count)) no_elements in
        in-range (OnGrid (SpliceIn Cols i count)) i _ _ (length-alike p.cols q.cols h.parts.cols) _ _
        (took (cols-step last (last + 1) (next-le last) p q h _ _ (local-lists i [] (replicate count GridUnit) p.cols q.cols h.parts.cols) (self-le _)
        (self-le _) (inserts i [] (replicate count GridUnit) p.cols q.cols)) (refl, refl) (tt, tt) (tt, tt)
        (record {
          text = rest.text;
          rows = rest.rows;
          cols = put-in-new inserts_cols stages
              (record { stage = last + 1; sub_operation = OnGrid (SpliceIn Cols i count); names = no_elements }) (seen (last + 1 - 1)) no_run i []
              (replicate count GridUnit) p.cols.items (ap (λ n. not (nat_eq n 0)) (sym (replicated count))) put.cols;
        }))
    grid-alike (SpliceOut Rows i j) =
        let rest = same-stages (OnGrid (SpliceOut Rows i j)) no_elements in
        in-range (OnGrid (SpliceOut Rows i j)) j _ _ (length-alike p.rows q.rows h.parts.rows) _ _
        (took (rows-step last (last + 1) (next-le last) p q h _ _ (marked-lists i j (with_pending_removal (last + 1)) removal-keeps p.rows q.rows h.parts.rows)
        (self-le _) (self-le _) (marks i j (with_pending_removal (last + 1)) removal-keeps p.rows q.rows)) (refl, refl) (tt, tt) (tt, tt)
        (record {
          text = rest.text;
          rows = put-in-same inserts_rows stages (record
              { stage = last + 1; sub_operation = OnGrid (SpliceOut Rows i j); names = no_elements }) p.rows.items
              (change_range (seen (last + 1 - 1)) i j (with_pending_removal (last + 1)) p.rows.items)
              (λ k. marked-count i j k (with_pending_removal (last + 1)) removal-keeps p.rows.items) put.rows;
          cols = rest.cols;
        }))
    grid-alike (SpliceOut Cols i j) =
        let rest = same-stages (OnGrid (SpliceOut Cols i j)) no_elements in
        in-range (OnGrid (SpliceOut Cols i j)) j _ _ (length-alike p.cols q.cols h.parts.cols) _ _
        (took (cols-step last (last + 1) (next-le last) p q h _ _ (marked-lists i j (with_pending_removal (last + 1)) removal-keeps p.cols q.cols h.parts.cols)
        (self-le _) (self-le _) (marks i j (with_pending_removal (last + 1)) removal-keeps p.cols q.cols)) (refl, refl) (tt, tt) (tt, tt)
        (record {
          text = rest.text;
          rows = rest.rows;
          cols = put-in-same inserts_cols stages
              (record { stage = last + 1; sub_operation = OnGrid (SpliceOut Cols i j); names = no_elements }) p.cols.items
              (change_range (seen (last + 1 - 1)) i j (with_pending_removal (last + 1)) p.cols.items)
              (λ k. marked-count i j k (with_pending_removal (last + 1)) removal-keeps p.cols.items) put.cols;
        }))
    grid-alike (Set i j value) =
        set-alike i j value _ _ _ _
        (both-at (seen (last + 1 - 1)) (seen (last + 1 - 1)) (λ x y t. twin-seen (last + 1 - 1) x y t.twin) i (places last p.rows q.rows h.parts.rows))
        (both-at (seen (last + 1 - 1)) (seen (last + 1 - 1)) (λ x y t. twin-seen (last + 1 - 1) x y t.twin) j (places last p.cols q.cols h.parts.cols))

    sub-alike : (o : SubOperation) → SubAlike last stages p q o (local_sub_operation p stages (last + 1) o) (local_sub_operation q others (last + 1) o)
    sub-alike (OnText op) = text-alike op
    sub-alike (OnIntervals op) = interval-alike op
    sub-alike (OnGrid op) = grid-alike op

-- ---- an edit

-- the answers of two documents to the sub-operations of an edit
pub data SubsAlike (last : ℕ) (stages : List Stage) (p q : Document) : Result (Document × List Stage) EditFault → Result (Document × List Stage) EditFault → Type 0 where
  turned_down : (fault : EditFault) → SubsAlike last stages p q (Err fault) (Err fault)
  went : {d e : Document} {ts us : List Stage} → DocsStep last (last + length ts) p q d e → StagesBeside d e ts us → HasItsStages (stages ++ ts) d
      → RiseTo 0 (last + length ts) (stages ++ ts) → SubsAlike last stages p q (Ok (d, ts)) (Ok (e, us))

rise-behind : (low last : ℕ) (ts : List Stage) (t : Stage) → t.stage ≡ last + 1 → RiseTo low last ts → RiseTo low (last + 1) (ts ++ (t ∷ []))
rise-behind low last [] t e h = (omega arith, omega arith)
rise-behind low last (u ∷ ts) t e h = (h.0, rise-behind u.stage last ts t e h.1)

pub subs-alike : (last : ℕ) (stages others : List Stage) (p q : Document) → DocsAlike last p q → StagesBeside p q stages others → HasItsStages stages p
    → RiseTo 0 last stages → (os : List SubOperation)
    → SubsAlike last stages p q (local_sub_operations p stages (last + 1) os) (local_sub_operations q others (last + 1) os)
subs-alike last stages others p q h s own rise [] =
    went (same-docs last (last + 0) p q (omega arith) h) ends (subst (λ ts. HasItsStages ts p) (sym (append-nil stages)) own)
    (subst (λ ts. RiseTo 0 (last + 0) ts) (sym (append-nil stages)) (subst (λ n. RiseTo 0 n stages) (zero-right last) rise))
  where
    zero-right : (n : ℕ) → n ≡ n + 0
    zero-right n = omega arith
subs-alike last stages others p q h s own rise (o ∷ os) =
    one (sub-alike last stages others p q h s own o)
    (λ d e a b step names before other staged.
    subs-alike (last + 1) (stages ++ (record { stage = last + 1; sub_operation = o; names = a } ∷ []))
    (others ++ (record { stage = last + 1; sub_operation = o; names = b } ∷ [])) d e step.alike
    (beside-append (stages-stay p q d e step.names s) (next (record { rest = refl; names = names; before = before; other = other }) ends)) staged
    (rise-behind 0 last stages (record { stage = last + 1; sub_operation = o; names = a }) refl rise) os)
  where
    here : NamedElements → Stage
    here a = record { stage = last + 1; sub_operation = o; names = a }

    after : (Document × NamedElements) → List Stage → Result (Document × List Stage) EditFault
    after taken before = elim (local_sub_operations taken.0 (before ++ (here taken.1 ∷ [])) (last + 1 + 1) os)
        [ Err fault ↦ Err fault | Ok rest ↦ Ok (rest.0, here taken.1 ∷ rest.1) ]

    rest-of : NamedElements → Result (Document × List Stage) EditFault → Result (Document × List Stage) EditFault
    rest-of a r = elim r [ Err fault ↦ Err fault | Ok rest ↦ Ok (rest.0, here a ∷ rest.1) ]

    more : (m n : ℕ) → m + 1 + n ≡ m + suc n
    more m n = omega arith

    behind : {d e : Document} (a b : NamedElements) → DocsStep last (last + 1) p q d e → StageNames d e o a b → AreNamedBefore (last + 1) o a → AreNamedBefore (last + 1) o b
        → {r1 r2 : Result (Document × List Stage) EditFault} → SubsAlike (last + 1) (stages ++ (here a ∷ [])) d e r1 r2 → SubsAlike last stages p q (rest-of a r1) (rest-of b r2)
    behind a b step names before other (turned_down fault) = turned_down fault
    behind {d} {e} a b step names before other (went {d = d2} {e = e2} {ts = ts} {us = us} steps below staged rises) =
        went (subst (λ n. DocsStep last n p q d2 e2) (more last (length ts)) (record { alike = steps.alike; names = names-twice p q d e d2 e2 step.names steps.names }))
        (next (record { rest = refl; names = stage-names-stay d e d2 e2 steps.names o a b names; before = before; other = other }) below)
        (subst (λ ss. HasItsStages ss d2) (append_assoc stages (here a ∷ []) ts) staged)
        (subst (λ ss. RiseTo 0 (last + suc (length ts)) ss) (append_assoc stages (here a ∷ []) ts)
        (subst (λ n. RiseTo 0 n ((stages ++ (here a ∷ [])) ++ ts)) (more last (length ts)) rises))

    one : {r1 r2 : EditResult} → SubAlike last stages p q o r1 r2
        → ((d e : Document) (a b : NamedElements) → DocsStep last (last + 1) p q d e → StageNames d e o a b → AreNamedBefore (last + 1) o a
        → AreNamedBefore (last + 1) o b → HasItsStages (stages ++ (here a ∷ [])) d
        → SubsAlike (last + 1) (stages ++ (here a ∷ [])) d e (local_sub_operations d (stages ++ (here a ∷ [])) (last + 1 + 1) os)
        (local_sub_operations e (others ++ (here b ∷ [])) (last + 1 + 1) os))
        → SubsAlike last stages p q (elim r1 [ Err fault ↦ Err fault | Ok taken ↦ after taken stages ]) (elim r2 [ Err fault ↦ Err fault | Ok taken ↦ after taken others ])
    one (refused fault) f = turned_down fault
    one (took {d = d} {e = e} {a = a} {b = b} step names before other staged) f = behind a b step names before other (f d e a b step names before other staged)
