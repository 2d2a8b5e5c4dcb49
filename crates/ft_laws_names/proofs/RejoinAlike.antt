-- A reconnection in two documents that differ in names alone: the pieces of each stage are the same, and the stages go on alike.
use Rattle.std.proofs.Common.{◌≡◌, ℕ, ◌+◌, ◌-◌, ◌≤◌, ◌<◌, Bool, true, false, cond, not, ◌&&◌, ◌||◌, nat_eq, List, [], ◌∷◌, ◌++◌, Option, Some, None, refl, sym, ◌∙◌, ap, subst, length, map, arith, append_assoc}
use Rattle.std.specs.List.{list_any, flat_map}
use Rattle.std.specs.Option.{option_map}
use Rattle.ft_op.specs.declared.operations.BaseOp.TheVariants.{Insert, Remove, Annotate}
use Rattle.ft_op.specs.declared.operations.CellOp.{CellOp}
use Rattle.ft_op.specs.declared.operations.CellOp.TheVariants.{SpliceIn, SpliceOut, Set}
use Rattle.ft_op.specs.declared.operations.ChannelOp.{ChannelOp}
use Rattle.ft_op.specs.declared.operations.Target.TheVariants.{Rows, Cols}
use Rattle.ft_op.specs.declared.operations.TextOp.{TextOp}
use Rattle.ft_op.specs.declared.operations.TextOp.TheVariants.{One, Group, IntervalAdd, IntervalChange, IntervalDelete}
use Rattle.ft_props.specs.Element.{ElementContent, ElementId, ListElement, has_id, seen}
use Rattle.ft_props.specs.Steps.{is_inserted_by, lowered_runs, rebuilt_list}
use Rattle.ft_op.specs.Operation.{OnGrid, OnIntervals, OnText, SubOperation, segment_contents}
use Rattle.ft_op.specs.Intervals.{NamedElements, settle_elements}
use Rattle.ft_op.specs.Document.{Document}
use Rattle.ft_op.specs.Pieces.{ends_in, interval_piece, is_named_and_seen, op_of, pieces, position_of_named, grid_pieces, unless_empty}
use Rattle.ft_op.specs.Stages.{Stage}
use Rattle.ft_msg.specs.Client.{PendingEdit}
use Rattle.ft_msg.specs.Reconnection.{carried_stage, rebuilt_document, regenerated_edit, resubmitted_edit, resubmitted_edits}
use Rattle.ft_base.specs.Scan.{len}
use Rattle.ft_laws_agreement.specs.Sequencing.{Each}
use Rattle.ft_laws_names.specs.WellNamed.{AreNamedBefore, ArePutIn, HasItsStages, RiseTo, inserts_cols, inserts_rows, puts_text_in}
use Rattle.ft_laws_names.proofs.Beside.{Beside, beside-any, beside-each, beside-flat, beside-rank, ends, next, same-flat, same-map}
use Rattle.ft_laws_names.proofs.DocumentsAlike.{DocsAlike, DocsStep, NamesStay, cols-step, places, rows-step, text-step}
use Rattle.ft_laws_names.proofs.ForeignAlike.{self-le}
use Rattle.ft_laws_names.proofs.IntervalsAlike.{NamesAlike, names-settle}
use Rattle.ft_laws_names.proofs.LocalAlike.{StageAlike, StageNames, StagesBeside, stage-names-stay}
use Rattle.ft_laws_names.proofs.OwnAlike.{HasNoneOf}
use Rattle.ft_laws_names.proofs.RebuiltLists.{IsStagedAmong, Rises, rebuilt-alike, rebuilt-step, stages-rebuilt}
use Rattle.ft_laws_names.proofs.SettledBefore.{settled-before}
use Rattle.ft_laws_names.proofs.Twins.{EndsAlike, EndsBeside, annotated_runs-alike, detached, end_number-alike, ends-beside, len-alike, on, twin-inserted, position-alike, removed_runs-alike, twin-seen}

-- ---- pieces

named_seen-alike : (k : ℕ) {xs ys : List ListElement} {o p : Option ElementId} → EndsAlike xs ys o p → is_named_and_seen k xs o ≡ is_named_and_seen k ys p
named_seen-alike k detached = refl
named_seen-alike k (on {a = a} {b = b} s) = beside-any (λ e. has_id a e && seen k e) (λ e. has_id b e && seen k e) (λ x y q. rw (q.1, twin-seen k x y q.0) refl) s.twins

position_of-alike : (k : ℕ) {xs ys : List ListElement} {o p : Option ElementId} → EndsAlike xs ys o p → position_of_named k xs o ≡ position_of_named k ys p
position_of-alike k detached = refl
position_of-alike k (on {a = a} {b = b} s) = beside-rank (has_id a) (has_id b) (λ x y q. q.1) (seen k) (seen k) (λ x y q. twin-seen k x y q.0) s.twins

ends_in-alike : (k : ℕ) {xs ys : List ListElement} (a b : NamedElements) → NamesAlike (EndsAlike xs ys) a b → ends_in k xs a ≡ ends_in k ys b
ends_in-alike k a b n = rw (end_number-alike k (ends-beside n.first), end_number-alike k (ends-beside n.second)) refl

interval_piece-alike : (k : ℕ) {xs ys : List ListElement} (a b : NamedElements) → NamesAlike (EndsAlike xs ys) a b → (op : TextOp) → interval_piece k xs a op
    ≡ interval_piece k ys b op
interval_piece-alike k a b n (IntervalAdd label name given props) = ap (λ e. IntervalAdd label name e props) (ends_in-alike k a b n)
interval_piece-alike k a b n (IntervalChange label name (Some given) props) = ap (λ e. IntervalChange label name (Some e) props) (ends_in-alike k a b n)
interval_piece-alike k a b n (IntervalChange label name None props) = refl
interval_piece-alike k a b n (IntervalDelete label name) = refl
interval_piece-alike k a b n (One op) = refl
interval_piece-alike k a b n (Group ops) = refl

loosely : {xs ys : List ListElement} (a b : NamedElements) → NamesAlike (EndsAlike xs ys) a b → NamesAlike (EndsBeside xs ys) a b
loosely a b n = record { first = ends-beside n.first; second = ends-beside n.second }

module _ (last : ℕ) (p q : Document) (h : DocsAlike last p q) where
  grid-alike : (k : ℕ) (op : CellOp) (a b : NamedElements) → StageNames p q (OnGrid op) a b → grid_pieces k p a op ≡ grid_pieces k q b op
  grid-alike k (SpliceIn Rows i count) a b n = ap (λ m. cond (nat_eq count 0) [] (OnGrid (SpliceIn Rows m count) ∷ [])) (position-alike k h.parts.rows.twins)
  grid-alike k (SpliceIn Cols i count) a b n = ap (λ m. cond (nat_eq count 0) [] (OnGrid (SpliceIn Cols m count) ∷ [])) (position-alike k h.parts.cols.twins)
  grid-alike k (SpliceOut Rows i j) a b n = ap (λ rs. map (λ (r : ℕ × ℕ). OnGrid (SpliceOut Rows r.0 r.1)) (lowered_runs 0 rs)) (removed_runs-alike k h.parts.rows.twins)
  grid-alike k (SpliceOut Cols i j) a b n = ap (λ rs. map (λ (r : ℕ × ℕ). OnGrid (SpliceOut Cols r.0 r.1)) (lowered_runs 0 rs)) (removed_runs-alike k h.parts.cols.twins)
  grid-alike k (Set i j value) a b n =
      ap (λ s. cond (s && is_named_and_seen k p.cols.items a.second) (OnGrid
      (Set (position_of_named (k - 1) p.rows.items a.first) (position_of_named (k - 1) p.cols.items a.second) value) ∷ []) []) (named_seen-alike k n.0)
      ∙ ap (λ s. cond (is_named_and_seen k q.rows.items b.first && s) (OnGrid
      (Set (position_of_named (k - 1) p.rows.items a.first) (position_of_named (k - 1) p.cols.items a.second) value) ∷ []) []) (named_seen-alike k n.1)
      ∙ ap (λ m. cond (is_named_and_seen k q.rows.items b.first && is_named_and_seen k q.cols.items b.second)
      (OnGrid (Set m (position_of_named (k - 1) p.cols.items a.second) value) ∷ []) []) (position_of-alike (k - 1) n.0)
      ∙ ap (λ m. cond (is_named_and_seen k q.rows.items b.first && is_named_and_seen k q.cols.items b.second)
      (OnGrid (Set (position_of_named (k - 1) q.rows.items b.first) m value) ∷ []) []) (position_of-alike (k - 1) n.1)

  abbrev stage_of : ℕ → SubOperation → NamedElements → Stage
  stage_of k o a = record { stage = k; sub_operation = o; names = a }

  settled-names : (k : ℕ) (a b : NamedElements) → NamesAlike (EndsAlike p.text.items q.text.items) a b
      → NamesAlike (EndsAlike p.text.items q.text.items) (settle_elements p.text.items k a) (settle_elements q.text.items k b)
  settled-names k a b n = names-settle (places last p.text q.text h.parts.text) k a b (loosely a b n)

  pieces-of : (k : ℕ) (o : SubOperation) (a b : NamedElements) → StageNames p q o a b → pieces p (record { stage = k; sub_operation = o; names = a })
      ≡ pieces q (record { stage = k; sub_operation = o; names = b })
  pieces-of k (OnText (Insert i seg props)) a b n = ap (λ m. unless_empty (segment_contents seg) (OnText (Insert m seg props))) (position-alike k h.parts.text.twins)
  pieces-of k (OnText (Remove i j)) a b n = ap (λ rs. map (λ (r : ℕ × ℕ). OnText (Remove r.0 r.1)) (lowered_runs 0 rs)) (removed_runs-alike k h.parts.text.twins)
  pieces-of k (OnText (Annotate i j changes)) a b n = ap (λ rs. map (λ (r : ℕ × ℕ). OnText (Annotate r.0 r.1 changes)) rs) (annotated_runs-alike k h.parts.text.twins)
  pieces-of k (OnIntervals op) a b n = ap (λ o. OnIntervals o ∷ []) (interval_piece-alike k _ _ (settled-names k a b n) op)
  pieces-of k (OnGrid op) a b n = grid-alike k op a b n

  pub pieces-alike : (t u : Stage) → StageAlike p q t u → pieces p t ≡ pieces q u
  pieces-alike t u s = pieces-of t.stage t.sub_operation t.names u.names s.names ∙ ap (pieces q) (sym s.rest)

  pub regenerated-alike : (e f : PendingEdit) → StagesBeside p q e.stages f.stages → regenerated_edit p e ≡ regenerated_edit q f
  regenerated-alike e f s = ap op_of (same-flat (pieces p) (pieces q) (λ t u r. pieces-alike t u r) s)

  -- ---- the stages that go on

  module _ (d e : Document) (stay : NamesStay p q d e) where
    kept-stage : (k : ℕ) (o : SubOperation) (a b : NamedElements) → StageNames p q o a b → AreNamedBefore k o a → AreNamedBefore k o b
        → StageAlike d e (record { stage = k; sub_operation = o; names = a }) (record { stage = k; sub_operation = o; names = b })
    kept-stage k o a b n f g = record { rest = refl; names = stage-names-stay p q d e stay o a b n; before = f; other = g }

    unless-gone : (ps rs : List SubOperation) → ps ≡ rs → (t u : Stage) → StageAlike d e t u
        → StagesBeside d e (elim ps [ [] ↦ [] | _ ∷ _ ↦ t ∷ [] ]) (elim rs [ [] ↦ [] | _ ∷ _ ↦ u ∷ [] ])
    unless-gone [] [] g t u s = ends
    unless-gone (_ ∷ _) (_ ∷ _) g t u s = next s ends
    unless-gone [] (_ ∷ _) g t u s = (cc)
    unless-gone (_ ∷ _) [] g t u s = (cc)

    carried-of : (k : ℕ) (o : SubOperation) (a b : NamedElements) → StageNames p q o a b → AreNamedBefore k o a → AreNamedBefore k o b
        → (puts_text_in o ≡ false → len (is_inserted_by k) p.text.items ≡ 0)
        → StagesBeside d e (carried_stage p (record { stage = k; sub_operation = o; names = a })) (carried_stage q (record { stage = k; sub_operation = o; names = b }))
    carried-of k (OnText op) a b n f g none = unless-gone _ _ (pieces-of k (OnText op) a b n) _ _ (kept-stage k (OnText op) a b n f g)
    carried-of k (OnIntervals op) a b n f g none =
        let other = sym (len-alike (is_inserted_by k) (twin-inserted k) h.parts.text.twins) ∙ none refl in
        next (kept-stage k (OnIntervals op) _ _ (settled-names k a b n)
        (settled-before k p.text.items (none refl) a.first, settled-before k p.text.items (none refl) a.second)
        (settled-before k q.text.items other b.first, settled-before k q.text.items other b.second)) ends
    carried-of k (OnGrid op) a b n f g none = unless-gone _ _ (pieces-of k (OnGrid op) a b n) _ _ (kept-stage k (OnGrid op) a b n f g)

    carried-alike : (t u : Stage) → StageAlike p q t u → HasNoneOf puts_text_in p.text.items t → StagesBeside d e (carried_stage p t) (carried_stage q u)
    carried-alike t u s none = subst (λ v. StagesBeside d e (carried_stage p t) (carried_stage q v)) (sym s.rest)
        (carried-of t.stage t.sub_operation t.names u.names s.names s.before s.other none)

-- the stages of edits
abbrev pub stages_in : List PendingEdit → List Stage
stages_in es = flat_map (λ (e : PendingEdit). e.stages) es

-- two edits that differ in names alone
pub record EditAlike (p q : Document) (e f : PendingEdit) : Type 0 where
  pub stages : StagesBeside p q e.stages f.stages
  pub ref_seq : e.ref_seq ≡ f.ref_seq
  pub sent : e.sent ≡ f.sent

abbrev pub EditsBeside : Document → Document → List PendingEdit → List PendingEdit → Type 0
EditsBeside p q es fs = Beside PendingEdit PendingEdit (EditAlike p q) es fs

each-parts : {A : Type 0} (R : A → Type 0) (xs ys : List A) → Each R (xs ++ ys) → Each R xs × Each R ys
each-parts R [] ys h = (tt, h)
each-parts R (x ∷ xs) ys h = let parts = each-parts R xs ys h.1 in ((h.0, parts.0), parts.1)

module _ (last : ℕ) (p q : Document) (h : DocsAlike last p q) (d e : Document) (stay : NamesStay p q d e) (conn : ℕ) where
  pub resubmitted-alike : (n : ℕ) {es fs : List PendingEdit} → EditsBeside p q es fs → Each (HasNoneOf puts_text_in p.text.items) (stages_in es)
      → EditsBeside d e (resubmitted_edits p conn n es) (resubmitted_edits q conn n fs)
  resubmitted-alike n ends none = ends
  resubmitted-alike n (next {x = i} {y = j} {xs = es} {ys = fs} r rs) none =
      let parts = each-parts (HasNoneOf puts_text_in p.text.items) i.stages (stages_in es) none in
      step (regenerated_edit p i) (regenerated_edit q j) (regenerated-alike last p q h i j r.stages)
      (beside-each (HasNoneOf puts_text_in p.text.items) r.stages parts.0) (resubmitted-alike n rs parts.1) (resubmitted-alike (n + 1) rs parts.1)
    where
      step : (o w : Option ChannelOp) → o ≡ w → Beside Stage Stage (λ t u. StageAlike p q t u × HasNoneOf puts_text_in p.text.items t) i.stages j.stages
          → EditsBeside d e (resubmitted_edits p conn n es) (resubmitted_edits q conn n fs)
          → EditsBeside d e (resubmitted_edits p conn (n + 1) es) (resubmitted_edits q conn (n + 1) fs)
          → EditsBeside d e (elim o [ None ↦ resubmitted_edits p conn n es | Some op ↦ resubmitted_edit p conn n i op ∷ resubmitted_edits p conn (n + 1) es ])
          (elim w [ None ↦ resubmitted_edits q conn n fs | Some op ↦ resubmitted_edit q conn n j op ∷ resubmitted_edits q conn (n + 1) fs ])
      step None None g s a b = a
      step (Some op) (Some other) g s a b =
          next (record {
            stages = beside-flat (carried_stage p) (carried_stage q) (λ t u r. carried-alike last p q h d e stay t u r.0 r.1) s;
            ref_seq =
                h.parts.number;
            sent = ap (λ (o : Option ChannelOp). option_map (λ x. record { conn = conn; client_seq = n; op = x }) o) g;
          }) b
      step None (Some other) g s a b = (cc)
      step (Some op) None g s a b = (cc)

-- ---- what the stages that go on tell of the lists

-- stages with such a sub-operation have a piece
pub record HavePieces (inserts : SubOperation → Bool) : Type 0 where
  pub piece : (p : Document) (k : ℕ) (o : SubOperation) (a : NamedElements) → pieces p (record { stage = k; sub_operation = o; names = a }) ≡ [] → inserts o ≡ false
  pub others : (op : TextOp) → inserts (OnIntervals op) ≡ false

text-pieces : HavePieces puts_text_in
text-pieces = record { piece = piece; others = λ op. refl }
  where
    inserted : (cs : List ElementContent) (o : SubOperation) → unless_empty cs o ≡ [] → not (nat_eq (length cs) 0) ≡ false
    inserted [] o g = refl
    inserted (c ∷ cs) o g = (cc)

    piece : (p : Document) (k : ℕ) (o : SubOperation) (a : NamedElements) → pieces p (record { stage = k; sub_operation = o; names = a }) ≡ [] → puts_text_in o ≡ false
    piece p k (OnText (Insert i seg props)) a g = inserted (segment_contents seg) _ g
    piece p k (OnText (Remove i j)) a g = refl
    piece p k (OnText (Annotate i j changes)) a g = refl
    piece p k (OnIntervals op) a g = refl
    piece p k (OnGrid op) a g = refl

none-counted : (b : Bool) (o : SubOperation) → cond b [] (o ∷ []) ≡ [] → not b ≡ false
none-counted true o g = refl
none-counted false o g = (cc)

rows-pieces : HavePieces inserts_rows
rows-pieces = record { piece = piece; others = λ op. refl }
  where
    piece : (p : Document) (k : ℕ) (o : SubOperation) (a : NamedElements) → pieces p (record { stage = k; sub_operation = o; names = a }) ≡ [] → inserts_rows o ≡ false
    piece p k (OnText op) a g = refl
    piece p k (OnIntervals op) a g = refl
    piece p k (OnGrid (SpliceIn Rows i count)) a g = none-counted (nat_eq count 0) _ g
    piece p k (OnGrid (SpliceIn Cols i count)) a g = refl
    piece p k (OnGrid (SpliceOut target i j)) a g = refl
    piece p k (OnGrid (Set i j value)) a g = refl

cols-pieces : HavePieces inserts_cols
cols-pieces = record { piece = piece; others = λ op. refl }
  where
    piece : (p : Document) (k : ℕ) (o : SubOperation) (a : NamedElements) → pieces p (record { stage = k; sub_operation = o; names = a }) ≡ [] → inserts_cols o ≡ false
    piece p k (OnText op) a g = refl
    piece p k (OnIntervals op) a g = refl
    piece p k (OnGrid (SpliceIn Rows i count)) a g = refl
    piece p k (OnGrid (SpliceIn Cols i count)) a g = none-counted (nat_eq count 0) _ g
    piece p k (OnGrid (SpliceOut target i j)) a g = refl
    piece p k (OnGrid (Set i j value)) a g = refl

any-append : {A : Type 0} (f : A → Bool) (xs ys : List A) → list_any f (xs ++ ys) ≡ list_any f xs || list_any f ys
any-append f [] ys = refl
any-append f (x ∷ xs) ys = step (f x) (any-append f xs ys)
  where
    step : (b : Bool) → list_any f (xs ++ ys) ≡ list_any f xs || list_any f ys → b || list_any f (xs ++ ys) ≡ (b || list_any f xs) || list_any f ys
    step true e = refl
    step false e = e

or-false : (b : Bool) → b || false ≡ b
or-false true = refl
or-false false = refl

no-op : (ps : List SubOperation) → op_of ps ≡ None → ps ≡ []
no-op [] g = refl
no-op (OnText op ∷ []) g = (cc)
no-op (OnText op ∷ x ∷ ps) g = (cc)
no-op (OnIntervals op ∷ ps) g = (cc)
no-op (OnGrid op ∷ []) g = (cc)
no-op (OnGrid op ∷ x ∷ ps) g = (cc)

nil-append : {A : Type 0} (xs ys : List A) → xs ++ ys ≡ [] → (xs ≡ []) × (ys ≡ [])
nil-append [] ys g = (refl, g)
nil-append (x ∷ xs) ys g = (cc)

module _ (inserts : SubOperation → Bool) (have : HavePieces inserts) (k : ℕ) (p : Document) where
  abbrev is_here : Stage → Bool
  is_here t = nat_eq k t.stage && inserts t.sub_operation

  not-here : (n : ℕ) → (b : Bool) → b ≡ false → nat_eq k n && b ≡ false
  not-here n true g = (cc)
  not-here n false g = never (nat_eq k n)
    where
      never : (b : Bool) → b && false ≡ false
      never true = refl
      never false = refl

  carried-here : (n : ℕ) (o : SubOperation) (a : NamedElements) → list_any (λ (t : Stage). nat_eq k t.stage && inserts t.sub_operation)
      (carried_stage p (record { stage = n; sub_operation = o; names = a })) ≡ (nat_eq k n && inserts o)
  carried-here n (OnText op) a = step (pieces p (record { stage = n; sub_operation = OnText op; names = a })) refl
    where
      step : (ps : List SubOperation) → pieces p (record { stage = n; sub_operation = OnText op; names = a }) ≡ ps
          → list_any (λ (t : Stage). nat_eq k t.stage && inserts t.sub_operation)
          (elim ps [ [] ↦ [] | _ ∷ _ ↦ record { stage = n; sub_operation = OnText op; names = a } ∷ [] ]) ≡ (nat_eq k n && inserts (OnText op))
      step [] g = sym (not-here n (inserts (OnText op)) (have.piece p n (OnText op) a g))
      step (_ ∷ _) g = or-false (nat_eq k n && inserts (OnText op))
  carried-here n (OnIntervals op) a = or-false (nat_eq k n && inserts (OnIntervals op))
  carried-here n (OnGrid op) a = step (pieces p (record { stage = n; sub_operation = OnGrid op; names = a })) refl
    where
      step : (ps : List SubOperation) → pieces p (record { stage = n; sub_operation = OnGrid op; names = a }) ≡ ps
          → list_any (λ (t : Stage). nat_eq k t.stage && inserts t.sub_operation)
          (elim ps [ [] ↦ [] | _ ∷ _ ↦ record { stage = n; sub_operation = OnGrid op; names = a } ∷ [] ]) ≡ (nat_eq k n && inserts (OnGrid op))
      step [] g = sym (not-here n (inserts (OnGrid op)) (have.piece p n (OnGrid op) a g))
      step (_ ∷ _) g = or-false (nat_eq k n && inserts (OnGrid op))

  all-carried : (ts : List Stage) → list_any (λ (t : Stage). nat_eq k t.stage && inserts t.sub_operation) (flat_map (carried_stage p) ts)
      ≡ list_any (λ (t : Stage). nat_eq k t.stage && inserts t.sub_operation) ts
  all-carried [] = refl
  all-carried (t ∷ ts) = any-append _ (carried_stage p t) (flat_map (carried_stage p) ts) ∙ rw (carried-here t.stage t.sub_operation t.names, all-carried ts) refl

  none-piece : (ts : List Stage) → flat_map (pieces p) ts ≡ [] → list_any (λ (t : Stage). nat_eq k t.stage && inserts t.sub_operation) ts ≡ false
  none-piece [] g = refl
  none-piece (t ∷ ts) g =
      let parts = nil-append (pieces p t) (flat_map (pieces p) ts) g in
      rw (not-here t.stage (inserts t.sub_operation) (have.piece p t.stage t.sub_operation t.names parts.0), none-piece ts parts.1) refl

  pub resubmitted-here : (conn n : ℕ) (es : List PendingEdit) → list_any (λ (t : Stage). nat_eq k t.stage && inserts t.sub_operation)
      (flat_map (λ (e : PendingEdit). e.stages) (resubmitted_edits p conn n es))
      ≡ list_any (λ (t : Stage). nat_eq k t.stage && inserts t.sub_operation) (flat_map (λ (e : PendingEdit). e.stages) es)
  resubmitted-here conn n [] = refl
  resubmitted-here conn n (e ∷ es) = step (regenerated_edit p e) refl (resubmitted-here conn n es) (resubmitted-here conn (n + 1) es)
    where
      step : (o : Option ChannelOp) → regenerated_edit p e ≡ o → list_any (λ (t : Stage). nat_eq k t.stage && inserts t.sub_operation)
          (stages_in (resubmitted_edits p conn n es)) ≡ list_any (λ (t : Stage). nat_eq k t.stage && inserts t.sub_operation) (stages_in es)
          → list_any (λ (t : Stage). nat_eq k t.stage && inserts t.sub_operation) (stages_in (resubmitted_edits p conn (n + 1) es))
          ≡ list_any (λ (t : Stage). nat_eq k t.stage && inserts t.sub_operation) (stages_in es)
          → list_any (λ (t : Stage). nat_eq k t.stage && inserts t.sub_operation)
          (stages_in (elim o [ None ↦ resubmitted_edits p conn n es | Some op ↦ resubmitted_edit p conn n e op ∷ resubmitted_edits p conn (n + 1) es ]))
          ≡ list_any (λ (t : Stage). nat_eq k t.stage && inserts t.sub_operation) (e.stages ++ stages_in es)
      step None g a b = a ∙ sym (any-append (λ (t : Stage). nat_eq k t.stage && inserts t.sub_operation) e.stages (stages_in es)
          ∙ ap (λ i. i || list_any (λ (t : Stage). nat_eq k t.stage && inserts t.sub_operation) (stages_in es)) (none-piece e.stages (no-op (flat_map (pieces p) e.stages) g)))
      step (Some op) g a b = any-append (λ (t : Stage). nat_eq k t.stage && inserts t.sub_operation) (flat_map (carried_stage p) e.stages)
          (stages_in (resubmitted_edits p conn (n + 1) es)) ∙ rw (all-carried e.stages, b)
          (sym (any-append (λ (t : Stage). nat_eq k t.stage && inserts t.sub_operation) e.stages (stages_in es)))

-- the numbers of the stages that go on rise
module _ (p : Document) (last : ℕ) where
  lower : (low more : ℕ) (ts : List Stage) → low ≤ more → RiseTo more last ts → RiseTo low last ts
  lower low more [] l h = omega arith
  lower low more (t ∷ ts) l h = (omega arith, h.1)

  carried-rise : (low n : ℕ) (o : SubOperation) (a : NamedElements) (rest : List Stage) → low < n → RiseTo n last rest
      → RiseTo low last (carried_stage p (record { stage = n; sub_operation = o; names = a }) ++ rest)
  carried-rise low n (OnText op) a rest l h = step (pieces p (record { stage = n; sub_operation = OnText op; names = a }))
    where
      step : (ps : List SubOperation) → RiseTo low last ((elim ps [ [] ↦ [] | _ ∷ _ ↦ record { stage = n; sub_operation = OnText op; names = a } ∷ [] ]) ++ rest)
      step [] = lower low n rest (omega arith) h
      step (_ ∷ _) = (l, h)
  carried-rise low n (OnIntervals op) a rest l h = (l, h)
  carried-rise low n (OnGrid op) a rest l h = step (pieces p (record { stage = n; sub_operation = OnGrid op; names = a }))
    where
      step : (ps : List SubOperation) → RiseTo low last ((elim ps [ [] ↦ [] | _ ∷ _ ↦ record { stage = n; sub_operation = OnGrid op; names = a } ∷ [] ]) ++ rest)
      step [] = lower low n rest (omega arith) h
      step (_ ∷ _) = (l, h)

  all-rise : (ts rest after : List Stage) → ((n : ℕ) → RiseTo n last rest → RiseTo n last after) → (low : ℕ) → RiseTo low last (ts ++ rest)
      → RiseTo low last (flat_map (carried_stage p) ts ++ after)
  all-rise [] rest after f low h = f low h
  all-rise (t ∷ ts) rest after f low h =
      subst (λ us. RiseTo low last us) (sym (append_assoc (carried_stage p t) (flat_map (carried_stage p) ts) after))
      (carried-rise low t.stage t.sub_operation t.names (flat_map (carried_stage p) ts ++ after) h.0 (all-rise ts rest after f t.stage h.1))

  skipped-rise : (ts rest : List Stage) (low : ℕ) → RiseTo low last (ts ++ rest) → RiseTo low last rest
  skipped-rise [] rest low h = h
  skipped-rise (t ∷ ts) rest low h = lower low t.stage rest (omega arith) (skipped-rise ts rest t.stage h.1)

  pub resubmitted-rise : (conn n : ℕ) (es : List PendingEdit) (low : ℕ) → RiseTo low last (flat_map (λ (e : PendingEdit). e.stages) es)
      → RiseTo low last (flat_map (λ (e : PendingEdit). e.stages) (resubmitted_edits p conn n es))
  resubmitted-rise conn n [] low h = h
  resubmitted-rise conn n (e ∷ es) low h =
      step (regenerated_edit p e) (λ g. resubmitted-rise conn n es low g) (λ m g. resubmitted-rise conn (n + 1) es m g)
    where
      step : (o : Option ChannelOp) → (RiseTo low last (stages_in es) → RiseTo low last (stages_in (resubmitted_edits p conn n es)))
          → ((m : ℕ) → RiseTo m last (stages_in es) → RiseTo m last (stages_in (resubmitted_edits p conn (n + 1) es)))
          → RiseTo low last (stages_in (elim o [ None ↦ resubmitted_edits p conn n es | Some op ↦ resubmitted_edit p conn n e op ∷ resubmitted_edits p conn (n + 1) es ]))
      step None a b = a (skipped-rise e.stages (stages_in es) low h)
      step (Some op) a b = all-rise e.stages (stages_in es) (stages_in (resubmitted_edits p conn (n + 1) es)) b low h

-- ---- the documents

rises-to : (low last : ℕ) (ts : List Stage) → RiseTo low last ts → Rises low (map (λ t. t.stage) ts)
rises-to low last [] h = tt
rises-to low last (t ∷ ts) h = (h.0, rises-to t.stage last ts h.1)

staged-among : (inserts : SubOperation → Bool) (ts : List Stage) (xs : List ListElement) → ArePutIn inserts ts xs → IsStagedAmong (map (λ t. t.stage) ts) xs
staged-among inserts ts xs h k g = h k (none ts g)
  where
    none : (us : List Stage) → list_any (nat_eq k) (map (λ t. t.stage) us) ≡ false → list_any (λ (t : Stage). nat_eq k t.stage && inserts t.sub_operation) us ≡ false
    none [] e = refl
    none (u ∷ us) e = step (nat_eq k u.stage) refl e (λ f. none us f)
      where
        step : (b : Bool) → nat_eq k u.stage ≡ b → b || list_any (nat_eq k) (map (λ t. t.stage) us) ≡ false
            → (list_any (nat_eq k) (map (λ t. t.stage) us) ≡ false → list_any (λ (t : Stage). nat_eq k t.stage && inserts t.sub_operation) us ≡ false)
            → b && inserts u.sub_operation || list_any (λ (t : Stage). nat_eq k t.stage && inserts t.sub_operation) us ≡ false
        step true f w ih = (cc)
        step false f w ih = ih w

pub same-numbers : (p q : Document) {ts us : List Stage} → StagesBeside p q ts us → map (λ (t : Stage). t.stage) ts ≡ map (λ (t : Stage). t.stage) us
same-numbers p q h = same-map (λ (t : Stage). t.stage) (λ (t : Stage). t.stage) (λ t u s. sym (ap (λ (v : Stage). v.stage) s.rest)) h

module _ (last : ℕ) (ts : List Stage) (rise : RiseTo 0 last ts) (p q : Document) (h : DocsAlike last p q) (own : HasItsStages ts p) where
  pub document-alike : DocsStep last last p q (rebuilt_document (map (λ t. t.stage) ts) p) (rebuilt_document (map (λ t. t.stage) ts) q)
  document-alike =
      let ks = map (λ (t : Stage). t.stage) ts in
      let r = rises-to 0 last ts rise in
      let text = text-step last last (self-le last) p q h _ _ (rebuilt-alike last ks r p.text q.text h.parts.text
      (staged-among puts_text_in ts p.text.items own.text)) (rebuilt-step last ks r p.text q.text h.parts.text (staged-among puts_text_in ts p.text.items own.text)) in
      let p1 = record p { text = rebuilt_list ks p.text } in
      let q1 = record q { text = rebuilt_list ks q.text } in
      let rows = rows-step last last (self-le last) p1 q1 text.alike _ _ (rebuilt-alike last ks r p.rows q.rows h.parts.rows
      (staged-among inserts_rows ts p.rows.items own.rows)) (self-le _) (self-le _)
      (rebuilt-step last ks r p.rows q.rows h.parts.rows (staged-among inserts_rows ts p.rows.items own.rows)) in
      let p2 = record p1 { rows = rebuilt_list ks p.rows } in
      let q2 = record q1 { rows = rebuilt_list ks q.rows } in
      let cols = cols-step last last (self-le last) p2 q2 rows.alike _ _ (rebuilt-alike last ks r p.cols q.cols h.parts.cols
      (staged-among inserts_cols ts p.cols.items own.cols)) (self-le _) (self-le _)
      (rebuilt-step last ks r p.cols q.cols h.parts.cols (staged-among inserts_cols ts p.cols.items own.cols)) in
      record { alike = cols.alike; names = record { text = λ a b s. text.names.text a b s; rows = λ a b s. rows.names.rows a b s; cols = λ a b s. cols.names.cols a b s } }

-- the lists have the elements of the stages that go on
pub resubmitted-own : (last conn n : ℕ) (es : List PendingEdit) (p q : Document) → DocsAlike last p q
    → RiseTo 0 last (flat_map (λ (e : PendingEdit). e.stages) es) → HasItsStages (flat_map (λ (e : PendingEdit). e.stages) es) p
    → HasItsStages (flat_map (λ (e : PendingEdit). e.stages) (resubmitted_edits p conn n es))
    (rebuilt_document (map (λ (t : Stage). t.stage) (flat_map (λ (e : PendingEdit). e.stages) es)) p)
resubmitted-own last conn n es p q h rise own =
    let ts = flat_map (λ (e : PendingEdit). e.stages) es in
    let ks = map (λ (t : Stage). t.stage) ts in
    let r = rises-to 0 last ts rise in
    record {
      text = λ k g. stages-rebuilt last ks r p.text h.parts.text.left (staged-among puts_text_in ts p.text.items own.text) k
          ∙ own.text k (sym (resubmitted-here puts_text_in text-pieces k p conn n es) ∙ g);
      rows = λ k g. stages-rebuilt last ks r p.rows h.parts.rows.left (staged-among inserts_rows ts p.rows.items own.rows) k
          ∙ own.rows k (sym (resubmitted-here inserts_rows rows-pieces k p conn n es) ∙ g);
      cols = λ k g. stages-rebuilt last ks r p.cols h.parts.cols.left (staged-among inserts_cols ts p.cols.items own.cols) k
          ∙ own.cols k (sym (resubmitted-here inserts_cols cols-pieces k p conn n es) ∙ g);
    }
