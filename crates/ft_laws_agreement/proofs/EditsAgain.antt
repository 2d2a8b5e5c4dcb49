-- The pending edits of a client as they are sent again: each is told by the pieces of its stages.
use Rattle.std.proofs.Common.{◌≡◌, inl, inr, ℕ, ◌+◌, ◌-◌, Bool, true, false, cond, ◌&&◌, nat_eq, List, [], ◌∷◌, ◌++◌, Option, Some, None, append-nil, map, refl, sym, ◌∙◌, ap, subst}
use Rattle.std.specs.List.{list_all, flat_map}
use Rattle.std.proofs.lemmas.Grind.{flat_map-append}
use Rattle.ft_op.specs.declared.operations.BaseOp.TheVariants.{Insert, Remove, Annotate}
use Rattle.ft_op.specs.declared.operations.CellOp.TheVariants.{SpliceIn, SpliceOut, Set}
use Rattle.ft_op.specs.declared.operations.ChannelOp.{ChannelOp}
use Rattle.ft_op.specs.declared.operations.ChannelOp.TheVariants.{Text, Grid}
use Rattle.ft_op.specs.declared.operations.GridOp.TheVariants as grid
use Rattle.ft_op.specs.declared.operations.TextOp.{TextOp}
use Rattle.ft_op.specs.declared.operations.TextOp.TheVariants.{One, Group, IntervalAdd, IntervalChange, IntervalDelete}
use Rattle.ft_base.proofs.Booleans.{both}
use Rattle.ft_base.proofs.Options.{some-same}
use Rattle.ft_props.specs.Steps.{is_annotated_by, is_removed_by, lowered_runs, marked_runs, stage_position}
use Rattle.ft_op.specs.Operation.{OnGrid, OnIntervals, OnText, SubOperation, segment_contents, sub_operations}
use Rattle.ft_op.specs.Intervals.{NamedElements, settle_elements}
use Rattle.ft_op.specs.Document.{Document, rows_or_cols}
use Rattle.ft_op.specs.Pieces.{base_op_of, cell_op_of, grid_pieces, interval_piece, is_named_and_seen, op_of, pieces, position_of_named, text_pieces, unless_empty}
use Rattle.ft_op.specs.Stages.{Stage}
use Rattle.ft_msg.specs.Client.{PendingEdit}
use Rattle.ft_msg.specs.Reconnection.{carried_stage, regenerated_edit, resubmitted_edit, resubmitted_edits}
use Rattle.ft_laws_agreement.proofs.SentStages.{SentStage, told_as}
use Rattle.ft_laws_agreement.proofs.AcknowledgedEdit.{AllRef}
use Rattle.ft_laws_agreement.proofs.ClientHolds.{AreOfOneKind, EditTold, EditsTold, flat, is_interval_operation, is_on_grid, is_on_intervals, is_on_text, is_one_interval}
use Rattle.ft_laws_agreement.proofs.DocumentAgain.{again, retold_stage, unless_gone}
use Rattle.ft_laws_agreement.proofs.StagesAgain.{stage_as}
use Rattle.ft_laws_agreement.proofs.ToldStages.{ToldStage}
use Rattle.ft_laws_agreement.proofs.CarriedEdits.{no-operation}

-- ---- the operation that pieces make has these sub-operations

text-members : (ps : List SubOperation) → list_all is_on_text ps ≡ true → map (λ op. OnText op) (flat_map base_op_of ps) ≡ ps
text-members [] h = refl
text-members (OnText op ∷ ps) h = ap (λ qs. OnText op ∷ qs) (text-members ps h)
text-members (OnIntervals op ∷ ps) h = (cc)
text-members (OnGrid op ∷ ps) h = (cc)

grid-members : (ps : List SubOperation) → list_all is_on_grid ps ≡ true → map (λ op. OnGrid op) (flat_map cell_op_of ps) ≡ ps
grid-members [] h = refl
grid-members (OnText op ∷ ps) h = (cc)
grid-members (OnIntervals op ∷ ps) h = (cc)
grid-members (OnGrid op ∷ ps) h = ap (λ qs. OnGrid op ∷ qs) (grid-members ps h)

text-made : (ps : List SubOperation) (op : ChannelOp) → list_all is_on_text ps ≡ true → op_of ps ≡ Some op → sub_operations op ≡ ps
text-made [] op h e = (cc)
text-made (OnText o ∷ []) op h e = ap sub_operations (sym (some-same (Text (One o)) op e))
text-made (OnText o ∷ p ∷ ps) op h e =
    ap sub_operations (sym (some-same (Text (Group (o ∷ flat_map base_op_of (p ∷ ps)))) op e)) ∙ ap (λ qs. OnText o ∷ qs) (text-members (p ∷ ps) h)
text-made (OnIntervals o ∷ ps) op h e = (cc)
text-made (OnGrid o ∷ ps) op h e = (cc)

grid-made : (ps : List SubOperation) (op : ChannelOp) → list_all is_on_grid ps ≡ true → op_of ps ≡ Some op → sub_operations op ≡ ps
grid-made [] op h e = (cc)
grid-made (OnGrid o ∷ []) op h e = ap sub_operations (sym (some-same (Grid (grid.One o)) op e))
grid-made (OnGrid o ∷ p ∷ ps) op h e =
    ap sub_operations (sym (some-same (Grid (grid.Group (o ∷ flat_map cell_op_of (p ∷ ps)))) op e)) ∙ ap (λ qs. OnGrid o ∷ qs) (grid-members (p ∷ ps) h)
grid-made (OnIntervals o ∷ ps) op h e = (cc)
grid-made (OnText o ∷ ps) op h e = (cc)

interval-alone : (op : TextOp) → is_interval_operation op ≡ true → sub_operations (Text op) ≡ OnIntervals op ∷ []
interval-alone (One op) h = (cc)
interval-alone (Group ops) h = (cc)
interval-alone (IntervalAdd label id ends props) h = refl
interval-alone (IntervalChange label id ends props) h = refl
interval-alone (IntervalDelete label id) h = refl

interval-made : (ps : List SubOperation) (op : ChannelOp) → is_one_interval ps ≡ true → op_of ps ≡ Some op → sub_operations op ≡ ps
interval-made [] op h e = (cc)
interval-made (OnText o ∷ []) op h e = (cc)
interval-made (OnIntervals o ∷ []) op h e = ap sub_operations (sym (some-same (Text o) op e)) ∙ interval-alone o h
interval-made (OnGrid o ∷ []) op h e = (cc)
interval-made (o ∷ p ∷ ps) op h e = (cc)

made-of : (ps : List SubOperation) (op : ChannelOp) → AreOfOneKind ps → op_of ps ≡ Some op → sub_operations op ≡ ps
made-of ps op (inl h) e = text-made ps op h e
made-of ps op (inr (inl h)) e = grid-made ps op h e
made-of ps op (inr (inr h)) e = interval-made ps op h e

-- ---- the pieces of stages of one kind are of one kind

all-append : (is : SubOperation → Bool) (ps qs : List SubOperation) → list_all is ps ≡ true → list_all is qs ≡ true → list_all is (ps ++ qs) ≡ true
all-append is [] qs h g = g
all-append is (p ∷ ps) qs h g =
    let q = both (is p) (list_all is ps) h in
    rw (q.0, all-append is ps qs q.1 g) refl

all-mapped : (is : SubOperation → Bool) (f : ℕ × ℕ → SubOperation) → ((r : ℕ × ℕ) → is (f r) ≡ true) → (rs : List (ℕ × ℕ)) → list_all is (map f rs) ≡ true
all-mapped is f k [] = refl
all-mapped is f k (r ∷ rs) = rw (k r, all-mapped is f k rs) refl

one-piece : {A : Type 0} (is : SubOperation → Bool) (items : List A) (o : SubOperation) → is o ≡ true → list_all is (unless_empty items o) ≡ true
one-piece is [] o h = refl
one-piece is (b ∷ bs) o h = rw h refl

chosen-piece : (is : SubOperation → Bool) (b : Bool) (ps qs : List SubOperation) → list_all is ps ≡ true → list_all is qs ≡ true → list_all is (cond b ps qs) ≡ true
chosen-piece is true ps qs h g = h
chosen-piece is false ps qs h g = g

module _ (doc : Document) where
  pieces-text : (k : ℕ) (o : SubOperation) (names : NamedElements) → is_on_text o ≡ true → list_all is_on_text (pieces doc (stage_as k o names)) ≡ true
  pieces-text k (OnText (Insert p seg props)) names h = one-piece is_on_text (segment_contents seg) (OnText (Insert (stage_position k doc.text.items) seg props)) refl
  pieces-text k (OnText (Remove p q)) names h = all-mapped is_on_text (λ r. OnText (Remove r.0 r.1)) (λ r. refl) (lowered_runs 0 (marked_runs k (is_removed_by k) doc.text.items))
  pieces-text k (OnText (Annotate p q changes)) names h = all-mapped is_on_text (λ r. OnText (Annotate r.0 r.1 changes)) (λ r. refl)
      (marked_runs k (is_annotated_by k) doc.text.items)
  pieces-text k (OnIntervals op) names h = (cc)
  pieces-text k (OnGrid op) names h = (cc)

  pieces-grid : (k : ℕ) (o : SubOperation) (names : NamedElements) → is_on_grid o ≡ true → list_all is_on_grid (pieces doc (stage_as k o names)) ≡ true
  pieces-grid k (OnGrid (SpliceIn target p count)) names h = chosen-piece is_on_grid (nat_eq count 0) []
      (OnGrid (SpliceIn target (stage_position k (rows_or_cols target doc).items) count) ∷ []) refl refl
  pieces-grid k (OnGrid (SpliceOut target p q)) names h = all-mapped is_on_grid (λ r. OnGrid (SpliceOut target r.0 r.1)) (λ r. refl)
      (lowered_runs 0 (marked_runs k (is_removed_by k) (rows_or_cols target doc).items))
  pieces-grid k (OnGrid (Set i j value)) names h =
      chosen-piece is_on_grid (is_named_and_seen k doc.rows.items names.first && is_named_and_seen k doc.cols.items names.second)
      (OnGrid (Set (position_of_named (k - 1) doc.rows.items names.first) (position_of_named (k - 1) doc.cols.items names.second) value) ∷ []) [] refl refl
  pieces-grid k (OnIntervals op) names h = (cc)
  pieces-grid k (OnText op) names h = (cc)

  all-pieces : (is : SubOperation → Bool) → ((k : ℕ) (o : SubOperation) (names : NamedElements) → is o ≡ true → list_all is (pieces doc (stage_as k o names)) ≡ true)
      → (gs : List ToldStage) → list_all is (map (λ g. g.stage.sub_operation) gs) ≡ true → list_all is (flat_map (pieces doc) (map (λ g. g.stage) gs)) ≡ true
  all-pieces is each [] h = refl
  all-pieces is each (g ∷ gs) h =
      let p = both (is g.stage.sub_operation) (list_all is (map (λ g. g.stage.sub_operation) gs)) h in
      all-append is (pieces doc g.stage) (flat_map (pieces doc) (map (λ g. g.stage) gs)) (each g.stage.stage g.stage.sub_operation g.stage.names p.0) (all-pieces is each gs p.1)

  piece-kind : (k : ℕ) (own : NamedElements) (op : TextOp) → is_interval_operation (interval_piece k doc.text.items own op) ≡ is_interval_operation op
  piece-kind k own (One op) = refl
  piece-kind k own (Group ops) = refl
  piece-kind k own (IntervalAdd label id ends props) = refl
  piece-kind k own (IntervalChange label id None props) = refl
  piece-kind k own (IntervalChange label id (Some ends) props) = refl
  piece-kind k own (IntervalDelete label id) = refl

  piece-alone : (k : ℕ) (o : SubOperation) (names : NamedElements) → is_on_intervals o ≡ true → is_one_interval (pieces doc (stage_as k o names) ++ []) ≡ true
  piece-alone k (OnText op) names h = (cc)
  piece-alone k (OnIntervals op) names h = piece-kind k (settle_elements doc.text.items k names) op ∙ h
  piece-alone k (OnGrid op) names h = (cc)

  interval-pieces : (gs : List ToldStage) → is_one_interval (map (λ g. g.stage.sub_operation) gs) ≡ true → is_one_interval (flat_map (pieces doc) (map (λ g. g.stage) gs)) ≡ true
  interval-pieces [] h = (cc)
  interval-pieces (g ∷ []) h = piece-alone g.stage.stage g.stage.sub_operation g.stage.names h
  interval-pieces (g ∷ f ∷ gs) h = (cc)

  kind-pieces : (gs : List ToldStage) → AreOfOneKind (map (λ g. g.stage.sub_operation) gs) → AreOfOneKind (flat_map (pieces doc) (map (λ g. g.stage) gs))
  kind-pieces gs (inl h) = inl (all-pieces is_on_text pieces-text gs h)
  kind-pieces gs (inr (inl h)) = inr (inl (all-pieces is_on_grid pieces-grid gs h))
  kind-pieces gs (inr (inr h)) = inr (inr (interval-pieces gs h))

  module _ (n : ℕ) where
    -- ---- the stages that go on

    carried-as : (k : ℕ) (o : SubOperation) (names : NamedElements) (before ref : ℕ) (sent : SentStage)
        → carried_stage doc (stage_as k o names) ≡ map (λ g. g.stage) (again doc n (record { stage = stage_as k o names; before = before; ref = ref; sent = sent }))
    carried-as k (OnText op) names before ref sent = by_pieces (text_pieces k doc.text.items op)
      where
        by_pieces : (ps : List SubOperation) → elim ps as (λ _. List Stage) [ [] ↦ [] | _ ∷ _ ↦ stage_as k (OnText op) names ∷ [] ]
            ≡ map (λ g. g.stage) (unless_gone ps (retold_stage doc n (record { stage = stage_as k (OnText op) names; before = before; ref = ref; sent = sent })))
        by_pieces [] = refl
        by_pieces (p ∷ ps) = refl
    carried-as k (OnIntervals op) names before ref sent = refl
    carried-as k (OnGrid op) names before ref sent = by_pieces (grid_pieces k doc names op)
      where
        by_pieces : (ps : List SubOperation) → elim ps as (λ _. List Stage) [ [] ↦ [] | _ ∷ _ ↦ stage_as k (OnGrid op) names ∷ [] ]
            ≡ map (λ g. g.stage) (unless_gone ps (retold_stage doc n (record { stage = stage_as k (OnGrid op) names; before = before; ref = ref; sent = sent })))
        by_pieces [] = refl
        by_pieces (p ∷ ps) = refl

    map-joined : {A B : Type 0} (f : A → B) (xs ys : List A) → map f xs ++ map f ys ≡ map f (xs ++ ys)
    map-joined f [] ys = refl
    map-joined f (x ∷ xs) ys = ap (λ zs. f x ∷ zs) (map-joined f xs ys)

    carried-all : (gs : List ToldStage) → flat_map (carried_stage doc) (map (λ g. g.stage) gs) ≡ map (λ g. g.stage) (flat_map (again doc n) gs)
    carried-all [] = refl
    carried-all (g ∷ gs) =
        ap (λ ts. ts ++ flat_map (carried_stage doc) (map (λ g. g.stage) gs)) (carried-as g.stage.stage g.stage.sub_operation g.stage.names g.before g.ref g.sent)
        ∙ ap (λ ts. map (λ g. g.stage) (again doc n g) ++ ts) (carried-all gs)
        ∙ map-joined (λ g. g.stage) (again doc n g) (flat_map (again doc n) gs)

    -- ---- what the message tells

    mapped-told : (f : ℕ × ℕ → SubOperation) (t : ToldStage) (rs : List (ℕ × ℕ)) → told_as t.sent ≡ map f rs → flat_map (λ g. told_as g.sent) (unless_gone (map f rs) t) ≡ map f rs
    mapped-told f t [] h = refl
    mapped-told f t (r ∷ rs) h = append-nil (told_as t.sent) ∙ h

    empty-told : {A : Type 0} (items : List A) (o : SubOperation) (t : ToldStage) → told_as t.sent ≡ o ∷ []
        → flat_map (λ g. told_as g.sent) (unless_gone (unless_empty items o) t) ≡ unless_empty items o
    empty-told [] o t h = refl
    empty-told (b ∷ bs) o t h = append-nil (told_as t.sent) ∙ h

    first-told : (b : Bool) (o : SubOperation) (t : ToldStage) → told_as t.sent ≡ o ∷ [] → flat_map (λ g. told_as g.sent) (unless_gone (cond b [] (o ∷ [])) t) ≡ cond b [] (o ∷ [])
    first-told true o t h = refl
    first-told false o t h = append-nil (told_as t.sent) ∙ h

    second-told : (b : Bool) (o : SubOperation) (t : ToldStage) → told_as t.sent ≡ o ∷ [] → flat_map (λ g. told_as g.sent) (unless_gone (cond b (o ∷ []) []) t) ≡ cond b (o ∷ []) []
    second-told false o t h = refl
    second-told true o t h = append-nil (told_as t.sent) ∙ h

    told-as : (k : ℕ) (o : SubOperation) (names : NamedElements) (before ref : ℕ) (sent : SentStage)
        → flat_map (λ g. told_as g.sent) (again doc n (record { stage = stage_as k o names; before = before; ref = ref; sent = sent })) ≡ pieces doc (stage_as k o names)
    told-as k (OnText (Insert p seg props)) names before ref sent =
        let t : ToldStage = record { stage = stage_as k (OnText (Insert p seg props)) names; before = before; ref = ref; sent = sent } in
        empty-told (segment_contents seg) (OnText (Insert (stage_position k doc.text.items) seg props)) (retold_stage doc n t) refl
    told-as k (OnText (Remove p q)) names before ref sent =
        let t : ToldStage = record { stage = stage_as k (OnText (Remove p q)) names; before = before; ref = ref; sent = sent } in
        mapped-told (λ r. OnText (Remove r.0 r.1)) (retold_stage doc n t) (lowered_runs 0 (marked_runs k (is_removed_by k) doc.text.items)) refl
    told-as k (OnText (Annotate p q changes)) names before ref sent =
        let t : ToldStage = record { stage = stage_as k (OnText (Annotate p q changes)) names; before = before; ref = ref; sent = sent } in
        mapped-told (λ r. OnText (Annotate r.0 r.1 changes)) (retold_stage doc n t) (marked_runs k (is_annotated_by k) doc.text.items) refl
    told-as k (OnIntervals op) names before ref sent = refl
    told-as k (OnGrid (SpliceIn target p count)) names before ref sent =
        let t : ToldStage = record { stage = stage_as k (OnGrid (SpliceIn target p count)) names; before = before; ref = ref; sent = sent } in
        first-told (nat_eq count 0) (OnGrid (SpliceIn target (stage_position k (rows_or_cols target doc).items) count)) (retold_stage doc n t) refl
    told-as k (OnGrid (SpliceOut target p q)) names before ref sent =
        let t : ToldStage = record { stage = stage_as k (OnGrid (SpliceOut target p q)) names; before = before; ref = ref; sent = sent } in
        mapped-told (λ r. OnGrid (SpliceOut target r.0 r.1)) (retold_stage doc n t) (lowered_runs 0 (marked_runs k (is_removed_by k) (rows_or_cols target doc).items)) refl
    told-as k (OnGrid (Set i j value)) names before ref sent =
        let t : ToldStage = record { stage = stage_as k (OnGrid (Set i j value)) names; before = before; ref = ref; sent = sent } in
        second-told (is_named_and_seen k doc.rows.items names.first && is_named_and_seen k doc.cols.items names.second)
        (OnGrid (Set (position_of_named (k - 1) doc.rows.items names.first) (position_of_named (k - 1) doc.cols.items names.second) value)) (retold_stage doc n t) refl

    told-all : (gs : List ToldStage) → flat_map (λ g. told_as g.sent) (flat_map (again doc n) gs) ≡ flat_map (pieces doc) (map (λ g. g.stage) gs)
    told-all [] = refl
    told-all (g ∷ gs) =
        flat_map-append (λ g. told_as g.sent) (again doc n g) (flat_map (again doc n) gs)
        ∙ ap (λ os. os ++ flat_map (λ g. told_as g.sent) (flat_map (again doc n) gs)) (told-as g.stage.stage g.stage.sub_operation g.stage.names g.before g.ref g.sent)
        ∙ ap (λ os. pieces doc g.stage ++ os) (told-all gs)

    -- ---- numbers and kinds

    refs-again : (gs : List ToldStage) → AllRef n (flat_map (again doc n) gs)
    refs-again [] = tt
    refs-again (g ∷ gs) = by_pieces (pieces doc g.stage) (refs-again gs)
      where
        by_pieces : (ps : List SubOperation) → AllRef n (flat_map (again doc n) gs) → AllRef n (unless_gone ps (retold_stage doc n g) ++ flat_map (again doc n) gs)
        by_pieces [] ih = ih
        by_pieces (p ∷ ps) ih = (refl, ih)

    all-again : (is : SubOperation → Bool) (gs : List ToldStage) → list_all is (map (λ g. g.stage.sub_operation) gs) ≡ true
        → list_all is (map (λ g. g.stage.sub_operation) (flat_map (again doc n) gs)) ≡ true
    all-again is [] h = refl
    all-again is (g ∷ gs) h =
        let p = both (is g.stage.sub_operation) (list_all is (map (λ g. g.stage.sub_operation) gs)) h in
        by_pieces (pieces doc g.stage) p.0 (all-again is gs p.1)
      where
        by_pieces : (ps : List SubOperation) → is g.stage.sub_operation ≡ true → list_all is (map (λ g. g.stage.sub_operation) (flat_map (again doc n) gs)) ≡ true
            → list_all is (map (λ g. g.stage.sub_operation) (unless_gone ps (retold_stage doc n g) ++ flat_map (again doc n) gs)) ≡ true
        by_pieces [] f ih = ih
        by_pieces (p ∷ ps) f ih = rw (f, ih) refl

    alone-again : (k : ℕ) (o : SubOperation) (names : NamedElements) (before ref : ℕ) (sent : SentStage) → is_on_intervals o ≡ true
        → is_one_interval (map (λ g. g.stage.sub_operation) (again doc n (record { stage = stage_as k o names; before = before; ref = ref; sent = sent }) ++ [])) ≡ true
    alone-again k (OnText op) names before ref sent h = (cc)
    alone-again k (OnIntervals op) names before ref sent h = h
    alone-again k (OnGrid op) names before ref sent h = (cc)

    interval-again : (gs : List ToldStage) → is_one_interval (map (λ g. g.stage.sub_operation) gs) ≡ true
        → is_one_interval (map (λ g. g.stage.sub_operation) (flat_map (again doc n) gs)) ≡ true
    interval-again [] h = (cc)
    interval-again (g ∷ []) h = alone-again g.stage.stage g.stage.sub_operation g.stage.names g.before g.ref g.sent h
    interval-again (g ∷ f ∷ gs) h = (cc)

    kind-again : (gs : List ToldStage) → AreOfOneKind (map (λ g. g.stage.sub_operation) gs) → AreOfOneKind (map (λ g. g.stage.sub_operation) (flat_map (again doc n) gs))
    kind-again gs (inl h) = inl (all-again is_on_text gs h)
    kind-again gs (inr (inl h)) = inr (inl (all-again is_on_grid gs h))
    kind-again gs (inr (inr h)) = inr (inr (interval-again gs h))

    -- ---- edits

    -- the stages of an edit, unless it has no piece
    abbrev unless_none : Option ChannelOp → List ToldStage → List (List ToldStage) → List (List ToldStage)
    unless_none None gs gss = gss
    unless_none (Some op) gs gss = gs ∷ gss

    -- the stages of the edits that are sent again
    abbrev pub edits_again : List (List ToldStage) → List PendingEdit → List (List ToldStage)
    edits_again [] edits = []
    edits_again (gs ∷ gss) [] = []
    edits_again (gs ∷ gss) (edit ∷ edits) = unless_none (regenerated_edit doc edit) (flat_map (again doc n) gs) (edits_again gss edits)

    first-empty : {A : Type 0} (xs ys : List A) → xs ++ ys ≡ [] → xs ≡ []
    first-empty [] ys h = refl
    first-empty (x ∷ xs) ys h = (cc)

    second-empty : {A : Type 0} (xs ys : List A) → xs ++ ys ≡ [] → ys ≡ []
    second-empty [] ys h = h
    second-empty (x ∷ xs) ys h = (cc)

    gone-again : (gs : List ToldStage) → flat_map (pieces doc) (map (λ g. g.stage) gs) ≡ [] → flat_map (again doc n) gs ≡ []
    gone-again [] h = refl
    gone-again (g ∷ gs) h =
        ap (λ ps. unless_gone ps (retold_stage doc n g) ++ flat_map (again doc n) gs) (first-empty (pieces doc g.stage) (flat_map (pieces doc) (map (λ g. g.stage) gs)) h)
        ∙ gone-again gs (second-empty (pieces doc g.stage) (flat_map (pieces doc) (map (λ g. g.stage) gs)) h)

    pub flat-again : (c : ℕ) (gss : List (List ToldStage)) (edits : List PendingEdit) → EditsTold c gss edits → flat (edits_again gss edits) ≡ flat_map (again doc n) (flat gss)
    flat-again c [] edits h = refl
    flat-again c (gs ∷ gss) [] h = absurd h
    flat-again c (gs ∷ gss) (edit ∷ edits) h =
        by_op (op_of (flat_map (pieces doc) edit.stages)) refl (flat-again c gss edits h.1) ∙ sym (flat_map-append (again doc n) gs (flat gss))
      where
        by_op : (o : Option ChannelOp) → op_of (flat_map (pieces doc) edit.stages) ≡ o → flat (edits_again gss edits) ≡ flat_map (again doc n) (flat gss)
            → flat (unless_none o (flat_map (again doc n) gs) (edits_again gss edits)) ≡ flat_map (again doc n) gs ++ flat_map (again doc n) (flat gss)
        by_op None e ih =
            ih ∙ ap (λ ts. ts ++ flat_map (again doc n) (flat gss)) (sym (gone-again gs
            (ap (flat_map (pieces doc)) (sym h.0.stages) ∙ no-operation (flat_map (pieces doc) edit.stages) e)))
        by_op (Some op) e ih = ap (λ ts. flat_map (again doc n) gs ++ ts) ih

    edit-again : (c conn i : ℕ) (gs : List ToldStage) (edit : PendingEdit) (op : ChannelOp) → doc.number ≡ n → EditTold c gs edit
        → op_of (flat_map (pieces doc) edit.stages) ≡ Some op
        → EditTold conn (flat_map (again doc n) gs) (resubmitted_edit doc conn i edit op)
    edit-again c conn i gs edit op number h e =
        let same : op_of (flat_map (pieces doc) (map (λ g. g.stage) gs)) ≡ Some op = ap (λ ts. op_of (flat_map (pieces doc) ts)) (sym h.stages) ∙ e in
        record {
          stages = ap (flat_map (carried_stage doc)) h.stages ∙ carried-all gs;
          refs = subst (λ r. AllRef r (flat_map (again doc n) gs)) (sym number) (refs-again gs);
          kind = kind-again gs h.kind;
          sent = (refl, made-of (flat_map (pieces doc) (map (λ g. g.stage) gs)) op (kind-pieces gs h.kind) same ∙ sym (told-all gs));
        }

    -- the edits that are sent again under the connection are told
    pub edits-told_again : (c conn i : ℕ) (gss : List (List ToldStage)) (edits : List PendingEdit) → doc.number ≡ n → EditsTold c gss edits
        → EditsTold conn (edits_again gss edits) (resubmitted_edits doc conn i edits)
    edits-told_again c conn i [] [] number h = tt
    edits-told_again c conn i [] (edit ∷ edits) number h = absurd h
    edits-told_again c conn i (gs ∷ gss) [] number h = absurd h
    edits-told_again c conn i (gs ∷ gss) (edit ∷ edits) number h =
        by_op (op_of (flat_map (pieces doc) edit.stages)) refl (edits-told_again c conn i gss edits number h.1) (edits-told_again c conn (i + 1) gss edits number h.1)
      where
        by_op : (o : Option ChannelOp) → op_of (flat_map (pieces doc) edit.stages) ≡ o → EditsTold conn (edits_again gss edits) (resubmitted_edits doc conn i edits)
            → EditsTold conn (edits_again gss edits) (resubmitted_edits doc conn (i + 1) edits)
            → EditsTold conn (unless_none o (flat_map (again doc n) gs) (edits_again gss edits))
            (elim o as (λ _. List PendingEdit) [
              | None ↦ resubmitted_edits doc conn i edits
              | Some op ↦ resubmitted_edit doc conn i edit op ∷ resubmitted_edits
                  doc conn (i + 1) edits
            ])
        by_op None e ih jh = ih
        by_op (Some op) e ih jh = (edit-again c conn i gs edit op number h.0 e, jh)
