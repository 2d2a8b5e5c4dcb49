-- The pending edits of a client, sent again and sequenced one after another.
use Rattle.std.proofs.Common.{◌≡◌, ℕ, ◌+◌, Bool, true, false, cond, ◌&&◌, ◌||◌, List, [], ◌∷◌, ◌++◌, Option, Some, None, refl, sym, ◌∙◌, ap, subst, flat_map, map, append_assoc, append-nil, pos}
use Rattle.std.specs.Prelude.{filter_map}
use Rattle.std.specs.List.{cons_option, list_all}
use Rattle.ft_base.proofs.Booleans.{both}
use Rattle.ft_op.specs.declared.operations.BaseOp.{BaseOp}
use Rattle.ft_op.specs.declared.operations.BaseOp.TheVariants.{Annotate, Insert, Remove}
use Rattle.ft_op.specs.declared.operations.CellOp.{CellOp}
use Rattle.ft_op.specs.declared.operations.CellOp.TheVariants.{Set, SpliceIn, SpliceOut}
use Rattle.ft_op.specs.declared.operations.ChannelOp.{ChannelOp}
use Rattle.ft_op.specs.declared.operations.TextOp.{TextOp}
use Rattle.ft_op.specs.declared.operations.TextOp.TheVariants.{Group, IntervalAdd, IntervalChange, IntervalDelete, One}
use Rattle.ft_props.specs.Element.{ElementContent, ListElement}
use Rattle.ft_props.specs.Steps.{is_annotated_by, is_removed_by, lowered_runs, marked_runs}
use Rattle.ft_op.specs.Operation.{OnGrid, OnIntervals, OnText, SubOperation, segment_contents, sub_operations}
use Rattle.ft_op.specs.Document.{Document, effects, rows_or_cols}
use Rattle.ft_op.specs.Intervals.{Interval, NamedElements, settle_elements, settle_ends}
use Rattle.ft_op.specs.Pieces.{base_op_of, cell_op_of, grid_pieces, interval_piece, is_named_and_seen, op_of, pieces, text_pieces, unless_empty}
use Rattle.ft_op.specs.Stages.{Stage, intervals_after_stage, shown_intervals}
use Rattle.ft_msg.specs.declared.messages.Entry.{Entry}
use Rattle.ft_msg.specs.declared.messages.MsgKind.TheVariants as kind
use Rattle.ft_msg.specs.declared.messages.Body.TheVariants as body
use Rattle.ft_msg.specs.Agreed.{take_entries, with_numbers}
use Rattle.ft_msg.specs.Applied.{numbered}
use Rattle.ft_msg.specs.Client.{NaiveClient, PendingEdit}
use Rattle.ft_msg.specs.Reconnection.{regenerated_edit}
use Rattle.ft_laws_agreement.specs.Reconnecting.{writes_known_units}
use Rattle.ft_laws_agreement.specs.Sequencing.{Each, IsReady, IsTyped, is_grid_stage, is_interval_edit, is_interval_operation, is_one_operation, is_text_stage}
use Rattle.ft_laws_agreement.proofs.CarriedEdits.{no-operation}
use Rattle.ft_laws_agreement.proofs.FollowingOrder.{Ahead, Follows, ahead-next, stage-follows}
use Rattle.ft_laws_agreement.proofs.AcknowledgedEdit.{effects-append}
use Rattle.ft_laws_agreement.proofs.AnyAndAll.{all-append}

-- ---- an operation made of pieces has these as its sub-operations

abbrev is_text_piece : SubOperation → Bool
is_text_piece (OnText op) = true
is_text_piece _ = false

abbrev is_grid_piece : SubOperation → Bool
is_grid_piece (OnGrid op) = true
is_grid_piece _ = false

text-group : (ps : List SubOperation) → list_all is_text_piece ps ≡ true → map (λ op. OnText op) (flat_map base_op_of ps) ≡ ps
text-group [] h = refl
text-group (OnText op ∷ ps) h = ap (λ us. OnText op ∷ us) (text-group ps h)
text-group (OnIntervals op ∷ ps) h = absurd cc
text-group (OnGrid op ∷ ps) h = absurd cc

grid-group : (ps : List SubOperation) → list_all is_grid_piece ps ≡ true → map (λ op. OnGrid op) (flat_map cell_op_of ps) ≡ ps
grid-group [] h = refl
grid-group (OnGrid op ∷ ps) h = ap (λ us. OnGrid op ∷ us) (grid-group ps h)
grid-group (OnIntervals op ∷ ps) h = absurd cc
grid-group (OnText op ∷ ps) h = absurd cc

-- the sub-operations of what pieces make, if they make an operation
abbrev sub_operations_of : Option ChannelOp → List SubOperation
sub_operations_of None = []
sub_operations_of (Some op) = sub_operations op

text-back : (ps : List SubOperation) → list_all is_text_piece ps ≡ true → sub_operations_of (op_of ps) ≡ ps
text-back [] h = refl
text-back (OnText op ∷ []) h = refl
text-back (OnText op ∷ p ∷ ps) h = ap (λ us. OnText op ∷ us) (text-group (p ∷ ps) h)
text-back (OnIntervals op ∷ ps) h = absurd cc
text-back (OnGrid op ∷ ps) h = absurd cc

grid-back : (ps : List SubOperation) → list_all is_grid_piece ps ≡ true → sub_operations_of (op_of ps) ≡ ps
grid-back [] h = refl
grid-back (OnGrid op ∷ []) h = refl
grid-back (OnGrid op ∷ p ∷ ps) h = ap (λ us. OnGrid op ∷ us) (grid-group (p ∷ ps) h)
grid-back (OnIntervals op ∷ ps) h = absurd cc
grid-back (OnText op ∷ ps) h = absurd cc

interval-back : (k : ℕ) (xs : List ListElement) (names : NamedElements) (op : TextOp) → is_interval_operation op ≡ true
    → sub_operations_of (op_of (OnIntervals (interval_piece k xs names op) ∷ [])) ≡ OnIntervals (interval_piece k xs names op) ∷ []
interval-back k xs names (One op) h = absurd cc
interval-back k xs names (Group ops) h = absurd cc
interval-back k xs names (IntervalAdd label id ends props) h = refl
interval-back k xs names (IntervalChange label id None props) h = refl
interval-back k xs names (IntervalChange label id (Some ends) props) h = refl
interval-back k xs names (IntervalDelete label id) h = refl

mapped-text : {A : Type 0} (f : A → BaseOp) (xs : List A) → list_all is_text_piece (map (λ x. OnText (f x)) xs) ≡ true
mapped-text f [] = refl
mapped-text f (x ∷ xs) = mapped-text f xs

mapped-grid : {A : Type 0} (f : A → CellOp) (xs : List A) → list_all is_grid_piece (map (λ x. OnGrid (f x)) xs) ≡ true
mapped-grid f [] = refl
mapped-grid f (x ∷ xs) = mapped-grid f xs

piece-of : (b : Bool) (o : SubOperation) → is_grid_piece o ≡ true → list_all is_grid_piece (cond b (o ∷ []) []) ≡ true
piece-of true o h = rw h refl
piece-of false o h = refl

no-piece-of : (b : Bool) (o : SubOperation) → is_grid_piece o ≡ true → list_all is_grid_piece (cond b [] (o ∷ [])) ≡ true
no-piece-of true o h = refl
no-piece-of false o h = rw h refl

module _ (doc : Document) where
  text-kind : (k : ℕ) (op : BaseOp) → list_all is_text_piece (text_pieces k doc.text.items op) ≡ true
  text-kind k (Insert p seg props) = by_contents (segment_contents seg) _
    where
      by_contents : (bs : List ElementContent) (o : BaseOp) → list_all is_text_piece (unless_empty bs (OnText o)) ≡ true
      by_contents [] o = refl
      by_contents (b ∷ bs) o = refl
  text-kind k (Remove p q) = mapped-text (λ (r : ℕ × ℕ). Remove r.0 r.1) (lowered_runs 0 (marked_runs k (is_removed_by k) doc.text.items))
  text-kind k (Annotate p q changes) = mapped-text (λ (r : ℕ × ℕ). Annotate r.0 r.1 changes) (marked_runs k (is_annotated_by k) doc.text.items)

  grid-kind : (k : ℕ) (names : NamedElements) (op : CellOp) → list_all is_grid_piece (grid_pieces k doc names op) ≡ true
  grid-kind k names (SpliceIn target p count) = no-piece-of _ _ refl
  grid-kind k names (SpliceOut target p q) = mapped-grid (λ (r : ℕ × ℕ). SpliceOut target r.0 r.1)
      (lowered_runs 0 (marked_runs k (is_removed_by k) (rows_or_cols target doc).items))
  grid-kind k names (Set i j value) = piece-of (is_named_and_seen k doc.rows.items names.first && is_named_and_seen k doc.cols.items names.second) _ refl

  text-stage : (k : ℕ) (o : SubOperation) (names : NamedElements) → is_text_stage (record { stage = k; sub_operation = o; names = names }) ≡ true
      → list_all is_text_piece (pieces doc (record { stage = k; sub_operation = o; names = names })) ≡ true
  text-stage k (OnText op) names h = text-kind k op
  text-stage k (OnIntervals op) names h = absurd cc
  text-stage k (OnGrid op) names h = absurd cc

  grid-stage : (k : ℕ) (o : SubOperation) (names : NamedElements) → is_grid_stage (record { stage = k; sub_operation = o; names = names }) ≡ true
      → list_all is_grid_piece (pieces doc (record { stage = k; sub_operation = o; names = names })) ≡ true
  grid-stage k (OnGrid op) names h = grid-kind k names op
  grid-stage k (OnIntervals op) names h = absurd cc
  grid-stage k (OnText op) names h = absurd cc

  text-stages : (ts : List Stage) → list_all is_text_stage ts ≡ true → list_all is_text_piece (flat_map (pieces doc) ts) ≡ true
  text-stages [] h = refl
  text-stages (t ∷ ts) h =
      let p = both (is_text_stage t) (list_all is_text_stage ts) h in
      all-append is_text_piece (pieces doc t) (flat_map (pieces doc) ts) (text-stage t.stage t.sub_operation t.names p.0) (text-stages ts p.1)

  grid-stages : (ts : List Stage) → list_all is_grid_stage ts ≡ true → list_all is_grid_piece (flat_map (pieces doc) ts) ≡ true
  grid-stages [] h = refl
  grid-stages (t ∷ ts) h =
      let p = both (is_grid_stage t) (list_all is_grid_stage ts) h in
      all-append is_grid_piece (pieces doc t) (flat_map (pieces doc) ts) (grid-stage t.stage t.sub_operation t.names p.0) (grid-stages ts p.1)

  interval-stage : (k : ℕ) (o : SubOperation) (names : NamedElements) → is_interval_edit (record { stage = k; sub_operation = o; names = names } ∷ []) ≡ true
      → sub_operations_of (op_of (flat_map (pieces doc) (record { stage = k; sub_operation = o; names = names } ∷ [])))
      ≡ flat_map (pieces doc) (record { stage = k; sub_operation = o; names = names } ∷ [])
  interval-stage k (OnIntervals op) names h = interval-back k doc.text.items _ op h
  interval-stage k (OnText op) names h = absurd cc
  interval-stage k (OnGrid op) names h = absurd cc

  interval-stages : (ts : List Stage) → is_interval_edit ts ≡ true → sub_operations_of (op_of (flat_map (pieces doc) ts)) ≡ flat_map (pieces doc) ts
  interval-stages [] h = absurd cc
  interval-stages (t ∷ []) h = interval-stage t.stage t.sub_operation t.names h
  interval-stages (t ∷ u ∷ ts) h = absurd cc

  -- an edit sent again has its pieces as sub-operations
  edit-back : (edit : PendingEdit) → is_one_operation edit ≡ true → sub_operations_of (op_of (flat_map (pieces doc) edit.stages)) ≡ flat_map (pieces doc) edit.stages
  edit-back edit h = by_kind (list_all is_text_stage edit.stages) (list_all is_grid_stage edit.stages) (is_interval_edit edit.stages) refl refl refl h
    where
      by_kind : (b c e : Bool) → list_all is_text_stage edit.stages ≡ b → list_all is_grid_stage edit.stages ≡ c → is_interval_edit edit.stages ≡ e → b || c
          || e ≡ true → sub_operations_of (op_of (flat_map (pieces doc) edit.stages)) ≡ flat_map (pieces doc) edit.stages
      by_kind true c e p q r h = text-back (flat_map (pieces doc) edit.stages) (text-stages edit.stages p)
      by_kind false true e p q r h = grid-back (flat_map (pieces doc) edit.stages) (grid-stages edit.stages q)
      by_kind false false true p q r h = interval-stages edit.stages r
      by_kind false false false p q r h = absurd cc

each-front : {A : Type 0} (R : A → Type 0) (xs ys : List A) → Each R (xs ++ ys) → Each R xs
each-front R [] ys h = tt
each-front R (x ∷ xs) ys h = (h.0, each-front R xs ys h.1)

each-back : {A : Type 0} (R : A → Type 0) (xs ys : List A) → Each R (xs ++ ys) → Each R ys
each-back R [] ys h = h
each-back R (x ∷ xs) ys h = each-back R xs ys h.1

all-front : {A : Type 0} (test : A → Bool) (xs ys : List A) → list_all test (xs ++ ys) ≡ true → list_all test xs ≡ true
all-front test [] ys h = refl
all-front test (x ∷ xs) ys h = let p = both (test x) (list_all test (xs ++ ys)) h in rw (p.0, all-front test xs ys p.1) refl

all-back : {A : Type 0} (test : A → Bool) (xs ys : List A) → list_all test (xs ++ ys) ≡ true → list_all test ys ≡ true
all-back test [] ys h = h
all-back test (x ∷ xs) ys h = all-back test xs ys (both (test x) (list_all test (xs ++ ys)) h).1

module _ (x : NaiveClient) (conn : ℕ) (ready : IsReady x) where
  -- a document after stages, with what is still ahead
  pub record Reached (rest : List Stage) (is : List Interval) (done : List Stage) (d : Document) : Type 0 where
    pub level : ℕ
    pub ahead : Ahead x conn ready rest level
    pub follows : Follows x conn ready level is done d

  -- the stages of one edit
  stages-reached : (ts rest : List Stage) (s : ℕ) (is : List Interval) (done : List Stage) (d : Document)
      → Each (λ t. IsTyped t.stage x.doc t.names t.sub_operation) ts → list_all (writes_known_units x.doc.rows.items x.doc.cols.items) ts ≡ true
      → Reached (ts ++ rest) is done d → Reached rest (shown_intervals x.doc.text.items is ts) (done ++ ts) (effects d s conn x.doc.number (flat_map (pieces x.doc) ts))
  stages-reached [] rest s is done d typed w r = subst (λ ts. Reached rest is ts d) (sym (append-nil done)) r
  stages-reached (t ∷ ts) rest s is done d typed w r =
      let p = both (writes_known_units x.doc.rows.items x.doc.cols.items t) (list_all (writes_known_units x.doc.rows.items x.doc.cols.items) ts) w in
      let next = stage-follows x conn ready t (ts ++ rest) r.level r.ahead is done d r.follows s typed.0 p.0 in
      let now : Reached (ts ++ rest) _ (done ++ (t ∷ [])) (effects d s conn x.doc.number (pieces x.doc t)) = record
      { level = t.stage; ahead = ahead-next x conn ready t (ts ++ rest) r.level r.ahead; follows = next } in
      let all = stages-reached ts rest s _ (done ++ (t ∷ [])) (effects d s conn x.doc.number (pieces x.doc t)) typed.1 p.1 now in
      subst (λ us. Reached rest (shown_intervals x.doc.text.items is (t ∷ ts)) us (effects d s conn x.doc.number (flat_map (pieces x.doc) (t ∷ ts))))
      (append_assoc done (t ∷ []) ts)
      (subst (λ z. Reached rest (shown_intervals x.doc.text.items is (t ∷ ts)) ((done ++ (t ∷ [])) ++ ts) z)
      (sym (effects-append d s conn x.doc.number (pieces x.doc t) (flat_map (pieces x.doc) ts))) all)

  numbers-reached : (rest : List Stage) (is : List Interval) (done : List Stage) (d : Document) (entry : Entry) → Reached rest is done d
      → Reached rest is done (with_numbers entry d)
  numbers-reached rest is done d entry r =
      let f = r.follows in
      record {
        level = r.level;
        ahead = r.ahead;
        follows = record {
          text = f.text;
          rows = f.rows;
          cols = f.cols;
          sound = record { text = f.sound.text; rows = f.sound.rows; cols = f.sound.cols; ends = f.sound.ends; cells = f.sound.cells };
          text_made = f.text_made;
          rows_made = f.rows_made;
          cols_made = f.cols_made;
          ends = f.ends;
          intervals = f.intervals;
          log = f.log;
          logged = f.logged;
          cells = f.cells;
          entries = f.entries;
        };
      }

  shown-append : (xs : List ListElement) (is : List Interval) (ts us : List Stage) → shown_intervals xs is (ts ++ us) ≡ shown_intervals xs (shown_intervals xs is ts) us
  shown-append xs is [] us = refl
  shown-append xs is (t ∷ ts) us = shown-append xs (intervals_after_stage t.sub_operation (settle_elements xs t.stage t.names) (settle_ends xs t.stage is)) ts us

  -- all edits
  pub edits-reached : (edits : List PendingEdit) (s min : ℕ) (is : List Interval) (done : List Stage) (d : Document)
      → Each (λ t. IsTyped t.stage x.doc t.names t.sub_operation) (flat_map (λ e. e.stages) edits)
      → list_all (writes_known_units x.doc.rows.items x.doc.cols.items) (flat_map (λ e. e.stages) edits) ≡ true → list_all is_one_operation edits ≡ true
      → Reached (flat_map (λ e. e.stages) edits) is done d
      → Reached [] (shown_intervals x.doc.text.items is (flat_map (λ e. e.stages) edits)) (done ++ flat_map (λ e. e.stages) edits)
      (take_entries d (numbered s x.doc.number min conn (filter_map (regenerated_edit x.doc) edits)))
  edits-reached [] s min is done d typed w o r = subst (λ ts. Reached [] is ts d) (sym (append-nil done)) r
  edits-reached (edit ∷ edits) s min is done d typed w o r =
      let rest = flat_map (λ (e : PendingEdit). e.stages) edits in
      let p = both (is_one_operation edit) (list_all is_one_operation edits) o in
      let back = edit-back x.doc edit p.0 in
      let here = stages-reached edit.stages rest s is done d (each-front _ edit.stages rest typed) (all-front _ edit.stages rest w) r in
      let stages = append_assoc done edit.stages rest in
      step (op_of (flat_map (pieces x.doc) edit.stages)) refl back here
      (λ s' d' now. subst (λ us. Reached [] (shown_intervals x.doc.text.items is (edit.stages ++ rest)) us
      (take_entries d' (numbered s' x.doc.number min conn (filter_map (regenerated_edit x.doc) edits)))) stages
      (subst (λ js. Reached [] js ((done ++ edit.stages) ++ rest) (take_entries d'
      (numbered s' x.doc.number min conn (filter_map (regenerated_edit x.doc) edits)))) (sym (shown-append x.doc.text.items is edit.stages rest))
      (edits-reached edits s' min (shown_intervals x.doc.text.items is edit.stages) (done ++ edit.stages) d' (each-back _ edit.stages rest typed)
      (all-back _ edit.stages rest w) p.1 now)))
    where
      step : (q : Option ChannelOp) → op_of (flat_map (pieces x.doc) edit.stages) ≡ q → sub_operations_of (op_of (flat_map (pieces x.doc) edit.stages))
          ≡ flat_map (pieces x.doc) edit.stages
          → Reached (flat_map (λ (e : PendingEdit). e.stages) edits) (shown_intervals x.doc.text.items is edit.stages) (done ++ edit.stages)
          (effects d s conn x.doc.number (flat_map (pieces x.doc) edit.stages))
          → ((s' : ℕ) (d' : Document) → Reached (flat_map (λ (e : PendingEdit). e.stages) edits) (shown_intervals x.doc.text.items is edit.stages) (done ++ edit.stages) d'
          → Reached [] (shown_intervals x.doc.text.items is (edit.stages ++ flat_map (λ (e : PendingEdit). e.stages) edits))
          (done ++ (edit.stages ++ flat_map (λ (e : PendingEdit). e.stages) edits))
          (take_entries d' (numbered s' x.doc.number min conn (filter_map (regenerated_edit x.doc) edits))))
          → Reached [] (shown_intervals x.doc.text.items is (edit.stages ++ flat_map (λ (e : PendingEdit). e.stages) edits))
          (done ++ (edit.stages ++ flat_map (λ (e : PendingEdit). e.stages) edits))
          (take_entries d (numbered s x.doc.number min conn (cons_option q (filter_map (regenerated_edit x.doc) edits))))
      step None q back here later = later s d (subst (λ ps. Reached (flat_map (λ (e : PendingEdit). e.stages) edits)
          (shown_intervals x.doc.text.items is edit.stages) (done ++ edit.stages) (effects d s conn x.doc.number ps)) (no-operation (flat_map (pieces x.doc) edit.stages) q) here)
      step (Some op) q back here later =
          let same : flat_map (pieces x.doc) edit.stages ≡ sub_operations op = sym back ∙ ap sub_operations_of q in
          let entry : Entry = record {
            msg = record {
              client_id = None;
              seq = s;
              min = min;
              client_seq = pos 0;
              ref_seq = pos x.doc.number;
              kind = kind.Op;
              body = body.Op op;
            };
            origin = conn;
          } in
          later (s + 1) (with_numbers entry (effects d s conn x.doc.number (sub_operations op)))
          (numbers-reached (flat_map (λ (e : PendingEdit). e.stages) edits) (shown_intervals x.doc.text.items is edit.stages) (done ++ edit.stages)
          (effects d s conn x.doc.number (sub_operations op)) entry (subst (λ ps. Reached (flat_map (λ (e : PendingEdit). e.stages) edits)
          (shown_intervals x.doc.text.items is edit.stages) (done ++ edit.stages) (effects d s conn x.doc.number ps)) same here))
