-- Operations that are joined are that of their pieces together.
use Rattle.std.proofs.Common.{◌≡◌, ℕ, suc, ◌+◌, Bool, true, false, cond, not, ◌||◌, ◌≤◌, nat_eq, List, [], ◌∷◌, ◌++◌, Option, Some, None, append-nil, length, refl, sym, ◌∙◌, ap, subst, map, arith}
use Rattle.std.specs.List.{flat_map, list_all}
use Rattle.std.specs.Option.{is_some}
use Rattle.std.proofs.lemmas.Grind.{flat_map-append}
use Rattle.ft_base.proofs.Booleans.{both}
use Rattle.ft_op.specs.declared.operations.BaseOp.{BaseOp}
use Rattle.ft_op.specs.declared.operations.BaseOp.TheVariants.{Insert, Remove, Annotate}
use Rattle.ft_op.specs.declared.operations.CellOp.{CellOp}
use Rattle.ft_op.specs.declared.operations.CellOp.TheVariants.{SpliceIn, SpliceOut, Set}
use Rattle.ft_op.specs.declared.operations.ChannelOp.{ChannelOp}
use Rattle.ft_op.specs.declared.operations.ChannelOp.TheVariants.{Grid, Text}
use Rattle.ft_op.specs.declared.operations.GridOp.TheVariants as grid
use Rattle.ft_op.specs.declared.operations.TextOp.TheVariants as text
use Rattle.ft_op.specs.Document.{Document, rows_or_cols}
use Rattle.ft_op.specs.Intervals.{NamedElements}
use Rattle.ft_op.specs.Operation.{OnGrid, OnIntervals, OnText, SubOperation, segment_contents}
use Rattle.ft_op.specs.Pieces.{base_op_of, cell_op_of, grid_pieces, op_of, pieces, text_pieces, unless_empty}
use Rattle.ft_op.specs.Stages.{Stage}
use Rattle.ft_props.specs.Element.{ElementContent, ListElement}
use Rattle.ft_props.specs.Steps.{is_annotated_by, is_removed_by, lowered_runs, marked_runs}
use Rattle.ft_msg.specs.Reconnection.{carried_stage}
use Rattle.ft_replica.specs.declared.document.Resent.{Resent}
use Rattle.ft_replica.specs.Own.{resent}
use Rattle.ft_msg.specs.Overlap.{is_on_intervals}
use Rattle.ft_string.specs.Holds.{is_on_elements}
use Rattle.ft_laws_agreement.proofs.CarriedEdits.{no-operation}
use Rattle.ft_client.specs.Parts.{are_of_one_edit, is_alone, is_elements_part, is_grid_part, own_stage, part_of}
use Rattle.ft_client.specs.Rejoins.{AddsPieces, Joins, JoinsSome, are_of_one_part, base_ops, carried, cell_ops}
use Rattle.ft_client.specs.declared.stages.OwnStage.{OwnStage}
use Rattle.ft_client.proofs.GivesStep.{carried-more, goes-on, has_piece, some-op}

-- ---- pieces of other stages than those on intervals

-- a piece that isn't on an interval
abbrev pub is_apart : SubOperation → Bool
is_apart o = not (is_on_intervals o)

all-are : {A : Type 0} (test : SubOperation → Bool) (f : A → SubOperation) → ((x : A) → test (f x) ≡ true) → (xs : List A) → list_all test (map f xs) ≡ true
all-are test f h [] = refl
all-are test f h (x ∷ xs) = rw (h x, all-are test f h xs) refl

text-apart : (k : ℕ) (xs : List ListElement) (op : BaseOp) → list_all is_apart (text_pieces k xs op) ≡ true
text-apart k xs (Insert p seg props) = step (segment_contents seg) _
  where
    step : (cs : List ElementContent) (o : BaseOp) → list_all is_apart (unless_empty cs (OnText o)) ≡ true
    step [] o = refl
    step (c ∷ cs) o = refl
text-apart k xs (Remove p q) = all-are {A = ℕ × ℕ} is_apart (λ r. OnText (Remove r.0 r.1)) (λ r. refl) (lowered_runs 0 (marked_runs k (is_removed_by k) xs))
text-apart k xs (Annotate p q changes) = all-are {A = ℕ × ℕ} is_apart (λ r. OnText (Annotate r.0 r.1 changes)) (λ r. refl) (marked_runs k (is_annotated_by k) xs)

grid-apart : (k : ℕ) (doc : Document) (names : NamedElements) (op : CellOp) → list_all is_apart (grid_pieces k doc names op) ≡ true
grid-apart k doc names (SpliceIn target p count) = step (nat_eq count 0) _
  where
    step : (b : Bool) (o : CellOp) → list_all is_apart (cond b [] (OnGrid o ∷ [])) ≡ true
    step true o = refl
    step false o = refl
grid-apart k doc names (SpliceOut target p q) = all-are {A = ℕ × ℕ} is_apart (λ r. OnGrid (SpliceOut target r.0 r.1)) (λ r. refl)
    (lowered_runs 0 (marked_runs k (is_removed_by k) (rows_or_cols target doc).items))
grid-apart k doc names (Set i j value) = step _ _
  where
    step : (b : Bool) (o : CellOp) → list_all is_apart (cond b (OnGrid o ∷ []) []) ≡ true
    step true o = refl
    step false o = refl

pub pieces-apart : (doc : Document) (t : Stage) → is_on_intervals t.sub_operation ≡ false → list_all is_apart (pieces doc t) ≡ true
pieces-apart doc t h = step t.stage t.sub_operation t.names h
  where
    step : (k : ℕ) (o : SubOperation) (names : NamedElements) → is_on_intervals o ≡ false
        → list_all is_apart (pieces doc (record { stage = k; sub_operation = o; names = names })) ≡ true
    step k (OnText op) names e = text-apart k doc.text.items op
    step k (OnIntervals op) names e = (cc)
    step k (OnGrid op) names e = grid-apart k doc names op

-- ---- joined

abbrev IsText : ChannelOp → Type 0
IsText (Text op) = Unit {0}
IsText (Grid op) = ⊥

abbrev IsGrid : ChannelOp → Type 0
IsGrid (Grid op) = Unit {0}
IsGrid (Text op) = ⊥

-- the members of the operation
abbrev HasBases : ChannelOp → List BaseOp → Type 0
HasBases (Text op) ops = base_ops op ≡ ops
HasBases (Grid op) ops = ⊥

abbrev HasCells : ChannelOp → List CellOp → Type 0
HasCells (Grid op) ops = cell_ops op ≡ ops
HasCells (Text op) ops = ⊥

bases : (u : BaseOp) (ps : List SubOperation) (f : ChannelOp) → op_of (OnText u ∷ ps) ≡ Some f → HasBases f (u ∷ flat_map base_op_of ps)
bases u [] f e =
    let same : Text (text.One u) ≡ f = (cc) in
    subst (λ g. HasBases g (u ∷ [])) same refl
bases u (p ∷ ps) f e =
    let same : Text (text.Group (u ∷ flat_map base_op_of (p ∷ ps))) ≡ f = (cc) in
    subst (λ g. HasBases g (u ∷ flat_map base_op_of (p ∷ ps))) same refl

cells : (u : CellOp) (ps : List SubOperation) (f : ChannelOp) → op_of (OnGrid u ∷ ps) ≡ Some f → HasCells f (u ∷ flat_map cell_op_of ps)
cells u [] f e =
    let same : Grid (grid.One u) ≡ f = (cc) in
    subst (λ g. HasCells g (u ∷ [])) same refl
cells u (p ∷ ps) f e =
    let same : Grid (grid.Group (u ∷ flat_map cell_op_of (p ∷ ps))) ≡ f = (cc) in
    subst (λ g. HasCells g (u ∷ flat_map cell_op_of (p ∷ ps))) same refl

text-of : (u : BaseOp) (ps : List SubOperation) (f : ChannelOp) → op_of (OnText u ∷ ps) ≡ Some f → IsText f
text-of u ps f e = step f (bases u ps f e)
  where
    step : (f : ChannelOp) → HasBases f (u ∷ flat_map base_op_of ps) → IsText f
    step (Text op) h = tt
    step (Grid op) h = h

grid-of : (u : CellOp) (ps : List SubOperation) (f : ChannelOp) → op_of (OnGrid u ∷ ps) ≡ Some f → IsGrid f
grid-of u ps f e = step f (cells u ps f e)
  where
    step : (f : ChannelOp) → HasCells f (u ∷ flat_map cell_op_of ps) → IsGrid f
    step (Grid op) h = tt
    step (Text op) h = h

text-longer : (u : BaseOp) (ps : List SubOperation) (v : BaseOp) (qs : List SubOperation)
    → op_of (OnText u ∷ (ps ++ (OnText v ∷ qs))) ≡ Some (Text (text.Group (u ∷ flat_map base_op_of (ps ++ (OnText v ∷ qs)))))
text-longer u [] v qs = refl
text-longer u (p ∷ ps) v qs = refl

grid-longer : (u : CellOp) (ps : List SubOperation) (v : CellOp) (qs : List SubOperation)
    → op_of (OnGrid u ∷ (ps ++ (OnGrid v ∷ qs))) ≡ Some (Grid (grid.Group (u ∷ flat_map cell_op_of (ps ++ (OnGrid v ∷ qs)))))
grid-longer u [] v qs = refl
grid-longer u (p ∷ ps) v qs = refl

join-ops : (ps qs : List SubOperation) (f x y : ChannelOp) → op_of ps ≡ Some f → op_of qs ≡ Some x → Joins f x y
    → list_all is_apart ps ≡ true → list_all is_apart qs ≡ true → op_of (ps ++ qs) ≡ Some y
join-ops [] qs f x y e g j a b = (cc)
join-ops (p ∷ ps) [] f x y e g j a b = (cc)
join-ops (OnIntervals o ∷ ps) (q ∷ qs) f x y e g j a b = (cc)
join-ops (p ∷ ps) (OnIntervals o ∷ qs) f x y e g j a b = (cc)
join-ops (OnText u ∷ ps) (OnGrid v ∷ qs) f x y e g j a b = absurd (mixed f x (text-of u ps f e) (grid-of v qs x g) j)
  where
    mixed : (f x : ChannelOp) → IsText f → IsGrid x → Joins f x y → ⊥
    mixed (Text i) (Grid k) s t h = h
    mixed (Text i) (Text k) s t h = t
    mixed (Grid i) x s t h = s
join-ops (OnGrid u ∷ ps) (OnText v ∷ qs) f x y e g j a b = absurd (mixed f x (grid-of u ps f e) (text-of v qs x g) j)
  where
    mixed : (f x : ChannelOp) → IsGrid f → IsText x → Joins f x y → ⊥
    mixed (Grid i) (Text k) s t h = h
    mixed (Grid i) (Grid k) s t h = t
    mixed (Text i) x s t h = s
join-ops (OnText u ∷ ps) (OnText v ∷ qs) f x y e g j a b = joined f x (bases u ps f e) (bases v qs x g) j
  where
    joined : (f x : ChannelOp) → HasBases f (u ∷ flat_map base_op_of ps) → HasBases x (v ∷ flat_map base_op_of qs) → Joins f x y
        → op_of (OnText u ∷ (ps ++ (OnText v ∷ qs))) ≡ Some y
    joined (Text i) (Text k) s t h = text-longer u ps v qs ∙ ap (λ ops. Some (Text (text.Group ops)))
        (ap (λ ops. u ∷ ops) (flat_map-append base_op_of ps (OnText v ∷ qs)) ∙ ap (λ ops. ops ++ (v ∷ flat_map base_op_of qs)) (sym s)
        ∙ ap (λ ops. base_ops i ++ ops) (sym t)) ∙ ap Some (sym h)
    joined (Grid i) x s t h = absurd s
    joined (Text i) (Grid k) s t h = absurd t
join-ops (OnGrid u ∷ ps) (OnGrid v ∷ qs) f x y e g j a b = joined f x (cells u ps f e) (cells v qs x g) j
  where
    joined : (f x : ChannelOp) → HasCells f (u ∷ flat_map cell_op_of ps) → HasCells x (v ∷ flat_map cell_op_of qs) → Joins f x y
        → op_of (OnGrid u ∷ (ps ++ (OnGrid v ∷ qs))) ≡ Some y
    joined (Grid i) (Grid k) s t h = grid-longer u ps v qs ∙ ap (λ ops. Some (Grid (grid.Group ops)))
        (ap (λ ops. u ∷ ops) (flat_map-append cell_op_of ps (OnGrid v ∷ qs)) ∙ ap (λ ops. ops ++ (v ∷ flat_map cell_op_of qs)) (sym s)
        ∙ ap (λ ops. cell_ops i ++ ops) (sym t)) ∙ ap Some (sym h)
    joined (Text i) x s t h = absurd s
    joined (Grid i) (Text k) s t h = absurd t

-- ---- an edit with a stage more

pub pieces-more : (doc : Document) (ts : List Stage) (t : Stage) → flat_map (pieces doc) (ts ++ t ∷ []) ≡ flat_map (pieces doc) ts ++ pieces doc t
pieces-more doc ts t = flat_map-append (pieces doc) ts (t ∷ []) ∙ ap (λ ps. flat_map (pieces doc) ts ++ ps) (append-nil (pieces doc t))

same-resent : (v : Resent) (op : Option ChannelOp) (n : ℕ) → v.op ≡ op → v.stages ≡ n → v ≡ record { op = op; stages = n }
same-resent v op n e f = ap (λ o. record { op = o; stages = v.stages }) e ∙ ap (λ k. record { op = op; stages = k }) f

length-more : (ts us : List Stage) → length (ts ++ us) ≡ length ts + length us
length-more [] us = omega arith
length-more (t ∷ ts) us =
    let r = length-more ts us in
    omega (arith, r)

mapped-length : (ts : List Stage) → length (map own_stage ts) ≡ length ts
mapped-length [] = refl
mapped-length (t ∷ ts) = ap suc (mapped-length ts)

one-more : (doc : Document) (t : Stage) → length (carried_stage doc t) ≡ length (cond (has_piece (pieces doc t)) (own_stage t ∷ []) [])
one-more doc t = sym (mapped-length (carried_stage doc t)) ∙ ap length (goes-on doc t)

module _ (doc : Document) (ts : List Stage) (t : Stage) where
  abbrev pub so-far : List SubOperation
  so-far = flat_map (pieces doc) ts

  counted-more : length (carried doc (ts ++ t ∷ [])) ≡ length (carried doc ts) + length (cond (has_piece (pieces doc t)) (own_stage t ∷ []) [])
  counted-more = ap length (carried-more doc ts (t ∷ []) ∙ ap (λ us. carried doc ts ++ us) (append-nil (carried_stage doc t)))
      ∙ length-more (carried doc ts) (carried_stage doc t) ∙ ap (λ n. length (carried doc ts) + n) (one-more doc t)

  module _ (alone : Bool) (first : alone ≡ true → ts ≡ []) (others : alone ≡ false → list_all is_apart so-far ≡ true)
      (last : alone ≡ false → is_on_intervals t.sub_operation ≡ false) where
    joined-ops : (o : Option ChannelOp) (x y : ChannelOp) → op_of so-far ≡ o → op_of (pieces doc t) ≡ Some x → JoinsSome o x y
        → op_of (so-far ++ pieces doc t) ≡ Some y
    joined-ops None x y e q j = ap (λ ps. op_of (ps ++ pieces doc t)) (no-operation so-far e) ∙ q ∙ ap Some (sym j)
    joined-ops (Some f) x y e q j = by-alone alone refl
      where
        by-alone : (b : Bool) → alone ≡ b → op_of (so-far ++ pieces doc t) ≡ Some y
        by-alone false a = join-ops so-far (pieces doc t) f x y e q j (others a) (pieces-apart doc t (last a))
        by-alone true a =
            let never : None ≡ Some f = sym (ap (λ us. op_of (flat_map (pieces doc) us)) (first a)) ∙ e in
            (cc)

    edit-grown : (again v : Resent) (op : Option ChannelOp) → op ≡ op_of (pieces doc t) → again ≡ resent doc ts → AddsPieces again op v
        → v ≡ resent doc (ts ++ t ∷ [])
    edit-grown again v None o a j =
        let none : pieces doc t ≡ [] = no-operation (pieces doc t) (sym o) in
        j ∙ a ∙ same-resent (resent doc ts) (op_of (flat_map (pieces doc) (ts ++ t ∷ []))) (length (carried doc (ts ++ t ∷ [])))
        (ap op_of (sym (pieces-more doc ts t ∙ ap (λ ps. so-far ++ ps) none ∙ append-nil so-far)))
        (none-counted (length (carried doc ts)) (length (carried doc (ts ++ t ∷ [])))
        (counted-more ∙ ap (λ ps. length (carried doc ts) + length (cond (has_piece ps) (own_stage t ∷ []) [])) none))
      where
        none-counted : (n m : ℕ) → m ≡ n + 0 → n ≡ m
        none-counted n m e = omega (arith, e)
    edit-grown again v (Some x) o a j =
        let some : has_piece (pieces doc t) ≡ true = sym (some-op (pieces doc t)) ∙ ap is_some (sym o) in
        same-resent v (op_of (flat_map (pieces doc) (ts ++ t ∷ []))) (length (carried doc (ts ++ t ∷ [])))
        (j.1.1 ∙ sym (joined-ops again.op x j.1.0 (sym (ap (λ (r : Resent). r.op) a)) (sym o) j.1.2) ∙ ap op_of (sym (pieces-more doc ts t)))
        (j.0 ∙ ap (λ (r : Resent). r.stages + 1) a ∙ sym (counted-more ∙ ap (λ b. length (carried doc ts) + length (cond b (own_stage t ∷ []) [])) some))

-- ---- the parts of an edit

-- the pieces are of the kind of their stage
text-on : (k : ℕ) (xs : List ListElement) (op : BaseOp) → list_all is_on_elements (text_pieces k xs op) ≡ true
text-on k xs (Insert p seg props) = step (segment_contents seg) _
  where
    step : (cs : List ElementContent) (o : BaseOp) → list_all is_on_elements (unless_empty cs (OnText o)) ≡ true
    step [] o = refl
    step (c ∷ cs) o = refl
text-on k xs (Remove p q) = all-are {A = ℕ × ℕ} is_on_elements (λ r. OnText (Remove r.0 r.1)) (λ r. refl) (lowered_runs 0 (marked_runs k (is_removed_by k) xs))
text-on k xs (Annotate p q changes) = all-are {A = ℕ × ℕ} is_on_elements (λ r. OnText (Annotate r.0 r.1 changes)) (λ r. refl) (marked_runs k (is_annotated_by k) xs)

-- whether it is on the grid
abbrev is_on_grid : SubOperation → Bool
is_on_grid (OnGrid op) = true
is_on_grid _ = false

grid-on : (k : ℕ) (doc : Document) (names : NamedElements) (op : CellOp) → list_all is_on_grid (grid_pieces k doc names op) ≡ true
grid-on k doc names (SpliceIn target p count) = step (nat_eq count 0) _
  where
    step : (b : Bool) (o : CellOp) → list_all is_on_grid (cond b [] (OnGrid o ∷ [])) ≡ true
    step true o = refl
    step false o = refl
grid-on k doc names (SpliceOut target p q) = all-are {A = ℕ × ℕ} is_on_grid (λ r. OnGrid (SpliceOut target r.0 r.1)) (λ r. refl)
    (lowered_runs 0 (marked_runs k (is_removed_by k) (rows_or_cols target doc).items))
grid-on k doc names (Set i j value) = step _ _
  where
    step : (b : Bool) (o : CellOp) → list_all is_on_grid (cond b (OnGrid o ∷ []) []) ≡ true
    step true o = refl
    step false o = refl

text-pieces : (doc : Document) (t : Stage) → is_elements_part (part_of t.sub_operation) ≡ true → list_all is_on_elements (pieces doc t) ≡ true
text-pieces doc t h = step t.stage t.sub_operation t.names h
  where
    step : (k : ℕ) (o : SubOperation) (names : NamedElements) → is_elements_part (part_of o) ≡ true
        → list_all is_on_elements (pieces doc (record { stage = k; sub_operation = o; names = names })) ≡ true
    step k (OnText op) names e = text-on k doc.text.items op
    step k (OnIntervals op) names e = (cc)
    step k (OnGrid op) names e = (cc)

grid-pieces : (doc : Document) (t : Stage) → is_grid_part (part_of t.sub_operation) ≡ true → list_all is_on_grid (pieces doc t) ≡ true
grid-pieces doc t h = step t.stage t.sub_operation t.names h
  where
    step : (k : ℕ) (o : SubOperation) (names : NamedElements) → is_grid_part (part_of o) ≡ true
        → list_all is_on_grid (pieces doc (record { stage = k; sub_operation = o; names = names })) ≡ true
    step k (OnText op) names e = (cc)
    step k (OnIntervals op) names e = (cc)
    step k (OnGrid op) names e = grid-on k doc names op

-- a test of all pieces of stages, where it holds of those of each of a kind
module _ (doc : Document) (kind : OwnStage → Bool) (test : SubOperation → Bool)
    (each : (t : Stage) → kind (own_stage t) ≡ true → list_all test (pieces doc t) ≡ true) where
  all-added : (xs ys : List SubOperation) → list_all test xs ≡ true → list_all test ys ≡ true → list_all test (xs ++ ys) ≡ true
  all-added [] ys a b = b
  all-added (x ∷ xs) ys a b =
      let p = both (test x) (list_all test xs) a in
      rw (p.0, all-added xs ys p.1 b) refl

  all-pieces : (ts : List Stage) → list_all kind (map own_stage ts) ≡ true → list_all test (flat_map (pieces doc) ts) ≡ true
  all-pieces [] h = refl
  all-pieces (t ∷ ts) h =
      let p = both (kind (own_stage t)) (list_all kind (map own_stage ts)) h in
      all-added (pieces doc t) (flat_map (pieces doc) ts) (each t p.0) (all-pieces ts p.1)

-- what the operation of pieces is on
text-op : (ps : List SubOperation) (f : ChannelOp) → list_all is_on_elements ps ≡ true → op_of ps ≡ Some f → IsText f
text-op [] f h e = (cc)
text-op (OnText u ∷ ps) f h e = text-of u ps f e
text-op (OnIntervals o ∷ ps) f h e = (cc)
text-op (OnGrid u ∷ ps) f h e = (cc)

grid-op : (ps : List SubOperation) (f : ChannelOp) → list_all is_on_grid ps ≡ true → op_of ps ≡ Some f → IsGrid f
grid-op [] f h e = (cc)
grid-op (OnGrid u ∷ ps) f h e = grid-of u ps f e
grid-op (OnText u ∷ ps) f h e = (cc)
grid-op (OnIntervals o ∷ ps) f h e = (cc)

both-text : (f x : ChannelOp) → IsText f → IsText x → are_of_one_part f x ≡ true
both-text (Text a) (Text b) h g = refl
both-text (Text a) (Grid b) h g = absurd g
both-text (Grid a) x h g = absurd h

both-grid : (f x : ChannelOp) → IsGrid f → IsGrid x → are_of_one_part f x ≡ true
both-grid (Grid a) (Grid b) h g = refl
both-grid (Grid a) (Text b) h g = absurd g
both-grid (Text a) x h g = absurd h

-- the stages of an edit are of one kind, or the one is alone
pub data IsOneKind (ts : List Stage) (t : Stage) : Type 0 where
  on_text : list_all (λ (u : OwnStage). is_elements_part u.part) (map own_stage ts) ≡ true → is_elements_part (part_of t.sub_operation) ≡ true → IsOneKind ts t
  on_grid : list_all (λ (u : OwnStage). is_grid_part u.part) (map own_stage ts) ≡ true → is_grid_part (part_of t.sub_operation) ≡ true → IsOneKind ts t
  alone : ts ≡ [] → IsOneKind ts t

split-all : (kind : OwnStage → Bool) (ts : List Stage) (t : Stage) → list_all kind (map own_stage (ts ++ t ∷ [])) ≡ true
    → (list_all kind (map own_stage ts) ≡ true) × (kind (own_stage t) ≡ true)
split-all kind [] t h = (refl, (both (kind (own_stage t)) true h).0)
split-all kind (u ∷ ts) t h =
    let p = both (kind (own_stage u)) (list_all kind (map own_stage (ts ++ t ∷ []))) h in
    let r = split-all kind ts t p.1 in
    (rw (p.0, r.0) refl, r.1)

none-alone : (ts : List Stage) (t : Stage) → is_alone (map own_stage (ts ++ t ∷ [])) ≡ true → ts ≡ []
none-alone [] t h = refl
none-alone (u ∷ []) t h = (cc)
none-alone (u ∷ v ∷ ts) t h = (cc)

pub one-kind : (ts : List Stage) (t : Stage) → are_of_one_edit (map own_stage (ts ++ t ∷ [])) ≡ true → IsOneKind ts t
one-kind ts t h =
    step (list_all (λ (u : OwnStage). is_elements_part u.part) all) (list_all (λ (u : OwnStage). is_grid_part u.part) all) (is_alone all) refl refl refl h
  where
    all : List OwnStage
    all = map own_stage (ts ++ t ∷ [])

    step : (a b c : Bool) → list_all (λ (u : OwnStage). is_elements_part u.part) (map own_stage (ts ++ t ∷ [])) ≡ a
        → list_all (λ (u : OwnStage). is_grid_part u.part) (map own_stage (ts ++ t ∷ [])) ≡ b → is_alone (map own_stage (ts ++ t ∷ [])) ≡ c
        → a || (b || c) ≡ true → IsOneKind ts t
    step true b c e f g k = let p = split-all (λ (u : OwnStage). is_elements_part u.part) ts t e in on_text p.0 p.1
    step false true c e f g k = let p = split-all (λ (u : OwnStage). is_grid_part u.part) ts t f in on_grid p.0 p.1
    step false false true e f g k = alone (none-alone ts t g)
    step false false false e f g k = (cc)

-- an operation of the stages so far is on the same part as that of the next one
pub of-one-part : (doc : Document) (ts : List Stage) (t : Stage) (f x : ChannelOp) → IsOneKind ts t
    → op_of (flat_map (pieces doc) ts) ≡ Some f → op_of (pieces doc t) ≡ Some x
    → are_of_one_part f x ≡ true
of-one-part doc ts t f x (on_text a b) e g =
    both-text f x
    (text-op (flat_map (pieces doc) ts) f (all-pieces doc (λ (u : OwnStage). is_elements_part u.part) is_on_elements (text-pieces doc) ts a) e)
    (text-op (pieces doc t) x (text-pieces doc t b) g)
of-one-part doc ts t f x (on_grid a b) e g =
    both-grid f x
    (grid-op (flat_map (pieces doc) ts) f (all-pieces doc (λ (u : OwnStage). is_grid_part u.part) is_on_grid (grid-pieces doc) ts a) e)
    (grid-op (pieces doc t) x (grid-pieces doc t b) g)
of-one-part doc ts t f x (alone a) e g =
    let never : None ≡ Some f = sym (ap (λ us. op_of (flat_map (pieces doc) us)) a) ∙ e in
    (cc)

elements-apart : (o : SubOperation) → is_elements_part (part_of o) ≡ true → is_on_intervals o ≡ false
elements-apart (OnText op) h = refl
elements-apart (OnIntervals op) h = (cc)
elements-apart (OnGrid op) h = (cc)

grid-off_intervals : (o : SubOperation) → is_grid_part (part_of o) ≡ true → is_on_intervals o ≡ false
grid-off_intervals (OnGrid op) h = refl
grid-off_intervals (OnText op) h = (cc)
grid-off_intervals (OnIntervals op) h = (cc)

-- the edit with its next stage
pub edit-more : (doc : Document) (ts : List Stage) (t : Stage) → IsOneKind ts t → (again v : Resent) (op : Option ChannelOp)
    → op ≡ op_of (pieces doc t) → again ≡ resent doc ts
    → AddsPieces again op v → v ≡ resent doc (ts ++ t ∷ [])
edit-more doc ts t (on_text a b) again v op o e j =
    edit-grown doc ts t false (λ g. (cc))
    (λ g. all-pieces doc (λ (u : OwnStage). is_elements_part u.part) is_apart (λ u h. pieces-apart doc u (elements-apart u.sub_operation h)) ts a)
    (λ g. elements-apart t.sub_operation b) again v op o e j
edit-more doc ts t (on_grid a b) again v op o e j =
    edit-grown doc ts t false (λ g. (cc))
    (λ g. all-pieces doc (λ (u : OwnStage). is_grid_part u.part) is_apart (λ u h. pieces-apart doc u (grid-off_intervals u.sub_operation h)) ts a)
    (λ g. grid-off_intervals t.sub_operation b) again v op o e j
edit-more doc ts t (alone a) again v op o e j =
    edit-grown doc ts t true (λ g. a) (λ g. (cc)) (λ g. (cc)) again v op o e j

-- no more stages go on than there are
pub carried-few : (doc : Document) (ts : List Stage) → length (carried doc ts) ≤ length ts
carried-few doc [] = omega arith
carried-few doc (t ∷ ts) =
    let r = carried-few doc ts in
    let more = length-more (carried_stage doc t) (carried doc ts) in
    let one = at-most (has_piece (pieces doc t)) (one-more doc t) in
    omega (arith, r, more, one)
  where
    at-most : (b : Bool) → length (carried_stage doc t) ≡ length (cond b (own_stage t ∷ []) []) → length (carried_stage doc t) ≤ 1
    at-most true e = omega (arith, e)
    at-most false e = omega (arith, e)
