-- Stages of the grid that are gone since they have no piece: names go on to fit without them.
use Rattle.std.proofs.Common.{◌≡◌, ◌≤◌, ◌<◌, ℕ, Bool, true, false, cond, not, ◌&&◌, ◌||◌, nat_eq, List, [], ◌∷◌, ◌++◌, append_assoc, refl, sym, ◌∙◌, ap, subst, arith}
use Rattle.std.specs.List.{flat_map, list_any}
use Rattle.ft_base.proofs.ScanLaws.{retain_map-append}
use Rattle.ft_op.specs.declared.operations.CellOp.{CellOp}
use Rattle.ft_op.specs.declared.operations.CellOp.TheVariants.{SpliceIn, SpliceOut, Set}
use Rattle.ft_op.specs.declared.operations.Target.TheVariants.{Rows, Cols}
use Rattle.ft_op.specs.Document.{Document}
use Rattle.ft_op.specs.Intervals.{NamedElements}
use Rattle.ft_op.specs.Operation.{OnGrid, OnIntervals, OnText, SubOperation}
use Rattle.ft_op.specs.Pieces.{grid_pieces, pieces}
use Rattle.ft_op.specs.Stages.{Stage}
use Rattle.ft_props.specs.Element.{ListElement}
use Rattle.ft_msg.specs.Indexed.{indexed_stage}
use Rattle.ft_msg.specs.Reconnection.{carried_stage}
use Rattle.ft_laws_agreement.specs.Sequencing.{is_grid_stage}
use Rattle.ft_laws_names.specs.GridFacts.{grid_stages}
use Rattle.ft_laws_names.specs.WellNamed.{ArePutIn, AreStagesNamed, AreWellNamed, RiseTo, inserts_cols, inserts_rows, puts_text_in}
use Rattle.ft_laws_names.proofs.OwnAlike.{rise-lower}
use Rattle.ft_client.specs.Rejoins.{carried}

-- ---- stages left out

-- the stage puts nothing in
pub record IsIdle (t : Stage) : Type 0 where
  pub text : puts_text_in t.sub_operation ≡ false
  pub rows : inserts_rows t.sub_operation ≡ false
  pub cols : inserts_cols t.sub_operation ≡ false

-- the first list has the stages of the second one but for some that put nothing in
pub data LeavesOut : List Stage → List Stage → Type 0 where
  all_left : LeavesOut [] []
  stays : {t : Stage} {ks ts : List Stage} → LeavesOut ks ts → LeavesOut (t ∷ ks) (t ∷ ts)
  left_out : {t : Stage} {ks ts : List Stage} → IsIdle t → LeavesOut ks ts → LeavesOut ks (t ∷ ts)

pub none-left-out : (ts : List Stage) → LeavesOut ts ts
none-left-out [] = all_left
none-left-out (t ∷ ts) = stays (none-left-out ts)

any-left : (kind : SubOperation → Bool) → ((t : Stage) → IsIdle t → kind t.sub_operation ≡ false) → (k : ℕ) {ks ts : List Stage} → LeavesOut ks ts
    → list_any (λ t. nat_eq k t.stage && kind t.sub_operation) ks ≡ list_any (λ t. nat_eq k t.stage && kind t.sub_operation) ts
any-left kind f k all_left = refl
any-left kind f k (stays {t = t} h) = ap (λ b. (nat_eq k t.stage && kind t.sub_operation) || b) (any-left kind f k h)
any-left kind f k (left_out {t = t} {ts = ts} i h) =
    any-left kind f k h ∙ sym (ap (λ b. (nat_eq k t.stage && b) || list_any (λ (t : Stage). nat_eq k t.stage && kind t.sub_operation) ts) (f t i)
    ∙ ap (λ b. b || list_any (λ (t : Stage). nat_eq k t.stage && kind t.sub_operation) ts) (never (nat_eq k t.stage)))
  where
    never : (b : Bool) → b && false ≡ false
    never true = refl
    never false = refl

put-left : (kind : SubOperation → Bool) → ((t : Stage) → IsIdle t → kind t.sub_operation ≡ false) → {ks ts : List Stage} → LeavesOut ks ts
    → (xs : List ListElement) → ArePutIn kind ts xs
    → ArePutIn kind ks xs
put-left kind f h xs g k e = g k (sym (any-left kind f k h) ∙ e)

named-left : (doc : Document) {ks ts : List Stage} → LeavesOut ks ts → AreStagesNamed doc ts → AreStagesNamed doc ks
named-left doc all_left g = tt
named-left doc (stays h) g = (g.0, named-left doc h g.1)
named-left doc (left_out i h) g = named-left doc h g.1

rise-left : (low last : ℕ) {ks ts : List Stage} → LeavesOut ks ts → RiseTo low last ts → RiseTo low last ks
rise-left low last all_left r = r
rise-left low last (stays {t = t} h) r = (r.0, rise-left t.stage last h r.1)
rise-left low last (left_out {t = t} {ks = ks} i h) r = rise-lower low t.stage last ks (less r.0) (rise-left t.stage last h r.1)
  where
    less : low < t.stage → low ≤ t.stage
    less l = omega (arith, l)

pub names-left : (last : ℕ) (doc : Document) {ks ts : List Stage} → LeavesOut ks ts → AreWellNamed last doc ts → AreWellNamed last doc ks
names-left last doc h w = record {
  text = w.text;
  rows = w.rows;
  cols = w.cols;
  intervals = w.intervals;
  cells = w.cells;
  stages = named-left doc h w.stages;
  own = record {
    text = put-left puts_text_in (λ t i. i.text) h doc.text.items w.own.text;
    rows = put-left inserts_rows (λ t i. i.rows) h doc.rows.items w.own.rows;
    cols = put-left inserts_cols (λ t i. i.cols) h doc.cols.items w.own.cols;
  };
  rise = rise-left 0 last h w.rise;
}

-- ---- those without a piece

-- a stage of the grid as it goes on, another one as it is
abbrev pub grid_carried : Document → Stage → List Stage
grid_carried doc t = cond (is_grid_stage t) (carried_stage doc t) (t ∷ [])

abbrev pub some_carried : Document → List Stage → List Stage
some_carried doc ts = flat_map (grid_carried doc) ts

idle-pieces : (k : ℕ) (doc : Document) (names : NamedElements) (op : CellOp) → grid_pieces k doc names op ≡ []
    → IsIdle (record { stage = k; sub_operation = OnGrid op; names = names })
idle-pieces k doc names (SpliceIn Rows p count) h = record { text = refl; rows = none (nat_eq count 0) _ h; cols = refl }
  where
    none : (b : Bool) (x : SubOperation) → cond b [] (x ∷ []) ≡ [] → not b ≡ false
    none true x g = refl
    none false x g = (cc)
idle-pieces k doc names (SpliceIn Cols p count) h = record { text = refl; rows = refl; cols = none (nat_eq count 0) _ h }
  where
    none : (b : Bool) (x : SubOperation) → cond b [] (x ∷ []) ≡ [] → not b ≡ false
    none true x g = refl
    none false x g = (cc)
idle-pieces k doc names (SpliceOut target p q) h = record { text = refl; rows = refl; cols = refl }
idle-pieces k doc names (Set i j value) h = record { text = refl; rows = refl; cols = refl }

one-left : (doc : Document) (t : Stage) {ks ts : List Stage} → LeavesOut ks ts → LeavesOut (grid_carried doc t ++ ks) (t ∷ ts)
one-left doc t {ks} {ts} h = step t.stage t.sub_operation t.names
  where
    grid : (u : Stage) (ps : List SubOperation) → (ps ≡ [] → IsIdle u) → LeavesOut (elim ps as (λ _. List Stage) [ [] ↦ [] | _ ∷ _ ↦ u ∷ [] ] ++ ks) (u ∷ ts)
    grid u [] f = left_out (f refl) h
    grid u (p ∷ ps) f = stays h

    step : (k : ℕ) (o : SubOperation) (names : NamedElements)
        → (let u : Stage = record { stage = k; sub_operation = o; names = names } in LeavesOut (grid_carried doc u ++ ks) (u ∷ ts))
    step k (OnText op) names = stays h
    step k (OnIntervals op) names = stays h
    step k (OnGrid op) names = grid (record { stage = k; sub_operation = OnGrid op; names = names }) (grid_pieces k doc names op) (λ e. idle-pieces k doc names op e)

pub carried-left : (doc : Document) (ts us : List Stage) → LeavesOut (some_carried doc ts ++ us) (ts ++ us)
carried-left doc [] us = none-left-out us
carried-left doc (t ∷ ts) us =
    subst (λ ks. LeavesOut ks (t ∷ (ts ++ us))) (sym (append_assoc (grid_carried doc t) (some_carried doc ts) us)) (one-left doc t (carried-left doc ts us))

-- both have the same stages of the grid
one-grid : (p doc : Document) (t : Stage) → grid_stages p (grid_carried doc t) ≡ grid_stages p (carried_stage doc t)
one-grid p doc t = step t.stage t.sub_operation t.names
  where
    gone : (u : Stage) (ps : List SubOperation) → is_grid_stage u ≡ false → [] ≡ grid_stages p (elim ps as (λ _. List Stage) [ [] ↦ [] | _ ∷ _ ↦ u ∷ [] ])
    gone u [] e = refl
    gone u (o ∷ ps) e = rw e refl

    step : (k : ℕ) (o : SubOperation) (names : NamedElements)
        → (let u : Stage = record { stage = k; sub_operation = o; names = names } in grid_stages p (grid_carried doc u) ≡ grid_stages p (carried_stage doc u))
    step k (OnText op) names = let u : Stage = record { stage = k; sub_operation = OnText op; names = names } in gone u (pieces doc u) refl
    step k (OnIntervals op) names = refl
    step k (OnGrid op) names = refl

pub grid-carried : (p doc : Document) (ts : List Stage) → grid_stages p (some_carried doc ts) ≡ grid_stages p (carried doc ts)
grid-carried p doc [] = refl
grid-carried p doc (t ∷ ts) =
    retain_map-append is_grid_stage (indexed_stage p) (grid_carried doc t) (some_carried doc ts)
    ∙ ap (λ us. us ++ grid_stages p (some_carried doc ts)) (one-grid p doc t) ∙ ap (λ us. grid_stages p (carried_stage doc t) ++ us) (grid-carried p doc ts)
    ∙ sym (retain_map-append is_grid_stage (indexed_stage p) (carried_stage doc t) (carried doc ts))

pub grid-behind : (p doc : Document) (ts us : List Stage) → grid_stages p (some_carried doc ts ++ us) ≡ grid_stages p (carried doc ts ++ us)
grid-behind p doc ts us =
    retain_map-append is_grid_stage (indexed_stage p) (some_carried doc ts) us ∙ ap (λ vs. vs ++ grid_stages p us) (grid-carried p doc ts)
    ∙ sym (retain_map-append is_grid_stage (indexed_stage p) (carried doc ts) us)
