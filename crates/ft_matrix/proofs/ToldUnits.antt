-- What is told by the units of a grid is what is told by the document whose part it holds.
use Rattle.std.proofs.Common.{◌≡◌, ℕ, suc, ◌+◌, ◌-◌, ◌<◌, ◌≤◌, ◌^◌, All, Bool, true, false, cond, not, ◌&&◌, nat_eq, nat_le, List, [], ◌∷◌, ◌++◌, Option, Some, None, Result, Ok, Err, IfOk, refl, sym, ◌∙◌, ap, subst, length, map, drop, get_or, replicate, append-nil, append_assoc, arith}
use Rattle.std.specs.List.{AllByRecursion, list_all}
use Rattle.std.proofs.lemmas.List.Elements.{recursion_from_All}
use Rattle.ft_base.specs.declared.elements.Perspective.{Perspective}
use Rattle.ft_base.specs.declared.stamps.Stamp.{Stamp}
use Rattle.ft_base.specs.declared.stamps.Stamp.TheVariants.{Acked}
use Rattle.ft_base.specs.Scan.{len}
use Rattle.ft_base.proofs.Booleans.{both}
use Rattle.ft_block.specs.declared.leaves.LenView.TheVariants.{At}
use Rattle.ft_block.specs.Leaves.{last_stage}
use Rattle.ft_changes.specs.declared.changes.ViewChange.TheVariants.{PutUnits}
use Rattle.ft_changes.specs.declared.listeners.Listener.{Listener}
use Rattle.ft_changes.specs.Listeners.{heard}
use Rattle.ft_changes.specs.ShownRuns.{gone_runs, place_of_insertion}
use Rattle.ft_changes.specs.Told.{taken_units, told_local, told_local_grid, told_locals, told_of_grid, told_sub_operations}
use Rattle.ft_changes.proofs.HeardChanges.{heard-more, heard-nothing}
use Rattle.ft_changes.proofs.RunsBeside.{gone-beside, place-beside}
use Rattle.ft_changes.proofs.ToldNext.{told-next}
use Rattle.ft_laws_names.specs.GridFacts.{is_stamp_below, is_unit_below}
use Rattle.ft_laws_names.proofs.Beside.{beside-len, ends, next}
use Rattle.ft_msg.specs.declared.faults.EditFault.{EditFault}
use Rattle.ft_msg.specs.Client.{local_grid}
use Rattle.ft_named.proofs.Lists.{all-put, all-range}
use Rattle.ft_op.specs.declared.operations.CellOp.{CellOp}
use Rattle.ft_op.specs.declared.operations.CellOp.TheVariants.{SpliceIn, SpliceOut, Set}
use Rattle.ft_op.specs.declared.operations.Target.{Target}
use Rattle.ft_op.specs.declared.operations.Target.TheVariants.{Rows, Cols}
use Rattle.ft_op.specs.Document.{Document, cell_effect, grid_effect, rows_or_cols}
use Rattle.ft_op.specs.Operation.{OnGrid}
use Rattle.ft_op.specs.Stages.{Stage}
use Rattle.ft_props.specs.Element.{ElementContent, GridUnit, ListElement, NamelessElement, is_pending, nameless, new_elements, removal_stamp, seen, seen_by, with_removal}
use Rattle.ft_props.specs.Properties.{PropertyList}
use Rattle.ft_tree_leaves.specs.Elements as tree
use Rattle.ft_tree_leaves.specs.Elements.{TreeElement, seen_in}
use Rattle.ft_matrix.specs.declared.grid.Grid.{Grid}
use Rattle.ft_matrix.specs.Applied.{Holds, Passes}
use Rattle.ft_matrix.specs.Conditions.{IsAboveAll}
use Rattle.ft_matrix.specs.GridStates.{grid_state}
use Rattle.ft_matrix.specs.OwnEdits.{EditsOne, TakesStage, stage_of}
use Rattle.ft_matrix.specs.Sides.{units_at}
use Rattle.ft_matrix.specs.Told.{HasStagesTo, told_of_op, told_of_own}
use Rattle.ft_matrix.specs.Units.{shown_unit, units_of}
use Rattle.ft_matrix.proofs.AppliedSteps.{drop-all, drop-item}
use Rattle.ft_matrix.proofs.OwnSteps.{seen-same, top}
use Rattle.ft_matrix.proofs.UnitLists.{BesideUnits, IsUnit, unit-pending, unit-seen, unit-seen_by, units-beside}

-- ---- the units beside those of the document

-- the same unit, on which nothing is pending of a later stage
abbrev IsUnitTo : ℕ → ListElement → TreeElement ℕ → Type 0
IsUnitTo last x e = IsUnit x e × (is_unit_below (suc last) (nameless x) ≡ true)

units-to : (last : ℕ) {xs : List ListElement} {es : List (TreeElement ℕ)} → BesideUnits IsUnit xs es
    → list_all (λ x. is_unit_below (suc last) (nameless x)) xs ≡ true → BesideUnits (IsUnitTo last) xs es
units-to last ends h = ends
units-to last (next {x = x} {xs = xs} q qs) h =
    let p = both (is_unit_below (suc last) (nameless x)) (list_all (λ y. is_unit_below (suc last) (nameless y)) xs) h in
    next (q, p.0) (units-to last qs p.1)

side-units : (last : ℕ) (g : Grid) (doc : Document) (stages : List Stage) → Holds last g doc stages → HasStagesTo last doc → (target : Target)
    → BesideUnits (IsUnitTo last) (rows_or_cols target doc).items (units_of (units_at target g))
side-units last g doc stages h to Rows = units-to last (units-beside doc.rows.items (units_of g.rows) h.named.rows.removals h.holds.rows) to.rows
side-units last g doc stages h to Cols = units-to last (units-beside doc.cols.items (units_of g.cols) h.named.cols.removals h.holds.cols) to.cols

module _ (last : ℕ) (fits : last < 2 ^ 64) (x : ListElement) (e : TreeElement ℕ) (u : IsUnitTo last x e) where
  below : is_unit_below (suc last) (shown_unit e) ≡ true
  below = subst (λ (n : NamelessElement). is_unit_below (suc last) n ≡ true) u.0.same u.1

  shown-alike : seen last x ≡ seen_in last_stage e
  shown-alike = unit-seen x e u.0 last ∙ sym (seen-same last top e below (omega (arith, fits)))

  shown-next : seen (last + 1) x ≡ seen_in last_stage e
  shown-next =
      unit-seen x e u.0 (last + 1) ∙ seen-same last (last + 1) e below (omega arith) ∙ sym (seen-same last top e below (omega (arith, fits)))

-- ---- one operation

module _ (last : ℕ) (fits : last < 2 ^ 64) (g : Grid) (doc : Document) (stages : List Stage) (h : Holds last g doc stages)
    (to : HasStagesTo last doc) where
  pub told-alike : (at : Perspective) (op : CellOp) → told_of_op at op g ≡ told_of_grid last doc at.c at.r op
  told-alike at (SpliceIn target p count) =
      let xs = (rows_or_cols target doc).items in
      let us = units_of (units_at target g) in
      let b = side-units last g doc stages h to target in
      sym (ap (λ n. cond (nat_le p n && not (nat_eq count 0))
      (PutUnits target (place_of_insertion (seen_by at.r at.c) is_pending (seen last) p xs) count ∷ []) [])
      (beside-len (seen_by at.r at.c) (seen_in (At at)) (λ x e q. unit-seen_by x e q.0 at) b)
      ∙ ap (λ i. cond (nat_le p (len (seen_in (At at)) us) && not (nat_eq count 0)) (PutUnits target i count ∷ []) [])
      (place-beside (seen last) (seen_in last_stage) (λ x e q. shown-alike last fits x e q)
      (seen_by at.r at.c) (seen_in (At at)) (λ x e q. unit-seen_by x e q.0 at)
      is_pending tree.is_pending (λ x e q. unit-pending x e q.0) p b))
  told-alike at (SpliceOut target p q) =
      let xs = (rows_or_cols target doc).items in
      let us = units_of (units_at target g) in
      let b = side-units last g doc stages h to target in
      sym (ap (λ n. cond (nat_le q n) (map (taken_units target) (gone_runs (seen_by at.r at.c) (seen last) p q xs)) [])
      (beside-len (seen_by at.r at.c) (seen_in (At at)) (λ x e r. unit-seen_by x e r.0 at) b)
      ∙ ap (λ runs. cond (nat_le q (len (seen_in (At at)) us)) (map (taken_units target) runs) [])
      (gone-beside (seen last) (seen_in last_stage) (λ x e r. shown-alike last fits x e r)
      (seen_by at.r at.c) (seen_in (At at)) (λ x e r. unit-seen_by x e r.0 at) p q b))
  told-alike at (Set i j value) = refl

  before : last + 1 - 1 ≡ last
  before = omega arith

  within : {A : Type 0} (b : Bool) (a made : A) (fault : EditFault) → cond b (Ok a) (Err fault) ≡ Ok made → b ≡ true
  within true a made fault e = refl
  within false a made fault e = (cc)

  -- one of the client's own that is within range
  pub own-alike : (op : CellOp) (later : Document) (names : _) → local_grid doc (last + 1) op ≡ Ok (later, names)
      → told_of_own op g ≡ told_local_grid (last + 1) doc op
  own-alike (SpliceIn target p count) later names is = refl
  own-alike (SpliceOut target p q) later names is =
      let xs = (rows_or_cols target doc).items in
      let us = units_of (units_at target g) in
      let b = side-units last g doc stages h to target in
      let seen_all : len (seen (last + 1 - 1)) xs ≡ len (seen_in last_stage) us =
      ap (λ k. len (seen k) xs) before ∙ beside-len (seen last) (seen_in last_stage) (λ x e r. shown-alike last fits x e r) b in
      let inside : nat_le q (len (seen_in last_stage) us) ≡ true =
      ap (λ n. nat_le q n) (sym seen_all) ∙ within (nat_le q (len (seen (last + 1 - 1)) xs)) _ _ _ is in
      ap (λ c. cond c (map (taken_units target) (gone_runs (seen_in last_stage) (seen_in last_stage) p q us)) []) inside
      ∙ ap (map (taken_units target)) (sym (gone-beside (seen (last + 1)) (seen_in last_stage) (λ x e r. shown-next last fits x e r)
      (seen last) (seen_in last_stage) (λ x e r. shown-alike last fits x e r) p q b))
      ∙ ap (λ k. map (taken_units target) (gone_runs (seen k) (seen (last + 1)) p q xs)) (sym before)
  own-alike (Set i j value) later names is = refl

-- ---- what is pending stays up to the last stage under a message of another client

abbrev Below : ℕ → ListElement → Bool
Below last e = is_unit_below (suc last) (nameless e)

new-below : (last n s c : ℕ) (by : Option Stamp) (props : PropertyList) (bs : List ElementContent)
    → list_all (Below last) (new_elements n (Acked s c) [] by props bs) ≡ true
new-below last n s c by props [] = refl
new-below last n s c by props (b ∷ bs) = new-below last (n + 1) s c by props bs

one-acked : (k s c : ℕ) (ds rs : List Stamp) → list_all (is_stamp_below k) ((ds ++ (Acked s c ∷ [])) ++ rs) ≡ list_all (is_stamp_below k) (ds ++ rs)
one-acked k s c [] rs = refl
one-acked k s c (d ∷ ds) rs = ap (λ b. is_stamp_below k d && b) (one-acked k s c ds rs)

removed-below : (last s c : ℕ) (e : ListElement) → Below last e ≡ true → Below last (with_removal s c e) ≡ true
removed-below last s c e h =
    ap (λ b. is_stamp_below (suc last) e.ins && b) (one-acked (suc last) s c e.dels (removal_stamp e.removal_stage)) ∙ h

choice : (last : ℕ) (b : Bool) (d e : Document) → HasStagesTo last d → HasStagesTo last e → HasStagesTo last (cond b d e)
choice last true d e f g = f
choice last false d e f g = g

same-stages : (last : ℕ) (d e : Document) → d.rows ≡ e.rows → d.cols ≡ e.cols → HasStagesTo last e → HasStagesTo last d
same-stages last d e rows cols h = record {
  rows = subst (λ l. list_all (Below last) l.items ≡ true) (sym rows) h.rows;
  cols = subst (λ l. list_all (Below last) l.items ≡ true) (sym cols) h.cols;
}

effect-stages : (last s : ℕ) (at : Perspective) (doc : Document) (op : CellOp) → HasStagesTo last doc → HasStagesTo last
    (grid_effect doc s at.c at.r op)
effect-stages last s at doc (SpliceIn Rows p count) h =
    choice last (nat_le p (len (seen_by at.r at.c) doc.rows.items)) _ _
    (record {
      rows = all-put (Below last) (seen_by at.r at.c) is_pending p _ doc.rows.items
          (new-below last doc.rows.made s at.c None [] (replicate count GridUnit)) h.rows;
      cols = h.cols;
    })
    (same-stages last _ doc refl refl h)
effect-stages last s at doc (SpliceIn Cols p count) h =
    choice last (nat_le p (len (seen_by at.r at.c) doc.cols.items)) _ _
    (record {
      rows = h.rows;
      cols = all-put (Below last) (seen_by at.r at.c) is_pending p _ doc.cols.items
          (new-below last doc.cols.made s at.c None [] (replicate count GridUnit)) h.cols;
    })
    (same-stages last _ doc refl refl h)
effect-stages last s at doc (SpliceOut Rows p q) h =
    choice last (nat_le q (len (seen_by at.r at.c) doc.rows.items)) _ _
    (record {
      rows = all-range (Below last) (seen_by at.r at.c) (with_removal s at.c) (λ e g. removed-below last s at.c e g) 0 p q doc.rows.items h.rows;
      cols = h.cols;
    })
    (same-stages last _ doc refl refl h)
effect-stages last s at doc (SpliceOut Cols p q) h =
    choice last (nat_le q (len (seen_by at.r at.c) doc.cols.items)) _ _
    (record {
      rows = h.rows;
      cols = all-range (Below last) (seen_by at.r at.c) (with_removal s at.c) (λ e g. removed-below last s at.c e g) 0 p q doc.cols.items h.cols;
    })
    (same-stages last _ doc refl refl h)
effect-stages last s at doc (Set i j value) h = cell _ _
  where
    cell : (o p : Option ListElement) → HasStagesTo last (cell_effect doc o p value)
    cell (Some x) (Some y) = same-stages last _ doc refl refl h
    cell (Some x) None = same-stages last _ doc refl refl h
    cell None p = same-stages last _ doc refl refl h

-- ---- operations of a message one after another

-- some are done, and the listener hears the rest of what is told of all
pub record HearsSome (last s : ℕ) (at : Perspective) (g : Grid) (first now : Listener) (all rest : List CellOp) (doc : Document)
    (stages : List Stage) : Type 0 where
  pub between : Document
  pub held : Holds last g between stages
  pub to : HasStagesTo last between
  pub hears : heard now (told_sub_operations last between s at.c at.r (map (λ op. OnGrid op) rest))
      ≡ heard first (told_sub_operations last doc s at.c at.r (map (λ op. OnGrid op) all))

pub hears-begin : (last s : ℕ) (at : Perspective) (g : Grid) (l : Listener) (all : List CellOp) (doc : Document) (stages : List Stage)
    → Holds last g doc stages → HasStagesTo last doc → HearsSome last s at g l l all all doc stages
hears-begin last s at g l all doc stages h to = record { between = doc; held = h; to = to; hears = refl }

pub hears-next : (last s : ℕ) (at : Perspective) (g later : Grid) (first now more : Listener) (all : List CellOp) (i : ℕ) (op : CellOp)
    (doc : Document) (stages : List Stage) (skipped : ℕ) → last < 2 ^ 64 → i < length all → op ≡ get_or all i op
    → more ≡ heard now (told_of_op at op g)
    → ((d : Document) → Holds last g d stages → Passes last later d (grid_effect d s at.c at.r op) stages skipped)
    → HearsSome last s at g first now all (drop i all) doc stages → HearsSome last s at later first more all (drop (i + 1) all) doc stages
hears-next last s at g later first now more all i op doc stages skipped fits short here hears passes p =
    let told = told_of_grid last p.between at.c at.r op in
    let rest = told_sub_operations last (grid_effect p.between s at.c at.r op) s at.c at.r (map (λ o. OnGrid o) (drop (i + 1) all)) in
    record {
      between = grid_effect p.between s at.c at.r op;
      held = (passes p.between p.held).now;
      to = effect-stages last s at p.between op p.to;
      hears = ap (λ m. heard m rest) (hears ∙ ap (heard now) (told-alike last fits g p.between stages p.held p.to at op))
          ∙ heard-more now told rest
          ∙ ap (λ os. heard now (told_sub_operations last p.between s at.c at.r (map (λ o. OnGrid o) os))) (sym (drop-item all i op short here))
          ∙ p.hears;
    }

pub hears-all : (last s : ℕ) (at : Perspective) (g : Grid) (first now : Listener) (all : List CellOp) (i : ℕ) (doc : Document) (stages : List Stage)
    → length all ≤ i → HearsSome last s at g first now all (drop i all) doc stages
    → now ≡ heard first (told_sub_operations last doc s at.c at.r (map (λ o. OnGrid o) all))
hears-all last s at g first now all i doc stages l p =
    sym (heard-nothing now)
    ∙ sym (ap (λ os. heard now (told_sub_operations last p.between s at.c at.r (map (λ o. OnGrid o) os))) (drop-all all i l)) ∙ p.hears

-- ---- the client's own

all-mapped : (test : NamelessElement → Bool) (xs : List ListElement) → AllByRecursion (λ n. test n ≡ true) (map nameless xs)
    → list_all (λ x. test (nameless x)) xs ≡ true
all-mapped test [] a = refl
all-mapped test (x ∷ xs) a = rw (a.0, all-mapped test xs a.1) refl

-- where all that is pending is below the next stage
pub stages-to : (last k : ℕ) → k ≡ last + 1 → (g : Grid) (given : ℕ) (usable : Bool) (doc : Document) → IsAboveAll k (grid_state g given usable)
    → map nameless doc.rows.items ≡ (grid_state g given usable).rows → map nameless doc.cols.items ≡ (grid_state g given usable).cols
    → HasStagesTo last doc
stages-to last k e g given usable doc above rows cols =
    let next : last + 1 ≡ suc last = omega arith in
    let to : k ≡ suc last = e ∙ next in
    record {
      rows = side doc.rows.items (subst (λ ns. All (λ n. is_unit_below k n ≡ true) ns) (sym rows) above.rows) to;
      cols = side doc.cols.items (subst (λ ns. All (λ n. is_unit_below k n ≡ true) ns) (sym cols) above.cols) to;
    }
  where
    side : (xs : List ListElement) → All (λ n. is_unit_below k n ≡ true) (map nameless xs) → k ≡ suc last → list_all (Below last) xs ≡ true
    side xs a to =
        subst (λ j. list_all (λ x. is_unit_below j (nameless x)) xs ≡ true) to
        (all-mapped (is_unit_below k) xs (recursion_from_All (λ n. is_unit_below k n ≡ true) (map nameless xs) a))

-- the first of some, i of them, are taken from stage k on, and the listener hears the rest of what is told of all
pub record HearsStages (last k i : ℕ) (g : Grid) (first now : Listener) (all rest : List CellOp) (doc : Document)
    (stages : List Stage) : Type 0 where
  pub between : Document
  pub taken : List Stage
  pub held : Holds (last + i) g between (stages ++ taken)
  pub hears : heard now (told_locals between (stages ++ taken) (k + i) (map (λ op. OnGrid op) rest))
      ≡ heard first (told_locals doc stages k (map (λ op. OnGrid op) all))

plus-zero : (n : ℕ) → n ≡ n + 0
plus-zero n = omega arith

pub own-begin : (last k : ℕ) (g : Grid) (l : Listener) (all : List CellOp) (doc : Document) (stages : List Stage) → Holds last g doc stages
    → HearsStages last k 0 g l l all all doc stages
own-begin last k g l all doc stages h = record {
  between = doc;
  taken = [];
  held = subst (λ n. Holds n g doc (stages ++ [])) (plus-zero last) (subst (λ ts. Holds last g doc ts) (sym (append-nil stages)) h);
  hears = ap (λ ts. heard l (told_locals doc ts (k + 0) (map (λ op. OnGrid op) all))) (append-nil stages)
      ∙ ap (λ n. heard l (told_locals doc stages n (map (λ op. OnGrid op) all))) (sym (plus-zero k));
}

-- one that is taken as stage n, the next one
module _ (last n : ℕ) (e : n ≡ last + 1) (fits : last < 2 ^ 64) (g later : Grid) (above : IsAboveAll n (grid_state g 0 true)) (op : CellOp) where
  told-own : (doc : Document) (stages : List Stage) → Holds last g doc stages → TakesStage last n later doc stages op
      → told_of_own op g ≡ told_local n doc (OnGrid op)
  told-own doc stages h t =
      own-alike last fits g doc stages h (stages-to last n e g 0 true doc above h.holds.rows h.holds.cols) op t.later t.names
      (ap (λ m. local_grid doc m op) (sym e) ∙ t.is)
      ∙ ap (λ m. told_local_grid m doc op) (sym e)

  pub own-alone : (doc : Document) (stages : List Stage) (now more : Listener) → Holds last g doc stages → TakesStage last n later doc stages op
      → more ≡ heard now (told_of_own op g) → more ≡ heard now (told_locals doc stages n (OnGrid op ∷ []))
  own-alone doc stages now more h t hears =
      hears ∙ ap (heard now) (told-own doc stages h t ∙ sym (append-nil (told_local n doc (OnGrid op)))
      ∙ sym (told-next doc t.later stages n (OnGrid op) [] t.names t.is))

  -- whether it is taken or not
  pub own-alone-told : (doc : Document) (stages : List Stage) (now more : Listener) → Holds last g doc stages → more ≡ heard now (told_of_own op g)
      → {E : Type 0} (r : Result (Option ℕ) E) → IfOk r (λ refused. EditsOne last n doc stages op g later refused)
      → IfOk r (λ refused. refused ≡ None → more ≡ heard now (told_locals doc stages n (OnGrid op ∷ [])))
  own-alone-told doc stages now more h hears (Ok None) t = λ none. own-alone doc stages now more h t hears
  own-alone-told doc stages now more h hears (Ok (Some length)) t = λ none. (cc)
  own-alone-told doc stages now more h hears (Err fault) t = tt

next-number : (k i : ℕ) → k + i + 1 ≡ k + (i + 1)
next-number k i = omega arith

pub own-next : (last k i n : ℕ) (g later : Grid) (first now more : Listener) (all : List CellOp) (op : CellOp) (doc : Document) (stages : List Stage)
    → n ≡ k + i → k ≡ last + 1 → last + i < 2 ^ 64 → i < length all → op ≡ get_or all i op → IsAboveAll n (grid_state g 0 true)
    → more ≡ heard now (told_of_own op g)
    → ((d : Document) (ts : List Stage) → Holds (last + i) g d ts → TakesStage (last + i) n later d ts op)
    → HearsStages last k i g first now all (drop i all) doc stages → HearsStages last k (i + 1) later first more all (drop (i + 1) all) doc stages
own-next last k i n g later first now more all op doc stages e f fits short here above hears takes p =
    let t = takes p.between (stages ++ p.taken) p.held in
    let one = stage_of n op t.names ∷ [] in
    let assoc = append_assoc stages p.taken one in
    let others = drop (i + 1) all in
    let told = told_local n p.between (OnGrid op) in
    let next : n ≡ last + i + 1 = omega (arith, e, f) in
    record {
      between = t.later;
      taken = p.taken ++ one;
      held = subst (λ ts. Holds (last + (i + 1)) later t.later ts) assoc
          (subst (λ m. Holds m later t.later ((stages ++ p.taken) ++ one)) (next-number last i) t.now);
      hears = ap (λ ts. heard more (told_locals t.later ts (k + (i + 1)) (map (λ o. OnGrid o) others))) (sym assoc)
          ∙ ap (λ m. heard more (told_locals t.later ((stages ++ p.taken) ++ one) m (map (λ o. OnGrid o) others)))
          (sym (next-number k i) ∙ ap (λ m. m + 1) (sym e))
          ∙ ap (λ m. heard m (told_locals t.later ((stages ++ p.taken) ++ one) (n + 1) (map (λ o. OnGrid o) others)))
          (hears ∙ ap (heard now) (told-own (last + i) n next fits g later above op p.between (stages ++ p.taken) p.held t))
          ∙ heard-more now told (told_locals t.later ((stages ++ p.taken) ++ one) (n + 1) (map (λ o. OnGrid o) others))
          ∙ ap (heard now) (sym (told-next p.between t.later (stages ++ p.taken) n (OnGrid op) (map (λ o. OnGrid o) others) t.names t.is))
          ∙ ap (λ m. heard now (told_locals p.between (stages ++ p.taken) m (map (λ o. OnGrid o) (op ∷ others)))) e
          ∙ ap (λ os. heard now (told_locals p.between (stages ++ p.taken) (k + i) (map (λ o. OnGrid o) os))) (sym (drop-item all i op short here))
          ∙ p.hears;
    }

pub own-all : (last k i : ℕ) (g : Grid) (first now : Listener) (all : List CellOp) (doc : Document) (stages : List Stage) → length all ≤ i
    → HearsStages last k i g first now all (drop i all) doc stages → now ≡ heard first (told_locals doc stages k (map (λ o. OnGrid o) all))
own-all last k i g first now all doc stages l p =
    sym (heard-nothing now) ∙ sym (ap (λ os. heard now (told_locals p.between (stages ++ p.taken) (k + i) (map (λ o. OnGrid o) os)))
    (drop-all all i l)) ∙ p.hears
