-- What giving an edit makes of a whole shared text, whatever the edit is on.
use Rattle.std.proofs.Common.{◌≡◌, ℕ, ◌-◌, ◌≤◌, ◌<◌, All, Bool, true, false, cond, ◌||◌, nat_eq, nat_lt, IsSome, List, [], ◌∷◌, ◌++◌, Option, Some, refl, sym, ◌∙◌, ap, subst, arith, map, filter, flat_map, option_map, append-nil}
use Rattle.std.specs.List.{list_all, list_any}
use Rattle.std.proofs.lemmas.Bool.Decides.{nat_tests}
use Rattle.std.proofs.lemmas.List.Elements.{All-cons, All-head, All-nil, All-tail}
use Rattle.ft_base.proofs.Booleans.{both}
use Rattle.ft_interval_store.specs.declared.pending.Operation.{Operation}
use Rattle.ft_interval_store.specs.State.{CollectionsState, is_at_stage, operation_at, placed_operations, text_elements, with_mapped_names}
use Rattle.ft_interval_store.specs.Ends.{places_of_ends}
use Rattle.ft_tree_leaves.specs.declared.text.TextContent.{TextContent}
use Rattle.ft_msg.specs.Indexed.{IndexedStage, indexed_stage}
use Rattle.ft_msg.specs.Reconnection.{carried_stage}
use Rattle.ft_op.specs.declared.operations.ChannelOp.TheVariants.{Text}
use Rattle.ft_op.specs.declared.operations.TextOp.{TextOp}
use Rattle.ft_op.specs.Document.{Document}
use Rattle.ft_op.specs.Intervals.{NamedElements}
use Rattle.ft_op.specs.Operation.{OnGrid, OnIntervals, OnText, SubOperation}
use Rattle.ft_op.specs.Pieces.{op_of, pieces}
use Rattle.ft_op.specs.Stages.{Stage}
use Rattle.ft_laws_agreement.proofs.NumberTests.{same_number}
use Rattle.ft_laws_agreement.specs.Sequencing.{Each}
use Rattle.ft_tree.specs.State.{TreeState}
use Rattle.ft_named.proofs.Lists.{each-append, each-weaker, filter-append}
use Rattle.ft_string.specs.Calls.{AreFrom, AreNext, AreWithin, HoldsGiven, is_interval_at, is_one_edit}
use Rattle.ft_msg.specs.Overlap.{is_on_intervals}
use Rattle.ft_string.specs.Holds.{HoldsText, IsTextSound, element_stages, interval_stages, is_on_elements, is_on_text}
use Rattle.ft_string.specs.Parts.{AreSound, state_of}
use Rattle.ft_string.specs.Rejoins.{Gives, due, has_piece}
use Rattle.ft_string.specs.State.{element_stage, interval_stage}
use Rattle.ft_string.specs.declared.pending.PendingOp.{PendingOp}
use Rattle.ft_string.proofs.AppliedIntervals.{kept-sound, same-sound}
use Rattle.ft_string.proofs.GivenEdits.{behind-from, gives-held, gives-op, gives-rest, interval-parts, low}
use Rattle.ft_string.proofs.GivenIntervals.{interval-held, interval-op}
use Rattle.ft_string.proofs.GivenStages.{AreOps, ops-split}
use Rattle.ft_string.proofs.Stages.{each-filter}
use Rattle.ft_string.proofs.Wholes.{holds-any}

-- whether an operation on an interval of this stage is pending
same-any : (k : ℕ) (tree : TreeState TextContent) (doc : Document) (ps : List Operation) (us : List Stage)
    → map interval_stage (placed_operations tree.refs ps) ≡ map (indexed_stage doc) us → list_any (is_at_stage k) ps ≡ list_any (λ u. nat_eq u.stage k) us
same-any k tree doc [] [] e = refl
same-any k tree doc [] (u ∷ us) e = (cc)
same-any k tree doc (p ∷ ps) [] e = (cc)
same-any k tree doc (p ∷ ps) (u ∷ us) e =
    let head : interval_stage (with_mapped_names (places_of_ends tree.refs) p) ≡ indexed_stage doc u = (cc) in
    let rest : map interval_stage (placed_operations tree.refs ps) ≡ map (indexed_stage doc) us = (cc) in
    ap (λ (x : IndexedStage). nat_eq x.stage k || list_any (is_at_stage k) ps) head ∙ ap (λ b. nat_eq u.stage k || b) (same-any k tree doc ps us rest)

none-at : (k : ℕ) (us : List Stage) → Each (λ t. t.stage ≡ k → ⊥) us → list_any (λ u. nat_eq u.stage k) us ≡ false
none-at k [] h = refl
none-at k (u ∷ us) h = rw (apart (nat_eq u.stage k) refl, none-at k us h.1) refl
  where
    apart : (b : Bool) → nat_eq u.stage k ≡ b → nat_eq u.stage k ≡ false
    apart false e = e
    apart true e = let same : u.stage ≡ k = grind (arith, nat_tests) in absurd (h.0 same)

any-at : (k : ℕ) (us : List Stage) (t : Stage) (vs : List Stage) → t.stage ≡ k → list_any (λ u. nat_eq u.stage k) (us ++ (t ∷ vs)) ≡ true
any-at k [] t vs e = rw (self t.stage e) refl
  where
    self : (j : ℕ) → j ≡ k → nat_eq j k ≡ true
    self j e = grind (arith, nat_tests)
any-at k (u ∷ us) t vs e = rw (any-at k us t vs e) (either (nat_eq u.stage k))
  where
    either : (b : Bool) → b || true ≡ true
    either true = refl
    either false = refl

-- an edit on an interval is one stage
record IsOneInterval (k : ℕ) (mine : List Stage) : Type 0 where
  pub op : TextOp
  pub names : NamedElements
  pub is : mine ≡ record { stage = k; sub_operation = OnIntervals op; names = names } ∷ []

one-interval : (k : ℕ) (mine : List Stage) → is_interval_at k mine ≡ true → IsOneInterval k mine
one-interval k [] h = (cc)
one-interval k (t ∷ u ∷ us) h = (cc)
one-interval k (t ∷ []) h =
    let p = both (nat_eq t.stage k) (is_on_intervals t.sub_operation) h in
    let same : t.stage ≡ k = same_number t.stage k p.0 in
    step t.sub_operation p.1 refl same
  where
    step : (s : SubOperation) → is_on_intervals s ≡ true → t.sub_operation ≡ s → t.stage ≡ k → IsOneInterval k (t ∷ [])
    step (OnIntervals op) g e same = record { op = op; names = t.names; is = rw (sym same, sym e) refl }
    step (OnText op) g e same = (cc)
    step (OnGrid op) g e same = (cc)

-- what an edit that was given leaves
pub record IsGiven (doc : Document) (front mine behind : List Stage) (new : TreeState TextContent) (d : CollectionsState)
    (rest kept : List PendingOp) (op : Option TextOp) : Type 0 where
  pub sends : option_map Text op ≡ op_of (flat_map (pieces doc) mine)
  pub holds : (more : ℕ) (other : Bool) → HoldsGiven (state_of new d (kept ++ rest) more other) doc (front ++ mine) behind
  pub ahead : AreOps doc rest (element_stages behind)

module _ (given first end last : ℕ) (order : given < first) (some : first < end) (tree new : TreeState TextContent) (c d : CollectionsState) (again ops rest kept : List PendingOp)
    (usable : Bool) (was : All (λ t. t.stage ≤ given) again) (ahead : All (λ t. given < t.stage) ops) (op : Option TextOp)
    (gives : Gives first end tree new c d ops rest again kept op)
    (doc : Document) (front behind : List Stage) where
  on-elements : (mine : List Stage) → AreNext given first end front mine behind → IsTextSound last doc (front ++ (mine ++ behind))
      → HoldsGiven (state_of tree c (again ++ ops) given usable) doc front (mine ++ behind) → list_all (λ t. is_on_elements t.sub_operation) mine ≡ true
      → list_any (is_at_stage first) c.pending ≡ false → IsGiven doc front mine behind new d rest kept op
  on-elements mine next text holds on none =
      let e = gives.elements none in
      record {
        sends = ap (option_map Text) e.1 ∙ gives-op given first end front mine behind next order some doc on last text tree c again ops rest kept usable was ahead holds e.0 e.2;
        holds = λ more other. subst (λ x. HoldsGiven (state_of x d (kept ++ rest) more other) doc (front ++ mine) behind) (sym e.3)
            (subst (λ x. HoldsGiven (state_of tree x (kept ++ rest) more other) doc (front ++ mine) behind) (sym e.4)
            (gives-held given first end front mine behind next order some doc on last text tree c again ops rest kept usable was ahead holds e.0 e.2 more other));
        ahead = gives-rest given first end front mine behind next order some doc on last text tree c again ops rest kept usable was ahead holds e.0 e.2;
      }

  on-interval : (one : TextOp) (names : NamedElements)
      → AreNext given first end front (record { stage = first; sub_operation = OnIntervals one; names = names } ∷ []) behind
      → IsTextSound last doc (front ++ (record { stage = first; sub_operation = OnIntervals one; names = names } ∷ behind))
      → HoldsGiven (state_of tree c (again ++ ops) given usable) doc front (record { stage = first; sub_operation = OnIntervals one; names = names } ∷ behind)
      → list_any (is_at_stage first) c.pending ≡ true → IsGiven doc front (record { stage = first; sub_operation = OnIntervals one; names = names } ∷ []) behind new d rest kept op
  on-interval one names next text holds there =
      let edit : Stage = record { stage = first; sub_operation = OnIntervals one; names = names } in
      let e = gives.interval there in
      let gone = flat_map (carried_stage doc) front in
      let under = each-weaker (λ t l. less t.stage l) gone (low given first end front (edit ∷ []) behind next order some doc) in
      let over = each-weaker (λ t l. more t.stage l) behind (behind-from given first end front (edit ∷ []) behind next order some doc) in
      record {
        sends = ap (option_map Text) e.1 ∙ interval-op first one names front behind doc last under over text tree new c d (again ++ ops) given usable holds e.0 e.2 e.2.few;
        holds = λ n other. subst (λ os. HoldsGiven (state_of new d os n other) doc (front ++ (edit ∷ [])) behind) (ap (λ os. os ++ ops) (sym e.4) ∙ ap (λ os. kept ++ os) (sym e.3))
            (interval-held first one names front behind doc last under over text tree new c d (again ++ ops) given usable holds e.0 e.2 e.2.few n other);
        ahead = ap (map element_stage) e.3 ∙ (ops-split doc given again ops (element_stages gone) (element_stages behind) was ahead
            (each-filter (λ t. t.stage ≤ given) (λ t. is_on_elements t.sub_operation) gone (low given first end front (edit ∷ []) behind next order some doc))
            (each-filter (λ t. given < t.stage) (λ t. is_on_elements t.sub_operation) behind (each-weaker (λ t l. higher t.stage l) behind over))
            (holds.ops ∙ ap (map (indexed_stage doc)) (filter-append (λ t. is_on_elements t.sub_operation) gone (edit ∷ behind)))).1;
      }
    where
      less : (n : ℕ) → n ≤ given → n < first
      less n l = omega arith

      more : (n : ℕ) → end ≤ n → first < n
      more n l = omega arith

      higher : (n : ℕ) → first < n → given < n
      higher n l = omega arith

  pub is-given : (mine : List Stage) → AreNext given first end front mine behind → IsTextSound last doc (front ++ (mine ++ behind))
      → HoldsGiven (state_of tree c (again ++ ops) given usable) doc front (mine ++ behind) → IsGiven doc front mine behind new d rest kept op
  is-given mine next text holds =
      step (list_all (λ t. is_on_elements t.sub_operation) mine) (is_interval_at first mine) refl refl next.one
    where
      gone : List Stage
      gone = flat_map (carried_stage doc) front

      apart-low : (n : ℕ) → n ≤ given → n ≡ first → ⊥
      apart-low n l e = absurd (omega arith)

      apart-high : (n : ℕ) → end ≤ n → n ≡ first → ⊥
      apart-high n l e = absurd (omega arith)

      -- on elements none is pending
      none : list_all (λ t. is_on_elements t.sub_operation) mine ≡ true → list_any (is_at_stage first) c.pending ≡ false
      none on =
          same-any first tree doc c.pending (interval_stages gone ++ interval_stages behind)
          (holds.interval_ops ∙ ap (map (indexed_stage doc)) (interval-parts given first end front mine behind next order some doc on))
          ∙ none-at first (interval_stages gone ++ interval_stages behind)
          (each-append (λ (t : Stage). t.stage ≡ first → ⊥) (interval_stages gone) (interval_stages behind)
          (each-filter (λ t. t.stage ≡ first → ⊥) (λ t. is_on_intervals t.sub_operation) gone
          (each-weaker (λ t l. apart-low t.stage l) gone (low given first end front mine behind next order some doc)))
          (each-filter (λ t. t.stage ≡ first → ⊥) (λ t. is_on_intervals t.sub_operation) behind
          (each-weaker (λ t l. apart-high t.stage l) behind (behind-from given first end front mine behind next order some doc))))

      as-interval : IsOneInterval first mine → IsGiven doc front mine behind new d rest kept op
      as-interval i =
          let edit : Stage = record { stage = first; sub_operation = OnIntervals i.op; names = i.names } in
          let held = subst (λ ms. HoldsGiven (state_of tree c (again ++ ops) given usable) doc front (ms ++ behind)) i.is holds in
          let there = same-any first tree doc c.pending (interval_stages (gone ++ (edit ∷ behind))) held.interval_ops
          ∙ ap (list_any (λ u. nat_eq u.stage first)) (filter-append (λ t. is_on_intervals t.sub_operation) gone (edit ∷ behind))
          ∙ any-at first (interval_stages gone) edit (interval_stages behind) refl in
          subst (λ ms. IsGiven doc front ms behind new d rest kept op) (sym i.is)
          (on-interval i.op i.names (subst (λ ms. AreNext given first end front ms behind) i.is next)
          (subst (λ ms. IsTextSound last doc (front ++ (ms ++ behind))) i.is text) held there)

      step : (a b : Bool) → list_all (λ t. is_on_elements t.sub_operation) mine ≡ a → is_interval_at first mine ≡ b → is_one_edit first mine ≡ true
          → IsGiven doc front mine behind new d rest kept op
      step true b e f g = on-elements mine next text holds e (none e)
      step false true e f g = as-interval (one-interval first mine f)
      step false false e f g = absurd (neither (list_all (λ t. is_on_elements t.sub_operation) mine) (is_interval_at first mine) e f g)
        where
          neither : (a b : Bool) → a ≡ false → b ≡ false → a || b ≡ true → ⊥
          neither true b p q r = (cc)
          neither false true p q r = (cc)
          neither false false p q r = (cc)

-- ---- what is left

pub ops-from : (doc : Document) (k : ℕ) (os : List PendingOp) (us : List Stage) → Each (λ t. k < t.stage) us → AreOps doc os us → All (λ t. k < t.stage) os
ops-from doc k [] us h e = All-nil (λ (t : PendingOp). k < t.stage)
ops-from doc k (o ∷ os) [] h e = (cc)
ops-from doc k (o ∷ os) (u ∷ us) h e =
    let head : element_stage o ≡ indexed_stage doc u = (cc) in
    let rest : AreOps doc os us = (cc) in
    let same : o.stage ≡ u.stage = ap (λ (x : IndexedStage). x.stage) head in
    All-cons (λ (t : PendingOp). k < t.stage) o os (let up = h.0 in omega arith) (ops-from doc k os us h.1 rest)

module _ (P : PendingOp → Type 0) where
  all-filter : (test : PendingOp → Bool) (os : List PendingOp) → All P os → All P (filter test os)
  all-filter test [] h = All-nil P
  all-filter test (o ∷ os) h = step (test o) (all-filter test os (All-tail P o os h))
    where
      step : (b : Bool) → All P (filter test os) → All P (cond b (o ∷ filter test os) (filter test os))
      step true r = All-cons P o (filter test os) (All-head P o os h) r
      step false r = r

  all-append : (os ps : List PendingOp) → All P os → All P ps → All P (os ++ ps)
  all-append [] ps h g = g
  all-append (o ∷ os) ps h g = All-cons P o (os ++ ps) (All-head P o os h) (all-append os ps (All-tail P o os h) g)

due-low : (end : ℕ) (os : List PendingOp) → All (λ t. t.stage ≤ end - 1) (due end os)
due-low end [] = All-nil (λ (t : PendingOp). t.stage ≤ end - 1)
due-low end (o ∷ os) = step (nat_lt o.stage end) refl (due-low end os)
  where
    low-is : nat_lt o.stage end ≡ true → o.stage ≤ end - 1
    low-is e = let l : o.stage < end = grind (arith, nat_tests) in omega arith

    step : (b : Bool) → nat_lt o.stage end ≡ b → All (λ t. t.stage ≤ end - 1) (due end os) → All (λ t. t.stage ≤ end - 1) (cond b (o ∷ due end os) [])
    step true e r = All-cons (λ (t : PendingOp). t.stage ≤ end - 1) o (due end os) (low-is e) r
    step false e r = All-nil (λ (t : PendingOp). t.stage ≤ end - 1)

all-lower : (m n : ℕ) → m ≤ n → (os : List PendingOp) → All (λ t. t.stage ≤ m) os → All (λ t. t.stage ≤ n) os
all-lower m n l [] h = All-nil (λ (t : PendingOp). t.stage ≤ n)
all-lower m n l (o ∷ os) h =
    let here = All-head (λ (t : PendingOp). t.stage ≤ m) o os h in
    All-cons (λ (t : PendingOp). t.stage ≤ n) o os (omega arith) (all-lower m n l os (All-tail (λ (t : PendingOp). t.stage ≤ m) o os h))

-- what goes on is of stages that were given
module _ (given first end : ℕ) (order : given < first) (some : first < end) (tree new : TreeState TextContent) (c d : CollectionsState) (again ops rest kept : List PendingOp) (op : Option TextOp)
    (gives : Gives first end tree new c d ops rest again kept op) where
  pub kept-low : All (λ t. t.stage ≤ given) again → All (λ t. t.stage ≤ end - 1) kept
  kept-low was = step (list_any (is_at_stage first) c.pending) refl
    where
      before : All (λ t. t.stage ≤ end - 1) again
      before = all-lower given (end - 1) (omega arith) again was

      step : (b : Bool) → list_any (is_at_stage first) c.pending ≡ b → All (λ t. t.stage ≤ end - 1) kept
      step true e = subst (λ os. All (λ (t : PendingOp). t.stage ≤ end - 1) os) (sym (gives.interval e).4) before
      step false e =
          let g = gives.elements e in
          subst (λ os. All (λ (t : PendingOp). t.stage ≤ end - 1) os) (sym g.2.keeps)
          (all-append (λ (t : PendingOp). t.stage ≤ end - 1) again (filter (has_piece (text_elements tree)) (due end ops)) before
          (all-filter (λ (t : PendingOp). t.stage ≤ end - 1) (has_piece (text_elements tree)) (due end ops) (due-low end ops)))

  pub given-sound : AreSound tree c → AreSound new d
  given-sound sound = step (list_any (is_at_stage first) c.pending) refl
    where
      step : (b : Bool) → list_any (is_at_stage first) c.pending ≡ b → AreSound new d
      step true e = let g = gives.interval e in kept-sound tree new c d sound g.2.leaves g.2.refs
      step false e = let g = gives.elements e in same-sound tree new c d sound g.4 g.3

from-end : (end : ℕ) (us : List Stage) → AreFrom end us → 0 < end → Each (λ t. end - 1 < t.stage) us
from-end end [] h l = tt
from-end end (u ∷ us) h l =
    (let up = All-head (λ (t : Stage). end ≤ t.stage) u us h in omega arith, from-end end us (All-tail (λ (t : Stage). end ≤ t.stage) u us h) l)

pub given-ahead : (end : ℕ) (doc : Document) (front mine behind : List Stage) (new : TreeState TextContent) (d : CollectionsState)
    (rest kept : List PendingOp) (op : Option TextOp)
    → 0 < end → AreFrom end behind → IsGiven doc front mine behind new d rest kept op → All (λ t. end - 1 < t.stage) rest
given-ahead end doc front mine behind new d rest kept op l from h =
    ops-from doc (end - 1) rest (element_stages behind) (each-filter (λ t. end - 1 < t.stage) (λ t. is_on_elements t.sub_operation) behind (from-end end behind from l)) h.ahead

-- no stage stands between equal numbers
pub none-within : (first end : ℕ) (mine : List Stage) → end ≤ first → AreWithin first end mine → mine ≡ []
none-within first end [] l h = refl
none-within first end (t ∷ ts) l h =
    let here = All-head (λ (u : Stage). (first ≤ u.stage) × (u.stage < end) × (is_on_text u.sub_operation ≡ true)) t ts h in
    let low = here.0 in let high = here.1 in absurd (omega arith)

pub finds-pending : (k : ℕ) (ps : List Operation) → list_any (is_at_stage k) ps ≡ true → IsSome (operation_at k ps)
finds-pending k [] h = (cc)
finds-pending k (p ∷ ps) h = step (is_at_stage k p) h (λ g. finds-pending k ps g)
  where
    step : (b : Bool) → b || list_any (is_at_stage k) ps ≡ true → (list_any (is_at_stage k) ps ≡ true → IsSome (operation_at k ps))
        → IsSome (cond b (Some p) (operation_at k ps))
    step true g f = refl
    step false g f = f g

-- nothing was given
pub given-nothing : (tree : TreeState TextContent) (c : CollectionsState) (ops : List PendingOp) (given more : ℕ) (usable other : Bool)
    (doc : Document) (front mine behind : List Stage)
    → mine ≡ [] → HoldsGiven (state_of tree c ops given usable) doc front (mine ++ behind)
    → HoldsGiven (state_of tree c ops more other) doc (front ++ mine) behind
given-nothing tree c ops given more usable other doc front mine behind none h =
    holds-any tree c ops given more usable other doc (flat_map (carried_stage doc) (front ++ mine) ++ behind)
    (subst (λ ms. HoldsText (state_of tree c ops given usable) doc (flat_map (carried_stage doc) (front ++ ms) ++ behind)) (sym none)
    (subst (λ us. HoldsText (state_of tree c ops given usable) doc (flat_map (carried_stage doc) us ++ behind)) (sym (append-nil front))
    (subst (λ ms. HoldsText (state_of tree c ops given usable) doc (flat_map (carried_stage doc) front ++ (ms ++ behind))) none h)))
