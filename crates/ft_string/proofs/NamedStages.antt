-- Of which intervals an operation is, and what is pending: by names here, by the stages there.
use Rattle.std.proofs.Common.{◌≡◌, Bool, true, false, cond, ◌&&◌, ◌||◌, List, [], ◌∷◌, refl, sym, ◌∙◌, ap, filter, map}
use Rattle.std.specs.List.{list_any}
use Rattle.std.specs.Ordering.{is_eq, ordering_reverse, ordering_then}
use Rattle.std.specs.declared.cmp.Ordering.{Ordering}
use Rattle.std.specs.declared.cmp.Ordering.TheVariants.{Less, Equal, Greater}
use Rattle.std.proofs.lemmas.Cmp.{nat_list_cmp_total}
use Rattle.ft_props.specs.Keys.{Characters, text_cmp}
use Rattle.ft_op.specs.declared.operations.ChannelOp.{ChannelOp}
use Rattle.ft_op.specs.declared.operations.ChannelOp.TheVariants.{Grid, Text}
use Rattle.ft_op.specs.declared.operations.TextOp.{TextOp}
use Rattle.ft_op.specs.declared.operations.TextOp.TheVariants.{Group, IntervalAdd, IntervalChange, IntervalDelete, One}
use Rattle.ft_op.specs.Document.{Document}
use Rattle.ft_op.specs.Operation.{OnGrid, OnIntervals, OnText, SubOperation, sub_operations}
use Rattle.ft_op.specs.Stages.{Stage}
use Rattle.ft_sumdoc.specs.declared.summary.IntervalRec.{IntervalRec}
use Rattle.ft_msg.specs.Indexed.{IndexedStage, indexed_stage}
use Rattle.ft_msg.specs.Overlap.{is_on_intervals}
use Rattle.ft_changes.specs.Beside.{changes_interval, is_changed_by, is_named, is_operation_on as is_of}
use Rattle.ft_changes.proofs.NamedIntervals.{changed_by_grid, changed_by_text}
use Rattle.ft_interval_store.specs.declared.pending.Operation.{Operation}
use Rattle.ft_interval_store.specs.Ends.{References}
use Rattle.ft_interval_store.specs.Gathered.{is_on_any}
use Rattle.ft_interval_store.specs.Intervals.{is_on, name_cmp}
use Rattle.ft_interval_store.specs.Named.{is_operation_on, name_of_record}
use Rattle.ft_interval_store.specs.State.{placed_operations}
use Rattle.ft_string.specs.Holds.{interval_stages}
use Rattle.ft_string.specs.State.{interval_stage}

-- ---- names

both-equal : (o p : Ordering) → is_eq (ordering_then o p) ≡ is_eq o && is_eq p
both-equal Less p = refl
both-equal Equal p = refl
both-equal Greater p = refl

turned-equal : (o : Ordering) → is_eq (ordering_reverse o) ≡ is_eq o
turned-equal Less = refl
turned-equal Equal = refl
turned-equal Greater = refl

text-turned : (a b : Characters) → is_eq (text_cmp a b) ≡ is_eq (text_cmp b a)
text-turned a b = ap is_eq (nat_list_cmp_total.antisymm a b) ∙ turned-equal (text_cmp b a)

named-alike : (label id : Characters) (i : IntervalRec) → is_eq (name_cmp (name_of_record i) (label, id)) ≡ is_named label id i
named-alike label id i =
    both-equal (text_cmp i.label label) (text_cmp i.id id)
    ∙ ap (λ b. b && is_eq (text_cmp i.id id)) (text-turned i.label label)
    ∙ ap (λ b. is_eq (text_cmp label i.label) && b) (text-turned i.id id)

on-alike : (op : TextOp) (i : IntervalRec) → is_on (name_of_record i) op ≡ is_of op i
on-alike (One op) i = refl
on-alike (Group ops) i = refl
on-alike (IntervalAdd label id ends props) i = named-alike label id i
on-alike (IntervalChange label id ends props) i = named-alike label id i
on-alike (IntervalDelete label id) i = named-alike label id i

-- ---- the operation

pub operation-alike : (op : ChannelOp) (i : IntervalRec) → is_operation_on (name_of_record i) op ≡ is_changed_by (sub_operations op) i
operation-alike (Text op) i = on-alike op i ∙ changed_by_text op i
operation-alike (Grid op) i = changed_by_grid op i

-- ---- what is pending

module _ (i : IntervalRec) where
  abbrev any_of : List IndexedStage → Bool
  any_of ts = list_any (changes_interval i) (map (λ (t : IndexedStage). t.sub_operation) ts)

  operations-alike : (refs : References) (ts : List Operation) → is_on_any (name_of_record i) ts ≡ any_of (map interval_stage (placed_operations refs ts))
  operations-alike refs [] = refl
  operations-alike refs (t ∷ ts) =
      ap (λ b. b || is_on_any (name_of_record i) ts) (on-alike t.op i) ∙ ap (λ b. is_of t.op i || b) (operations-alike refs ts)

  stages-alike : (doc : Document) (stages : List Stage) → any_of (map (indexed_stage doc) (interval_stages stages))
      ≡ is_changed_by (map (λ (t : Stage). t.sub_operation) stages) i
  stages-alike doc [] = refl
  stages-alike doc (t ∷ stages) = by t.sub_operation refl (stages-alike doc stages)
    where
      by : (o : SubOperation) → t.sub_operation ≡ o
          → any_of (map (indexed_stage doc) (interval_stages stages)) ≡ is_changed_by (map (λ (t : Stage). t.sub_operation) stages) i
          → any_of (map (indexed_stage doc) (cond (is_on_intervals t.sub_operation) (t ∷ interval_stages stages) (interval_stages stages)))
          ≡ changes_interval i t.sub_operation || is_changed_by (map (λ (t : Stage). t.sub_operation) stages) i
      by (OnText op) e ih =
          ap (λ p. any_of (map (indexed_stage doc) (cond (is_on_intervals p) (t ∷ interval_stages stages) (interval_stages stages)))) e
          ∙ ih ∙ sym (ap (λ p. changes_interval i p || is_changed_by (map (λ (t : Stage). t.sub_operation) stages) i) e)
      by (OnGrid op) e ih =
          ap (λ p. any_of (map (indexed_stage doc) (cond (is_on_intervals p) (t ∷ interval_stages stages) (interval_stages stages)))) e
          ∙ ih ∙ sym (ap (λ p. changes_interval i p || is_changed_by (map (λ (t : Stage). t.sub_operation) stages) i) e)
      by (OnIntervals op) e ih =
          ap (λ p. any_of (map (indexed_stage doc) (cond (is_on_intervals p) (t ∷ interval_stages stages) (interval_stages stages)))) e
          ∙ ap (λ b. changes_interval i t.sub_operation || b) ih

  pub pending-alike : (refs : References) (doc : Document) (ts : List Operation) (stages : List Stage)
      → map interval_stage (placed_operations refs ts) ≡ map (indexed_stage doc) (interval_stages stages)
      → is_on_any (name_of_record i) ts ≡ is_changed_by (map (λ (t : Stage). t.sub_operation) stages) i
  pending-alike refs doc ts stages e = operations-alike refs ts ∙ ap any_of e ∙ stages-alike doc stages

-- ---- filters

pub filter-alike : {A : Type 0} (f g : A → Bool) → ((x : A) → f x ≡ g x) → (xs : List A) → filter f xs ≡ filter g xs
filter-alike f g same [] = refl
filter-alike f g same (x ∷ xs) =
    ap (λ b. cond b (x ∷ filter f xs) (filter f xs)) (same x) ∙ ap (λ ys. cond (g x) (x ∷ ys) ys) (filter-alike f g same xs)

pub swapped : (a b : Bool) → a || b ≡ b || a
swapped true true = refl
swapped true false = refl
swapped false true = refl
swapped false false = refl
