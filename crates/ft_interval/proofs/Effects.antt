-- The indexes beside an operation that takes effect: they are out of step with its interval alone, whose ends are within the list.
use Rattle.std.proofs.Common.{◌≡◌, ℕ, Bool, true, false, is_some, List, [], ◌∷◌, Option, None, Some, Result, Ok, Err, length, refl, sym, ◌∙◌, ap, subst}
use Rattle.std.specs.Prelude.{IfSome, OnOk}
use Rattle.std.specs.Option.{unwrap_or}
use Rattle.ft_op.specs.declared.operations.TextOp.{TextOp}
use Rattle.ft_tree_leaves.specs.declared.text.TextContent.{TextContent}
use Rattle.ft_tree.specs.State.{TreeState}
use Rattle.ft_interval_store.specs.declared.intervals.EndPair.{EndPair}
use Rattle.ft_interval_store.specs.declared.intervals.Interval.{Interval}
use Rattle.ft_interval_store.specs.declared.pending.Operation.{Operation}
use Rattle.ft_interval_store.specs.Ends.{References, map_ends, places_of_ends, slid_end}
use Rattle.ft_interval_store.specs.Intervals.{NamesRise, after_operation}
use Rattle.ft_interval_store.specs.State.{AreOwnEnds, CollectionsState, IsAfter, IsAfterFirst, IsFirst, IsLive, KeepsReferences, ends_of_name, first_operation, placed, placed_intervals, text_elements, with_effect, with_first_acked}
use Rattle.ft_interval_index.specs.Indexes.{LabelIndex, AreEndsWithin, AreListed, ends_but}
use Rattle.ft_interval_index.proofs.Listed.{some-is}
use Rattle.ft_interval.proofs.ListedEffects.{ends-listed, ends-within, listed-after}

-- three facts of a good end give another one
pub three-ok : {A E P Q R S : Type 0} (r : Result A E) → (P → Q → R → S) → OnOk r P → OnOk r Q → OnOk r R → OnOk r S
three-ok (Ok a) f p q r = f p q r
three-ok (Err e) f p q r = tt

module _ (tree new : TreeState TextContent) (c d : CollectionsState) (op : TextOp) (idx out : List LabelIndex) (names : NamesRise c.acked)
    (rest : new ≡ record tree { refs = new.refs })
    (listed : AreListed (length (text_elements tree)) tree.refs (λ m. ends_of_name m c.acked) idx)
    (off : AreListed (length (text_elements tree)) tree.refs (ends_but op c.acked) out) where
  same-length : length (text_elements tree) ≡ length (text_elements new)
  same-length = ap (λ (t : TreeState TextContent). length (text_elements t)) (sym rest)

  module _ (places : EndPair ℕ) (after : IsAfter op c.acked d.acked)
      (effect : placed_intervals new.refs d.acked ≡ after_operation op (map_ends (slid_end (text_elements tree)) places) (placed_intervals tree.refs c.acked)) where
    pub out-after : AreListed (length (text_elements new)) new.refs (ends_but op d.acked) out
    out-after = subst (λ (k : ℕ). AreListed k new.refs (ends_but op d.acked) out) same-length
        (listed-after (text_elements tree) tree.refs new.refs c.acked d.acked op places names after effect (length (text_elements tree)) out off)

    pub within-after : AreEndsWithin (length (text_elements new)) new.refs op d.acked
    within-after = subst (λ (k : ℕ). AreEndsWithin k new.refs op d.acked) same-length
        (ends-within (text_elements tree) tree.refs new.refs c.acked d.acked op places names after effect idx listed)

  -- ---- an operation of another client, which fits or changes nothing

  module _ (fits : Bool) (places : EndPair ℕ)
      (effect : fits ≡ true → placed new.refs d ≡ with_effect op (map_ends (slid_end (text_elements tree)) places) (placed tree.refs c))
      (after : fits ≡ true → IsAfter op c.acked d.acked) (misfit : fits ≡ false → (d ≡ c) × (new ≡ tree)) where
    pub live-applied : (fits ≡ true → KeepsReferences c d tree.refs new.refs) → IsLive tree.refs c → IsLive new.refs d
    live-applied refs live = by fits refl
      where
        by : (b : Bool) → fits ≡ b → IsLive new.refs d
        by true e = (refs e).live
        by false e = subst (λ (t : TreeState TextContent). IsLive t.refs d) (sym (misfit e).1) (subst (λ (x : CollectionsState). IsLive tree.refs x) (sym (misfit e).0) live)

    pub out-applied : AreListed (length (text_elements new)) new.refs (ends_but op d.acked) out
    out-applied = by fits refl
      where
        by : (b : Bool) → fits ≡ b → AreListed (length (text_elements new)) new.refs (ends_but op d.acked) out
        by true e = out-after places (after e) (ap (λ (x : CollectionsState). x.acked) (effect e))
        by false e =
            subst (λ (t : TreeState TextContent). AreListed (length (text_elements t)) t.refs (ends_but op d.acked) out) (sym (misfit e).1)
            (subst (λ (x : CollectionsState). AreListed (length (text_elements tree)) tree.refs (ends_but op x.acked) out) (sym (misfit e).0) off)

    pub within-applied : AreEndsWithin (length (text_elements new)) new.refs op d.acked
    within-applied = by fits refl
      where
        by : (b : Bool) → fits ≡ b → AreEndsWithin (length (text_elements new)) new.refs op d.acked
        by true e = within-after places (after e) (ap (λ (x : CollectionsState). x.acked) (effect e))
        by false e =
            subst (λ (t : TreeState TextContent). AreEndsWithin (length (text_elements t)) t.refs op d.acked) (sym (misfit e).1)
            (subst (λ (x : CollectionsState). AreEndsWithin (length (text_elements tree)) tree.refs op x.acked) (sym (misfit e).0)
            (ends-listed (length (text_elements tree)) tree.refs op c.acked idx listed))

-- the ends of its interval are what it told, or where it changed nothing those from before
pub own-applied : (tree new : TreeState TextContent) (c d : CollectionsState) (op : TextOp) (now : Option (EndPair ℕ)) (had : EndPair ℕ)
    → IfSome now (AreOwnEnds op d.acked) → (is_some now ≡ false → (d ≡ c) × (new ≡ tree)) → AreOwnEnds op c.acked had
    → AreOwnEnds op d.acked (unwrap_or now had)
own-applied tree new c d op None had told misfit own = subst (λ (x : CollectionsState). AreOwnEnds op x.acked had) (sym (misfit refl).0) own
own-applied tree new c d op (Some ends) had told misfit own = told

-- ---- the first pending operation

-- what it makes of the acknowledged intervals
pub record TakesFirst (op : TextOp) (g : EndPair ℕ → EndPair ℕ) (before after : References) (old new : List (Interval ℕ)) : Type 0 where
  pub places : EndPair ℕ
  pub effect : placed_intervals after new ≡ after_operation op (g places) (placed_intervals before old)
  pub taken : IsAfter op old new

module _ (op : TextOp) (g : EndPair ℕ → EndPair ℕ) (before after : References) (acked : List (Interval ℕ)) (d : CollectionsState) where
  abbrev with_pending : List Operation → CollectionsState
  with_pending ts = record { acked = acked; pending = ts }

  takes-of : (ts : List Operation) → first_operation ts ≡ Some op → IsAfterFirst ts acked d.acked
      → placed after d ≡ with_first_acked g (placed before (with_pending ts))
      → TakesFirst op g before after acked d.acked
  takes-of [] h a e = absurd a
  takes-of (t ∷ ts) h a e =
      let same : t.op ≡ op = some-is h in
      record {
        places = places_of_ends before t.ends;
        effect = ap (λ (x : CollectionsState). x.acked) e ∙ ap (λ (o : TextOp). after_operation o (g (places_of_ends before t.ends)) (placed_intervals before acked)) same;
        taken = subst (λ (o : TextOp). IsAfter o acked d.acked) same a;
      }

pub takes-first : (op : TextOp) (g : EndPair ℕ → EndPair ℕ) (before after : References) (c d : CollectionsState) → first_operation c.pending ≡ Some op
    → IsAfterFirst c.pending c.acked d.acked → placed after d ≡ with_first_acked g (placed before c) → TakesFirst op g before after c.acked d.acked
takes-first op g before after c d h a e = takes-of op g before after c.acked d c.pending h a e

-- it is one alone
pub same-first : (ts : List Operation) (a b : TextOp) → first_operation ts ≡ Some a → first_operation ts ≡ Some b → a ≡ b
same-first ts a b p q = some-is (sym p ∙ q)

-- where one is first there is one
pub first-there : (k : ℕ) (acked : List (Interval ℕ)) (ts : List Operation) → first_operation ts ≡ None
    → (let c : CollectionsState = record { acked = acked; pending = ts } in IsFirst k c) → ⊥
first-there k acked [] none first = first
first-there k acked (t ∷ ts) none first = absurd cc
