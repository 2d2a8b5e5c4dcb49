-- The elements of each pending stage stand side by side also in a compacted list.
use Rattle.std.proofs.Common.{◌≡◌, ℕ, suc, Bool, true, false, cond, not, ◌||◌, List, refl, sym, ◌∙◌, ap, subst}
use Rattle.std.specs.List.{list_any}
use Rattle.ft_base.specs.declared.stamps.Stamp.{Stamp}
use Rattle.ft_base.specs.declared.stamps.Stamp.TheVariants.{Acked, Local}
use Rattle.ft_base.specs.Visibility.{has_occurred_at_stage}
use Rattle.ft_props.specs.Element.{ElementId, ListElement}
use Rattle.ft_props.specs.Compaction.{Keeps, is_insertion_at_or_below}
use Rattle.ft_props.specs.Steps.{is_inserted_by}
use Rattle.ft_props.proofs.AcknowledgedInsertion.{element_up_to, list_up_to}
use Rattle.ft_laws_agreement.proofs.Booleans.{hidden}
use Rattle.ft_laws_agreement.proofs.CompactedScans.{Alike}
use Rattle.ft_laws_agreement.proofs.SideBySideStages.{AllRuns, is_one_run, none-runs_on, runs_on}
use Rattle.ft_laws_compaction.proofs.Acknowledged.{inserted-alike}
use Rattle.ft_laws_compaction.proofs.KeptLists.{Leaves, Renaming, ends, folded, goes, leaves-retained, leaves-same, stays}

-- one element more in front of both, marked or not
run-more : (b : Bool) {p q m n : Bool} → (p ≡ true → q ≡ true) → (m ≡ true → n ≡ true) → cond b p m ≡ true → cond b q n ≡ true
run-more true f g h = f h
run-more false f g h = g h

module _ {floor : ℕ} (is : ListElement → Bool) (h : Alike floor (λ _. false) is) where
  any-leaves : {ks xs : List ListElement} → Leaves floor ks xs → list_any is ks ≡ list_any is xs
  any-leaves ends = refl
  any-leaves (stays {e = e} k) = ap (λ b. is e || b) (any-leaves k)
  any-leaves (folded {e = e} f k) = rw (h.old e f) (ap (λ b. is e || b) (any-leaves k))
  any-leaves (goes {e = e} g k) = rw (h.gone e g refl) (any-leaves k)

  runs-leaves : {ks xs : List ListElement} → Leaves floor ks xs → runs_on is xs ≡ true → runs_on is ks ≡ true
  runs-leaves ends r = refl
  runs-leaves (stays {e = e} k) r = run-more (is e) (runs-leaves k) (λ q. ap not (any-leaves k) ∙ q) r
  runs-leaves (folded {e = e} {ks = ks} f k) r =
      subst (λ b. cond b (runs_on is ks) (not (list_any is ks)) ≡ true) (sym (h.old e f)) (run-more (is e) (runs-leaves k) (λ q. ap not (any-leaves k) ∙ q) r)
  runs-leaves (goes {e = e} {ks = ks} {xs = xs} g k) r =
      let absent : not (list_any is xs) ≡ true = subst (λ b. cond b (runs_on is xs) (not (list_any is xs)) ≡ true) (h.gone e g refl) r in
      none-runs_on is ks (any-leaves k ∙ hidden (list_any is xs) absent)

  pub run-leaves : {ks xs : List ListElement} → Leaves floor ks xs → is_one_run is xs ≡ true → is_one_run is ks ≡ true
  run-leaves ends r = refl
  run-leaves (stays {e = e} k) r = run-more (is e) (runs-leaves k) (run-leaves k) r
  run-leaves (folded {e = e} {ks = ks} f k) r =
      subst (λ b. cond b (runs_on is ks) (is_one_run is ks) ≡ true) (sym (h.old e f)) (run-more (is e) (runs-leaves k) (run-leaves k) r)
  run-leaves (goes {e = e} {xs = xs} g k) r = run-leaves k (subst (λ b. cond b (runs_on is xs) (is_one_run is xs) ≡ true) (h.gone e g refl) r)

-- the list up to a stage
up_to-renames : (floor j : ℕ) → Renaming floor (element_up_to j)
up_to-renames floor j = record { gone = λ e g. g; old = λ e f. (refl, f) }

up_to-leaves : {floor : ℕ} (j : ℕ) {ks xs : List ListElement} → Leaves floor ks xs → Leaves floor (list_up_to j ks) (list_up_to j xs)
up_to-leaves {floor} j k = leaves-retained (λ e. has_occurred_at_stage j e.ins) (element_up_to j) (up_to-renames floor j) (λ e f. by_stamp e.ins f) k
  where
    by_stamp : (t : Stamp) → is_insertion_at_or_below floor t ≡ true → has_occurred_at_stage j (Acked 0 0) ≡ has_occurred_at_stage j t
    by_stamp (Acked s c) f = refl
    by_stamp (Local i) f = (cc)

pub runs-kept : {floor : ℕ} {held : ElementId → Bool} {ks xs : List ListElement} → Keeps floor held ks xs → AllRuns xs → AllRuns ks
runs-kept {floor} k r j = run-leaves (is_inserted_by (suc j)) (inserted-alike floor (suc j) (λ _. false)) (up_to-leaves (suc j) (leaves-same k)) (r j)
