-- Pending units that were put in afresh are those of the stages, and those of each stage stand together.
use Rattle.std.proofs.Common.{◌≡◌, ℕ, zero, suc, ◌<◌, Bool, true, false, cond, List, [], ◌∷◌, None, Some, refl, sym, ◌∙◌, ap, subst, filter, arith}
use Rattle.std.specs.List.{AllByRecursion, list_any}
use Rattle.std.proofs.lemmas.Bool.Decides.{nat_tests}
use Rattle.ft_base.specs.declared.stamps.Stamp.{Stamp}
use Rattle.ft_base.specs.declared.stamps.Stamp.TheVariants.{Acked, Local}
use Rattle.ft_base.specs.Scan.{no_run, retain_map}
use Rattle.ft_base.specs.Visibility.{is_acked, is_of_stage}
use Rattle.ft_laws_names.specs.GridFacts.{is_stamp_below}
use Rattle.ft_named.proofs.RebuiltSteps.{stamps_in}
use Rattle.ft_rebase.specs.Normalised.{carried_element, rebuilt_list, without_pending}
use Rattle.ft_rebase.specs.StageLists.{inserted_by, next_position, seen_by, sequenced, with_stages}
use Rattle.ft_tree_leaves.specs.Elements.{TreeElement}
use Rattle.ft_matrix.specs.declared.stages.GridStage.{GridStage}
use Rattle.ft_matrix.specs.Sound.{ArePending, IsOfStages, StandTogether}
use Rattle.ft_matrix.proofs.PendingRuns.{acked-together, pend, put-together, stage_in}
use Rattle.ft_matrix.proofs.RebuiltUnits.{all-rebuilt}
use Rattle.ft_matrix.proofs.SoundVectors.{all-put, all-weaker}
use Rattle.ft_matrix.proofs.PendingStages.{same-stage}

sequenced-bare : (es : List (TreeElement ℕ)) → AllByRecursion (λ (e : TreeElement ℕ). pend e ≡ None) (retain_map (sequenced stamps_in) carried_element es)
sequenced-bare [] = tt
sequenced-bare (e ∷ es) = step (is_acked e.stamps.ins) refl (sequenced-bare es)
  where
    none : (t : Stamp) → is_acked t ≡ true → stage_in t ≡ None
    none (Acked s c) h = refl
    none (Local k) h = (cc)

    same : (b : Bool) → pend (cond b (without_pending e) e) ≡ pend e
    same true = refl
    same false = refl

    step : (b : Bool) → is_acked e.stamps.ins ≡ b → AllByRecursion (λ (x : TreeElement ℕ). pend x ≡ None) (retain_map (sequenced stamps_in) carried_element es)
        → AllByRecursion (λ (x : TreeElement ℕ). pend x ≡ None)
        (cond b (carried_element e ∷ retain_map (sequenced stamps_in) carried_element es) (retain_map (sequenced stamps_in) carried_element es))
    step true h r = (same (list_any is_acked e.stamps.dels) ∙ none e.stamps.ins h, r)
    step false h r = r

of-stage : (k : ℕ) (es : List (TreeElement ℕ)) → AllByRecursion (λ (e : TreeElement ℕ). pend e ≡ Some k) (filter (inserted_by stamps_in k) es)
of-stage k [] = tt
of-stage k (e ∷ es) = step (inserted_by stamps_in k e) refl (of-stage k es)
  where
    some : (t : Stamp) → is_of_stage k t ≡ true → stage_in t ≡ Some k
    some (Acked s c) h = (cc)
    some (Local j) h = ap Some (same-stage j k h)

    step : (b : Bool) → inserted_by stamps_in k e ≡ b → AllByRecursion (λ (x : TreeElement ℕ). pend x ≡ Some k) (filter (inserted_by stamps_in k) es)
        → AllByRecursion (λ (x : TreeElement ℕ). pend x ≡ Some k) (cond b (e ∷ filter (inserted_by stamps_in k) es) (filter (inserted_by stamps_in k) es))
    step true h r = (some e.stamps.ins h, r)
    step false h r = r

none-below : (k : ℕ) (t : Stamp) → stage_in t ≡ None → is_stamp_below k t ≡ true
none-below k (Acked s c) h = refl
none-below k (Local j) h = (cc)

some-below : (k j : ℕ) (t : Stamp) → stage_in t ≡ Some j → j < k → is_stamp_below k t ≡ true
some-below k j (Acked s c) h l = refl
some-below k j (Local i) h l = (let same : i ≡ j = (cc) in grind (arith, nat_tests, same, l))

later-below : (k : ℕ) (t : Stamp) → is_stamp_below k t ≡ true → is_stamp_below (suc k) t ≡ true
later-below k (Acked s c) h = refl
later-below k (Local j) h = grind (arith, nat_tests)

module _ (es : List (TreeElement ℕ)) where
  abbrev afresh : ℕ → List (TreeElement ℕ)
  afresh k = with_stages stamps_in es (retain_map (sequenced stamps_in) carried_element es) k

  afresh-below : (k : ℕ) → AllByRecursion (λ (e : TreeElement ℕ). is_stamp_below (suc k) e.stamps.ins ≡ true) (afresh k)
  afresh-below zero = all-weaker (λ (e : TreeElement ℕ). pend e ≡ None) (λ (e : TreeElement ℕ). is_stamp_below 1 e.stamps.ins ≡ true)
      (λ e h. none-below 1 e.stamps.ins h) (afresh zero) (sequenced-bare es)
  afresh-below (suc k) = all-put (λ (e : TreeElement ℕ). is_stamp_below (suc (suc k)) e.stamps.ins ≡ true) no_run (filter (inserted_by stamps_in (suc k)) es)
      (all-weaker (λ (e : TreeElement ℕ). pend e ≡ Some (suc k)) (λ (e : TreeElement ℕ). is_stamp_below (suc (suc k)) e.stamps.ins ≡ true)
      (λ e h. some-below (suc (suc k)) (suc k) e.stamps.ins h (omega arith)) (filter (inserted_by stamps_in (suc k)) es) (of-stage (suc k) es))
      (seen_by stamps_in k) (next_position stamps_in k es) (afresh k)
      (all-weaker (λ (e : TreeElement ℕ). is_stamp_below (suc k) e.stamps.ins ≡ true) (λ (e : TreeElement ℕ). is_stamp_below (suc (suc k)) e.stamps.ins ≡ true)
      (λ e h. later-below (suc k) e.stamps.ins h) (afresh k) (afresh-below k))

  afresh-together : (k : ℕ) → StandTogether (afresh k)
  afresh-together zero = acked-together (afresh zero) (sequenced-bare es)
  afresh-together (suc k) = put-together (suc k) (filter (inserted_by stamps_in (suc k)) es) (of-stage (suc k) es) (seen_by stamps_in k)
      (next_position stamps_in k es) (afresh k) (afresh-below k) (afresh-together k)

pub rebuilt-pending : (ts : List GridStage) (last : ℕ) (es us : List (TreeElement ℕ)) → us ≡ rebuilt_list last es → ArePending ts es → ArePending ts us
rebuilt-pending ts last es us e h = subst (ArePending ts) (sym e) (record {
  together = afresh-together es last;
  own = all-rebuilt (λ (x : TreeElement ℕ). IsOfStages ts x.stamps.ins) (λ x g. stays (list_any is_acked x.stamps.dels) x g) last es h.own;
})
  where
    stays : (b : Bool) (x : TreeElement ℕ) → IsOfStages ts x.stamps.ins → IsOfStages ts (cond b (without_pending x) x).stamps.ins
    stays true x g = g
    stays false x g = g
