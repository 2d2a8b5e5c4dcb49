-- What is sent again of a pending stage, of any content: where its elements stand in the tree's list, and which runs it marks there, is told
-- by the document's list.
use Rattle.std.proofs.Common.{◌≡◌, ℕ, ◌-◌, Bool, true, false, cond, ◌&&◌, ◌||◌, nat_eq, List, [], ◌∷◌, ◌++◌, Option, Some, None, refl, ◌∙◌, ap}
use Rattle.std.specs.List.{list_all, list_any}
use Rattle.ft_base.specs.declared.stamps.Stamp.{Stamp}
use Rattle.ft_base.specs.declared.stamps.Stamp.TheVariants.{Acked, Local}
use Rattle.ft_base.specs.declared.elements.Element.{Element as ElementStamps}
use Rattle.ft_base.specs.Scan.{one_more_if, rank}
use Rattle.ft_base.specs.Visibility.{is_acked, is_of_stage}
use Rattle.ft_block.specs.declared.leaves.LenView.TheVariants.{Stage}
use Rattle.ft_tree_leaves.specs.Elements.{TreeElement, seen_in}
use Rattle.ft_props.specs.declared.properties.Changes.{Changes as ChangesOf}
use Rattle.ft_props.specs.Element.{ElementContent, ListElement, NamelessElement, removal_stamp, seen}
use Rattle.ft_props.specs.Steps.{extended_runs, is_annotated_by, is_inserted_by, is_removed_by, stage_position}
use Rattle.ft_props.specs.Steps.{marked_runs as document_runs, marked_runs_from as document_runs_from}
use Rattle.ft_laws_names.proofs.Beside.{Beside, beside-any, beside-rank, ends, next}
use Rattle.ft_rebase.specs.declared.marks.PendingMark.TheVariants.{Removal, Changes}
use Rattle.ft_rebase.specs.MarkedRuns.{marked_runs_from}
use Rattle.ft_rebase.specs.Pieces.{has_mark, insertion_position, marked_runs}
use Rattle.ft_rebase.specs.Pieces.{is_inserted_by as is_put_in_by}
use Rattle.ft_named.proofs.Bares.{AreElements, IsElement, same-stamps, seen-alike}
use Rattle.ft_named.proofs.Changed.{beside-all}

-- ---- runs

module _ {A : Type 0} {Q : A → ListElement → Type 0} (see marked : A → Bool) (see' marked' : ListElement → Bool)
    (sees : (x : A) (e : ListElement) → Q x e → see x ≡ see' e) (marks : (x : A) (e : ListElement) → Q x e → marked x ≡ marked' e) where
  runs-beside : (i : ℕ) {xs : List A} {es : List ListElement} → Beside A ListElement Q xs es
      → marked_runs_from i see marked xs ≡ document_runs_from i see' marked' es
  runs-beside i ends = refl
  runs-beside i (next {x = x} {y = e} {xs = xs} {ys = es} q qs) =
      step (see x) (see' e) (marked x) (marked' e) (sees x e q) (marks x e q) (λ j. runs-beside j qs)
    where
      step : (a b c d : Bool) → a ≡ b → c ≡ d → ((j : ℕ) → marked_runs_from j see marked xs ≡ document_runs_from j see' marked' es)
          → cond (a && c) (extended_runs i (marked_runs_from (one_more_if a i) see marked xs)) (marked_runs_from (one_more_if a i) see marked xs)
          ≡ cond (b && d) (extended_runs i (document_runs_from (one_more_if b i) see' marked' es)) (document_runs_from (one_more_if b i) see' marked' es)
      step true true true true g h rest = ap (extended_runs i) (rest (one_more_if true i))
      step true true false false g h rest = rest (one_more_if true i)
      step false false c d g h rest = rest i
      step true false c d g h rest = (cc)
      step false true c d g h rest = (cc)
      step true true true false g h rest = (cc)
      step true true false true g h rest = (cc)

-- where nothing is marked there are no runs
pub runs-none : (see marked : ListElement → Bool) (i : ℕ) (es : List ListElement) → list_any marked es ≡ false → document_runs_from i see marked es ≡ []
runs-none see marked i [] h = refl
runs-none see marked i (e ∷ es) h = step (see e) (marked e) (list_any marked es) h (λ g j. runs-none see marked j es g)
  where
    step : (a b c : Bool) → b || c ≡ false → (c ≡ false → (j : ℕ) → document_runs_from j see marked es ≡ [])
        → cond (a && b) (extended_runs i (document_runs_from (one_more_if a i) see marked es)) (document_runs_from (one_more_if a i) see marked es) ≡ []
    step a true c g f = (cc)
    step true false c g f = f g (one_more_if true i)
    step false false c g f = f g i

module _ {U : Type 0} (content : U → ElementContent) (k : ℕ) where
  removed-here : (ds : List Stamp) (o : Option ℕ) → list_all is_acked ds ≡ true
      → list_any (is_of_stage k) (ds ++ removal_stamp o) ≡ list_any (is_of_stage k) (removal_stamp o)
  removed-here [] o h = refl
  removed-here (Acked s c ∷ ds) o h = removed-here ds o h
  removed-here (Local j ∷ ds) o h = (cc)

  removal-alike : (x : TreeElement U) (e : ListElement) → IsElement content x e × (list_all is_acked e.dels ≡ true) → has_mark Removal k x ≡ is_removed_by k e
  removal-alike x e q = ap (λ (s : ElementStamps). list_any (is_of_stage k) s.dels) (same-stamps content x e q.0) ∙ removed-here e.dels e.removal_stage q.1

  change-alike : (x : TreeElement U) (e : ListElement) → IsElement content x e → has_mark Changes k x ≡ is_annotated_by k e
  change-alike x e q = ap (λ (n : NamelessElement). list_any (λ (c : ℕ × ChangesOf). nat_eq c.0 k) n.pending) q

  put-alike : (x : TreeElement U) (e : ListElement) → IsElement content x e → is_put_in_by k x ≡ is_inserted_by k e
  put-alike x e q = ap (λ (s : ElementStamps). is_of_stage k s.ins) (same-stamps content x e q)

  before-alike : (x : TreeElement U) (e : ListElement) → IsElement content x e → seen_in (Stage (k - 1)) x ≡ seen (k - 1) e
  before-alike x e q = seen-alike content (Stage (k - 1)) x e q

  module _ {xs : List (TreeElement U)} {es : List ListElement} (b : AreElements content xs es) where
    pub removal-runs : list_all (λ e. list_all is_acked e.dels) es ≡ true → marked_runs k Removal xs ≡ document_runs k (is_removed_by k) es
    removal-runs h =
        runs-beside (seen_in (Stage (k - 1))) (has_mark Removal k) (seen (k - 1)) (is_removed_by k) (λ x e q. before-alike x e q.0) (λ x e q. removal-alike x e q) 0
        (beside-all (λ e. list_all is_acked e.dels) h b)

    pub change-runs : marked_runs k Changes xs ≡ document_runs k (is_annotated_by k) es
    change-runs =
        runs-beside (seen_in (Stage (k - 1))) (has_mark Changes k) (seen (k - 1)) (is_annotated_by k) (λ x e q. before-alike x e q) (λ x e q. change-alike x e q) 0 b

    pub put-position : insertion_position k xs ≡ cond (list_any (is_inserted_by k) es) (Some (stage_position k es)) None
    put-position =
        ap (λ a. cond a (Some (rank (is_put_in_by k) (seen_in (Stage (k - 1))) xs)) None) (beside-any (is_put_in_by k) (is_inserted_by k) (λ x e q. put-alike x e q) b)
        ∙ ap (λ n. cond (list_any (is_inserted_by k) es) (Some n) None)
        (beside-rank (is_put_in_by k) (is_inserted_by k) (λ x e q. put-alike x e q) (seen_in (Stage (k - 1))) (seen (k - 1)) (λ x e q. before-alike x e q) b)
