-- A client without pending edits has nothing pending on its rows and columns.
use Rattle.std.proofs.Common.{◌≡◌, ◌<◌, ℕ, Bool, true, ◌&&◌, All, List, [], ◌∷◌, ◌++◌, Option, Some, None, refl, sym, ◌∙◌, ap, subst, map}
use Rattle.std.specs.List.{AllByRecursion, list_all}
use Rattle.std.proofs.lemmas.List.Elements.{All-from_recursion}
use Rattle.ft_base.specs.declared.stamps.Stamp.{Stamp}
use Rattle.ft_base.specs.declared.stamps.Stamp.TheVariants.{Acked, Local}
use Rattle.ft_base.specs.Visibility.{is_acked}
use Rattle.ft_base.proofs.Booleans.{both}
use Rattle.ft_op.specs.Operation.{SubOperation}
use Rattle.ft_op.specs.Stages.{Stage}
use Rattle.ft_op.specs.declared.operations.Target.TheVariants.{Rows, Cols}
use Rattle.ft_props.specs.Element.{ListElement, nameless, removal_stamp}
use Rattle.ft_msg.specs.Client.{stages_of}
use Rattle.ft_msg.specs.Indexed.{IndexedStage}
use Rattle.ft_laws_agreement.specs.Reconnecting.{has_insertion_of, has_marks_of, has_removal_of}
use Rattle.ft_laws_agreement.specs.Sequencing.{inserts_in, removes_in}
use Rattle.ft_laws_names.specs.GridFacts.{grid_stages, is_stamp_below, is_unit_below}
use Rattle.ft_laws_names.specs.WellNamed.{AreWellNamed}
use Rattle.ft_op.specs.Document.{Document}
use Rattle.ft_props.specs.Properties.{Characters}
use Rattle.ft_sumdoc.specs.declared.summary.SumDoc.{SumDoc}
use Rattle.ft_replica.specs.Own.{HeldDocument, HoldsOne, NamesFit}
use Rattle.ft_string.specs.Calls.{KeepsSummary, SavesText}
use Rattle.ft_string.specs.Holds.{HoldsText, IsTextSound}
use Rattle.ft_matrix.specs.Conditions.{IsAboveAll}
use Rattle.ft_matrix.specs.HoldsGrid.{HoldsGrid}
use Rattle.ft_matrix.specs.Shown.{with_units}
use Rattle.ft_client.specs.declared.own.TreeOwn.{TreeOwn}
use Rattle.ft_client.specs.Holds.{HoldsTree}
use Rattle.ft_client.specs.Numbers.{bare_summary}
use Rattle.ft_client.proofs.Known.{is-ready}
use Rattle.ft_client.proofs.Saved.{held-idle, saved-sound}

module _ (inserts removes : SubOperation → Bool) where
  insertion-settled : (t : Stamp) → has_insertion_of inserts [] t ≡ true → is_stamp_below 0 t ≡ true
  insertion-settled (Acked s c) h = refl
  insertion-settled (Local k) h = (cc)

  removals-settled : (dels : List Stamp) (m : Option ℕ) → list_all is_acked dels ≡ true → has_removal_of removes [] m ≡ true
      → list_all (is_stamp_below 0) (dels ++ removal_stamp m) ≡ true
  removals-settled [] None h g = refl
  removals-settled [] (Some k) h g = (cc)
  removals-settled (Acked s c ∷ dels) m h g = removals-settled dels m h g
  removals-settled (Local k ∷ dels) m h g = (cc)

  unit-settled : (e : ListElement) → has_marks_of inserts removes [] e ≡ true → is_unit_below 0 (nameless e) ≡ true
  unit-settled e h =
      let p = both (has_insertion_of inserts [] e.ins && has_removal_of removes [] e.removal_stage) (list_all is_acked e.dels) h in
      let q = both (has_insertion_of inserts [] e.ins) (has_removal_of removes [] e.removal_stage) p.0 in
      rw (insertion-settled e.ins q.0, removals-settled e.dels e.removal_stage p.1 q.1) refl

  units-settled : (xs : List ListElement) → list_all (has_marks_of inserts removes []) xs ≡ true
      → AllByRecursion (λ e. is_unit_below 0 e ≡ true) (map nameless xs)
  units-settled [] h = tt
  units-settled (e ∷ xs) h =
      let p = both (has_marks_of inserts removes [] e) (list_all (has_marks_of inserts removes []) xs) h in
      (unit-settled e p.0, units-settled xs p.1)

  all-settled : (ts : List Stage) (xs : List ListElement) → ts ≡ [] → list_all (has_marks_of inserts removes ts) xs ≡ true
      → All (λ e. is_unit_below 0 e ≡ true) (map nameless xs)
  all-settled ts xs e h = All-from_recursion (λ e. is_unit_below 0 e ≡ true) (map nameless xs)
      (units-settled xs (subst (λ us. list_all (has_marks_of inserts removes us) xs ≡ true) e h))

pub none-pending : (s : TreeOwn) → HoldsOne HoldsTree s (λ p. p.pending ≡ []) → IsAboveAll 0 s.table
none-pending s known =
    let p = known.client in
    let table = known.document.table in
    let ready = is-ready known.start p known.made in
    let idle : stages_of p ≡ [] = ap (λ es. stages_of (record p { pending = es })) known.fits in
    record {
      rows = subst (λ es. All (λ e. is_unit_below 0 e ≡ true) es) table.rows
          (all-settled (inserts_in Rows) (removes_in Rows) (stages_of p) p.doc.rows.items idle ready.rows.place.marks);
      cols = subst (λ es. All (λ e. is_unit_below 0 e ≡ true) es) table.cols
          (all-settled (inserts_in Cols) (removes_in Cols) (stages_of p) p.doc.cols.items idle ready.cols.place.marks);
      stages = subst (λ ts. All (λ (t : IndexedStage). t.stage < 0) ts) table.stages
          (subst (λ ts. All (λ (t : IndexedStage). t.stage < 0) (grid_stages p.doc ts)) (sym idle) (All-from_recursion (λ (t : IndexedStage). t.stage < 0) [] tt));
    }

-- ---- what both parts write of a document that is held

module _ (s : TreeOwn) (known : HoldsOne HoldsTree s (λ p. p.pending ≡ [])) (held : HeldDocument) (named : NamesFit held) (h : HoldsTree s held) where
  idle : held.stages ≡ []
  idle = held-idle s known held h

  pub text-saved : (conns : List Characters) (bare mid : SumDoc) → bare ≡ bare_summary s.numbers conns
      → ((last : ℕ) (doc : Document) → IsTextSound last doc [] → HoldsText s.text doc [] → SavesText doc bare mid)
      → SavesText held.doc (bare_summary s.numbers conns) mid
  text-saved conns bare mid e saves =
      subst (λ d. SavesText held.doc d mid) e (saves held.last held.doc (saved-sound s known held named h) (subst (λ ts. HoldsText s.text held.doc ts) idle h.text))

  pub table-saved : (conns : List Characters) (mid new : SumDoc) → KeepsSummary (bare_summary s.numbers conns) mid
      → ((last : ℕ) (doc : Document) → AreWellNamed last doc [] → HoldsGrid s.table doc [] → IsAboveAll 0 s.table → doc.minimum ≡ mid.min
      → new ≡ with_units doc mid)
      → new ≡ with_units held.doc mid
  table-saved conns mid new keeps saves =
      saves held.last held.doc (subst (λ ts. AreWellNamed held.last held.doc ts) idle named) (subst (λ ts. HoldsGrid s.table held.doc ts) idle h.table) (none-pending s known)
      (sym (ap (λ (d : SumDoc). d.min) keeps ∙ h.numbers.minimum))
