-- The elements of each pending stage stand side by side, said of elements without names.
use Rattle.std.specs.Prelude.{◌≡◌, ℕ, suc, true, ◌||◌, List, filter, map}
use Rattle.ft_base.specs.Visibility.{is_of_stage, seen_at}
use Rattle.ft_props.specs.Element.{NamelessElement, nameless}
use Rattle.ft_op.specs.Document.{Document}
use Rattle.ft_msg.specs.Client.{NaiveClient}
use Rattle.ft_laws_agreement.specs.Reconnecting.{is_one_run}
use Rattle.ft_laws_compaction.specs.Keeping.{IsMadeOrKept}

-- among the elements that a stage sees, those of the next one stand side by side
abbrev pub StandInRuns : List NamelessElement → Type 0
StandInRuns xs = (k : ℕ) → is_one_run (λ e. is_of_stage (suc k) e.stamps.ins) (filter (λ e. seen_at e.stamps k || is_of_stage (suc k) e.stamps.ins) xs) ≡ true

-- in all three lists
pub record HasStageRuns (doc : Document) : Type 0 where
  pub text : StandInRuns (map nameless doc.text.items)
  pub rows : StandInRuns (map nameless doc.rows.items)
  pub cols : StandInRuns (map nameless doc.cols.items)

-- so it is in each client that steps made or that keeps one
abbrev pub StagesStandInRuns : Type 0
StagesStandInRuns = (start : Document) (kept : NaiveClient) → IsMadeOrKept start kept → HasStageRuns kept.doc
