-- A client that keeps another shows the same.
use Rattle.std.proofs.Common.{◌∙◌}
use Rattle.ft_laws_compaction.proofs.AllSteps.{reached-sound}
use Rattle.ft_laws_compaction.proofs.Runs.{run-facts}
use Rattle.ft_laws_compaction.proofs.SameContent.{show-alike}
use Rattle.ft_laws_compaction.proofs.SameSummary.{run-values, summary-same}
use Rattle.ft_laws_compaction.proofs.steps.shown.Goals as goal

pub returns : goal.returns
returns c = record {
  content = λ start r view each x reached e s. each s.kept (record { whole = x; reached = reached; starts = e; keeps = s.keeps }) s.shows
      ∙ (show-alike s.kept x (run-facts reached.steps x (reached-sound x reached)) s.keeps).content;
  overlap = λ start r label a b found each x reached e s. each s.kept (record { whole = x; reached = reached; starts = e; keeps = s.keeps }) s.shows
      ∙ (show-alike s.kept x (run-facts reached.steps x (reached-sound x reached)) s.keeps).overlap label a b;
  summary = λ start r sum each x reached e s.
      let run = reached-sound x reached in
      each s.kept (record { whole = x; reached = reached; starts = e; keeps = s.keeps }) s.shows
      ∙ summary-same x s.kept.doc (run-facts reached.steps x run) (run-values reached.steps x run) s.keeps.doc;
}
