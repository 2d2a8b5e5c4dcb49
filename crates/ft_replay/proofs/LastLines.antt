-- The last lines of a command, and how it ends, where it may tell no counts.
use Rattle.std.proofs.Common.{◌≡◌, ℕ, List, ◌++◌, append-nil, Option, Some, None, Result, sym, ◌∙◌, ap}
use Rattle.std.specs.Prelude.{OnOk}
use Rattle.std.proofs.lemmas.Result.{on_ok_weaker}
use Rattle.ft_io.specs.Lines.{with_lf}
use Rattle.ft_op.specs.Document.{Document}
use Rattle.ft_seqr.specs.SessionReport.{closing_lines}
use Rattle.ft_session.specs.declared.outputs.Counts.{Counts}
use Rattle.ft_replay.specs.declared.endings.Ending.{Ending}
use Rattle.ft_replay.specs.LineForm.{bytes_of, last_lines, last_ending, refused_count, ending_by}
use Rattle.ft_replay.specs.Listening.{counts_in, given_counts}

module _ {T E : Type 0} (refused : ℕ) (given : Option Counts) (before now : List ℕ) (result : Result T E) where
  pub lines-none : (doc : Option Document) → given ≡ None → given ≡ given_counts doc → OnOk result (now ≡ before ++ with_lf (refused_count refused))
      → OnOk result (now ≡ before ++ bytes_of (last_lines refused doc))
  lines-none None e h b =
      let line = with_lf (refused_count refused) in
      on_ok_weaker result (λ (is : now ≡ before ++ line). is ∙ ap (λ (bytes : List ℕ). before ++ bytes) (sym (append-nil line))) b
  lines-none (Some doc) e h b = let wrong : None ≡ Some (counts_in doc) = sym e ∙ h in absurd cc

  pub lines-some : (doc : Option Document) (counts : Counts) → given ≡ Some counts → given ≡ given_counts doc
      → ((d : Document) → counts ≡ counts_in d → OnOk result (now ≡ before ++ bytes_of (closing_lines refused d)))
      → OnOk result (now ≡ before ++ bytes_of (last_lines refused doc))
  lines-some None counts e h f = let wrong : Some counts ≡ None = sym e ∙ h in absurd cc
  lines-some (Some doc) counts e h f = let both : Some counts ≡ Some (counts_in doc) = sym e ∙ h in let same : counts ≡ counts_in doc = (cc) in f doc same

module _ (refused : ℕ) (given : Option Counts) (ending : Ending) where
  pub ending-none : (doc : Option Document) → given ≡ None → given ≡ given_counts doc
      → ending ≡ ending_by refused 0 → ending ≡ last_ending refused doc
  ending-none None e h b = b
  ending-none (Some doc) e h b = let wrong : None ≡ Some (counts_in doc) = sym e ∙ h in absurd cc

  pub ending-some : (doc : Option Document) (counts : Counts) → given ≡ Some counts → given ≡ given_counts doc
      → ending ≡ ending_by refused counts.skipped → ending ≡ last_ending refused doc
  ending-some None counts e h b = let wrong : Some counts ≡ None = sym e ∙ h in absurd cc
  ending-some (Some doc) counts e h b =
      let both : Some counts ≡ Some (counts_in doc) = sym e ∙ h in
      let same : counts ≡ counts_in doc = (cc) in
      b ∙ ap (λ (c : Counts). ending_by refused c.skipped) same
