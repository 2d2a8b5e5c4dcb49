-- What is noted of pending stages. No public clause cites this module.
use Rattle.std.specs.Prelude.{◌≡◌, ◌<◌, ◌^◌, ℕ, ◌+◌, List, ◌++◌}
use Rattle.ft_client.specs.declared.stages.OwnStage.{OwnStage}
use Rattle.ft_client.specs.declared.stages.Part.{Part}
use Rattle.ft_client.specs.Numbers.{NumberState}
use Rattle.ft_client.specs.Parts.{stages_from}

-- so many stages of one part are noted, from a number on
pub record Notes (first count : ℕ) (part : Part) (n : ℕ) (before after : List OwnStage) (old new : NumberState) : Type 0 where
  pub counted : n ≡ count
  pub stages : after ≡ before ++ stages_from first count part
  pub numbers : new ≡ record old { last = old.last + count }
  pub fits : old.last + count < 2 ^ 64
