-- Which documents are sound: those of clients.
use Rattle.std.specs.Prelude.{◌<◌, ◌^◌}
use Rattle.ft_op.specs.Document.{Document}
use Rattle.ft_msg.specs.Client.{NaiveClient, stages_of}
use Rattle.ft_laws_compaction.specs.Keeping.{IsMadeOrKept}
use Rattle.ft_string.specs.Holds.{IsTextSound}

-- in each client that its steps made, or that keeps one which they made, the text's part is sound with its pending stages
abbrev pub ClientTextsAreSound : Type 0
ClientTextsAreSound = (start : Document) (p : NaiveClient) → IsMadeOrKept start p → p.last_stage < 2 ^ 64 → IsTextSound p.last_stage p.doc (stages_of p)
