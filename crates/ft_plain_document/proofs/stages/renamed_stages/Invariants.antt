use Rattle.std.proofs.Common.{◌≡◌, ◌++◌, drop, map, take}
use Rattle.ft_msg.specs.Acknowledgement.{renamed_stage}
use Rattle.ft_plain_document.specs.Renamed.{renaming_of}
use Rattle.ft_plain_document.proofs.stages.renamed_stages.Given as goal

-- the stages so far are renamed; the rest is as it was, and completes the whole once it is renamed
abbrev pub invariant-loop-stage : goal.invariant-loop-stage
invariant-loop-stage l = record {
  rest : drop l.stage-index l.stage-items ≡ drop l.stage-index l.initial.stage-items;
  renamed : take l.stage-index l.stage-items ++ map (renamed_stage (renaming_of l.renaming)) (drop l.stage-index l.stage-items) ≡ map
      (renamed_stage (renaming_of l.renaming)) l.initial.stage-items;
}
