use Rattle.std.proofs.Common.{◌≡◌, drop}
use Rattle.serde_json.specs.Data.{no_members}
use Rattle.serde_json.specs.View.{members_view}
use Rattle.ft_op.specs.Representable.{KeysAreTexts}
use Rattle.ft_op.specs.Written.{written_adjustment}
use Rattle.ft_op.proofs.WrittenPairs.{put_pairs}
use Rattle.ft_op.proofs.writing.written_adjustments.Given as goal

-- what was passed is put, and its keys are texts
abbrev pub invariant-loop-key : goal.invariant-loop-key
invariant-loop-key l = record {
  put : put_pairs written_adjustment (drop l.key-index l.key-items) (members_view l.members.entries) ≡ put_pairs written_adjustment l.key-items no_members;
  texts : KeysAreTexts (drop l.key-index l.key-items) → KeysAreTexts l.key-items;
}
