use Rattle.std.proofs.Common.{◌≡◌, drop}
use Rattle.std.specs.List.{AllByRecursion}
use Rattle.serde_json.specs.Data.{no_members}
use Rattle.serde_json.specs.View.{members_view}
use Rattle.ft_json.specs.Canonical.{IsCanonical, value_of}
use Rattle.ft_op.specs.Representable.{KeysAreTexts}
use Rattle.ft_op.proofs.WrittenPairs.{put_pairs}
use Rattle.ft_seqr.proofs.answer_texts.props_value.Given as goal

-- what was passed is put, its keys are texts and its values canonical
abbrev pub invariant-loop-key : goal.invariant-loop-key
invariant-loop-key l = record {
  put : put_pairs value_of (drop l.key-index l.key-items) (members_view l.members.entries) ≡ put_pairs value_of l.key-items no_members;
  texts : KeysAreTexts (drop l.key-index l.key-items) → KeysAreTexts l.key-items;
  canonical : AllByRecursion (λ p. IsCanonical (value_of p.1)) (drop l.key-index l.key-items) → AllByRecursion (λ p. IsCanonical (value_of p.1)) l.key-items;
}
