use Rattle.std.proofs.Common.{◌≡◌, length, chars, arith, rules}
use Rattle.std.proofs.lemmas.Str.{chars_from_encodes}
use Rattle.ft_tests_tree.proofs.texts.run.Goals as goal

pub run-requires : goal.run-requires
run-requires c = let n : c.count-count.result ≡ length (chars c.args.text.now) = search (rules, chars_from_encodes) in (omega arith, omega arith)
