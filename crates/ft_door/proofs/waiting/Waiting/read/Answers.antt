use Rattle.std.proofs.Common.{◌≡◌, ◌∙◌, ◌+◌, ◌++◌, ap, take, drop, arith, length}
use Rattle.std.proofs.lemmas.Grind.{common_steps}
use Rattle.ft_door.proofs.Reading.{read-on}
use Rattle.ft_door.proofs.waiting.Waiting.read.Goals as goal

pub returns-else-taken-len-clause-bytes : goal.returns-else-taken-len-clause-bytes
returns-else-taken-len-clause-bytes c =
    let old = c.args.self.now in
    let copied = c.copy_from_slice.new.self in
    let is : copied ≡ take c.min-count.result (drop old.taken old.bytes.items) = grind (arith, common_steps) in
    let long : length copied ≡ c.min-count.result = grind (arith, common_steps) in
    read-on c.min-count.result old.taken old.bytes.items copied (drop c.min-count.result c.args.room.now) is long

pub returns-then-taken-len-clause-bytes : goal.returns-then-taken-len-clause-bytes
returns-then-taken-len-clause-bytes c =
    let old = c.args.self.now in
    let copied = c.copy_from_slice.new.self in
    let count = c.min-count.result in
    let is : copied ≡ take count (drop old.taken old.bytes.items) = grind (arith, common_steps) in
    let long : length copied ≡ count = grind (arith, common_steps) in
    let left : c.drop-drain.new.self.0.items ≡ drop (old.taken + count) old.bytes.items = c.drop-drain.ensures.items ∙ c.drain.ensures.kept in
    ap (λ rest. take count (copied ++ drop count c.args.room.now) ++ rest) left
    ∙ read-on count old.taken old.bytes.items copied (drop count c.args.room.now) is long
