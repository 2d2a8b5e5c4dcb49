use Rattle.std.proofs.Common.{◌≡◌, ◌+◌, ◌≤◌, ◌<◌, [], ◌++◌, length, take, drop, sym, ◌∙◌, ap, arith, length-append, length-take, length-drop}
use Rattle.std.proofs.lemmas.Grind.{common_steps}
use Rattle.ft_io.proofs.Parts.{take-written, taken-drop}
use Rattle.ft_io.proofs.memory.MemSourceSource.read.Goals as goal

pub returns-clause-bytes : goal.returns-clause-bytes
returns-clause-bytes c =
    let a = c.self.inside in
    let n = c.min-n.result in
    let left = drop a.at a.bytes.items in
    let is_left : left ≡ c.args.self.now.left = ap (λ s. s.left) c.self.view_is in
    let copied : c.copy_from_slice.new.self ≡ take n left = grind (arith, common_steps) in
    let within : n ≤ length left = grind (arith, common_steps) in
    let end : n ≡ 0 → 0 < length c.args.buf.now → drop (a.at + n) a.bytes.items ≡ [] = grind (arith, common_steps) in
    let front : take n (c.copy_from_slice.new.self ++ drop n c.args.buf.now) ≡ take n left = ap (λ w. take n (w ++ drop n c.args.buf.now)) copied ∙ take-written n left c.args.buf.now within in (
      sym is_left ∙ taken-drop n a.at a.bytes.items ∙ ap (λ w. w ++ drop (a.at + n) a.bytes.items) (sym front),
      λ none some. end none (omega (arith, some, length-append c.copy_from_slice.new.self (drop n c.args.buf.now), c.copy_from_slice.ensures.len, length-take n c.args.buf.now, length-drop n c.args.buf.now)),
    )
