use Rattle.std.proofs.Common.{◌-◌, ◌≤◌, ◌∙◌, ap, length, drop, arith, length-take}
use Rattle.ft_io.proofs.Parts.{drop-window}
use Rattle.ft_io.proofs.pieces.InputPiece.advance.Goals as goal

pub returns : goal.returns
returns c =
    let a = c.self.inside in
    let within : c.args.n ≤ a.to - a.from = omega (arith, c.requires, ap length c.self.view_is, length-take (a.to - a.from) (drop a.from a.bytes.items)) in
    drop-window c.args.n a.from a.to a.bytes.items within ∙ ap (drop c.args.n) c.self.view_is
