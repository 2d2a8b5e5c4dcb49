use Rattle.std.proofs.Common.{◌≤◌, arith, length}
use Rattle.ft_matrix.proofs.ResubmitSteps.{dropped-one}
use Rattle.ft_matrix.proofs.grid.Grid.resubmit_stage.Goals as goal

pub returns : goal.returns
returns c =
    let short : length c.push_pieces.new.pieces.items ≤ length c.args.pieces.now.items =
    omega (arith, c.if-len-before.false, c.len.ensures, c.len-before.ensures, c.push_pieces.new.pieces.ok.0, c.args.pieces.now.ok.0) in
    dropped-one c.args.i c.in-Some.t.now c.args.self.now c.drop_stage.new.self c.args.pieces.now.items c.push_pieces.new.pieces.items c.in-Some.ensures.lookup
    c.in_ok-push_pieces.ensures short c.drop_stage.ensures
