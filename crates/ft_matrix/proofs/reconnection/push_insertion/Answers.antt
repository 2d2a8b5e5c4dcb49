use Rattle.std.proofs.Common.{◌≡◌, ◌++◌, ◌∙◌, ap, append-nil, arith, false, nat_eq, sym}
use Rattle.std.proofs.lemmas.Bool.Decides.{nat_tests}
use Rattle.ft_matrix.specs.Resubmitted.{insertion_of}
use Rattle.ft_matrix.specs.Units.{units_of}
use Rattle.ft_matrix.proofs.UnitPieces.{insertion-is}
use Rattle.ft_matrix.proofs.reconnection.push_insertion.Goals as goal

pub returns-then-count-eq0 : goal.returns-then-count-eq0
returns-then-count-eq0 c =
    sym (append-nil c.args.pieces.now.items)
    ∙ ap (λ n. c.args.pieces.now.items ++ insertion_of c.args.stage c.args.target n (units_of c.args.units.now)) (sym c.if-count-eq0.true)

pub returns : goal.returns
returns c =
    let some : nat_eq c.args.count 0 ≡ false = grind (arith, nat_tests) in
    c.in_ok-push.ensures.items
    ∙ ap (λ ops. c.args.pieces.now.items ++ ops) (insertion-is c.args.stage (units_of c.args.units.now) c.args.target c.args.count
    c.put_position-pos.result c.put_position-pos.ensures some)
