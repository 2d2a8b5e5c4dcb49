use Rattle.std.proofs.Common.{◌≡◌, ◌≢◌, ◌∙◌, ◌-◌, List, suc, length, ap, sym, arith, rules}
use Rattle.ft_attrib.specs.declared.pieces.OriginPiece.{OriginPiece}
use Rattle.ft_attrib.proofs.PieceLaws.{IsOtherLast, appended-last, appended-push, no-last, other-last}
use Rattle.ft_attrib.proofs.pieces.push_piece.Goals as goal
use Rattle.ft_attrib.proofs.pieces.push_piece.Goals.{else-n-gt0-via-then-n-gt0+else-eq, else-n-gt0-via-else-n-gt0}

pub returns-then-eq-clause-ok : goal.returns-then-eq-clause-ok
returns-then-eq-clause-ok c =
    let old : List OriginPiece = c.args.pieces.now.items in
    let new : OriginPiece = record { end = c.args.end; who = c.args.who } in
    let last : OriginPiece = c.index.result.now in
    let e : last.who ≡ c.args.who = search rules in
    let place : suc (c.len-n.result - 1) ≡ length old = omega arith in
    appended-last old (c.len-n.result - 1) new last c.requires.cut place (ap (λ (x : OriginPiece). x.who) (sym c.index.ensures) ∙ e) c.requires.more

pub returns-clause-ok : goal.returns-clause-ok
returns-clause-ok c =
    let old : List OriginPiece = c.args.pieces.now.items in
    let new : OriginPiece = record { end = c.args.end; who = c.args.who } in
    let other : IsOtherLast old c.args.who =
    elim c.else-n-gt0.branch [
      | else-n-gt0-via-then-n-gt0+else-eq w ↦
          let e : w.index.result.now.who ≢ c.args.who = search rules in
          let place : suc (c.len-n.result - 1) ≡ length old = omega arith in
          other-last old (c.len-n.result - 1) w.index.result.now c.args.who place (λ same. e (ap (λ (x : OriginPiece). x.who) w.index.ensures ∙ same))
      | else-n-gt0-via-else-n-gt0 w ↦ no-last old c.args.who (omega arith)
    ]
    in
    rw c.in_ok-push.ensures.items (appended-push old new c.requires.cut other c.requires.more)
