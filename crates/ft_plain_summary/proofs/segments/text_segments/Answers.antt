use Rattle.std.proofs.Common.{◌+◌, ◌∷◌, ◌∙◌, ap, drop, sym}
use Rattle.std.proofs.lemmas.List.{drop_more}
use Rattle.ft_msg.specs.SummaryOf.{segments_from}
use Rattle.ft_plain_summary.proofs.FrontSegments.{segments_behind-with}
use Rattle.ft_plain_summary.proofs.segments.text_segments.Goals as goal

pub loop-i-preserved : goal.loop-i-preserved
loop-i-preserved c =
    let xs = c.args.items.now in
    let i = c.loop-i.i in
    let e = c.index-items-i.result in
    let front = drop_more xs i e c.loop-i-test.true ∙ ap (λ x. x ∷ drop (i + 1) xs) (sym c.index-items-i.is) in
    segments_behind-with i c.loop-i.last e (drop (i + 1) xs) (drop i xs) c.in_ok-extend.field-0 c.loop-i.segs c.extend.new.segs (segments_from 0 xs)
    front c.in_ok-extend.ensures.ended c.in_ok-extend.ensures.last c.loop-i.invariant
