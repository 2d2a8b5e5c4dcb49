use Rattle.std.proofs.Common.{◌∙◌, ◌+◌, [], ◌∷◌, ◌++◌, take, drop, sym, ap, subst}
use Rattle.std.proofs.lemmas.List.{drop_more, take_more}
use Rattle.ft_sumdoc.specs.Chunks.{chunks_from}
use Rattle.ft_sumdoc.proofs.CutText.{IsCutSoFar, cut_ends, cut_goes_on}
use Rattle.ft_sumdoc.proofs.chunks.chunk_len.Goals as goal

pub returns-then-place-eq0-clause-cut : goal.returns-then-place-eq0-clause-cut
returns-then-place-eq0-clause-cut c =
    let segs = c.args.segs.now in
    let i = c.loop-i.i in
    let seg = c.index-segs-i.result in
    let back = drop_more segs i seg c.loop-i-test.true ∙ ap (λ x. x ∷ drop (i + 1) segs) (sym c.index-segs-i.is) in
    let front = take_more segs i seg c.loop-i-test.true ∙ ap (λ x. take i segs ++ x ∷ []) (sym c.index-segs-i.is) in
    let so_far = subst (λ rest. IsCutSoFar c.loop-i.place (take i segs) rest segs) back c.loop-i.invariant in
    cut_ends c.loop-i.place (take i segs) seg (drop (i + 1) segs) segs so_far (sym c.place_behind-place.ensures ∙ c.if-place-eq0.true)
    ∙ ap (λ x. x ∷ chunks_from 0 (drop (i + 1) segs)) (sym front)

pub loop-i-preserved : goal.loop-i-preserved
loop-i-preserved c =
    let segs = c.args.segs.now in
    let i = c.loop-i.i in
    let seg = c.index-segs-i.result in
    let left = drop (i + 1) segs in
    let back = drop_more segs i seg c.loop-i-test.true ∙ ap (λ x. x ∷ drop (i + 1) segs) (sym c.index-segs-i.is) in
    let front = take_more segs i seg c.loop-i-test.true ∙ ap (λ x. take i segs ++ x ∷ []) (sym c.index-segs-i.is) in
    let so_far = subst (λ rest. IsCutSoFar c.loop-i.place (take i segs) rest segs) back c.loop-i.invariant in
    let gone = cut_goes_on c.loop-i.place (take i segs) seg left segs so_far (λ e. c.if-place-eq0.false (c.place_behind-place.ensures ∙ e)) in
    subst (λ done. IsCutSoFar c.place_behind-place.result done left segs) (sym front)
    (subst (λ p. IsCutSoFar p (take i segs ++ seg ∷ []) left segs) (sym c.place_behind-place.ensures) gone)
