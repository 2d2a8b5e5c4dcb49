use Rattle.std.proofs.Common.{◌≡◌, ◌+◌, ◌-◌, ◌<◌, ◌≤◌, Some, refl, sym, subst, ◌∙◌, ap, arith, length, List}
use Rattle.std.specs.Prelude.{slice_get, slice_set}
use Rattle.std.proofs.lemmas.Option.{slice_get_read}
use Rattle.ft_base.specs.Scan.{len, one_more_if}
use Rattle.ft_perm.specs.Handles.{HandleRun, in_run}
use Rattle.ft_perm.specs.Vectors.{AreApart}
use Rattle.ft_perm.proofs.ApartRuns.{apart_cut, apart_removed}
use Rattle.ft_perm.proofs.RunCounts.{in_two, len-remove, len-set}
use Rattle.ft_perm.proofs.free.take_front.Goals as goal

pub returns-then-index-count-clause-taken : goal.returns-then-index-count-clause-taken
returns-then-index-count-clause-taken c = λ h.
    let runs = c.args.free.now.items in
    let found : slice_get runs c.args.i ≡ Some c.remove.result = slice_get_read runs (length runs) c.args.i c.remove.result refl c.requires.place c.remove.ensures.value in
    len-remove (in_run h) runs c.args.i c.remove.result found
    ∙ ap (λ (xs : List HandleRun). len (in_run h) xs + one_more_if (in_run h c.remove.result) 0) (sym c.remove.ensures.items)

-- a run of exactly as many was taken out, so this one has more
pub take_front-requires-clause-less : goal.take_front-requires-clause-less
take_front-requires-clause-less c =
    let runs = c.args.free.now.items in
    let first : slice_get runs c.args.i ≡ Some c.index.result.now = slice_get_read runs (length runs) c.args.i c.index.result.now refl c.requires.place c.index.ensures in
    let found : slice_get runs c.args.i ≡ Some c.index_mut.result.now =
    slice_get_read runs (length runs) c.args.i c.index_mut.result.now refl c.requires.place c.index_mut.ensures.value in
    let same : c.index.result.now ≡ c.index_mut.result.now = cc in
    let fits : c.args.count ≤ c.index_mut.result.now.count = rw found at c.requires.fits in
    let count = ap (λ (r : HandleRun). r.count) (c.behind-free.view_is ∙ same) in
    omega (arith, fits, count)

pub returns-clause-taken : goal.returns-clause-taken
returns-clause-taken c = λ h.
    let runs = c.args.free.now.items in
    let run = c.index_mut.result.now in
    let found : slice_get runs c.args.i ≡ Some run = slice_get_read runs (length runs) c.args.i run refl c.requires.place c.index_mut.ensures.value in
    let fits : c.args.count ≤ run.count = rw found at c.requires.fits in
    let whole : c.args.count + (run.count - c.args.count) ≡ run.count = omega (arith, fits) in
    let parts = rw whole at (in_two h run.first c.args.count (run.count - c.args.count)) in
    let rest = ap (λ (r : HandleRun). one_more_if (in_run h r) 0) c.take_front.ensures.rest in
    let front = ap (λ (r : HandleRun). one_more_if (in_run h r) 0) c.take_front.ensures.front in
    omega (arith, len-set (in_run h) runs c.args.i run c.take_front.new.self found, parts, rest, front)

pub returns-then-index-count-clause-apart : goal.returns-then-index-count-clause-apart
returns-then-index-count-clause-apart c = λ apart. subst AreApart (sym c.remove.ensures.items) (apart_removed c.args.free.now.items c.args.i apart)

pub returns-clause-apart : goal.returns-clause-apart
returns-clause-apart c = λ apart.
    let runs = c.args.free.now.items in
    let run = c.index_mut.result.now in
    let found : slice_get runs c.args.i ≡ Some run = slice_get_read runs (length runs) c.args.i run refl c.requires.place c.index_mut.ensures.value in
    let first : slice_get runs c.args.i ≡ Some c.index.result.now = slice_get_read runs (length runs) c.args.i c.index.result.now refl c.requires.place c.index.ensures in
    let same : c.index.result.now ≡ run = cc in
    let fits : c.args.count ≤ run.count = rw found at c.requires.fits in
    let less : c.args.count < run.count = omega (arith, fits, ap (λ (r : HandleRun). r.count) (c.behind-free.view_is ∙ same)) in
    subst (λ (r : HandleRun). AreApart (slice_set runs c.args.i r)) (sym c.take_front.ensures.rest) (apart_cut run c.args.count less runs c.args.i found apart)
