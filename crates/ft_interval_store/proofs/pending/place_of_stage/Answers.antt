use Rattle.std.proofs.Common.{length, refl, sym, ◌∙◌}
use Rattle.std.proofs.lemmas.Option.{slice_get_past, slice_get_read}
use Rattle.ft_interval_store.proofs.StagePlaces.{placed-none, placed-some}
use Rattle.ft_interval_store.proofs.pending.place_of_stage.Goals as goal

pub returns-in-None : goal.returns-in-None
returns-in-None c =
    let ts = c.args.pending.now.items in
    let n = c.first_from-place.result in
    sym (placed-none c.args.stage ts c.requires n c.first_from-place.ensures (slice_get_past ts n c.in-None.ensures.item.3))

pub returns-in-Some : goal.returns-in-Some
returns-in-Some c =
    let ts = c.args.pending.now.items in
    let n = c.first_from-place.result in
    let t = c.in-Some.t.now in
    let here = slice_get_read ts (length ts) n t refl c.in-Some.ensures.item.3.0 c.in-Some.ensures.lookup in
    c.place_if.ensures ∙ sym (placed-some c.args.stage ts c.requires n c.first_from-place.ensures t here)
