use Rattle.std.proofs.Common.{◌<◌, ◌^◌, ◌+◌, ℕ, List, subst, sym, rules}
use Rattle.ft_tests_string.specs.declared.sharing.Span.{Span}
use Rattle.ft_tests_string.specs.Sharing.{Plays, stages_in}
use Rattle.ft_tests_string.proofs.SharingLaws.{edited, held-of, sound-before}
use Rattle.ft_tests_string.proofs.sharing.edit_shared.Goals as goal

pub edit-requires-clause-held : goal.edit-requires-clause-held
edit-requires-clause-held g c =
    held-of c.args.text.now c.args.place.now.number c.args.place.now.next c.args.spans.now.items c.requires.plays c.requires.plays.fits

pub returns-in-Ok : goal.returns-in-Ok
returns-in-Ok g c =
    let h = c.requires.plays in
    let number = c.args.place.now.number in
    let next = c.args.place.now.next in
    let fits = c.requires.plays.fits in
    let ends : next + c.in-Ok.count < 2 ^ 64 = subst (λ (k : ℕ). k < 2 ^ 64) c.in_ok-place-in-Ok.ensures (search rules) in
    subst (λ (k : ℕ). Plays c.edit.new.self number k c.push_behind.new.items.items) (sym c.in_ok-place-in-Ok.ensures)
    (subst (λ (qs : List Span). Plays c.edit.new.self number (next + c.in-Ok.count) qs) (sym c.in_ok-push_behind-in-Ok.ensures.items)
    (edited c.args.text.now c.edit.new.self number next c.in-Ok.count c.args.spans.now.items c.args.op.now h
    (c.in-Ok.ensures.answers h.doc (stages_in h.pending) (sound-before c.args.text.now number next c.args.spans.now.items h fits) h.holds) c.in-Ok.ensures.rest ends))
