use Rattle.std.proofs.Common.{◌≤◌, ap, sym, ◌∙◌, subst}
use Rattle.ft_seqr.specs.WellFormedEvent.{IsWellFormedEvent}
use Rattle.ft_gen.specs.Acts.{act_event}
use Rattle.ft_gen.specs.Rounds.{each}
use Rattle.ft_gen.specs.Generated.{shows}
use Rattle.ft_gen.specs.Course.{IsPlace, place_to_come}
use Rattle.ft_gen.proofs.Numbering.{from-more}
use Rattle.ft_gen.proofs.course.Course.step.Goals as goal

pub returns-in-Showing-clause-some : goal.returns-in-Showing-clause-some
returns-in-Showing-clause-some c =
    let course = c.args.self in
    let i = c.in-Showing.client in
    let here : i ≤ course.clients = subst (IsPlace course.clients course.round course.progress) c.in-Showing.is c.requires.place in
    let first = ap (place_to_come course.clients course.round course.progress) c.in-Showing.is ∙ ap (each shows) (from-more course.clients i here) in
    let act = ap act_event c.new.ensures in
    record {
      told = cc;
      well_formed = subst IsWellFormedEvent (sym act) tt;
      sound = c.show.ensures.sound;
    }
