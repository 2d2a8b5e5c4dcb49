-- A replica knows only names of the table.
use Rattle.std.proofs.Common.{length, arith, ap}
use Rattle.ft_session.specs.Worlds.{ServiceState, MemberState}
use Rattle.ft_session.proofs.Entering.{meets-known}
use Rattle.ft_session.proofs.asked.summary_of.Goals as goal

pub summary-requires : goal.summary-requires
summary-requires g c =
    let a = ap (λ (m : MemberState). m.replica.origin) c.member.view_is in
    let b = ap (λ (s : ServiceState). length s.names) c.service.view_is in
    let k = meets-known c.args.member.now c.args.service.now c.requires in
    omega (arith, a, b, k)
