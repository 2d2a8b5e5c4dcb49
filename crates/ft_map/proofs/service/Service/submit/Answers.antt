-- The draft isn't refused.
use Rattle.std.proofs.Common.{subst, sym}
use Rattle.ft_map.specs.declared.log.MapDraft.{MapDraft}
use Rattle.ft_map.specs.MapSession.{MapService, submit_one}
use Rattle.ft_map.specs.MapWorlds.{HasNoNack}
use Rattle.ft_map.proofs.Submitting.{nack-refuses}
use Rattle.ft_map.proofs.service.Service.submit.Goals as goal

pub unreachable-requires : goal.unreachable-requires
unreachable-requires c =
    let d : MapDraft = record { draft = c.args.draft; op = c.args.op } in
    let s : MapService = record { sequencer = c.self.inside.sequencer; connections = c.self.inside.connections; log = c.self.inside.log.items } in
    nack-refuses s c.args.conn d c.in-Err-Nack.field-0 c.in-Err-Nack._nack c.in-Err-Nack.ensures.fault c.in-Err-Nack.field-0-is
    (subst (λ (x : MapService). HasNoNack (submit_one x c.args.conn d)) (sym c.self.view_is) c.requires)
