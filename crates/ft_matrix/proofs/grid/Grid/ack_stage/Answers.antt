use Rattle.std.proofs.Common.{◌∙◌, refl, sym}
use Rattle.ft_matrix.proofs.SoundVectors.{ok-with, on-ok}
use Rattle.ft_matrix.proofs.AckedGrids.{none-acked, some-acked}
use Rattle.ft_matrix.proofs.grid.Grid.ack_stage.Goals as goal

pub returns-in-Some-clause-sound : goal.returns-in-Some-clause-sound
returns-in-Some-clause-sound c = ok-with _ c.count_units.result c.count_units.ensures (λ n. on-ok c.count_units.result (some-acked c.args.stage c.args.seq c.args.conn c.args.self.now (record c.args.self.now { rows = c.ack_units.new.units; cols = c.ack_units-2.new.units; cells = c.ack.new.self }) c.take_acked.new.self refl refl refl
    c.in_ok-ack_units.ensures.acks c.in_ok-ack_units-2.ensures.acks c.in_ok-ack.ensures.acked c.requires.sound c.requires.lowest c.in_ok-ack_units.ensures.sound
    c.in_ok-ack_units-2.ensures.sound c.take_acked.ensures.rest c.take_acked.ensures.stages c.in-Some.acked c.count_units.new.self
    (sym c.in-Some.is ∙ c.take_acked.ensures.taken) n).0)

pub returns-in-Some-clause-lowest : goal.returns-in-Some-clause-lowest
returns-in-Some-clause-lowest c = ok-with _ c.count_units.result c.count_units.ensures (λ n. on-ok c.count_units.result (some-acked c.args.stage c.args.seq c.args.conn c.args.self.now (record c.args.self.now { rows = c.ack_units.new.units; cols = c.ack_units-2.new.units; cells = c.ack.new.self }) c.take_acked.new.self refl refl refl
    c.in_ok-ack_units.ensures.acks c.in_ok-ack_units-2.ensures.acks c.in_ok-ack.ensures.acked c.requires.sound c.requires.lowest c.in_ok-ack_units.ensures.sound
    c.in_ok-ack_units-2.ensures.sound c.take_acked.ensures.rest c.take_acked.ensures.stages c.in-Some.acked c.count_units.new.self
    (sym c.in-Some.is ∙ c.take_acked.ensures.taken) n).1)

pub returns-in-None-clause-sound : goal.returns-in-None-clause-sound
returns-in-None-clause-sound c = (none-acked c.args.stage c.args.seq c.args.conn c.args.self.now (record c.args.self.now { rows = c.ack_units.new.units; cols = c.ack_units-2.new.units; cells = c.ack.new.self }) c.take_acked.new.self refl refl refl
    c.in_ok-ack_units.ensures.acks c.in_ok-ack_units-2.ensures.acks c.in_ok-ack.ensures.acked c.requires.sound c.requires.lowest c.in_ok-ack_units.ensures.sound
    c.in_ok-ack_units-2.ensures.sound c.take_acked.ensures.rest c.take_acked.ensures.stages (sym c.in-None.is ∙ c.take_acked.ensures.taken)).0

pub returns-in-None-clause-lowest : goal.returns-in-None-clause-lowest
returns-in-None-clause-lowest c = (none-acked c.args.stage c.args.seq c.args.conn c.args.self.now (record c.args.self.now { rows = c.ack_units.new.units; cols = c.ack_units-2.new.units; cells = c.ack.new.self }) c.take_acked.new.self refl refl refl
    c.in_ok-ack_units.ensures.acks c.in_ok-ack_units-2.ensures.acks c.in_ok-ack.ensures.acked c.requires.sound c.requires.lowest c.in_ok-ack_units.ensures.sound
    c.in_ok-ack_units-2.ensures.sound c.take_acked.ensures.rest c.take_acked.ensures.stages (sym c.in-None.is ∙ c.take_acked.ensures.taken)).1
