use Rattle.std.proofs.Common.{◌∙◌, ℕ, List, refl, slice_index_or}
use Rattle.std.proofs.Math.ListN.{drop_of_length-le}
use Rattle.ft_client.proofs.AckedGrids.{acked-last, acked-next, item-lowest, none-acked-yet}
use Rattle.ft_client.specs.declared.stages.OwnStage.{OwnStage}
use Rattle.ft_client.specs.declared.stages.Part.TheVariants.{Elements}
use Rattle.ft_client.proofs.own.acks.ack_each.Goals as goal

abbrev none : OwnStage
none = record { stage = 0; part = Elements }

abbrev item : List OwnStage → ℕ → OwnStage
item own i = slice_index_or own i none

pub loop-stage-init : goal.loop-stage-init
loop-stage-init c = record { keeps = record { floor = refl; given = refl; usable = refl }; acked = λ last doc mine rest e named counted h. none-acked-yet last c.args.seq c.args.conn doc mine rest c.args.table.now named h counted }

pub ack_one-requires-clause-lowest : goal.ack_one-requires-clause-lowest
ack_one-requires-clause-lowest c =
    let k = c.requires.held.1 in
    item-lowest c.requires.held.0 c.args.seq c.args.conn k.doc k.mine k.rest c.args.own.now c.loop-stage.stage-index
    (item c.args.own.now c.loop-stage.stage-index) none c.loop-stage.table k.numbers c.loop-stage-test.true
    refl (c.loop-stage.invariant.acked c.requires.held.0 k.doc k.mine k.rest k.numbers k.named k.counted k.holds)

pub loop-stage-preserved : goal.loop-stage-preserved
loop-stage-preserved c =
    let i = c.loop-stage.invariant in
    let e = c.in_ok-ack_one.ensures in
    record {
      keeps = record { floor = e.rest.floor ∙ i.keeps.floor; given = e.rest.given ∙ i.keeps.given; usable = e.rest.usable ∙ i.keeps.usable };
      acked = λ last doc mine rest n named counted h. acked-next last c.args.seq c.args.conn doc mine rest c.args.own.now
          c.loop-stage.stage-index (item c.args.own.now c.loop-stage.stage-index) none c.loop-stage.table
          n c.loop-stage-test.true refl c.ack_one.new.table e.acked (i.acked last doc mine rest n named counted h);
    }

pub returns-clause-acked : goal.returns-clause-acked
returns-clause-acked c = λ last doc mine rest n named counted h.
    acked-last last c.args.seq c.args.conn doc mine rest c.args.own.now c.loop-stage.stage-index c.loop-stage.table n (drop_of_length-le c.args.own.now c.loop-stage-test.false)
    (c.loop-stage.invariant.acked last doc mine rest n named counted h)
