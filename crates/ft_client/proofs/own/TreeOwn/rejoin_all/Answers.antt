use Rattle.std.proofs.Common.{refl}
use Rattle.ft_client.proofs.Rejoined.{edits-of, joined-tree, now-held, now-table, now-text, sent-again}
use Rattle.ft_client.proofs.own.TreeOwn.rejoin_all.Goals as goal

pub give_edits-requires : goal.give_edits-requires
give_edits-requires c = record { known = edits-of c.args.self.now c.args.entry.now c.args.counts.now c.requires.known }

pub normalise-requires-clause-usable : goal.normalise-requires-clause-usable
normalise-requires-clause-usable c =
    now-text c.args.self.now c.args.entry.now c.args.counts.now c.requires.known c.give_edits.new.self c.in_ok-again.again.items c.in_ok-again.ensures

pub normalise-requires-clause-held : goal.normalise-requires-clause-held
normalise-requires-clause-held c =
    now-held c.args.self.now c.args.entry.now c.args.counts.now c.requires.known c.give_edits.new.self c.in_ok-again.again.items c.in_ok-again.ensures

pub normalise-requires-2 : goal.normalise-requires-2
normalise-requires-2 c =
    now-table c.args.self.now c.args.entry.now c.args.counts.now c.requires.known c.give_edits.new.self c.in_ok-again.again.items c.in_ok-again.ensures

pub returns : goal.returns
returns c = λ held edits named parts counted h.
    let s = c.args.self.now in
    let now = c.give_edits.new.self in
    let again = c.in_ok-again.again.items in
    let text = c.in_ok-normalise.ensures in
    let table = c.in_ok-normalise-2.ensures in
    let new = record c.give_edits.new.self { text = c.normalise.new.self; table = c.normalise-2.new.self; numbers = c.take.new.self } in (
      sent-again s c.args.entry.now c.args.counts.now c.requires.known now again c.in_ok-again.ensures held edits named parts counted h,
      joined-tree s c.args.entry.now c.args.counts.now c.requires.known now again c.in_ok-again.ensures held edits named parts counted h
          new text.holds table.rebuilt text.given table.given text.floor table.floor
          text.usable table.usable refl c.take.ensures,
    )
