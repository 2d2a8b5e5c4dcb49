use Rattle.std.proofs.Common.{refl}
use Rattle.ft_msg.specs.Client.{stages_of}
use Rattle.ft_client.proofs.Answered.{then-ok, three-ok}
use Rattle.ft_client.proofs.Compacted.{all-not, are-free, compacted, free-of, holds-free, sound-of}
use Rattle.ft_client.proofs.own.TreeOwnOwnDocument.compact.Goals as goal

pub compact-requires-clause-held : goal.compact-requires-clause-held
compact-requires-clause-held c = (c.requires.client.last_stage, holds-free c.args.self.now c.args.seq c.requires)

pub compact-requires-2-clause-free : goal.compact-requires-2-clause-free
compact-requires-2-clause-free c = are-free c.args.self.now c.args.seq c.requires

pub returns-clause-compacts : goal.returns-clause-compacts
returns-clause-compacts c = λ low p named e h.
    let s = c.args.self.now in
    let new = record c.args.self.now { text = c.compact.new.self; table = c.compact-2.new.self } in
    let i = c.in_ok-compact.ensures in
    let o = c.compact-2.ensures in
    three-ok c.compact-2.result (o.kept p.last_stage p.doc (stages_of p) named h.table) o.floor o.usable
    (λ k f u. compacted s new low c.args.seq p e h
    (i.compacts p.last_stage p.doc (stages_of p) (sound-of s c.args.seq c.requires low p named h) h.text (free-of s c.args.seq c.requires low p named h))
    k refl i.floor i.given i.usable f o.given u)

pub returns-clause-full : goal.returns-clause-full
returns-clause-full c = λ u.
    then-ok c.compact-2.result c.compact-2.ensures.none
    (λ t. record { text = c.in_ok-compact.ensures.none; rows = all-not c.args.seq c.compact-2.new.self.rows t.rows; cols = all-not c.args.seq c.compact-2.new.self.cols t.cols })
