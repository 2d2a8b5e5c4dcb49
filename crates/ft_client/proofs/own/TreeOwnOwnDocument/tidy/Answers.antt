use Rattle.std.proofs.Common.{refl}
use Rattle.ft_msg.specs.Client.{stages_of}
use Rattle.ft_client.proofs.Answered.{three-ok}
use Rattle.ft_client.proofs.Compacted.{are-free, compacted, free-of, holds-free, itself, sound-of}
use Rattle.ft_client.proofs.own.TreeOwnOwnDocument.tidy.Goals as goal

pub tidy-requires-clause-held : goal.tidy-requires-clause-held
tidy-requires-clause-held c = (c.requires.client.last_stage, holds-free c.args.self.now c.args.seq c.requires)

pub tidy-requires-2-clause-free : goal.tidy-requires-2-clause-free
tidy-requires-2-clause-free c = are-free c.args.self.now c.args.seq c.requires

pub returns-then-saturating_sub-lt-TIDYING_STEP : goal.returns-then-saturating_sub-lt-TIDYING_STEP
returns-then-saturating_sub-lt-TIDYING_STEP c = λ low p named e h. itself c.args.self.now c.args.seq c.requires low p e h

pub returns : goal.returns
returns c = λ low p named e h.
    let s = c.args.self.now in
    let new = record c.args.self.now { text = c.tidy.new.self; table = c.tidy-2.new.self } in
    let i = c.in_ok-tidy.ensures in
    let o = c.tidy-2.ensures in
    three-ok c.tidy-2.result (o.kept p.last_stage p.doc (stages_of p) named h.table) o.floor o.usable
    (λ k f u. compacted s new low c.args.seq p e h
    (i.compacts p.last_stage p.doc (stages_of p) (sound-of s c.args.seq c.requires low p named h) h.text (free-of s c.args.seq c.requires low p named h))
    k refl i.floor i.given i.usable f o.given u)
