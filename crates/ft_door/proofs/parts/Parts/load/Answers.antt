use Rattle.ft_door.proofs.parts.Parts.load.Goals as goal

pub load_read-told-requires : goal.load_read-told-requires
load_read-told-requires g c = record { valid = c.read_summary-read.ensures.reads.formed; few = c.read_summary-read.ensures.few }

pub returns : goal.returns
returns g c = c.load_read-told.ensures c.args.line.now c.read_summary-read.ensures.reads
