use Rattle.std.proofs.Common.{◌^◌, lt-ltb}
use Rattle.ft_seqr.proofs.writing.put_number.Goals as goal

pub returns-clause-canonical : goal.returns-clause-canonical
returns-clause-canonical c = lt-ltb c.args.number (2 ^ 64) c.ranges.number.fits

pub returns-in_err-put-clause-canonical : goal.returns-in_err-put-clause-canonical
returns-in_err-put-clause-canonical c = lt-ltb c.args.number (2 ^ 64) c.ranges.number.fits
