-- What contracts see of a sub-operation of a plain replica.
use Rattle.ft_op.specs.Operation.{OnGrid, OnIntervals, OnText, SubOperation}
use Rattle.ft_plain_document.specs.declared.stages.SubOp.{SubOp}
use Rattle.ft_plain_document.specs.declared.stages.SubOp.TheVariants.{Text, Intervals, Grid}

-- the sub-operation as the definitions have it
abbrev pub sub_operation_of : SubOp → SubOperation
sub_operation_of (Text op) = OnText op
sub_operation_of (Intervals op) = OnIntervals op
sub_operation_of (Grid op) = OnGrid op
