-- Which operations of the text fit a list of so many elements, told by lengths alone.
use Rattle.std.specs.Prelude.{ℕ, ◌+◌, ◌-◌, cond, nat_le, List, [], ◌∷◌, Result, Ok, Err, length}
use Rattle.ft_msg.specs.declared.faults.EditFault.{EditFault}
use Rattle.ft_msg.specs.declared.faults.EditFault.TheVariants.{OutOfRange}
use Rattle.ft_op.specs.declared.operations.BaseOp.{BaseOp}
use Rattle.ft_op.specs.declared.operations.BaseOp.TheVariants.{Insert, Remove, Annotate}
use Rattle.ft_op.specs.Operation.{segment_contents}

-- the position up to which elements have to be there
abbrev pub end_of : BaseOp → ℕ
end_of (Insert p seg props) = p
end_of (Remove p q) = q
end_of (Annotate p q changes) = q

-- how many elements are seen after the operation, where n are before it
abbrev pub count_after : ℕ → BaseOp → ℕ
count_after n (Insert p seg props) = n + length (segment_contents seg)
count_after n (Remove p q) = n - (q - p)
count_after n (Annotate p q changes) = n

-- how many elements are seen after the operations in order, or the refusal of the first that is out of range
abbrev pub count_after_all : ℕ → List BaseOp → Result ℕ EditFault
count_after_all n [] = Ok n
count_after_all n (op ∷ ops) = cond (nat_le (end_of op) n) (count_after_all (count_after n op) ops) (Err (OutOfRange n))

-- how many elements the operations put in
abbrev pub put_in_by : BaseOp → ℕ
put_in_by (Insert p seg props) = length (segment_contents seg)
put_in_by _ = 0

abbrev pub put_in_by_all : List BaseOp → ℕ
put_in_by_all [] = 0
put_in_by_all (op ∷ ops) = put_in_by op + put_in_by_all ops
