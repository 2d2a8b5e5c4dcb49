-- The edits that clients of a generated session draw.
use Rattle.std.specs.Prelude.{ℕ, zero, suc, ◌+◌, ◌-◌, Bool, ◌&&◌, if◌then◌else◌, nat_eq, nat_lt, min, pos, [], ◌∷◌, ◌++◌, Some, codes, decimal}
use Rattle.ft_props.specs.Properties.{Characters}
use Rattle.ft_op.specs.declared.operations.BaseOp.TheVariants.{Insert, Remove, Annotate}
use Rattle.ft_op.specs.declared.operations.CellOp.TheVariants.{Set}
use Rattle.ft_op.specs.declared.operations.ChannelOp.{ChannelOp}
use Rattle.ft_op.specs.declared.operations.ChannelOp.TheVariants.{Text, Grid}
use Rattle.ft_op.specs.declared.operations.GridOp.TheVariants as grid
use Rattle.ft_op.specs.declared.operations.Seg.TheVariants.{Chars}
use Rattle.ft_op.specs.declared.operations.TextOp.TheVariants.{One, IntervalAdd}
use Rattle.ft_gen.specs.declared.kinds.Kind.{Kind}
use Rattle.ft_gen.specs.declared.kinds.Kind.TheVariants.{Insertion, Removal, Annotation, CellWrite, NewInterval}
use Rattle.ft_gen.specs.declared.progress.Progress.{Progress}
use Rattle.ft_gen.specs.Draws.{draw, state_after}

-- an edit, and how far the session is after it
pub record DrawnEdit : Type 0 where
  pub op : ChannelOp
  pub after : Progress

-- with n draws more
abbrev pub drawn : ℕ → Progress → Progress
drawn n p = record p { state = state_after n p.state }

-- n letters
abbrev pub letters : ℕ → ℕ → Characters
letters zero x = []
letters (suc n) x = (97 + draw 26 x) ∷ letters n (state_after 1 x)

-- one to three letters anywhere
abbrev pub insertion : Progress → DrawnEdit
insertion p =
    let n = draw 3 (state_after 1 p.state) + 1 in
    record {
      op = Text (One (Insert (draw (p.length + 1) p.state) (Chars (letters n (state_after 2 p.state))) []));
      after = record p { state = state_after n (state_after 2 p.state); length = p.length + n };
    }

-- one to three elements of a text that isn't empty
abbrev pub removal : Progress → DrawnEdit
removal p =
    let start = draw p.length p.state in
    let n = 1 + draw (min 3 (p.length - start)) (state_after 1 p.state) in
    record {
      op = Text (One (Remove start (start + n)));
      after = record p { state = state_after 2 p.state; length = p.length - n };
    }

-- a property of an element of a text that isn't empty
abbrev pub annotation : Progress → DrawnEdit
annotation p =
    let start = draw p.length p.state in
    let value = draw 4 (state_after 1 p.state) in
    record {
      op = Text (One (Annotate start (start + 1) (record { props = (codes "k", Some (decimal value)) ∷ []; adjust = [] })));
      after = drawn 2 p;
    }

-- a number in one of 16 cells
abbrev pub cell_write : Progress → DrawnEdit
cell_write p =
    record {
      op = Grid (grid.One (Set (draw 4 p.state) (draw 4 (state_after 1 p.state)) (decimal (draw 1000 (state_after 2 p.state)))));
      after = drawn 3 p;
    }

-- an interval of one element of a text that isn't empty
abbrev pub new_interval : Progress → DrawnEdit
new_interval p =
    let place = draw p.length p.state in
    record {
      op = Text (IntervalAdd (codes "notes") (codes "i" ++ decimal p.intervals) (record { start = pos place; end = pos place }) []);
      after = record p { state = state_after 1 p.state; intervals = p.intervals + 1 };
    }

-- the kind of an edit that drew k, by a client that shows a text of this length, and may remove or not
abbrev pub edit_kind : Bool → ℕ → ℕ → Kind
edit_kind removes length k =
    if nat_lt k 5 then Insertion
    else (if nat_lt k 7 then (if removes && nat_lt 0 length then Removal else Insertion)
    else (if nat_eq k 7 then (if nat_lt 0 length then Annotation else Insertion)
    else (if nat_eq k 8 then CellWrite
    else (if nat_lt 0 length then NewInterval else Insertion))))

-- the edit of a kind
abbrev pub edit_of : Kind → Progress → DrawnEdit
edit_of Insertion p = insertion p
edit_of Removal p = removal p
edit_of Annotation p = annotation p
edit_of CellWrite p = cell_write p
edit_of NewInterval p = new_interval p

-- the next edit of a client that may remove or not
abbrev pub drawn_edit : Bool → Progress → DrawnEdit
drawn_edit removes p = edit_of (edit_kind removes p.length (draw 10 p.state)) (drawn 1 p)
