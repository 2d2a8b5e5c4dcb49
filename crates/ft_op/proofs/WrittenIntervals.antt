-- The fields of an interval operation stand by rising keys, whichever are given.
use Rattle.std.proofs.Common.{◌≡◌, Option, Some, None, codes, refl}
use Rattle.serde_json.specs.Data.{Data, Members, no_members, member, put}
use Rattle.ft_op.specs.Written.{put_given, with_given}

-- the fields, put one after another
abbrev pub put_fields : Option Data → Data → Data → Data → Option Data → Option Data → Members
put_fields end id word label props start =
    put_given (codes "start") start
    (put_given (codes "props") props
    (put (codes "label") label
    (put (codes "interval") word
    (put (codes "id") id
    (put_given (codes "end") end no_members)))))

pub interval_fields : (end : Option Data) (id word label : Data) (props start : Option Data) → put_fields end id word label props start
    ≡ with_given (codes "end") end
    (member (codes "id") id
    (member (codes "interval") word
    (member (codes "label") label
    (with_given (codes "props") props
    (with_given (codes "start") start no_members)))))
interval_fields None id word label None None = refl
interval_fields None id word label None (Some start) = refl
interval_fields None id word label (Some props) None = refl
interval_fields None id word label (Some props) (Some start) = refl
interval_fields (Some end) id word label None None = refl
interval_fields (Some end) id word label None (Some start) = refl
interval_fields (Some end) id word label (Some props) None = refl
interval_fields (Some end) id word label (Some props) (Some start) = refl
