-- The JSON lines that a session writes of a client: its intervals that meet a range, and who inserted its visible text.
use Rattle.std.specs.Prelude.{ℕ, ◌+◌, Bool, true, false, cond, nat_eq, List, [], ◌∷◌, ◌++◌, Option, Some, None, codes}
use Rattle.serde_json.specs.Data.{Data, null, boolean, array, object, no_members, member}
use Rattle.serde_json.specs.View.{items_of}
use Rattle.ft_attrib.specs.declared.attribution.AttrRun.{AttrRun}
use Rattle.ft_attrib.specs.declared.attribution.Origin.{Origin}
use Rattle.ft_attrib.specs.declared.attribution.Origin.TheVariants.{Known, Unknown, Pending}
use Rattle.ft_attrib.specs.Runs.{how_many, same_origin}
use Rattle.ft_attrib.specs.Totals.{is_by}
use Rattle.ft_sumdoc.specs.declared.summary.IntervalRec.{IntervalRec}
use Rattle.ft_props.specs.Properties.{Characters}
use Rattle.ft_op.specs.Written.{written_count, written_number, written_text}
use Rattle.ft_msg.specs.NameTable.{name_at}
use Rattle.ft_sumdoc.specs.Written.{written_props}

-- an interval without its label
abbrev pub written_overlap : IntervalRec → Data
written_overlap i = array (items_of (written_text i.id ∷ written_number i.ends.start ∷ written_number i.ends.end ∷ written_props i.props ∷ []))

-- a name, null where there is none
abbrev pub written_name : Option Characters → Data
written_name None = null
written_name (Some name) = written_text name

-- the name of an origin's connection
abbrev pub origin_name : List Characters → Origin → Data
origin_name names (Known s c) = written_name (name_at names c)
origin_name names Unknown = null
origin_name names Pending = null

-- the number of an origin's message: 0 where it isn't known, null where there is none yet
abbrev pub origin_number : Origin → Data
origin_number (Known s c) = written_count s
origin_number Unknown = written_count 0
origin_number Pending = null

-- a run of origins as it is written
abbrev pub written_origin_run : List Characters → AttrRun → Data
written_origin_run names run =
    object
    (member (codes "by") (origin_name names run.who)
    (member (codes "end") (written_count run.end)
    (member (codes "seq") (origin_number run.who)
    (member (codes "start") (written_count run.start) no_members))))

-- the count of a connection's elements
abbrev pub written_author : Characters → ℕ → Data
written_author name n = object (member (codes "by") (written_text name) (member (codes "count") (written_count n) no_members))

-- the count of a connection's elements, unless it has none
abbrev pub counted_author : Characters → ℕ → List Data
counted_author name n = cond (nat_eq n 0) [] (written_author name n ∷ [])

-- the counts of the connections of these names, the first of which has the number conn
abbrev pub known_authors : ℕ → List Characters → List Origin → List Data
known_authors conn [] os = []
known_authors conn (name ∷ names) os = counted_author name (how_many (is_by conn) os) ++ known_authors (conn + 1) names os

-- the count of elements without a name, pending or not
abbrev pub written_nameless : Bool → ℕ → Data
written_nameless pending n =
    object (member (codes "by") null (member (codes "count") (written_count n) (member (codes "pending") (boolean pending) no_members)))

-- the count of elements without a name, pending or not, unless there are none
abbrev pub counted_nameless : Bool → ℕ → List Data
counted_nameless pending n = cond (nat_eq n 0) [] (written_nameless pending n ∷ [])

-- how many visible elements each connection inserted, then how many nobody known, then how many are pending
abbrev pub written_authors : List Characters → List Origin → List Data
written_authors names os =
    known_authors 1 names os ++ (counted_nameless false (how_many (same_origin Unknown) os) ++ counted_nameless true (how_many (same_origin Pending) os))
