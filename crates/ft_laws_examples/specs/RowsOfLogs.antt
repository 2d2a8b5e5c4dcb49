-- Worked examples of sequenced messages alone. In each, `message s c r op` has number s, comes from connection c and
-- has reference number r.
use Rattle.std.specs.Prelude.{◌≡◌, ℕ, ◌-◌, ◌++◌, List, [], ◌∷◌, Some, None, pos, negsuc, codes}
use Rattle.ft_op.specs.declared.operations.CellOp.TheVariants.{SpliceIn, SpliceOut, Set}
use Rattle.ft_op.specs.declared.operations.Target.TheVariants.{Rows, Cols}
use Rattle.ft_op.specs.declared.operations.Seg.TheVariants.{Marker}
use Rattle.ft_op.specs.declared.operations.BaseOp.TheVariants.{Insert}
use Rattle.ft_msg.specs.declared.messages.Body.TheVariants as body
use Rattle.ft_msg.specs.declared.messages.MsgKind.TheVariants as kind
use Rattle.ft_msg.specs.declared.messages.Entry.{Entry}
use Rattle.ft_msg.specs.Agreed.{agreed}
use Rattle.ft_msg.specs.Content.{ViewContent, shown}
use Rattle.ft_laws_examples.specs.Rows.{add, adjusting, ann, cell, group, ins, interval, message, one, plain, rem}

-- what is shown after the messages
abbrev pub log : List Entry → ViewContent
log entries = shown (agreed entries)

-- of two insertions at the head the later stands left
abbrev pub TwoAtTheHead : Type 0
TwoAtTheHead = log (message 1 1 0 (one (ins 0 (codes "a"))) ∷ message 2 2 0 (one (ins 0 (codes "b"))) ∷ []) ≡ plain (codes "ba")

-- of two insertions at one place the one with the higher number stands left
abbrev pub TwoAtOnePlace : Type 0
TwoAtOnePlace =
    log (message 1 1 0 (one (ins 0 (codes "x"))) ∷ message 2 2 1 (one (ins 1 (codes "b"))) ∷ message 3 3 1 (one (ins 1 (codes "c"))) ∷ []) ≡ plain (codes "xcb")

-- an insertion goes directly after its place, also where tombstones follow: a R b(removed) S Q c
abbrev pub BesideATombstone : Type 0
BesideATombstone =
    log (message 1 1 0 (one (ins 0 (codes "abc"))) ∷ message 2 2 1 (one (rem 1 2)) ∷ message 3 3 1 (one (ins 2 (codes "Q")))
    ∷ message 4 4 2 (one (ins 1 (codes "R"))) ∷ message 5 5 1 (one (ins 2 (codes "S"))) ∷ []) ≡ plain (codes "aRSQc")

-- a perspective sees what another connection alone removed, and not what its own removed too
abbrev pub RemovedByTwo : Type 0
RemovedByTwo =
    log (message 1 1 0 (one (ins 0 (codes "abcd"))) ∷ message 2 2 1 (one (rem 0 2)) ∷ message 3 3 1 (one (rem 1 3)) ∷ message 4 3 1 (one (ins 2 (codes "k"))) ∷ [])
    ≡ plain (codes "dk")

-- an interval on d and e of abcde, which are then removed
abbrev pub notes : List Entry
notes = message 1 1 0 (one (ins 0 (codes "abcde"))) ∷ message 2 2 1 (add (codes "notes") (codes "i") 3 4) ∷ message 3 2 2 (one (rem 3 5)) ∷ []

-- an end whose element and all after it are removed slides to the last one before
abbrev pub EndsSlideBack : Type 0
EndsSlideBack = log notes ≡ record (plain (codes "abc")) { intervals = interval (codes "notes") (codes "i") (pos 2) (pos 2) ∷ [] }

-- an end with no element left is detached, and stays so
abbrev pub EndsDetach : Type 0
EndsDetach =
    log (notes ++ (message 4 2 3 (one (rem 0 3)) ∷ message 5 2 4 (one (ins 0 (codes "z"))) ∷ []))
    ≡ record (plain (codes "z")) { intervals = interval (codes "notes") (codes "i") (negsuc 0) (negsuc 0) ∷ [] }

-- an end slides to the next element, also to one whose insertion the remover hadn't seen
abbrev pub EndsSlideOn : Type 0
EndsSlideOn =
    log (message 1 1 0 (one (ins 0 (codes "yz"))) ∷ message 2 1 1 (add (codes "n") (codes "i") 0 0) ∷ message 3 2 2 (one (ins 1 (codes "f"))) ∷ message 4 1 2 (one (rem 0 1)) ∷ [])
    ≡ record (plain (codes "fz")) { intervals = interval (codes "n") (codes "i") (pos 0) (pos 0) ∷ [] }

-- each removing sub-operation of a group slides the ends before the next one acts
abbrev pub EndsSlideInAGroup : Type 0
EndsSlideInAGroup =
    log (message 1 1 0 (one (ins 0 (codes "ab"))) ∷ message 2 1 1 (add (codes "n") (codes "i") 0 0) ∷ message 3 1 2 (group (rem 0 2 ∷ ins 0 (codes "Y") ∷ [])) ∷ [])
    ≡ record (plain (codes "Y")) { intervals = interval (codes "n") (codes "i") (negsuc 0) (negsuc 0) ∷ [] }

-- a cell of a removed row is never shown, and a set counts the rows that its perspective sees
abbrev pub CellsByUnit : Type 0
CellsByUnit =
    log (message 1 1 0 (cell (SpliceIn Rows 0 2)) ∷ message 2 1 1 (cell (SpliceIn Cols 0 1)) ∷ message 3 2 2 (cell (SpliceOut Rows 0 1))
    ∷ message 4 3 2 (cell (Set 0 0 (codes "\"v\""))) ∷ message 5 3 2 (cell (Set 1 0 (codes "\"u\""))) ∷ [])
    ≡ record (plain []) { rows = 1; cols = 1; cells = record { row = 0; col = 0; value = codes "\"u\"" } ∷ [] }

-- of two sub-operations of a group at one place the later stands left
abbrev pub GroupAtOnePlace : Type 0
GroupAtOnePlace =
    log (message 1 1 0 (group (ins 0 (codes "ab") ∷ ann 0 1 ((codes "b", Some (codes "true")) ∷ []) ∷ ins 0 (codes "c") ∷ [])) ∷ [])
    ≡ record (plain (codes "cab")) { runs = record { start = 1; end = 2; props = (codes "b", codes "true") ∷ [] } ∷ [] }

-- a value that is a string, then adjusted by -3 with a least value of -2
abbrev pub adjusted : List Entry → List Entry
adjusted more =
    message 1 1 0 (one (ins 0 (codes "a"))) ∷ message 2 1 1 (one (ann 0 1 ((codes "n", Some (codes "\"x\"")) ∷ [])))
    ∷ message 3 1 2 (one (adjusting 0 1 (codes "n") (record { delta = negsuc 2; min = Some (negsuc 1); max = None }))) ∷ more

-- an adjustment by the greatest whole number
abbrev pub large : ℕ → Entry
large s = message s 1 (s - 1) (one (adjusting 0 1 (codes "n") (record { delta = pos 9007199254740991; min = None; max = None })))

-- an a whose key n has this value
abbrev pub with_number : List ℕ → ViewContent
with_number digits = record (plain (codes "a")) { runs = record { start = 0; end = 1; props = (codes "n", digits) ∷ [] } ∷ [] }

-- a string counts as 0, and the sum is raised to the least value
abbrev pub RaisedToMin : Type 0
RaisedToMin = log (adjusted []) ≡ with_number (codes "-2")

-- an adjustment adds to the value that is there
abbrev pub Adjusted : Type 0
Adjusted = log (adjusted (large 4 ∷ [])) ≡ with_number (codes "9007199254740989")

-- the sum stays within the greatest whole number
abbrev pub KeptInRange : Type 0
KeptInRange = log (adjusted (large 4 ∷ large 5 ∷ [])) ≡ with_number (codes "9007199254740991")

-- a group of which one sub-operation is out of range: it is skipped alone
abbrev pub SkipsOne : Type 0
SkipsOne = (agreed (message 1 1 0 (group (ins 0 (codes "a") ∷ rem 0 9 ∷ [])) ∷ [])).skipped ≡ 1

-- without messages nothing is shown
abbrev pub Nothing : Type 0
Nothing = log [] ≡ plain []

-- an operation for another address
abbrev pub elsewhere : ℕ → Entry
elsewhere s = record {
  msg = record { client_id = Some (codes "X"); seq = s; min = 0; client_seq = pos 1; ref_seq = pos (s - 1); kind = kind.Op; body = body.Elsewhere (codes "chat") };
  origin = 1;
}

-- two characters, one of them beyond the first 65,536, and between them a marker with a property
abbrev pub marked : List Entry
marked =
    message 1 1 0 (one (ins 0 (233 ∷ 128512 ∷ []))) ∷ message 2 1 1 (one (Insert 1 (Marker 1) ((codes "k", Some (codes "\"v\"")) ∷ []))) ∷ elsewhere 3 ∷ []

-- a marker has a place and adds nothing to the text; an operation for another address is counted
abbrev pub MarkedAndOthers : Type 0
MarkedAndOthers =
    (log marked ≡ record (plain (233 ∷ 128512 ∷ [])) {
      markers = record { pos = 1; ref_type = 1 } ∷ [];
      runs = record { start = 1; end = 2; props = (codes "k", codes "\"v\"") ∷ [] } ∷ [];
    })
    × ((agreed marked).other ≡ 1)

-- a message that says only its sender's reference number
abbrev pub noop_message : ℕ → Entry
noop_message s = record {
  msg = record { client_id = Some (codes "X"); seq = s; min = 0; client_seq = pos 1; ref_seq = pos 0; kind = kind.Noop; body = body.Nothing };
  origin = 1;
}

-- noops and operations for others change nothing but the numbers
abbrev pub OnlyNumbers : Type 0
OnlyNumbers =
    let doc = agreed (noop_message 1 ∷ elsewhere 2 ∷ []) in
    (shown doc ≡ plain []) × (doc.number ≡ 2) × (doc.other ≡ 1) × (doc.skipped ≡ 0)
