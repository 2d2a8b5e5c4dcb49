-- Worked examples of sessions. Each shown view is compared with the expected content, and so is what the agreed
-- document shows with the client's pending operations applied.
use Rattle.std.specs.Prelude.{◌≡◌, ℕ, ◌+◌, ◌++◌, List, [], ◌∷◌, Some, None, pos, codes, replicate}
use Rattle.ft_op.specs.declared.operations.CellOp.TheVariants.{SpliceIn, SpliceOut, Set}
use Rattle.ft_op.specs.declared.operations.Target.TheVariants.{Rows, Cols}
use Rattle.ft_op.specs.declared.operations.ChannelOp.{ChannelOp}
use Rattle.ft_msg.specs.declared.messages.Draft.{Draft}
use Rattle.ft_msg.specs.declared.messages.Body.TheVariants as body
use Rattle.ft_sumdoc.specs.declared.summary.Seg.TheVariants.{Chars}
use Rattle.ft_op.specs.declared.operations.TextOp.TheVariants.{IntervalAdd}
use Rattle.ft_op.specs.declared.operations.ChannelOp.TheVariants.{Text}
use Rattle.ft_msg.specs.declared.faults.EditFault.TheVariants.{IdInUse, NoSuchInterval, OutOfRange}
use Rattle.ft_attrib.specs.declared.attribution.Origin.TheVariants.{Known, Pending}
use Rattle.ft_sumdoc.specs.declared.summary.IntervalRec.{IntervalRec}
use Rattle.ft_msg.specs.declared.views.Run.{Run}
use Rattle.ft_sumdoc.specs.declared.summary.SumDoc.{SumDoc}
use Rattle.ft_props.specs.Element.{id}
use Rattle.ft_msg.specs.Agreed.{take_entry}
use Rattle.ft_msg.specs.Content.{ViewContent, shown}
use Rattle.ft_msg.specs.Summary.{doc_of}
use Rattle.ft_msg.specs.SummaryOf.{Summarizes}
use Rattle.ft_laws_examples.specs.Session.{Blame, Blamed, Connect, Deliver, Drop, Edit, EditRefused, Event, From, Kept, Met, Noop, Output, Overlap, Queue, Queued, Save, Show, Showed, Start, Ticket, all, session, some}
use Rattle.ft_laws_examples.specs.Rows.{add, adjusting, ann, bare_change, cell, group, ins, interval, message, one, plain, rem}

-- two clients join and process both joins
abbrev pub two : List Event
two = Start 1 ∷ Start 2 ∷ Connect 1 ∷ Connect 2 ∷ Deliver 1 all ∷ Deliver 2 all ∷ []

-- three clients join and process all joins
abbrev pub three : List Event
three = Start 1 ∷ Start 2 ∷ Start 3 ∷ Connect 1 ∷ Connect 2 ∷ Connect 3 ∷ Deliver 1 all ∷ Deliver 2 all ∷ Deliver 3 all ∷ []

-- the view of an online client
abbrev pub online : ℕ → ℕ → ℕ → ViewContent → Output
online seq min pending shown = Showed seq min pending 2 shown shown

-- the view of a joining client
abbrev pub joining : ℕ → ℕ → ℕ → ViewContent → Output
joining seq min pending shown = Showed seq min pending 1 shown shown

-- a draft of an operation
abbrev pub op_draft : ℕ → ℕ → ChannelOp → Draft
op_draft n ref_seq op = record { client_seq = n; ref_seq = ref_seq; body = body.Op op }

-- another client's insertion goes past the client's own pending text
abbrev pub PastThePendingRun : Type 0
PastThePendingRun =
    session (two ++ (Edit 1 (one (ins 0 (codes "x"))) ∷ Ticket 1 (some 1) ∷ Deliver 1 all ∷ Deliver 2 all ∷ Edit 1 (one (ins 1 (codes "e")))
    ∷ Edit 2 (one (ins 1 (codes "f")))
    ∷ Ticket 2 (some 1) ∷ Deliver 1 (some 1) ∷ Show 1 ∷ Ticket 1 (some 1) ∷ Deliver 1 all ∷ Deliver 2 all ∷ Show 2 ∷ []))
    ≡ online 4 2 1 (plain (codes "xef")) ∷ online 5 3 0 (plain (codes "xef")) ∷ []

-- the equal views of three online clients with nothing pending
abbrev pub online_at : ℕ → ℕ → ViewContent → List Output
online_at seq min shown = online seq min 0 shown ∷ online seq min 0 shown ∷ online seq min 0 shown ∷ []

-- a client drops, types beside what another removes, and sends it again under a new connection
abbrev pub RegeneratedBesideARemoval : Type 0
RegeneratedBesideARemoval =
    session (three ++ (Edit 1 (one (ins 0 (codes "wt"))) ∷ Ticket 1 (some 1) ∷ Deliver 1 all ∷ Deliver 2 all ∷ Deliver 3 all ∷ Drop 1
    ∷ Edit 1 (one (ins 2 (codes "e")))
    ∷ Edit 2 (one (rem 1 2)) ∷ Ticket 2 (some 1) ∷ Edit 3 (one (ins 2 (codes "g"))) ∷ Connect 1 ∷ Deliver 1 all ∷ Queue 1 ∷ Show 1
    ∷ Ticket 1 (some 1) ∷ Ticket 3 (some 1)
    ∷ Deliver 1 all ∷ Deliver 2 all ∷ Deliver 3 all ∷ Show 1 ∷ Show 2 ∷ Show 3 ∷ []))
    ≡ Queued (op_draft 1 7 (one (ins 1 (codes "e"))) ∷ []) ∷ online 7 0 1 (plain (codes "we")) ∷ online_at 9 4 (plain (codes "weg"))

-- a text with one interval on one element
abbrev pub with_end : List ℕ → ℕ → ViewContent
with_end text p = record (plain text) { intervals = interval (codes "notes") (codes "i") (pos p) (pos p) ∷ [] }

-- an interval that was added offline on an element that another removes
abbrev pub RegeneratedInterval : Type 0
RegeneratedInterval =
    session (two ++ (Edit 1 (one (ins 0 (codes "abcd"))) ∷ Ticket 1 (some 1) ∷ Deliver 1 all ∷ Deliver 2 all ∷ Drop 1
    ∷ Edit 1 (one (ins 3 (codes "Q"))) ∷ Edit 1 (add (codes "notes") (codes "i") 2 2)
    ∷ Edit 2 (one (rem 2 3)) ∷ Ticket 2 (some 1) ∷ Connect 1 ∷ Deliver 1 (some 2) ∷ Show 1 ∷ Deliver 1 (some 1) ∷ Show 1 ∷ Ticket 1 all
    ∷ Deliver 2 all ∷ Show 2 ∷ []))
    ≡ joining 5 3 2 (with_end (codes "abQd") 2) ∷ online 6 3 2 (with_end (codes "abQd") 2) ∷ online 8 3 0 (with_end (codes "abQd") 2) ∷ []

-- an offline client keeps what was removed above its floor
abbrev pub KeptByTheFloor : Type 0
KeptByTheFloor =
    session (two ++ (Edit 1 (one (ins 0 (codes "wt"))) ∷ Ticket 1 (some 1) ∷ Deliver 1 all ∷ Deliver 2 all ∷ Drop 1
    ∷ Edit 1 (one (ins 2 (codes "e"))) ∷ Deliver 2 all ∷ Edit 2 (one (rem 1 2))
    ∷ Ticket 2 (some 1) ∷ Deliver 2 (some 1) ∷ Noop 2 ∷ Ticket 2 (some 1) ∷ Deliver 2 (some 1) ∷ Edit 2 (one (ins 1 (codes "g")))
    ∷ Ticket 2 (some 1) ∷ Connect 1 ∷ Deliver 1 (some 3) ∷ Show 1
    ∷ Deliver 1 (some 1) ∷ Show 1 ∷ Deliver 1 (some 1) ∷ Show 1 ∷ []))
    ≡ joining 6 5 1 (plain (codes "we")) ∷ joining 7 6 1 (plain (codes "wge")) ∷ online 8 6 1 (plain (codes "wge")) ∷ []

-- what was sequenced under the old connection isn't sent again
abbrev pub SentOnce : Type 0
SentOnce =
    session (two ++ (Edit 1 (one (ins 0 (codes "a"))) ∷ Edit 1 (one (ins 1 (codes "b"))) ∷ Edit 1 (one (ins 2 (codes "c")))
    ∷ Ticket 1 (some 1) ∷ Drop 1 ∷ Connect 1 ∷ Deliver 1 all ∷ Show 1
    ∷ Ticket 1 all ∷ Deliver 1 all ∷ Deliver 2 all ∷ Show 2 ∷ []))
    ≡ online 5 0 2 (plain (codes "abc")) ∷ online 7 0 0 (plain (codes "abc")) ∷ []

-- a text that is bold and italic
abbrev pub bold_italic : ViewContent
bold_italic = record (plain (codes "hi")) { runs = record { start = 0; end = 2; props = (codes "bold", codes "true") ∷ (codes "italic", codes "true") ∷ [] } ∷ [] }

-- pending properties stand over sequenced ones
abbrev pub PendingProperties : Type 0
PendingProperties =
    session (two ++ (Edit 1 (one (ins 0 (codes "hi"))) ∷ Ticket 1 (some 1) ∷ Deliver 1 all ∷ Deliver 2 all
    ∷ Edit 1 (one (ann 0 2 ((codes "bold", Some (codes "true")) ∷ [])))
    ∷ Edit 2 (one (ann 0 2 ((codes "bold", Some (codes "false")) ∷ (codes "italic", Some (codes "true")) ∷ []))) ∷ Ticket 2 (some 1)
    ∷ Deliver 1 (some 1) ∷ Show 1 ∷ Ticket 1 (some 1)
    ∷ Deliver 1 all ∷ Deliver 2 all ∷ Show 2 ∷ []))
    ≡ online 4 2 1 bold_italic ∷ online 5 3 0 bold_italic ∷ []

-- a group is edited offline
abbrev pub before_the_group : List Event
before_the_group =
    two ++ (Edit 1 (one (ins 0 (codes "ab"))) ∷ Ticket 1 (some 1) ∷ Deliver 1 all ∷ Deliver 2 all ∷ Drop 1
    ∷ Edit 1 (group (ins 1 (codes "X") ∷ rem 0 2 ∷ ins 0 (codes "Y") ∷ [])) ∷ [])

-- a group is sent as it was edited where nothing came between
abbrev pub RegeneratedGroup : Type 0
RegeneratedGroup =
    session (before_the_group ++ (Connect 1 ∷ Deliver 1 all ∷ Queue 1 ∷ Show 1 ∷ []))
    ≡ Queued (op_draft 1 5 (group (ins 1 (codes "X") ∷ rem 0 2 ∷ ins 0 (codes "Y") ∷ [])) ∷ []) ∷ online 5 0 1 (plain (codes "Yb")) ∷ []

-- a removal in which another inserted is sent again as two pieces
abbrev pub RegeneratedRemoval : Type 0
RegeneratedRemoval =
    session (two ++ (Edit 1 (one (ins 0 (codes "ab"))) ∷ Ticket 1 (some 1) ∷ Deliver 1 all ∷ Deliver 2 all ∷ Drop 1 ∷ Edit 1 (one (rem 0 2))
    ∷ Edit 2 (one (ins 1 (codes "m"))) ∷ Ticket 2 (some 1)
    ∷ Connect 1 ∷ Deliver 1 all ∷ Queue 1 ∷ Show 1 ∷ []))
    ≡ Queued (op_draft 1 6 (group (rem 0 1 ∷ rem 1 2 ∷ [])) ∷ []) ∷ online 6 3 1 (plain (codes "m")) ∷ []

-- one client joins and processes its join
abbrev pub one_client : List Event
one_client = Start 1 ∷ Connect 1 ∷ Deliver 1 all ∷ []

-- an end goes stage by stage, so it stays on w and doesn't go on to X
abbrev pub SettledStageByStage : Type 0
SettledStageByStage =
    session (one_client ++ (Edit 1 (one (ins 0 (codes "wa"))) ∷ Edit 1 (add (codes "n") (codes "i") 1 1) ∷ Ticket 1 all ∷ Deliver 1 all
    ∷ Edit 1 (one (rem 1 2)) ∷ Edit 1 (one (ins 1 (codes "X")))
    ∷ Show 1 ∷ Ticket 1 all ∷ Deliver 1 all ∷ Show 1 ∷ []))
    ≡ online 3 1 2 (record (plain (codes "wX")) { intervals = interval (codes "n") (codes "i") (pos 0) (pos 0) ∷ [] })
    ∷ online 5 3 0 (record (plain (codes "wX")) { intervals = interval (codes "n") (codes "i") (pos 0) (pos 0) ∷ [] }) ∷ []

-- a text whose key n has the value 10
abbrev pub ten : ViewContent
ten = record (plain (codes "hi")) { runs = record { start = 0; end = 2; props = (codes "n", codes "10") ∷ [] } ∷ [] }

-- a pending adjustment takes effect once, on top of a sequenced one
abbrev pub AdjustedOnce : Type 0
AdjustedOnce =
    session (two ++ (Edit 1 (one (ins 0 (codes "hi"))) ∷ Ticket 1 (some 1) ∷ Deliver 1 all ∷ Deliver 2 all
    ∷ Edit 1 (one (adjusting 0 2 (codes "n") (record { delta = pos 5; min = None; max = Some (pos 10) })))
    ∷ Edit 2 (one (adjusting 0 2 (codes "n") (record { delta = pos 7; min = None; max = None }))) ∷ Ticket 2 (some 1) ∷ Deliver 1 (some 1)
    ∷ Show 1 ∷ Ticket 1 (some 1) ∷ Deliver 1 all ∷ Deliver 2 all ∷ Show 2 ∷ []))
    ≡ online 4 2 1 ten ∷ online 5 3 0 ten ∷ []

-- one cell
abbrev pub one_cell : List ℕ → ViewContent
one_cell v = record (plain []) { rows = 1; cols = 1; cells = record { row = 0; col = 0; value = v } ∷ [] }

-- a pending cell write stands over a sequenced one
abbrev pub PendingCells : Type 0
PendingCells =
    session (two ++ (Edit 1 (cell (SpliceIn Rows 0 1)) ∷ Edit 1 (cell (SpliceIn Cols 0 1)) ∷ Ticket 1 all ∷ Deliver 1 all ∷ Deliver 2 all
    ∷ Edit 1 (cell (Set 0 0 (codes "\"a\"")))
    ∷ Edit 2 (cell (Set 0 0 (codes "\"b\""))) ∷ Ticket 2 (some 1) ∷ Deliver 1 (some 1) ∷ Show 1 ∷ Ticket 1 (some 1) ∷ Deliver 1 all
    ∷ Deliver 2 all ∷ Show 2 ∷ []))
    ≡ online 5 2 1 (one_cell (codes "\"a\"")) ∷ online 6 4 0 (one_cell (codes "\"a\"")) ∷ []

-- the end of the view is a place, beyond it there is none
abbrev pub RefusedPlaces : Type 0
RefusedPlaces =
    session (one_client ++ (Edit 1 (one (ins 0 (codes "abc"))) ∷ Edit 1 (one (ins 3 (codes "d"))) ∷ Edit 1 (one (ins 5 (codes "x")))
    ∷ Edit 1 (one (rem 3 3)) ∷ Show 1 ∷ []))
    ≡ EditRefused (OutOfRange 4) ∷ online 1 0 3 (plain (codes "abcd")) ∷ []

-- an id is added once, and changed only where it is; an end is a place of an element
abbrev pub RefusedIntervals : Type 0
RefusedIntervals =
    session (one_client ++ (Edit 1 (one (ins 0 (codes "ab"))) ∷ Edit 1 (add (codes "n") (codes "i") 0 1)
    ∷ Edit 1 (add (codes "n") (codes "i") 0 1) ∷ Edit 1 (bare_change (codes "n") (codes "j"))
    ∷ Edit 1 (add (codes "n") (codes "k") 0 2) ∷ Show 1 ∷ []))
    ≡ EditRefused IdInUse ∷ EditRefused NoSuchInterval ∷ EditRefused (OutOfRange 2)
    ∷ online 1 0 2 (record (plain (codes "ab")) { intervals = interval (codes "n") (codes "i") (pos 0) (pos 1) ∷ [] }) ∷ []

-- an interval of the label notes
abbrev pub met : List ℕ → ℕ → ℕ → IntervalRec
met id a b = interval (codes "notes") id (pos a) (pos b)

-- the intervals that meet a range, before and after a removal that is pending and then sequenced
abbrev pub Overlaps : Type 0
Overlaps =
    session (one_client ++ (Edit 1 (one (ins 0 (codes "abcdefgh"))) ∷ Edit 1 (add (codes "notes") (codes "i") 1 2)
    ∷ Edit 1 (add (codes "notes") (codes "j") 4 6) ∷ Edit 1 (add (codes "notes") (codes "k") 0 7)
    ∷ Overlap 1 (codes "notes") 3 3 ∷ Edit 1 (one (rem 4 8)) ∷ Overlap 1 (codes "notes") 3 3 ∷ Ticket 1 all ∷ Deliver 1 all
    ∷ Overlap 1 (codes "notes") 3 3 ∷ []))
    ≡ Met (met (codes "k") 0 7 ∷ []) ∷ Met (met (codes "j") 3 3 ∷ met (codes "k") 0 3 ∷ [])
    ∷ Met (met (codes "j") 3 3 ∷ met (codes "k") 0 3 ∷ []) ∷ []

-- who inserted what
abbrev pub Blames : Type 0
Blames =
    session (two ++ (Edit 1 (one (ins 0 (codes "hi"))) ∷ Ticket 1 (some 1) ∷ Deliver 1 all ∷ Deliver 2 all ∷ Noop 1 ∷ Noop 2
    ∷ Ticket 1 (some 1) ∷ Ticket 2 (some 1) ∷ Deliver 1 all ∷ Deliver 2 all
    ∷ Edit 2 (one (ins 1 (codes "X"))) ∷ Ticket 2 (some 1) ∷ Deliver 1 all ∷ Edit 1 (one (ins 3 (codes "!"))) ∷ Blame 1 ∷ []))
    ≡ Blamed (Known 3 1 ∷ Known 6 2 ∷ Known 3 1 ∷ Pending ∷ []) ∷ []

-- a summary of a text with a removal above the minimum
abbrev pub saved : SumDoc
saved = record {
  seq = 4;
  min = 0;
  skipped = 0;
  other = 0;
  conns = codes "A/1" ∷ codes "B/1" ∷ [];
  text = record { body = Chars (codes "w"); props = []; by = record { seq = 3; conn = 1 }; ins = record { seq = 3; conn = 1 }; dels = [] }
      ∷ record { body = Chars (codes "t"); props = []; by = record { seq = 3; conn = 1 }; ins = record { seq = 3; conn = 1 }; dels = record { seq = 4; conn = 1 } ∷ [] } ∷ [];
  rows = [];
  cols = [];
  intervals = [];
  cells = [];
}

-- the document is that of the summary
abbrev pub IsSaved : List Output → Type 0
IsSaved (Kept doc ∷ []) = Summarizes saved (codes "A/1" ∷ codes "B/1" ∷ []) 2 doc
IsSaved _ = ⊥

-- the summary stands for a client's document
abbrev pub Saved : Type 0
Saved =
    IsSaved (session (two ++ (Edit 1 (one (ins 0 (codes "wt"))) ∷ Ticket 1 (some 1) ∷ Deliver 1 all ∷ Deliver 2 all
    ∷ Edit 2 (one (ins 2 (codes "g"))) ∷ Edit 1 (one (rem 1 2)) ∷ Ticket 1 (some 1)
    ∷ Deliver 1 all ∷ Save 1 ∷ [])))

-- what is shown after a message on top of the loaded summary
abbrev pub Loaded : Type 0
Loaded = shown (take_entry (doc_of saved) (message 5 2 3 (one (ins 2 (codes "g"))))) ≡ plain (codes "wg")

-- a summary whose insertion is old, with its author
abbrev pub saved_author : SumDoc
saved_author = record {
  seq = 3;
  min = 2;
  skipped = 0;
  other = 0;
  conns = codes "A/1" ∷ [];
  text = record { body = Chars (codes "hi"); props = []; by = record { seq = 2; conn = 1 }; ins = record { seq = 0; conn = 0 }; dels = [] } ∷ [];
  rows = [];
  cols = [];
  intervals = [];
  cells = [];
}

-- the document is that of the summary
abbrev pub IsSavedAuthor : List Output → Type 0
IsSavedAuthor (Kept doc ∷ []) = Summarizes saved_author (codes "A/1" ∷ []) 1 doc
IsSavedAuthor _ = ⊥

-- a summary keeps the author of an old insertion
abbrev pub SavedAuthor : Type 0
SavedAuthor =
    IsSavedAuthor (session (one_client ++ (Edit 1 (one (ins 0 (codes "hi"))) ∷ Ticket 1 (some 1) ∷ Deliver 1 (some 1) ∷ Noop 1
    ∷ Ticket 1 (some 1) ∷ Deliver 1 (some 1) ∷ Save 1 ∷ [])))

-- one hundred arrays, one inside the other
abbrev pub deep : List ℕ
deep = replicate 100 91 ++ replicate 100 93

-- a cell with the deepest value goes through a summary
abbrev pub DeepCell : Type 0
DeepCell =
    session (one_client ++ (Edit 1 (cell (SpliceIn Rows 0 1)) ∷ Edit 1 (cell (SpliceIn Cols 0 1)) ∷ Edit 1 (cell (Set 0 0 deep))
    ∷ Ticket 1 all ∷ Deliver 1 all ∷ From 2 1 ∷ Show 2 ∷ []))
    ≡ Showed 4 1 0 0 (one_cell deep) (one_cell deep) ∷ []

-- a client that starts from another one's document
abbrev pub StartedFrom : Type 0
StartedFrom =
    session (two ++ (Edit 1 (one (ins 0 (codes "wt"))) ∷ Ticket 1 (some 1) ∷ Deliver 1 all ∷ Deliver 2 all ∷ Edit 2 (one (ins 2 (codes "g")))
    ∷ Edit 1 (one (rem 1 2)) ∷ Ticket 1 (some 1)
    ∷ Deliver 1 all ∷ From 3 1 ∷ Ticket 2 (some 1) ∷ Connect 3 ∷ Deliver 3 all ∷ Show 3 ∷ []))
    ≡ online 6 3 0 (plain (codes "wg")) ∷ []

-- a row inserted at the place of a removed one has no cells
abbrev pub RemovedRow : Type 0
RemovedRow =
    session (one_client ++ (Edit 1 (cell (SpliceIn Rows 0 1)) ∷ Edit 1 (cell (SpliceIn Cols 0 1)) ∷ Edit 1 (cell (Set 0 0 (codes "\"v\"")))
    ∷ Ticket 1 all ∷ Deliver 1 all ∷ Edit 1 (cell (SpliceOut Rows 0 1))
    ∷ Ticket 1 (some 1) ∷ Deliver 1 (some 1) ∷ Noop 1 ∷ Ticket 1 (some 1) ∷ Deliver 1 (some 1) ∷ Edit 1 (cell (SpliceIn Rows 0 1)) ∷ Show 1 ∷ []))
    ≡ online 6 5 1 (record (plain []) { rows = 1; cols = 1 }) ∷ []

-- characters typed one per edit from place p on
abbrev pub type : ℕ → List ℕ → List Event
type p [] = []
type p (c ∷ cs) = Edit 3 (one (ins p (c ∷ []))) ∷ type (p + 1) cs

-- three clients process all messages
abbrev pub delivered : List Event
delivered = Deliver 1 all ∷ Deliver 2 all ∷ Deliver 3 all ∷ []

-- a bold run
abbrev pub bold_run : ℕ → ℕ → Run
bold_run a b = record { start = a; end = b; props = (codes "bold", codes "true") ∷ [] }

-- the view of the ordinary session
abbrev pub ordinary : ViewContent
ordinary = record {
  text = codes "Hello dear world. It is a fine day ok";
  markers = [];
  runs = bold_run 0 5 ∷ bold_run 11 16 ∷ [];
  intervals = record { label = codes "comments"; id = codes "c1"; ends = record { start = pos 11; end = pos 15 }; props = (codes "by", codes "\"B\"") ∷ [] } ∷ [];
  rows = 4;
  cols = 3;
  cells = record { row = 0; col = 0; value = codes "\"Name\"" } ∷ record { row = 3; col = 2; value = codes "42" } ∷ [];
}

-- three clients edit a text and a table; one types offline and comes back
abbrev pub OrdinaryViews : Type 0
OrdinaryViews =
    session (three ++ (Edit 1 (one (ins 0 (codes "Hello world."))) ∷ Ticket 1 (some 1) ∷ []) ++ delivered
    ++ (Edit 1 (cell (SpliceIn Rows 0 4)) ∷ Edit 1 (cell (SpliceIn Cols 0 3)) ∷ Ticket 1 all ∷ []) ++ delivered ++ (Drop 3
    ∷ []) ++ type 12 (codes " It is a fine day ok")
    ++ (Edit 2 (one (ann 0 5 ((codes "bold", Some (codes "true")) ∷ []))) ∷ Edit 2 (one (ann 6 11 ((codes "bold", Some (codes "true")) ∷ [])))
    ∷ Edit 2 (Text (IntervalAdd (codes "comments") (codes "c1") (record { start = pos 6; end = pos 10 }) ((codes "by", Some (codes "\"B\"")) ∷ [])))
    ∷ Edit 1 (one (ins 5 (codes " dear"))) ∷ Edit 1 (cell (Set 0 0 (codes "\"Name\""))) ∷ Edit 1 (cell (Set 3 2 (codes "42")))
    ∷ Ticket 2 all ∷ Ticket 1 all ∷ Connect 3 ∷ []) ++ delivered
    ++ (Ticket 3 all ∷ []) ++ delivered ++ (Show 1 ∷ Show 2 ∷ Show 3 ∷ []))
    ≡ online_at 34 6 ordinary
