-- Worked examples of sessions, from their lines to the lines of their report, in both forms.
use Rattle.std.specs.Prelude.{◌≡◌, ℕ, List, [], ◌∷◌, codes}
use Rattle.ft_seqr.specs.SessionReport.{as_applied, as_shown, session_report}

-- both forms of the report are these lines
pub record IsReported (input output : List (List ℕ)) : Type 0 where
  pub shown : session_report as_shown input ≡ output
  pub applied : session_report as_applied input ≡ output

-- three clients edit a text and a table; one types offline and comes back
abbrev pub OrdinarySession : Type 0
OrdinarySession =
    IsReported
    (codes "{\"client\":\"A\",\"do\":\"start\"}"
    ∷ codes "{\"client\":\"B\",\"do\":\"start\"}"
    ∷ codes "{\"client\":\"C\",\"do\":\"start\"}"
    ∷ codes "{\"client\":\"A\",\"do\":\"connect\"}"
    ∷ codes "{\"client\":\"B\",\"do\":\"connect\"}"
    ∷ codes "{\"client\":\"C\",\"do\":\"connect\"}"
    ∷ codes "{\"client\":\"A\",\"count\":\"all\",\"do\":\"deliver\"}"
    ∷ codes "{\"client\":\"B\",\"count\":\"all\",\"do\":\"deliver\"}"
    ∷ codes "{\"client\":\"C\",\"count\":\"all\",\"do\":\"deliver\"}"
    ∷ codes "{\"address\":\"text\",\"client\":\"A\",\"do\":\"edit\",\"op\":{\"pos1\":0,\"seg\":\"Hello world.\",\"type\":0}}"
    ∷ codes "{\"client\":\"A\",\"do\":\"ticket\"}"
    ∷ codes "{\"client\":\"A\",\"count\":\"all\",\"do\":\"deliver\"}"
    ∷ codes "{\"client\":\"B\",\"count\":\"all\",\"do\":\"deliver\"}"
    ∷ codes "{\"client\":\"C\",\"count\":\"all\",\"do\":\"deliver\"}"
    ∷ codes "{\"address\":\"grid\",\"client\":\"A\",\"do\":\"edit\",\"op\":{\"count\":4,\"pos1\":0,\"target\":\"rows\",\"type\":0}}"
    ∷ codes "{\"address\":\"grid\",\"client\":\"A\",\"do\":\"edit\",\"op\":{\"count\":3,\"pos1\":0,\"target\":\"cols\",\"type\":0}}"
    ∷ codes "{\"client\":\"A\",\"count\":\"all\",\"do\":\"ticket\"}"
    ∷ codes "{\"client\":\"A\",\"count\":\"all\",\"do\":\"deliver\"}"
    ∷ codes "{\"client\":\"B\",\"count\":\"all\",\"do\":\"deliver\"}"
    ∷ codes "{\"client\":\"C\",\"count\":\"all\",\"do\":\"deliver\"}"
    ∷ codes "{\"client\":\"C\",\"do\":\"drop\"}"
    ∷ codes "{\"address\":\"text\",\"client\":\"C\",\"do\":\"edit\",\"op\":{\"pos1\":12,\"seg\":\" \",\"type\":0}}"
    ∷ codes "{\"address\":\"text\",\"client\":\"C\",\"do\":\"edit\",\"op\":{\"pos1\":13,\"seg\":\"I\",\"type\":0}}"
    ∷ codes "{\"address\":\"text\",\"client\":\"C\",\"do\":\"edit\",\"op\":{\"pos1\":14,\"seg\":\"t\",\"type\":0}}"
    ∷ codes "{\"address\":\"text\",\"client\":\"C\",\"do\":\"edit\",\"op\":{\"pos1\":15,\"seg\":\" \",\"type\":0}}"
    ∷ codes "{\"address\":\"text\",\"client\":\"C\",\"do\":\"edit\",\"op\":{\"pos1\":16,\"seg\":\"i\",\"type\":0}}"
    ∷ codes "{\"address\":\"text\",\"client\":\"C\",\"do\":\"edit\",\"op\":{\"pos1\":17,\"seg\":\"s\",\"type\":0}}"
    ∷ codes "{\"address\":\"text\",\"client\":\"C\",\"do\":\"edit\",\"op\":{\"pos1\":18,\"seg\":\" \",\"type\":0}}"
    ∷ codes "{\"address\":\"text\",\"client\":\"C\",\"do\":\"edit\",\"op\":{\"pos1\":19,\"seg\":\"a\",\"type\":0}}"
    ∷ codes "{\"address\":\"text\",\"client\":\"C\",\"do\":\"edit\",\"op\":{\"pos1\":20,\"seg\":\" \",\"type\":0}}"
    ∷ codes "{\"address\":\"text\",\"client\":\"C\",\"do\":\"edit\",\"op\":{\"pos1\":21,\"seg\":\"f\",\"type\":0}}"
    ∷ codes "{\"address\":\"text\",\"client\":\"C\",\"do\":\"edit\",\"op\":{\"pos1\":22,\"seg\":\"i\",\"type\":0}}"
    ∷ codes "{\"address\":\"text\",\"client\":\"C\",\"do\":\"edit\",\"op\":{\"pos1\":23,\"seg\":\"n\",\"type\":0}}"
    ∷ codes "{\"address\":\"text\",\"client\":\"C\",\"do\":\"edit\",\"op\":{\"pos1\":24,\"seg\":\"e\",\"type\":0}}"
    ∷ codes "{\"address\":\"text\",\"client\":\"C\",\"do\":\"edit\",\"op\":{\"pos1\":25,\"seg\":\" \",\"type\":0}}"
    ∷ codes "{\"address\":\"text\",\"client\":\"C\",\"do\":\"edit\",\"op\":{\"pos1\":26,\"seg\":\"d\",\"type\":0}}"
    ∷ codes "{\"address\":\"text\",\"client\":\"C\",\"do\":\"edit\",\"op\":{\"pos1\":27,\"seg\":\"a\",\"type\":0}}"
    ∷ codes "{\"address\":\"text\",\"client\":\"C\",\"do\":\"edit\",\"op\":{\"pos1\":28,\"seg\":\"y\",\"type\":0}}"
    ∷ codes "{\"address\":\"text\",\"client\":\"C\",\"do\":\"edit\",\"op\":{\"pos1\":29,\"seg\":\" \",\"type\":0}}"
    ∷ codes "{\"address\":\"text\",\"client\":\"C\",\"do\":\"edit\",\"op\":{\"pos1\":30,\"seg\":\"o\",\"type\":0}}"
    ∷ codes "{\"address\":\"text\",\"client\":\"C\",\"do\":\"edit\",\"op\":{\"pos1\":31,\"seg\":\"k\",\"type\":0}}"
    ∷ codes "{\"address\":\"text\",\"client\":\"B\",\"do\":\"edit\",\"op\":{\"pos1\":0,\"pos2\":5,\"props\":{\"bold\":true},\"type\":2}}"
    ∷ codes "{\"address\":\"text\",\"client\":\"B\",\"do\":\"edit\",\"op\":{\"pos1\":6,\"pos2\":11,\"props\":{\"bold\":true},\"type\":2}}"
    ∷ codes "{\"address\":\"text\",\"client\":\"B\",\"do\":\"edit\",\"op\":{\"end\":10,\"id\":\"c1\",\"interval\":\"add\",\"label\":\"comments\",\"props\":{\"by\":\"B\"},\"start\":6}}"
    ∷ codes "{\"address\":\"text\",\"client\":\"A\",\"do\":\"edit\",\"op\":{\"pos1\":5,\"seg\":\" dear\",\"type\":0}}"
    ∷ codes "{\"address\":\"grid\",\"client\":\"A\",\"do\":\"edit\",\"op\":{\"col\":0,\"row\":0,\"type\":\"set\",\"value\":\"Name\"}}"
    ∷ codes "{\"address\":\"grid\",\"client\":\"A\",\"do\":\"edit\",\"op\":{\"col\":2,\"row\":3,\"type\":\"set\",\"value\":42}}"
    ∷ codes "{\"client\":\"B\",\"count\":\"all\",\"do\":\"ticket\"}"
    ∷ codes "{\"client\":\"A\",\"count\":\"all\",\"do\":\"ticket\"}"
    ∷ codes "{\"client\":\"C\",\"do\":\"connect\"}"
    ∷ codes "{\"client\":\"A\",\"count\":\"all\",\"do\":\"deliver\"}"
    ∷ codes "{\"client\":\"B\",\"count\":\"all\",\"do\":\"deliver\"}"
    ∷ codes "{\"client\":\"C\",\"count\":\"all\",\"do\":\"deliver\"}"
    ∷ codes "{\"client\":\"C\",\"count\":\"all\",\"do\":\"ticket\"}"
    ∷ codes "{\"client\":\"A\",\"count\":\"all\",\"do\":\"deliver\"}"
    ∷ codes "{\"client\":\"B\",\"count\":\"all\",\"do\":\"deliver\"}"
    ∷ codes "{\"client\":\"C\",\"count\":\"all\",\"do\":\"deliver\"}"
    ∷ codes "{\"client\":\"A\",\"do\":\"show\"}"
    ∷ codes "{\"client\":\"B\",\"do\":\"show\"}"
    ∷ codes "{\"client\":\"C\",\"do\":\"show\"}"
    ∷ [])
    (codes "client \"A\" online seq 34 min 6 pending 0"
    ∷ codes "text \"Hello dear world. It is a fine day ok\""
    ∷ codes "props 0 5 {\"bold\":true}"
    ∷ codes "props 11 16 {\"bold\":true}"
    ∷ codes "interval \"comments\" \"c1\" 11 15 {\"by\":\"B\"}"
    ∷ codes "rows 4 cols 3"
    ∷ codes "cell 0 0 \"Name\""
    ∷ codes "cell 3 2 42"
    ∷ codes "client \"B\" online seq 34 min 6 pending 0"
    ∷ codes "text \"Hello dear world. It is a fine day ok\""
    ∷ codes "props 0 5 {\"bold\":true}"
    ∷ codes "props 11 16 {\"bold\":true}"
    ∷ codes "interval \"comments\" \"c1\" 11 15 {\"by\":\"B\"}"
    ∷ codes "rows 4 cols 3"
    ∷ codes "cell 0 0 \"Name\""
    ∷ codes "cell 3 2 42"
    ∷ codes "client \"C\" online seq 34 min 6 pending 0"
    ∷ codes "text \"Hello dear world. It is a fine day ok\""
    ∷ codes "props 0 5 {\"bold\":true}"
    ∷ codes "props 11 16 {\"bold\":true}"
    ∷ codes "interval \"comments\" \"c1\" 11 15 {\"by\":\"B\"}"
    ∷ codes "rows 4 cols 3"
    ∷ codes "cell 0 0 \"Name\""
    ∷ codes "cell 3 2 42"
    ∷ codes "refused 0"
    ∷ codes "skipped 0"
    ∷ codes "other 0"
    ∷ [])

-- the five reasons against a draft of a guest
abbrev pub GuestNacks : Type 0
GuestNacks =
    IsReported
    (codes "{\"client\":\"A\",\"do\":\"start\"}"
    ∷ codes "{\"client\":\"A\",\"do\":\"connect\"}"
    ∷ codes "{\"client\":\"A\",\"count\":\"all\",\"do\":\"deliver\"}"
    ∷ codes "{\"do\":\"guest\",\"guest\":\"G\"}"
    ∷ codes "{\"do\":\"submit\",\"guest\":\"G\",\"message\":\"{\\\"clientSequenceNumber\\\":1,\\\"contents\\\":{\\\"address\\\":\\\"text\\\",\\\"contents\\\":{\\\"pos1\\\":5,\\\"seg\\\":\\\"x\\\",\\\"type\\\":0}},\\\"referenceSequenceNumber\\\":2,\\\"type\\\":\\\"op\\\"}\"}"
    ∷ codes "{\"do\":\"submit\",\"guest\":\"G\",\"message\":\"{\\\"clientSequenceNumber\\\":1,\\\"contents\\\":null,\\\"referenceSequenceNumber\\\":2,\\\"type\\\":\\\"noop\\\"}\"}"
    ∷ codes "{\"do\":\"submit\",\"guest\":\"G\",\"message\":\"{\\\"clientSequenceNumber\\\":2,\\\"contents\\\":null,\\\"referenceSequenceNumber\\\":9,\\\"type\\\":\\\"noop\\\"}\"}"
    ∷ codes "{\"do\":\"submit\",\"guest\":\"G\",\"message\":\"{\\\"clientSequenceNumber\\\":2,\\\"contents\\\":null,\\\"referenceSequenceNumber\\\":1,\\\"type\\\":\\\"noop\\\"}\"}"
    ∷ codes "{\"client\":\"A\",\"count\":\"all\",\"do\":\"deliver\"}"
    ∷ codes "{\"client\":\"A\",\"do\":\"noop\"}"
    ∷ codes "{\"client\":\"A\",\"do\":\"ticket\"}"
    ∷ codes "{\"do\":\"submit\",\"guest\":\"G\",\"message\":\"{\\\"clientSequenceNumber\\\":2,\\\"contents\\\":null,\\\"referenceSequenceNumber\\\":1,\\\"type\\\":\\\"noop\\\"}\"}"
    ∷ codes "{\"do\":\"part\",\"guest\":\"G\"}"
    ∷ codes "{\"do\":\"submit\",\"guest\":\"G\",\"message\":\"{\\\"clientSequenceNumber\\\":2,\\\"contents\\\":null,\\\"referenceSequenceNumber\\\":3,\\\"type\\\":\\\"noop\\\"}\"}"
    ∷ codes "{\"client\":\"A\",\"count\":\"all\",\"do\":\"deliver\"}"
    ∷ codes "{\"client\":\"A\",\"do\":\"show\"}"
    ∷ [])
    (codes "line 6 refused 17 Nacked ClientSeq expected 2 got 1"
    ∷ codes "line 7 refused 17 Nacked RefAhead seq 3 got 9"
    ∷ codes "line 8 refused 17 Nacked RefBack last 2 got 1"
    ∷ codes "line 12 refused 17 Nacked RefBelow min 2 got 1"
    ∷ codes "line 14 refused 17 Nacked NotJoined"
    ∷ codes "client \"A\" online seq 5 min 3 pending 0"
    ∷ codes "text \"\""
    ∷ codes "refused 5"
    ∷ codes "skipped 1"
    ∷ codes "other 0"
    ∷ [])

-- offered messages that are repeated, from later, cut off, or not in the log
abbrev pub OffersRefused : Type 0
OffersRefused =
    IsReported
    (codes "{\"client\":\"A\",\"do\":\"start\"}"
    ∷ codes "{\"client\":\"B\",\"do\":\"start\"}"
    ∷ codes "{\"client\":\"A\",\"do\":\"connect\"}"
    ∷ codes "{\"client\":\"B\",\"do\":\"connect\"}"
    ∷ codes "{\"client\":\"A\",\"count\":\"all\",\"do\":\"deliver\"}"
    ∷ codes "{\"client\":\"B\",\"count\":\"all\",\"do\":\"deliver\"}"
    ∷ codes "{\"address\":\"text\",\"client\":\"A\",\"do\":\"edit\",\"op\":{\"pos1\":0,\"seg\":\"a\",\"type\":0}}"
    ∷ codes "{\"address\":\"text\",\"client\":\"A\",\"do\":\"edit\",\"op\":{\"pos1\":0,\"seg\":\"b\",\"type\":0}}"
    ∷ codes "{\"address\":\"text\",\"client\":\"A\",\"do\":\"edit\",\"op\":{\"pos1\":0,\"seg\":\"c\",\"type\":0}}"
    ∷ codes "{\"address\":\"text\",\"client\":\"A\",\"do\":\"edit\",\"op\":{\"pos1\":0,\"seg\":\"d\",\"type\":0}}"
    ∷ codes "{\"client\":\"A\",\"count\":4,\"do\":\"ticket\"}"
    ∷ codes "{\"client\":\"A\",\"count\":\"all\",\"do\":\"deliver\"}"
    ∷ codes "{\"client\":\"A\",\"do\":\"offer\",\"message\":\"{\\\"clientId\\\":\\\"A/1\\\",\\\"clientSequenceNumber\\\":2,\\\"contents\\\":{\\\"address\\\":\\\"text\\\",\\\"contents\\\":{\\\"pos1\\\":0,\\\"seg\\\":\\\"b\\\",\\\"type\\\":0}},\\\"minimumSequenceNumber\\\":0,\\\"referenceSequenceNumber\\\":2,\\\"sequenceNumber\\\":4,\\\"type\\\":\\\"op\\\"}\"}"
    ∷ codes "{\"client\":\"A\",\"do\":\"offer\",\"message\":\"{\\\"clientId\\\":\\\"A/1\\\",\\\"clientSequenceNumber\\\":2,\\\"contents\\\":{\\\"address\\\":\\\"text\\\",\\\"contents\\\":{\\\"pos1\\\":0,\\\"seg\\\":\\\"b\\\",\\\"type\\\":0}},\\\"minimumSequenceNumber\\\":0,\\\"referenceSequenceNumber\\\":2,\\\"sequenceNumber\\\":9,\\\"type\\\":\\\"op\\\"}\"}"
    ∷ codes "{\"client\":\"A\",\"do\":\"offer\",\"message\":\"{\\\"clientId\"}"
    ∷ codes "{\"client\":\"A\",\"do\":\"offer\",\"message\":\"{\\\"clientId\\\":\\\"A/1\\\",\\\"clientSequenceNumber\\\":2,\\\"contents\\\":{\\\"address\\\":\\\"text\\\",\\\"contents\\\":{\\\"pos1\\\":0,\\\"seg\\\":\\\"b\\\",\\\"type\\\":0}},\\\"minimumSequenceNumber\\\":0,\\\"referenceSequenceNumber\\\":2,\\\"sequenceNumber\\\":7,\\\"type\\\":\\\"op\\\"}\"}"
    ∷ codes "{\"client\":\"A\",\"do\":\"show\"}"
    ∷ [])
    (codes "line 13 refused 9 OutOfOrder expected 7 got 4"
    ∷ codes "line 14 refused 9 OutOfOrder expected 7 got 9"
    ∷ codes "line 15 refused 1 Malformed NotJson"
    ∷ codes "line 16 refused 10 Foreign 7"
    ∷ codes "client \"A\" online seq 6 min 0 pending 0"
    ∷ codes "text \"dcba\""
    ∷ codes "refused 4"
    ∷ codes "skipped 0"
    ∷ codes "other 0"
    ∷ [])

-- an offered message that the log has is taken
abbrev pub TrueOfferTaken : Type 0
TrueOfferTaken =
    IsReported
    (codes "{\"client\":\"A\",\"do\":\"start\"}"
    ∷ codes "{\"client\":\"A\",\"do\":\"connect\"}"
    ∷ codes "{\"client\":\"A\",\"count\":\"all\",\"do\":\"deliver\"}"
    ∷ codes "{\"do\":\"guest\",\"guest\":\"G\"}"
    ∷ codes "{\"do\":\"submit\",\"guest\":\"G\",\"message\":\"{\\\"clientSequenceNumber\\\":1,\\\"contents\\\":{\\\"address\\\":\\\"text\\\",\\\"contents\\\":{\\\"ops\\\":[{\\\"pos1\\\":0,\\\"seg\\\":\\\"a\\\",\\\"type\\\":0},{\\\"pos1\\\":0,\\\"pos2\\\":9,\\\"type\\\":1}],\\\"type\\\":3}},\\\"referenceSequenceNumber\\\":2,\\\"type\\\":\\\"op\\\"}\"}"
    ∷ codes "{\"do\":\"history\"}"
    ∷ codes "{\"client\":\"A\",\"do\":\"offer\",\"message\":\"{\\\"clientId\\\":\\\"G/1\\\",\\\"clientSequenceNumber\\\":-1,\\\"contents\\\":null,\\\"minimumSequenceNumber\\\":0,\\\"referenceSequenceNumber\\\":-1,\\\"sequenceNumber\\\":2,\\\"type\\\":\\\"join\\\"}\"}"
    ∷ codes "{\"client\":\"A\",\"do\":\"show\"}"
    ∷ [])
    (codes "{\"clientId\":\"A/1\",\"clientSequenceNumber\":-1,\"contents\":null,\"minimumSequenceNumber\":0,\"referenceSequenceNumber\":-1,\"sequenceNumber\":1,\"type\":\"join\"}"
    ∷ codes "{\"clientId\":\"G/1\",\"clientSequenceNumber\":-1,\"contents\":null,\"minimumSequenceNumber\":0,\"referenceSequenceNumber\":-1,\"sequenceNumber\":2,\"type\":\"join\"}"
    ∷ codes "{\"clientId\":\"G/1\",\"clientSequenceNumber\":1,\"contents\":{\"address\":\"text\",\"contents\":{\"ops\":[{\"pos1\":0,\"seg\":\"a\",\"type\":0},{\"pos1\":0,\"pos2\":9,\"type\":1}],\"type\":3}},\"minimumSequenceNumber\":0,\"referenceSequenceNumber\":2,\"sequenceNumber\":3,\"type\":\"op\"}"
    ∷ codes "client \"A\" online seq 2 min 0 pending 0"
    ∷ codes "text \"\""
    ∷ codes "refused 0"
    ∷ codes "skipped 0"
    ∷ codes "other 0"
    ∷ [])

-- a sub-operation of a guest is out of range for all
abbrev pub GuestGroupHalfSkipped : Type 0
GuestGroupHalfSkipped =
    IsReported
    (codes "{\"client\":\"A\",\"do\":\"start\"}"
    ∷ codes "{\"client\":\"A\",\"do\":\"connect\"}"
    ∷ codes "{\"client\":\"A\",\"count\":\"all\",\"do\":\"deliver\"}"
    ∷ codes "{\"do\":\"guest\",\"guest\":\"G\"}"
    ∷ codes "{\"do\":\"submit\",\"guest\":\"G\",\"message\":\"{\\\"clientSequenceNumber\\\":1,\\\"contents\\\":{\\\"address\\\":\\\"text\\\",\\\"contents\\\":{\\\"ops\\\":[{\\\"pos1\\\":0,\\\"seg\\\":\\\"a\\\",\\\"type\\\":0},{\\\"pos1\\\":0,\\\"pos2\\\":9,\\\"type\\\":1}],\\\"type\\\":3}},\\\"referenceSequenceNumber\\\":2,\\\"type\\\":\\\"op\\\"}\"}"
    ∷ codes "{\"client\":\"A\",\"count\":\"all\",\"do\":\"deliver\"}"
    ∷ codes "{\"client\":\"A\",\"do\":\"show\"}"
    ∷ [])
    (codes "client \"A\" online seq 3 min 0 pending 0"
    ∷ codes "text \"a\""
    ∷ codes "refused 0"
    ∷ codes "skipped 1"
    ∷ codes "other 0"
    ∷ [])

-- a client starts from the summary of another
abbrev pub SummaryKeepsRecentRemoval : Type 0
SummaryKeepsRecentRemoval =
    IsReported
    (codes "{\"client\":\"A\",\"do\":\"start\"}"
    ∷ codes "{\"client\":\"B\",\"do\":\"start\"}"
    ∷ codes "{\"client\":\"A\",\"do\":\"connect\"}"
    ∷ codes "{\"client\":\"B\",\"do\":\"connect\"}"
    ∷ codes "{\"client\":\"A\",\"count\":\"all\",\"do\":\"deliver\"}"
    ∷ codes "{\"client\":\"B\",\"count\":\"all\",\"do\":\"deliver\"}"
    ∷ codes "{\"address\":\"text\",\"client\":\"A\",\"do\":\"edit\",\"op\":{\"pos1\":0,\"seg\":\"wt\",\"type\":0}}"
    ∷ codes "{\"client\":\"A\",\"do\":\"ticket\"}"
    ∷ codes "{\"client\":\"A\",\"count\":\"all\",\"do\":\"deliver\"}"
    ∷ codes "{\"client\":\"B\",\"count\":\"all\",\"do\":\"deliver\"}"
    ∷ codes "{\"address\":\"text\",\"client\":\"B\",\"do\":\"edit\",\"op\":{\"pos1\":2,\"seg\":\"g\",\"type\":0}}"
    ∷ codes "{\"address\":\"text\",\"client\":\"A\",\"do\":\"edit\",\"op\":{\"pos1\":1,\"pos2\":2,\"type\":1}}"
    ∷ codes "{\"client\":\"A\",\"do\":\"ticket\"}"
    ∷ codes "{\"client\":\"A\",\"count\":\"all\",\"do\":\"deliver\"}"
    ∷ codes "{\"client\":\"A\",\"do\":\"summary\"}"
    ∷ codes "{\"client\":\"C\",\"do\":\"start\",\"from\":\"A\"}"
    ∷ codes "{\"client\":\"B\",\"do\":\"ticket\"}"
    ∷ codes "{\"client\":\"C\",\"do\":\"connect\"}"
    ∷ codes "{\"client\":\"C\",\"count\":\"all\",\"do\":\"deliver\"}"
    ∷ codes "{\"client\":\"C\",\"do\":\"show\"}"
    ∷ [])
    (codes "{\"cells\":[],\"cols\":[],\"conns\":[\"A/1\",\"B/1\"],\"count\":2,\"intervals\":[],\"min\":0,\"other\":0,\"rows\":[],\"seq\":4,\"skipped\":0,\"text\":[[{\"i\":[3,1],\"t\":\"w\"},{\"i\":[3,1],\"r\":[[4,1]],\"t\":\"t\"}]],\"version\":2}"
    ∷ codes "client \"C\" online seq 6 min 3 pending 0"
    ∷ codes "text \"wg\""
    ∷ codes "refused 0"
    ∷ codes "skipped 0"
    ∷ codes "other 0"
    ∷ [])

-- a summary keeps the author of an old insertion
abbrev pub SummaryKeepsAuthor : Type 0
SummaryKeepsAuthor =
    IsReported
    (codes "{\"client\":\"A\",\"do\":\"start\"}"
    ∷ codes "{\"client\":\"A\",\"do\":\"connect\"}"
    ∷ codes "{\"client\":\"A\",\"count\":\"all\",\"do\":\"deliver\"}"
    ∷ codes "{\"address\":\"text\",\"client\":\"A\",\"do\":\"edit\",\"op\":{\"pos1\":0,\"seg\":\"hi\",\"type\":0}}"
    ∷ codes "{\"client\":\"A\",\"do\":\"ticket\"}"
    ∷ codes "{\"client\":\"A\",\"do\":\"deliver\"}"
    ∷ codes "{\"client\":\"A\",\"do\":\"noop\"}"
    ∷ codes "{\"client\":\"A\",\"do\":\"ticket\"}"
    ∷ codes "{\"client\":\"A\",\"do\":\"deliver\"}"
    ∷ codes "{\"client\":\"A\",\"do\":\"summary\"}"
    ∷ [])
    (codes "{\"cells\":[],\"cols\":[],\"conns\":[\"A/1\"],\"count\":2,\"intervals\":[],\"min\":2,\"other\":0,\"rows\":[],\"seq\":3,\"skipped\":0,\"text\":[[{\"a\":[2,1],\"t\":\"hi\"}]],\"version\":2}"
    ∷ codes "refused 0"
    ∷ codes "skipped 0"
    ∷ codes "other 0"
    ∷ [])

-- the messages of the log, a leave among them
abbrev pub HistoryWritten : Type 0
HistoryWritten =
    IsReported
    (codes "{\"client\":\"A\",\"do\":\"start\"}"
    ∷ codes "{\"client\":\"A\",\"do\":\"connect\"}"
    ∷ codes "{\"client\":\"A\",\"count\":\"all\",\"do\":\"deliver\"}"
    ∷ codes "{\"address\":\"text\",\"client\":\"A\",\"do\":\"edit\",\"op\":{\"pos1\":0,\"seg\":\"a\",\"type\":0}}"
    ∷ codes "{\"client\":\"A\",\"do\":\"ticket\"}"
    ∷ codes "{\"client\":\"A\",\"do\":\"drop\"}"
    ∷ codes "{\"do\":\"history\"}"
    ∷ [])
    (codes "{\"clientId\":\"A/1\",\"clientSequenceNumber\":-1,\"contents\":null,\"minimumSequenceNumber\":0,\"referenceSequenceNumber\":-1,\"sequenceNumber\":1,\"type\":\"join\"}"
    ∷ codes "{\"clientId\":\"A/1\",\"clientSequenceNumber\":1,\"contents\":{\"address\":\"text\",\"contents\":{\"pos1\":0,\"seg\":\"a\",\"type\":0}},\"minimumSequenceNumber\":1,\"referenceSequenceNumber\":1,\"sequenceNumber\":2,\"type\":\"op\"}"
    ∷ codes "{\"clientId\":\"A/1\",\"clientSequenceNumber\":-1,\"contents\":null,\"minimumSequenceNumber\":3,\"referenceSequenceNumber\":-1,\"sequenceNumber\":3,\"type\":\"leave\"}"
    ∷ codes "refused 0"
    ∷ codes "skipped 0"
    ∷ codes "other 0"
    ∷ [])

-- a client drops, types beside what another removes, and sends it again under a new connection
abbrev pub ReconnectMovesPendingText : Type 0
ReconnectMovesPendingText =
    IsReported
    (codes "{\"client\":\"A\",\"do\":\"start\"}"
    ∷ codes "{\"client\":\"B\",\"do\":\"start\"}"
    ∷ codes "{\"client\":\"C\",\"do\":\"start\"}"
    ∷ codes "{\"client\":\"A\",\"do\":\"connect\"}"
    ∷ codes "{\"client\":\"B\",\"do\":\"connect\"}"
    ∷ codes "{\"client\":\"C\",\"do\":\"connect\"}"
    ∷ codes "{\"client\":\"A\",\"count\":\"all\",\"do\":\"deliver\"}"
    ∷ codes "{\"client\":\"B\",\"count\":\"all\",\"do\":\"deliver\"}"
    ∷ codes "{\"client\":\"C\",\"count\":\"all\",\"do\":\"deliver\"}"
    ∷ codes "{\"address\":\"text\",\"client\":\"A\",\"do\":\"edit\",\"op\":{\"pos1\":0,\"seg\":\"wt\",\"type\":0}}"
    ∷ codes "{\"client\":\"A\",\"do\":\"ticket\"}"
    ∷ codes "{\"client\":\"A\",\"count\":\"all\",\"do\":\"deliver\"}"
    ∷ codes "{\"client\":\"B\",\"count\":\"all\",\"do\":\"deliver\"}"
    ∷ codes "{\"client\":\"C\",\"count\":\"all\",\"do\":\"deliver\"}"
    ∷ codes "{\"client\":\"A\",\"do\":\"drop\"}"
    ∷ codes "{\"address\":\"text\",\"client\":\"A\",\"do\":\"edit\",\"op\":{\"pos1\":2,\"seg\":\"e\",\"type\":0}}"
    ∷ codes "{\"address\":\"text\",\"client\":\"B\",\"do\":\"edit\",\"op\":{\"pos1\":1,\"pos2\":2,\"type\":1}}"
    ∷ codes "{\"client\":\"B\",\"do\":\"ticket\"}"
    ∷ codes "{\"address\":\"text\",\"client\":\"C\",\"do\":\"edit\",\"op\":{\"pos1\":2,\"seg\":\"g\",\"type\":0}}"
    ∷ codes "{\"client\":\"A\",\"do\":\"connect\"}"
    ∷ codes "{\"client\":\"A\",\"count\":\"all\",\"do\":\"deliver\"}"
    ∷ codes "{\"client\":\"A\",\"do\":\"queue\"}"
    ∷ codes "{\"client\":\"A\",\"do\":\"show\"}"
    ∷ codes "{\"client\":\"A\",\"do\":\"ticket\"}"
    ∷ codes "{\"client\":\"C\",\"do\":\"ticket\"}"
    ∷ codes "{\"client\":\"A\",\"count\":\"all\",\"do\":\"deliver\"}"
    ∷ codes "{\"client\":\"B\",\"count\":\"all\",\"do\":\"deliver\"}"
    ∷ codes "{\"client\":\"C\",\"count\":\"all\",\"do\":\"deliver\"}"
    ∷ codes "{\"client\":\"A\",\"do\":\"show\"}"
    ∷ codes "{\"client\":\"B\",\"do\":\"show\"}"
    ∷ codes "{\"client\":\"C\",\"do\":\"show\"}"
    ∷ [])
    (codes "{\"clientSequenceNumber\":1,\"contents\":{\"address\":\"text\",\"contents\":{\"pos1\":1,\"seg\":\"e\",\"type\":0}},\"referenceSequenceNumber\":7,\"type\":\"op\"}"
    ∷ codes "client \"A\" online seq 7 min 0 pending 1"
    ∷ codes "text \"we\""
    ∷ codes "client \"A\" online seq 9 min 4 pending 0"
    ∷ codes "text \"weg\""
    ∷ codes "client \"B\" online seq 9 min 4 pending 0"
    ∷ codes "text \"weg\""
    ∷ codes "client \"C\" online seq 9 min 4 pending 0"
    ∷ codes "text \"weg\""
    ∷ codes "refused 0"
    ∷ codes "skipped 0"
    ∷ codes "other 0"
    ∷ [])

-- what was sequenced under the old connection is not sent again
abbrev pub ReconnectSendsOnlyUnsequenced : Type 0
ReconnectSendsOnlyUnsequenced =
    IsReported
    (codes "{\"client\":\"A\",\"do\":\"start\"}"
    ∷ codes "{\"client\":\"B\",\"do\":\"start\"}"
    ∷ codes "{\"client\":\"A\",\"do\":\"connect\"}"
    ∷ codes "{\"client\":\"B\",\"do\":\"connect\"}"
    ∷ codes "{\"client\":\"A\",\"count\":\"all\",\"do\":\"deliver\"}"
    ∷ codes "{\"client\":\"B\",\"count\":\"all\",\"do\":\"deliver\"}"
    ∷ codes "{\"address\":\"text\",\"client\":\"A\",\"do\":\"edit\",\"op\":{\"pos1\":0,\"seg\":\"a\",\"type\":0}}"
    ∷ codes "{\"address\":\"text\",\"client\":\"A\",\"do\":\"edit\",\"op\":{\"pos1\":1,\"seg\":\"b\",\"type\":0}}"
    ∷ codes "{\"address\":\"text\",\"client\":\"A\",\"do\":\"edit\",\"op\":{\"pos1\":2,\"seg\":\"c\",\"type\":0}}"
    ∷ codes "{\"client\":\"A\",\"do\":\"ticket\"}"
    ∷ codes "{\"client\":\"A\",\"do\":\"drop\"}"
    ∷ codes "{\"client\":\"A\",\"do\":\"connect\"}"
    ∷ codes "{\"client\":\"A\",\"count\":\"all\",\"do\":\"deliver\"}"
    ∷ codes "{\"client\":\"A\",\"do\":\"show\"}"
    ∷ codes "{\"client\":\"A\",\"count\":\"all\",\"do\":\"ticket\"}"
    ∷ codes "{\"client\":\"A\",\"count\":\"all\",\"do\":\"deliver\"}"
    ∷ codes "{\"client\":\"B\",\"count\":\"all\",\"do\":\"deliver\"}"
    ∷ codes "{\"client\":\"B\",\"do\":\"show\"}"
    ∷ [])
    (codes "client \"A\" online seq 5 min 0 pending 2"
    ∷ codes "text \"abc\""
    ∷ codes "client \"B\" online seq 7 min 0 pending 0"
    ∷ codes "text \"abc\""
    ∷ codes "refused 0"
    ∷ codes "skipped 0"
    ∷ codes "other 0"
    ∷ [])

-- a removal in which another inserted is sent again as two pieces
abbrev pub RemovalRegeneratedInRuns : Type 0
RemovalRegeneratedInRuns =
    IsReported
    (codes "{\"client\":\"A\",\"do\":\"start\"}"
    ∷ codes "{\"client\":\"B\",\"do\":\"start\"}"
    ∷ codes "{\"client\":\"A\",\"do\":\"connect\"}"
    ∷ codes "{\"client\":\"B\",\"do\":\"connect\"}"
    ∷ codes "{\"client\":\"A\",\"count\":\"all\",\"do\":\"deliver\"}"
    ∷ codes "{\"client\":\"B\",\"count\":\"all\",\"do\":\"deliver\"}"
    ∷ codes "{\"address\":\"text\",\"client\":\"A\",\"do\":\"edit\",\"op\":{\"pos1\":0,\"seg\":\"ab\",\"type\":0}}"
    ∷ codes "{\"client\":\"A\",\"do\":\"ticket\"}"
    ∷ codes "{\"client\":\"A\",\"count\":\"all\",\"do\":\"deliver\"}"
    ∷ codes "{\"client\":\"B\",\"count\":\"all\",\"do\":\"deliver\"}"
    ∷ codes "{\"client\":\"A\",\"do\":\"drop\"}"
    ∷ codes "{\"address\":\"text\",\"client\":\"A\",\"do\":\"edit\",\"op\":{\"pos1\":0,\"pos2\":2,\"type\":1}}"
    ∷ codes "{\"address\":\"text\",\"client\":\"B\",\"do\":\"edit\",\"op\":{\"pos1\":1,\"seg\":\"m\",\"type\":0}}"
    ∷ codes "{\"client\":\"B\",\"do\":\"ticket\"}"
    ∷ codes "{\"client\":\"A\",\"do\":\"connect\"}"
    ∷ codes "{\"client\":\"A\",\"count\":\"all\",\"do\":\"deliver\"}"
    ∷ codes "{\"client\":\"A\",\"do\":\"queue\"}"
    ∷ codes "{\"client\":\"A\",\"do\":\"show\"}"
    ∷ [])
    (codes "{\"clientSequenceNumber\":1,\"contents\":{\"address\":\"text\",\"contents\":{\"ops\":[{\"pos1\":0,\"pos2\":1,\"type\":1},{\"pos1\":1,\"pos2\":2,\"type\":1}],\"type\":3}},\"referenceSequenceNumber\":6,\"type\":\"op\"}"
    ∷ codes "client \"A\" online seq 6 min 3 pending 1"
    ∷ codes "text \"m\""
    ∷ codes "refused 0"
    ∷ codes "skipped 0"
    ∷ codes "other 0"
    ∷ [])

-- compaction changes no view
abbrev pub CompactionKeepsFloor : Type 0
CompactionKeepsFloor =
    IsReported
    (codes "{\"client\":\"A\",\"do\":\"start\"}"
    ∷ codes "{\"client\":\"B\",\"do\":\"start\"}"
    ∷ codes "{\"client\":\"A\",\"do\":\"connect\"}"
    ∷ codes "{\"client\":\"B\",\"do\":\"connect\"}"
    ∷ codes "{\"client\":\"A\",\"count\":\"all\",\"do\":\"deliver\"}"
    ∷ codes "{\"client\":\"B\",\"count\":\"all\",\"do\":\"deliver\"}"
    ∷ codes "{\"address\":\"text\",\"client\":\"A\",\"do\":\"edit\",\"op\":{\"pos1\":0,\"seg\":\"wt\",\"type\":0}}"
    ∷ codes "{\"client\":\"A\",\"do\":\"ticket\"}"
    ∷ codes "{\"client\":\"A\",\"count\":\"all\",\"do\":\"deliver\"}"
    ∷ codes "{\"client\":\"B\",\"count\":\"all\",\"do\":\"deliver\"}"
    ∷ codes "{\"client\":\"A\",\"do\":\"drop\"}"
    ∷ codes "{\"address\":\"text\",\"client\":\"A\",\"do\":\"edit\",\"op\":{\"pos1\":2,\"seg\":\"e\",\"type\":0}}"
    ∷ codes "{\"client\":\"B\",\"count\":\"all\",\"do\":\"deliver\"}"
    ∷ codes "{\"address\":\"text\",\"client\":\"B\",\"do\":\"edit\",\"op\":{\"pos1\":1,\"pos2\":2,\"type\":1}}"
    ∷ codes "{\"client\":\"B\",\"do\":\"ticket\"}"
    ∷ codes "{\"client\":\"B\",\"do\":\"deliver\"}"
    ∷ codes "{\"client\":\"B\",\"do\":\"noop\"}"
    ∷ codes "{\"client\":\"B\",\"do\":\"ticket\"}"
    ∷ codes "{\"client\":\"B\",\"do\":\"deliver\"}"
    ∷ codes "{\"address\":\"text\",\"client\":\"B\",\"do\":\"edit\",\"op\":{\"pos1\":1,\"seg\":\"g\",\"type\":0}}"
    ∷ codes "{\"client\":\"B\",\"do\":\"ticket\"}"
    ∷ codes "{\"client\":\"A\",\"do\":\"connect\"}"
    ∷ codes "{\"client\":\"A\",\"count\":3,\"do\":\"deliver\"}"
    ∷ codes "{\"client\":\"A\",\"do\":\"compact\"}"
    ∷ codes "{\"client\":\"A\",\"do\":\"show\"}"
    ∷ codes "{\"client\":\"A\",\"do\":\"deliver\"}"
    ∷ codes "{\"client\":\"A\",\"do\":\"show\"}"
    ∷ codes "{\"client\":\"A\",\"do\":\"deliver\"}"
    ∷ codes "{\"client\":\"A\",\"do\":\"show\"}"
    ∷ [])
    (codes "client \"A\" joining seq 6 min 5 pending 1"
    ∷ codes "text \"we\""
    ∷ codes "client \"A\" joining seq 7 min 6 pending 1"
    ∷ codes "text \"wge\""
    ∷ codes "client \"A\" online seq 8 min 6 pending 1"
    ∷ codes "text \"wge\""
    ∷ codes "refused 0"
    ∷ codes "skipped 0"
    ∷ codes "other 0"
    ∷ [])

-- ids in use and not there, and an end out of range
abbrev pub IntervalRefusals : Type 0
IntervalRefusals =
    IsReported
    (codes "{\"client\":\"A\",\"do\":\"start\"}"
    ∷ codes "{\"client\":\"A\",\"do\":\"connect\"}"
    ∷ codes "{\"client\":\"A\",\"count\":\"all\",\"do\":\"deliver\"}"
    ∷ codes "{\"address\":\"text\",\"client\":\"A\",\"do\":\"edit\",\"op\":{\"pos1\":0,\"seg\":\"ab\",\"type\":0}}"
    ∷ codes "{\"address\":\"text\",\"client\":\"A\",\"do\":\"edit\",\"op\":{\"end\":1,\"id\":\"i\",\"interval\":\"add\",\"label\":\"n\",\"start\":0}}"
    ∷ codes "{\"address\":\"text\",\"client\":\"A\",\"do\":\"edit\",\"op\":{\"end\":1,\"id\":\"i\",\"interval\":\"add\",\"label\":\"n\",\"start\":0}}"
    ∷ codes "{\"address\":\"text\",\"client\":\"A\",\"do\":\"edit\",\"op\":{\"id\":\"j\",\"interval\":\"change\",\"label\":\"n\",\"props\":{}}}"
    ∷ codes "{\"address\":\"text\",\"client\":\"A\",\"do\":\"edit\",\"op\":{\"end\":2,\"id\":\"k\",\"interval\":\"add\",\"label\":\"n\",\"start\":0}}"
    ∷ codes "{\"client\":\"A\",\"do\":\"show\"}"
    ∷ [])
    (codes "line 6 refused 13 IdInUse"
    ∷ codes "line 7 refused 14 NoSuchInterval"
    ∷ codes "line 8 refused 6 OutOfRange length 2"
    ∷ codes "client \"A\" online seq 1 min 0 pending 2"
    ∷ codes "text \"ab\""
    ∷ codes "interval \"n\" \"i\" 0 1 {}"
    ∷ codes "refused 3"
    ∷ codes "skipped 0"
    ∷ codes "other 0"
    ∷ [])

-- places out of range and a reversed range
abbrev pub EditRange : Type 0
EditRange =
    IsReported
    (codes "{\"client\":\"A\",\"do\":\"start\"}"
    ∷ codes "{\"client\":\"A\",\"do\":\"connect\"}"
    ∷ codes "{\"client\":\"A\",\"count\":\"all\",\"do\":\"deliver\"}"
    ∷ codes "{\"address\":\"text\",\"client\":\"A\",\"do\":\"edit\",\"op\":{\"pos1\":0,\"seg\":\"abc\",\"type\":0}}"
    ∷ codes "{\"address\":\"text\",\"client\":\"A\",\"do\":\"edit\",\"op\":{\"pos1\":3,\"seg\":\"d\",\"type\":0}}"
    ∷ codes "{\"address\":\"text\",\"client\":\"A\",\"do\":\"edit\",\"op\":{\"pos1\":5,\"seg\":\"x\",\"type\":0}}"
    ∷ codes "{\"address\":\"text\",\"client\":\"A\",\"do\":\"edit\",\"op\":{\"pos1\":3,\"pos2\":3,\"type\":1}}"
    ∷ codes "{\"address\":\"text\",\"client\":\"A\",\"do\":\"edit\",\"op\":{\"pos1\":4,\"pos2\":3,\"type\":1}}"
    ∷ codes "{\"client\":\"A\",\"do\":\"show\"}"
    ∷ [])
    (codes "line 6 refused 6 OutOfRange length 4"
    ∷ codes "line 8 refused 1 Malformed Reversed 4 3"
    ∷ codes "client \"A\" online seq 1 min 0 pending 3"
    ∷ codes "text \"abcd\""
    ∷ codes "refused 2"
    ∷ codes "skipped 0"
    ∷ codes "other 0"
    ∷ [])

-- the intervals that meet a range, before and after a removal that is pending and then sequenced
abbrev pub OverlapShown : Type 0
OverlapShown =
    IsReported
    (codes "{\"client\":\"A\",\"do\":\"start\"}"
    ∷ codes "{\"client\":\"A\",\"do\":\"connect\"}"
    ∷ codes "{\"client\":\"A\",\"count\":\"all\",\"do\":\"deliver\"}"
    ∷ codes "{\"address\":\"text\",\"client\":\"A\",\"do\":\"edit\",\"op\":{\"pos1\":0,\"seg\":\"abcdefgh\",\"type\":0}}"
    ∷ codes "{\"address\":\"text\",\"client\":\"A\",\"do\":\"edit\",\"op\":{\"end\":2,\"id\":\"i\",\"interval\":\"add\",\"label\":\"notes\",\"start\":1}}"
    ∷ codes "{\"address\":\"text\",\"client\":\"A\",\"do\":\"edit\",\"op\":{\"end\":6,\"id\":\"j\",\"interval\":\"add\",\"label\":\"notes\",\"start\":4}}"
    ∷ codes "{\"address\":\"text\",\"client\":\"A\",\"do\":\"edit\",\"op\":{\"end\":7,\"id\":\"k\",\"interval\":\"add\",\"label\":\"notes\",\"start\":0}}"
    ∷ codes "{\"client\":\"A\",\"do\":\"overlap\",\"end\":3,\"label\":\"notes\",\"start\":3}"
    ∷ codes "{\"address\":\"text\",\"client\":\"A\",\"do\":\"edit\",\"op\":{\"pos1\":4,\"pos2\":8,\"type\":1}}"
    ∷ codes "{\"client\":\"A\",\"do\":\"overlap\",\"end\":3,\"label\":\"notes\",\"start\":3}"
    ∷ codes "{\"client\":\"A\",\"count\":\"all\",\"do\":\"ticket\"}"
    ∷ codes "{\"client\":\"A\",\"count\":\"all\",\"do\":\"deliver\"}"
    ∷ codes "{\"client\":\"A\",\"do\":\"overlap\",\"end\":3,\"label\":\"notes\",\"start\":3}"
    ∷ [])
    (codes "[\"k\",0,7,{}]"
    ∷ codes "[\"j\",3,3,{}]"
    ∷ codes "[\"k\",0,3,{}]"
    ∷ codes "[\"j\",3,3,{}]"
    ∷ codes "[\"k\",0,3,{}]"
    ∷ codes "refused 0"
    ∷ codes "skipped 0"
    ∷ codes "other 0"
    ∷ [])

-- a range whose end is before its start
abbrev pub OverlapReversed : Type 0
OverlapReversed =
    IsReported
    (codes "{\"client\":\"A\",\"do\":\"start\"}"
    ∷ codes "{\"client\":\"A\",\"do\":\"connect\"}"
    ∷ codes "{\"client\":\"A\",\"count\":\"all\",\"do\":\"deliver\"}"
    ∷ codes "{\"client\":\"A\",\"do\":\"overlap\",\"end\":3,\"label\":\"notes\",\"start\":5}"
    ∷ codes "{\"client\":\"A\",\"do\":\"overlap\",\"end\":9,\"label\":\"notes\",\"start\":0}"
    ∷ [])
    (codes "line 4 refused 1 Malformed Reversed 5 3"
    ∷ codes "refused 1"
    ∷ codes "skipped 0"
    ∷ codes "other 0"
    ∷ [])

-- who inserted what, and how many elements each connection inserted
abbrev pub BlameAndAuthors : Type 0
BlameAndAuthors =
    IsReported
    (codes "{\"client\":\"A\",\"do\":\"start\"}"
    ∷ codes "{\"client\":\"B\",\"do\":\"start\"}"
    ∷ codes "{\"client\":\"A\",\"do\":\"connect\"}"
    ∷ codes "{\"client\":\"B\",\"do\":\"connect\"}"
    ∷ codes "{\"client\":\"A\",\"count\":\"all\",\"do\":\"deliver\"}"
    ∷ codes "{\"client\":\"B\",\"count\":\"all\",\"do\":\"deliver\"}"
    ∷ codes "{\"address\":\"text\",\"client\":\"A\",\"do\":\"edit\",\"op\":{\"pos1\":0,\"seg\":\"hi\",\"type\":0}}"
    ∷ codes "{\"client\":\"A\",\"do\":\"ticket\"}"
    ∷ codes "{\"client\":\"A\",\"count\":\"all\",\"do\":\"deliver\"}"
    ∷ codes "{\"client\":\"B\",\"count\":\"all\",\"do\":\"deliver\"}"
    ∷ codes "{\"client\":\"A\",\"do\":\"noop\"}"
    ∷ codes "{\"client\":\"B\",\"do\":\"noop\"}"
    ∷ codes "{\"client\":\"A\",\"do\":\"ticket\"}"
    ∷ codes "{\"client\":\"B\",\"do\":\"ticket\"}"
    ∷ codes "{\"client\":\"A\",\"count\":\"all\",\"do\":\"deliver\"}"
    ∷ codes "{\"client\":\"B\",\"count\":\"all\",\"do\":\"deliver\"}"
    ∷ codes "{\"client\":\"A\",\"do\":\"compact\"}"
    ∷ codes "{\"address\":\"text\",\"client\":\"B\",\"do\":\"edit\",\"op\":{\"pos1\":1,\"seg\":\"X\",\"type\":0}}"
    ∷ codes "{\"client\":\"B\",\"do\":\"ticket\"}"
    ∷ codes "{\"client\":\"A\",\"count\":\"all\",\"do\":\"deliver\"}"
    ∷ codes "{\"address\":\"text\",\"client\":\"A\",\"do\":\"edit\",\"op\":{\"pos1\":3,\"seg\":\"!\",\"type\":0}}"
    ∷ codes "{\"client\":\"A\",\"do\":\"blame\",\"end\":4,\"start\":0}"
    ∷ codes "{\"client\":\"A\",\"do\":\"authors\"}"
    ∷ [])
    (codes "{\"by\":\"A/1\",\"end\":1,\"seq\":3,\"start\":0}"
    ∷ codes "{\"by\":\"B/1\",\"end\":2,\"seq\":6,\"start\":1}"
    ∷ codes "{\"by\":\"A/1\",\"end\":3,\"seq\":3,\"start\":2}"
    ∷ codes "{\"by\":null,\"end\":4,\"seq\":null,\"start\":3}"
    ∷ codes "{\"by\":\"A/1\",\"count\":2}"
    ∷ codes "{\"by\":\"B/1\",\"count\":1}"
    ∷ codes "{\"by\":null,\"count\":1,\"pending\":true}"
    ∷ codes "refused 0"
    ∷ codes "skipped 0"
    ∷ codes "other 0"
    ∷ [])

-- a range beyond the text
abbrev pub BlameRange : Type 0
BlameRange =
    IsReported
    (codes "{\"client\":\"A\",\"do\":\"start\"}"
    ∷ codes "{\"client\":\"A\",\"do\":\"connect\"}"
    ∷ codes "{\"client\":\"A\",\"count\":\"all\",\"do\":\"deliver\"}"
    ∷ codes "{\"client\":\"A\",\"do\":\"blame\",\"end\":9,\"start\":0}"
    ∷ [])
    (codes "line 4 refused 6 OutOfRange length 0"
    ∷ codes "refused 1"
    ∷ codes "skipped 0"
    ∷ codes "other 0"
    ∷ [])

-- a pending adjustment takes effect once, on top of a sequenced one
abbrev pub AdjustOnTop : Type 0
AdjustOnTop =
    IsReported
    (codes "{\"client\":\"A\",\"do\":\"start\"}"
    ∷ codes "{\"client\":\"B\",\"do\":\"start\"}"
    ∷ codes "{\"client\":\"A\",\"do\":\"connect\"}"
    ∷ codes "{\"client\":\"B\",\"do\":\"connect\"}"
    ∷ codes "{\"client\":\"A\",\"count\":\"all\",\"do\":\"deliver\"}"
    ∷ codes "{\"client\":\"B\",\"count\":\"all\",\"do\":\"deliver\"}"
    ∷ codes "{\"address\":\"text\",\"client\":\"A\",\"do\":\"edit\",\"op\":{\"pos1\":0,\"seg\":\"hi\",\"type\":0}}"
    ∷ codes "{\"client\":\"A\",\"do\":\"ticket\"}"
    ∷ codes "{\"client\":\"A\",\"count\":\"all\",\"do\":\"deliver\"}"
    ∷ codes "{\"client\":\"B\",\"count\":\"all\",\"do\":\"deliver\"}"
    ∷ codes "{\"address\":\"text\",\"client\":\"A\",\"do\":\"edit\",\"op\":{\"adjust\":{\"n\":{\"delta\":5,\"max\":10}},\"pos1\":0,\"pos2\":2,\"type\":2}}"
    ∷ codes "{\"address\":\"text\",\"client\":\"B\",\"do\":\"edit\",\"op\":{\"adjust\":{\"n\":{\"delta\":7}},\"pos1\":0,\"pos2\":2,\"type\":2}}"
    ∷ codes "{\"client\":\"B\",\"do\":\"ticket\"}"
    ∷ codes "{\"client\":\"A\",\"do\":\"deliver\"}"
    ∷ codes "{\"client\":\"A\",\"do\":\"show\"}"
    ∷ codes "{\"client\":\"A\",\"do\":\"ticket\"}"
    ∷ codes "{\"client\":\"A\",\"count\":\"all\",\"do\":\"deliver\"}"
    ∷ codes "{\"client\":\"B\",\"count\":\"all\",\"do\":\"deliver\"}"
    ∷ codes "{\"client\":\"B\",\"do\":\"show\"}"
    ∷ [])
    (codes "client \"A\" online seq 4 min 2 pending 1"
    ∷ codes "text \"hi\""
    ∷ codes "props 0 2 {\"n\":10}"
    ∷ codes "client \"B\" online seq 5 min 3 pending 0"
    ∷ codes "text \"hi\""
    ∷ codes "props 0 2 {\"n\":10}"
    ∷ codes "refused 0"
    ∷ codes "skipped 0"
    ∷ codes "other 0"
    ∷ [])

-- a cell with the deepest value goes through a summary
abbrev pub DeepCellThroughSummary : Type 0
DeepCellThroughSummary =
    IsReported
    (codes "{\"client\":\"A\",\"do\":\"start\"}"
    ∷ codes "{\"client\":\"A\",\"do\":\"connect\"}"
    ∷ codes "{\"client\":\"A\",\"count\":\"all\",\"do\":\"deliver\"}"
    ∷ codes "{\"address\":\"grid\",\"client\":\"A\",\"do\":\"edit\",\"op\":{\"count\":1,\"pos1\":0,\"target\":\"rows\",\"type\":0}}"
    ∷ codes "{\"address\":\"grid\",\"client\":\"A\",\"do\":\"edit\",\"op\":{\"count\":1,\"pos1\":0,\"target\":\"cols\",\"type\":0}}"
    ∷ codes "{\"address\":\"grid\",\"client\":\"A\",\"do\":\"edit\",\"op\":{\"col\":0,\"row\":0,\"type\":\"set\",\"value\":[[[[[[[[[[[[[[[[[[[[[[[[[[[[[[[[[[[[[[[[[[[[[[[[[[[[[[[[[[[[[[[[[[[[[[[[[[[[[[[[[[[[[[[[[[[[[[[[[[[[]]]]]]]]]]]]]]]]]]]]]]]]]]]]]]]]]]]]]]]]]]]]]]]]]]]]]]]]]]]]]]]]]]]]]]]]]]]]]]]]]]]]]]]]]]]]]]]]]]]]}}"
    ∷ codes "{\"client\":\"A\",\"count\":\"all\",\"do\":\"ticket\"}"
    ∷ codes "{\"client\":\"A\",\"count\":\"all\",\"do\":\"deliver\"}"
    ∷ codes "{\"client\":\"B\",\"do\":\"start\",\"from\":\"A\"}"
    ∷ codes "{\"client\":\"B\",\"do\":\"show\"}"
    ∷ [])
    (codes "client \"B\" offline seq 4 min 1 pending 0"
    ∷ codes "text \"\""
    ∷ codes "rows 1 cols 1"
    ∷ codes "cell 0 0 [[[[[[[[[[[[[[[[[[[[[[[[[[[[[[[[[[[[[[[[[[[[[[[[[[[[[[[[[[[[[[[[[[[[[[[[[[[[[[[[[[[[[[[[[[[[[[[[[[[[]]]]]]]]]]]]]]]]]]]]]]]]]]]]]]]]]]]]]]]]]]]]]]]]]]]]]]]]]]]]]]]]]]]]]]]]]]]]]]]]]]]]]]]]]]]]]]]]]]]]"
    ∷ codes "refused 0"
    ∷ codes "skipped 0"
    ∷ codes "other 0"
    ∷ [])

-- an end goes stage by stage
abbrev pub EndpointSettlesStageByStage : Type 0
EndpointSettlesStageByStage =
    IsReported
    (codes "{\"client\":\"A\",\"do\":\"start\"}"
    ∷ codes "{\"client\":\"A\",\"do\":\"connect\"}"
    ∷ codes "{\"client\":\"A\",\"count\":\"all\",\"do\":\"deliver\"}"
    ∷ codes "{\"address\":\"text\",\"client\":\"A\",\"do\":\"edit\",\"op\":{\"pos1\":0,\"seg\":\"wa\",\"type\":0}}"
    ∷ codes "{\"address\":\"text\",\"client\":\"A\",\"do\":\"edit\",\"op\":{\"end\":1,\"id\":\"i\",\"interval\":\"add\",\"label\":\"n\",\"start\":1}}"
    ∷ codes "{\"client\":\"A\",\"count\":\"all\",\"do\":\"ticket\"}"
    ∷ codes "{\"client\":\"A\",\"count\":\"all\",\"do\":\"deliver\"}"
    ∷ codes "{\"address\":\"text\",\"client\":\"A\",\"do\":\"edit\",\"op\":{\"pos1\":1,\"pos2\":2,\"type\":1}}"
    ∷ codes "{\"address\":\"text\",\"client\":\"A\",\"do\":\"edit\",\"op\":{\"pos1\":1,\"seg\":\"X\",\"type\":0}}"
    ∷ codes "{\"client\":\"A\",\"do\":\"show\"}"
    ∷ codes "{\"client\":\"A\",\"count\":\"all\",\"do\":\"ticket\"}"
    ∷ codes "{\"client\":\"A\",\"count\":\"all\",\"do\":\"deliver\"}"
    ∷ codes "{\"client\":\"A\",\"do\":\"show\"}"
    ∷ [])
    (codes "client \"A\" online seq 3 min 1 pending 2"
    ∷ codes "text \"wX\""
    ∷ codes "interval \"n\" \"i\" 0 0 {}"
    ∷ codes "client \"A\" online seq 5 min 3 pending 0"
    ∷ codes "text \"wX\""
    ∷ codes "interval \"n\" \"i\" 0 0 {}"
    ∷ codes "refused 0"
    ∷ codes "skipped 0"
    ∷ codes "other 0"
    ∷ [])

-- a group is sent again as it was edited where nothing came between
abbrev pub GroupRegenerated : Type 0
GroupRegenerated =
    IsReported
    (codes "{\"client\":\"A\",\"do\":\"start\"}"
    ∷ codes "{\"client\":\"B\",\"do\":\"start\"}"
    ∷ codes "{\"client\":\"A\",\"do\":\"connect\"}"
    ∷ codes "{\"client\":\"B\",\"do\":\"connect\"}"
    ∷ codes "{\"client\":\"A\",\"count\":\"all\",\"do\":\"deliver\"}"
    ∷ codes "{\"client\":\"B\",\"count\":\"all\",\"do\":\"deliver\"}"
    ∷ codes "{\"address\":\"text\",\"client\":\"A\",\"do\":\"edit\",\"op\":{\"pos1\":0,\"seg\":\"ab\",\"type\":0}}"
    ∷ codes "{\"client\":\"A\",\"do\":\"ticket\"}"
    ∷ codes "{\"client\":\"A\",\"count\":\"all\",\"do\":\"deliver\"}"
    ∷ codes "{\"client\":\"B\",\"count\":\"all\",\"do\":\"deliver\"}"
    ∷ codes "{\"client\":\"A\",\"do\":\"drop\"}"
    ∷ codes "{\"address\":\"text\",\"client\":\"A\",\"do\":\"edit\",\"op\":{\"ops\":[{\"pos1\":1,\"seg\":\"X\",\"type\":0},{\"pos1\":0,\"pos2\":2,\"type\":1},{\"pos1\":0,\"seg\":\"Y\",\"type\":0}],\"type\":3}}"
    ∷ codes "{\"client\":\"A\",\"do\":\"connect\"}"
    ∷ codes "{\"client\":\"A\",\"count\":\"all\",\"do\":\"deliver\"}"
    ∷ codes "{\"client\":\"A\",\"do\":\"queue\"}"
    ∷ codes "{\"client\":\"A\",\"do\":\"show\"}"
    ∷ [])
    (codes "{\"clientSequenceNumber\":1,\"contents\":{\"address\":\"text\",\"contents\":{\"ops\":[{\"pos1\":1,\"seg\":\"X\",\"type\":0},{\"pos1\":0,\"pos2\":2,\"type\":1},{\"pos1\":0,\"seg\":\"Y\",\"type\":0}],\"type\":3}},\"referenceSequenceNumber\":5,\"type\":\"op\"}"
    ∷ codes "client \"A\" online seq 5 min 0 pending 1"
    ∷ codes "text \"Yb\""
    ∷ codes "refused 0"
    ∷ codes "skipped 0"
    ∷ codes "other 0"
    ∷ [])

-- a pending cell write stands over a sequenced one
abbrev pub PendingCellOnTop : Type 0
PendingCellOnTop =
    IsReported
    (codes "{\"client\":\"A\",\"do\":\"start\"}"
    ∷ codes "{\"client\":\"B\",\"do\":\"start\"}"
    ∷ codes "{\"client\":\"A\",\"do\":\"connect\"}"
    ∷ codes "{\"client\":\"B\",\"do\":\"connect\"}"
    ∷ codes "{\"client\":\"A\",\"count\":\"all\",\"do\":\"deliver\"}"
    ∷ codes "{\"client\":\"B\",\"count\":\"all\",\"do\":\"deliver\"}"
    ∷ codes "{\"address\":\"grid\",\"client\":\"A\",\"do\":\"edit\",\"op\":{\"count\":1,\"pos1\":0,\"target\":\"rows\",\"type\":0}}"
    ∷ codes "{\"address\":\"grid\",\"client\":\"A\",\"do\":\"edit\",\"op\":{\"count\":1,\"pos1\":0,\"target\":\"cols\",\"type\":0}}"
    ∷ codes "{\"client\":\"A\",\"count\":\"all\",\"do\":\"ticket\"}"
    ∷ codes "{\"client\":\"A\",\"count\":\"all\",\"do\":\"deliver\"}"
    ∷ codes "{\"client\":\"B\",\"count\":\"all\",\"do\":\"deliver\"}"
    ∷ codes "{\"address\":\"grid\",\"client\":\"A\",\"do\":\"edit\",\"op\":{\"col\":0,\"row\":0,\"type\":\"set\",\"value\":\"a\"}}"
    ∷ codes "{\"address\":\"grid\",\"client\":\"B\",\"do\":\"edit\",\"op\":{\"col\":0,\"row\":0,\"type\":\"set\",\"value\":\"b\"}}"
    ∷ codes "{\"client\":\"B\",\"do\":\"ticket\"}"
    ∷ codes "{\"client\":\"A\",\"do\":\"deliver\"}"
    ∷ codes "{\"client\":\"A\",\"do\":\"show\"}"
    ∷ codes "{\"client\":\"A\",\"do\":\"ticket\"}"
    ∷ codes "{\"client\":\"A\",\"count\":\"all\",\"do\":\"deliver\"}"
    ∷ codes "{\"client\":\"B\",\"count\":\"all\",\"do\":\"deliver\"}"
    ∷ codes "{\"client\":\"B\",\"do\":\"show\"}"
    ∷ [])
    (codes "client \"A\" online seq 5 min 2 pending 1"
    ∷ codes "text \"\""
    ∷ codes "rows 1 cols 1"
    ∷ codes "cell 0 0 \"a\""
    ∷ codes "client \"B\" online seq 6 min 4 pending 0"
    ∷ codes "text \"\""
    ∷ codes "rows 1 cols 1"
    ∷ codes "cell 0 0 \"a\""
    ∷ codes "refused 0"
    ∷ codes "skipped 0"
    ∷ codes "other 0"
    ∷ [])

-- pending properties stand over sequenced ones
abbrev pub PendingPropertyOnTop : Type 0
PendingPropertyOnTop =
    IsReported
    (codes "{\"client\":\"A\",\"do\":\"start\"}"
    ∷ codes "{\"client\":\"B\",\"do\":\"start\"}"
    ∷ codes "{\"client\":\"A\",\"do\":\"connect\"}"
    ∷ codes "{\"client\":\"B\",\"do\":\"connect\"}"
    ∷ codes "{\"client\":\"A\",\"count\":\"all\",\"do\":\"deliver\"}"
    ∷ codes "{\"client\":\"B\",\"count\":\"all\",\"do\":\"deliver\"}"
    ∷ codes "{\"address\":\"text\",\"client\":\"A\",\"do\":\"edit\",\"op\":{\"pos1\":0,\"seg\":\"hi\",\"type\":0}}"
    ∷ codes "{\"client\":\"A\",\"do\":\"ticket\"}"
    ∷ codes "{\"client\":\"A\",\"count\":\"all\",\"do\":\"deliver\"}"
    ∷ codes "{\"client\":\"B\",\"count\":\"all\",\"do\":\"deliver\"}"
    ∷ codes "{\"address\":\"text\",\"client\":\"A\",\"do\":\"edit\",\"op\":{\"pos1\":0,\"pos2\":2,\"props\":{\"bold\":true},\"type\":2}}"
    ∷ codes "{\"address\":\"text\",\"client\":\"B\",\"do\":\"edit\",\"op\":{\"pos1\":0,\"pos2\":2,\"props\":{\"bold\":false,\"italic\":true},\"type\":2}}"
    ∷ codes "{\"client\":\"B\",\"do\":\"ticket\"}"
    ∷ codes "{\"client\":\"A\",\"do\":\"deliver\"}"
    ∷ codes "{\"client\":\"A\",\"do\":\"show\"}"
    ∷ codes "{\"client\":\"A\",\"do\":\"ticket\"}"
    ∷ codes "{\"client\":\"A\",\"count\":\"all\",\"do\":\"deliver\"}"
    ∷ codes "{\"client\":\"B\",\"count\":\"all\",\"do\":\"deliver\"}"
    ∷ codes "{\"client\":\"B\",\"do\":\"show\"}"
    ∷ [])
    (codes "client \"A\" online seq 4 min 2 pending 1"
    ∷ codes "text \"hi\""
    ∷ codes "props 0 2 {\"bold\":true,\"italic\":true}"
    ∷ codes "client \"B\" online seq 5 min 3 pending 0"
    ∷ codes "text \"hi\""
    ∷ codes "props 0 2 {\"bold\":true,\"italic\":true}"
    ∷ codes "refused 0"
    ∷ codes "skipped 0"
    ∷ codes "other 0"
    ∷ [])

-- an interval that was added offline on an element that another removes
abbrev pub ReconnectSettlesInterval : Type 0
ReconnectSettlesInterval =
    IsReported
    (codes "{\"client\":\"A\",\"do\":\"start\"}"
    ∷ codes "{\"client\":\"B\",\"do\":\"start\"}"
    ∷ codes "{\"client\":\"A\",\"do\":\"connect\"}"
    ∷ codes "{\"client\":\"B\",\"do\":\"connect\"}"
    ∷ codes "{\"client\":\"A\",\"count\":\"all\",\"do\":\"deliver\"}"
    ∷ codes "{\"client\":\"B\",\"count\":\"all\",\"do\":\"deliver\"}"
    ∷ codes "{\"address\":\"text\",\"client\":\"A\",\"do\":\"edit\",\"op\":{\"pos1\":0,\"seg\":\"abcd\",\"type\":0}}"
    ∷ codes "{\"client\":\"A\",\"do\":\"ticket\"}"
    ∷ codes "{\"client\":\"A\",\"count\":\"all\",\"do\":\"deliver\"}"
    ∷ codes "{\"client\":\"B\",\"count\":\"all\",\"do\":\"deliver\"}"
    ∷ codes "{\"client\":\"A\",\"do\":\"drop\"}"
    ∷ codes "{\"address\":\"text\",\"client\":\"A\",\"do\":\"edit\",\"op\":{\"pos1\":3,\"seg\":\"Q\",\"type\":0}}"
    ∷ codes "{\"address\":\"text\",\"client\":\"A\",\"do\":\"edit\",\"op\":{\"end\":2,\"id\":\"i\",\"interval\":\"add\",\"label\":\"notes\",\"start\":2}}"
    ∷ codes "{\"address\":\"text\",\"client\":\"B\",\"do\":\"edit\",\"op\":{\"pos1\":2,\"pos2\":3,\"type\":1}}"
    ∷ codes "{\"client\":\"B\",\"do\":\"ticket\"}"
    ∷ codes "{\"client\":\"A\",\"do\":\"connect\"}"
    ∷ codes "{\"client\":\"A\",\"count\":2,\"do\":\"deliver\"}"
    ∷ codes "{\"client\":\"A\",\"do\":\"show\"}"
    ∷ codes "{\"client\":\"A\",\"do\":\"deliver\"}"
    ∷ codes "{\"client\":\"A\",\"do\":\"show\"}"
    ∷ codes "{\"client\":\"A\",\"count\":\"all\",\"do\":\"ticket\"}"
    ∷ codes "{\"client\":\"B\",\"count\":\"all\",\"do\":\"deliver\"}"
    ∷ codes "{\"client\":\"B\",\"do\":\"show\"}"
    ∷ [])
    (codes "client \"A\" joining seq 5 min 3 pending 2"
    ∷ codes "text \"abQd\""
    ∷ codes "interval \"notes\" \"i\" 2 2 {}"
    ∷ codes "client \"A\" online seq 6 min 3 pending 2"
    ∷ codes "text \"abQd\""
    ∷ codes "interval \"notes\" \"i\" 2 2 {}"
    ∷ codes "client \"B\" online seq 8 min 3 pending 0"
    ∷ codes "text \"abQd\""
    ∷ codes "interval \"notes\" \"i\" 2 2 {}"
    ∷ codes "refused 0"
    ∷ codes "skipped 0"
    ∷ codes "other 0"
    ∷ [])

-- a row inserted at the place of a removed one has no cells
abbrev pub RecycledRowIsEmpty : Type 0
RecycledRowIsEmpty =
    IsReported
    (codes "{\"client\":\"A\",\"do\":\"start\"}"
    ∷ codes "{\"client\":\"A\",\"do\":\"connect\"}"
    ∷ codes "{\"client\":\"A\",\"count\":\"all\",\"do\":\"deliver\"}"
    ∷ codes "{\"address\":\"grid\",\"client\":\"A\",\"do\":\"edit\",\"op\":{\"count\":1,\"pos1\":0,\"target\":\"rows\",\"type\":0}}"
    ∷ codes "{\"address\":\"grid\",\"client\":\"A\",\"do\":\"edit\",\"op\":{\"count\":1,\"pos1\":0,\"target\":\"cols\",\"type\":0}}"
    ∷ codes "{\"address\":\"grid\",\"client\":\"A\",\"do\":\"edit\",\"op\":{\"col\":0,\"row\":0,\"type\":\"set\",\"value\":\"v\"}}"
    ∷ codes "{\"client\":\"A\",\"count\":\"all\",\"do\":\"ticket\"}"
    ∷ codes "{\"client\":\"A\",\"count\":\"all\",\"do\":\"deliver\"}"
    ∷ codes "{\"address\":\"grid\",\"client\":\"A\",\"do\":\"edit\",\"op\":{\"pos1\":0,\"pos2\":1,\"target\":\"rows\",\"type\":1}}"
    ∷ codes "{\"client\":\"A\",\"do\":\"ticket\"}"
    ∷ codes "{\"client\":\"A\",\"do\":\"deliver\"}"
    ∷ codes "{\"client\":\"A\",\"do\":\"noop\"}"
    ∷ codes "{\"client\":\"A\",\"do\":\"ticket\"}"
    ∷ codes "{\"client\":\"A\",\"do\":\"deliver\"}"
    ∷ codes "{\"client\":\"A\",\"do\":\"compact\"}"
    ∷ codes "{\"address\":\"grid\",\"client\":\"A\",\"do\":\"edit\",\"op\":{\"count\":1,\"pos1\":0,\"target\":\"rows\",\"type\":0}}"
    ∷ codes "{\"client\":\"A\",\"do\":\"show\"}"
    ∷ [])
    (codes "client \"A\" online seq 6 min 5 pending 1"
    ∷ codes "text \"\""
    ∷ codes "rows 1 cols 1"
    ∷ codes "refused 0"
    ∷ codes "skipped 0"
    ∷ codes "other 0"
    ∷ [])

-- the insertion of another goes past the own pending text
abbrev pub RemoteInsertPassesPendingRun : Type 0
RemoteInsertPassesPendingRun =
    IsReported
    (codes "{\"client\":\"A\",\"do\":\"start\"}"
    ∷ codes "{\"client\":\"B\",\"do\":\"start\"}"
    ∷ codes "{\"client\":\"A\",\"do\":\"connect\"}"
    ∷ codes "{\"client\":\"B\",\"do\":\"connect\"}"
    ∷ codes "{\"client\":\"A\",\"count\":\"all\",\"do\":\"deliver\"}"
    ∷ codes "{\"client\":\"B\",\"count\":\"all\",\"do\":\"deliver\"}"
    ∷ codes "{\"address\":\"text\",\"client\":\"A\",\"do\":\"edit\",\"op\":{\"pos1\":0,\"seg\":\"x\",\"type\":0}}"
    ∷ codes "{\"client\":\"A\",\"do\":\"ticket\"}"
    ∷ codes "{\"client\":\"A\",\"count\":\"all\",\"do\":\"deliver\"}"
    ∷ codes "{\"client\":\"B\",\"count\":\"all\",\"do\":\"deliver\"}"
    ∷ codes "{\"address\":\"text\",\"client\":\"A\",\"do\":\"edit\",\"op\":{\"pos1\":1,\"seg\":\"e\",\"type\":0}}"
    ∷ codes "{\"address\":\"text\",\"client\":\"B\",\"do\":\"edit\",\"op\":{\"pos1\":1,\"seg\":\"f\",\"type\":0}}"
    ∷ codes "{\"client\":\"B\",\"do\":\"ticket\"}"
    ∷ codes "{\"client\":\"A\",\"do\":\"deliver\"}"
    ∷ codes "{\"client\":\"A\",\"do\":\"show\"}"
    ∷ codes "{\"client\":\"A\",\"do\":\"ticket\"}"
    ∷ codes "{\"client\":\"A\",\"count\":\"all\",\"do\":\"deliver\"}"
    ∷ codes "{\"client\":\"B\",\"count\":\"all\",\"do\":\"deliver\"}"
    ∷ codes "{\"client\":\"B\",\"do\":\"show\"}"
    ∷ [])
    (codes "client \"A\" online seq 4 min 2 pending 1"
    ∷ codes "text \"xef\""
    ∷ codes "client \"B\" online seq 5 min 3 pending 0"
    ∷ codes "text \"xef\""
    ∷ codes "refused 0"
    ∷ codes "skipped 0"
    ∷ codes "other 0"
    ∷ [])

-- a summary after compaction keeps the author too
abbrev pub SummaryKeepsAuthorCompacted : Type 0
SummaryKeepsAuthorCompacted =
    IsReported
    (codes "{\"client\":\"A\",\"do\":\"start\"}"
    ∷ codes "{\"client\":\"A\",\"do\":\"connect\"}"
    ∷ codes "{\"client\":\"A\",\"count\":\"all\",\"do\":\"deliver\"}"
    ∷ codes "{\"address\":\"text\",\"client\":\"A\",\"do\":\"edit\",\"op\":{\"pos1\":0,\"seg\":\"hi\",\"type\":0}}"
    ∷ codes "{\"client\":\"A\",\"do\":\"ticket\"}"
    ∷ codes "{\"client\":\"A\",\"do\":\"deliver\"}"
    ∷ codes "{\"client\":\"A\",\"do\":\"noop\"}"
    ∷ codes "{\"client\":\"A\",\"do\":\"ticket\"}"
    ∷ codes "{\"client\":\"A\",\"do\":\"deliver\"}"
    ∷ codes "{\"client\":\"A\",\"do\":\"compact\"}"
    ∷ codes "{\"client\":\"A\",\"do\":\"summary\"}"
    ∷ [])
    (codes "{\"cells\":[],\"cols\":[],\"conns\":[\"A/1\"],\"count\":2,\"intervals\":[],\"min\":2,\"other\":0,\"rows\":[],\"seq\":3,\"skipped\":0,\"text\":[[{\"a\":[2,1],\"t\":\"hi\"}]],\"version\":2}"
    ∷ codes "refused 0"
    ∷ codes "skipped 0"
    ∷ codes "other 0"
    ∷ [])

-- the refusals of names, links, counts and splices
abbrev pub SessionRefusals : Type 0
SessionRefusals =
    IsReported
    (codes "{\"client\":\"A\",\"do\":\"start\"}"
    ∷ codes "{\"client\":\"A\",\"do\":\"connect\"}"
    ∷ codes "{\"client\":\"A\",\"count\":\"all\",\"do\":\"deliver\"}"
    ∷ codes "{\"address\":\"grid\",\"client\":\"A\",\"do\":\"edit\",\"op\":{\"count\":1000001,\"pos1\":0,\"target\":\"rows\",\"type\":0}}"
    ∷ codes "{\"address\":\"grid\",\"client\":\"A\",\"do\":\"edit\",\"op\":{\"count\":3,\"pos1\":0,\"target\":\"rows\",\"type\":0}}"
    ∷ codes "{\"client\":\"A\",\"do\":\"start\"}"
    ∷ codes "{\"client\":\"A\",\"do\":\"connect\"}"
    ∷ codes "{\"client\":\"B\",\"do\":\"start\"}"
    ∷ codes "{\"client\":\"C\",\"do\":\"start\"}"
    ∷ codes "{\"client\":\"D\",\"do\":\"start\"}"
    ∷ codes "{\"client\":\"E\",\"do\":\"start\"}"
    ∷ codes "{\"client\":\"F\",\"do\":\"start\"}"
    ∷ codes "{\"client\":\"G\",\"do\":\"start\"}"
    ∷ codes "{\"client\":\"H\",\"do\":\"start\"}"
    ∷ codes "{\"client\":\"I\",\"do\":\"start\"}"
    ∷ codes "{\"client\":\"J\",\"do\":\"start\"}"
    ∷ codes "{\"client\":\"K\",\"do\":\"start\"}"
    ∷ codes "{\"client\":\"L\",\"do\":\"start\"}"
    ∷ codes "{\"client\":\"M\",\"do\":\"start\"}"
    ∷ codes "{\"client\":\"N\",\"do\":\"start\"}"
    ∷ codes "{\"client\":\"O\",\"do\":\"start\"}"
    ∷ codes "{\"client\":\"P\",\"do\":\"start\"}"
    ∷ codes "{\"client\":\"Q\",\"do\":\"start\"}"
    ∷ codes "{\"client\":\"Q\",\"do\":\"show\"}"
    ∷ codes "{\"client\":\"B\",\"do\":\"drop\"}"
    ∷ codes "{\"client\":\"A\",\"do\":\"deliver\"}"
    ∷ codes "{\"client\":\"A\",\"count\":2,\"do\":\"ticket\"}"
    ∷ codes "{\"client\":\"A\",\"do\":\"summary\"}"
    ∷ codes "{\"client\":\"A\",\"do\":\"show\"}"
    ∷ [])
    (codes "line 4 refused 15 CountLimit 1000000"
    ∷ codes "line 6 refused 3 NameInUse"
    ∷ codes "line 7 refused 4 AlreadyConnected"
    ∷ codes "line 23 refused 12 ClientLimit 16"
    ∷ codes "line 24 refused 2 UnknownClient"
    ∷ codes "line 25 refused 5 NotConnected"
    ∷ codes "line 26 refused 8 NothingToDeliver have 0"
    ∷ codes "line 27 refused 7 NothingToTicket have 1"
    ∷ codes "line 28 refused 11 Pending 1"
    ∷ codes "client \"A\" online seq 1 min 0 pending 1"
    ∷ codes "text \"\""
    ∷ codes "rows 3 cols 0"
    ∷ codes "refused 9"
    ∷ codes "skipped 0"
    ∷ codes "other 0"
    ∷ [])
