-- The agreed document: the one that the sequenced messages alone make. It knows nothing of any client.
use Rattle.std.specs.Prelude.{ℕ, ◌+◌, List, [], ◌∷◌, ℤ, pos, negsuc}
use Rattle.ft_msg.specs.declared.messages.Entry.{Entry}
use Rattle.ft_msg.specs.declared.messages.Body.{Body}
use Rattle.ft_msg.specs.declared.messages.Body.TheVariants.{Nothing, Op, Elsewhere}
use Rattle.ft_op.specs.Operation.{sub_operations}
use Rattle.ft_op.specs.Document.{Document, effects, empty}

-- the reference number of a message of type op, as a count; nothing is known to one below 0
abbrev pub reference_number : ℤ → ℕ
reference_number (pos n) = n
reference_number (negsuc n) = 0

-- the document with the entry's number and minimum as its last ones
abbrev pub with_numbers : Entry → Document → Document
with_numbers entry doc = record doc { number = entry.msg.seq; minimum = entry.msg.min }

-- the document after the body of a message under number s of connection c with reference number r
abbrev pub body_effect : Document → ℕ → ℕ → ℕ → Body → Document
body_effect doc s c r Nothing = doc
body_effect doc s c r (Op op) = effects doc s c r (sub_operations op)
body_effect doc s c r (Elsewhere address) = record doc { other = doc.other + 1 }

-- the document after an entry
abbrev pub take_entry : Document → Entry → Document
take_entry doc entry = with_numbers entry (body_effect doc entry.msg.seq entry.origin (reference_number entry.msg.ref_seq) entry.msg.body)

-- the document after entries in order
abbrev pub take_entries : Document → List Entry → Document
take_entries doc [] = doc
take_entries doc (entry ∷ entries) = take_entries (take_entry doc entry) entries

-- the document of these entries alone
abbrev pub agreed : List Entry → Document
agreed entries = take_entries empty entries
