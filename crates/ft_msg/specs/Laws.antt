-- Laws of the texts of messages and drafts.
use Rattle.std.specs.Prelude.{◌≡◌, Ok}
use Rattle.serde_json.specs.Written.{compact_text}
use Rattle.ft_msg.specs.declared.messages.Draft.{Draft}
use Rattle.ft_msg.specs.declared.messages.Message.{Message}
use Rattle.ft_msg.specs.MessageGrammar.{draft, message}
use Rattle.ft_msg.specs.Representable.{IsRepresentableBody, IsRepresentableMessage}
use Rattle.ft_msg.specs.WellFormed.{IsWellFormedDraft, IsWellFormedMessage}
use Rattle.ft_msg.specs.Written.{written_draft, written_message}

-- a message is read back from its text
abbrev pub MessagesReadBack : Type 0
MessagesReadBack = (m : Message) → IsRepresentableMessage m → IsWellFormedMessage m → message (compact_text (written_message m)) ≡ Ok m

-- a draft is read back from its text
abbrev pub DraftsReadBack : Type 0
DraftsReadBack = (d : Draft) → IsRepresentableBody d.body → IsWellFormedDraft d → draft (compact_text (written_draft d)) ≡ Ok d

-- no two messages have one text
abbrev pub MessagesTellApart : Type 0
MessagesTellApart = (m n : Message) → IsRepresentableMessage m → IsRepresentableMessage n → IsWellFormedMessage m → IsWellFormedMessage n
    → compact_text (written_message m) ≡ compact_text (written_message n) → m ≡ n

-- no two drafts have one text
abbrev pub DraftsTellApart : Type 0
DraftsTellApart = (d e : Draft) → IsRepresentableBody d.body → IsRepresentableBody e.body → IsWellFormedDraft d → IsWellFormedDraft e
    → compact_text (written_draft d) ≡ compact_text (written_draft e) → d ≡ e
