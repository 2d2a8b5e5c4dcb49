-- A document over plain lists with its pending stages, which has the names of the definitions.
use Rattle.std.specs.Prelude.{◌≡◌, ◌<◌, ◌≤◌, ◌^◌, ℕ, List, [], ◌∷◌, None, length, map}
use Rattle.std.proofs.Common.{ap, ◌∙◌}
use Rattle.ft_op.specs.Document.{Document}
use Rattle.ft_op.specs.Stages.{Stage}
use Rattle.ft_msg.specs.Answers.{held_in}
use Rattle.ft_msg.specs.Client.{NaiveClient, client_over}
use Rattle.ft_msg.specs.Indexed.{indexed, indexed_stage}
use Rattle.ft_replica.specs.Own.{HeldDocument, ShownDocument, Shows}

-- a document and its pending stages in order
pub record PlainState : Type 0 where
  pub doc : Document
  pub stages : List Stage

-- with places for names
abbrev pub plain_shown : PlainState → ShownDocument
plain_shown d = record { content = indexed d.doc; pending = map (indexed_stage d.doc) d.stages; counts = held_in d.doc }

-- it holds its own document and its own stages
pub record HoldsExactly (d : PlainState) (held : HeldDocument) : Type 0 where
  pub document : d.doc ≡ held.doc
  pub pending : d.stages ≡ held.stages

-- and so shows what it holds
pub plain-shows : (d : PlainState) (held : HeldDocument) → HoldsExactly d held → Shows (plain_shown d) held
plain-shows d held h = record {
  content = ap indexed h.document;
  pending = ap (λ (doc : Document). map (indexed_stage doc) d.stages) h.document ∙ ap (map (indexed_stage held.doc)) h.pending;
  counts = ap held_in h.document;
}

-- a client with that document and these stages, the last one of this number
abbrev pub client_at : ℕ → PlainState → NaiveClient
client_at last d = record (client_over d.doc) { last_stage = last; pending = record { stages = d.stages; ref_seq = 0; sent = None } ∷ [] }

-- a document with numbers, and with lists, that a summary may tell
pub record HasSmallLists (doc : Document) : Type 0 where
  pub number : doc.number < 2 ^ 53
  pub skipped : doc.skipped < 2 ^ 53
  pub other : doc.other < 2 ^ 53
  pub text : length doc.text.items < 2 ^ 53
  pub rows : length doc.rows.items ≤ 2 ^ 52
  pub cols : length doc.cols.items ≤ 2 ^ 52
