-- What the load of a world bounds.
use Rattle.std.specs.Prelude.{ℕ, ◌≤◌, List}
use Rattle.ft_seqr.specs.declared.events.Event.{Event}
use Rattle.ft_op.specs.Document.{Document}
use Rattle.ft_msg.specs.Answers.{count_held}
use Rattle.ft_laws_agreement.specs.Sequencing.{Each}
use Rattle.ft_laws_sessions.specs.Worlds.{reached}

-- the number of the sequencer is at most the load
abbrev pub NumberIsWithinLoad : Type 0
NumberIsWithinLoad = (events : List Event) → (reached events).sequencer.number ≤ (reached events).load

-- each list of a document ever held at most n elements, sequenced or pending
pub record IsHeldWithin (n : ℕ) (doc : Document) : Type 0 where
  pub text : count_held doc.text ≤ n
  pub rows : count_held doc.rows ≤ n
  pub cols : count_held doc.cols ≤ n

-- the elements that each list of each client ever held are at most the load
abbrev pub ElementsAreWithinLoad : Type 0
ElementsAreWithinLoad = (events : List Event) → Each (λ c. IsHeldWithin (reached events).load c.client.doc) (reached events).clients

-- the counts of a document are at most n
pub record IsCountedWithin (n : ℕ) (doc : Document) : Type 0 where
  pub skipped : doc.skipped ≤ n
  pub other : doc.other ≤ n

-- how many sub-operations each client skipped, and how many messages it counted that were for others, is at most the load
abbrev pub CountsAreWithinLoad : Type 0
CountsAreWithinLoad = (events : List Event) → Each (λ c. IsCountedWithin (reached events).load c.client.doc) (reached events).clients
