-- What is asked of a client of a naive world, as its events are.
use Rattle.std.specs.Prelude.{ℕ, Ok, map}
use Rattle.ft_props.specs.Properties.{Characters}
use Rattle.ft_msg.specs.Blame.{blame}
use Rattle.ft_msg.specs.Overlap.{overlap}
use Rattle.ft_msg.specs.Written.{written_draft}
use Rattle.ft_seqr.specs.AnswerTexts.{written_authors, written_overlap}
use Rattle.ft_seqr.specs.World.{NaiveWorld, NamedClient, Stepped, Texts, View, summary_texts, unless_pending}

-- its view
abbrev pub show_client : NaiveWorld → NamedClient → Stepped
show_client w c = Ok (w, View c)

-- its unsent messages
abbrev pub queue_client : NaiveWorld → NamedClient → Stepped
queue_client w c = Ok (w, Texts (map written_draft c.client.queue))

-- its summary
abbrev pub summarize_client : NaiveWorld → NamedClient → Stepped
summarize_client w c = unless_pending c.client (Ok (w, Texts (summary_texts w c.client)))

-- its intervals of a label that meet a range
abbrev pub overlap_client : Characters → ℕ → ℕ → NaiveWorld → NamedClient → Stepped
overlap_client label a b w c = Ok (w, Texts (map written_overlap (overlap c.client label a b)))

-- how many visible elements each connection inserted
abbrev pub authors_client : NaiveWorld → NamedClient → Stepped
authors_client w c = Ok (w, Texts (written_authors w.names (blame c.client)))
