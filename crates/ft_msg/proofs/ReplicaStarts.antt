-- A replica stands for the client that it holds, and clients with which it starts are reached.
use Rattle.std.proofs.Common.{ℕ, [], None, refl}
use Rattle.ft_sumdoc.specs.declared.summary.SumDoc.{SumDoc}
use Rattle.ft_props.proofs.CompactedList.{keeps-self}
use Rattle.ft_op.specs.Document.{Document, empty}
use Rattle.ft_msg.specs.Answers.{StartsOver, held_in}
use Rattle.ft_msg.specs.Client.{NaiveClient, client_over, floor}
use Rattle.ft_msg.specs.Compacted.{IsCompacted, StandsFor}
use Rattle.ft_msg.specs.Indexed.{indexed_client}
use Rattle.ft_msg.specs.Reached.{IsReached, IsStart, from_nothing, from_summary}
use Rattle.ft_msg.specs.Summary.{doc_of}
use Rattle.ft_sumdoc.specs.Valid.{IsValidSummary}

-- each client keeps itself
pub keeps-itself : (x : NaiveClient) → IsCompacted x x
keeps-itself x = record {
  doc = record {
    text = record { items = keeps-self (floor x) _ x.doc.text.items; made = refl };
    rows = record { items = keeps-self (floor x) _ x.doc.rows.items; made = refl };
    cols = record { items = keeps-self (floor x) _ x.doc.cols.items; made = refl };
    cells = record { values = λ row col a b. refl; none = λ row col e. e };
    rest = refl;
  };
  rest = refl;
}

pub stands-itself : (x : NaiveClient) → StandsFor (indexed_client x) x
stands-itself x = record { kept = x; shows = refl; keeps = keeps-itself x }

-- one that shows a client over the document starts over it
pub starts-over : (doc : Document) (conns : ℕ) → StartsOver (record { client = indexed_client (client_over doc); held = held_in doc; origin = conns; stop = None }) doc conns
starts-over doc conns = record { runs = record { running = refl; client = stands-itself (client_over doc) }; held = refl; origin = refl }

reached-start : (doc : Document) → IsStart doc → IsReached (client_over doc)
reached-start doc s = record { start = doc; starts = s; steps = []; made = refl; bodies = refl }

pub reached-empty : IsReached (client_over empty)
reached-empty = reached-start empty from_nothing

pub reached-summary : (sum : SumDoc) → IsValidSummary sum → IsReached (client_over (doc_of sum))
reached-summary sum v = reached-start (doc_of sum) (from_summary v)
