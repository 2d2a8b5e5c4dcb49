-- The first line of a client's view, by its name and its numbers.
use Rattle.std.specs.Prelude.{ℕ, List, ◌++◌, codes, decimal}
use Rattle.ft_props.specs.Properties.{Characters}
use Rattle.ft_msg.specs.declared.views.Numbers.{Numbers}
use Rattle.ft_seqr.specs.SessionReport.{link_word}
use Rattle.ft_seqr.specs.ViewLines.{json_string}

-- the name of a client, behind its word
abbrev pub written_client : Characters → List ℕ
written_client name = codes "client " ++ json_string name

-- the numbers of a client, each behind its word
abbrev pub written_counts : Numbers → List ℕ
written_counts n = codes " seq " ++ (decimal n.seq ++ (codes " min " ++ (decimal n.min ++ (codes " pending " ++ decimal n.pending))))

-- the line
abbrev pub written_head : Characters → Numbers → List ℕ
written_head name n = (codes "client " ++ (json_string name ++ (codes " " ++ link_word n.link))) ++ written_counts n
