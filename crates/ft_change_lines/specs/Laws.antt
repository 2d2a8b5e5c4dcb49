-- What is told from nothing leads to what is shown.
use Rattle.std.specs.Prelude.{◌≡◌}
use Rattle.ft_msg.specs.Client.{NaiveClient}
use Rattle.ft_msg.specs.Content.{content}
use Rattle.ft_msg.specs.Reached.{IsReached}
use Rattle.ft_changes.specs.Shown.{after_changes, shown_content}
use Rattle.ft_change_lines.specs.FromNothing.{nothing_shown, told_from_nothing}

-- an editor that shows nothing, and applies what leads from nothing to what a client shows, shows it
abbrev pub FromNothingLeads : Type 0
FromNothingLeads = (x : NaiveClient) → IsReached x → after_changes nothing_shown (told_from_nothing (content x)) ≡ shown_content x
