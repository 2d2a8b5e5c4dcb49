-- A run whose client may forget something, so that the laws speak of something: another client puts "c" into the text and takes
-- it out, and the minimum comes up to the removal.
use Rattle.std.specs.Prelude.{◌≡◌, true, List, [], ◌∷◌, Some, None, length, option_map, pos}
use Rattle.std.specs.List.{list_all}
use Rattle.ft_op.specs.declared.operations.BaseOp.TheVariants.{Remove}
use Rattle.ft_op.specs.declared.operations.TextOp.TheVariants.{Group}
use Rattle.ft_op.specs.declared.operations.ChannelOp.TheVariants.{Text}
use Rattle.ft_msg.specs.declared.messages.Body.TheVariants.{Op}
use Rattle.ft_msg.specs.declared.messages.Entry.{Entry}
use Rattle.ft_msg.specs.declared.messages.MsgKind.TheVariants as kind
use Rattle.ft_op.specs.Document.{empty}
use Rattle.ft_msg.specs.Client.{NaiveClient, client_over}
use Rattle.ft_msg.specs.ClientSteps.{ClientStep, Connects, Takes, after_steps, has_fitting_body, taken_entries}
use Rattle.ft_laws_agreement.specs.ExampleRun.{example_join, example_message, example_other}
use Rattle.ft_laws_compaction.specs.Keeping.{compacted}

-- the removal of the first character under number 3 by connection 7, with the minimum 3
abbrev pub example_removal : Entry
example_removal = record { msg = record { client_id = None; seq = 3; min = 3; client_seq = pos 2; ref_seq = pos 2; kind = kind.Op; body = Op (Text (Group (Remove 0 1 ∷ []))) }; origin = 7 }

abbrev pub example_forgetting : List ClientStep
example_forgetting = Connects 1 ∷ Takes (example_join 1 1 0) ∷ Takes (example_message 2 7 1 example_other) ∷ Takes example_removal ∷ []

-- how many elements the text has after the steps, as the client is and once it is compacted
pub record ExampleForgets : Type 0 where
  pub bodies : list_all has_fitting_body (taken_entries example_forgetting) ≡ true
  pub whole : option_map (λ (x : NaiveClient). length x.doc.text.items) (after_steps (Some (client_over empty)) example_forgetting) ≡ Some 1
  pub forgotten : option_map (λ (x : NaiveClient). length (compacted x).doc.text.items) (after_steps (Some (client_over empty)) example_forgetting) ≡ Some 0
