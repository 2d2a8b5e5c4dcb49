-- Two runs of a client, so that the laws speak of something: it connects, joins, edits while another client does, and takes
-- both messages; and the same where its connection is lost before its edit goes out.
use Rattle.std.specs.Prelude.{◌≡◌, ℕ, Bool, true, false, List, [], ◌∷◌, ◌++◌, Option, Some, None, option_map, pos, negsuc}
use Rattle.std.specs.List.{list_all}
use Rattle.ft_op.specs.declared.operations.Seg.TheVariants.{Chars}
use Rattle.ft_op.specs.declared.operations.BaseOp.TheVariants.{Insert, Remove}
use Rattle.ft_op.specs.declared.operations.TextOp.TheVariants.{Group}
use Rattle.ft_op.specs.declared.operations.ChannelOp.{ChannelOp}
use Rattle.ft_op.specs.declared.operations.ChannelOp.TheVariants.{Text}
use Rattle.ft_msg.specs.declared.messages.Entry.{Entry}
use Rattle.ft_msg.specs.declared.messages.Body.TheVariants.{Nothing, Op}
use Rattle.ft_msg.specs.declared.messages.MsgKind.TheVariants as kind
use Rattle.ft_op.specs.Document.{empty}
use Rattle.ft_msg.specs.Agreed.{agreed}
use Rattle.ft_msg.specs.Client.{NaiveClient, client_over}
use Rattle.ft_msg.specs.Content.{content, shown}
use Rattle.ft_msg.specs.ClientSteps.{ClientStep, Edits, Connects, Drops, Sends, Takes, after_steps, has_fitting_body, is_without_edits, taken_entries}

-- the join of connection c under that number, with the minimum m
abbrev pub example_join : ℕ → ℕ → ℕ → Entry
example_join seq c m = record { msg = record { client_id = None; seq = seq; min = m; client_seq = negsuc 0; ref_seq = negsuc 0; kind = kind.Join; body = Nothing }; origin = c }

-- the operation under that number by connection c, as its first, of one that saw number r
abbrev pub example_message : ℕ → ℕ → ℕ → ChannelOp → Entry
example_message seq c r op = record { msg = record { client_id = None; seq = seq; min = 1; client_seq = pos 1; ref_seq = pos r; kind = kind.Op; body = Op op }; origin = c }

-- "ab" at the head, and then its first character removed
abbrev pub example_edit : ChannelOp
example_edit = Text (Group (Insert 0 (Chars (97 ∷ 98 ∷ [])) [] ∷ Remove 0 1 ∷ []))

-- "c" at the head, by another client
abbrev pub example_other : ChannelOp
example_other = Text (Group (Insert 0 (Chars (99 ∷ [])) [] ∷ []))

abbrev pub example_steps : List ClientStep
example_steps = Connects 1 ∷ Takes (example_join 1 1 0) ∷ Edits example_edit ∷ Sends ∷ Takes (example_message 2 7 1 example_other) ∷ Takes (example_message 3 1 1 example_edit) ∷ []

-- the same, but the connection is lost before the edit goes out: it is sent again under connection 2
abbrev pub example_lost : List ClientStep
example_lost = Connects 1 ∷ Takes (example_join 1 1 0) ∷ Edits example_edit ∷ Drops ∷ Takes (example_message 2 7 1 example_other) ∷ Connects 2 ∷ []

abbrev pub example_again : List ClientStep
example_again = example_lost ++ (Takes (example_join 3 2 1) ∷ Sends ∷ Takes (example_message 4 2 3 example_edit) ∷ [])

-- whether nothing is pending after steps
abbrev pub example_idle : List ClientStep → Option Bool
example_idle steps = option_map (λ (x : NaiveClient). is_without_edits x) (after_steps (Some (client_over empty)) steps)

-- what the client shows after steps
abbrev pub example_text : List ClientStep → Option (List ℕ)
example_text steps = option_map (λ (x : NaiveClient). (content x).text) (after_steps (Some (client_over empty)) steps)

-- it refuses none of these steps, has nothing pending after them, and shows "bc", as the agreed document does; so it is
-- where the edit is pending at the second join
pub record ExampleRun : Type 0 where
  pub idle : example_idle example_steps ≡ Some true
  pub bodies : list_all has_fitting_body (taken_entries example_steps) ≡ true
  pub text : example_text example_steps ≡ Some (98 ∷ 99 ∷ [])
  pub agreed_text : (shown (agreed (taken_entries example_steps))).text ≡ 98 ∷ 99 ∷ []
  pub pending : example_idle example_lost ≡ Some false
  pub idle_again : example_idle example_again ≡ Some true
  pub bodies_again : list_all has_fitting_body (taken_entries example_again) ≡ true
  pub text_again : example_text example_again ≡ Some (98 ∷ 99 ∷ [])
