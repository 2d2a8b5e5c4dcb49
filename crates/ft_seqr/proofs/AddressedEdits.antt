-- An edit is read in two steps: the client, and then the operation for the address.
use Rattle.std.proofs.Common.{◌≡◌, ◌∙◌, Result, Ok, Err, refl, ap}
use Rattle.serde_json.specs.Data.{Data}
use Rattle.ft_json.specs.declared.fields.Field.TheVariants.{Address, Op}
use Rattle.ft_json.specs.Reading.{field, text_field}
use Rattle.ft_props.specs.Properties.{Characters}
use Rattle.ft_op.specs.declared.operations.ChannelOp.{ChannelOp}
use Rattle.ft_op.specs.Reading.{◌>>=◌, with_fault}
use Rattle.ft_msg.specs.declared.faults.Cause.{Cause}
use Rattle.ft_msg.specs.Causes.{cause_of_field}
use Rattle.ft_seqr.specs.declared.events.Event.{Event}
use Rattle.ft_seqr.specs.declared.events.Event.TheVariants.{Edit}
use Rattle.ft_seqr.specs.EventGrammar.{addressed_op, client_name_field, edit_event, edit_op, is_known_address}

one_step : {A B C F : Type 0} (r : Result A F) (f : A → Result B F) (g : B → Result C F) → (r >>= λ x. f x >>= g) ≡ ((r >>= f) >>= g)
one_step (Ok x) f g = refl
one_step (Err fault) f g = refl

two_steps : {A B C D F : Type 0} (r : Result A F) (f : A → Result B F) (g : B → Result C F) (h : C → Result D F)
    → (r >>= λ x. f x >>= λ y. g y >>= h) ≡ ((r >>= λ x. f x >>= g) >>= h)
two_steps (Ok x) f g h = one_step (f x) g h
two_steps (Err fault) f g h = refl

-- what is left once the client is read
abbrev behind_client : Data → Characters → Result Event Cause
behind_client d client = do
  word ← with_fault cause_of_field (text_field d Address)
  address ← is_known_address word
  op ← edit_op address (field d Op)
  Ok (Edit client op)

-- a fault of the client is that of the edit
pub edit-no_client : (d : Data) (fault : Cause) → client_name_field d ≡ Err fault → edit_event d ≡ Err fault
unfolding edit_event
edit-no_client d fault h = ap (λ (r : Result Characters Cause). r >>= λ client. behind_client d client) h

-- behind the client the operation decides
pub edit-op : (d : Data) (client : Characters) (given : Result ChannelOp Cause) → client_name_field d ≡ Ok client → addressed_op d ≡ given
    → edit_event d ≡ (given >>= λ op. Ok (Edit client op))
unfolding edit_event addressed_op
edit-op d client given h k =
    ap (λ (r : Result Characters Cause). r >>= λ c. behind_client d c) h
    ∙ two_steps (with_fault cause_of_field (text_field d Address)) is_known_address (λ address. edit_op address (field d Op))
    (λ op. Ok (Edit client op))
    ∙ ap (λ (r : Result ChannelOp Cause). r >>= λ op. Ok (Edit client op)) k
