-- What an answer says of the output of the naive session.
use Rattle.std.specs.Prelude.{◌≡◌, ◌∷◌, ◌++◌, [], ℕ, List, length, map, Option, Some, None, Result, Ok, Err, Box, ⊤}
use Rattle.std.specs.declared.alloc.Global.{Global}
use Rattle.serde_json.specs.Written.{compact_text}
use Rattle.ft_msg.specs.declared.views.View.{View as ClientView}
use Rattle.ft_session.specs.declared.outputs.Out.{Out}
use Rattle.ft_session.specs.declared.outputs.Out.TheVariants as out
use Rattle.ft_session.specs.declared.outputs.Counts.{Counts}
use Rattle.ft_props.specs.Properties.{Characters}
use Rattle.ft_msg.specs.Content.{content}
use Rattle.ft_msg.specs.Answers.{view_content}
use Rattle.ft_seqr.specs.declared.refusals.Refusal.{Refusal}
use Rattle.ft_seqr.specs.declared.refusals.Refusal.TheVariants.{OutOfMemory}
use Rattle.ft_seqr.specs.World.{NamedClient, NaiveWorld, Nothing, Output, Texts, View, furthest}

-- what is written: nothing where there is no box
abbrev pub unboxed : Option (Box Out Global) → Out
unboxed None = out.Nothing
unboxed (Some b) = b.value

-- this is written, unless there is no memory for it
abbrev pub Writes : Out → Result Out Refusal → Type 0
Writes written (Ok out) = out ≡ written
Writes written (Err why) = why ≡ OutOfMemory

-- a value is written like that, unless there was or is no memory for it
abbrev pub WritesAs : {A E : Type 0} → (A → Out) → Result A E → Result Out Refusal → Type 0
WritesAs written (Ok a) result = Writes (written a) result
WritesAs written (Err want) result = result ≡ Err OutOfMemory

-- the text, for which there was memory, is added at the end
abbrev pub AddsText : {E : Type 0} → Result (List ℕ) E → List (List ℕ) → List (List ℕ) → Type 0
AddsText (Ok text) old new = new ≡ old ++ (text ∷ [])
AddsText (Err want) old new = ⊥

-- the view is the client's: its numbers, but how many elements its replica held, and what it shows
pub record IsViewOf (c : NamedClient) (name : Characters) (view : ClientView) : Type 0 where
  pub name_is : name ≡ c.name
  pub seq : view.numbers.seq ≡ c.client.doc.number
  pub min : view.numbers.min ≡ c.client.doc.minimum
  pub pending : view.numbers.pending ≡ length c.client.pending
  pub skipped : view.numbers.skipped ≡ c.client.doc.skipped
  pub other : view.numbers.other ≡ c.client.doc.other
  pub link : view.numbers.link ≡ c.client.link
  pub shows : view_content view ≡ content c.client

-- the answer is that output
abbrev pub Tells : Output → Out → Type 0
Tells Nothing out.Nothing = ⊤
Tells (View c) (out.View name view) = IsViewOf c name view
Tells (Texts values) (out.Texts texts) = texts ≡ map compact_text values
Tells _ _ = ⊥

-- the counts of the client with the greatest number
abbrev pub counts_of : NaiveWorld → Counts
counts_of w = record { skipped = (furthest w).skipped; other = (furthest w).other }
