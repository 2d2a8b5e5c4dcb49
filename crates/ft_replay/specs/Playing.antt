-- How far the code of a play follows it.
use Rattle.std.specs.Prelude.{◌≡◌, ℕ, Bool, ◌&&◌, List, [], ◌∷◌, Option, Some, None, bytes_eq, map, option_map, string_bytes}
use Rattle.ft_msg.specs.declared.views.View.{View}
use Rattle.ft_msg.specs.Answers.{view_content}
use Rattle.ft_session.specs.Worlds.{WorldStands}
use Rattle.ft_seqr.specs.ViewLines.{content_lines}
use Rattle.ft_seqr.specs.World.{NamedClient}
use Rattle.ft_replay.specs.declared.play.Play.{Play as PlayState}
use Rattle.ft_replay.specs.declared.showing.Agreement.{Agreement}
use Rattle.ft_replay.specs.declared.showing.Showing.{Showing}
use Rattle.ft_replay.specs.LineForm.{bytes_of}
use Rattle.ft_replay.specs.Play.{Played, all_agree, client_line, shown_text}

-- what the first of the clients shows, if there is one
abbrev pub first_shown : List NamedClient → Option (List ℕ)
first_shown [] = None
first_shown (c ∷ cs) = Some (shown_text c)

-- what a view shows, as it is written
abbrev pub content_text : View → List ℕ
content_text view = bytes_of (content_lines (view_content view))

-- the clients were compared: the view of the first is kept, and whether all show what it does
pub record Compares (agreement : Agreement) (shown : List NamedClient) : Type 0 where
  pub first : option_map content_text agreement.first ≡ first_shown shown
  pub all : agreement.all ≡ all_agree shown

-- whether all show the same with one more that has this view
abbrev pub agrees_with : Agreement → View → Bool
agrees_with agreement view =
    elim agreement.first as (λ _. Bool) [ None ↦ agreement.all | Some first ↦ agreement.all && bytes_eq (content_text first) (content_text view) ]

-- the clients were shown: their lines were written, and they were compared
pub record HasShown (showing : Showing) (shown : List NamedClient) : Type 0 where
  pub lines : string_bytes showing.lines ≡ bytes_of (map client_line shown)
  pub agreement : Compares showing.agreement shown

-- the play is that far
pub record Plays {R : Type 0} (play : PlayState R) (at : Played) : Type 0 where
  pub world : WorldStands play.world at.made
  pub refusals : play.refused ≡ at.refused
  pub shown : HasShown play.showing at.shown
