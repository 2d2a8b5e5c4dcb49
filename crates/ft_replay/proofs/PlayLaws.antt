-- How far a play is, and what is written of it.
use Rattle.std.proofs.Common.{◌≡◌, ℕ, ◌+◌, Bool, true, false, ◌&&◌, List, [], ◌∷◌, ◌++◌, Option, Some, None, Result, Ok, Err, OnOk, string_bytes, refl, sym, ◌∙◌, ap, subst, append-nil, map}
use Rattle.std.specs.Prelude.{bytes_eq, unwrap_or}
use Rattle.std.specs.List.{list_all}
use Rattle.std.proofs.lemmas.Grind.{flat_map-append}
use Rattle.std.proofs.lemmas.List.{map-append}
use Rattle.std.proofs.lemmas.List.Folds.{list_all-append}
use Rattle.ft_io.specs.Lines.{with_lf}
use Rattle.ft_msg.specs.declared.views.View.{View}
use Rattle.ft_msg.specs.Answers.{view_content}
use Rattle.ft_msg.specs.Content.{content}
use Rattle.ft_seqr.specs.declared.events.Event.{Event}
use Rattle.ft_seqr.specs.declared.refusals.Refusal.{Refusal}
use Rattle.ft_seqr.specs.declared.refusals.Refusal.TheVariants.{OutOfMemory}
use Rattle.ft_seqr.specs.ViewLines.{content_lines}
use Rattle.ft_seqr.specs.World.{NamedClient, NaiveWorld, Output, step}
use Rattle.ft_session.specs.Worlds.{WorldStands, WorldState}
use Rattle.ft_replay.specs.declared.play.Play.{Play as PlayState}
use Rattle.ft_replay.specs.declared.showing.Agreement.{Agreement}
use Rattle.ft_replay.specs.declared.showing.Showing.{Showing}
use Rattle.ft_replay.specs.LineForm.{bytes_of}
use Rattle.ft_replay.specs.Play.{Played, after_event, after_events, client_line, newly_shown, played_on, shown_text}
use Rattle.ft_replay.specs.Playing.{Compares, HasShown, Plays, agrees_with, content_text}

-- ---- the clients that were shown

and_true : (b : Bool) → (b && true) ≡ b
and_true true = refl
and_true false = refl

-- what a client shows is what its view does
pub content_text-shows : (view : View) (c : NamedClient) → view_content view ≡ content c.client → content_text view ≡ shown_text c
unfolding shown_text
content_text-shows view c is = ap (λ d. bytes_of (content_lines d)) is

-- a client more, which has this view
compares_with : (first : Option View) (all : Bool) (shown : List NamedClient) (c : NamedClient) (view : View) → Compares (record { first = first; all = all }) shown
    → content_text view ≡ shown_text c
    → Compares (record { first = Some (unwrap_or first view); all = agrees_with (record { first = first; all = all }) view }) (shown ++ c ∷ [])
compares_with None all [] c view h is = record { first = ap Some is; all = h.all }
compares_with None all (d ∷ ds) c view h is = let e : None ≡ Some (shown_text d) = h.first in absurd cc
compares_with (Some first) all [] c view h is = let e : Some (content_text first) ≡ None = h.first in absurd cc
compares_with (Some first) all (d ∷ ds) c view h is =
    let e : Some (content_text first) ≡ Some (shown_text d) = h.first in
    let same : content_text first ≡ shown_text d = cc in
    record {
      first = h.first;
      all = ap (λ b. b && bytes_eq (content_text first) (content_text view)) h.all
          ∙ ap (λ text. list_all (λ x. bytes_eq (shown_text d) (shown_text x)) ds && bytes_eq text (content_text view)) same
          ∙ ap (λ text. list_all (λ x. bytes_eq (shown_text d) (shown_text x)) ds && bytes_eq (shown_text d) text) is
          ∙ ap (λ b. list_all (λ x. bytes_eq (shown_text d) (shown_text x)) ds && b) (sym (and_true (bytes_eq (shown_text d) (shown_text c))))
          ∙ sym (list_all-append (λ x. bytes_eq (shown_text d) (shown_text x)) ds (c ∷ []));
    }

-- the line of a client more
pub shown_more : (shown : List NamedClient) (c : NamedClient) (before line : List ℕ) → before ≡ bytes_of (map client_line shown) → line ≡ with_lf (client_line c)
    → before ++ line ≡ bytes_of (map client_line (shown ++ c ∷ []))
shown_more shown c before line is one =
    ap (λ xs. xs ++ line) is ∙ ap (λ xs. bytes_of (map client_line shown) ++ xs) (one ∙ sym (append-nil (with_lf (client_line c))))
    ∙ sym (flat_map-append with_lf (map client_line shown) (client_line c ∷ [])) ∙ ap bytes_of (sym (map-append client_line shown (c ∷ [])))

-- a client more was shown: its line was added, and it was compared and kept where it is the first one
pub shown_on : {E : Type 0} (old mid : Showing) (first : Option View) (added kept : Result (Unit {0}) E) (shown : List NamedClient) (c : NamedClient) (view : View) → HasShown old shown
    → content_text view ≡ shown_text c → kept ≡ added → OnOk added (string_bytes mid.lines ≡ string_bytes old.lines ++ with_lf (client_line c)) → mid.agreement.first ≡ old.agreement.first
    → OnOk added (mid.agreement.all ≡ agrees_with old.agreement view) → OnOk kept (first ≡ Some (unwrap_or mid.agreement.first view))
    → OnOk kept (HasShown (record { lines = mid.lines; agreement = record { first = first; all = mid.agreement.all } }) (shown ++ c ∷ []))
shown_on old mid first added (Err want) shown c view h is same line kept_first all is_first = tt
shown_on old mid first (Err want) (Ok done) shown c view h is same line kept_first all is_first = absurd (cc)
shown_on old mid first (Ok begun) (Ok done) shown c view h is same line kept_first all is_first =
    let with_parts : Option View → Bool → Agreement = λ f a. record { first = f; all = a } in
    record {
      lines = line ∙ shown_more shown c (string_bytes old.lines) (with_lf (client_line c)) h.lines refl;
      agreement = subst (λ a. Compares a (shown ++ c ∷ []))
          (ap (λ f. with_parts (Some (unwrap_or f view)) (agrees_with old.agreement view)) (sym kept_first) ∙ ap (λ f. with_parts f (agrees_with old.agreement view)) (sym is_first)
          ∙ ap (with_parts first) (sym all))
          (compares_with old.agreement.first old.agreement.all shown c view h.agreement is);
    }

-- ---- the events

module _ {R : Type 0} (play next : PlayState R) (at : Played) (e : Event) (plays : Plays play at) where
  -- an event was taken
  pub plays_taken : (p : NaiveWorld × Output) → step at.made e ≡ Ok p → WorldStands next.world p.0 → next.refused ≡ play.refused
      → HasShown next.showing (at.shown ++ newly_shown p.1) → Plays next (after_event at e)
  plays_taken p is world refused shown =
      subst (λ s. Plays next (played_on at s)) (sym is) (record { world = world; refusals = refused ∙ plays.refusals; shown = shown })

  -- an event was refused, unless it was for want of memory
  pub plays_refused : {E : Type 0} (world : WorldState) (why : Refusal) (counted : Result (Unit {0}) E) → ((why ≡ OutOfMemory → ⊥) → (world ≡ play.world) × (step at.made e ≡ Err why))
      → OnOk counted (why ≡ OutOfMemory → ⊥) → OnOk counted (next.refused ≡ play.refused + 1) → next.world ≡ world → next.showing ≡ play.showing
      → OnOk counted (Plays next (after_event at e))
  plays_refused world why (Err want) refused other count same shown = tt
  plays_refused world why (Ok done) refused other count same shown =
      let r = refused other in
      subst (λ s. Plays next (played_on at s)) (sym r.1) (record {
        world = subst (λ w. WorldStands w at.made) (sym (same ∙ r.0)) plays.world;
        refusals = count ∙ ap (λ n. n + 1) plays.refusals;
        shown = subst (λ s. HasShown s at.shown) (sym shown) plays.shown;
      })

-- the play is that far that these events lead to the whole of it
pub record PlaysToward {R : Type 0} (whole : Played) (play : PlayState R) (events : List Event) : Type 0 where
  pub at : Played
  pub plays : Plays play at
  pub rest : after_events at events ≡ whole

pub toward_next : {R : Type 0} {whole : Played} {play : PlayState R} {events : List Event} (toward : PlaysToward whole play events) (e : Event) (es : List Event) (next : PlayState R)
    → events ≡ e ∷ es → Plays next (after_event toward.at e) → PlaysToward whole next es
toward_next toward e es next is plays =
    record { at = after_event toward.at e; plays = plays; rest = ap (λ xs. after_events toward.at xs) (sym is) ∙ toward.rest }
