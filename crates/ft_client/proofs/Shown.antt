-- What text and table show, each for itself, is what the client shows.
use Rattle.std.proofs.Common.{◌≡◌, ◌<◌, ◌+◌, ℕ, refl, ◌∙◌, ap, arith}
use Rattle.ft_msg.specs.declared.views.Numbers.{Numbers}
use Rattle.ft_msg.specs.declared.views.View.{View}
use Rattle.ft_msg.specs.Answers.{view_content}
use Rattle.ft_msg.specs.Client.{NaiveClient, stages_of}
use Rattle.ft_msg.specs.Content.{content}
use Rattle.ft_laws_names.specs.WellNamed.{IsWellNamed}
use Rattle.ft_replica.specs.Own.{HoldsOne, held_by}
use Rattle.ft_text.specs.Shows.{KeepsOthers}
use Rattle.ft_string.specs.Calls.{ShowsText}
use Rattle.ft_string.specs.Holds.{IsTextSound}
use Rattle.ft_matrix.specs.Conditions.{IsAboveAll}
use Rattle.ft_matrix.specs.Shown.{with_grid}
use Rattle.ft_client.specs.declared.own.TreeOwn.{TreeOwn}
use Rattle.ft_client.specs.Holds.{HoldsTree}
use Rattle.ft_client.proofs.Known.{above-all, held-sound}

module _ (s : TreeOwn) (last : ℕ) (known : HoldsOne HoldsTree s (λ p. p.last_stage ≡ last)) where
  pub view-sound : (low : ℕ) (p : NaiveClient) → IsWellNamed p → HoldsTree s (held_by low p) → IsTextSound p.last_stage p.doc (stages_of p)
  view-sound low p named h = held-sound known.start known.client known.made s known.low known.document (held_by low p) named h

  pub view-above : (k : ℕ) → k ≡ last → IsAboveAll (k + 1) s.table
  view-above k e = above-all known.start known.client known.made s known.low known.document (k + 1) (next-one known.client.last_stage last k known.fits e)
    where
      next-one : (a b c : ℕ) → a ≡ b → c ≡ b → a < c + 1
      next-one a b c e f = omega arith

pub shows-all : (p : NaiveClient) (mid new : View) → ShowsText p.last_stage p.doc (stages_of p) mid
    → new ≡ with_grid p.last_stage p.doc (stages_of p) mid → view_content new ≡ content p
shows-all p mid new t e = ap view_content e ∙ rw (t.text, t.markers, t.runs, t.intervals) refl

pub same-numbers : (p : NaiveClient) (old mid new : View) (numbers : Numbers) → old.numbers ≡ numbers → KeepsOthers old mid
    → new ≡ with_grid p.last_stage p.doc (stages_of p) mid → new.numbers ≡ numbers
same-numbers p old mid new numbers e k g = ap (λ (v : View). v.numbers) g ∙ k.numbers ∙ e
