-- The first line of a client's view is written by its name and its numbers.
use Rattle.std.proofs.Common.{◌≡◌, ℕ, List, ◌∷◌, ◌++◌, append_assoc, ap, ap₂, sym, ◌∙◌}
use Rattle.std.proofs.lemmas.Grind.{flat_map-append}
use Rattle.ft_io.specs.Lines.{with_lf}
use Rattle.ft_props.specs.Properties.{Characters}
use Rattle.ft_msg.specs.declared.views.Numbers.{Numbers}
use Rattle.ft_msg.specs.declared.views.View.{View}
use Rattle.ft_seqr.specs.SessionReport.{head_line}
use Rattle.ft_seqr.specs.World.{NamedClient}
use Rattle.ft_session.specs.Outputs.{IsViewOf}
use Rattle.ft_map.specs.MapReport.{head_line as map_head_line}
use Rattle.ft_map.specs.MapSession.{NamedMapClient}
use Rattle.ft_map.specs.MapWorlds.{AreNumbersOf}
use Rattle.ft_replay.specs.Heads.{written_head}
use Rattle.ft_replay.specs.LineForm.{bytes_of}

pub head_of : (c : NamedClient) (name : Characters) (view : View) → IsViewOf c name view → written_head name view.numbers ≡ head_line c
unfolding head_line
head_of c name view v = rw (v.name_is, v.seq, v.min, v.pending, v.link)

-- the same of a client of a map
pub map_head_of : (c : NamedMapClient) (name : Characters) (n : Numbers) → name ≡ c.name → AreNumbersOf c.client n
    → written_head name n ≡ map_head_line c
unfolding map_head_line
map_head_of c name n is are = rw (is, are.seq, are.min, are.pending, are.link)

-- the first line of a text, and the lines behind it
pub lines_behind : (before first all : List ℕ) (head shown : List ℕ) (lines others : List (List ℕ))
    → first ≡ before ++ with_lf head → head ≡ shown → lines ≡ others → all ≡ first ++ bytes_of lines → all ≡ before ++ bytes_of (shown ∷ others)
lines_behind before first all head shown lines others begun same alike is =
    is ∙ ap (λ (text : List ℕ). text ++ bytes_of lines) begun ∙ append_assoc before (with_lf head) (bytes_of lines)
    ∙ ap₂ (λ (h : List ℕ) (ls : List (List ℕ)). before ++ (with_lf h ++ bytes_of ls)) same alike

-- lines that stand behind a part stand behind what was before it, with that part
pub part_behind : (before now : List ℕ) (part others : List (List ℕ)) → now ≡ before ++ bytes_of part
    → now ++ bytes_of others ≡ before ++ bytes_of (part ++ others)
part_behind before now part others is =
    ap (λ (text : List ℕ). text ++ bytes_of others) is ∙ append_assoc before (bytes_of part) (bytes_of others)
    ∙ ap (λ (text : List ℕ). before ++ text) (sym (flat_map-append with_lf part others))

-- a text behind which a part was pushed, by what that part is
pub pushed_part : (now next pushed part : List ℕ) → next ≡ now ++ pushed → pushed ≡ part → next ≡ now ++ part
pushed_part now next pushed part is same = is ∙ ap (λ (text : List ℕ). now ++ text) same
