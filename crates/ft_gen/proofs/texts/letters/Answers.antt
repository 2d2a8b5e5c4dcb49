use Rattle.std.proofs.Common.{◌≡◌, ◌+◌, ◌-◌, ◌∷◌, ◌++◌, [], string_bytes, chars, sym, ap, ◌∙◌, arith, append_assoc}
use Rattle.ft_gen.specs.Draws.{draw}
use Rattle.ft_gen.specs.Edits.{letters}
use Rattle.ft_gen.proofs.Drawing.{draw-below}
use Rattle.ft_gen.proofs.DrawnTexts.{chars-letters, letters-more, letters-none}
use Rattle.ft_gen.proofs.texts.letters.Goals as goal

pub loop-i-preserved : goal.loop-i-preserved
loop-i-preserved c =
    let l = c.loop-i in
    let so_far = string_bytes l.text in
    let below = draw-below 26 l.state (omega arith) in
    let letter : c.from.result ≡ 97 + draw 26 l.state = omega (arith, c.from.ensures, c.draw-place.ensures.value) in
    let left = letters (c.args.count - (l._i + 1)) c.draw-place.new.state in
    let pushed = c.in_ok-push.ensures.bytes ∙ ap (λ b. so_far ++ b) (c.in_ok-push.ensures.ascii (omega arith)) in
    let more = letters-more c.args.count l._i l.state (omega arith) in
    let next : c.from.result ∷ left ≡ letters (c.args.count - l._i) l.state = cc in
    record {
      within = omega arith;
      told = ap (λ b. b ++ left) pushed ∙ append_assoc so_far (c.from.result ∷ []) left ∙ ap (λ b. so_far ++ b) next ∙ l.invariant.told;
    }

pub returns : goal.returns
returns c =
    let l = c.loop-i in
    let none = letters-none c.args.count l._i l.state (string_bytes l.text) (omega arith) in
    c.from_string.ensures ∙ ap chars (sym none ∙ l.invariant.told) ∙ chars-letters c.args.count c.args.state
