use Rattle.std.proofs.Common.{Ok, codes, refl, sym, ap, ◌∙◌, rules}
use lib.Utf8.{encode}
use Rattle.serde_json.specs.View.{view}
use Rattle.ft_msg.specs.declared.messages.Body.TheVariants.{Elsewhere}
use Rattle.ft_msg.proofs.Words.{body_for-text, body_for-grid, body_for-other, other_word}
use Rattle.ft_msg.proofs.contents.read_body_for.Goals as goal

pub returns-in-text : goal.returns-in-text
returns-in-text c = rw (body_for-text (view c.args.contents.now) c.args.address.now c.in-text.is, ← c.field.ensures) c.read_inner_text.ensures

pub returns-in-grid : goal.returns-in-grid
returns-in-grid c = rw (body_for-grid (view c.args.contents.now) c.args.address.now c.in-grid.is, ← c.field-in-grid.ensures) c.read_inner_grid.ensures

pub returns-in_ok-new-in_default : goal.returns-in_ok-new-in_default
unfolding encode
returns-in_ok-new-in_default c =
    let text = other_word c.args.address.now (codes "text") c.utf8.address refl c.in_default.not-text in
    let grid = other_word c.args.address.now (codes "grid") c.utf8.address refl c.in_default.not-grid in
    record {
      ok =
          body_for-other (view c.args.contents.now) c.args.address.now c.utf8.address c.in_default.not-text c.in_default.not-grid
          ∙ ap (λ address. Ok (Elsewhere address)) (sym c.in_ok-new-in_default.ensures);
      err = search rules;
      formed = rw c.in_ok-new-in_default.ensures (text, grid);
    }
