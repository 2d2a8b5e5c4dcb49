use Rattle.std.proofs.Common.{codes, refl}
use Rattle.std.specs.Str.{chars}
use lib.Utf8.{encode}
use Rattle.ft_msg.proofs.Words.{other_word, the_word}
use Rattle.ft_msg.proofs.well_formed.is_other_address.Goals as goal

pub returns-in-text : goal.returns-in-text
unfolding chars
returns-in-text c = (λ h. (cc), λ h. absurd (the_word c.args.address.now (codes "text") refl c.in-text.is h.0))

pub returns-in-grid : goal.returns-in-grid
unfolding chars
returns-in-grid c = (λ h. (cc), λ h. absurd (the_word c.args.address.now (codes "grid") refl c.in-grid.is h.1))

pub returns-in_default : goal.returns-in_default
unfolding encode
returns-in_default c =
    let text = c.args.address.now in (
      λ h. (
        other_word text (codes "text") c.utf8.address refl c.in_default.not-text,
        other_word text (codes "grid") c.utf8.address refl c.in_default.not-grid,
      ),
      λ h. refl,
    )
