use Rattle.std.proofs.Common.{codes, refl}
use Rattle.std.specs.Str.{chars}
use lib.Utf8.{encode}
use Rattle.ft_msg.proofs.Words.{other_word, the_word}
use Rattle.ft_msg.proofs.well_formed.is_other_word.Goals as goal

pub returns-in-op : goal.returns-in-op
unfolding chars
returns-in-op c = (λ h. (cc), λ h. absurd (the_word c.args.word.now (codes "op") refl c.in-op.is h.0))

pub returns-in-join : goal.returns-in-join
unfolding chars
returns-in-join c = (λ h. (cc), λ h. absurd (the_word c.args.word.now (codes "join") refl c.in-join.is h.1))

pub returns-in-leave : goal.returns-in-leave
unfolding chars
returns-in-leave c = (λ h. (cc), λ h. absurd (the_word c.args.word.now (codes "leave") refl c.in-leave.is h.2))

pub returns-in-noop : goal.returns-in-noop
unfolding chars
returns-in-noop c = (λ h. (cc), λ h. absurd (the_word c.args.word.now (codes "noop") refl c.in-noop.is h.3))

pub returns-in_default : goal.returns-in_default
unfolding encode
returns-in_default c =
    let text = c.args.word.now in (
      λ h. (
        other_word text (codes "op") c.utf8.word refl c.in_default.not-op,
        other_word text (codes "join") c.utf8.word refl c.in_default.not-join,
        other_word text (codes "leave") c.utf8.word refl c.in_default.not-leave,
        other_word text (codes "noop") c.utf8.word refl c.in_default.not-noop,
      ),
      λ h. refl,
    )
