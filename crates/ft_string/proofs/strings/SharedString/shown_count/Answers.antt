use Rattle.std.proofs.Common.{◌∙◌, subst, sym}
use Rattle.ft_interval_store.specs.State.{text_elements}
use Rattle.ft_named.proofs.Bares.{from-bare}
use Rattle.ft_named.proofs.OwnSteps.{same-count}
use Rattle.ft_string.specs.Bare.{text_content}
use Rattle.ft_string.specs.Holds.{HoldsText}
use Rattle.ft_string.proofs.Standing.{sound-up_to}
use Rattle.ft_string.proofs.strings.SharedString.shown_count.Goals as goal

pub returns : goal.returns
returns c last doc stages sound holds =
    let here = subst (λ s. HoldsText s doc stages) (sym c.self.view_is) holds in
    c.length.ensures
    ∙ same-count text_content last sound.fits (sound-up_to last doc stages sound)
    (from-bare text_content (text_elements c.self.inside.tree) doc.text.items here.elements)
