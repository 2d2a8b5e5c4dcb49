use Rattle.ft_string.proofs.SoundTexts.{client-sound}
use Rattle.ft_string.proofs.soundness.client_texts.Goals as goal

pub returns : goal.returns
returns c = client-sound
