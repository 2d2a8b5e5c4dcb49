-- The text's part of a document that a client may begin with is sound, and so is that of each client.
use Rattle.std.proofs.Common.{[], arith, refl}
use Rattle.ft_laws_agreement.specs.Starts.{IsSoundStart}
use Rattle.ft_laws_agreement.proofs.EveryClientReady.{client-ready-from}
use Rattle.ft_msg.specs.Client.{client_over}
use Rattle.ft_laws_compaction.proofs.AllSteps.{reached-sound}
use Rattle.ft_laws_compaction.proofs.KeptReady.{kept-ready}
use Rattle.ft_laws_names.proofs.KeptNames.{made-or-kept-named}
use Rattle.ft_laws_names.proofs.NamedStarts.{start-named}
use Rattle.ft_op.specs.Document.{Document}
use Rattle.ft_string.specs.Holds.{IsTextSound}
use Rattle.ft_string.specs.Sound.{ClientTextsAreSound}

pub start-sound : (start : Document) → IsSoundStart start → IsTextSound 0 start []
start-sound start h =
    let named = start-named start h in
    let ready = client-ready-from start [] (client_over start) (record { sound = h; made = refl; bodies = refl }) in
    record {
      list = named.text;
      intervals = named.intervals;
      names = named.stages;
      own = named.own.text;
      rise = named.rise;
      fits = omega arith;
      place = ready.text.place;
      changes = ready.text.changes;
      typed = ready.typed;
      ends = ready.ends;
      later = ready.text.later;
    }

pub client-sound : ClientTextsAreSound
client-sound start p made fits =
    let named = made-or-kept-named start p made in
    let ready = kept-ready made.reached.steps made.whole p (reached-sound made.whole made.reached) made.keeps in
    record {
      list = named.text;
      intervals = named.intervals;
      names = named.stages;
      own = named.own.text;
      rise = named.rise;
      fits = fits;
      place = ready.text.place;
      changes = ready.text.changes;
      typed = ready.typed;
      ends = ready.ends;
      later = ready.text.later;
    }
