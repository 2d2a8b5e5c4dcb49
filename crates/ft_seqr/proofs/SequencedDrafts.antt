-- The message of a draft against which nothing is.
use Rattle.std.proofs.Common.{◌≡◌, ◌∙◌, ℕ, Option, Some, None, Result, Ok, Err, ap, sym}
use Rattle.ft_msg.specs.declared.messages.Draft.{Draft}
use Rattle.ft_msg.specs.declared.messages.Entry.{Entry}
use Rattle.ft_seqr.specs.declared.nacks.Nack.{Nack}
use Rattle.ft_seqr.specs.declared.nacks.Nack.TheVariants.{NotJoined}
use Rattle.ft_seqr.specs.declared.sequencer.Sender.{Sender}
use Rattle.ft_seqr.specs.Sequencer.{JoinedConnection, NaiveSequencer, nack_of, sequence, submit}
use Rattle.ft_seqr.specs.SequencerCalls.{Sends, sent_message, sequencer_after}

abbrev told : NaiveSequencer → Draft → Sender → Result (NaiveSequencer × Entry) Nack
told q d s = let p = sequencer_after q s.conn d in Ok (p, sent_message s p.minimum d)

abbrev by_nack : NaiveSequencer → JoinedConnection → Draft → Option Nack → Result (NaiveSequencer × Entry) Nack
by_nack q j d o = elim o [ Some nack ↦ Err nack | None ↦ Ok (sequence q j d) ]

abbrev by_joined : NaiveSequencer → Draft → Option JoinedConnection → Result (NaiveSequencer × Entry) Nack
by_joined q d o = elim o [ None ↦ Err NotJoined | Some j ↦ by_nack q j d (nack_of q j d) ]

submits : (q : NaiveSequencer) (conn : ℕ) (d : Draft) (s : Sender) → Sends q conn d s → submit q conn d ≡ told q d s
submits q conn d s h = ap (by_joined q d) h.found ∙ (ap (by_nack q h.joined d) h.free ∙ ap (told q d) (sym h.is))

pub sequenced : (q p : NaiveSequencer) (conn : ℕ) (d : Draft) (s : Sender) (minimum : ℕ) (entry : Entry) → Sends q conn d s → p ≡ sequencer_after q s.conn d → minimum ≡ p.minimum
    → entry ≡ sent_message s minimum d → submit q conn d ≡ Ok (p, entry)
sequenced q p conn d s minimum entry h after least is =
    submits q conn d s h ∙ (ap (λ (x : NaiveSequencer). let r : Result (NaiveSequencer × Entry) Nack = Ok (x, sent_message s x.minimum d) in r) (sym after)
    ∙ (ap (λ (n : ℕ). let r : Result (NaiveSequencer × Entry) Nack = Ok (p, sent_message s n d) in r) (sym least)
    ∙ ap (λ (e : Entry). let r : Result (NaiveSequencer × Entry) Nack = Ok (p, e) in r) (sym is)))
