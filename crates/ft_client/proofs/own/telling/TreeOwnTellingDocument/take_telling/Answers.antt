use Rattle.std.proofs.Common.{◌∙◌, ℕ, ap}
use Rattle.ft_changes.specs.declared.listeners.Listener.{Listener}
use Rattle.ft_changes.specs.Listeners.{heard}
use Rattle.ft_changes.specs.Told.{told_body}
use Rattle.ft_msg.specs.Agreed.{reference_number}
use Rattle.ft_client.proofs.own.telling.TreeOwnTellingDocument.take_telling.Goals as goal

pub take_in-requires-clause-known : goal.take_in-requires-clause-known
take_in-requires-clause-known c =
    let k = c.requires.known in
    record { start = k.start; client = k.client; made = k.made; low = k.low; above = k.above; document = k.document; fits = k.fits.0 }

pub returns-clause-told : goal.returns-clause-told
returns-clause-told c = λ held named last h.
    let e = c.args.entry.now in
    let told = λ (k : ℕ). told_body k held.doc e.msg.seq e.origin (reference_number e.msg.ref_seq) e.msg.body in
    c.into_changes.ensures
    ∙ ap (λ (l : Listener). l.changes) (c.in_ok-take_in.ensures.told held named h ∙ ap (λ (l : Listener). heard l (told held.last)) c.new-listener.ensures)
    ∙ ap told last
