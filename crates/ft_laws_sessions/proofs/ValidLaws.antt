-- The summary of an idle client of a world is valid and well cut.
use Rattle.std.proofs.Common.{◌≡◌, ℕ, zero, suc, ◌+◌, ◌≤◌, ◌^◌, max, true, List, [], ◌∷◌, fold, length, take, Some, find, refl, sym, ◌∙◌, ap, subst, arith}
use Rattle.std.proofs.lemmas.List.{length-take}
use Rattle.ft_msg.specs.declared.messages.Entry.{Entry}
use Rattle.ft_msg.specs.WellFormed.{IsWellFormedBody}
use Rattle.ft_op.specs.Document.{Document, empty}
use Rattle.ft_props.specs.Element.{ListElement}
use Rattle.ft_laws_agreement.specs.Sequencing.{Each}
use Rattle.ft_laws_sessions.specs.FormedLogs.{AllMayBeTaken}
use Rattle.ft_laws_sessions.specs.LogOrder.{IsOrder}
use Rattle.ft_laws_sessions.specs.Load.{IsCountedWithin}
use Rattle.ft_laws_sessions.proofs.HeldElements.{IsSizedWithin}
use Rattle.ft_laws_summaries.proofs.DistinctNames.{distinct-taken}
use Rattle.ft_laws_summaries.proofs.Lists.{each-found, each-taken, size}
use Rattle.ft_laws_sessions.proofs.Orders.{Leads, leads-up}
use Rattle.ft_laws_summaries.proofs.ValidDocuments.{AreNext, IsFrom, IsMadeBy, empty-made, entries-made}
use Rattle.ft_laws_summaries.specs.Summaries.{IsSmall}
use Rattle.ft_laws_summaries.proofs.ValidSegments.{trimmed-length}
use Rattle.ft_laws_summaries.proofs.ValidSummaries.{summary-valid}
use Rattle.ft_seqr.specs.declared.events.Event.{Event}
use Rattle.ft_props.specs.Properties.{Characters}
use Rattle.ft_msg.specs.Agreed.{agreed}
use Rattle.ft_msg.specs.ClientSteps.{is_without_edits}
use Rattle.ft_laws_agreement.proofs.ClientsAgree.{idle-clients-agree}
use Rattle.ft_seqr.specs.World.{NamedClient, greatest_origin, is_client, known_names, new_world}
use Rattle.ft_laws_sessions.specs.Summaries.{SummariesAreValid, SummariesAreWellCut}
use Rattle.ft_laws_sessions.specs.Worlds.{reached}
use Rattle.ft_laws_sessions.proofs.LoadLaws.{counts-within-load, number-within-load, sizes-within-load}
use Rattle.ft_laws_summaries.proofs.RunSummaries.{document-cut}
use Rattle.ft_laws_summaries.proofs.SummaryLists.{IsPlain, agreed-plain}
use Rattle.ft_laws_sessions.proofs.WorldEvents.{IsReachedWorld, first-reached, found-serves, reaches}
use Rattle.ft_laws_sessions.proofs.WorldLaws.{of-log, world-reached}

-- the document of an idle client is that of the messages that it took
idle-agreed : (events : List Event) (name : Characters) (c : NamedClient) → find (is_client name) (reached events).clients ≡ Some c → is_without_edits c.client ≡ true
    → c.client.doc ≡ agreed (take c.client.doc.number (reached events).log)
idle-agreed events name c f none =
    let w = reached events in
    let r = world-reached events in
    let s = found-serves ⊥ w r name c f in
    let o = of-log w r c (record { rest = s.rest; served = s.served; formed = s.formed }) in
    idle-clients-agree o.steps c.client o.run.made o.run.bodies none ∙ ap agreed o.entries

-- there are no more names than the load
names-within-load : (events : List Event) → length (reached events).names ≤ (reached events).load
names-within-load events =
    let n = number-within-load events in
    let k = (world-reached events).base.counted in
    omega (arith, n, k)

pub summaries-are-well_cut : SummariesAreWellCut
summaries-are-well_cut events name c f none small =
    let w = reached events in
    let doc = c.client.doc in
    let plain : IsPlain doc = subst IsPlain (sym (idle-agreed events name c f none)) (agreed-plain (take doc.number w.log)) in
    let names = names-within-load events in
    document-cut (known_names w c.client) doc plain (simp length-take (omega arith))

-- ---- names

greatest-high : (es : List Entry) (a : ℕ) → a ≤ fold (λ n e. max n e.origin) a es
greatest-high [] a = omega arith
greatest-high (e ∷ es) a = let ih = greatest-high es (max a e.origin) in omega (arith, ih)

greatest-each : (es : List Entry) (a : ℕ) → Each (λ e. e.origin ≤ fold (λ n e. max n e.origin) a es) es
greatest-each [] a = tt
greatest-each (e ∷ es) a = (let h = greatest-high es (max a e.origin) in omega (arith, h), greatest-each es (max a e.origin))

pub greatest-low : (es : List Entry) (a m : ℕ) → a ≤ m → Each (λ e. e.origin ≤ m) es → fold (λ n e. max n e.origin) a es ≤ m
greatest-low [] a m l h = l
greatest-low (e ∷ es) a m l h = greatest-low es (max a e.origin) m (let o = h.0 in omega (arith, l, o)) h.1

-- ---- the messages that a client took

order-taken : (j : ℕ) (es : List Entry) (n m k l : ℕ) → Leads n m es k l → IsOrder n m (take j es)
order-taken zero es n m k l h = tt
order-taken (suc j) [] n m k l h = tt
order-taken (suc j) (e ∷ es) n m k l h = (h.0, order-taken j es (n + 1) e.msg.min k l h.1)

order-next : (n m : ℕ) (es : List Entry) → IsOrder n m es → AreNext n m es
order-next n m [] h = tt
order-next n m (e ∷ es) h = (record { seq = h.0.seq; later = h.0.later; below = h.0.below }, order-next (n + 1) e.msg.min es h.1)

all-from : (n : ℕ) (es : List Entry) → Each (λ e. IsWellFormedBody e.msg.body) es → Each (λ e. 1 ≤ e.origin) es → Each (λ e. e.origin ≤ n) es → Each (IsFrom n) es
all-from n [] b s o = tt
all-from n (e ∷ es) b s o = (record { body = b.0; known = λ op. s.0; within = o.0 }, all-from n es b.1 s.1 o.1)

-- the document of an idle client is made of them
idle-made : (events : List Event) (name : Characters) (c : NamedClient) → AllMayBeTaken new_world events → find (is_client name) (reached events).clients ≡ Some c
    → is_without_edits c.client ≡ true → IsMadeBy (length (known_names (reached events) c.client)) c.client.doc
idle-made events name c may f none =
    let w = reached events in
    let n = c.client.doc.number in
    let r : IsReachedWorld (Unit {0}) 0 (reached events) = reaches (Unit {0}) events new_world (first-reached (Unit {0})) (λ f. may) in
    let es = take n w.log in
    let origins = each-taken (λ e. e.origin ≤ length w.names) n w.log r.base.origins in
    let fits : greatest_origin (take n w.log) ≤ length w.names = greatest-low (take n w.log) 0 (length w.names) (omega arith) origins in
    let known : length (known_names w c.client) ≡ greatest_origin (take n w.log) = simp length-take (omega (arith, fits)) in
    subst (λ (d : Document). IsMadeBy (length (known_names w c.client)) d) (sym (idle-agreed events name c f none))
    (subst (λ k. IsMadeBy k (agreed (take n w.log))) (sym known)
    (entries-made (greatest_origin es) es empty (order-next 0 0 es (order-taken n w.log 0 0 w.sequencer.number w.sequencer.minimum r.base.order))
    (all-from (greatest_origin es) es (each-taken (λ e. IsWellFormedBody e.msg.body) n w.log (r.bodies tt))
    (each-taken (λ e. 1 ≤ e.origin) n w.log r.base.sources) (greatest-each es 0)) (empty-made (greatest_origin es))))

sized-length : (xs : List ListElement) → size xs ≡ length xs
sized-length [] = refl
sized-length (x ∷ xs) = ap suc (sized-length xs)

-- the numbers of a client are small
client-small : (events : List Event) (name : Characters) (c : NamedClient) → find (is_client name) (reached events).clients ≡ Some c → (reached events).load ≤ 2 ^ 52
    → IsSmall c.client.doc
client-small events name c f low =
    let w = reached events in
    let r = world-reached events in
    let s = found-serves ⊥ w r name c f in
    let number = leads-up s.rest c.client.doc.number c.client.doc.minimum w.sequencer.number w.sequencer.minimum s.served.order in
    let load = number-within-load events in
    let sized = (each-found (λ (d : NamedClient). IsSizedWithin w.load d.client.doc) (is_client name) w.clients c f (sizes-within-load events)).0 in
    let counted = (each-found (λ (d : NamedClient). IsCountedWithin w.load d.client.doc) (is_client name) w.clients c f (counts-within-load events)).0 in
    let skipped = counted.skipped in
    let other = counted.other in
    let text = sized.text in
    let rows = sized.rows in
    let cols = sized.cols in
    let text_length = sized-length c.client.doc.text.items in
    let text_kept = trimmed-length c.client.doc.minimum c.client.doc.text.items in
    let rows_length = sized-length c.client.doc.rows.items in
    let rows_kept = trimmed-length c.client.doc.minimum c.client.doc.rows.items in
    let cols_length = sized-length c.client.doc.cols.items in
    let cols_kept = trimmed-length c.client.doc.minimum c.client.doc.cols.items in
    record {
      number = omega (arith, number, load, low);
      skipped = omega (arith, skipped, low);
      other = omega (arith, other, low);
      text = omega (arith, text, text_length, text_kept, low);
      rows = omega (arith, rows, rows_length, rows_kept, low);
      cols = omega (arith, cols, cols_length, cols_kept, low);
    }

pub summaries-are-valid : SummariesAreValid
summaries-are-valid events name c may f none low =
    let w = reached events in
    let names = names-within-load events in
    summary-valid (known_names w c.client) c.client.doc (idle-made events name c may f none)
    (distinct-taken (greatest_origin (take c.client.doc.number w.log)) w.names ((world-reached events).named.apart (omega (arith, names, low))))
    (client-small events name c f low)
