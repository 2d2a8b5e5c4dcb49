-- An offered message that a client takes is the log's.
use Rattle.std.proofs.Common.{◌≡◌, ℕ, ℤ, ◌+◌, Bool, true, false, cond, nat_eq, bytes_eq, encode_utf8_all, List, [], ◌∷◌, Option, Some, None, Result, Ok, Err, find, length, refl, sym, ◌∙◌, ap, subst}
use Rattle.std.proofs.lemmas.Bool.Decides.{Decides-eqb}
use Rattle.std.proofs.lemmas.Slice.Eq.{bytes_eq-Decides}
use Rattle.ft_base.proofs.Booleans.{both}
use Rattle.ft_op.proofs.SameOperations.{same_int-Decides, same_op-Decides, same_option-Decides}
use Rattle.ft_op.specs.Same.{same_int, same_option}
use Rattle.ft_msg.specs.declared.faults.Cause.{Cause}
use Rattle.ft_msg.specs.declared.messages.Body.{Body}
use Rattle.ft_msg.specs.declared.messages.Body.TheVariants.{Nothing, Op, Elsewhere}
use Rattle.ft_msg.specs.declared.messages.Entry.{Entry}
use Rattle.ft_msg.specs.declared.messages.Message.{Message}
use Rattle.ft_msg.specs.declared.messages.MsgKind.{MsgKind}
use Rattle.ft_msg.specs.declared.messages.MsgKind.TheVariants as kind
use Rattle.ft_seqr.specs.declared.events.Event.TheVariants as event
use Rattle.ft_seqr.specs.declared.refusals.Refusal.TheVariants.{Foreign, NotConnected, OutOfOrder, UnknownClient}
use Rattle.ft_props.specs.Properties.{Characters}
use Rattle.ft_msg.specs.MessageGrammar.{message}
use Rattle.ft_seqr.specs.Refusals.{refusal_of_cause}
use Rattle.ft_seqr.specs.SameMessage.{same_body, same_kind, same_message}
use Rattle.ft_seqr.specs.World.{NamedClient, NaiveWorld, Output, Stepped, ahead_of, conn_of, happen, is_client, loaded, now, of_client, offer_client, offer_message, offer_next, processed, text_load}
use Rattle.ft_laws_sessions.specs.Offers.{IsOfferOf, OffersAreOfTheLog}
use Rattle.ft_laws_sessions.specs.Worlds.{reached}
use Rattle.ft_laws_sessions.proofs.Served.{IsServed, served-takes}
use Rattle.ft_laws_sessions.proofs.WorldEvents.{IsReachedWorld, Meets, ahead-is, found-serves}
use Rattle.ft_laws_sessions.proofs.WorldLaws.{world-reached}

-- ---- equal messages

kind-same : (a b : MsgKind) → same_kind a b ≡ true → a ≡ b
kind-same kind.Op kind.Op h = refl
kind-same kind.Join kind.Join h = refl
kind-same kind.Leave kind.Leave h = refl
kind-same kind.Noop kind.Noop h = refl
kind-same (kind.Other word) (kind.Other other) h = ap kind.Other ((bytes_eq-Decides word other).0 h)
kind-same kind.Op kind.Join h = (cc)
kind-same kind.Op kind.Leave h = (cc)
kind-same kind.Op kind.Noop h = (cc)
kind-same kind.Op (kind.Other other) h = (cc)
kind-same kind.Join kind.Op h = (cc)
kind-same kind.Join kind.Leave h = (cc)
kind-same kind.Join kind.Noop h = (cc)
kind-same kind.Join (kind.Other other) h = (cc)
kind-same kind.Leave kind.Op h = (cc)
kind-same kind.Leave kind.Join h = (cc)
kind-same kind.Leave kind.Noop h = (cc)
kind-same kind.Leave (kind.Other other) h = (cc)
kind-same kind.Noop kind.Op h = (cc)
kind-same kind.Noop kind.Join h = (cc)
kind-same kind.Noop kind.Leave h = (cc)
kind-same kind.Noop (kind.Other other) h = (cc)
kind-same (kind.Other word) kind.Op h = (cc)
kind-same (kind.Other word) kind.Join h = (cc)
kind-same (kind.Other word) kind.Leave h = (cc)
kind-same (kind.Other word) kind.Noop h = (cc)

body-same : (a b : Body) → same_body a b ≡ true → a ≡ b
body-same Nothing Nothing h = refl
body-same (Op op) (Op other) h = ap Op ((same_op-Decides op other).0 h)
body-same (Elsewhere address) (Elsewhere other) h = ap Elsewhere ((bytes_eq-Decides address other).0 h)
body-same Nothing (Op other) h = (cc)
body-same Nothing (Elsewhere other) h = (cc)
body-same (Op op) Nothing h = (cc)
body-same (Op op) (Elsewhere other) h = (cc)
body-same (Elsewhere address) Nothing h = (cc)
body-same (Elsewhere address) (Op other) h = (cc)

pub message-same : (m n : Message) → same_message m n ≡ true → m ≡ n
message-same m n h =
    let g = both _ (same_body m.body n.body) h in
    let f = both _ (same_kind m.kind n.kind) g.0 in
    let e = both _ (same_int m.ref_seq n.ref_seq) f.0 in
    let d = both _ (same_int m.client_seq n.client_seq) e.0 in
    let c = both _ (nat_eq m.min n.min) d.0 in
    let b = both (same_option bytes_eq m.client_id n.client_id) (nat_eq m.seq n.seq) c.0 in
    parts ((same_option-Decides bytes_eq bytes_eq-Decides m.client_id n.client_id).0 b.0) ((Decides-eqb m.seq n.seq).0 b.1) ((Decides-eqb m.min n.min).0 c.1)
    ((same_int-Decides m.client_seq n.client_seq).0 d.1)
    ((same_int-Decides m.ref_seq n.ref_seq).0 e.1) (kind-same m.kind n.kind f.1) (body-same m.body n.body g.1)
  where
    parts : m.client_id ≡ n.client_id → m.seq ≡ n.seq → m.min ≡ n.min → m.client_seq ≡ n.client_seq → m.ref_seq ≡ n.ref_seq → m.kind ≡ n.kind → m.body ≡ n.body → m ≡ n
    parts a b c d e f g =
        ap (λ (z : Option Characters). record m { client_id = z }) a
        ∙ (ap (λ (z : ℕ). record n { seq = z; min = m.min; client_seq = m.client_seq; ref_seq = m.ref_seq; kind = m.kind; body = m.body }) b
        ∙ (ap (λ (z : ℕ). record n { min = z; client_seq = m.client_seq; ref_seq = m.ref_seq; kind = m.kind; body = m.body }) c
        ∙ (ap (λ (z : ℤ). record n { client_seq = z; ref_seq = m.ref_seq; kind = m.kind; body = m.body }) d
        ∙ (ap (λ (z : ℤ). record n { ref_seq = z; kind = m.kind; body = m.body }) e
        ∙ (ap (λ (z : MsgKind). record n { kind = z; body = m.body }) f ∙ ap (λ (z : Body). record n { body = z }) g)))))

-- ---- a taken offer

abbrev offered : NaiveWorld → NamedClient → Result Message Cause → Stepped
offered w c (Err fault) = Err (refusal_of_cause fault)
offered w c (Ok m) = offer_message w c m

abbrev offering : NaiveWorld → NamedClient → Characters → Option ℕ → Stepped
offering w c text None = Err NotConnected
offering w c text (Some conn) = offered w c (message (encode_utf8_all text))

abbrev chosen : (NamedClient → Stepped) → Option NamedClient → Stepped
chosen f None = Err UnknownClient
chosen f (Some c) = f c

offer-of : (w : NaiveWorld) (r : IsReachedWorld ⊥ 0 w) (name text : Characters) (p : NaiveWorld × Output) → of_client w name (λ c. offer_client w c text)
    ≡ Ok p → IsOfferOf w name text
offer-of w r name text p h = by (find (is_client name) w.clients) refl h
  where
    same : (c : NamedClient) (m : Message) (entry : Entry) (es : List Entry) → find (is_client name) w.clients ≡ Some c → message (encode_utf8_all text) ≡ Ok m → Meets ⊥ w r c
        → ahead_of w c.client ≡ entry ∷ es → (b : Bool) → same_message m entry.msg ≡ b
        → cond b (now w c (processed c.client (entry ∷ []))) (Err (Foreign m.seq)) ≡ Ok p → IsOfferOf w name text
    same c m entry es f a s n true e g =
        let rest : entry ∷ es ≡ s.rest = sym n ∙ ahead-is ⊥ r.owner w c s.rest s.served in
        let t = served-takes r.owner (length w.names) w.sequencer w.log c.name es c.client entry
        (subst (λ xs. IsServed r.owner (length w.names) w.sequencer w.log c.name xs c.client) (sym rest) s.served) in
        record { c = c; found = f; entry = entry; later = es; next = n; reads = a ∙ ap Ok (message-same m entry.msg e); after = t.y; takes = t.processed }
    same c m entry es f a s n false e g = (cc)

    next : (c : NamedClient) (m : Message) (es : List Entry) → find (is_client name) w.clients ≡ Some c → message (encode_utf8_all text) ≡ Ok m → Meets ⊥ w r c
        → ahead_of w c.client ≡ es → offer_next w c m es ≡ Ok p → IsOfferOf w name text
    next c m [] f a s n g = (cc)
    next c m (entry ∷ es) f a s n g = same c m entry es f a s n (same_message m entry.msg) refl g

    ordered : (c : NamedClient) (m : Message) → find (is_client name) w.clients ≡ Some c → message (encode_utf8_all text) ≡ Ok m → Meets ⊥ w r c → (b : Bool)
        → cond b (offer_next w c m (ahead_of w c.client)) (Err (OutOfOrder (c.client.doc.number + 1) m.seq)) ≡ Ok p → IsOfferOf w name text
    ordered c m f a s true g = next c m (ahead_of w c.client) f a s refl g
    ordered c m f a s false g = (cc)

    read : (c : NamedClient) → find (is_client name) w.clients ≡ Some c → Meets ⊥ w r c → (a : Result Message Cause) → message (encode_utf8_all text) ≡ a
        → offered w c a ≡ Ok p → IsOfferOf w name text
    read c f s (Err fault) a g = (cc)
    read c f s (Ok m) a g = ordered c m f a s (nat_eq m.seq (c.client.doc.number + 1)) g

    linked : (c : NamedClient) → find (is_client name) w.clients ≡ Some c → Meets ⊥ w r c → (o : Option ℕ) → offering w c text o ≡ Ok p → IsOfferOf w name text
    linked c f s None g = (cc)
    linked c f s (Some conn) g = read c f s (message (encode_utf8_all text)) refl g

    by : (o : Option NamedClient) → find (is_client name) w.clients ≡ o → chosen (λ c. offer_client w c text) o ≡ Ok p → IsOfferOf w name text
    by None f g = (cc)
    by (Some c) f g = linked c f (found-serves ⊥ w r name c f) (conn_of c.client.link) g

unloaded : (n : ℕ) (s : Stepped) (p : NaiveWorld × Output) (G : Type 0) → ((q : NaiveWorld × Output) → s ≡ Ok q → G) → loaded n s ≡ Ok p → G
unloaded n (Err refusal) p G f h = (cc)
unloaded n (Ok q) p G f h = f q refl

pub offers-are-of_the_log : OffersAreOfTheLog
offers-are-of_the_log events name text p h =
    unloaded (1 + text_load (event.Offer name text)) (happen (reached events) (event.Offer name text)) p (IsOfferOf (reached events) name text)
    (λ q g. offer-of (reached events) (world-reached events) name text q g) h
