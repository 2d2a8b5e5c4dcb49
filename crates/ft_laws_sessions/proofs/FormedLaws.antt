-- Every entry of a log is well formed.
use Rattle.std.proofs.Common.{◌≡◌, ℕ, ◌+◌, ◌-◌, ◌≤◌, ◌<◌, ◌^◌, true, cond, not, ℤ, pos, negsuc, List, [], ◌∷◌, Option, refl, sym, subst, arith, is_some, le-ltb, lt-ltb}
use Rattle.std.specs.Prelude.{IsTrue}
use Rattle.ft_msg.specs.declared.messages.Body.{Body}
use Rattle.ft_msg.specs.declared.messages.Entry.{Entry}
use Rattle.ft_msg.specs.declared.messages.MsgKind.{MsgKind}
use Rattle.ft_msg.specs.declared.messages.MsgKind.TheVariants as kind
use Rattle.ft_props.specs.Properties.{Characters}
use Rattle.ft_msg.specs.ClientSteps.{has_fitting_body}
use Rattle.ft_msg.specs.Process.{is_op_kind}
use Rattle.ft_msg.specs.WellFormed.{HasItsParts, IsWellFormedBody, IsWellFormedKind, IsWellFormedMessage, has_body, is_number}
use Rattle.ft_seqr.specs.World.{new_world}
use Rattle.ft_laws_agreement.specs.Sequencing.{Each}
use Rattle.ft_laws_agreement.proofs.Booleans.{hidden}
use Rattle.ft_laws_sessions.specs.FormedLogs.{EntriesAreWellFormed}
use Rattle.ft_laws_sessions.specs.Worlds.{reached}
use Rattle.ft_laws_sessions.proofs.Orders.{AreUpTo, IsUpTo, Leads, leads-up}
use Rattle.ft_laws_sessions.proofs.LoadLaws.{number-within-load}
use Rattle.ft_laws_sessions.proofs.WorldEvents.{IsReachedWorld, first-reached, reaches}

-- what an entry of a log is like whose numbers are up to k
record IsSequencedWithin (k : ℕ) (e : Entry) : Type 0 where
  seq : e.msg.seq ≤ k
  min : e.msg.min ≤ k
  body : has_fitting_body e ≡ true
  sender : is_some e.msg.client_id ≡ true
  kind : IsWellFormedKind e.msg.kind

leads-within : (es : List Entry) (n m k l : ℕ) → Leads n m es k l → Each (IsSequencedWithin k) es
leads-within [] n m k l h = tt
leads-within (e ∷ es) n m k l h =
    let up = leads-up es (n + 1) e.msg.min k l h.1 in
    let seq = h.0.seq in
    let min = h.0.below in
    (record { seq = omega (arith, up, seq); min = omega (arith, up, seq, min); body = h.0.body; sender = h.0.sender; kind = h.0.kind }, leads-within es (n + 1) e.msg.min k l h.1)

-- a number up to a small one
small-number : (n : ℕ) (z : ℤ) → IsUpTo n z → n < 2 ^ 53 → IsTrue (is_number z)
small-number n (pos k) h s = rw (le-ltb (2 ^ 53 - 1) k (omega arith)) refl
small-number n (negsuc k) h s = subst (λ i. IsTrue (is_number (negsuc i))) (sym h) refl

-- a message has the parts of its kind
parts-of : (k : MsgKind) (sender : Option Characters) (body : Body) → cond (is_op_kind k) (has_body body) (not (has_body body)) ≡ true → is_some sender ≡ true
    → HasItsParts k sender body
parts-of kind.Op sender body h s = (s, h)
parts-of kind.Join sender body h s = hidden (has_body body) h
parts-of kind.Leave sender body h s = hidden (has_body body) h
parts-of kind.Noop sender body h s = hidden (has_body body) h
parts-of (kind.Other word) sender body h s = hidden (has_body body) h

entry-formed : (k : ℕ) (e : Entry) → k < 2 ^ 53 → IsSequencedWithin k e → AreUpTo e.msg.seq e → IsWellFormedBody e.msg.body → IsWellFormedMessage e.msg
entry-formed k e small h told body =
    let seq = h.seq in
    let min = h.min in
    let low : e.msg.seq < 2 ^ 53 = omega arith in
    record {
      seq = lt-ltb e.msg.seq (2 ^ 53) low;
      min = lt-ltb e.msg.min (2 ^ 53) (omega arith);
      client_seq = small-number e.msg.seq e.msg.client_seq told.0 low;
      ref_seq = small-number e.msg.seq e.msg.ref_seq told.1 low;
      kind = h.kind;
      parts = parts-of e.msg.kind e.msg.client_id e.msg.body h.body h.sender;
      body = body;
    }

entries-formed : (k : ℕ) (es : List Entry) → k < 2 ^ 53 → Each (IsSequencedWithin k) es → Each (λ e. AreUpTo e.msg.seq e) es
    → Each (λ e. IsWellFormedBody e.msg.body) es → Each (λ e. IsWellFormedMessage e.msg) es
entries-formed k [] small h told body = tt
entries-formed k (e ∷ es) small h told body = (entry-formed k e small h.0 told.0 body.0, entries-formed k es small h.1 told.1 body.1)

pub entries-are-well_formed : EntriesAreWellFormed
entries-are-well_formed events may =
    let w = reached events in
    let r : IsReachedWorld (Unit {0}) 0 (reached events) = reaches (Unit {0}) events new_world (first-reached (Unit {0})) (λ f. may) in
    let load = r.bound tt in
    let number = number-within-load events in
    entries-formed w.sequencer.number w.log (omega (arith, load, number)) (leads-within w.log 0 0 w.sequencer.number w.sequencer.minimum r.base.order) r.base.told (r.bodies tt)
