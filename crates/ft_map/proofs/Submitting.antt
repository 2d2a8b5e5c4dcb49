-- Messages that are submitted one after another.
use Rattle.std.proofs.Common.{◌≡◌, ℕ, zero, suc, ◌+◌, ◌-◌, ◌<◌, ◌≤◌, List, [], ◌∷◌, length, slice_get, Option, Some, None, Result, Ok, Err, codes, drop, take, refl, sym, ◌∙◌, ap, subst, arith}
use Rattle.std.proofs.lemmas.List.{drop-drop}
use Rattle.ft_seqr.specs.declared.events.HowMany.{HowMany}
use Rattle.ft_msg.specs.declared.messages.Entry.{Entry}
use Rattle.ft_seqr.specs.declared.nacks.Nack.{Nack}
use Rattle.ft_seqr.specs.declared.nacks.SubmitFault.{SubmitFault}
use Rattle.ft_seqr.specs.declared.nacks.SubmitFault.TheVariants as submitting
use Rattle.ft_seqr.specs.Sequencer.{NaiveSequencer}
use Rattle.ft_seqr.specs.SequencerCalls.{IsSubmitFault}
use Rattle.ft_seqr.specs.declared.refusals.Refusal.{Refusal}
use Rattle.ft_seqr.specs.declared.refusals.Refusal.TheVariants.{Nacked, NotConnected, NothingToTicket}
use Rattle.ft_seqr.specs.World.{conn_of, wanted_count}
use Rattle.ft_msg.specs.declared.messages.Body.TheVariants.{Elsewhere}
use Rattle.ft_map.specs.declared.log.MapDraft.{MapDraft}
use Rattle.ft_shared_map.specs.declared.ops.MapOp.{MapOp}
use Rattle.ft_map.specs.MapClient.{MapClient, draft_of}
use Rattle.ft_map.specs.MapSession.{MapService, MapTurned, NamedMapClient, logged, submit_all, submit_one, ticket_client, turned}
use Rattle.ft_map.specs.MapWorlds.{HasNoNack}

-- a draft under this name
abbrev pub draft_with : ℕ → ℕ → List ℕ → MapOp → MapDraft
draft_with n ref_seq name op = record { draft = record { client_seq = n; ref_seq = ref_seq; body = Elsewhere name }; op = op }

-- the client with these unsent messages
abbrev pub with_queue : List MapDraft → MapClient → MapClient
with_queue ds x = record x { queue = ds }

-- what becomes of the first of them, and then of the others
abbrev pub then_all : ℕ → List MapDraft → Result MapService Refusal → Result MapService Refusal
then_all conn ds (Err refusal) = Err refusal
then_all conn ds (Ok u) = submit_all u conn ds

pub submit-first : (conn : ℕ) (d : MapDraft) (ds : List MapDraft) (s : MapService) → submit_all s conn (d ∷ ds) ≡ then_all conn ds (submit_one s conn d)
submit-first conn d ds s = step (submit_one s conn d) refl
  where
    step : (r : Result MapService Refusal) → submit_one s conn d ≡ r → submit_all s conn (d ∷ ds) ≡ then_all conn ds r
    step (Err refusal) e = ap (λ (x : Result MapService Refusal). elim x as (λ _. Result MapService Refusal) [ Err why ↦ Err why | Ok t ↦ submit_all t conn ds ]) e
    step (Ok t) e = ap (λ (x : Result MapService Refusal). elim x as (λ _. Result MapService Refusal) [ Err why ↦ Err why | Ok t ↦ submit_all t conn ds ]) e

first : (n conn : ℕ) (ds : List MapDraft) (s t : MapService) → submit_all s conn (take 1 ds) ≡ Ok t → submit_all s conn (take (suc n) ds) ≡ submit_all t conn (take n (drop 1 ds))
first zero conn [] s t h = h
first (suc n) conn [] s t h = h
first n conn (d ∷ ds) s t h = submit-first conn d (take n ds) s ∙ step (submit_one s conn d) (sym (submit-first conn d [] s) ∙ h)
  where
    step : (r : Result MapService Refusal) → then_all conn [] r ≡ Ok t → then_all conn (take n ds) r ≡ submit_all t conn (take n ds)
    step (Err refusal) e = absurd cc
    step (Ok u) e = let same : u ≡ t = (cc) in ap (λ (v : MapService). submit_all v conn (take n ds)) same

pub one-more : (count k conn : ℕ) (queue : List MapDraft) (s t : MapService) → k < count → submit_all s conn (take 1 (drop k queue)) ≡ Ok t
    → submit_all s conn (take (count - k) (drop k queue)) ≡ submit_all t conn (take (count - (k + 1)) (drop (k + 1) queue))
one-more count k conn queue s t l h =
    ap (λ n. submit_all s conn (take n (drop k queue))) (let e : count - k ≡ suc (count - (k + 1)) = omega (arith, l) in e)
    ∙ first (count - (k + 1)) conn (drop k queue) s t h
    ∙ ap (λ ds. submit_all t conn (take (count - (k + 1)) ds)) (drop-drop 1 k queue)

pub nothing-more : (count k conn : ℕ) (queue : List MapDraft) (s : MapService) → count ≤ k → submit_all s conn (take (count - k) (drop k queue)) ≡ Ok s
nothing-more count k conn queue s l = ap (λ n. submit_all s conn (take n (drop k queue))) (let e : count - k ≡ 0 = omega (arith, l) in e)

-- ---- none is refused

-- nor is the first, where all aren't
first-taken : (n conn : ℕ) (ds : List MapDraft) (s : MapService) → HasNoNack (submit_all s conn (take (suc n) ds)) → HasNoNack (submit_all s conn (take 1 ds))
first-taken n conn [] s h = h
first-taken n conn (d ∷ ds) s h = λ nack e. h nack (submit-first conn d (take n ds) s ∙ step nack (submit_one s conn d) (sym (submit-first conn d [] s) ∙ e))
  where
    step : (nack : Nack) (r : Result MapService Refusal) → then_all conn [] r ≡ Err (Nacked nack) → then_all conn (take n ds) r ≡ Err (Nacked nack)
    step nack (Err why) e = e
    step nack (Ok u) e = absurd cc

pub one-taken : (conn : ℕ) (ds : List MapDraft) (d : MapDraft) (s : MapService) → slice_get ds 0 ≡ Some d → HasNoNack (submit_all s conn (take 1 ds)) → HasNoNack (submit_one s conn d)
one-taken conn [] d s f h = absurd cc
one-taken conn (x ∷ ds) d s f h =
    let same : x ≡ d = (cc) in
    λ nack e. h nack (submit-first conn x [] s ∙ ap (then_all conn []) (ap (submit_one s conn) same ∙ e))

-- nor is the next one
pub next-taken : (count k conn : ℕ) (queue now : List MapDraft) (s t : MapService) → k < count → now ≡ drop k queue → HasNoNack (submit_all s conn (take count queue))
    → submit_all s conn (take count queue) ≡ submit_all t conn (take (count - k) (drop k queue)) → HasNoNack (submit_all t conn (take 1 now))
next-taken count k conn queue now s t l is h all =
    let e : count - k ≡ suc (count - (k + 1)) = omega (arith, l) in
    subst (λ ds. HasNoNack (submit_all t conn (take 1 ds))) (sym is)
    (first-taken (count - (k + 1)) conn (drop k queue) t (λ nack r. h nack (all ∙ ap (λ n. submit_all t conn (take n (drop k queue))) e ∙ r)))

-- what becomes of a draft by what the sequencer says to it
abbrev pub one_of : MapService → MapDraft → Result (NaiveSequencer × Entry) Nack → Result MapService Refusal
one_of s d (Err nack) = Err (Nacked nack)
one_of s d (Ok p) = Ok (logged p (Some d.op) s)

pub nack-refuses : (s : MapService) (conn : ℕ) (d : MapDraft) (fault : SubmitFault) (nack : Nack) → IsSubmitFault s.sequencer conn d.draft fault → fault ≡ submitting.Nack nack
    → HasNoNack (submit_one s conn d) → ⊥
nack-refuses s conn d fault nack h is none = none nack (ap (one_of s d) (subst (λ f. IsSubmitFault s.sequencer conn d.draft f) is h))

-- a client after its drafts were submitted
abbrev pub ticketed : NamedMapClient → List MapDraft → Result MapService Refusal → MapTurned
ticketed c rest (Err why) = Err why
ticketed c rest (Ok t) = turned t c (with_queue rest c.client)

abbrev pub ticketed_by : MapService → NamedMapClient → ℕ → Option ℕ → MapTurned
ticketed_by s c conn None = Err (NothingToTicket (length c.client.queue))
ticketed_by s c conn (Some n) = ticketed c (drop n c.client.queue) (submit_all s conn (take n c.client.queue))

abbrev pub ticketing : MapService → NamedMapClient → HowMany → Option ℕ → MapTurned
ticketing s c many None = Err NotConnected
ticketing s c many (Some conn) = ticketed_by s c conn (wanted_count many (length c.client.queue))

pub all-taken : (many : HowMany) (s : MapService) (c : NamedMapClient) (conn n : ℕ) → conn_of c.client.link ≡ Some conn → wanted_count many (length c.client.queue) ≡ Some n
    → HasNoNack (ticket_client many s c) → HasNoNack (submit_all s conn (take n c.client.queue))
all-taken many s c conn n link wanted h = λ nack e. h nack (ap (ticketing s c many) link ∙ ap (ticketed_by s c conn) wanted ∙ ap (ticketed c (drop n c.client.queue)) e)

-- ---- drafts

pub made-draft : (n ref_seq : ℕ) (name : List ℕ) (op copy : MapOp) → name ≡ codes "map" → copy ≡ op → draft_with n ref_seq name copy ≡ draft_of n ref_seq op
made-draft n ref_seq name op copy h k = ap (λ x. draft_with n ref_seq x copy) h ∙ ap (λ (o : MapOp). draft_of n ref_seq o) k
