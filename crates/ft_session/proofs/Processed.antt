-- A client processes the next messages of the log.
use Rattle.std.proofs.Common.{◌≡◌, ◌≤◌, ℕ, zero, suc, ◌+◌, max, cond, nat_eq, true, false, Bool, List, [], ◌∷◌, ◌++◌, drop, fold, length, take, Option, Some, None, Result, Ok, Err, is_some, not, refl, sym, ◌∙◌, ap, subst, arith, append-nil}
use Rattle.std.proofs.lemmas.List.{length-take-le}
use Rattle.std.proofs.lemmas.Bool.Decides.{nat_tests}
use Rattle.ft_laws_agreement.proofs.NumberTests.{same_number}
use Rattle.ft_laws_agreement.specs.Sequencing.{Each}
use Rattle.ft_laws_summaries.proofs.Lists.{each-found}
use Rattle.ft_msg.specs.declared.faults.Cause.{Cause}
use Rattle.ft_msg.specs.declared.messages.Entry.{Entry}
use Rattle.ft_msg.specs.declared.messages.Message.{Message}
use Rattle.ft_msg.specs.declared.views.Numbers.{Numbers}
use Rattle.ft_msg.specs.Answers.{ReplicaState, numbers_of}
use Rattle.ft_msg.specs.Client.{NaiveClient}
use Rattle.ft_msg.specs.WellFormed.{IsWellFormedMessage}
use Rattle.ft_msg.proofs.LinkSteps.{stands-link}
use Rattle.ft_seqr.specs.declared.events.HowMany.{HowMany}
use Rattle.ft_seqr.specs.declared.refusals.Refusal.{Refusal}
use Rattle.ft_seqr.specs.declared.refusals.Refusal.TheVariants.{Foreign, NotConnected, NothingToDeliver, OutOfOrder}
use Rattle.ft_seqr.specs.Refusals.{refusal_of_cause}
use Rattle.ft_seqr.specs.SameMessage.{same_message}
use Rattle.ft_seqr.specs.World.{NaiveWorld, NamedClient, Nothing, Stepped, ahead_of, conn_of, deliver_client, greatest_origin, is_client, now, offer_message, offer_next, processed, wanted_count, with_client}
use Rattle.ft_laws_sessions.proofs.MadeWorlds.{made-formed, made-takes, made-within}
use Rattle.ft_delivery.specs.Deliveries.{CanProcess, HasProcessed, Processes, offered_entry}
use Rattle.ft_delivery.proofs.InOrder.{processed-first}
use Rattle.ft_session.specs.declared.outputs.Out.{Out}
use Rattle.ft_session.specs.declared.outputs.Out.TheVariants as out
use Rattle.ft_session.specs.Acts.{offered_client}
use Rattle.ft_session.specs.Worlds.{AnswersClient, AnswersStepped, LeavesClient, Meets, MeetsSome, MemberStands, MemberState, ServiceState}
use Rattle.ft_session.proofs.Numbers.{process-number}
use Rattle.ft_session.proofs.RefusalKinds.{cause-means}
use Rattle.ft_session.proofs.OwnEvents.{meets-reached, with_replica}
use Rattle.ft_session.proofs.Submissions.{wanted-fits}

-- ---- the log

-- a client's number after entries
pub processed-number : (entries : List Entry) (x y : NaiveClient) → processed x entries ≡ Ok y → y.doc.number ≡ x.doc.number + length entries
processed-number [] x y h = let e : x ≡ y = (cc) in let n = ap (λ (z : NaiveClient). z.doc.number) e in omega (arith, n)
processed-number (entry ∷ entries) x y h =
    let (z, e, f) = processed-first x y entry entries h in
    let one = process-number entry x z e in
    let rest = processed-number entries z y f in
    omega (arith, one, rest)

take-none : {A : Type 0} (n : ℕ) → take {A = A} n [] ≡ []
take-none zero = refl
take-none (suc n) = refl

take-more : {A : Type 0} (k n : ℕ) (xs : List A) → take (k + n) xs ≡ take k xs ++ take n (drop k xs)
take-more zero n xs = let e : 0 + n ≡ n = omega arith in ap (λ i. take i xs) e
take-more (suc k) n [] = take-none (suc k + n) ∙ sym (take-none n)
take-more (suc k) n (x ∷ xs) = let e : suc k + n ≡ suc (k + n) = omega arith in ap (λ i. take i (x ∷ xs)) e ∙ ap (λ l. x ∷ l) (take-more k n xs)

fold-more : (n : ℕ) (xs ys : List Entry) → fold (λ n (e : Entry). max n e.origin) n (xs ++ ys) ≡ fold (λ n (e : Entry). max n e.origin) (fold (λ n (e : Entry). max n e.origin) n xs) ys
fold-more n [] ys = refl
fold-more n (x ∷ xs) ys = fold-more (max n x.origin) xs ys

module _ (P : Entry → Type 0) where
  each-taken : (n : ℕ) (es : List Entry) → Each P es → Each P (take n es)
  each-taken zero es h = tt
  each-taken (suc n) [] h = tt
  each-taken (suc n) (e ∷ es) h = (h.0, each-taken n es h.1)

  each-dropped : (k : ℕ) (es : List Entry) → Each P es → Each P (drop k es)
  each-dropped zero es h = h
  each-dropped (suc k) [] h = tt
  each-dropped (suc k) (e ∷ es) h = each-dropped k es h.1

-- ---- the event

module _ (m : MemberState) (s : ServiceState) where
  -- the log beyond the replica's number
  abbrev pub rest_of : List Entry
  rest_of = drop m.replica.client.doc.number s.log

  same-rest : (w : NaiveWorld) (c : NamedClient) → Meets w c m s → rest_of ≡ ahead_of w c.client
  same-rest w c meets =
      ap (λ k. drop k s.log) (stands-link m.replica.client c.client meets.member.replica.client).number ∙ ap (λ (a : ServiceState). drop c.client.doc.number a.log) meets.service

  pub same-link : (w : NaiveWorld) (c : NamedClient) → Meets w c m s → m.replica.client.link ≡ c.client.link
  same-link w c meets = (stands-link m.replica.client c.client meets.member.replica.client).link

  -- a replica's number is within the log
  pub number-within : MeetsSome m s → m.replica.client.doc.number ≤ length s.log
  number-within some =
      let w = some.world in
      let c = some.client in
      let meets = some.meets in
      let within = (each-found (λ (b : NamedClient). b.client.doc.number ≤ length w.log) (is_client c.name) w.clients c meets.found (made-within w meets.made)).0 in
      let number = (stands-link m.replica.client c.client meets.member.replica.client).number in
      let log = ap (λ (a : ServiceState). length a.log) meets.service in
      omega (arith, within, number, log)

  module _ (conn n : ℕ) (h : conn_of m.replica.client.link ≡ Some conn) (fits : n ≤ length rest_of) where
    -- what a client has next is what it takes
    takes : (w : NaiveWorld) (c : NamedClient) → Meets w c m s → (y : NaiveClient) × Processes m.replica (take n rest_of) c.client y
    takes w c meets =
        let q = same-rest w c meets in
        let (y, e) = made-takes w meets.made c.name c conn n meets.found (ap conn_of (sym (same-link w c meets)) ∙ h) (subst (λ (es : List Entry). n ≤ length es) q fits) in
        (y, record { reached = meets-reached w c m s meets; runs = meets.member.replica; takes = ap (λ (es : List Entry). processed c.client (take n es)) q ∙ e })

    pub can-process : MeetsSome m s → CanProcess m.replica (take n rest_of)
    can-process some =
        let (y, p) = takes some.world some.client some.meets in
        record {
          before = some.client.client;
          after = y;
          processes = p;
          formed = each-taken (λ (e : Entry). IsWellFormedMessage e.msg) n rest_of (each-dropped (λ (e : Entry). IsWellFormedMessage e.msg) m.replica.client.doc.number s.log
              (subst (Each (λ (e : Entry). IsWellFormedMessage e.msg)) (sym (ap (λ (a : ServiceState). a.log) some.meets.service)) (made-formed some.world some.meets.made)));
        }

    -- a client after it
    pub member-processed : (w : NaiveWorld) (c : NamedClient) (y : NaiveClient) (new : ReplicaState) → Meets w c m s → processed c.client (take n rest_of) ≡ Ok y
        → HasProcessed m.replica new (take n rest_of) y → MemberStands w.log (with_replica m new) (record c { client = y })
    member-processed w c y new meets e p =
        let k = c.client.doc.number in
        let q = same-rest w c meets in
        let count : y.doc.number ≡ k + n = processed-number (take n rest_of) c.client y e ∙ ap (λ i. k + i) (length-take-le n rest_of fits) in
        record {
          name = meets.member.name;
          replica = p.runs;
          connects = meets.member.connects;
          origin = p.origin ∙ ap (λ i. fold (λ n (e : Entry). max n e.origin) i (take n rest_of)) meets.member.origin
              ∙ ap (λ (es : List Entry). fold (λ n (e : Entry). max n e.origin) (greatest_origin (take k w.log)) (take n es)) q
              ∙ sym (fold-more 0 (take k w.log) (take n (drop k w.log))) ∙ ap greatest_origin (sym (take-more k n w.log)) ∙ ap (λ i. greatest_origin (take i w.log)) (sym count);
        }

    -- so it changes alone
    pub leaves-processed : (w : NaiveWorld) (c : NamedClient) (y : NaiveClient) (new : ReplicaState) → Meets w c m s → processed c.client (take n rest_of) ≡ Ok y
        → HasProcessed m.replica new (take n rest_of) y → LeavesClient w c (with_replica m new) s (with_client (record c { client = y }) w)
    leaves-processed w c y new meets e p = record {
      client = record c { client = y };
      name = refl;
      member = member-processed w c y new meets e p;
      clients = refl;
      guests = refl;
      service = meets.service;
      later = [];
      log = sym (append-nil w.log);
      load = refl;
    }

    pub process-all : (w : NaiveWorld) (c : NamedClient) (new : ReplicaState) → Meets w c m s
        → ((x y : NaiveClient) → Processes m.replica (take n rest_of) x y → HasProcessed m.replica new (take n rest_of) y)
        → (y : NaiveClient) × (processed c.client (take n (ahead_of w c.client)) ≡ Ok y) × LeavesClient w c (with_replica m new) s (with_client (record c { client = y }) w)
    process-all w c new meets f =
        let (y, p) = takes w c meets in
        (y, ap (λ (es : List Entry). processed c.client (take n es)) (sym (same-rest w c meets)) ∙ p.takes, leaves-processed w c y new meets p.takes (f c.client y p))

  module _ (many : HowMany) where
    abbrev wanted : NaiveWorld → NamedClient → Option ℕ → Stepped
    wanted w c o = elim o [ None ↦ Err (NothingToDeliver (length (ahead_of w c.client))) | Some n ↦ now w c (processed c.client (take n (ahead_of w c.client))) ]

    abbrev linked : NaiveWorld → NamedClient → Option ℕ → Stepped
    linked w c o = elim o [ None ↦ Err NotConnected | Some conn ↦ wanted w c (wanted_count many (length (ahead_of w c.client))) ]

    pub deliver-offline : conn_of m.replica.client.link ≡ None → AnswersClient (λ w c. deliver_client w c many) m m s s (Err NotConnected)
    deliver-offline h = record { client = λ w c meets. (refl, refl, ap (linked w c) (ap conn_of (sym (same-link w c meets)) ∙ h)) }

    pub deliver-none : (conn : ℕ) → conn_of m.replica.client.link ≡ Some conn → wanted_count many (length rest_of) ≡ None
        → AnswersClient (λ w c. deliver_client w c many) m m s s (Err (NothingToDeliver (length rest_of)))
    deliver-none conn h none = record {
      client = λ w c meets.
          let q = same-rest w c meets in (
            refl,
            refl,
            ap (linked w c) (ap conn_of (sym (same-link w c meets)) ∙ h) ∙ ap (wanted w c) (ap (λ (es : List Entry). wanted_count many (length es)) (sym q) ∙ none)
                ∙ ap (λ (es : List Entry). Err (NothingToDeliver (length es))) (sym q),
          );
    }

    pub deliver-taken : (conn n : ℕ) → conn_of m.replica.client.link ≡ Some conn → n ≤ length rest_of → wanted_count many (length rest_of) ≡ Some n → (new : ReplicaState)
        → ((x y : NaiveClient) → Processes m.replica (take n rest_of) x y → HasProcessed m.replica new (take n rest_of) y)
        → AnswersClient (λ w c. deliver_client w c many) m (with_replica m new) s s (Ok out.Nothing)
    deliver-taken conn n h fits some new f = record {
      client = λ w c meets.
          let (y, e, l) = process-all conn n h fits w c new meets f in (
            (with_client (record c { client = y }) w, Nothing),
            ap (linked w c) (ap conn_of (sym (same-link w c meets)) ∙ h)
                ∙ ap (wanted w c) (ap (λ (es : List Entry). wanted_count many (length es)) (sym (same-rest w c meets)) ∙ some) ∙ ap (now w c) e,
            l,
            tt,
          );
    }

  -- ---- offers

  abbrev offered_by : NaiveWorld → NamedClient → Message → Option Entry → Stepped
  offered_by w c m o = elim o [ None ↦ Err (Foreign m.seq) | Some e ↦ now w c (processed c.client (e ∷ [])) ]

  offer-by : (w : NaiveWorld) (c : NamedClient) (msg : Message) (es : List Entry) → offer_next w c msg es ≡ offered_by w c msg (offered_entry msg es)
  offer-by w c msg [] = refl
  offer-by w c msg (e ∷ es) = by (same_message msg e.msg)
    where
      by : (b : Bool) → cond b (now w c (processed c.client (e ∷ []))) (Err (Foreign msg.seq)) ≡ offered_by w c msg (cond b (Some e) None)
      by true = refl
      by false = refl

  -- the message that is offered is the next one
  pub offered-first : (msg : Message) (es : List Entry) (e : Entry) → offered_entry msg es ≡ Some e → (take 1 es ≡ e ∷ []) × (1 ≤ length es)
  offered-first msg [] e h = (cc)
  offered-first msg (x ∷ es) e h = by (same_message msg x.msg) h
    where
      by : (b : Bool) → cond b (Some x) None ≡ Some e → (x ∷ [] ≡ e ∷ []) × (1 ≤ length (x ∷ es))
      by true k = let q : x ≡ e = (cc) in (ap (λ a. a ∷ []) q, omega arith)
      by false k = (cc)

  module _ (read : Result Message Cause) where
    abbrev offer_linked : NaiveWorld → NamedClient → Option ℕ → Stepped
    offer_linked w c o = elim o [
      | None ↦ Err NotConnected
      | Some conn ↦ elim read [ Err fault ↦ Err (refusal_of_cause fault) | Ok msg ↦ offer_message w c msg ]
    ]

    pub offer-offline : conn_of m.replica.client.link ≡ None → AnswersClient (λ w c. offered_client w c read) m m s s (Err NotConnected)
    offer-offline h = record { client = λ w c meets. (refl, refl, ap (offer_linked w c) (ap conn_of (sym (same-link w c meets)) ∙ h)) }

    module _ (conn : ℕ) (h : conn_of m.replica.client.link ≡ Some conn) where
      abbrev read_by : NaiveWorld → NamedClient → Result Message Cause → Stepped
      read_by w c r = elim r [ Err fault ↦ Err (refusal_of_cause fault) | Ok msg ↦ offer_message w c msg ]

      offer-online : (w : NaiveWorld) (c : NamedClient) → Meets w c m s → offered_client w c read ≡ read_by w c read
      offer-online w c meets = ap (offer_linked w c) (ap conn_of (sym (same-link w c meets)) ∙ h)

      -- the text isn't a message
      pub offer-unread : (cause : Cause) → read ≡ Err cause → AnswersClient (λ w c. offered_client w c read) m m s s (Err (refusal_of_cause cause))
      offer-unread cause e = record { client = λ w c meets. cause-means cause (refl, refl, offer-online w c meets ∙ ap (read_by w c) e) }

      -- what becomes of the message becomes of the offer
      pub offer-read : (msg : Message) → read ≡ Ok msg → (new : MemberState) (result : Result Out Refusal)
          → AnswersClient (λ w c. offer_message w c msg) m new s s result → AnswersClient (λ w c. offered_client w c read) m new s s result
      offer-read msg reads new result a = record {
        client = λ w c meets.
            subst (λ stepped. AnswersStepped w c m new s s stepped result) (sym (offer-online w c meets ∙ ap (read_by w c) reads)) (a.client w c meets);
      }

  module _ (conn : ℕ) (h : conn_of m.replica.client.link ≡ Some conn) (msg : Message) (expected : ℕ) (next : expected ≡ m.replica.client.doc.number + 1) where
    abbrev in_order : NaiveWorld → NamedClient → ℕ → Bool → Stepped
    in_order w c n b = cond b (offer_next w c msg (ahead_of w c.client)) (Err (OutOfOrder n msg.seq))

    same-next : (w : NaiveWorld) (c : NamedClient) → Meets w c m s → c.client.doc.number + 1 ≡ expected
    same-next w c meets = ap (λ n. n + 1) (sym (stands-link m.replica.client c.client meets.member.replica.client).number) ∙ sym next

    offer-next : (w : NaiveWorld) (c : NamedClient) → Meets w c m s → offer_message w c msg ≡ in_order w c expected (nat_eq msg.seq expected)
    offer-next w c meets = ap (λ n. in_order w c n (nat_eq msg.seq n)) (same-next w c meets)

    -- it isn't the next one
    pub offer-out_of_order : ¬ (msg.seq ≡ expected) → AnswersClient (λ w c. offer_message w c msg) m m s s (Err (OutOfOrder expected msg.seq))
    offer-out_of_order other = record {
      client = λ w c meets. (refl, refl, offer-next w c meets ∙ ap (in_order w c expected) (differs (nat_eq msg.seq expected) refl));
    }
      where
        differs : (b : Bool) → nat_eq msg.seq expected ≡ b → b ≡ false
        differs true e = absurd (other (same_number msg.seq expected e))
        differs false e = refl

    module _ (is-next : msg.seq ≡ expected) where
      offer-at : (w : NaiveWorld) (c : NamedClient) → Meets w c m s → offer_message w c msg ≡ offered_by w c msg (offered_entry msg rest_of)
      offer-at w c meets =
          offer-next w c meets
          ∙ (ap (in_order w c expected) (let t : nat_eq msg.seq expected ≡ true = grind (arith, nat_tests, is-next) in t)
          ∙ (offer-by w c msg (ahead_of w c.client) ∙ ap (λ (es : List Entry). offered_by w c msg (offered_entry msg es)) (sym (same-rest w c meets))))

      -- the log has another one, or none
      pub offer-foreign : offered_entry msg rest_of ≡ None → AnswersClient (λ w c. offer_message w c msg) m m s s (Err (Foreign msg.seq))
      offer-foreign none = record { client = λ w c meets. (refl, refl, offer-at w c meets ∙ ap (offered_by w c msg) none) }

      module _ (entry : Entry) (some : offered_entry msg rest_of ≡ Some entry) where
        one : take 1 rest_of ≡ entry ∷ []
        one = (offered-first msg rest_of entry some).0

        fits : 1 ≤ length rest_of
        fits = (offered-first msg rest_of entry some).1

        pub can-process_offer : MeetsSome m s → CanProcess m.replica (entry ∷ [])
        can-process_offer met = subst (CanProcess m.replica) one (can-process conn 1 h fits met)

        pub offer-taken : (new : ReplicaState) → ((x y : NaiveClient) → Processes m.replica (entry ∷ []) x y → HasProcessed m.replica new (entry ∷ []) y)
            → AnswersClient (λ w c. offer_message w c msg) m (with_replica m new) s s (Ok out.Nothing)
        offer-taken new f = record {
          client = λ w c meets.
              let g = subst (λ (es : List Entry). (x y : NaiveClient) → Processes m.replica es x y → HasProcessed m.replica new es y) (sym one) f in
              let (y, e, l) = process-all conn 1 h fits w c new meets g in
              let k : processed c.client (entry ∷ []) ≡ Ok y = ap (processed c.client) (sym (ap (take 1) (sym (same-rest w c meets)) ∙ one)) ∙ e in (
                (with_client (record c { client = y }) w, Nothing),
                offer-at w c meets ∙ ap (offered_by w c msg) some ∙ ap (now w c) k,
                l,
                tt,
              );
        }

-- ---- as the code has them

pub has-conn : (o : Option ℕ) (b : Bool) → is_some o ≡ not b → b ≡ false → (conn : ℕ) × (o ≡ Some conn)
has-conn None b e f = (cc)
has-conn (Some conn) b e f = (conn, refl)

pub has-none : (o : Option ℕ) (b : Bool) → is_some o ≡ not b → b ≡ true → o ≡ None
has-none None b e f = refl
has-none (Some conn) b e f = (cc)

-- a replica's numbers, what it asks the log for, and what a client then does
module _ (m : MemberState) (s : ServiceState) (numbers : Numbers) (told : numbers ≡ numbers_of m.replica) (link : Option ℕ) (of : link ≡ conn_of numbers.link) where
  pub its-link : conn_of m.replica.client.link ≡ link
  its-link = ap (λ (n : Numbers). conn_of n.link) (sym told) ∙ sym of

  pub its-number : numbers.seq ≡ m.replica.client.doc.number
  its-number = ap (λ (n : Numbers). n.seq) told

  pub seq-within : MeetsSome m s → numbers.seq ≤ length s.log
  seq-within met = let n = number-within m s met in let k = its-number in omega (arith, n, k)

  module _ (ahead : List Entry) (is-ahead : ahead ≡ drop numbers.seq s.log) where
    pub its-rest : ahead ≡ rest_of m s
    its-rest = is-ahead ∙ ap (λ n. drop n s.log) its-number

    module _ (some : (conn : ℕ) × (link ≡ Some conn)) (many : HowMany) where
      pub told-none : wanted_count many (length ahead) ≡ None → AnswersClient (λ w c. deliver_client w c many) m m s s (Err (NothingToDeliver (length ahead)))
      told-none none =
          subst (λ (es : List Entry). wanted_count many (length es) ≡ None → AnswersClient (λ w c. deliver_client w c many) m m s s (Err (NothingToDeliver (length es)))) (sym its-rest)
          (λ k. deliver-none m s many some.0 (its-link ∙ some.1) k) none

      module _ (n : ℕ) (chosen : wanted_count many (length ahead) ≡ Some n) where
        its-fits : n ≤ length (rest_of m s)
        its-fits = let h = wanted-fits many (length ahead) n chosen in subst (λ (es : List Entry). n ≤ length es) its-rest h

        pub told-can : MeetsSome m s → CanProcess m.replica (take n ahead)
        told-can met = subst (λ (es : List Entry). CanProcess m.replica (take n es)) (sym its-rest) (can-process m s some.0 n (its-link ∙ some.1) its-fits met)

        pub told-taken : (new : ReplicaState) → ((x y : NaiveClient) → Processes m.replica (take n ahead) x y → HasProcessed m.replica new (take n ahead) y)
            → AnswersClient (λ w c. deliver_client w c many) m (with_replica m new) s s (Ok out.Nothing)
        told-taken new f = deliver-taken m s many some.0 n (its-link ∙ some.1) its-fits (ap (λ (es : List Entry). wanted_count many (length es)) (sym its-rest) ∙ chosen) new
            (subst (λ (es : List Entry). (x y : NaiveClient) → Processes m.replica (take n es) x y → HasProcessed m.replica new (take n es) y) its-rest f)
