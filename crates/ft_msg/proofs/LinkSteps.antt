-- The steps of a link and a queue, which touch no document.
use Rattle.std.proofs.Common.{◌≡◌, ℕ, ◌+◌, List, [], ◌∷◌, ◌++◌, None, Ok, refl, sym, ◌∙◌, ap, subst, arith, max, drop}
use Rattle.ft_msg.specs.declared.messages.Body.TheVariants.{Nothing}
use Rattle.ft_msg.specs.declared.messages.Draft.{Draft}
use Rattle.ft_msg.specs.declared.views.Link.{Link}
use Rattle.ft_msg.specs.declared.views.Link.TheVariants.{Offline, Joining, Online}
use Rattle.ft_msg.specs.Answers.{Answers, Follows, GoesOn, ReplicaState, StandsForSome, link_fault_kind}
use Rattle.ft_msg.specs.Client.{NaiveClient, connect, drop_link, noop}
use Rattle.ft_msg.specs.Compacted.{StandsFor}
use Rattle.ft_msg.specs.Indexed.{IndexedClient}
use Rattle.ft_msg.proofs.ReplicaSteps.{answers_step}
use Rattle.ft_msg.proofs.ReachedSteps.{reached-send}

-- what a replica shows with another link and queue, and a client with these
abbrev pub relinked : Link → List ℕ → ℕ → List Draft → IndexedClient → IndexedClient
relinked link conns next queue c = record c { link = link; conns = conns; next_client_seq = next; queue = queue }

abbrev pub relinked_client : Link → List ℕ → ℕ → List Draft → NaiveClient → NaiveClient
relinked_client link conns next queue x = record x { link = link; conns = conns; next_client_seq = next; queue = queue }

-- the replica with another link and queue
abbrev pub relinked_state : Link → List ℕ → ℕ → List Draft → ReplicaState → ReplicaState
relinked_state link conns next queue r = record r { client = relinked link conns next queue r.client }

-- a replica has the link, the connections, the number and the queue of each client for which it stands
pub record HasLinkOf (c : IndexedClient) (x : NaiveClient) : Type 0 where
  pub link : c.link ≡ x.link
  pub conns : c.conns ≡ x.conns
  pub next : c.next_client_seq ≡ x.next_client_seq
  pub queue : c.queue ≡ x.queue
  pub number : c.doc.number ≡ x.doc.number

pub stands-link : (c : IndexedClient) (x : NaiveClient) → StandsFor c x → HasLinkOf c x
stands-link c x s = record {
  link = sym (ap (λ d. d.link) s.shows) ∙ ap (λ k. k.link) s.keeps.rest;
  conns = sym (ap (λ d. d.conns) s.shows) ∙ ap (λ k. k.conns) s.keeps.rest;
  next = sym (ap (λ d. d.next_client_seq) s.shows) ∙ ap (λ k. k.next_client_seq) s.keeps.rest;
  queue = sym (ap (λ d. d.queue) s.shows) ∙ ap (λ k. k.queue) s.keeps.rest;
  number = sym (ap (λ d. d.doc.number) s.shows) ∙ ap (λ d. d.number) s.keeps.doc.rest;
}

-- it goes on standing for the client with another link and queue
pub stands-relinked : (link : Link) (conns : List ℕ) (next : ℕ) (queue : List Draft) (c : IndexedClient) (x : NaiveClient) → StandsFor c x → StandsFor (relinked link conns next queue c) (relinked_client link conns next queue x)
stands-relinked link conns next queue c x s =
    let d = s.keeps.doc in
    record {
      kept = relinked_client link conns next queue s.kept;
      shows = ap (relinked link conns next queue) s.shows;
      keeps = record {
        doc = record { text = d.text; rows = d.rows; cols = d.cols; cells = d.cells; rest = d.rest };
        rest = ap (relinked_client link conns next queue) s.keeps.rest;
      };
    }

-- so it keeps its promise on a step that changes nothing else
pub follows-relinked : (link : Link) (conns : List ℕ) (next : ℕ) (queue : List Draft) (r : ReplicaState) (x : NaiveClient) → StandsFor r.client x
    → Follows r (relinked_state link conns next queue r) x (relinked_client link conns next queue x)
follows-relinked link conns next queue r x s = record {
  client = stands-relinked link conns next queue r.client x s;
  held = record { text = refl; rows = refl; cols = refl };
}

goes-on : (r new : ReplicaState) → r.stop ≡ None → new.stop ≡ r.stop → new.origin ≡ r.origin → GoesOn 0 r new
goes-on r new h k e = record { ran = h; runs = k ∙ h; origin = e ∙ (let m : r.origin ≡ max r.origin 0 = omega arith in m) }

-- it stands for some client after its oldest draft was taken
pub some-sent : (r : ReplicaState) → StandsForSome r → StandsForSome (relinked_state r.client.link r.client.conns r.client.next_client_seq (drop 1 r.client.queue) r)
some-sent r s h =
    let (x, reached, t) = s h in
    let l = stands-link r.client x t in
    let sent : NaiveClient = record x { queue = drop 1 x.queue } in
    let same : relinked_client r.client.link r.client.conns r.client.next_client_seq (drop 1 r.client.queue) x ≡ sent =
    ap (λ link. relinked_client link r.client.conns r.client.next_client_seq (drop 1 r.client.queue) x) l.link
    ∙ ap (λ conns. relinked_client x.link conns r.client.next_client_seq (drop 1 r.client.queue) x) l.conns
    ∙ ap (λ next. relinked_client x.link x.conns next (drop 1 r.client.queue) x) l.next
    ∙ ap (λ queue. relinked_client x.link x.conns x.next_client_seq (drop 1 queue) x) l.queue in
    (sent, reached-send x reached, subst (StandsFor (relinked r.client.link r.client.conns r.client.next_client_seq (drop 1 r.client.queue) r.client)) same (stands-relinked _ _ _ _ r.client x t))

dropped : (x : NaiveClient) (link : Link) → x.link ≡ link → ¬ (x.link ≡ Offline) → drop_link x ≡ Ok (relinked_client Offline x.conns x.next_client_seq [] x)
dropped x Offline e h = absurd (h e)
dropped x (Joining conn) e h = ap (λ link. drop_link (record x { link = link })) e
dropped x (Online conn) e h = ap (λ link. drop_link (record x { link = link })) e

module _ (r : ReplicaState) (h : r.stop ≡ None) where
  -- an offline replica begins to join
  pub connect-taken : (conn : ℕ) → r.client.link ≡ Offline → Answers link_fault_kind 0 (λ x. connect x conn) r (relinked_state (Joining conn) (r.client.conns ++ (conn ∷ [])) 1 r.client.queue r) (Ok tt)
  connect-taken conn offline = answers_step link_fault_kind 0 (λ x. connect x conn) r _ (goes-on r _ h refl refl) (λ x reached s.
      let l = stands-link r.client x s in
      let e : x.link ≡ Offline = sym l.link ∙ offline in
      let taken : connect x conn ≡ Ok (relinked_client (Joining conn) (x.conns ++ (conn ∷ [])) 1 x.queue x) = ap (λ link. connect (record x { link = link }) conn) e in (
        relinked_client (Joining conn) (r.client.conns ++ (conn ∷ [])) 1 r.client.queue x,
        taken ∙ ap (λ conns. Ok (relinked_client (Joining conn) (conns ++ (conn ∷ [])) 1 x.queue x)) (sym l.conns) ∙ ap (λ queue. Ok (relinked_client (Joining conn) (r.client.conns ++ (conn ∷ [])) 1 queue x)) (sym l.queue),
        follows-relinked (Joining conn) (r.client.conns ++ (conn ∷ [])) 1 r.client.queue r x s,
      ))

  -- a connected replica goes offline
  pub drop-taken : ¬ (r.client.link ≡ Offline) → Answers link_fault_kind 0 drop_link r (relinked_state Offline r.client.conns r.client.next_client_seq [] r) (Ok tt)
  drop-taken connected = answers_step link_fault_kind 0 drop_link r _ (goes-on r _ h refl refl) (λ x reached s.
      let l = stands-link r.client x s in (
        relinked_client Offline r.client.conns r.client.next_client_seq [] x,
        dropped x x.link refl (λ e. connected (l.link ∙ e))
            ∙ ap (λ conns. Ok (relinked_client Offline conns x.next_client_seq [] x)) (sym l.conns) ∙ ap (λ next. Ok (relinked_client Offline r.client.conns next [] x)) (sym l.next),
        follows-relinked Offline r.client.conns r.client.next_client_seq [] r x s,
      ))

  -- an online replica queues a message that tells its number
  pub noop-taken : (conn : ℕ) → r.client.link ≡ Online conn
      → Answers link_fault_kind 0 noop r (relinked_state r.client.link r.client.conns (r.client.next_client_seq + 1) (r.client.queue ++ (record { client_seq = r.client.next_client_seq; ref_seq = r.client.doc.number; body = Nothing } ∷ [])) r) (Ok tt)
  noop-taken conn online = answers_step link_fault_kind 0 noop r _ (goes-on r _ h refl refl) (λ x reached s.
      let l = stands-link r.client x s in
      let e : x.link ≡ Online conn = sym l.link ∙ online in
      let draft : ℕ → ℕ → List Draft = λ next number. record { client_seq = next; ref_seq = number; body = Nothing } ∷ [] in (
        relinked_client r.client.link r.client.conns (r.client.next_client_seq + 1) (r.client.queue ++ draft r.client.next_client_seq r.client.doc.number) x,
        ap (λ link. noop (record x { link = link })) e
            ∙ ap (λ link. Ok (relinked_client link x.conns (x.next_client_seq + 1) (x.queue ++ draft x.next_client_seq x.doc.number) x)) (sym online)
            ∙ ap (λ conns. Ok (relinked_client r.client.link conns (x.next_client_seq + 1) (x.queue ++ draft x.next_client_seq x.doc.number) x)) (sym l.conns)
            ∙ ap (λ next. Ok (relinked_client r.client.link r.client.conns (next + 1) (x.queue ++ draft next x.doc.number) x)) (sym l.next)
            ∙ ap (λ queue. Ok (relinked_client r.client.link r.client.conns (r.client.next_client_seq + 1) (queue ++ draft r.client.next_client_seq x.doc.number) x)) (sym l.queue)
            ∙ ap (λ number. Ok (relinked_client r.client.link r.client.conns (r.client.next_client_seq + 1) (r.client.queue ++ draft r.client.next_client_seq number) x)) (sym l.number),
        follows-relinked _ _ _ _ r x s,
      ))
