-- A client over its own document: which client of the definitions it stands for, and what changes its link or its queue alone.
use Rattle.std.proofs.Common.{◌≡◌, ℕ, ◌+◌, List, [], ◌∷◌, ◌++◌, Ok, refl, sym, ◌∙◌, ap, subst}
use Rattle.ft_msg.specs.declared.messages.Body.TheVariants.{Nothing}
use Rattle.ft_msg.specs.declared.views.Link.{Link}
use Rattle.ft_msg.specs.declared.views.Link.TheVariants.{Offline, Joining, Online}
use Rattle.ft_msg.specs.Client.{NaiveClient, connect, drop_link, noop}
use Rattle.ft_op.specs.Document.{Document}
use Rattle.ft_laws_compaction.specs.Keeping.{IsMadeOrKept}
use Rattle.ft_laws_names.specs.WellNamed.{IsWellNamed}
use Rattle.ft_laws_names.proofs.KeptNames.{kept-named}
use Rattle.ft_laws_names.proofs.NamedSteps.{reached-named}
use Rattle.ft_replica.specs.Linked.{IsLinkedAs, LinkedState, PendingPart, RunsForOne, Takes, linked_as}
use Rattle.ft_replica.specs.Unsent.{Unsent}
use Rattle.ft_replica.specs.Own.{HeldDocument, HoldsOne, ShownDocument, Shows, held_by}

-- the parts of a client over its own document
abbrev pub state : {D : Type 0} → D → Link → List ℕ → ℕ → Unsent → List PendingPart → LinkedState D
state d link conns last box pending = record { document = d; link = link; conns = conns; last_stage = last; box = box; pending = pending }

-- each client that steps made, or that keeps one which they made, is well named
pub made-named : (start : Document) (p : NaiveClient) → IsMadeOrKept start p → IsWellNamed p
made-named start p m = kept-named m.whole p (reached-named m.whole m.reached) m.keeps

module _ {D : Type 0} (holds : D → HeldDocument → Type 0) where
  -- its document holds that of the client for which it runs
  pub holds-one : (s : LinkedState D) (Fits Q : NaiveClient → Type 0) → RunsForOne holds s Fits → ((p : NaiveClient) → Fits p → s ≡ linked_as p s.document → Q p)
      → HoldsOne holds s.document Q
  holds-one s Fits Q r f = record {
    start = r.start;
    client = r.client;
    made = r.made;
    low = r.low;
    above = r.above;
    document = r.linked.document;
    fits = f r.client r.fits r.linked.rest;
  }

  -- another client for which it stands with these parts
  pub links : (s : LinkedState D) (p : NaiveClient) (low : ℕ) (d : D) → s ≡ linked_as p d → holds d (held_by low p) → IsLinkedAs holds low s p
  links s p low d e h =
      let same : s.document ≡ d = ap (λ (t : LinkedState D). t.document) e in
      record {
        document = subst (λ x. holds x (held_by low p)) (sym same) h;
        rest = e ∙ ap (linked_as p) (sym same);
      }

  -- a step that leaves the document as it is
  pub relinked : (s new : LinkedState D) (p y : NaiveClient) (low : ℕ) → IsLinkedAs holds low s p → held_by low y ≡ held_by low p
      → new ≡ linked_as y s.document → IsLinkedAs holds low new y
  relinked s new p y low l same e = links new y low s.document e (subst (λ h. holds s.document h) (sym same) l.document)

  pub connect-takes : (conn : ℕ) (s new : LinkedState D) → s.link ≡ Offline
      → new ≡ record s { link = Joining conn; conns = s.conns ++ (conn ∷ []); box = record s.box { next = 1 } } → Takes holds (λ p. connect p conn) s new
  connect-takes conn s new offline e low p named l =
      let here : p.link ≡ Offline = sym (ap (λ (t : LinkedState D). t.link) l.rest) ∙ offline in
      let y : NaiveClient = record p { link = Joining conn; conns = p.conns ++ (conn ∷ []); next_client_seq = 1 } in
      let change : LinkedState D → LinkedState D = λ t. record t { link = Joining conn; conns = t.conns ++ (conn ∷ []); box = record t.box { next = 1 } } in
      (y, ap (λ k. connect (record p { link = k }) conn) here, relinked s new p y low l refl (e ∙ ap change l.rest))

  dropped : (p : NaiveClient) (k : Link) → p.link ≡ k → ¬ (k ≡ Offline) → drop_link p ≡ Ok (record p { link = Offline; queue = [] })
  dropped p Offline e h = absurd (h refl)
  dropped p (Joining conn) e h = ap (λ k. drop_link (record p { link = k })) e
  dropped p (Online conn) e h = ap (λ k. drop_link (record p { link = k })) e

  pub drop-takes : (s new : LinkedState D) → ¬ (s.link ≡ Offline) → new ≡ record s { link = Offline; box = record s.box { drafts = [] } } → Takes holds drop_link s new
  drop-takes s new connected e low p named l =
      let y : NaiveClient = record p { link = Offline; queue = [] } in
      let change : LinkedState D → LinkedState D = λ t. record t { link = Offline; box = record t.box { drafts = [] } } in
      (y, dropped p p.link refl (λ k. connected (ap (λ (t : LinkedState D). t.link) l.rest ∙ k)), relinked s new p y low l refl (e ∙ ap change l.rest))

  -- it queues a message that tells its number
  pub noop-takes : (conn number : ℕ) (shown : D → ShownDocument) (s new : LinkedState D) → ((d : D) (held : HeldDocument) → holds d held → Shows (shown d) held)
      → s.link ≡ Online conn → number ≡ (shown s.document).content.number
      → new ≡ record s { box = record { next = s.box.next + 1; drafts = s.box.drafts ++ (record { client_seq = s.box.next; ref_seq = number; body = Nothing } ∷ []) } }
      → Takes holds noop s new
  noop-takes conn number shown s new shows online told e low p named l =
      let here : p.link ≡ Online conn = sym (ap (λ (t : LinkedState D). t.link) l.rest) ∙ online in
      let is : number ≡ p.doc.number = told ∙ ap (λ d. d.number) (shows s.document (held_by low p) l.document).content in
      let y : NaiveClient = record p {
        next_client_seq = p.next_client_seq + 1;
        queue = p.queue ++ (record { client_seq = p.next_client_seq; ref_seq = p.doc.number; body = Nothing } ∷ []);
      } in
      let change : ℕ → LinkedState D → LinkedState D = λ n t. record t {
        box = record { next = t.box.next + 1; drafts = t.box.drafts ++ (record { client_seq = t.box.next; ref_seq = n; body = Nothing } ∷ []) };
      } in (
        y,
        ap (λ k. noop (record p { link = k })) here ∙ ap (λ k. Ok (record y { link = k })) (sym here),
        relinked s new p y low l refl (e ∙ ap (change number) l.rest ∙ ap (λ n. change n (linked_as p s.document)) is),
      )
