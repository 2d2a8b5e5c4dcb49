-- The laws of naive worlds, of worlds that stand for them.
use Rattle.std.proofs.Common.{◌≡◌, ℕ, take, find, Some, sym, ◌∙◌, ap, subst}
use Rattle.ft_props.specs.Properties.{Characters}
use Rattle.ft_laws_agreement.specs.Sequencing.{Each}
use Rattle.ft_laws_agreement.proofs.Corollaries.{own-join-comes_back}
use Rattle.ft_laws_agreement.proofs.SummaryStarts.{reached-run}
use Rattle.ft_op.specs.Document.{Document}
use Rattle.ft_msg.specs.Agreed.{agreed}
use Rattle.ft_msg.specs.Applied.{applied}
use Rattle.ft_msg.specs.Content.{content}
use Rattle.ft_msg.specs.Reached.{IsReached}
use Rattle.ft_seqr.specs.World.{NamedClient, NaiveWorld, is_client}
use Rattle.ft_laws_summaries.proofs.Lists.{each-found}
use Rattle.ft_laws_sessions.specs.MadeWorlds.{IsMade}
use Rattle.ft_laws_sessions.specs.Worlds.{HasCountsOf, reached}
use Rattle.ft_laws_sessions.proofs.MadeWorlds.{made-reached}
use Rattle.ft_laws_sessions.proofs.WorldLaws.{clients-attribute-the_same, clients-show-the_same, counts-are-agreed, views-are-applied}
use Rattle.ft_session.specs.WorldLaws.{JoinsKeepViews, SameNumbersCountTheSame, SameNumbersShowTheSame, ShowsApplied}
use Rattle.ft_session.specs.Worlds.{WorldState}

-- a client of the world is one of the world that events made
found-made : (n : NaiveWorld) (m : IsMade n) (name : Characters) (c : NamedClient) → find (is_client name) n.clients ≡ Some c → find (is_client name) (reached m.events).clients ≡ Some c
found-made n m name c h = subst (λ (v : NaiveWorld). find (is_client name) v.clients ≡ Some c) (sym m.made) h

pub shows-applied : (w : WorldState) → ShowsApplied w
shows-applied w n name c h conn =
    let m = h.stands.made in
    (each-found (λ (d : NamedClient). content d.client ≡ applied d.client n.log conn) (is_client name) n.clients c h.found
    (subst (λ (v : NaiveWorld). Each (λ (d : NamedClient). content d.client ≡ applied d.client v.log conn) v.clients) m.made (views-are-applied m.events conn))).0

counts-at : (n : NaiveWorld) → IsMade n → (name : Characters) (c : NamedClient) → find (is_client name) n.clients ≡ Some c → HasCountsOf (agreed (take c.client.doc.number n.log)) c.client.doc
counts-at n m name c h =
    (each-found (λ (d : NamedClient). HasCountsOf (agreed (take d.client.doc.number n.log)) d.client.doc) (is_client name) n.clients c h
    (subst (λ (v : NaiveWorld). Each (λ (d : NamedClient). HasCountsOf (agreed (take d.client.doc.number v.log)) d.client.doc) v.clients) m.made (counts-are-agreed m.events))).0

pub same-numbers-count : (w : WorldState) → SameNumbersCountTheSame w
same-numbers-count w n name other c d h g e =
    let a = counts-at n h.stands.made name c h.found in
    let b = counts-at n h.stands.made other d g.found in
    let same = ap (λ (k : ℕ). agreed (take k n.log)) e in
    record {
      skipped = a.skipped ∙ (ap (λ (x : Document). x.skipped) same ∙ sym b.skipped);
      other = a.other ∙ (ap (λ (x : Document). x.other) same ∙ sym b.other);
    }

pub same-numbers-show : (w : WorldState) → SameNumbersShowTheSame w
same-numbers-show w n name other c d h g e idle none =
    let m = h.stands.made in
    let f = found-made n m name c h.found in
    let k = found-made n m other d g.found in
    record {
      shows = clients-show-the_same m.events name other c d f k e idle none;
      attributes = clients-attribute-the_same m.events name other c d f k e idle none;
    }

pub joins-keep-views : (w : WorldState) → JoinsKeepViews w
joins-keep-views w n name c h entry after own taken =
    let r = (each-found (λ (d : NamedClient). IsReached d.client) (is_client name) n.clients c h.found (made-reached n h.stands.made)).0 in
    (own-join-comes_back r.start r.steps c.client after entry (reached-run c.client r) own taken).content
