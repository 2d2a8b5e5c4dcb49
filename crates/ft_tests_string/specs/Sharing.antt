-- What is known of a shared text while a script is played on it: it holds the document of some client, which its steps made.
use Rattle.std.specs.Prelude.{◌≡◌, ◌≤◌, ◌<◌, ◌^◌, ◌+◌, ◌++◌, ℕ, IsTrue, nat_eq, true, List, [], ◌∷◌, Option, Some, None, flat_map}
use Rattle.std.specs.List.{list_any}
use Rattle.ft_laws_compaction.specs.Keeping.{IsMadeOrKept}
use Rattle.ft_msg.specs.Client.{NaiveClient, PendingEdit, SentAs}
use Rattle.ft_msg.specs.declared.messages.Draft.{Draft}
use Rattle.ft_msg.specs.declared.views.Link.{Link}
use Rattle.ft_msg.specs.declared.views.Link.TheVariants.{Online, Joining}
use Rattle.ft_msg.specs.Reconnection.{resubmitted_edits}
use Rattle.ft_op.specs.Document.{Document, empty}
use Rattle.ft_op.specs.Stages.{Stage}
use Rattle.ft_string.specs.Calls.{AreBelow, AreWithin, HoldsGiven, is_one_edit}
use Rattle.ft_string.specs.Holds.{HoldsText}
use Rattle.ft_string.specs.State.{TextState}
use Rattle.ft_tests_string.specs.declared.sharing.Span.{Span}

-- the stages of an edit are those of its span, which begins at `low` or later, and it was sent by connection 1
pub record IsSpan (low : ℕ) (q : Span) (e : PendingEdit) : Type 0 where
  pub above : low ≤ q.first
  pub within : AreWithin q.first (q.first + q.count) e.stages
  pub one : is_one_edit q.first e.stages ≡ true
  pub sent : (x : SentAs) × (e.sent ≡ Some x) × (x.conn ≡ 1)

-- the spans are those of the edits, one after another from `low` up to before `end`
abbrev pub AreSpans : ℕ → ℕ → List Span → List PendingEdit → Type 0
AreSpans low end [] [] = low ≤ end
AreSpans low end (q ∷ qs) (e ∷ es) = IsSpan low q e × AreSpans (q.first + q.count) end qs es
AreSpans low end _ _ = ⊥

-- the span of an edit that is sent again, none where nothing of it is
abbrev pub span_of : {A : Type 0} → Span → Option A → List Span
span_of q None = []
span_of q (Some op) = q ∷ []

-- the stages of edits in order
abbrev pub stages_in : List PendingEdit → List Stage
stages_in es = flat_map (λ e. e.stages) es

-- a client with that link
abbrev pub linked : Link → Document → List ℕ → ℕ → ℕ → List Draft → List PendingEdit → NaiveClient
linked link doc conns last seq queue pending = record {
  doc = doc;
  link = link;
  conns = conns;
  last_stage = last;
  next_client_seq = seq;
  queue = queue;
  pending = pending;
}

-- the text holds the document of a client that is online under connection 1 and took the messages up to n; its next stage
-- is k, and its pending edits have these spans
pub record Plays (s : TextState) (n k : ℕ) (qs : List Span) : Type 0 where
  pub doc : Document
  pub conns : List ℕ
  pub last : ℕ
  pub seq : ℕ
  pub queue : List Draft
  pub pending : List PendingEdit
  pub made : IsMadeOrKept empty (linked (Online 1) doc conns last seq queue pending)
  pub holds : HoldsText s doc (stages_in pending)
  pub usable : IsTrue s.usable
  pub given : s.given ≡ 0
  pub floor : s.floor ≡ 0
  pub own : (c : ℕ) → list_any (nat_eq c) conns ≡ nat_eq c 1
  pub number : doc.number ≡ n
  pub minimum : doc.minimum ≡ 0
  pub next : k ≡ last + 1
  pub fits : k < 2 ^ 64
  pub spans : AreSpans 1 k qs pending

-- in the middle of its own join: the edits in front were given
pub record Rejoins (s : TextState) (n k low : ℕ) (kept qs : List Span) : Type 0 where
  pub doc : Document
  pub conns : List ℕ
  pub last : ℕ
  pub seq : ℕ
  pub front : List PendingEdit
  pub behind : List PendingEdit
  pub made : IsMadeOrKept empty (linked (Joining 1) doc conns last seq [] (front ++ behind))
  pub holds : HoldsGiven s doc (stages_in front) (stages_in behind)
  pub usable : IsTrue s.usable
  pub floor : s.floor ≡ 0
  pub given : s.given < low
  pub before : AreBelow (s.given + 1) (stages_in front)
  pub own : (c : ℕ) → list_any (nat_eq c) conns ≡ nat_eq c 1
  pub number : doc.number + 1 ≡ n
  pub minimum : doc.minimum ≡ 0
  pub next : k ≡ last + 1
  pub fits : k < 2 ^ 64
  pub given_spans : AreSpans 1 low kept (resubmitted_edits (record doc { number = n; minimum = 0 }) 1 1 front)
  pub spans : AreSpans low k qs behind
