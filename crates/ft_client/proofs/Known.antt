-- What is known of each document that a tree holds, since it holds that of one client which steps made, or which keeps such a one.
use Rattle.std.proofs.Common.{◌≡◌, ◌≤◌, ◌<◌, ◌^◌, ℕ, Bool, true, false, List, [], ◌∷◌, None, append-nil, arith, refl, sym, ◌∙◌, ap, subst, map}
use Rattle.std.specs.List.{list_all}
use Rattle.ft_base.specs.Scan.{len, one_more_if}
use Rattle.ft_props.specs.Element.{ListElement, has_id, id, nameless}
use Rattle.ft_op.specs.Document.{Document}
use Rattle.ft_op.specs.Stages.{Stage}
use Rattle.ft_msg.specs.Client.{NaiveClient, PendingEdit, client_over, floor, stages_of}
use Rattle.ft_msg.specs.Indexed.{IndexedClient, IndexedDocument, IndexedStage, indexed, indexed_stage}
use Rattle.ft_msg.specs.declared.views.Link.TheVariants.{Offline}
use Rattle.ft_laws_agreement.specs.Sequencing.{IsReady, annotates_text, inserts_in, no_kind, removes_in}
use Rattle.ft_op.specs.declared.operations.Target.TheVariants.{Rows, Cols}
use Rattle.ft_laws_agreement.specs.Reconnecting.{has_marks_of, inserts_text, is_stage_of, removes_text}
use Rattle.ft_laws_agreement.specs.Trimming.{are_distinct_elements}
use Rattle.ft_laws_agreement.proofs.SideBySideStages.{none-counted}
use Rattle.ft_laws_agreement.proofs.SlidEnds.{Once, once-tail, same_id-refl}
use Rattle.ft_laws_compaction.specs.Free.{AreFree, HasFreeTombstones}
use Rattle.ft_laws_compaction.specs.Keeping.{IsMadeOrKept}
use Rattle.ft_laws_compaction.specs.StageRuns.{HasStageRuns, StandInRuns}
use Rattle.ft_laws_compaction.proofs.AllSteps.{reached-sound}
use Rattle.ft_laws_compaction.proofs.KeptReady.{kept-ready, kept-stage_runs}
use Rattle.ft_laws_compaction.proofs.SoundlyKept.{soundly-kept}
use Rattle.ft_laws_names.specs.GridFacts.{AreCounted}
use Rattle.ft_laws_names.specs.WellNamed.{AreWellNamed, IsWellNamed}
use Rattle.ft_laws_names.proofs.ClientsAlike.{ClientsAlike}
use Rattle.ft_laws_names.proofs.Beside.{ends, next}
use Rattle.ft_laws_names.proofs.DocumentsAlike.{DocsAlike}
use Rattle.ft_laws_names.proofs.Indexing.{indexed-alike}
use Rattle.ft_laws_names.proofs.KeptGrids.{kept-counted}
use Rattle.ft_laws_names.proofs.KeptNames.{made-or-kept-named}
use Rattle.ft_laws_names.proofs.LocalAlike.{StagesBeside}
use Rattle.ft_laws_names.proofs.RejoinAlike.{EditsBeside}
use Rattle.ft_replica.specs.Own.{HeldDocument, NamesFit, held_by}
use Rattle.ft_string.specs.Calls.{is_held}
use Rattle.ft_string.specs.Holds.{IsTextSound}
use Rattle.ft_string.proofs.SoundTexts.{client-sound as text-sound}
use Rattle.ft_matrix.specs.ClientGrids.{MeetsConditions}
use Rattle.ft_matrix.specs.Conditions.{AreFreeUnits, IsAboveAll}
use Rattle.ft_matrix.proofs.ClientGrids.{client-grid}
use Rattle.ft_client.specs.declared.own.TreeOwn.{TreeOwn}
use Rattle.ft_client.specs.Holds.{HoldsTree, tree-shows}
use Rattle.ft_client.proofs.AlikeDocuments.{changes-carried, counted-carried, ends-carried, free-carried, held-alike, later-carried, marks-carried, typed-carried}
use Rattle.ft_client.proofs.SideBySide.{runs-stand}

-- ---- a client with that document and these stages

abbrev pub client_of : ℕ → Document → List Stage → NaiveClient
client_of last doc stages = record (client_over doc) { last_stage = last; pending = record { stages = stages; ref_seq = 0; sent = None } ∷ [] }

abbrev index_of : IndexedDocument → ℕ → List IndexedStage → IndexedClient
index_of doc last stages = record {
  doc = doc;
  link = Offline;
  conns = [];
  last_stage = last;
  next_client_seq = 1;
  queue = [];
  pending = record { stages = stages; ref_seq = 0; sent = None } ∷ [];
}

pub named-of : (last : ℕ) (doc : Document) (stages : List Stage) → AreWellNamed last doc stages → IsWellNamed (client_of last doc stages)
named-of last doc stages h = subst (λ ts. AreWellNamed last doc ts) (sym (append-nil stages)) h

pub one-edit : (p q : Document) (e f : PendingEdit) → EditsBeside p q (e ∷ []) (f ∷ []) → StagesBeside p q e.stages f.stages
one-edit p q e f (next r ends) = r.stages

none-left : (b : Bool) (n : ℕ) → b ≡ true → one_more_if b n ≤ 1 → n ≡ 0
none-left true n h l = omega arith
none-left false n h l = (cc)

once-distinct : (xs : List ListElement) → Once xs → are_distinct_elements xs ≡ true
once-distinct [] h = refl
once-distinct (e ∷ xs) h =
    let alone : len (has_id (id e)) xs ≡ 0 = none-left (has_id (id e) e) (len (has_id (id e)) xs) (same_id-refl (id e)) (h (id e)) in
    rw (none-counted (has_id (id e)) xs alone, once-distinct xs (once-tail e xs h)) refl

-- ---- of the one client

module _ (start : Document) (p : NaiveClient) (made : IsMadeOrKept start p) where
  pub is-named : IsWellNamed p
  is-named = made-or-kept-named start p made

  pub is-ready : IsReady p
  is-ready = kept-ready made.reached.steps made.whole p (reached-sound made.whole made.reached) made.keeps

  runs : HasStageRuns p.doc
  runs = kept-stage_runs made.reached.steps made.whole p (reached-sound made.whole made.reached) made.keeps

  pub tombstones : HasFreeTombstones p
  tombstones = (soundly-kept made.reached.steps made.whole p (reached-sound made.whole made.reached) made.keeps).tombstones

  pub client-sound : p.last_stage < 2 ^ 64 → IsTextSound p.last_stage p.doc (stages_of p)
  client-sound fits = text-sound start p made fits

  module _ (s : TreeOwn) (low : ℕ) (h : HoldsTree s (held_by low p)) where
    -- what the table's calls ask
    pub table : MeetsConditions p s.table
    table = client-grid start p s.table made h.table

    pub above-all : (k : ℕ) → p.last_stage < k → IsAboveAll k s.table
    above-all = table.above

    pub free-units : AreFreeUnits (floor p) s.table
    free-units = table.free

    -- ---- of each other document that it holds
    module _ (held : HeldDocument) (named : NamesFit held) (g : HoldsTree s held) where
      pub same-last : p.last_stage ≡ held.last
      same-last = sym h.numbers.last ∙ g.numbers.last

      alike : ClientsAlike (client_of p.last_stage p.doc (stages_of p)) (client_of held.last held.doc held.stages)
      alike =
          let one = tree-shows s (held_by low p) h in
          let other = tree-shows s held g in
          indexed-alike (client_of p.last_stage p.doc (stages_of p)) (client_of held.last held.doc held.stages) (named-of p.last_stage p.doc (stages_of p) is-named)
          (named-of held.last held.doc held.stages named)
          (ap (λ d. index_of d p.last_stage (map (indexed_stage p.doc) (stages_of p))) (sym one.content ∙ other.content)
          ∙ ap (λ n. index_of (indexed held.doc) n (map (indexed_stage p.doc) (stages_of p))) same-last
          ∙ ap (index_of (indexed held.doc) held.last) (sym one.pending ∙ other.pending))

      docs : DocsAlike p.last_stage p.doc held.doc
      docs = alike.doc

      stages : StagesBeside p.doc held.doc (stages_of p) held.stages
      stages = one-edit p.doc held.doc _ _ alike.pending

      texts : map nameless p.doc.text.items ≡ map nameless held.doc.text.items
      texts = sym h.text.elements ∙ g.text.elements

      pub held-sound : IsTextSound held.last held.doc held.stages
      held-sound =
          let one = client-sound h.numbers.fits in
          record {
            list = named.text;
            intervals = named.intervals;
            names = named.stages;
            own = named.own.text;
            rise = named.rise;
            fits = g.numbers.fits;
            place = record {
              marks = marks-carried p.last_stage p.doc held.doc docs stages inserts_text removes_text docs.parts.text.twins one.place.marks;
              side_by_side = λ k e. runs-stand held.doc.text.items (subst StandInRuns texts runs.text) k;
              distinct = once-distinct held.doc.text.items named.text.once;
            };
            changes = changes-carried p.last_stage p.doc held.doc docs stages annotates_text docs.parts.text.twins one.changes;
            typed = typed-carried p.last_stage p.doc held.doc docs stages one.typed;
            ends = ends-carried p.last_stage p.doc held.doc docs stages docs.intervals one.ends;
            later = later-carried p.last_stage p.doc held.doc docs docs.parts.text.twins one.later;
          }

      -- what is pending on rows and columns is of their stages
      pub rows-marks : list_all (has_marks_of (inserts_in Rows) (removes_in Rows) held.stages) held.doc.rows.items ≡ true
      rows-marks = marks-carried p.last_stage p.doc held.doc docs stages (inserts_in Rows) (removes_in Rows) docs.parts.rows.twins is-ready.rows.place.marks

      pub rows-changes : list_all (λ e. list_all (λ q. is_stage_of no_kind held.stages q.0) e.pending) held.doc.rows.items ≡ true
      rows-changes = changes-carried p.last_stage p.doc held.doc docs stages no_kind docs.parts.rows.twins is-ready.rows.changes

      pub cols-marks : list_all (has_marks_of (inserts_in Cols) (removes_in Cols) held.stages) held.doc.cols.items ≡ true
      cols-marks = marks-carried p.last_stage p.doc held.doc docs stages (inserts_in Cols) (removes_in Cols) docs.parts.cols.twins is-ready.cols.place.marks

      pub cols-changes : list_all (λ e. list_all (λ q. is_stage_of no_kind held.stages q.0) e.pending) held.doc.cols.items ≡ true
      cols-changes = changes-carried p.last_stage p.doc held.doc docs stages no_kind docs.parts.cols.twins is-ready.cols.changes

      pub held-counted : AreCounted held.doc held.stages
      held-counted = counted-carried p.last_stage p.doc held.doc docs stages (kept-counted start p made)

      pub held-free : AreFree (floor p) (is_held held.doc held.stages) held.doc.text.items
      held-free = free-carried (floor p) (is_held p.doc (stages_of p)) (is_held held.doc held.stages)
          (held-alike p.doc held.doc docs.parts.text.twins stages docs.intervals) tombstones.text
