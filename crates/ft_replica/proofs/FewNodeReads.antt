-- What one client that is shown needs of node reads to find intervals, each client needs for which the replica stands.
use Rattle.std.proofs.Common.{◌≡◌, ℕ, ◌+◌, Bool, List, [], ◌∷◌, ◌++◌, None, filter, length, map, refl, sym, ◌∙◌, ap, subst}
use Rattle.std.specs.Prelude.{flat_map}
use Rattle.std.proofs.lemmas.List.{length-map, map-append}
use Rattle.std.specs.Ordering.{is_eq}
use Rattle.ft_base.specs.Scan.{len, one_more_if}
use Rattle.ft_base.proofs.PlainList.{length-filter_seen}
use Rattle.ft_op.specs.Document.{Document}
use Rattle.ft_op.specs.Intervals.{Interval}
use Rattle.ft_props.specs.Properties.{Characters, text_cmp}
use Rattle.ft_msg.specs.Client.{NaiveClient, PendingEdit, stages_of}
use Rattle.ft_msg.specs.Compacted.{IsCompacted, StandsFor}
use Rattle.ft_msg.specs.Reached.{IsReached}
use Rattle.ft_msg.specs.Indexed.{IndexedClient, IndexedEdit, IndexedInterval, IndexedStage, indexed_client, indexed_edit, indexed_interval, indexed_stage}
use Rattle.ft_msg.specs.Overlap.{ReadsFewNodes, is_on_intervals, overlap, pending_on_intervals}
use Rattle.ft_laws_names.specs.Renaming.{ShowsOf}
use Rattle.ft_laws_names.specs.WellNamed.{IsWellNamed}
use Rattle.ft_replica.specs.Kept.{Holds, state_of}
use Rattle.ft_replica.specs.Linked.{IsLinkedAs, LinkedState}
use Rattle.ft_replica.specs.Own.{HeldDocument, ReadsFewNodesFor, ReadsFewOfLabelFor, ShownDocument, Shows}
use Rattle.ft_replica.specs.Stopping.{StoppingState}
use Rattle.ft_replica.proofs.Replicas.{kept-linked, named-kept, shows-all, shows-kept}

len-map : {A B : Type 0} (seen : B → Bool) (f : A → B) (xs : List A) → len seen (map f xs) ≡ len (λ x. seen (f x)) xs
len-map seen f [] = refl
len-map seen f (x ∷ xs) = ap (one_more_if (seen (f x))) (len-map seen f xs)

all-stages : (doc : Document) (es : List PendingEdit) → flat_map (λ e. e.stages) (map (indexed_edit doc) es) ≡ map (indexed_stage doc) (flat_map (λ e. e.stages) es)
all-stages doc [] = refl
all-stages doc (e ∷ es) =
    ap (λ ts. map (indexed_stage doc) e.stages ++ ts) (all-stages doc es) ∙ sym (map-append (indexed_stage doc) e.stages (flat_map (λ (f : PendingEdit). f.stages) es))

-- the pending operations on intervals, counted where they are shown
abbrev shown_on_intervals : IndexedClient → ℕ
shown_on_intervals c = len (λ (t : IndexedStage). is_on_intervals t.sub_operation) (flat_map (λ (e : IndexedEdit). e.stages) c.pending)

as-shown : (p : NaiveClient) → shown_on_intervals (indexed_client p) ≡ pending_on_intervals p
as-shown p =
    ap (len (λ (t : IndexedStage). is_on_intervals t.sub_operation)) (all-stages p.doc p.pending)
    ∙ len-map (λ (t : IndexedStage). is_on_intervals t.sub_operation) (indexed_stage p.doc) (stages_of p)

pending-alike : (p q : NaiveClient) → indexed_client p ≡ indexed_client q → pending_on_intervals p ≡ pending_on_intervals q
pending-alike p q e = sym (as-shown p) ∙ ap shown_on_intervals e ∙ as-shown q

intervals-alike : (p q : NaiveClient) → indexed_client p ≡ indexed_client q → length p.doc.intervals ≡ length q.doc.intervals
intervals-alike p q e =
    sym (length-map p.doc.intervals (indexed_interval p.doc.text.items)) ∙ ap (λ (c : IndexedClient). length c.doc.intervals) e
    ∙ length-map q.doc.intervals (indexed_interval q.doc.text.items)

pub count-map : {A B : Type 0} (test : B → Bool) (f : A → B) (xs : List A) → length (filter test (map f xs)) ≡ length (filter (λ x. test (f x)) xs)
count-map test f xs = length-filter_seen test (map f xs) ∙ len-map test f xs ∙ sym (length-filter_seen (λ x. test (f x)) xs)

-- whether an interval is of the label, with places and with names
abbrev is_placed_of : Characters → IndexedInterval → Bool
is_placed_of label i = is_eq (text_cmp label i.label)

abbrev is_of : Characters → Interval → Bool
is_of label i = is_eq (text_cmp label i.label)

labelled-alike : (label : Characters) (p q : NaiveClient) → indexed_client p ≡ indexed_client q
    → length (filter (is_of label) p.doc.intervals) ≡ length (filter (is_of label) q.doc.intervals)
labelled-alike label p q e =
    sym (count-map (is_placed_of label) (indexed_interval p.doc.text.items) p.doc.intervals)
    ∙ ap (λ (c : IndexedClient). length (filter (is_placed_of label) c.doc.intervals)) e
    ∙ count-map (is_placed_of label) (indexed_interval q.doc.text.items) q.doc.intervals

pending-kept : (kept x : NaiveClient) → IsCompacted kept x → pending_on_intervals kept ≡ pending_on_intervals x
pending-kept kept x k = ap (λ (y : NaiveClient). pending_on_intervals y) k.rest

intervals-kept : (kept x : NaiveClient) → IsCompacted kept x → length kept.doc.intervals ≡ length x.doc.intervals
intervals-kept kept x k = ap (λ (d : Document). length d.intervals) k.doc.rest

labelled-kept : (label : Characters) (kept x : NaiveClient) → IsCompacted kept x
    → length (filter (is_of label) kept.doc.intervals) ≡ length (filter (is_of label) x.doc.intervals)
labelled-kept label kept x k = ap (λ (d : Document). length (filter (is_of label) d.intervals)) k.doc.rest

few-of : (m n j k i l before after : ℕ) → m ≡ n → j ≡ k → i ≡ l → ReadsFewNodes m (j + i) before after → ReadsFewNodes n (k + l) before after
few-of m n j k i l before after e f g r =
    subst (λ h. ReadsFewNodes h (k + l) before after) e
    (subst (λ h. ReadsFewNodes m (h + l) before after) f (subst (λ h. ReadsFewNodes m (j + h) before after) g r))

module _ (p x : NaiveClient) (shown : IndexedClient) (label : Characters) (a b before after : ℕ) (e : indexed_client p ≡ shown) (s : StandsFor shown x)
    (shows : ShowsOf p x) where
  same : indexed_client p ≡ indexed_client s.kept
  same = e ∙ sym s.shows

  -- the same bound, where both have as many intervals
  few-for-both : (m n : ℕ) → m ≡ n → ReadsFewNodes m (length (overlap p label a b) + pending_on_intervals p) before after
      → ReadsFewNodes n (length (overlap x label a b) + pending_on_intervals x) before after
  few-for-both m n all r =
      few-of m n (length (overlap p label a b)) (length (overlap x label a b)) (pending_on_intervals p) (pending_on_intervals x) before after
      all (ap (λ found. length found) (shows.overlap label a b)) (pending-alike p s.kept same ∙ pending-kept s.kept x s.keeps) r

  few-for-all : ReadsFewNodesFor p label a b before after → ReadsFewNodesFor x label a b before after
  few-for-all = few-for-both (length p.doc.intervals) (length x.doc.intervals) (intervals-alike p s.kept same ∙ intervals-kept s.kept x s.keeps)

  few-of-label-for-all : ReadsFewOfLabelFor p label a b before after → ReadsFewOfLabelFor x label a b before after
  few-of-label-for-all = few-for-both (length (filter (is_of label) p.doc.intervals)) (length (filter (is_of label) x.doc.intervals))
      (labelled-alike label p s.kept same ∙ labelled-kept label s.kept x s.keeps)

module _ {D : Type 0} (holds : D → HeldDocument → Type 0) (shown : D → ShownDocument) (shows : (d : D) (held : HeldDocument) → holds d held → Shows (shown d) held)
    (s : StoppingState D) (t : LinkedState D) (nameless : Bool) (h : Holds holds s nameless) (runs : s.stop ≡ None) (e : t ≡ s.client)
    (label : Characters) (a b before after : ℕ) where
  pub replica-reads-few : ((low : ℕ) (p : NaiveClient) → IsWellNamed p → IsLinkedAs holds low t p → ReadsFewNodesFor p label a b before after)
      → (x : NaiveClient) → IsReached x → StandsFor (state_of shown s).client x → ReadsFewNodesFor x label a b before after
  replica-reads-few few x reached stands =
      let k = h runs in
      few-for-all k.kept x (state_of shown s).client label a b before after (shows-kept holds shown shows s nameless h runs) stands
      (shows-all holds shown shows s nameless h runs x reached stands)
      (few k.low k.kept (named-kept holds shown shows s nameless h runs) (kept-linked holds shown shows s t nameless h runs e))

  pub replica-reads-few-of-label : ((low : ℕ) (p : NaiveClient) → IsWellNamed p → IsLinkedAs holds low t p → ReadsFewOfLabelFor p label a b before after)
      → (x : NaiveClient) → IsReached x → StandsFor (state_of shown s).client x → ReadsFewOfLabelFor x label a b before after
  replica-reads-few-of-label few x reached stands =
      let k = h runs in
      few-of-label-for-all k.kept x (state_of shown s).client label a b before after (shows-kept holds shown shows s nameless h runs) stands
      (shows-all holds shown shows s nameless h runs x reached stands)
      (few k.low k.kept (named-kept holds shown shows s nameless h runs) (kept-linked holds shown shows s t nameless h runs e))
