-- One part of a document is as it was: then what holds it goes on to hold it.
use Rattle.std.proofs.Common.{◌≡◌, Bool, true, false, List, [], ◌∷◌, ◌++◌, refl, sym, ◌∙◌, ap, filter, map}
use Rattle.std.specs.List.{list_all}
use Rattle.ft_base.proofs.Booleans.{both}
use Rattle.ft_base.proofs.ScanLaws.{retain_map-append}
use Rattle.ft_op.specs.Document.{Document}
use Rattle.ft_op.specs.Intervals.{NamedElements}
use Rattle.ft_op.specs.Operation.{OnGrid, OnIntervals, OnText, SubOperation}
use Rattle.ft_op.specs.Stages.{Stage}
use Rattle.ft_msg.specs.Indexed.{indexed_stage}
use Rattle.ft_laws_agreement.specs.Sequencing.{is_grid_stage}
use Rattle.ft_laws_names.specs.GridFacts.{grid_stages}
use Rattle.ft_matrix.specs.GridStates.{GridState}
use Rattle.ft_matrix.specs.HoldsGrid.{HoldsGrid}
use Rattle.ft_msg.specs.Overlap.{is_on_intervals}
use Rattle.ft_string.specs.Holds.{HoldsText, element_stages, interval_stages, is_on_elements, is_on_text}
use Rattle.ft_string.specs.State.{TextState}
use Rattle.ft_named.proofs.Lists.{filter-append}

-- ---- the stages of a part

filter-nothing : {A : Type 0} (test keep : A → Bool) → ((x : A) → keep x ≡ true → test x ≡ false) → (xs : List A) → list_all keep xs ≡ true
    → filter test xs ≡ []
filter-nothing test keep f [] h = refl
filter-nothing test keep f (x ∷ xs) h =
    let p = both (keep x) (list_all keep xs) h in
    rw (f x p.0) (filter-nothing test keep f xs p.1)

append-nil : {A : Type 0} (xs : List A) → xs ++ [] ≡ xs
append-nil [] = refl
append-nil (x ∷ xs) = ap (λ ys. x ∷ ys) (append-nil xs)

grid-apart : (t : Stage) → is_grid_stage t ≡ true → (is_on_elements t.sub_operation ≡ false) × (is_on_intervals t.sub_operation ≡ false)
grid-apart t h = step t.sub_operation t.names h
  where
    step : (o : SubOperation) (names : NamedElements) → is_grid_stage (record { stage = t.stage; sub_operation = o; names = names }) ≡ true
        → (is_on_elements o ≡ false) × (is_on_intervals o ≡ false)
    step (OnGrid op) names h = (refl, refl)
    step (OnText op) names h = (cc)
    step (OnIntervals op) names h = (cc)

-- stages of the grid are none of the text
pub elements-apart : (ts us : List Stage) → list_all is_grid_stage us ≡ true → element_stages (ts ++ us) ≡ element_stages ts
elements-apart ts us h =
    filter-append (λ (t : Stage). is_on_elements t.sub_operation) ts us
    ∙ ap (λ vs. element_stages ts ++ vs) (filter-nothing (λ (t : Stage). is_on_elements t.sub_operation) is_grid_stage
    (λ t g. (grid-apart t g).0) us h) ∙ append-nil (element_stages ts)

pub intervals-apart : (ts us : List Stage) → list_all is_grid_stage us ≡ true → interval_stages (ts ++ us) ≡ interval_stages ts
intervals-apart ts us h =
    filter-append (λ (t : Stage). is_on_intervals t.sub_operation) ts us
    ∙ ap (λ vs. interval_stages ts ++ vs) (filter-nothing (λ (t : Stage). is_on_intervals t.sub_operation) is_grid_stage
    (λ t g. (grid-apart t g).1) us h) ∙ append-nil (interval_stages ts)

-- stages of the text are none of the grid
text-none : (doc : Document) (us : List Stage) → list_all (λ t. is_on_text t.sub_operation) us ≡ true → grid_stages doc us ≡ []
text-none doc [] h = refl
text-none doc (t ∷ us) h =
    let p = both (is_on_text t.sub_operation) (list_all (λ (t : Stage). is_on_text t.sub_operation) us) h in
    step t.sub_operation t.names p.0 (text-none doc us p.1)
  where
    step : (o : SubOperation) (names : NamedElements) → is_on_text o ≡ true → grid_stages doc us ≡ []
        → grid_stages doc (record { stage = t.stage; sub_operation = o; names = names } ∷ us) ≡ []
    step (OnText op) names h g = g
    step (OnIntervals op) names h g = g
    step (OnGrid op) names h g = (cc)

pub grid-apart-stages : (doc : Document) (ts us : List Stage) → list_all (λ t. is_on_text t.sub_operation) us ≡ true
    → grid_stages doc (ts ++ us) ≡ grid_stages doc ts
grid-apart-stages doc ts us h = retain_map-append is_grid_stage (indexed_stage doc) ts us ∙ ap (λ vs. grid_stages doc ts ++ vs) (text-none doc us h) ∙ append-nil (grid_stages doc ts)

-- in front of others
pub grid-front : (doc : Document) (ts us : List Stage) → list_all (λ t. is_on_text t.sub_operation) ts ≡ true → grid_stages doc (ts ++ us) ≡ grid_stages doc us
grid-front doc ts us h = retain_map-append is_grid_stage (indexed_stage doc) ts us ∙ ap (λ vs. vs ++ grid_stages doc us) (text-none doc ts h)

pub elements-front : (ts us : List Stage) → list_all is_grid_stage ts ≡ true → element_stages (ts ++ us) ≡ element_stages us
elements-front ts us h =
    filter-append (λ (t : Stage). is_on_elements t.sub_operation) ts us
    ∙ ap (λ vs. vs ++ element_stages us) (filter-nothing (λ (t : Stage). is_on_elements t.sub_operation) is_grid_stage (λ t g. (grid-apart t g).0) ts h)

pub intervals-front : (ts us : List Stage) → list_all is_grid_stage ts ≡ true → interval_stages (ts ++ us) ≡ interval_stages us
intervals-front ts us h =
    filter-append (λ (t : Stage). is_on_intervals t.sub_operation) ts us
    ∙ ap (λ vs. vs ++ interval_stages us) (filter-nothing (λ (t : Stage). is_on_intervals t.sub_operation) is_grid_stage (λ t g. (grid-apart t g).1) ts h)

-- stages of the grid look at rows and columns alone
pub grid-stages-same : (p q : Document) → q.rows ≡ p.rows → q.cols ≡ p.cols → (ts : List Stage) → grid_stages q ts ≡ grid_stages p ts
grid-stages-same p q rows cols [] = refl
grid-stages-same p q rows cols (t ∷ ts) = step t.sub_operation t.names (grid-stages-same p q rows cols ts)
  where
    step : (o : SubOperation) (names : NamedElements) → grid_stages q ts ≡ grid_stages p ts
        → grid_stages q (record { stage = t.stage; sub_operation = o; names = names } ∷ ts)
        ≡ grid_stages p (record { stage = t.stage; sub_operation = o; names = names } ∷ ts)
    step (OnText op) names ih = ih
    step (OnIntervals op) names ih = ih
    step (OnGrid op) names ih = rw (rows, cols, ih) refl

-- those of the text at the text alone
pub element-stages-same : (p q : Document) → q.text ≡ p.text → (ts : List Stage)
    → map (indexed_stage q) (element_stages ts) ≡ map (indexed_stage p) (element_stages ts)
element-stages-same p q text [] = refl
element-stages-same p q text (t ∷ ts) = step t.sub_operation t.names (element-stages-same p q text ts)
  where
    step : (o : SubOperation) (names : NamedElements) → map (indexed_stage q) (element_stages ts) ≡ map (indexed_stage p) (element_stages ts)
        → map (indexed_stage q) (element_stages (record { stage = t.stage; sub_operation = o; names = names } ∷ ts))
        ≡ map (indexed_stage p) (element_stages (record { stage = t.stage; sub_operation = o; names = names } ∷ ts))
    step (OnText op) names ih = rw (text, ih) refl
    step (OnIntervals op) names ih = ih
    step (OnGrid op) names ih = ih

pub interval-stages-same : (p q : Document) → q.text ≡ p.text → (ts : List Stage)
    → map (indexed_stage q) (interval_stages ts) ≡ map (indexed_stage p) (interval_stages ts)
interval-stages-same p q text [] = refl
interval-stages-same p q text (t ∷ ts) = step t.sub_operation t.names (interval-stages-same p q text ts)
  where
    step : (o : SubOperation) (names : NamedElements) → map (indexed_stage q) (interval_stages ts) ≡ map (indexed_stage p) (interval_stages ts)
        → map (indexed_stage q) (interval_stages (record { stage = t.stage; sub_operation = o; names = names } ∷ ts))
        ≡ map (indexed_stage p) (interval_stages (record { stage = t.stage; sub_operation = o; names = names } ∷ ts))
    step (OnText op) names ih = ih
    step (OnIntervals op) names ih = rw (text, ih) refl
    step (OnGrid op) names ih = ih

-- ---- what is held

module _ (p q : Document) where
  -- a table goes on to hold its part
  pub grid-same : (g : GridState) (ts us : List Stage) → q.rows ≡ p.rows → q.cols ≡ p.cols → q.cells ≡ p.cells → grid_stages p us ≡ grid_stages p ts
      → HoldsGrid g p ts → HoldsGrid g q us
  grid-same g ts us rows cols cells stages h = record {
    rows = rw rows h.rows;
    cols = rw cols h.cols;
    rows_made = rw rows h.rows_made;
    cols_made = rw cols h.cols_made;
    cells = rw (rows, cols, cells) h.cells;
    stages = grid-stages-same p q rows cols us ∙ stages ∙ h.stages;
  }

  -- and a text
  pub text-same : (s : TextState) (ts us : List Stage) → q.text ≡ p.text → q.intervals ≡ p.intervals
      → element_stages us ≡ element_stages ts → interval_stages us ≡ interval_stages ts
      → HoldsText s p ts → HoldsText s q us
  text-same s ts us text intervals elements ranges h = record {
    elements = rw text h.elements;
    made = rw text h.made;
    intervals = rw (text, intervals) h.intervals;
    ops = h.ops ∙ ap (map (indexed_stage p)) (sym elements) ∙ sym (element-stages-same p q text us);
    interval_ops = h.interval_ops ∙ ap (map (indexed_stage p)) (sym ranges) ∙ sym (interval-stages-same p q text us);
  }
