-- A reconnection changes nothing of the document without what is pending, and the stages of a client are those that are told.
use Rattle.std.proofs.Common.{◌≡◌, ℕ, suc, ◌-◌, Bool, true, false, cond, List, [], ◌∷◌, ◌++◌, map, filter, refl, sym, ◌∙◌, ap}
use Rattle.std.specs.List.{list_any, flat_map}
use Rattle.std.proofs.lemmas.List.{map-append}
use Rattle.ft_base.specs.declared.stamps.Stamp.{Stamp}
use Rattle.ft_base.specs.declared.stamps.Stamp.TheVariants.{Acked, Local}
use Rattle.ft_base.specs.Scan.{retain_map}
use Rattle.ft_base.specs.Visibility.{is_acked, is_of_stage}
use Rattle.ft_props.specs.Element.{ListElement, is_sequenced, seen, sequenced_elements, without_pending}
use Rattle.ft_props.specs.Steps.{Sequence, carried_element, is_inserted_by, put_stage, put_stages, rebuilt_list, sequenced_list, stage_position}
use Rattle.ft_props.proofs.PlacedInsertion.{drop-put}
use Rattle.ft_props.proofs.RebuiltList.{any-filter, carried_element-ins}
use Rattle.ft_op.specs.Document.{Document, sequenced_part}
use Rattle.ft_msg.specs.Client.{NaiveClient, PendingEdit, stages_of}
use Rattle.ft_msg.specs.Reconnection.{rebuilt_document}
use Rattle.ft_laws_agreement.proofs.ToldStages.{AreTold, ToldStage, stage_numbers}
use Rattle.ft_laws_agreement.proofs.ClientHolds.{ClientHolds, EditsTold, flat}

-- ---- without what is pending

carried-bare : (e : ListElement) → without_pending (carried_element e) ≡ without_pending e
carried-bare e = either (list_any is_acked e.dels)
  where
    either : (b : Bool) → without_pending (cond b (without_pending e) e) ≡ without_pending e
    either true = refl
    either false = refl

carried-sequenced : (xs : List ListElement) → sequenced_elements (retain_map is_sequenced carried_element xs) ≡ sequenced_elements xs
carried-sequenced [] = refl
carried-sequenced (e ∷ xs) = kept (is_sequenced e) refl (carried-sequenced xs)
  where
    kept : (b : Bool) → is_sequenced e ≡ b → sequenced_elements (retain_map is_sequenced carried_element xs) ≡ sequenced_elements xs
        → sequenced_elements (cond b (carried_element e ∷ retain_map is_sequenced carried_element xs) (retain_map is_sequenced carried_element xs))
        ≡ cond b (without_pending e ∷ sequenced_elements xs) (sequenced_elements xs)
    kept true h ih =
        let here : is_sequenced (carried_element e) ≡ true = ap is_acked (carried_element-ins e) ∙ h in
        rw (here, carried-bare e) (ap (λ ys. without_pending e ∷ ys) ih)
    kept false h ih = ih

stage-pending : (k : ℕ) (e : ListElement) → is_inserted_by k e ≡ true → is_sequenced e ≡ false
stage-pending k e h = stamp e.ins h
  where
    stamp : (t : Stamp) → is_of_stage k t ≡ true → is_acked t ≡ false
    stamp (Acked s c) g = (cc)
    stamp (Local j) g = refl

stages-sequenced : (xs ys : List ListElement) (ks : List ℕ) → sequenced_elements (put_stages xs ys ks) ≡ sequenced_elements ys
stages-sequenced xs ys [] = refl
stages-sequenced xs ys (k ∷ ks) =
    stages-sequenced xs (put_stage xs ys k) ks
    ∙ drop-put is_sequenced (seen (k - 1)) without_pending (stage_position k xs) (filter (is_inserted_by k) xs) ys (any-filter is_sequenced (is_inserted_by k) (stage-pending k) xs)

list-sequenced : (ks : List ℕ) (list : Sequence) → sequenced_list (rebuilt_list ks list) ≡ sequenced_list list
list-sequenced ks list =
    ap (λ xs. record list { items = xs }) (stages-sequenced list.items (retain_map is_sequenced carried_element list.items) ks ∙ carried-sequenced list.items)

-- a reconnection changes nothing of the document without what is pending
pub rebuilt-sequenced : (ks : List ℕ) (doc : Document) → sequenced_part (rebuilt_document ks doc) ≡ sequenced_part doc
rebuilt-sequenced ks doc =
    ap (λ text. record doc { text = text; rows = sequenced_list (rebuilt_list ks doc.rows); cols = sequenced_list (rebuilt_list ks doc.cols) }) (list-sequenced ks doc.text)
    ∙ ap (λ rows. record doc { text = sequenced_list doc.text; rows = rows; cols = sequenced_list (rebuilt_list ks doc.cols) }) (list-sequenced ks doc.rows)
    ∙ ap (λ cols. record doc { text = sequenced_list doc.text; rows = sequenced_list doc.rows; cols = cols }) (list-sequenced ks doc.cols)

-- ---- the stages of a client

told-numbers : (m : ℕ) (ts : List ToldStage) → AreTold m ts → map (λ t. t.stage) (map (λ g. g.stage) ts) ≡ stage_numbers ts
told-numbers m [] h = refl
told-numbers m (t ∷ ts) h = ap (λ k. k ∷ map (λ t. t.stage) (map (λ g. g.stage) ts)) h.0 ∙ ap (λ ks. suc t.before ∷ ks) (told-numbers m ts h.3)

pub edits-stages : (c : ℕ) (gss : List (List ToldStage)) (edits : List PendingEdit) → EditsTold c gss edits → flat_map (λ e. e.stages) edits ≡ map (λ g. g.stage) (flat gss)
edits-stages c [] [] h = refl
edits-stages c [] (edit ∷ edits) h = absurd h
edits-stages c (gs ∷ gss) [] h = absurd h
edits-stages c (gs ∷ gss) (edit ∷ edits) h =
    ap (λ ts. ts ++ flat_map (λ e. e.stages) edits) h.0.stages ∙ ap (λ ts. map (λ g. g.stage) gs ++ ts) (edits-stages c gss edits h.1)
    ∙ sym (map-append (λ g. g.stage) gs (flat gss))

pub client-numbers : (bound c : ℕ) (gss : List (List ToldStage)) (x : NaiveClient) → ClientHolds bound c gss x → map (λ t. t.stage) (stages_of x) ≡ stage_numbers (flat gss)
client-numbers bound c gss x h = ap (map (λ t. t.stage)) (edits-stages c gss x.pending h.edits) ∙ told-numbers x.doc.number (flat gss) h.doc.told
