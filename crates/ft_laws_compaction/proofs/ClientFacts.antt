-- What holds of every client that bears on compaction, and a compacted document beside the whole one.
use Rattle.std.proofs.Common.{◌≡◌, ℕ, ◌≤◌, Bool, true, false, not, ◌&&◌, ◌||◌, List, [], ◌∷◌, refl, sym, ◌∙◌, ap}
use Rattle.std.specs.List.{list_all, list_any}
use Rattle.ft_base.specs.declared.stamps.Stamp.{Stamp}
use Rattle.ft_base.specs.declared.stamps.Stamp.TheVariants.{Acked, Local}
use Rattle.ft_base.specs.Visibility.{is_acked}
use Rattle.ft_props.specs.Element.{ListElement, PendingId, SequencedId, has_id, has_sequenced_removal, id, id_of_stamp, same_id, sequenced_elements}
use Rattle.ft_props.specs.Compaction.{has_collectable_removal, is_collectable}
use Rattle.ft_props.specs.Steps.{Sequence}
use Rattle.ft_op.specs.Document.{Document}
use Rattle.ft_msg.specs.Client.{NaiveClient, floor}
use Rattle.ft_msg.specs.Compacted.{KeepsDocument}
use Rattle.ft_laws_agreement.specs.Sequencing.{IsReady, is_marked_later}
use Rattle.ft_laws_agreement.proofs.AgreedStage.{IsNamed}
use Rattle.ft_laws_agreement.proofs.Booleans.{hidden}
use Rattle.ft_laws_agreement.proofs.ClientHolds.{ClientHolds}
use Rattle.ft_laws_agreement.proofs.DistinctNames.{count-sequenced}
use Rattle.ft_laws_agreement.proofs.HeldNames.{HoldsNames}
use Rattle.ft_laws_agreement.proofs.OwnNames.{all-weaker, any-less, has_named, none-passes, other-named, own-named}
use Rattle.ft_laws_agreement.proofs.SideBySideStages.{none-counted}
use Rattle.ft_laws_agreement.proofs.ToldStages.{ToldStage}
use Rattle.ft_laws_agreement.proofs.TrimmedDocument.{HeldNames, Trimmed, is_removed, without_lists}
use Rattle.ft_laws_agreement.proofs.TrimmedFromNow.{collectable-removed, held_but}
use Rattle.ft_laws_compaction.specs.Free.{HasFreeTombstones}
use Rattle.ft_laws_compaction.proofs.FreeTombstones.{HoldsStaying, client-names, free-tombstones, gone-named, stays}
use Rattle.ft_laws_compaction.proofs.KeptLists.{keeps-released}

-- no element has the name of one that comes later
abbrev pub IsFreshFrom : Sequence → Type 0
IsFreshFrom list = (n : ℕ) → list.made ≤ n → list_any (has_id (SequencedId n)) list.items ≡ false

-- whether the element is sequenced, or not gone
abbrev pub is_sequenced_if_gone : (ListElement → Bool) → ListElement → Bool
is_sequenced_if_gone gone e = is_acked e.ins || not (gone e)

pub record ClientFacts (x : NaiveClient) : Type 0 where
  pub ready : IsReady x
  pub names : HoldsStaying x
  pub free : HasFreeTombstones x
  pub text : IsFreshFrom x.doc.text
  pub rows : IsFreshFrom x.doc.rows
  pub cols : IsFreshFrom x.doc.cols

fresh-from : (list : Sequence) → IsNamed (record list { items = sequenced_elements list.items }) → IsFreshFrom list
fresh-from list h n l = none-counted (has_id (SequencedId n)) list.items (sym (count-sequenced n list.items) ∙ h.fresh (SequencedId n) l)

pub client-facts : (bound c : ℕ) (gss : List (List ToldStage)) (x : NaiveClient) → ClientHolds bound c gss x → IsReady x → ClientFacts x
client-facts bound c gss x h r = record {
  ready = r;
  names = client-names bound c gss x h r;
  free = free-tombstones bound c gss x h r;
  text = fresh-from x.doc.text h.doc.sound.named;
  rows = fresh-from x.doc.rows h.doc.sound.rows;
  cols = fresh-from x.doc.cols h.doc.sound.cols;
}

-- ---- names that stay

pub names-staying : (gone : ListElement → Bool) (list : Sequence) → list_all (λ e. gone e || not (has_named gone list.items (id e))) list.items ≡ true
    → IsFreshFrom list → HoldsNames gone (held_but gone list.items) list
names-staying gone list h f = record {
  all = h;
  later = λ n l. ap not (any-less (λ e. has_id (SequencedId n) e && gone e) (has_id (SequencedId n)) (λ e k. ap (λ b. b && gone e) k) list.items (f n l));
}

-- a pending name is none of an element that is gone
pub pending-stays : (gone : ListElement → Bool) (xs : List ListElement) (k i : ℕ) → list_all (is_sequenced_if_gone gone) xs ≡ true → held_but gone xs (PendingId k i) ≡ true
pending-stays gone xs k i h = ap not (none-passes (is_sequenced_if_gone gone) (λ e. has_id (PendingId k i) e && gone e) (λ e g. step e e.ins (gone e) g) xs h)
  where
    step : (e : ListElement) (t : Stamp) (b : Bool) → is_acked t || not b ≡ true → same_id (PendingId k i) (id_of_stamp t e.nth) && b ≡ false
    step e (Acked s c) b g = refl
    step e (Local j) true g = (cc)
    step e (Local j) false g = never (same_id (PendingId k i) (PendingId j e.nth))
      where
        never : (b : Bool) → b && false ≡ false
        never true = refl
        never false = refl

pub collectable-sequenced : (low : ℕ) (xs : List ListElement) → list_all (is_sequenced_if_gone (is_collectable low)) xs ≡ true
collectable-sequenced low [] = refl
collectable-sequenced low (e ∷ xs) = rw (step (is_acked e.ins) (has_collectable_removal low e.dels), collectable-sequenced low xs) refl
  where
    step : (a b : Bool) → a || not (a && b) ≡ true
    step true b = refl
    step false b = refl

pub removed-sequenced : (xs : List ListElement) → list_all is_marked_later xs ≡ true → list_all (is_sequenced_if_gone is_removed) xs ≡ true
removed-sequenced xs h = all-weaker is_marked_later (is_sequenced_if_gone is_removed) (λ e g. step e e.ins e.dels g) xs h
  where
    step : (e : ListElement) (t : Stamp) (dels : List Stamp) → is_marked_later (record e { ins = t; dels = dels }) ≡ true → is_acked t || not (list_any is_acked dels) ≡ true
    step e (Acked s c) dels g = refl
    step e (Local k) [] g = refl
    step e (Local k) (t ∷ dels) g = (cc)

removed-named : (low : ℕ) (xs : List ListElement) → list_all (λ e. not (is_collectable low e) || not (held_but is_removed xs (id e))) xs ≡ true
removed-named low xs =
    all-weaker (λ e. not (is_removed e) || has_named is_removed xs (id e)) (λ e. not (is_collectable low e) || not (held_but is_removed xs (id e)))
    (λ e h. step (is_collectable low e) (is_removed e) (has_named is_removed xs (id e)) (collectable-removed low e) h) xs (own-named is_removed xs)
  where
    step : (a b c : Bool) → (a ≡ true → b ≡ true) → not b || c ≡ true → not a || not (not c) ≡ true
    step false b c f h = refl
    step true b true f h = refl
    step true true false f h = (cc)
    step true false false f h = cc (f refl)

-- ---- the document

-- the names that stay while a client's document goes through a step: of the text all but those of elements that may be left
-- out, of rows and columns those of unremoved ones
abbrev pub staying : NaiveClient → HeldNames
staying x = record { text = held_but (is_collectable (floor x)) x.doc.text.items; rows = held_but is_removed x.doc.rows.items; cols = held_but is_removed x.doc.cols.items }

-- a compacted document beside the whole one
pub kept-beside : (x : NaiveClient) (kept : Document) → ClientFacts x → KeepsDocument x kept → Trimmed (floor x) (staying x) kept x.doc
kept-beside x kept f k = record {
  text = record { items = keeps-released (stays (floor x) x.doc.text.items) (gone-named (floor x) x.doc.text.items) k.text.items; made = k.text.made };
  rows = record { items = keeps-released (held_but is_removed x.doc.rows.items) (removed-named (floor x) x.doc.rows.items) k.rows.items; made = k.rows.made };
  cols = record { items = keeps-released (held_but is_removed x.doc.cols.items) (removed-named (floor x) x.doc.cols.items) k.cols.items; made = k.cols.made };
  text_names = names-staying (is_collectable (floor x)) x.doc.text (other-named (is_collectable (floor x)) x.doc.text.items f.ready.text.place.distinct) f.text;
  row_names = names-staying is_removed x.doc.rows (other-named is_removed x.doc.rows.items f.ready.rows.place.distinct) f.rows;
  col_names = names-staying is_removed x.doc.cols (other-named is_removed x.doc.cols.items f.ready.cols.place.distinct) f.cols;
  ends = f.names.ends;
  cells = λ row col a b. k.cells.values row col (hidden (has_sequenced_removal x.doc.rows.items row) a) (hidden (has_sequenced_removal x.doc.cols.items col) b);
  unwritten = k.cells.none;
  rest = ap without_lists k.rest;
}
