-- Lists and documents without anything pending.
use Rattle.std.proofs.Common.{◌≡◌, ℕ, Bool, true, List, [], ◌∷◌, Option, Some, None, refl, sym, ◌∙◌, ap}
use Rattle.std.specs.List.{list_all}
use Rattle.ft_base.proofs.Booleans.{all_four, both}
use Rattle.ft_base.specs.declared.stamps.Stamp.{Stamp}
use Rattle.ft_base.specs.declared.stamps.Stamp.TheVariants.{Acked, Local}
use Rattle.ft_base.specs.Scan.{retain_map}
use Rattle.ft_base.specs.Visibility.{is_acked}
use Rattle.ft_props.specs.Element.{ListElement, is_sequenced, without_pending}
use Rattle.ft_props.specs.Steps.{Sequence, sequenced_list}
use Rattle.ft_op.specs.Document.{Document, sequenced_part}
use Rattle.ft_laws_agreement.proofs.ToldStages.{Holds}
use Rattle.ft_laws_agreement.proofs.WithinStages.{is_among, is_numbered, is_within, mark_within, stamp_within}

bare-stamp : (n : ℕ) (t : Stamp) → stamp_within n [] t ≡ true → is_acked t ≡ true
bare-stamp n (Acked s c) h = refl
bare-stamp n (Local j) h = (cc)

pub bare-mark : (m : Option ℕ) → mark_within [] m ≡ true → m ≡ None
bare-mark None h = refl
bare-mark (Some j) h = (cc)

bare-changes : {A : Type 0} (pending : List (ℕ × A)) → list_all (λ p. is_among [] p.0) pending ≡ true → pending ≡ []
bare-changes [] h = refl
bare-changes (p ∷ pending) h = (cc)

bare-element : (n : ℕ) (e : ListElement) → is_within n [] e ≡ true → (is_sequenced e ≡ true) × (without_pending e ≡ e)
bare-element n e h =
    let p = all_four (stamp_within n [] e.ins) (list_all (is_numbered n) e.dels) (mark_within [] e.removal_stage) (list_all (λ p. is_among [] p.0) e.pending) h in (
      bare-stamp n e.ins p.0,
      ap (λ m. record e { removal_stage = m; pending = [] }) (sym (bare-mark e.removal_stage p.2))
          ∙ ap (λ q. record e { pending = q }) (sym (bare-changes e.pending p.3)),
    )

all-kept : (keep : ListElement → Bool) (f : ListElement → ListElement) (n : ℕ) → ((e : ListElement) → is_within n [] e ≡ true → (keep e ≡ true) × (f e ≡ e))
    → (xs : List ListElement) → list_all (is_within n []) xs ≡ true → retain_map keep f xs ≡ xs
all-kept keep f n k [] h = refl
all-kept keep f n k (e ∷ xs) h =
    let p = both (is_within n [] e) (list_all (is_within n []) xs) h in
    let here = k e p.0 in
    rw (here.0, here.1, all-kept keep f n k xs p.1) refl

pub sequenced-bare : (n : ℕ) (list : Sequence) → list_all (is_within n []) list.items ≡ true → sequenced_list list ≡ list
sequenced-bare n list h = ap (λ xs. record list { items = xs }) (all-kept is_sequenced without_pending n (bare-element n) list.items h)

pub lists-bare : (n : ℕ) (doc : Document) → list_all (is_within n []) doc.text.items ≡ true → list_all (is_within n []) doc.rows.items ≡ true
    → list_all (is_within n []) doc.cols.items ≡ true → sequenced_part doc ≡ doc
lists-bare n doc text rows cols =
    ap (λ list. record doc { text = list; rows = sequenced_list doc.rows; cols = sequenced_list doc.cols }) (sequenced-bare n doc.text text)
    ∙ ap (λ list. record doc { rows = list; cols = sequenced_list doc.cols }) (sequenced-bare n doc.rows rows)
    ∙ ap (λ list. record doc { cols = list }) (sequenced-bare n doc.cols cols)

pub document-bare : (c m n last : ℕ) (doc : Document) → Holds c m n last [] doc → sequenced_part doc ≡ doc
document-bare c m n last doc h = lists-bare n doc h.text h.rows h.cols
