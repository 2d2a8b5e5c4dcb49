-- What is pending on a sound text's elements is of stages up to the last.
use Rattle.std.proofs.Common.{◌≡◌, ℕ, ◌≤◌, Bool, true, false, ◌&&◌, ◌||◌, nat_eq, nat_le, List, [], ◌∷◌, Option, Some, None, refl, arith}
use Rattle.std.specs.List.{list_all}
use Rattle.ft_base.specs.declared.stamps.Stamp.{Stamp}
use Rattle.ft_base.specs.declared.stamps.Stamp.TheVariants.{Acked, Local}
use Rattle.ft_base.specs.Visibility.{is_acked}
use Rattle.ft_base.proofs.Booleans.{both}
use Rattle.ft_op.specs.Document.{Document}
use Rattle.ft_op.specs.Operation.{SubOperation}
use Rattle.ft_op.specs.Stages.{Stage}
use Rattle.ft_props.specs.declared.properties.Changes.{Changes}
use Rattle.ft_props.specs.Element.{ListElement}
use Rattle.ft_laws_agreement.specs.Reconnecting.{has_insertion_of, has_marks_of, has_removal_of, inserts_text, is_stage_of, removes_text}
use Rattle.ft_laws_agreement.specs.Sequencing.{annotates_text}
use Rattle.ft_laws_agreement.proofs.NumberTests.{from_self, same_number}
use Rattle.ft_laws_names.specs.WellNamed.{RiseTo}
use Rattle.ft_string.specs.Holds.{IsTextSound}
use Rattle.ft_named.proofs.Changed.{are_changes_up_to, is_removal_up_to, is_stamp_up_to, is_up_to, up_to-made}
use Rattle.ft_named.proofs.Lists.{all-weaker}
use Rattle.ft_named.proofs.OwnSteps.{AreUpTo}

pub low-below : (low last : ℕ) (ts : List Stage) → RiseTo low last ts → low ≤ last
low-below low last [] h = h
low-below low last (t ∷ ts) h = let a = h.0 in let b = low-below t.stage last ts h.1 in omega arith

stage-of : (kind : SubOperation → Bool) (low last : ℕ) (ts : List Stage) → RiseTo low last ts → (k : ℕ) → is_stage_of kind ts k ≡ true → nat_le k last ≡ true
stage-of kind low last [] h k g = (cc)
stage-of kind low last (t ∷ ts) h k g = step (nat_eq t.stage k) refl (kind t.sub_operation) g (stage-of kind t.stage last ts h.1 k)
  where
    step : (b : Bool) → nat_eq t.stage k ≡ b → (d : Bool) → (b && d) || is_stage_of kind ts k ≡ true → (is_stage_of kind ts k ≡ true → nat_le k last ≡ true)
        → nat_le k last ≡ true
    step true e d f rest = let same = same_number t.stage k e in let up = low-below t.stage last ts h.1 in from_self k last (omega arith)
    step false e d f rest = rest f

module _ (last : ℕ) (stages : List Stage) (rise : RiseTo 0 last stages) where
  stamp-up : (t : Stamp) → has_insertion_of inserts_text stages t ≡ true → is_stamp_up_to last t ≡ true
  stamp-up (Acked s c) h = refl
  stamp-up (Local k) h = stage-of inserts_text 0 last stages rise k h

  removal-up : (o : Option ℕ) → has_removal_of removes_text stages o ≡ true → is_removal_up_to last o ≡ true
  removal-up None h = refl
  removal-up (Some k) h = stage-of removes_text 0 last stages rise k h

  changes-up : (cs : List (ℕ × Changes)) → list_all (λ q. is_stage_of annotates_text stages q.0) cs ≡ true → are_changes_up_to last cs ≡ true
  changes-up cs h = all-weaker (λ q. is_stage_of annotates_text stages q.0) (λ q. nat_le q.0 last) (λ q g. stage-of annotates_text 0 last stages rise q.0 g) cs h

  element-up : (e : ListElement) → has_marks_of inserts_text removes_text stages e ≡ true
      → list_all (λ q. is_stage_of annotates_text stages q.0) e.pending ≡ true → is_up_to last e ≡ true
  element-up e h g =
      let p = both (has_insertion_of inserts_text stages e.ins && has_removal_of removes_text stages e.removal_stage) (list_all is_acked e.dels) h in
      let q = both (has_insertion_of inserts_text stages e.ins) (has_removal_of removes_text stages e.removal_stage) p.0 in
      up_to-made last e (record { ins = stamp-up e.ins q.0; removal = removal-up e.removal_stage q.1; dels = p.1; changes = changes-up e.pending g })

  all-up : (es : List ListElement) → list_all (has_marks_of inserts_text removes_text stages) es ≡ true
      → list_all (λ e. list_all (λ q. is_stage_of annotates_text stages q.0) e.pending) es ≡ true → AreUpTo last es
  all-up [] h g = refl
  all-up (e ∷ es) h g =
      let p = both (has_marks_of inserts_text removes_text stages e) (list_all (has_marks_of inserts_text removes_text stages) es) h in
      let q = both (list_all (λ q. is_stage_of annotates_text stages q.0) e.pending) (list_all (λ e. list_all (λ q. is_stage_of annotates_text stages q.0) e.pending) es) g in
      rw (element-up e p.0 q.0, all-up es p.1 q.1) refl

pub sound-up_to : (last : ℕ) (doc : Document) (stages : List Stage) → IsTextSound last doc stages → AreUpTo last doc.text.items
sound-up_to last doc stages h = all-up last stages h.rise doc.text.items h.place.marks h.changes
