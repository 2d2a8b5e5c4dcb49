-- A compacted client held as many elements as the whole one: what is left out was sequenced, and stays counted.
use Rattle.std.proofs.Common.{◌≡◌, ℕ, ◌+◌, Bool, true, not, refl, ◌∙◌, ap, subst}
use Rattle.ft_base.specs.declared.stamps.Stamp.{Stamp}
use Rattle.ft_base.specs.declared.stamps.Stamp.TheVariants.{Acked, Local}
use Rattle.ft_base.specs.Scan.{len}
use Rattle.ft_base.specs.Visibility.{is_acked}
use Rattle.ft_base.proofs.Booleans.{both}
use Rattle.ft_props.specs.Element.{ElementId, is_pending, is_sequenced}
use Rattle.ft_props.specs.Compaction.{KeepsList, has_collectable_removal, is_insertion_at_or_below}
use Rattle.ft_props.specs.Steps.{Sequence}
use Rattle.ft_laws_agreement.proofs.CompactedScans.{Alike, len-kept}
use Rattle.ft_msg.specs.Answers.{HeldCounts, RiseAlike, count_held, held_in}
use Rattle.ft_msg.specs.Client.{NaiveClient}
use Rattle.ft_msg.specs.Compacted.{IsCompacted}

pending-alike : (low : ℕ) (held : ElementId → Bool) → Alike low held is_pending
pending-alike low held = record {
  gone = λ e g u. ap not (both (is_sequenced e) (has_collectable_removal low e.dels) g).0;
  old = λ e f. old e.ins f;
}
  where
    old : (t : Stamp) → is_insertion_at_or_below low t ≡ true → not true ≡ not (is_acked t)
    old (Acked s c) f = refl
    old (Local k) f = (cc)

count-kept : {low : ℕ} {held : ElementId → Bool} {kept list : Sequence} → KeepsList low held kept list → count_held kept ≡ count_held list
count-kept {low} {held} {kept} {list} k = ap (λ n. n + len is_pending kept.items) k.made ∙ ap (λ n. list.made + n) (len-kept is_pending (pending-alike low held) k.items)

abbrev counts : ℕ → ℕ → ℕ → HeldCounts
counts text rows cols = record { text = text; rows = rows; cols = cols }

held-kept : (kept x : NaiveClient) → IsCompacted kept x → held_in kept.doc ≡ held_in x.doc
held-kept kept x k =
    ap (λ n. counts n (count_held kept.doc.rows) (count_held kept.doc.cols)) (count-kept k.doc.text)
    ∙ ap (λ n. counts (count_held x.doc.text) n (count_held kept.doc.cols)) (count-kept k.doc.rows)
    ∙ ap (λ n. counts (count_held x.doc.text) (count_held x.doc.rows) n) (count-kept k.doc.cols)

-- counts that rise as those of a compacted client do rise as those of the whole one
pub rises-kept : (old new : HeldCounts) (kept x kept_after after : NaiveClient) → IsCompacted kept x → IsCompacted kept_after after
    → RiseAlike old new (held_in kept.doc) (held_in kept_after.doc) → RiseAlike old new (held_in x.doc) (held_in after.doc)
rises-kept old new kept x kept_after after k l rises =
    subst (λ h. RiseAlike old new h (held_in after.doc)) (held-kept kept x k) (subst (λ h. RiseAlike old new (held_in kept.doc) h) (held-kept kept_after after l) rises)
