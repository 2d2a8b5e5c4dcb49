-- A list seen without the names of its elements goes through the same steps.
use Rattle.std.proofs.Common.{◌≡◌, ℕ, Bool, true, not, List, refl}
use Rattle.ft_base.specs.Scan.{put, retain_map}
use Rattle.ft_base.specs.Visibility.{is_acked, sees}
use Rattle.ft_base.proofs.ScanLaws.{put-retain_map}
use Rattle.ft_props.specs.Element.{ListElement, is_pending, seen_by}
use Rattle.ft_props.specs.Element.{nameless}

abbrev every : ListElement → Bool
every e = true

-- an insertion of another client into the list without names
pub nameless-put : (r c p : ℕ) (new xs : List ListElement)
    → retain_map every nameless (put (seen_by r c) is_pending p new xs)
    ≡ put (λ e. sees e.stamps r c) (λ e. not (is_acked e.stamps.ins)) p (retain_map every nameless new) (retain_map every nameless xs)
nameless-put r c p new xs =
    put-retain_map every (seen_by r c) nameless (λ e. sees e.stamps r c) (record { kept = λ e h. (cc); same = λ e h. refl })
    is_pending (λ e. not (is_acked e.stamps.ins)) (λ e h. (cc)) (λ e h. refl) p new xs
