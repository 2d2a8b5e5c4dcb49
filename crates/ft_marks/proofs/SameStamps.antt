-- The tests of equal marks and of equal properties decide equality.
use Rattle.std.proofs.Common.{◌≡◌, ℕ, ◌&&◌, true, nat_eq, bytes_eq, List, ap}
use Rattle.std.specs.Bool.{Decides}
use Rattle.std.proofs.Math.Path.{ap₂}
use Rattle.std.proofs.lemmas.Bool.Decides.{Decides-and, Decides-eqb, Decides-like}
use Rattle.std.proofs.lemmas.Slice.Eq.{bytes_eq-Decides}
use Rattle.ft_base.proofs.Booleans.{both}
use Rattle.ft_props.specs.Properties.{Characters, PropertyList, ValueBytes}
use Rattle.ft_op.specs.Same.{same_list}
use Rattle.ft_op.proofs.SameOperations.{same_list-Decides}
use Rattle.ft_sumdoc.specs.declared.summary.Mark.{Mark}
use Rattle.ft_sumdoc.specs.Stamps.{same_mark}
use Rattle.ft_sumdoc.specs.WellFormed.{same_props, same_stamps}

-- ---- marks

abbrev mark : ℕ → ℕ → Mark
mark seq conn = record { seq = seq; conn = conn }

pub same_mark-Decides : (a b : Mark) → Decides (same_mark a b) (a ≡ b)
same_mark-Decides a b =
    Decides-like (nat_eq a.seq b.seq && nat_eq a.conn b.conn) (λ p. ap₂ mark p.0 p.1) (λ e. (ap (λ x. x.seq) e, ap (λ x. x.conn) e))
    (Decides-and (nat_eq a.seq b.seq) (nat_eq a.conn b.conn) (Decides-eqb a.seq b.seq) (Decides-eqb a.conn b.conn))

pub same_marks-Decides : (a b : List Mark) → Decides (same_list same_mark a b) (a ≡ b)
same_marks-Decides a b = same_list-Decides same_mark same_mark-Decides a b

-- two stamps that the test holds equal are equal
pub stamps_are_same : (ins other : Mark) (dels others : List Mark) → same_stamps ins dels other others ≡ true → (ins ≡ other) × (dels ≡ others)
stamps_are_same ins other dels others h =
    let parts = both (same_mark ins other) (same_list same_mark dels others) h in
    ((same_mark-Decides ins other).0 parts.0, (same_marks-Decides dels others).0 parts.1)

-- ---- properties

abbrev pair : Characters → ValueBytes → Characters × ValueBytes
pair key value = (key, value)

same_property-Decides : (p q : Characters × ValueBytes) → Decides (bytes_eq p.0 q.0 && bytes_eq p.1 q.1) (p ≡ q)
same_property-Decides p q =
    Decides-like (bytes_eq p.0 q.0 && bytes_eq p.1 q.1) (λ e. ap₂ pair e.0 e.1) (λ e. (ap (λ x. x.0) e, ap (λ x. x.1) e))
    (Decides-and (bytes_eq p.0 q.0) (bytes_eq p.1 q.1) (bytes_eq-Decides p.0 q.0) (bytes_eq-Decides p.1 q.1))

pub same_props-Decides : (p q : PropertyList) → Decides (same_props p q) (p ≡ q)
same_props-Decides p q = same_list-Decides _ same_property-Decides p q
