-- The fields of the objects that operations are written as, each with its value if it is given, and when such an object is
-- canonical and how deep it is.
use Rattle.std.proofs.Common.{◌≡◌, ◌≤◌, ℕ, Bool, true, false, ◌&&◌, List, [], ◌∷◌, Option, Some, None, Ordering, Less, Equal, Greater, refl, nat_cmp, arith}
use Rattle.std.specs.Prelude.{⊤}
use Rattle.std.specs.List.{AllByRecursion}
use Rattle.std.specs.Cmp.Lexicographic.{slice_cmp}
use Rattle.json.proofs.Printed.Utf8.{are_ascii, IsUtf8-are_ascii}
use Rattle.serde_json.specs.Data.{Data, Members, no_members, depth, members_depth}
use Rattle.ft_base.proofs.Booleans.{both, all_three}
use Rattle.ft_json.specs.Canonical.{IsCanonical, MembersAreCanonical, IsBefore}
use Rattle.ft_op.specs.Written.{with_given}

-- the fields that are given, in order
abbrev pub fields : List (List ℕ × Option Data) → Members
fields [] = no_members
fields (f ∷ fs) = with_given f.0 f.1 (fields fs)

abbrev pub is_less : Ordering → Bool
is_less Less = true
is_less Equal = false
is_less Greater = false

-- whether the key comes before each of these
abbrev pub is_before_all : List ℕ → List (List ℕ × Option Data) → Bool
is_before_all key [] = true
is_before_all key (f ∷ fs) = is_less (slice_cmp nat_cmp key f.0) && is_before_all key fs

-- whether the keys are of ASCII characters and rise
abbrev pub keys_rise : List (List ℕ × Option Data) → Bool
keys_rise [] = true
keys_rise (f ∷ fs) = are_ascii f.0 && is_before_all f.0 fs && keys_rise fs

abbrev pub IsCanonicalIfGiven : Option Data → Type 0
IsCanonicalIfGiven None = ⊤
IsCanonicalIfGiven (Some d) = IsCanonical d

less : (o : Ordering) → is_less o ≡ true → o ≡ Less
less Less h = refl
less Equal h = (cc)
less Greater h = (cc)

before : (key next : List ℕ) (o : Option Data) (rest : Members) → slice_cmp nat_cmp key next ≡ Less → IsBefore key rest → IsBefore key (with_given next o rest)
before key next None rest first later = later
before key next (Some d) rest first later = first

before_fields : (key : List ℕ) (fs : List (List ℕ × Option Data)) → is_before_all key fs ≡ true → IsBefore key (fields fs)
before_fields key [] h = tt
before_fields key (f ∷ fs) h =
    let parts = both (is_less (slice_cmp nat_cmp key f.0)) (is_before_all key fs) h in
    before key f.0 f.1 (fields fs) (less (slice_cmp nat_cmp key f.0) parts.0) (before_fields key fs parts.1)

canonical_first : (key : List ℕ) (o : Option Data) (rest : Members) → are_ascii key ≡ true → IsBefore key rest → IsCanonicalIfGiven o → MembersAreCanonical rest → MembersAreCanonical (with_given key o rest)
canonical_first key None rest ascii first h later = later
canonical_first key (Some d) rest ascii first h later = (IsUtf8-are_ascii key ascii, first, h, later)

pub canonical_fields : (fs : List (List ℕ × Option Data)) → keys_rise fs ≡ true → AllByRecursion (λ f. IsCanonicalIfGiven f.1) fs → MembersAreCanonical (fields fs)
canonical_fields [] rise h = tt
canonical_fields (f ∷ fs) rise h =
    let parts = all_three (are_ascii f.0) (is_before_all f.0 fs) (keys_rise fs) rise in
    canonical_first f.0 f.1 (fields fs) parts.0 (before_fields f.0 fs parts.1) h.0 (canonical_fields fs parts.2 h.1)

-- ---- levels

-- the value has at most so many levels, if it is given
abbrev pub HasAtMost : ℕ → Option Data → Type 0
HasAtMost levels None = ⊤
HasAtMost levels (Some d) = depth d ≤ levels

first_within : (levels : ℕ) (key : List ℕ) (o : Option Data) (rest : Members) → HasAtMost levels o → members_depth rest ≤ levels → members_depth (with_given key o rest) ≤ levels
first_within levels key None rest h later = later
first_within levels key (Some d) rest h later = omega arith

pub fields_within : (levels : ℕ) (fs : List (List ℕ × Option Data)) → AllByRecursion (λ f. HasAtMost levels f.1) fs → members_depth (fields fs) ≤ levels
fields_within levels [] h = omega arith
fields_within levels (f ∷ fs) h = first_within levels f.0 f.1 (fields fs) h.0 (fields_within levels fs h.1)
