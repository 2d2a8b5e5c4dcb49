-- The members that the object of an event is put together of.
use Rattle.std.proofs.Common.{◌≡◌, ℕ, zero, suc, Option, Some, None, codes, refl, option_map}
use Rattle.serde_json.specs.Data.{Members, member, no_members, object, put}
use Rattle.ft_props.specs.Properties.{Characters}
use Rattle.ft_op.specs.Written.{put_given, with_given, written_count, written_text}
use Rattle.ft_seqr.specs.declared.events.HowMany.{HowMany}
use Rattle.ft_seqr.specs.declared.events.HowMany.TheVariants.{Num, All}
use Rattle.ft_seqr.specs.WrittenEvent.{with_word, written_how_many}

-- the members of an event of this word that has a client alone
abbrev pub client_members : Characters → Characters → Members
client_members word client = member (codes "client") (written_text client) (with_word word no_members)

-- equal objects have equal members
pub same_members : (xs ys : Members) → object xs ≡ object ys → xs ≡ ys
same_members xs ys e = cc

-- a count stands before the word
pub count_put : (word client : Characters) (n : HowMany)
    → put_given (codes "count") (written_how_many n) (client_members word client)
    ≡ member (codes "client") (written_text client) (with_given (codes "count") (written_how_many n) (with_word word no_members))
count_put word client All = refl
count_put word client (Num zero) = refl
count_put word client (Num (suc zero)) = refl
count_put word client (Num (suc (suc n))) = refl

-- a number that isn't 1 is put
pub number_put : (n : ℕ) (xs : Members) → (n ≡ 1 → ⊥)
    → put (codes "count") (written_count n) xs ≡ put_given (codes "count") (written_how_many (Num n)) xs
number_put zero xs h = refl
number_put (suc zero) xs h = absurd (h refl)
number_put (suc (suc n)) xs h = refl

-- the client that a new one starts from stands behind the word
pub from_put : (word client : Characters) (from : Option Characters)
    → put_given (codes "from") (option_map written_text from) (client_members word client)
    ≡ member (codes "client") (written_text client) (with_word word (with_given (codes "from") (option_map written_text from) no_members))
from_put word client None = refl
from_put word client (Some name) = refl
