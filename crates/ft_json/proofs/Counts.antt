-- Counts are below 2^53.
use Rattle.std.proofs.Common.{◌≡◌, ℕ, ◌<◌, ◌^◌, Bool, true, false, cond, Option, Some, None, Ok, refl, subst, nat_lt, ltb-true}
use Rattle.std.specs.Prelude.{option_and_then}
use Rattle.std.specs.Option.{ok_or}
use Rattle.serde_json.specs.Data.{Data}
use Rattle.serde_json.specs.Find.{as_number, as_u64}
use Rattle.ft_json.specs.declared.fields.Field.{Field}
use Rattle.ft_json.specs.declared.faults.FieldFault.{FieldFault}
use Rattle.ft_json.specs.Reading.{count, count_field, field, read_or_fault}

-- the number that passes the test
passed : (b : Bool) (m n : ℕ) → nat_lt m (2 ^ 53) ≡ b → cond b (Some m) None ≡ Some n → n < 2 ^ 53
passed true m n below e = let same : m ≡ n = cc in subst (λ k. k < 2 ^ 53) same (ltb-true m (2 ^ 53) below)
passed false m n below e = (cc)

below : (o : Option ℕ) (n : ℕ) → option_and_then (λ m. cond (nat_lt m (2 ^ 53)) (Some m) None) o ≡ Some n → n < 2 ^ 53
below None n e = (cc)
below (Some m) n e = passed (nat_lt m (2 ^ 53)) m n refl e

pub count-below : (d : Data) (n : ℕ) → count d ≡ Some n → n < 2 ^ 53
unfolding count
count-below d n e = below (option_and_then as_u64 (as_number d)) n e

found : (o : Option ℕ) (fault : FieldFault) (n : ℕ) → ok_or o fault ≡ Ok n → o ≡ Some n
found None fault n e = (cc)
found (Some m) fault n e = (cc)

read : (f : Field) (o : Option Data) (n : ℕ) → read_or_fault count f o ≡ Ok n → n < 2 ^ 53
read f None n e = (cc)
read f (Some d) n e = count-below d n (found (count d) _ n e)

pub count_field-below : (d : Data) (f : Field) (n : ℕ) → count_field d f ≡ Ok n → n < 2 ^ 53
unfolding count_field
count_field-below d f n e = read f (field d f) n e
