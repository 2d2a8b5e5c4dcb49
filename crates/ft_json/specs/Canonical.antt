-- The values that are kept and written, and the one text of each.
use Rattle.std.specs.Prelude.{◌≡◌, ℕ, ◌^◌, ◌≤◌, pos, negsuc, Bool, true, false, ◌&&◌, nat_lt, if◌then◌else◌, List, Result, Ok, Err, unwrap_or, ⊤}
use Rattle.std.specs.Str.{IsUtf8}
use Rattle.std.specs.Ordering.{nat_cmp}
use Rattle.std.specs.declared.cmp.Ordering.TheVariants.{Less}
use Rattle.std.specs.Cmp.Lexicographic.{slice_cmp}
use Rattle.serde_json.specs.Data.{Num, unsigned, negative, float, Data, null, boolean, number, string, array, object, Items, no_items, item, Members, no_members, member, depth}
use Rattle.serde_json.specs.Read.{read}
use Rattle.serde_json.specs.Written.{compact_text}
use Rattle.ft_json.specs.Bounds.{kept_levels}
use Rattle.ft_json.specs.declared.faults.JsonFault.{JsonFault}
use Rattle.ft_json.specs.declared.faults.JsonFault.TheVariants.{TooDeep, Fraction}

-- whether it is a whole number from -9223372036854775808 to 18446744073709551615; a float is none, and -0 is a float
abbrev pub is_whole : Num → Bool
is_whole (unsigned n) = nat_lt n (2 ^ 64)
is_whole (negative (pos n)) = false
is_whole (negative (negsuc n)) = nat_lt n (2 ^ 63)
is_whole (float x) = false

-- whether each number inside is such a whole number
abbrev mutual
  pub has_whole_numbers : Data → Bool
  has_whole_numbers null = true
  has_whole_numbers (boolean b) = true
  has_whole_numbers (number n) = is_whole n
  has_whole_numbers (string s) = true
  has_whole_numbers (array ds) = items_have_whole_numbers ds
  has_whole_numbers (object ms) = members_have_whole_numbers ms

  pub items_have_whole_numbers : Items → Bool
  items_have_whole_numbers no_items = true
  items_have_whole_numbers (item d ds) = has_whole_numbers d && items_have_whole_numbers ds

  pub members_have_whole_numbers : Members → Bool
  members_have_whole_numbers no_members = true
  members_have_whole_numbers (member k d ms) = has_whole_numbers d && members_have_whole_numbers ms

-- the key comes before the first of the members, by its bytes
abbrev pub IsBefore : List ℕ → Members → Type 0
IsBefore k no_members = ⊤
IsBefore k (member l d ms) = slice_cmp nat_cmp k l ≡ Less

-- each number inside is such a whole number, each text is UTF-8, and in each object the keys rise by their bytes
abbrev mutual
  pub IsCanonical : Data → Type 0
  IsCanonical null = ⊤
  IsCanonical (boolean b) = ⊤
  IsCanonical (number n) = is_whole n ≡ true
  IsCanonical (string s) = IsUtf8 s
  IsCanonical (array ds) = ItemsAreCanonical ds
  IsCanonical (object ms) = MembersAreCanonical ms

  pub ItemsAreCanonical : Items → Type 0
  ItemsAreCanonical no_items = ⊤
  ItemsAreCanonical (item d ds) = IsCanonical d × ItemsAreCanonical ds

  pub MembersAreCanonical : Members → Type 0
  MembersAreCanonical no_members = ⊤
  MembersAreCanonical (member k d ms) = IsUtf8 k × IsBefore k ms × IsCanonical d × MembersAreCanonical ms

-- the bytes are the compact text of such a value, of any number of levels
abbrev pub IsCanonicalText : List ℕ → Type 0
IsCanonicalText text = (d : Data) × IsCanonical d × (text ≡ compact_text d)

-- the bytes are the compact text of such a value, of at most so many levels
abbrev pub IsTextWithin : ℕ → List ℕ → Type 0
IsTextWithin levels text = (d : Data) × IsCanonical d × (depth d ≤ levels) × (text ≡ compact_text d)

-- the value that such a text of at most 127 levels stands for; null for any other
abbrev pub value_of : List ℕ → Data
value_of text = unwrap_or (read text) null

-- the compact text of a value that is kept: it has at most 100 levels, and each number inside is such a whole number
unfoldable pub canonical : Data → Result (List ℕ) JsonFault
canonical d = if nat_lt kept_levels (depth d) then Err TooDeep else (if has_whole_numbers d then Ok (compact_text d) else Err Fraction)
