-- Laws of the texts of values, and of the order of keys.
use Rattle.std.specs.Prelude.{◌≡◌, ℕ, ◌≤◌, List, Ok, encode_utf8_all}
use Rattle.std.specs.Ordering.{nat_cmp}
use Rattle.std.specs.Cmp.Lexicographic.{slice_cmp}
use Rattle.serde_json.specs.Data.{Data, depth}
use Rattle.serde_json.specs.Written.{compact_text}
use Rattle.ft_json.specs.Bounds.{read_levels}
use Rattle.ft_json.specs.Reading.{read_line}
use Rattle.ft_json.specs.Canonical.{IsCanonical}

-- the compact text of a canonical value of at most 127 levels reads back as that value
abbrev pub TextsReadBack : Type 0
TextsReadBack = (d : Data) → IsCanonical d → depth d ≤ read_levels → read_line (compact_text d) ≡ Ok d

-- no two such values have one text
abbrev pub TextsTellApart : Type 0
TextsTellApart = (d e : Data) → IsCanonical d → IsCanonical e → depth d ≤ read_levels → depth e ≤ read_levels → compact_text d ≡ compact_text e → d ≡ e

-- texts are in one order by their characters and by their UTF-8 bytes
abbrev pub OrdersAgree : Type 0
OrdersAgree = (cs ds : List ℕ) → slice_cmp nat_cmp (encode_utf8_all cs) (encode_utf8_all ds) ≡ slice_cmp nat_cmp cs ds
