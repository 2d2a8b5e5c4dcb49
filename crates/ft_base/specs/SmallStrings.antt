-- The bytes of a string, in place or not.
use Rattle.std.specs.Prelude.{ℕ, List, string_bytes}
use Rattle.ft_base.specs.declared.small_strings.Storage.{Storage}
use Rattle.ft_base.specs.declared.small_strings.Storage.TheVariants.{Few, Many}

abbrev pub bytes_of : Storage → List ℕ
bytes_of (Few text) = text.bytes
bytes_of (Many text) = string_bytes text
