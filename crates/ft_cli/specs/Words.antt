-- The arguments of the command line, without the program's name.
use Rattle.std.specs.Prelude.{ℕ, ◌-◌, ◌^◌, ◌&&◌, ◌||◌, Bool, true, false, nat_eq, nat_le, nat_lt, slice_index, length, ⊤, List, [], ◌∷◌, Option, Some, None, bytes_eq, codes, map, string_bytes, if◌then◌else◌}
use Rattle.std.specs.Char.{is_ascii_digit}
use Rattle.std.specs.List.{list_all}
use Rattle.std.specs.Str.Parse.{digits_value}
use Rattle.std.specs.declared.alloc.Global.{Global}
use Rattle.std.specs.declared.string.String.{String}
use Rattle.ft_replay.specs.declared.settings.Settings.{Settings}
use Rattle.ft_replay.specs.Generated.{IsWithinLimits}
use Rattle.ft_cli.specs.declared.words.Form.{Form}
use Rattle.ft_cli.specs.declared.words.Form.TheVariants.{Gen, Load, Log, Map, Play, Session}

-- the arguments, each by its bytes
abbrev pub texts_of : List (String Global) → List (List ℕ)
texts_of words = map string_bytes words

-- the settings of a command, if it has some, are within these limits
abbrev pub IsFormWithinLimits : Form → Type 0
IsFormWithinLimits (Gen settings) = IsWithinLimits settings
IsFormWithinLimits (Play settings) = IsWithinLimits settings
IsFormWithinLimits _ = ⊤

-- whether a command reads its input
abbrev pub reads_input : Form → Bool
reads_input (Gen settings) = false
reads_input (Play settings) = false
reads_input _ = true

-- whether an argument is a number in decimal digits: no sign, and no zero in front of other digits
abbrev pub is_numeral : List ℕ → Bool
is_numeral word = list_all is_ascii_digit word && (nat_lt 48 (slice_index word 0) || nat_eq (length word) 1)

-- the number that an argument is, if it is one within these bounds
unfoldable pub number_within : ℕ → ℕ → List ℕ → Option ℕ
number_within least greatest word =
    if is_numeral word && (nat_le least (digits_value 10 word) && nat_le (digits_value 10 word) greatest) then Some (digits_value 10 word) else None

-- the settings that three arguments are, if they are some
abbrev pub settings_of : List ℕ → List ℕ → List ℕ → Option Settings
settings_of clients edits seed = elim (number_within 1 16 clients) [
  | None ↦ None
  | Some c ↦ elim (number_within 0 1000000 edits) [
    | None ↦ None
    | Some e ↦ elim (number_within 0 (2 ^ 64 - 1) seed) [ None ↦ None | Some s ↦ Some (record { clients = c; edits = e; seed = s }) ]
  ]
]

-- the command that is one argument, if it is one
abbrev pub form_of_word : List ℕ → Option Form
form_of_word word =
    if bytes_eq word (codes "log") then Some Log
    else (if bytes_eq word (codes "load") then Some Load
    else (if bytes_eq word (codes "session") then Some Session
    else (if bytes_eq word (codes "map") then Some Map else None)))

-- the command that is one argument with settings, if it is one
abbrev pub form_with : List ℕ → Settings → Option Form
form_with word settings =
    if bytes_eq word (codes "gen") then Some (Gen settings) else (if bytes_eq word (codes "play") then Some (Play settings) else None)

-- the command that the arguments are, if they are one
abbrev pub form_of : List (List ℕ) → Option Form
form_of (word ∷ []) = form_of_word word
form_of (word ∷ clients ∷ edits ∷ seed ∷ []) = elim (settings_of clients edits seed) [ None ↦ None | Some settings ↦ form_with word settings ]
form_of _ = None
