-- Values that are kept under their names.
use Rattle.std.specs.Prelude.{◌≡◌, false, ℕ, Bool, List, String, bytes_eq, map}
use Rattle.std.specs.List.{list_any}
use Rattle.std.specs.Map.{values_of}
use Rattle.std.specs.declared.alloc.Global.{Global}
use Rattle.ft_msg.specs.NameTable.{KeysSpellNames}

module _ {X : Type 0} (name_of : X → List ℕ) where
  -- whether this is its name
  abbrev pub is_named : List ℕ → X → Bool
  is_named name x = bytes_eq name (name_of x)

  -- each is kept under the characters of its name
  abbrev pub AreUnderNames : List (String Global × X) → Type 0
  AreUnderNames entries = KeysSpellNames (map (λ e. (e.0, name_of e.1)) entries)

  -- they are, the value has this name, and no other has it
  pub record IsNewUnder (entries : List (String Global × X)) (name : List ℕ) (value : X) : Type 0 where
    pub under : AreUnderNames entries
    pub named : name_of value ≡ name
    pub free : list_any (is_named name) (values_of entries) ≡ false
