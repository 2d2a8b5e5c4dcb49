-- A name gives its stage and its number back.
use Rattle.std.specs.Prelude.{◌≡◌, ℕ, Option, Some, None, refl}
use Rattle.ft_plain_lists.specs.declared.names.ElementName.TheInside.{Inside}
use Rattle.ft_plain_lists.specs.Names.{name_of, number_of_name, stage_of_name}

-- the fields of a name
abbrev pub inside : Option ℕ → ℕ → Inside
inside stage nth = record { stage = stage; nth = nth }

-- the name of fields gives them back
pub name_of-back : (stage : Option ℕ) (nth : ℕ) → inside (stage_of_name (name_of stage nth)) (number_of_name (name_of stage nth)) ≡ inside stage nth
name_of-back None nth = refl
name_of-back (Some k) nth = refl
