-- Reading an array: its items one by one, and whether they may stand together.
use Rattle.std.proofs.Common.{◌≡◌, ◌∙◌, Bool, true, false, List, Option, Some, None, ap}
use Rattle.serde_json.specs.Data.{Data}
use Rattle.ft_json.specs.Reading.{items}
use Rattle.ft_sumdoc.specs.Forms.{◌>>=◌, array_form, each_of, where_true}

module _ {B : Type 0} (form : Data → Option B) (together : List B → Bool) where
  abbrev fitting : Option (List B) → Option (List B)
  fitting o = o >>= λ xs. where_true (together xs) xs

  -- what is no array has not the form
  pub no_array : (d : Data) → items d ≡ None → array_form form together d ≡ None
  no_array d h = ap (λ (o : Option (List Data)). o >>= λ ds. fitting (each_of form ds)) h

  read_each_of : (d : Data) (ds : List Data) → items d ≡ Some ds → array_form form together d ≡ fitting (each_of form ds)
  read_each_of d ds h = ap (λ (o : Option (List Data)). o >>= λ es. fitting (each_of form es)) h

  -- nor has an array with an item that has not its form
  pub no_items : (d : Data) (ds : List Data) → items d ≡ Some ds → each_of form ds ≡ None → array_form form together d ≡ None
  no_items d ds h k = read_each_of d ds h ∙ ap fitting k

  -- items that may stand together are those of the array
  pub all_items : (d : Data) (ds : List Data) (xs : List B) → items d ≡ Some ds → each_of form ds ≡ Some xs → together xs ≡ true
      → array_form form together d ≡ Some xs
  all_items d ds xs h k fit = read_each_of d ds h ∙ ap fitting k ∙ ap (λ (b : Bool). where_true b xs) fit

  -- where they may not, it has not the form
  pub not_together : (d : Data) (ds : List Data) (xs : List B) → items d ≡ Some ds → each_of form ds ≡ Some xs → together xs ≡ false
      → array_form form together d ≡ None
  not_together d ds xs h k fit = read_each_of d ds h ∙ ap fitting k ∙ ap (λ (b : Bool). where_true b xs) fit
