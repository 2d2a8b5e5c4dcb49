-- What is known where a chain of steps ended well.
use Rattle.std.proofs.Common.{◌≡◌, Bool, true, false, cond, Option, Some, None, Result, Ok, Err, IfOk, refl, sym}
use Rattle.std.specs.Option.{ok_or}
use Rattle.serde_json.specs.Data.{Data}
use Rattle.ft_json.specs.declared.fields.Field.{Field}
use Rattle.ft_json.specs.Reading.{read_or_fault}
use Rattle.ft_op.specs.Reading.{◌>>=◌, with_fault}

pub read_step : {A B F : Type 0} (r : Result A F) (f : A → Result B F) (y : B) → (r >>= f) ≡ Ok y → (x : A) × (r ≡ Ok x) × (f x ≡ Ok y)
read_step (Ok x) f y e = (x, refl, e)
read_step (Err fault) f y e = (cc)

pub fault_step : {A B F G : Type 0} (fault_of : F → G) (r : Result A F) (f : A → Result B G) (y : B) → (with_fault fault_of r >>= f) ≡ Ok y → (x : A) × (r ≡ Ok x) × (f x ≡ Ok y)
fault_step fault_of (Ok x) f y e = (x, refl, e)
fault_step fault_of (Err fault) f y e = (cc)

-- a test that had to hold, and one that had to fail
pub test_held : {A F : Type 0} (b : Bool) (x : Result A F) (fault : F) (y : A) → cond b x (Err fault) ≡ Ok y → (b ≡ true) × (x ≡ Ok y)
test_held true x fault y e = (refl, e)
test_held false x fault y e = (cc)

pub test_failed : {A F : Type 0} (b : Bool) (fault : F) (x : Result A F) (y : A) → cond b (Err fault) x ≡ Ok y → (b ≡ false) × (x ≡ Ok y)
test_failed true fault x y e = (cc)
test_failed false fault x y e = (refl, e)

-- what ended well ended so with one value
pub same_value : {A F : Type 0} (x y : A) (r : Result A F) → r ≡ Ok x → r ≡ Ok y → x ≡ y
same_value x y r e f = cc

found_value : {A F : Type 0} (o : Option A) (fault : F) (x : A) → ok_or o fault ≡ Ok x → o ≡ Some x
found_value None fault x e = (cc)
found_value (Some a) fault x e = cc

-- a field that was read has a value
pub field_value : {A : Type 0} (reads : Data → Option A) (f : Field) (o : Option Data) (x : A) → read_or_fault reads f o ≡ Ok x → (d : Data) × (reads d ≡ Some x)
field_value reads f None x e = (cc)
field_value reads f (Some d) x e = (d, found_value (reads d) _ x e)

-- what holds of each value that a definition gives holds of what was found by it
pub if_ok-of : {A F : Type 0} (P : A → Type 0) (found given : Result A F) → found ≡ given → ((x : A) → given ≡ Ok x → P x) → IfOk found P
if_ok-of P (Ok x) given e f = f x (sym e)
if_ok-of P (Err fault) given e f = tt

-- two facts on what was found, and what they say together
pub if_ok-both : {A F : Type 0} (P Q R : A → Type 0) (found : Result A F) → ((x : A) → P x → Q x → R x) → IfOk found P → IfOk found Q → IfOk found R
if_ok-both P Q R (Ok x) f h k = f x h k
if_ok-both P Q R (Err fault) f h k = tt
