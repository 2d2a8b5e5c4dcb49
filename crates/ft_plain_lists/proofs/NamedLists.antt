-- Lists by names: what an addition changes.
use Rattle.std.proofs.Common.{◌≡◌, ℕ, Bool, true, false, cond, ◌&&◌, nat_eq, List, [], ◌∷◌, ◌++◌, Option, Some, None, refl, sym, ◌∙◌, ap, arith, append-nil}
use Rattle.std.specs.Global.{Vec}
use Rattle.std.specs.Ordering.{is_eq, nat_cmp, ordering_then}
use Rattle.std.specs.BTreeMap.{is_at}
use Rattle.std.specs.Map.{lookup}
use Rattle.std.specs.Option.{unwrap_or}
use Rattle.std.proofs.lemmas.Bool.Decides.{nat_tests}
use Rattle.ft_props.specs.Element.{ElementId, PendingId, SequencedId, same_id}
use Rattle.ft_plain_lists.specs.NamedLists.{name_cmp, values_in}

numbers : (m n : ℕ) → is_eq (nat_cmp m n) ≡ nat_eq n m
numbers m n = grind (arith, nat_tests)

both : (j k m n : ℕ) → is_eq (ordering_then (nat_cmp j k) (nat_cmp m n)) ≡ (nat_eq k j && nat_eq n m)
both j k m n = grind (arith, nat_tests)

-- names that compare equal are the same
pub equal_names : (x y : ElementId) → is_eq (name_cmp x y) ≡ same_id y x
equal_names (SequencedId m) (SequencedId n) = numbers m n
equal_names (SequencedId m) (PendingId k n) = refl
equal_names (PendingId j m) (SequencedId n) = refl
equal_names (PendingId j m) (PendingId k n) = both j k m n

pub same_name : (x y : ElementId) → same_id x y ≡ true → x ≡ y
same_name (SequencedId m) (SequencedId n) h = let e : m ≡ n = grind (arith, nat_tests) in ap SequencedId e
same_name (SequencedId m) (PendingId k n) h = (cc)
same_name (PendingId j m) (SequencedId n) h = (cc)
same_name (PendingId j m) (PendingId k n) h =
    let e : j ≡ k = grind (arith, nat_tests) in
    let f : m ≡ n = grind (arith, nat_tests) in
    (cc)

or_new : {V : Type 0} (old : Option (Vec V)) (fresh : Vec V) → fresh.items ≡ [] → (unwrap_or old fresh).items ≡ values_in old
or_new (Some list) fresh none = refl
or_new None fresh none = none

-- the list of an entry, or a new one, with one more value
pub pushed : {V : Type 0} (old entry : Option (Vec V)) (fresh here list : Vec V) (value : V) → fresh.items ≡ [] → entry ≡ old → here ≡ unwrap_or entry fresh
    → list.items ≡ here.items ++ value ∷ [] → list.items ≡ values_in old ++ value ∷ []
pushed old entry fresh here list value none is read more =
    more ∙ ap (λ l. l.items ++ value ∷ []) (read ∙ ap (λ o. unwrap_or o fresh) is) ∙ ap (λ vs. vs ++ value ∷ []) (or_new old fresh none)

-- one more value under a name, where the entries are those of before with this list at the name
pub added : {V : Type 0} (x name : ElementId) (old here : Option (Vec V)) (written new : List (ElementId × Vec V)) (list : Vec V) (value : V)
    → new ≡ written
    → lookup (is_at (name_cmp x)) written ≡ cond (is_at (name_cmp name) x) (Some list) old
    → list.items ≡ values_in here ++ value ∷ []
    → (name ≡ x → here ≡ old)
    → values_in (lookup (is_at (name_cmp x)) new) ≡ values_in old ++ cond (same_id x name) (value ∷ []) []
added x name old here written new list value is updated items there =
    ap (λ entries. values_in (lookup (is_at (name_cmp x)) entries)) is
    ∙ ap values_in (updated ∙ ap (λ b. cond b (Some list) old) (equal_names name x)) ∙ step (same_id x name) refl
  where
    step : (b : Bool) → same_id x name ≡ b → values_in (cond b (Some list) old) ≡ values_in old ++ cond b (value ∷ []) []
    step true e = items ∙ ap (λ o. values_in o ++ value ∷ []) (there (sym (same_name x name e)))
    step false e = sym (append-nil (values_in old))
