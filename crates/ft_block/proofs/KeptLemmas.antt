-- What a block keeps, after a change of its leaves.
use Rattle.std.proofs.Common.{◌≡◌, ℕ, ◌+◌, ◌-◌, ◌^◌, ◌%◌, ◌<◌, [], Option, Some, None, inl, inr, Bool, true, false, cond, refl, sym, ap, ◌∙◌, arith}
use Rattle.std.proofs.lemmas.Bool.{cases_eq}
use Rattle.std.specs.Prelude.{OnOk, Result, Ok, Err}
use Rattle.ft_base.specs.declared.elements.Element.{Element}
use Rattle.ft_base.specs.Visibility.{seen_at}
use Rattle.ft_arena.specs.declared.nodes.Node.{Node}
use Rattle.ft_arena.specs.declared.nodes.Node.TheVariants.{Leaf, Block}
use Rattle.ft_arena.specs.Forest.{Forest, Changes, entry, block_value, block_of_entry}
use Rattle.ft_partial.specs.Entries.{amount}
use Rattle.ft_partial.specs.Tables.{length_at, SameFrom, Exchanges}
use Rattle.ft_shape.specs.declared.headed.Headed.{Headed}
use Rattle.ft_block.specs.declared.summaries.Summary.{Summary}
use Rattle.ft_block.specs.declared.leaves.View.{View}
use Rattle.ft_block.specs.declared.leaves.View.TheVariants.{Of, Removed}
use Rattle.ft_block.specs.declared.leaves.LenView.TheVariants.{At, Stage, All}
use Rattle.ft_block.specs.Tree.{shows, shown_length, AreFromFloor, IsNodeFrom, kept_length, HasRange, KeepsLengths, KeepsExchange, KeepsNode}

exchanged_local : (local gone come now : ℕ) → gone < 2 ^ 64 → now ≡ (local + (come + (18446744073709551616 - gone)) % 18446744073709551616) % 2 ^ 64
    → (now + gone) % 2 ^ 64 ≡ (local + come) % 2 ^ 64
exchanged_local local gone come now h e = omega arith

-- what is kept after elements were exchanged
pub exchange_keeps : (floor : ℕ) (old new : Summary) (cleared removed n m : ℕ) (e f : Element) → n < 2 ^ 64 → cleared < 2 ^ 64
    → cleared ≡ amount (shows Removed e) n → removed ≡ amount (shows Removed f) m → old.table.floor ≡ floor
    → new.whole ≡ (old.whole + (m + (18446744073709551616 - n)) % 18446744073709551616) % 2 ^ 64
    → new.removed ≡ (old.removed + (removed + (18446744073709551616 - cleared)) % 18446744073709551616) % 2 ^ 64
    → Exchanges old.table new.table e n f m
    → ((k : ℕ) → k < 2 ^ 64 → (length_at new.stages k 1 + amount (seen_at e k) n) % 2 ^ 64 ≡ (length_at old.stages k 1 + amount (seen_at f k) m) % 2 ^ 64)
    → KeepsExchange floor old new e n f m
exchange_keeps floor old new cleared removed n m e f few cl kr ks from all gone ex stages (Of (At at)) (low, high, conn) =
    ex at.r at.c (omega (arith, from, low)) high conn
exchange_keeps floor old new cleared removed n m e f few cl kr ks from all gone ex stages (Of (Stage k)) low = stages k low
exchange_keeps floor old new cleared removed n m e f few cl kr ks from all gone ex stages (Of All) h = exchanged_local old.whole n m new.whole few all
exchange_keeps floor old new cleared removed n m e f few cl kr ks from all gone ex stages Removed h =
    ap (λ (x : ℕ). (new.removed + x) % 2 ^ 64) (sym kr)
    ∙ exchanged_local old.removed cleared removed new.removed cl gone ∙ ap (λ (x : ℕ). (old.removed + x) % 2 ^ 64) ks

-- what is kept of a view stays where the floor is raised
kept_raised : (floor : ℕ) (old mid : Summary) → mid.whole ≡ old.whole → mid.removed ≡ old.removed
    → ((r c : ℕ) → length_at mid.stages r c ≡ length_at old.stages r c) → SameFrom floor old.table mid.table
    → (view : View) → KeepsLengths floor view → kept_length view mid ≡ kept_length view old
kept_raised floor old mid whole removed stages same (Of (At at)) (low, high, conn) = same at.r at.c low high conn
kept_raised floor old mid whole removed stages same (Of (Stage k)) h = stages k 1
kept_raised floor old mid whole removed stages same (Of All) h = whole
kept_raised floor old mid whole removed stages same Removed h = removed

-- what is exchanged where the floor was raised before
pub exchange_raised : (floor : ℕ) (old mid new : Summary) (e f : Element) (n m : ℕ) → mid.whole ≡ old.whole → mid.removed ≡ old.removed
    → ((r c : ℕ) → length_at mid.stages r c ≡ length_at old.stages r c) → SameFrom floor old.table mid.table
    → KeepsExchange floor mid new e n f m → KeepsExchange floor old new e n f m
exchange_raised floor old mid new e f n m whole removed stages same ex view kept =
    ex view kept ∙ ap (λ (x : ℕ). (x + amount (shows view f) m) % 2 ^ 64) (kept_raised floor old mid whole removed stages same view kept)

pub kept_low : (v : Summary) → HasRange v → (view : View) → kept_length view v < 2 ^ 64
unfolding length_at
kept_low v h (Of (At at)) = omega arith
kept_low v h (Of (Stage k)) = omega arith
kept_low v h (Of All) = h.0
kept_low v h Removed = h.1

-- of a value that is there both hold
pub on_ok_both : {T E : Type 0} (P Q : Type 0) (r : Result T E) → OnOk r P → OnOk r Q → OnOk r (P × Q)
on_ok_both P Q (Ok x) p q = (p, q)
on_ok_both P Q (Err e) p q = tt

amount_none : (b : Bool) → amount b 0 ≡ 0
amount_none true = refl
amount_none false = refl

-- elements that come where none were
pub exchange_adds : {L : Type 0} (size : L → ℕ) (element : L → Element) (floor : ℕ) (old new : Summary) (leaf : L) (e : Element) (n : ℕ) → e ≡ element leaf
    → n ≡ size leaf → HasRange new → KeepsExchange floor old new e 0 e n → KeepsNode size element floor old (Leaf leaf) new
exchange_adds size element floor old new leaf e n is many low ex view kept =
    let here : amount (shows view e) n ≡ shown_length size element view leaf =
    ap (λ z. amount (shows view z) n) is ∙ ap (λ (k : ℕ). cond (shows view (element leaf)) k 0) many in
    omega (arith, ex view kept, amount_none (shows view e), here, kept_low new low view)

-- what is kept has one more node's length, where the sum of all is small
pub one_more : (kept kept' n rest whole : ℕ) → kept' ≡ (kept + n) % 2 ^ 64 → kept + (n + rest) ≡ whole → whole < 2 ^ 64 → kept' + rest ≡ whole
one_more kept kept' n rest whole e so_far fits = omega arith

-- a node that is read has a table with a floor up to this one
pub node_from : {L : Type 0} (floor : ℕ) (s : Forest L (Headed Summary)) (id : ℕ) (n : Node L (Headed Summary)) (p : Option ℕ)
    → AreFromFloor floor s → entry s id ≡ Some record { node = n; parent = p } → IsNodeFrom floor n
node_from floor s id (Leaf v) p all e = tt
node_from floor s id (Block ks v) p all e = all id v (ap block_of_entry e)

-- the block that is behind has what it owes
pub settled : (kept' kept more less t : ℕ) → (kept' + less) % 2 ^ 64 ≡ (kept + more) % 2 ^ 64 → kept + more ≡ t + less → kept' < 2 ^ 64 → t < 2 ^ 64 → kept' ≡ t
settled kept' kept more less t e owes low fits =
    let q : (kept' + less) % 2 ^ 64 ≡ (t + less) % 2 ^ 64 = e ∙ ap (λ (x : ℕ). x % 2 ^ 64) owes in
    omega (arith, q)

-- the tables' floors where blocks keep their values, or a new block comes
pub same_floors : {L : Type 0} (floor : ℕ) (s s' : Forest L (Headed Summary)) → ((x : ℕ) → block_value s' x ≡ block_value s x)
    → AreFromFloor floor s → AreFromFloor floor s'
same_floors floor s s' same all x v e = all x v (sym (same x) ∙ e)

pub added_floors : {L : Type 0} (floor : ℕ) (s s' : Forest L (Headed Summary)) (id : ℕ) (z : Headed Summary) (p : Option ℕ)
    → Changes s s' id (Some record { node = Block [] z; parent = p }) → z.sum.table.floor ≡ floor → AreFromFloor floor s → AreFromFloor floor s'
added_floors floor s s' id z p c is all x v e = elim (cases_eq x id) [
  | inl q ↦
      let now : Some v ≡ Some z = sym e ∙ ap (block_value s') q ∙ ap block_of_entry c.changed in
      let same : v ≡ z = cc now in
      omega (arith, ap (λ (y : Headed Summary). y.sum.table.floor) same, is)
  | inr d ↦ all x v (sym (ap block_of_entry (c.others x d)) ∙ e)
]

-- a new leaf brings no table
pub linked_floors : {L : Type 0} (floor : ℕ) (s s' : Forest L (Headed Summary)) (id : ℕ) (leaf : L) (p : Option ℕ)
    → Changes s s' id (Some record { node = Leaf leaf; parent = p })
    → AreFromFloor floor s → AreFromFloor floor s'
linked_floors floor s s' id leaf p c all x v e = elim (cases_eq x id) [
  | inl q ↦ let now : Some v ≡ None = sym e ∙ ap (block_value s') q ∙ ap block_of_entry c.changed in cc now
  | inr d ↦ all x v (sym (ap block_of_entry (c.others x d)) ∙ e)
]

-- no table has a floor where there is no node
pub bare_floors : {L : Type 0} (floor : ℕ) (s : Forest L (Headed Summary)) → ((x : ℕ) → entry s x ≡ None) → AreFromFloor floor s
bare_floors floor s none x v e = let q : None ≡ Some v = sym (ap block_of_entry (none x)) ∙ e in cc q
