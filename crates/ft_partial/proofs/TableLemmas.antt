-- What a table says, and what it stands for, through its changes.
use Rattle.std.proofs.Common.{◌≡◌, ℕ, ◌+◌, ◌-◌, ◌<◌, ◌≤◌, ◌%◌, ◌^◌, Bool, true, false, not, cond, ◌&&◌, ◌||◌, nat_le, nat_eq, List, [], ◌∷◌, ◌++◌, refl, sym, ◌∙◌, ap, arith}
use Rattle.std.specs.List.{list_any}
use Rattle.std.proofs.lemmas.Bool.Decides.{nat_tests}
use Rattle.ft_base.specs.declared.stamps.Stamp.{Stamp}
use Rattle.ft_base.specs.declared.stamps.Stamp.TheVariants.{Acked, Local}
use Rattle.ft_base.specs.declared.elements.Element.{Element}
use Rattle.ft_base.specs.Visibility.{has_occurred, is_acked, is_present, sees}
use Rattle.ft_partial.specs.declared.entries.Entry.{Entry}
use Rattle.ft_partial.specs.Entries.{amount, unseen, last_number, AreUpTo, AddsEntries, DropsOld}
use Rattle.ft_partial.specs.Stages.{AreStages}
use Rattle.ft_partial.specs.Elements.{last_length, AddsItem}
use Rattle.ft_partial.specs.Items.{Item, item_of, inserted_element, length_where, length_seen, is_at_most, folded_stamp, folded_item, folded_items}
use Rattle.ft_partial.specs.SameStamps.{ExchangesItem, SameByStamps}
use Rattle.ft_partial.specs.Tables.{Lengths, length_at, CountsItems, Adds, Exchanges, AddsAll, AddsChange, AddsForAll, SameFrom}
use Rattle.ft_partial.proofs.EntryLemmas.{up_to_weaker, unseen_none}
use Rattle.ft_partial.proofs.SumsByStamps.{same_sums}

pub length_at-fits : (t : Lengths) (r c : ℕ) → length_at t r c < 2 ^ 64
unfolding length_at
length_at-fits t r c = omega arith

-- what all see in the end and what the perspective counts besides make up the length
pub length_at_is : (t : Lengths) (last : ℕ) (entries : List Entry) (r c n : ℕ) → last ≡ t.last → entries ≡ t.entries → n ≡ unseen r c entries % 2 ^ 64 → (last + n) % 2 ^ 64 ≡ length_at t r c
unfolding length_at
length_at_is t last entries r c n el ee en = omega (arith, el, en, ap (unseen r c) ee)

-- who has seen the latest number sees what all see in the end
pub length_at-latest : (t : Lengths) (latest last : ℕ) (entries : List Entry) (r c : ℕ) → last ≡ t.last → entries ≡ t.entries → AreUpTo latest entries → latest ≤ r → last < 2 ^ 64
    → last ≡ length_at t r c
unfolding length_at
length_at-latest t latest last entries r c el ee up h fits =
    omega (arith, el, sym (ap (unseen r c) ee), unseen_none r c entries (up_to_weaker latest r entries h up))

-- so does who has seen the last number that there is
pub length_at-last : (t : Lengths) (last : ℕ) (entries : List Entry) (r c : ℕ) → last ≡ t.last → entries ≡ t.entries → AreStages entries → r ≡ last_number → last < 2 ^ 64
    → last ≡ length_at t r c
unfolding length_at
length_at-last t last entries r c el ee stages is fits =
    omega (arith, el, sym (ap (unseen r c) ee), ap (λ k. unseen k c entries) is, stages.at_last c)

-- entries of stages, and more of them
pub stages_more : (old new more : List Entry) → AreStages old → AddsEntries old new more → AreStages new
stages_more old new more stages adds = record {
  rising = adds.rising;
  at_last = λ c. omega (arith, adds.sums last_number c, stages.at_last c, unseen_none last_number c more adds.numbers);
}

-- no list is seen to be longer than it is
pub seen-le : (r c : ℕ) (xs : List Item) → length_seen r c xs ≤ length_where (λ e. true) xs
seen-le r c [] = omega arith
seen-le r c (x ∷ xs) = go (sees x.element r c) (seen-le r c xs)
  where
    go : (b : Bool) → length_seen r c xs ≤ length_where (λ e. true) xs → cond b x.len 0 + length_seen r c xs ≤ x.len + length_where (λ e. true) xs
    go true h = omega arith
    go false h = omega arith

-- so where a list has less than 2 ^ 64 elements, each perspective from the floor up has the exact number
pub length_at-exact : (t : Lengths) (xs : List Item) → CountsItems t xs → length_where (λ e. true) xs < 2 ^ 64
    → (r c : ℕ) → t.floor ≤ r → r < 2 ^ 64 → c < 2 ^ 32 → length_at t r c ≡ length_seen r c xs
length_at-exact t xs stands fits r c hf hr hc = omega (arith, stands r c hf hr hc, seen-le r c xs)

pub stands-none : (t : Lengths) → t.last ≡ 0 → t.entries ≡ [] → CountsItems t []
unfolding length_at
stands-none t last none r c hf hr hc = omega (arith, last, ap (unseen r c) none)

-- entries are put in
pub adds_change : (old new : Lengths) (entries more : List Entry) (last by : ℕ) → entries ≡ old.entries → last ≡ old.last → AddsEntries entries new.entries more
    → new.last ≡ (last + by) % 2 ^ 64 → AddsChange old new more by
unfolding length_at
adds_change old new entries more last by ee el adds is r c = omega (arith, adds.sums r c, is, el, ap (unseen r c) ee)

-- elements that all see
pub adds_for_all : (old new : Lengths) (n last : ℕ) → last ≡ old.last → new.entries ≡ old.entries → new.last ≡ (last + n) % 2 ^ 64 → AddsForAll old new n
unfolding length_at
adds_for_all old new n last el entries is r c = omega (arith, el, is, ap (unseen r c) entries)

pub opposite : (b : Bool) (n less : ℕ) → n < 2 ^ 64 → less ≡ (2 ^ 64 - n) % 2 ^ 64 → (amount b n + amount b less) % 2 ^ 64 ≡ 0
opposite true n less h e = omega arith
opposite false n less h e = refl

-- those of one element, and those of another one with the opposite number
pub exchanges_change : (old new : Lengths) (floor : ℕ) (none mid more : List Entry) (e f : Element) (n m less last gone come : ℕ) → n < 2 ^ 64 → less ≡ (2 ^ 64 - n) % 2 ^ 64
    → floor ≡ old.floor → none ≡ [] → AddsItem floor none mid f m → AddsItem floor mid more e less → gone ≡ last_length e n → come ≡ last_length f m → gone < 2 ^ 64
    → last ≡ (come + (2 ^ 64 - gone)) % 2 ^ 64 → AddsChange old new more last → Exchanges old new e n f m
exchanges_change old new floor none mid more e f n m less last gone come hn hl ef en into out eg ec hg el change r c hf hr hc =
    let from : floor ≤ r = omega arith in
    omega (
      arith,
      change r c,
      into r c from hr hc,
      out r c from hr hc,
      ap (unseen r c) en,
      opposite (sees e r c) n less hn hl,
      last_opposite,
      eg,
      ec,
      el,
    )
  where
    last_opposite : (last_length e n + last_length e less) % 2 ^ 64 ≡ 0
    last_opposite = opposite (is_present is_acked e) n less hn hl

amount-zero : (b : Bool) → amount b 0 ≡ 0
amount-zero true = refl
amount-zero false = refl

-- elements put in the place of none of them
pub adds_item : (old new : Lengths) (e : Element) (n : ℕ) → Exchanges old new e 0 e n → Adds old new e n
adds_item old new e n exchanges r c hf hr hc =
    let sum = exchanges r c hf hr hc in
    let fits = length_at-fits new r c in
    let none = amount-zero (sees e r c) in
    omega arith

-- all entries of another table
pub adds_all : (old other new : Lengths) (more : List Entry) (last : ℕ) → more ≡ other.entries → last ≡ other.last → AddsChange old new more last → AddsAll old other new
unfolding length_at
adds_all old other new more last em el change r c hr hc = omega (arith, change r c, el, ap (unseen r c) em)

pub same_from : (old new : Lengths) (floor : ℕ) (entries : List Entry) → entries ≡ old.entries → new.last ≡ old.last → DropsOld entries new.entries floor → SameFrom floor old new
unfolding length_at
same_from old new floor entries ee last drops r c hf hr hc = omega (arith, last, drops.sums r c hf, ap (unseen r c) ee)

pub same_kept : (old new : Lengths) (floor : ℕ) → new.last ≡ old.last → new.entries ≡ old.entries → SameFrom floor old new
unfolding length_at
same_kept old new floor last entries r c hf hr hc = omega (arith, last, ap (unseen r c) entries)

pub same_tidied : (old new : Lengths) (entries : List Entry) → entries ≡ old.entries → new.last ≡ old.last → DropsOld entries new.entries 0
    → (r c : ℕ) → length_at new r c ≡ length_at old r c
unfolding length_at
same_tidied old new entries ee last drops r c = omega (arith, last, drops.sums r c (omega arith), ap (unseen r c) ee)

pub same_cleared : (old new : Lengths) (floor latest : ℕ) (entries : List Entry) → entries ≡ old.entries → new.last ≡ old.last → new.entries ≡ [] → AreUpTo latest entries → latest ≤ floor
    → SameFrom floor old new
unfolding length_at
same_cleared old new floor latest entries ee last none up h r c hf hr hc =
    omega (arith, last, ap (unseen r c) none, sym (ap (unseen r c) ee), unseen_none r c entries (up_to_weaker latest r entries (omega arith) up))

more : (wn wo l s : ℕ) → wn ≡ (wo + l) % 2 ^ 64 → wo ≡ s % 2 ^ 64 → wn ≡ (l + s) % 2 ^ 64
more wn wo l s e1 e2 = omega arith

-- an item more
pub stands-add : (old new : Lengths) (e : Element) (n : ℕ) → Adds old new e n → new.floor ≡ old.floor
    → (xs : List Item) → CountsItems old xs → CountsItems new (item_of e n ∷ xs)
stands-add old new e n adds floor xs stands r c hf hr hc =
    let above : old.floor ≤ r = omega arith in
    more (length_at new r c) (length_at old r c) (amount (sees e r c) n) (length_seen r c xs) (adds r c above hr hc) (stands r c above hr hc)

shifted : (wn wo a b x y : ℕ) → (wn + a) % 2 ^ 64 ≡ (wo + b) % 2 ^ 64 → wo ≡ x % 2 ^ 64 → a + y ≡ b + x → wn < 2 ^ 64 → wn ≡ y % 2 ^ 64
shifted wn wo a b x y e1 e2 e3 h = omega arith

-- one item in the place of another
pub stands-exchange : (old new : Lengths) (e f : Element) (n m : ℕ) → Exchanges old new e n f m → new.floor ≡ old.floor
    → (xs ys : List Item) → CountsItems old xs → ExchangesItem xs ys e n f m → CountsItems new ys
stands-exchange old new e f n m exchanges floor xs ys stands same r c hf hr hc =
    let above : old.floor ≤ r = omega arith in
    shifted (length_at new r c) (length_at old r c) (amount (sees e r c) n) (amount (sees f r c) m) (length_seen r c xs) (length_seen r c ys)
    (exchanges r c above hr hc) (stands r c above hr hc) (same_sums (item_of e n ∷ ys) (item_of f m ∷ xs) same (λ g. sees g r c)) (length_at-fits new r c)

length_where-append : (p : Element → Bool) (xs ys : List Item) → length_where p (xs ++ ys) ≡ length_where p xs + length_where p ys
length_where-append p [] ys = omega arith
length_where-append p (x ∷ xs) ys = omega (arith, length_where-append p xs ys)

-- all items of two tables
pub stands-all : (old other new : Lengths) → AddsAll old other new → other.floor ≤ old.floor → new.floor ≡ old.floor
    → (xs ys : List Item) → CountsItems old xs → CountsItems other ys → CountsItems new (ys ++ xs)
stands-all old other new adds h floor xs ys sx sy r c hf hr hc =
    let above : old.floor ≤ r = omega arith in
    let others : other.floor ≤ r = omega arith in
    rw (length_where-append (λ e. sees e r c) ys xs) (omega (arith, adds r c hr hc, sx r c above hr hc, sy r c others hr hc))

-- a higher floor
pub stands-higher : (old new : Lengths) → SameFrom new.floor old new → old.floor ≤ new.floor → (xs : List Item) → CountsItems old xs → CountsItems new xs
stands-higher old new same h xs stands r c hf hr hc =
    let above : old.floor ≤ r = omega arith in
    same r c hf hr hc ∙ stands r c above hr hc

-- a removal at or below the floor has occurred for each perspective from there up
removed-occurred : (f r c : ℕ) (dels : List Stamp) → f ≤ r → list_any (is_at_most f) dels ≡ true → list_any (has_occurred r c) dels ≡ true
removed-occurred f r c [] h g = g
removed-occurred f r c (Acked s d ∷ dels) h g = grind (arith, nat_tests, removed-occurred f r c dels h)
removed-occurred f r c (Local k ∷ dels) h g = grind (arith, nat_tests, removed-occurred f r c dels h)

folded_case : (f r c s d : ℕ) (b : Bool) → f ≤ r → nat_le s f ≡ b → has_occurred r c (cond b (Acked 0 0) (Acked s d)) ≡ has_occurred r c (Acked s d)
folded_case f r c s d true h e = grind (arith, nat_tests)
folded_case f r c s d false h e = refl

-- an insertion at or below the floor has too, however it is written
folded-occurred : (f r c : ℕ) (s : Stamp) → f ≤ r → has_occurred r c (folded_stamp f s) ≡ has_occurred r c s
folded-occurred f r c (Acked s d) h = folded_case f r c s d (nat_le s f) h refl
folded-occurred f r c (Local k) h = refl

seen_case : (f r c : ℕ) (x : Item) (ys : List Item) (b : Bool) → f ≤ r → list_any (is_at_most f) x.element.dels ≡ b
    → length_seen r c (cond (not b) (folded_item f x ∷ ys) ys) ≡ amount (sees x.element r c) x.len + length_seen r c ys
seen_case f r c x ys true h e = grind (arith, nat_tests, removed-occurred f r c x.element.dels h e)
seen_case f r c x ys false h e = grind (arith, nat_tests, folded-occurred f r c x.element.ins h)

seen-folded : (f r c : ℕ) (xs : List Item) → f ≤ r → length_seen r c (folded_items f xs) ≡ length_seen r c xs
seen-folded f r c [] h = refl
seen-folded f r c (x ∷ xs) h =
    seen_case f r c x (folded_items f xs) (list_any (is_at_most f) x.element.dels) h refl ∙ ap (λ n. amount (sees x.element r c) x.len + n) (seen-folded f r c xs h)

-- the items as they are written at the floor
pub stands-folded : (t : Lengths) (xs : List Item) → CountsItems t xs → CountsItems t (folded_items t.floor xs)
stands-folded t xs stands r c hf hr hc = stands r c hf hr hc ∙ ap (λ n. n % 2 ^ 64) (sym (seen-folded t.floor r c xs hf))

-- lists with the same sums for all stamps
pub stands-same : (t : Lengths) (xs ys : List Item) → CountsItems t xs → SameByStamps xs ys → CountsItems t ys
stands-same t xs ys stands same r c hf hr hc = stands r c hf hr hc ∙ ap (λ n. n % 2 ^ 64) (same_sums xs ys same (λ e. sees e r c))

-- elements that are inserted above the floor, and that nobody removed: less is counted by those who haven't seen the number
inserted_case : (a b : Bool) (n less : ℕ) → n < 2 ^ 64 → less ≡ (2 ^ 64 - n) % 2 ^ 64 → (n + (amount (not a && not b) less + 0)) % 2 ^ 64 ≡ amount ((a || b) && not false) n % 2 ^ 64
inserted_case true b n less h e = omega arith
inserted_case false true n less h e = omega arith
inserted_case false false n less h e = omega arith

pub adds_inserted : (old new : Lengths) (more : List Entry) (seq conn n less : ℕ) → n < 2 ^ 64 → less ≡ (2 ^ 64 - n) % 2 ^ 64
    → more ≡ record { seq = seq; conn = conn; own = false; by = less } ∷ [] → AddsChange old new more n → Adds old new (inserted_element seq conn) n
adds_inserted old new more seq conn n less hn hl is change r c hf hr hc =
    omega (arith, change r c, ap (unseen r c) is, inserted_case (nat_le seq r) (nat_eq conn c) n less hn hl)

-- up to the floor all see them
inserted_seen : (seq conn r c n : ℕ) → seq ≤ r → amount (sees (inserted_element seq conn) r c) n ≡ n
inserted_seen seq conn r c n h =
    let seen : nat_le seq r ≡ true = grind (arith, nat_tests) in
    ap (λ a. amount ((a || nat_eq conn c) && not false) n) seen

pub adds_inserted_low : (old new : Lengths) (seq conn n floor : ℕ) → floor ≡ old.floor → seq ≤ floor → AddsForAll old new n → Adds old new (inserted_element seq conn) n
adds_inserted_low old new seq conn n floor is low adds r c hf hr hc = omega (arith, adds r c, inserted_seen seq conn r c n (omega arith))
