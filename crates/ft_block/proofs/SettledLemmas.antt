-- What stages see of elements, and what all see, as blocks keep it.
use Rattle.std.proofs.Common.{◌≡◌, ℕ, ◌+◌, ◌^◌, ◌%◌, ◌<◌, ◌≤◌, List, [], ◌||◌, nat_le, Bool, true, false, cond, refl, sym, ap, subst, ◌∙◌, arith, Option, Some, take, get_or, length}
use Rattle.std.specs.List.{list_any}
use Rattle.std.proofs.lemmas.Bool.Decides.{nat_tests}
use Rattle.ft_base.specs.declared.stamps.Stamp.{Stamp}
use Rattle.ft_base.specs.declared.stamps.Stamp.TheVariants.{Acked}
use Rattle.ft_base.specs.declared.elements.Element.{Element}
use Rattle.ft_base.specs.Visibility.{has_occurred_at_stage, sees, seen_at}
use Rattle.ft_arena.specs.declared.nodes.Node.TheVariants.{Leaf}
use Rattle.ft_partial.specs.Entries.{amount, unseen}
use Rattle.ft_partial.specs.Tables.{Lengths, length_at, Adds, AddsChange, AddsForAll}
use Rattle.ft_partial.specs.declared.entries.Entry.{Entry}
use Rattle.ft_partial.proofs.TableLemmas.{length_at-fits}
use Rattle.ft_partial.specs.Items.{inserted_element}
use Rattle.ft_partial.specs.declared.lifespans.Lifespan.{Lifespan}
use Rattle.ft_partial.specs.Lifespans.{is_gone_at, is_there_at, ExchangesLifespans}
use Rattle.ft_partial.proofs.ItemLemmas.{any-more}
use Rattle.ft_block.specs.declared.summaries.Summary.{Summary}
use Rattle.ft_block.specs.declared.summaries.Exchange.{Exchange}
use Rattle.ft_block.specs.declared.leaves.View.{View}
use Rattle.ft_block.specs.declared.leaves.View.TheVariants.{Of, Removed}
use Rattle.ft_block.specs.declared.leaves.LenView.{LenView}
use Rattle.ft_block.specs.declared.leaves.LenView.TheVariants.{At, Stage, All}
use Rattle.ft_block.specs.Leaves.{sees_in, is_removed}
use Rattle.ft_block.specs.Tree.{ExchangesAtStages, IsForAll, kept_length, HasRange, KeepsExchange, KeepsForAll, KeepsLengths, KeepsNode, shows, AddsExchange, MakesExchange, MakesNothing}

-- the first stage of stamps, with one more of them
pub gone_more : (k stage now : ℕ) (first : Option ℕ) (stamps : List Stamp) (i : ℕ) (d : Stamp) → i < length stamps
    → nat_le now k ≡ (is_gone_at k first || nat_le stage k)
    → nat_le stage k ≡ has_occurred_at_stage k (get_or stamps i d) → is_gone_at k first ≡ list_any (has_occurred_at_stage k) (take i stamps)
    → is_gone_at k (Some now) ≡ list_any (has_occurred_at_stage k) (take (i + 1) stamps)
gone_more k stage now first stamps i d h one here before =
    one ∙ ap (λ b. b || nat_le stage k) before ∙ ap (λ b. list_any (has_occurred_at_stage k) (take i stamps) || b) here
    ∙ sym (any-more (has_occurred_at_stage k) stamps i d h)

-- what a change for the stages at which elements are seen exchanges
pub stages_exchange : (change : Lengths) (e f : Element) (gone come : Lifespan) (n m : ℕ) → ((k : ℕ) → is_there_at gone k ≡ seen_at e k)
    → ((k : ℕ) → is_there_at come k ≡ seen_at f k) → ExchangesLifespans change gone n come m → ExchangesAtStages change e n f m
stages_exchange change e f gone come n m there then ex old new none adds k low =
    ap (λ b. (length_at new k 1 + amount b n) % 2 ^ 64) (sym (there k)) ∙ ex old new adds k 1 (omega arith)
    ∙ ap (λ b. (length_at old k 1 + amount b m) % 2 ^ 64) (then k)

-- an element that is sequenced up to the floor, and that nobody removed
for_all_from : (floor seq conn : ℕ) → seq ≤ floor → IsForAll floor (record { ins = Acked seq conn; dels = [] })
for_all_from floor seq conn h = record { seen = seen; present = refl }
  where
    seen : (view : LenView) → KeepsLengths floor (Of view) → sees_in view (record { ins = Acked seq conn; dels = [] }) ≡ true
    seen (At at) (low, high, few) = grind (arith, nat_tests)
    seen (Stage k) low = refl
    seen All k = refl

pub for_all : (floor : ℕ) (e : Element) (seq conn : ℕ) → e.ins ≡ Acked seq conn → e.dels ≡ [] → seq ≤ floor → IsForAll floor e
for_all floor e seq conn ins dels h =
    let P : Stamp → Type 0 = λ s. IsForAll floor (record { ins = s; dels = e.dels }) in
    let Q : List Stamp → Type 0 = λ xs. IsForAll floor (record { ins = Acked seq conn; dels = xs }) in
    subst P (sym ins) (subst Q (sym dels) (for_all_from floor seq conn h))

-- elements that all see come
pub keeps_for_all : (old new : Summary) (n whole : ℕ) → AddsForAll old.stages new.stages n → AddsForAll old.table new.table n → whole ≡ old.whole
    → new.whole ≡ (whole + n) % 2 ^ 64 → new.removed ≡ old.removed → KeepsForAll old n new
keeps_for_all old new n whole stages table was is removed = record { seen = seen; removed = removed }
  where
    seen : (view : LenView) → kept_length (Of view) new ≡ (kept_length (Of view) old + n) % 2 ^ 64
    seen (At at) = table at.r at.c
    seen (Stage k) = stages k 1
    seen All = omega (arith, was, is)

pub for_all_adds : {L : Type 0} (size : L → ℕ) (element : L → Element) (floor : ℕ) (old new : Summary) (leaf : L) (e : Element) (n : ℕ) → e ≡ element leaf
    → n ≡ size leaf → HasRange new → IsForAll floor e → KeepsForAll old n new → KeepsNode size element floor old (Leaf leaf) new
for_all_adds size element floor old new leaf e n is many low all keeps (Of view) kept =
    let here : cond (sees_in view (element leaf)) (size leaf) 0 ≡ n =
    ap (λ b. cond b (size leaf) 0) (ap (sees_in view) (sym is) ∙ all.seen view kept) ∙ sym many in
    omega (arith, keeps.seen view, here)
for_all_adds size element floor old new leaf e n is many low all keeps Removed kept =
    let here : cond (is_removed (element leaf)) (size leaf) 0 ≡ 0 = ap (λ b. cond b (size leaf) 0) (ap is_removed (sym is) ∙ all.present) in
    omega (arith, keeps.removed, low.1, here)

-- elements come that are inserted, and that nobody removed
pub inserted_exchange : (old new : Summary) (floor seq conn n whole : ℕ) → old.table.floor ≡ floor → AddsForAll old.stages new.stages n
    → Adds old.table new.table (inserted_element seq conn) n → whole ≡ old.whole → new.whole ≡ (whole + n) % 2 ^ 64 → new.removed ≡ old.removed
    → KeepsExchange floor old new (inserted_element seq conn) 0 (inserted_element seq conn) n
inserted_exchange old new floor seq conn n whole from stages table was is removed (Of (At at)) (above, low, few) =
    omega (arith, table at.r at.c (omega (arith, above, from)) low few, nothing (sees (inserted_element seq conn) at.r at.c))
  where
    nothing : (b : Bool) → amount b 0 ≡ 0
    nothing true = refl
    nothing false = refl
inserted_exchange old new floor seq conn n whole from stages table was is removed (Of (Stage k)) low = omega (arith, stages k 1)
inserted_exchange old new floor seq conn n whole from stages table was is removed (Of All) all = omega (arith, was, is)
inserted_exchange old new floor seq conn n whole from stages table was is removed Removed all = omega (arith, removed)

-- an exchange that changes nothing has each view see as many of the new elements as of the old ones
adds_nothing : (t : Lengths) (entries : List Entry) (last : ℕ) → last ≡ 0 → entries ≡ [] → AddsChange t t entries last
adds_nothing t entries last none bare r c = omega (arith, length_at-fits t r c, none, ap (unseen r c) bare)

abbrev nothing_at : ℕ → Lengths
nothing_at floor = record { floor = floor; last = 0; entries = [] }

abbrev kept_nothing : ℕ → Summary
kept_nothing floor = record { stages = nothing_at 0; table = nothing_at floor; whole = 0; removed = 0 }

at_most : (b : Bool) (n : ℕ) → amount b n ≤ n
at_most true n = omega arith
at_most false n = omega arith

pub same_shown : (floor : ℕ) (exchange : Exchange) (e f : Element) (n : ℕ) → n < 2 ^ 64 → MakesExchange floor exchange e n f n → MakesNothing exchange
    → (view : View) → KeepsLengths floor view → amount (shows view e) n ≡ amount (shows view f) n
same_shown floor exchange e f n few makes nothing view kept =
    let x : Summary = kept_nothing floor in
    let adds : AddsExchange x exchange x = record {
      whole = omega (arith, nothing.whole);
      removed = omega (arith, nothing.removed);
      stages = adds_nothing x.stages exchange.stages.entries exchange.stages.last nothing.stages_last nothing.stages_entries;
      table = adds_nothing x.table exchange.table.entries exchange.table.last nothing.table_last nothing.table_entries;
    } in
    omega (arith, few, makes x x refl refl adds view kept, at_most (shows view e) n, at_most (shows view f) n)
