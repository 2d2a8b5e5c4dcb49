use Rattle.std.proofs.Common.{◌≡◌, ℕ, zero, suc, ◌<◌, true, false, List, [], ◌∷◌, Option, Some, None, length, sym, ◌∙◌, arith, rules}
use Rattle.std.specs.Option.{IsSome}
use Rattle.std.specs.List.{slice_get}
use Rattle.ft_tree_blocks.specs.Touched.{NodesOfStage, is_list_of}
use Rattle.ft_tree_blocks.proofs.TouchedLists.{take-found, take-none}
use Rattle.ft_tree_blocks.proofs.touched.take_stage.Goals as goal

pub returns-then-not-is_at : goal.returns-then-not-is_at
returns-then-not-is_at c =
    let xs = c.args.touched.now.items in
    let k = c.args.stage in
    let i = c.stage_place-i.result in
    let test : is_list_of k (slice_get xs i) ≡ false = sym c.is_at.ensures ∙ c.if-not-is_at.true in
    let takes = take-none k i xs c.new.result.items c.requires c.stage_place-i.ensures.place test c.new.ensures.items in
    record { nodes = takes.nodes; gone = takes.gone; others = takes.others; rising = takes.rising }

pub returns-in-Some : goal.returns-in-Some
returns-in-Some c =
    let xs = c.args.touched.now.items in
    let k = c.args.stage in
    let i = c.stage_place-i.result in
    let test : is_list_of k (slice_get xs i) ≡ true = sym c.is_at.ensures ∙ c.if-not-is_at.false in
    let takes = take-found k i xs c.remove.new.self.items c.in-Some.list c.into_nodes.result.items c.requires c.stage_place-i.ensures.place test
    c.in-Some.ensures.value c.into_nodes.ensures c.in-Some.ensures.items in
    record { nodes = takes.nodes; gone = takes.gone; others = takes.others; rising = takes.rising }

within : (k i : ℕ) (xs : List NodesOfStage) → is_list_of k (slice_get xs i) ≡ true → i < length xs
within k i [] h = (cc)
within k zero (x ∷ xs) h = omega arith
within k (suc i) (x ∷ xs) h = let less : i < length xs = within k i xs h in omega arith

absent : {A : Type 0} (o : Option A) → o ≡ None → IsSome o → ⊥
absent None e h = (cc)
absent (Some x) e h = (cc)

-- the list is there
pub returns-in-None : goal.returns-in-None
returns-in-None c =
    let xs = c.args.touched.now.items in
    let i = c.stage_place-i.result in
    let less : i < length xs = within c.args.stage i xs (sym c.is_at.ensures ∙ c.if-not-is_at.false) in
    let len : c.args.touched.now.len ≡ length xs = search rules in
    absurd (absent c.remove.result c.in-None.is (c.remove.ensures.variant.1 (omega (arith, less, len))))
