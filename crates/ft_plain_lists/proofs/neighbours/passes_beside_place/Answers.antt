use Rattle.std.proofs.Common.{◌≡◌, ℕ, ◌+◌, Bool, ◌&&◌, List, drop, reverse, take, sym, ◌∙◌, ap}
use Rattle.std.specs.List.{prefix_len}
use Rattle.std.proofs.lemmas.List.{take_rest}
use Rattle.ft_base.specs.Scan.{place}
use Rattle.ft_changes.specs.Beside.{first_passes, is_always_seen, is_standing, passes_beside_place}
use Rattle.ft_props.specs.Element.{ListElement, is_pending}
use Rattle.ft_plain_lists.proofs.StandingPairs.{insertion-all}
use Rattle.ft_plain_lists.proofs.neighbours.passes_beside_place.Goals as goal

abbrev passes : List ListElement → Bool
passes ys = first_passes is_standing is_always_seen ys

-- both sides of the place where a run of j ends behind the i-th element
sides : (seen : ListElement → Bool) (p : ℕ) (xs : List ListElement) (i j : ℕ) → i ≡ place seen p xs → j ≡ prefix_len is_pending (drop i xs)
    → passes_beside_place seen is_pending is_standing is_always_seen p xs ≡ passes (reverse (take (i + j) xs)) && passes (drop (i + j) xs)
sides seen p xs i j front run =
    ap (λ n. passes (reverse (take n xs)) && passes (drop n xs))
    (insertion-all seen is_pending p xs ∙ ap (λ k. k + prefix_len is_pending (drop k xs)) (sym front) ∙ ap (λ k. i + k) (sym run))

pub returns-then-last_passes : goal.returns-then-last_passes
returns-then-last_passes g c =
    let xs = c.args.items.now in
    let i = c.insertion_place-front.result in
    let j = c.pending_run.result in
    let run = c.pending_run.ensures.run ∙ ap (prefix_len is_pending) (take_rest xs i) in
    c.first_passes.ensures ∙ ap passes (take_rest xs (i + j))
    ∙ ap (λ b. b && passes (drop (i + j) xs)) (sym c.if-last_passes.true ∙ c.last_passes.ensures)
    ∙ sym (sides (g.S.ElementTest.test c.args.seen) c.args.p xs i j c.insertion_place-front.ensures.place run)

pub returns-else-last_passes : goal.returns-else-last_passes
returns-else-last_passes g c =
    let xs = c.args.items.now in
    let i = c.insertion_place-front.result in
    let j = c.pending_run.result in
    let run = c.pending_run.ensures.run ∙ ap (prefix_len is_pending) (take_rest xs i) in
    c.if-last_passes.false
    ∙ ap (λ b. b && passes (drop (i + j) xs)) (sym c.if-last_passes.false ∙ c.last_passes.ensures)
    ∙ sym (sides (g.S.ElementTest.test c.args.seen) c.args.p xs i j c.insertion_place-front.ensures.place run)
