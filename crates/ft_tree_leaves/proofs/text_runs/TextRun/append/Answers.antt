use Rattle.std.proofs.Common.{◌≡◌, ◌++◌, ◌∙◌, ap, ap₂, sym, chars, length, List, ℕ, arith, length-append}
use Rattle.std.specs.Str.{IsUtf8}
use Rattle.ft_tree_leaves.specs.Characters.{bytes_of}
use Rattle.std.proofs.lemmas.Str.{chars-append}
use Rattle.ft_tree_leaves.proofs.text_runs.TextRun.append.Goals as goal

whole : (bs text both mine theirs : List ℕ) → IsUtf8 bs → both ≡ bs ++ text → chars bs ≡ mine → chars text ≡ theirs → chars both ≡ mine ++ theirs
whole bs text both mine theirs utf8 both_is mine_is theirs_is =
    let Append : List ℕ → List ℕ → List ℕ = λ xs ys. xs ++ ys in
    ap chars both_is ∙ chars-append bs text utf8 ∙ ap₂ Append mine_is theirs_is

pub returns-clause-ok : goal.returns-clause-ok
returns-clause-ok c =
    whole c.as_str-mine.result.now c.as_str.result.now (bytes_of c.push_str.new.self) c.args.self.now c.args.other.now c.as_str-mine.utf8
    (c.in_ok-push_str.ensures.ok ∙ ap (λ bs. bs ++ c.as_str.result.now) (sym c.as_str-mine.ensures)) (ap chars c.as_str-mine.ensures ∙ c.self.view_is) c.as_str.ensures.characters

pub invariant_of-self-2 : goal.invariant_of-self-2
invariant_of-self-2 c =
    let both = ap length (returns-clause-ok c) in
    let sum = length-append c.args.self.now c.args.other.now in
    let mine = ap length c.self.view_is in
    (omega (arith, both, sum, mine, c.self.invariant.0), omega (arith, both, sum, c.requires))
