use Rattle.std.proofs.Common.{◌≡◌, ◌∙◌, ℕ, ◌+◌, ◌-◌, Bool, ◌++◌, List, length, length-append, replicate, ap, arith}
use Rattle.std.proofs.lemmas.List.{length-replicate}
use Rattle.ft_attrib.specs.declared.attribution.Origin.{Origin}
use Rattle.ft_attrib.specs.declared.attribution.Origin.TheVariants.{Unknown, Pending}
use Rattle.ft_attrib.specs.Runs.{how_many, same_origin}
use Rattle.ft_attrib.specs.Pieces.{spread}
use Rattle.ft_attrib.proofs.HowMany.{counts-fit, how_many-append}
use Rattle.ft_attrib.proofs.attribution.Attribution.push.Goals as goal

grown_by : (old : List Origin) (len n : ℕ) (o : Origin) {new : List Origin} → len ≡ length old → new ≡ old ++ replicate (len + n - length old) o
    → new ≡ old ++ replicate n o
grown_by old len n o e h = let more : len + n - length old ≡ n = omega arith in h ∙ ap (λ k. old ++ replicate k o) more

length-grown : (old : List Origin) (n : ℕ) (o : Origin) → length (old ++ replicate n o) ≡ length old + n
length-grown old n o = omega (arith, length-append old (replicate n o), length-replicate n o)

pub overflow_add-self : goal.overflow_add-self
overflow_add-self c =
    omega (
      arith,
      counts-fit (same_origin Unknown) (spread 0 c.self.inside.pieces.items) c.args.len c.args.who,
      c.self.invariant.1,
      c.self.invariant.3,
      c.share.ensures,
      c.requires.few,
      ap length c.self.view_is,
    )

pub overflow_add-self-2 : goal.overflow_add-self-2
overflow_add-self-2 c =
    omega (
      arith,
      counts-fit (same_origin Pending) (spread 0 c.self.inside.pieces.items) c.args.len c.args.who,
      c.self.invariant.1,
      c.self.invariant.4,
      c.share-2.ensures,
      c.requires.few,
      ap length c.self.view_is,
    )

pub invariant_of-self-2 : goal.invariant_of-self-2
invariant_of-self-2 c =
    let old : List Origin = spread 0 c.self.inside.pieces.items in
    let new : List Origin = spread 0 c.push_piece.new.pieces.items in
    let grown : new ≡ old ++ replicate c.args.len c.args.who = grown_by old c.self.inside.len c.args.len c.args.who c.self.invariant.1 c.in_ok-push_piece.ensures.ok.origins in
    let len : length new ≡ length old + c.args.len = ap length grown ∙ length-grown old c.args.len c.args.who in
    let counts : (test : Origin → Bool) → how_many test new ≡ how_many test old + how_many test (replicate c.args.len c.args.who) =
    λ test. ap (how_many test) grown ∙ how_many-append test old (replicate c.args.len c.args.who)
    in (
      c.in_ok-push_piece.ensures.ok.cut,
      omega (arith, c.self.invariant.1, len),
      omega (arith, c.self.invariant.1, c.requires.few, ap length c.self.view_is),
      omega (arith, c.self.invariant.3, c.share.ensures, counts (same_origin Unknown)),
      omega (arith, c.self.invariant.4, c.share-2.ensures, counts (same_origin Pending)),
    )

pub returns-clause-ok : goal.returns-clause-ok
returns-clause-ok c =
    grown_by (spread 0 c.self.inside.pieces.items) c.self.inside.len c.args.len c.args.who c.self.invariant.1 c.in_ok-push_piece.ensures.ok.origins
    ∙ ap (λ (os : List Origin). os ++ replicate c.args.len c.args.who) c.self.view_is
