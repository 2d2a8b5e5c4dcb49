use Rattle.std.proofs.Common.{◌≡◌, leb-true, sym, ap, ◌∙◌, subst}
use Rattle.std.proofs.lemmas.Bool.{le-leb}
use Rattle.serde_json.specs.Data.{depth}
use Rattle.ft_json.specs.declared.levels.Place.TheVariants.{Outside}
use Rattle.ft_json.specs.Canonical.{IsCanonicalText}
use Rattle.ft_json.specs.Levels.{opens_at_most}
use Rattle.ft_json.proofs.OpenedLevels.{opens_its_levels}
use Rattle.ft_json.proofs.values.ValText.is_kept.Goals as goal

pub returns : goal.returns
returns c =
    let text = c.args.self.now in
    let (d, canonical, spells) : IsCanonicalText text = subst IsCanonicalText c.self.view_is c.self.invariant in
    let read : c.opens_few.result ≡ opens_at_most 100 Outside text =
    c.opens_few.ensures ∙ ap (opens_at_most 100 Outside) (c.as_bytes.ensures.value ∙ c.as_str.ensures ∙ c.self.view_is) in (
      λ few.
          (d, canonical, leb-true (depth d) 100 (sym (read ∙ ap (opens_at_most 100 Outside) spells ∙ opens_its_levels d canonical) ∙ few), spells),
      λ kept. read ∙ ap (opens_at_most 100 Outside) kept.3 ∙ opens_its_levels kept.0 kept.1 ∙ le-leb (depth kept.0) 100 kept.2,
    )
