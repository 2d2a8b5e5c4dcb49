-- The value goes last, under its name.
use Rattle.std.proofs.Common.{◌≡◌, ◌∷◌, [], ◌∙◌, ap, chars, string_bytes, subst, sym}
use Rattle.std.proofs.lemmas.List.{map-append}
use Rattle.std.specs.Map.{values_of}
use Rattle.ft_delivery.specs.Kept.{AreUnderNames}
use Rattle.ft_delivery.proofs.KeptValues.{entries-more, under-more}
use Rattle.ft_delivery.proofs.kept.keep.Goals as goal

pub returns-clause-under : goal.returns-clause-under
returns-clause-under g c = λ name_of is.
    let es = c.args.kept.now.entries in
    let key = c.in_ok-key.key in
    let spelled : chars (string_bytes key) ≡ c.args.name.now = ap chars c.in_ok-key.ensures.ok ∙ c.as_str.ensures.characters in
    subst (AreUnderNames name_of) (sym (c.in_ok-insert.ensures.entries ∙ entries-more name_of key c.args.name.now spelled c.args.value es is.under is.free))
    (under-more name_of key c.args.value (spelled ∙ sym is.named) es is.under)

pub returns-clause-values : goal.returns-clause-values
returns-clause-values g c = λ name_of is.
    let es = c.args.kept.now.entries in
    let key = c.in_ok-key.key in
    let spelled : chars (string_bytes key) ≡ c.args.name.now = ap chars c.in_ok-key.ensures.ok ∙ c.as_str.ensures.characters in
    ap values_of (c.in_ok-insert.ensures.entries ∙ entries-more name_of key c.args.name.now spelled c.args.value es is.under is.free)
    ∙ map-append (λ e. e.1) es ((key, c.args.value) ∷ [])

pub returns-in_err-insert-clause-under : goal.returns-in_err-insert-clause-under
returns-in_err-insert-clause-under g c = λ name_of is. subst (AreUnderNames name_of) (sym c.in_err-insert.ensures.err) is.under
