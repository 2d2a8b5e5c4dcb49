use Rattle.std.proofs.Common.{◌≡◌, arith, sym, ap, ◌∙◌, subst, unwrap_or, true≢false, Some, None}
use Rattle.std.proofs.lemmas.Option.{none-some}
use Rattle.serde_json.specs.Data.{null}
use Rattle.serde_json.specs.Read.{read}
use Rattle.serde_json.specs.View.{view}
use Rattle.serde_json.specs.Written.{compact_text}
use Rattle.ft_json.specs.Canonical.{IsCanonical, value_of}
use Rattle.ft_json.proofs.Back.{StandsFor-IsTextWithin}
use Rattle.ft_json.proofs.values.ValText.to_value.Goals as goal

pub returns-in-Ok-clause-canonical : goal.returns-in-Ok-clause-canonical
returns-in-Ok-clause-canonical c =
    let text = c.args.self.now in
    let read_as : value_of text ≡ view c.in-Ok.value = ap (λ o. unwrap_or o null) (ap read (sym (c.as_str.ensures ∙ c.self.view_is)) ∙ c.in-Ok.ensures.ok) in
    subst IsCanonical read_as (StandsFor-IsTextWithin 127 text (omega arith) c.requires).canonical

pub returns-in-Ok-clause-text : goal.returns-in-Ok-clause-text
returns-in-Ok-clause-text c =
    let text = c.args.self.now in
    let read_as : value_of text ≡ view c.in-Ok.value = ap (λ o. unwrap_or o null) (ap read (sym (c.as_str.ensures ∙ c.self.view_is)) ∙ c.in-Ok.ensures.ok) in
    ap compact_text (sym read_as) ∙ (StandsFor-IsTextWithin 127 text (omega arith) c.requires).spells

pub unreachable-requires : goal.unreachable-requires
unreachable-requires c =
    let text = c.args.self.now in
    let reads : read text ≡ Some (value_of text) = (StandsFor-IsTextWithin 127 text (omega arith) c.requires).reads in
    let refused : read text ≡ None =
    ap read (sym (c.as_str.ensures ∙ c.self.view_is)) ∙ c.in-Err.ensures.err (λ memory. true≢false (sym (c.is_memory.ensures.1 memory) ∙ c.if-is_memory.false)) in
    none-some (value_of text) (sym refused ∙ reads)
