use Rattle.std.proofs.Common.{◌∙◌, ◌++◌, ◌∷◌, [], ap, append-nil, chars, sym}
use Rattle.std.proofs.lemmas.Result.{on_ok_weaker}
use Rattle.ft_op.specs.declared.operations.Seg.TheVariants as seg
use Rattle.ft_changes.specs.declared.changes.ViewChange.TheVariants.{Put}
use Rattle.ft_change_lines.proofs.CharacterCuts.{put-none, put-some}
use Rattle.ft_change_lines.proofs.from_nothing.push_text.Goals as goal

pub returns-then-is_empty : goal.returns-then-is_empty
returns-then-is_empty c =
    let changes = c.args.changes.now in
    sym (append-nil changes) ∙ ap (λ more. changes ++ more) (sym (put-none c.args.place c.args.characters.now (sym c.is_empty.ensures ∙ c.if-is_empty.true)))

pub returns : goal.returns
returns c =
    let changes = c.args.changes.now in
    let text = c.args.characters.now in
    let put = put-some c.args.place text c.utf8.characters (sym c.is_empty.ensures ∙ c.if-is_empty.false) in
    on_ok_weaker c.push.result (λ is. is ∙ ap (λ cs. changes ++ Put c.args.place (seg.Chars cs) c.new-2.result ∷ []) c.in_ok-text.ensures
    ∙ ap (λ props. changes ++ Put c.args.place (seg.Chars (chars text)) props ∷ []) c.new-2.ensures ∙ ap (λ more. changes ++ more) (sym put)) c.push.ensures.ok
