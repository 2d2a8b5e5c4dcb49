use Rattle.std.proofs.Common.{◌∷◌, [], Some, ap, ◌∙◌, arith}
use Rattle.std.proofs.lemmas.Str.{chars-IsAscii}
use Rattle.std.proofs.lemmas.Str.Ascii.{IsAscii-cons, IsAscii-nil}
use Rattle.ft_gen.proofs.DrawnTexts.{put-first}
use Rattle.ft_gen.proofs.texts.annotation.Goals as goal

pub returns : goal.returns
returns c =
    let key = c.in_ok-new.ensures ∙ chars-IsAscii (107 ∷ []) (IsAscii-cons 107 [] (omega arith) IsAscii-nil) in
    let value = ap (λ v. Some v) c.in_ok-number_text.ensures in
    let set = c.in_ok-put.ensures.ok ∙ put-first _ _ _ _ _ c.new-props.ensures key value in
    cc
