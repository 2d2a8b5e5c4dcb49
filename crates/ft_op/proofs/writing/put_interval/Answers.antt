use Rattle.std.proofs.Common.{◌∙◌, ap, ap₂, codes}
use Rattle.std.proofs.lemmas.Result.{on_ok_weaker}
use Rattle.serde_json.specs.Data.{object, put, string}
use Rattle.ft_op.specs.Written.{given_end, given_set, given_start, put_given, written_text}
use Rattle.ft_op.proofs.WrittenIntervals.{interval_fields}
use Rattle.ft_op.proofs.writing.put_interval.Goals as goal

pub returns : goal.returns
returns c =
    let ends = c.args.ends in
    let word = string c.args.word.now in
    let props = given_set c.args.props.now in
    let e = ap₂ (put_given (codes "end")) c.given_end.ensures c.requires.empty in
    let i = ap₂ (put (codes "id")) (ap string c.as_str-id.ensures.bytes) (c.in_ok-put_number.ensures ∙ e) in
    let w = ap (put (codes "interval") word) (c.in_ok-put_str.ensures ∙ i) in
    let l = ap₂ (put (codes "label")) (ap string c.as_str-label.ensures.bytes) (c.in_ok-put_str-2.ensures ∙ w) in
    let p = ap (put_given (codes "props") props) (c.in_ok-put_str-3.ensures ∙ l) in
    let s = ap₂ (put_given (codes "start")) c.given_start.ensures (c.in_ok-put_given_set.ensures.value ∙ p) in
    let all = s ∙ interval_fields (given_end ends) (written_text c.args.id.now) word (written_text c.args.label.now) props (given_start ends) in
    on_ok_weaker c.put_number-2.result
    (λ is. (ap object (is ∙ all), c.as_str-label.ensures.is_text, c.as_str-id.ensures.is_text, c.in_ok-put_given_set.ensures.keyed))
    c.put_number-2.ensures
