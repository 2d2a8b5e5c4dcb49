use Rattle.std.proofs.Common.{◌≡◌, ◌∙◌, ap, arith, length, map}
use Rattle.std.proofs.lemmas.Result.{on_ok_weaker}
use Rattle.ft_props.specs.Element.{new_elements}
use Rattle.ft_props.specs.Steps.{Sequence}
use Rattle.ft_plain_lists.specs.Contents.{content_of}
use Rattle.ft_plain_lists.proofs.PlacedList.{put-at_end}
use Rattle.ft_plain_lists.proofs.lists.PlainList.append.Goals as goal

pub returns-clause-items : goal.returns-clause-items
returns-clause-items c =
    let xs = c.args.self.now.items in
    let new = new_elements c.args.self.now.made c.args.ins c.args.dels.now c.args.by c.args.props.now (map content_of c.args.contents.now) in
    let counted : c.len-count.result ≡ length c.self.inside.items.items = omega (arith, c.len-count.ensures, c.self.inside.items.ok.0) in
    let at_end : c.len-count.result ≡ length xs = counted ∙ ap (λ (list : Sequence). length list.items) c.self.view_is in
    on_ok_weaker c.put_new.result (λ put. ap (λ (list : Sequence). list.items) put ∙ rw at_end (put-at_end new xs)) c.put_new.ensures.ok

pub returns-clause-made : goal.returns-clause-made
returns-clause-made c = on_ok_weaker c.put_new.result (λ put. ap (λ (list : Sequence). list.made) put) c.put_new.ensures.ok
