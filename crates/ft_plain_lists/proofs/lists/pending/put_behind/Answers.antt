use Rattle.std.proofs.Common.{◌≡◌, ◌++◌, ◌∙◌, ap, drop, sym, take}
use Rattle.std.proofs.lemmas.Result.{on_ok_weaker}
use Rattle.ft_base.specs.Scan.{no_run, place, put}
use Rattle.ft_plain_lists.proofs.MadeItems.{made-weaker}
use Rattle.ft_plain_lists.proofs.PlacedList.{put-behind}
use Rattle.ft_plain_lists.proofs.lists.pending.put_behind.Goals as goal

pub returns-clause-ok : goal.returns-clause-ok
returns-clause-ok g c =
    let seen = g.T.ElementTest.test c.args.seen in
    let xs = c.args.items.now.items in
    let ys = c.put_at.new.items.items in
    let at_place = c.insertion_place-place.ensures.place ∙ ap (place seen c.args.p) c.as_slice.ensures.value in
    on_ok_weaker c.put_at.result
    (λ made. made-weaker c.args.new (λ v. ys ≡ take c.insertion_place-place.result xs ++ (v.items ++ drop c.insertion_place-place.result xs))
    (λ v. ys ≡ put seen no_run c.args.p v.items xs)
    (λ v here. here ∙ ap (λ i. take i xs ++ (v.items ++ drop i xs)) at_place ∙ sym (put-behind seen c.args.p v.items xs)) made)
    c.put_at.ensures.ok
