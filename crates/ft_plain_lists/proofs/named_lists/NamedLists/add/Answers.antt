use Rattle.std.proofs.Common.{rules, ap}
use Rattle.std.specs.BTreeMap.{get}
use Rattle.ft_plain_lists.specs.NamedLists.{name_cmp}
use Rattle.ft_plain_lists.proofs.NamedLists.{added, pushed}
use Rattle.ft_plain_lists.proofs.named_lists.NamedLists.add.Goals as goal

pub returns : goal.returns
returns g c = λ x.
    let before = get name_cmp c.args.self.now.lists in
    let name = c.args.name in
    let value = c.args.value in
    let list = c.push.new.self in
    added x name (before x) (before name) _ _ list value (search rules) ((c.in_ok-self.ensures.update.0 list).0 x)
    (pushed (before name) _ c.new.result c.or_insert-list.result.now list value c.new.ensures.items c.in_ok-self.ensures.value c.or_insert-list.ensures.value
    c.in_ok-push.ensures.items)
    (λ same. ap before same)
