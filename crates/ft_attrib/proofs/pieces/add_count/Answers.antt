use Rattle.std.proofs.Common.{arith, ◌≡◌, ◌<◌, ◌∙◌, List, length, get_or, ap, sym}
use Rattle.ft_attrib.specs.declared.attribution.Total.{Total}
use Rattle.ft_attrib.specs.Totals.{place_of_total}
use Rattle.ft_attrib.proofs.TotalLaws.{count-below, counted-other, counted-past, counted-raised}
use Rattle.ft_attrib.proofs.pieces.add_count.Goals as goal
use Rattle.ft_attrib.proofs.pieces.add_count.Goals.{else-i-len-via-then-i-len+else-index-conn, else-i-len-via-else-i-len}

pub overflow_add-sum : goal.overflow_add-sum
overflow_add-sum c =
    let list : List Total = c.args.totals.now.items in
    let t : Total = c.index-then-index-conn.result.now in
    let inside : c.total_place-i.result < length list = omega (arith, ap length c.as_slice.ensures.value) in
    let same : (get_or list c.total_place-i.result t).count ≡ t.count = ap (λ (x : Total). x.count) (sym c.index-then-index-conn.ensures) in
    omega (arith, count-below list c.total_place-i.result t inside, same)

pub returns-then-index-conn : goal.returns-then-index-conn
returns-then-index-conn c =
    let list : List Total = c.args.totals.now.items in
    let place : c.total_place-i.result ≡ place_of_total c.args.conn list = c.total_place-i.ensures.place ∙ ap (place_of_total c.args.conn) c.as_slice.ensures.value in
    let inside : c.total_place-i.result < length list = omega (arith, ap length c.as_slice.ensures.value) in
    counted-raised c.args.conn c.args.count c.total_place-i.result list c.index.result.now c.index-then-index-conn.result.now
    place inside c.index.ensures c.if-index-conn.true c.index-then-index-conn.ensures

pub returns : goal.returns
returns c =
    let list : List Total = c.args.totals.now.items in
    let place : c.total_place-i.result ≡ place_of_total c.args.conn list = c.total_place-i.ensures.place ∙ ap (place_of_total c.args.conn) c.as_slice.ensures.value in
    c.in_ok-insert.ensures.items
    ∙ elim c.else-i-len.branch [
      | else-i-len-via-then-i-len+else-index-conn w ↦
          counted-other c.args.conn c.args.count c.total_place-i.result list w.index.result.now place w.index.ensures w.if-index-conn.false
      | else-i-len-via-else-i-len w ↦ counted-past c.args.conn c.args.count c.total_place-i.result list place (omega (arith, ap length c.as_slice.ensures.value))
    ]
