use Rattle.std.proofs.Common.{◌≡◌, ◌∙◌, ◌+◌, sym, ap, arith}
use Rattle.std.specs.Option.{option_copied}
use Rattle.ft_attrib.specs.Totals.{count_of}
use Rattle.ft_seqr.proofs.AuthorLines.{added, last_author, one_author}
use Rattle.ft_seqr.proofs.answer_texts.known_author_texts.Goals as goal

pub loop-name-preserved : goal.loop-name-preserved
loop-name-preserved c =
    let conn = c.loop-name.conn in
    let next : c.in_ok-conn.conn ≡ conn + 1 = added c.checked_add.result (conn + 1) c.in_ok-conn.conn _ _ c.checked_add.ensures c.in_ok-conn.ensures.value in
    let counted = c.count_of-count.ensures ∙ ap (count_of conn) c.as_slice.ensures.value ∙ c.in_ok-totals.ensures.counts.counts conn in
    record {
      first = omega arith;
      texts = one_author c.args.names.now c.args.origins.now conn c.in_ok-conn.conn c.count_of-count.result c.in-Some.name.now c.loop-name.texts.items c.push_author.new.texts.items _
          c.loop-name.invariant.first (sym c.in-Some.ensures) next counted c.in_ok-push_author.ensures c.loop-name.invariant.texts;
    }

pub returns : goal.returns
returns c =
    last_author c.args.names.now c.args.origins.now c.loop-name.conn c.loop-name.texts.items _ c.loop-name.invariant.first
    (sym c.name.ensures ∙ ap option_copied c.in_default.is) c.loop-name.invariant.texts
