use Rattle.std.proofs.Common.{◌≡◌, ◌∷◌, ◌++◌, ap, map, refl, string_bytes, ◌∙◌}
use Rattle.std.proofs.lemmas.Result.{on_ok_weaker}
use Rattle.ft_io.specs.Lines.{with_lf}
use Rattle.ft_seqr.specs.SessionReport.{closing_lines}
use Rattle.ft_seqr.specs.World.{furthest}
use Rattle.ft_replay.specs.LineForm.{bytes_of}
use Rattle.ft_replay.specs.Play.{agreement_line, all_agree, client_line, settings_line}
use Rattle.ft_replay.proofs.ClientHeads.{lines_behind, part_behind, pushed_part}
use Rattle.ft_replay.proofs.play.Play.push_text.Goals as goal

pub returns : goal.returns
returns g c = λ at h.
    let before = string_bytes c.args.text.now in
    let first = string_bytes c.push_settings.new.text in
    let shown = string_bytes c.push_str.new.self in
    let agreement = string_bytes c.push_str-2.new.self in
    let all = string_bytes c.push_closing.new.text in
    let doc = furthest at.made in
    let head = settings_line c.args.settings in
    let clients = map client_line at.shown in
    let word = agreement_line (all_agree at.shown) in
    let last = closing_lines at.refused doc in
    let behind = clients ++ word ∷ last in
    let clients_are = pushed_part first shown _ (bytes_of clients) c.in_ok-push_str.ensures.bytes (c.as_str.ensures.value ∙ h.shown.lines) in
    let word_is =
    pushed_part shown agreement _ (with_lf word) c.in_ok-push_str-2.ensures.bytes
    (c.agreement_text.ensures ∙ ap (λ same. with_lf (agreement_line same)) h.shown.agreement.all) in
    on_ok_weaker c.push_closing.result
    (λ (is : all ≡ agreement ++ bytes_of (closing_lines c.args.self.now.refused doc)).
    lines_behind before first all head head behind behind c.in_ok-push_settings.ensures refl refl
    (lines_behind shown agreement all word word last last word_is refl refl
    (is ∙ ap (λ n. agreement ++ bytes_of (closing_lines n doc)) h.refusals)
    ∙ part_behind first shown clients (word ∷ last) clients_are))
    (c.push_closing.ensures doc (c.counts.ensures.stands at.made h.world))
