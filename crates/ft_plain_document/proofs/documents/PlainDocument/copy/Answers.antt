use Rattle.std.proofs.Common.{◌≡◌, Ok, refl}
use Rattle.std.proofs.lemmas.Result.{IfOk-at_ok}
use Rattle.ft_plain_document.proofs.documents.PlainDocument.copy.Goals as goal

pub returns : goal.returns
returns c =
    let d = c.self.inside in
    let all = c.in_ok-text.ensures in
    let texts = c.both-texts.ensures in
    let grid = c.all_three-grid.ensures in
    let text = IfOk-at_ok (λ l. l ≡ d.text) (IfOk-at_ok (λ p. c.copy.result ≡ Ok p.0) all.first texts.first) c.copy.ensures in
    let intervals = IfOk-at_ok (λ is. is ≡ d.intervals) (IfOk-at_ok (λ p. c.copy-2.result ≡ Ok p.1) all.first texts.second) c.copy-2.ensures in
    let rows = IfOk-at_ok (λ l. l ≡ d.rows) (IfOk-at_ok (λ p. c.copy-3.result ≡ Ok p.0) all.second grid.first) c.copy-3.ensures in
    let cols = IfOk-at_ok (λ l. l ≡ d.cols) (IfOk-at_ok (λ p. c.copy-4.result ≡ Ok p.1) all.second grid.second) c.copy-4.ensures in
    let cells = IfOk-at_ok (λ cs. cs ≡ d.cells) (IfOk-at_ok (λ p. c.copy-5.result ≡ Ok p.2) all.second grid.third) c.copy-5.ensures in
    rw (← c.self.view_is) (rw (text, intervals, rows, cols, cells) refl)
