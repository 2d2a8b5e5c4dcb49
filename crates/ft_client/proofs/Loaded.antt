-- The document of a summary has nothing pending.
use Rattle.std.proofs.Common.{◌≡◌, ◌≤◌, ℕ, ◌+◌, Bool, true, false, List, [], ◌∷◌, ◌++◌, None, refl, ◌∙◌, ap, map, replicate, arith}
use Rattle.ft_base.specs.declared.stamps.Stamp.{Stamp}
use Rattle.ft_base.specs.declared.stamps.Stamp.TheVariants.{Acked}
use Rattle.ft_base.specs.Scan.{len, one_more_if}
use Rattle.ft_props.specs.Element.{ElementContent, GridUnit, is_pending, new_elements}
use Rattle.ft_sumdoc.specs.declared.summary.RunRec.{RunRec}
use Rattle.ft_sumdoc.specs.declared.summary.SumDoc.{SumDoc}
use Rattle.ft_marks.specs.Marks.{stamp_of}
use Rattle.ft_msg.specs.Summary.{doc_of, run_items}
use Rattle.ft_string.specs.Holds.{HoldsText}
use Rattle.ft_matrix.specs.HoldsGrid.{HoldsGrid}
use Rattle.ft_props.specs.Element.{ListElement}
use Rattle.ft_client.specs.declared.own.TreeOwn.{TreeOwn}
use Rattle.ft_client.specs.Holds.{HoldsTree}
use Rattle.ft_client.specs.Numbers.{NumberState, summary_numbers}

len-more : (xs ys : List ListElement) → len is_pending (xs ++ ys) ≡ len is_pending xs + len is_pending ys
len-more [] ys = nothing-before (len is_pending ys)
  where
    nothing-before : (n : ℕ) → n ≡ 0 + n
    nothing-before n = omega arith
len-more (x ∷ xs) ys = step (is_pending x) (len-more xs ys)
  where
    step : (b : Bool) → len is_pending (xs ++ ys) ≡ len is_pending xs + len is_pending ys
        → one_more_if b (len is_pending (xs ++ ys)) ≡ one_more_if b (len is_pending xs) + len is_pending ys
    step true h = omega (arith, h)
    step false h = h

none-new : (s c n : ℕ) (dels : List Stamp) (bs : List ElementContent) → len is_pending (new_elements n (Acked s c) dels None [] bs) ≡ 0
none-new s c n dels [] = refl
none-new s c n dels (b ∷ bs) = none-new s c (n + 1) dels bs

none-pending : (n : ℕ) (runs : List RunRec) → len is_pending (run_items n runs) ≡ 0
none-pending n [] = refl
none-pending n (run ∷ runs) =
    let new = new_elements n (stamp_of run.ins) (map stamp_of run.dels) None [] (replicate run.count GridUnit) in
    len-more new (run_items (n + run.count) runs)
    ∙ ap (λ k. k + len is_pending (run_items (n + run.count) runs)) (none-new run.ins.seq run.ins.conn n (map stamp_of run.dels) (replicate run.count GridUnit))
    ∙ nothing-before (len is_pending (run_items (n + run.count) runs)) ∙ none-pending (n + run.count) runs
  where
    nothing-before : (n : ℕ) → 0 + n ≡ n
    nothing-before n = omega arith

counted : (a b m p : ℕ) → a ≡ b → m ≡ b → p ≡ 0 → a ≡ m + p
counted a b m p e f g = omega arith

pub loaded : (s : TreeOwn) (sum : SumDoc) (rows cols : ℕ) → HoldsText s.text (doc_of sum) [] → HoldsGrid s.table (doc_of sum) [] → s.stages.items ≡ []
    → s.numbers ≡ summary_numbers sum rows cols → rows ≡ s.table.rows_made → cols ≡ s.table.cols_made → s.text.floor ≡ 0 → s.text.given ≡ 0
    → s.text.usable ≡ true
    → s.table.floor ≡ 0 → s.table.given ≡ 0 → s.table.usable ≡ true → HoldsTree s (record { doc = doc_of sum; stages = []; last = 0; low = sum.min })
loaded s sum rows cols text table stages numbers in_rows in_cols tf tg tu gf gg gu = record {
  text = text;
  table = table;
  stages = stages;
  numbers = record {
    number = ap (λ (n : NumberState). n.number) numbers;
    minimum = ap (λ (n : NumberState). n.minimum) numbers;
    skipped = ap (λ (n : NumberState). n.skipped) numbers;
    other = ap (λ (n : NumberState). n.other) numbers;
    rows = ap (λ (n : NumberState). n.rows) numbers ∙ counted rows s.table.rows_made (doc_of sum).rows.made (len is_pending (run_items 0 sum.rows)) in_rows table.rows_made
        (none-pending 0 sum.rows);
    cols = ap (λ (n : NumberState). n.cols) numbers ∙ counted cols s.table.cols_made (doc_of sum).cols.made (len is_pending (run_items 0 sum.cols)) in_cols table.cols_made
        (none-pending 0 sum.cols);
    last = ap (λ (n : NumberState). n.last) numbers;
    fits = omega arith;
  };
  settled = record { text = tu; table = gu; text_given = tg; table_given = gg; text_floor = nothing tf; table_floor = nothing gf };
}
  where
    nothing : {n : ℕ} → n ≡ 0 → n ≤ sum.min
    nothing e = omega (arith, e)
