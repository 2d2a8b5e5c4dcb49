use Rattle.std.proofs.Common.{ℕ, List, [], ◌∷◌, ◌++◌, take, drop, sym, ◌∙◌, ap, append_assoc}
use Rattle.std.proofs.lemmas.List.{take_rest}
use Rattle.ft_base.specs.declared.stamps.Stamp.{Stamp}
use Rattle.ft_base.specs.Visibility.{is_acked}
use Rattle.ft_tree_leaves.proofs.CutLeaves.{put_past-split}
use Rattle.ft_tree_leaves.proofs.stamps.with_removal.Goals as goal

pub returns : goal.returns
returns c =
    let n = c.sequenced_count-n.result in
    let dels = c.args.dels.now in
    let t = c.args.t in
    c.in_ok-push_all-2.ensures
    ∙ ap (λ (zs : List Stamp). c.push.new.self ++ zs) (take_rest dels n)
    ∙ ap (λ (zs : List Stamp). zs ++ drop n dels)
    (c.in_ok-push.ensures.ok
    ∙ ap (λ (zs : List Stamp). zs ++ (t ∷ [])) (c.in_ok-push_all.ensures ∙ ap (λ (zs : List Stamp). zs ++ take n dels) c.new-stamps.ensures))
    ∙ append_assoc (take n dels) (t ∷ []) (drop n dels)
    ∙ ap (λ (k : ℕ). take k dels ++ ((t ∷ []) ++ drop k dels)) c.sequenced_count-n.ensures.count
    ∙ sym (put_past-split is_acked (t ∷ []) dels)
