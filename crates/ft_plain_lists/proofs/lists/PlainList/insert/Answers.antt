use Rattle.std.proofs.Common.{◌≡◌, ℕ, ◌+◌, List, [], ◌++◌, Option, map, length, take, drop, sym, ◌∙◌, ap}
use Rattle.std.proofs.lemmas.List.{length-map, take_rest}
use Rattle.std.proofs.lemmas.Result.{on_ok_weaker}
use Rattle.std.specs.List.{prefix_len}
use Rattle.ft_base.specs.declared.stamps.Stamp.{Stamp}
use Rattle.ft_base.specs.declared.stamps.Stamp.TheVariants.{Acked}
use Rattle.ft_base.specs.Scan.{place, put}
use Rattle.ft_props.specs.Element.{ElementContent, ListElement, is_pending, new_elements, seen_by}
use Rattle.ft_props.specs.Properties.{PropertyList}
use Rattle.ft_props.specs.Steps.{Sequence, after_insertion}
use Rattle.ft_plain_lists.specs.Contents.{content_of}
use Rattle.ft_plain_lists.proofs.PlacedList.{put-place}
use Rattle.ft_plain_lists.proofs.lists.PlainList.insert.Goals as goal

-- a list with new elements at a place
abbrev with_new : ℕ → List ListElement → ℕ → Sequence → Sequence
with_new i new n list = record { items = take i list.items ++ (new ++ drop i list.items); made = list.made + n }

-- a list in which the new elements stand at the place of an insertion is the one after the insertion
inserted : (s c r p : ℕ) (dels : List Stamp) (by : Option Stamp) (props : PropertyList) (contents : List ElementContent)
    (list : Sequence) (i j n : ℕ) → i ≡ place (seen_by r c) p list.items → j ≡ prefix_len is_pending (drop i list.items) → dels ≡ []
    → n ≡ length contents
    → with_new (i + j) (new_elements list.made (Acked s c) dels by props contents) n list ≡ after_insertion s c r p by props contents list
inserted s c r p dels by props contents list i j n at_place past none counted =
    let new = new_elements list.made (Acked s c) [] by props contents in
    let placed = put-place (seen_by r c) is_pending p new list.items in
    let here : take (i + j) list.items ++ (new ++ drop (i + j) list.items) ≡ put (seen_by r c) is_pending p new list.items = cc in
    rw (none, counted) (ap (λ (xs : List ListElement). record (after_insertion s c r p by props contents list) { items = xs }) here)

pub returns-clause-ok : goal.returns-clause-ok
returns-clause-ok c =
    let list = c.args.self.now in
    let contents = map content_of c.args.contents.now in
    let old = c.self.inside.items.items in
    let i = c.insertion_place-place.result in
    let j = c.pending_run.result in
    let at_place = c.insertion_place-place.ensures.place ∙ ap (place (seen_by c.args.at.r c.args.at.c) c.args.p) c.as_slice.ensures.value in
    let past : j ≡ prefix_len is_pending (drop i old) =
    rw (← c.deref.ensures.value) (c.pending_run.ensures.run ∙ ap (prefix_len is_pending) (take_rest c.deref.result.now i)) in
    on_ok_weaker c.put_new.result
    (λ put. put ∙ inserted c.args.seq c.args.at.c c.args.at.r c.args.p c.new-dels.result c.args.by c.args.props.now contents list i j
    (length c.args.contents.now) (at_place ∙ ap (λ (l : Sequence). place (seen_by c.args.at.r c.args.at.c) c.args.p l.items) c.self.view_is)
    (past ∙ ap (λ (l : Sequence). prefix_len is_pending (drop i l.items)) c.self.view_is) c.new-dels.ensures
    (sym (length-map c.args.contents.now content_of)))
    c.put_new.ensures.ok
