use Rattle.std.proofs.Common.{◌≡◌, [], ◌∷◌, ◌++◌, true, sym, ap, ◌∙◌, subst, append_assoc}
use Rattle.std.proofs.lemmas.Str.{IsUtf8-string_bytes}
use Rattle.std.specs.List.Sorted.{IsStrictlySortedBy}
use Rattle.std.specs.Map.{keys_of}
use Rattle.std.specs.String.{string_cmp}
use Rattle.serde_json.proofs.Views.{Entry}
use Rattle.serde_json.specs.View.{view, members_view}
use Rattle.ft_json.specs.Canonical.{has_whole_numbers, members_have_whole_numbers, MembersAreCanonical}
use Rattle.ft_json.proofs.Lists.{before_next, scalar_is_canonical}
use Rattle.ft_json.proofs.checks.+whole.Goals as goal

pub has_whole_numbers-returns-in-Null-3-clause-canonical : goal.has_whole_numbers-returns-in-Null-3-clause-canonical
has_whole_numbers-returns-in-Null-3-clause-canonical t c = λ _. scalar_is_canonical c.args.value.now c.in-Null.is

pub members_have_whole_numbers-loop-member-preserved : goal.members_have_whole_numbers-loop-member-preserved
members_have_whole_numbers-loop-member-preserved t c =
    let l = c.loop-member in
    let done = l.invariant.0.0 in
    let e : Entry = (c.in-Some.field-0-0.now, c.in-Some.member.now) in
    let left = c.next.new.self in
    let step : l.member-iterator ≡ e ∷ left = c.in-Some.ensures.steps in
    let all : c.args.members.now.entries ≡ done ++ e ∷ left = l.invariant.0.1 ∙ ap (λ es. done ++ es) step in
    let before = before_next done e left (subst (λ es. IsStrictlySortedBy string_cmp (keys_of es)) all c.iter-member-items.ensures.ordered) in
    let passed = c.if-not-has_whole_numbers.false in
    let whole : has_whole_numbers (view e.1) ≡ true = sym c.has_whole_numbers.ensures.value ∙ passed in
    let split : members_have_whole_numbers (members_view l.member-iterator) ≡ members_have_whole_numbers (members_view left) =
    ap (λ es. members_have_whole_numbers (members_view es)) step ∙ rw whole in (
      (done ++ e ∷ [], all ∙ sym (append_assoc done (e ∷ []) left)),
      sym split ∙ l.invariant.1,
      λ rest. l.invariant.2 (subst (λ es. MembersAreCanonical (members_view es)) (sym step) (IsUtf8-string_bytes e.0, before, c.has_whole_numbers.ensures.canonical passed, rest)),
    )
