use Rattle.std.proofs.Common.{◌≡◌, ◌∙◌, ap, sym, ℕ, ◌+◌, true, false, cond, List, ◌∷◌, ◌++◌, chars, drop, string_bytes, refl, append_assoc, arith}
use Rattle.std.proofs.lemmas.List.{drop_more}
use Rattle.std.proofs.lemmas.Str.{chars-nil}
use Rattle.ft_props.specs.Element.{ListElement, seen}
use Rattle.ft_msg.specs.Content.{content_characters, stage_view, text_characters}
use Rattle.ft_plain_lists.proofs.shown.shown_text.Goals as goal
use Rattle.ft_plain_lists.proofs.shown.shown_text.Goals.{then-is_seen_at+in_ok-push_character, else-is_seen_at}

-- the first element adds its character, if it is seen and has one
first : (k : ℕ) (e : ListElement) (xs : List ListElement)
    → text_characters (stage_view k (e ∷ xs)) ≡ cond (seen k e) (content_characters e.content ++ text_characters (stage_view k xs)) (text_characters (stage_view k xs))
first k e xs = grind arith

-- a seen element goes over to the text so far
taken : (k : ℕ) (e : ListElement) (xs ys : List ListElement) (text next all : List ℕ)
    → ys ≡ e ∷ xs → true ≡ seen k e → next ≡ text ++ content_characters e.content
    → text ++ text_characters (stage_view k ys) ≡ all → next ++ text_characters (stage_view k xs) ≡ all
taken k e xs ys text next all at_front is_seen pushed so_far =
    grind (arith, first k e xs, append_assoc text (content_characters e.content) (text_characters (stage_view k xs)))

-- another is left out
passed : (k : ℕ) (e : ListElement) (xs ys : List ListElement) (text all : List ℕ)
    → ys ≡ e ∷ xs → false ≡ seen k e → text ++ text_characters (stage_view k ys) ≡ all → text ++ text_characters (stage_view k xs) ≡ all
passed k e xs ys text all at_front unseen so_far = grind (arith, first k e xs)

pub loop-e-init : goal.loop-e-init
loop-e-init c = rw c.new-text.ensures.bytes (rw chars-nil refl)

pub loop-e-preserved : goal.loop-e-preserved
loop-e-preserved c =
    let xs = c.args.items.now in
    let rest = drop (c.loop-e.e-index + 1) xs in
    let all = text_characters (stage_view c.args.stage xs) in
    let at_front = drop_more xs c.loop-e.e-index c.e-item.result c.loop-e-test.true ∙ ap (λ e. e ∷ rest) (sym c.e-item.is) in
    elim c.if-is_seen_at.branch [
      | then-is_seen_at+in_ok-push_character w ↦
          taken c.args.stage c.e-item.result rest (drop c.loop-e.e-index xs) (chars (string_bytes c.loop-e.text)) (chars (string_bytes c.if-is_seen_at.text)) all
          at_front w.if-is_seen_at.ensures (ap (λ t. chars (string_bytes t)) w.text-is ∙ w.in_ok-push_character.ensures ∙ ap
          (λ x. chars (string_bytes c.loop-e.text) ++ content_characters x) w.content.ensures) c.loop-e.invariant
      | else-is_seen_at w ↦
          rw w.text-is (passed c.args.stage c.e-item.result rest (drop c.loop-e.e-index xs) (chars (string_bytes c.loop-e.text)) all at_front
          w.if-is_seen_at.ensures c.loop-e.invariant)
    ]
