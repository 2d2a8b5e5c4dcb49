-- The characters and markers of a view, put one after another, are its elements without properties.
use Rattle.std.proofs.Common.{◌≡◌, ℕ, zero, suc, ◌+◌, ◌-◌, ◌≤◌, Bool, true, List, [], ◌∷◌, ◌++◌, append-nil, drop, length, map, take, refl, sym, ◌∙◌, ap, arith}
use Rattle.std.specs.List.{list_all}
use Rattle.ft_base.proofs.Booleans.{both}
use Rattle.ft_props.specs.Element.{ElementContent, Character, MarkerOf, GridUnit}
use Rattle.ft_props.specs.Properties.{Characters}
use Rattle.ft_op.specs.declared.operations.Seg.TheVariants.{Chars, Marker}
use Rattle.ft_op.specs.Operation.{segment_contents}
use Rattle.ft_msg.specs.declared.views.Spot.{Spot}
use Rattle.ft_msg.specs.Content.{content_characters, content_markers}
use Rattle.ft_laws_summaries.proofs.SummaryLists.{is_of_text}
use Rattle.ft_changes.specs.declared.changes.ViewChange.{ViewChange}
use Rattle.ft_changes.specs.declared.changes.ViewChange.TheVariants.{Put}
use Rattle.ft_changes.specs.Shown.{ShownContent, ShownElement, after_changes, restyled, shown_characters, shown_markers, styled_elements}
use Rattle.ft_changes.specs.ShownRuns.{put_in}
use Rattle.ft_changes.proofs.ForeignSteps.{after-append}
use Rattle.ft_change_lines.specs.FromNothing.{nothing_shown, put_elements, put_text}

-- these elements are shown, and nothing else
abbrev pub shows : List ShownElement → ShownContent
shows es = record nothing_shown { elements = es }

-- an element of the text
abbrev pub is_text_element : ShownElement → Bool
is_text_element e = is_of_text e.content

abbrev pub are_text_elements : List ShownElement → Bool
are_text_elements es = list_all is_text_element es

-- elements without their properties
abbrev pub bare : List ShownElement → List ShownElement
bare es = map (restyled []) es

-- characters without properties
abbrev bare_text : Characters → List ShownElement
bare_text text = styled_elements [] (segment_contents (Chars text))

abbrev bare_character : ℕ → ShownElement
bare_character c = record { content = Character c; props = [] }

abbrev bare_marker : ℕ → ShownElement
bare_marker r = record { content = MarkerOf r; props = [] }

put-last : (n : ℕ) (new acc : List ShownElement) → length acc ≡ n → put_in n new acc ≡ acc ++ new
put-last zero new [] e = append-nil new
put-last (suc n) new [] e = absurd (cc)
put-last zero new (x ∷ acc) e = absurd (cc)
put-last (suc n) new (x ∷ acc) e = ap (λ xs. x ∷ xs) (put-last n new acc (omega (arith, e)))

next-last : (acc : List ShownElement) (x : ShownElement) (xs : List ShownElement) → (acc ++ x ∷ []) ++ xs ≡ acc ++ x ∷ xs
next-last [] x xs = refl
next-last (y ∷ acc) x xs = ap (λ ys. y ∷ ys) (next-last acc x xs)

longer : (n : ℕ) (acc : List ShownElement) (x : ShownElement) → length acc ≡ n → length (acc ++ x ∷ []) ≡ n + 1
longer n acc x e = by acc n e
  where
    by : (ys : List ShownElement) (m : ℕ) → length ys ≡ m → length (ys ++ x ∷ []) ≡ m + 1
    by [] m d = omega (arith, d)
    by (y ∷ ys) m d = let ih = by ys (length ys) refl in omega (arith, ih, d)

-- characters go in behind the others
text-put : (n : ℕ) (acc : List ShownElement) (text : Characters) → length acc ≡ n → after_changes (shows acc) (put_text n text) ≡ shows (acc ++ bare_text text)
text-put n acc [] e = ap shows (sym (append-nil acc))
text-put n acc (c ∷ text) e = ap shows (put-last n (bare_text (c ∷ text)) acc e)

-- the first marker stands at place n, or behind it
abbrev IsFrom : ℕ → List Spot → Type 0
IsFrom n [] = Unit {0}
IsFrom n (m ∷ ms) = n ≤ m.pos

take-one : (k : ℕ) (c : ℕ) (text : Characters) → take (suc k) (c ∷ text) ≡ c ∷ take k text
take-one k c text = refl

drop-one : (k : ℕ) (c : ℕ) (text : Characters) → drop (suc k) (c ∷ text) ≡ drop k text
drop-one k c text = refl

-- one character more before the next marker is put first
character-put : (n : ℕ) (acc : List ShownElement) (c : ℕ) (text : Characters) (ms : List Spot) → length acc ≡ n → IsFrom (n + 1) ms
    → after_changes (shows acc) (put_elements n (c ∷ text) ms) ≡ after_changes (shows (acc ++ bare_character c ∷ [])) (put_elements (n + 1) text ms)
character-put n acc c text [] e from =
    text-put n acc (c ∷ text) e ∙ ap shows (sym (next-last acc (bare_character c) (bare_text text)))
    ∙ sym (text-put (n + 1) (acc ++ bare_character c ∷ []) text (longer n acc (bare_character c) e))
character-put n acc c text (m ∷ ms) e from =
    let k = m.pos - (n + 1) in
    let next : m.pos - n ≡ suc k = omega (arith, from) in
    let rest : Characters → List ViewChange = λ cs. Put m.pos (Marker m.ref_type) [] ∷ put_elements (m.pos + 1) cs ms in
    let one = acc ++ bare_character c ∷ [] in
    ap (λ j. after_changes (shows acc) (put_text n (take j (c ∷ text)) ++ rest (drop j (c ∷ text)))) next
    ∙ ap (λ cs. after_changes (shows acc) (put_text n cs ++ rest (drop (suc k) (c ∷ text)))) (take-one k c text)
    ∙ ap (λ cs. after_changes (shows acc) (put_text n (c ∷ take k text) ++ rest cs)) (drop-one k c text)
    ∙ after-append (shows acc) (put_text n (c ∷ take k text)) (rest (drop k text))
    ∙ ap (λ s. after_changes s (rest (drop k text))) (text-put n acc (c ∷ take k text) e ∙ ap shows (sym (next-last acc (bare_character c) (bare_text (take k text))))
    ∙ sym (text-put (n + 1) one (take k text) (longer n acc (bare_character c) e)))
    ∙ sym (after-append (shows one) (put_text (n + 1) (take k text)) (rest (drop k text)))

-- a marker is put where it stands
marker-put : (n : ℕ) (acc : List ShownElement) (r : ℕ) (text : Characters) (ms : List Spot) → length acc ≡ n
    → after_changes (shows acc) (put_elements n text (record { pos = n; ref_type = r } ∷ ms))
    ≡ after_changes (shows (acc ++ bare_marker r ∷ [])) (put_elements (n + 1) text ms)
marker-put n acc r text ms e =
    let none : n - n ≡ 0 = omega arith in
    ap (λ k. after_changes (shows acc) (put_text n (take k text) ++ Put n (Marker r) [] ∷ put_elements (n + 1) (drop k text) ms)) none
    ∙ ap (λ es. after_changes (shows es) (put_elements (n + 1) text ms)) (put-last n (bare_marker r ∷ []) acc e)

markers-from : (es : List ShownElement) (k i : ℕ) → k ≤ i → IsFrom k (shown_markers i es)
markers-from [] k i l = tt
markers-from (e ∷ es) k i l = by e.content (markers-from es k (i + 1) (omega (arith, l)))
  where
    by : (c : ElementContent) → IsFrom k (shown_markers (i + 1) es) → IsFrom k (content_markers i c ++ shown_markers (i + 1) es)
    by (Character c) rest = rest
    by (MarkerOf r) rest = l
    by GridUnit rest = rest

-- all of them
elements-put : (es : List ShownElement) (n : ℕ) (acc : List ShownElement) → length acc ≡ n → are_text_elements es ≡ true
    → after_changes (shows acc) (put_elements n (shown_characters es) (shown_markers n es)) ≡ shows (acc ++ bare es)
elements-put [] n acc e text = ap shows (sym (append-nil acc))
elements-put (x ∷ es) n acc e text =
    let b = both (is_text_element x) (are_text_elements es) text in
    by x.content b.0 (λ y. elements-put es (n + 1) (acc ++ y ∷ []) (longer n acc y e) b.1 ∙ ap shows (next-last acc y (bare es)))
  where
    cs : Characters
    cs = shown_characters es

    ms : List Spot
    ms = shown_markers (n + 1) es

    by : (c : ElementContent) → is_of_text c ≡ true
        → ((y : ShownElement) → after_changes (shows (acc ++ y ∷ [])) (put_elements (n + 1) (shown_characters es) (shown_markers (n + 1) es)) ≡ shows (acc ++ y ∷ bare es))
        → after_changes (shows acc) (put_elements n (content_characters c ++ shown_characters es) (content_markers n c ++ shown_markers (n + 1) es))
        ≡ shows (acc ++ record { content = c; props = [] } ∷ bare es)
    by (Character c) h rest = character-put n acc c cs ms e (markers-from es (n + 1) (n + 1) (omega arith)) ∙ rest (bare_character c)
    by (MarkerOf r) h rest = marker-put n acc r cs ms e ∙ rest (bare_marker r)
    by GridUnit h rest = absurd (cc)

pub elements-lead : (es : List ShownElement) → are_text_elements es ≡ true
    → after_changes nothing_shown (put_elements 0 (shown_characters es) (shown_markers 0 es)) ≡ shows (bare es)
elements-lead es text = elements-put es 0 [] refl text
