-- A text cut into runs, from the front.
use Rattle.std.proofs.Common.{◌≡◌, ℕ, ◌+◌, ◌*◌, ◌≤◌, true, is_none, List, [], ◌∷◌, ◌++◌, flat_map, map, length, refl, sym, ◌∙◌, ap, arith, append_assoc, append-nil, length-append}
use Rattle.std.proofs.lemmas.Grind.{flat_map-append}
use Rattle.std.proofs.lemmas.List.{map-append}
use Rattle.ft_base.proofs.Booleans.{both}
use Rattle.ft_tree_leaves.specs.declared.text.TextContent.{TextContent}
use Rattle.ft_tree_leaves.specs.declared.text.TextPiece.TheVariants.{Run}
use Rattle.ft_tree_leaves.specs.TextLeaves.{new_text, text_units}
use Rattle.ft_props.specs.Element.{Character}
use Rattle.ft_text.specs.Contents.{are_new}

-- the contents so far and the characters ahead are all; each run but the last one is full
pub record RunsSoFar (text : List ℕ) (contents : List TextContent) (rest : List ℕ) : Type 0 where
  pub units : flat_map text_units contents ++ map Character rest ≡ map Character text
  pub fresh : are_new contents ≡ true
  pub full : 1 ≤ length rest → length contents * 256 + length rest ≡ length text
  pub few : length contents * 256 ≤ length text + 255

new-append : (xs ys : List TextContent) → are_new xs ≡ true → are_new ys ≡ true → are_new (xs ++ ys) ≡ true
new-append [] ys h g = g
new-append (x ∷ xs) ys h g = let p = both (is_none x.by) (are_new xs) h in rw (p.0, new-append xs ys p.1 g) refl

-- one run more
pub next-run : (text front rest : List ℕ) (contents : List TextContent) → RunsSoFar text contents (front ++ rest) → 1 ≤ length front → length front ≤ 256
    → (1 ≤ length rest → length front ≡ 256) → RunsSoFar text (contents ++ (new_text (Run front) ∷ [])) rest
next-run text front rest contents h some small whole =
    let sum = length-append front rest in
    let more = length-append contents (new_text (Run front) ∷ []) in
    let all = h.full (omega arith) in
    record {
      units = ap (λ us. us ++ map Character rest) (flat_map-append text_units contents (new_text (Run front) ∷ []) ∙ ap (λ us. flat_map text_units contents ++ us) (append-nil (map Character front)))
          ∙ append_assoc (flat_map text_units contents) (map Character front) (map Character rest)
          ∙ ap (λ us. flat_map text_units contents ++ us) (sym (map-append Character front rest)) ∙ h.units;
      fresh = new-append contents (new_text (Run front) ∷ []) h.fresh refl;
      full = λ l. (let size = whole l in omega arith);
      few = omega arith;
    }
