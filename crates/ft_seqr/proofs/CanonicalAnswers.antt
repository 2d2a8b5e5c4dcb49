-- The values that answers are written as are canonical.
use Rattle.std.proofs.Common.{◌≡◌, ℕ, suc, ◌≤◌, max, List, [], Option, Some, None, option_and_then, refl, sym, ap, ap₂, ◌∙◌, subst, arith, append-nil}
use Rattle.std.specs.List.{AllByRecursion}
use Rattle.json.specs.Lex.{tokens}
use Rattle.json.specs.Token.{Token}
use Rattle.json.specs.Json as json
use Rattle.json.specs.Tree as tree
use Rattle.json.proofs.Found.{one_reading}
use Rattle.json.proofs.Nesting.{value-depth}
use Rattle.json.proofs.Printed.Trees.{value-json_tokens}
use Rattle.serde_json.specs.Data.{Data, null, boolean, number, string, array, object, Items, no_items, item, Members, no_members, member, depth, items_depth, members_depth}
use Rattle.serde_json.specs.Read.{of_json, read}
use Rattle.serde_json.specs.Written.{items_outline, members_outline, outline}
use Rattle.ft_json.specs.Canonical.{IsCanonical, IsCanonicalText, IsTextWithin, value_of}
use Rattle.ft_json.proofs.Back.{StandsFor-IsTextWithin, tokens-compact_text}
use Rattle.ft_props.specs.Properties.{PropertyList}
use Rattle.ft_op.specs.Representable.{IsKeyed}
use Rattle.ft_op.proofs.CanonicalOperations.{canonical_pairs}
use Rattle.ft_sumdoc.specs.Written.{written_props}

-- ---- the value that a text stands for

mutual
  depth-outline : (d : Data) → tree.depth (outline d) ≡ depth d
  depth-outline null = refl
  depth-outline (boolean b) = refl
  depth-outline (number n) = refl
  depth-outline (string s) = refl
  depth-outline (array ds) = ap suc (items_depth-outline ds)
  depth-outline (object ms) = ap suc (members_depth-outline ms)

  items_depth-outline : (ds : Items) → tree.items_depth (items_outline ds) ≡ items_depth ds
  items_depth-outline no_items = refl
  items_depth-outline (item d ds) = ap₂ max (depth-outline d) (items_depth-outline ds)

  members_depth-outline : (ms : Members) → tree.members_depth (members_outline ms) ≡ members_depth ms
  members_depth-outline no_members = refl
  members_depth-outline (member k d ms) = ap₂ max (depth-outline d) (members_depth-outline ms)

-- what is read was parsed
parsed : (o : Option (json.Json × List Token)) (e : Data) → option_and_then of_json (option_and_then (λ p. json.if_last p.0 p.1) o) ≡ Some e → (p : json.Json × List Token) × (o ≡ Some p)
parsed None e h = (cc)
parsed (Some p) e h = (p, refl)

-- a canonical text that is read has at most 127 levels
read-within : (text : List ℕ) (e : Data) → IsCanonicalText text → read text ≡ Some e → IsTextWithin 127 text
read-within text e (d, canonical, spells) reads =
    let j = outline d in
    let spelled : tokens text ≡ tree.json_tokens j = ap tokens spells ∙ tokens-compact_text d canonical in
    let found = parsed (json.value 127 (tokens text)) e reads in
    let whole : json.value (tree.depth j) (tokens text) ≡ Some (j, []) =
    ap (json.value (tree.depth j)) (spelled ∙ sym (append-nil (tree.json_tokens j))) ∙ value-json_tokens j (tree.depth j) [] (omega arith) in
    let same = one_reading 127 (tree.depth j) (tokens text) found.0 (j, []) found.1 whole in
    let shallow : tree.depth j ≤ 127 = value-depth 127 (tokens text) [] j (found.1 ∙ same) in
    (d, canonical, subst (λ n. n ≤ 127) (depth-outline d) shallow, spells)

-- the value of a canonical text is canonical
pub canonical-read : (text : List ℕ) (e : Data) → IsCanonicalText text → read text ≡ Some e → IsCanonical (value_of text)
canonical-read text e h reads = (StandsFor-IsTextWithin 127 text (omega arith) (read-within text e h reads)).canonical

-- ---- properties

pub canonical_props : (props : PropertyList) → IsKeyed props → AllByRecursion (λ p. IsCanonical (value_of p.1)) props → IsCanonical (written_props props)
canonical_props props keyed values = canonical_pairs value_of props keyed.0 keyed.1 values
