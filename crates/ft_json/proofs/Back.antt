-- The compact text of a canonical value reads back as that value.
use Rattle.std.proofs.Common.{◌≡◌, ℕ, suc, ◌≤◌, max, pos, negsuc, List, [], true, Some, Ok, option_map, option_and_then, unwrap_or, Less, Greater, nat_cmp, refl, sym, ap, ap₂, ◌∙◌, subst, arith, append-nil, ltb-true}
use Rattle.std.proofs.lemmas.Bool.{false≢true}
use Rattle.std.proofs.lemmas.Cmp.{nat_list_cmp_total}
use Rattle.std.proofs.lemmas.Option.{same_Some}
use Rattle.std.specs.Cmp.Lexicographic.{slice_cmp}
use Rattle.std.specs.Ordering.{ordering_reverse}
use Rattle.std.specs.Prelude.{⊤}
use Rattle.json.specs.Lex.{tokens}
use Rattle.json.specs.Print.{IsNumber}
use Rattle.json.specs.Json as json
use Rattle.json.specs.Tree as tree
use Rattle.json.proofs.Printed.Decimals.{IsNumber-decimal, IsNumber-signed_decimal}
use Rattle.json.proofs.Printed.Tokens.{tokens-print}
use Rattle.json.proofs.Printed.Trees.{value-json_tokens, ArePrintable-json_tokens}
use Rattle.serde_json.specs.Data.{Num, unsigned, negative, float, Data, null, boolean, number, string, array, object, Items, no_items, item, Members, no_members, member, put, depth, items_depth, members_depth}
use Rattle.serde_json.specs.Read.{number_of, of_json, of_items, of_members, read, max_depth}
use Rattle.serde_json.specs.Written.{outline, items_outline, members_outline, number_text, compact_text}
use Rattle.serde_json.proofs.Numbers.{number_of-decimal, number_of-negative}
use Rattle.serde_json.proofs.Texts.{print-outline}
use Rattle.ft_json.specs.Canonical.{is_whole, IsCanonical, ItemsAreCanonical, MembersAreCanonical, IsBefore, IsTextWithin, value_of}
use Rattle.ft_json.specs.Reading.{read_line}
use Rattle.ft_json.proofs.CompactTexts.{IsUtf8-compact_text}
use Rattle.ft_json.proofs.Lines.{read_line-value}

-- ---- numbers

number_of-number_text : (n : Num) → is_whole n ≡ true → number_of (number_text n) ≡ Some n
number_of-number_text (unsigned n) h = number_of-decimal n (ltb-true _ _ h)
number_of-number_text (negative (pos n)) h = absurd (false≢true h)
number_of-number_text (negative (negsuc n)) h = number_of-negative n (ltb-true _ _ h)
number_of-number_text (float x) h = absurd (false≢true h)

IsNumber-number_text : (n : Num) → is_whole n ≡ true → IsNumber (number_text n)
IsNumber-number_text (unsigned n) h = IsNumber-decimal n (ltb-true _ _ h)
IsNumber-number_text (negative (pos n)) h = absurd (false≢true h)
IsNumber-number_text (negative (negsuc n)) h = IsNumber-signed_decimal (negsuc n) (ltb-true _ _ h)
IsNumber-number_text (float x) h = absurd (false≢true h)

mutual
  HasNumbers-outline : (d : Data) → IsCanonical d → tree.HasNumbers (outline d)
  HasNumbers-outline null h = tt
  HasNumbers-outline (boolean b) h = tt
  HasNumbers-outline (number n) h = IsNumber-number_text n h
  HasNumbers-outline (string s) h = tt
  HasNumbers-outline (array ds) h = ItemsHaveNumbers-outline ds h
  HasNumbers-outline (object ms) h = MembersHaveNumbers-outline ms h

  ItemsHaveNumbers-outline : (ds : Items) → ItemsAreCanonical ds → tree.ItemsHaveNumbers (items_outline ds)
  ItemsHaveNumbers-outline no_items h = tt
  ItemsHaveNumbers-outline (item d ds) h = (HasNumbers-outline d h.0, ItemsHaveNumbers-outline ds h.1)

  MembersHaveNumbers-outline : (ms : Members) → MembersAreCanonical ms → tree.MembersHaveNumbers (members_outline ms)
  MembersHaveNumbers-outline no_members h = tt
  MembersHaveNumbers-outline (member k d ms) h = (HasNumbers-outline d h.2, MembersHaveNumbers-outline ms h.3)

-- ---- depth

mutual
  depth-outline : (d : Data) → tree.depth (outline d) ≡ depth d
  depth-outline null = refl
  depth-outline (boolean b) = refl
  depth-outline (number n) = refl
  depth-outline (string s) = refl
  depth-outline (array ds) = ap suc (items_depth-outline ds)
  depth-outline (object ms) = ap suc (members_depth-outline ms)

  items_depth-outline : (ds : Items) → tree.items_depth (items_outline ds) ≡ items_depth ds
  items_depth-outline no_items = refl
  items_depth-outline (item d ds) = ap₂ max (depth-outline d) (items_depth-outline ds)

  members_depth-outline : (ms : Members) → tree.members_depth (members_outline ms) ≡ members_depth ms
  members_depth-outline no_members = refl
  members_depth-outline (member k d ms) = ap₂ max (depth-outline d) (members_depth-outline ms)

-- ---- members go in one after another, each behind those before it

abbrev joined : Members → Members → Members
joined no_members ns = ns
joined (member k d ms) ns = member k d (joined ms ns)

joined-no_members : (ms : Members) → joined ms no_members ≡ ms
joined-no_members no_members = refl
joined-no_members (member k d ms) = ap (member k d) (joined-no_members ms)

joined-assoc : (ls ms ns : Members) → joined (joined ls ms) ns ≡ joined ls (joined ms ns)
joined-assoc no_members ms ns = refl
joined-assoc (member k d ls) ms ns = ap (member k d) (joined-assoc ls ms ns)

-- each key is before k
abbrev AllBefore : Members → List ℕ → Type 0
AllBefore no_members k = ⊤
AllBefore (member l d ms) k = (slice_cmp nat_cmp l k ≡ Less) × AllBefore ms k

-- each key is before the first of ns
abbrev AllBeforeFirst : Members → Members → Type 0
AllBeforeFirst ms no_members = ⊤
AllBeforeFirst ms (member k d ns) = AllBefore ms k

put-AllBefore : (k : List ℕ) (d : Data) (ms : Members) → AllBefore ms k → put k d ms ≡ joined ms (member k d no_members)
put-AllBefore k d no_members h = refl
put-AllBefore k d (member l e ms) h =
    let above : slice_cmp nat_cmp k l ≡ Greater = nat_list_cmp_total.antisymm k l ∙ ap ordering_reverse h.0 in
    rw above (ap (member l e) (put-AllBefore k d ms h.1))

AllBefore-later : (ms : Members) (k l : List ℕ) → AllBefore ms k → slice_cmp nat_cmp k l ≡ Less → AllBefore ms l
AllBefore-later no_members k l h less = tt
AllBefore-later (member j d ms) k l h less = (nat_list_cmp_total.trans j k l h.0 less, AllBefore-later ms k l h.1 less)

AllBefore-joined : (ms ns : Members) (k : List ℕ) → AllBefore ms k → AllBefore ns k → AllBefore (joined ms ns) k
AllBefore-joined no_members ns k h g = g
AllBefore-joined (member j d ms) ns k h g = (h.0, AllBefore-joined ms ns k h.1 g)

next_first : (ms : Members) (k : List ℕ) (d : Data) (ns : Members) → AllBefore ms k → IsBefore k ns → AllBeforeFirst (joined ms (member k d no_members)) ns
next_first ms k d no_members h g = tt
next_first ms k d (member l e ns) h g = AllBefore-joined ms (member k d no_members) l (AllBefore-later ms k l h g) (g, tt)

mutual
  of_json-outline : (d : Data) → IsCanonical d → of_json (outline d) ≡ Some d
  of_json-outline null h = refl
  of_json-outline (boolean b) h = refl
  of_json-outline (number n) h = ap (option_map number) (number_of-number_text n h)
  of_json-outline (string s) h = refl
  of_json-outline (array ds) h = ap (option_map array) (of_items-outline ds h)
  of_json-outline (object ms) h = ap (option_map object) (of_members-outline ms no_members h (nothing_before ms))

  of_items-outline : (ds : Items) → ItemsAreCanonical ds → of_items (items_outline ds) ≡ Some ds
  of_items-outline no_items h = refl
  of_items-outline (item d ds) h =
      ap (option_and_then (λ x. option_map (item x) (of_items (items_outline ds)))) (of_json-outline d h.0) ∙ ap (option_map (item d)) (of_items-outline ds h.1)

  of_members-outline : (ms found : Members) → MembersAreCanonical ms → AllBeforeFirst found ms → of_members (members_outline ms) found ≡ Some (joined found ms)
  of_members-outline no_members found h before = ap Some (sym (joined-no_members found))
  of_members-outline (member k d ms) found h before =
      ap (option_and_then (λ x. of_members (members_outline ms) (put k x found))) (of_json-outline d h.2)
      ∙ ap (of_members (members_outline ms)) (put-AllBefore k d found before)
      ∙ of_members-outline ms (joined found (member k d no_members)) h.3 (next_first found k d ms before h.1)
      ∙ ap Some (joined-assoc found (member k d no_members) ms)

  nothing_before : (ms : Members) → AllBeforeFirst no_members ms
  nothing_before no_members = tt
  nothing_before (member k d ms) = tt

-- ---- the whole text

pub tokens-compact_text : (d : Data) → IsCanonical d → tokens (compact_text d) ≡ tree.json_tokens (outline d)
tokens-compact_text d h =
    let j = outline d in
    ap tokens (sym (print-outline d)) ∙ tokens-print (tree.json_tokens j) (ArePrintable-json_tokens j (HasNumbers-outline d h))

pub read-compact_text : (d : Data) → IsCanonical d → depth d ≤ max_depth → read (compact_text d) ≡ Some d
read-compact_text d h shallow =
    let j = outline d in
    let parsed = value-json_tokens j max_depth [] (omega (arith, depth-outline d)) in
    ap (option_and_then of_json) (ap (option_and_then (λ p. json.if_last p.0 p.1)) (ap (json.value max_depth) (tokens-compact_text d h ∙ sym (append-nil _)) ∙ parsed)) ∙ of_json-outline d h

pub read_line-compact_text : (d : Data) → IsCanonical d → depth d ≤ max_depth → read_line (compact_text d) ≡ Ok d
read_line-compact_text d h shallow = read_line-value (compact_text d) d (IsUtf8-compact_text d h) (read-compact_text d h shallow)

pub one_value : (d e : Data) → IsCanonical d → IsCanonical e → depth d ≤ max_depth → depth e ≤ max_depth → compact_text d ≡ compact_text e → d ≡ e
one_value d e p q deep steep same =
    same_Some d e (sym (read-compact_text d p deep) ∙ ap read same ∙ read-compact_text e q steep)

-- the value that a text stands for
pub record StandsFor (levels : ℕ) (text : List ℕ) : Type 0 where
  pub reads : read text ≡ Some (value_of text)
  pub canonical : IsCanonical (value_of text)
  pub shallow : depth (value_of text) ≤ levels
  pub spells : compact_text (value_of text) ≡ text

pub StandsFor-IsTextWithin : (levels : ℕ) (text : List ℕ) → levels ≤ max_depth → IsTextWithin levels text → StandsFor levels text
StandsFor-IsTextWithin levels text small (d, canonical, shallow, spells) =
    let reads : read text ≡ Some d = ap read spells ∙ read-compact_text d canonical (omega arith) in
    let same : d ≡ value_of text = sym (ap (λ o. unwrap_or o null) reads) in
    record {
      reads = reads ∙ ap Some same;
      canonical = subst IsCanonical same canonical;
      shallow = subst (λ x. depth x ≤ levels) same shallow;
      spells = sym (ap compact_text same) ∙ sym spells;
    }
