-- Reading a list item by item, where one that has not the form leaves none.
use Rattle.std.proofs.Common.{◌≡◌, ℕ, zero, suc, ◌+◌, ◌-◌, ◌<◌, ◌≤◌, ◌&&◌, Bool, true, List, [], ◌∷◌, ◌++◌, length, get_or, drop, map, Option, Some, None, bytes_eq, refl, sym, ap, subst, ◌∙◌, append_assoc, append-nil, add-one, arith}
use Rattle.std.proofs.Math.Seq.{drop-cons}
use Rattle.std.proofs.lemmas.List.{drop_all, map-append}
use Rattle.std.specs.Ordering.{is_eq}
use Rattle.std.proofs.lemmas.Map.Text.{is_eq-slice_cmp}
use Rattle.ft_props.specs.Properties.{Characters, text_cmp}
use Rattle.ft_sumdoc.specs.Forms.{◌>>=◌, each_of, rises}
use Rattle.ft_sumdoc.specs.Segments.{GivenSegment}
use Rattle.serde_json.specs.Data.{Data}
use Rattle.ft_sumdoc.specs.Summary.{given_length}
use Rattle.ft_sumdoc.specs.Narrow.{TextParts, narrow_chunk, narrow_chunks, with_chunk}

-- what was read, with what the rest gives behind it
abbrev pub behind : {A : Type 0} → List A → Option (List A) → Option (List A)
behind done None = None
behind done (Some rest) = Some (done ++ rest)

-- the segments and the lengths of chunks that were read, with what the rest gives behind them
abbrev pub parts_behind : List GivenSegment → List ℕ → Option TextParts → Option TextParts
parts_behind segs lengths None = None
parts_behind segs lengths (Some rest) = Some (record { segs = segs ++ rest.segs; lengths = lengths ++ rest.lengths })

-- the item at a place, and those behind it
pub at_item : {V : Type 0} (xs : List V) (i : ℕ) (v : V) → i < length xs → v ≡ get_or xs i v → drop i xs ≡ v ∷ drop (i + 1) xs
at_item xs i v l e = drop-cons xs i v l ∙ ap (λ (u : _). u ∷ drop (suc i) xs) (sym e) ∙ ap (λ (j : ℕ). v ∷ drop j xs) (sym (add-one i))

module _ {V D B I : Type 0} (form : D → Option B) (of : I → B) (see : V → D) where
  -- what has the form goes to what was read
  pub next_kept : (done : List B) (v : V) (rest : List V) (found : B) → Some found ≡ form (see v)
      → behind (done ++ (found ∷ [])) (each_of form (map see rest)) ≡ behind done (each_of form (map see (v ∷ rest)))
  next_kept done v rest found h =
      subst (λ (o : Option B). behind (done ++ (found ∷ [])) (each_of form (map see rest))
      ≡ behind done (o >>= λ y. each_of form (map see rest) >>= λ ys. Some (y ∷ ys))) h
      (placed (each_of form (map see rest)))
    where
      placed : (o : Option (List B)) → behind (done ++ (found ∷ [])) o ≡ behind done (o >>= λ ys. Some (found ∷ ys))
      placed None = refl
      placed (Some ys) = ap Some (append_assoc done (found ∷ []) ys)

  -- an item that has the form goes to what was read
  pub item_kept : (done : List I) (v : V) (rest : List V) (found : I) → Some (of found) ≡ form (see v)
      → behind (map of (done ++ (found ∷ []))) (each_of form (map see rest)) ≡ behind (map of done) (each_of form (map see (v ∷ rest)))
  item_kept done v rest found h =
      ap (λ (ys : List B). behind ys (each_of form (map see rest))) (map-append of done (found ∷ [])) ∙ next_kept (map of done) v rest (of found) h

  -- one that hasn't leaves none
  pub item_refused : (done : List B) (v : V) (rest : List V) → form (see v) ≡ None → behind done (each_of form (map see (v ∷ rest))) ≡ None
  item_refused done v rest h =
      subst (λ (o : Option B). behind done (o >>= λ y. each_of form (map see rest) >>= λ ys. Some (y ∷ ys)) ≡ None) (sym h) refl

  -- behind the last item nothing is to come
  pub items_read : (done : List B) (xs : List V) (i : ℕ) → length xs ≤ i → behind done (each_of form (map see (drop i xs))) ≡ Some done
  items_read done xs i l = ap (λ (zs : List V). behind done (each_of form (map see zs))) (drop_all i xs l) ∙ ap Some (append-nil done)

abbrev parts : List GivenSegment → List ℕ → Option TextParts
parts segs lengths = Some (record { segs = segs; lengths = lengths })

module _ {V I : Type 0} (version : ℕ) (of : I → GivenSegment) (see : V → Data) where
  -- a chunk that has the form goes to what was read
  pub chunk_kept : (segs : List I) (lengths : List ℕ) (v : V) (rest : List V) (chunk : List I) (n : ℕ) → Some (map of chunk) ≡ narrow_chunk version (see v)
      → n ≡ given_length (map of chunk) → parts_behind (map of (segs ++ chunk)) (lengths ++ (n ∷ [])) (narrow_chunks version (map see rest))
      ≡ parts_behind (map of segs) lengths (narrow_chunks version (map see (v ∷ rest)))
  chunk_kept segs lengths v rest chunk n h e =
      subst (λ (o : Option (List GivenSegment)). parts_behind (map of (segs ++ chunk)) (lengths ++ (n ∷ [])) (narrow_chunks version (map see rest))
      ≡ parts_behind (map of segs) lengths (o >>= λ found. narrow_chunks version (map see rest) >>= λ ps. Some (with_chunk found ps))) h (placed (narrow_chunks version (map see rest)))
    where
      placed : (o : Option TextParts) → parts_behind (map of (segs ++ chunk)) (lengths ++ (n ∷ [])) o
          ≡ parts_behind (map of segs) lengths (o >>= λ ps. Some (with_chunk (map of chunk) ps))
      placed None = refl
      placed (Some ps) =
          ap (λ (zs : List GivenSegment). parts (zs ++ ps.segs) ((lengths ++ (n ∷ [])) ++ ps.lengths)) (map-append of segs chunk)
          ∙ ap (λ (zs : List GivenSegment). parts zs ((lengths ++ (n ∷ [])) ++ ps.lengths)) (append_assoc (map of segs) (map of chunk) ps.segs)
          ∙ ap (parts (map of segs ++ (map of chunk ++ ps.segs))) (append_assoc lengths (n ∷ []) ps.lengths)
          ∙ ap (λ (m : ℕ). parts (map of segs ++ (map of chunk ++ ps.segs)) (lengths ++ (m ∷ ps.lengths))) e

  -- one that hasn't leaves none
  pub chunk_refused : (segs : List GivenSegment) (lengths : List ℕ) (v : V) (rest : List V) → narrow_chunk version (see v) ≡ None
      → parts_behind segs lengths (narrow_chunks version (map see (v ∷ rest))) ≡ None
  chunk_refused segs lengths v rest h =
      subst (λ (o : Option (List GivenSegment)). parts_behind segs lengths (o >>= λ found. narrow_chunks version (map see rest) >>= λ ps. Some (with_chunk found ps)) ≡ None) (sym h) refl

  -- behind the last chunk nothing is to come
  pub chunks_read : (segs : List GivenSegment) (lengths : List ℕ) (xs : List V) (i : ℕ) → length xs ≤ i
      → parts_behind segs lengths (narrow_chunks version (map see (drop i xs))) ≡ parts segs lengths
  chunks_read segs lengths xs i l = ap (λ (zs : List V). parts_behind segs lengths (narrow_chunks version (map see zs))) (drop_all i xs l)
      ∙ ap (λ (zs : List GivenSegment). parts zs (lengths ++ [])) (append-nil segs) ∙ ap (parts segs) (append-nil lengths)

-- no more than one rises
pub one_rises : {A B : Type 0} (before : B → B → Bool) (f : A → B) (xs : List A) → length xs ≤ 1 → rises before (map f xs) ≡ true
one_rises before f [] h = refl
one_rises before f (x ∷ []) h = refl
one_rises before f (x ∷ y ∷ xs) h = absurd (omega arith)

-- no more than one rises as it is
pub one_alone : {A : Type 0} (before : A → A → Bool) (xs : List A) → length xs ≤ 1 → rises before xs ≡ true
one_alone before [] h = refl
one_alone before (x ∷ []) h = refl
one_alone before (x ∷ y ∷ xs) h = absurd (omega arith)

-- those from one on rise as those from the one before do, where that comes before it
pub next_rises : {A : Type 0} (before : A → A → Bool) (xs : List A) (i : ℕ) (a b : A)
    → i < length xs → a ≡ get_or xs (i - 1) a → b ≡ get_or xs i b → before a b ≡ true
    → rises before (drop (i + 1 - 1) xs) ≡ rises before (drop (i - 1) xs)
next_rises before xs zero a b within first second h = let none : 0 + 1 - 1 ≡ 0 - 1 = omega arith in ap (λ (k : ℕ). rises before (drop k xs)) none
next_rises before xs (suc i) a b within first second h =
    let one : suc i - 1 ≡ i = omega arith in
    let here = at_item xs i a (omega arith) (first ∙ ap (λ (k : ℕ). get_or xs k a) one) ∙ ap (λ (k : ℕ). a ∷ drop k xs) (add-one i) in
    let behind = at_item xs (suc i) b within second in
    let next : suc i + 1 - 1 ≡ suc i = omega arith in
    ap (λ (k : ℕ). rises before (drop k xs)) next
    ∙ ap (rises before) behind
    ∙ sym (ap (λ (t : Bool). t && rises before (b ∷ drop (suc i + 1) xs)) h)
    ∙ sym (ap (λ (ys : List _). rises before (a ∷ ys)) behind)
    ∙ sym (ap (rises before) here)
    ∙ ap (λ (k : ℕ). rises before (drop k xs)) (sym one)

-- two texts are equal where their order says so
pub equal_texts : (a b : Characters) → bytes_eq a b ≡ is_eq (text_cmp a b)
equal_texts a b = sym (is_eq-slice_cmp a b)
