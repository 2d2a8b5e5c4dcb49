-- Marks of pending operations: what one operation more or the oldest one less makes of them, and that they tell what is shown.
use Rattle.std.proofs.Common.{◌≡◌, ℕ, zero, suc, ◌+◌, ◌-◌, ◌<◌, ◌≤◌, Bool, true, false, cond, nat_eq, List, [], ◌∷◌, ◌++◌, Option, Some, None, length, drop, slice_index_or, refl, sym, ◌∙◌, ap, subst, arith}
use Rattle.std.specs.Prelude.{slice_get}
use Rattle.std.specs.declared.cmp.Ordering.{Ordering}
use Rattle.std.specs.declared.cmp.Ordering.TheVariants.{Less, Equal, Greater}
use Rattle.std.proofs.lemmas.Bool.Decides.{nat_tests}
use Rattle.std.proofs.lemmas.List.{length_push}
use Rattle.ft_props.specs.Keys.{Characters, KeysRise, key_cmp, remove_rising, text_cmp, value_of}
use Rattle.ft_props.proofs.RisingKeys.{KeysRise-put, KeysRise-remove, same_from_text_cmp}
use Rattle.ft_shared_map.specs.declared.ops.MapOp.{MapOp}
use Rattle.ft_shared_map.specs.declared.ops.MapOp.TheVariants.{Set, Delete, Clear}
use Rattle.ft_shared_map.specs.Maps.{FiniteMap, ValueBytes, put, put_all, written}
use Rattle.ft_shared_map.specs.Marks.{AreMarksOf, KeptMarks, KeyMark, at_key, clear_after, clear_of, forgotten, mark_after, mark_of, noted, number_of, unless_at, when_same, without}
use Rattle.ft_shared_map.proofs.MapLaws.{at_key-same, by_order, rising-put, value_of-put, value_of-remove}

-- ---- an operation more

mark_of-append : (key : Characters) (n : ℕ) (mark : KeyMark) (ops : List MapOp) (op : MapOp) → mark_of key n mark (ops ++ op ∷ []) ≡ mark_after key (n + length ops) (mark_of key n mark ops) op
mark_of-append key n mark [] op = ap (λ i. mark_after key i mark op) (omega arith)
mark_of-append key n mark (first ∷ ops) op =
    mark_of-append key (suc n) (mark_after key n mark first) ops op ∙ ap (λ i. mark_after key i (mark_of key (suc n) (mark_after key n mark first) ops) op) (omega arith)

clear_of-append : (n : ℕ) (cleared : Option ℕ) (ops : List MapOp) (op : MapOp) → clear_of n cleared (ops ++ op ∷ []) ≡ clear_after (n + length ops) (clear_of n cleared ops) op
clear_of-append n cleared [] op = ap (λ i. clear_after i cleared op) (omega arith)
clear_of-append n cleared (first ∷ ops) op =
    clear_of-append (suc n) (clear_after n cleared first) ops op ∙ ap (λ i. clear_after i (clear_of (suc n) (clear_after n cleared first) ops) op) (omega arith)

number-at : (key k : Characters) (n : ℕ) (value : Option ValueBytes) (mark : KeyMark) → at_key key k (Some n) (number_of mark) ≡ number_of (at_key key k (Some (n, value)) mark)
number-at key k n value mark = by_order (text_cmp key k) (λ e. grind arith) (λ e. grind arith) (λ e. grind arith)

keys-noted : (key : Characters) (n : ℕ) (op : MapOp) (marks : KeptMarks) (mark : KeyMark) → value_of key marks.last_of ≡ number_of mark
    → value_of key (noted n op marks).last_of ≡ number_of (mark_after key n mark op)
keys-noted key n (Set k value) marks mark h = value_of-put key k n marks.last_of ∙ ap (at_key key k (Some n)) h ∙ number-at key k n (Some value) mark
keys-noted key n (Delete k) marks mark h = value_of-put key k n marks.last_of ∙ ap (at_key key k (Some n)) h ∙ number-at key k n None mark
keys-noted key n Clear marks mark h = refl

clear-noted : (n : ℕ) (op : MapOp) (marks : KeptMarks) → (noted n op marks).cleared ≡ clear_after n marks.cleared op
clear-noted n (Set k value) marks = refl
clear-noted n (Delete k) marks = refl
clear-noted n Clear marks = refl

rising-noted : (n : ℕ) (op : MapOp) (marks : KeptMarks) → KeysRise marks.last_of → KeysRise (noted n op marks).last_of
rising-noted n (Set k value) marks r = KeysRise-put k n marks.last_of r
rising-noted n (Delete k) marks r = KeysRise-put k n marks.last_of r
rising-noted n Clear marks r = tt

pub marks-noted : (n : ℕ) (ops : List MapOp) (op : MapOp) (marks : KeptMarks) → AreMarksOf n ops marks → AreMarksOf n (ops ++ op ∷ []) (noted (n + length ops) op marks)
marks-noted n ops op marks h = record {
  keys = λ key. keys-noted key (n + length ops) op marks (mark_of key n None ops) (h.keys key) ∙ sym (ap number_of (mark_of-append key n None ops op));
  clear = clear-noted (n + length ops) op marks ∙ ap (λ c. clear_after (n + length ops) c op) h.clear ∙ sym (clear_of-append n None ops op);
  rising = rising-noted (n + length ops) op marks h.rising;
}

pub marks-pushed : (n k : ℕ) (ops new : List MapOp) (op copy : MapOp) (old marks : KeptMarks) → k ≡ n + length ops → new ≡ ops ++ copy ∷ [] → copy ≡ op → marks ≡ noted k op old → AreMarksOf n ops old
    → AreMarksOf n new marks
marks-pushed n k ops new op copy old marks number items same are h =
    subst (AreMarksOf n new) (sym (are ∙ ap (λ i. noted i op old) number))
    (subst (λ xs. AreMarksOf n xs (noted (n + length ops) op old)) (sym (items ∙ ap (λ x. ops ++ x ∷ []) same)) (marks-noted n ops op old h))

pub more-pushed : {A : Type 0} (n k top : ℕ) (xs new : List A) (x : A) → k ≡ n + length xs → new ≡ xs ++ x ∷ [] → k + 1 < top → n + length new < top
more-pushed n k top xs new x number items low =
    let e : length new ≡ length xs + 1 = ap length items ∙ length_push xs x in omega (arith, e, number, low)

-- ---- the oldest operation less

unless-before : (i n : ℕ) → i < n → unless_at i (Some n) ≡ Some n
unless-before i n l = grind (arith, nat_tests)

unless-itself : (i : ℕ) → unless_at i (Some i) ≡ None
unless-itself i = grind (arith, nat_tests)

-- a mark that isn't this older one is still none of that
mark-apart : (i : ℕ) (key : Characters) (n : ℕ) (mark : KeyMark) (ops : List MapOp) → i < n → unless_at i (number_of mark) ≡ number_of mark
    → unless_at i (number_of (mark_of key n mark ops)) ≡ number_of (mark_of key n mark ops)
mark-apart i key n mark [] l h = h
mark-apart i key n mark (op ∷ ops) l h = mark-apart i key (suc n) (mark_after key n mark op) ops (omega arith) (next op)
  where
    at : (k : Characters) (value : Option ValueBytes) → unless_at i (number_of (at_key key k (Some (n, value)) mark)) ≡ number_of (at_key key k (Some (n, value)) mark)
    at k value = by_order (text_cmp key k) (λ e. grind (arith, h)) (λ e. grind (arith, unless-before i n l)) (λ e. grind (arith, h))

    next : (op : MapOp) → unless_at i (number_of (mark_after key n mark op)) ≡ number_of (mark_after key n mark op)
    next (Set k value) = at k (Some value)
    next (Delete k) = at k None
    next Clear = refl

-- a mark that began with the oldest is that of the others, but where it is the oldest still
mark-forgotten : (i : ℕ) (value : Option ValueBytes) (key : Characters) (n : ℕ) (ops : List MapOp) → i < n
    → number_of (mark_of key n None ops) ≡ unless_at i (number_of (mark_of key n (Some (i, value)) ops))
mark-forgotten i value key n [] l = sym (unless-itself i)
mark-forgotten i value key n (op ∷ ops) l = next (mark-forgotten i value key (suc n) ops (omega arith)) op
  where
    Both : KeyMark → KeyMark → Type 0
    Both a b = number_of (mark_of key (suc n) a ops) ≡ unless_at i (number_of (mark_of key (suc n) b ops))

    at : Both None (Some (i, value)) → (v : Option ValueBytes) (o : Ordering) → Both (when_same o (Some (n, v)) None) (when_same o (Some (n, v)) (Some (i, value)))
    at ih v Less = ih
    at ih v Equal = sym (mark-apart i key (suc n) (Some (n, v)) ops (omega arith) (unless-before i n l))
    at ih v Greater = ih

    next : Both None (Some (i, value)) → (o : MapOp) → Both (mark_after key n None o) (mark_after key n (Some (i, value)) o)
    next ih (Set k v) = at ih (Some v) (text_cmp key k)
    next ih (Delete k) = at ih None (text_cmp key k)
    next ih Clear = sym (mark-apart i key (suc n) None ops (omega arith) refl)

clear-apart : (i n : ℕ) (cleared : Option ℕ) (ops : List MapOp) → i < n → unless_at i cleared ≡ cleared → unless_at i (clear_of n cleared ops) ≡ clear_of n cleared ops
clear-apart i n cleared [] l h = h
clear-apart i n cleared (Set k v ∷ ops) l h = clear-apart i (suc n) cleared ops (omega arith) h
clear-apart i n cleared (Delete k ∷ ops) l h = clear-apart i (suc n) cleared ops (omega arith) h
clear-apart i n cleared (Clear ∷ ops) l h = clear-apart i (suc n) (Some n) ops (omega arith) (unless-before i n l)

clear-forgotten : (i n : ℕ) (ops : List MapOp) → i < n → unless_at i (clear_of n (Some i) ops) ≡ clear_of n None ops
clear-forgotten i n [] l = unless-itself i
clear-forgotten i n (Set k v ∷ ops) l = clear-forgotten i (suc n) ops (omega arith)
clear-forgotten i n (Delete k ∷ ops) l = clear-forgotten i (suc n) ops (omega arith)
clear-forgotten i n (Clear ∷ ops) l = clear-apart i (suc n) (Some n) ops (omega arith) (unless-before i n l)

-- the value of a key where the mark of one was taken away, if it was this number
value_of-without : (q k : Characters) (n : ℕ) (o : Option ℕ) (last_of : List (Characters × ℕ)) → KeysRise last_of → o ≡ value_of k last_of
    → value_of q (without n k o last_of) ≡ at_key q k (unless_at n o) (value_of q last_of)
value_of-without q k n None last_of r h =
    by_order (text_cmp q k) (λ e. grind arith) (λ e. ap (λ x. value_of x last_of) (same_from_text_cmp q k e) ∙ sym h ∙ grind (arith, e)) (λ e. grind arith)
value_of-without q k n (Some i) last_of r h = step (nat_eq n i) refl
  where
    step : (b : Bool) → nat_eq n i ≡ b → value_of q (cond b (remove_rising key_cmp (k, n) last_of) last_of) ≡ at_key q k (cond b None (Some i)) (value_of q last_of)
    step true e = value_of-remove q k n last_of r
    step false e = by_order (text_cmp q k) (λ l. grind arith) (λ l. ap (λ x. value_of x last_of) (same_from_text_cmp q k l) ∙ sym h ∙ grind (arith, l)) (λ l. grind arith)

rising-without : (k : Characters) (n : ℕ) (o : Option ℕ) (last_of : List (Characters × ℕ)) → KeysRise last_of → KeysRise (without n k o last_of)
rising-without k n None last_of r = r
rising-without k n (Some i) last_of r = step (nat_eq n i)
  where
    step : (b : Bool) → KeysRise (cond b (remove_rising key_cmp (k, n) last_of) last_of)
    step true = KeysRise-remove k n last_of r
    step false = r

-- the marks of keys without the oldest operation, which named this key
key-forgotten : (q k : Characters) (n : ℕ) (value : Option ValueBytes) (ops : List MapOp) (last_of : List (Characters × ℕ)) → KeysRise last_of
    → ((key : Characters) → value_of key last_of ≡ number_of (mark_of key (suc n) (at_key key k (Some (n, value)) None) ops))
    → value_of q (without n k (value_of k last_of) last_of) ≡ number_of (mark_of q (suc n) None ops)
key-forgotten q k n value ops last_of r h = value_of-without q k n (value_of k last_of) last_of r refl ∙ step (text_cmp q k) refl (h q)
  where
    here : text_cmp q k ≡ Equal → unless_at n (value_of k last_of) ≡ number_of (mark_of q (suc n) None ops)
    here e = ap (unless_at n) (h k ∙ ap (λ mark. number_of (mark_of k (suc n) mark ops)) (at_key-same k (Some (n, value)) None))
        ∙ sym (mark-forgotten n value k (suc n) ops (omega arith)) ∙ ap (λ x. number_of (mark_of x (suc n) None ops)) (sym (same_from_text_cmp q k e))

    step : (o : Ordering) → text_cmp q k ≡ o → value_of q last_of ≡ number_of (mark_of q (suc n) (when_same o (Some (n, value)) None) ops)
        → when_same o (unless_at n (value_of k last_of)) (value_of q last_of) ≡ number_of (mark_of q (suc n) None ops)
    step Less e is = is
    step Equal e is = here e
    step Greater e is = is

pub marks-forgotten : (n : ℕ) (op : MapOp) (ops : List MapOp) (marks : KeptMarks) → AreMarksOf n (op ∷ ops) marks → AreMarksOf (suc n) ops (forgotten n op marks)
marks-forgotten n (Set k value) ops marks h = record {
  keys = λ q. key-forgotten q k n (Some value) ops marks.last_of h.rising h.keys;
  clear = h.clear;
  rising = rising-without k n (value_of k marks.last_of) marks.last_of h.rising;
}
marks-forgotten n (Delete k) ops marks h = record {
  keys = λ q. key-forgotten q k n None ops marks.last_of h.rising h.keys;
  clear = h.clear;
  rising = rising-without k n (value_of k marks.last_of) marks.last_of h.rising;
}
marks-forgotten n Clear ops marks h = record {
  keys = h.keys;
  clear = ap (unless_at n) h.clear ∙ clear-forgotten n (suc n) ops (omega arith);
  rising = h.rising;
}

pub marks-popped : (n : ℕ) (ops rest : List MapOp) (op : MapOp) (marks : KeptMarks) → 0 < length ops → op ≡ slice_index_or ops 0 op → rest ≡ drop 1 ops → AreMarksOf n ops marks
    → AreMarksOf (n + 1) rest (forgotten n op marks)
marks-popped n [] rest op marks l i r h = absurd (omega arith)
marks-popped n (x ∷ ops) rest op marks l i r h =
    subst (λ k. AreMarksOf k rest (forgotten n op marks)) (let e : suc n ≡ n + 1 = omega arith in e)
    (subst (λ zs. AreMarksOf (suc n) zs (forgotten n op marks)) (sym r) (subst (λ y. AreMarksOf (suc n) ops (forgotten n y marks)) (sym i) (marks-forgotten n x ops marks h)))

pub fewer-popped : {A : Type 0} (n top : ℕ) (xs rest : List A) → 0 < length xs → rest ≡ drop 1 xs → n + length xs < top → n + 1 + length rest < top
fewer-popped n top [] rest l r h = absurd (omega arith)
fewer-popped n top (x ∷ xs) rest l r h = let e : length rest ≡ length xs = ap length r in omega (arith, e, h)

pub slice_get-index : {A : Type 0} (xs : List A) (i : ℕ) (x : A) → i < length xs → x ≡ slice_index_or xs i x → slice_get xs i ≡ Some x
slice_get-index [] i x l h = absurd (omega arith)
slice_get-index (y ∷ xs) zero x l h = ap Some (sym h)
slice_get-index (y ∷ xs) (suc i) x l h = slice_get-index xs i x (omega arith) h

-- ---- what is shown

-- the value of a key by its mark, the last clear, and the acknowledged value
abbrev shows : KeyMark → Option ℕ → Option ValueBytes → Option ValueBytes
shows (Some mark) cleared acked = mark.1
shows None (Some n) acked = None
shows None None acked = acked

shows-at : (key k : Characters) (n : ℕ) (value : Option ValueBytes) (mark : KeyMark) (cleared : Option ℕ) (acked : Option ValueBytes)
    → at_key key k value (shows mark cleared acked) ≡ shows (at_key key k (Some (n, value)) mark) cleared acked
shows-at key k n value mark cleared acked = by_order (text_cmp key k) (λ e. grind arith) (λ e. grind arith) (λ e. grind arith)

shown-step : (key : Characters) (n : ℕ) (mark : KeyMark) (cleared : Option ℕ) (acked : Option ValueBytes) (m : FiniteMap) (op : MapOp) → KeysRise m → value_of key m ≡ shows mark cleared acked
    → value_of key (put m op) ≡ shows (mark_after key n mark op) (clear_after n cleared op) acked
shown-step key n mark cleared acked m (Set k value) r h = value_of-put key k value m ∙ ap (at_key key k (Some value)) h ∙ shows-at key k n (Some value) mark cleared acked
shown-step key n mark cleared acked m (Delete k) r h = value_of-remove key k [] m r ∙ ap (at_key key k None) h ∙ shows-at key k n None mark cleared acked
shown-step key n mark cleared acked m Clear r h = refl

shown-all : (key : Characters) (n : ℕ) (mark : KeyMark) (cleared : Option ℕ) (acked : Option ValueBytes) (m : FiniteMap) (ops : List MapOp) → KeysRise m → value_of key m ≡ shows mark cleared acked
    → value_of key (put_all m ops) ≡ shows (mark_of key n mark ops) (clear_of n cleared ops) acked
shown-all key n mark cleared acked m [] r h = h
shown-all key n mark cleared acked m (op ∷ ops) r h =
    shown-all key (suc n) (mark_after key n mark op) (clear_after n cleared op) acked (put m op) ops (rising-put m op r) (shown-step key n mark cleared acked m op r h)

-- a mark is the one that there was, or that of an operation which sets this
mark-at : {G : Type 0} (key : Characters) (n : ℕ) (mark : KeyMark) (ops : List MapOp) (p : ℕ × Option ValueBytes) → mark_of key n mark ops ≡ Some p
    → (mark ≡ Some p → G) → (n ≤ p.0 → p.0 < n + length ops → written (slice_get ops (p.0 - n)) ≡ p.1 → G) → G
mark-at key n mark [] p h was is = was h
mark-at {G} key n mark (op ∷ ops) p h was is = mark-at key (suc n) (mark_after key n mark op) ops p h (first op refl) later
  where
    later : suc n ≤ p.0 → p.0 < suc n + length ops → written (slice_get ops (p.0 - suc n)) ≡ p.1 → G
    later l u e = is (omega arith) (omega arith) (ap (λ i. written (slice_get (op ∷ ops) i)) (let x : p.0 - n ≡ suc (p.0 - suc n) = omega arith in x) ∙ e)

    here : (value : Option ValueBytes) → written (Some op) ≡ value → Some (n, value) ≡ Some p → G
    here value w e =
        let pair : (n, value) ≡ p = (cc) in
        let number : n ≡ p.0 = ap (λ x. x.0) pair in
        is (omega arith) (omega arith) (ap (λ i. written (slice_get (op ∷ ops) i)) (let x : p.0 - n ≡ 0 = omega arith in x) ∙ w ∙ ap (λ x. x.1) pair)

    at : (k : Characters) (value : Option ValueBytes) → written (Some op) ≡ value → at_key key k (Some (n, value)) mark ≡ Some p → G
    at k value w e = step (text_cmp key k) e
      where
        step : (o : Ordering) → when_same o (Some (n, value)) mark ≡ Some p → G
        step Less is_mark = was is_mark
        step Equal is_mark = here value w is_mark
        step Greater is_mark = was is_mark

    first : (o : MapOp) → op ≡ o → mark_after key n mark o ≡ Some p → G
    first (Set k value) same e = at k (Some value) (ap (λ x. written (Some x)) same) e
    first (Delete k) same e = at k None (ap (λ x. written (Some x)) same) e
    first Clear same e = absurd cc

module _ (key : Characters) (n : ℕ) (ops : List MapOp) (marks : KeptMarks) (acked : FiniteMap) (r : KeysRise acked) (h : AreMarksOf n ops marks) where
  shown : value_of key (put_all acked ops) ≡ shows (mark_of key n None ops) (clear_of n None ops) (value_of key acked)
  shown = shown-all key n None None (value_of key acked) acked ops r refl

  -- a key with a mark shows what its operation sets
  pub shown-marked : (i : ℕ) → value_of key marks.last_of ≡ Some i → (n ≤ i) × (i < n + length ops) × (value_of key (put_all acked ops) ≡ written (slice_get ops (i - n)))
  shown-marked i e = step (mark_of key n None ops) refl
    where
      step : (mark : KeyMark) → mark_of key n None ops ≡ mark → (n ≤ i) × (i < n + length ops) × (value_of key (put_all acked ops) ≡ written (slice_get ops (i - n)))
      step None m = absurd (let no_mark : None ≡ Some i = ap number_of (sym m) ∙ sym (h.keys key) ∙ e in cc)
      step (Some p) m =
          let number : Some p.0 ≡ Some i = ap number_of (sym m) ∙ sym (h.keys key) ∙ e in
          let same : p.0 ≡ i = (cc) in
          mark-at key n None ops p m (λ bad. absurd cc)
          (λ l u w. (omega arith, omega arith, shown ∙ ap (λ mark. shows mark (clear_of n None ops) (value_of key acked)) m ∙ sym w ∙ ap (λ j. written (slice_get ops (j - n))) same))

  unmarked : value_of key marks.last_of ≡ None → mark_of key n None ops ≡ None
  unmarked e = step (mark_of key n None ops) (sym (h.keys key) ∙ e)
    where
      step : (mark : KeyMark) → number_of mark ≡ None → mark ≡ None
      step None m = refl
      step (Some p) m = absurd cc

  -- another one shows nothing behind a clear
  pub shown-cleared : (i : ℕ) → value_of key marks.last_of ≡ None → marks.cleared ≡ Some i → value_of key (put_all acked ops) ≡ None
  shown-cleared i e c = shown ∙ ap (λ mark. shows mark (clear_of n None ops) (value_of key acked)) (unmarked e) ∙ ap (λ cleared. shows None cleared (value_of key acked)) (sym h.clear ∙ c)

  -- and else what was acknowledged
  pub shown-acked : value_of key marks.last_of ≡ None → marks.cleared ≡ None → value_of key (put_all acked ops) ≡ value_of key acked
  shown-acked e c = shown ∙ ap (λ mark. shows mark (clear_of n None ops) (value_of key acked)) (unmarked e) ∙ ap (λ cleared. shows None cleared (value_of key acked)) (sym h.clear ∙ c)
