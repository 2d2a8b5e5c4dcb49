-- Answers that a pass over a list notes from its last element to its first: for a name, what its first element says with
-- those behind it.
use Rattle.std.proofs.Common.{◌≡◌, ℕ, zero, suc, ◌+◌, ◌-◌, ◌≤◌, ◌<◌, Bool, true, false, cond, ◌&&◌, ◌||◌, List, [], ◌∷◌, length, drop, get_or}
use Rattle.std.proofs.Common.{Option, Some, None, refl, sym, ◌∙◌, ap, arith, find, option_map}
use Rattle.std.specs.BTreeMap.{get}
use Rattle.std.specs.List.{list_any, slice_get}
use Rattle.std.specs.Ordering.{is_eq}
use Rattle.std.specs.Option.{is_some, option_or}
use Rattle.std.proofs.lemmas.List.{drop_more}
use Rattle.ft_base.specs.declared.stamps.Stamp.{Stamp}
use Rattle.ft_base.specs.declared.stamps.Stamp.TheVariants.{Acked, Local}
use Rattle.ft_base.specs.Visibility.{is_acked}
use Rattle.ft_base.specs.Scan.{len, one_more_if, rank, settled, settled_after}
use Rattle.ft_props.specs.Element.{ElementId, PendingId, SequencedId, ListElement, has_id, has_sequenced_removal, id, id_of_stamp, is_sequenced, is_unremoved, same_id}
use Rattle.ft_props.specs.Slide.{slide}
use Rattle.ft_plain_lists.specs.declared.name_tables.NameTable.{NameTable}
use Rattle.ft_plain_lists.specs.NameTables.{HasAnswers, Notes, last_seen, noted_at}
use Rattle.ft_plain_lists.specs.NamedLists.{name_cmp}
use Rattle.ft_plain_lists.specs.Names.{sequenced_number}
use Rattle.ft_plain_lists.proofs.NamedLists.{equal_names, same_name}

-- what the first element that is meant says with those behind it, or d where none is meant
abbrev pub first_from : {V : Type 0} → (List ListElement → V) → V → (ListElement → Bool) → List ListElement → V
first_from says d is [] = d
first_from says d is (e ∷ xs) = cond (is e) (says (e ∷ xs)) (first_from says d is xs)

-- ---- the table

noted-some : {V : Type 0} (o : Option V) (x : V) → true ≡ is_some o → Some x ≡ option_map (λ w. x) o
noted-some None x h = (cc)
noted-some (Some w) x h = refl

-- one name more with the same value
same-more : {V : Type 0} (b : Bool) (o : Option V) (d v : V) → (o ≡ Some v → v ≡ d) → cond b (Some d) o ≡ Some v → v ≡ d
same-more true o d v before h = (cc)
same-more false o d v before h = before h

asked : {V : Type 0} (old new : NameTable V) (x : ElementId) (d : V) → new.numbers ≡ old.numbers
    → ((y : ElementId) → get name_cmp new.pending y ≡ cond (is_eq (name_cmp x y)) (Some d) (get name_cmp old.pending y))
    → HasAnswers (λ y. d) old → (y : ElementId) (v : V) → noted_at new y ≡ Some v → v ≡ d
asked old new x d same updated only (SequencedId n) v h = only.right (SequencedId n) v (ap (λ t. slice_get t.items n) (sym same) ∙ h)
asked old new x d same updated only (PendingId k n) v h =
    same-more (is_eq (name_cmp x (PendingId k n))) (get name_cmp old.pending (PendingId k n)) d v (only.right (PendingId k n) v) (sym (updated (PendingId k n)) ∙ h)

pub only-asked : {V : Type 0} (old new : NameTable V) (x : ElementId) (d : V) → new.numbers ≡ old.numbers
    → ((y : ElementId) → get name_cmp new.pending y ≡ cond (is_eq (name_cmp x y)) (Some d) (get name_cmp old.pending y))
    → HasAnswers (λ y. d) old → HasAnswers (λ y. d) new
only-asked old new x d same updated only = record { right = asked old new x d same updated only }

-- the value of a pending element that was asked for
noted-here : {V : Type 0} (old : NameTable V) (x : ElementId) (v : V) → true ≡ is_some (get name_cmp old.pending x) → (y : ElementId) (b : Bool) → same_id y x ≡ b
    → cond b (Some v) (get name_cmp old.pending y) ≡ cond b (option_map (λ w. v) (get name_cmp old.pending y)) (get name_cmp old.pending y)
noted-here old x v there y true e = noted-some (get name_cmp old.pending y) v (there ∙ ap (λ z. is_some (get name_cmp old.pending z)) (sym (same_name y x e)))
noted-here old x v there y false e = refl

note-pending : {V : Type 0} (old new : NameTable V) (x : ElementId) (v : V) → None ≡ sequenced_number x
    → true ≡ is_some (get name_cmp old.pending x) → new.numbers ≡ old.numbers
    → ((y : ElementId) → get name_cmp new.pending y ≡ cond (is_eq (name_cmp x y)) (Some v) (get name_cmp old.pending y))
    → (y : ElementId) → noted_at new y ≡ cond (same_id y x) (option_map (λ w. v) (noted_at old y)) (noted_at old y)
note-pending old new (SequencedId m) v is there numbers updated y = (cc)
note-pending old new (PendingId i m) v is there numbers updated (SequencedId j) = ap (λ t. slice_get t.items j) numbers
note-pending old new (PendingId i m) v is there numbers updated (PendingId k j) =
    updated (PendingId k j) ∙ ap (λ b. cond b (Some v) (get name_cmp old.pending (PendingId k j))) (equal_names (PendingId i m) (PendingId k j))
    ∙ noted-here old (PendingId i m) v there (PendingId k j) (same_id (PendingId k j) (PendingId i m)) refl

pub Notes-pending : {V : Type 0} (old new : NameTable V) (x : ElementId) (v : V) → None ≡ sequenced_number x
    → true ≡ is_some (get name_cmp old.pending x) → new.numbers ≡ old.numbers
    → ((y : ElementId) → get name_cmp new.pending y ≡ cond (is_eq (name_cmp x y)) (Some v) (get name_cmp old.pending y)) → Notes x v old new
Notes-pending old new x v is there numbers updated = record { all = note-pending old new x v is there numbers updated }

-- of no elements
pub HasAnswers-none : {V : Type 0} (says : List ListElement → V) (d : V) (xs : List ListElement) (table : NameTable V)
    → xs ≡ [] → HasAnswers (λ x. d) table → HasAnswers (λ x. first_from says d (has_id x) xs) table
HasAnswers-none says d xs table none only = record {
  right = λ x v h. only.right x v h ∙ ap (first_from says d (has_id x)) (sym none);
}

-- one more element in front
noted-first : {V : Type 0} (b : Bool) (old : Option V) (here rest v : V) → (old ≡ Some v → v ≡ rest)
    → cond b (option_map (λ w. here) old) old ≡ Some v → v ≡ cond b here rest
noted-first true None here rest v before h = (cc)
noted-first true (Some w) here rest v before h = (cc)
noted-first false old here rest v before h = before h

pub HasAnswers-more : {V : Type 0} (says : List ListElement → V) (d : V) (e : ListElement) (xs ys : List ListElement) (here : V) (table new : NameTable V) (name : ElementId)
    → ys ≡ e ∷ xs → here ≡ says ys → name ≡ id e → Notes name here table new
    → HasAnswers (λ x. first_from says d (has_id x) xs) table → HasAnswers (λ x. first_from says d (has_id x) ys) new
HasAnswers-more says d e xs ys here table new name at_front said named made h = record {
  right = λ x v got.
      noted-first (same_id x name) (noted_at table x) here (first_from says d (has_id x) xs) v (h.right x v) (sym (made.all x) ∙ got)
      ∙ ap (λ y. cond (same_id x y) here (first_from says d (has_id x) xs)) named
      ∙ ap (λ w. cond (has_id x e) w (first_from says d (has_id x) xs)) (said ∙ ap says at_front)
      ∙ ap (first_from says d (has_id x)) (sym at_front);
}

-- ---- ranks

-- how many of all are seen, without those that are seen from here on
abbrev pub seen_before : (ListElement → Bool) → List ListElement → List ListElement → ℕ
seen_before seen all ys = len seen all - len seen ys

rank-from : (is seen : ListElement → Bool) (all : ℕ) (k : ℕ) (xs : List ListElement) → k + len seen xs ≡ all
    → k + rank is seen xs ≡ first_from (λ ys. all - len seen ys) all is xs
rank-from is seen all k [] h = h
rank-from is seen all k (e ∷ xs) h = step (is e) (seen e) h (rank-from is seen all (one_more_if (seen e) k) xs)
  where
    step : (b s : Bool) → k + one_more_if s (len seen xs) ≡ all
        → (one_more_if s k + len seen xs ≡ all → one_more_if s k + rank is seen xs ≡ first_from (λ ys. all - len seen ys) all is xs)
        → k + cond b 0 (one_more_if s (rank is seen xs)) ≡ cond b (all - one_more_if s (len seen xs)) (first_from (λ ys. all - len seen ys) all is xs)
    step true s count rest = omega arith
    step false true count rest = let r = rest (omega arith) in omega arith
    step false false count rest = rest count

pub rank-first : (is seen : ListElement → Bool) (xs : List ListElement)
    → rank is seen xs ≡ first_from (seen_before seen xs) (len seen xs) is xs
rank-first is seen xs = zero_more ∙ rank-from is seen (len seen xs) 0 xs (omega arith)
  where
    zero_more : rank is seen xs ≡ 0 + rank is seen xs
    zero_more = omega arith

pub len-drop : {A : Type 0} (seen : A → Bool) (i : ℕ) (xs : List A) → len seen (drop i xs) ≤ len seen xs
len-drop seen zero xs = omega arith
len-drop seen (suc i) [] = omega arith
len-drop seen (suc i) (x ∷ xs) = step (seen x) (len-drop seen i xs)
  where
    step : (b : Bool) → len seen (drop i xs) ≤ len seen xs → len seen (drop i xs) ≤ one_more_if b (len seen xs)
    step true h = omega arith
    step false h = h

-- ---- where ends settle

-- the first element from here on that is ok, else the last of all
abbrev pub next_or_last : (ListElement → Bool) → List ListElement → List ListElement → Option ElementId
next_or_last ok all ys = option_map id (option_or (find ok ys) (last_seen ok all))

none-last : (ok : ListElement → Bool) (xs : List ListElement) (l : Option ListElement)
    → option_or (find ok xs) (option_or (last_seen ok xs) l) ≡ option_or (find ok xs) l
none-last ok [] l = refl
none-last ok (e ∷ xs) l = step (ok e) (find ok xs) (last_seen ok xs) l (none-last ok xs l)
  where
    step : (b : Bool) (f o l : Option ListElement) → option_or f (option_or o l) ≡ option_or f l
        → option_or (cond b (Some e) f) (option_or (option_or o (cond b (Some e) None)) l) ≡ option_or (cond b (Some e) f) l
    step true f o l h = refl
    step false f None l h = h
    step false f (Some x) l h = h

last-next : (b : Bool) (e : ListElement) (o l : Option ListElement) → option_or (option_or o (cond b (Some e) None)) l ≡ option_or o (cond b (Some e) l)
last-next true e None l = refl
last-next true e (Some x) l = refl
last-next false e None l = refl
last-next false e (Some x) l = refl

settled-from : (is ok : ListElement → Bool) (last l : Option ListElement) (xs : List ListElement) → option_or (last_seen ok xs) l ≡ last
    → option_map id (settled_after is ok l xs) ≡ first_from (λ ys. option_map id (option_or (find ok ys) last)) None is xs
settled-from is ok last l [] h = refl
settled-from is ok last l (e ∷ xs) h = step (is e) (settled-from is ok last (cond (ok e) (Some e) l) xs (sym (last-next (ok e) e (last_seen ok xs) l) ∙ h))
  where
    step : (b : Bool) → option_map id (settled_after is ok (cond (ok e) (Some e) l) xs) ≡ first_from (λ ys. option_map id (option_or (find ok ys) last)) None is xs
        → option_map id (cond b (option_or (find ok (e ∷ xs)) l) (settled_after is ok (cond (ok e) (Some e) l) xs))
        ≡ cond b (option_map id (option_or (find ok (e ∷ xs)) last)) (first_from (λ ys. option_map id (option_or (find ok ys) last)) None is xs)
    step true r = ap (option_map id) (sym (none-last ok (e ∷ xs) l) ∙ ap (option_or (find ok (e ∷ xs))) h)
    step false r = r

or-None : (o : Option ListElement) → option_or o None ≡ o
or-None None = refl
or-None (Some x) = refl

pub settled-first : (is ok : ListElement → Bool) (xs : List ListElement)
    → option_map id (settled is ok xs) ≡ first_from (next_or_last ok xs) None is xs
settled-first is ok xs = settled-from is ok (last_seen ok xs) None xs (or-None (last_seen ok xs))

-- at an element that is ok the end stays, and else it goes where those behind it send it
pub next-first : (ok : ListElement → Bool) (all xs ys : List ListElement) (e : ListElement) → ys ≡ e ∷ xs
    → next_or_last ok all ys ≡ cond (ok e) (Some (id e)) (next_or_last ok all xs)
next-first ok all xs ys e at_front = ap (next_or_last ok all) at_front ∙ step (ok e)
  where
    step : (b : Bool) → option_map id (option_or (cond b (Some e) (find ok xs)) (last_seen ok all)) ≡ cond b (Some (id e)) (next_or_last ok all xs)
    step true = refl
    step false = refl

-- ---- the steps of the passes

-- the element before place i with those from there on
pub front : {A : Type 0} (xs : List A) (i : ℕ) (x : A) → 0 < i → i ≤ length xs → x ≡ get_or xs (i - 1) x → drop (i - 1) xs ≡ x ∷ drop i xs
front xs i x above inside read =
    let same : i - 1 + 1 ≡ i = omega arith in
    drop_more xs (i - 1) x (omega arith) ∙ ap (λ y. y ∷ drop (i - 1 + 1) xs) (sym read) ∙ ap (λ n. x ∷ drop n xs) same

module _ (seen : ListElement → Bool) (xs : List ListElement) (i : ℕ) (e : ListElement) (at_front : drop (i - 1) xs ≡ e ∷ drop i xs) where
  -- how many are seen from the element before place i on
  one-more : (b : Bool) → b ≡ seen e → len seen (drop (i - 1) xs) ≡ one_more_if b (len seen (drop i xs))
  one-more b test = ap (len seen) at_front ∙ ap (λ t. one_more_if t (len seen (drop i xs))) (sym test)

  -- one that is seen is one of those that are left
  pub left-above : (left : ℕ) → true ≡ seen e → left + len seen (drop i xs) ≡ len seen xs → 1 ≤ left
  left-above left test count =
      let more : len seen (drop (i - 1) xs) ≡ suc (len seen (drop i xs)) = one-more true test in
      let most = len-drop seen (i - 1) xs in
      omega arith

  pub left-taken : (left now : ℕ) → true ≡ seen e → now ≡ left - 1 → left + len seen (drop i xs) ≡ len seen xs → now + len seen (drop (i - 1) xs) ≡ len seen xs
  left-taken left now test less count =
      let more : len seen (drop (i - 1) xs) ≡ suc (len seen (drop i xs)) = one-more true test in
      let above = left-above left test count in
      omega arith

  pub left-passed : (left now : ℕ) → false ≡ seen e → now ≡ left → left + len seen (drop i xs) ≡ len seen xs → now + len seen (drop (i - 1) xs) ≡ len seen xs
  left-passed left now test same count =
      let more : len seen (drop (i - 1) xs) ≡ len seen (drop i xs) = one-more false test in
      omega arith

  pub ranks-more : (left : ℕ) (table new : NameTable ℕ) (name : ElementId) → left + len seen (drop (i - 1) xs) ≡ len seen xs → name ≡ id e → Notes name left table new
      → HasAnswers (λ x. first_from (seen_before seen xs) (len seen xs) (has_id x) (drop i xs)) table
      → HasAnswers (λ x. first_from (seen_before seen xs) (len seen xs) (has_id x) (drop (i - 1) xs)) new
  ranks-more left table new name count named made h =
      let said : left ≡ seen_before seen xs (drop (i - 1) xs) = omega arith in
      HasAnswers-more (seen_before seen xs) (len seen xs) e (drop i xs) (drop (i - 1) xs) left table new name at_front said named made h

  pub next-more : (next now : Option ElementId) → now ≡ cond (seen e) (Some (id e)) next → next ≡ next_or_last seen xs (drop i xs)
      → now ≡ next_or_last seen xs (drop (i - 1) xs)
  next-more next now is before =
      is ∙ ap (cond (seen e) (Some (id e))) before ∙ sym (next-first seen xs (drop i xs) (drop (i - 1) xs) e at_front)

  pub settled-more : (next : Option ElementId) (table new : NameTable (Option ElementId)) (name : ElementId) → next ≡ next_or_last seen xs (drop (i - 1) xs)
      → name ≡ id e → Notes name next table new
      → HasAnswers (λ x. first_from (next_or_last seen xs) None (has_id x) (drop i xs)) table
      → HasAnswers (λ x. first_from (next_or_last seen xs) None (has_id x) (drop (i - 1) xs)) new
  settled-more next table new name sent named made h =
      HasAnswers-more (next_or_last seen xs) None e (drop i xs) (drop (i - 1) xs) next table new name at_front sent named made h

-- ---- what the passes end with

module _ (seen : ListElement → Bool) (xs : List ListElement) where
  pub HasRanks : (i : ℕ) (table : NameTable ℕ) → i ≤ 0 → HasAnswers (λ x. first_from (seen_before seen xs) (len seen xs) (has_id x) (drop i xs)) table
      → HasAnswers (λ x. rank (has_id x) seen xs) table
  HasRanks zero table end h = record { right = λ x v got. h.right x v got ∙ sym (rank-first (has_id x) seen xs) }
  HasRanks (suc i) table end h = absurd (omega arith)

  pub HasSettled : (i : ℕ) (table : NameTable (Option ElementId)) → i ≤ 0
      → HasAnswers (λ x. first_from (next_or_last seen xs) None (has_id x) (drop i xs)) table
      → HasAnswers (λ x. option_map id (settled (has_id x) seen xs)) table
  HasSettled zero table end h = record { right = λ x v got. h.right x v got ∙ sym (settled-first (has_id x) seen xs) }
  HasSettled (suc i) table end h = absurd (omega arith)

-- ---- removals

-- one more element in front, noted if it is removed
pub removals-more : (e : ListElement) (xs ys : List ListElement) (table new : NameTable Bool) → ys ≡ e ∷ xs
    → (list_any is_acked e.dels ≡ true → Notes (id e) true table new) → (list_any is_acked e.dels ≡ false → new ≡ table)
    → HasAnswers (has_sequenced_removal xs) table → HasAnswers (has_sequenced_removal ys) new
removals-more e xs ys table new at_front removed other h = record {
  right = λ x v got. step x v (list_any is_acked e.dels) refl got ∙ ap (λ zs. has_sequenced_removal zs x) (sym at_front);
}
  where
    none : (b rest : Bool) → rest ≡ ((b && false) || rest)
    none true rest = refl
    none false rest = refl

    one : (b rest : Bool) → cond b true rest ≡ ((b && true) || rest)
    one true rest = refl
    one false rest = refl

    step : (x : ElementId) (v g : Bool) → list_any is_acked e.dels ≡ g → noted_at new x ≡ Some v → v ≡ ((has_id x e && g) || has_sequenced_removal xs x)
    step x v true is got =
        noted-first (same_id x (id e)) (noted_at table x) true (has_sequenced_removal xs x) v (h.right x v) (sym ((removed is).all x) ∙ got)
        ∙ one (has_id x e) (has_sequenced_removal xs x)
    step x v false is got = h.right x v (ap (λ t. noted_at t x) (sym (other is)) ∙ got) ∙ none (has_id x e) (has_sequenced_removal xs x)

pub removals-none : (xs : List ListElement) (table : NameTable Bool) → xs ≡ [] → HasAnswers (λ x. false) table → HasAnswers (has_sequenced_removal xs) table
removals-none xs table none only = record { right = λ x v h. only.right x v h ∙ ap (λ ys. has_sequenced_removal ys x) (sym none) }

pub removals-all : (xs : List ListElement) (i : ℕ) (table : NameTable Bool) → i ≤ 0 → HasAnswers (has_sequenced_removal (drop i xs)) table
    → HasAnswers (has_sequenced_removal xs) table
removals-all xs zero table end h = h
removals-all xs (suc i) table end h = absurd (omega arith)

-- ---- what is asked of the tables

-- a rank is at most the number of the elements
pub rank-at-most-length : (is seen : ListElement → Bool) (xs : List ListElement) → rank is seen xs ≤ length xs
rank-at-most-length is seen [] = omega arith
rank-at-most-length is seen (e ∷ xs) = step (is e) (seen e) (rank-at-most-length is seen xs)
  where
    step : (b s : Bool) → rank is seen xs ≤ length xs → cond b 0 (one_more_if s (rank is seen xs)) ≤ suc (length xs)
    step true s h = omega arith
    step false true h = omega arith
    step false false h = omega arith

-- a sequenced element is meant by its name alone
is-sequenced-named : (n : ℕ) (e : ListElement) → (is_sequenced e && has_id (SequencedId n) e) ≡ has_id (SequencedId n) e
is-sequenced-named n e = step e.ins
  where
    step : (s : Stamp) → (is_acked s && same_id (SequencedId n) (id_of_stamp s e.nth)) ≡ same_id (SequencedId n) (id_of_stamp s e.nth)
    step (Acked q c) = refl
    step (Local k) = refl

settled_after-same : {A : Type 0} (is was ok : A → Bool) → ((x : A) → is x ≡ was x) → (last : Option A) (xs : List A)
    → settled_after is ok last xs ≡ settled_after was ok last xs
settled_after-same is was ok same last [] = refl
settled_after-same is was ok same last (x ∷ xs) =
    ap (λ b. cond b (option_or (find ok (x ∷ xs)) last) (settled_after is ok (cond (ok x) (Some x) last) xs)) (same x)
    ∙ ap (cond (was x) (option_or (find ok (x ∷ xs)) last)) (settled_after-same is was ok same (cond (ok x) (Some x) last) xs)

-- an end on a sequenced element slides as its name alone says
pub slide-sequenced : (xs : List ListElement) (x : ElementId) → is_some (sequenced_number x) ≡ true
    → option_map id (settled (has_id x) is_unremoved xs) ≡ slide xs (Some x)
slide-sequenced xs (SequencedId m) is =
    ap (option_map id)
    (sym (settled_after-same (λ e. is_sequenced e && has_id (SequencedId m) e) (has_id (SequencedId m)) is_unremoved (is-sequenced-named m) None xs))
slide-sequenced xs (PendingId k m) is = (cc)

-- an end on a pending element slides to none
pub slide-pending : (xs : List ListElement) (x : ElementId) → is_some (sequenced_number x) ≡ false → slide xs (Some x) ≡ None
slide-pending xs (SequencedId m) is = (cc)
slide-pending xs (PendingId k m) is = ap (option_map id) (nowhere None xs)
  where
    other : (s : Stamp) (n : ℕ) → (is_acked s && same_id (PendingId k m) (id_of_stamp s n)) ≡ false
    other (Acked q c) n = refl
    other (Local j) n = refl

    nowhere : (last : Option ListElement) (ys : List ListElement)
        → settled_after (λ e. is_sequenced e && has_id (PendingId k m) e) is_unremoved last ys ≡ None
    nowhere last [] = refl
    nowhere last (e ∷ ys) =
        ap (λ b. cond b (option_or (find is_unremoved (e ∷ ys)) last)
        (settled_after (λ e. is_sequenced e && has_id (PendingId k m) e) is_unremoved (cond (is_unremoved e) (Some e) last) ys)) (other e.ins e.nth)
        ∙ nowhere (cond (is_unremoved e) (Some e) last) ys
