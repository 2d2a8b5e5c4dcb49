-- Names that stay held: each element that isn't gone has one, and so has each new element.
use Rattle.std.proofs.Common.{◌≡◌, ℕ, zero, suc, ◌+◌, ◌≤◌, Bool, true, false, cond, ◌&&◌, ◌||◌, List, [], ◌∷◌, ◌++◌, Option, Some, None, refl, ap, arith, find, filter}
use Rattle.std.specs.Option.{option_or, option_map}
use Rattle.std.specs.List.{list_all}
use Rattle.ft_base.specs.declared.stamps.Stamp.{Stamp}
use Rattle.ft_base.specs.declared.stamps.Stamp.TheVariants.{Acked}
use Rattle.ft_base.specs.Scan.{one_more_if, at, within, put, put_past, change_range_from, settled_after}
use Rattle.ft_base.proofs.Booleans.{both}
use Rattle.ft_props.specs.Properties.{PropertyList}
use Rattle.ft_props.specs.Element.{ListElement, ElementId, ElementContent, SequencedId, id, new_elements, is_pending, seen_by}
use Rattle.ft_props.specs.Steps.{Sequence, after_insertion}
use Rattle.ft_laws_agreement.proofs.CompactedScans.{is_held_end}
use Rattle.ft_props.proofs.RebuiltList.{or_right}

-- the element is gone, or its name is held
abbrev pub keeps_name : (ListElement → Bool) → (ElementId → Bool) → ListElement → Bool
keeps_name gone held e = gone e || held (id e)

-- each element that isn't gone has a held name, and so will each new one
pub record HoldsNames (gone : ListElement → Bool) (held : ElementId → Bool) (list : Sequence) : Type 0 where
  pub all : list_all (keeps_name gone held) list.items ≡ true
  pub later : (n : ℕ) → list.made ≤ n → held (SequencedId n) ≡ true

module _ {A : Type 0} (is : A → Bool) where
  pub all-append : (xs ys : List A) → list_all is xs ≡ true → list_all is ys ≡ true → list_all is (xs ++ ys) ≡ true
  all-append [] ys g h = h
  all-append (x ∷ xs) ys g h = grind (arith, all-append xs ys)

  all-put_past : (past : A → Bool) (new xs : List A) → list_all is new ≡ true → list_all is xs ≡ true → list_all is (put_past past new xs) ≡ true
  all-put_past past new [] g h = g
  all-put_past past new (x ∷ xs) g h =
      let p = both (is x) (list_all is xs) h in
      chosen (past x) p.0 (all-put_past past new xs g p.1) (all-append new (x ∷ xs) g h)
    where
      chosen : (b : Bool) → is x ≡ true → list_all is (put_past past new xs) ≡ true → list_all is (new ++ (x ∷ xs)) ≡ true
          → list_all is (cond b (x ∷ put_past past new xs) (new ++ (x ∷ xs))) ≡ true
      chosen true a b c = rw (a, b) refl
      chosen false a b c = c

  -- a test that all new elements pass goes through an insertion
  pub all-put : (seen past : A → Bool) (p : ℕ) (new xs : List A) → list_all is new ≡ true → list_all is xs ≡ true → list_all is (put seen past p new xs) ≡ true
  all-put seen past zero new xs g h = all-put_past past new xs g h
  all-put seen past (suc p) new [] g h = g
  all-put seen past (suc p) new (x ∷ xs) g h =
      let q = both (is x) (list_all is xs) h in
      rw (q.0, all-put seen past (cond (seen x) p (suc p)) new xs g q.1) refl

  -- and one that f keeps goes through a change of a range
  pub all-range : (test : A → Bool) (f : A → A) → ((x : A) → is x ≡ true → is (f x) ≡ true) → (i p q : ℕ) (xs : List A) → list_all is xs ≡ true
      → list_all is (change_range_from i test p q f xs) ≡ true
  all-range test f k i p q [] h = refl
  all-range test f k i p q (x ∷ xs) h =
      let r = both (is x) (list_all is xs) h in
      rw (chosen (test x && within p q i) r.0, all-range test f k (one_more_if (test x) i) p q xs r.1) refl
    where
      chosen : (b : Bool) → is x ≡ true → is (cond b (f x) x) ≡ true
      chosen true a = k x a
      chosen false a = a

pub or_first : (a b c : Bool) → (a ≡ true → c ≡ true) → a || b ≡ true → c || b ≡ true
or_first true b c f h = ap (λ d. d || b) (f refl)
or_first false b c f h = or_right c b h

module _ (gone : ListElement → Bool) (held : ElementId → Bool) where
  new-held : (n s c : ℕ) (by : Option Stamp) (props : PropertyList) (bs : List ElementContent) → ((m : ℕ) → n ≤ m → held (SequencedId m) ≡ true)
      → list_all (keeps_name gone held) (new_elements n (Acked s c) [] by props bs) ≡ true
  new-held n s c by props [] h = refl
  new-held n s c by props (b ∷ bs) h =
      let e : ListElement = record { nth = n; content = b; ins = Acked s c; dels = []; removal_stage = None; by = by; props = props; pending = [] } in
      let here : held (SequencedId n) ≡ true = h n (omega arith) in
      rw (or_right (gone e) (held (SequencedId n)) here, new-held (n + 1) s c by props bs (λ m l. h m (omega arith))) refl

  pub insertion-names : (s c r p : ℕ) (by : Option Stamp) (props : PropertyList) (bs : List ElementContent) (list : Sequence) → HoldsNames gone held list
      → HoldsNames gone held (after_insertion s c r p by props bs list)
  insertion-names s c r p by props bs list h = record {
    all = all-put (keeps_name gone held) (seen_by r c) is_pending p (new_elements list.made (Acked s c) [] by props bs) list.items
        (new-held list.made s c by props bs h.later) h.all;
    later = λ n l. h.later n (omega arith);
  }

  pub range-names : (test : ListElement → Bool) (f : ListElement → ListElement) → ((e : ListElement) → id (f e) ≡ id e) → ((e : ListElement) → gone e ≡ true → gone (f e) ≡ true)
      → (p q : ℕ) (list : Sequence) → HoldsNames gone held list → HoldsNames gone held (record list { items = change_range_from 0 test p q f list.items })
  range-names test f name more p q list h = record {
    all = all-range (keeps_name gone held) test f (λ e k. rw (name e) (or_first (gone e) (held (id e)) (gone (f e)) (more e) k)) 0 p q list.items h.all;
    later = h.later;
  }

  -- a test that passes no element that is gone finds held names
  pub found-held : (test : ListElement → Bool) → ((e : ListElement) → gone e ≡ true → test e ≡ false) → (e : ListElement) → keeps_name gone held e ≡ true
      → test e ≡ true → held (id e) ≡ true
  found-held test h e k t = step (gone e) refl k
    where
      step : (b : Bool) → gone e ≡ b → b || held (id e) ≡ true → held (id e) ≡ true
      step true g k = cc (h e g)
      step false g k = k

  module _ (test : ListElement → Bool) (h : (e : ListElement) → gone e ≡ true → test e ≡ false) where
    chosen-held : (e : ListElement) (o : Option ListElement) → keeps_name gone held e ≡ true → is_held_end held (option_map id o) ≡ true
        → (b : Bool) → test e ≡ b → is_held_end held (option_map id (cond b (Some e) o)) ≡ true
    chosen-held e o k q true t = found-held test h e k t
    chosen-held e o k q false t = q

    pub at-held : (i : ℕ) (xs : List ListElement) → list_all (keeps_name gone held) xs ≡ true → is_held_end held (option_map id (at test i xs)) ≡ true
    at-held i [] k = refl
    at-held zero (x ∷ xs) k =
        let p = both (keeps_name gone held x) (list_all (keeps_name gone held) xs) k in
        chosen-held x (at test zero xs) p.0 (at-held zero xs p.1) (test x) refl
    at-held (suc i) (x ∷ xs) k =
        let p = both (keeps_name gone held x) (list_all (keeps_name gone held) xs) k in
        at-held (cond (test x) i (suc i)) xs p.1

    find-held : (xs : List ListElement) → list_all (keeps_name gone held) xs ≡ true → is_held_end held (option_map id (find test xs)) ≡ true
    find-held [] k = refl
    find-held (x ∷ xs) k =
        let p = both (keeps_name gone held x) (list_all (keeps_name gone held) xs) k in
        chosen-held x (find test xs) p.0 (find-held xs p.1) (test x) refl

    or-held : (a b : Option ListElement) → is_held_end held (option_map id a) ≡ true → is_held_end held (option_map id b) ≡ true
        → is_held_end held (option_map id (option_or a b)) ≡ true
    or-held None b p q = q
    or-held (Some x) b p q = p

    either-held : (b : Bool) (o p : Option ListElement) → is_held_end held (option_map id o) ≡ true → is_held_end held (option_map id p) ≡ true
        → is_held_end held (option_map id (cond b o p)) ≡ true
    either-held true o p q r = q
    either-held false o p q r = r

    pub settled-held : (is : ListElement → Bool) (last : Option ListElement) (xs : List ListElement) → is_held_end held (option_map id last) ≡ true
        → list_all (keeps_name gone held) xs ≡ true
        → is_held_end held (option_map id (settled_after is test last xs)) ≡ true
    settled-held is last [] l k = refl
    settled-held is last (x ∷ xs) l k =
        let p = both (keeps_name gone held x) (list_all (keeps_name gone held) xs) k in
        either-held (is x) (option_or (find test (x ∷ xs)) last) (settled_after is test (cond (test x) (Some x) last) xs)
        (or-held (find test (x ∷ xs)) last (find-held (x ∷ xs) k) l)
        (settled-held is (cond (test x) (Some x) last) xs (chosen-held x last p.0 l (test x) refl) p.1)

    pub filter-held : (xs : List ListElement) → list_all (keeps_name gone held) xs ≡ true → list_all (λ e. held (id e)) (filter test xs) ≡ true
    filter-held [] k = refl
    filter-held (x ∷ xs) k =
        let p = both (keeps_name gone held x) (list_all (keeps_name gone held) xs) k in
        chosen (test x) refl p.0 (filter-held xs p.1)
      where
        chosen : (b : Bool) → test x ≡ b → keeps_name gone held x ≡ true → list_all (λ e. held (id e)) (filter test xs) ≡ true
            → list_all (λ e. held (id e)) (cond b (x ∷ filter test xs) (filter test xs)) ≡ true
        chosen true t k q = rw (found-held test h x k t, q) refl
        chosen false t k q = q
