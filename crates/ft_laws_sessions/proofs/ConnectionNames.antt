-- The names of connections: each is of a client or a guest, with a number that the client reached, so a new one is none of
-- those before.
use Rattle.std.proofs.Common.{◌≡◌, ℕ, ◌+◌, ◌≤◌, ◌<◌, ◌^◌, Bool, true, false, cond, ◌||◌, bytes_eq, decimal, not, List, [], ◌∷◌, ◌++◌, map, Some, find, refl, sym, ◌∙◌, ap, subst, arith}
use Rattle.std.specs.List.{list_any}
use Rattle.std.proofs.lemmas.Fmt.{decimal-digits_of, decimal_injective}
use Rattle.std.proofs.lemmas.Slice.Eq.{bytes_eq-Decides}
use Rattle.ft_base.proofs.Booleans.{both}
use Rattle.ft_props.specs.Properties.{Characters}
use Rattle.ft_sumdoc.specs.Counts.{are_distinct_names}
use Rattle.ft_seqr.specs.World.{NamedClient, NamedGuest, connection_name, in_place, is_client, is_guest}
use Rattle.ft_laws_agreement.specs.Sequencing.{Each}
use Rattle.ft_laws_summaries.proofs.Lists.{each-found, each-more, each-weaker}

-- ---- a name tells its owner and its number

-- the characters are all behind the one between a name and its number
abbrev pub AreDigits : List ℕ → Type 0
AreDigits ds = Each (λ c. 47 < c) ds

shifted : (ds : List ℕ) → AreDigits (map (λ d. 48 + d) ds)
shifted [] = tt
shifted (d ∷ ds) = (omega arith, shifted ds)

number-digits : (n : ℕ) → 0 < n → n < 2 ^ 64 → AreDigits (decimal n)
number-digits n p l = subst AreDigits (sym (decimal-digits_of n p l)) (shifted _)

behind : (xs ds : List ℕ) → AreDigits (xs ++ (47 ∷ ds)) → ⊥
behind [] ds h = let l = h.0 in absurd (omega (arith, l))
behind (x ∷ xs) ds h = behind xs ds h.1

split : (xs ys ds es : List ℕ) → AreDigits ds → AreDigits es → xs ++ (47 ∷ ds) ≡ ys ++ (47 ∷ es) → (xs ≡ ys) × (ds ≡ es)
split [] [] ds es p q h = let same : ds ≡ es = (cc) in (refl, same)
split [] (y ∷ ys) ds es p q h = let same : ds ≡ ys ++ (47 ∷ es) = (cc) in absurd (behind ys es (subst AreDigits same p))
split (x ∷ xs) [] ds es p q h = let same : xs ++ (47 ∷ ds) ≡ es = (cc) in absurd (behind xs ds (subst AreDigits (sym same) q))
split (x ∷ xs) (y ∷ ys) ds es p q h =
    let head : x ≡ y = (cc) in
    let later : xs ++ (47 ∷ ds) ≡ ys ++ (47 ∷ es) = (cc) in
    let r = split xs ys ds es p q later in
    (ap (λ z. z ∷ xs) head ∙ ap (λ zs. y ∷ zs) r.0, r.1)

pub names-apart : (a b : Characters) (j k : ℕ) → 0 < j → 0 < k → j < 2 ^ 64 → k < 2 ^ 64 → connection_name a j ≡ connection_name b k → (a ≡ b) × (j ≡ k)
names-apart a b j k pj pk lj lk h = let r = split a b (decimal j) (decimal k) (number-digits j pj lj) (number-digits k pk lk) h in (r.0, decimal_injective j k lj lk r.1)

-- ---- the names of a world

-- the name is that of a connection of a client, with a number that the client reached, or of a guest
pub record IsTaken (count : ℕ) (clients : List NamedClient) (guests : List NamedGuest) (label : Characters) : Type 0 where
  pub owner : Characters
  pub k : ℕ
  pub is : label ≡ connection_name owner k
  pub first : 0 < k
  pub small : k ≤ count
  pub used : list_any (is_client owner) clients || list_any (is_guest owner) guests ≡ true
  pub below : Each (λ c. is_client owner c ≡ true → k ≤ c.connects) clients

-- so is each name, no client had more connections than there are names, and no name stands twice
pub record IsNamed (count : ℕ) (clients : List NamedClient) (guests : List NamedGuest) (names : List Characters) : Type 0 where
  pub taken : Each (IsTaken count clients guests) names
  pub counted : Each (λ c. c.connects ≤ count) clients
  pub apart : count < 2 ^ 64 → are_distinct_names names ≡ true

-- the client is the one of a name
pub record IsFound (clients : List NamedClient) (c : NamedClient) : Type 0 where
  pub name : Characters
  pub found : find (is_client name) clients ≡ Some c

-- a name that nobody has
abbrev pub IsUnused : List NamedClient → List NamedGuest → Characters → Type 0
IsUnused clients guests name = list_any (is_client name) clients || list_any (is_guest name) guests ≡ false

either-true : (a b c : Bool) → a ≡ c → a || b ≡ true → c || b ≡ true
either-true a b c e h = ap (λ t. t || b) (sym e) ∙ h

same-test : (owner name : Characters) (c : NamedClient) (d : NamedClient) → is_client d.name c ≡ true → is_client owner d ≡ is_client owner c
same-test owner name c d h = let e : d.name ≡ c.name = (bytes_eq-Decides d.name c.name).0 h in ap (bytes_eq owner) e

pub any-placed : (owner : Characters) (d : NamedClient) (cs : List NamedClient) → list_any (is_client owner) (map (in_place d) cs) ≡ list_any (is_client owner) cs
any-placed owner d [] = refl
any-placed owner d (c ∷ cs) = by (is_client d.name c) refl ∙ ap (λ b. is_client owner c || b) (any-placed owner d cs)
  where
    rest : Bool
    rest = list_any (is_client owner) (map (in_place d) cs)

    by : (b : Bool) → is_client d.name c ≡ b → is_client owner (cond b d c) || rest ≡ is_client owner c || rest
    by true e = ap (λ t. t || rest) (same-test owner d.name c d e)
    by false e = refl

each-placed : (P : NamedClient → Type 0) (d : NamedClient) (cs : List NamedClient) → P d → Each P cs → Each P (map (in_place d) cs)
each-placed P d [] p h = tt
each-placed P d (c ∷ cs) p h = (by (is_client d.name c), each-placed P d cs p h.1)
  where
    by : (b : Bool) → P (cond b d c)
    by true = p
    by false = h.0

-- a client changes, and has no fewer connections
pub named-placed : (count : ℕ) (clients : List NamedClient) (guests : List NamedGuest) (names : List Characters) (c d : NamedClient) → IsFound clients c
    → d.name ≡ c.name → c.connects ≤ d.connects → d.connects ≤ count
    → IsNamed count clients guests names → IsNamed count (map (in_place d) clients) guests names
named-placed count clients guests names c d i same more l h = record {
  taken = each-weaker (IsTaken count clients guests) (IsTaken count (map (in_place d) clients) guests) (λ label t. again label t) names h.taken;
  counted = each-placed (λ a. a.connects ≤ count) d clients l h.counted;
  apart = h.apart;
}
  where
    again : (label : Characters) → IsTaken count clients guests label → IsTaken count (map (in_place d) clients) guests label
    again label t = record {
      owner = t.owner;
      k = t.k;
      is = t.is;
      first = t.first;
      small = t.small;
      used = ap (λ b. b || list_any (is_guest t.owner) guests) (any-placed t.owner d clients) ∙ t.used;
      below = each-placed (λ a. is_client t.owner a ≡ true → t.k ≤ a.connects) d clients
          (λ e. let b = (each-found (λ (a : NamedClient). is_client t.owner a ≡ true → t.k ≤ a.connects) (is_client i.name) clients c i.found t.below).0
          (ap (bytes_eq t.owner) (sym same) ∙ e) in omega (arith, b, more)) t.below;
    }

widen : (count more : ℕ) (clients : List NamedClient) (guests : List NamedGuest) (label : Characters) → count ≤ more → IsTaken count clients guests label
    → IsTaken more clients guests label
widen count more clients guests label l t = record {
  owner = t.owner;
  k = t.k;
  is = t.is;
  first = t.first;
  small = let s = t.small in omega (arith, s, l);
  used = t.used;
  below = t.below;
}

any-self : (name : Characters) (d : NamedClient) (cs : List NamedClient) → is_client name d ≡ true → list_any (is_client name) (cs ++ (d ∷ [])) ≡ true
any-self name d [] h = ap (λ b. b || false) h
any-self name d (c ∷ cs) h = by (is_client name c) (any-self name d cs h)
  where
    by : (b : Bool) → list_any (is_client name) (cs ++ (d ∷ [])) ≡ true → b || list_any (is_client name) (cs ++ (d ∷ [])) ≡ true
    by true g = refl
    by false g = g

any-found : (name : Characters) (cs : List NamedClient) (c : NamedClient) → find (is_client name) cs ≡ Some c → list_any (is_client name) cs ≡ true
any-found name [] c h = (cc)
any-found name (a ∷ cs) c h = by (λ g. any-found name cs c g) (is_client name a) h
  where
    by : (find (is_client name) cs ≡ Some c → list_any (is_client name) cs ≡ true) → (b : Bool) → cond b (Some a) (find (is_client name) cs) ≡ Some c → b
        || list_any (is_client name) cs ≡ true
    by ih true g = refl
    by ih false g = ih g

itself : (name : Characters) → bytes_eq name name ≡ true
itself name = (bytes_eq-Decides name name).1 refl

-- ---- the next name is new

any-none : (label : Characters) (names : List Characters) → Each (λ n. label ≡ n → ⊥) names → list_any (bytes_eq label) names ≡ false
any-none label [] h = refl
any-none label (n ∷ names) h = by (bytes_eq label n) refl (any-none label names h.1)
  where
    by : (b : Bool) → bytes_eq label n ≡ b → list_any (bytes_eq label) names ≡ false → b || list_any (bytes_eq label) names ≡ false
    by true e g = absurd (h.0 ((bytes_eq-Decides label n).0 e))
    by false e g = g

pub next-is-new : (count : ℕ) (clients : List NamedClient) (guests : List NamedGuest) (names : List Characters) (c : NamedClient) → count + 1 < 2 ^ 64
    → IsFound clients c → IsNamed count clients guests names
    → list_any (bytes_eq (connection_name c.name (c.connects + 1))) names ≡ false
next-is-new count clients guests names c l i h =
    any-none (connection_name c.name (c.connects + 1)) names
    (each-weaker (IsTaken count clients guests) (λ n. connection_name c.name (c.connects + 1) ≡ n → ⊥) (λ n t e. no-more n t e) names h.taken)
  where
    no-more : (n : Characters) → IsTaken count clients guests n → connection_name c.name (c.connects + 1) ≡ n → ⊥
    no-more n t e =
        let old = (each-found (λ (a : NamedClient). a.connects ≤ count) (is_client i.name) clients c i.found h.counted).0 in
        let s = t.small in
        let r = names-apart c.name t.owner (c.connects + 1) t.k (omega arith) t.first (omega (arith, old, l)) (omega (arith, s, l)) (e ∙ t.is) in
        let below = (each-found (λ (a : NamedClient). is_client t.owner a ≡ true → t.k ≤ a.connects) (is_client i.name) clients c i.found t.below).0
        (ap (λ o. bytes_eq o c.name) (sym r.0) ∙ itself c.name) in
        let k = r.1 in
        absurd (omega (arith, below, k))

pub guest-is-new : (count : ℕ) (clients : List NamedClient) (guests : List NamedGuest) (names : List Characters) (name : Characters) → count + 1 < 2 ^ 64
    → IsUnused clients guests name → IsNamed count clients guests names
    → list_any (bytes_eq (connection_name name 1)) names ≡ false
guest-is-new count clients guests names name l free h =
    any-none (connection_name name 1) names (each-weaker (IsTaken count clients guests) (λ n. connection_name name 1 ≡ n → ⊥) (λ n t e. no-more n t e) names h.taken)
  where
    no-more : (n : Characters) → IsTaken count clients guests n → connection_name name 1 ≡ n → ⊥
    no-more n t e =
        let s = t.small in
        let r = names-apart name t.owner 1 t.k (omega arith) t.first (omega arith) (omega (arith, s, l)) (e ∙ t.is) in
        let wrong : true ≡ false = sym (subst (λ o. list_any (is_client o) clients || list_any (is_guest o) guests ≡ true) (sym r.0) t.used) ∙ free in
        (cc)

pub other-way : (a b : Characters) → bytes_eq a b ≡ false → bytes_eq b a ≡ false
other-way a b h = by (bytes_eq b a) refl
  where
    by : (t : Bool) → bytes_eq b a ≡ t → t ≡ false
    by true e = let wrong : true ≡ false = sym ((bytes_eq-Decides a b).1 (sym ((bytes_eq-Decides b a).0 e))) ∙ h in (cc)
    by false e = refl

pub none-of : (a b : Bool) → a || b ≡ false → (a ≡ false) × (b ≡ false)
none-of true b h = (cc)
none-of false b h = (refl, h)

-- names with a new one behind them
distinct-more : (names : List Characters) (name : Characters) → are_distinct_names names ≡ true → list_any (bytes_eq name) names ≡ false → are_distinct_names (names ++ (name ∷ [])) ≡ true
distinct-more [] name d h = refl
distinct-more (first ∷ names) name d h =
    let p = both (not (list_any (bytes_eq first) names)) (are_distinct_names names) d in
    let q = none-of (bytes_eq name first) (list_any (bytes_eq name) names) h in
    rw (still names p.0 (other-way name first q.0), distinct-more names name p.1 q.1) refl
  where
    still : (ns : List Characters) → not (list_any (bytes_eq first) ns) ≡ true → bytes_eq first name ≡ false → list_any (bytes_eq first) (ns ++ (name ∷ [])) ≡ false
    still [] g e = rw e refl
    still (n ∷ ns) g e = by (bytes_eq first n) g (λ k. still ns k e)
      where
        by : (b : Bool) → not (b || list_any (bytes_eq first) ns) ≡ true
            → (not (list_any (bytes_eq first) ns) ≡ true → list_any (bytes_eq first) (ns ++ (name ∷ [])) ≡ false)
            → b || list_any (bytes_eq first) (ns ++ (name ∷ [])) ≡ false
        by true k ih = (cc)
        by false k ih = ih k

-- ---- names of clients and guests that come

-- a client joins under its next connection
pub named-connected : (count : ℕ) (clients : List NamedClient) (guests : List NamedGuest) (names : List Characters) (c d : NamedClient) → IsFound clients c
    → d.name ≡ c.name → d.connects ≡ c.connects + 1
    → IsNamed count clients guests names → IsNamed (count + 1) (map (in_place d) clients) guests (names ++ (connection_name c.name (c.connects + 1) ∷ []))
named-connected count clients guests names c d i same next h =
    let old = (each-found (λ (a : NamedClient). a.connects ≤ count) (is_client i.name) clients c i.found h.counted).0 in
    let wide : IsNamed (count + 1) clients guests names = record {
      taken = each-weaker (IsTaken count clients guests) (IsTaken (count + 1) clients guests)
          (λ label t. widen count (count + 1) clients guests label (omega arith) t) names h.taken;
      counted = each-weaker (λ (a : NamedClient). a.connects ≤ count) (λ (a : NamedClient). a.connects ≤ count + 1) (λ a l. omega (arith, l)) clients h.counted;
      apart = λ l. h.apart (omega (arith, l));
    } in
    let placed = named-placed (count + 1) clients guests names c d i same (omega (arith, next)) (omega (arith, next, old)) wide in
    let named : i.name ≡ c.name = (bytes_eq-Decides i.name c.name).0 (each-found (λ (a : NamedClient). Unit {0}) (is_client i.name) clients c i.found (units clients)).1 in
    record {
      taken = each-more (IsTaken (count + 1) (map (in_place d) clients) guests) names (connection_name c.name (c.connects + 1)) placed.taken (record {
        owner = c.name;
        k = c.connects + 1;
        is = refl;
        first = omega arith;
        small = omega (arith, old);
        used = either-true true (list_any (is_guest c.name) guests) (list_any (is_client c.name) (map (in_place d) clients))
            (sym (any-placed c.name d clients ∙ subst (λ n. list_any (is_client n) clients ≡ true) named (any-found i.name clients c i.found))) refl;
        below = only clients;
      });
      counted = placed.counted;
      apart = λ l. distinct-more names (connection_name c.name (c.connects + 1)) (h.apart (omega (arith, l))) (next-is-new count clients guests names c l i h);
    }
  where
    units : (cs : List NamedClient) → Each (λ (a : NamedClient). Unit {0}) cs
    units [] = tt
    units (a ∷ cs) = (tt, units cs)

    one : (a : NamedClient) (b : Bool) → is_client d.name a ≡ b → is_client c.name (cond b d a) ≡ true → c.connects + 1 ≤ (cond b d a).connects
    one a true e g = omega (arith, next)
    one a false e g = let wrong : true ≡ false = sym g ∙ (ap (λ n. bytes_eq n a.name) (sym same) ∙ e) in (cc)

    only : (cs : List NamedClient) → Each (λ a. is_client c.name a ≡ true → c.connects + 1 ≤ a.connects) (map (in_place d) cs)
    only [] = tt
    only (a ∷ cs) = (one a (is_client d.name a) refl, only cs)

-- a client starts under a name that nobody has
pub named-started : (count : ℕ) (clients : List NamedClient) (guests : List NamedGuest) (names : List Characters) (d : NamedClient) → d.connects ≡ 0
    → IsUnused clients guests d.name → IsNamed count clients guests names
    → IsNamed count (clients ++ (d ∷ [])) guests names
named-started count clients guests names d none free h = record {
  taken = each-weaker (IsTaken count clients guests) (IsTaken count (clients ++ (d ∷ [])) guests) (λ label t. again label t) names h.taken;
  counted = each-more (λ (a : NamedClient). a.connects ≤ count) clients d h.counted (omega (arith, none));
  apart = h.apart;
}
  where
    front : (owner : Characters) (cs : List NamedClient) (g : Bool) → list_any (is_client owner) cs || g ≡ true → list_any (is_client owner) (cs ++ (d ∷ [])) || g ≡ true
    front owner cs true h = ends (list_any (is_client owner) (cs ++ (d ∷ [])))
      where
        ends : (b : Bool) → b || true ≡ true
        ends true = refl
        ends false = refl
    front owner [] false h = (cc)
    front owner (a ∷ cs) false h = by (λ g. front owner cs false g) (is_client owner a) h
      where
        by : (list_any (is_client owner) cs || false ≡ true → list_any (is_client owner) (cs ++ (d ∷ [])) || false ≡ true) → (b : Bool) → b
            || list_any (is_client owner) cs || false ≡ true
            → b || list_any (is_client owner) (cs ++ (d ∷ [])) || false ≡ true
        by ih true g = refl
        by ih false g = ih g

    again : (label : Characters) → IsTaken count clients guests label → IsTaken count (clients ++ (d ∷ [])) guests label
    again label t = record {
      owner = t.owner;
      k = t.k;
      is = t.is;
      first = t.first;
      small = t.small;
      used = front t.owner clients (list_any (is_guest t.owner) guests) t.used;
      below = each-more (λ (a : NamedClient). is_client t.owner a ≡ true → t.k ≤ a.connects) clients d t.below
          (λ e. let same : t.owner ≡ d.name = (bytes_eq-Decides t.owner d.name).0 e in
          let wrong : true ≡ false = sym (subst (λ n. list_any (is_client n) clients || list_any (is_guest n) guests ≡ true) same t.used) ∙ free in (cc));
    }

-- a guest enters under a name that nobody has
pub named-entered : (count : ℕ) (clients : List NamedClient) (guests : List NamedGuest) (names : List Characters) (g : NamedGuest)
    → IsUnused clients guests g.name → IsNamed count clients guests names
    → IsNamed (count + 1) clients (guests ++ (g ∷ [])) (names ++ (connection_name g.name 1 ∷ []))
named-entered count clients guests names g free h = record {
  taken = each-more (IsTaken (count + 1) clients (guests ++ (g ∷ []))) names (connection_name g.name 1)
      (each-weaker (IsTaken count clients guests) (IsTaken (count + 1) clients (guests ++ (g ∷ []))) (λ label t. again label t) names h.taken) (record {
        owner = g.name;
        k = 1;
        is = refl;
        first = omega arith;
        small = omega arith;
        used = right (list_any (is_client g.name) clients) (list_any (is_guest g.name) (guests ++ (g ∷ []))) (last guests);
        below = nobody clients (left-false (list_any (is_client g.name) clients) (list_any (is_guest g.name) guests) free);
      });
  counted = each-weaker (λ (a : NamedClient). a.connects ≤ count) (λ (a : NamedClient). a.connects ≤ count + 1) (λ a l. omega (arith, l)) clients h.counted;
  apart = λ l. distinct-more names (connection_name g.name 1) (h.apart (omega (arith, l))) (guest-is-new count clients guests names g.name l free h);
}
  where
    right : (a b : Bool) → b ≡ true → a || b ≡ true
    right true b h = refl
    right false b h = h

    left-false : (a b : Bool) → a || b ≡ false → a ≡ false
    left-false true b h = (cc)
    left-false false b h = refl

    last : (gs : List NamedGuest) → list_any (is_guest g.name) (gs ++ (g ∷ [])) ≡ true
    last [] = ap (λ b. b || false) (itself g.name)
    last (x ∷ gs) = right (is_guest g.name x) (list_any (is_guest g.name) (gs ++ (g ∷ []))) (last gs)

    nobody : (cs : List NamedClient) → list_any (is_client g.name) cs ≡ false → Each (λ c. is_client g.name c ≡ true → 1 ≤ c.connects) cs
    nobody [] h = tt
    nobody (c ∷ cs) h = (λ e. let wrong : true ≡ false = sym (ap (λ b. b || list_any (is_client g.name) cs) e) ∙ h in (cc), nobody cs (rest (is_client g.name c) h))
      where
        rest : (b : Bool) → b || list_any (is_client g.name) cs ≡ false → list_any (is_client g.name) cs ≡ false
        rest true e = (cc)
        rest false e = e

    more : (owner : Characters) (gs : List NamedGuest) → list_any (is_guest owner) gs ≡ true → list_any (is_guest owner) (gs ++ (g ∷ [])) ≡ true
    more owner [] h = (cc)
    more owner (x ∷ gs) h = by (λ e. more owner gs e) (is_guest owner x) h
      where
        by : (list_any (is_guest owner) gs ≡ true → list_any (is_guest owner) (gs ++ (g ∷ [])) ≡ true) → (b : Bool) → b || list_any (is_guest owner) gs ≡ true
            → b || list_any (is_guest owner) (gs ++ (g ∷ [])) ≡ true
        by ih true e = refl
        by ih false e = ih e

    both-more : (owner : Characters) (a : Bool) → a || list_any (is_guest owner) guests ≡ true → a || list_any (is_guest owner) (guests ++ (g ∷ [])) ≡ true
    both-more owner true e = refl
    both-more owner false e = more owner guests e

    again : (label : Characters) → IsTaken count clients guests label → IsTaken (count + 1) clients (guests ++ (g ∷ [])) label
    again label t = record {
      owner = t.owner;
      k = t.k;
      is = t.is;
      first = t.first;
      small = let s = t.small in omega (arith, s);
      used = both-more t.owner (list_any (is_client t.owner) clients) t.used;
      below = t.below;
    }
