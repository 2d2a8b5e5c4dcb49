-- One client of a session changes, and the others stay.
use Rattle.std.proofs.Common.{◌≡◌, ℕ, zero, suc, ◌+◌, ◌≤◌, Bool, true, false, cond, not, ◌||◌, List, [], ◌∷◌, ◌++◌, length, map, take, Some, None, refl, sym, ◌∙◌, ap, arith}
use Rattle.std.proofs.Math.ListN.{set}
use Rattle.std.specs.List.{find, list_any, position_from, slice_get}
use Rattle.std.specs.Str.{bytes_eq}
use Rattle.std.proofs.lemmas.Bool.{not-true}
use Rattle.std.proofs.lemmas.Slice.Eq.{bytes_eq-Decides}
use Rattle.ft_base.proofs.Booleans.{both}
use Rattle.ft_base.proofs.Options.{some-same}
use Rattle.ft_props.specs.Properties.{Characters}
use Rattle.ft_sumdoc.specs.Counts.{are_distinct_names}
use Rattle.ft_laws_agreement.specs.Sequencing.{Each}
use Rattle.ft_msg.specs.declared.messages.Entry.{Entry}
use Rattle.ft_seqr.specs.World.{NamedClient, greatest_origin, in_place, is_client}
use Rattle.ft_session.specs.Worlds.{MembersStand, MemberStands, MemberState, has_name}
use Rattle.ft_session.proofs.RefusalKinds.{some-none}

-- the names of clients
abbrev pub names_of : List NamedClient → List Characters
names_of cs = map (λ c. c.name) cs

module _ (log : List Entry) where
  -- the member of that name stands at place i, and stands for the client of that name; where both change, all stand for one another
  pub record Found (name : Characters) (ms : List MemberState) (i : ℕ) (cs : List NamedClient) : Type 0 where
    pub state : MemberState
    pub at : slice_get ms i ≡ Some state
    pub member : NamedClient
    pub named : member.name ≡ name
    pub found : find (is_client name) cs ≡ Some member
    pub stands : MemberStands log state member
    pub put : (m : MemberState) (c : NamedClient) → c.name ≡ name → MemberStands log m c → MembersStand log (set ms i m) (map (in_place c) cs)

  same_name : (xs ys : Characters) → bytes_eq xs ys ≡ true → xs ≡ ys
  same_name xs ys = (bytes_eq-Decides xs ys).0

  is_itself : (xs ys : Characters) → xs ≡ ys → bytes_eq xs ys ≡ true
  is_itself xs ys = (bytes_eq-Decides xs ys).1

  -- nobody has the name, and so nobody's place is taken
  unplaced : (d : NamedClient) (cs : List NamedClient) → list_any (bytes_eq d.name) (names_of cs) ≡ false → map (in_place d) cs ≡ cs
  unplaced d [] h = refl
  unplaced d (c ∷ cs) h = step (bytes_eq d.name c.name) h (unplaced d cs)
    where
      step : (b : Bool) → b || list_any (bytes_eq d.name) (names_of cs) ≡ false → (list_any (bytes_eq d.name) (names_of cs) ≡ false → map (in_place d) cs ≡ cs)
          → cond b d c ∷ map (in_place d) cs ≡ c ∷ cs
      step true g rest = (cc)
      step false g rest = ap (λ ds. c ∷ ds) (rest g)

  found_here : (name : Characters) (m : MemberState) (c : NamedClient) (ms : List MemberState) (cs : List NamedClient) → has_name name m ≡ true → MemberStands log m c
      → MembersStand log ms cs → list_any (bytes_eq c.name) (names_of cs) ≡ false → Found name (m ∷ ms) 0 (c ∷ cs)
  found_here name m c ms cs h s rest alone =
      let e : c.name ≡ name = sym s.name ∙ sym (same_name name m.name h) in
      let t : is_client name c ≡ true = is_itself name c.name (sym e) in
      record {
        state = m;
        at = refl;
        member = c;
        named = e;
        found = rw t refl;
        stands = s;
        put = λ m' c' k s'. rw (is_itself c'.name c.name (k ∙ sym e), unplaced c' cs (ap (λ l. list_any (bytes_eq l) (names_of cs)) (k ∙ sym e) ∙ alone)) (s', rest);
      }

  found_later : (name : Characters) (m : MemberState) (c : NamedClient) (ms : List MemberState) (i : ℕ) (cs : List NamedClient) → has_name name m ≡ false
      → MemberStands log m c → Found name ms i cs → Found name (m ∷ ms) (suc i) (c ∷ cs)
  found_later name m c ms i cs h s f =
      let t : is_client name c ≡ false = ap (λ k. bytes_eq name k) (sym s.name) ∙ h in
      record {
        state = f.state;
        at = f.at;
        member = f.member;
        named = f.named;
        found = rw t f.found;
        stands = f.stands;
        put = λ m' c' k s'. rw (ap (λ l. bytes_eq l c.name) k ∙ t) (s, f.put m' c' k s');
      }

  -- the place that a search over members finds
  pub found : (name : Characters) (k i : ℕ) (ms : List MemberState) (cs : List NamedClient)
      → MembersStand log ms cs → are_distinct_names (names_of cs) ≡ true → position_from (has_name name) k ms ≡ Some i → (j : ℕ) × (i ≡ k + j) × Found name ms j cs
  found name k i [] cs s d h = some-none None i refl h
  found name k i (m ∷ ms) [] s d h = elim s [ ]
  found name k i (m ∷ ms) (c ∷ cs) s d h =
      let b = both (not (list_any (bytes_eq c.name) (names_of cs))) (are_distinct_names (names_of cs)) d in
      step (has_name name m) refl (not-true (list_any (bytes_eq c.name) (names_of cs)) b.0) h (λ p. found name (k + 1) i ms cs s.1 b.1 p)
    where
      later : (j : ℕ) × (i ≡ k + 1 + j) × Found name ms j cs → has_name name m ≡ false → (j : ℕ) × (i ≡ k + j) × Found name (m ∷ ms) j (c ∷ cs)
      later (j, q, f) e = (suc j, omega (arith, q), found_later name m c ms j cs e s.0 f)

      step : (b : Bool) → has_name name m ≡ b → list_any (bytes_eq c.name) (names_of cs) ≡ false
          → cond b (Some k) (position_from (has_name name) (k + 1) ms) ≡ Some i
          → (position_from (has_name name) (k + 1) ms ≡ Some i → (j : ℕ) × (i ≡ k + 1 + j) × Found name ms j cs)
          → (j : ℕ) × (i ≡ k + j) × Found name (m ∷ ms) j (c ∷ cs)
      step true e alone p rest = let q : k ≡ i = some-same k i p in (0, omega (arith, q), found_here name m c ms cs e s.0 s.1 alone)
      step false e alone p rest = later (rest p) e

  -- no client has the name where the search finds none
  pub not_found : (name : Characters) (k : ℕ) (ms : List MemberState) (cs : List NamedClient) → MembersStand log ms cs → position_from (has_name name) k ms ≡ None
      → find (is_client name) cs ≡ None
  not_found name k [] [] s h = refl
  not_found name k [] (c ∷ cs) s h = elim s [ ]
  not_found name k (m ∷ ms) [] s h = elim s [ ]
  not_found name k (m ∷ ms) (c ∷ cs) s h = step (has_name name m) refl h (λ p. not_found name (k + 1) ms cs s.1 p)
    where
      step : (b : Bool) → has_name name m ≡ b → cond b (Some k) (position_from (has_name name) (k + 1) ms) ≡ None
          → (position_from (has_name name) (k + 1) ms ≡ None → find (is_client name) cs ≡ None) → find (is_client name) (c ∷ cs) ≡ None
      step true e p rest = some-none (Some k) k p refl
      step false e p rest = let t : is_client name c ≡ false = ap (λ k. bytes_eq name k) (sym s.0.name) ∙ e in rw t (rest p)

  -- a replica that came in stands for its client, beside the others
  pub stand-more : (ms : List MemberState) (cs : List NamedClient) (m : MemberState) (c : NamedClient) → MembersStand log ms cs → MemberStands log m c
      → MembersStand log (ms ++ (m ∷ [])) (cs ++ (c ∷ []))
  stand-more [] [] m c s t = (t, tt)
  stand-more [] (d ∷ cs) m c s t = elim s [ ]
  stand-more (n ∷ ms) [] m c s t = elim s [ ]
  stand-more (n ∷ ms) (d ∷ cs) m c s t = (s.0, stand-more ms cs m c s.1 t)

-- what a member knows stays as the log grows
module _ (log later : List Entry) where
  pub member-grown : (m : MemberState) (c : NamedClient) → c.client.doc.number ≤ length log → MemberStands log m c → MemberStands (log ++ later) m c
  member-grown m c h s = record {
    name = s.name;
    replica = s.replica;
    connects = s.connects;
    origin = s.origin ∙ ap greatest_origin (sym (take-front c.client.doc.number log h));
  }
    where
      take-front : (n : ℕ) (es : List Entry) → n ≤ length es → take n (es ++ later) ≡ take n es
      take-front zero es g = refl
      take-front (suc n) [] g = absurd (omega (arith, g))
      take-front (suc n) (e ∷ es) g = ap (λ t. e ∷ t) (take-front n es (omega (arith, g)))

  pub stand-grown : (ms : List MemberState) (cs : List NamedClient) → Each (λ c. c.client.doc.number ≤ length log) cs → MembersStand log ms cs
      → MembersStand (log ++ later) ms cs
  stand-grown [] [] h s = tt
  stand-grown [] (c ∷ cs) h s = elim s [ ]
  stand-grown (m ∷ ms) [] h s = elim s [ ]
  stand-grown (m ∷ ms) (c ∷ cs) h s = (member-grown m c h.0 s.0, stand-grown ms cs h.1 s.1)
