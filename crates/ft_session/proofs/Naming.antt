-- Which names a session gives.
use Rattle.std.proofs.Common.{◌≡◌, ◌≤◌, ◌<◌, ℕ, ◌+◌, Bool, true, false, cond, ◌||◌, nat_le, List, [], ◌∷◌, length, suc, Option, Some, None, is_some, refl, sym, ◌∙◌, ap, arith, le-leb}
use Rattle.std.proofs.lemmas.Bool.{or_right}
use Rattle.std.proofs.lemmas.Bool.Decides.{nat_tests}
use Rattle.std.specs.List.{list_any, position, position_from}
use Rattle.std.proofs.lemmas.Iterator.Adapters.{position_from-zero}
use Rattle.std.specs.Str.{bytes_eq}
use Rattle.ft_props.specs.Properties.{Characters}
use Rattle.ft_msg.specs.declared.messages.Entry.{Entry}
use Rattle.ft_seqr.specs.declared.refusals.Refusal.{Refusal}
use Rattle.ft_seqr.specs.declared.refusals.Refusal.TheVariants.{ClientLimit, NameInUse}
use Rattle.ft_seqr.specs.World.{NaiveWorld, NamedClient, is_client, is_guest, name_fault, name_limit}
use Rattle.ft_seqr.specs.RefusalKinds.{Refused}
use Rattle.ft_session.specs.Worlds.{MembersStand, MemberState, SessionState, SessionStands, has_name}

-- a place is found exactly where there is one
found-from : {A : Type 0} (p : A → Bool) (k : ℕ) (xs : List A) → is_some (position_from p k xs) ≡ list_any p xs
found-from p k [] = refl
found-from p k (x ∷ xs) = step (p x) (found-from p (k + 1) xs)
  where
    step : (b : Bool) → is_some (position_from p (k + 1) xs) ≡ list_any p xs → is_some (cond b (Some k) (position_from p (k + 1) xs)) ≡ b || list_any p xs
    step true h = refl
    step false h = h

pub any-found : {A : Type 0} (p : A → Bool) (xs : List A) → is_some (position p xs) ≡ list_any p xs
any-found p xs = ap is_some (position_from-zero p xs) ∙ found-from p 0 xs

module _ (log : List Entry) (name : Characters) where
  any-stand : (ms : List MemberState) (cs : List NamedClient) → MembersStand log ms cs → list_any (is_client name) cs ≡ list_any (has_name name) ms
  any-stand [] [] s = refl
  any-stand [] (c ∷ cs) s = elim s [ ]
  any-stand (m ∷ ms) [] s = elim s [ ]
  any-stand (m ∷ ms) (c ∷ cs) s = ap (λ n. bytes_eq name n || list_any (is_client name) cs) (sym s.0.name) ∙ ap (λ b. bytes_eq name m.name || b) (any-stand ms cs s.1)

count-stand : (log : List Entry) (ms : List MemberState) (cs : List NamedClient) → MembersStand log ms cs → length cs ≡ length ms
count-stand log [] [] s = refl
count-stand log [] (c ∷ cs) s = elim s [ ]
count-stand log (m ∷ ms) [] s = elim s [ ]
count-stand log (m ∷ ms) (c ∷ cs) s = ap suc (count-stand log ms cs s.1)

-- why a name can't be given, by what is found
abbrev named_fault : Bool → Bool → ℕ → Option Refusal
named_fault a b n = cond (a || b) (Some NameInUse) (cond (nat_le name_limit n) (Some ClientLimit) None)

module _ (s : SessionState) (name : Characters) (ms : List MemberState) (same : ms ≡ s.members) (w : NaiveWorld) (stands : SessionStands s w) where
  session-fault : name_fault w name ≡ named_fault (list_any (has_name name) ms) (list_any (is_guest name) s.guests) (length ms + length s.guests)
  session-fault =
      ap (λ b. named_fault b (list_any (is_guest name) w.guests) (length w.clients + length w.guests)) (any-stand w.log name s.members w.clients stands.members)
      ∙ ap (λ n. named_fault (list_any (has_name name) s.members) (list_any (is_guest name) w.guests) (n + length w.guests)) (count-stand w.log s.members w.clients stands.members)
      ∙ ap (λ gs. named_fault (list_any (has_name name) s.members) (list_any (is_guest name) gs) (length s.members + length gs)) (sym stands.guests)
      ∙ ap (λ l. named_fault (list_any (has_name name) l) (list_any (is_guest name) s.guests) (length l + length s.guests)) (sym same)

  -- a replica has it
  pub named-member : true ≡ list_any (has_name name) ms → (name_fault w name ≡ Some NameInUse) × (Refused ≡ Refused)
  named-member h = (session-fault ∙ ap (λ b. named_fault b (list_any (is_guest name) s.guests) (length ms + length s.guests)) (sym h), refl)

  -- a guest has it
  pub named-guest : true ≡ list_any (is_guest name) s.guests → (name_fault w name ≡ Some NameInUse) × (Refused ≡ Refused)
  named-guest h = (
    session-fault ∙ ap (λ b. cond b (Some NameInUse) (cond (nat_le name_limit (length ms + length s.guests)) (Some ClientLimit) None))
        (or_right (list_any (has_name name) ms) (list_any (is_guest name) s.guests) (sym h)),
    refl,
  )

  -- neither has it
  module _ (no_member : false ≡ list_any (has_name name) ms) (no_guest : false ≡ list_any (is_guest name) s.guests) where
    unnamed : name_fault w name ≡ named_fault false false (length ms + length s.guests)
    unnamed = session-fault ∙ ap (λ b. named_fault b (list_any (is_guest name) s.guests) (length ms + length s.guests)) (sym no_member)
        ∙ ap (λ b. named_fault false b (length ms + length s.guests)) (sym no_guest)

    pub names-full : 16 ≤ length ms + length s.guests → (name_fault w name ≡ Some ClientLimit) × (Refused ≡ Refused)
    names-full h = (
      unnamed ∙ (let e : nat_le name_limit (length ms + length s.guests) ≡ true = le-leb 16 (length ms + length s.guests) h in ap (λ b. cond b (Some ClientLimit) None) e),
      refl,
    )

    pub name-free : length ms + length s.guests < 16 → name_fault w name ≡ None
    name-free h =
        unnamed ∙ (let e : nat_le name_limit (length ms + length s.guests) ≡ false = grind (arith, nat_tests) in ap (λ b. cond b (Some ClientLimit) None) e)
