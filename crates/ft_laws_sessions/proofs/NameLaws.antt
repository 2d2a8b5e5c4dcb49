-- The name of each new connection is a new one.
use Rattle.std.proofs.Common.{◌≡◌, suc, ◌+◌, Bool, true, false, cond, ◌||◌, bytes_eq, nat_le, List, [], ◌∷◌, length, Some, None, refl, ◌∙◌, ap, arith}
use Rattle.std.specs.List.{list_any}
use Rattle.ft_seqr.specs.declared.refusals.Refusal.TheVariants.{ClientLimit, NameInUse}
use Rattle.ft_props.specs.Properties.{Characters}
use Rattle.ft_msg.specs.NameTable.{names_after, number_of}
use Rattle.ft_seqr.specs.World.{NaiveWorld, connection_name, is_client, is_guest, name_fault}
use Rattle.ft_laws_sessions.specs.NewNames.{ConnectionsHaveNewNames, GuestsHaveNewNames, IsNewName}
use Rattle.ft_laws_sessions.specs.Worlds.{reached}
use Rattle.ft_laws_sessions.proofs.ConnectionNames.{IsUnused, guest-is-new, next-is-new, none-of, other-way}
use Rattle.ft_laws_sessions.proofs.WorldLaws.{world-reached}

new-name : (names : List Characters) (name : Characters) → list_any (bytes_eq name) names ≡ false → IsNewName names name
new-name [] name h = record { number = refl; after = refl }
new-name (first ∷ names) name h =
    let p = none-of (bytes_eq name first) (list_any (bytes_eq name) names) h in
    let f = other-way name first p.0 in
    let r = new-name names name p.1 in
    let n = r.number in
    record {
      number = ap (λ b. cond b 1 (suc (number_of names name))) f ∙ omega (arith, n);
      after = ap (λ b. cond b (first ∷ names) (first ∷ names_after names name)) f ∙ ap (λ ns. first ∷ ns) r.after;
    }

pub connections-have-new_names : ConnectionsHaveNewNames
connections-have-new_names events name c f l =
    let r = world-reached events in
    let w = reached events in
    new-name w.names (connection_name c.name (c.connects + 1)) (next-is-new (length w.names) w.clients w.guests w.names c l (record { name = name; found = f }) r.named)

-- a name without a fault is nobody's
unused : (w : NaiveWorld) (name : Characters) → name_fault w name ≡ None → IsUnused w.clients w.guests name
unused w name h = by (list_any (is_client name) w.clients || list_any (is_guest name) w.guests) (nat_le 16 (length w.clients + length w.guests)) h
  where
    by : (a b : Bool) → cond a (Some NameInUse) (cond b (Some ClientLimit) None) ≡ None → a ≡ false
    by true b e = (cc)
    by false b e = refl

pub guests-have-new_names : GuestsHaveNewNames
guests-have-new_names events name h l =
    let r = world-reached events in
    let w = reached events in
    new-name w.names (connection_name name 1) (guest-is-new (length w.names) w.clients w.guests w.names name l (unused w name h) r.named)
