-- Pairs by rising keys, put one after another into an object, stand there in their order.
use Rattle.std.proofs.Common.{◌≡◌, List, [], ◌∷◌, ◌++◌, Less, Greater, refl, sym, ap, ◌∙◌, append_assoc, append-nil, encode_utf8_all, nat_cmp}
use Rattle.std.proofs.lemmas.Cmp.{nat_list_cmp_total}
use Rattle.std.specs.Cmp.Lexicographic.{slice_cmp}
use Rattle.std.specs.Ordering.{ordering_reverse}
use Rattle.serde_json.specs.Data.{Data, Members, no_members, member, put}
use Rattle.ft_json.proofs.KeyOrder.{slice_cmp-encodes}
use Rattle.ft_props.specs.Keys.{Characters, IsBeforeKeys, KeysRise, text_cmp}
use Rattle.ft_op.specs.Written.{written_pairs}

-- the pairs put one after another
abbrev pub put_pairs : {V : Type 0} → (V → Data) → List (Characters × V) → Members → Members
put_pairs written [] ms = ms
put_pairs written (p ∷ pairs) ms = put_pairs written pairs (put (encode_utf8_all p.0) (written p.1) ms)

-- one more pair is put
pub put_next : {V : Type 0} (written : V → Data) (xs rest here : List (Characters × V)) (p : Characters × V) (before after : Members)
    → here ≡ p ∷ rest
    → after ≡ put (encode_utf8_all p.0) (written p.1) before → put_pairs written here before ≡ put_pairs written xs no_members
    → put_pairs written rest after ≡ put_pairs written xs no_members
put_next written xs rest here p before after at is h =
    ap (put_pairs written rest) is ∙ ap (λ (ps : List _). put_pairs written ps before) (sym at) ∙ h

before : {V : Type 0} (key : Characters) (done : List (Characters × V)) (p : Characters × V) (rest : List (Characters × V))
    → IsBeforeKeys key (done ++ p ∷ rest) → text_cmp key p.0 ≡ Less
before key [] p rest h = h.0
before key (q ∷ done) p rest h = before key done p rest h.1

-- a later key comes after an earlier one, by their bytes
later : (early late : Characters) → text_cmp early late ≡ Less → slice_cmp nat_cmp (encode_utf8_all late) (encode_utf8_all early) ≡ Greater
later early late h = slice_cmp-encodes late early ∙ nat_list_cmp_total.antisymm late early ∙ ap ordering_reverse h

put_last : {V : Type 0} (written : V → Data) (done : List (Characters × V)) (p : Characters × V) (rest : List (Characters × V)) → KeysRise (done ++ p ∷ rest)
    → put (encode_utf8_all p.0) (written p.1) (written_pairs written done) ≡ written_pairs written (done ++ p ∷ [])
put_last written [] p rest h = refl
put_last written (q ∷ done) p rest h =
    rw (later q.0 p.0 (before q.0 done p rest h.0)) (ap (member (encode_utf8_all q.0) (written q.1)) (put_last written done p rest h.1))

put_behind : {V : Type 0} (written : V → Data) (done pairs : List (Characters × V)) → KeysRise (done ++ pairs)
    → put_pairs written pairs (written_pairs written done) ≡ written_pairs written (done ++ pairs)
put_behind written done [] h = ap (written_pairs written) (sym (append-nil done))
put_behind written done (p ∷ pairs) h =
    ap (put_pairs written pairs) (put_last written done p pairs h)
    ∙ put_behind written (done ++ p ∷ []) pairs (rw append_assoc h)
    ∙ ap (written_pairs written) (append_assoc done (p ∷ []) pairs)

pub put_all : {V : Type 0} (written : V → Data) (pairs : List (Characters × V)) → KeysRise pairs → put_pairs written pairs no_members ≡ written_pairs written pairs
put_all written pairs h = put_behind written [] pairs h
