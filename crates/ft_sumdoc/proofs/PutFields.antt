-- Fields that are put into an object one after another.
use Rattle.std.proofs.Common.{◌≡◌, ◌∙◌, ℕ, Bool, true, false, ◌&&◌, List, [], ◌∷◌, ◌++◌, Option, Some, None, Ordering, Less, Equal, Greater, refl, sym, ap, append-nil, append_assoc}
use Rattle.std.specs.Ordering.{nat_cmp, match_ordering}
use Rattle.std.specs.Cmp.Lexicographic.{slice_cmp}
use Rattle.serde_json.specs.Data.{Data, Members, no_members, member, put}
use Rattle.ft_base.proofs.Booleans.{both}
use Rattle.ft_op.specs.Written.{put_given, with_given}
use Rattle.ft_op.proofs.WrittenFields.{fields}

abbrev pub is_greater : Ordering → Bool
is_greater Less = false
is_greater Equal = false
is_greater Greater = true

-- the members with these fields put one after another
abbrev pub put_fields : List (List ℕ × Option Data) → Members → Members
put_fields [] ms = ms
put_fields (f ∷ fs) ms = put_fields fs (put_given f.0 f.1 ms)

-- whether the key comes after each of these
abbrev pub is_after_all : List ℕ → List (List ℕ × Option Data) → Bool
is_after_all key [] = true
is_after_all key (f ∷ fs) = is_greater (slice_cmp nat_cmp key f.0) && is_after_all key fs

-- whether the keys of the further fields rise, and come after each of these
abbrev pub go_on : List (List ℕ × Option Data) → List (List ℕ × Option Data) → Bool
go_on done [] = true
go_on done (f ∷ fs) = is_after_all f.0 done && go_on (done ++ (f ∷ [])) fs

put_after : (key l : List ℕ) (d e : Data) (ms rest : Members) (o : Ordering) → is_greater o ≡ true → put key d ms ≡ rest
    → match_ordering o (member key d (member l e ms)) (member l d ms) (member l e (put key d ms)) ≡ member l e rest
put_after key l d e ms rest Less h k = (cc)
put_after key l d e ms rest Equal h k = (cc)
put_after key l d e ms rest Greater h k = ap (member l e) k

put_behind : (key l : List ℕ) (o : Option Data) (d : Data) (ms rest : Members) → is_greater (slice_cmp nat_cmp key l) ≡ true → put key d ms ≡ rest → put key d (with_given l o ms) ≡ with_given l o rest
put_behind key l None d ms rest h k = k
put_behind key l (Some e) d ms rest h k = put_after key l d e ms rest (slice_cmp nat_cmp key l) h k

put_last : (key : List ℕ) (d : Data) (done : List (List ℕ × Option Data)) → is_after_all key done ≡ true → put key d (fields done) ≡ fields (done ++ ((key, Some d) ∷ []))
put_last key d [] h = refl
put_last key d (f ∷ done) h =
    let parts = both (is_greater (slice_cmp nat_cmp key f.0)) (is_after_all key done) h in
    put_behind key f.0 f.1 d (fields done) (fields (done ++ ((key, Some d) ∷ []))) parts.0 (put_last key d done parts.1)

none_last : (key : List ℕ) (done : List (List ℕ × Option Data)) → fields done ≡ fields (done ++ ((key, None) ∷ []))
none_last key [] = refl
none_last key (f ∷ done) = ap (with_given f.0 f.1) (none_last key done)

given_last : (key : List ℕ) (o : Option Data) (done : List (List ℕ × Option Data)) → is_after_all key done ≡ true → put_given key o (fields done) ≡ fields (done ++ ((key, o) ∷ []))
given_last key None done h = none_last key done
given_last key (Some d) done h = put_last key d done h

put_behind_all : (done fs : List (List ℕ × Option Data)) → go_on done fs ≡ true → put_fields fs (fields done) ≡ fields (done ++ fs)
put_behind_all done [] h = ap fields (sym (append-nil done))
put_behind_all done (f ∷ fs) h =
    let parts = both (is_after_all f.0 done) (go_on (done ++ (f ∷ [])) fs) h in
    ap (put_fields fs) (given_last f.0 f.1 done parts.0) ∙ put_behind_all (done ++ (f ∷ [])) fs parts.1 ∙ ap fields (append_assoc done (f ∷ []) fs)

-- fields whose keys rise, put one after another, are these fields
pub put_in_order : (fs : List (List ℕ × Option Data)) → go_on [] fs ≡ true → put_fields fs no_members ≡ fields fs
put_in_order fs h = put_behind_all [] fs h
