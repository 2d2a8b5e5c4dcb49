-- Lists of leaves that are noted, one after another.
use Rattle.std.proofs.Common.{◌≡◌, ℕ, suc, ◌+◌, ◌<◌, ◌≤◌, cond, false, true, List, [], ◌∷◌, ◌++◌, length, drop, get_or, Option, Some, None, is_some, refl, sym, ◌∙◌, ap, inl, inr, arith, zero, add-one, drop-cons}
use Rattle.std.proofs.lemmas.Bool.{cases_eq}
use Rattle.ft_arena.specs.Ids.{first, times}
use Rattle.ft_arena.proofs.IdLemmas.{same_other, same_refl, times-append}
use Rattle.ft_refs.specs.declared.numbers.Place.{Place}
use Rattle.ft_refs.specs.RefLists.{IsRefs, ids_of, place_of_reference}
use Rattle.ft_tree_blocks.specs.Anchors.{AnchorLists}
use Rattle.ft_tree_blocks.specs.Unsettled.{Notes, NotesAll, StillListed, all_noted}
use Rattle.ft_tree_blocks.proofs.AnchorChanges.{none_on}

pub none_of : (o : Option ℕ) → is_some o ≡ false → o ≡ None
none_of None e = refl
none_of (Some n) e = (cc)

-- a loop over numbers goes on with the next one
pub drop_next : (xs : List ℕ) (i x : ℕ) → i < length xs → x ≡ get_or xs i x → drop i xs ≡ x ∷ drop (i + 1) xs
drop_next xs i x less is = drop-cons xs i x less ∙ ap (λ (y : ℕ). y ∷ drop (suc i) xs) (sym is) ∙ ap (λ (k : ℕ). x ∷ drop k xs) (sym (add-one i))

module _ (a : AnchorLists) (id : ℕ) (old : List ℕ) where
  pub notes_pushed : (new : List ℕ) → is_some (first (ids_of a.refs id)) ≡ true → new ≡ old ++ id ∷ [] → Notes a id old new
  notes_pushed new some e = record {
    still = λ z h. omega (arith, h, ap (λ zs. times zs z) e, times-append old (id ∷ []) z);
    listed = λ r p f q. omega (arith, ap (λ zs. times zs id) e, times-append old (id ∷ []) id, same_refl id);
    exact = e ∙ sym (ap (λ b. cond b (old ++ id ∷ []) old) some);
  }

  pub notes_none : IsRefs a.refs → first (ids_of a.refs id) ≡ None → Notes a id old old
  notes_none sound none = record {
    still = λ z h. h;
    listed = λ r p f q. absurd (none_on a.refs id sound none r p f q);
    exact = sym (ap (λ o. cond (is_some o) (old ++ id ∷ []) old) none);
  }

-- those up to a place are noted, and the rest stands ahead
pub record NotesSome (a : AnchorLists) (nodes rest : List ℕ) (old now : List ℕ) : Type 0 where
  pub still : StillListed old now
  pub listed : (r : ℕ) (p : Place) → place_of_reference a.refs r ≡ Some p → 1 ≤ times nodes p.owner → 1 ≤ times now p.owner + times rest p.owner
  pub exact : all_noted a rest now ≡ all_noted a nodes old

pub some_first : (a : AnchorLists) (nodes old : List ℕ) → NotesSome a nodes nodes old old
some_first a nodes old = record { still = λ z h. h; listed = λ r p e h. omega (arith, h); exact = refl }

pub some_next : (a : AnchorLists) (nodes rest old now new : List ℕ) (id : ℕ) → NotesSome a nodes (id ∷ rest) old now → Notes a id now new
    → NotesSome a nodes rest old new
some_next a nodes rest old now new id s n = record {
  still = λ z h. n.still z (s.still z h);
  listed = λ r p e h. elim (cases_eq p.owner id) [
    | inl q ↦ omega (arith, n.listed r p e q, ap (times new) q)
    | inr d ↦ ahead (times now p.owner) (times new p.owner) (times rest p.owner) (n.still p.owner)
        (omega (arith, s.listed r p e h, same_other id p.owner (λ q. d (sym q))))
  ];
  exact = ap (all_noted a rest) n.exact ∙ s.exact;
}
  where
    ahead : (k l m : ℕ) → (1 ≤ k → 1 ≤ l) → 1 ≤ k + m → 1 ≤ l + m
    ahead zero l m f h = omega (arith, h)
    ahead (suc k) l m f h = let g : 1 ≤ l = f (omega arith) in omega (arith, g)

pub some_all : (a : AnchorLists) (nodes rest old now : List ℕ) → NotesSome a nodes rest old now → rest ≡ [] → NotesAll a nodes old now
some_all a nodes rest old now s e = record {
  still = s.still;
  listed = λ r p f h. omega (arith, s.listed r p f h, ap (λ zs. times zs p.owner) e);
  exact = ap (λ ids. all_noted a ids now) (sym e) ∙ s.exact;
}
