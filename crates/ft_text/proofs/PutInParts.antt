-- Contents of text that are put into a tree part by part, the last part first, each at the same place.
use Rattle.std.proofs.Common.{◌≡◌, ℕ, suc, ◌+◌, ◌*◌, ◌<◌, ◌≤◌, Bool, true, false, is_none, IsTrue, List, [], ◌∷◌, ◌++◌, Option, Some, None, refl, sym, ◌∙◌, ap, subst, arith, length, flat_map, append-nil, length-append, option_map}
use Rattle.std.proofs.lemmas.Grind.{flat_map-append}
use Rattle.std.proofs.lemmas.List.{map-append}
use Rattle.ft_base.specs.declared.stamps.Stamp.{Stamp}
use Rattle.ft_base.specs.Scan.{len, put}
use Rattle.ft_base.proofs.Booleans.{both}
use Rattle.ft_interval_store.specs.State.{text_elements}
use Rattle.ft_tree_leaves.specs.declared.text.TextContent.{TextContent}
use Rattle.ft_tree_leaves.specs.Edits.{with_place}
use Rattle.ft_tree_leaves.specs.Elements.{TreeElement, element_with, new_elements}
use Rattle.ft_tree_leaves.specs.Places.{put_place, shifted_place}
use Rattle.ft_tree_leaves.specs.References.{ChangesReferences, reference_at}
use Rattle.ft_tree_leaves.specs.TextLeaves.{text_units}
use Rattle.ft_props.specs.Element.{ElementContent}
use Rattle.ft_props.specs.Properties.{PropertyList}
use Rattle.ft_tree.specs.State.{KeepsRest, TreeState}
use Rattle.ft_text.specs.Contents.{PutsIn, are_new}
use Rattle.ft_named.proofs.PutTwice.{AreStops, moved-nowhere, moved-twice, place-stays, put-nothing, put-twice}

-- ---- trees

module _ (see past : TreeElement ElementContent → Bool) (p : ℕ) where
  pub puts-nothing : (tree : TreeState TextContent) → PutsIn see past p [] tree tree
  puts-nothing tree = record {
    elements = sym (put-nothing see past p (text_elements tree));
    refs = λ r. moved-nowhere (put_place see past p (text_elements tree)) (reference_at tree.refs r);
    rest = record { floor = refl; sweep = refl; usable = refl };
    made = omega arith;
  }

  -- the part in front comes in after the part behind
  pub puts-both : (a b : List (TreeElement ElementContent)) (old mid new : TreeState TextContent) → AreStops see past b → p ≤ len see (text_elements old)
      → PutsIn see past p b old mid → PutsIn see past p a mid new → PutsIn see past p (a ++ b) old new
  puts-both a b old mid new stops l f g =
      let place : put_place see past p (text_elements mid) ≡ put_place see past p (text_elements old) =
      ap (put_place see past p) f.elements ∙ place-stays see past p b (text_elements old) stops l in
      let i = put_place see past p (text_elements old) in
      record {
        elements = g.elements ∙ ap (put see past p a) f.elements ∙ put-twice see past p a b (text_elements old) stops l;
        refs = λ r. g.refs r ∙ ap (λ k. option_map (with_place (shifted_place k (length a))) (reference_at mid.refs r)) place
            ∙ ap (option_map (with_place (shifted_place i (length a)))) (f.refs r) ∙ moved-twice i (length a) (length b) (reference_at old.refs r)
            ∙ ap (λ n. option_map (with_place (shifted_place i n)) (reference_at old.refs r)) (sym (length-append a b));
        rest = record { floor = g.rest.floor ∙ f.rest.floor; sweep = g.rest.sweep ∙ f.rest.sweep; usable = g.rest.usable ∙ f.rest.usable };
        made = let sum = length-append a b in let one = f.made in let two = g.made in omega arith;
      }

-- ---- contents that are left, from the last to the first

all-of : (xs ys : List TextContent) → are_new (xs ++ ys) ≡ true → (are_new xs ≡ true) × (are_new ys ≡ true)
all-of [] ys h = (refl, h)
all-of (x ∷ xs) ys h =
    let p = both (is_none x.by) (are_new (xs ++ ys)) h in let q = all-of xs ys p.1 in (rw (p.0, q.0) refl, q.1)

none-of : (o : Option Stamp) → is_none o ≡ true → o ≡ None
none-of None h = refl
none-of (Some t) h = (cc)

module _ (see past : TreeElement ElementContent → Bool) (p : ℕ) (ins : Stamp) (by : Option Stamp) (props : PropertyList) where
  -- what is left of the contents makes of the tree what all make of the first one
  pub record InsertsLeft (all : List ElementContent) (left : List TextContent) (first now : TreeState TextContent) : Type 0 where
    pub whole : (new : TreeState TextContent) → PutsIn see past p (new_elements ins by props (flat_map text_units left)) now new
        → PutsIn see past p (new_elements ins by props all) first new
    pub fresh : are_new left ≡ true
    pub usable : IsTrue now.usable
    pub floor : now.floor ≡ first.floor
    pub made : now.made + length (flat_map text_units left) ≡ first.made + length all

  pub inserts-begin : (all : List ElementContent) (left : List TextContent) (first : TreeState TextContent)
      → flat_map text_units left ≡ all → are_new left ≡ true
      → IsTrue first.usable → InsertsLeft all left first first
  inserts-begin all left first same fresh usable = record {
    whole = λ new h. subst (λ us. PutsIn see past p (new_elements ins by props us) first new) same h;
    fresh = fresh;
    usable = usable;
    floor = refl;
    made = ap (λ us. first.made + length us) same;
  }

  pub inserts-end : (all : List ElementContent) (first now : TreeState TextContent) → InsertsLeft all [] first now → PutsIn see past p (new_elements ins by props all) first now
  inserts-end all first now h = h.whole now (puts-nothing see past p now)

  -- the last one of them
  pub inserts-next : (all : List ElementContent) (front : List TextContent) (x : TextContent) (left : List TextContent) (first now next : TreeState TextContent)
      → InsertsLeft all left first now → left ≡ front ++ (x ∷ []) → ((e : TreeElement ElementContent) → e.stamps.ins ≡ ins → past e ≡ false)
      → p ≤ len see (text_elements now) → PutsIn see past p (new_elements ins by props (text_units x)) now next
      → InsertsLeft all front first next
  inserts-next all front x left first now next h same stop l f =
      let units : flat_map text_units left ≡ flat_map text_units front ++ text_units x =
      ap (flat_map text_units) same ∙ flat_map-append text_units front (x ∷ []) ∙ ap (λ us. flat_map text_units front ++ us) (append-nil (text_units x)) in
      let parts : new_elements ins by props (flat_map text_units left) ≡ new_elements ins by props (flat_map text_units front) ++ new_elements ins by props (text_units x) =
      ap (new_elements ins by props) units ∙ map-append (element_with (record { ins = ins; dels = [] }) by (record { acked = props; pending = [] })) (flat_map text_units front) (text_units x) in
      let size : length (flat_map text_units left) ≡ length (flat_map text_units front) + length (text_units x) =
      ap length units ∙ length-append (flat_map text_units front) (text_units x) in
      let count : length (new_elements ins by props (text_units x)) ≡ length (text_units x) = new-count (text_units x) in
      record {
        whole = λ new g. h.whole new (subst (λ es. PutsIn see past p es now new) (sym parts)
            (puts-both see past p (new_elements ins by props (flat_map text_units front)) (new_elements ins by props (text_units x)) now next new
            (all-stops stop (text_units x)) l f g));
        fresh = (all-of front (x ∷ []) (sym (ap are_new same) ∙ h.fresh)).0;
        usable = subst (λ b. IsTrue b) (sym f.rest.usable) h.usable;
        floor = f.rest.floor ∙ h.floor;
        made = let more = f.made in let before = h.made in omega arith;
      }
    where
      new-count : (us : List ElementContent) → length (new_elements ins by props us) ≡ length us
      new-count [] = refl
      new-count (u ∷ us) = ap suc (new-count us)

      all-stops : ((e : TreeElement ElementContent) → e.stamps.ins ≡ ins → past e ≡ false) → (us : List ElementContent) → AreStops see past (new_elements ins by props us)
      all-stops stops [] = refl
      all-stops stops (u ∷ us) = rw (stops (element_with (record { ins = ins; dels = [] }) by (record { acked = props; pending = [] }) u) refl, all-stops stops us) refl

  -- there is room for the last one
  pub inserts-room : (most : ℕ) (all : List ElementContent) (front : List TextContent) (x : TextContent) (left : List TextContent)
      (first now : TreeState TextContent)
      → InsertsLeft all left first now → left ≡ front ++ (x ∷ []) → first.made + length all ≤ most → now.made + length (text_units x) ≤ most
  inserts-room most all front x left first now h same fits =
      let units : flat_map text_units left ≡ flat_map text_units front ++ text_units x =
      ap (flat_map text_units) same ∙ flat_map-append text_units front (x ∷ []) ∙ ap (λ us. flat_map text_units front ++ us) (append-nil (text_units x)) in
      let size : length (flat_map text_units left) ≡ length (flat_map text_units front) + length (text_units x) =
      ap length units ∙ length-append (flat_map text_units front) (text_units x) in
      let before = h.made in omega arith

  pub last-new : (front : List TextContent) (x : TextContent) (left : List TextContent) → are_new left ≡ true → left ≡ front ++ (x ∷ []) → x.by ≡ None
  last-new front x left h same = none-of x.by (both (is_none x.by) true (all-of front (x ∷ []) (sym (ap are_new same) ∙ h)).1).0

-- a single content is put in by a search for its place alone
pub record FewReads (all : List ElementContent) (left : List TextContent) (first now : TreeState TextContent) (old new : ℕ) : Type 0 where
  pub few : length all ≤ 256 → length left ≤ 1
  pub before : length all ≤ 256 → 1 ≤ length left → (now.depth ≡ first.depth) × (new ≡ old)
  pub after : length all ≤ 256 → new ≤ old + 9 * (first.depth + 1)

made-count : (ins : Stamp) (by : Option Stamp) (props : PropertyList) (us : List ElementContent) → length (new_elements ins by props us) ≡ length us
made-count ins by props [] = refl
made-count ins by props (u ∷ us) = ap suc (made-count ins by props us)

-- one insertion, as a tree tells it
-- with another word for the author
pub puts-by : (see past : TreeElement ElementContent → Bool) (p : ℕ) (ins : Stamp) (props : PropertyList) (us : List ElementContent)
    (old new : TreeState TextContent)
    {author by : Option Stamp} → author ≡ by → text_elements new ≡ put see past p (new_elements ins author props us) (text_elements old)
    → text_elements new ≡ put see past p (new_elements ins by props us) (text_elements old)
puts-by see past p ins props us old new e h = subst (λ b. text_elements new ≡ put see past p (new_elements ins b props us) (text_elements old)) e h

pub puts-made : (see past : TreeElement ElementContent → Bool) (p : ℕ) (ins : Stamp) (by : Option Stamp) (props : PropertyList) (us : List ElementContent)
    (old new : TreeState TextContent) → text_elements new ≡ put see past p (new_elements ins by props us) (text_elements old)
    → ChangesReferences (with_place (shifted_place (put_place see past p (text_elements old)) (length us))) old.refs new.refs → KeepsRest old new
    → new.made ≡ old.made + length us → PutsIn see past p (new_elements ins by props us) old new
puts-made see past p ins by props us old new elements refs rest made = record {
  elements = elements;
  refs = subst (λ n. ChangesReferences (with_place (shifted_place (put_place see past p (text_elements old)) n)) old.refs new.refs) (sym (made-count ins by props us)) refs;
  rest = rest;
  made = made ∙ ap (λ n. old.made + n) (sym (made-count ins by props us));
}

nothing-left : (xs : List TextContent) → length xs ≡ 0 → xs ≡ []
nothing-left [] h = refl
nothing-left (x ∷ xs) h = absurd (omega arith)

pub inserts-done : (see past : TreeElement ElementContent → Bool) (p : ℕ) (ins : Stamp) (by : Option Stamp) (props : PropertyList) (all : List ElementContent)
    (left : List TextContent) (first now : TreeState TextContent) → InsertsLeft see past p ins by props all left first now → length left ≡ 0
    → PutsIn see past p (new_elements ins by props all) first now
inserts-done see past p ins by props all left first now h none =
    inserts-end see past p ins by props all first now (subst (λ xs. InsertsLeft see past p ins by props all xs first now) (nothing-left left none) h)

-- how many are left
fewer-left : (front left : List TextContent) (x : TextContent) → left ≡ front ++ (x ∷ []) → length left ≡ length front + 1
fewer-left front left x h = ap length h ∙ length-append front (x ∷ [])

pub fewer : (front left : List TextContent) (x : TextContent) → left ≡ front ++ (x ∷ []) → length front < length left
fewer front left x h = let size = fewer-left front left x h in omega arith

-- few reads
pub reads-begin : (all : List ElementContent) (left : List TextContent) (first : TreeState TextContent) (old : ℕ) → (length all ≤ 256 → length left ≤ 1)
    → FewReads all left first first old old
reads-begin all left first old few = record { few = few; before = λ l g. (refl, refl); after = λ l. omega arith }

pub reads-next : (all : List ElementContent) (front left : List TextContent) (x : TextContent) (first now next : TreeState TextContent) (old steps new : ℕ)
    → FewReads all left first now old steps → left ≡ front ++ (x ∷ []) → new ≤ steps + 9 * (now.depth + 1) → FewReads all front first next old new
reads-next all front left x first now next old steps new h same bound =
    let size = fewer-left front left x same in
    record {
      few = λ l. (let f = h.few l in omega arith);
      before = λ l g. (let f = h.few l in absurd (omega arith));
      after = λ l. (let b = h.before l (omega arith) in after-bound old steps new now.depth first.depth b.0 b.1 bound);
    }
  where
    after-bound : (o s n d e : ℕ) → d ≡ e → s ≡ o → n ≤ s + 9 * (d + 1) → n ≤ o + 9 * (e + 1)
    after-bound o s n d e p q r = omega arith
