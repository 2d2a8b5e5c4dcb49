-- A message of another client in two documents that differ in names alone.
use Rattle.std.proofs.Common.{◌≡◌, ℕ, ◌+◌, ◌≤◌, Bool, true, false, cond, not, ◌&&◌, nat_le, List, [], ◌∷◌, ◌++◌, Option, Some, None, refl, sym, ◌∙◌, ap, subst, arith, replicate, pos, negsuc, ℤ}
use Rattle.std.specs.List.{list_all, list_any}
use Rattle.ft_base.specs.declared.stamps.Stamp.{Stamp}
use Rattle.ft_base.specs.declared.stamps.Stamp.TheVariants.{Acked, Local}
use Rattle.ft_base.specs.Scan.{change_range, len}
use Rattle.ft_base.specs.Visibility.{has_occurred, is_acked}
use Rattle.ft_op.specs.declared.operations.Ends.{Ends}
use Rattle.ft_op.specs.declared.operations.BaseOp.{BaseOp}
use Rattle.ft_op.specs.declared.operations.BaseOp.TheVariants.{Insert, Remove, Annotate}
use Rattle.ft_op.specs.declared.operations.CellOp.{CellOp}
use Rattle.ft_op.specs.declared.operations.CellOp.TheVariants.{SpliceIn, SpliceOut, Set}
use Rattle.ft_op.specs.declared.operations.Target.TheVariants.{Rows, Cols}
use Rattle.ft_op.specs.declared.operations.TextOp.{TextOp}
use Rattle.ft_props.specs.declared.properties.Changes.{Changes}
use Rattle.ft_msg.specs.declared.messages.Body.{Body}
use Rattle.ft_msg.specs.declared.messages.Body.TheVariants.{Nothing, Op, Elsewhere}
use Rattle.ft_msg.specs.declared.messages.Entry.{Entry}
use Rattle.ft_props.specs.Properties.{PropertyList, ValueBytes, apply}
use Rattle.ft_props.specs.Element.{ElementContent, GridUnit, ListElement, id, id_of_stamp, is_pending, seen_by, stamps_of, with_annotation, with_removal}
use Rattle.ft_props.specs.Steps.{Sequence, after_insertion, after_removal}
use Rattle.ft_op.specs.Operation.{OnGrid, OnIntervals, OnText, SubOperation, segment_contents, sub_operations}
use Rattle.ft_op.specs.Intervals.{after_interval_operation, element_at_end}
use Rattle.ft_op.specs.Document.{Document, cell_effect, effect, effects, elements_at_given_ends, ends_of, given_ends_fit, grid_effect, interval_effect, text_effect, with_skip}
use Rattle.ft_msg.specs.Agreed.{body_effect, reference_number, take_entry, with_numbers}
use Rattle.ft_laws_names.specs.WellNamed.{IsSequencedName}
use Rattle.ft_laws_names.proofs.Beside.{Both, both-at, each}
use Rattle.ft_laws_names.proofs.DocumentsAlike.{DocsAlike, DocsStep, cells-written, cols-step, names-twice, parts-intervals, places, rows-step, same-docs, slid-again, slid-docs, text-step, with-numbers}
use Rattle.ft_laws_names.proofs.IntervalsAlike.{NamesAlike, SettledAlike, intervals-more, operation-alike, settled-ends}
use Rattle.ft_laws_names.proofs.ListSteps.{KeepsTwins, ListStep, ListsAlike, insertion-step, range-step, step-twins}
use Rattle.ft_laws_names.proofs.NumberedLists.{inserted-numbered, ranged-numbered}
use Rattle.ft_laws_names.proofs.Twins.{AreTwins, BesideList, EndsAlike, EndsBeside, IsTwin, detached, element-alike, ends-beside, len-alike, twin-pending, twin-seen_by}

-- ---- lists

pub all-behind : (ds es : List Stamp) → list_all is_acked es ≡ true → list_all is_acked (ds ++ es) ≡ list_all is_acked ds
all-behind [] es g = g
all-behind (d ∷ ds) es g = ap (λ b. is_acked d && b) (all-behind ds es g)

removal-keeps : (s c : ℕ) → KeepsTwins (with_removal s c)
removal-keeps s c = record {
  names = record { ins = λ e. refl; nth = λ e. refl; removals = λ e. ap not (all-behind e.dels (Acked s c ∷ []) refl) };
  twins = λ x y t. subst (λ z. IsTwin (with_removal s c x) (with_removal s c z)) (sym t) refl;
}

annotation-keeps : (changes : Changes) → KeepsTwins (with_annotation changes)
annotation-keeps changes = record {
  names = record { ins = λ e. refl; nth = λ e. refl; removals = λ e. refl };
  twins = λ x y t. subst (λ z. IsTwin (with_annotation changes x) (with_annotation changes z)) (sym t) refl;
}

-- lists after a change of a range
pub ranged-lists : (last p q : ℕ) (test : ListElement → Bool) → ((x y : ListElement) → IsTwin x y → test x ≡ test y) → (f : ListElement → ListElement)
    → KeepsTwins f → (l m : Sequence) → ListsAlike last l m
    → ListsAlike last (record l { items = change_range test p q f l.items }) (record m { items = change_range test p q f m.items })
ranged-lists last p q test sees f k l m h = record {
  left = ranged-numbered last 0 p q l.made test f k.names l.items h.left;
  right = ranged-numbered last 0 p q m.made test f k.names m.items h.right;
  twins = step-twins last l m _ _ (range-step test sees last 0 p q f k l m) h.twins;
}

module _ (last s c r : ℕ) where
  inserted-lists : (p : ℕ) (by : Option Stamp) (props : PropertyList) (bs : List ElementContent) (l m : Sequence) → ListsAlike last l m
      → ListsAlike last (after_insertion s c r p by props bs l) (after_insertion s c r p by props bs m)
  inserted-lists p by props bs l m h = record {
    left = inserted-numbered last s c p (seen_by r c) is_pending by props bs l h.left;
    right = inserted-numbered last s c p (seen_by r c) is_pending by props bs m h.right;
    twins = step-twins last l m _ _ (insertion-step (seen_by r c) is_pending (λ x y t. twin-seen_by r c x y t) (λ x y t. twin-pending x y t) last p l m s c by props bs) h.twins;
  }

  insertion : (p : ℕ) (by : Option Stamp) (props : PropertyList) (bs : List ElementContent) (l m : Sequence)
      → ListStep last l m (after_insertion s c r p by props bs l) (after_insertion s c r p by props bs m)
  insertion p by props bs l m = insertion-step (seen_by r c) is_pending (λ x y t. twin-seen_by r c x y t) (λ x y t. twin-pending x y t) last p l m s c by props bs

  removal : (p q : ℕ) (l m : Sequence) → ListStep last l m (after_removal s c r p q l) (after_removal s c r p q m)
  removal p q l m = range-step (seen_by r c) (λ x y t. twin-seen_by r c x y t) last 0 p q (with_removal s c) (removal-keeps s c) l m

  removed-lists : (p q : ℕ) (l m : Sequence) → ListsAlike last l m → ListsAlike last (after_removal s c r p q l) (after_removal s c r p q m)
  removed-lists p q l m h = ranged-lists last p q (seen_by r c) (λ x y t. twin-seen_by r c x y t) (with_removal s c) (removal-keeps s c) l m h

-- ---- a choice by the same test

pub step-choice : (last more : ℕ) (p q : Document) (b c : Bool) → b ≡ c → (a1 b1 a2 b2 : Document) → DocsStep last more p q a1 b1
    → DocsStep last more p q a2 b2 → DocsStep last more p q (cond b a1 a2) (cond c b1 b2)
step-choice last more p q true true e a1 b1 a2 b2 f g = f
step-choice last more p q false false e a1 b1 a2 b2 f g = g
step-choice last more p q true false e a1 b1 a2 b2 f g = (cc)
step-choice last more p q false true e a1 b1 a2 b2 f g = (cc)

pub self-le : (n : ℕ) → n ≤ n
self-le n = omega arith

pub grown : (n m : ℕ) → n ≤ n + m
grown n m = omega arith

abbrev pub renumbered : Document → ℕ → ℕ → ℕ → ℕ → Document
renumbered p skipped other number minimum = record p { skipped = skipped; other = other; number = number; minimum = minimum }

-- numbers that are equal may be written anew
pub numbers-alike : (last : ℕ) (p q : Document) (skipped other number minimum skipped' other' number' minimum' : ℕ) → skipped ≡ skipped' → other ≡ other'
    → number ≡ number' → minimum ≡ minimum' → DocsAlike last p q
    → DocsAlike last (renumbered p skipped other number minimum) (renumbered q skipped' other' number' minimum')
numbers-alike last p q skipped other number minimum skipped' other' number' minimum' a b c d h =
    subst (λ n. DocsAlike last (renumbered p skipped other number minimum) (renumbered q n other' number' minimum')) a
    (subst (λ n. DocsAlike last (renumbered p skipped other number minimum) (renumbered q skipped n number' minimum')) b
    (subst (λ n. DocsAlike last (renumbered p skipped other number minimum) (renumbered q skipped other n minimum')) c
    (subst (λ n. DocsAlike last (renumbered p skipped other number minimum) (renumbered q skipped other number n)) d
    (with-numbers last p q skipped other number minimum h))))

-- the ends that an operation gives name elements at the same places
pub given-names : {xs ys : List ListElement} → BesideList (AreTwins xs ys) xs ys → (test : ListElement → Bool)
    → ((x y : ListElement) → IsTwin x y → test x ≡ test y) → (given : Option Ends)
    → NamesAlike (EndsAlike xs ys) (elements_at_given_ends test xs given) (elements_at_given_ends test ys given)
given-names h test sees None = record { first = detached; second = detached }
given-names {xs} {ys} h test sees (Some given) = record { first = end given.start; second = end given.end }
  where
    end : (z : ℤ) → EndsAlike xs ys (element_at_end test xs z) (element_at_end test ys z)
    end (pos i) = element-alike h test sees i
    end (negsuc i) = detached

module _ (last s c r : ℕ) where
  skipped : (p q : Document) → DocsAlike last p q → DocsStep last last p q (with_skip p) (with_skip q)
  skipped p q h = record {
    alike = numbers-alike last p q (p.skipped + 1) p.other p.number p.minimum (q.skipped + 1) q.other q.number q.minimum (ap (λ n. n + 1) h.parts.skipped)
        h.parts.other h.parts.number h.parts.minimum h;
    names = record { text = λ a b t. t; rows = λ a b t. t; cols = λ a b t. t };
  }

  length-alike : (l m : Sequence) → ListsAlike last l m → len (seen_by r c) l.items ≡ len (seen_by r c) m.items
  length-alike l m h = len-alike (seen_by r c) (λ x y t. twin-seen_by r c x y t) h.twins

  text_effect-alike : (p q : Document) → DocsAlike last p q → (op : BaseOp) → DocsStep last last p q (text_effect p s c r op) (text_effect q s c r op)
  text_effect-alike p q h (Insert i seg props) =
      step-choice last last p q _ _ (ap (nat_le i) (length-alike p.text q.text h.parts.text)) _ _ _ _
      (text-step last last (self-le last) p q h _ _ (inserted-lists last s c r i (Some (Acked s c)) (apply [] props) (segment_contents seg) p.text q.text
      h.parts.text) (insertion last s c r i (Some (Acked s c)) (apply [] props) (segment_contents seg) p.text q.text))
      (skipped p q h)
  text_effect-alike p q h (Remove i j) =
      step-choice last last p q _ _ (ap (nat_le j) (length-alike p.text q.text h.parts.text)) _ _ _ _
      (let taken = text-step last last (self-le last) p q h _ _ (removed-lists last s c r i j p.text q.text h.parts.text) (removal last s c r i j p.text q.text) in
      record { alike = slid-again last _ _ taken.alike; names = record { text = λ a b t. taken.names.text a b t; rows = λ a b t. t; cols = λ a b t. t } })
      (skipped p q h)
  text_effect-alike p q h (Annotate i j changes) =
      step-choice last last p q _ _ (ap (nat_le j) (length-alike p.text q.text h.parts.text)) _ _ _ _
      (text-step last last (self-le last) p q h _ _ (ranged-lists last i j (seen_by r c) (λ x y t. twin-seen_by r c x y t) (with_annotation changes)
      (annotation-keeps changes) p.text q.text h.parts.text)
      (range-step (seen_by r c) (λ x y t. twin-seen_by r c x y t) last 0 i j (with_annotation changes) (annotation-keeps changes) p.text q.text))
      (skipped p q h)

  interval_effect-alike : (p q : Document) → DocsAlike last p q → (op : TextOp) → DocsStep last last p q (interval_effect p c r op) (interval_effect q c r op)
  interval_effect-alike p q h op =
      let a = elements_at_given_ends (seen_by r c) p.text.items (ends_of op) in
      let b = elements_at_given_ends (seen_by r c) q.text.items (ends_of op) in
      let names = given-names (places last p.text q.text h.parts.text) (seen_by r c) (λ x y t. twin-seen_by r c x y t) (ends_of op) in
      let standing = intervals-more (SettledAlike p.text.items q.text.items) (EndsAlike p.text.items q.text.items) (λ i j e. settled-ends e) h.intervals in
      let after = operation-alike (EndsAlike p.text.items q.text.items) op a b names standing in
      step-choice last last p q _ _ (ap (λ n. given_ends_fit n (ends_of op)) (length-alike p.text q.text h.parts.text)) _ _ _ _
      (record {
        alike = slid-docs last (record p { intervals = after_interval_operation op a p.intervals }) (record q { intervals = after_interval_operation op b q.intervals })
            (parts-intervals last p q h.parts _ _) (intervals-more (EndsAlike p.text.items q.text.items) (EndsBeside p.text.items q.text.items) (λ i j e. ends-beside e) after);
        names = record { text = λ i j t. t; rows = λ i j t. t; cols = λ i j t. t };
      })
      (skipped p q h)

  -- what a message sees is sequenced
  seen-name : (x : ListElement) → seen_by r c x ≡ true → IsSequencedName (id x)
  seen-name x h = stamped x.ins h
    where
      stamped : (t : Stamp) → has_occurred r c t && not (list_any (has_occurred r c) (stamps_of x).dels) ≡ true → IsSequencedName (id_of_stamp t x.nth)
      stamped (Acked s d) g = tt
      stamped (Local k) g = (cc)

  cell_effect-alike : (p q : Document) → DocsAlike last p q → (value : ValueBytes) (o1 o2 o3 o4 : Option ListElement)
      → Both ListElement ListElement (λ x y. AreTwins p.rows.items q.rows.items x y × (seen_by r c x ≡ true)) o1 o2
      → Both ListElement ListElement (λ x y. AreTwins p.cols.items q.cols.items x y × (seen_by r c x ≡ true)) o3 o4
      → DocsStep last last p q (cell_effect p o1 o3 value) (cell_effect q o2 o4 value)
  cell_effect-alike p q h value None None o3 o4 rows cols = skipped p q h
  cell_effect-alike p q h value (Some x) (Some y) None None rows cols = skipped p q h
  cell_effect-alike p q h value (Some x) (Some y) (Some u) (Some v) (each t) (each w) = record {
    alike = cells-written last p q h value (id x) (id y) (id u) (id v) t.0.stand w.0.stand
        (seen-name x t.1) (seen-name y (sym (twin-seen_by r c x y t.0.twin) ∙ t.1)) (seen-name u w.1) (seen-name v (sym (twin-seen_by r c u v w.0.twin) ∙ w.1));
    names = record { text = λ i j t. t; rows = λ i j t. t; cols = λ i j t. t };
  }
  cell_effect-alike p q h value None (Some y) o3 o4 rows cols = elim rows [ ]
  cell_effect-alike p q h value (Some x) None o3 o4 rows cols = elim rows [ ]
  cell_effect-alike p q h value (Some x) (Some y) None (Some v) rows cols = elim cols [ ]
  cell_effect-alike p q h value (Some x) (Some y) (Some u) None rows cols = elim cols [ ]

  grid_effect-alike : (p q : Document) → DocsAlike last p q → (op : CellOp) → DocsStep last last p q (grid_effect p s c r op) (grid_effect q s c r op)
  grid_effect-alike p q h (SpliceIn Rows i count) =
      step-choice last last p q _ _ (ap (nat_le i) (length-alike p.rows q.rows h.parts.rows)) _ _ _ _
      (rows-step last last (self-le last) p q h _ _ (inserted-lists last s c r i None [] (replicate count GridUnit) p.rows q.rows h.parts.rows) (grown _ _)
      (grown _ _) (insertion last s c r i None [] (replicate count GridUnit) p.rows q.rows))
      (skipped p q h)
  grid_effect-alike p q h (SpliceIn Cols i count) =
      step-choice last last p q _ _ (ap (nat_le i) (length-alike p.cols q.cols h.parts.cols)) _ _ _ _
      (cols-step last last (self-le last) p q h _ _ (inserted-lists last s c r i None [] (replicate count GridUnit) p.cols q.cols h.parts.cols) (grown _ _)
      (grown _ _) (insertion last s c r i None [] (replicate count GridUnit) p.cols q.cols))
      (skipped p q h)
  grid_effect-alike p q h (SpliceOut Rows i j) =
      step-choice last last p q _ _ (ap (nat_le j) (length-alike p.rows q.rows h.parts.rows)) _ _ _ _
      (rows-step last last (self-le last) p q h _ _ (removed-lists last s c r i j p.rows q.rows h.parts.rows) (self-le _) (self-le _) (removal last s c r i j p.rows q.rows))
      (skipped p q h)
  grid_effect-alike p q h (SpliceOut Cols i j) =
      step-choice last last p q _ _ (ap (nat_le j) (length-alike p.cols q.cols h.parts.cols)) _ _ _ _
      (cols-step last last (self-le last) p q h _ _ (removed-lists last s c r i j p.cols q.cols h.parts.cols) (self-le _) (self-le _) (removal last s c r i j p.cols q.cols))
      (skipped p q h)
  grid_effect-alike p q h (Set i j value) =
      cell_effect-alike p q h value _ _ _ _
      (both-at (seen_by r c) (seen_by r c) (λ x y t. twin-seen_by r c x y t.twin) i (places last p.rows q.rows h.parts.rows))
      (both-at (seen_by r c) (seen_by r c) (λ x y t. twin-seen_by r c x y t.twin) j (places last p.cols q.cols h.parts.cols))

  effect-alike : (p q : Document) → DocsAlike last p q → (o : SubOperation) → DocsStep last last p q (effect p s c r o) (effect q s c r o)
  effect-alike p q h (OnText op) = text_effect-alike p q h op
  effect-alike p q h (OnIntervals op) = interval_effect-alike p q h op
  effect-alike p q h (OnGrid op) = grid_effect-alike p q h op

  pub effects-alike : (os : List SubOperation) (p q : Document) → DocsAlike last p q → DocsStep last last p q (effects p s c r os) (effects q s c r os)
  effects-alike [] p q h = same-docs last last p q (self-le last) h
  effects-alike (o ∷ os) p q h =
      let one = effect-alike p q h o in
      let rest = effects-alike os (effect p s c r o) (effect q s c r o) one.alike in
      record { alike = rest.alike; names = names-twice p q _ _ _ _ one.names rest.names }

-- ---- a message

pub numbers-taken : (last : ℕ) (entry : Entry) (p q : Document) → DocsAlike last p q → DocsAlike last (with_numbers entry p) (with_numbers entry q)
numbers-taken last entry p q h = numbers-alike last p q p.skipped p.other entry.msg.seq entry.msg.min q.skipped q.other entry.msg.seq entry.msg.min
    h.parts.skipped h.parts.other refl refl h

body-alike : (last s c r : ℕ) (p q : Document) → DocsAlike last p q → (body : Body) → DocsStep last last p q (body_effect p s c r body) (body_effect q s c r body)
body-alike last s c r p q h Nothing = same-docs last last p q (self-le last) h
body-alike last s c r p q h (Op op) = effects-alike last s c r (sub_operations op) p q h
body-alike last s c r p q h (Elsewhere address) = record {
  alike = numbers-alike last p q p.skipped (p.other + 1) p.number p.minimum q.skipped (q.other + 1) q.number q.minimum h.parts.skipped
      (ap (λ n. n + 1) h.parts.other) h.parts.number h.parts.minimum h;
  names = record { text = λ a b t. t; rows = λ a b t. t; cols = λ a b t. t };
}

-- a message of another client
pub entry-alike : (last : ℕ) (entry : Entry) (p q : Document) → DocsAlike last p q → DocsStep last last p q (take_entry p entry) (take_entry q entry)
entry-alike last entry p q h =
    let body = body-alike last entry.msg.seq entry.origin (reference_number entry.msg.ref_seq) p q h entry.msg.body in
    record {
      alike = numbers-taken last entry _ _ body.alike;
      names = record
          { text = λ a b t. body.names.text a b t; rows = λ a b t. body.names.rows a b t; cols = λ a b t. body.names.cols a b t };
    }
