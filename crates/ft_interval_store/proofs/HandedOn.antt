-- What an operation makes of the references: those of its ends become acknowledged and slide, and those that no interval
-- keeps any more end.
use Rattle.std.proofs.Common.{◌≡◌, ℕ, ◌+◌, ◌≤◌, Bool, true, false, cond, ◌||◌, nat_eq, List, [], ◌∷◌, Option, Some, None, IsSome, option_and_then, option_map, refl, sym, ◌∙◌, ap, subst, arith}
use Rattle.std.specs.List.{list_any}
use Rattle.ft_base.specs.Scan.{len, one_more_if}
use Rattle.ft_tree_leaves.proofs.Runs.{len-append}
use Rattle.std.proofs.lemmas.Bool.Decides.{nat_tests}
use Rattle.ft_tree_leaves.specs.declared.references.Reference.{Reference}
use Rattle.ft_tree_leaves.specs.Elements.{TreeElement}
use Rattle.ft_tree_leaves.specs.References.{reference_at, slid_reference}
use Rattle.ft_op.specs.declared.operations.TextOp.{TextOp}
use Rattle.ft_interval_store.specs.declared.intervals.EndPair.{EndPair}
use Rattle.ft_interval_store.specs.declared.intervals.Interval.{Interval}
use Rattle.ft_interval_store.specs.Ends.{AreDistinctEnds, AreLiveEnds, References, both_ends, holds_end, is_reference, map_ends, place_of_end, places_of_ends, slid_end}
use Rattle.ft_interval_store.specs.Intervals.{after_operation}
use Rattle.ft_interval_store.specs.State.{AreKeptOnce, HandsOn, ends_of_intervals, ends_with, is_acknowledged, lost_ends, placed_intervals, unused_ends}
use Rattle.ft_interval_store.proofs.KeptEnds.{intervals-same, live-ends}
use Rattle.ft_interval_store.proofs.MappedEnds.{after-mapped}
use Rattle.ft_interval_store.proofs.Spares.{spared}

-- ---- how often, and whether

pub some-times : (r : ℕ) (es : List (Option ℕ)) → list_any (is_reference r) es ≡ true → 1 ≤ len (is_reference r) es
some-times r [] h = absurd cc
some-times r (e ∷ es) h = by (is_reference r e) h (some-times r es)
  where
    by : (b : Bool) → (b || list_any (is_reference r) es) ≡ true → (list_any (is_reference r) es ≡ true → 1 ≤ len (is_reference r) es)
        → 1 ≤ one_more_if b (len (is_reference r) es)
    by true h f = omega arith
    by false h f = f h

pub no-times : (r : ℕ) (es : List (Option ℕ)) → list_any (is_reference r) es ≡ false → len (is_reference r) es ≡ 0
no-times r [] h = refl
no-times r (e ∷ es) h = by (is_reference r e) h (no-times r es)
  where
    by : (b : Bool) → (b || list_any (is_reference r) es) ≡ false → (list_any (is_reference r) es ≡ false → len (is_reference r) es ≡ 0)
        → one_more_if b (len (is_reference r) es) ≡ 0
    by true h f = absurd cc
    by false h f = f h

pub none-there : (r : ℕ) (es : List (Option ℕ)) → len (is_reference r) es ≡ 0 → list_any (is_reference r) es ≡ false
none-there r es h = by (list_any (is_reference r) es) refl
  where
    by : (b : Bool) → list_any (is_reference r) es ≡ b → b ≡ false
    by true e = absurd (omega (arith, some-times r es e, h))
    by false e = refl

pub one-there : (r : ℕ) (es : List (Option ℕ)) → 1 ≤ len (is_reference r) es → list_any (is_reference r) es ≡ true
one-there r es h = by (list_any (is_reference r) es) refl
  where
    by : (b : Bool) → list_any (is_reference r) es ≡ b → b ≡ true
    by true e = refl
    by false e = absurd (omega (arith, no-times r es e, h))

pub held : (r : ℕ) (e : EndPair ℕ) → list_any (is_reference r) (both_ends e) ≡ holds_end r e
held r e = by (is_reference r e.start) (is_reference r e.end)
  where
    by : (a b : Bool) → (a || (b || false)) ≡ (a || b)
    by true b = refl
    by false true = refl
    by false false = refl

module _ {U : Type 0} (xs : List (TreeElement U)) where
  -- a reference as it is settled
  abbrev pub settled_reference : Reference → Reference
  settled_reference x = slid_reference xs (record x { acked = true })

  acked-settled : (o : Option Reference) → IsSome o → option_map (λ (x : Reference). x.acked) (option_map settled_reference o) ≡ Some true
  acked-settled None h = absurd cc
  acked-settled (Some x) h = refl

  some-settled : (o : Option Reference) → IsSome o → IsSome (option_map settled_reference o)
  some-settled None h = absurd cc
  some-settled (Some x) h = refl

  place-settled : (o : Option Reference)
      → option_and_then (λ (x : Reference). x.place) (option_map settled_reference o) ≡ slid_end xs (option_and_then (λ (x : Reference). x.place) o)
  place-settled None = refl
  place-settled (Some x) = refl

  module _ (op : TextOp) (ends : EndPair ℕ) (is : List (Interval ℕ)) (before : References) (kept : AreKeptOnce before ends is) where
    abbrev now : List (Interval ℕ)
    now = after_operation op ends is

    abbrev unused : EndPair ℕ
    unused = unused_ends op ends is

    abbrev lost : EndPair ℕ
    lost = lost_ends op is

    whole : (r : ℕ) → len (is_reference r) (ends_with ends is) ≡ len (is_reference r) (both_ends ends) + len (is_reference r) (ends_of_intervals is)
    whole r = len-append (is_reference r) (both_ends ends) (ends_of_intervals is)

    shares : (r : ℕ) → len (is_reference r) (ends_of_intervals now) + (len (is_reference r) (both_ends unused) + len (is_reference r) (both_ends lost))
        ≡ len (is_reference r) (both_ends ends) + len (is_reference r) (ends_of_intervals is)
    shares r = spared r op ends is

    kept-ends : (r : ℕ) → holds_end r ends ≡ true → IsSome (reference_at before r)
    kept-ends r h =
        let some = some-times r (both_ends ends) (held r ends ∙ h) in
        kept.live r (one-there r (ends_with ends is) (omega (arith, whole r, some)))

    pub live-before : AreLiveEnds before ends
    live-before = live-ends before ends kept-ends

    pub distinct-ends : AreDistinctEnds ends
    distinct-ends r = omega (arith, whole r, kept.once r)

    pub distinct-unused : AreDistinctEnds unused
    distinct-unused r = omega (arith, whole r, kept.once r, shares r)

    pub distinct-lost : AreDistinctEnds lost
    distinct-lost r = omega (arith, whole r, kept.once r, shares r)

    unused-known : (r : ℕ) → holds_end r unused ≡ true → IsSome (reference_at before r)
    unused-known r h =
        let some = some-times r (both_ends unused) (held r unused ∙ h) in
        kept.live r (one-there r (ends_with ends is) (omega (arith, whole r, some, shares r)))

    lost-known : (r : ℕ) → holds_end r lost ≡ true → IsSome (reference_at before r) × (holds_end r unused ≡ false)
    lost-known r h =
        let some = some-times r (both_ends lost) (held r lost ∙ h) in
        let none : len (is_reference r) (both_ends unused) ≡ 0 = omega (arith, whole r, some, kept.once r, shares r) in (
          kept.live r (one-there r (ends_with ends is) (omega (arith, whole r, some, shares r))),
          sym (held r unused) ∙ none-there r (both_ends unused) none,
        )

    settled-live : (r : ℕ) → IsSome (reference_at before r) → (b : Bool)
        → IsSome (cond b (option_map settled_reference (reference_at before r)) (reference_at before r))
    settled-live r s true = some-settled (reference_at before r) s
    settled-live r s false = s

    module _ (mid : References)
        (settles : (r : ℕ) → reference_at mid r ≡ cond (holds_end r ends) (option_map settled_reference (reference_at before r)) (reference_at before r)) where
      pub live-unused : AreLiveEnds mid unused
      live-unused = live-ends mid unused (λ r h. subst (λ o. IsSome o) (sym (settles r)) (settled-live r (unused-known r h) (holds_end r ends)))

      module _ (next : References) (drops : (r : ℕ) → reference_at next r ≡ cond (holds_end r unused) None (reference_at mid r)) where
        pub live-lost : AreLiveEnds next lost
        live-lost = live-ends next lost (λ r h. by r (lost-known r h))
          where
            by : (r : ℕ) → IsSome (reference_at before r) × (holds_end r unused ≡ false) → IsSome (reference_at next r)
            by r both =
                subst (λ o. IsSome o) (sym (drops r ∙ ap (λ b. cond b None (reference_at mid r)) both.1 ∙ settles r)) (settled-live r both.0 (holds_end r ends))

        module _ (after : References) (ends-lost : (r : ℕ) → reference_at after r ≡ cond (holds_end r lost) None (reference_at next r)) where
          -- what an interval keeps
          stays : (r : ℕ) → list_any (is_reference r) (ends_of_intervals now) ≡ true → reference_at after r ≡ reference_at mid r
          stays r h =
              let some = some-times r (ends_of_intervals now) h in
              let none : len (is_reference r) (both_ends unused) ≡ 0 = omega (arith, whole r, some, kept.once r, shares r) in
              let left : len (is_reference r) (both_ends lost) ≡ 0 = omega (arith, whole r, some, kept.once r, shares r) in
              ends-lost r ∙ ap (λ b. cond b None (reference_at next r)) (sym (held r lost) ∙ none-there r (both_ends lost) left)
              ∙ drops r ∙ ap (λ b. cond b None (reference_at mid r)) (sym (held r unused) ∙ none-there r (both_ends unused) none)

          known : (r : ℕ) → list_any (is_reference r) (ends_of_intervals now) ≡ true → IsSome (reference_at before r)
          known r h =
              let some = some-times r (ends_of_intervals now) h in
              kept.live r (one-there r (ends_with ends is) (omega (arith, whole r, some, shares r)))

          gone-by : (r : ℕ) (a b : Bool) → holds_end r unused ≡ a → holds_end r lost ≡ b
              → 1 ≤ len (is_reference r) (both_ends unused) + len (is_reference r) (both_ends lost)
              → reference_at after r ≡ None
          gone-by r a true e f l = ends-lost r ∙ ap (λ b. cond b None (reference_at next r)) f
          gone-by r true false e f l =
              ends-lost r ∙ ap (λ b. cond b None (reference_at next r)) f ∙ drops r ∙ ap (λ b. cond b None (reference_at mid r)) e
          gone-by r false false e f l =
              absurd (omega (arith, l, no-times r (both_ends unused) (held r unused ∙ e), no-times r (both_ends lost) (held r lost ∙ f)))

          pub hands-on : HandsOn ends is now before after
          hands-on = record {
            live = λ r h. subst (λ o. IsSome o) (sym (stays r h ∙ settles r)) (settled-live r (known r h) (holds_end r ends));
            marked = λ old r h. marks old r h (holds_end r ends) refl;
            gone = λ r h g. ended r h g;
            others = λ r h. untouched r h;
            once = λ r. omega (arith, whole r, shares r);
          }
            where
              marks : ((r : ℕ) → list_any (is_reference r) (ends_of_intervals is) ≡ true → is_acknowledged before r ≡ Some true)
                  → (r : ℕ) → list_any (is_reference r) (ends_of_intervals now) ≡ true → (b : Bool) → holds_end r ends ≡ b
                  → is_acknowledged after r ≡ Some true
              marks old r h true e =
                  ap (option_map (λ (x : Reference). x.acked))
                  (stays r h ∙ settles r ∙ ap (λ b. cond b (option_map settled_reference (reference_at before r)) (reference_at before r)) e)
                  ∙ acked-settled (reference_at before r) (known r h)
              marks old r h false e =
                  let some = some-times r (ends_of_intervals now) h in
                  let none = no-times r (both_ends ends) (held r ends ∙ e) in
                  let was = one-there r (ends_of_intervals is) (omega (arith, some, none, shares r)) in
                  ap (option_map (λ (x : Reference). x.acked))
                  (stays r h ∙ settles r ∙ ap (λ b. cond b (option_map settled_reference (reference_at before r)) (reference_at before r)) e)
                  ∙ old r was

              ended : (r : ℕ) → list_any (is_reference r) (ends_with ends is) ≡ true → list_any (is_reference r) (ends_of_intervals now) ≡ false
                  → reference_at after r ≡ None
              ended r h g =
                  let some = some-times r (ends_with ends is) h in
                  let none = no-times r (ends_of_intervals now) g in
                  gone-by r (holds_end r unused) (holds_end r lost) refl refl (omega (arith, whole r, some, none, shares r))

              untouched : (r : ℕ) → list_any (is_reference r) (ends_with ends is) ≡ false → reference_at after r ≡ reference_at before r
              untouched r h =
                  let none = no-times r (ends_with ends is) h in
                  let a : len (is_reference r) (both_ends lost) ≡ 0 = omega (arith, whole r, none, shares r) in
                  let b : len (is_reference r) (both_ends unused) ≡ 0 = omega (arith, whole r, none, shares r) in
                  let c : len (is_reference r) (both_ends ends) ≡ 0 = omega (arith, whole r, none) in
                  ends-lost r ∙ ap (λ t. cond t None (reference_at next r)) (sym (held r lost) ∙ none-there r (both_ends lost) a)
                  ∙ drops r ∙ ap (λ t. cond t None (reference_at mid r)) (sym (held r unused) ∙ none-there r (both_ends unused) b)
                  ∙ settles r
                  ∙ ap (λ t. cond t (option_map settled_reference (reference_at before r)) (reference_at before r))
                  (sym (held r ends) ∙ none-there r (both_ends ends) c)

          -- ---- places

          old-stays : (r : ℕ) → list_any (is_reference r) (ends_of_intervals is) ≡ true → reference_at mid r ≡ reference_at before r
          old-stays r h =
              let some = some-times r (ends_of_intervals is) h in
              let none : len (is_reference r) (both_ends ends) ≡ 0 = omega (arith, whole r, some, kept.once r) in
              settles r ∙ ap (λ b. cond b (option_map settled_reference (reference_at before r)) (reference_at before r))
              (sym (held r ends) ∙ none-there r (both_ends ends) none)

          end-settled : (e : Option ℕ) → ((r : ℕ) → is_reference r e ≡ true → holds_end r ends ≡ true)
              → place_of_end mid e ≡ slid_end xs (place_of_end before e)
          end-settled None h = refl
          end-settled (Some r) h =
              ap (option_and_then (λ (x : Reference). x.place))
              (settles r ∙ ap (λ b. cond b (option_map settled_reference (reference_at before r)) (reference_at before r)) (h r (same r)))
              ∙ place-settled (reference_at before r)
            where
              same : (x : ℕ) → nat_eq x x ≡ true
              same x = grind (arith, nat_tests)

          ends-settled : places_of_ends mid ends ≡ map_ends (slid_end xs) (places_of_ends before ends)
          ends-settled =
              let first = end-settled ends.start (λ r h. left (is_reference r ends.start) (is_reference r ends.end) h) in
              let second = end-settled ends.end (λ r h. right (is_reference r ends.start) (is_reference r ends.end) h) in
              λ j. record { start = first j; end = second j }
            where
              left : (a b : Bool) → a ≡ true → (a || b) ≡ true
              left true b h = refl
              left false b h = absurd cc

              right : (a b : Bool) → b ≡ true → (a || b) ≡ true
              right true b h = refl
              right false b h = h

          pub places-after : placed_intervals after now ≡ after_operation op (map_ends (slid_end xs) (places_of_ends before ends)) (placed_intervals before is)
          places-after =
              intervals-same mid after now stays
              ∙ after-mapped (places_of_ends mid) op ends is
              ∙ ap (λ e. after_operation op e (placed_intervals mid is)) ends-settled
              ∙ ap (λ ys. after_operation op (map_ends (slid_end xs) (places_of_ends before ends)) ys) (intervals-same before mid is old-stays)
