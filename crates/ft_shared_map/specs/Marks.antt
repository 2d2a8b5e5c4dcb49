-- Pending operations by their numbers: of each key the last one that names it, of those behind the last clear, and the last clear.
use Rattle.std.specs.Prelude.{◌≡◌, ℕ, suc, cond, nat_eq, List, [], ◌∷◌, Option, Some, None, option_map}
use Rattle.std.specs.declared.cmp.Ordering.{Ordering}
use Rattle.std.specs.declared.cmp.Ordering.TheVariants.{Less, Equal, Greater}
use Rattle.ft_props.specs.Keys.{KeysRise, key_cmp, put_rising, remove_rising, text_cmp, value_of}
use Rattle.ft_shared_map.specs.declared.ops.MapOp.{MapOp}
use Rattle.ft_shared_map.specs.declared.ops.MapOp.TheVariants.{Set, Delete, Clear}
use Rattle.ft_shared_map.specs.Maps.{Characters, ValueBytes}

-- the first where things that are so ordered are the same, else the second
abbrev pub when_same : {A : Type 0} → Ordering → A → A → A
when_same Less here other = other
when_same Equal here other = here
when_same Greater here other = other

-- the first where the keys are the same, else the second
abbrev pub at_key : {A : Type 0} → Characters → Characters → A → A → A
at_key key k here other = when_same (text_cmp key k) here other

-- the number of the last operation that names a key, and what that one sets
abbrev pub KeyMark : Type 0
KeyMark = Option (ℕ × Option ValueBytes)

-- the mark of the key after the operation with this number
abbrev pub mark_after : Characters → ℕ → KeyMark → MapOp → KeyMark
mark_after key n mark (Set k value) = at_key key k (Some (n, Some value)) mark
mark_after key n mark (Delete k) = at_key key k (Some (n, None)) mark
mark_after key n mark Clear = None

-- the mark of the key after operations, numbered from n on
abbrev pub mark_of : Characters → ℕ → KeyMark → List MapOp → KeyMark
mark_of key n mark [] = mark
mark_of key n mark (op ∷ ops) = mark_of key (suc n) (mark_after key n mark op) ops

-- the last clear after the operation with this number
abbrev pub clear_after : ℕ → Option ℕ → MapOp → Option ℕ
clear_after n cleared Clear = Some n
clear_after n cleared _ = cleared

-- the last clear after operations, numbered from n on
abbrev pub clear_of : ℕ → Option ℕ → List MapOp → Option ℕ
clear_of n cleared [] = cleared
clear_of n cleared (op ∷ ops) = clear_of (suc n) (clear_after n cleared op) ops

-- the number of a mark
abbrev pub number_of : KeyMark → Option ℕ
number_of mark = option_map (λ m. m.0) mark

-- the number, but none where it is this one
abbrev pub unless_at : ℕ → Option ℕ → Option ℕ
unless_at n None = None
unless_at n (Some i) = cond (nat_eq n i) None (Some i)

-- numbers as they are kept: by rising keys, and that of the last clear
pub record KeptMarks : Type 0 where
  pub last_of : List (Characters × ℕ)
  pub cleared : Option ℕ

-- before the first operation
abbrev pub no_marks : KeptMarks
no_marks = record { last_of = []; cleared = None }

-- after the operation with this number
abbrev pub noted : ℕ → MapOp → KeptMarks → KeptMarks
noted n (Set key value) marks = record marks { last_of = put_rising key_cmp (key, n) marks.last_of }
noted n (Delete key) marks = record marks { last_of = put_rising key_cmp (key, n) marks.last_of }
noted n Clear marks = record { last_of = []; cleared = Some n }

-- the marks without that of the key, if it is this number
abbrev pub without : ℕ → Characters → Option ℕ → List (Characters × ℕ) → List (Characters × ℕ)
without n key None last_of = last_of
without n key (Some i) last_of = cond (nat_eq n i) (remove_rising key_cmp (key, n) last_of) last_of

-- without the operation with this number, the oldest one
abbrev pub forgotten : ℕ → MapOp → KeptMarks → KeptMarks
forgotten n (Set key value) marks = record marks { last_of = without n key (value_of key marks.last_of) marks.last_of }
forgotten n (Delete key) marks = record marks { last_of = without n key (value_of key marks.last_of) marks.last_of }
forgotten n Clear marks = record marks { cleared = unless_at n marks.cleared }

-- they are those of these operations, numbered from n on
pub record AreMarksOf (n : ℕ) (ops : List MapOp) (marks : KeptMarks) : Type 0 where
  pub keys : (key : Characters) → value_of key marks.last_of ≡ number_of (mark_of key n None ops)
  pub clear : marks.cleared ≡ clear_of n None ops
  pub rising : KeysRise marks.last_of
