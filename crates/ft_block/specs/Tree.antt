-- What the blocks of a tree keep of each view. No public clause cites this module.
use Rattle.std.specs.Prelude.{◌≡◌, ◌≢◌, ℕ, ◌+◌, ◌-◌, ◌%◌, ◌^◌, ◌<◌, ◌≤◌, List, [], ◌∷◌, Option, Some, None, Bool, true, false, nat_le, if◌then◌else◌}
use Rattle.ft_base.specs.declared.elements.Element.{Element}
use Rattle.ft_base.specs.declared.stamps.Stamp.{Stamp}
use Rattle.ft_base.specs.declared.stamps.Stamp.TheVariants.{Acked, Local}
use Rattle.ft_base.specs.Visibility.{seen_at}
use Rattle.ft_arena.specs.declared.nodes.Node.{Node}
use Rattle.ft_arena.specs.declared.nodes.Node.TheVariants.{Leaf, Block}
use Rattle.ft_arena.specs.Forest.{Forest, block_value, parent_of}
use Rattle.ft_shape.specs.declared.headed.Headed.{Headed}
use Rattle.ft_shape.specs.Tree.{Measure, height_of, length_of, length_of_node, total, SumsBut, OwesAt, OwesAbove, IsGrowing}
use Rattle.ft_block.specs.declared.summaries.Summary.{Summary}
use Rattle.ft_block.specs.declared.summaries.Exchange.{Exchange}
use Rattle.ft_block.specs.declared.leaves.Insertion.{Insertion}
use Rattle.ft_block.specs.declared.leaves.LenView.{LenView}
use Rattle.ft_block.specs.declared.leaves.LenView.TheVariants.{At, Stage, All}
use Rattle.ft_partial.specs.Entries.{amount}
use Rattle.ft_partial.specs.Tables.{Lengths, length_at, AddsChange}
use Rattle.ft_block.specs.declared.leaves.View.{View}
use Rattle.ft_block.specs.declared.leaves.View.TheVariants.{Of, Removed}
use Rattle.ft_block.specs.Leaves.{sees_in, is_removed, IsFromFloor}

-- whether the view counts the element
abbrev pub shows : View → Element → Bool
shows (Of view) e = sees_in view e
shows Removed e = is_removed e

-- what a block keeps of a view: its tables' answers to a perspective, and to one of connection 1 for a stage, its size, and how many of its
-- elements have a sequenced removal first
abbrev pub kept_length : View → Summary → ℕ
kept_length (Of (At at)) v = length_at v.table at.r at.c
kept_length (Of (Stage k)) v = length_at v.stages k 1
kept_length (Of All) v = v.whole
kept_length Removed v = v.removed

-- the view is no perspective with a reference number below the floor
abbrev pub IsFrom : ℕ → View → Type 0
IsFrom floor (Of view) = IsFromFloor floor view
IsFrom floor Removed = Unit {0}

-- the blocks keep the lengths of this view: it counts all or what is removed, or is that of a stage, or of a perspective from the floor up
abbrev pub KeepsLengths : ℕ → View → Type 0
KeepsLengths floor (Of (At at)) = (floor ≤ at.r) × (at.r < 2 ^ 64) × (at.c < 2 ^ 32)
KeepsLengths floor (Of (Stage k)) = k < 2 ^ 64
KeepsLengths floor (Of All) = Unit {0}
KeepsLengths floor Removed = Unit {0}

-- the lengths that are kept as numbers are below 2 ^ 64
abbrev pub HasRange : Summary → Type 0
HasRange v = (v.whole < 2 ^ 64) × (v.removed < 2 ^ 64)

-- nothing is seen in any view
abbrev pub KeepsNothing : ℕ → Summary → Type 0
KeepsNothing floor v = (view : View) → KeepsLengths floor view → kept_length view v ≡ 0

-- each view sees m elements f more and n elements e less
abbrev pub KeepsExchange : ℕ → Summary → Summary → Element → ℕ → Element → ℕ → Type 0
KeepsExchange floor old new e n f m = (view : View) → KeepsLengths floor view
    → (kept_length view new + amount (shows view e) n) % 2 ^ 64 ≡ (kept_length view old + amount (shows view f) m) % 2 ^ 64

-- the exchange is added to what is kept
pub record AddsExchange (old : Summary) (exchange : Exchange) (new : Summary) : Type 0 where
  pub whole : new.whole ≡ (old.whole + exchange.whole) % 2 ^ 64
  pub removed : new.removed ≡ (old.removed + exchange.removed) % 2 ^ 64
  pub stages : AddsChange old.stages new.stages exchange.stages.entries exchange.stages.last
  pub table : AddsChange old.table new.table exchange.table.entries exchange.table.last

-- once the change is added to a block's table of stages, each stage sees m elements f more and n elements e less
abbrev pub ExchangesAtStages : Lengths → Element → ℕ → Element → ℕ → Type 0
ExchangesAtStages change e n f m = (old new : Lengths) → old.floor ≡ 0 → AddsChange old new change.entries change.last
    → (k : ℕ) → k < 2 ^ 64 → (length_at new k 1 + amount (seen_at e k) n) % 2 ^ 64 ≡ (length_at old k 1 + amount (seen_at f k) m) % 2 ^ 64

-- once it is added to what a block with this floor keeps, each view sees m elements f more and n elements e less
abbrev pub MakesExchange : ℕ → Exchange → Element → ℕ → Element → ℕ → Type 0
MakesExchange floor exchange e n f m = (old new : Summary) → old.table.floor ≡ floor → old.stages.floor ≡ 0 → AddsExchange old exchange new → KeepsExchange floor old new e n f m

-- the exchange changes nothing of what blocks keep
pub record MakesNothing (exchange : Exchange) : Type 0 where
  pub whole : exchange.whole ≡ 0
  pub removed : exchange.removed ≡ 0
  pub stages_last : exchange.stages.last ≡ 0
  pub stages_entries : exchange.stages.entries ≡ []
  pub table_last : exchange.table.last ≡ 0
  pub table_entries : exchange.table.entries ≡ []

-- every view that blocks with this floor keep sees the element, and it isn't removed
pub record IsForAll (floor : ℕ) (e : Element) : Type 0 where
  pub seen : (view : LenView) → KeepsLengths floor (Of view) → sees_in view e ≡ true
  pub present : is_removed e ≡ false

-- the sequenced insertion of an element with these stamps, where nobody removed it
abbrev pub insertion_by : Stamp → List Stamp → Option Insertion
insertion_by (Acked seq conn) [] = Some record { seq = seq; conn = conn }
insertion_by (Acked seq conn) (d ∷ ds) = None
insertion_by (Local stage) ds = None

abbrev pub insertion_of : Element → Option Insertion
insertion_of e = insertion_by e.ins e.dels

-- the insertion is sequenced up to the floor
abbrev pub is_early : ℕ → Option Insertion → Bool
is_early floor None = false
is_early floor (Some at) = nat_le at.seq floor

-- every view sees n elements more, and as many are removed
pub record KeepsForAll (old : Summary) (n : ℕ) (new : Summary) : Type 0 where
  pub seen : (view : LenView) → kept_length (Of view) new ≡ (kept_length (Of view) old + n) % 2 ^ 64
  pub removed : new.removed ≡ old.removed

-- each view sees what it sees of both
abbrev pub KeepsSum : ℕ → Summary → Summary → Summary → Type 0
KeepsSum floor old other new = (view : View) → KeepsLengths floor view → kept_length view new ≡ (kept_length view old + kept_length view other) % 2 ^ 64

module _ {L : Type 0} where
  -- how many of a leaf's elements the view counts
  abbrev pub shown_length : (L → ℕ) → (L → Element) → View → L → ℕ
  shown_length size element view leaf = if shows view (element leaf) then size leaf else 0

  -- by what a view counts of a leaf, and what a block keeps of that view
  abbrev pub by_view : (L → ℕ) → (L → Element) → View → Measure L Summary
  by_view size element view = record { leaf = shown_length size element view; block = λ v. kept_length view v.sum }

  -- by the size of a leaf
  abbrev pub by_size : (L → ℕ) → Measure L Summary
  by_size size = record { leaf = size; block = λ v. 0 }

  -- the node's table, if it is a block, has a floor up to this one
  abbrev pub IsNodeFrom : ℕ → Node L (Headed Summary) → Type 0
  IsNodeFrom floor (Leaf value) = Unit {0}
  IsNodeFrom floor (Block kids value) = value.sum.table.floor ≤ floor

  -- each block's table has a floor up to this one
  abbrev pub AreFromFloor : ℕ → Forest L (Headed Summary) → Type 0
  AreFromFloor floor s = (id : ℕ) (v : Headed Summary) → block_value s id ≡ Some v → v.sum.table.floor ≤ floor

  -- each view sees what it sees of the node more
  abbrev pub KeepsNode : (L → ℕ) → (L → Element) → ℕ → Summary → Node L (Headed Summary) → Summary → Type 0
  KeepsNode size element floor old node new = (view : View) → KeepsLengths floor view
      → kept_length view new ≡ (kept_length view old + length_of_node (by_view size element view) node) % 2 ^ 64

  -- the same in each view that the blocks keep
  abbrev pub SumsKeptBut : (L → ℕ) → (L → Element) → ℕ → Forest L (Headed Summary) → Option ℕ → Type 0
  SumsKeptBut size element floor s stale = (view : View) → KeepsLengths floor view → SumsBut (by_view size element view) s stale

  -- in each view that the blocks keep, two nodes together are below 2 ^ 64
  abbrev pub PairFits : (L → ℕ) → (L → Element) → ℕ → Forest L (Headed Summary) → ℕ → ℕ → Type 0
  PairFits size element floor s x y = (view : View) → KeepsLengths floor view → length_of (by_view size element view) s x + length_of (by_view size element view) s y < 2 ^ 64

  -- in each view that the blocks keep, the block owes m elements f more and n elements e less
  abbrev pub OwesExchange : (L → ℕ) → (L → Element) → ℕ → Forest L (Headed Summary) → Option ℕ → Element → ℕ → Element → ℕ → Type 0
  OwesExchange size element floor s stale e n f m = (view : View) → KeepsLengths floor view
      → OwesAt (by_view size element view) s stale (amount (shows view f) m) (amount (shows view e) n)

  -- in each view that the blocks keep, the block owes what the exchange makes: `more` elements `come` more and `less` elements `gone` less
  pub record OwesMade (size : L → ℕ) (element : L → Element) (floor : ℕ) (s : Forest L (Headed Summary)) (stale : Option ℕ) (exchange : Exchange) : Type 0 where
    pub gone : Element
    pub less : ℕ
    pub come : Element
    pub more : ℕ
    pub makes : MakesExchange floor exchange gone less come more
    pub owes : OwesExchange size element floor s stale gone less come more

  -- in each view that the blocks keep, the stale block owes what the parent of a node did, once its children are edited
  abbrev pub OwesAsAbove : (L → ℕ) → (L → Element) → ℕ → Forest L (Headed Summary) → ℕ → (List ℕ → List ℕ) → Forest L (Headed Summary) → Option ℕ → Type 0
  OwesAsAbove size element floor old at e new stale = (view : View) (more less : ℕ) → KeepsLengths floor view
      → OwesAbove (by_view size element view) old at e more less → OwesAt (by_view size element view) new stale more less

  -- a leaf that is not in the tree yet, to be put beside this one as the edit says, where there is room for the nodes that this takes, and
  -- the parent of this one then owes what the exchange makes: `more` elements `come`
  pub record IsToAdd (size : L → ℕ) (element : L → Element) (floor : ℕ) (s : Forest L (Headed Summary)) (root at new : ℕ) (e : List ℕ → List ℕ)
      (exchange : Exchange) : Type 0
    where
      pub growing : IsGrowing s root at new e
      pub sums : SumsKeptBut size element floor s (parent_of s at)
      pub floors : AreFromFloor floor s
      pub spare : height_of s root - height_of s at + 1 ≤ s.spare
      pub fits : total (length_of (by_size size) s) s.leaves < 2 ^ 64
      pub tall : height_of s root + 1 < 2 ^ 64
      pub apart : at ≢ root
      pub come : Element
      pub more : ℕ
      pub makes : MakesExchange floor exchange come 0 come more
      pub owes : (view : View) → KeepsLengths floor view
          → OwesAbove (by_view size element view) s at e (amount (shows view come) more) (amount (shows view come) 0)
