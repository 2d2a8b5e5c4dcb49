-- How the messages of a log follow one another.
use Rattle.std.specs.Prelude.{◌≡◌, ℕ, ◌+◌, ◌≤◌, true, List, [], ◌∷◌, ℤ, pos, negsuc, is_some, ⊤}
use Rattle.ft_msg.specs.declared.messages.Entry.{Entry}
use Rattle.ft_msg.specs.Process.{is_op_kind}
use Rattle.ft_msg.specs.WellFormed.{IsWellFormedKind}
use Rattle.ft_msg.specs.ClientSteps.{has_fitting_body}

-- the reference number is a count from m to n
abbrev pub RefersWithin : ℕ → ℕ → ℤ → Type 0
RefersWithin m n (pos r) = (m ≤ r) × (r ≤ n)
RefersWithin m n (negsuc r) = ⊥

-- the entry may stand behind number n and minimum m: it has the next number, a minimum from m up to its own number, if it is
-- of type op a reference number from m to n, a body just where it is of type op, a sender, and one of the four types
pub record StandsNext (n m : ℕ) (entry : Entry) : Type 0 where
  pub seq : entry.msg.seq ≡ n + 1
  pub later : m ≤ entry.msg.min
  pub below : entry.msg.min ≤ entry.msg.seq
  pub refers : is_op_kind entry.msg.kind ≡ true → RefersWithin m n entry.msg.ref_seq
  pub body : has_fitting_body entry ≡ true
  pub sender : is_some entry.msg.client_id ≡ true
  pub kind : IsWellFormedKind entry.msg.kind

-- each entry may stand behind the ones before it, the first behind number n and minimum m
abbrev pub IsOrder : ℕ → ℕ → List Entry → Type 0
IsOrder n m [] = ⊤
IsOrder n m (entry ∷ entries) = StandsNext n m entry × IsOrder (n + 1) entry.msg.min entries
