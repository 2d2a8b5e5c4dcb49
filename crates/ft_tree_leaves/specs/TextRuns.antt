-- Runs of characters.
use Rattle.std.specs.Prelude.{ℕ, ◌≤◌, List, length}

-- how many characters a run may have
abbrev pub longest_run : ℕ
longest_run = 256

-- there is a character, and no more than a run may have
abbrev pub IsTextRun : List ℕ → Type 0
IsTextRun text = (1 ≤ length text) × (length text ≤ longest_run)
