use Rattle.std.proofs.Common.{◌≡◌, ◌-◌, ◌≤◌, ◌++◌, string_bytes}
use Rattle.ft_gen.specs.Edits.{letters}
use Rattle.ft_gen.proofs.texts.letters.Given as goal

-- the letters so far and those that are left are all
abbrev pub invariant-loop-i : goal.invariant-loop-i
invariant-loop-i l = record {
  within : l._i ≤ l.count;
  told : string_bytes l.text ++ letters (l.count - l._i) l.state ≡ letters l.count l.fn.state;
}
