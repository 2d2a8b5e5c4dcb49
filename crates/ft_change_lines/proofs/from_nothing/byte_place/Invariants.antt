use Rattle.std.proofs.Common.{◌≡◌, chars, drop, encode_utf8_all}
use Rattle.std.specs.Str.Iter.{chars_rest}
use Rattle.ft_change_lines.proofs.from_nothing.byte_place.Given as goal

-- the iterator has what is left behind the characters that were passed
abbrev pub invariant-loop : goal.invariant-loop
invariant-loop l = encode_utf8_all (drop l.counter (chars l.text)) ≡ chars_rest l.rest
