use Rattle.std.proofs.Common.{◌≡◌, ◌≤◌, min, drop}
use Rattle.std.specs.List.{list_all}
use Rattle.std.specs.Char.{is_ascii_digit}
use Rattle.std.specs.Str.Parse.{digits_value_after}
use Rattle.up_heads.proofs.framing.number_of.Given as goal

-- the number so far, with the digits that are left, is the number of all as far as the limit
abbrev pub invariant-loop-byte : goal.invariant-loop-byte
invariant-loop-byte l = record {
  small : l.number ≤ 262145;
  same : min (digits_value_after 10 l.number (drop l.byte-index l.value)) 262145 ≡ min (digits_value_after 10 0 l.value) 262145;
  digits : list_all is_ascii_digit (drop l.byte-index l.value) ≡ list_all is_ascii_digit l.value;
}
