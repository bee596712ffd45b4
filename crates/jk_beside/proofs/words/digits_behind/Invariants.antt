use Rattle.std.proofs.Common.{◌≡◌, true, take}
use Rattle.std.specs.List.{list_all}
use Rattle.std.specs.Char.{is_ascii_digit}
use Rattle.std.specs.Str.Parse.{digits_value_after}
use Rattle.jk_beside.proofs.words.digits_behind.Given as goal

abbrev pub invariant-loop-byte : goal.invariant-loop-byte
invariant-loop-byte l = record {
  number : l.number ≡ digits_value_after 10 l.before (take l.byte-index l.digits);
  digits : list_all is_ascii_digit (take l.byte-index l.digits) ≡ true;
}
