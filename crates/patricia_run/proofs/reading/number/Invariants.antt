use Rattle.std.proofs.Common.{◌≡◌, ◌<◌, ◌^◌, drop}
use Rattle.std.specs.List.{list_all}
use Rattle.std.specs.Char.{is_ascii_digit}
use Rattle.std.specs.Str.Parse.{digits_value, digits_value_after}
use Rattle.patricia_run.proofs.reading.number.Given as goal

-- what is left decides
abbrev pub invariant-loop-b : goal.invariant-loop-b
invariant-loop-b l = record {
  digits : list_all is_ascii_digit l.field ≡ list_all is_ascii_digit (drop l.b-index l.field);
  small : l.value < 2 ^ 64;
  value : digits_value 10 l.field ≡ digits_value_after 10 l.value (drop l.b-index l.field);
}
