use Rattle.std.proofs.Common.{◌≡◌, ◌<◌, ◌^◌, drop}
use Rattle.std.specs.Str.{all_ascii_digits}
use Rattle.std.specs.Str.Parse.{digits_value, digits_value_after}
use Rattle.prefix_text.proofs.numbers.digits.Given as goal

abbrev pub invariant-loop-c : goal.invariant-loop-c
invariant-loop-c l = record {
  below : l.n < 10 ^ l.c-index;
  digits : all_ascii_digits (drop l.c-index l.text) ≡ all_ascii_digits l.text;
  value : digits_value_after 10 l.n (drop l.c-index l.text) ≡ digits_value 10 l.text;
}
