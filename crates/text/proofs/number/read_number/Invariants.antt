use Rattle.std.proofs.Common.{◌≡◌, ◌≤◌, true, drop}
use Rattle.std.specs.Str.{all_ascii_digits}
use Rattle.text.specs.Numerals.{read_on, value}
use Rattle.text.proofs.number.read_number.Given as goal

abbrev pub invariant-loop-c : goal.invariant-loop-c
invariant-loop-c l = (read_on l.value (drop l.c-index l.field) ≡ value l.field) × (l.value ≤ l.limit) × (all_ascii_digits (drop l.c-index l.field) ≡ true)
