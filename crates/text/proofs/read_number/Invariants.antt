-- The loop over the digits behind the first.
use Rattle.std.proofs.Common.{◌≡◌, ◌-◌}
use Rattle.text.specs.Reading.{number_at}
use Rattle.text.proofs.Laws.{more_digits}
use Rattle.text.proofs.read_number.Given as goal

abbrev pub invariant-loop : goal.invariant-loop
invariant-loop l = number_at l.text l.fn.at ≡ more_digits l.text l.n (4 - l.counter)
