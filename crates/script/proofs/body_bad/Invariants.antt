-- The loop over the lines of a body.
use Rattle.std.proofs.Common.{◌≡◌, ◌-◌}
use Rattle.script.specs.Body.{bad_from}
use Rattle.script.proofs.body_bad.Given as goal

abbrev pub invariant-loop-seen : goal.invariant-loop-seen
invariant-loop-seen l = bad_from l.text 0 l.from l.most ≡ bad_from l.text l.seen l.at (l.most - l.seen)
