-- The loop over the bytes of a word.
use Rattle.std.proofs.Common.{◌≡◌, drop}
use Rattle.text.specs.Reading.{word}
use Rattle.text.proofs.word.Given as goal

abbrev pub invariant-loop-byte : goal.invariant-loop-byte
invariant-loop-byte l = word l.text l.fn.at l.wanted ≡ word l.text l.here (drop l.byte-index l.wanted)
