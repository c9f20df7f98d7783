-- What is proved of the probe, beside its contract.
use Rattle.std.specs.Prelude.{◌≡◌, true, List, ◌∷◌, ◌++◌, ℕ, suc, ◌≤◌, length, drop}
use Rattle.field.specs.Layout.{Bytes}
use Rattle.probe_layout.specs.Bytes.{lows}
use Rattle.probe_layout.specs.Layout.{places_in, fits}
use Rattle.probe_answer.specs.Probe.{unwritten, seen_of, probe_of}

-- a refusal shows its number, no answer, no keys, the places as they were, and all the bytes that came
abbrev pub RefusedAsFound : Type 0
RefusedAsFound =
    (bytes : List ℕ) (number : ℕ) → Bytes bytes → fits bytes ≡ true → (seen_of bytes).number ≡ suc number →
    probe_of bytes ≡ suc number ∷ 0 ∷ 0 ∷ 0 ∷ lows 4 (unwritten (places_in bytes)) ++ drop 15 bytes

-- 54,952 bytes are room enough for the output, whatever goes in
abbrev pub OutputFits : Type 0
OutputFits = (bytes : List ℕ) → length (probe_of bytes) ≤ 54952
