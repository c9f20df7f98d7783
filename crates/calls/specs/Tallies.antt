-- The tallies: moves made, swaps won, swaps lost (document 01, "Rows and parties" and "The moves").
use Rattle.std.specs.Prelude.{cond, ℕ, ◌+◌, ltb}
use Rattle.calls.specs.declared.Access.{Access}
use Rattle.calls.specs.declared.Access.TheVariants.{None, Read, Won, Lost}
use Rattle.calls.specs.declared.Tallies.{Tallies}

abbrev pub no_tallies : Tallies
no_tallies = record { moves = 0; won = 0; lost = 0 }

-- a count with one more; at the largest number of its width it stays (what the engine accepts never comes near it)
abbrev pub one_more : (top count : ℕ) → ℕ
one_more top count = cond (ltb count top) (count + 1) count

abbrev pub tally_plus : ℕ → ℕ
tally_plus count = one_more 4294967295 count

-- an access counts as a move, and a swap as won or lost
abbrev pub counted : Access → Tallies → Tallies
counted None t = t
counted Read t = record { moves = tally_plus t.moves; won = t.won; lost = t.lost }
counted Won t = record { moves = tally_plus t.moves; won = tally_plus t.won; lost = t.lost }
counted Lost t = record { moves = tally_plus t.moves; won = t.won; lost = tally_plus t.lost }
