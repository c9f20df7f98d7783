-- Short names for what the moves come to: a party record at each place, from the values that the place keeps, in the order p, n, c, s, r.
-- Assumes nothing.
use Prim.Native.Nat.{ℕ}
use Rattle.calls.specs.declared.Call.{Call}
use Rattle.calls.specs.declared.Said.{Said}
use Rattle.calls.specs.declared.Said.TheVariants.{Nothing}
use Rattle.calls.specs.declared.Access.TheVariants.{Won, Lost}
use Rattle.list_rows.specs.declared.Write.TheVariants.{Untouched, Link}
use Rattle.list_party.specs.declared.Place.TheVariants.{Walk, Skip, AddSwap, Mark, Reread, Clean, Back, Look}
use Rattle.list_party.specs.declared.Party.{Party}
use Rattle.list_party.specs.Party.{goes_to}
use Rattle.list_moves.specs.declared.Moved.{Moved}

module _ (q : Party) (call : Call) (key : ℕ) where
  abbrev pub walking : (p n c : ℕ) → Party
  walking p n c = goes_to q (Walk call key) (record { p = p; n = n; c = c; s = 0; r = q.r })

  abbrev pub skipping : (p n c : ℕ) → Party
  skipping p n c = goes_to q (Skip call key) (record { p = p; n = n; c = c; s = 0; r = 0 })

  abbrev pub adding : (p n : ℕ) → Party
  adding p n = goes_to q (AddSwap call key) (record { p = p; n = n; c = 0; s = 0; r = 0 })

  abbrev pub marking : (p n c s : ℕ) → Party
  marking p n c s = goes_to q (Mark call key) (record { p = p; n = n; c = c; s = s; r = 0 })

  abbrev pub rereading : (p n c : ℕ) → Party
  rereading p n c = goes_to q (Reread call key) (record { p = p; n = n; c = c; s = 0; r = 0 })

  abbrev pub cleaning : (p n r : ℕ) → Party
  cleaning p n r = goes_to q (Clean call key) (record { p = p; n = n; c = 0; s = 0; r = r })

  abbrev pub backing : (p : ℕ) → Party
  backing p = goes_to q (Back call key) (record { p = p; n = 0; c = 0; s = 0; r = q.r })

  abbrev pub looking : (c : ℕ) → Party
  looking c = goes_to q (Look call key) (record { p = 0; n = 0; c = c; s = 0; r = 0 })

-- a swap that is won, and one that is lost
abbrev pub wins : Party → Said → (row to : ℕ) → Moved
wins party said row to = record { party = party; said = said; access = Won; write = Link row to }

abbrev pub loses : Party → Moved
loses party = record { party = party; said = Nothing; access = Lost; write = Untouched }
