-- The number of each refusal (document 01, "Refusal numbers").
use Rattle.std.specs.Prelude.{ℕ}
use Rattle.refusal.specs.declared.Refusal.{Refusal}
use Rattle.refusal.specs.declared.Refusal.TheVariants.{
  BadColumns,
  BadParties,
  BadForm,
  NoSuchParty,
  PartyBusy,
  NoSuchCall,
  TableFull,
  PartyIdle,
  MovesSpent,
  NoRoom,
  NoSuchOrder,
}

abbrev pub number_of : Refusal → ℕ
number_of BadColumns = 1
number_of BadParties = 2
number_of BadForm = 3
number_of NoSuchParty = 4
number_of PartyBusy = 5
number_of NoSuchCall = 6
number_of TableFull = 7
number_of PartyIdle = 8
number_of MovesSpent = 9
number_of NoRoom = 10
number_of NoSuchOrder = 11
