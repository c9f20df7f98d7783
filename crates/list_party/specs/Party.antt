-- Party records: what a party keeps, at which place, and its own row (document 01, "Rows and parties").
use Rattle.std.specs.Prelude.{Bool, true, false, cond, ℕ}
use Rattle.calls.specs.declared.Call.TheVariants.{Contains}
use Rattle.calls.specs.declared.Asked.{Asked}
use Rattle.calls.specs.Calls.{asked}
use Rattle.list_party.specs.declared.Place.{Place}
use Rattle.list_party.specs.declared.Place.TheVariants.{
  Idle,
  Walk,
  Skip,
  AddSwap,
  Mark,
  Reread,
  Clean,
  Back,
  Look,
}
use Rattle.list_party.specs.declared.Values.{Values}
use Rattle.list_party.specs.declared.Party.{Party}

-- a record, from its place, the values that it keeps there, and its own row
abbrev pub party_record : Place → Values → (own : ℕ) (unpublished : Bool) → Party
party_record at v own unpublished =
    record { place = at; p = v.p; n = v.n; c = v.c; s = v.s; r = v.r; own = own; unpublished = unpublished }

abbrev pub no_values : Values
no_values = record { p = 0; n = 0; c = 0; s = 0; r = 0 }

abbrev pub values_of : Party → Values
values_of q = record { p = q.p; n = q.n; c = q.c; s = q.s; r = q.r }

-- idle without a spare
abbrev pub blank : Party
blank = party_record Idle no_values 0 false

-- an unpublished own stays with the party that has answered; a published one is no longer its own
abbrev pub spare_of : Party → ℕ
spare_of q = cond q.unpublished q.own 0

abbrev pub idling : Party → Party
idling q = party_record Idle no_values (spare_of q) q.unpublished

-- the same record, own published
abbrev pub published : Party → Party
published q = party_record q.place (values_of q) q.own false

-- the party at a place with these values; its own row stays with it
abbrev pub goes_to : Party → Place → Values → Party
goes_to q place values = party_record place values q.own q.unpublished

-- ---- what a place tells

abbrev pub is_idle : Place → Bool
is_idle Idle = true
is_idle (Walk call key) = false
is_idle (Skip call key) = false
is_idle (AddSwap call key) = false
is_idle (Mark call key) = false
is_idle (Reread call key) = false
is_idle (Clean call key) = false
is_idle (Back call key) = false
is_idle (Look call key) = false

-- what a party was asked; for an idle one, which was asked nothing and is never answered, contains 0 stands in
abbrev pub asked_at : Place → Asked
asked_at Idle = asked Contains 0
asked_at (Walk call key) = asked call key
asked_at (Skip call key) = asked call key
asked_at (AddSwap call key) = asked call key
asked_at (Mark call key) = asked call key
asked_at (Reread call key) = asked call key
asked_at (Clean call key) = asked call key
asked_at (Back call key) = asked call key
asked_at (Look call key) = asked call key
