-- A party record in twenty bytes: the numbers of places, how a record is read, which ones fit, how one is written.
use Rattle.std.specs.Prelude.{List, [], ◌∷◌, ◌++◌, Bool, cond, not, ◌&&◌, ◌||◌, ℕ, ◌+◌, get_or, eqb, leb}
use Rattle.calls.specs.declared.Call.{Call}
use Rattle.list_party.specs.declared.Place.{Place}
use Rattle.list_party.specs.declared.Place.TheVariants.{Idle, Walk, Skip, AddSwap, Mark, Reread, Clean, Back, Look}
use Rattle.list_party.specs.declared.Party.{Party}
use Rattle.calls.specs.Calls.{call_named, code_of}
use Rattle.probe_layout.specs.Bytes.{byte_at, two_at, four_at, low, one_by_one}

-- ---- numbers of places

-- 0 idle, 1 WALK, 2 SKIP, 3 ADDSWAP, 4 MARK, 5 REREAD, 6 CLEAN, 7 BACK, in this order
abbrev pub numbered : Call → ℕ → List Place
numbered call key =
    Idle ∷ Walk call key ∷ Skip call key ∷ AddSwap call key
    ∷ Mark call key ∷ Reread call key ∷ Clean call key ∷ Back call key ∷ []

-- the place of a number; 8 is LOOK, and a larger one does not fit
abbrev pub place_numbered : ℕ → Call → ℕ → Place
place_numbered number call key = get_or (numbered call key) number (Look call key)

-- the bytes of a place: its number, its call's code, its key; an idle party has neither
abbrev pub place_bytes : Place → List ℕ
place_bytes Idle = 0 ∷ 0 ∷ low 4 0
place_bytes (Walk call key) = 1 ∷ code_of call ∷ low 4 key
place_bytes (Skip call key) = 2 ∷ code_of call ∷ low 4 key
place_bytes (AddSwap call key) = 3 ∷ code_of call ∷ low 4 key
place_bytes (Mark call key) = 4 ∷ code_of call ∷ low 4 key
place_bytes (Reread call key) = 5 ∷ code_of call ∷ low 4 key
place_bytes (Clean call key) = 6 ∷ code_of call ∷ low 4 key
place_bytes (Back call key) = 7 ∷ code_of call ∷ low 4 key
place_bytes (Look call key) = 8 ∷ code_of call ∷ low 4 key

-- ---- a record: place, call, key, then p, n, c, s, r, own, then 1 for an unpublished own, then a zero

unfoldable pub record_at : List ℕ → ℕ → Party
record_at bytes at = record {
  place = place_numbered (byte_at bytes at) (call_named (byte_at bytes (at + 1))) (four_at bytes (at + 2));
  p = two_at bytes (at + 6);
  n = two_at bytes (at + 8);
  c = two_at bytes (at + 10);
  s = two_at bytes (at + 12);
  r = two_at bytes (at + 14);
  own = two_at bytes (at + 16);
  unpublished = eqb (byte_at bytes (at + 18)) 1;
}

-- a known place, a known call, neither call nor key with an idle party, a flag that is 0 or 1, a last byte that is 0
unfoldable pub record_fits : List ℕ → ℕ → Bool
record_fits bytes at =
    leb (byte_at bytes at) 8
    && leb (byte_at bytes (at + 1)) 2
    && (not (eqb (byte_at bytes at) 0) || (eqb (byte_at bytes (at + 1)) 0 && eqb (four_at bytes (at + 2)) 0))
    && leb (byte_at bytes (at + 18)) 1
    && eqb (byte_at bytes (at + 19)) 0

unfoldable pub record_bytes : Party → List ℕ
record_bytes q =
    place_bytes q.place
    ++ low 2 q.p ++ low 2 q.n ++ low 2 q.c ++ low 2 q.s ++ low 2 q.r ++ low 2 q.own
    ++ (cond q.unpublished 1 0 ∷ 0 ∷ [])

-- records one behind another
abbrev pub records_bytes : List Party → List ℕ
records_bytes parties = one_by_one record_bytes parties
