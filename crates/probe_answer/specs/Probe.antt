-- The probe: one set-up, call, move or listing by the entry points on the state that came, and all that it leaves.
use Prim.{Unit}
use Rattle.std.specs.Prelude.{◌≡◌, List, [], ◌∷◌, ◌++◌, cond, ℕ, zero, suc, replicate}
use Rattle.refusal.specs.Answer.{Answer, accepted, refused, Left}
use Rattle.calls.specs.Words.{Word, nothing, yes, no}
use Rattle.list_unchecked.specs.Unchecked.{Machine}
use Rattle.list.specs.Engine.{set_up_of, call_of, move_of, list_of}
use Rattle.probe_layout.specs.Bytes.{low, lows}
use Rattle.probe_layout.specs.Layout.{what_in, party_in, code_in, key_in, places_in, machine_in, fits, machine_bytes}
use Rattle.probe_answer.specs.declared.Found.{Found}

-- what the probe shows: a refusal's number or 0, the answer, how many keys were listed, the places, and the state
pub record Seen : Type 0 where
  pub number : ℕ
  pub answer : ℕ
  pub listed : ℕ
  pub places : List ℕ
  pub after : Machine

-- the places before a listing, each 0xEEEEEEEE
abbrev pub unwritten : ℕ → List ℕ
unwritten places = replicate places 4008636142

abbrev pub word_number : Word → ℕ
word_number nothing = 0
word_number yes = 1
word_number no = 2

-- the number of a refusal; of an accepted answer, 0
abbrev pub refusal_in : {A : Type 0} → Answer A → ℕ
refusal_in (accepted value) = 0
refusal_in (refused number) = number

-- what is said by a move; a refusal says nothing
abbrev pub said_in : Answer Word → ℕ
said_in (accepted word) = word_number word
said_in (refused number) = 0

-- how many keys a listing has listed; a refused one, none
abbrev pub listed_in : Answer ℕ → ℕ
listed_in (accepted count) = count
listed_in (refused number) = 0

-- ---- what is seen of each outcome

abbrev pub shown : (number answer listed : ℕ) → (places : List ℕ) → (after : Machine) → Seen
shown number answer listed places after =
    record { number = number; answer = answer; listed = listed; places = places; after = after }

-- of a set-up or a call
unfoldable pub done_shown : (places : List ℕ) → Left Machine (Unit {0}) → Seen
done_shown places done = shown (refusal_in done.answer) 0 0 places done.memory

unfoldable pub move_shown : (places : List ℕ) → Left Machine Word → Seen
move_shown places done = shown (refusal_in done.answer) (said_in done.answer) 0 places done.memory

unfoldable pub list_shown : Machine → Left (List ℕ) ℕ → Seen
list_shown m done = shown (refusal_in done.answer) 0 (listed_in done.answer) done.memory m

-- ---- the four questions

abbrev pub seen_by : (what : ℕ) → Machine → (party code key : ℕ) → List ℕ → Seen
seen_by zero m party code key places = done_shown places (set_up_of m party)
seen_by (suc zero) m party code key places = done_shown places (call_of m party code key)
seen_by (suc (suc zero)) m party code key places = move_shown places (move_of m party)
seen_by (suc (suc (suc more))) m party code key places = list_shown m (list_of m places)

unfoldable pub seen_of : List ℕ → Seen
seen_of bytes =
    seen_by (what_in bytes) (machine_in bytes) (party_in bytes) (code_in bytes) (key_in bytes)
    (unwritten (places_in bytes))

-- what the code has found, with the machine and the places that it leaves
abbrev pub seen_is : Machine → List ℕ → Found → Seen
seen_is m places found = shown found.number found.answer found.listed places m

-- it comes to this, whatever machine and places are left
abbrev pub FoundSo : Found → (Machine → List ℕ → Seen) → Type 0
FoundSo found seen = (m : Machine) (places : List ℕ) → seen_is m places found ≡ seen m places

-- ---- bytes in, bytes out

unfoldable pub seen_bytes : Seen → List ℕ
seen_bytes seen =
    seen.number ∷ seen.answer ∷ low 2 seen.listed ++ lows 4 seen.places ++ machine_bytes seen.after

-- what does not fit the layout gives the one byte 255
unfoldable pub probe_of : List ℕ → List ℕ
probe_of bytes = cond (fits bytes) (seen_bytes (seen_of bytes)) (255 ∷ [])
