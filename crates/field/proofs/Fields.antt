-- Fields of a record for every width: what a store leaves, store then load, load then store.
-- Assumes nothing.
use mathlib.Core.Path.{◌≡◌, refl, ap, sym, ◌∙◌}
use mathlib.Core.Logic.{◌⊎◌, ⊎_elim}
use mathlib.Core.List.{List, [], ◌∷◌, ◌++◌, append_assoc}
use Prim.Native.Nat.{ℕ, zero, suc, ◌+◌, ◌-◌, ◌<◌, ◌≤◌}
use native.Mathlib.Omega.{arith}
use lib.ListN.{length, get_or, take, drop, length-append, length-drop, take-append-drop, get_or-append}
use lib.Seq.{length-take-le, take_at, drop_at, take-add, get_or-append-add, get_or-take, get_or-drop, sets-eq, length-sets}
use Rattle.field.specs.declared.ByteOrder.{ByteOrder}
use Rattle.field.specs.Layout.{number_in, bytes_in, Bytes}
use Rattle.field.specs.Field.{bytes_at, put_bytes, field_at, stored}
use Rattle.field.specs.Claims.{StoreTouchesNoOther, StoredIsHeld, HeldIsStored}
use Rattle.field.proofs.Numbers.{long_bytes, number_of_its_bytes, bytes_of_their_number}

-- ---- bytes put at a place
module _ (bytes : List ℕ) (place : ℕ) (new : List ℕ) (inside : place + length new ≤ length bytes) where
  front : length (take place bytes) ≡ place
  front = length-take-le place bytes (omega arith)

  front_and_new : length (take place bytes ++ new) ≡ place + length new
  front_and_new = length-append (take place bytes) new ∙ ap (λ (n : ℕ). n + length new) front

  put_long : length (put_bytes bytes place new) ≡ length bytes
  put_long = rw (← sets-eq new bytes place inside) (length-sets bytes place new)

  put_before : (other : ℕ) → other < place → get_or (put_bytes bytes place new) other 0 ≡ get_or bytes other 0
  put_before other before =
      get_or-append (take place bytes ++ new) (drop (place + length new) bytes) 0 other (omega (arith, front_and_new))
      ∙ get_or-append (take place bytes) new 0 other (omega (arith, front))
      ∙ get_or-take place bytes other 0 before

  put_behind : (other : ℕ) → place + length new ≤ other → get_or (put_bytes bytes place new) other 0 ≡ get_or bytes other 0
  put_behind other behind =
      let far : ℕ = other - (place + length new) in
      let there : other ≡ length (take place bytes ++ new) + (other - (place + length new)) = omega (arith, front_and_new) in
      let home : place + length new + (other - (place + length new)) ≡ other = omega arith in
      ap (λ (n : ℕ). get_or (put_bytes bytes place new) n 0) there
      ∙ get_or-append-add (take place bytes ++ new) (drop (place + length new) bytes) far 0
      ∙ get_or-drop (place + length new) bytes far 0
      ∙ ap (λ (n : ℕ). get_or bytes n 0) home

  put_held : bytes_at (length new) (put_bytes bytes place new) place ≡ new
  put_held =
      rw (append_assoc, drop_at (take place bytes) (new ++ drop (place + length new) bytes) place front)
      (take_at new (drop (place + length new) bytes) (length new) refl)

-- ---- the bytes that stand at a place

long_at : (bytes : List ℕ) (place width : ℕ) → place + width ≤ length bytes → length (bytes_at width bytes place) ≡ width
long_at bytes place width inside = length-take-le width (drop place bytes) (rw length-drop (omega arith))

-- putting them back changes nothing
put_back : (bytes : List ℕ) (place width : ℕ) → place + width ≤ length bytes → put_bytes bytes place (bytes_at width bytes place) ≡ bytes
put_back bytes place width inside =
    rw (long_at bytes place width inside, ← take-add place width bytes) (take-append-drop (place + width) bytes)

taken_bytes : (width : ℕ) (bytes : List ℕ) → Bytes bytes → Bytes (take width bytes)
taken_bytes zero bytes all place = omega arith
taken_bytes (suc width) [] all place = all place
taken_bytes (suc width) (byte ∷ rest) all zero = all zero
taken_bytes (suc width) (byte ∷ rest) all (suc place) = taken_bytes width rest (λ later. all (suc later)) place

bytes_at_lem : (bytes : List ℕ) (place width : ℕ) → Bytes bytes → Bytes (bytes_at width bytes place)
bytes_at_lem bytes place width all = taken_bytes width (drop place bytes) (λ later. rw get_or-drop (all (place + later)))

-- ---- numbers stored and held

module _ (order : ByteOrder) (width : ℕ) (bytes : List ℕ) (place : ℕ) (inside : place + width ≤ length bytes) where
  fits : (number : ℕ) → place + length (bytes_in order width number) ≤ length bytes
  fits number = rw (long_bytes order width number) inside

  touches_no_other : (number other : ℕ) → (other < place) ⊎ (place + width ≤ other) →
      get_or (stored order width bytes place number) other 0 ≡ get_or bytes other 0
  unfolding stored
  touches_no_other number other =
      ⊎_elim
      (λ (before : other < place). put_before bytes place (bytes_in order width number) (fits number) other before)
      (λ (behind : place + width ≤ other). put_behind bytes place (bytes_in order width number) (fits number) other (rw (long_bytes order width number) behind))

  long_stored : (number : ℕ) → length (stored order width bytes place number) ≡ length bytes
  unfolding stored
  long_stored number = put_long bytes place (bytes_in order width number) (fits number)

  stored_at : (number : ℕ) → bytes_at width (stored order width bytes place number) place ≡ bytes_in order width number
  unfolding stored
  stored_at number =
      ap (λ (n : ℕ). bytes_at n (stored order width bytes place number) place) (sym (long_bytes order width number))
      ∙ put_held bytes place (bytes_in order width number) (fits number)

pub store_touches_no_other : StoreTouchesNoOther
store_touches_no_other order width bytes place number inside =
    (long_stored order width bytes place inside number, touches_no_other order width bytes place inside number)

pub stored_is_held : StoredIsHeld
unfolding field_at
stored_is_held order width bytes place number inside small =
    rw (stored_at order width bytes place inside number) (number_of_its_bytes order width number small)

pub held_is_stored : HeldIsStored
unfolding field_at stored
held_is_stored order width bytes place all inside =
    let same : bytes_in order width (number_in order (bytes_at width bytes place)) ≡ bytes_at width bytes place =
    rw (long_at bytes place width inside) at (bytes_of_their_number order (bytes_at width bytes place) (bytes_at_lem bytes place width all)) in
    rw same (put_back bytes place width inside)
