-- A refused event leaves no trace.
-- Assumes nothing.
use mathlib.Core.Path.{◌≡◌, refl, sym}
use mathlib.Core.List.{[], ◌∷◌}
use mathlib.Core.Bool.{Bool, true, false, cond, ◌&&◌, true≢false}
use Prim.Native.Nat.{ℕ}
use Rattle.refusal.specs.Answer.{Answer, accepted, refused, Tests}
use Rattle.logic.proofs.Tests.{and_left, and_right, and_both}
use Rattle.calls.specs.Words.{Word}
use Rattle.list_unchecked.specs.Unchecked.{Machine}
use Rattle.list.specs.Engine.{call_of, move_of}
use Rattle.list.specs.Run.{Event, calls, moves, quiet, event_of, run}
use Rattle.list.proofs.Promises.{refused_call_leaves, refused_move_leaves}
use Rattle.list_grown.specs.History.{key_is_32, is_accepted, accepts, accepts_all, heeded, keys_are_32}
use Rattle.list_grown.specs.Demands.{AllHeeded}
use Rattle.logic.proofs.Cases.{by_test}

-- an answer that is not accepted is a refusal
call_stays : (m : Machine) (answer : Tests) (after : Machine) → ((number : ℕ) → answer ≡ refused number → after ≡ m) →
    is_accepted (quiet answer) ≡ false → after ≡ m
call_stays m (accepted done) after leaves e = absurd (true≢false e)
call_stays m (refused number) after leaves e = leaves number refl

move_stays : (m : Machine) (answer : Answer Word) (after : Machine) → ((number : ℕ) → answer ≡ refused number → after ≡ m) →
    is_accepted answer ≡ false → after ≡ m
move_stays m (accepted word) after leaves e = absurd (true≢false e)
move_stays m (refused number) after leaves e = leaves number refl

second_fails : (a b : Bool) → a ≡ true → a && b ≡ false → b ≡ false
second_fails true b h e = e
second_fails false b h e = absurd (true≢false (sym h))

stays : (m : Machine) (event : Event) → key_is_32 event ≡ true → accepts m event ≡ false → (event_of m event).memory ≡ m
stays m (calls i code key) fits e =
    call_stays m (call_of m i code key).answer (call_of m i code key).memory (λ number is. refused_call_leaves m i code key number is)
    (second_fails (key_is_32 (calls i code key)) (is_accepted (quiet (call_of m i code key).answer)) fits e)
stays m (moves i) fits e = move_stays m (move_of m i).answer (move_of m i).memory (λ number is. refused_move_leaves m i number is) e

pub all_heeded : AllHeeded
unfolding run accepts_all heeded keys_are_32
all_heeded m [] fit = (refl, refl)
all_heeded m (first ∷ rest) fit =
    let fits : key_is_32 first ≡ true = and_left (key_is_32 first) (keys_are_32 rest) fit in
    let later : keys_are_32 rest ≡ true = and_right (key_is_32 first) (keys_are_32 rest) fit in
    let m' = (event_of m first).memory in
    by_test (λ b. accepts m first ≡ b → (run m' rest ≡ run m (cond b (first ∷ heeded m' rest) (heeded m rest)))
    × (accepts_all m (cond b (first ∷ heeded m' rest) (heeded m rest)) ≡ true))
    (accepts m first)
    (λ b is. let r = all_heeded m' rest later in (r.0, and_both is r.1))
    (λ b is. let r = all_heeded m rest later in (rw (stays m first fits is) r.0, r.1))
    refl
