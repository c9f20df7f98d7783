-- What came of a stream whose bytes are known.
-- Assumes nothing.
use Rattle.std.proofs.Common.{◌≡◌, ap, sym, ◌∙◌, ◌+◌, ◌<◌, ◌++◌, arith, length, length-append, take}
use Rattle.std.proofs.Common.{min, take_all, append-nil, subst, Option, None, Some, Result, Ok, IfOk, List, ℕ}
use Rattle.std.proofs.lemmas.List.{length-take-le}
use Rattle.std.proofs.Math.Seq.{take-append_seam}
use mathlib.Core.Logic.{⊎_elim}
use native.Mathlib.Nat.{eq-or-lt_of_le}
use Rattle.std.specs.Io.{ReadsAtMost}
use Rattle.std.specs.Io.KnownBytes.{Consumes, IsAtEnd}
use Rattle.streams.specs.Claims.{CameIsKnown}

pub came_is_known : CameIsKnown
came_is_known bytes left room n within come rest =
    let a = take n room in
    let long : length a ≡ n = length-take-le n room within in
    let all : length bytes ≡ length a + length left = ap length come ∙ length-append a left in
    let count_full : n ≡ length room → n ≡ min (length room) (length bytes) = λ is. omega arith in
    let count_short : n < length room → n ≡ min (length room) (length bytes) =
    λ less. let none : length left ≡ 0 = ap length (rest less) in omega arith in
    let full : n ≡ length room → a ≡ take (length room) bytes =
    λ is. sym (ap (take (length room)) come ∙ ap (λ m. take m (a ++ left)) (sym is ∙ sym long) ∙ take-append_seam a left) in
    let short : n < length room → a ≡ take (length room) bytes =
    λ less. sym (ap (take (length room)) (come ∙ ap (λ l. a ++ l) (rest less) ∙ append-nil a) ∙ take_all (length room) a (omega arith)) in
    (⊎_elim count_full count_short (eq-or-lt_of_le within), ⊎_elim full short (eq-or-lt_of_le within))

-- the same of the clauses of `read_full`, at an answer that accepts
pub one_came : {E : Type 0} (old new : Option (List ℕ)) (bytes room : List ℕ) (answer : Result ℕ E) (n long : ℕ) → old ≡ Some bytes → answer ≡ Ok n →
    ReadsAtMost answer room → length room ≡ long → IfOk answer (λ m. Consumes old new (take m room)) →
    IfOk answer (λ m. m < length room → IsAtEnd new) → (n ≡ min long (length bytes)) × (take n room ≡ take long bytes)
one_came {E} old None bytes room answer n long known ok read kept came whole =
    absurd (subst (λ (o : Option (List ℕ)). Consumes o None (take n room)) known
    (subst (λ (r : Result ℕ E). IfOk r (λ m. Consumes old None (take m room))) ok came))
one_came {E} old (Some left) bytes room answer n long known ok read kept came whole =
    let within = (subst (λ (r : Result ℕ E). ReadsAtMost r room) ok read).0 in
    let joined = subst (λ (o : Option (List ℕ)). Consumes o (Some left) (take n room)) known
    (subst (λ (r : Result ℕ E). IfOk r (λ m. Consumes old (Some left) (take m room))) ok came) in
    let rest = subst (λ (r : Result ℕ E). IfOk r (λ m. m < length room → IsAtEnd (Some left))) ok whole in
    subst (λ (l : ℕ). (n ≡ min l (length bytes)) × (take n room ≡ take l bytes)) kept
    (came_is_known bytes left room n within joined rest)
