-- The fuel that the two readings of a body are allowed is enough, and a good head sets what a list can be set up with.
-- Assumes nothing.
use Rattle.std.proofs.Common.{None, ◌≡◌, false, List, ℕ, zero, suc, ◌+◌, ◌*◌, ◌<◌, ◌≤◌, suc-add, arith, length, eqb}
use Rattle.std.proofs.lemmas.Bool.{eqb-false}
use Rattle.std.proofs.lemmas.Bool.Decides.{nat_tests}
use Rattle.text.specs.Reading.{lost}
use Rattle.script.specs.Lines.{line_at, ends_body, next_of}
use Rattle.script.specs.Head.{parties_line, rows_of, nodes_line, order_line, first_lost, head_of}
use Rattle.script.specs.Body.{most_lines, body_from, bad_from}
use Rattle.script.specs.Claims.{FuelNeverDecides, GoodHead}
use Rattle.script.proofs.Reach.{here, onward, parties_reach, nodes_reach, order_reach}

-- ---- fuel

-- more fuel finds the same
abbrev Same : List ℕ → (more fuel seen at : ℕ) → Type 0
Same text more fuel seen at =
    (bad_from text seen at (fuel + more) ≡ bad_from text seen at fuel) × (body_from text at (fuel + more) ≡ body_from text at fuel)

-- fuel that reaches past the end of the text is enough
enough : (text : List ℕ) → length text < lost → (more fuel seen at : ℕ) → at ≤ length text → length text < at + 6 * fuel
    → Same text more fuel seen at
unfolding bad_from body_from
enough text L more zero seen at h k = absurd (omega arith)
enough text L more (suc fuel) seen at h k =
    let l = line_at text at in
    let on : ends_body l ≡ false → Same text more fuel (seen + 1) (next_of l) =
    λ e. let w = onward text L at h e in enough text L more fuel (seen + 1) (next_of l) w.1 (omega (arith, w)) in
    rw (suc-add fuel more) (grind (arith, on), grind (arith, on))

-- so much is, from the sixth byte on
most_enough : (text : List ℕ) (at : ℕ) → 6 ≤ at → length text < at + 6 * most_lines text
unfolding most_lines
most_enough text at h = omega arith

-- ---- the head

-- none of the three lines is lost
abbrev pub Kept : List ℕ → Type 0
Kept text =
    let p = (parties_line text).next in
    let n = (nodes_line text p).next in
    (eqb p lost ≡ false) × (eqb n lost ≡ false) × (eqb (order_line text n).next lost ≡ false)

pub kept : (text : List ℕ) → (head_of text).bad ≡ None → Kept text
unfolding head_of first_lost
kept text e = (grind arith, grind arith, grind arith)

pub fuel_never_decides : FuelNeverDecides
unfolding head_of
fuel_never_decides text more L e =
    let p = (parties_line text).next in
    let n = (nodes_line text p).next in
    let o = (order_line text n).next in
    let reach = order_reach text L (nodes_reach text L (parties_reach text L (here text L 0 (omega arith)))) in
    let w = reach.led (eqb-false o lost (kept text e).2) in
    enough text L more (most_lines text) 0 o w.1 (most_enough text o w.0)

-- ---- what a good head sets

parties_good : (text : List ℕ) → eqb (parties_line text).next lost ≡ false
    → (1 ≤ (parties_line text).value) × ((parties_line text).value ≤ 16)
unfolding parties_line
parties_good text e = (grind (arith, nat_tests), grind (arith, nat_tests))

nodes_good : (text : List ℕ) (at : ℕ) → eqb (nodes_line text at).next lost ≡ false
    → (4 ≤ (nodes_line text at).value) × ((nodes_line text at).value ≤ 4096)
unfolding nodes_line rows_of
nodes_good text at e = (grind (arith, nat_tests), grind (arith, nat_tests))

order_good : (text : List ℕ) (at : ℕ) → (order_line text at).value < 2
unfolding order_line
order_good text at = grind arith

pub good_head : GoodHead
unfolding head_of
good_head text L e =
    let k = kept text e in
    let p = parties_good text k.0 in
    let n = nodes_good text (parties_line text).next k.1 in
    (p.0, p.1, n.0, n.1, order_good text (nodes_line text (parties_line text).next).next)
