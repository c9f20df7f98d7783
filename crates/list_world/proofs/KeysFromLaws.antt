-- The keys along the list from row 1 are exactly the live keys, and they rise; and the rows above a rank become fewer with each step.
-- Assumes nothing.
use Prim.{tt}
use Prim.Native.Nat.{ℕ, zero, suc, ◌+◌, ◌≤◌, ◌<◌}
use mathlib.Core.Path.{◌≡◌, sym, ap, ◌∙◌}
use mathlib.Core.Logic.{⊎_elim}
use mathlib.Core.List.{List}
use mathlib.Core.Bool.{true}
use native.Mathlib.Omega.{arith}
use Rattle.list_world.proofs.KeysFrom.{KeysFrom, rows_above, end, live, past}
use Rattle.logic.specs.Keys.{Rising, RisingFrom, has}
use Rattle.list_world.proofs.Live.{LiveRank}
use Rattle.list_world.proofs.World.{Intact, Open, Reach, Proper, World, step, stop, succ}
use Rattle.logic.proofs.Keys.{has_cons, has_head, has_nil, has_tail}
use Rattle.logic.proofs.Cases.{by_row}
use Rattle.list_world.proofs.WorldLaws.{row_succ, unique}

module _ (f : ℕ → ℕ) where
  pub above_bound : (r n : ℕ) → rows_above f r n ≤ n
  unfolding rows_above
  above_bound r zero = omega arith
  above_bound r (suc n) = omega (arith, above_bound r n)

  pub above_mono : (r r' n : ℕ) → r ≤ r' → rows_above f r' n ≤ rows_above f r n
  unfolding rows_above
  above_mono r r' zero h = omega arith
  above_mono r r' (suc n) h = omega (arith, above_mono r r' n h)

  -- a step up to rank r' leaves fewer rows above: row x was above r, and is not above r'
  pub above_drop : (r r' n x : ℕ) → x < n → r < f x → f x ≤ r' → rows_above f r' n < rows_above f r n
  unfolding rows_above
  above_drop r r' zero x h a b = omega arith
  above_drop r r' (suc n) x h a b = by_row x n
      (λ e. omega (arith, above_mono r r' n (omega arith), ap f e))
      (λ k. omega (arith, above_drop r r' n x (omega arith) a b))

module _ {w : World} (g : Intact w) where
  -- the next of such a row is row 3, so it is open, and open rows of one rank are one row
  pub top_row : (x : ℕ) → Proper w x → w.rank x ≡ w.rank 2 → x ≡ 2
  top_row x ρ e = unique g ρ.known g.two.known (free x ρ (omega arith)) (free 2 g.two (omega arith)) (omega (arith, g.order)) e (omega arith)
    where
      free : (y : ℕ) → Proper w y → w.rank 2 ≤ w.rank y → Open w y
      free y r h = rw ((g.each y r.known).last h) g.three.pos

  succ_up : {a : ℕ} → Proper w a → w.rank a < w.rank 2 → w.rank a < w.rank (succ w a)
  succ_up {a} ρ l = ((g.each a ρ.known).rises ρ.pos l).0

  -- the key of an open item that is reached is found
  pub chain_complete : {a y : ℕ} {keys : List ℕ} (k : ℕ) → KeysFrom w a keys → Reach w y a → Open w y →
      w.rank 1 < w.rank y → w.rank y < w.rank 2 → w.rank y ≡ 3 + k → has k keys ≡ true
  chain_complete k (end q) (stop e) o l h i = absurd (omega (arith, ap w.rank (sym e ∙ q)))
  chain_complete k (end q) (step j r) o l h i = absurd (omega (arith, ap w.rank q))
  chain_complete k (live {k = k'} {keys = keys} a b u d c) (stop e) o l h i = has_head k k' keys (omega (arith, ap w.rank e))
  chain_complete k (live {k = k'} {keys = keys} a b u d c) (step j r) o l h i = has_tail k k' keys (chain_complete k c r o l h i)
  chain_complete k (past b u c) (stop e) o l h i = absurd (omega (arith, u (rw e o), ap w.rank e))
  chain_complete k (past b u c) (step j r) o l h i = chain_complete k c r o l h i

  pub chain_sound : {a : ℕ} {keys : List ℕ} (k : ℕ) → Proper w a → KeysFrom w a keys → has k keys ≡ true → LiveRank w (3 + k)
  chain_sound k ρ (end q) h = absurd (has_nil k h)
  chain_sound k ρ (live {a = a} {k = k'} {keys = keys} l b u d c) h = ⊎_elim
      (λ (e : k ≡ k'). record { row = a; known = ρ.known; is = omega arith; low = omega arith; high = omega arith; free = u })
      (λ m. chain_sound k (row_succ g ρ b) c m) (has_cons k k' keys h)
  chain_sound k ρ (past b u c) h = chain_sound k (row_succ g ρ b) c h

  pub chain_rising : {a : ℕ} {keys : List ℕ} (least : ℕ) → Proper w a → 3 + least ≤ w.rank a → KeysFrom w a keys → RisingFrom least keys
  chain_rising least ρ h (end q) = tt
  chain_rising least ρ h (live {k = k} l b u d c) = (omega arith, chain_rising (suc k) (row_succ g ρ b) (omega (arith, succ_up ρ b)) c)
  chain_rising least ρ h (past b u c) = chain_rising least (row_succ g ρ b) (omega (arith, succ_up ρ b)) c

  -- the whole list: row 1, of rank 2, is no item
  pub listed_rising : w.rank 1 ≡ 2 → {keys : List ℕ} → KeysFrom w 1 keys → Rising keys
  listed_rising e (end q) = tt
  listed_rising e (live l b u d c) = absurd (omega arith)
  listed_rising e (past b u c) = chain_rising 0 (row_succ g g.one b) (omega (arith, succ_up g.one b)) c

  pub listed_live : {keys : List ℕ} (k : ℕ) → KeysFrom w 1 keys → has k keys ≡ true → LiveRank w (3 + k)
  listed_live k c h = chain_sound k g.one c h

  pub live_listed : {keys : List ℕ} (k : ℕ) → KeysFrom w 1 keys → LiveRank w (3 + k) → has k keys ≡ true
  live_listed k c l =
      let low : w.rank 1 < w.rank l.row = omega (arith, l.is, l.low) in
      let high : w.rank l.row < w.rank 2 = omega (arith, l.is, l.high) in
      chain_complete k c ((g.each l.row l.known).reach (omega arith) (omega arith) l.free) l.free low high l.is
