-- The rows and the parties together, their invariant, and the three shapes that a event has.
-- Assumes nothing.
use Prim.Native.Nat.{ℕ, ◌+◌, ◌≤◌, ◌<◌}
use mathlib.Core.Path.{◌≡◌, refl, sym, ap, ◌∙◌}
use mathlib.Core.Logic.{◌⊎◌, inl, inr, ⊎_elim, ◌≢◌}
use mathlib.Core.Bool.{Bool, true, false, true≢false}
use native.Mathlib.Nat.{le_refl}
use native.Mathlib.Decide.{dec_lt}
use native.Mathlib.Omega.{arith}
use Rattle.list_party.specs.declared.Party.{Party}
use Rattle.list_world.proofs.World.{World, Proper, Intact, Open, Removed}
use Rattle.list_world.proofs.Writes.{Relink, FreshItem, MarkSwap, Swing}
use Rattle.list_world.proofs.Extends.{Extends, Same}
use Rattle.list_world.proofs.Live.{Change, still, gain, lose, Effect}
use Rattle.list_world.proofs.Walk.{KeyRank}
use Rattle.logic.proofs.Cases.{by_row}
use Rattle.list_world.proofs.Swap.{mark_good, swing_good, ahead, put_succ_v}
use Rattle.list_world.proofs.ExtendsLaws.{same_good, same_next, same_ext, same_effect, mark_ext, swing_ext}
use Rattle.list_world.proofs.LiveLaws.{mark_effect, add_effect, clean_effect}
use Rattle.list_grown.specs.Demands.{HoldsRow}
use Rattle.list_grown.proofs.Party.{At, Keeps, at_ext}

-- the machine as functions of row and party numbers, and the rows that nobody may use: rows that were off the list when it was taken over
pub record View : Type 0 where
  pub rank : ℕ → ℕ
  pub next : ℕ → ℕ
  pub back : ℕ → ℕ
  pub taken : ℕ
  pub party : ℕ → Party
  pub orphan : ℕ → Bool

-- published: taken, held by no party, and no orphan
abbrev pub Known : (ℕ → Bool) → ℕ → (ℕ → Party) → ℕ → Type 0
Known o t ps x = (x < t) × ((j : ℕ) → HoldsRow (ps j) x → ⊥) × (o x ≡ false)

abbrev pub world : View → World
world σ = record { rank = σ.rank; next = σ.next; back = σ.back; Pub = Known σ.orphan σ.taken σ.party }

-- the invariant; docs/PROOFS.md has it in words
pub record Inv (σ : View) : Type 0 where
  pub good : Intact (world σ)
  -- the rank of every key lies between those of rows 1 and 2
  pub scale : (σ.rank 1 ≡ 2) × (σ.rank 2 ≡ 4294967299)
  pub holds : (j : ℕ) → At (world σ) (σ.party j) (σ.party j).place
  pub inside : (j x : ℕ) → HoldsRow (σ.party j) x → x < σ.taken
  -- no row is held by two parties
  pub apart : (i j x : ℕ) → HoldsRow (σ.party i) x → HoldsRow (σ.party j) x → i ≡ j
  -- orphans are taken and nobody's
  pub lost : (x : ℕ) → σ.orphan x ≡ true → (x < σ.taken) × ((j : ℕ) → HoldsRow (σ.party j) x → ⊥)

-- what is held is no orphan
pub not_orphan : {σ : View} → Inv σ → (j x : ℕ) → HoldsRow (σ.party j) x → σ.orphan x ≡ false
not_orphan {σ} v j x h = go (σ.orphan x) refl
  where
    go : (b : Bool) → σ.orphan x ≡ b → σ.orphan x ≡ false
    go true e = absurd ((v.lost x e).1 j h)
    go false e = e

-- a event of party i: the others stay, and i holds what it held, or the first row that was not taken
pub record Alone (σ σ' : View) (i : ℕ) : Type 0 where
  pub others : (j : ℕ) → j ≢ i → σ'.party j ≡ σ.party j
  pub grows : σ.taken ≤ σ'.taken
  pub same : (x : ℕ) → σ'.orphan x ≡ σ.orphan x
  pub holding : (x : ℕ) → HoldsRow (σ'.party i) x → HoldsRow (σ.party i) x ⊎ ((x ≡ σ.taken) × (σ.taken < σ'.taken))

-- what every event keeps, and what it changes
pub record Steady (σ σ' : View) (d : Change) : Type 0 where
  pub inv : Inv σ'
  pub ext : Extends (world σ) (world σ')
  pub live : Effect (world σ) (world σ') d
  -- a row that is newly removed is so by the splice that took its rank
  pub marks : (x : ℕ) → (world σ').Pub x → Removed (world σ') x →
      ((world σ).Pub x × Removed (world σ) x) ⊎ ((d ≡ lose (σ'.rank x) (σ'.next x)) × ((world σ).Pub (σ'.next x) → ⊥))
  -- a row that is newly published is a splice, or the item gained
  pub news : (y : ℕ) → (world σ').Pub y → 0 < σ'.rank y → (world σ).Pub y ⊎ (d ≡ gain (σ'.rank y))

module _ {σ σ' : View} (v : Inv σ) (i : ℕ) (m : Alone σ σ' i) where
  -- what is left to show of a move
  pub inv_move : Intact (world σ') → Extends (world σ) (world σ') → ((j x : ℕ) → j ≢ i → HoldsRow (σ.party j) x → Keeps (world σ) (world σ') x)
      → At (world σ') (σ'.party i) (σ'.party i).place → Inv σ'
  inv_move g t keep mine = record {
    good = g;
    scale = (t.rank 1 v.good.one.known ∙ v.scale.0, t.rank 2 v.good.two.known ∙ v.scale.1);
    holds = holds;
    inside = inside;
    apart = apart;
    lost = lost;
  }
    where
      holds : (j : ℕ) → At (world σ') (σ'.party j) (σ'.party j).place
      holds j = by_row j i (λ e. rw e mine) (λ n. rw (m.others j n) (at_ext v.good t (σ.party j) (λ x h. keep j x n h) (σ.party j).place (v.holds j)))

      -- what a party holds now it held, or it is the mover's new row
      was : (j x : ℕ) → HoldsRow (σ'.party j) x → HoldsRow (σ.party j) x ⊎ ((j ≡ i) × (x ≡ σ.taken) × (σ.taken < σ'.taken))
      was j x h = by_row j i (λ e. ⊎_elim (λ a. inl (rw e a)) (λ b. inr (e, b.0, b.1)) (m.holding x (rw e at h))) (λ n. inl (rw (m.others j n) at h))

      inside : (j x : ℕ) → HoldsRow (σ'.party j) x → x < σ'.taken
      inside j x h = ⊎_elim (λ a. omega (arith, v.inside j x a, m.grows)) (λ b. omega (arith, b)) (was j x h)

      lost : (x : ℕ) → σ'.orphan x ≡ true → (x < σ'.taken) × ((j : ℕ) → HoldsRow (σ'.party j) x → ⊥)
      lost x e = let l = v.lost x (sym (m.same x) ∙ e) in (
        omega (arith, l.0, m.grows),
        λ j h. ⊎_elim (λ a. l.1 j a) (λ b. omega (arith, l.0, b.1))
            (was j x h),
      )

      apart : (k j x : ℕ) → HoldsRow (σ'.party k) x → HoldsRow (σ'.party j) x → k ≡ j
      apart k j x a b = go (was k x a) (was j x b)
        where
          go : HoldsRow (σ.party k) x ⊎ ((k ≡ i) × (x ≡ σ.taken) × (σ.taken < σ'.taken)) →
              HoldsRow (σ.party j) x ⊎ ((j ≡ i) × (x ≡ σ.taken) × (σ.taken < σ'.taken)) → k ≡ j
          go (inl c) (inl d) = v.apart k j x c d
          go (inl c) (inr d) = absurd (omega (arith, v.inside k x c, d.1))
          go (inr c) (inl d) = absurd (omega (arith, v.inside j x d, c.1))
          go (inr c) (inr d) = c.0 ∙ sym d.0

  -- a read, a call, an answer, work on the own row: entries of rows that i does not hold stay
  module _ (whole : (x : ℕ) → HoldsRow (σ.party i) x → HoldsRow (σ'.party i) x) (room : (x : ℕ) → σ.taken ≤ x → x < σ'.taken → HoldsRow (σ'.party i) x)
      (stay : (x : ℕ) → (HoldsRow (σ'.party i) x → ⊥) → Keeps (world σ) (world σ') x) where
    quiet_pub : (x : ℕ) → (world σ).Pub x → (world σ').Pub x
    quiet_pub x h = (
      omega (arith, h.0, m.grows),
      λ j k. by_row j i
          (λ e. ⊎_elim (λ a. h.1 i a) (λ b. omega (arith, h.0, b)) (m.holding x (rw e at k)))
          (λ n. h.1 j (rw (m.others j n) at k)),
      m.same x ∙ h.2,
    )

    quiet_only : (x : ℕ) → (world σ').Pub x → Dec (x < σ.taken) → (world σ).Pub x
    quiet_only x h (yes l) = (l, λ j k. by_row j i (λ e. h.1 i (whole x (rw e at k))) (λ n. h.1 j (rw (m.others j n) k)), sym (m.same x) ∙ h.2)
    quiet_only x h (no l) = absurd (h.1 i (room x (omega arith) h.0))

    quiet_same : Same (world σ) (world σ')
    quiet_same = record {
      known = quiet_pub;
      only = λ x h. quiet_only x h (dec_lt x σ.taken);
      rank = λ x h. (stay x (λ k. (quiet_pub x h).1 i k)).rank;
      next = λ x h. (stay x (λ k. (quiet_pub x h).1 i k)).next;
      back = λ x h. (stay x (λ k. (quiet_pub x h).1 i k)).back;
    }

    pub inv_quiet : (Extends (world σ) (world σ') → At (world σ') (σ'.party i) (σ'.party i).place) → Steady σ σ' still
    inv_quiet mine = let t = same_ext v.good quiet_same in record {
      ext = t;
      live = same_effect v.good quiet_same;
      news = λ y h p. inl (quiet_same.only y h);
      marks = λ x h k. let p = quiet_same.only x h in inl (p, rw (same_next v.good quiet_same x p) at k);
      inv = inv_move (same_good v.good quiet_same) t (λ j x n h. stay x
          (λ k. ⊎_elim (λ a. n (v.apart j i x h a)) (λ b. omega (arith, v.inside j x h, b)) (m.holding x k))) (mine t);
    }

-- a swap that party i wins: it writes the next of p and then holds no row
pub record Wins (σ : View) (i p u : ℕ) (f : ℕ → ℕ) (ps : ℕ → Party) : Type 0 where
  pub others : (j : ℕ) → j ≢ i → ps j ≡ σ.party j
  pub none : (x : ℕ) → HoldsRow (ps i) x → ⊥
  pub row : Proper (world σ) p
  pub free : Open (world σ) p
  pub at : f p ≡ u
  pub off : (x : ℕ) → x ≢ p → f x ≡ σ.next x

abbrev pub swapped : View → (ℕ → ℕ) → (ℕ → Party) → View
swapped σ f ps = record { rank = σ.rank; next = f; back = σ.back; taken = σ.taken; party = ps; orphan = σ.orphan }

module _ {σ : View} {i p u : ℕ} {f : ℕ → ℕ} {ps : ℕ → Party} (v : Inv σ) (s : Wins σ i p u f ps) where
  won_alone : Alone σ (swapped σ f ps) i
  won_alone = record { others = s.others; grows = le_refl _; same = λ x. refl; holding = λ x h. absurd (s.none x h) }

  pub won_write : Relink (world σ) f (Known σ.orphan σ.taken ps) p u
  won_write = record {
    row = s.row;
    free = s.free;
    at = s.at;
    off = s.off;
    old = λ x h. (h.0, λ j k. by_row j i (λ e. s.none x (rw e at k)) (λ n. h.1 j (rw (s.others j n) at k)), h.2);
  }

  -- what is published now was so before, or was held by i
  pub won_new : (x : ℕ) → Known σ.orphan σ.taken ps x → (world σ).Pub x ⊎ HoldsRow (σ.party i) x
  won_new x h = by_row x (σ.party i).own (λ e. flag e (σ.party i).unpublished refl)
      (λ n. inl (h.0, λ j k. by_row j i (λ e. n (sym (rw e at k).1)) (λ d. h.1 j (rw (s.others j d) k)), h.2))
    where
      flag : x ≡ (σ.party i).own → (b : Bool) → (σ.party i).unpublished ≡ b → (world σ).Pub x ⊎ HoldsRow (σ.party i) x
      flag e true q = inr (q, sym e)
      flag e false q = inl (h.0, λ j k. by_row j i (λ d. true≢false (sym (rw d at k).0 ∙ q)) (λ d. h.1 j (rw (s.others j d) k)), h.2)

  pub won_mine : (x : ℕ) → HoldsRow (σ.party i) x → Known σ.orphan σ.taken ps x
  won_mine x h = (v.inside i x h, λ j k. by_row j i (λ e. s.none x (rw e at k)) (λ n. n (v.apart j i x (rw (s.others j n) at k) h)), not_orphan v i x h)

  won_keep : (j x : ℕ) → j ≢ i → HoldsRow (σ.party j) x → Keeps (world σ) (world (swapped σ f ps)) x
  won_keep j x n h = record { rank = refl; next = s.off x (λ e. s.row.known.1 j (rw e at h)); back = refl }

  pub inv_mark : MarkSwap (world σ) f (Known σ.orphan σ.taken ps) p u → At (world (swapped σ f ps)) (ps i) (ps i).place →
      Steady σ (swapped σ f ps) (lose (σ.rank p) u)
  inv_mark m mine = let t = mark_ext v.good m in record {
    inv = inv_move v i won_alone (mark_good v.good m) t won_keep mine;
    ext = t;
    live = mark_effect v.good m;
    news = λ y h p. ⊎_elim (λ a. inl a) (λ e. absurd (omega (arith, ap σ.rank e, m.splice))) (m.new y h);
    marks = λ x h k. removed_then x k (m.new x h);
  }
    where
      removed_then : (x : ℕ) → Removed (world (swapped σ f ps)) x → (world σ).Pub x ⊎ (x ≡ u) →
          ((world σ).Pub x × Removed (world σ) x) ⊎ ((lose (σ.rank p) u ≡ lose (σ.rank x) (f x)) × ((world σ).Pub (f x) → ⊥))
      removed_then x k (inl a) = by_row x p (λ e. inr (rw (e, s.at) refl, rw (e, s.at) m.fresh)) (λ n. inl (a, rw (s.off x n) at k))
      removed_then x k (inr e) = absurd (omega (arith, m.write.free, rw (e, s.off u (λ d. m.fresh (rw d s.row.known)), m.nxt) at k))

  -- a swing marks no row
  swing_marks : {e y : ℕ} → Swing (world σ) f (Known σ.orphan σ.taken ps) p e y → (x : ℕ) → Known σ.orphan σ.taken ps x →
      Removed (world (swapped σ f ps)) x → (world σ).Pub x × Removed (world σ) x
  swing_marks {e} {y} m x h k = go (m.new x h)
    where
      go : (world σ).Pub x ⊎ ((x ≡ y) × FreshItem (world σ) e y) → (world σ).Pub x × Removed (world σ) x
      go (inl a) = by_row x p (λ d. absurd (omega (arith, m.above, rw (d, m.write.at) at k))) (λ n. (a, rw (s.off x n) at k))
      go (inr d) = absurd (omega (arith, (ahead v.good m).0.pos, rw (d.0, (put_succ_v v.good m d.1).0) at k))

  inv_swing : {e y : ℕ} → Swing (world σ) f (Known σ.orphan σ.taken ps) p e y → At (world (swapped σ f ps)) (ps i) (ps i).place → Inv (swapped σ f ps)
  inv_swing m mine = inv_move v i won_alone (swing_good v.good m) (swing_ext v.good m) won_keep mine

  pub inv_add : {e : ℕ} → Swing (world σ) f (Known σ.orphan σ.taken ps) p e u → FreshItem (world σ) e u →
      At (world (swapped σ f ps)) (ps i) (ps i).place → Steady σ (swapped σ f ps) (gain (σ.rank u))
  inv_add m h mine = record {
    inv = inv_swing m mine;
    ext = swing_ext v.good m;
    live = add_effect v.good m h;
    news = λ y k p. ⊎_elim (λ a. inl a) (λ e. inr (ap (λ x. gain (σ.rank x)) (sym e.0))) (m.new y k);
    marks = λ x k l. inl (swing_marks m x k l);
  }

  pub inv_clean : Swing (world σ) f (Known σ.orphan σ.taken ps) p u u → At (world (swapped σ f ps)) (ps i) (ps i).place →
      Steady σ (swapped σ f ps) still
  inv_clean m mine = record {
    inv = inv_swing m mine;
    ext = swing_ext v.good m;
    live = clean_effect v.good m;
    news = λ y h p. ⊎_elim (λ a. inl a) (λ e. absurd (omega (arith, e.1.less))) (m.new y h);
    marks = λ x k l. inl (swing_marks m x k l);
  }

-- a key's rank
pub key_of : {σ : View} → Inv σ → (k : ℕ) → k < 4294967296 → KeyRank (world σ) (3 + k)
key_of v k h = let a = v.scale.0 in let b = v.scale.1 in record { over = omega arith; under = omega arith }
