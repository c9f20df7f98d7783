-- Every move keeps the invariant and changes the live ranks as its deed says.
-- Assumes nothing.
use Prim.{tt}
use Prim.Native.Nat.{ℕ, ◌+◌, ◌≤◌, ◌<◌}
use mathlib.Core.Path.{◌≡◌, refl, sym, subst, ◌∙◌}
use mathlib.Core.Logic.{◌⊎◌, inl, inr, ⊎_elim, ◌≢◌}
use mathlib.Core.Bool.{Bool, true, false, cond, true≢false, false≢true}
use native.Mathlib.Nat.{le_refl}
use native.Mathlib.Omega.{arith}
use lib.ListN.{length, get_or, set}
use lib.Seq.{get_or-set_same, get_or-set_other}
use Rattle.columns.specs.Column.{put}
use Rattle.list_rows.specs.Table.{Table, next_at, back_at, link, with_row}
use Rattle.list_rows.specs.Order.{rank, rank_at}
use Rattle.calls.specs.declared.Call.TheVariants.{Add, Remove}
use Rattle.list_party.specs.declared.Place.{Place}
use Rattle.list_party.specs.declared.Party.{Party}
use Rattle.list_party.specs.Party.{blank, idling, published}
use Rattle.list_grown.proofs.Places.{adding, marking, cleaning}
use Rattle.list_moves.specs.declared.Moved.{Moved}
use Rattle.list_unchecked.specs.Unchecked.{Machine, party_of, carried}
use Rattle.list_form.proofs.Good.{Rows}
use Rattle.list_world.proofs.World.{World, Intact, Proper, Removed, Open, succ}
use Rattle.list_world.proofs.Writes.{FreshItem, Swing}
use Rattle.list_world.proofs.Extends.{Extends}
use Rattle.list_world.proofs.Live.{still, gain, lose}
use Rattle.list_world.proofs.Walk.{KeyRank, OnWay}
use Rattle.list_world.proofs.WorldLaws.{skip_pos, row_succ, succ_open}
use Rattle.list_world.proofs.ExtendsLaws.{row_ext, mark_ext}
use Rattle.list_world.proofs.Swap.{mark_good}
use Rattle.list_world.proofs.WalkLaws.{walking_ext, at_c, walk_from, walk_on, walk_past, past_rises, back_splice, add_swing, clean_swing, mark_mark}
use Rattle.list_grown.specs.Demands.{HoldsRow}
use Rattle.list_grown.specs.Deeds.{Deed}
use Rattle.list_grown.proofs.Party.{OwnItem, OwnSplice, OwnMark, At, Keeps, at_ext, away_mine}
use Rattle.list_grown.proofs.View.{View, world, Known, Inv, Steady, Wins, won_write, won_new, won_mine, inv_quiet, inv_mark, inv_add, inv_clean}
use Rattle.list_grown.proofs.Machine.{view_of, change_of}
use Rattle.list_grown.proofs.Does.{
  Does,
  passes,
  steps,
  add_skips,
  add_finds,
  add_ready,
  cut_other,
  cut_late,
  cut_ready,
  cut_again,
  cut_done,
  skips,
  skip_ends,
  add_wins,
  add_loses,
  mark_wins,
  mark_loses,
  rereads_late,
  rereads,
  clean_wins,
  clean_loses,
  backs,
  back_ends,
  look_passes,
  look_steps,
  look_other,
  look_late,
  look_finds,
}

-- ---- writes of one row

-- rows other than the one written stay
pub row_off : (t : Table) (x kind key next back z : ℕ) → z ≢ x →
    (rank_at (with_row t x kind key next back) z ≡ rank_at t z) × (next_at (with_row t x kind key next back) z ≡ next_at t z)
    × (back_at (with_row t x kind key next back) z ≡ back_at t z)
row_off t x kind key next back z d = (
  rw (get_or-set_other t.kind x z kind 0 d, get_or-set_other t.key x z key 0 d),
  get_or-set_other t.next x z next 0 d,
  get_or-set_other t.back x z back 0 d,
)

-- ---- a party's event, by what it writes

module _ (orphan : ℕ → Bool) (m : Machine) (v : Inv (view_of orphan m)) (z : Rows m.state.taken m.table) (i : ℕ)
    (h : i < length m.state.parties) where
  abbrev w : World
  w = world (view_of orphan m)

  abbrev g : Intact w
  g = v.good

  abbrev q : Party
  q = party_of m i

  -- party i has another record, and the table is another
  abbrev pub became : Table → Party → View
  became t q' =
      record {
        rank = λ row. rank_at t row;
        next = λ row. next_at t row;
        back = λ row. back_at t row;
        taken = m.state.taken;
        party = λ j. get_or (set m.state.parties i q') j blank;
        orphan = orphan;
      }

  now : (q' : Party) → get_or (set m.state.parties i q') i blank ≡ q'
  now q' = get_or-set_same m.state.parties i q' blank h

  -- party i becomes q', holding what it held, and only entries of its own row change
  pub quiet : (t : Table) (q' : Party) → ((x : ℕ) → HoldsRow q' x → HoldsRow q x) → ((x : ℕ) → HoldsRow q x → HoldsRow q' x)
      → ((x : ℕ) → (HoldsRow q x → ⊥) → Keeps w (world (became t q')) x)
      → (Extends w (world (became t q')) → At (world (became t q')) q' q'.place) → Steady (view_of orphan m) (became t q') still
  quiet t q' a b k mine =
      let e : get_or (set m.state.parties i q') i blank ≡ q' = now q' in
      inv_quiet v i
      (record {
        others = λ j n. get_or-set_other m.state.parties i j q' blank n;
        grows = le_refl _;
        same = λ x. refl;
        holding = λ x d. inl
            (a x (rw e at d));
      })
      (λ x d. rw e (b x d)) (λ x c d. absurd (omega arith)) (λ x d. k x (λ c. d (rw e (b x c)))) (λ t. rw e (mine t))

  -- only the party changes
  pub read : (q' : Party) → ((x : ℕ) → HoldsRow q' x → HoldsRow q x) → ((x : ℕ) → HoldsRow q x → HoldsRow q' x) → At w q' q'.place →
      Steady (view_of orphan m) (became m.table q') still
  read q' a b d = quiet m.table q' a b (λ x n. record { rank = refl; next = refl; back = refl })
      (λ t. at_ext g t q' (λ x n. record { rank = refl; next = refl; back = refl }) q'.place d)

  -- a party that answers holds what it held
  spare_to : (u : Bool) (x : ℕ) → (u ≡ true) × (cond u q.own 0 ≡ x) → (u ≡ true) × (q.own ≡ x)
  spare_to true x d = d
  spare_to false x d = absurd (false≢true d.0)

  spare_from : (u : Bool) (x : ℕ) → (u ≡ true) × (q.own ≡ x) → (u ≡ true) × (cond u q.own 0 ≡ x)
  spare_from true x d = d
  spare_from false x d = absurd (false≢true d.0)

  pub answer : Steady (view_of orphan m) (became m.table (idling q)) still
  answer = read (idling q) (spare_to q.unpublished) (spare_from q.unpublished) tt

  own_in : q.unpublished ≡ true → q.own < m.state.taken
  own_in f = v.inside i q.own (f, refl)

  -- the own row is led to where the walk has landed
  prepared : (k : ℕ) → OnWay w (3 + k) q.p q.n q.c → 3 + k < w.rank q.c → OwnItem w q.own q.unpublished (3 + k)
      → Steady (view_of orphan m) (became (link m.table q.own q.c) (adding q Add k q.p q.n)) still
  prepared k W b I =
      let e : next_at (link m.table q.own q.c) q.own ≡ q.c =
      get_or-set_same m.table.next q.own q.c 0 (omega (arith, own_in I.hidden, z)) in
      quiet (link m.table q.own q.c) (adding q Add k q.p q.n) (λ x d. d) (λ x d. d)
      (λ x n. record { rank = refl; next = get_or-set_other m.table.next q.own x q.c 0 (λ d. n (I.hidden, sym d)); back = refl })
      (λ t. rw e (walking_ext g t W, b, record { hidden = I.hidden; is = I.is }))

  -- the own row becomes a splice
  spliced : (k : ℕ) → OnWay w (3 + k) q.p q.n q.c → w.rank q.c ≡ 3 + k → Open w q.c → q.unpublished ≡ true
      → Steady (view_of orphan m) (became (with_row m.table q.own 3 0 (w.next q.c) q.p)
      (marking q Remove k q.p q.n q.c (w.next q.c))) still
  unfolding rank
  spliced k W b o f =
      let t = m.table in
      let l = own_in f in
      let s = w.next q.c in
      let ek : get_or (put t.kind q.own 3) q.own 0 ≡ 3 = get_or-set_same t.kind q.own 3 0 (omega (arith, z)) in
      let en : get_or (put t.next q.own s) q.own 0 ≡ s = get_or-set_same t.next q.own s 0 (omega (arith, z)) in
      let eb : get_or (put t.back q.own q.p) q.own 0 ≡ q.p = get_or-set_same t.back q.own q.p 0 (omega (arith, z)) in
      quiet (with_row t q.own 3 0 s q.p) (marking q Remove k q.p q.n q.c s) (λ x d. d) (λ x d. d)
      (λ x n. let r = row_off t q.own 3 0 s q.p x (λ d. n (f, sym d)) in record { rank = r.0; next = r.1; back = r.2 })
      (λ e. let r = (at_c g W).0 in (
        walking_ext g e W,
        e.rank _ r.known ∙ b,
        record { hidden = f; is = rw ek; behind = eb },
        en,
        row_ext g e (record { known = (g.each _ r.known).closed; pos = o }),
      ))

  -- the own splice is led to the new next
  reread : (k : ℕ) → OnWay w (3 + k) q.p q.n q.c → w.rank q.c ≡ 3 + k → Open w q.c → OwnSplice w q.own q.unpublished q.p
      → Steady (view_of orphan m) (became (link m.table q.own (w.next q.c)) (marking q Remove k q.p q.n q.c (w.next q.c))) still
  reread k W b o n =
      let t = m.table in
      let s = w.next q.c in
      let en : get_or (put t.next q.own s) q.own 0 ≡ s = get_or-set_same t.next q.own s 0 (omega (arith, own_in n.hidden, z)) in
      quiet (link t q.own s) (marking q Remove k q.p q.n q.c s) (λ x d. d) (λ x d. d)
      (λ x d. record { rank = refl; next = get_or-set_other t.next q.own x s 0 (λ e. d (n.hidden, sym e)); back = refl })
      (λ e. (
        walking_ext g e W,
        b,
        record { hidden = n.hidden; is = n.is; behind = n.behind },
        en,
        row_ext g e (record { known = (g.each _ (at_c g W).0.known).closed; pos = o }),
      ))

  -- ---- swaps that are won

  -- it writes the next of x, a published row, and leaves nothing held
  win : (x u : ℕ) (q' : Party) → q'.unpublished ≡ false → Proper w x → Open w x →
      Wins (view_of orphan m) i x u (λ row. next_at (link m.table x u) row) (λ j. get_or (set m.state.parties i q') j blank)
  win x u q' f ρ o = record {
    others = λ j n. get_or-set_other m.state.parties i j q' blank n;
    none = λ y d. false≢true (sym f ∙ (rw (now q') at d).0);
    row = ρ;
    free = o;
    at = get_or-set_same m.table.next x u 0 (omega (arith, ρ.known.0, z));
    off = λ y n. get_or-set_other m.table.next x y u 0 n;
  }

  hidden : q.unpublished ≡ true → w.Pub q.own → ⊥
  hidden f k = k.1 i (f, refl)

  -- a swap publishes own at most
  just_own : (x : ℕ) → w.Pub x ⊎ HoldsRow q x → w.Pub x ⊎ (x ≡ q.own)
  just_own x (inl a) = inl a
  just_own x (inr b) = inr (sym b.1)

  add_won_lem : (k : ℕ) → OnWay w (3 + k) q.p q.n (w.next q.own) → 3 + k < w.rank (w.next q.own) → OwnItem w q.own q.unpublished (3 + k)
      → w.next q.p ≡ q.n → Steady (view_of orphan m) (became (link m.table q.p q.own) (idling (published q))) (gain (3 + k))
  add_won_lem k W b I e =
      let s = win q.p q.own (idling (published q)) refl W.behind.row (rw e W.row.pos) in
      let F : FreshItem w (w.next q.own) q.own = record { fresh = hidden I.hidden; nxt = refl; less = omega (arith, I.is) } in
      subst (λ K. Steady (view_of orphan m) (became (link m.table q.p q.own) (idling (published q))) (gain K)) I.is
      (inv_add v s (add_swing g W b e I.is F (won_write v s) (won_mine v s q.own (I.hidden, refl)) (λ x d. just_own x (won_new v s x d))) F
      (rw (now (idling (published q))) tt))

  module _ (k : ℕ) (W : OnWay w (3 + k) q.p q.n q.r) (b : 3 + k < w.rank q.r) (D : OwnMark w q.own q.unpublished q.r)
      (e : w.next q.p ≡ q.n) where
    clean_win : Wins (view_of orphan m) i q.p q.r (λ row. next_at (link m.table q.p q.r) row)
        (λ j. get_or (set m.state.parties i (idling q)) j blank)
    clean_win = win q.p q.r (idling q) D.shown W.behind.row (rw e W.row.pos)

    pub clean_swings : Swing w (λ row. next_at (link m.table q.p q.r) row)
        (Known orphan m.state.taken (λ j. get_or (set m.state.parties i (idling q)) j blank)) q.p q.r q.r
    clean_swings =
        clean_swing g W b e (won_write v clean_win) (λ x d. ⊎_elim (λ a. a) (λ a. absurd (true≢false (sym a.0 ∙ D.shown))) (won_new v clean_win x d))

    clean_won_lem : Steady (view_of orphan m) (became (link m.table q.p q.r) (idling q)) still
    clean_won_lem = inv_clean v clean_win clean_swings (rw (now (idling q)) tt)

  mark_won_lem : (k : ℕ) → OnWay w (3 + k) q.p q.n q.c → w.rank q.c ≡ 3 + k → OwnSplice w q.own q.unpublished q.p →
      w.next q.own ≡ q.s → Proper w q.s
      → w.next q.c ≡ q.s →
      Steady (view_of orphan m) (became (link m.table q.c q.own) (cleaning (published q) Remove k q.p q.n q.s)) (lose (3 + k) q.own)
  mark_won_lem k W b N n ρ e =
      let q' = cleaning (published q) Remove k q.p q.n q.s in
      let r = (at_c g W).0 in
      let o : Open w q.c = rw e ρ.pos in
      let s = win q.c q.own q' refl r o in
      let a = mark_mark g W b (hidden N.hidden) N.is (n ∙ sym e) N.behind (won_write v s) (won_mine v s q.own (N.hidden, refl))
      (λ x d. just_own x (won_new v s x d)) in
      let W' = walking_ext g (mark_ext g a) W in
      let on_own = s.off q.own (λ d. hidden N.hidden (rw d r.known)) in
      subst (λ K. Steady (view_of orphan m) (became (link m.table q.c q.own) q') (lose K q.own)) b (inv_mark v s a (rw (now q') (
        rw (s.at, on_own, n) at (walk_past (mark_good g a) W' (rw s.at N.is)),
        omega (arith, b, rw (skip_pos _ _ _ o, e) at ((g.each _ r.known).rises r.pos (omega arith)).0),
        record { shown = refl; known = won_mine v s q.own (N.hidden, refl); is = N.is; nxt = on_own ∙ n },
      )))

  -- ---- the rest

  -- a REMOVE that has marked finds its row again
  found : (k : ℕ) → OnWay w (3 + k) q.p q.n q.c → 3 + k ≤ w.rank q.c → q.unpublished ≡ false → w.next q.c ≡ q.own
      → OwnItem w q.own q.unpublished (3 + k) ⊎ OwnMark w q.own q.unpublished q.r →
      Steady (view_of orphan m) (became m.table (cleaning q Remove k q.p q.n q.r)) still
  found k W b f e (inl I) = absurd (true≢false (sym I.hidden ∙ f))
  found k W b f e (inr D) =
      let M : Removed w q.c = rw e D.is in
      let n : w.next (w.next q.c) ≡ q.r = rw e D.nxt in
      read (cleaning q Remove k q.p q.n q.r) (λ x d. d) (λ x d. d) (rw n at (walk_past g W M), omega (arith, rw n at (past_rises g W M)), D)

  looks : (k : ℕ) → KeyRank w (3 + k) → Proper w q.c → w.rank q.c < 3 + k → Proper w (succ w q.c) × (w.rank (succ w q.c) ≤ w.rank 2)
  looks k a ρ b = let l : w.rank q.c < w.rank 2 = omega arith in (row_succ g ρ l, ((g.each _ ρ.known).rises ρ.pos l).1)

  pub does_steady : {l : Place} {moved : Moved} {deed : Deed} → Does m.table q l moved deed → At w q l →
      Steady (view_of orphan m) (view_of orphan (carried m i moved).after) (change_of deed q.own)
  does_steady (passes b k) a = read _ (λ x d. d) (λ x d. d) (walk_past g a.0 k, a.1)
  does_steady (steps b k) a = read _ (λ x d. d) (λ x d. d) (walk_on g a.0 b k, a.1)
  does_steady (add_skips b k) a = read _ (λ x d. d) (λ x d. d) (walk_past g a.0 k, omega (arith, b, past_rises g a.0 k), a.1)
  does_steady (add_finds b k) a = answer
  does_steady (add_ready {k = k} b n) a = prepared k a.0 (omega (arith, n)) a.1
  does_steady (cut_other f b n) a = answer
  does_steady (cut_late f b k) a = answer
  does_steady (cut_ready {k = k} f b o) a = spliced k a.0 b o f
  does_steady (cut_again {k = k} f b e) a = found k a.0 b f e a.1
  does_steady (cut_done f b n) a = answer
  does_steady (skips k) a = read _ (λ x d. d) (λ x d. d) (walk_past g a.0 k, omega (arith, a.1, past_rises g a.0 k), a.2)
  does_steady (skip_ends {k = k} o) a = prepared k a.0 a.1 a.2
  does_steady (add_wins {k = k} e) a = add_won_lem k a.0 a.1 a.2 e
  does_steady (add_loses n) a = read _ (λ x d. d) (λ x d. d) (a.0.behind, a.2)
  does_steady (mark_wins {k = k} e) a = mark_won_lem k a.0 a.1 a.2 a.3 a.4 e
  does_steady (mark_loses n) a = read _ (λ x d. d) (λ x d. d) (a.0, a.1, a.2)
  does_steady (rereads_late k) a = answer
  does_steady (rereads {k = k} o) a = reread k a.0 a.1 o a.2
  does_steady (clean_wins {k = k} e) a = clean_won_lem k a.0 a.1 a.2 e
  does_steady (clean_loses n) a = read _ (λ x d. d) (λ x d. d) (a.0.behind, a.2)
  does_steady (backs k) a = read _ (λ x d. d) (λ x d. d) (back_splice g a.0 k, a.1)
  does_steady (back_ends {call} {k} o) a =
      read _ (λ x d. d) (λ x d. d) (walk_from g a.0 o, away_mine w call q.own q.unpublished q.r (3 + k) a.1)
  does_steady (look_passes {k = k} b M) a = let s = looks k a.0 a.1 b in read _ (λ x d. d) (λ x d. d) (a.0, rw M at s.0, rw M at s.1, tt)
  does_steady (look_steps {k = k} b o) a =
      let s = looks k a.0 a.1 b in
      let e = succ_open w q.c o in
      read _ (λ x d. d) (λ x d. d) (a.0, rw e at s.0, rw e at s.1, tt)
  does_steady (look_other b n) a = answer
  does_steady (look_late b k) a = answer
  does_steady (look_finds b k) a = answer
