-- The moves, one definition for each place (document 01, "The moves"); p, n, c, s, r, own: see list_party/src/lib.rt.
use Rattle.std.specs.Prelude.{not, cond, ◌&&◌, ◌||◌, ℕ, eqb}
use Rattle.calls.specs.declared.Call.{Call}
use Rattle.calls.specs.declared.Call.TheVariants.{Add, Remove, Contains}
use Rattle.calls.specs.declared.Said.{Said}
use Rattle.calls.specs.declared.Said.TheVariants.{Nothing, Yes, No}
use Rattle.calls.specs.declared.Access.TheVariants.{None, Read, Won, Lost}
use Rattle.list_rows.specs.declared.Write.{Write}
use Rattle.list_rows.specs.declared.Write.TheVariants.{Untouched, Link, Splice}
use Rattle.list_rows.specs.Table.{Table, next_at, back_at, is_splice}
use Rattle.list_rows.specs.Order.{below_key, equals_key}
use Rattle.list_party.specs.declared.Place.{Place}
use Rattle.list_party.specs.declared.Place.TheVariants.{Idle, Walk, Skip, AddSwap, Mark, Reread, Clean, Back, Look}
use Rattle.list_party.specs.declared.Party.{Party}
use Rattle.list_party.specs.Party.{idling, published, goes_to}
use Rattle.list_moves.specs.declared.Moved.{Moved}
use Rattle.list_moves.specs.declared.Swap.{Swap}

-- ---- what a move comes to: the party after it, what is said, what came of the access, what is written

-- a read, and the call goes on
abbrev pub goes_on : Party → Moved
goes_on party = record { party = party; said = Nothing; access = Read; write = Untouched }

-- a read, and the unpublished own row is made ready for a swap
abbrev pub readies : Party → Write → Moved
readies party write = record { party = party; said = Nothing; access = Read; write = write }

-- a read that gives the answer: the party rests, with the row that it has not put into the list
abbrev pub answers : Party → Said → Moved
answers party said = record { party = idling party; said = said; access = Read; write = Untouched }

-- a swap of a row's next is won exactly if the next still holds the expected row; a lost one changes no row
abbrev pub swap_of : Table → Swap → (won : Party) → Said → (lost : Party) → Moved
swap_of t swap won said lost =
    cond (eqb (next_at t swap.row) swap.from)
    (record { party = won; said = said; access = Won; write = Link swap.row swap.to })
    (record { party = lost; said = Nothing; access = Lost; write = Untouched })

-- After a lost ADDSWAP or CLEAN: go to BACK, with p. Here, in WALK and in BACK r goes along: a marked REMOVE keeps it,
-- and by good form it is 0 for any other.
abbrev pub to_back : Party → Call → ℕ → Party
to_back q call key = goes_to q (Back call key) (record { p = q.p; n = 0; c = 0; s = 0; r = q.r })

-- to prepare: next of own := c; go to ADDSWAP
unfoldable pub prepare_of : Party → Call → ℕ → Moved
prepare_of q call key =
    readies (goes_to q (AddSwap call key) (record { p = q.p; n = q.n; c = 0; s = 0; r = 0 })) (Link q.own q.c)

module _ (t : Table) (q : Party) where
  -- s := next of c
  abbrev s : ℕ
  s = next_at t q.c

  -- ---- WALK

  -- c is below the key. When s is a splice, c := its next; else p := c, n := s, c := s. Stay.
  unfoldable pub onward_of : Call → ℕ → Moved
  onward_of call key = cond (is_splice t s)
      (goes_on (goes_to q (Walk call key) (record { p = q.p; n = q.n; c = next_at t s; s = 0; r = q.r })))
      (goes_on (goes_to q (Walk call key) (record { p = q.c; n = s; c = s; s = 0; r = q.r })))

  -- An ADD has landed on a row that is not removed. If c equals the key, answer no; else prepare.
  abbrev pub landed_standing_of : ℕ → Moved
  landed_standing_of key = cond (equals_key t q.c key) (answers q No) (prepare_of q Add key)

  -- An ADD has landed. When s is a splice, c := its next, go to SKIP; else as above.
  unfoldable pub landed_add_of : ℕ → Moved
  landed_add_of key = cond (is_splice t s)
      (goes_on (goes_to q (Skip Add key) (record { p = q.p; n = q.n; c = next_at t s; s = 0; r = 0 })))
      (landed_standing_of key)

  -- A REMOVE that is not yet marked has landed. If c differs from the key or s is a splice, answer no;
  -- else own becomes a splice with key 0, next s and back p; go to MARK.
  unfoldable pub landed_unmarked_of : ℕ → Moved
  landed_unmarked_of key = cond (not (equals_key t q.c key) || is_splice t s)
      (answers q No)
      (readies (goes_to q (Mark Remove key) (record { p = q.p; n = q.n; c = q.c; s = s; r = 0 }))
      (Splice q.own s q.p))

  -- A REMOVE that is already marked has landed. If s is not own, somebody has cleaned up: answer yes; else go to CLEAN.
  unfoldable pub landed_marked_of : ℕ → Moved
  landed_marked_of key = cond (not (eqb s q.own))
      (answers q Yes)
      (goes_on (goes_to q (Clean Remove key) (record { p = q.p; n = q.n; c = 0; s = 0; r = q.r })))

  -- a REMOVE is marked exactly if its own is published
  unfoldable pub landed_remove_of : ℕ → Moved
  landed_remove_of key = cond q.unpublished (landed_unmarked_of key) (landed_marked_of key)

  -- A CONTAINS has landed, at LOOK. Answer yes exactly if c equals the key and s is not a splice.
  unfoldable pub landed_contains_of : ℕ → Moved
  landed_contains_of key = cond (equals_key t q.c key && not (is_splice t s)) (answers q Yes) (answers q No)

  -- no CONTAINS comes to WALK; if a state outside good form says so, it lands as at LOOK
  abbrev pub landed_of : Call → ℕ → Moved
  landed_of Add key = landed_add_of key
  landed_of Remove key = landed_remove_of key
  landed_of Contains key = landed_contains_of key

  -- while c is below the key the walk goes on; otherwise c has landed
  unfoldable pub walk_of : Call → ℕ → Moved
  walk_of call key = cond (below_key t q.c key) (onward_of call key) (landed_of call key)

  -- ---- the other places

  -- SKIP: when s is a splice, c := its next, stay; else prepare. The key is not looked at again.
  unfoldable pub skip_of : Call → ℕ → Moved
  skip_of call key = cond (is_splice t s)
      (goes_on (goes_to q (Skip call key) (record { p = q.p; n = q.n; c = next_at t s; s = 0; r = 0 })))
      (prepare_of q call key)

  -- ADDSWAP: next of p from n to own. Won: own is published, answer yes. Lost: go to BACK.
  unfoldable pub add_swap_of : Call → ℕ → Moved
  add_swap_of call key = swap_of t (record { row = q.p; from = q.n; to = q.own })
      (idling (published q)) Yes (to_back q call key)

  -- MARK: next of c from s to own. Won: own is published, r := s, go to CLEAN. Lost: go to REREAD.
  unfoldable pub mark_of : Call → ℕ → Moved
  mark_of call key = swap_of t (record { row = q.c; from = q.s; to = q.own })
      (goes_to (published q) (Clean call key) (record { p = q.p; n = q.n; c = 0; s = 0; r = q.s })) Nothing
      (goes_to q (Reread call key) (record { p = q.p; n = q.n; c = q.c; s = 0; r = 0 }))

  -- REREAD: when s is a splice, another party has removed the row: answer no; else next of own := s, go to MARK.
  unfoldable pub reread_of : Call → ℕ → Moved
  reread_of call key = cond (is_splice t s)
      (answers q No)
      (readies (goes_to q (Mark call key) (record { p = q.p; n = q.n; c = q.c; s = s; r = 0 })) (Link q.own s))

  -- CLEAN: next of p from n to r. Won: answer yes. Lost: go to BACK.
  unfoldable pub clean_of : Call → ℕ → Moved
  clean_of call key = swap_of t (record { row = q.p; from = q.n; to = q.r })
      (idling q) Yes (to_back q call key)

  -- BACK: n := next of p. When n is a splice, p := its back, stay; else c := n, go to WALK.
  unfoldable pub back_of : Call → ℕ → Moved
  back_of call key = let n = next_at t q.p in cond (is_splice t n)
      (goes_on (goes_to q (Back call key) (record { p = back_at t n; n = 0; c = 0; s = 0; r = q.r })))
      (goes_on (goes_to q (Walk call key) (record { p = q.p; n = n; c = n; s = 0; r = q.r })))

  -- LOOK below the key: c := next of s if s is a splice, else s. Stay.
  unfoldable pub look_on_of : Call → ℕ → Moved
  look_on_of call key = cond (is_splice t s)
      (goes_on (goes_to q (Look call key) (record { p = 0; n = 0; c = next_at t s; s = 0; r = 0 })))
      (goes_on (goes_to q (Look call key) (record { p = 0; n = 0; c = s; s = 0; r = 0 })))

  -- LOOK: on while c is below the key; otherwise c has landed
  unfoldable pub look_of : Call → ℕ → Moved
  look_of call key = cond (below_key t q.c key) (look_on_of call key) (landed_contains_of key)

-- the move of a party at its place; an idle party makes no access
abbrev pub move_at : Place → Table → Party → Moved
move_at Idle t q = record { party = q; said = Nothing; access = None; write = Untouched }
move_at (Walk call key) t q = walk_of t q call key
move_at (Skip call key) t q = skip_of t q call key
move_at (AddSwap call key) t q = add_swap_of t q call key
move_at (Mark call key) t q = mark_of t q call key
move_at (Reread call key) t q = reread_of t q call key
move_at (Clean call key) t q = clean_of t q call key
move_at (Back call key) t q = back_of t q call key
move_at (Look call key) t q = look_of t q call key
