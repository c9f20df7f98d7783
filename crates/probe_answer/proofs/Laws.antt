-- What an outcome comes to, which question is asked, the columns that are lent to it, and bytes that fit or do not.
-- Assumes nothing.
use mathlib.Core.Path.{◌≡◌, ap, sym, ◌∙◌}
use mathlib.Core.Bool.{true, false}
use mathlib.Core.List.{List, [], ◌∷◌}
use Prim.Native.Nat.{ℕ, ◌≤◌}
use Rattle.std.proofs.lemmas.List.{take-replicate}
use lib.ListN.{length, take, replicate, length-replicate}
use Rattle.list_rows.specs.Table.{Table, tab}
use Rattle.list_party.specs.declared.State.{State}
use Rattle.list_unchecked.specs.Unchecked.{machine}
use Rattle.probe_layout.specs.declared.Question.{Question}
use Rattle.probe_layout.specs.Layout.{places_in, question_in, rooms_fit, table_into, state_in, fits}
use Rattle.probe_layout.proofs.Fitting.{fit_of, rooms_fit_lem, table_read}
use Rattle.probe_answer.specs.Probe.{Seen, unwritten, seen_by, seen_of}
use Rattle.probe_answer.specs.Probe.{seen_bytes, probe_of}

-- the question of the bytes, on the state that came with it
pub seen_told : (bytes : List ℕ) (came : Table) {t : Table} {asked : Question} {st : State} {places : List ℕ} {seen : Seen} → rooms_fit bytes came ≡ true →
    t ≡ table_into bytes came → asked ≡ question_in bytes → st ≡ state_in bytes → places ≡ unwritten (places_in bytes) →
    seen ≡ seen_by asked.what (machine t st) asked.party asked.code asked.key places → seen ≡ seen_of bytes
unfolding seen_of
seen_told bytes came fit tables question states rooms e = rw (tables ∙ sym (table_read bytes came fit), question, states, rooms) at e

-- ---- columns lent as far as a question says

pub part_long : (value total n : ℕ) → n ≤ total → n ≡ length (take n (replicate total value))
part_long value total n h = rw (take-replicate n total value h) (sym (length-replicate n value))

-- no length of the question is more than this
pub record AtMost (total : ℕ) (asked : Question) : Type 0 where
  pub places : asked.places ≤ total
  pub kinds : asked.kinds ≤ total
  pub keys : asked.keys ≤ total
  pub nexts : asked.nexts ≤ total
  pub backs : asked.backs ≤ total

pub at_most : (bytes : List ℕ) {asked : Question} → asked ≡ question_in bytes → fits bytes ≡ true → AtMost 4200 asked
at_most bytes is fit =
    let f = fit_of bytes fit in
    rw is (record { places = f.places; kinds = f.kinds; keys = f.keys; nexts = f.nexts; backs = f.backs })

pub rooms_lent : (bytes : List ℕ) (total : ℕ) {asked : Question} → asked ≡ question_in bytes → AtMost total asked →
    rooms_fit bytes
    (tab (take asked.kinds (replicate total 0)) (take asked.keys (replicate total 0)) (take asked.nexts (replicate total 0))
    (take asked.backs (replicate total 0)))
    ≡ true
rooms_lent bytes total {asked} is most =
    rooms_fit_lem bytes _
    (record {
      kinds = sym (part_long 0 total asked.kinds most.kinds) ∙ ap (λ (q : Question). q.kinds) is;
      keys = sym (part_long 0 total asked.keys most.keys) ∙ ap (λ (q : Question). q.keys) is;
      nexts = sym (part_long 0 total asked.nexts most.nexts) ∙ ap (λ (q : Question). q.nexts) is;
      backs = sym (part_long 0 total asked.backs most.backs) ∙ ap (λ (q : Question). q.backs) is;
    })

pub places_lent : (bytes : List ℕ) (total : ℕ) {asked : Question} → asked ≡ question_in bytes → AtMost total asked →
    take asked.places (replicate total 4008636142) ≡ unwritten (places_in bytes)
places_lent bytes total {asked} is most =
    take-replicate asked.places total 4008636142 most.places ∙ ap (λ (q : Question). unwritten q.places) is

-- ---- bytes that fit, and bytes that do not

pub probe_fits : (bytes : List ℕ) → fits bytes ≡ true → seen_bytes (seen_of bytes) ≡ probe_of bytes
unfolding probe_of
probe_fits bytes fit = rw fit

pub probe_none : (bytes : List ℕ) → fits bytes ≡ false → 255 ∷ [] ≡ probe_of bytes
unfolding probe_of
probe_none bytes none = rw none
