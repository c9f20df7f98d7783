-- The counts of a history, as one record.
use Rattle.std.specs.Prelude.{ℕ, ◌+◌}

pub record Counts : Type 0 where
  pub calls : ℕ
  pub moves : ℕ
  pub won : ℕ
  pub lost : ℕ
  -- of the swaps won: add swaps, mark swaps
  pub adds : ℕ
  pub marks : ℕ
  -- keys brought in, keys taken out
  pub ins : ℕ
  pub outs : ℕ

abbrev pub no_counts : Counts
no_counts = record { calls = 0; moves = 0; won = 0; lost = 0; adds = 0; marks = 0; ins = 0; outs = 0 }

abbrev pub with_keys : (ins outs : ℕ) → Counts → Counts
with_keys ins outs c = record {
  calls = c.calls;
  moves = c.moves;
  won = c.won;
  lost = c.lost;
  adds = c.adds;
  marks = c.marks;
  ins = ins;
  outs = outs;
}

abbrev pub plus : Counts → Counts → Counts
plus a b = record {
  calls = a.calls + b.calls;
  moves = a.moves + b.moves;
  won = a.won + b.won;
  lost = a.lost + b.lost;
  adds = a.adds + b.adds;
  marks = a.marks + b.marks;
  ins = a.ins + b.ins;
  outs = a.outs + b.outs;
}
