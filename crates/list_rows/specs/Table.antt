-- The table: the four columns as lists, its reads and its writes (document 01, "Rows and parties").
use Rattle.std.specs.Prelude.{◌≡◌, List, Bool, ℕ, eqb}
use Rattle.list_rows.specs.declared.Columns.{Columns}
use Rattle.list_rows.specs.declared.ColumnsMut.{ColumnsMut}
use Rattle.columns.specs.Column.{at, put}

pub record Table : Type 0 where
  pub kind : List ℕ
  pub key : List ℕ
  pub next : List ℕ
  pub back : List ℕ

abbrev pub tab : List ℕ → List ℕ → List ℕ → List ℕ → Table
tab kind key next back = record { kind = kind; key = key; next = next; back = back }

-- ---- the four lent columns as a table

-- lent to be read, by &
abbrev pub table_of : Columns → Table
table_of columns = tab columns.kind.now columns.key.now columns.next.now columns.back.now

-- lent to be changed, by &mut
abbrev pub table_held : ColumnsMut → Table
table_held columns = tab columns.kind.now columns.key.now columns.next.now columns.back.now

-- still the columns that were lent, and no others: what is written in them is written for who lent them
pub record SameColumns (before after : ColumnsMut) : Type 0 where
  pub kind : after.kind.ghost_name ≡ before.kind.ghost_name
  pub key : after.key.ghost_name ≡ before.key.ghost_name
  pub next : after.next.ghost_name ≡ before.next.ghost_name
  pub back : after.back.ghost_name ≡ before.back.ghost_name

-- ---- the end rows by their fixed numbers

abbrev pub head : ℕ
head = 0

abbrev pub head_nxt : ℕ
head_nxt = 1

abbrev pub tail : ℕ
tail = 2

-- its own number stands for none
abbrev pub tail_nxt : ℕ
tail_nxt = 3

-- ---- reads

abbrev pub kind_at : Table → ℕ → ℕ
kind_at t row = at t.kind row

abbrev pub key_at : Table → ℕ → ℕ
key_at t row = at t.key row

abbrev pub next_at : Table → ℕ → ℕ
next_at t row = at t.next row

abbrev pub back_at : Table → ℕ → ℕ
back_at t row = at t.back row

-- the kinds by number: 0 is an unused row, 1 an end row
abbrev pub is_item : Table → ℕ → Bool
is_item t row = eqb (kind_at t row) 2

abbrev pub is_splice : Table → ℕ → Bool
is_splice t row = eqb (kind_at t row) 3

-- ---- writes

-- next of a row becomes another row
abbrev pub link : Table → (row to : ℕ) → Table
link t row to = tab t.kind t.key (put t.next row to) t.back

-- all four entries of a row
abbrev pub with_row : Table → (row kind key next back : ℕ) → Table
with_row t row kind key next back =
    tab (put t.kind row kind) (put t.key row key) (put t.next row next) (put t.back row back)
