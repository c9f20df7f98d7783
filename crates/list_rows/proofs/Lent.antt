-- Which slices a struct of lent columns holds, so that what they are known to hold is known of those who lent them.
-- Assumes nothing.
use Rattle.std.proofs.Common.{◌≡◌}
use Rattle.std.specs.Borrow.{GName}
use Rattle.list_rows.specs.declared.ColumnsMut.{ColumnsMut}
use Rattle.list_rows.specs.Table.{SameColumns}

-- the slices by name
abbrev pub names : ColumnsMut → GName × GName × GName × GName
names columns = (columns.kind.ghost_name, columns.key.ghost_name, columns.next.ghost_name, columns.back.ghost_name)

-- a fact of what is left, and that the slices are those that were lent: two such outcomes are one
pub one_lent : {A : Type 0} {a b is : A} {was left₁ left₂ : ColumnsMut} → a ≡ is → b ≡ is → SameColumns was left₁ → SameColumns was left₂ →
    ◌≡◌ {A = A × (GName × GName × GName × GName)} (a, names left₁) (b, names left₂)
one_lent e f first second =
    rw (e, f, first.kind, first.key, first.next, first.back, second.kind, second.key, second.next, second.back)
