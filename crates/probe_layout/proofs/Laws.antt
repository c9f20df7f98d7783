-- Numbers read and written byte by byte, columns and party records read and written one by one.
-- Assumes nothing.
use mathlib.Core.Path.{◌≡◌, refl, ap, sym, ◌∙◌}
use mathlib.Core.List.{List, [], ◌∷◌, ◌++◌, append-nil}
use Prim.Native.Nat.{ℕ, zero, suc, ◌+◌, ◌*◌, ◌/◌, ◌%◌, ◌<◌}
use native.Mathlib.Nat.{mul-zero, mul-suc, not-suc-le-zero, le_of_suc-le-suc, div-one}
use native.Mathlib.Numerals.{add-one}
use native.Mathlib.Omega.{arith}
use lib.ListN.{length, take, get_or, set, drop}
use lib.Seq.{drop-length}
use Rattle.page.specs.Page.{Page, put}
use Rattle.page.proofs.Laws.{put_nothing, each_more}
use Rattle.field.specs.Layout.{bytes_in}
use Rattle.list_rows.specs.Table.{Table, tab}
use Rattle.probe_layout.proofs.Fitting.{Rooms}
use Rattle.probe_layout.specs.Layout.{kinds_in, keys_in, nexts_in, table_in}
use Rattle.probe_layout.specs.Bytes.{byte_at, two_at, four_at, each, low, one_by_one}

-- ---- a column that a loop reads, entry by entry

module _ {A : Type 0} (read : ℕ → A) (width : ℕ) where
  -- the entries before this one are read, the others as they were
  abbrev pub read_to : List A → (from i : ℕ) → List A
  read_to column from i = each read width i from ++ drop i column

  read_row : (column : List A) (from i : ℕ) {entry : A} → entry ≡ read (from + width * i) → i < length column →
      set (read_to column from i) i entry ≡ read_to column from (suc i)
  unfolding each
  read_row [] from i is inside = absurd (not-suc-le-zero inside)
  read_row (old ∷ rest) from zero is inside =
      let here : from + width * zero ≡ from = omega (arith, mul-zero width) in
      ap (λ (entry : A). entry ∷ rest) (is ∙ ap read here)
  read_row (old ∷ rest) from (suc i) is inside =
      let on : from + width * suc i ≡ from + width + width * i = omega (arith, mul-suc width i) in
      ap {B = List A} (λ (later : List A). read from ∷ later) (read_row rest (from + width) i (is ∙ ap read on) (le_of_suc-le-suc inside))

  pub read_one : (column : List A) (from i : ℕ) {now : List A} {entry : A} → now ≡ read_to column from i → entry ≡ read (from + width * i) →
      i < length column → set now i entry ≡ read_to column from (i + 1)
  read_one column from i is reads inside = rw (is, add-one) (read_row column from i reads inside)

  pub read_all : (column : List A) (from i : ℕ) {now : List A} → now ≡ read_to column from i → i ≡ length column →
      now ≡ each read width (length column) from
  read_all column from i is whole =
      is ∙ ap (read_to column from) whole ∙ ap (λ (l : List A). each read width (length column) from ++ l) (drop-length column)
      ∙ append-nil (each read width (length column) from)

  pub read_none : (column : List A) (from : ℕ) → column ≡ read_to column from 0
  unfolding each
  read_none column from = refl

-- four columns, each read behind the one before
pub table_told : (bytes : List ℕ) {t : Table} {kind key next back : List ℕ} {kinds keys nexts : ℕ} → Rooms bytes t →
    kinds ≡ kinds_in bytes → keys ≡ keys_in bytes → nexts ≡ nexts_in bytes →
    kind ≡ each (byte_at bytes) 1 (length t.kind) 363 →
    key ≡ each (four_at bytes) 4 (length t.key) (363 + kinds) →
    next ≡ each (two_at bytes) 2 (length t.next) (363 + kinds + 4 * keys) →
    back ≡ each (two_at bytes) 2 (length t.back) (363 + kinds + 4 * keys + 2 * nexts) →
    tab kind key next back ≡ table_in bytes
unfolding table_in
table_told bytes rooms kinds keys nexts a b c d =
    rw (a, b, c, d, kinds, keys, nexts, rooms.kinds, rooms.keys, rooms.nexts, rooms.backs)

-- ---- what a loop puts on a page, one by one

module _ {A : Type 0} (bytes_of : A → List ℕ) (p : Page) where
  pub row_nothing : put p (one_by_one bytes_of []) ≡ p
  unfolding one_by_one
  row_nothing = put_nothing p

  pub row_more : (l : List A) (i : ℕ) (entry : A) → entry ≡ get_or l i entry → i < length l →
      put p (one_by_one bytes_of (take (i + 1) l)) ≡ put (put p (one_by_one bytes_of (take i l))) (bytes_of entry)
  unfolding one_by_one
  row_more l i entry is inside =
      each_more (one_by_one bytes_of) bytes_of refl (λ first rest. refl) p l i entry inside
      ∙ ap (λ (e : A). put (put p (one_by_one bytes_of (take i l))) (bytes_of e)) (sym is)

-- ---- numbers

pub two_bytes : (number : ℕ) → number % 256 ∷ number / 256 % 256 ∷ [] ≡ low 2 number
unfolding bytes_in
two_bytes number = ap (λ (n : ℕ). n % 256 ∷ number / 256 % 256 ∷ []) (sym (div-one number))

-- the low two bytes of a number are those of its rest
pub low_two_alone : (number : ℕ) → low 2 (number % 65536) ≡ low 2 number
unfolding bytes_in
low_two_alone number =
    let first : number % 65536 / 1 % 256 ≡ number / 1 % 256 = omega arith in
    let second : number % 65536 / 256 % 256 ≡ number / 256 % 256 = omega arith in
    rw (first, second)

pub four_bytes : (number : ℕ) → number % 256 ∷ number / 256 % 256 ∷ number / 65536 % 256 ∷ number / 16777216 % 256 ∷ [] ≡ low 4 number
unfolding bytes_in
four_bytes number = ap (λ (n : ℕ). n % 256 ∷ number / 256 % 256 ∷ number / 65536 % 256 ∷ number / 16777216 % 256 ∷ []) (sym (div-one number))

-- a byte is its own low byte
pub one_byte : (byte : ℕ) → byte < 256 → low 1 byte ≡ byte ∷ []
unfolding bytes_in
one_byte byte small = let same : byte / 1 % 256 ≡ byte = omega arith in rw same
