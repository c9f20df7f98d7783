-- The head of a schedule: its first three lines (document 01, "The schedule program").
use Rattle.std.specs.Prelude.{Option, None, Some, List, cond, ◌&&◌, ◌||◌, ℕ, eqb, leb}
use Rattle.text.specs.Reading.{lost, word, only, numeral, number_at}
use Rattle.logic.specs.Quoted.{bytes}
use Rattle.text.specs.declared.Reading.{Reading}
use Rattle.script.specs.Lines.{line_end}
use Rattle.script.specs.declared.Head.{Head}

-- parties=, 1 to 16
unfoldable pub parties_line : List ℕ → Reading ℕ
parties_line text =
    let n = number_at text (word text 0 (bytes "parties=")) in
    numeral n.value (only (leb 1 n.value && leb n.value 16) (line_end text n.next))

-- nodes=0 stands for 64
unfoldable pub rows_of : ℕ → ℕ
rows_of nodes = cond (eqb nodes 0) 64 nodes

-- nodes=, 0 or 4 to 4,096
unfoldable pub nodes_line : List ℕ → ℕ → Reading ℕ
nodes_line text at =
    let n = number_at text (word text at (bytes "nodes=")) in
    numeral (rows_of n.value)
    (only (eqb n.value 0 || (leb 4 n.value && leb n.value 4096)) (line_end text n.next))

-- order=big is order code 0, order=little is 1
unfoldable pub order_line : List ℕ → ℕ → Reading ℕ
order_line text at =
    let big = word text at (bytes "order=big\n") in
    let little = word text at (bytes "order=little\n") in
    cond (eqb big lost) (numeral 1 little) (numeral 0 big)

-- ---- the three together

-- the number of the first of the three lines that is lost
unfoldable pub first_lost : (parties nodes order : ℕ) → Option ℕ
first_lost parties nodes order =
    cond (eqb parties lost) (Some 1) (cond (eqb nodes lost) (Some 2) (cond (eqb order lost) (Some 3) None))

-- each line starts where the one before it ends; in a head with a bad line the other values mean nothing
unfoldable pub head_of : List ℕ → Head
head_of text =
    let p = parties_line text in
    let n = nodes_line text p.next in
    let o = order_line text n.next in
    record {
      parties = p.value;
      nodes = n.value;
      order = o.value;
      next = o.next;
      bad = first_lost p.next n.next o.next;
    }
