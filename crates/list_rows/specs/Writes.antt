-- What a call or a move writes in the table.
use Rattle.list_rows.specs.declared.Write.{Write}
use Rattle.list_rows.specs.declared.Write.TheVariants.{Untouched, Link, Splice, Item}
use Rattle.list_rows.specs.Table.{Table, link, with_row}

-- as a splice: kind 3, key 0, its next, its back; as an item: kind 2, its key, next 0, back 0
abbrev pub written : Write → Table → Table
written Untouched t = t
written (Link row to) t = link t row to
written (Splice row to from) t = with_row t row 3 0 to from
written (Item row key) t = with_row t row 2 key 0 0
