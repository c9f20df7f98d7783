-- What is proved of lines on the list, beside the contracts.
use Rattle.std.specs.Prelude.{◌≡◌, true, false, ℕ, ◌≤◌}
use Rattle.refusal.specs.Answer.{accepted}
use Rattle.list_unchecked.specs.Unchecked.{Machine}
use Rattle.field.specs.Layout.{number_in}
use Rattle.field.specs.Field.{order_of, load_of}
use Rattle.list_form.specs.Form.{good_form}
use Rattle.list.specs.Engine.{bad_table}
use Rattle.list.specs.Run.{Event, event_of}
use Rattle.script.specs.declared.CallLine.{CallLine}
use Rattle.list_play.specs.Play.{plain_event, field_in}

-- on a state of good form, in columns of a length that the engine takes, the tests that are left out refuse nothing
abbrev pub PlainIsChecked : Type 0
PlainIsChecked = (m : Machine) (event : Event) → bad_table m.table ≡ false → good_form m ≡ true →
    plain_event m event ≡ event_of m event

-- the load of a line's key is not refused: the head names one of the two orders, and the field has four bytes
abbrev pub KeyLoads : Type 0
KeyLoads = (c : CallLine) (order : ℕ) → order ≤ 1 →
    load_of (field_in c) 0 order ≡ accepted (number_in (order_of order) (field_in c))
