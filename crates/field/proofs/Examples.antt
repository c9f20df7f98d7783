-- The examples, each computed by the checker.
-- Assumes nothing.
use mathlib.Core.Path.{refl}
use Rattle.field.specs.Layout.{number_in, bytes_in}
use Rattle.field.specs.Field.{field_at, stored, field_tests, load_of, store_of}
use Rattle.field.specs.Examples.{LoadedInWrongOrder, LoadedInRightOrder, FieldEnds, OrderFirst}

pub loaded_in_wrong_order : LoadedInWrongOrder
unfolding load_of store_of field_tests field_at stored number_in bytes_in
loaded_in_wrong_order = (refl, refl, refl)

pub loaded_in_right_order : LoadedInRightOrder
unfolding load_of store_of field_tests field_at stored number_in bytes_in
loaded_in_right_order = (refl, refl, refl)

pub field_ends : FieldEnds
unfolding load_of store_of field_tests field_at stored number_in bytes_in
field_ends = (refl, refl, refl, refl, refl, refl)

pub order_first : OrderFirst
unfolding load_of store_of field_tests
order_first = (refl, refl)
