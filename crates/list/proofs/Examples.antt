-- The examples, each computed by the checker.
-- Assumes nothing.
use mathlib.Core.Path.{refl}
use Rattle.list_rows.specs.Order.{rank}
use Rattle.list_moves.specs.Moves.{
  prepare_of,
  onward_of,
  landed_add_of,
  landed_unmarked_of,
  landed_marked_of,
  landed_remove_of,
  landed_contains_of,
  walk_of,
  skip_of,
  add_swap_of,
  mark_of,
  reread_of,
  clean_of,
  back_of,
  look_on_of,
  look_of,
}
use Rattle.list_unchecked.specs.Unchecked.{begun_of, unchecked_call, unchecked_move}
use Rattle.list_form.specs.Form.{kinds_fit, keys_fit, links_fit, record_fits, parties_fit, good_rows, good_parties, good_form}
use Rattle.list_chain.specs.Chain.{rises, live_from}
use Rattle.list.specs.Engine.{set_up_of, call_of, move_of, list_of}
use Rattle.list.specs.Run.{run, replies}
use Rattle.list.specs.Examples.{Examples}

pub examples : Examples
unfolding run replies set_up_of call_of move_of list_of rises live_from good_rows good_parties good_form kinds_fit keys_fit links_fit record_fits
    parties_fit unchecked_call begun_of unchecked_move walk_of onward_of landed_add_of landed_unmarked_of landed_marked_of landed_remove_of
    landed_contains_of prepare_of skip_of add_swap_of mark_of reread_of clean_of back_of look_on_of look_of rank
examples = (
  (refl, refl),
  (refl, refl),
  (refl, refl, refl, refl, refl, refl, refl, refl),
  (refl, refl, refl, refl, refl),
)
