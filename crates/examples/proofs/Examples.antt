-- The table of examples, computed by the checker.
-- Assumes nothing.
use Prim.{tt}
use mathlib.Core.Path.{refl}
use Rattle.list_rows.specs.Order.{rank}
use Rattle.list_moves.specs.Moves.{
  prepare_of,
  onward_of,
  landed_add_of,
  landed_unmarked_of,
  landed_marked_of,
  landed_remove_of,
  landed_contains_of,
  walk_of,
  skip_of,
  add_swap_of,
  mark_of,
  reread_of,
  clean_of,
  back_of,
  look_on_of,
  look_of,
}
use Rattle.list_unchecked.specs.Unchecked.{begun_of, unchecked_call, unchecked_move}
use Rattle.list_form.specs.Form.{kinds_fit, keys_fit, links_fit, record_fits, parties_fit, good_rows, good_parties, good_form}
use Rattle.list_chain.specs.Chain.{rises, live_from}
use Rattle.field.specs.Layout.{number_in}
use Rattle.field.specs.Field.{field_tests, load_of}
use Rattle.field.specs.Field as field
use Rattle.list.specs.Engine.{set_up_of, call_of, move_of, list_of}
use Rattle.list.specs.Run.{run, replies}
use Rattle.text.specs.Reading.{word, place_after, digit_of, next_digit, hex_of, pair_at, field_at}
use Rattle.page.specs.Page.{digits}
use Rattle.report.specs.Lines.{asked_text, answer_line, refused_line, heard, reply_line, number_line, key_lines, tally_lines}
use Rattle.script.specs.Lines.{verb_at, call_line, step_line, end_line, line_at}
use Rattle.script.specs.Head.{rows_of, parties_line, nodes_line, order_line, first_lost, head_of}
use Rattle.script.specs.Body.{most_lines, body_from, end_bad, last_bad, bad_from, first_bad}
use Rattle.list_play.specs.Play.{loaded, line_of}
use Rattle.list_replay.specs.Output.{line_says, says_from, last_of, closing, output_by}
use Rattle.examples.specs.Table.{ExamplesHold}

pub examples_hold : ExamplesHold
unfolding word place_after digit_of next_digit hex_of pair_at field_at digits asked_text answer_line refused_line heard reply_line number_line
    key_lines tally_lines verb_at call_line step_line end_line line_at rows_of parties_line nodes_line order_line first_lost head_of most_lines
    body_from end_bad last_bad bad_from first_bad loaded line_of line_says says_from last_of closing output_by set_up_of call_of move_of rises
    live_from good_rows good_parties good_form kinds_fit keys_fit links_fit record_fits parties_fit unchecked_call begun_of unchecked_move walk_of
    onward_of landed_add_of landed_unmarked_of landed_marked_of landed_remove_of landed_contains_of prepare_of skip_of add_swap_of mark_of reread_of
    clean_of back_of look_on_of look_of rank number_in field_tests load_of field.field_at run replies list_of
examples_hold = (refl, (refl, (refl, (refl, (refl, (refl, (refl, (refl, (refl, (refl, (refl, tt)))))))))))
