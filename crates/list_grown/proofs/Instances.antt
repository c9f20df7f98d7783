-- The instances, computed by the checker.
-- Assumes nothing.
use mathlib.Core.Path.{refl}
use Rattle.list_rows.specs.Order.{rank}
use Rattle.list_moves.specs.Moves.{
  prepare_of,
  onward_of,
  landed_add_of,
  landed_unmarked_of,
  landed_marked_of,
  landed_remove_of,
  landed_contains_of,
  walk_of,
  skip_of,
  add_swap_of,
  mark_of,
  reread_of,
  clean_of,
  back_of,
  look_on_of,
  look_of,
}
use Rattle.list_unchecked.specs.Unchecked.{begun_of, unchecked_call, unchecked_move}
use Rattle.list_form.specs.Form.{kinds_fit, keys_fit, links_fit, record_fits, parties_fit, good_rows, good_parties, good_form}
use Rattle.list_chain.specs.Chain.{rises, live_from}
use Rattle.list.specs.Engine.{set_up_of, call_of, move_of}
use Rattle.list.specs.Run.{run}
use Rattle.logic.specs.Keys.{has, extra}
use Rattle.list_grown.specs.History.{accepts_all}
use Rattle.list_grown.specs.Deeds.{counts_of}
use Rattle.list_grown.specs.Answers.{calls_not}
use Rattle.list_grown.specs.Instances.{Instances}

pub instances : Instances
unfolding run accepts_all counts_of calls_not set_up_of call_of move_of rises live_from good_rows good_parties good_form kinds_fit keys_fit links_fit
    record_fits parties_fit unchecked_call begun_of unchecked_move walk_of onward_of landed_add_of landed_unmarked_of landed_marked_of
    landed_remove_of landed_contains_of prepare_of skip_of add_swap_of mark_of reread_of clean_of back_of look_on_of look_of rank has extra
instances =
    record {
      run_of_01 = record { grows = record { set = refl; accepted = refl }; counts = refl };
      most_lost = record { grows = record { set = refl; accepted = refl }; counts = refl; reached = refl };
      most_won = record { grows = record { set = refl; accepted = refl }; counts = refl; reached = refl };
      traps = record {
        over_removed_leaves = record { grows = record { set = refl; accepted = refl }; keys_then = refl; chain_then = refl; counts_then = refl };
        past_removed_leaves = record { grows = record { set = refl; accepted = refl }; keys_then = refl; chain_then = refl; counts_then = refl };
        back_through = record { grows = record { set = refl; accepted = refl }; keys_then = refl; chain_then = refl; counts_then = refl };
        read_again_leaves = record { grows = record { set = refl; accepted = refl }; keys_then = refl; chain_then = refl; counts_then = refl };
        found_again_leaves = record { grows = record { set = refl; accepted = refl }; keys_then = refl; chain_then = refl; counts_then = refl };
        cleaned_up = refl;
      };
      too_late = record {
        answered = record { grows = record { set = refl; accepted = refl }; waits = refl; answer = refl };
        live_at_call = refl;
        gone_at_answer = refl;
      };
    }
