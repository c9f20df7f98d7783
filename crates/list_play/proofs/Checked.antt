-- On good form an event is the checked one, and the load of its key is accepted.
-- Assumes nothing.
use Prim.{Unit}
use mathlib.Core.Path.{◌≡◌, refl, ap, sym, ◌∙◌}
use native.Mathlib.Omega.{arith}
use Rattle.refusal.specs.Answer.{accepted, refused, Left, left, Tests, passed, leaving}
use Rattle.calls.specs.Words.{Word}
use Rattle.list_unchecked.specs.Unchecked.{Machine, unchecked_call}
use Rattle.list_form.specs.Form.{rows_in}
use Rattle.field.specs.Field.{field_at}
use Rattle.field.proofs.Promises.{loads_exactly}
use Rattle.list.specs.Engine.{call_asks}
use Rattle.calls.specs.Calls.{call_named}
use Rattle.list.specs.Run.{calls, moves, quiet, going}
use Rattle.list.proofs.Promises.{call_on_good_form, move_on_good_form}
use Rattle.list_play.specs.Play.{plain_event, field_in}
use Rattle.list_play.specs.Claims.{PlainIsChecked, KeyLoads}

-- a call as an event
abbrev heard : Left Machine (Unit {0}) → Left Machine Word
heard l = record { memory = l.memory; answer = quiet l.answer }

heard_leaving : (tests : Tests) (found changed : Machine) →
    leaving tests found (left changed going) ≡ heard (leaving tests found (left changed passed))
heard_leaving (accepted done) found changed = refl
heard_leaving (refused number) found changed = refl

pub plain_is_checked : PlainIsChecked
unfolding plain_event
plain_is_checked m (calls party code key) fits good =
    heard_leaving (call_asks m.state (rows_in m.table) party code) m (unchecked_call m party (call_named code) key)
    ∙ sym (ap heard (call_on_good_form m party code key fits good))
plain_is_checked m (moves party) fits good = sym (move_on_good_form m party fits good)

pub key_loads : KeyLoads
unfolding field_at
key_loads c order known = (loads_exactly (field_in c) 0 order).2 known (omega arith)
