-- A listing that is not refused has put as many keys as it says.
use Rattle.list_replay.proofs.Laws.{places_hold}
use Rattle.list_replay.proofs.put_live.Goals as goal

pub slice_bounds-places-end : goal.slice_bounds-places-end
slice_bounds-places-end c = places_hold _ _ c.in-Ok.ensures
