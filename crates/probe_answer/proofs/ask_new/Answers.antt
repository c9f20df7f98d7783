-- Columns lent as far as the question says.
use Rattle.probe_answer.proofs.Laws.{part_long, at_most, rooms_lent, places_lent}
use Rattle.probe_answer.proofs.ask_new.Goals as goal

pub slice_bounds-kind-end : goal.slice_bounds-kind-end
slice_bounds-kind-end c = rw c.from.ensures (at_most c.args.bytes.now c.question_in-asked.ensures c.requires).kinds

pub slice_bounds-engine-end : goal.slice_bounds-engine-end
slice_bounds-engine-end c = part_long 0 4200 _ (rw c.from.ensures (at_most c.args.bytes.now c.question_in-asked.ensures c.requires).kinds)

pub slice_bounds-key-end : goal.slice_bounds-key-end
slice_bounds-key-end c = rw c.from-2.ensures (at_most c.args.bytes.now c.question_in-asked.ensures c.requires).keys

pub slice_bounds-engine-end-2 : goal.slice_bounds-engine-end-2
slice_bounds-engine-end-2 c = part_long 0 4200 _ (rw c.from-2.ensures (at_most c.args.bytes.now c.question_in-asked.ensures c.requires).keys)

pub slice_bounds-next-end : goal.slice_bounds-next-end
slice_bounds-next-end c = rw c.from-3.ensures (at_most c.args.bytes.now c.question_in-asked.ensures c.requires).nexts

pub slice_bounds-engine-end-3 : goal.slice_bounds-engine-end-3
slice_bounds-engine-end-3 c = part_long 0 4200 _ (rw c.from-3.ensures (at_most c.args.bytes.now c.question_in-asked.ensures c.requires).nexts)

pub slice_bounds-back-end : goal.slice_bounds-back-end
slice_bounds-back-end c = rw c.from-4.ensures (at_most c.args.bytes.now c.question_in-asked.ensures c.requires).backs

pub slice_bounds-engine-end-4 : goal.slice_bounds-engine-end-4
slice_bounds-engine-end-4 c = part_long 0 4200 _ (rw c.from-4.ensures (at_most c.args.bytes.now c.question_in-asked.ensures c.requires).backs)

pub slice_bounds-places-end : goal.slice_bounds-places-end
slice_bounds-places-end c = rw c.from-5.ensures (at_most c.args.bytes.now c.question_in-asked.ensures c.requires).places

pub slice_bounds-ask_in-end : goal.slice_bounds-ask_in-end
slice_bounds-ask_in-end c = part_long 4008636142 4200 _ (rw c.from-5.ensures (at_most c.args.bytes.now c.question_in-asked.ensures c.requires).places)

pub ask_in-requires : goal.ask_in-requires
ask_in-requires c =
    let bytes = c.args.bytes.now in
    let is = c.question_in-asked.ensures in
    let most = at_most bytes is c.requires in
    rw (c.from.ensures, c.from-2.ensures, c.from-3.ensures, c.from-4.ensures, c.from-5.ensures) (rooms_lent bytes 4200 is most, places_lent bytes 4200 is most)
