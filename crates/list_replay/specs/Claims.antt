-- What is proved of the output of schedules, beside the contract of `replay`.
use Rattle.std.specs.Prelude.{◌≡◌, List, ◌++◌, ℕ, ◌≤◌, length, drop, None}
use Rattle.refusal.specs.Answer.{accepted, left}
use Rattle.list_unchecked.specs.Unchecked.{Machine}
use Rattle.list.specs.Engine.{live_keys, places_with, list_of}
use Rattle.list.specs.Run.{event_of, fresh}
use Rattle.page.specs.Page.{Page, page, Wrote}
use Rattle.script.specs.Head.{head_of}
use Rattle.script.specs.Body.{body_of, first_bad}
use Rattle.list_replay.specs.Output.{plain, last_of, output_by, output_of}

-- events without tests of the form, and the listing, print what checked events and the live keys would
abbrev pub SameOutput : Type 0
SameOutput = (text : List ℕ) → output_by plain text ≡ output_of text

-- the list at the end of a good text
abbrev pub end_of : List ℕ → Machine
end_of text =
    let head = head_of text in
    last_of event_of head.order (fresh head.nodes head.parties) (body_of text head)

-- at the end of a good text a listing into 4,096 places is not refused, and lists the live keys
abbrev pub ListingStands : Type 0
ListingStands =
    (text places : List ℕ) → length text ≤ 65536 → first_bad text (head_of text) ≡ None → 4096 ≤ length places →
    let keys = live_keys (end_of text) in
    list_of (end_of text) places ≡ left (places_with keys places) (accepted (length keys))

-- no text has a longer output
abbrev pub OutputFits : Type 0
OutputFits = (text : List ℕ) → length (output_of text) ≤ 786432

-- so in a buffer of that size the whole output stands first, what was behind it stays, and the answer is its length
abbrev pub WholeOutput : Type 0
WholeOutput = (text out : List ℕ) (after : Page) → 786432 ≤ length out → Wrote (page out 0) (output_of text) after →
    after ≡ page (output_of text ++ drop (length (output_of text)) out) (length (output_of text))
