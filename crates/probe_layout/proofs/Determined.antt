-- The contracts of this crate leave one outcome each.
-- Assumes nothing.
use Rattle.logic.specs.Outcome.{OneOutcome}
use Rattle.logic.proofs.Outcome.{by_equation}
use Rattle.std.specs.Borrow.{GName}
use Rattle.list_rows.proofs.Lent as columns
use Rattle.list_rows.proofs.Lent.{names}
use Rattle.list_rows.specs.Table.{Table, table_held}
use Rattle.page.proofs.Determined.{held, one_lent}
use Rattle.probe_layout.proofs.question_in.Reads as question_in
use Rattle.probe_layout.proofs.read.fits.Reads as fits
use Rattle.probe_layout.proofs.read.state_in.Reads as state_in
use Rattle.probe_layout.proofs.read.read_table.Reads as read_table
use Rattle.probe_layout.proofs.write.put_two.Reads as put_two
use Rattle.probe_layout.proofs.bytes.put_all.Reads as put_all
use Rattle.probe_layout.proofs.write.put_machine.Reads as put_machine

-- ---- what is read

pub question_in_fixed : OneOutcome question_in.Post (λ κs answer exit. answer)
question_in_fixed κs given answer₁ answer₂ exit₁ exit₂ = by_equation

pub fits_fixed : OneOutcome fits.Post (λ κs answer exit. answer)
fits_fixed κs given answer₁ answer₂ exit₁ exit₂ = by_equation

pub state_in_fixed : OneOutcome state_in.Post (λ κs answer exit. answer)
state_in_fixed κs given answer₁ answer₂ exit₁ exit₂ = by_equation

-- the four columns, and whose they are
pub read_table_fixed : OneOutcome {Seen = Table × (GName × GName × GName × GName)} read_table.Post
    (λ κs answer exit. (table_held exit.1.0.now, names exit.1.0.now))
read_table_fixed κs given answer₁ answer₂ exit₁ exit₂ first second = columns.one_lent first.0 second.0 first.1 second.1

-- ---- what is put on a page: the page once it is there

pub put_two_fixed : OneOutcome put_two.Post (λ κs answer exit. held exit.0.now)
put_two_fixed κs given answer₁ answer₂ exit₁ exit₂ = one_lent

-- of a row of anything that stands in bytes
pub put_all_fixed : (T : _) (laws : _) (copy : _) (entry : _) (entries : _) (clone : _) (clones : _) →
    OneOutcome (put_all.Post T laws copy entry entries clone clones) (λ κs answer exit. held exit.0.now)
put_all_fixed T laws copy entry entries clone clones κs given answer₁ answer₂ exit₁ exit₂ = one_lent

pub put_machine_fixed : OneOutcome put_machine.Post (λ κs answer exit. held exit.0.now)
put_machine_fixed κs given answer₁ answer₂ exit₁ exit₂ = one_lent
