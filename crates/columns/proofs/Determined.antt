-- The contracts of this crate leave one outcome each, whatever a column's entries are.
-- Assumes nothing.
use Rattle.logic.specs.Outcome.{OneOutcome}
use Rattle.logic.proofs.Outcome.{by_equation}
use Rattle.columns.proofs.read.Reads as read
use Rattle.columns.proofs.write.Reads as write
use Rattle.columns.proofs.clear.Reads as clear

-- the answer of a read (a column lent by & cannot change); what stands before a contract here is the type of an entry with its bounds
pub read_fixed : (T : _) (laws : _) (copy : _) (entry : _) (entries : _) (clone : _) (clones : _) →
    OneOutcome (read.Post T laws copy entry entries clone clones) (λ κs answer exit. answer)
read_fixed T laws copy entry entries clone clones κs given answer₁ answer₂ exit₁ exit₂ = by_equation

-- what the column holds after a write
pub write_fixed : (T : _) (laws : _) (copy : _) (entry : _) (entries : _) (clone : _) (clones : _) →
    OneOutcome (write.Post T laws copy entry entries clone clones) (λ κs answer exit. exit.0.now)
write_fixed T laws copy entry entries clone clones κs given answer₁ answer₂ exit₁ exit₂ = by_equation

-- what the column holds once it is cleared
pub clear_fixed : (T : _) (laws : _) (copy : _) (entry : _) (entries : _) (clone : _) (clones : _) →
    OneOutcome (clear.Post T laws copy entry entries clone clones) (λ κs answer exit. exit.0.now)
clear_fixed T laws copy entry entries clone clones κs given answer₁ answer₂ exit₁ exit₂ = by_equation
