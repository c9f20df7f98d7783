-- The contracts of this crate leave one outcome each.
-- Assumes nothing.
use Rattle.std.proofs.Common.{◌≡◌}
use Rattle.std.specs.Borrow.{GName}
use Rattle.logic.specs.Outcome.{OneOutcome}
use Rattle.logic.proofs.Outcome.{by_equation}
use Rattle.page.specs.declared.Page as lent
use Rattle.page.specs.Page.{Page, page_of}
use Rattle.page.proofs.Page.new.Reads as new
use Rattle.page.proofs.Page.put_byte.Reads as put_byte
use Rattle.page.proofs.Page.put.Reads as put
use Rattle.page.proofs.Page.put_number.Reads as put_number
use Rattle.page.proofs.Page.written.Reads as written

-- what is fixed of a lent page: what it is, and the reference that it holds, so that its buffer is known once it is dropped
abbrev pub held : lent.Page → Page × GName
held p = (page_of p, p.out.ghost_name)

pub one_lent : {a b is : Page} {of x y : GName} → (a ≡ is) × (x ≡ of) → (b ≡ is) × (y ≡ of) → ◌≡◌ {A = Page × GName} (a, x) (b, y)
one_lent e f = cc

pub new_fixed : OneOutcome new.Post (λ κs answer exit. held answer)
new_fixed κs given answer₁ answer₂ exit₁ exit₂ = one_lent

-- the page once the byte is put on
pub put_byte_fixed : OneOutcome put_byte.Post (λ κs answer exit. held exit.0.now)
put_byte_fixed κs given answer₁ answer₂ exit₁ exit₂ = one_lent

-- the page once the bytes are put on
pub put_fixed : OneOutcome put.Post (λ κs answer exit. held exit.0.now)
put_fixed κs given answer₁ answer₂ exit₁ exit₂ = one_lent

pub put_number_fixed : OneOutcome put_number.Post (λ κs answer exit. held exit.0.now)
put_number_fixed κs given answer₁ answer₂ exit₁ exit₂ = one_lent

pub written_fixed : OneOutcome written.Post (λ κs answer exit. answer.now)
written_fixed κs given answer₁ answer₂ exit₁ exit₂ = by_equation
