-- The digits of a number, by a recursion on the number that they name.
use Rattle.page.proofs.Page.+put_number.Given as goal

abbrev pub decreases-put_number : goal.decreases-put_number
decreases-put_number l = l.n
