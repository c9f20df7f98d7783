-- The lines of the first keys of several, as the loop over them puts them.
-- Assumes nothing.
use Rattle.std.proofs.Common.{◌≡◌, refl, List, [], ℕ, ◌+◌, ◌<◌, length, get_or, take}
use Rattle.page.specs.Page.{Page, put}
use Rattle.page.proofs.Laws.{put_nothing, each_more}
use Rattle.report.specs.Lines.{key_line, key_lines}

-- no key
pub keys_nothing : (p : Page) → put p (key_lines []) ≡ p
unfolding key_lines
keys_nothing = put_nothing

-- one key more
pub keys_more : (p : Page) (keys : List ℕ) (i : ℕ) → i < length keys →
    put p (key_lines (take (i + 1) keys)) ≡ put (put p (key_lines (take i keys))) (key_line (get_or keys i 0))
unfolding key_lines
keys_more p keys i = each_more key_lines key_line refl (λ first rest. refl) p keys i 0
