-- The bytes of one read more stand behind those that had come.
use Rattle.std.proofs.Common.{◌≡◌, ℕ, ◌+◌, ◌-◌, ◌≤◌, List, ◌++◌, rules, arith, length, take, slice_range, sym, ap, ◌∙◌, subst, le_refl, drop_at, length-take-le}
use Rattle.std.proofs.lemmas.Slice.{take-put_mid_below}
use Rattle.std.specs.Io.KnownBytes.{Consumes}
use Rattle.std.proofs.KnownBytes.{Consumes-trans}
use borrow.Rule.Slice.PartMut.{put_mid, post_of}
use lib.Seq.{take-add, take-append-le}
use Rattle.streams.proofs.read_full.Goals as goal

-- what a read wrote is what then stands from its place on
stands : (a k n : ℕ) (xs ys : List ℕ) → a ≤ length xs → n ≤ length ys → slice_range (put_mid a k xs ys) a (a + n) ≡ take n ys
stands a k n xs ys within fits =
    let same : (a + n) - a ≡ n = omega arith in
    let behind = post_of a k xs in
    ap (take ((a + n) - a)) (drop_at (take a xs) (ys ++ behind) a (length-take-le a xs within)) ∙ ap (λ m. take m (ys ++ behind)) same
    ∙ take-append-le n ys behind fits

joined : (a b : ℕ) (old new : List ℕ) → a ≤ b → take a new ≡ take a old → take a old ++ slice_range new a b ≡ take b new
joined a b old new on front =
    let same : a + (b - a) ≡ b = omega arith in
    ap (λ l. l ++ slice_range new a b) (sym front) ∙ sym (take-add a (b - a) new) ∙ ap (λ n. take n new) same

pub loop-done-preserved : goal.loop-done-preserved
loop-done-preserved g c =
    let from = c.loop-done.done in
    let left = length c.loop-done.room - from in
    let within = c.loop-done.invariant.within in
    let part = stands from left c.in_ok-n.n c.loop-done.room c.read.new.buf within c.in_ok-n.ensures.bound.0 in
    let whole = joined from (from + c.in_ok-n.n) c.loop-done.room (put_mid from left c.loop-done.room c.read.new.buf) (omega arith)
    (take-put_mid_below _ _ _ _ _ (le_refl _) within) in
    record {
      long = search rules;
      within = search rules;
      came = subst (Consumes _ _) (ap (λ l. take from c.loop-done.room ++ l) (sym part) ∙ whole)
          (Consumes-trans _ _ _ _ _ c.loop-done.invariant.came c.in_ok-n.ensures.bytes.0);
    }
