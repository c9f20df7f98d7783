-- A column read entry by entry is a column tested row by row.
-- Assumes nothing.
use mathlib.Core.Path.{◌≡◌, ap, ◌∙◌}
use mathlib.Core.List.{List}
use Prim.Native.Nat.{ℕ}
use lib.ListN.{length}
use Rattle.logic.proofs.Every.{every_listed}
use Rattle.logic.specs.Every.{every}
use Rattle.list_party.specs.declared.State.{State}
use Rattle.list_party.specs.Party.{blank}
use Rattle.list_party.specs.State.{party_at}
use Rattle.list_form.specs.Form.{
  kind_fits,
  key_fits,
  link_fits,
  all_pass,
  kinds_fit,
  keys_fit,
  links_fit,
  party_fits,
  parties_fit,
}

pub kinds_passed : (kind : List ℕ) (taken : ℕ) → all_pass (kind_fits taken) kind ≡ kinds_fit kind taken
unfolding kinds_fit
kinds_passed kind taken = every_listed (kind_fits taken) kind 0

pub keys_passed : (key : List ℕ) (taken : ℕ) → all_pass (key_fits taken) key ≡ keys_fit key taken
unfolding keys_fit
keys_passed key taken = every_listed (key_fits taken) key 0

pub links_passed : (links : List ℕ) (taken : ℕ) → all_pass (link_fits taken) links ≡ links_fit links taken
unfolding links_fit
links_passed links taken = every_listed (link_fits taken) links 0

pub ruleset rows_passed = (kinds_passed, keys_passed, links_passed)

pub parties_passed : (st : State) → length st.parties ≡ 16 → all_pass (party_fits st.taken st.count) st.parties ≡ parties_fit st
unfolding parties_fit
parties_passed st sixteen =
    every_listed (party_fits st.taken st.count) st.parties blank ∙ ap (every (λ i. party_fits st.taken st.count i (party_at st i))) sixteen
