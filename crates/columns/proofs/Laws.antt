-- The facts that specs/Claims states of columns.
-- Assumes nothing.
use lib.ListN.{get_or-eq_default, length-set}
use lib.Seq.{set_out, get_or-set_same, get_or-set_other}
use Rattle.columns.specs.Claims.{ReadsZeroPast, WritesNothingPast, ReadsWhatWasPut, KeepsOtherRows, KeepsLength}

pub reads_zero_past : ReadsZeroPast
reads_zero_past column row past = get_or-eq_default column 0 past

pub writes_nothing_past : WritesNothingPast
writes_nothing_past column row value past = set_out column row value past

pub reads_what_was_put : ReadsWhatWasPut
reads_what_was_put column row value inside = get_or-set_same column row value 0 inside

pub keeps_other_rows : KeepsOtherRows
keeps_other_rows column row other value differs = get_or-set_other column row other value 0 differs

pub keeps_length : KeepsLength
keeps_length column row value = length-set column row value
