-- Whole texts and their whole outputs, computed by the checker: refusals, both byte orders, and bad texts of many
-- kinds. (The run of document 01: `examples`.)
use Rattle.std.specs.Prelude.{◌≡◌, ◌++◌}
use Prim.Native.String.{String}
use Rattle.logic.specs.Quoted.{bytes}
use Rattle.script.specs.Head.{head_of}
use Rattle.list_replay.specs.Output.{output_of}

-- this text has this output
abbrev pub Gives : (text output : String) → Type 0
Gives text output = output_of (bytes text) ≡ bytes output

-- the smallest text, and one that meets a refusal 4, 5, 7 and 8 in turn
pub record Runs : Type 0 where
  pub empty : Gives "parties=1\nnodes=4\norder=big\nend=0\n" "moves=0\nwon=0\nlost=0\ntaken=4\n"
  pub refusals : output_of
      (bytes "parties=1\nnodes=4\norder=big\ncall=1 add 00000001\ncall=0 contains FFFFFFfe\ncall=0 add 00000001\n"
      ++ bytes "step=0\nstep=0\ncall=0 remove 00000001\nstep=0\nend=7\n")
      ≡ bytes "refused=4 4\nrefused=6 5\nanswer=0 contains 4294967294 no\nrefused=9 7\nrefused=10 8\n"
      ++ bytes "moves=2\nwon=0\nlost=0\ntaken=4\n"
  -- what 0 nodes stand for
  pub nodes_0 : (head_of (bytes "parties=1\nnodes=0\norder=big\nend=0\n")).nodes ≡ 64
  -- the same field in both orders
  pub big : Gives "parties=1\nnodes=8\norder=big\ncall=0 add 00010000\nstep=0\nstep=0\nstep=0\nend=4\n"
      "answer=0 add 65536 yes\nkey=65536\nmoves=3\nwon=1\nlost=0\ntaken=5\n"
  pub little : Gives "parties=1\nnodes=8\norder=little\ncall=0 add 00010000\nstep=0\nstep=0\nstep=0\nend=4\n"
      "answer=0 add 256 yes\nkey=256\nmoves=3\nwon=1\nlost=0\ntaken=5\n"

-- the head: missing, out of range, with a leading zero, a space or CR, or in capitals
pub record BadHeads : Type 0 where
  pub nothing_at_all : Gives "" "bad=1\n"
  pub no_parties : Gives "parties=0\nnodes=0\norder=big\nend=0\n" "bad=1\n"
  pub many_parties : Gives "parties=17\nnodes=0\norder=big\nend=0\n" "bad=1\n"
  pub leading_zero : Gives "parties=02\nnodes=0\norder=big\nend=0\n" "bad=1\n"
  pub space : Gives "parties= 2\nnodes=0\norder=big\nend=0\n" "bad=1\n"
  pub capitals : Gives "Parties=2\nnodes=0\norder=big\nend=0\n" "bad=1\n"
  pub zero_in_nodes : Gives "parties=2\nnodes=016\norder=big\nend=0\n" "bad=2\n"
  pub few_nodes : Gives "parties=2\nnodes=3\norder=big\nend=0\n" "bad=2\n"
  pub many_nodes : Gives "parties=2\nnodes=4097\norder=big\nend=0\n" "bad=2\n"
  pub no_nodes : Gives "parties=2\norder=big\nend=0\n" "bad=2\n"
  pub no_order : Gives "parties=2\nnodes=0\norder=bog\nend=0\n" "bad=3\n"
  pub carriage_return : Gives "parties=2\nnodes=0\norder=big\r\nend=0\n" "bad=3\n"

-- a line of the body
pub record BadLines : Type 0 where
  pub party_over_99 : Gives "parties=2\nnodes=0\norder=big\nstep=100\nend=1\n" "bad=4\n"
  pub party_with_zero : Gives "parties=2\nnodes=0\norder=big\nstep=00\nend=1\n" "bad=4\n"
  pub called_over_99 : Gives "parties=2\nnodes=0\norder=big\ncall=100 add 00000005\nend=1\n" "bad=4\n"
  pub return_in_body : Gives "parties=2\nnodes=0\norder=big\nstep=0\r\nend=1\n" "bad=4\n"
  pub seven_digits : Gives "parties=2\nnodes=0\norder=big\ncall=0 add 0000005\nend=1\n" "bad=4\n"
  pub nine_digits : Gives "parties=2\nnodes=0\norder=big\ncall=0 add 000000005\nend=1\n" "bad=4\n"
  pub no_digit : Gives "parties=2\nnodes=0\norder=big\ncall=0 add 0000000g\nend=1\n" "bad=4\n"
  pub no_such_call : Gives "parties=2\nnodes=0\norder=big\ncall=0 find 00000005\nend=1\n" "bad=4\n"
  pub two_spaces : Gives "parties=2\nnodes=0\norder=big\ncall=0  add 00000005\nend=1\n" "bad=4\n"
  pub blank_line : Gives "parties=2\nnodes=0\norder=big\nstep=0\n\nend=1\n" "bad=5\n"

-- the end: missing, without LF, with a wrong number or one far too large, or with bytes behind it
pub record BadEnds : Type 0 where
  pub no_end : Gives "parties=2\nnodes=0\norder=big\nstep=0\n" "bad=5\n"
  pub no_line_end : Gives "parties=2\nnodes=0\norder=big\nend=0" "bad=4\n"
  pub too_many : Gives "parties=2\nnodes=0\norder=big\nstep=0\nend=2\n" "bad=5\n"
  pub too_few : Gives "parties=2\nnodes=0\norder=big\nstep=0\nend=0\n" "bad=5\n"
  pub zero_in_end : Gives "parties=2\nnodes=0\norder=big\nend=00\n" "bad=4\n"
  pub far_too_many : Gives "parties=2\nnodes=0\norder=big\nend=18446744073709551616\n" "bad=4\n"
  pub text_behind : Gives "parties=2\nnodes=0\norder=big\nend=0\nstep=0\n" "bad=5\n"
  pub blank_behind : Gives "parties=2\nnodes=0\norder=big\nend=0\n\n" "bad=5\n"

pub record Examples : Type 0 where
  pub runs : Runs
  pub heads : BadHeads
  pub lines : BadLines
  pub ends : BadEnds
