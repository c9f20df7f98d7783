-- The examples of document 01, "Examples to prove", in one table, and one statement over all of them.
use Rattle.std.specs.Prelude.{List, [], ◌∷◌, ◌++◌, ℕ}
use Rattle.refusal.specs.Answer.{accepted}
use Rattle.calls.specs.declared.Call.TheVariants.{Add, Remove}
use Rattle.list_party.specs.declared.Place.{Place}
use Rattle.list_party.specs.declared.Place.TheVariants.{Idle, Walk, Mark, Reread, Clean, Back}
use Rattle.calls.specs.Words.{yes, no}
use Rattle.list.specs.Run.{calls, moves, going}
use Rattle.logic.specs.Quoted.{bytes}
use Rattle.examples.specs.Example.{
  Standing,
  Stage,
  Example,
  field,
  list,
  schedule,
  AllHold,
  listed,
  alone,
  only_moves,
  silent,
  by_move,
}

-- the codes of the calls
abbrev add : ℕ
add = 0

abbrev remove : ℕ
remove = 1

abbrev contains : ℕ
contains = 2

-- ---- stages that several examples share

-- key 5 is in, by three moves of which one won a swap; the list has these parties
abbrev with_five : List Place → Standing
with_five parties = record {
  places = parties;
  listing = listed (5 ∷ []);
  taken = 5;
  tallies = record { moves = 3; won = 1; lost = 0 };
}

-- party 0 adds 5 to an empty list; the list has these parties, all at rest
abbrev five_added : List Place → Stage
five_added parties = record { events = alone 0 add 5 3; answers = by_move 3 yes; after = with_five parties }

-- of two parties, party 0 has marked 5, which thereby is gone, and stands at CLEAN
abbrev five_marked : List Stage
five_marked =
    five_added (Idle ∷ Idle ∷ [])
    ∷ record {
      events = alone 0 remove 5 3;
      answers = silent 4;
      after = record {
        places = Clean Remove 5 ∷ Idle ∷ [];
        listing = listed [];
        taken = 6;
        tallies = record { moves = 6; won = 2; lost = 0 };
      };
    }
    ∷ []

-- ---- the table

-- four bytes of a field are 256 low byte first and 65,536 high byte first
abbrev pub E1 : Example
E1 = field (0 ∷ 1 ∷ 0 ∷ 0 ∷ []) (accepted 256) (accepted 65536)

-- a fresh list has no keys and has taken four rows
abbrev pub E2 : Example
E2 = list 8 1
    (record {
      events = [];
      answers = [];
      after = record { places = Idle ∷ []; listing = listed []; taken = 4; tallies = only_moves 0 };
    }
    ∷ [])

-- an ADD alone on an empty list is answered yes by its third move
abbrev pub E3 : Example
E3 = list 8 1 (five_added (Idle ∷ []) ∷ [])

-- a REMOVE on an empty list is answered no by its second move; the party's next ADD takes no row: it has the
-- REMOVE's, and T stays 5
abbrev pub E4 : Example
E4 = list 8 1
    (record {
      events = alone 0 remove 5 2;
      answers = by_move 2 no;
      after = record { places = Idle ∷ []; listing = listed []; taken = 5; tallies = only_moves 2 };
    }
    ∷ record {
      events = calls 0 add 7 ∷ [];
      answers = going ∷ [];
      after = record { places = Walk Add 7 ∷ []; listing = listed []; taken = 5; tallies = only_moves 2 };
    }
    ∷ record {
      events = moves 0 ∷ moves 0 ∷ moves 0 ∷ [];
      answers = going ∷ going ∷ accepted yes ∷ [];
      after = record {
        places = Idle ∷ [];
        listing = listed (7 ∷ []);
        taken = 5;
        tallies = record { moves = 5; won = 1; lost = 0 };
      };
    }
    ∷ [])

-- a CONTAINS on an empty list is answered no by its second move
abbrev pub E5 : Example
E5 = list 8 1
    (record {
      events = alone 0 contains 5 2;
      answers = by_move 2 no;
      after = record { places = Idle ∷ []; listing = listed []; taken = 4; tallies = only_moves 2 };
    }
    ∷ [])

-- a REMOVE of the only key is answered yes by its fourth move
abbrev pub E6 : Example
E6 = list 8 1
    (five_added (Idle ∷ [])
    ∷ record {
      events = alone 0 remove 5 4;
      answers = by_move 4 yes;
      after = record {
        places = Idle ∷ [];
        listing = listed [];
        taken = 6;
        tallies = record { moves = 7; won = 3; lost = 0 };
      };
    }
    ∷ [])

-- while key 5 is marked and not cleaned, a CONTAINS of 5 is answered no by its second move
abbrev pub E7 : Example
E7 = list 12 2
    (five_marked
    ++ (record {
      events = alone 1 contains 5 2;
      answers = by_move 2 no;
      after = record {
        places = Clean Remove 5 ∷ Idle ∷ [];
        listing = listed [];
        taken = 6;
        tallies = record { moves = 8; won = 2; lost = 0 };
      };
    }
    ∷ []))

-- 5 is in again, while the party that marked it still stands at CLEAN
abbrev five_again : Standing
five_again = record {
  places = Clean Remove 5 ∷ Idle ∷ [];
  listing = listed (5 ∷ []);
  taken = 7;
  tallies = record { moves = 10; won = 3; lost = 0 };
}

-- from the state of E7 before its CONTAINS an ADD of 5 by the other party is answered yes by its fourth move; the
-- remover then loses CLEAN, and two moves later is answered yes
abbrev pub E8 : Example
E8 = list 12 2
    (five_marked
    ++ (record { events = alone 1 add 5 4; answers = by_move 4 yes; after = five_again }
    ∷ record {
      events = moves 0 ∷ [];
      answers = going ∷ [];
      after = record {
        places = Back Remove 5 ∷ Idle ∷ [];
        listing = listed (5 ∷ []);
        taken = 7;
        tallies = record { moves = 11; won = 3; lost = 1 };
      };
    }
    ∷ record {
      events = moves 0 ∷ moves 0 ∷ [];
      answers = going ∷ accepted yes ∷ [];
      after = record {
        places = Idle ∷ Idle ∷ [];
        listing = listed (5 ∷ []);
        taken = 7;
        tallies = record { moves = 13; won = 3; lost = 1 };
      };
    }
    ∷ []))

-- two REMOVEs of 5 come to MARK: party 0 wins its swap and takes the key out; party 1 loses, rereads, and is answered
-- no; party 0 cleans up, and is answered yes
abbrev pub E9 : Example
E9 = list 12 2
    (five_added (Idle ∷ Idle ∷ [])
    ∷ record {
      events = alone 0 remove 5 2 ++ alone 1 remove 5 2;
      answers = silent 6;
      after = record {
        places = Mark Remove 5 ∷ Mark Remove 5 ∷ [];
        listing = listed (5 ∷ []);
        taken = 7;
        tallies = record { moves = 7; won = 1; lost = 0 };
      };
    }
    ∷ record {
      events = moves 0 ∷ [];
      answers = going ∷ [];
      after = record {
        places = Clean Remove 5 ∷ Mark Remove 5 ∷ [];
        listing = listed [];
        taken = 7;
        tallies = record { moves = 8; won = 2; lost = 0 };
      };
    }
    ∷ record {
      events = moves 1 ∷ [];
      answers = going ∷ [];
      after = record {
        places = Clean Remove 5 ∷ Reread Remove 5 ∷ [];
        listing = listed [];
        taken = 7;
        tallies = record { moves = 9; won = 2; lost = 1 };
      };
    }
    ∷ record {
      events = moves 1 ∷ [];
      answers = accepted no ∷ [];
      after = record {
        places = Clean Remove 5 ∷ Idle ∷ [];
        listing = listed [];
        taken = 7;
        tallies = record { moves = 10; won = 2; lost = 1 };
      };
    }
    ∷ record {
      events = moves 0 ∷ [];
      answers = accepted yes ∷ [];
      after = record {
        places = Idle ∷ Idle ∷ [];
        listing = listed [];
        taken = 7;
        tallies = record { moves = 11; won = 3; lost = 1 };
      };
    }
    ∷ [])

-- the smallest and the largest key, entered the other way round, are listed in this order
abbrev pub E10 : Example
E10 = list 8 1
    (record {
      events = alone 0 add 4294967295 3;
      answers = by_move 3 yes;
      after = record {
        places = Idle ∷ [];
        listing = listed (4294967295 ∷ []);
        taken = 5;
        tallies = record { moves = 3; won = 1; lost = 0 };
      };
    }
    ∷ record {
      events = alone 0 add 0 3;
      answers = by_move 3 yes;
      after = record {
        places = Idle ∷ [];
        listing = listed (0 ∷ 4294967295 ∷ []);
        taken = 6;
        tallies = record { moves = 6; won = 2; lost = 0 };
      };
    }
    ∷ [])

-- the run that document 01 spells out: two ADDs meet at one swap
abbrev pub E11 : Example
E11 = schedule
    (bytes "parties=2\nnodes=16\norder=big\ncall=0 add 00000005\ncall=1 add 00000007\n"
    ++ bytes "step=0\nstep=0\nstep=1\nstep=1\nstep=0\nstep=1\nstep=1\nstep=1\nstep=1\nstep=1\nend=12\n")
    (bytes "answer=0 add 5 yes\nanswer=1 add 7 yes\nkey=5\nkey=7\nmoves=10\nwon=2\nlost=1\ntaken=6\n")

abbrev pub table : List Example
table = E1 ∷ E2 ∷ E3 ∷ E4 ∷ E5 ∷ E6 ∷ E7 ∷ E8 ∷ E9 ∷ E10 ∷ E11 ∷ []

-- each of them holds
abbrev pub ExamplesHold : Type 0
ExamplesHold = AllHold table
