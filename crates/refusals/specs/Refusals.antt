-- Document 01's table of numbers with the places that go with them, and the numbers that document 02 adds (W-201, W-205, W-207, W-209).
use Rattle.std.specs.Prelude.{ℕ}
use Rattle.refusals.specs.declared.Refusal.{Refusal}
use Rattle.refusals.specs.declared.Refusal.TheVariants.{Unreadable, NotAllowed, FloorAbove, TooFewWeights, BadTerm, BadProposal, OutsideBox, BrokenLink, GapAbove, TooThin, NoSociety, NothingKept, NoRoom, NotReached, BadLine, OutOfSequence, DeathsAbove, NoDivisor, NotProposed, PassesNotAllowed, CountsNotAllowed}

-- 1 "job pack: number unreadable, or spare bytes", 2 "job pack: number not allowed", 3 "lo above hi", 4 "fewer than z positive weights",
-- 5 "link cells not rising, or coefficient 0", 6 "proposal pack: unreadable, spare bytes, not allowed", 7 "value outside its box", 8 "link broken",
-- 9 "G above T", 10 "house proposal: data too thin", 11 "society above 7", 12 "nothing kept under that number", 13 shelf length, or "output too
-- short"; 14 no pass accepted; of a list 16 "malformed, out of range or beyond the 120", 17 "ages not in sequence", 18 "deaths above exposure",
-- 19 "divisor 0"; 20 a grid too wide for the house proposal; 21 "passes outside 1..200"; 22 "counts not allowed"
abbrev pub number_of : Refusal → ℕ
number_of (Unreadable at) = 1
number_of (NotAllowed at) = 2
number_of (FloorAbove cell) = 3
number_of TooFewWeights = 4
number_of (BadTerm link) = 5
number_of (BadProposal at) = 6
number_of (OutsideBox cell) = 7
number_of (BrokenLink link) = 8
number_of (GapAbove place) = 9
number_of (TooThin cell) = 10
number_of NoSociety = 11
number_of NothingKept = 12
number_of (NoRoom length) = 13
number_of (NotReached passes) = 14
number_of (BadLine line) = 16
number_of (OutOfSequence line) = 17
number_of (DeathsAbove line) = 18
number_of NoDivisor = 19
number_of NotProposed = 20
number_of PassesNotAllowed = 21
number_of (CountsNotAllowed society) = 22

-- The offset of a number's first byte; the cell, the link, the line, the society; the length needed; the number of passes given; else "0".
abbrev pub place_of : Refusal → ℕ
place_of (Unreadable at) = at
place_of (NotAllowed at) = at
place_of (FloorAbove cell) = cell
place_of TooFewWeights = 0
place_of (BadTerm link) = link
place_of (BadProposal at) = at
place_of (OutsideBox cell) = cell
place_of (BrokenLink link) = link
place_of (GapAbove place) = place
place_of (TooThin cell) = cell
place_of NoSociety = 0
place_of NothingKept = 0
place_of (NoRoom length) = length
place_of (NotReached passes) = passes
place_of (BadLine line) = line
place_of (OutOfSequence line) = line
place_of (DeathsAbove line) = line
place_of NoDivisor = 0
place_of NotProposed = 0
place_of PassesNotAllowed = 0
place_of (CountsNotAllowed society) = society
