-- The numbers that calls answer.
use Rattle.std.specs.Prelude.{ℕ}
use Rattle.jk_math.specs.declared.fault.Fault.{Fault}
use Rattle.jk_math.specs.declared.fault.Fault.TheVariants.{Memory, Truncated, BadMarker, BadLength, BadValue}
use Rattle.jk_math.specs.declared.fault.Fault.TheVariants.{Unsupported, Limit, PacketHeader, TooManyPasses}
use Rattle.jk_math.specs.declared.fault.Fault.TheVariants.{CodeOutOfInterval, MissingPackets, SurplusBytes, BadBox}
use Rattle.jk_math.specs.declared.fault.Fault.TheVariants.{BadPnm, BadParameters, BadWindow, NoSuchImage, NameTaken}
use Rattle.jk_math.specs.declared.fault.Fault.TheVariants.{BadName, Shelf, Changed, WorkerFailed}

-- the call has done what it is for
abbrev pub done_code : ℕ
done_code = 0

-- a growth of memory was refused
abbrev pub memory_code : ℕ
memory_code = 1

-- the image or its coding is outside the profile
abbrev pub parameters_code : ℕ
parameters_code = 15

-- the room is too small for what is handed out
abbrev pub short_code : ℕ
short_code = 64

-- the list isn't one for the samples of the image
abbrev pub misfit_code : ℕ
misfit_code = 65

-- the number of a fault
abbrev pub code_of : Fault → ℕ
code_of (Memory r) = 1
code_of Truncated = 2
code_of BadMarker = 3
code_of BadLength = 4
code_of BadValue = 5
code_of Unsupported = 6
code_of Limit = 7
code_of PacketHeader = 8
code_of TooManyPasses = 9
code_of CodeOutOfInterval = 10
code_of MissingPackets = 11
code_of SurplusBytes = 12
code_of BadBox = 13
code_of BadPnm = 14
code_of BadParameters = 15
code_of BadWindow = 16
code_of NoSuchImage = 17
code_of NameTaken = 18
code_of BadName = 19
code_of Shelf = 20
code_of Changed = 21
code_of WorkerFailed = 23
