-- What contracts see of an encoder.
use Rattle.std.specs.Prelude.{◌≡◌, ℕ, ◌^◌, ◌/◌, ◌%◌, Bool, false, List, [], ◌∷◌, ◌==◌, length, if◌then◌else◌}
use Rattle.jk_model.specs.Contexts.{Context}
use Rattle.jk_model.specs.Decisions.{State, Decision, initial}
use Rattle.jk_model.specs.Deciding.{state_by}
use Rattle.jk_model.specs.CodingPasses.{state_by_passes}
use Rattle.jk_model.specs.Placed.{onto}
use Rattle.jk_mqenc.specs.declared.registers.Registers.{Registers}
use Rattle.jk_mqenc.specs.Machine.{Machine, HoldsInterval}
use Rattle.jk_mqenc.specs.Coding.{flushed}
use Rattle.jk_mqenc.specs.Deciding.{machine_by, machine_by_passes, Between}

-- the registers and the contexts, and whether memory was refused
pub record EncoderView : Type 0 where
  pub machine : Machine
  pub contexts : List Context
  pub failed : Bool

-- other registers over the same bytes
abbrev pub with_registers : Machine → Registers → Machine
with_registers m r = record m { code = r.code; width = r.width; count = r.count }

-- registers and contexts where no memory was refused
abbrev pub lasting : Machine → List Context → EncoderView
lasting m contexts = record { machine = m; contexts = contexts; failed = false }

-- INITENC
abbrev pub started : Machine
started = record { code = 0; width = 2 ^ 15; count = 12; placed = [] }

-- From registers that hold an interval the encoder has coded these decisions, and no memory was
-- refused.
pub record CodesFrom (m : Machine) (s : State) (e : EncoderView) (ds : List Decision) : Type 0 where
  pub holds : HoldsInterval m s
  pub between : Between m s
  pub machine : e.machine ≡ machine_by m s ds
  pub contexts : e.contexts ≡ (state_by s ds).contexts
  pub lasting : e.failed ≡ false

-- The encoder has coded the decisions of these passes, and no memory was refused.
pub record Codes (e : EncoderView) (reset : Bool) (dss : List (List Decision)) : Type 0 where
  pub machine : e.machine ≡ machine_by_passes reset started initial dss
  pub contexts : e.contexts ≡ (state_by_passes reset initial dss).contexts
  pub lasting : e.failed ≡ false

-- the encoder has coded some decisions
abbrev pub HasCodedFrom : EncoderView → Type 0
HasCodedFrom e = (m : Machine) × (s : State) × (ds : List Decision) × CodesFrom m s e ds

-- where no memory was refused, it has
abbrev pub HasCoded : EncoderView → Type 0
HasCoded e = e.failed ≡ false → HasCodedFrom e

-- How many bytes are placed after these passes. The one that a carry may still reach is counted.
unfoldable pub written_by : (reset : Bool) → List (List Decision) → ℕ
written_by reset dss = length (machine_by_passes reset started initial dss).placed

-- placed bytes, a last FF left off
abbrev pub without_last_ff : List ℕ → List ℕ
without_last_ff [] = []
without_last_ff (b ∷ o) = if b == 255 then o else b ∷ o

-- the bytes of these passes: those that FLUSH leaves, a last FF left off
unfoldable pub finished : (reset : Bool) → List (List Decision) → List ℕ
finished reset dss = onto (without_last_ff (flushed (machine_by_passes reset started initial dss)).placed) []

-- a decision in one byte: the bit is the lowest, the number of the context stands above it
abbrev pub decision_of : ℕ → Decision
decision_of byte = (byte / 2, byte % 2 == 1)
