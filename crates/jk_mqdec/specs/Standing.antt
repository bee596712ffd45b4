-- What contracts see of a decoder, and where it stands in the definition.
use Rattle.std.specs.Prelude.{◌≡◌, ℕ, ◌<◌, ◌⊎◌, List}
use Rattle.jk_model.specs.Contexts.{Context}
use Rattle.jk_model.specs.Decisions.{State, Decision, initial, state_after, Spells}
use Rattle.jk_mqdec.specs.declared.wide.WideRegisters.{WideRegisters}
use Rattle.jk_mqdec.specs.Registers.{IsOutside}
use Rattle.jk_mqdec.specs.Wide.{HoldsWide, HasLeftWide, IsReadyWide}

-- a decoder: the segment, the registers, and the contexts
pub record DecoderView : Type 0 where
  pub bytes : List ℕ
  pub registers : WideRegisters
  pub contexts : List Context

-- the registers are within their bounds, unless the code value has left the interval
abbrev pub IsSound : DecoderView → Type 0
IsSound d = d.registers.code < d.registers.width → IsReadyWide d.bytes d.registers

-- the code value has left the interval
abbrev pub HasFailed : DecoderView → Type 0
HasFailed d = HasLeftWide d.registers

-- The decoder holds the interval and the contexts of s.
pub record StandsWithin (d : DecoderView) (s : State) : Type 0 where
  pub code : d.registers.code < d.registers.width
  pub holds : HoldsWide d.bytes d.registers s
  pub contexts : d.contexts ≡ s.contexts

-- The code value has left the interval of s.
pub record StandsOutside (d : DecoderView) (s : State) : Type 0 where
  pub failed : HasFailed d
  pub outside : IsOutside d.bytes s

-- The decoder stands at s.
abbrev pub Stands : DecoderView → State → Type 0
Stands d s = StandsWithin d s ⊎ StandsOutside d s

-- The decoder was made on these bytes and has given these decisions so far: the bytes spell them,
-- and the decoder stands where they lead.
pub record Reached (d : DecoderView) (bytes : List ℕ) (done : List Decision) : Type 0 where
  pub bytes_are : d.bytes ≡ bytes
  pub spelled : Spells bytes done
  pub stands : Stands d (state_after bytes initial done)
