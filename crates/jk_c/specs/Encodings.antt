-- What is answered where an image is to be encoded.
use Rattle.std.specs.Prelude.{◌≡◌, ◌⊎◌, List, ℕ, length, take, Result, Err, IfOk, MatchResult}
use Rattle.std.specs.Global.{Vec}
use Rattle.jk_math.specs.Answer.{Answers}
use Rattle.jk_math.specs.Memory.{IsMemory}
use Rattle.jk_math.specs.declared.fault.Fault.{Fault}
use Rattle.jk_math.specs.declared.fault.Fault.TheVariants.{BadParameters}
use Rattle.jk_math.specs.Picture.{Picture, IsPicture}
use Rattle.jk_params.specs.declared.parameters.Parameters.{Parameters}
use Rattle.jk_code.specs.Meaning.{Means}
use Rattle.jk_code.specs.Written.{written}
use Rattle.jk_c.specs.declared.frames.CallerFrame.{CallerFrame}
use Rattle.jk_c.specs.declared.coding.CallerCoding.{CallerCoding}
use Rattle.jk_c.specs.Answers.{Room, HandsOut}
use Rattle.jk_c.specs.Codes.{done_code, memory_code, parameters_code, misfit_code}
use Rattle.jk_c.specs.Codings.{IsKnownCoding, AreParameters}
use Rattle.jk_c.specs.Frames.{IsKnownFrame, Fills, picture_from}

-- What is asked for is an image of the profile, and a coding that has a place in parameters.
pub record IsAsked (f : CallerFrame) (pixels : List ℕ) (k : CallerCoding) : Type 0 where
  pub frame : IsKnownFrame f
  pub fills : Fills f (length pixels)
  pub coding : IsKnownCoding k
  pub picture : IsPicture (picture_from f pixels)

-- parameters that say what a coding asks for, and the answer of an encoding of a picture of the
-- profile with them
pub record IsEncodedBy (p : Picture) (k : CallerCoding) (answer : Result (Vec ℕ) Fault) : Type 0 where
  pub parameters : Parameters
  pub are : AreParameters k parameters
  pub known : IsKnownCoding k
  pub picture : IsPicture p
  pub file : Answers (λ v. v.items) answer (written p parameters)
  pub means : IfOk answer (λ v. Means v.items 0 p)

-- The file of a picture, or the fault that stands in its place; or Memory; or BadParameters of a
-- picture outside the profile, or of the coding.
abbrev pub IsEncodedFile : Picture → CallerCoding → Result (Vec ℕ) Fault → Type 0
IsEncodedFile p k answer =
    MatchResult answer (λ _. ⊥) IsMemory
    ⊎ (((answer ≡ Err BadParameters) × (IsPicture p → IsKnownCoding k → ⊥)) ⊎ IsEncodedBy p k answer)

-- parameters that say what a coding asks for, and the bytes of a picture's file with them, which
-- are handed out, or its fault
pub record HandsOutWritten (p : Picture) (k : CallerCoding) (before : Room) (code : ℕ) (after : Room) : Type 0 where
  pub parameters : Parameters
  pub are : AreParameters k parameters
  pub file : HandsOut (written p parameters) before code after

-- that, or Memory
abbrev pub HandsOutFile : Picture → CallerCoding → (before : Room) → (code : ℕ) → (after : Room) → Type 0
HandsOutFile p k before code after = ((code ≡ memory_code) × (after ≡ before)) ⊎ HandsOutWritten p k before code after

-- Memory, BadParameters or Misfit, and the room is as before
abbrev pub IsRefused : (before : Room) → (code : ℕ) → (after : Room) → Type 0
IsRefused before code after =
    ((code ≡ memory_code) ⊎ ((code ≡ parameters_code) ⊎ (code ≡ misfit_code))) × (after ≡ before)

-- what is answered of a picture and a coding
pub record IsEncoded (p : Picture) (k : CallerCoding) (before : Room) (code : ℕ) (after : Room) : Type 0 where
  pub refused : (IsPicture p → IsKnownCoding k → ⊥) → IsRefused before code after
  pub exact : IsPicture p → IsKnownCoding k → HandsOutFile p k before code after
  pub means : code ≡ done_code → Means (take after.length after.bytes) 0 p
