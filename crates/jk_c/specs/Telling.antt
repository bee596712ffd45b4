-- What a call tells that tells the frame of a file.
use Rattle.std.specs.Prelude.{◌≡◌, ◌⊎◌, ℕ, Bool, [], ◌∷◌, length, Result, Ok, Err, if◌then◌else◌}
use Rattle.jk_math.specs.declared.fault.Fault.{Fault}
use Rattle.jk_math.specs.Picture.{Picture}
use Rattle.jk_code.specs.declared.frames.ImageFrame.{ImageFrame}
use Rattle.jk_c.specs.declared.frames.CallerFrame.{CallerFrame}
use Rattle.jk_c.specs.Codes.{done_code, memory_code, code_of}

-- 1 or 0
abbrev pub word_of : Bool → ℕ
word_of b = if b then 1 else 0

-- a frame in the caller's words
abbrev pub told : ImageFrame → CallerFrame
told f = record {
  x0 = f.x0;
  y0 = f.y0;
  width = f.width;
  height = f.height;
  components = f.components;
  depth = f.depth;
  is_signed = word_of f.signed;
  levels = f.levels;
  reserved = 0 ∷ 0 ∷ 0 ∷ 0 ∷ [];
}

-- the number of the fault, and the caller's frame is as before; or the frame
abbrev pub TellsFrame : Result ImageFrame Fault → (before : CallerFrame) → (code : ℕ) → (after : CallerFrame) → Type 0
TellsFrame (Err e) before code after = (code ≡ code_of e) × (after ≡ before)
TellsFrame (Ok f) before code after = (code ≡ done_code) × (after ≡ told f)

-- that, or Memory
abbrev pub TellsFrameOrMemory : Result ImageFrame Fault → (before : CallerFrame) → (code : ℕ) → (after : CallerFrame)
    → Type 0
TellsFrameOrMemory due before code after = ((code ≡ memory_code) × (after ≡ before)) ⊎ TellsFrame due before code after

-- The frame has the place, the size, the depth, the sign and the components of the picture.
pub record IsToldOf (f : CallerFrame) (p : Picture) : Type 0 where
  pub left : f.x0 ≡ p.x0
  pub upper : f.y0 ≡ p.y0
  pub width : f.width ≡ p.width
  pub height : f.height ≡ p.height
  pub components : f.components ≡ length p.planes
  pub depth : f.depth ≡ p.depth
  pub signed : f.is_signed ≡ word_of p.signed
