-- What gives the rows of the image of a PGM or PPM file that is being read, at the place that is asked
-- for.
use Rattle.std.specs.Prelude.{◌≡◌, ℕ, ◌+◌, ◌-◌, ◌*◌, ◌<◌, ◌≤◌, ◌⊎◌, ◌++◌, List, [], Option, Result, Err, ⊤, false, length}
use Rattle.std.specs.Io.KnownBytes.{Consumes, IsAtEnd}
use Rattle.jk_math.specs.Memory.{IsMemory}
use Rattle.jk_math.specs.Picture.{Picture, IsPicture, IsFrame}
use Rattle.jk_math.specs.declared.fault.Fault.{Fault}
use Rattle.jk_math.specs.declared.fault.Fault.TheVariants.{Shelf, BadPnm}
use Rattle.jk_params.specs.declared.parameters.Parameters.{Parameters}
use Rattle.jk_params.specs.declared.picture_frame.PictureFrame.{PictureFrame}
use Rattle.jk_params.specs.PictureFrames.{frame_of}
use Rattle.jk_pnm.specs.declared.header.Header.{Header}
use Rattle.jk_pnm.specs.Pnm.{components_of}
use Rattle.jk_pnm.specs.Reading.{raster_size, header_at, picture_at, pnm_at}
use Rattle.jk_pnm.specs.Heads.{row_bytes}
use Rattle.jk_pnm.specs.RasterRows.{Drawing, drawn, rows_moved}
use Rattle.jk_code.specs.Beginnings.{Left}
use Rattle.jk_options.specs.declared.plan.Plan.{Plan}
use Rattle.jk_options.specs.Plans.{at_place}
use Rattle.jk_files.specs.declared.incoming.Incoming.{Incoming}
use Rattle.jk_files.specs.Incoming.{waiting_of, Took}
use Rattle.jk_commands.specs.declared.encoding_from.StreamRows.{StreamRows}
use Rattle.jk_commands.specs.Written.{LeftOf}

-- the frame of the image that a header tells, with its upper left sample there
abbrev pub frame_placed : Header → (x0 y0 : ℕ) → PictureFrame
frame_placed h x y = record {
  x0 = x;
  y0 = y;
  width = h.width;
  height = h.height;
  components = components_of h.colour;
  depth = h.depth;
  signed = false;
}

-- a header and these bytes behind it
abbrev pub with_raster : Header → List ℕ → Drawing
with_raster h bytes = record { header = h; raster = bytes }

-- A raster of these bytes is refused: it has another length than its header asks for, or a sample
-- above maxval.
abbrev pub IsBadRaster : Header → List ℕ → Type 0
IsBadRaster h bytes = length bytes ≡ raster_size h → picture_at h bytes ≡ Err BadPnm

-- Nothing was written, where memory was refused or a read failed.
abbrev pub NoneOfSource : List ℕ → Result ⊤ Fault → Type 0
NoneOfSource text result = (e : Fault) × (result ≡ Err e) × (IsMemory e ⊎ (e ≡ Shelf)) × (text ≡ [])

module _ {S : Type 0} (remaining : S → Option (List ℕ)) where
  -- Rows y up to z of a raster with this header were read: their bytes were taken, they are those rows
  -- whatever stands around them, and behind the last row there is no byte.
  pub record WereRead (h : Header) (y z : ℕ) (a : Incoming S) (v : Picture) (b : Incoming S) : Type 0 where
    pub order : y < z
    pub inside : z ≤ h.height
    pub bytes : List ℕ
    pub took : Took remaining a b bytes
    pub long : length bytes ≡ (z - y) * row_bytes h
    pub frame : frame_of v ≡ record (frame_placed h 0 0) { height = z - y }
    pub rows : (before more : List ℕ) → length before ≡ y * row_bytes h
        → v ≡ rows_moved (drawn (with_raster h (before ++ (bytes ++ more)))) y z
    pub last : z ≡ h.height → IsAtEnd (remaining b.source.now) × (waiting_of b ≡ [])

  -- Behind y rows the raster is refused by the bytes that were seen, whatever comes behind them; none
  -- comes where the source is at its end.
  pub record AreBad (h : Header) (y : ℕ) (a b : Incoming S) : Type 0 where
    pub bytes : List ℕ
    pub took : Took remaining a b bytes
    pub why : (before more : List ℕ) → length before ≡ y * row_bytes h → (IsAtEnd (remaining b.source.now) → more ≡ [])
        → IsBadRaster h (before ++ ((bytes ++ waiting_of b) ++ more))

  -- They weren't read: a read failed, or they are bad.
  abbrev pub WereRefused : Header → ℕ → Incoming S → Fault → Incoming S → Type 0
  WereRefused h y a e b = (e ≡ Shelf) ⊎ ((e ≡ BadPnm) × AreBad h y a b)

  -- It gave the next rows of its picture, from the same source.
  pub record HasStreamed (a : StreamRows S) (v : Picture) (b : StreamRows S) : Type 0 where
    pub same : b.incoming.ghost_name ≡ a.incoming.ghost_name
    pub head : b.head ≡ a.head
    pub place : (b.x0 ≡ a.x0) × (b.y0 ≡ a.y0)
    pub rows : Picture
    pub read : WereRead a.head a.given b.given a.incoming.now rows b.incoming.now
    pub placed : v ≡ at_place rows a.x0 (a.y0 + a.given)

  -- It gave none. Where its picture may lie, that is because of the bytes.
  abbrev pub HasStopped : StreamRows S → Fault → StreamRows S → Type 0
  HasStopped a e b =
      (b.incoming.ghost_name ≡ a.incoming.ghost_name)
      × (IsFrame a.x0 a.y0 a.head.width a.head.height → WereRefused a.head a.given a.incoming.now e b.incoming.now)

  -- All of a raster was taken, behind it there is no byte, and its samples are in their range.
  pub record HasRaster (h : Header) (a b : Incoming S) (bytes : List ℕ) : Type 0 where
    pub took : Took remaining a b bytes
    pub long : length bytes ≡ raster_size h
    pub ended : IsAtEnd (remaining b.source.now)
    pub none : waiting_of b ≡ []
    pub picture : IsPicture (drawn (with_raster h bytes))

  -- What was written of a raster that is placed there: what encoding its picture leaves; or nothing,
  -- where memory was refused or its rows weren't read.
  abbrev pub IsLeftOfStream : Header → (x0 y0 : ℕ) → Parameters → (a b : Incoming S) → List ℕ → Result ⊤ Fault → Type 0
  IsLeftOfStream h x0 y0 q a b text result =
      ((e : Fault) × (result ≡ Err e) × (IsMemory e ⊎ WereRefused h 0 a e b) × (text ≡ []))
      ⊎ ((bytes : List ℕ) × HasRaster h a b bytes × Left (at_place (drawn (with_raster h bytes)) x0 y0) q text result)

  -- All of a source was taken.
  pub record HasAll (a b : Incoming S) (bytes : List ℕ) : Type 0 where
    pub took : Took remaining a b bytes
    pub ended : IsAtEnd (remaining b.source.now)
    pub none : waiting_of b ≡ []

  -- The bytes that wait begin no header, whatever comes after them; none comes where the source is at
  -- its end.
  abbrev pub HasNoHead : Incoming S → Type 0
  HasNoHead b = (more : List ℕ) → (IsAtEnd (remaining b.source.now) → more ≡ []) → header_at (waiting_of b ++ more) ≡ Err BadPnm

  -- The file is refused by the bytes that were seen, whatever comes behind them.
  pub record IsBad (a b : Incoming S) : Type 0 where
    pub bytes : List ℕ
    pub took : Took remaining a b bytes
    pub why : (more : List ℕ) → (IsAtEnd (remaining b.source.now) → more ≡ []) → pnm_at ((bytes ++ waiting_of b) ++ more) ≡ Err BadPnm

  -- What was written of a file that was read as far as its answer asks for.
  abbrev pub IsLeftOfIncoming : Plan → (a b : Incoming S) → List ℕ → Result ⊤ Fault → Type 0
  IsLeftOfIncoming plan a b text result =
      ((input : List ℕ) × HasAll a b input × LeftOf input plan text result)
      ⊎ ((e : Fault) × (result ≡ Err e) × (IsMemory e ⊎ (e ≡ Shelf)) × (text ≡ []))
      ⊎ ((result ≡ Err BadPnm) × (text ≡ []) × IsBad a b)

  -- What was written of the file that a source gave, which was read to its end.
  abbrev pub IsLeftOfSource : Plan → (a b : Incoming S) → List ℕ → Result ⊤ Fault → Type 0
  IsLeftOfSource plan a b text result =
      ((input : List ℕ) × (b.source.ghost_name ≡ a.source.ghost_name)
      × Consumes (remaining a.source.now) (remaining b.source.now) input × IsAtEnd (remaining b.source.now)
      × LeftOf input plan text result)
      ⊎ NoneOfSource text result
