-- A walk down the rows of an image that comes, one row of tiles after another.
use Rattle.std.specs.Prelude.{◌≡◌, ℕ, ◌+◌, ◌%◌, ◌<◌, ◌≤◌, length}
use Rattle.jk_math.specs.Picture.{Picture}
use Rattle.jk_marks.specs.Siz.{tiles_across}
use Rattle.jk_params.specs.declared.picture_frame.PictureFrame.{PictureFrame}
use Rattle.jk_params.specs.Profile.{siz_for}
use Rattle.jk_code.specs.RowsWritten.{WereGiven, HaveSameRows}
use Rattle.jk_code.specs.ComingRows.{area_of_coming, tiles_coming, AreFalling, HaveRows, AreFallen, AreCoded}
use Rattle.jk_code.specs.declared.coming.ComingImage.{ComingImage}
use Rattle.jk_code.specs.declared.coming_walk.ComingWalk.{ComingWalk}

-- With tile `first` and row y a row of tiles begins, or behind them is none.
pub record IsBetweenTiles (s : ComingImage) (first y : ℕ) : Type 0 where
  pub begins : first % tiles_across (siz_for s.frame s.parameters.now) ≡ 0
  pub few : first ≤ tiles_coming s
  pub at : first < tiles_coming s → y ≡ (area_of_coming s first).y0
  pub end : tiles_coming s ≤ first → y ≡ s.frame.y0 + s.frame.height

-- The first tiles of a walk are behind their last rows, the next ones stand before row y, and with the row
-- at which these end the next row of tiles begins.
pub record IsComingWalk (s : ComingImage) (w : ComingWalk) : Type 0 where
  pub fallen : AreFallen s (length w.fallen.items) w.fallen.items
  pub tiles : AreFalling s (length w.fallen.items) w.y w.tiles.items
  pub lower : (k : ℕ) → k < length w.tiles.items → (area_of_coming s (length w.fallen.items + k)).y1 ≡ w.end
  pub below : IsBetweenTiles s (length w.fallen.items + length w.tiles.items) w.end
  pub top : s.frame.y0 ≤ w.y
  pub order : w.y ≤ w.end
  pub bottom : w.end ≤ s.frame.y0 + s.frame.height
  pub some : 1 ≤ w.step

-- Where it has no row left, all tiles are behind their last rows.
abbrev pub EndsFallen : ComingImage → ComingWalk → Type 0
EndsFallen s w = w.end ≤ w.y → length w.fallen.items ≡ tiles_coming s

-- Its tiles are those of a picture, down to row y.
pub record IsOfPicture (s : ComingImage) (p : Picture) (w : ComingWalk) : Type 0 where
  pub coded : AreCoded s (length w.fallen.items) p w.fallen.items
  pub rows : HaveRows s (length w.fallen.items) p w.tiles.items

-- A walk stands where another one does, and is of each picture that this is of.
pub record WalksOn (s : ComingImage) (old new : ComingWalk) : Type 0 where
  pub walk : IsComingWalk s new
  pub row : new.y ≡ old.y
  pub of : (p : Picture) → IsOfPicture s p old → IsOfPicture s p new

-- What gives rows stands before row y of a walk, and gave all rows above it, from one state of it on:
-- the walk is of each picture that has these.
pub record IsGivenTo {A : Type 0} (framed : A → PictureFrame) (next : A → ℕ) (gave : A → Picture → A → Type 0) (s : ComingImage) (from to : A) (w : ComingWalk) : Type 0 where
  pub frame : framed to ≡ s.frame
  pub row : next to ≡ w.y
  pub picture : Picture
  pub given : WereGiven gave s.frame s.frame.y0 w.y from to picture
  pub of : (p : Picture) → HaveSameRows picture p s.frame.y0 w.y → IsOfPicture s p w

-- A walk before its next rows,
pub record IsBeforeStep {A : Type 0} (framed : A → PictureFrame) (next : A → ℕ) (gave : A → Picture → A → Type 0) (s : ComingImage) (mid : A) (w : ComingWalk) : Type 0 where
  pub walk : IsComingWalk s w
  pub more : w.y < w.end
  pub given : (from : A) × IsGivenTo framed next gave s from mid w

-- and behind them.
pub record IsStepDone {A : Type 0} (framed : A → PictureFrame) (next : A → ℕ) (gave : A → Picture → A → Type 0) (s : ComingImage) (mid to : A) (old new : ComingWalk) : Type 0 where
  pub walk : IsComingWalk s new
  pub down : old.y < new.y
  pub given : (from : A) → IsGivenTo framed next gave s from mid old → IsGivenTo framed next gave s from to new
