-- A catalogue of one image, for tests.
use Rattle.std.specs.Prelude.{◌≡◌, ◌==◌, ◌||◌, List, [], ◌∷◌, ◌++◌, Some, None, if◌then◌else◌, codes}
use Rattle.jk_web.specs.Images.{Image}

-- the image `a`, whose windows are all alike
abbrev pub only : Image
only = record {
  name = codes "a";
  line = codes "a 1 1 1 8 0" ++ 10 ∷ [];
  file = codes "whole";
  cut = λ asked. if (asked.width == 0) || (asked.height == 0) then None else Some (codes "cut");
}

abbrev pub IsGallery : List Image → Type 0
IsGallery images = images ≡ only ∷ []
