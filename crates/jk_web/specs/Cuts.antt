-- Cuts, each for the name of an image and a window that was asked for.
pub use Rattle.jk_catalogue.specs.Images.{Within}
use Rattle.std.specs.Prelude.{◌≡◌, ℕ, List, Contains, Some, Result, Ok, Err}
use Rattle.std.specs.Global.{Vec}
use Rattle.jk_math.specs.declared.fault.Fault.{Fault}
use Rattle.jk_window.specs.declared.view.View.{View}
use Rattle.jk_web.specs.declared.request.Request.{Request}
use Rattle.jk_web.specs.Resources.{query_of, window}
use Rattle.jk_web.specs.Queries.{pairs_of, asked_by}
use Rattle.jk_web.specs.Images.{Image, image_of, IsCutOf, asked_for}

-- Each is the image's of its name.
abbrev pub AreOf : (List ℕ → View → List ℕ → Type 0) → List Image → Type 0
AreOf cuts images = (n : List ℕ) (a : View) (b : List ℕ) → cuts n a b → IsCutOf (image_of n images) a b

-- It is the one that was given for this name and this window.
abbrev pub IsGiven : Result (Vec ℕ) Fault → List ℕ → View → List ℕ → View → List ℕ → Type 0
IsGiven (Ok v) name asked n a b = (n ≡ name) × (a ≡ asked) × (b ≡ v.items)
IsGiven (Err e) name asked n a b = ⊥

-- The request is for a window of an image of one of these names, and such a cut is had.
abbrev pub IsHit : (List ℕ → View → List ℕ → Type 0) → List (List ℕ) → Request → Type 0
IsHit cuts names q =
    (name : List ℕ) × (asked : View) × (cut : List ℕ)
    × (asked_for q names ≡ window name) × (asked_by (pairs_of (query_of q.target)) ≡ Some asked) × cuts name asked cut

-- a cut that is kept
pub record KeptCut : Type 0 where
  pub name : List ℕ
  pub asked : View
  pub cut : List ℕ

abbrev pub kept_cut : List ℕ → View → List ℕ → KeptCut
kept_cut n a b = record { name = n; asked = a; cut = b }

-- Among the kept cuts is this one.
abbrev pub Has : List KeptCut → List ℕ → View → List ℕ → Type 0
Has kept n a b = Contains kept (kept_cut n a b)
