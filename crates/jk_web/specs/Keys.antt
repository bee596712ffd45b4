-- What cuts are kept under.
use Rattle.std.specs.Prelude.{ℕ, ◌^◌, ◌≤◌, List, map, length, Contains}
use Rattle.std.specs.Global.{Vec}
use Rattle.jk_window.specs.declared.view.View.{View}
use Rattle.jk_web.specs.declared.cache.CutKey.{CutKey}
use Rattle.jk_web.specs.Cuts.{KeptCut, kept_cut}

-- the window of a key
abbrev pub asked_of : CutKey → View
asked_of k = record { reduce = k.reduce; x = k.x; y = k.y; width = k.width; height = k.height; layers = k.layers }

-- what a pair keeps
abbrev pub kept_of : CutKey × Vec ℕ → KeptCut
kept_of p = kept_cut p.0.name.items (asked_of p.0) p.1.items

abbrev pub kept_in : List (CutKey × Vec ℕ) → List KeptCut
kept_in pairs = map kept_of pairs

-- the most bytes of a cut that is kept
abbrev pub most_kept : ℕ
most_kept = 2 ^ 20

-- No kept cut is longer.
abbrev pub AreSmall : List KeptCut → Type 0
AreSmall kept = (k : KeptCut) → Contains kept k → length k.cut ≤ most_kept
