-- Cuts that a reader keeps.
use Rattle.std.specs.Prelude.{List}
use Rattle.jk_web.specs.Cuts.{Within, Has, KeptCut}
use Rattle.jk_store.specs.Showing.{MayBeMade}
use Rattle.jk_store.specs.declared.entry.Entry.{Entry}

-- Each cut may have been made for one of these entries.
abbrev pub KeepsCuts : List Entry → List KeptCut → Type 0
KeepsCuts entries kept = Within (Has kept) (MayBeMade entries)
