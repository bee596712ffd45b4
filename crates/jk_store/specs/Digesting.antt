-- The entries of files whose digests are still to be made.
use Rattle.std.specs.Prelude.{List, [], ◌∷◌, ◌++◌, map}
use Rattle.std.specs.Arc.{arc_value}
use Rattle.sha2.specs.Sha256.{sha256}
use Rattle.jk_store.specs.declared.entry.Entry.{Entry}
use Rattle.jk_store.specs.declared.digesting.Undigested.{Undigested}
use Rattle.jk_store.specs.declared.digesting.Waiting.{Waiting}
use Rattle.jk_store.specs.declared.digesting.Waiting.TheVariants.{NoFile, OneFile, TwoFiles, ThreeFiles}
use Rattle.jk_store.specs.declared.digesting.Four.{Four}
use Rattle.jk_store.specs.declared.digesting.Digesting.{Digesting}

-- the entry that is due for a file
abbrev pub entry_due : Undigested → Entry
entry_due f = record { name = f.name; digest = sha256 f.bytes.items; parts = f.parts; index = f.index }

abbrev pub waiting_entries : Waiting → List Entry
waiting_entries NoFile = []
waiting_entries (OneFile a) = entry_due a ∷ []
waiting_entries (TwoFiles a b) = entry_due a ∷ entry_due b ∷ []
waiting_entries (ThreeFiles a b c) = entry_due a ∷ entry_due b ∷ entry_due c ∷ []

abbrev pub four_entries : Four → List Entry
four_entries f = entry_due f.a ∷ entry_due f.b ∷ entry_due f.c ∷ entry_due f.d ∷ []

-- those that are listed, and those that are due
abbrev pub all_entries : Digesting → List Entry
all_entries d = map arc_value d.entries.items ++ waiting_entries d.waiting
