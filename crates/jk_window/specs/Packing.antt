-- When entries can be packed, and what a group of them adds to the lists.
use Rattle.std.specs.Prelude.{◌≡◌, ℕ, ◌+◌, ◌-◌, ◌^◌, ◌<◌, ◌≤◌, Bool, List, [], ◌∷◌, ◌++◌, length}
use Rattle.std.specs.Prelude.{Some, slice_get, slice_index_or}
use Rattle.std.specs.List.{All}
use Rattle.jk_walk.specs.declared.entries.PacketEntry.{PacketEntry}
use Rattle.jk_window.specs.declared.packed.Layout.{Layout}
use Rattle.jk_window.specs.declared.packed.Layout.TheVariants.{Joined, Near, Wide}
use Rattle.jk_window.specs.declared.packed.Group.{Group}
use Rattle.jk_window.specs.declared.packed.NearEntry.{NearEntry}
use Rattle.jk_window.specs.declared.packed.Lists.{Lists}
use Rattle.jk_window.specs.Packed.{counter_at, entry_by, entry_at}

-- An entry's places are numbers of 64 bits.
pub record FitsWords (e : PacketEntry) : Type 0 where
  pub start : e.start < 2 ^ 64
  pub body : e.body < 2 ^ 64
  pub end : e.end < 2 ^ 64

-- An entry begins and ends less than 2^32 bytes behind a byte, with a header of less than 2^16.
pub record FitsNear (base : ℕ) (e : PacketEntry) : Type 0 where
  pub low : base ≤ e.start
  pub order : e.start ≤ e.body
  pub high : base ≤ e.end
  pub start : e.start - base < 2 ^ 32
  pub end : e.end - base < 2 ^ 32
  pub header : e.body - e.start < 2 ^ 16
  pub words : FitsWords e

-- The first entry begins at a byte, and each of the others at the end of the one before it.
unfoldable pub AreTouching : (at : ℕ) → List PacketEntry → Type 0
AreTouching at [] = Unit {0}
AreTouching at (e ∷ es) = (e.start ≡ at) × AreTouching e.end es

-- A header takes less than 256 bytes.
abbrev pub HasShortHeader : PacketEntry → Type 0
HasShortHeader e = e.body - e.start < 2 ^ 8

-- Entries touch, from a byte on, and have short headers.
pub record AreJoined (base : ℕ) (piece : List PacketEntry) : Type 0 where
  pub touching : AreTouching base piece
  pub short : All HasShortHeader piece

-- The packets from a number on are counted, or have no SOP.
abbrev pub AreCounted : (counted : Bool) → (first : ℕ) → List PacketEntry → Type 0
AreCounted counted first piece = (k : ℕ) (d : PacketEntry) → k < length piece
    → (slice_index_or piece k d).counter ≡ counter_at counted (first + k)

abbrev pub mark_of : (base : ℕ) → PacketEntry → ℕ
mark_of base e = e.end - base

abbrev pub header_of : PacketEntry → ℕ
header_of e = e.body - e.start

abbrev pub near_of : (base : ℕ) → PacketEntry → NearEntry
near_of base e = record { start = e.start - base; end = e.end - base; header = e.body - e.start }

-- Entries can be kept as near ones.
pub record FitNear (numbered : Bool) (first base : ℕ) (piece : List PacketEntry) : Type 0 where
  pub near : All (FitsNear base) piece
  pub counted : AreCounted numbered first piece

-- The entries have what a layout asks for.
abbrev pub AreFor : Layout → (counted : Bool) → (first base : ℕ) → List PacketEntry → Type 0
AreFor Joined counted first base piece = FitNear counted first base piece × AreJoined base piece
AreFor Near counted first base piece = FitNear counted first base piece
AreFor Wide counted first base piece = Unit {0}

-- What was in the lists is at their front still.
pub record StaysIn (old new : Lists) : Type 0 where
  pub groups_more : List Group
  pub marks_more : List ℕ
  pub headers_more : List ℕ
  pub near_more : List NearEntry
  pub wide_more : List PacketEntry
  pub groups : new.groups.items ≡ old.groups.items ++ groups_more
  pub marks : new.marks.items ≡ old.marks.items ++ marks_more
  pub headers : new.headers.items ≡ old.headers.items ++ headers_more
  pub near : new.near.items ≡ old.near.items ++ near_more
  pub wide : new.wide.items ≡ old.wide.items ++ wide_more

-- There are as many marks as headers.
abbrev pub AreLevel : Lists → Type 0
AreLevel l = length l.marks.items ≡ length l.headers.items

-- A group more, which spells a tile's entries from a number on.
pub record IsMore (old new : Lists) (piece : List PacketEntry) (first : ℕ) : Type 0 where
  pub group : Group
  pub groups : new.groups.items ≡ old.groups.items ++ group ∷ []
  pub front : StaysIn old new
  pub level : AreLevel old → AreLevel new
  pub spells : (j : ℕ) (e : PacketEntry) → slice_get piece j ≡ Some e
      → (entry_by group.layout new group (first + j) j ≡ Some e) × FitsWords e

-- The lists spell the first so many entries, and their places are of 64 bits.
abbrev pub Spell : Lists → List PacketEntry → (count : ℕ) → Type 0
Spell l entries count = (k : ℕ) (e : PacketEntry) → k < count → slice_get entries k ≡ Some e
    → (entry_at l k ≡ Some e) × FitsWords e
