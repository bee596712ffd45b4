-- Entries of packets, packed by groups of 64: which entry the lists spell at a number.
use Rattle.std.specs.Prelude.{◌≡◌, ℕ, zero, suc, ◌+◌, ◌/◌, ◌%◌, ◌^◌, ◌<◌, Bool, true, false, List, [], ◌∷◌, ◌++◌}
use Rattle.std.specs.Prelude.{Option, Some, None, slice_get}
use Rattle.std.specs.Option.{option_and_then}
use Rattle.jk_walk.specs.declared.entries.PacketEntry.{PacketEntry}
use Rattle.jk_window.specs.declared.packed.Layout.{Layout}
use Rattle.jk_window.specs.declared.packed.Layout.TheVariants.{Joined, Near, Wide}
use Rattle.jk_window.specs.declared.packed.Group.{Group}
use Rattle.jk_window.specs.declared.packed.NearEntry.{NearEntry}
use Rattle.jk_window.specs.declared.packed.Lists.{Lists}

-- the counter of the i-th packet where packets are counted as T.800 A.8.1 does, modulo 65,536 with
-- the high byte first, and none where they have no SOP
abbrev pub counter_at : (counted : Bool) → (i : ℕ) → Option (ℕ × ℕ)
counter_at true i = Some (i / 256 % 256, i % 256)
counter_at false i = None

-- An entry that begins at a mark of its group, ends at the next one, and has a header of so many
-- bytes.
abbrev pub joined_entry : Group → (i from long to : ℕ) → PacketEntry
joined_entry g i from long to =
    record {
      start = g.base + from;
      body = g.base + from + long;
      end = g.base + to;
      counter = counter_at g.counted i;
    }

abbrev pub near_entry : Group → (i : ℕ) → NearEntry → PacketEntry
near_entry g i n = joined_entry g i n.start n.header n.end

-- what the lists spell by a group, of which it is the j-th entry and the tile's i-th
abbrev pub entry_by : Layout → Lists → Group → (i j : ℕ) → Option PacketEntry
entry_by Joined l g i j =
    option_and_then
    (λ from. option_and_then
    (λ long. option_and_then (λ to. Some (joined_entry g i from long to)) (slice_get l.marks.items (g.at + j + 1)))
    (slice_get l.headers.items (g.at + j)))
    (slice_get l.marks.items (g.at + j))
entry_by Near l g i j = option_and_then (λ n. Some (near_entry g i n)) (slice_get l.near.items (g.at + j))
entry_by Wide l g i j = slice_get l.wide.items (g.at + j)

-- the i-th entry, which is in the group of its 64
abbrev pub entry_at : Lists → (i : ℕ) → Option PacketEntry
entry_at l i = option_and_then (λ g. entry_by g.layout l g i (i % 64)) (slice_get l.groups.items (i / 64))

-- There is such an entry, and its numbers are of 64 bits.
pub record IsSpelled (o : Option PacketEntry) : Type 0 where
  pub entry : PacketEntry
  pub is : o ≡ Some entry
  pub start : entry.start < 2 ^ 64
  pub body : entry.body < 2 ^ 64
  pub end : entry.end < 2 ^ 64

abbrev pub AreSpelled : Lists → (count : ℕ) → Type 0
AreSpelled l count = (i : ℕ) → i < count → IsSpelled (entry_at l i)

abbrev pub one_or_none : Option PacketEntry → List PacketEntry
one_or_none (Some e) = e ∷ []
one_or_none None = []

-- the first so many entries
unfoldable pub spelled : Lists → (count : ℕ) → List PacketEntry
spelled l zero = []
spelled l (suc n) = spelled l n ++ one_or_none (entry_at l n)
