-- A reader and a shelf that are borrowed.
use Rattle.std.specs.Prelude.{◌≡◌, ℕ, List, length, take}
use mathlib.Core.List.{IsPrefix}
use Rattle.jk_math.specs.declared.fault.Fault.{Fault}
use Rattle.jk_web.specs.declared.reply.Reply.{Reply}
use Rattle.jk_web.specs.declared.request.Request.{Request}
use Rattle.jk_web.specs.Images.{Image, IsCachedReply, IsKeptReply}
use Rattle.jk_store.specs.Files.{Files}
use Rattle.jk_store.specs.Showing.{Broke, ReadsFile, MayBeMade}
use Rattle.jk_store.specs.declared.entry.Entry.{Entry}
use Rattle.jk_hall.specs.Reading.{seen}
use Rattle.jk_hall.specs.Replying.{IsCause, GivesReply, RefusesReply}
use Rattle.jk_hall.specs.declared.reader.Reader.{Reader}
use Rattle.jk_hall.specs.declared.attending.Attending.{Attending}

-- what stands behind both references
abbrev pub behind : {S W : Type 0} → Attending S W → Reader × S
behind a = (a.reader.now, a.shelf.now)

-- Both references are the same.
abbrev pub AreSame : {S W : Type 0} → Attending S W → Attending S W → Type 0
AreSame s t = (t.reader.ghost_name ≡ s.reader.ghost_name) × (t.shelf.ghost_name ≡ s.shelf.ghost_name)

module _ {S : Type 0} (keeps : S → Files → Type 0) where
  abbrev pub RefusesBehind : {W : Type 0} → Attending S W → Request → Fault → Attending S W → Type 0
  RefusesBehind s q e t = AreSame s t × RefusesReply keeps (behind s) q e (behind t)

  -- A request is refused, and what is seen begins this list.
  abbrev pub RefusesUpTo : List Entry → Reader × S → Request → Fault → Reader × S → Type 0
  RefusesUpTo last s q e t = RefusesReply keeps s q e t × IsPrefix (seen t.0) last

  module _ (failed : S → ℕ) (gave : S → List ℕ → List ℕ → S → Type 0)
      (gave_at : S → List ℕ → ℕ → ℕ → List ℕ → S → Type 0) where
    abbrev pub GivesBehind : {W : Type 0} → Attending S W → Request → Reply → Attending S W → Type 0
    GivesBehind s q r t = AreSame s t × GivesReply keeps failed gave gave_at (behind s) q r (behind t)

    -- A request is answered from a list that begins this one.
    abbrev pub GivesUpTo : List Entry → Reader × S → Request → Reply → Reader × S → Type 0
    GivesUpTo last s q r t = GivesReply keeps failed gave gave_at s q r t × IsPrefix (seen t.0) last

-- Of a list of images, a request is answered from the first, as many as entries are seen
-- afterwards, which are those that were seen and perhaps more.
module _ {S : Type 0} (failed : S → ℕ) (gave : S → List ℕ → List ℕ → S → Type 0)
    (gave_at : S → List ℕ → ℕ → ℕ → List ℕ → S → Type 0) (images : List Image) where
  -- whatever the files hold by now
  abbrev pub GivesFirst : Reader × S → Request → Reply → Reader × S → Type 0
  GivesFirst s q r t =
      let entries = seen t.0 in
      IsPrefix (seen s.0) entries
      × IsCachedReply (Broke failed gave gave_at entries) (ReadsFile gave entries) (λ (x : S). MayBeMade entries)
      (take (length entries) images) q s.1 t.1 r

  -- where they are kept
  abbrev pub GivesFirstKept : Reader × S → Request → Reply → Reader × S → Type 0
  GivesFirstKept s q r t =
      let entries = seen t.0 in
      IsPrefix (seen s.0) entries
      × IsKeptReply (Broke failed gave gave_at entries) (take (length entries) images) q s.1 t.1 r

-- why a request is refused
abbrev pub RefusesFor : {S : Type 0} → Reader × S → Request → Fault → Reader × S → Type 0
RefusesFor s q e t = IsCause e
