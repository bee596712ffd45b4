-- What a reader answers over a shelf.
use Rattle.std.specs.Prelude.{◌≡◌, ℕ, ◌⊎◌, List, All}
use mathlib.Core.List.{IsPrefix}
use Rattle.jk_math.specs.declared.fault.Fault.{Fault}
use Rattle.jk_math.specs.declared.fault.Fault.TheVariants.{WorkerFailed}
use Rattle.jk_math.specs.Memory.{IsMemory}
use Rattle.jk_web.specs.declared.reply.Reply.{Reply}
use Rattle.jk_web.specs.declared.request.Request.{Request}
use Rattle.jk_web.specs.Resources.{IsPathSegment}
use Rattle.jk_web.specs.Cuts.{AreOf, Has, IsHit, KeptCut}
use Rattle.jk_web.specs.Images.{Image, names_of, IsCachedReply, IsKeptReply}
use Rattle.jk_store.specs.Files.{Files}
use Rattle.jk_store.specs.Showing.{ShowImages, AreKept, Broke, ReadsFile, MayBeMade}
use Rattle.jk_store.specs.declared.entry.Entry.{Entry}
use Rattle.jk_hall.specs.declared.reader.Reader.{Reader}
use Rattle.jk_hall.specs.Kept.{KeepsCuts}
use Rattle.jk_hall.specs.Looking.{IsLook, IsInVain}
use Rattle.jk_hall.specs.Reading.{seen, told, cuts, look_counts}

-- Memory was refused; or the list couldn't be looked at, or was shorter than one that was told.
abbrev pub IsCause : Fault → Type 0
IsCause e = IsMemory e ⊎ (e ≡ WorkerFailed)

-- Why a request is refused between two states: memory was refused; or the list was
-- looked at in vain.
abbrev pub IsRefusal : Reader → Fault → Reader → Type 0
IsRefusal s e t = IsMemory e ⊎ ((e ≡ WorkerFailed) × IsInVain (look_counts s) (told s) (seen t) (look_counts t))

-- A window that is kept is given, or refused, without a call of the shelf.
abbrev pub IsUnread : {S : Type 0} → Reader × S → Request → Reader × S → Type 0
IsUnread s q t = (names : List (List ℕ)) → All IsPathSegment names → IsHit (Has (cuts s.0)) names q → t.1 ≡ s.1

-- What a shelf keeps it goes on to keep.
abbrev pub KeepsOn : {S : Type 0} → (S → Files → Type 0) → S → S → Type 0
KeepsOn keeps s t = (files : Files) → keeps s files → keeps t files

-- The cuts that are kept, of one list of entries and then of a longer one, over a shelf.
module _ {S : Type 0} (keeps : S → Files → Type 0) where
  pub record KeptOn (before after : List Entry) (shelf : S) (old new : List KeptCut) : Type 0 where
    -- where each may have been made, each may have been made
    pub held : KeepsCuts before old → KeepsCuts after new
    -- where each is an image's as well, and the files are kept, each is one
    pub known : KeepsCuts before old → (images : List Image) → ShowImages after images → AreKept keeps shelf images
        → AreOf (Has old) images → AreOf (Has new) images

  -- The list that a reader has seen has grown at its end, what it was told is the same, and the
  -- shelf keeps what it kept.
  pub record Goes (s t : Reader × S) : Type 0 where
    pub grown : IsPrefix (seen s.0) (seen t.0)
    pub told_same : t.0.told ≡ s.0.told
    pub keeps_on : KeepsOn keeps s.1 t.1
    pub cuts_on : KeptOn (seen s.0) (seen t.0) s.1 (cuts s.0) (cuts t.0)

  -- A request is refused.
  abbrev pub RefusesReply : Reader × S → Request → Fault → Reader × S → Type 0
  RefusesReply s q e t = IsRefusal s.0 e t.0 × Goes s t × IsUnread s q t

  module _ (failed : S → ℕ) (gave : S → List ℕ → List ℕ → S → Type 0)
      (gave_at : S → List ℕ → ℕ → ℕ → List ℕ → S → Type 0) where
    -- The reply to a request from a list of entries over a shelf: whatever its files hold by now,
    -- where each kept cut may have been made; and where the files are kept, and each kept cut is an
    -- image's, no other file is sent.
    pub record Replies (entries : List Entry) (old new : S) (kept : List KeptCut) (q : Request) (r : Reply)
        : Type 0 where
      pub any : (images : List Image) → ShowImages entries images → KeepsCuts entries kept
          → All IsPathSegment (names_of images)
          → IsCachedReply (Broke failed gave gave_at entries) (ReadsFile gave entries) (λ s. MayBeMade entries) images
          q old new r
      pub same : (images : List Image) → ShowImages entries images → AreKept keeps old images → AreOf (Has kept) images
          → All IsPathSegment (names_of images)
          → IsKeptReply (Broke failed gave gave_at entries) images q old new r

    -- A request is answered from one list, which is what is seen afterwards. It begins with all
    -- that was seen and with all that was told.
    pub record GivesReply (s : Reader × S) (q : Request) (r : Reply) (t : Reader × S) : Type 0 where
      pub goes : Goes s t
      pub look : IsLook (look_counts s.0) (look_counts t.0)
      pub unread : IsUnread s q t
      pub begins : IsPrefix (told s.0) (seen t.0)
      pub reply : Replies (seen t.0) s.1 t.1 (cuts s.0) q r
