-- How a catalogue answers the requests of a connection.
use Rattle.std.specs.Prelude.{ℕ, List, All}
use Rattle.jk_math.specs.declared.fault.Fault.{Fault}
use Rattle.jk_math.specs.Memory.{IsMemory}
use Rattle.jk_window.specs.declared.view.View.{View}
use Rattle.jk_web.specs.declared.reply.Reply.{Reply}
use Rattle.jk_web.specs.declared.request.Request.{Request}
use Rattle.jk_web.specs.Resources.{IsPathSegment}
use Rattle.jk_web.specs.Images.{Image, names_of, gives_reply, gives_kept}
use Rattle.jk_web.specs.Cuts.{Within}

module _ {S : Type 0} (stands keeps : S → List Image → Type 0) (made : S → List ℕ → View → List ℕ → Type 0) where
  -- What it stands for and what it keeps stays, and so does what may have been made.
  pub record Lasts (s t : S) : Type 0 where
    pub stands_on : (images : List Image) → stands s images → stands t images
    pub keeps_on : (images : List Image) → keeps s images → keeps t images
    pub made_on : Within (made s) (made t)

  -- Only memory is refused.
  pub record RefusesAnswer (s : S) (q : Request) (e : Fault) (t : S) : Type 0 where
    pub memory : IsMemory e
    pub lasts : Lasts s t

  -- The reply is that to its images; where it keeps their files, no other file is sent.
  pub record GivesAnswer (broke : S → List ℕ → S → Type 0) (reads : S → List ℕ → List ℕ → S → Type 0)
      (cuts : S → List ℕ → View → S → List ℕ → Type 0)
      (s : S) (q : Request) (r : Reply) (t : S) : Type 0 where
    pub reply : (images : List Image) → stands s images → All IsPathSegment (names_of images)
        → gives_reply broke reads cuts images s q r t
    pub kept : (images : List Image) → stands s images → keeps s images → All IsPathSegment (names_of images)
        → gives_kept broke images s q r t
    pub lasts : Lasts s t
