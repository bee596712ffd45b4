-- A catalogue and the place that its windows come from, which are borrowed.
use Rattle.std.specs.Prelude.{◌≡◌, ℕ, List, All, Option}
use Rattle.jk_math.specs.declared.fault.Fault.{Fault}
use Rattle.jk_math.specs.Memory.{IsMemory}
use Rattle.jk_window.specs.declared.view.View.{View}
use Rattle.jk_web.specs.declared.reply.Reply.{Reply}
use Rattle.jk_web.specs.declared.request.Request.{Request}
use Rattle.jk_web.specs.declared.running.Answering.{Answering}
use Rattle.jk_web.specs.Resources.{IsPathSegment}
use Rattle.jk_web.specs.Images.{Image, names_of, IsReplyWith, IsKeptReply}
use Rattle.jk_web.specs.Cuts.{Within, AreOf}
use Rattle.jk_web.specs.Running.{Lasts}

-- Both references are the same.
abbrev pub AreSame : {C W : Type 0} → Answering C W → Answering C W → Type 0
AreSame s t = (t.catalogue.ghost_name ≡ s.catalogue.ghost_name) × (t.windows.ghost_name ≡ s.windows.ghost_name)

-- Each cut that is had may have been made.
abbrev pub HoldsBehind : {C W : Type 0} → (C → List ℕ → View → List ℕ → Type 0)
    → (W → List ℕ → View → List ℕ → Type 0) → Answering C W → Type 0
HoldsBehind made has a = Within (has a.windows.now) (made a.catalogue.now)

-- The catalogue stands for these images and keeps their files, and each cut that is had is of one
-- of them.
abbrev pub KnowsBehind : {C W : Type 0} → (stands keeps : C → List Image → Type 0)
    → (W → List ℕ → View → List ℕ → Type 0) → List Image → Answering C W → Type 0
KnowsBehind stands keeps has images a = stands a.catalogue.now images × keeps a.catalogue.now images
    × AreOf (has a.windows.now) images

module _ {C W : Type 0} (stands keeps : C → List Image → Type 0) (made : C → List ℕ → View → List ℕ → Type 0)
    (has : W → List ℕ → View → List ℕ → Type 0) where
  -- Both references are the same, and what is said of the catalogue and of what is had stays.
  pub record GoesBehind (s t : Answering C W) : Type 0 where
    pub same : AreSame s t
    pub lasts : Lasts stands keeps made s.catalogue.now t.catalogue.now
    pub holds : HoldsBehind made has s → HoldsBehind made has t
    pub knows : (images : List Image) → KnowsBehind stands keeps has images s → AreOf (has t.windows.now) images

  pub record GivesBehind (broke : C → List ℕ → C → Type 0) (reads : C → List ℕ → List ℕ → C → Type 0)
      (others : Option Image → C → List ℕ → View → C → List ℕ → Type 0)
      (s : Answering C W) (q : Request) (r : Reply) (t : Answering C W) : Type 0 where
    pub reply : (images : List Image) → stands s.catalogue.now images → HoldsBehind made has s
        → All IsPathSegment (names_of images)
        → IsReplyWith broke reads others images q s.catalogue.now t.catalogue.now r
    pub kept : (images : List Image) → KnowsBehind stands keeps has images s → All IsPathSegment (names_of images)
        → IsKeptReply broke images q s.catalogue.now t.catalogue.now r
    pub goes : GoesBehind s t

  pub record RefusesBehind (s : Answering C W) (q : Request) (e : Fault) (t : Answering C W) : Type 0 where
    pub memory : IsMemory e
    pub goes : GoesBehind s t
