-- What a session has of the bytes of its connection.
use Rattle.std.specs.Prelude.{◌≡◌, ℕ, None, Result, Ok, Err, ⊤}
use Rattle.httparse.specs.Grammar.{RequestHead}
use Rattle.jk_math.specs.declared.fault.Fault.{Fault}
use Rattle.jk_math.specs.Memory.{IsMemory}
use Rattle.jk_web.specs.declared.request.Request.{Request}
use Rattle.jk_web.specs.declared.session.Next.{Next}
use Rattle.jk_web.specs.declared.session.Next.TheVariants.{Request as Asked, More, Bad}
use Rattle.jk_web.specs.Heads.{IsWhole, IsGood, request_of}
use Rattle.jk_web.specs.Unread.{Unread}

-- A request was made of the head at the front, and the tail is left.
pub record TakesRequest (old new : Unread) (request : Request) : Type 0 where
  pub head : RequestHead
  pub whole : IsWhole old.rest head new.rest
  pub good : IsGood head
  pub asks : request ≡ request_of head
  pub running : old.stuck ≡ None
  pub keeps : new.stuck ≡ None

-- P of the request, if there is one
abbrev pub IfRequest : Result Next Fault → (Request → Type 0) → Type 0
IfRequest (Ok (Asked request)) P = P request
IfRequest r P = ⊤

-- the next is a request, or memory was refused
abbrev pub IsRequestUnlessMemory : Result Next Fault → Type 0
IsRequestUnlessMemory (Ok (Asked request)) = ⊤
IsRequestUnlessMemory (Ok next) = ⊥
IsRequestUnlessMemory (Err e) = IsMemory e

-- P, if more bytes are needed
abbrev pub OnMore : Result Next Fault → Type 0 → Type 0
OnMore (Ok More) P = P
OnMore r P = ⊤

-- P of the status, if the request is bad
abbrev pub IfBad : Result Next Fault → (ℕ → Type 0) → Type 0
IfBad (Ok (Bad status)) P = P status
IfBad r P = ⊤
