-- What is written on a connection whose requests are answered one after another.
use Rattle.std.specs.Prelude.{◌≡◌, ℕ, ◌⊎◌, true, false, if◌then◌else◌, List, [], ◌++◌, Option, Some, None, IfSome}
use Rattle.std.specs.Prelude.{Result, Ok, Err}
use Rattle.httparse.specs.Grammar.{RequestHead}
use Rattle.jk_math.specs.declared.fault.Fault.{Fault}
use Rattle.jk_math.specs.Memory.{IsMemory}
use Rattle.jk_web.specs.declared.reply.Reply.{Reply}
use Rattle.jk_web.specs.declared.request.Request.{Request}
use Rattle.jk_web.specs.declared.serving.End.{End}
use Rattle.jk_web.specs.declared.serving.End.TheVariants.{Closed, Bad, ReadFailed, WriteFailed, TurnsSpent}
use Rattle.jk_web.specs.Fields.{closes}
use Rattle.jk_web.specs.Heads.{IsWhole, IsGood, IsQuiet, IsBad, request_of}
use Rattle.jk_math.specs.Front.{IsFront}
use Rattle.jk_web.specs.Unread.{Unread}
use Rattle.jk_web.specs.Replies.{bad_reply}

-- Requests stand at the front of a rest, one behind another, and none of them closes the connection;
-- this is left behind them.
pub data Requests (rest : List ℕ) : List ℕ → Type 0 where
  no_request : Requests rest rest
  another : (middle : List ℕ) (h : RequestHead) (tail : List ℕ)
      → Requests rest middle → IsWhole middle h tail → IsGood h → closes h ≡ false → Requests rest tail

-- All requests of a rest: behind those that don't close there is no further one yet, one that
-- closes, or a bad one.
pub record HasRequests (rest : List ℕ) : Type 0 where
  pub last : List ℕ
  pub requests : Requests rest last
  pub ends : IsQuiet last
      ⊎ ((h : RequestHead) × (tail : List ℕ) × IsWhole last h tail × IsGood h × (closes h ≡ true))
      ⊎ ((status : ℕ) × IsBad last status)

module _ {S : Type 0} (gives : S → Request → Reply → S → Type 0) where
  -- The requests at the front of a stream were answered in turn, and none of them closes the
  -- connection: this text was written, this rest is left of the stream, and what answers is in this
  -- state.
  pub data Answered (s : S) (stream : List ℕ) : List ℕ → List ℕ → S → Type 0 where
    nothing : Answered s stream [] stream s
    one_more : (text rest : List ℕ) (t : S) (h : RequestHead) (tail : List ℕ) (reply : Reply) (u : S)
        → Answered s stream text rest t
        → IsWhole rest h tail → IsGood h → closes h ≡ false → gives t (request_of h) reply u
        → Answered s stream (text ++ reply.bytes) tail u

  -- The text of a stream that holds no further request yet.
  pub record IsOpenText (s : S) (stream text : List ℕ) (t : S) : Type 0 where
    pub rest : List ℕ
    pub answered : Answered s stream text rest t
    pub quiet : IsQuiet rest

  -- The text that ends with the reply to a request that closes.
  pub record IsClosedText (s : S) (stream text : List ℕ) (t : S) : Type 0 where
    pub before : List ℕ
    pub rest : List ℕ
    pub state : S
    pub answered : Answered s stream before rest state
    pub head : RequestHead
    pub tail : List ℕ
    pub whole : IsWhole rest head tail
    pub good : IsGood head
    pub last : closes head ≡ true
    pub reply : Reply
    pub given : gives state (request_of head) reply t
    pub ends : text ≡ before ++ reply.bytes

  -- The text that ends with the reply to a bad request.
  pub record IsBadText (s : S) (stream text : List ℕ) (t : S) : Type 0 where
    pub before : List ℕ
    pub rest : List ℕ
    pub answered : Answered s stream before rest t
    pub status : ℕ
    pub bad : IsBad rest status
    pub ends : text ≡ before ++ (bad_reply status).bytes

  -- The text of all that is due: up to where no further request has come yet, to a request that
  -- closes, or to a bad one.
  abbrev pub IsWholeText : S → List ℕ → List ℕ → S → Type 0
  IsWholeText s stream text t = IsOpenText s stream text t ⊎ IsClosedText s stream text t ⊎ IsBadText s stream text t

  -- The text is the beginning of such a text.
  pub record BeginsText (s : S) (stream text : List ℕ) : Type 0 where
    pub all : List ℕ
    pub state : S
    pub whole : IsWholeText s stream all state
    pub front : IsFront text all

  -- The reply that comes next: to a request, or to what is bad. Behind it this is left of the
  -- stream, if it doesn't close the connection.
  abbrev pub IsDue : S → List ℕ → Reply → S → Option (List ℕ) → Type 0
  IsDue s rest reply t left =
      ((h : RequestHead) × (tail : List ℕ) × IsWhole rest h tail × IsGood h × gives s (request_of h) reply t
      × (left ≡ (if closes h then None else Some tail)))
      ⊎ ((status : ℕ) × IsBad rest status × (reply ≡ bad_reply status) × (t ≡ s) × (left ≡ None))

  -- The text that was cut off in the reply that was due. Whole: the requests behind it are known,
  -- so that it is the beginning of a text of all that is due (`cut_texts_begin_whole_ones`).
  pub record IsCutText (s : S) (stream text : List ℕ) (t : S) : Type 0 where
    pub before : List ℕ
    pub rest : List ℕ
    pub state : S
    pub answered : Answered s stream before rest state
    pub reply : Reply
    pub left : Option (List ℕ)
    pub due : IsDue state rest reply t left
    pub whole : IfSome left HasRequests
    pub part : List ℕ
    pub cut : IsFront part reply.bytes
    pub ends : text ≡ before ++ part

module _ {S : Type 0} (gives : S → Request → Reply → S → Type 0) (refuses : S → Request → Fault → S → Type 0) where
  -- Whole replies alone, where memory was refused, or an answer.
  pub record IsRefusedText (s : S) (stream text : List ℕ) (e : Fault) (t : S) : Type 0 where
    pub rest : List ℕ
    pub state : S
    pub answered : Answered gives s stream text rest state
    pub cause : (IsMemory e × (t ≡ state))
        ⊎ ((h : RequestHead) × (tail : List ℕ) × IsWhole rest h tail × IsGood h × refuses state (request_of h) e t)

  -- What was written to a stream, where it goes on with this rest, or where it ended.
  abbrev pub TellsEnd : S → List ℕ → List ℕ → Unread → S → Result (Option End) Fault → Type 0
  TellsEnd s stream text new t (Ok None) = Answered gives s stream text new.rest t × IsQuiet new.rest × (new.stuck ≡ None)
  TellsEnd s stream text new t (Ok (Some Closed)) = IsClosedText gives s stream text t
  TellsEnd s stream text new t (Ok (Some Bad)) = IsBadText gives s stream text t
  TellsEnd s stream text new t (Ok (Some WriteFailed)) = IsCutText gives s stream text t
  TellsEnd s stream text new t (Ok (Some ReadFailed)) = ⊥
  TellsEnd s stream text new t (Ok (Some TurnsSpent)) = ⊥
  TellsEnd s stream text new t (Err e) = IsRefusedText s stream text e t

  -- What was written to a stream that was read, and what has ended the connection. Over: no more
  -- input comes; spent: no read is left.
  abbrev pub EndsConnection : S → List ℕ → List ℕ → Type 0 → Type 0 → S → Result End Fault → Type 0
  EndsConnection s stream text over spent t (Ok Closed) = (IsOpenText gives s stream text t × over)
      ⊎ IsClosedText gives s stream text t
  EndsConnection s stream text over spent t (Ok Bad) = IsBadText gives s stream text t
  EndsConnection s stream text over spent t (Ok ReadFailed) = IsOpenText gives s stream text t
  EndsConnection s stream text over spent t (Ok WriteFailed) = IsCutText gives s stream text t
  EndsConnection s stream text over spent t (Ok TurnsSpent) = IsOpenText gives s stream text t × spent
  EndsConnection s stream text over spent t (Err e) = IsRefusedText s stream text e t
