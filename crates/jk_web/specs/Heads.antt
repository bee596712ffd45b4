-- Heads of requests at the front of the bytes of a connection, in the grammar of httparse (RFC
-- 9112, sections 2 to 5).
use Rattle.std.specs.Prelude.{◌≡◌, ℕ, ◌<◌, ◌≤◌, ◌⊎◌, true, false, List, [], ◌∷◌, ◌++◌, length, take}
use Rattle.httparse.specs.Grammar.{lf, print_end, is_token_byte, RequestHead, print_request, ReadsRequest, HasNoRequest}
use Rattle.httparse.specs.Grammar.{NeverHasRequest, MayBecomeRequest}
use Rattle.jk_web.specs.declared.request.Request.{Request}
use Rattle.jk_web.specs.Fields.{announces, closes}

-- the bytes of the longest head
abbrev pub head_limit : ℕ
head_limit = 8192

-- the most fields of a head
abbrev pub field_limit : ℕ
field_limit = 64

-- The rest begins with a whole head, and the tail follows it.
pub record IsWhole (rest : List ℕ) (h : RequestHead) (tail : List ℕ) : Type 0 where
  pub reads : ReadsRequest rest h tail
  pub short : length (print_request h) ≤ head_limit

-- A head that is answered: not too many fields, and no body.
pub record IsGood (h : RequestHead) : Type 0 where
  pub few : length h.fields ≤ field_limit
  pub bodiless : announces h ≡ false

-- a whole head whose fields announce a body
pub record IsRefused (rest : List ℕ) : Type 0 where
  pub head : RequestHead
  pub tail : List ℕ
  pub whole : IsWhole rest head tail
  pub body : announces head ≡ true

-- Behind 64 whole fields stands the first byte of one more.
pub record BeginsTooMany (rest : List ℕ) : Type 0 where
  pub front : List ℕ
  pub first : ℕ
  pub more : List ℕ
  pub text : rest ≡ front ++ first ∷ more
  pub token : is_token_byte first ≡ true
  pub head : RequestHead
  pub reads : ReadsRequest (front ++ print_end lf) head []
  pub full : length head.fields ≡ field_limit

-- The rest holds no whole head yet, and may become one.
pub record IsQuiet (rest : List ℕ) : Type 0 where
  pub short : length rest < head_limit
  pub none : HasNoRequest rest
  pub unfinished : MayBecomeRequest rest ⊎ BeginsTooMany rest

-- why a rest is a bad request
abbrev pub IsMalformed : List ℕ → Type 0
IsMalformed rest = NeverHasRequest (take head_limit rest) ⊎ IsRefused rest

-- why its head is too large
abbrev pub IsTooLarge : List ℕ → Type 0
IsTooLarge rest =
    ((head_limit ≤ length rest) × HasNoRequest (take head_limit rest)) ⊎ BeginsTooMany (take head_limit rest)

-- A status that stands for what is wrong with the rest.
abbrev pub IsBad : List ℕ → ℕ → Type 0
IsBad rest status = ((status ≡ 400) × IsMalformed rest) ⊎ ((status ≡ 431) × IsTooLarge rest)

-- what a head asks for
abbrev pub request_of : RequestHead → Request
request_of h = record { method = h.method; target = h.target; closes = closes h }
