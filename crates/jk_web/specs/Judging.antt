-- What the bytes at the front of a connection are judged to be.
use Rattle.std.specs.Prelude.{◌≡◌, ℕ, ◌≤◌, ⊤, if◌then◌else◌, List, length, drop}
use Rattle.httparse.specs.declared.spans.RequestSpans.{RequestSpans}
use Rattle.httparse.specs.Grammar.{RequestHead}
use Rattle.httparse.specs.Spans.{span_bytes, IsWithin}
use Rattle.jk_web.specs.declared.head.Head.{Head}
use Rattle.jk_web.specs.declared.head.Verdict.{Verdict}
use Rattle.jk_web.specs.declared.head.Verdict.TheVariants.{Whole, More, Bad}
use Rattle.jk_web.specs.Fields.{announces, closes}
use Rattle.jk_web.specs.Heads.{IsWhole, IsGood}

-- P of the head, if it is whole and good
abbrev pub IfHead : Verdict → (Head → Type 0) → Type 0
IfHead (Whole head) P = P head
IfHead More P = ⊤
IfHead (Bad status) P = ⊤

-- there is a whole and good head
abbrev pub IsHead : Verdict → Type 0
IsHead (Whole head) = ⊤
IsHead More = ⊥
IsHead (Bad status) = ⊥

-- P, if more bytes are needed
abbrev pub OnMoreNeeded : Verdict → Type 0 → Type 0
OnMoreNeeded (Whole head) P = ⊤
OnMoreNeeded More P = P
OnMoreNeeded (Bad status) P = ⊤

-- P of the status, if the bytes are bad
abbrev pub IfStatus : Verdict → (ℕ → Type 0) → Type 0
IfStatus (Whole head) P = ⊤
IfStatus More P = ⊤
IfStatus (Bad status) P = P status

-- The places are those of the parts of a head, which is whole and good.
pub record IsHeadAt (rest : List ℕ) (head : Head) : Type 0 where
  pub tree : RequestHead
  pub whole : IsWhole rest tree (drop head.length rest)
  pub good : IsGood tree
  pub method : span_bytes rest head.method ≡ tree.method
  pub target : span_bytes rest head.target ≡ tree.target
  pub close : head.closes ≡ closes tree

-- The places are within the bytes.
pub record IsHeadWithin (rest : List ℕ) (head : Head) : Type 0 where
  pub method : IsWithin (length rest) head.method
  pub target : IsWithin (length rest) head.target
  pub fits : head.length ≤ length rest

-- what a head is judged to be, where its parts are known
abbrev pub judged : RequestSpans → RequestHead → Verdict
judged spans h =
    if announces h then Bad 400
    else Whole record { method = spans.method; target = spans.path; closes = closes h; length = spans.len }
