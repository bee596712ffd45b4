-- The texts of a connection, where more is known of what answers.
use Rattle.std.proofs.Common.{◌≡◌, ℕ, ◌≤◌, ◌<◌, ◌⊎◌, inl, inr, List, length, Option, Some, None, IfSome, Result, Ok, Err, IfErr, ap, subst, arith, length-append}
use Rattle.std.specs.Io.KnownBytes.{Consumes}
use Rattle.jk_math.specs.declared.fault.Fault.{Fault}
use Rattle.jk_math.specs.Memory.{IsMemory}
use Rattle.jk_web.specs.declared.reply.Reply.{Reply}
use Rattle.jk_web.specs.declared.request.Request.{Request}
use Rattle.jk_web.specs.declared.serving.End.{End}
use Rattle.jk_web.specs.declared.serving.End.TheVariants.{TurnsSpent}
use Rattle.httparse.specs.Grammar.{RequestHead}
use Rattle.jk_web.specs.Heads.{IsWhole, IsGood, request_of}
use Rattle.jk_web.specs.Images.{refuses_memory}
use Rattle.jk_web.proofs.EndLaws.{ends_by}
use Rattle.jk_web.specs.Serving.{EndsConnection}

-- One fact goes forward along the answers, and only memory is refused.
pub ends_as : {S T : Type 0} (gives : S → Request → Reply → S → Type 0) (plain : T → Request → Reply → T → Type 0) (refuses : S → Request → Fault → S → Type 0)
    → (f : S → T) (P : S → Type 0)
    → ((s : S) (q : Request) (r : Reply) (t : S) → P s → gives s q r t → plain (f s) q r (f t) × P t)
    → ((s : S) (q : Request) (e : Fault) (t : S) → P s → refuses s q e t → IsMemory e × P t)
    → (s : S) (stream text : List ℕ) (over spent : Type 0) (t : S) (r : Result End Fault) → P s → EndsConnection gives refuses s stream text over spent t r
    → EndsConnection plain refuses_memory (f s) stream text over spent (f t) r × P t
ends_as gives plain refuses f P step stop s stream text over spent t r p k =
    let e = ends_by gives refuses plain refuses_memory f P (λ u. Unit {0})
    (λ a q y b h g. let n = step a q y b h g in (n.1, λ u. (n.0, tt)))
    (λ a q x b h g. let n = stop a q x b h g in (n.1, λ u. (n.0, tt)))
    s stream text over spent t r p k in ((e.1 tt).0, e.0)

module _ {S : Type 0} (gives : S → Request → Reply → S → Type 0) (refuses : S → Request → Fault → S → Type 0) where
  cause_memory : (state : S) (rest : List ℕ) (e : Fault) (t : S) → ((s : S) (q : Request) (f : Fault) (u : S) → refuses s q f u → IsMemory f)
      → (IsMemory e × (t ≡ state)) ⊎ ((h : RequestHead) × (tail : List ℕ) × IsWhole rest h tail × IsGood h × refuses state (request_of h) e t) → IsMemory e
  cause_memory state rest e t only (inl c) = c.0
  cause_memory state rest e t only (inr c) = only state (request_of c.0) e t c.4

  -- Where only memory is refused, that is what ends the connection.
  pub ends_memory : (s : S) (stream text : List ℕ) (over spent : Type 0) (t : S) (r : Result End Fault)
      → ((s : S) (q : Request) (f : Fault) (u : S) → refuses s q f u → IsMemory f) → EndsConnection gives refuses s stream text over spent t r
      → IfErr r (λ e. IsMemory e)
  ends_memory s stream text over spent t (Ok e) only k = tt
  ends_memory s stream text over spent t (Err e) only k = cause_memory k.state k.rest e t only k.cause

  -- More turns than bytes are enough.
  pub ends_enough : (s : S) (stream text : List ℕ) (over : Type 0) (t : S) (r : Result End Fault) (turns : ℕ) (known left : Option (List ℕ))
      → Consumes known left stream → EndsConnection gives refuses s stream text over (turns ≤ length stream) t r
      → IfSome known (λ all. length all < turns → r ≡ Ok TurnsSpent → ⊥)
  ends_enough s stream text over t r turns None left consumed k = tt
  ends_enough s stream text over t r turns (Some all) None consumed k = absurd consumed
  ends_enough s stream text over t r turns (Some all) (Some rest) consumed k = λ few is.
      let spent = (subst (λ x. EndsConnection gives refuses s stream text over (turns ≤ length stream) t x) is k).1 in
      absurd (omega (arith, spent, few, ap length consumed, length-append stream rest))
