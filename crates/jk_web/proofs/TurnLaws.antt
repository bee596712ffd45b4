-- The reads of a connection.
use Rattle.std.proofs.Common.{◌≡◌, ℕ, ◌+◌, ◌*◌, ◌≤◌, List, ◌++◌, length, take, arith, Ok, Err, Some}
use Rattle.std.proofs.lemmas.List.{length-append, length-take-le}
use Rattle.jk_math.specs.declared.fault.Fault.{Fault}
use Rattle.jk_web.specs.declared.request.Request.{Request}
use Rattle.jk_web.specs.declared.reply.Reply.{Reply}
use Rattle.jk_web.specs.declared.serving.End.{End}
use Rattle.jk_web.specs.declared.serving.End.TheVariants.{Closed, Bad, ReadFailed, WriteFailed, TurnsSpent}
use Rattle.jk_web.specs.Unread.{Unread}
use Rattle.jk_web.specs.Serving.{TellsEnd}
use Rattle.jk_web.specs.Turns.{most_read, IsReadIn}

-- One more read gives at most a piece.
pub read_more : (stream piece : List ℕ) (reads count : ℕ) → length stream ≤ most_read * reads → count ≤ length piece → length piece ≡ most_read
    → length (stream ++ take count piece) ≤ most_read * (reads + 1)
read_more stream piece reads count h fits all = omega (arith, length-append stream (take count piece), length-take-le count piece fits)

-- Where what came was answered, and where that has ended the connection.
pub read_to_end : {S : Type 0} (gives : S → Request → Reply → S → Type 0) (refuses : S → Request → Fault → S → Type 0) (s : S) (rest text : List ℕ) (new : Unread) (t : S) (e : End)
    → TellsEnd gives refuses s rest text new t (Ok (Some e)) → (turns : ℕ) (stream : List ℕ) (reads : ℕ) → reads ≤ length stream → length stream ≤ most_read * reads → reads ≤ turns
    → IsReadIn turns stream (Ok e)
read_to_end gives refuses s rest text new t Closed k turns stream reads least most enough =
    record { reads = reads; least = least; most = most; enough = enough; failed = λ is. absurd cc; spent = λ is. absurd cc }
read_to_end gives refuses s rest text new t Bad k turns stream reads least most enough =
    record { reads = reads; least = least; most = most; enough = enough; failed = λ is. absurd cc; spent = λ is. absurd cc }
read_to_end gives refuses s rest text new t WriteFailed k turns stream reads least most enough =
    record { reads = reads; least = least; most = most; enough = enough; failed = λ is. absurd cc; spent = λ is. absurd cc }
read_to_end gives refuses s rest text new t ReadFailed k turns stream reads least most enough = absurd k
read_to_end gives refuses s rest text new t TurnsSpent k turns stream reads least most enough = absurd k

-- Where it was refused, or the input has ended.
pub read_refused : (e : Fault) (turns : ℕ) (stream : List ℕ) (reads : ℕ) → reads ≤ length stream → length stream ≤ most_read * reads → reads ≤ turns → IsReadIn turns stream (Err e)
read_refused e turns stream reads least most enough =
    record { reads = reads; least = least; most = most; enough = enough; failed = λ is. absurd cc; spent = λ is. absurd cc }

pub read_closed : (turns : ℕ) (stream : List ℕ) (reads : ℕ) → reads ≤ length stream → length stream ≤ most_read * reads → reads ≤ turns → IsReadIn turns stream (Ok Closed)
read_closed turns stream reads least most enough =
    record { reads = reads; least = least; most = most; enough = enough; failed = λ is. absurd cc; spent = λ is. absurd cc }
