-- Bytes that a writer holds, where they are known, and texts of which a beginning was written.
use Rattle.std.proofs.Common.{◌≡◌, ◌≤◌, ◌+◌, ◌-◌, ℕ, List, [], ◌++◌, length, take, drop, subst, arith, Option, Some, None, sym, ap, ◌∙◌, append_assoc, append-nil}
use Rattle.std.specs.Io.KnownBytes.{Appends, Keeps}
use Rattle.std.proofs.lemmas.List.{take-append-drop, take_all, length-drop}
use Rattle.std.proofs.Math.Seq.{take-add}
use Rattle.jk_math.specs.Front.{IsFront}

pub appends_none : (known : Option (List ℕ)) → Appends known known []
appends_none None = tt
appends_none (Some xs) = sym (append-nil xs)

pub appends_join : (a b c : Option (List ℕ)) (x y : List ℕ) → Appends a b x → Appends b c y → Appends a c (x ++ y)
appends_join None b c x y p q = tt
appends_join (Some xs) None c x y p q = absurd p
appends_join (Some xs) (Some ys) None x y p q = absurd q
appends_join (Some xs) (Some ys) (Some zs) x y p q = q ∙ ap (λ (v : List ℕ). v ++ y) p ∙ append_assoc xs x y

pub appends_kept : (a b c : Option (List ℕ)) (x : List ℕ) → Appends a b x → Keeps b c → Appends a c x
appends_kept None b c x p q = tt
appends_kept (Some xs) None c x p q = absurd p
appends_kept (Some xs) (Some ys) None x p q = absurd q
appends_kept (Some xs) (Some ys) (Some zs) x p q = q ∙ p

pub front_taken : (text : List ℕ) (n : ℕ) → IsFront (take n text) text
front_taken text n = record { more = drop n text; text = sym (take-append-drop n text) }

-- A part that was sent, and a part of what was left.
pub part_more : (text : List ℕ) (sent count : ℕ) → sent ≤ length text
    → take sent text ++ take count (take (length text - sent) (drop sent text)) ≡ take (sent + count) text
part_more text sent count h =
    let all : take (length text - sent) (drop sent text) ≡ drop sent text = take_all (length text - sent) (drop sent text) (omega (arith, length-drop sent text)) in
    ap (λ (v : List ℕ). take sent text ++ take count v) all ∙ sym (take-add sent count text)

pub appends_part : (a b c : Option (List ℕ)) (text : List ℕ) (sent count : ℕ) → sent ≤ length text → Appends a b (take sent text)
    → Appends b c (take count (take (length text - sent) (drop sent text))) → Appends a c (take (sent + count) text)
appends_part a b c text sent count h p q =
    subst (Appends a c) (part_more text sent count h)
    (appends_join a b c (take sent text) (take count (take (length text - sent) (drop sent text))) p q)
