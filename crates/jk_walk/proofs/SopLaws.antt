-- The SOP of a packet is what its counter says.
use Rattle.std.proofs.Common.{◌≡◌, ℕ, ◌+◌, ◌<◌, Bool, true, false, cond, nat_lt, List, [], ◌∷◌, ◌++◌, length, get_or, take, Some, None, Ok, inl, inr, refl, ap, sym, ◌∙◌, subst, arith, append_assoc}
use Rattle.std.specs.Prelude.{◌&&◌, ◌==◌, not, nat_le, if◌then◌else◌}
use Rattle.std.proofs.lemmas.Bool.Decides.{nat_tests}
use Rattle.std.specs.List.{flat_map}
use Rattle.jk_math.specs.Answer.{◌>>=◌, refuse}
use Rattle.jk_math.specs.Steps.{refuse_then, ok_is}
use Rattle.jk_math.specs.declared.fault.Fault.TheVariants.{Truncated, BadLength}
use Rattle.jk_packet.specs.PacketText.{IsSop, eph_text}
use Rattle.jk_packet.specs.Reading.{sop_at}
use Rattle.jk_packet.proofs.Laws.{sop_only}
use Rattle.jk_walk.specs.TilePackets.{Packet, IsPacket}
use Rattle.jk_walk.specs.Sop.{begins_sop, sop_of, counter_of, sop_written}

-- how many bytes SOP takes, by the test
sop_six : (b : Bool) (bytes : List ℕ) (n : ℕ) → cond b (refuse (nat_lt (length bytes) 4) Truncated
    >>= λ _. refuse (not ((get_or bytes 2 0 == 0x00) && (get_or bytes 3 0 == 0x04))) BadLength
    >>= λ _. refuse (nat_lt (length bytes) 6) Truncated
    >>= λ _. Ok 6) (Ok 0) ≡ Ok n → n ≡ cond b 6 0
sop_six true bytes n e =
    refuse_then (nat_lt (length bytes) 4) Truncated _ n e (λ _ e.
    refuse_then (not ((get_or bytes 2 0 == 0x00) && (get_or bytes 3 0 == 0x04))) BadLength _ n e (λ _ e.
    refuse_then (nat_lt (length bytes) 6) Truncated _ n e (λ _ e. sym (ok_is 6 n e))))
sop_six false bytes n e = sym (ok_is 0 n e)

three : (x y z : Bool) → (x && y && z) ≡ (x && (y && z))
three true y z = refl
three false y z = refl

pub sop_by : (sop : Bool) (bytes : List ℕ) (n : ℕ) → sop_at sop bytes ≡ Ok n → n ≡ cond (sop && begins_sop bytes) 6 0
unfolding sop_at
sop_by sop bytes n e =
    sop_six (sop && (get_or bytes 0 0 == 0xFF) && (get_or bytes 1 0 == 0x91)) bytes n e ∙ ap (λ b. cond b 6 0) (three sop (get_or bytes 0 0 == 0xFF) (get_or bytes 1 0 == 0x91))

abbrev IsWritten : Bool → List ℕ → Type 0
IsWritten sop text = sop_of sop text ≡ sop_written (counter_of sop text)

-- how long a segment is
abbrev sop_size : Bool → ℕ
sop_size b = if b then 6 else 0

-- no segment
without : (sop : Bool) (text : List ℕ) → 0 ≡ sop_size (sop && begins_sop text) → IsWritten sop text
without sop text e = by (sop && begins_sop text) (nat_le 6 (length text)) e
  where
    by : (b long : Bool) → 0 ≡ sop_size b → cond b (take 6 text) [] ≡ sop_written (cond (b && long) (Some (get_or text 4 0, get_or text 5 0)) None)
    by false long e = refl
    by true long e = absurd (omega (arith, e))

-- a segment
with_sop : (high low : ℕ) (rest : List ℕ) → IsWritten true (0xFF ∷ 0x91 ∷ 0x00 ∷ 0x04 ∷ high ∷ low ∷ rest)
with_sop high low rest =
    let text = 0xFF ∷ 0x91 ∷ 0x00 ∷ 0x04 ∷ high ∷ low ∷ rest in
    let n = length text in
    let size : n ≡ length rest + 6 = omega arith in
    let long : nat_le 6 n ≡ true = grind (arith, nat_tests) in
    ap (λ (b : Bool). sop_written (cond b (Some (high, low)) None)) (sym long)

pub sop_is_written : (sop eph : Bool) (p : Packet) → IsPacket sop eph p → 0 < length p.bits → sop_of sop p.text ≡ sop_written (counter_of sop p.text)
sop_is_written sop eph p is some =
    let h = is.is_header in
    let bodies = flat_map (λ b. b.bytes) p.bodies in
    let rest = h.header ++ (eph_text eph ++ bodies) in
    let parts : p.text ≡ h.sop_text ++ rest =
    is.joins ∙ ap (λ (xs : List ℕ). xs ++ bodies) h.joins ∙ append_assoc h.sop_text (h.header ++ eph_text eph) bodies ∙ ap (λ (xs : List ℕ). h.sop_text ++ xs) (append_assoc h.header (eph_text eph) bodies) in
    let at : sop_at sop p.text ≡ Ok (length h.sop_text) = ap (sop_at sop) parts ∙ sop_only sop h.sop_text p.bits h.header (eph_text eph ++ bodies) h.is_sop some h.packs in
    by rest h.sop_text parts (sop_by sop p.text (length h.sop_text) at) h.is_sop
  where
    by : (rest text : List ℕ) → p.text ≡ text ++ rest → length text ≡ cond (sop && begins_sop p.text) 6 0 → IsSop sop text → IsWritten sop p.text
    by rest text parts size (inl none) = without sop p.text (ap length (sym none) ∙ size)
    by rest text parts size (inr s) =
        subst (λ (t : List ℕ). IsWritten sop t) (sym (parts ∙ ap (λ (xs : List ℕ). xs ++ rest) s.3))
        (subst (λ (b : Bool). IsWritten b (0xFF ∷ 0x91 ∷ 0x00 ∷ 0x04 ∷ s.1 ∷ s.2 ∷ rest)) (sym s.0) (with_sop s.1 s.2 rest))
