-- What ends a pass: it is read where it is spelled, and changes nothing of a block.
use Rattle.std.proofs.Common.{◌≡◌, ℕ, Bool, true, false, cond, List, [], ◌∷◌, Result, Ok, refl, sym, ap, ◌∙◌, subst}
use Rattle.std.specs.Prelude.{not}
use Rattle.jk_math.specs.declared.fault.Fault.{Fault}
use Rattle.jk_math.specs.declared.fault.Fault.TheVariants.{BadValue}
use Rattle.jk_math.specs.Answer.{◌>>=◌, refuse}
use Rattle.jk_math.specs.Steps.{bind_then, refuse_then, done, ok_is}
use Rattle.jk_model.specs.Decisions.{State, after, state_after, SpellsFrom}
use Rattle.jk_scan.specs.declared.shape.BlockShape.{BlockShape}
use Rattle.jk_scan.specs.Contexts.{uniform}
use Rattle.jk_scan.specs.Passes.{BlockAtPlane}
use Rattle.jk_block.specs.Symbols.{segmentation_symbol, is_symbol, ends_with_symbol, closing_decisions}
use Rattle.jk_block.specs.Reading.{Progress, decide, with_coder, symbol_at, closing_at}
use Rattle.jk_block.proofs.Spelling.{Told, told_join, decide_told, told_decide}
use Rattle.jk_block.proofs.Stages.{Cut, Like, Stage, stage_none}

-- the rest of a symbol, decision by decision
pub symbol_end : Progress → (a b c d : Bool) → State → Result Progress Fault
symbol_end z a b c d n = refuse (not (is_symbol a b c d)) BadValue >>= λ _. done (with_coder z n)

pub symbol_fourth : List ℕ → Progress → (a b c : Bool) → State → Result Progress Fault
symbol_fourth bytes z a b c n = decide bytes uniform n >>= λ d. symbol_end z a b c d.0 d.1

pub symbol_third : List ℕ → Progress → (a b : Bool) → State → Result Progress Fault
symbol_third bytes z a b n = decide bytes uniform n >>= λ c. symbol_fourth bytes z a b c.0 c.1

pub symbol_second : List ℕ → Progress → (a : Bool) → State → Result Progress Fault
symbol_second bytes z a n = decide bytes uniform n >>= λ b. symbol_third bytes z a b.0 b.1

pub on_first : (bytes : List ℕ) (z : Progress) (r : Result (Bool × State) Fault) → decide bytes uniform z.coder ≡ r → symbol_at bytes z ≡ (r >>= λ a. symbol_second bytes z a.0 a.1)
unfolding symbol_at symbol_second symbol_third symbol_fourth symbol_end
on_first bytes z r e = ap (λ (r : Result (Bool × State) Fault). r >>= λ a. symbol_second bytes z a.0 a.1) e

pub on_second : (bytes : List ℕ) (z : Progress) (a : Bool) (n : State) (r : Result (Bool × State) Fault) → decide bytes uniform n ≡ r → symbol_second bytes z a n ≡ (r >>= λ b. symbol_third bytes z a b.0 b.1)
unfolding symbol_second
on_second bytes z a n r e = ap (λ (r : Result (Bool × State) Fault). r >>= λ b. symbol_third bytes z a b.0 b.1) e

pub on_third : (bytes : List ℕ) (z : Progress) (a b : Bool) (n : State) (r : Result (Bool × State) Fault) → decide bytes uniform n ≡ r → symbol_third bytes z a b n ≡ (r >>= λ c. symbol_fourth bytes z a b c.0 c.1)
unfolding symbol_third
on_third bytes z a b n r e = ap (λ (r : Result (Bool × State) Fault). r >>= λ c. symbol_fourth bytes z a b c.0 c.1) e

pub on_fourth : (bytes : List ℕ) (z : Progress) (a b c : Bool) (n : State) (r : Result (Bool × State) Fault) → decide bytes uniform n ≡ r → symbol_fourth bytes z a b c n ≡ (r >>= λ d. symbol_end z a b c d.0 d.1)
unfolding symbol_fourth
on_fourth bytes z a b c n r e = ap (λ (r : Result (Bool × State) Fault). r >>= λ d. symbol_end z a b c d.0 d.1) e

pub ends_right : (z : Progress) (a b c d : Bool) (n : State) → is_symbol a b c d ≡ true → symbol_end z a b c d n ≡ Ok (with_coder z n)
unfolding symbol_end
ends_right z a b c d n e = ap (λ (s : Bool). refuse (not s) BadValue >>= λ _. done (with_coder z n)) e

pub ends_wrong : (z : Progress) (a b c d : Bool) (n : State) → is_symbol a b c d ≡ false → symbol_end z a b c d n ≡ (let r : Result Progress Fault = refuse true BadValue >>= λ _. done z in r)
unfolding symbol_end
ends_wrong z a b c d n e = ap (λ (s : Bool). refuse (not s) BadValue >>= λ _. done (with_coder z n)) e

-- a symbol that was read
record SymbolRead (bytes : List ℕ) (z z' : Progress) : Type 0 where
  told : Told bytes z.coder segmentation_symbol z'.coder
  is : z' ≡ with_coder z z'.coder

four_told : (bytes : List ℕ) (s n m o t : State) (a b c d : Bool) → decide bytes uniform s ≡ Ok (a, n) → decide bytes uniform n ≡ Ok (b, m) → decide bytes uniform m ≡ Ok (c, o) → decide bytes uniform o ≡ Ok (d, t) → not (is_symbol a b c d) ≡ false
    → Told bytes s segmentation_symbol t
four_told bytes s n m o t true false true false e f g h k =
    told_join bytes s n t ((uniform, true) ∷ []) ((uniform, false) ∷ (uniform, true) ∷ (uniform, false) ∷ []) (decide_told bytes uniform s n true e)
    (told_join bytes n m t ((uniform, false) ∷ []) ((uniform, true) ∷ (uniform, false) ∷ []) (decide_told bytes uniform n m false f)
    (told_join bytes m o t ((uniform, true) ∷ []) ((uniform, false) ∷ []) (decide_told bytes uniform m o true g) (decide_told bytes uniform o t false h)))
four_told bytes s n m o t false b c d e f g h k = absurd cc
four_told bytes s n m o t true true c d e f g h k = absurd cc
four_told bytes s n m o t true false false d e f g h k = absurd cc
four_told bytes s n m o t true false true true e f g h k = absurd cc

symbol_read : (bytes : List ℕ) (z z' : Progress) → symbol_at bytes z ≡ Ok z' → SymbolRead bytes z z'
unfolding symbol_at
symbol_read bytes z z' e =
    bind_then (decide bytes uniform z.coder) _ z' e (λ a s1 e.
    bind_then (decide bytes uniform a.1) _ z' e (λ b s2 e.
    bind_then (decide bytes uniform b.1) _ z' e (λ c s3 e.
    bind_then (decide bytes uniform c.1) _ z' e (λ d s4 e.
    refuse_then (not (is_symbol a.0 b.0 c.0 d.0)) BadValue _ z' e (λ right e.
    let told = four_told bytes z.coder a.1 b.1 c.1 d.1 a.0 b.0 c.0 d.0 s1 s2 s3 s4 right in
    subst (λ (w : Progress). SymbolRead bytes z w) (ok_is (with_coder z d.1) z' e) (record { told = told; is = refl }))))))

-- a symbol that is spelled
symbol_goes : (bytes : List ℕ) (z : Progress) → SpellsFrom bytes z.coder segmentation_symbol → symbol_at bytes z ≡ Ok (with_coder z (state_after bytes z.coder segmentation_symbol))
unfolding symbol_at
symbol_goes bytes z h =
    let n = after bytes z.coder uniform in
    let m = after bytes n uniform in
    let o = after bytes m uniform in
    on_first bytes z (done (true, n)) (told_decide bytes uniform z.coder true (h.0, h.1, h.2, tt))
    ∙ on_second bytes z true n (done (false, m)) (told_decide bytes uniform n false (h.3.0, h.3.1, h.3.2, tt))
    ∙ on_third bytes z true false m (done (true, o)) (told_decide bytes uniform m true (h.3.3.0, h.3.3.1, h.3.3.2, tt))
    ∙ on_fourth bytes z true false true o (done (false, after bytes o uniform)) (told_decide bytes uniform o false (h.3.3.3.0, h.3.3.3.1, h.3.3.3.2, tt))
    ∙ ends_right z true false true false (after bytes o uniform) refl

cut_coder : (s : BlockShape) (b t : ℕ) (z : Progress) (c : State) → Cut s b t z → Cut s b t (with_coder z c)
cut_coder s b t z c h = record { whole = h.whole; even = h.even; visited = h.visited }

like_coder : (s : BlockShape) (b t : ℕ) (z : Progress) (c : State) (p : BlockAtPlane) → Like s b t z p → Like s b t (with_coder z c) p
like_coder s b t z c p h = record { agree = h.agree; outside = h.outside; signs = h.signs }

like_back : (s : BlockShape) (b t : ℕ) (z : Progress) (c : State) (p : BlockAtPlane) → Like s b t (with_coder z c) p → Like s b t z p
like_back s b t z c p h = record { agree = h.agree; outside = h.outside; signs = h.signs }

stage_symbol : (bytes : List ℕ) (s : BlockShape) (b t : ℕ) → Stage bytes s b t t (symbol_at bytes) (λ _. segmentation_symbol)
stage_symbol bytes s b t = record {
  onward = λ z z' c e. let r = symbol_read bytes z z' e in subst (λ (w : Progress). Cut s b t w) (sym r.is) (cut_coder s b t z z'.coder c);
  back = λ z z' c e p l. let r = symbol_read bytes z z' e in (like_back s b t z z'.coder p (subst (λ (w : Progress). Like s b t w p) r.is l), r.told);
  only = λ z p c l h. record {
    next = with_coder z (state_after bytes z.coder segmentation_symbol);
    is = symbol_goes bytes z h;
    like = like_coder s b t z (state_after bytes z.coder segmentation_symbol) p l;
    coder_is = refl;
  };
}

-- what ends a pass
pub stage_closing : (bytes : List ℕ) (s : BlockShape) (b t pass : ℕ) → Stage bytes s b t t (closing_at bytes s.style pass) (λ _. closing_decisions s.style pass)
unfolding closing_at
stage_closing bytes s b t pass = by (ends_with_symbol s.style pass)
  where
    by : (e : Bool) → Stage bytes s b t t (λ z. cond e (symbol_at bytes z) (done z)) (λ _. cond e segmentation_symbol [])
    by true = stage_symbol bytes s b t
    by false = stage_none bytes s b t
