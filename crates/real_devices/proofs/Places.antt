-- Writing the bytes of an id.
use Rattle.std.proofs.Common.{◌≡◌, ℕ, zero, suc, ◌+◌, ◌<◌, List, [], ◌∷◌, ◌++◌, length, get_or, drop, refl, sym, ap, ◌∙◌, append_assoc, add-one}
use Rattle.std.proofs.Math.Seq.{drop-cons}
use Rattle.real_devices.specs.IdBytes.{escape, ended}

pub escape_some : (byte : ℕ) → (byte ≡ 0 → ⊥) → escape byte ≡ byte ∷ []
escape_some zero n = absurd (n refl)
escape_some (suc byte) n = refl

-- what is written and what is left make the same, after one byte more
pub put_step : (text out next : List ℕ) (i byte : ℕ) → i < length text → byte ≡ get_or text i 0 → next ≡ out ++ escape byte
    → next ++ ended (drop (i + 1) text) ≡ out ++ ended (drop i text)
put_step text out next i byte within is made =
    let front : drop i text ≡ get_or text i 0 ∷ drop (i + 1) text = rw (add-one) (drop-cons text i 0 within) in
    ap (λ (l : List ℕ). l ++ ended (drop (i + 1) text)) made
    ∙ append_assoc out (escape byte) (ended (drop (i + 1) text))
    ∙ ap (λ (b : ℕ). out ++ (escape b ++ ended (drop (i + 1) text))) is
    ∙ ap (λ (l : List ℕ). out ++ ended l) (sym front)
