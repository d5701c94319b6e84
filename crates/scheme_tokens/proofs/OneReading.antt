-- The code reads a text in one way.
use Rattle.std.proofs.Common.{◌≡◌, ℕ, List, [], ◌∷◌, Option, refl, sym, subst}
use Rattle.scheme_tokens.specs.Lexical.{Token}
use Rattle.scheme_tokens.specs.Faults.{FaultAt}
use Rattle.scheme_tokens.specs.Mirror.Reading.{Next, found, ended, next, Reads}

same_end : (n : Next) (end fin : Option FaultAt) → n ≡ ended end → n ≡ ended fin → end ≡ fin
same_end n end fin h k = cc

no_end : (n : Next) (t : Token) (rest : List ℕ) (end : Option FaultAt) → n ≡ found t rest → n ≡ ended end → ⊥
no_end n t rest end h k = cc

same_token : (n : Next) (t u : Token) (rest others : List ℕ) → n ≡ found t rest → n ≡ found u others → t ≡ u
same_token n t u rest others h k = cc

same_rest : (n : Next) (t u : Token) (rest others : List ℕ) → n ≡ found t rest → n ≡ found u others → rest ≡ others
same_rest n t u rest others h k = cc

pub one_reading_from : (size : ℕ) (ts us : List Token) (end fin : Option FaultAt) (text : List ℕ) → Reads size ts end text → Reads size us fin text → (ts ≡ us) × (end ≡ fin)
one_reading_from size [] [] end fin text h k = (refl, same_end (next size text) end fin h k)
one_reading_from size [] (u ∷ us) end fin text h k = absurd (no_end (next size text) u k.0 end k.1 h)
one_reading_from size (t ∷ ts) [] end fin text h k = absurd (no_end (next size text) t h.0 fin h.1 k)
one_reading_from size (t ∷ ts) (u ∷ us) end fin text h k =
    let first = same_token (next size text) t u h.0 k.0 h.1 k.1 in
    let rest = same_rest (next size text) t u h.0 k.0 h.1 k.1 in
    let more = one_reading_from size ts us end fin h.0 h.2 (subst (Reads size us fin) (sym rest) k.2) in
    ((λ i. first i ∷ more.0 i), more.1)
