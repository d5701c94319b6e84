-- Where characters of a class end.
use Rattle.std.proofs.Common.{◌≡◌, ℕ, List, [], ◌∷◌, ◌++◌, Bool, true, false, cond, refl, ap, ◌∙◌}
use Rattle.std.specs.List.{list_all}
use Rattle.std.proofs.lemmas.Bool.{cond-true, cond-false, and_parts}
use Rattle.scheme_tokens.specs.Lexical.{Ends}
use Rattle.scheme_tokens.specs.Mirror.Words.{front_of, behind}

-- nothing is left of the class where it ends
behind-ends : (p : ℕ → Bool) (rest : List ℕ) → Ends p rest → behind p rest ≡ rest
behind-ends p [] h = refl
behind-ends p (c ∷ cs) h = cond-false (p c) (behind p cs) (c ∷ cs) h

front-ends : (p : ℕ → Bool) (rest : List ℕ) → Ends p rest → front_of p rest ≡ []
front-ends p [] h = refl
front-ends p (c ∷ cs) h = cond-false (p c) (c ∷ front_of p cs) [] h

-- characters of a class, where it ends behind them, are the longest front
pub behind-all : (p : ℕ → Bool) (cs rest : List ℕ) → list_all p cs ≡ true → Ends p rest → behind p (cs ++ rest) ≡ rest
behind-all p [] rest h e = behind-ends p rest e
behind-all p (c ∷ cs) rest h e =
    let parts = and_parts (p c) (list_all p cs) h in
    cond-true (p c) (behind p (cs ++ rest)) (c ∷ (cs ++ rest)) parts.0 ∙ behind-all p cs rest parts.1 e

pub front-all : (p : ℕ → Bool) (cs rest : List ℕ) → list_all p cs ≡ true → Ends p rest → front_of p (cs ++ rest) ≡ cs
front-all p [] rest h e = front-ends p rest e
front-all p (c ∷ cs) rest h e =
    let parts = and_parts (p c) (list_all p cs) h in
    cond-true (p c) (c ∷ front_of p (cs ++ rest)) [] parts.0 ∙ ap (λ (q : List ℕ). c ∷ q) (front-all p cs rest parts.1 e)

ends_when : (p : ℕ → Bool) (c : ℕ) (cs : List ℕ) (b : Bool) → p c ≡ b → Ends p (behind p cs) → Ends p (cond b (behind p cs) (c ∷ cs))
ends_when p c cs true e h = h
ends_when p c cs false e h = e

-- behind the longest front the class ends
pub ends-behind : (p : ℕ → Bool) (cs : List ℕ) → Ends p (behind p cs)
ends-behind p [] = tt
ends-behind p (c ∷ cs) = ends_when p c cs (p c) refl (ends-behind p cs)

-- ---- what follows counts by its first character alone

-- what ends before one rest ends before another
abbrev pub EndsLike : List ℕ → List ℕ → Type 0
EndsLike cs ds = (p : ℕ → Bool) → Ends p cs → Ends p ds

pub like_nothing : (cs : List ℕ) → EndsLike cs []
like_nothing cs p h = tt

pub like_first : (c : ℕ) (cs ds : List ℕ) → EndsLike (c ∷ cs) (c ∷ ds)
like_first c cs ds p h = h

pub like_front : (cs ds : List ℕ) → EndsLike (cs ++ ds) cs
like_front [] ds p h = tt
like_front (c ∷ cs) ds p h = h

pub like_behind : (front cs ds : List ℕ) → EndsLike cs ds → EndsLike (front ++ cs) (front ++ ds)
like_behind [] cs ds like p h = like p h
like_behind (c ∷ front) cs ds like p h = h
