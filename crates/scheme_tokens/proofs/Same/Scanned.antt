-- The longest front of a text for which a test holds, and what else the refusals of tokens share.
use Rattle.std.proofs.Common.{◌≡◌, ℕ, List, [], ◌∷◌, ◌++◌, Bool, true, false, Err, refl, sym, ap, ◌∙◌, subst, append_assoc, append-nil, ◌⊎◌, inl, inr, ◌==◌}
use Rattle.std.specs.List.{list_all}
use Rattle.std.proofs.lemmas.Bool.{cond-true, and_parts, and_from}
use Rattle.scheme_tokens.specs.Lexical.{TokenKind, IsToken}
use Rattle.scheme_tokens.specs.Faults.{Fault}
use Rattle.scheme_tokens.specs.Stopping.{because}
use Rattle.scheme_tokens.specs.Mirror.Words.{front_of, behind}
use Rattle.scheme_tokens.specs.Mirror.Tokens.{token}

-- ---- lists

pub cons_head : (c d : ℕ) (cs ds : List ℕ) → c ∷ cs ≡ d ∷ ds → c ≡ d
cons_head c d cs ds e = cc

pub cons_tail : (c d : ℕ) (cs ds : List ℕ) → c ∷ cs ≡ d ∷ ds → cs ≡ ds
cons_tail c d cs ds e = cc

pub cons_none : (c : ℕ) (cs : List ℕ) → c ∷ cs ≡ [] → ⊥
cons_none c cs e = cc

-- of two fronts of a list one begins with the other
pub two_fronts : (cs ds es fs : List ℕ) → cs ++ ds ≡ es ++ fs → ((z : List ℕ) × (cs ≡ es ++ z)) ⊎ ((z : List ℕ) × (es ≡ cs ++ z))
two_fronts [] ds es fs e = inr (es, refl)
two_fronts (c ∷ cs) ds [] fs e = inl (c ∷ cs, refl)
two_fronts (c ∷ cs) ds (f ∷ es) fs e = elim (two_fronts cs ds es fs (cons_tail c f (cs ++ ds) (es ++ fs) e)) [
  | inl h ↦ inl (h.0, (λ i. cons_head c f (cs ++ ds) (es ++ fs) e i ∷ h.1 i))
  | inr h ↦ inr (h.0, (λ i. sym (cons_head c f (cs ++ ds) (es ++ fs) e) i ∷ h.1 i))
]

pub list_all_front : (p : ℕ → Bool) (cs ds : List ℕ) → list_all p (cs ++ ds) ≡ true → list_all p cs ≡ true
list_all_front p [] ds h = refl
list_all_front p (c ∷ cs) ds h =
    let parts = and_parts (p c) (list_all p (cs ++ ds)) h in
    and_from (p c) (list_all p cs) parts.0 (list_all_front p cs ds parts.1)

pub list_all_behind : (p : ℕ → Bool) (cs ds : List ℕ) → list_all p (cs ++ ds) ≡ true → list_all p ds ≡ true
list_all_behind p [] ds h = h
list_all_behind p (c ∷ cs) ds h = list_all_behind p cs ds (and_parts (p c) (list_all p (cs ++ ds)) h).1

pub list_all_both : (p : ℕ → Bool) (cs ds : List ℕ) → list_all p cs ≡ true → list_all p ds ≡ true → list_all p (cs ++ ds) ≡ true
list_all_both p [] ds h k = k
list_all_both p (c ∷ cs) ds h k =
    let parts = and_parts (p c) (list_all p cs) h in
    and_from (p c) (list_all p (cs ++ ds)) parts.0 (list_all_both p cs ds parts.1 k)

pub front_more : (p : ℕ → Bool) (cs ds : List ℕ) → list_all p cs ≡ true → front_of p (cs ++ ds) ≡ cs ++ front_of p ds
front_more p [] ds h = refl
front_more p (c ∷ cs) ds h =
    let parts = and_parts (p c) (list_all p cs) h in
    cond-true (p c) (c ∷ front_of p (cs ++ ds)) [] parts.0 ∙ ap (λ (q : List ℕ). c ∷ q) (front_more p cs ds parts.1)

pub behind_more : (p : ℕ → Bool) (cs ds : List ℕ) → list_all p cs ≡ true → behind p (cs ++ ds) ≡ behind p ds
behind_more p [] ds h = refl
behind_more p (c ∷ cs) ds h =
    let parts = and_parts (p c) (list_all p cs) h in
    cond-true (p c) (behind p (cs ++ ds)) (c ∷ (cs ++ ds)) parts.0 ∙ behind_more p cs ds parts.1

-- ---- the longest front

-- the test holds of all, or up to a character with which it doesn't
abbrev pub Scanned : (List ℕ → Bool) → List ℕ → Type 0
Scanned v w = (v w ≡ true) ⊎ ((front : List ℕ) × (c : ℕ) × (more : List ℕ) × (w ≡ front ++ c ∷ more) × (v front ≡ true) × (v (front ++ c ∷ []) ≡ false))

scan_when : (v : List ℕ → Bool) (front : List ℕ) (c : ℕ) (cs : List ℕ) (b : Bool) → v (front ++ c ∷ []) ≡ b → v front ≡ true → (v (front ++ c ∷ []) ≡ true → Scanned v ((front ++ c ∷ []) ++ cs)) → Scanned v (front ++ c ∷ cs)
scan_when v front c cs true e h more = subst (Scanned v) (append_assoc front (c ∷ []) cs) (more e)
scan_when v front c cs false e h more = inr (front, c, cs, refl, h, e)

pub scan_from : (v : List ℕ → Bool) (front rest : List ℕ) → v front ≡ true → Scanned v (front ++ rest)
scan_from v front [] h = inl (subst (λ (q : List ℕ). v q ≡ true) (sym (append-nil front)) h)
scan_from v front (c ∷ cs) h = scan_when v front c cs (v (front ++ c ∷ [])) refl h (scan_from v (front ++ c ∷ []) cs)

-- ---- a token that is refused

-- nothing is begun, or what can go on to a token
abbrev pub Goes : List ℕ → Type 0
Goes begun = (begun ≡ []) ⊎ ((more : List ℕ) × (k : TokenKind) × IsToken k (begun ++ more) [])

-- whatever stands behind the next character, no token is read
abbrev pub Halts : List ℕ → List ℕ → Type 0
Halts begun [] = Unit {0}
Halts begun (c ∷ behind) = (x : List ℕ) → (g : Fault) × (token (begun ++ c ∷ x) ≡ Err g)

-- where nothing is begun, no `#` stands there
abbrev pub NoHash : List ℕ → List ℕ → Type 0
NoHash [] [] = Unit {0}
NoHash [] (c ∷ behind) = (c == 35) ≡ false
NoHash (b ∷ begun) behind = Unit {0}

-- why a text begins with no token
pub record Refused (f : Fault) (text : List ℕ) : Type 0 where
  pub begun : List ℕ
  pub behind : List ℕ
  pub whole : text ≡ begun ++ behind
  pub goes : Goes begun
  pub halts : Halts begun behind
  pub why : f ≡ because begun behind
  pub no_hash : NoHash begun behind
