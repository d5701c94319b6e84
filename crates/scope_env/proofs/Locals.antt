-- The local scopes from a scope outwards, one by one.
use Rattle.std.proofs.Common.{◌≡◌, ℕ, zero, suc, ◌<◌, ◌≤◌, false, cond, ◌==◌, List, [], ◌∷◌, ◌++◌, length, reverse, slice_get, Option, Some, None, refl, sym, ap, ◌∙◌, subst, inl, inr, arith, eq-eqb}
use Rattle.std.specs.Option.{option_or, option_and_then}
use Rattle.std.specs.FinMap.{get}
use Rattle.std.proofs.lemmas.Bool.{ne_eqb}
use Rattle.std.proofs.lemmas.Option.{slice_get_within}
use Rattle.std.proofs.lemmas.List.{reverse-reverse, length-reverse}
use Rattle.std.proofs.lemmas.Grind.{reverse_onto}
use Rattle.syntax_tree.specs.declared.meaning.Meaning.{Meaning}
use Rattle.syntax_tree.proofs.Places.{none_some, get_front, push_cases}
use Rattle.scope_env.specs.Environment.{Environment, Scope, IsSound}
use Rattle.scope_env.specs.Resolved.{around, path_in, path, bound_locally, innermost, local}

-- the scopes around scopes are older; the newest scope comes first
abbrev Older : List Scope → Type 0
Older ss = (n p : ℕ) (s : Scope) → slice_get (reverse ss) n ≡ Some s → s.parent ≡ Some p → p < n

reversed : (s : Scope) (older : List Scope) → reverse (s ∷ older) ≡ reverse older ++ s ∷ []
reversed s older = reverse_onto older s []

unequal : (m n : ℕ) → m < n → (m == n) ≡ false
unequal m n lt = ne_eqb m n (λ e. omega arith)

-- a scope that is older than the newest isn't it
skipped : (s : Scope) (older : List Scope) (p : ℕ) → p < length older → path_in (s ∷ older) p ≡ path_in older p
skipped s older p lt = ap (λ b. cond b (p ∷ around s.parent (λ q. path_in older q)) (path_in older p)) (unequal p (length older) lt)

-- further out there are but older scopes
further : (s : Scope) (older : List Scope) (limit : ℕ) → limit ≤ length older → (parent : Option ℕ) → ((p : ℕ) → parent ≡ Some p → p < limit) → around parent (λ q. path_in (s ∷ older) q) ≡ around parent (λ q. path_in older q)
further s older limit le None below = refl
further s older limit le (Some p) below =
    let lt : p < limit = below p refl in
    skipped s older p (omega arith)

-- a scope comes before those around it
abbrev Begins : List Scope → ℕ → Scope → Type 0
Begins ss n s = path_in ss n ≡ n ∷ around s.parent (λ q. path_in ss q)

inner : (t : Scope) (ss : List Scope) (n : ℕ) (s : Scope) → n < length ss → ((p : ℕ) → s.parent ≡ Some p → p < n) → Begins ss n s → Begins (t ∷ ss) n s
inner t ss n s lt below rest =
    skipped t ss n lt ∙ rest ∙ ap (λ (ns : List ℕ). n ∷ ns) (sym (further t ss n (omega arith) s.parent below))

newest : (s : Scope) (ss : List Scope) (n : ℕ) → n ≡ length ss → ((p : ℕ) → s.parent ≡ Some p → p < n) → Begins (s ∷ ss) n s
newest s ss n is below =
    ap (λ b. cond b (n ∷ around s.parent (λ q. path_in ss q)) (path_in ss n)) (eq-eqb n (length ss) is)
    ∙ ap (λ (ns : List ℕ). n ∷ ns) (sym (further s ss n (omega arith) s.parent below))

begins : (ss : List Scope) (n : ℕ) (s : Scope) → Older ss → slice_get (reverse ss) n ≡ Some s → Begins ss n s
begins [] n s older at = none_some s at
begins (t ∷ ss) n s older at =
    let within : Older ss =
    λ m p u there. older m p u (subst (λ (xs : List Scope). slice_get xs m ≡ Some u) (sym (reversed t ss)) (get_front (reverse ss) (t ∷ []) m u there)) in
    let at' : slice_get (reverse ss ++ t ∷ []) n ≡ Some s = subst (λ (xs : List Scope). slice_get xs n ≡ Some s) (reversed t ss) at in
    elim (push_cases (reverse ss) t n s at') [
      | inl there ↦ inner t ss n s (omega (arith, slice_get_within (reverse ss) n s there, length-reverse ss)) (λ p. older n p s at) (begins ss n s within there)
      | inr last ↦ subst (λ (u : Scope). Begins (u ∷ ss) n s) last.1 (newest s ss n (last.0 ∙ length-reverse ss) (λ p. older n p s at))
    ]

-- the scopes of an environment from one on
pub path_at : (env : Environment) → IsSound env → (n : ℕ) (s : Scope) → slice_get env.scopes n ≡ Some s → path env n ≡ n ∷ around s.parent (λ p. path env p)
path_at env sound n s at =
    begins (reverse env.scopes) n s
    (λ m p u there. sound.older m p u (subst (λ (xs : List Scope). slice_get xs m ≡ Some u) (reverse-reverse env.scopes) there))
    (subst (λ (xs : List Scope). slice_get xs n ≡ Some s) (sym (reverse-reverse env.scopes)) at)

-- what a scope binds, or else what those around it do
abbrev pub outwards : Option ℕ → Option Meaning → (ℕ → Option Meaning) → Option Meaning
outwards None here beyond = None
outwards (Some parent) here beyond = option_or here (beyond parent)

first_of_path : (env : Environment) (here : Option Meaning) (ident : ℕ) (parent : Option ℕ) →
    option_or (option_and_then (λ (p : ℕ). here) parent) (innermost env (around parent (λ p. path env p)) ident) ≡ outwards parent here (λ p. local env (Some p) ident)
first_of_path env here ident None = refl
first_of_path env here ident (Some p) = refl

-- what a scope of an environment answers
pub local_is : (env : Environment) → IsSound env → (ident n : ℕ) (s : Scope) → slice_get env.scopes n ≡ Some s → local env (Some n) ident ≡ outwards s.parent (get s.bound ident) (λ p. local env (Some p) ident)
local_is env sound ident n s at =
    ap (λ (ns : List ℕ). innermost env ns ident) (path_at env sound n s at)
    ∙ ap (λ (o : Option Scope). option_or (option_and_then (λ (t : Scope). bound_locally t ident) o) (innermost env (around s.parent (λ p. path env p)) ident)) at
    ∙ first_of_path env (get s.bound ident) ident s.parent

-- ---- environments that answer alike

module _ (P : ℕ → Type 0) (from_below : (n : ℕ) → ((m : ℕ) → m < n → P m) → P n) where
  all_below : (limit n : ℕ) → n < limit → P n
  all_below zero n lt = absurd (omega arith)
  all_below (suc limit) n lt = from_below n (λ m lt'. all_below limit m (omega arith))

  pub by_number : (n : ℕ) → P n
  by_number n = all_below (suc n) n (omega arith)

same_around : (parent : Option ℕ) (here : Option Meaning) (f g : ℕ → Option Meaning) → ((p : ℕ) → parent ≡ Some p → f p ≡ g p) → outwards parent here f ≡ outwards parent here g
same_around None here f g h = refl
same_around (Some p) here f g h = ap (option_or here) (h p refl)

-- a scope that has the same answer, whatever the scopes around it answer
pub record Alike (ident : ℕ) (s t : Scope) : Type 0 where
  pub asked : (around : ℕ → Option Meaning) → outwards s.parent (get s.bound ident) around ≡ outwards t.parent (get t.bound ident) around

-- scopes that are alike, and so are those around them
module _ (e f : Environment) (ident : ℕ) (sound_e : IsSound e) (sound_f : IsSound f) (Q : ℕ → Type 0)
    (alike : (n : ℕ) → Q n → (s : Scope) × (t : Scope) × (slice_get e.scopes n ≡ Some s) × (slice_get f.scopes n ≡ Some t) × Alike ident s t)
    (around : (n p : ℕ) (s : Scope) → Q n → slice_get e.scopes n ≡ Some s → s.parent ≡ Some p → Q p) where
  pub local_alike : (n : ℕ) → Q n → local e (Some n) ident ≡ local f (Some n) ident
  local_alike = by_number (λ n. Q n → local e (Some n) ident ≡ local f (Some n) ident) (λ n rest q.
      let a = alike n q in
      local_is e sound_e ident n a.0 a.2
      ∙ same_around a.0.parent (get a.0.bound ident) (λ p. local e (Some p) ident) (λ p. local f (Some p) ident)
      (λ p is. rest p (sound_e.older n p a.0 a.2 is) (around n p a.0 q a.2 is))
      ∙ a.4.asked (λ p. local f (Some p) ident)
      ∙ sym (local_is f sound_f ident n a.1 a.3))
