-- Offsets rise with positions.
use Rattle.std.proofs.Common.{◌≡◌, ℕ, zero, suc, ◌-◌, ◌<◌, ◌≤◌, ◌⊎◌, inl, inr, false, List, [], ◌∷◌, arith}
use Rattle.std.proofs.lemmas.Bool.{cases_lt}
use Rattle.std.proofs.lemmas.Bool.Decides.{nat_tests}
use Rattle.std.proofs.lemmas.List.Sums.{sum_by-cons}
use Rattle.std.specs.Char.{len_utf8}
use Rattle.std.specs.Str.{chars}
use Rattle.ls_base.specs.declared.encoding.Encoding.{Encoding}
use Rattle.ls_base.specs.declared.places.Pos.{Pos}
use Rattle.ls_base.specs.Positions.{Line, lines_of, units_of, byte_count, bytes_within, offset_in, offset_of}
use Rattle.document_store.specs.Texts.{is_before}

bytes_within-mono : (units : ℕ → ℕ) (cs : List ℕ) (u v : ℕ) → u ≤ v → bytes_within units u cs ≤ bytes_within units v cs
bytes_within-mono units [] u v le = omega arith
bytes_within-mono units (c ∷ cs) u v le = grind (arith, nat_tests, bytes_within-mono units cs (u - units c) (v - units c) (omega arith))

bytes_within-le : (units : ℕ → ℕ) (cs : List ℕ) (u : ℕ) → bytes_within units u cs ≤ byte_count cs
bytes_within-le units [] u = omega arith
bytes_within-le units (c ∷ cs) u = grind (arith, nat_tests, bytes_within-le units cs (u - units c), sum_by-cons len_utf8 c cs)

-- line k before line m, or the same line and no more units
abbrev Before : ℕ → ℕ → ℕ → ℕ → Type 0
Before k u m v = (k < m) ⊎ ((k ≡ m) × (u ≤ v))

one_up : (k u m v : ℕ) → Before (suc k) u (suc m) v → Before k u m v
one_up k u m v (inl lt) = inl (omega arith)
one_up k u m v (inr h) = inr (omega (arith, h.0), h.1)

first : (units : ℕ → ℕ) (cs : List ℕ) (u v : ℕ) → Before 0 u 0 v → bytes_within units u cs ≤ bytes_within units v cs
first units cs u v (inl lt) = absurd (omega arith)
first units cs u v (inr h) = bytes_within-mono units cs u v h.1

backward : (k u v : ℕ) → Before (suc k) u 0 v → (m n : ℕ) → m ≤ n
backward k u v (inl lt) m n = absurd (omega arith)
backward k u v (inr h) m n = absurd (omega (arith, h.0))

offset_in-mono : (units : ℕ → ℕ) (lines : List Line) (k u m v : ℕ) → Before k u m v → offset_in units lines k u ≤ offset_in units lines m v
offset_in-mono units [] k u m v h = omega arith
offset_in-mono units (l ∷ lines) zero u zero v h = first units l.chars u v h
offset_in-mono units (l ∷ lines) zero u (suc m) v h = omega (arith, bytes_within-le units l.chars u)
offset_in-mono units (l ∷ lines) (suc k) u zero v h = backward k u v h _ _
offset_in-mono units (l ∷ lines) (suc k) u (suc m) v h = omega (arith, offset_in-mono units lines k u m v (one_up k u m v h))

not_behind : (p q : Pos) → is_before q p ≡ false → Before p.line p.character q.line q.character
not_behind p q h = elim (cases_lt p.line q.line) [
  | inl lt ↦ inl lt
  | inr ge ↦ inr (grind (arith, nat_tests, h), grind (arith, nat_tests, h))
]

-- positions in order have offsets in order
pub offset_of-mono : (e : Encoding) (text : List ℕ) (p q : Pos) → is_before q p ≡ false → offset_of e text p ≤ offset_of e text q
offset_of-mono e text p q h = offset_in-mono (units_of e) (lines_of (chars text)) p.line p.character q.line q.character (not_behind p q h)
