-- Tokens stand one behind another (R7RS 7.1.1).
use Rattle.std.specs.Prelude.{ℕ, ◌<◌, ◌≤◌, List, [], ◌∷◌}
use Rattle.scheme_tokens.specs.Lexical.{Token}

-- each takes some bytes, none of them before this place or of another, and none behind the other place
abbrev pub AreApart : ℕ → List Token → ℕ → Type 0
AreApart from [] to = from ≤ to
AreApart from (t ∷ ts) to = (from ≤ t.start) × (t.start < t.end) × AreApart t.end ts to
