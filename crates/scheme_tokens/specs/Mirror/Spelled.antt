-- How a name is written (R7RS 7.1.1, identifier and symbol element).
use Rattle.std.specs.Prelude.{ℕ, Bool, not, ◌||◌, ◌&&◌, List, if◌then◌else◌}
use Rattle.scheme_tokens.specs.Mirror.Words.{is_numeral, is_identifier}
use Rattle.scheme_tokens.specs.Spelling.{barred}

-- characters that are an identifier token as they are
abbrev pub is_bare : List ℕ → Bool
is_bare name = not (is_numeral name) && is_identifier name

-- a name, between bars where they are asked for or needed
unfoldable pub spelled : List ℕ → Bool → List ℕ
spelled name bars = if bars || not (is_bare name) then barred name else name
