-- The places of tokens in forms.
use Rattle.std.specs.Prelude.{ℕ}
use Rattle.scheme_model.specs.declared.Occ.{Occ}
use Rattle.scheme_model.specs.declared.Home.{Home}
use Rattle.scheme_model.specs.Trees.{placed_by}

-- a token's place by its number in the text
abbrev pub place : Home → ℕ → Occ
place h n = placed_by h n
