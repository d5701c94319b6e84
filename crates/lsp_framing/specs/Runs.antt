-- Pieces that a deframer took one after another.
use Rattle.std.specs.Prelude.{◌≡◌, ℕ, List, [], ◌∷◌}
use Rattle.std.specs.List.{flat_map}
use Rattle.lsp_framing.specs.Deframed.{Deframed}
use Rattle.lsp_framing.specs.Feeds.{Feeds}

-- a piece, the bodies that were given for it, and the deframer after it
pub record Fed : Type 0 where
  pub piece : List ℕ
  pub given : List (List ℕ)
  pub new : Deframed

-- from one value of a deframer to another these pieces were taken
abbrev pub Runs : Deframed → List Fed → Deframed → Type 0
Runs old [] new = old ≡ new
Runs old (f ∷ fs) new = Feeds old f.piece f.given f.new × Runs f.new fs new

-- all bytes that were taken
abbrev pub all_pieces : List Fed → List ℕ
all_pieces fs = flat_map (λ f. f.piece) fs

-- all bodies that were given
abbrev pub all_given : List Fed → List (List ℕ)
all_given fs = flat_map (λ f. f.given) fs
