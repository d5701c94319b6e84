-- The identifiers of units as the code keeps and seeks them, and tokens as it cuts them out of texts.
use Rattle.std.specs.Prelude.{◌≤◌, ℕ, ◌==◌, List, [], ◌∷◌, ◌++◌, Bool, if◌then◌else◌}
use Rattle.std.specs.Str.{IsCharBoundary}
use Rattle.scheme_model.specs.declared.Occ.{Occ}
use Rattle.scheme_model.specs.Diagnostics.{Span}
use Rattle.scheme_model.specs.Sites.{begins_at, touches}
use Rattle.read_documents.specs.declared.heads.Head.{Head}
use Rattle.program_answers.specs.declared.sites.Standing.{Standing}
use Rattle.program_answers.specs.declared.sites.Standing.TheVariants.{Begins, Touches}

-- ---- those of the units of a document

abbrev pub names_in_heads : (document : ℕ) → List Head → List Occ
names_in_heads document [] = []
names_in_heads document (h ∷ hs) = (if h.document == document then h.names.items else []) ++ names_in_heads document hs

-- an identifier with these bytes stands so at an offset
abbrev pub stands : Standing → (offset : ℕ) → Span → Bool
stands Begins offset s = begins_at offset s
stands Touches offset s = touches offset s

-- ---- tokens of texts

-- bytes that begin and end between characters
pub record CanCut (text : List ℕ) (s : Span) : Type 0 where
  pub rises : s.start ≤ s.end
  pub first : IsCharBoundary text s.start
  pub last : IsCharBoundary text s.end
