-- The marks of a quasiquotation by number, and what it counts (R7RS 4.2.8).
use Rattle.std.specs.Prelude.{◌≡◌, ℕ, ◌+◌, ◌^◌, ◌<◌, List, Bool, Option, Some, None, if◌then◌else◌}
use Rattle.scheme_model.specs.Trees.{Tree}
use Rattle.scheme_model.specs.Measures.{tree_size}
use Rattle.scheme_model.specs.Building.{stands_in}
use Rattle.scheme_model.specs.Meaning.{head_as}
use Rattle.scheme_model.specs.Quasiquote.{Mark, Nested, Unquoted, Spliced, Pieces, quasi_of}
use Rattle.scheme_model.specs.Order.{is_some}
use Rattle.scheme_model.specs.Expression.{mark_of}
use Rattle.scheme_model.specs.ScopedExpansion.{Frames, ScopedState, macro_at}
use Rattle.scheme_model.specs.CountedExpansion.{means_here}
use Rattle.scheme_model.specs.Ident.{Ident as Identifier, same_ident}
use Rattle.std.specs.Prelude.{Ok}
use Rattle.syntax_tree.specs.Macros.{IsIdent}
use Rattle.syntax_tree.specs.Names.{Names}
use Rattle.syntax_tree.specs.Works.{StandsFor}
use Rattle.syntax_tree.specs.declared.trees.Work.{Work}
use Rattle.syntax_tree.specs.declared.trees.nodes.Tree as number
use Rattle.core_forms.specs.Marks.{keyword_by_number}
use Rattle.core_forms.specs.Parts.{AllMatch}
use Rattle.core_forms.specs.declared.shape.QuasiMark.{QuasiMark}
use Rattle.core_forms.specs.declared.shape.CoreKeyword as code_keyword
use Rattle.core_forms.specs.declared.shape.CoreKeyword.TheVariants as word

-- the keyword of a mark
abbrev pub mark_word : Option Mark → Option code_keyword.CoreKeyword
mark_word None = None
mark_word (Some Nested) = Some word.Quasiquote
mark_word (Some Unquoted) = Some word.Unquote
mark_word (Some Spliced) = Some word.UnquoteSplicing

-- what an identifier marks at a place
abbrev pub mark_here : ScopedState → Frames → Identifier → Option Mark
mark_here s fs i = mark_of (head_as (λ x. is_some (macro_at s.macros x)) (means_here s fs i))

-- the first of two that is there
abbrev pub first_some : {A : Type 0} → Option A → Option A → Option A
first_some None p = p
first_some (Some a) p = Some a

-- the marks that are added are those of the identifiers that a test tells
abbrev pub AddsMarks : Names → List QuasiMark → List QuasiMark → (Identifier → Option Mark) → (Identifier → Bool) → Type 0
AddsMarks names old new mark stands = (n : ℕ) (i : Identifier) → IsIdent names n i →
    keyword_by_number new n ≡ first_some (keyword_by_number old n) (if stands i then mark_word (mark i) else None)

-- only the identifiers of a tree mark anything
abbrev pub mark_within : Tree Identifier → (Identifier → Option Mark) → Identifier → Option Mark
mark_within t mark i = if stands_in same_ident i t then mark i else None

-- ---- what is counted

-- a datum and the trees that are unquoted in it
pub record IsQuasi (work : Work) (datum : number.Tree) (parts : List number.Tree) : Type 0 where
  pub mark : Identifier → Option Mark
  pub tree : Tree Identifier
  pub pieces : Pieces Identifier
  pub stands : StandsFor work datum tree
  pub holes : AllMatch (StandsFor work) parts pieces.holes
  pub read : quasi_of mark tree ≡ Ok pieces
  pub small : tree_size tree + 1 < 2 ^ 32
