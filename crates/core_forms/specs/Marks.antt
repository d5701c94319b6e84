-- The marks of a quasiquotation by number, and what is gone through of its datum (R7RS 4.2.8).
use Rattle.std.specs.Prelude.{◌≡◌, ℕ, zero, suc, ◌+◌, ◌^◌, ◌<◌, ◌≤◌, List, [], ◌∷◌, ◌++◌, Bool, true, false, nat_eq, Option, Some, None, Result, if◌then◌else◌}
use Rattle.std.specs.BTreeMap.{BTreeMap, get}
use Rattle.std.specs.Ordering.{nat_cmp}
use Rattle.scheme_model.specs.Trees.{Tree, name, atom, list, vector, Trees, no_trees, tree, Tail, proper, dotted}
use Rattle.scheme_model.specs.ExpansionFaults.{Fault}
use Rattle.scheme_model.specs.Shapes.{one_of}
use Rattle.scheme_model.specs.Quasiquote.{Mark, Nested, Unquoted, Spliced, Pieces, RowPieces, mark_in, hole_behind, is_splice, element_by, datum_at, pair_at, tail_at}
use Rattle.scheme_model.specs.Measures.{tree_size, trees_size, tail_size, tree_depth, trees_depth, tail_depth}
use Rattle.scheme_model.specs.Ident.{Ident as Identifier}
use Rattle.syntax_tree.specs.Looks.{PartsStand, EndStands}
use Rattle.syntax_tree.specs.Macros.{IsIdent}
use Rattle.syntax_tree.specs.Works.{StandsFor}
use Rattle.syntax_tree.specs.declared.trees.Work.{Work}
use Rattle.syntax_tree.specs.declared.trees.nodes.Tree as number
use Rattle.core_forms.specs.Parts.{AllMatch}
use Rattle.core_forms.specs.declared.shape.QuasiMark.{QuasiMark}
use Rattle.core_forms.specs.declared.quasi.MarkKind as code_kind
use Rattle.core_forms.specs.declared.quasi.MarkKind.TheVariants as kind
use Rattle.core_forms.specs.declared.quasi.Found.{Found}
use Rattle.core_forms.specs.declared.quasi.Step.{Step}
use Rattle.core_forms.specs.declared.quasi.Step.TheVariants as step
use Rattle.core_forms.specs.declared.shape.CoreKeyword as code_keyword
use Rattle.core_forms.specs.declared.shape.CoreKeyword.TheVariants as word

abbrev pub kind_of : code_keyword.CoreKeyword → Option code_kind.MarkKind
kind_of word.Quasiquote = Some kind.Nested
kind_of word.Unquote = Some kind.Unquoted
kind_of word.UnquoteSplicing = Some kind.Spliced
kind_of word.Quote = None
kind_of word.Lambda = None
kind_of word.CaseLambda = None
kind_of word.If = None
kind_of word.Set = None
kind_of word.Begin = None
kind_of word.Define = None
kind_of word.DefineValues = None
kind_of word.DefineRecordType = None
kind_of word.DefineSyntax = None
kind_of word.LetSyntax = None
kind_of word.LetrecSyntax = None
kind_of word.CondExpand = None
kind_of word.SyntaxError = None
kind_of word.Include = None
kind_of word.IncludeCi = None

abbrev pub mark_as : Option code_kind.MarkKind → Option Mark
mark_as None = None
mark_as (Some kind.Nested) = Some Nested
mark_as (Some kind.Unquoted) = Some Unquoted
mark_as (Some kind.Spliced) = Some Spliced

-- the keyword of the first mark with a number
abbrev pub keyword_by_number : List QuasiMark → ℕ → Option code_keyword.CoreKeyword
keyword_by_number [] n = None
keyword_by_number (m ∷ ms) n = if nat_eq n m.ident then Some m.keyword else keyword_by_number ms n

abbrev pub kind_if_any : Option code_keyword.CoreKeyword → Option code_kind.MarkKind
kind_if_any None = None
kind_if_any (Some k) = kind_of k

-- identifiers mark what the list says of their numbers
abbrev pub AreMarks : Work → List QuasiMark → (Identifier → Option Mark) → Type 0
AreMarks work marks mark = (n : ℕ) (i : Identifier) → IsIdent work.symbols n i → mark i ≡ mark_as (kind_if_any (keyword_by_number marks n))

-- the map says the same
abbrev pub TellsMarks : Work → BTreeMap ℕ code_keyword.CoreKeyword → (Identifier → Option Mark) → Type 0
TellsMarks work marks mark = (n : ℕ) (i : Identifier) → IsIdent work.symbols n i → mark i ≡ mark_as (kind_if_any (get nat_cmp marks n))

-- a datum that is at most so deep, at a level from which all its nodes can be counted
abbrev pub CanFind : Work → number.Tree → ℕ → ℕ → Type 0
CanFind work n level left = (t : Tree Identifier) × StandsFor work n t × (tree_depth t ≤ left) × (level + tree_size t < 2 ^ 32)

abbrev pub CanFindParts : Work → List number.Tree → ℕ → ℕ → Type 0
CanFindParts work ns level left = (ts : Trees Identifier) × PartsStand work ns ts × (trees_depth ts ≤ left) × (level + trees_size ts < 2 ^ 32)

-- the same of the parts and the tail of a list together
pub record CanFindRow (work : Work) (ns : List number.Tree) (end : Option number.Tree) (level left : ℕ) : Type 0 where
  pub parts : Trees Identifier
  pub tail : Tail Identifier
  pub parts_stand : PartsStand work ns parts
  pub end_stands : EndStands work end tail
  pub parts_deep : trees_depth parts ≤ left
  pub tail_deep : tail_depth tail ≤ left
  pub small : level + trees_size parts + tail_size tail < 2 ^ 32

-- a datum, which may be a splice where it is an element
abbrev pub datum_as : (Identifier → Option Mark) → ℕ → Bool → Tree Identifier → Result (Pieces Identifier) (Fault Identifier)
datum_as mark level true t = element_by mark level t (datum_at mark level t)
datum_as mark level false t = datum_at mark level t

-- a list of these parts and this tail, which may be a splice where it is an element
abbrev pub row_as : (Identifier → Option Mark) → ℕ → Bool → Trees Identifier → Tail Identifier → Result (RowPieces Identifier) (Fault Identifier)
row_as mark level false ts tail = pair_at mark level ts tail (tail_at mark tail)
row_as mark level true no_trees tail = tail_at mark tail level
row_as mark level true (tree t ts) tail = if is_splice (mark_in mark t) level then hole_behind t (one_of ts tail) else pair_at mark level (tree t ts) tail (tail_at mark tail)

-- what a part of a list asks for, by what it marks
abbrev pub step_by : Option Mark → ℕ → Bool → Step
step_by None level element = step.Into
step_by (Some Nested) level element = step.Level (suc level)
step_by (Some Unquoted) zero element = step.Hole
step_by (Some Unquoted) (suc level) element = step.Level level
step_by (Some Spliced) zero true = step.Hole
step_by (Some Spliced) zero false = step.Misplaced
step_by (Some Spliced) (suc level) element = step.Level level

-- a level rises by one at most
abbrev pub IsNear : ℕ → Step → Type 0
IsNear level step.Into = Unit {0}
IsNear level (step.Level n) = n ≤ level + 1
IsNear level step.Hole = Unit {0}
IsNear level step.Misplaced = Unit {0}

-- holes were added for these trees
abbrev pub AddsHoles : Work → List number.Tree → List number.Tree → List (Tree Identifier) → Type 0
AddsHoles work old new holes = (more : List number.Tree) × (new ≡ old ++ more) × AllMatch (StandsFor work) more holes

-- ---- the nodes of a datum with holes, one after another and a list before its parts: true for a node, and false for a hole

abbrev mutual
  pub nodes_in : Tree (Option Identifier) → List Bool
  nodes_in (name None o) = false ∷ []
  nodes_in (name (Some i) o) = true ∷ []
  nodes_in (atom a o) = true ∷ []
  nodes_in (list ts tail o) = true ∷ (nodes_among ts ++ nodes_behind tail)
  nodes_in (vector ts o) = true ∷ nodes_among ts

  pub nodes_among : Trees (Option Identifier) → List Bool
  nodes_among no_trees = []
  nodes_among (tree t ts) = nodes_in t ++ nodes_among ts

  pub nodes_behind : Tail (Option Identifier) → List Bool
  nodes_behind proper = []
  nodes_behind (dotted t) = nodes_in t

-- how many are passed
abbrev pub passed_in : List Bool → ℕ
passed_in [] = 0
passed_in (true ∷ bs) = 1 + passed_in bs
passed_in (false ∷ bs) = passed_in bs

-- how many are passed before each hole, where so many were before
abbrev pub places_from : ℕ → List Bool → List ℕ
places_from n [] = []
places_from n (true ∷ bs) = places_from (n + 1) bs
places_from n (false ∷ bs) = n ∷ places_from n bs

-- these holes were added, and these nodes gone through
pub record AddsFound (work : Work) (old new : Found) (holes : List (Tree Identifier)) (nodes : List Bool) : Type 0 where
  pub trees : AddsHoles work old.trees.items new.trees.items holes
  pub places : new.places.items ≡ old.places.items ++ places_from old.passed nodes
  pub passed : new.passed ≡ old.passed + passed_in nodes
