-- What a core form asks before it is read (R7RS 4.2.1, 4.2.8): what the heads within a quasiquotation mark, and which libraries there are.
use Rattle.std.specs.Prelude.{ℕ, zero, suc, ◌+◌, ◌≤◌, List, [], ◌∷◌, map, Option, Some, None, Result, Ok, Err}
use Rattle.scheme_model.specs.Ident.{Ident, symbol_of}
use Rattle.scheme_model.specs.Keywords.{CoreKeyword, IsQuote, IsQuasiquote, IsLambda, IsCaseLambda, IsIf, IsSet, IsBegin, IsDefine, IsDefineValues, IsDefineRecordType, IsDefineSyntax, IsLetSyntax, IsLetrecSyntax, IsCondExpand, IsSyntaxError, IsInclude}
use Rattle.scheme_model.specs.Trees.{Tree, name, atom, list, vector, Trees, no_trees, tree, Tail, proper}
use Rattle.scheme_model.specs.Quasiquote.{Mark, Nested, Unquoted, Spliced, marks_in}
use Rattle.scheme_model.specs.Requirements.{Known, LibraryName, library_name_of, name_asked, libraries_among, clause_libraries, all_libraries, libraries_in}
use Rattle.scheme_model.specs.Expression.{mark_of}
use Rattle.scheme_model.specs.Order.{Headed, Library, head_of, RulesParts}
use Rattle.scheme_model.specs.ScopedExpansion.{Frames}
use Rattle.scheme_model.specs.ExpansionFaults.{Fault, ◌>>◌}
use Rattle.scheme_model.specs.Shapes.{list_of, some_of, first_of, one_of}
use Rattle.feature_requirements.specs.Judged.{connective_named}
use Rattle.feature_requirements.specs.declared.requirements.Connective.{Connective}
use Rattle.feature_requirements.specs.declared.requirements.Connective.TheVariants as word
use Rattle.syntax_tree.specs.Works.{StandsFor}
use Rattle.syntax_tree.specs.declared.trees.Work.{Work}
use Rattle.syntax_tree.specs.declared.trees.nodes.Tree as number
use Rattle.noted_steps.specs.Noting.{Noting, noting}
use Rattle.noted_steps.specs.declared.marks.Behind as code_behind
use Rattle.noted_steps.specs.declared.marks.Behind.TheVariants as behind

-- what an identifier marks here
abbrev pub mark_here : Known → Noting → Frames → Ident → Option Mark
mark_here known s fs i = mark_of (head_of (noting known) fs s i)

-- these are asked what they mark
abbrev pub heads_asked : Known → Frames → List Ident → Noting → Noting
heads_asked known fs is s = (noting known).ask (map (Headed fs) is) s

abbrev pub marks_asked : Known → Frames → Trees Ident → Tail Ident → Noting → Noting
marks_asked known fs ts tail s = heads_asked known fs (marks_in (mark_here known s fs) ts tail) s

abbrev pub names_asked : Known → List LibraryName → Noting → Noting
names_asked known ls s = (noting known).ask (map Library ls) s

abbrev pub libraries_asked : Known → Trees Ident → Tail Ident → Noting → Noting
libraries_asked known ts tail s = names_asked known (libraries_in symbol_of ts tail) s

-- the head of rules
abbrev pub head_asked : Known → Frames → Option (RulesParts Ident) → Noting → Noting
head_asked known fs None s = s
head_asked known fs (Some r) s = (noting known).ask (Headed fs r.head ∷ []) s

abbrev pub form_asked : Known → Frames → CoreKeyword → Trees Ident → Tail Ident → Noting → Noting
form_asked known fs IsQuote ts tail s = s
form_asked known fs IsQuasiquote ts tail s = marks_asked known fs ts tail s
form_asked known fs IsLambda ts tail s = s
form_asked known fs IsCaseLambda ts tail s = s
form_asked known fs IsIf ts tail s = s
form_asked known fs IsSet ts tail s = s
form_asked known fs IsBegin ts tail s = s
form_asked known fs IsDefine ts tail s = s
form_asked known fs IsDefineValues ts tail s = s
form_asked known fs IsDefineRecordType ts tail s = s
form_asked known fs IsDefineSyntax ts tail s = s
form_asked known fs IsLetSyntax ts tail s = s
form_asked known fs IsLetrecSyntax ts tail s = s
form_asked known fs IsCondExpand ts tail s = libraries_asked known ts tail s
form_asked known fs IsSyntaxError ts tail s = s
form_asked known fs IsInclude ts tail s = s

-- ---- the code

-- what comes behind the first of a list that marks this: the same level, another one, or nothing that is asked
abbrev pub behind_by : Option Mark → ℕ → code_behind.Behind
behind_by None level = behind.Level level
behind_by (Some Nested) level = behind.Level (suc level)
behind_by (Some Unquoted) zero = behind.Nothing
behind_by (Some Unquoted) (suc level) = behind.Level level
behind_by (Some Spliced) zero = behind.Nothing
behind_by (Some Spliced) (suc level) = behind.Level level

-- a level rises by one at most
abbrev pub IsNear : ℕ → code_behind.Behind → Type 0
IsNear level (behind.Level n) = n ≤ level + 1
IsNear level behind.Nothing = Unit {0}

-- the one tree of a row, where there is one alone
abbrev pub IsOperand : Work → Option number.Tree → Result (Tree Ident) (Fault Ident) → Type 0
IsOperand work None (Ok t) = ⊥
IsOperand work None (Err e) = Unit {0}
IsOperand work (Some n) (Ok t) = StandsFor work n t
IsOperand work (Some n) (Err e) = ⊥

-- the libraries of a row of trees behind its first one: of clauses, of requirements, and of the one name of `(library name)`
abbrev pub behind_first : Trees Ident → Trees Ident
behind_first no_trees = no_trees
behind_first (tree t ts) = ts

abbrev pub clause_asked : Tree Ident → List LibraryName
clause_asked t = clause_libraries symbol_of (list_of t >> λ p. some_of p.0 p.1 >> first_of)

abbrev pub all_behind : Trees Ident → List LibraryName
all_behind ts = all_libraries symbol_of (behind_first ts)

abbrev pub libraries_behind : Trees Ident → List LibraryName
libraries_behind ts = libraries_among symbol_of (behind_first ts)

abbrev pub library_behind : Trees Ident → List LibraryName
library_behind ts = name_asked (one_of (behind_first ts) proper >> library_name_of symbol_of)

-- the word of a requirement that is a list
abbrev pub word_named : Trees Ident → Connective
word_named no_trees = word.Unknown
word_named (tree (name i o) ts) = connective_named (symbol_of i)
word_named (tree (atom a o) ts) = word.Unknown
word_named (tree (list us end o) ts) = word.Unknown
word_named (tree (vector us o) ts) = word.Unknown
