-- What is seen of forms while they are gone through, and what a record defines (R7RS 4.3, 5.3.2, 5.5).
use Rattle.std.specs.Prelude.{ℕ, List, map, Bool, true, false, Option, Some, None}
use Rattle.scheme_model.specs.declared.Occ.{Occ}
use Rattle.scheme_model.specs.Trees.{Tree, name, atom, list, vector, no_trees, tree}
use Rattle.scheme_model.specs.Keywords.{CoreKeyword, IsQuote, IsQuasiquote, IsLambda, IsCaseLambda, IsIf, IsSet, IsBegin, IsDefine, IsDefineValues, IsDefineRecordType, IsDefineSyntax, IsLetSyntax, IsLetrecSyntax, IsCondExpand, IsSyntaxError, IsInclude}
use Rattle.scheme_model.specs.ExpansionFaults.{Named, named}
use Rattle.scheme_model.specs.Shapes.{FieldShape as ModelField}
use Rattle.scheme_model.specs.Cores.{FieldUse}
use Rattle.scheme_model.specs.Order.{RulesParts, position}
use Rattle.scheme_model.specs.Ident.{Ident as Identifier, same_ident}
use Rattle.syntax_tree.specs.Names.{Names}
use Rattle.syntax_tree.specs.Macros.{IsIdent}
use Rattle.syntax_tree.specs.declared.trees.nodes.Tree as number
use Rattle.form_parts.specs.declared.items.Form as code
use Rattle.form_parts.specs.declared.items.Item.{Item}
use Rattle.form_parts.specs.declared.items.Kept.{Kept}

-- an identifier with its place, where the tree is one
abbrev pub name_in : {A : Type 0} → Tree A → Option (Named A)
name_in (name i o) = Some (named i o)
name_in (atom a o) = None
name_in (list ts tail o) = None
name_in (vector ts o) = None

-- the first part of a list, where it is an identifier
abbrev pub head_name_of : {A : Type 0} → Tree A → Option (Named A)
head_name_of (name i o) = None
head_name_of (atom a o) = None
head_name_of (list no_trees tail o) = None
head_name_of (list (tree t ts) tail o) = name_in t
head_name_of (vector ts o) = None

-- the head of rules by its number, where there is one
abbrev pub IsRulesHead : Names → Option ℕ → Option (RulesParts Identifier) → Type 0
IsRulesHead names None None = Unit {0}
IsRulesHead names None (Some r) = ⊥
IsRulesHead names (Some n) None = ⊥
IsRulesHead names (Some n) (Some r) = IsIdent names n r.head

-- whether a core form takes effect while forms are gone through; any other is set aside
abbrev pub takes_effect : CoreKeyword → Bool
takes_effect IsQuote = false
takes_effect IsQuasiquote = false
takes_effect IsLambda = false
takes_effect IsCaseLambda = false
takes_effect IsIf = false
takes_effect IsSet = false
takes_effect IsBegin = true
takes_effect IsDefine = true
takes_effect IsDefineValues = true
takes_effect IsDefineRecordType = true
takes_effect IsDefineSyntax = true
takes_effect IsLetSyntax = false
takes_effect IsLetrecSyntax = false
takes_effect IsCondExpand = true
takes_effect IsSyntaxError = false
takes_effect IsInclude = false

-- the fields that a constructor uses, by their places
abbrev pub used_fields : List (ModelField Identifier) → List (Named Identifier) → List FieldUse
used_fields fs ns = map (λ n. record { field = position same_ident n.name fs; occ = n.occ }) ns

-- what was set aside, as an item
abbrev pub item_of : Kept → Item
item_of k = record { kept = k }

-- a form inside one that was read from the text
abbrev pub form_at : Option Occ → number.Tree → code.Form
form_at here t = record { here = here; tree = t }
