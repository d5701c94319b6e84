-- What the points of the code stand for, in a form of a unit.
use Rattle.std.specs.Prelude.{◌≡◌, ℕ, List, map, Option, Some, None}
use Rattle.scheme_model.specs.Identifiers.{Number}
use Rattle.scheme_model.specs.Meaning.{Meaning}
use Rattle.rename_model.specs.Walks as walk
use Rattle.syntax_tree.specs.Names.{Names}
use Rattle.syntax_tree.specs.Meant.{IsSymbol, IsMeaning}
use Rattle.core_tree.specs.declared.cores.Binder.{Binder}
use Rattle.alpha_equal.specs.declared.nodes.Node.{Node}
use Rattle.alpha_equal.specs.declared.nodes.Node.TheVariants as nodes
use Rattle.alpha_equal.specs.declared.points.Seen.{Seen}
use Rattle.alpha_equal.specs.declared.points.Seen.TheVariants as seen
use Rattle.alpha_equal.specs.declared.points.Spot.{Spot}
use Rattle.alpha_equal.specs.declared.points.Spot.TheVariants as spots
use Rattle.alpha_equal.specs.declared.points.Shown.{Shown}
use Rattle.alpha_equal.specs.declared.points.Shown.TheVariants as shown
use Rattle.alpha_equal.specs.declared.points.Told.{Told}
use Rattle.alpha_equal.specs.declared.points.Point.{Point}
use Rattle.alpha_equal.specs.declared.points.Pair.{Pair}

abbrev pub node_as : Node → walk.Node
node_as nodes.Reference = walk.IsReference
node_as nodes.Constant = walk.IsConstant
node_as nodes.Quotation = walk.IsQuotation
node_as nodes.Quasiquotation = walk.IsQuasiquotation
node_as nodes.Procedure = walk.IsProcedure
node_as nodes.CaseLambda = walk.IsCaseLambda
node_as nodes.Conditional = walk.IsConditional
node_as nodes.Assignment = walk.IsAssignment
node_as nodes.Call = walk.IsCall
node_as nodes.Body = walk.IsBody
node_as nodes.LocalMacros = walk.IsLocalMacros
node_as nodes.Form = walk.IsForm
node_as nodes.Expression = walk.IsExpression
node_as nodes.Definition = walk.IsDefinition
node_as nodes.Values = walk.IsValues
node_as nodes.Record = walk.IsRecord
node_as nodes.Syntax = walk.IsSyntax
node_as nodes.BindsLocal = walk.BindsLocal
node_as nodes.BindsDefinition = walk.BindsDefinition
node_as nodes.Symbol = walk.IsSymbol
node_as nodes.Hole = walk.IsHole
node_as nodes.Numeral = walk.IsNumeral
node_as nodes.String = walk.IsString
node_as nodes.Character = walk.IsCharacter
node_as nodes.True = walk.IsTrue
node_as nodes.False = walk.IsFalse
node_as nodes.Bytes = walk.IsBytes
node_as nodes.List = walk.IsList
node_as nodes.Vector = walk.IsVector
node_as nodes.Rules = walk.IsRules
node_as nodes.RuleLiteral = walk.IsRuleLiteral
node_as nodes.Dots = walk.IsDots
node_as nodes.Underscore = walk.IsUnderscore
node_as nodes.PatternVariable = walk.IsPatternVariable
node_as nodes.Inserted = walk.IsInserted
node_as nodes.Escape = walk.IsEscape
node_as nodes.OfPrelude = walk.IsOfPrelude
node_as nodes.Standard = walk.IsStandard
node_as nodes.Unbound = walk.IsUnbound

abbrev pub spot_as : Spot → walk.Spot
spot_as spots.Use = walk.AtUse
spot_as spots.Quoted = walk.AtQuoted
spot_as spots.Rule = walk.AtRule
spot_as spots.Template = walk.AtTemplate
spot_as spots.Export = walk.AtExport
spot_as spots.Errors = walk.AtErrors
spot_as spots.Shape = walk.AtShape

-- the locals of a form that binders bind
abbrev pub locals_of : (unit form : ℕ) → List Binder → List Number
locals_of unit form bs = map (λ (b : Binder). record { unit = unit; form = form; count = b.number }) bs

abbrev pub IsSeen : Names → (unit form : ℕ) → Seen → walk.Seen → Type 0
IsSeen names unit form (seen.Node k) s = s ≡ walk.OfNode (node_as k)
IsSeen names unit form (seen.Number n) s = s ≡ walk.OfNumber n
IsSeen names unit form (seen.Name k n) s = (text : List ℕ) × IsSymbol names n text × (s ≡ walk.OfName (node_as k) text)
IsSeen names unit form (seen.Defined u n) s = s ≡ walk.OfDefinition u n
IsSeen names unit form (seen.Local n) s = s ≡ walk.OfLocal (record { unit = unit; form = form; count = n })
IsSeen names unit form (seen.Binders k bs) s = s ≡ walk.OfBinders (node_as k) (locals_of unit form bs.now)

abbrev pub IsShown : Names → (unit form : ℕ) → Shown → walk.Shown → Type 0
IsShown names unit form shown.Nothing s = s ≡ walk.ShowsNothing
IsShown names unit form (shown.Symbol n) s = (text : List ℕ) × IsSymbol names n text × (s ≡ walk.ShowsSymbol text)
IsShown names unit form (shown.Text t) s = s ≡ walk.ShowsSymbol t.now
IsShown names unit form (shown.Meaning m) s = (meaning : Meaning) × IsMeaning names unit form m meaning × (s ≡ walk.ShowsMeaning meaning)
IsShown names unit form (shown.Place o) s = s ≡ walk.ShowsPlace o

pub record IsTold (names : Names) (unit form : ℕ) (c : Told) (p : walk.Point) : Type 0 where
  pub spot : spot_as c.spot ≡ p.spot
  pub place : c.occ ≡ p.occ
  pub shown : IsShown names unit form c.shown p.shown

pub record IsPoint (names : Names) (unit form : ℕ) (c : Point) (p : walk.Point) : Type 0 where
  pub told : IsTold names unit form c.told p
  pub seen : IsSeen names unit form c.seen p.seen

-- two points that don't agree, where there are such
abbrev pub ArePair : Names → (unit form : ℕ) → Option Pair → Option (walk.Point × walk.Point) → Type 0
ArePair names unit form None None = Unit {0}
ArePair names unit form None (Some q) = ⊥
ArePair names unit form (Some c) None = ⊥
ArePair names unit form (Some c) (Some q) = IsTold names unit form c.old q.0 × IsTold names unit form c.new q.1
