-- What macros that are made of sketches stand for, and how making them ends.
use Rattle.std.specs.Prelude.{◌≡◌, ℕ, ◌+◌, ◌≤◌, List, [], ◌∷◌, map, nat_le, Bool, true, ◌&&◌, None, Some, Result, Ok, Err, slice_get}
use Rattle.ls_base.specs.Limits.{max_tree_depth}
use Rattle.scheme_model.specs.Trees.{Tree, proper}
use Rattle.scheme_model.specs.ExpansionFaults.{Fault}
use Rattle.scheme_model.specs.RulesShape.{Rules, Rule, rules_parts}
use Rattle.scheme_model.specs.Prelude as model
use Rattle.scheme_model.specs.Ident.{Ident as Identifier, Written}
use Rattle.scheme_model.specs.Program.{prelude_unit}
use Rattle.syntax_tree.specs.Names.{Names}
use Rattle.syntax_tree.specs.Macros.{IsIdent}
use Rattle.syntax_tree.specs.Works.{StandsFor, live_count}
use Rattle.syntax_tree.specs.declared.trees.Work.{Work}
use Rattle.syntax_tree.specs.declared.trees.nodes.Tree as number
use Rattle.syntax_tree.specs.declared.trees.table.Region.{Region}
use Rattle.syntax_tree.specs.declared.trees.faults.PoolFault.{PoolFault}
use Rattle.syntax_tree.specs.declared.rules.Rule as code_rule
use Rattle.datum_reader.specs.Seeding.{Grows, Fails}
use Rattle.base_library.specs.declared.sketch.Sketch.{Sketch}
use Rattle.base_library.specs.declared.macros.PreludeMacro.{PreludeMacro}
use Rattle.base_library.specs.Sketches.{made, row_size}
use Rattle.base_library.specs.Macros.{Each, written, pattern_of, RuleLies}

-- the number of an identifier of the prelude
abbrev pub IsNamed : Names → ℕ → List ℕ → Type 0
IsNamed names n s = IsIdent names n (Written prelude_unit s)

-- patterns, each with the template behind it
abbrev pub pairs : List (Tree Identifier) → List (Tree Identifier × Tree Identifier)
pairs [] = []
pairs (p ∷ []) = []
pairs (p ∷ (t ∷ ts)) = (p, t) ∷ pairs ts

abbrev pub paired : List number.Tree → List code_rule.Rule
paired [] = []
paired (p ∷ []) = []
paired (p ∷ (t ∷ ts)) = record { pattern = p; template = t } ∷ paired ts

-- a rule of these two trees, in the region
pub record IsPair (work : Work) (region : Region) (r : code_rule.Rule) (p : Tree Identifier × Tree Identifier) : Type 0 where
  pub pattern : StandsFor work r.pattern p.0
  pub template : StandsFor work r.template p.1
  pub lie : RuleLies work region r

-- the macro of a sketch
pub record IsSketched (work : Work) (region : Region) (m : PreludeMacro) (s : Sketch) : Type 0 where
  pub name : slice_get work.symbols.symbols m.name ≡ Some s.name.now
  pub ellipsis : m.rules.ellipsis ≡ None
  pub literals : Each (IsNamed work.symbols) m.rules.literals (map (λ l. l.now) s.literals.now)
  pub rules : Each (IsPair work region) m.rules.rules (pairs (made s.steps.now))

-- ---- sketches and the macros of the definitions

-- a macro by its name, its literals, and its patterns and templates
pub record Plain : Type 0 where
  pub name : List ℕ
  pub literals : List (List ℕ)
  pub rules : List (Tree Identifier × Tree Identifier)

abbrev pub sketch_plain : Sketch → Plain
sketch_plain s = record { name = s.name.now; literals = map (λ l. l.now) s.literals.now; rules = pairs (made s.steps.now) }

abbrev pub read_of : Result (Rules (List ℕ)) (Fault (List ℕ)) → Rules (List ℕ)
read_of (Ok r) = r
read_of (Err e) = record { ellipsis = None; literals = []; rules = [] }

abbrev pub read_in : model.PreludeMacro → Rules (List ℕ)
read_in p = read_of (rules_parts p.parts proper)

abbrev pub pair_of : Rule Identifier → Tree Identifier × Tree Identifier
pair_of r = (pattern_of r, r.template)

abbrev pub macro_plain : model.PreludeMacro → Plain
macro_plain p = record { name = p.name; literals = map (λ l. l.name) (read_in p).literals; rules = map pair_of (written (read_in p)).rules }

-- ---- sizes

abbrev pub sketch_size : Sketch → ℕ
sketch_size s = row_size (made s.steps.now)

abbrev pub sketches_size : List Sketch → ℕ
sketches_size [] = 0
sketches_size (s ∷ ss) = sketch_size s + sketches_size ss

abbrev pub all_small : List Sketch → Bool
all_small [] = true
all_small (s ∷ ss) = nat_le (sketch_size s) max_tree_depth && all_small ss

-- ---- how a call ends

-- so many nodes were added, and names
pub record IsMade (old new : Work) (region : Region) (count : ℕ) : Type 0 where
  pub grows : Grows old new region
  pub nodes : live_count new ≡ live_count old + count

-- at most so many were
pub record IsBegun (old new : Work) (region : Region) (most : ℕ) : Type 0 where
  pub grows : Grows old new region
  pub nodes : live_count new ≤ live_count old + most

abbrev pub Makes : {X : Type 0} → Work → Work → Region → ℕ → (X → Type 0) → Result X PoolFault → Type 0
Makes old new region count P (Ok x) = IsMade old new region count × P x
Makes old new region count P (Err e) = IsBegun old new region count × Fails old count e
