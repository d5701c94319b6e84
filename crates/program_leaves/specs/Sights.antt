-- What is seen of a program of the code, and what the definition's program has of it.
use Rattle.std.specs.Prelude.{◌≡◌, ℕ, List, map, Bool, ◌||◌}
use Rattle.std.specs.List.{flat_map}
use Rattle.std.specs.Option.{option_map}
use Rattle.std.specs.BTreeSet.{BTreeSet, contains}
use Rattle.std.specs.BTreeMap.{get}
use Rattle.scheme_model.specs.declared.Occ.{Occ}
use Rattle.scheme_model.specs.Ident.{Ident as Identifier}
use Rattle.scheme_model.specs.Cores as model
use Rattle.scheme_model.specs.Substitution.{Table, Defined, defined_in}
use Rattle.scheme_model.specs.IncludedUnits.{Placed}
use Rattle.scheme_model.specs.Program.{Program}
use Rattle.scheme_model.specs.Requirements.{LibraryName}
use Rattle.scheme_model.specs.Live as live
use Rattle.scheme_model.specs.Live.{CoreLeaf}
use Rattle.scheme_model.specs.ProgramArrows.{local_at, is_occ, is_live, program_leaves, program_keywords, program_names, program_table}
use Rattle.syntax_tree.specs.Macros.{IsIdent}
use Rattle.syntax_tree.specs.declared.trees.Work.{Work}
use Rattle.core_tree.specs.Units.{IsName, ProgramStands}
use Rattle.core_tree.specs.declared.units.NameUse.{NameUse}
use Rattle.core_tree.specs.declared.units.Program as code_program
use Rattle.core_tree.specs.declared.units.Unit.{Unit as CodeUnit}
use Rattle.program_leaves.specs.declared.sight.Sight.{Sight}
use Rattle.program_leaves.specs.Members.{Tells}
use Rattle.program_leaves.specs.Placed.{occ_cmp, local_cmp, global_cmp, placed_of, use_of, Use, AreAllSeen, IsUseOf, place_in}

-- a set has these occurrences more
abbrev pub Grows : (old new : BTreeSet Occ) → (Occ → Bool) → Type 0
Grows old new more = (o : Occ) → contains occ_cmp new o ≡ (contains occ_cmp old o || more o)

-- the names in imports and exports of all units
abbrev pub all_names : List CodeUnit → List NameUse
all_names cs = flat_map (λ (c : CodeUnit). c.names) cs

-- the second identifiers of the pairs that the imports of all units rename by
abbrev pub all_seconds : List CodeUnit → List Occ
all_seconds cs = flat_map (λ (c : CodeUnit). c.seconds) cs

abbrev pub name_at : Occ → NameUse → Bool
name_at o n = is_occ o n.target.occ

abbrev pub use_at : Occ → Use → Bool
use_at o u = is_occ o u.target.occ

abbrev pub IsNameOf : Work → NameUse → live.NameUse → Type 0
IsNameOf work n m = (unit : ℕ) × IsName work.symbols unit n m

-- it has these leaves, these keywords and literals, and knows where locals and definitions stand and what is live
pub record Sees (work : Work) (s : Sight) (leaves : List CoreLeaf) (keywords : List model.Target) (names : List live.NameUse) (table : Table) : Type 0 where
  pub leaves_are : AreAllSeen work (map placed_of s.leaves.items) leaves
  pub met_are : Tells (IsUseOf work) (map use_of s.met.items) keywords
  pub locals_are : (unit form count : ℕ) → place_in (get local_cmp s.locals (record { at = record { unit = unit; form = form }; count = count })) ≡ local_at leaves (record { unit = unit; form = form; count = count })
  pub definitions_are : (unit n : ℕ) (i : Identifier) → IsIdent work.symbols n i → get global_cmp s.definitions (record { unit = unit; ident = n }) ≡ option_map (λ (d : Defined). d.occ) (defined_in table unit i)
  pub live_are : (o : Occ) → contains occ_cmp s.live o ≡ is_live leaves keywords names o

abbrev pub SeesProgram : Work → Sight → List Placed → Program → Type 0
SeesProgram work s all p = Sees work s (program_leaves p.units) (program_keywords p.units) (program_names all p p.units) (program_table p)

-- it sees what a program of the code stands for
abbrev pub IsSightOf : Work → Sight → code_program.Program → Type 0
IsSightOf work s c = (text : LibraryName → List ℕ) × (uris : List (List ℕ)) × (all : List Placed) × (p : Program) × ProgramStands work text uris all c p × SeesProgram work s all p
