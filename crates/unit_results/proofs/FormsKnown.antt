-- What the forms of a unit tell once they are expanded.
use Rattle.std.proofs.Common.{ℕ, List, [], get_or}
use Rattle.std.proofs.lemmas.Option.{slice_get_within, slice_get-get_or}
use Rattle.scheme_model.specs.Ident.{Written}
use Rattle.syntax_tree.specs.Names.{Names, KeepsNames}
use Rattle.syntax_tree.specs.declared.trees.Work.{Work}
use Rattle.core_tree.specs.Units.{definitions_from}
use Rattle.core_tree.specs.declared.cores.Binder.{Binder}
use Rattle.core_tree.specs.declared.units.UnitForm.{UnitForm}
use Rattle.program_leaves.specs.Formed.{AreFormed}
use Rattle.unit_imports.specs.Defined.{AreKnown}
use Rattle.unit_imports.proofs.DefinedLaws.{known_definitions}
use Rattle.program_findings.specs.StandIn.{StandIn}

-- what forms define is among the names
pub formed_known : (work : Work) (unit : ℕ) (cs : List UnitForm) → AreFormed work unit cs → AreKnown work.symbols (definitions_from 0 cs)
formed_known work unit cs are = known_definitions work.symbols (definitions_from 0 cs) are.defined are.definitions

pub known_kept : (old new : Names) → KeepsNames old new → (bs : List (ℕ × Binder)) → AreKnown old bs → AreKnown new bs
known_kept old new keeps bs known = λ n b at.
    slice_get_within new.idents b.1.ident (get_or old.idents b.1.ident (Written 0 []))
    (keeps.idents b.1.ident (get_or old.idents b.1.ident (Written 0 [])) (slice_get-get_or old.idents b.1.ident (Written 0 []) (known n b at)))

-- the forms stand over names to which some were added
pub formed_in : (work : Work) (unit : ℕ) (cs : List UnitForm) (names : Names) → KeepsNames work.symbols names → AreFormed work unit cs → StandIn names cs
formed_in work unit cs names keeps are = record { work = work; unit = unit; formed = are.formed; kept = keeps; stand = are.stand }
