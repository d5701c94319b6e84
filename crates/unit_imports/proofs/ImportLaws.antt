-- What import sets of the code give stands for some entries.
use Rattle.std.proofs.Common.{List, [], map, Option, Result, Ok, refl}
use Rattle.scheme_model.specs.Entries as model
use Rattle.syntax_tree.specs.Names.{Names, KeepsNames}
use Rattle.syntax_tree.specs.declared.units.Entry.{Entry}
use Rattle.import_sets.specs.declared.set.ImportSet as code
use Rattle.import_sets.specs.declared.gather.Group.{Group}
use Rattle.import_sets.specs.Sets.{named, paired, IsSet, Answers}
use Rattle.import_sets.specs.Given.{finished}
use Rattle.unit_imports.specs.declared.expanded.Expanded.{Expanded}
use Rattle.unit_imports.specs.Joining.{GroupsMean}
use Rattle.unit_imports.specs.EntriesMeant.{HaveMeaning, ExportsMean}
use Rattle.unit_imports.proofs.MeaningLaws.{entries_kept, mean_kept}

-- whatever the name of its library
pub any_set : (c : code.ImportSet) → (s : model.ImportSet) × IsSet c s
any_set (code.Library t) = (model.Library [], ([], (refl, tt)))
any_set (code.Only' p c ns) = let r = any_set c in (model.Only r.0 (map named ns), (r.0, (refl, r.1)))
any_set (code.Except' p c ns) = let r = any_set c in (model.Except r.0 (map named ns), (r.0, (refl, r.1)))
any_set (code.Prefix' p c t) = let r = any_set c in (model.Prefix r.0 t, (r.0, (refl, r.1)))
any_set (code.Rename' p c ps) = let r = any_set c in (model.Rename r.0 (map paired ps), (r.0, (refl, r.1)))
any_set code.Bad = (model.Bad, refl)

pub answered_mean : (names : Names) (es : List Entry) (r : Result (List model.Entry) model.ImportFault) → Answers names (Ok es) r → HaveMeaning names es
answered_mean names es r h = (h.0, h.1.1)

pub exports_kept : (old new : Names) → KeepsNames old new → (all : List (Option Expanded)) → ExportsMean old all → ExportsMean new all
exports_kept old new k all h = λ n e at. mean_kept old new k e.exports (h n e at)

pub groups_kept : (old new : Names) → KeepsNames old new → (gs : List Group) → GroupsMean old gs → GroupsMean new gs
groups_kept old new k gs h = (h.0, entries_kept old new k (map finished gs) h.0 h.1)
