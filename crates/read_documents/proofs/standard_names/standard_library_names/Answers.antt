use Rattle.std.proofs.Common.{refl}
use Rattle.scheme_model.specs.StandardLibraries.{standard_libraries}
use Rattle.read_documents.proofs.standard_names.standard_library_names.Goals as goal

pub returns : goal.returns
unfolding standard_libraries
returns c = refl
