use Rattle.root_laws.proofs.RootStates.{forgets, nothing_local, macros_root, outside_root}
use Rattle.root_laws.proofs.laws.what_is_local_is_forgotten.Goals as goal

pub returns : goal.returns
returns c = record {
  forgets = λ s. forgets s;
  nothing = λ s. nothing_local s;
  root = λ s all. macros_root s all;
  all = λ s all. outside_root s all;
}
