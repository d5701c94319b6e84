use Rattle.kept_turns.proofs.RootsStay.{begins_root, first_root, expanded_root, parts_root, same_root}
use Rattle.kept_turns.proofs.laws.macros_stay_at_the_root.Goals as goal

pub returns : goal.returns
returns c = record {
  begins = λ s h. begins_root s h;
  first = λ v turns t out h. first_root v turns t out h;
  second = λ v turns fs r h. expanded_root v turns fs r h;
  put = λ v turns fs r c k. parts_root v turns fs r c k;
  same = λ s t e h. same_root s t e h;
}
