use Rattle.note_laws.proofs.SearchedTurns.{first_searched, second_searched}
use Rattle.searched_turns.proofs.KeptSearched.{imports_told}
use Rattle.searched_turns.proofs.laws.searched_turns_are_counted.Goals as goal

pub returns : goal.returns
returns c = record {
  first = λ v turns t out others b. (first_searched v.state.unit turns v out (imports_told v.state b.state others) t b).0;
  second = λ v turns fs r out others h b. (second_searched v.state.unit turns v out (imports_told v.state h others) fs r b).0;
}
