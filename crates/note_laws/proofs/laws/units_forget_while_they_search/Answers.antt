use Rattle.note_laws.proofs.SearchedLaws.{imports_others, searching_forgets}
use Rattle.note_laws.proofs.laws.units_forget_while_they_search.Goals as goal

pub returns : goal.returns
returns c = record {
  imports = λ all units known n p ready. imports_others all units known n p ready;
  same = λ all units known n h p ready o. searching_forgets all units known n p ready h o;
}
