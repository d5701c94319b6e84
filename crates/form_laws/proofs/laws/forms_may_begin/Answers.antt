use Rattle.form_laws.proofs.Beginnings.{fresh_begins, written_stands}
use Rattle.form_laws.proofs.laws.forms_may_begin.Goals as goal

pub returns : goal.returns
returns c = record {
  fresh = λ s table macros places definitions entries. fresh_begins s table macros places definitions entries;
  written = λ s u t. written_stands s u t;
}
