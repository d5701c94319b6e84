use Rattle.std.proofs.Common.{ℕ, List}
use Rattle.scheme_model.specs.Data.{Datum}
use Rattle.scheme_model.specs.Includes.{Document}
use Rattle.datum_reader.specs.Texts.{IsReading}
use Rattle.program_laws.specs.Turns.{Each}
use Rattle.program_laws.specs.Texts.{IsOfText}
use Rattle.program_laws.proofs.Texts.{text_within, texts_bounded}
use Rattle.program_laws.proofs.laws.texts_are_bounded.Goals as goal

pub returns : goal.returns
returns c = record {
  read = λ (text : List ℕ) (ds : List Datum) (h : IsReading text ds). text_within text ds h;
  bounded = λ (ds : List Document) (h : Each IsOfText ds). texts_bounded ds h;
}
