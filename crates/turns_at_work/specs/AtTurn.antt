-- What is around a form at its turn, where what is local is forgotten (R7RS 4.3, 5.3).
use Rattle.std.specs.Prelude.{◌≡◌, map}
use Rattle.scheme_model.specs.Questions.{Around}
use Rattle.scheme_model.specs.FormsAlike.{bare_note}
use Rattle.forgotten_locals.specs.Outside.{IsOutsideOf}

-- v is w outside, but for the times at which bodies were entered
pub record IsAroundOutside (w v : Around) : Type 0 where
  pub state : IsOutsideOf w.state v.state
  pub known : v.known ≡ w.known
  pub notes : map bare_note v.notes ≡ map bare_note w.notes
