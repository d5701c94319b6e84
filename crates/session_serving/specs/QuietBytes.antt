-- Bytes whose bodies tell no document event and ask for no rename. Over such bytes no macro use is counted.
use Rattle.std.specs.Prelude.{ℕ, List}
use Rattle.std.specs.List.{AllByRecursion}
use Rattle.ls_base.specs.Frames.{End, IsFrames}
use Rattle.session_replies.specs.Stepped.{IsQuiet}

-- each body of these bytes is quiet
pub record AreQuiet (bytes : List ℕ) : Type 0 where
  pub bodies : List (List ℕ)
  pub end : End
  pub frames : IsFrames bytes bodies end
  pub quiet : AllByRecursion IsQuiet bodies
