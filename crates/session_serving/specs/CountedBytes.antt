-- The macro uses that are counted over bytes (R7RS 4.3): those that their bodies lead to.
use Rattle.std.specs.Prelude.{◌≡◌, ◌⊎◌, ℕ, List}
use Rattle.ls_base.specs.Frames.{End, IsFrames}
use Rattle.lsp_messages.specs.declared.reply.Reply.{Reply}
use Rattle.session_replies.specs.Counted.{AreCounted}
use Rattle.session_serving.specs.SessionOutput.{AnswerFirst, IsOutputOf, Output, session_over, written}

-- those of all bodies, up to and with the first `exit`
pub record CountsAll (bytes : List ℕ) (before now : ℕ) : Type 0 where
  pub bodies : List (List ℕ)
  pub end : End
  pub frames : IsFrames bytes bodies end
  pub counted : AreCounted (session_over bodies).replies before now

-- those of the first bodies, which messages answer
pub record CountsFirst (bytes : List ℕ) (before now : ℕ) (messages : List Reply) : Type 0 where
  pub first : AnswerFirst bytes messages
  pub counted : AreCounted (session_over first.bodies).replies before now

-- those of the bodies that messages answer which begin the output of a stream
abbrev pub CountsBegin : List ℕ → (before now : ℕ) → List Reply → Type 0
CountsBegin bytes before now messages =
    CountsFirst bytes before now messages ⊎ ((output : Output) × IsOutputOf bytes output × (messages ≡ written output) × CountsAll bytes before now)
