-- What a session writes in answer to a stream that comes in pieces, where the bodies of a piece are looked at ahead or not (LSP 3.17,
-- "Cancellation Support").
use Rattle.std.specs.Prelude.{◌≡◌, ◌⊎◌, ℕ, List, ◌++◌, map, flat_map, Option}
use Rattle.std.specs.FinMap.{empty}
use Rattle.std.specs.Option.{option_map}
use Rattle.ls_base.specs.Frames.{End}
use Rattle.lsp_messages.specs.declared.reply.Reply.{Reply}
use Rattle.lookahead.specs.Ahead.{run_ahead, step_ahead}
use Rattle.lookahead.specs.Completed.{Complete}
use Rattle.lookahead.specs.Looked.{Looked, looked}
use Rattle.lookahead.specs.declared.looking.Looking.{Looking}
use Rattle.scheme_model.specs.Session as session
use Rattle.scheme_model.specs.Session.{Message, Run, State, Stepped, begin}
use Rattle.session_replies.specs.FromWire.{offsets, said_id}
use Rattle.session_replies.specs.Asked.{Question, questions}
use Rattle.session_replies.specs.ToWire.{AreReplies}
use Rattle.session_serving.specs.SessionOutput.{Output, said, written}

-- ---- bodies, each beside the id by which it is cancelled

-- what a body says, and that id
abbrev pub said_beside : Looked → Message × Option session.Id
said_beside body = (said body.0, option_map said_id body.1)

-- what a body leads to
abbrev pub looked_step : State → Looked → Stepped Question
looked_step state body = step_ahead offsets questions state (said body.0) (option_map said_id body.1)

-- a session that goes on with these bodies, up to and with the first `exit`
abbrev pub looked_from : State → List Looked → Run Question
looked_from state bodies = run_ahead offsets questions (map said_beside bodies) state

-- ---- the bodies that pieces complete

-- in their order, each looked at with those of its piece
abbrev pub looked_in : (looking : Looking) → (given : List (List (List ℕ))) → List Looked
looked_in looking given = flat_map (looked looking) given

-- a session over them
abbrev pub looked_over : (looking : Looking) → (given : List (List (List ℕ))) → Run Question
looked_over looking given = looked_from (begin empty) (looked_in looking given)

-- the output of a stream that comes in these pieces
pub record IsOutputBy (looking : Looking) (pieces : List (List ℕ)) (output : Output) : Type 0 where
  pub given : List (List (List ℕ))
  pub complete : Complete pieces given output.end
  pub answered : AreReplies (looked_over looking given).replies output.messages
  pub exits : output.exit ≡ (looked_over looking given).end

-- messages answer the first bodies of such a stream
pub record AnswerFirstBy (looking : Looking) (pieces : List (List ℕ)) (messages : List Reply) : Type 0 where
  pub given : List (List (List ℕ))
  pub end : End
  pub complete : Complete pieces given end
  pub first : List Looked
  pub later : List Looked
  pub split : looked_in looking given ≡ first ++ later
  pub answered : AreReplies (looked_from (begin empty) first).replies messages

-- messages begin the output of such a stream: they answer its first bodies, or are all of it
abbrev pub BeginBy : (looking : Looking) → (pieces : List (List ℕ)) → List Reply → Type 0
BeginBy looking pieces messages = AnswerFirstBy looking pieces messages ⊎ ((output : Output) × IsOutputBy looking pieces output × (messages ≡ written output))
