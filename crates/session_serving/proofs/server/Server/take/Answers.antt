use Rattle.std.proofs.Common.{◌≡◌, List, ℕ, Option, ap, ◌∙◌, subst, inl, inr, refl}
use Rattle.std.specs.declared.vec.Vec.{Vec}
use Rattle.std.specs.declared.alloc.Global.{Global}
use Rattle.ls_base.specs.Frames.{End}
use Rattle.lookahead.specs.Looked.{Looked, looked}
use Rattle.lookahead.specs.declared.looking.Looking.{Looking}
use Rattle.lsp_framing.specs.Feeds.{Feeds}
use Rattle.lsp_framing.specs.Taken.{contents}
use Rattle.scheme_model.specs.Session.{Ending}
use Rattle.session_serving.specs.BodiesOutcome.{AnswersBodies, AnswersSome, EndsSession}
use Rattle.session_serving.specs.PieceOutcome.{AnswersInPiece, EndsCut, EndsInPiece, Serving, TakesPiece}
use Rattle.command_output.specs.Prints.{SinkSeen}
use Rattle.session_serving.specs.declared.server.FaultAt.{FaultAt}
use Rattle.session_serving.proofs.CountLaws.{part_counts, piece_counts}
use Rattle.session_serving.proofs.QuietLaws.{piece_uncounted}
use Rattle.session_serving.proofs.server.Server.take.Given.{Over}
use Rattle.session_serving.proofs.server.Server.take.Goals as goal
use Rattle.session_serving.proofs.server.Server.take.Goals.{After-answer_bodies}

-- the bodies that were answered are those that the piece completes
same : (g : Over) (c : After-answer_bodies g) → c.new-bodies.result ≡ looked c.args.looking (contents c.in-Ok.field-0.bodies)
same g c = c.new-bodies.ensures ∙ ap (λ (bodies : List (Vec ℕ Global)). looked c.args.looking (contents bodies)) c.into_vec.ensures

takes : {looking : Looking} (old new : Serving) (piece : List ℕ) (bodies : List Looked) (given : List (List ℕ)) (Ends : Option End → Type 0) (seen now : SinkSeen) → Feeds old.frames piece given new.frames → Ends new.frames.end → bodies ≡ looked looking given →
    AnswersBodies old.state bodies new.state seen now → TakesPiece looking old new piece Ends seen now
takes old new piece bodies given Ends seen now feeds end same answers = record {
  given = given;
  feeds = feeds;
  end = end;
  answers = subst (λ (all : List Looked). AnswersBodies old.state all new.state seen now) same answers;
}

answers_some : {looking : Looking} (old new : Serving) (piece : List ℕ) (bodies : List Looked) (given : List (List ℕ)) (IsPrinted : List ℕ → Type 0) → Feeds old.frames piece given new.frames → bodies ≡ looked looking given →
    AnswersSome old.state bodies IsPrinted → AnswersInPiece looking old new piece IsPrinted
answers_some old new piece bodies given IsPrinted feeds same answers = record { given = given; feeds = feeds; answers = subst (λ (all : List Looked). AnswersSome old.state all IsPrinted) same answers }

ends_session : {looking : Looking} (old new : Serving) (piece : List ℕ) (bodies : List Looked) (given : List (List ℕ)) (exit : Ending) (seen now : SinkSeen) → Feeds old.frames piece given new.frames → bodies ≡ looked looking given →
    EndsSession old.state bodies exit seen now → EndsInPiece looking old new piece exit seen now
ends_session old new piece bodies given exit seen now feeds same ends = record { given = given; feeds = feeds; ends = subst (λ (all : List Looked). EndsSession old.state all exit seen now) same ends }

pub returns-in_default-clause-takes : goal.returns-in_default-clause-takes
returns-in_default-clause-takes g c = inr refl

pub returns-in-None-clause-takes : goal.returns-in-None-clause-takes
returns-in-None-clause-takes g c =
    takes _ _ _ _ _ _ _ _ c.in-Ok.ensures.feeds (subst (λ (fault : Option FaultAt). EndsCut fault c.cut_piece.new.deframer.end) c.in-None.is c.in-Ok.ensures.end)
    (same g (goal.at.returns-in-None-clause-takes g c).After-answer_bodies) c.in-Answered.ensures.answers

pub returns-in-Some-clause-takes : goal.returns-in-Some-clause-takes
returns-in-Some-clause-takes g c =
    takes _ _ _ _ _ _ _ _ c.in-Ok.ensures.feeds (subst (λ (fault : Option FaultAt). EndsCut fault c.cut_piece.new.deframer.end) c.in-Some.is c.in-Ok.ensures.end)
    (same g (goal.at.returns-in-Some-clause-takes g c).After-answer_bodies) c.in-Answered.ensures.answers

pub returns-in-Exited-clause-takes : goal.returns-in-Exited-clause-takes
returns-in-Exited-clause-takes g c =
    ends_session _ _ _ _ _ _ _ _ c.in-Ok.ensures.feeds (same g (goal.at.returns-in-Exited-clause-takes g c).After-answer_bodies) c.in-Exited.ensures.answers

pub returns-in-WriteFailed-clause-takes : goal.returns-in-WriteFailed-clause-takes
returns-in-WriteFailed-clause-takes g c = answers_some _ _ _ _ _ _ c.in-Ok.ensures.feeds (same g (goal.at.returns-in-WriteFailed-clause-takes g c).After-answer_bodies) c.in-WriteFailed.ensures.answers

pub returns-in-NoMemory-clause-takes : goal.returns-in-NoMemory-clause-takes
returns-in-NoMemory-clause-takes g c = inl (answers_some _ _ _ _ _ _ c.in-Ok.ensures.feeds (same g (goal.at.returns-in-NoMemory-clause-takes g c).After-answer_bodies) c.in-NoMemory.ensures.answers)

pub returns-in_default-clause-steps : goal.returns-in_default-clause-steps
returns-in_default-clause-steps g c = λ q. refl

pub returns-in-None-clause-steps : goal.returns-in-None-clause-steps
returns-in-None-clause-steps g c = piece_uncounted c.args.looking _ _ _ _ _ _ _ c.in-Ok.ensures.feeds (same g (goal.at.returns-in-None-clause-steps g c).After-answer_bodies) c.in-Answered.ensures.steps

pub returns-in-Some-clause-steps : goal.returns-in-Some-clause-steps
returns-in-Some-clause-steps g c = piece_uncounted c.args.looking _ _ _ _ _ _ _ c.in-Ok.ensures.feeds (same g (goal.at.returns-in-Some-clause-steps g c).After-answer_bodies) c.in-Answered.ensures.steps

pub returns-in-Exited-clause-steps : goal.returns-in-Exited-clause-steps
returns-in-Exited-clause-steps g c = piece_uncounted c.args.looking _ _ _ _ _ _ _ c.in-Ok.ensures.feeds (same g (goal.at.returns-in-Exited-clause-steps g c).After-answer_bodies) c.in-Exited.ensures.steps

pub returns-in-WriteFailed-clause-steps : goal.returns-in-WriteFailed-clause-steps
returns-in-WriteFailed-clause-steps g c = piece_uncounted c.args.looking _ _ _ _ _ _ _ c.in-Ok.ensures.feeds (same g (goal.at.returns-in-WriteFailed-clause-steps g c).After-answer_bodies) c.in-WriteFailed.ensures.steps

pub returns-in-NoMemory-clause-steps : goal.returns-in-NoMemory-clause-steps
returns-in-NoMemory-clause-steps g c = piece_uncounted c.args.looking _ _ _ _ _ _ _ c.in-Ok.ensures.feeds (same g (goal.at.returns-in-NoMemory-clause-steps g c).After-answer_bodies) c.in-NoMemory.ensures.steps

pub returns-in-None-clause-counted : goal.returns-in-None-clause-counted
returns-in-None-clause-counted g c = piece_counts _ _ _ _ _ _ _ c.in-Ok.ensures.feeds (same g (goal.at.returns-in-None-clause-counted g c).After-answer_bodies) c.in-Answered.ensures.counted

pub returns-in-Some-clause-counted : goal.returns-in-Some-clause-counted
returns-in-Some-clause-counted g c = piece_counts _ _ _ _ _ _ _ c.in-Ok.ensures.feeds (same g (goal.at.returns-in-Some-clause-counted g c).After-answer_bodies) c.in-Answered.ensures.counted

pub returns-in-Exited-clause-counted : goal.returns-in-Exited-clause-counted
returns-in-Exited-clause-counted g c = piece_counts _ _ _ _ _ _ _ c.in-Ok.ensures.feeds (same g (goal.at.returns-in-Exited-clause-counted g c).After-answer_bodies) c.in-Exited.ensures.counted

pub returns-in-WriteFailed-clause-counted : goal.returns-in-WriteFailed-clause-counted
returns-in-WriteFailed-clause-counted g c = part_counts _ _ _ _ _ _ _ _ c.in-Ok.ensures.feeds (same g (goal.at.returns-in-WriteFailed-clause-counted g c).After-answer_bodies) c.in-WriteFailed.ensures.counted
