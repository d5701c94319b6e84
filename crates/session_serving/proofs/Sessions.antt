-- Sessions over bodies that come one after another.
use Rattle.std.proofs.Common.{◌≡◌, ℕ, List, [], ◌∷◌, ◌++◌, refl, sym, ap, ◌∙◌, append_assoc, append-nil, subst, Some, None, Option}
use Rattle.lookahead.specs.Looked.{Looked, looked}
use Rattle.lookahead.specs.declared.looking.Looking.TheVariants.{OneByOne}
use Rattle.scheme_model.specs.Session as model
use Rattle.scheme_model.specs.Session.{Ending, Run, State, Stepped, after_replies, followed, step}
use Rattle.session_replies.specs.FromWire.{offsets}
use Rattle.session_replies.specs.Asked.{Question, questions}
use Rattle.session_replies.specs.ToWire.{AreReplies}
use Rattle.lsp_messages.specs.declared.reply.Reply.{Reply}
use Rattle.session_serving.specs.AheadOutput.{looked_from, looked_step}
use Rattle.reply_writing.specs.ReplyFrames.{frame_of_reply, frames_of}
use Rattle.session_serving.specs.SessionOutput.{said, session_from}

-- ---- a session over one body

-- a session that comes to its last body
abbrev last : State → Run Question
last next = record { replies = []; state = next; end = None }

replies_followed : (end : Option Ending) (s : Stepped Question) → (followed end s last).replies ≡ s.replies
replies_followed None s = append-nil s.replies
replies_followed (Some exit) s = refl

end_followed : (end : Option Ending) (s : Stepped Question) → (followed end s last).end ≡ end
end_followed None s = refl
end_followed (Some exit) s = refl

state_followed : (end : Option Ending) (s : Stepped Question) → (followed end s last).state ≡ s.state
state_followed None s = refl
state_followed (Some exit) s = refl

pub replies_of_one : (state : State) (body : Looked) → (looked_from state (body ∷ [])).replies ≡ (looked_step state body).replies
replies_of_one state body = replies_followed (looked_step state body).end (looked_step state body)

pub end_of_one : (state : State) (body : Looked) → (looked_from state (body ∷ [])).end ≡ (looked_step state body).end
end_of_one state body = end_followed (looked_step state body).end (looked_step state body)

pub state_of_one : (state : State) (body : Looked) → (looked_from state (body ∷ [])).state ≡ (looked_step state body).state
state_of_one state body = state_followed (looked_step state body).end (looked_step state body)

-- ---- more bodies

-- the session goes on with the later bodies where the first ones don't end it
abbrev GoesOnWith : List Looked → List Looked → State → Type 0
GoesOnWith first later state = (looked_from state first).end ≡ None →
    looked_from state (first ++ later) ≡ after_replies (looked_from state first).replies (looked_from (looked_from state first).state later)

-- one body before them
step_on : (end : Option Ending) (s : Stepped Question) (first later : List Looked) → GoesOnWith first later s.state →
    (followed end s (λ next. looked_from next first)).end ≡ None →
    followed end s (λ next. looked_from next (first ++ later)) ≡
    after_replies (followed end s (λ next. looked_from next first)).replies (looked_from (followed end s (λ next. looked_from next first)).state later)
step_on (Some exit) s first later on going = cc
step_on None s first later on going =
    let r = looked_from s.state first in
    let more = looked_from r.state later in
    ap (after_replies s.replies) (on going) ∙ λ j. record { replies = sym (append_assoc s.replies r.replies more.replies) j; state = more.state; end = more.end }

pub more_bodies : (first later : List Looked) (state : State) → (looked_from state first).end ≡ None →
    looked_from state (first ++ later) ≡ after_replies (looked_from state first).replies (looked_from (looked_from state first).state later)
more_bodies [] later state going = refl
more_bodies (body ∷ first) later state going =
    step_on (looked_step state body).end (looked_step state body) first later (more_bodies first later (looked_step state body).state) going

-- a session that has ended looks at nothing more
step_over : (end : Option Ending) (s : Stepped Question) (first later : List Looked) (exit : Ending) →
    ((looked_from s.state first).end ≡ Some exit → looked_from s.state (first ++ later) ≡ looked_from s.state first) →
    (followed end s (λ next. looked_from next first)).end ≡ Some exit →
    followed end s (λ next. looked_from next (first ++ later)) ≡ followed end s (λ next. looked_from next first)
step_over (Some e) s first later exit over ended = refl
step_over None s first later exit over ended = ap (after_replies s.replies) (over ended)

pub ended_session : (first later : List Looked) (state : State) (exit : Ending) → (looked_from state first).end ≡ Some exit → looked_from state (first ++ later) ≡ looked_from state first
ended_session [] later state exit ended = cc
ended_session (body ∷ first) later state exit ended =
    step_over (looked_step state body).end (looked_step state body) first later exit (ended_session first later (looked_step state body).state exit) ended

-- ---- bodies of which none is cancelled

-- what one body leads to
abbrev one_step : State → List ℕ → Stepped Question
one_step state body = step offsets questions state (said body)

same_steps : (end : Option Ending) (s : Stepped Question) (one other : State → Run Question) → ((next : State) → one next ≡ other next) → followed end s one ≡ followed end s other
same_steps None s one other same = ap (after_replies s.replies) (same s.state)
same_steps (Some exit) s one other same = refl

pub uncancelled_session : (bodies : List (List ℕ)) (state : State) → session_from state bodies ≡ looked_from state (looked OneByOne bodies)
uncancelled_session [] state = refl
uncancelled_session (body ∷ bodies) state =
    same_steps (one_step state body).end (one_step state body) (λ next. session_from next bodies) (λ next. looked_from next (looked OneByOne bodies)) (uncancelled_session bodies)

-- ---- replies

pub are_more : (a b : List (model.Reply Question)) (x y : List Reply) → AreReplies a x → AreReplies b y → AreReplies (a ++ b) (x ++ y)
are_more [] b x y first second = subst (λ (front : List Reply). AreReplies b (front ++ y)) (sym first) second
are_more (r ∷ a) b x y first second = record {
  first = first.first;
  rest = first.rest ++ y;
  split = ap (λ (messages : List Reply). messages ++ y) first.split ∙ append_assoc first.first first.rest y;
  are_first = first.are_first;
  are_rest = are_more a b first.rest y first.are_rest second;
}

-- the messages of more replies are those of the first and those of the rest
pub are_split : (a b : List (model.Reply Question)) (z : List Reply) → AreReplies (a ++ b) z → (x : List Reply) × (y : List Reply) × (z ≡ x ++ y) × AreReplies a x × AreReplies b y
are_split [] b z all = ([], z, refl, refl, all)
are_split (r ∷ a) b z all =
    let w = are_split a b all.rest all.are_rest in (
      all.first ++ w.0,
      w.1,
      all.split ∙ ap (λ (rest : List Reply). all.first ++ rest) w.2 ∙ sym (append_assoc all.first w.0 w.1),
      record { first = all.first; rest = w.0; split = refl; are_first = all.are_first; are_rest = w.3 },
      w.4,
    )

pub frames_more : (x y : List Reply) → frames_of (x ++ y) ≡ frames_of x ++ frames_of y
frames_more [] y = refl
frames_more (m ∷ x) y = ap (λ (rest : List ℕ). frame_of_reply m ++ rest) (frames_more x y) ∙ sym (append_assoc (frame_of_reply m) (frames_of x) (frames_of y))
