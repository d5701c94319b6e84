-- Bodies that are answered one after another.
use Rattle.std.proofs.Common.{◌≡◌, ℕ, List, [], ◌∷◌, ◌++◌, refl, sym, ap, ◌∙◌, arith, append_assoc, append-nil, Some, None, Option, subst}
use Rattle.std.specs.List.{AllByRecursion}
use Rattle.std.specs.Option.{option_map}
use Rattle.lookahead.specs.Looked.{Looked}
use Rattle.scheme_model.specs.Session.{Clean, Early, Ending, Run, State}
use Rattle.session_replies.specs.Asked.{Question}
use Rattle.session_replies.specs.ToWire.{AreReplies}
use Rattle.session_replies.specs.States.{exit_code}
use Rattle.session_replies.specs.Stepped.{IsOutcome}
use Rattle.session_replies.specs.declared.out.Out.{Out}
use Rattle.lsp_messages.specs.declared.reply.Reply.{Reply}
use Rattle.session_serving.specs.AheadOutput.{looked_from, looked_step}
use Rattle.session_serving.specs.BodiesOutcome.{AreAnswered, AnswersBodies, AnswersSome, BodiesEndAs, EndsSession, IsQuietBody, body_end_of}
use Rattle.command_output.specs.Prints.{SinkSeen, Prints, PrintsFront, PrintsPart}
use Rattle.reply_writing.specs.ReplyFrames.{frames_of}
use Rattle.session_serving.proofs.Sessions.{replies_of_one, end_of_one, state_of_one, more_bodies, ended_session, are_more, frames_more}
use Rattle.reply_writing.proofs.Writes.{prints_nothing, prints_then, part_after, front_after, whole_part}

-- ---- one body

pub answered_one : (state next : State) (body : Looked) (out : Out) → IsOutcome (looked_step state body) out next → AreReplies (looked_from state (body ∷ [])).replies out.replies
answered_one state next body out s = subst (λ rs. AreReplies rs out.replies) (sym (replies_of_one state body)) s.replies

abbrev session_one : (state next : State) (body : Looked) (out : Out) (end : Option Ending) → IsOutcome (looked_step state body) out next → (looked_step state body).end ≡ end → AreAnswered state (body ∷ []) end
session_one state next body out end s e = record { messages = out.replies; answered = answered_one state next body out s; ends = end_of_one state body ∙ e }

one_ends : (state next : State) (body : Looked) (out : Out) (old new : SinkSeen) (end : Option Ending) → IsOutcome (looked_step state body) out next → Prints old new (frames_of out.replies) → (looked_step state body).end ≡ end →
    BodiesEndAs state (body ∷ []) next old new (body_end_of (option_map exit_code end))
one_ends state next body out old new None s p e = record { session = session_one state next body out None s e; prints = p; now = s.state ∙ sym (state_of_one state body) }
one_ends state next body out old new (Some Clean) s p e = record { session = session_one state next body out (Some Clean) s e; prints = p }
one_ends state next body out old new (Some Early) s p e = record { session = session_one state next body out (Some Early) s e; prints = p }

-- a body that is answered whole
pub one_answered : (state next : State) (body : Looked) (out : Out) (old new : SinkSeen) → IsOutcome (looked_step state body) out next → Prints old new (frames_of out.replies) → BodiesEndAs state (body ∷ []) next old new (body_end_of out.end)
one_answered state next body out old new s p =
    subst (λ (n : Option ℕ). BodiesEndAs state (body ∷ []) next old new (body_end_of n)) (sym s.end) (one_ends state next body out old new (looked_step state body).end s p refl)

-- a body that is answered in part
pub one_some : (state next : State) (body : Looked) (out : Out) (IsPrinted : List ℕ → Type 0) → IsOutcome (looked_step state body) out next → IsPrinted (frames_of out.replies) → AnswersSome state (body ∷ []) IsPrinted
one_some state next body out IsPrinted s p = record { first = body ∷ []; later = []; split = refl; messages = out.replies; answered = answered_one state next body out s; prints = p }

-- memory runs out before anything is printed
pub none_answered : (state : State) (bodies : List Looked) (a : SinkSeen) → AnswersSome state bodies (PrintsPart a a)
none_answered state bodies a = record {
  first = [];
  later = bodies;
  split = refl;
  messages = [];
  answered = refl;
  prints = record { count = 0; part = omega arith; printed = (prints_nothing a).printed; no_fault = refl; calls = (prints_nothing a).calls };
}

-- ---- several bodies

pub none_yet : (state : State) (a : SinkSeen) → AnswersBodies state [] state a a
none_yet state a = record { session = record { messages = []; answered = refl; ends = refl }; prints = prints_nothing a; now = refl }

-- the session after some bodies that don't end it, and after more
abbrev session_then : (state mid : State) (a b : List Looked) (end : Option Ending) (first : AreAnswered state a None) → mid ≡ (looked_from state a).state → (second : AreAnswered mid b end) →
    (whole : AreAnswered state (a ++ b) end) × (whole.messages ≡ first.messages ++ second.messages) × ((looked_from state (a ++ b)).state ≡ (looked_from mid b).state)
session_then state mid a b end first now second =
    let r = looked_from state a in
    let whole = more_bodies a b state first.ends in
    let from : looked_from mid b ≡ looked_from r.state b = ap (λ (s : State). looked_from s b) now in
    let replies : AreReplies (r.replies ++ (looked_from r.state b).replies) (first.messages ++ second.messages) =
    are_more r.replies _ first.messages second.messages first.answered (subst (λ (run : Run Question). AreReplies run.replies second.messages) from second.answered) in (
      record {
        messages = first.messages ++ second.messages;
        answered = subst (λ (run : Run Question). AreReplies run.replies (first.messages ++ second.messages)) (sym whole) replies;
        ends = ap (λ (run : Run Question). run.end) whole ∙ ap (λ (run : Run Question). run.end) (sym from) ∙ second.ends;
      },
      refl,
      ap (λ (run : Run Question). run.state) whole ∙ ap (λ (run : Run Question). run.state) (sym from),
    )

prints_both : (a b c : SinkSeen) (x y : List Reply) → Prints a b (frames_of x) → Prints b c (frames_of y) → Prints a c (frames_of (x ++ y))
prints_both a b c x y first second = subst (Prints a c) (sym (frames_more x y)) (prints_then a b c (frames_of x) (frames_of y) first second)

pub answers_then : (state mid next : State) (a b : List Looked) (old between new : SinkSeen) → AnswersBodies state a mid old between → AnswersBodies mid b next between new → AnswersBodies state (a ++ b) next old new
answers_then state mid next a b old between new first second =
    let w = session_then state mid a b None first.session first.now second.session in
    record {
      session = w.0;
      prints = prints_both old between new first.session.messages second.session.messages first.prints second.prints;
      now = second.now ∙ sym w.2;
    }

pub ends_then : (state mid : State) (a b more : List Looked) (exit : Ending) (old between new : SinkSeen) → AnswersBodies state a mid old between → EndsSession mid b exit between new → EndsSession state (a ++ (b ++ more)) exit old new
ends_then state mid a b more exit old between new first second =
    let over = ended_session b more mid exit second.session.ends in
    let longer : AreAnswered mid (b ++ more) (Some exit) = record {
      messages = second.session.messages;
      answered = subst (λ (run : Run Question). AreReplies run.replies second.session.messages) (sym over) second.session.answered;
      ends = ap (λ (run : Run Question). run.end) over ∙ second.session.ends;
    } in
    let w = session_then state mid a (b ++ more) (Some exit) first.session first.now longer in
    record { session = w.0; prints = prints_both old between new first.session.messages second.session.messages first.prints second.prints }

-- messages to some first bodies that follow bodies
pub are_first : (state mid : State) (a b : List Looked) (old between : SinkSeen) (messages : List Reply) (first : AnswersBodies state a mid old between) → AreReplies (looked_from mid b).replies messages →
    AreReplies (looked_from state (a ++ b)).replies (first.session.messages ++ messages)
are_first state mid a b old between messages first second =
    let r = looked_from state a in
    let whole = more_bodies a b state first.session.ends in
    let from : looked_from mid b ≡ looked_from r.state b = ap (λ (s : State). looked_from s b) first.now in
    let replies : AreReplies (r.replies ++ (looked_from r.state b).replies) (first.session.messages ++ messages) =
    are_more r.replies _ first.session.messages messages first.session.answered (subst (λ (run : Run Question). AreReplies run.replies messages) from second) in
    subst (λ (run : Run Question). AreReplies run.replies (first.session.messages ++ messages)) (sym whole) replies

-- first bodies that are answered whole, and of the next a part
some_then : (state mid : State) (a b more : List Looked) (old between new : SinkSeen) (IsPrinted IsPrintedThen : List ℕ → Type 0) → AnswersBodies state a mid old between → AnswersSome mid b IsPrinted →
    ((x y : List ℕ) → Prints old between x → IsPrinted y → IsPrintedThen (x ++ y)) → AnswersSome state (a ++ (b ++ more)) IsPrintedThen
some_then state mid a b more old between new IsPrinted IsPrintedThen first second joined =
    record {
      first = a ++ second.first;
      later = second.later ++ more;
      split = ap (λ (rest : List Looked). a ++ (rest ++ more)) second.split ∙ ap (λ (rest : List Looked). a ++ rest) (append_assoc second.first second.later more) ∙ sym (append_assoc a second.first (second.later ++ more));
      messages = first.session.messages ++ second.messages;
      answered = are_first state mid a second.first old between second.messages first second.answered;
      prints = subst IsPrintedThen (sym (frames_more first.session.messages second.messages)) (joined (frames_of first.session.messages) (frames_of second.messages) first.prints second.prints);
    }

pub part_then : (state mid : State) (a b more : List Looked) (old between new : SinkSeen) → AnswersBodies state a mid old between → AnswersSome mid b (PrintsPart between new) → AnswersSome state (a ++ (b ++ more)) (PrintsPart old new)
part_then state mid a b more old between new first second =
    some_then state mid a b more old between new (PrintsPart between new) (PrintsPart old new) first second (λ x y p q. part_after old between new x y p q)

pub front_then : (state mid : State) (a b more : List Looked) (old between new : SinkSeen) → AnswersBodies state a mid old between → AnswersSome mid b (PrintsFront between new) → AnswersSome state (a ++ (b ++ more)) (PrintsFront old new)
front_then state mid a b more old between new first second =
    some_then state mid a b more old between new (PrintsFront between new) (PrintsFront old new) first second (λ x y p q. front_after old between new x y p q)

-- ---- the bodies of a piece

pub ends_after : (state mid : State) (a b : List Looked) (exit : Ending) (old between new : SinkSeen) → AnswersBodies state a mid old between → EndsSession mid b exit between new → EndsSession state (a ++ b) exit old new
ends_after state mid a b exit old between new first second =
    subst (λ (rest : List Looked). EndsSession state (a ++ rest) exit old new) (append-nil b) (ends_then state mid a b [] exit old between new first second)

pub part_follows : (state mid : State) (a b : List Looked) (old between new : SinkSeen) → AnswersBodies state a mid old between → AnswersSome mid b (PrintsPart between new) → AnswersSome state (a ++ b) (PrintsPart old new)
part_follows state mid a b old between new first second =
    subst (λ (rest : List Looked). AnswersSome state (a ++ rest) (PrintsPart old new)) (append-nil b) (part_then state mid a b [] old between new first second)

-- ---- quiet bodies

-- where all bodies are quiet no step was counted so far, and the rest is quiet
abbrev pub QuietSoFar : (all rest : List Looked) → (before now : ℕ) → Type 0
QuietSoFar all rest before now = AllByRecursion IsQuietBody all → (now ≡ before) × AllByRecursion IsQuietBody rest

pub quiet_more : (all rest : List Looked) (body : Looked) (before mid now : ℕ) → QuietSoFar all (body ∷ rest) before mid → (IsQuietBody body → now ≡ mid) → QuietSoFar all rest before now
quiet_more all rest body before mid now so one quiet = let h = so quiet in (one h.1.0 ∙ h.0, h.1.1)

-- ---- the loop over bodies

-- the first of these bodies are answered, and the rest isn't
pub record AnsweredSoFar (state : State) (all rest : List Looked) (now : State) (old new : SinkSeen) : Type 0 where
  pub first : List Looked
  pub split : first ++ rest ≡ all
  pub answers : AnswersBodies state first now old new

pub so_far_all : (state now : State) (all : List Looked) (old new : SinkSeen) → AnsweredSoFar state all [] now old new → AnswersBodies state all now old new
so_far_all state now all old new w = subst (λ (bodies : List Looked). AnswersBodies state bodies now old new) (sym (append-nil w.first) ∙ w.split) w.answers

pub so_far_ends : (state mid : State) (all rest : List Looked) (body : Looked) (exit : Ending) (old between new : SinkSeen) → AnsweredSoFar state all (body ∷ rest) mid old between → EndsSession mid (body ∷ []) exit between new → EndsSession state all exit old new
so_far_ends state mid all rest body exit old between new w one =
    subst (λ (bodies : List Looked). EndsSession state bodies exit old new) w.split (ends_then state mid w.first (body ∷ []) rest exit old between new w.answers one)

pub so_far_part : (state mid : State) (all rest : List Looked) (body : Looked) (old between new : SinkSeen) → AnsweredSoFar state all (body ∷ rest) mid old between → AnswersSome mid (body ∷ []) (PrintsPart between new) → AnswersSome state all (PrintsPart old new)
so_far_part state mid all rest body old between new w one =
    subst (λ (bodies : List Looked). AnswersSome state bodies (PrintsPart old new)) w.split (part_then state mid w.first (body ∷ []) rest old between new w.answers one)

pub so_far_front : (state mid : State) (all rest : List Looked) (body : Looked) (old between new : SinkSeen) → AnsweredSoFar state all (body ∷ rest) mid old between → AnswersSome mid (body ∷ []) (PrintsFront between new) → AnswersSome state all (PrintsFront old new)
so_far_front state mid all rest body old between new w one =
    subst (λ (bodies : List Looked). AnswersSome state bodies (PrintsFront old new)) w.split (front_then state mid w.first (body ∷ []) rest old between new w.answers one)

-- memory runs out between two bodies
pub so_far_stops : (state mid : State) (all rest : List Looked) (old new : SinkSeen) → AnsweredSoFar state all rest mid old new → AnswersSome state all (PrintsPart old new)
so_far_stops state mid all rest old new w = record {
  first = w.first;
  later = rest;
  split = sym w.split;
  messages = w.answers.session.messages;
  answered = w.answers.session.answered;
  prints = whole_part old new (frames_of w.answers.session.messages) w.answers.prints;
}
