use Rattle.std.proofs.Common.{◌≡◌, ◌≤◌, List, ℕ, suc, [], ◌∷◌, length, Option, Some, None, refl, sym, ap, ◌∙◌, subst, arith}
use Rattle.lookahead.specs.Looked.{Gives, Looked}
use Rattle.lookahead.specs.declared.window.Next.{Next}
use Rattle.scheme_model.specs.Session.{State}
use Rattle.command_output.specs.Prints.{SinkSeen, sink_seen}
use Rattle.session_serving.specs.SessionEnds.{said_exit}
use Rattle.session_serving.proofs.AnswerLaws.{QuietSoFar, quiet_more, so_far_all, so_far_ends, so_far_front, so_far_part, so_far_stops}
use Rattle.session_serving.proofs.CountLaws.{CountedSoFar, counted_all, counted_ends, counted_more, counted_none, counted_some}
use Rattle.session_serving.proofs.answering.answer_bodies.Given.{Over}
use Rattle.session_serving.proofs.answering.answer_bodies.Goals as goal
use Rattle.session_serving.proofs.answering.answer_bodies.Goals.{After-answer_body}

-- the first of those that are left is given out
given_some : (left : List Looked) (next : Next) (rest : List Looked) (bytes : List ℕ) → bytes ≡ next.body.items → Gives left (Some next) rest → left ≡ (bytes, next.cancelled) ∷ rest
given_some [] next rest bytes is gives = absurd gives
given_some (first ∷ later) next rest bytes is gives = λ j. (sym gives.0 ∙ λ k. (sym is k, next.cancelled)) j ∷ sym gives.1 j

given : (left : List Looked) (found : Option Next) (next : Next) (rest : List Looked) (bytes : List ℕ) → found ≡ Some next → bytes ≡ next.body.items → Gives left found rest → left ≡ (bytes, next.cancelled) ∷ rest
given left found next rest bytes some is gives = given_some left next rest bytes is (subst (λ (f : Option Next). Gives left f rest) some gives)

-- none is left
given_none : (left rest : List Looked) → Gives left None rest → left ≡ []
given_none [] rest gives = refl
given_none (first ∷ later) rest gives = absurd gives

none_given : (left : List Looked) (found : Option Next) (rest : List Looked) → found ≡ None → Gives left found rest → left ≡ []
none_given left found rest none gives = given_none left rest (subst (λ (f : Option Next). Gives left f rest) none gives)

pub loop-body-init : goal.loop-body-init
loop-body-init g c = record { answered = counted_none _ _ _ _; quiet = λ q. (refl, q) }

-- ---- a body that was given out and answered

-- what was written when the first of the bodies was given out, and before this one
abbrev old : (g : Over) → After-answer_body g → SinkSeen
old g c = sink_seen (g.O.Sink.taken c.args.output.now) (g.O.Sink.faults c.args.output.now) (g.O.Sink.writes c.args.output.now)

abbrev mid : (g : Over) → After-answer_body g → SinkSeen
mid g c = sink_seen (g.O.Sink.taken c.loop-body.output) (g.O.Sink.faults c.loop-body.output) (g.O.Sink.writes c.loop-body.output)

abbrev body : (g : Over) → After-answer_body g → Looked
body g c = (c.deref.result.now, c.in-Ok-Some.field-0-0.cancelled)

left : (g : Over) (c : After-answer_body g) → c.loop-body.bodies ≡ body g c ∷ c.next.new.self
left g c = given c.loop-body.bodies _ c.in-Ok-Some.field-0-0 c.next.new.self c.deref.result.now c.in-Ok-Some.field-0-is c.deref.ensures.value c.in-Ok-Some.ensures

answered : (g : Over) (c : After-answer_body g) → CountedSoFar c.args.session.now c.args.bodies (body g c ∷ c.next.new.self) c.loop-body.session (old g c) (mid g c) c.args.steps.now c.loop-body.steps
answered g c = subst (λ (rest : List Looked). CountedSoFar c.args.session.now c.args.bodies rest c.loop-body.session (old g c) (mid g c) c.args.steps.now c.loop-body.steps) (left g c) c.loop-body.invariant.answered

quiet : (g : Over) (c : After-answer_body g) → QuietSoFar c.args.bodies (body g c ∷ c.next.new.self) c.args.steps.now c.loop-body.steps
quiet g c = subst (λ (rest : List Looked). QuietSoFar c.args.bodies rest c.args.steps.now c.loop-body.steps) (left g c) c.loop-body.invariant.quiet

pub loop-body-preserved : goal.loop-body-preserved
loop-body-preserved g c =
    let k = (goal.at.loop-body-preserved g c).After-answer_body in
    record {
      answered = counted_more _ _ _ _ _ (body g k) _ _ _ _ _ _ (answered g k) c.in-Answered.ensures.answers c.in-Answered.ensures.counted;
      quiet = quiet_more _ _ (body g k) _ _ _ (quiet g k) c.in-Answered.ensures.steps;
    }

fewer : (left rest : List Looked) (body : Looked) → left ≡ body ∷ rest → suc (length rest) ≤ length left
fewer left rest body same = let l = ap length same in omega arith

pub loop-body-smaller : goal.loop-body-smaller
loop-body-smaller g c = fewer _ _ _ (left g (goal.at.loop-body-smaller g c).After-answer_body)

pub returns-in-Exited-clause-answers : goal.returns-in-Exited-clause-answers
returns-in-Exited-clause-answers g c =
    let k = (goal.at.returns-in-Exited-clause-answers g c).After-answer_body in
    so_far_ends _ _ _ _ (body g k) (said_exit c.in-Exited.exit) _ _ _ (answered g k).so_far c.in-Exited.ensures.answers

pub returns-in-WriteFailed-clause-answers : goal.returns-in-WriteFailed-clause-answers
returns-in-WriteFailed-clause-answers g c =
    let k = (goal.at.returns-in-WriteFailed-clause-answers g c).After-answer_body in
    so_far_front _ _ _ _ (body g k) _ _ _ (answered g k).so_far c.in-WriteFailed.ensures.answers

pub returns-in-NoMemory-clause-answers : goal.returns-in-NoMemory-clause-answers
returns-in-NoMemory-clause-answers g c =
    let k = (goal.at.returns-in-NoMemory-clause-answers g c).After-answer_body in
    so_far_part _ _ _ _ (body g k) _ _ _ (answered g k).so_far c.in-NoMemory.ensures.answers

pub returns-in-Exited-clause-steps : goal.returns-in-Exited-clause-steps
returns-in-Exited-clause-steps g c = let k = (goal.at.returns-in-Exited-clause-steps g c).After-answer_body in λ q. (quiet_more _ _ (body g k) _ _ _ (quiet g k) c.in-Exited.ensures.steps q).0

pub returns-in-WriteFailed-clause-steps : goal.returns-in-WriteFailed-clause-steps
returns-in-WriteFailed-clause-steps g c = let k = (goal.at.returns-in-WriteFailed-clause-steps g c).After-answer_body in λ q. (quiet_more _ _ (body g k) _ _ _ (quiet g k) c.in-WriteFailed.ensures.steps q).0

pub returns-in-NoMemory-clause-steps : goal.returns-in-NoMemory-clause-steps
returns-in-NoMemory-clause-steps g c = let k = (goal.at.returns-in-NoMemory-clause-steps g c).After-answer_body in λ q. (quiet_more _ _ (body g k) _ _ _ (quiet g k) c.in-NoMemory.ensures.steps q).0

pub returns-in-Exited-clause-counted : goal.returns-in-Exited-clause-counted
returns-in-Exited-clause-counted g c =
    let k = (goal.at.returns-in-Exited-clause-counted g c).After-answer_body in
    counted_ends _ _ _ _ (body g k) c.in-Exited.exit _ _ _ _ _ _ (answered g k) c.in-Exited.ensures.answers c.in-Exited.ensures.counted

pub returns-in-WriteFailed-clause-counted : goal.returns-in-WriteFailed-clause-counted
returns-in-WriteFailed-clause-counted g c =
    let k = (goal.at.returns-in-WriteFailed-clause-counted g c).After-answer_body in
    counted_some _ _ _ _ (body g k) _ _ _ _ _ _ (answered g k) c.in-WriteFailed.ensures.counted

-- ---- no body more

over : {state now : State} {all left : List Looked} {old new : SinkSeen} {before steps : ℕ} → left ≡ [] → CountedSoFar state all left now old new before steps → CountedSoFar state all [] now old new before steps
over {state = state} {now = now} {all = all} {old = old} {new = new} {before = before} {steps = steps} none w = subst (λ (rest : List Looked). CountedSoFar state all rest now old new before steps) none w

pub returns-in-Ok-None-clause-answers : goal.returns-in-Ok-None-clause-answers
returns-in-Ok-None-clause-answers g c = so_far_all _ _ _ _ _ (over (none_given c.loop-body.bodies _ c.next.new.self c.in-Ok-None.field-0-is c.in-Ok-None.ensures) c.loop-body.invariant.answered).so_far

pub returns-in-Ok-None-clause-steps : goal.returns-in-Ok-None-clause-steps
returns-in-Ok-None-clause-steps g c = λ q. (c.loop-body.invariant.quiet q).0

pub returns-in-Ok-None-clause-counted : goal.returns-in-Ok-None-clause-counted
returns-in-Ok-None-clause-counted g c = counted_all _ _ _ _ _ _ _ (over (none_given c.loop-body.bodies _ c.next.new.self c.in-Ok-None.field-0-is c.in-Ok-None.ensures) c.loop-body.invariant.answered)

pub returns-in-Err-clause-answers : goal.returns-in-Err-clause-answers
returns-in-Err-clause-answers g c = so_far_stops _ _ _ _ _ _ c.loop-body.invariant.answered.so_far

pub returns-in-Err-clause-steps : goal.returns-in-Err-clause-steps
returns-in-Err-clause-steps g c = λ q. (c.loop-body.invariant.quiet q).0
