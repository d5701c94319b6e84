-- A stream has one output, and messages that begin it are its front.
use Rattle.std.proofs.Common.{◌≡◌, ℕ, List, [], ◌++◌, refl, sym, ap, ◌∙◌, subst, append_assoc, append-nil, Option, Some, None, inl, inr}
use Rattle.std.specs.FinMap.{empty}
use Rattle.std.proofs.lemmas.List.{map-append}
use Rattle.lsp_framing.proofs.OneReading.{one_reading}
use Rattle.lsp_messages.specs.declared.reply.Reply.{Reply}
use Rattle.lookahead.specs.Looked.{Looked, looked, uncancelled}
use Rattle.lookahead.specs.declared.looking.Looking.{Looking}
use Rattle.lookahead.specs.declared.looking.Looking.TheVariants.{OneByOne}
use Rattle.lookahead.proofs.OneCompletion.{only_completion}
use Rattle.scheme_model.specs.Session.{Ending, Run, begin}
use Rattle.session_replies.specs.ToWire.{AreReplies}
use Rattle.session_replies.specs.Asked.{Question}
use Rattle.session_replies.proofs.OneAnswer.{one_replies}
use Rattle.session_serving.specs.AheadOutput.{BeginBy, IsOutputBy, looked_from, looked_over}
use Rattle.session_serving.specs.SessionOutput.{BeginOutput, IsOutputOf, Output, farewell, session_over, written}
use Rattle.session_serving.proofs.Sessions.{are_split, ended_session, more_bodies, uncancelled_session}

-- the answers to bodies begin with those to the first of them
front_of_replies : (first later : List Looked) (x z : List Reply) (end : Option Ending) → (looked_from (begin empty) first).end ≡ end → AreReplies (looked_from (begin empty) first).replies x → AreReplies (looked_from (begin empty) (first ++ later)).replies z →
    (rest : List Reply) × (z ≡ x ++ rest)
front_of_replies first later x z None going answered all =
    let run = looked_from (begin empty) first in
    let more = more_bodies first later (begin empty) going in
    let w = are_split run.replies _ z (subst (λ (r : Run Question). AreReplies r.replies z) more all) in
    (w.1, w.2 ∙ ap (λ (front : List Reply). front ++ w.1) (one_replies run.replies w.0 x w.3 answered))
front_of_replies first later x z (Some exit) ended answered all =
    let over = ended_session first later (begin empty) exit ended in
    ([], one_replies (looked_from (begin empty) first).replies z x (subst (λ (run : Run Question). AreReplies run.replies z) over all) answered ∙ sym (append-nil x))

-- so does all that is written
front_written : (messages : List Reply) (output : Output) → (rest : List Reply) × (output.messages ≡ messages ++ rest) → (rest : List Reply) × (written output ≡ messages ++ rest)
front_written messages output w =
    (w.0 ++ farewell output.exit output.end, ap (λ (all : List Reply). all ++ farewell output.exit output.end) w.1 ∙ append_assoc messages w.0 (farewell output.exit output.end))

-- ---- of bytes

one_bodies : (bytes : List ℕ) (a b : Output) (h : IsOutputOf bytes a) (k : IsOutputOf bytes b) → (h.bodies ≡ k.bodies) × (a.end ≡ b.end)
one_bodies bytes a b h k = one_reading bytes h.bodies k.bodies a.end b.end h.frames k.frames

pub one_output : (bytes : List ℕ) (a b : Output) → IsOutputOf bytes a → IsOutputOf bytes b → a ≡ b
one_output bytes a b h k =
    let same = one_bodies bytes a b h k in
    let messages : a.messages ≡ b.messages = one_replies (session_over h.bodies).replies a.messages b.messages h.answered
    (subst (λ (bodies : List (List ℕ)). AreReplies (session_over bodies).replies b.messages) (sym same.0) k.answered) in
    let exit : a.exit ≡ b.exit = h.exits ∙ ap (λ (bodies : List (List ℕ)). (session_over bodies).end) same.0 ∙ sym k.exits in
    λ j. record { messages = messages j; exit = exit j; end = same.1 j }

pub front_of_output : (bytes : List ℕ) (messages : List Reply) (output : Output) → BeginOutput bytes messages → IsOutputOf bytes output → (rest : List Reply) × (written output ≡ messages ++ rest)
front_of_output bytes messages output (inl first) is =
    let same = one_reading bytes is.bodies (first.bodies ++ first.later) output.end first.end is.frames first.frames in
    let all : session_over is.bodies ≡ looked_from (begin empty) (looked OneByOne first.bodies ++ looked OneByOne first.later) =
    ap session_over same.0 ∙ uncancelled_session (first.bodies ++ first.later) (begin empty) ∙ ap (looked_from (begin empty)) (map-append uncancelled first.bodies first.later) in
    front_written messages output
    (front_of_replies (looked OneByOne first.bodies) (looked OneByOne first.later) messages output.messages (looked_from (begin empty) (looked OneByOne first.bodies)).end refl
    (subst (λ (run : Run Question). AreReplies run.replies messages) (uncancelled_session first.bodies (begin empty)) first.answered)
    (subst (λ (run : Run Question). AreReplies run.replies output.messages) all is.answered))
front_of_output bytes messages output (inr whole) is =
    ([], ap written (one_output bytes output whole.0 is whole.1) ∙ sym whole.2 ∙ sym (append-nil messages))

-- ---- of pieces

pub one_output_by : (looking : Looking) (pieces : List (List ℕ)) (a b : Output) → IsOutputBy looking pieces a → IsOutputBy looking pieces b → a ≡ b
one_output_by looking pieces a b h k =
    let same = only_completion pieces [] [] h.given k.given a.end b.end h.complete k.complete in
    let messages : a.messages ≡ b.messages = one_replies (looked_over looking h.given).replies a.messages b.messages h.answered
    (subst (λ (given : List (List (List ℕ))). AreReplies (looked_over looking given).replies b.messages) (sym same.0) k.answered) in
    let exit : a.exit ≡ b.exit = h.exits ∙ ap (λ (given : List (List (List ℕ))). (looked_over looking given).end) same.0 ∙ sym k.exits in
    λ j. record { messages = messages j; exit = exit j; end = same.1 j }

pub front_of_output_by : (looking : Looking) (pieces : List (List ℕ)) (messages : List Reply) (output : Output) → BeginBy looking pieces messages → IsOutputBy looking pieces output → (rest : List Reply) × (written output ≡ messages ++ rest)
front_of_output_by looking pieces messages output (inl a) is =
    let same = only_completion pieces [] [] is.given a.given output.end a.end is.complete a.complete in
    let all : looked_over looking is.given ≡ looked_from (begin empty) (a.first ++ a.later) = ap (looked_over looking) same.0 ∙ ap (looked_from (begin empty)) a.split in
    front_written messages output
    (front_of_replies a.first a.later messages output.messages (looked_from (begin empty) a.first).end refl a.answered (subst (λ (run : Run Question). AreReplies run.replies output.messages) all is.answered))
front_of_output_by looking pieces messages output (inr whole) is =
    ([], ap written (one_output_by looking pieces output whole.0 is whole.1) ∙ sym whole.2 ∙ sym (append-nil messages))
