-- Bytes written one after another.
use Rattle.std.proofs.Common.{◌≡◌, ℕ, suc, ◌+◌, ◌≤◌, List, [], ◌∷◌, ◌++◌, length, take, refl, sym, ap, ◌∙◌, append_assoc, append-nil, arith, length-append, subst}
use Rattle.std.proofs.KnownBytes.{Appends-nil, Appends-trans}
use Rattle.std.specs.Io.KnownBytes.{Appends}
use Rattle.std.proofs.lemmas.List.{take-append-le, take_all}
use Rattle.ls_outside.specs.Calls.{AllTake, LastTakesNone}
use Rattle.ls_outside.specs.Counts.{Fails}
use Rattle.ls_outside.proofs.CallLaws.{last_then, take_none, take_then}
use Rattle.lsp_messages.specs.declared.reply.Reply.{Reply}
use Rattle.std.specs.Prelude.{Err}
use Rattle.reply_writing.specs.declared.replies.WriteStop.{WriteStop}
use Rattle.reply_writing.specs.declared.replies.WriteStop.TheVariants as stop
use Rattle.command_output.specs.Prints.{SinkSeen, Prints, PrintsPart, PrintsFront}
use Rattle.reply_writing.specs.Writing.{WritingEndsAs}
use Rattle.reply_writing.specs.ReplyFrames.{frame_of_reply, frames_of}

-- a front of what comes second is a longer front of both
pub take_second : (first second : List ℕ) (count : ℕ) → take (length first + count) (first ++ second) ≡ first ++ take count second
take_second [] second count = ap (λ (n : ℕ). take n second) (omega arith)
take_second (x ∷ first) second count =
    let e : length (x ∷ first) + count ≡ suc (length first + count) = omega arith in
    rw e (ap (λ (rest : List ℕ). x ∷ rest) (take_second first second count))

-- a front of what comes first is a front of both
pub take_first : (first second : List ℕ) (count : ℕ) → count ≤ length first → take count (first ++ second) ≡ take count first
take_first first second count within = rw take-append-le refl

pub second_front : (x y z : List ℕ) (count : ℕ) → count ≤ length y → take (length x + count) (x ++ (y ++ z)) ≡ x ++ take count y
second_front x y z count within = take_second x (y ++ z) count ∙ ap (λ (rest : List ℕ). x ++ rest) (take_first y z count within)

-- nothing is printed
pub prints_nothing : (a : SinkSeen) → Prints a a []
prints_nothing a = record { printed = Appends-nil a.taken; no_fault = refl; calls = take_none a.writes }

-- all of a print is a part of it
pub whole_part : (a b : SinkSeen) (x : List ℕ) → Prints a b x → PrintsPart a b x
whole_part a b x p =
    let all = sym (take_all (length x) x (omega arith)) in
    record { count = length x; part = omega arith; printed = subst (Appends a.taken b.taken) all p.printed; no_fault = p.no_fault; calls = subst (AllTake a.writes b.writes) all p.calls }

-- memory runs out before anything is printed
pub nothing_printed : (a : SinkSeen) (output : List ℕ) → PrintsPart a a output
nothing_printed a output = record { count = 0; part = omega arith; printed = Appends-nil a.taken; no_fault = refl; calls = take_none a.writes }

pub prints_then : (a b c : SinkSeen) (x y : List ℕ) → Prints a b x → Prints b c y → Prints a c (x ++ y)
prints_then a b c x y first second = record { printed = Appends-trans a.taken b.taken c.taken x y first.printed second.printed; no_fault = second.no_fault ∙ first.no_fault; calls = take_then a.writes b.writes c.writes x y first.calls second.calls }

pub prints_then_part : (a b c : SinkSeen) (x y z : List ℕ) → Prints a b x → PrintsPart b c y → PrintsPart a c (x ++ (y ++ z))
prints_then_part a b c x y z first second = record {
  count = length x + second.count;
  part = omega (arith, second.part, length-append {A = ℕ});
  printed = subst (Appends a.taken c.taken) (sym (second_front x y z second.count second.part)) (Appends-trans a.taken b.taken c.taken _ _ first.printed second.printed);
  no_fault = second.no_fault ∙ first.no_fault;
  calls = subst (AllTake a.writes c.writes) (sym (second_front x y z second.count second.part)) (take_then a.writes b.writes c.writes x (take second.count y) first.calls second.calls);
}

abbrev pub prints_then_front : (a b c : SinkSeen) (x y z : List ℕ) → Prints a b x → PrintsFront b c y → PrintsFront a c (x ++ (y ++ z))
prints_then_front a b c x y z first second = record {
  count = length x + second.count;
  part = omega (arith, second.part, length-append {A = ℕ});
  printed =
      let within : second.count ≤ length y = omega (arith, second.part) in
      subst (Appends a.taken c.taken) (sym (second_front x y z second.count within)) (Appends-trans a.taken b.taken c.taken _ _ first.printed second.printed);
  failed = subst (λ (n : ℕ). Fails n c.faults) first.no_fault second.failed;
  calls =
      let within : second.count ≤ length y = omega (arith, second.part) in
      subst (LastTakesNone a.writes c.writes) (sym (second_front x y z second.count within)) (last_then a.writes b.writes c.writes x (take second.count y) [] first.calls second.calls);
}

-- the frames of the first of these replies are written, and those of the rest aren't
pub record WroteFirst (old new : SinkSeen) (replies rest : List Reply) : Type 0 where
  pub done : List ℕ
  pub prints : Prints old new done
  pub split : done ++ frames_of rest ≡ frames_of replies

-- no reply is written yet
pub wrote_none : (a : SinkSeen) (replies : List Reply) → WroteFirst a a replies replies
wrote_none a replies = record { done = []; prints = prints_nothing a; split = refl }

-- one reply more
pub wrote_more : (old mid new : SinkSeen) (replies rest : List Reply) (reply : Reply) → WroteFirst old mid replies (reply ∷ rest) → Prints mid new (frame_of_reply reply) → WroteFirst old new replies rest
wrote_more old mid new replies rest reply w p = record {
  done = w.done ++ frame_of_reply reply;
  prints = prints_then old mid new w.done (frame_of_reply reply) w.prints p;
  split = append_assoc w.done (frame_of_reply reply) (frames_of rest) ∙ w.split;
}

-- no reply is left
pub wrote_all : (a b : SinkSeen) (replies rest : List Reply) → WroteFirst a b replies rest → rest ≡ [] → Prints a b (frames_of replies)
wrote_all a b replies rest w none = subst (Prints a b) (sym (append-nil w.done) ∙ ap (λ (r : List Reply). w.done ++ frames_of r) (sym none) ∙ w.split) w.prints

-- what was printed where writing stops
abbrev pub PrintsStop : SinkSeen → SinkSeen → List ℕ → WriteStop → Type 0
PrintsStop old new output stop.Failed = PrintsFront old new output
PrintsStop old new output stop.Memory = PrintsPart old new output

-- writing stops within a reply
pub wrote_some : (old mid new : SinkSeen) (replies rest : List Reply) (reply : Reply) (stopped : WriteStop) → WroteFirst old mid replies (reply ∷ rest) → PrintsStop mid new (frame_of_reply reply) stopped → PrintsStop old new (frames_of replies) stopped
wrote_some old mid new replies rest reply stop.Failed w ends =
    subst (PrintsFront old new) w.split (prints_then_front old mid new w.done (frame_of_reply reply) (frames_of rest) w.prints ends)
wrote_some old mid new replies rest reply stop.Memory w ends =
    subst (PrintsPart old new) w.split (prints_then_part old mid new w.done (frame_of_reply reply) (frames_of rest) w.prints ends)

-- an answer that says why writing stopped
pub stop_of : (old new : SinkSeen) (output : List ℕ) (stopped : WriteStop) → WritingEndsAs old new output (Err stopped) → PrintsStop old new output stopped
stop_of old new output stop.Failed ends = ends
stop_of old new output stop.Memory ends = ends

pub stop_as : (old new : SinkSeen) (output : List ℕ) (stopped : WriteStop) → PrintsStop old new output stopped → WritingEndsAs old new output (Err stopped)
stop_as old new output stop.Failed ends = ends
stop_as old new output stop.Memory ends = ends

-- nothing comes after what was printed
pub part_after : (a b c : SinkSeen) (x y : List ℕ) → Prints a b x → PrintsPart b c y → PrintsPart a c (x ++ y)
part_after a b c x y first second = subst (λ (all : List ℕ). PrintsPart a c (x ++ all)) (append-nil y) (prints_then_part a b c x y [] first second)

pub front_after : (a b c : SinkSeen) (x y : List ℕ) → Prints a b x → PrintsFront b c y → PrintsFront a c (x ++ y)
front_after a b c x y first second = subst (λ (all : List ℕ). PrintsFront a c (x ++ all)) (append-nil y) (prints_then_front a b c x y [] first second)
