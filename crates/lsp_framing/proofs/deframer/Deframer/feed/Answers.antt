use Rattle.std.proofs.Common.{refl, sym, ap, ◌∙◌, subst, ◌++◌, ◌+◌, length, Ok, Err, Some}
use Rattle.ls_base.specs.Frames.{bodies_of, fault}
use Rattle.lsp_framing.specs.Machine.{kind_of}
use Rattle.lsp_framing.specs.Standing.{kept_bytes}
use Rattle.lsp_framing.specs.Taken.{contents}
use Rattle.lsp_framing.specs.Deframed.{After, end_of}
use Rattle.lsp_framing.specs.declared.deframer.FrameFault.TheVariants as frame_fault
use Rattle.lsp_framing.proofs.FeedLaws.{none_is, fed_taken, fed_wrong, again_reading, again_end, again_fault, again_memory, exact}
use Rattle.lsp_framing.proofs.deframer.Deframer.feed.Goals as goal

pub returns-in-Some-clause-reading : goal.returns-in-Some-clause-reading
returns-in-Some-clause-reading c = again_reading c.in-Some.halt c.self.inside.halt (kept_bytes c.self.inside.partial) c.self.inside.taken c.args.self.now c.args.piece.now c.again.result c.in-Some.is c.self.view_is c.again.ensures

pub returns-in-Some-clause-end : goal.returns-in-Some-clause-end
returns-in-Some-clause-end c = again_end c.in-Some.halt c.self.inside.halt (kept_bytes c.self.inside.partial) c.again.result c.in-Some.is c.again.ensures

pub returns-in-Some-clause-exact : goal.returns-in-Some-clause-exact
returns-in-Some-clause-exact c =
    exact (Err c.again.result) c.args.self.now (record { end = end_of c.self.inside.halt (kept_bytes c.self.inside.partial); taken = c.self.inside.taken + length c.args.piece.now }) c.args.piece.now
    (returns-in-Some-clause-reading c) (returns-in-Some-clause-end c)

pub returns-in-Some-clause-again : goal.returns-in-Some-clause-again
returns-in-Some-clause-again c = λ kind at e. (
  again_fault c.in-Some.halt c.self.inside.halt (kept_bytes c.self.inside.partial) c.self.inside.taken c.args.self.now c.again.result c.in-Some.is c.self.view_is c.again.ensures kind at e,
  ap (λ d. d.end) c.self.view_is,
)

pub returns-in-Some-clause-failed : goal.returns-in-Some-clause-failed
returns-in-Some-clause-failed c = again_memory c.in-Some.halt c.self.inside.halt (kept_bytes c.self.inside.partial) c.self.inside.taken c.args.self.now c.again.result c.in-Some.is c.self.view_is c.again.ensures

pub returns-in-Ok-clause-reading : goal.returns-in-Ok-clause-reading
returns-in-Ok-clause-reading c = λ past bodies a.
    let t = c.in-Ok.ensures in
    fed_taken past c.args.piece.now bodies (contents c.take_in.new.done) c.self.inside.halt c.self.inside.partial c.take_in.new.self c.self.inside.taken t.0
    (subst (After past bodies) (sym c.self.view_is) a) (none_is c.self.inside.halt c.in_default.not-Some) t.1 (t.2 ∙ ap (λ v. contents v ++ bodies_of t.0) c.new-done.ensures)

pub returns-in-Ok-clause-end : goal.returns-in-Ok-clause-end
returns-in-Ok-clause-end c = (kept_bytes c.take_in.new.self, ap (λ h. end_of h (kept_bytes c.take_in.new.self)) (none_is c.self.inside.halt c.in_default.not-Some))

pub returns-in-Ok-clause-exact : goal.returns-in-Ok-clause-exact
returns-in-Ok-clause-exact c =
    exact (Ok c.take_in.new.done) c.args.self.now
    (record { end = end_of c.self.inside.halt (kept_bytes c.take_in.new.self); taken = c.self.inside.taken + length c.args.piece.now }) c.args.piece.now
    (returns-in-Ok-clause-reading c) (returns-in-Ok-clause-end c)

pub returns-in-Err-Wrong-clause-reading : goal.returns-in-Err-Wrong-clause-reading
returns-in-Err-Wrong-clause-reading c = λ past bodies a.
    let t = rw c.in-Err-Wrong.field-0-is at c.in-Err-Wrong.ensures in
    fed_wrong past c.args.piece.now bodies (contents c.take_in.new.done) c.self.inside.halt c.self.inside.partial c.self.inside.taken c.in-Err-Wrong.at c.in-Err-Wrong.wrong t.1
    (subst (After past bodies) (sym c.self.view_is) a) (none_is c.self.inside.halt c.in_default.not-Some) t.0 t.2 (t.3 ∙ ap (λ v. contents v ++ bodies_of t.1) c.new-done.ensures)

pub returns-in-Err-Wrong-clause-exact : goal.returns-in-Err-Wrong-clause-exact
returns-in-Err-Wrong-clause-exact c =
    let offset = c.self.inside.taken + c.in-Err-Wrong.at in
    exact (Err (frame_fault.At c.number.result offset c.take_in.new.done)) c.args.self.now
    (record { end = Some (fault (kind_of c.in-Err-Wrong.wrong) offset); taken = c.self.inside.taken + length c.args.piece.now }) c.args.piece.now
    (returns-in-Err-Wrong-clause-reading c) (kind_of c.in-Err-Wrong.wrong, refl, c.number.ensures)
