use Rattle.std.proofs.Common.{List, ℕ, ◌∙◌, ap, sym, subst}
use Rattle.ls_base.specs.Frames.{IsFrameOf}
use Rattle.lsp_framing.proofs.Written.{put_together, written_frame}
use Rattle.lsp_framing.proofs.writing.frame.Goals as goal

pub returns-clause-written : goal.returns-clause-written
returns-clause-written c =
    let head = ap (λ v. v.items) c.into_bytes-bytes.ensures.value ∙ c.in_ok-format.ensures.ok in
    c.in_ok-extend_from_slice.ensures.items ∙ put_together c.args.body.now c.into_bytes-bytes.result.items head

pub returns-clause-frame : goal.returns-clause-frame
returns-clause-frame c = λ h. subst (λ (q : List ℕ). IsFrameOf q c.args.body.now) (sym (returns-clause-written c)) (written_frame c.args.body.now h)
