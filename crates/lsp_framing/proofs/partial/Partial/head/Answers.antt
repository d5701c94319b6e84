use Rattle.std.proofs.Common.{◌≡◌, ℕ, sym, ap, ◌∙◌, arith, length}
use Rattle.lsp_framing.specs.Machine.{next}
use Rattle.lsp_framing.proofs.Stands.{header_more}
use Rattle.lsp_framing.proofs.partial.Partial.head.Goals as goal

pub returns-in_ok-push-in-Ok-clause-open : goal.returns-in_ok-push-in-Ok-clause-open
returns-in_ok-push-in-Ok-clause-open c =
    let size : length c.args.self.now.header.items ≡ c.len.result = omega arith in
    rw c.in_ok-push-in-Ok.ensures.items (header_more c.args.place c.in-Ok.state c.args.self.now.header.items c.args.self.now.body.items c.args.byte c.requires
    (ap (λ (n : ℕ). next c.args.place n c.args.byte) size ∙ sym c.in-Ok.ensures))
