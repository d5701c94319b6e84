use Rattle.std.proofs.Common.{◌∙◌, ap, [], ◌∷◌}
use Rattle.std.proofs.lemmas.List.{map-append}
use Rattle.lsp_framing.specs.Taken.{contents}
use Rattle.lsp_framing.proofs.Going.{given}
use Rattle.lsp_framing.proofs.partial.Partial.give.Goals as goal

pub returns-in_ok-push : goal.returns-in_ok-push
returns-in_ok-push c =
    let a = c.in-Some.ensures in (
      record { header = c.args.self.now.header.items; body = c.in-Some.body.items } ∷ [],
      given c.args.self.now c.finish.new.self c.in-Some.body.items a.0 a.1 a.2 a.3,
      ap contents c.in_ok-push.ensures.ok ∙ map-append (λ v. v.items) c.args.done.now (c.in-Some.body ∷ []),
    )
