use Rattle.std.proofs.Common.{refl, [], sym}
use Rattle.lsp_framing.proofs.Stands.{stands_rest}
use Rattle.lsp_framing.proofs.deframer.Deframer.new.Goals as goal

pub returns-clause-start : goal.returns-clause-start
returns-clause-start c =
    let p = c.new.result in record {
      frames = stands_rest [] [] p.state p.header.items p.body.items tt (sym c.new.ensures.empty) c.new.ensures.stands;
      count = refl;
    }
