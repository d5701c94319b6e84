use Rattle.std.proofs.Common.{◌<◌, map, length, sym, ap, ◌∙◌, arith}
use Rattle.syntax_tree.specs.Names.{with_ident}
use Rattle.syntax_tree.specs.Numbered.{ident_of}
use Rattle.syntax_tree.proofs.Places.{get_within}
use Rattle.renumbering_laws.specs.Renumbering.{ident}
use Rattle.moves.specs.Numbers.{numbers_of}
use Rattle.moves.proofs.Copies.{next_ident}
use Rattle.moves.proofs.EntryLaws.{new_at, entry_there}
use Rattle.moves.proofs.works.add_idents.Goals as goal

pub loop-id-preserved : goal.loop-id-preserved
loop-id-preserved c =
    let r = numbers_of c.args.moves.now in
    let names = c.args.from.now in
    let front = c.loop-id.to in
    let n = c.loop-id.id in
    let lt : n < length names.idents = omega (arith, c.ident_count-id-end.ensures) in
    let p = get_within names.idents n lt in
    let there = entry_there r names front n p.0 c.told_apart.ensures.idents c.in_order.ensures c.loop-id.invariant p.1 c.ident_at.result (sym c.ident_at.ensures.ident ∙ p.1) in
    let new = c.in_ok-ident.ensures.idents (ident r p.0) (ap (ident_of front) c.entry.ensures ∙ there.0) in
    let at = new_at r names front n p.0 c.told_apart.ensures.idents c.in_order.ensures c.loop-id.invariant p.1 in
    record {
      symbols = c.in_ok-ident.ensures.symbols ∙ c.loop-id.invariant.symbols;
      idents = new ∙ ap (λ l. with_ident l (ident r p.0)) c.loop-id.invariant.idents ∙ next_ident (map (ident r) names.idents) n (ident r p.0) c.requires.apart at;
    }
