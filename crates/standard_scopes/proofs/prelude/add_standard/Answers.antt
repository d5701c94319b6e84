use Rattle.std.proofs.Common.{◌<◌, ℕ, List, Some, length, get_or, refl, ap, ◌∙◌, arith}
use Rattle.unit_scopes.proofs.OutcomeLaws.{names_itself, names_on}
use Rattle.syntax_tree.specs.Meant.{IsSymbol}
use Rattle.standard_scopes.proofs.StandardNames.{adds_none, adds_at}
use Rattle.standard_scopes.proofs.prelude.add_standard.Goals as goal

pub loop-name-init : goal.loop-name-init
loop-name-init c = record { adds = adds_none c.args.work.now.symbols c.args.imports.now.items; trees = refl; names = names_itself c.args.work.now.symbols }

pub loop-name-preserved : goal.loop-name-preserved
loop-name-preserved c =
    let l = c.loop-name in
    let e = c.in_ok-symbol.ensures in
    let same = c.as_slice-name-items.ensures in
    let d = c.name-item.result in
    let low : l.name-index < length c.args.names.now = omega (arith, ap (λ (ss : List (List ℕ)). length ss) same) in
    let is : IsSymbol c.symbol.new.self c.in_ok-symbol.symbol (get_or c.args.names.now l.name-index d) =
    e.ok ∙ ap Some (c.as_str.ensures ∙ (c.name-item.is ∙ ap (λ (ss : List (List ℕ)). get_or ss l.name-index d) same)) in
    record {
      adds = adds_at l.work.symbols c.symbol.new.self e.keeps c.args.imports.now.items l.imports.items c.push.new.self.items c.args.names.now l.name-index d c.in_ok-symbol.symbol l.invariant.adds low is c.in_ok-push.ensures.items;
      trees = l.invariant.trees;
      names = names_on c.args.work.now.symbols l.work.symbols c.symbol.new.self l.invariant.names e.keeps;
    }
