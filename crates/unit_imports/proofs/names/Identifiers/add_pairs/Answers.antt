use Rattle.std.proofs.Common.{◌+◌, ◌++◌, map, take, arith}
use Rattle.scheme_model.specs.Entries.{entry_at}
use Rattle.scheme_model.specs.Live.{entry_use, second_use, pair_uses}
use Rattle.import_sets.specs.Sets.{named, paired}
use Rattle.unit_imports.proofs.GivenLaws.{item_at}
use Rattle.unit_imports.proofs.MeaningLaws.{names_itself, names_on}
use Rattle.unit_imports.proofs.UsedLaws.{adds_as, adds_none, adds_then, finds_kept, finds_listed, pairs_more}
use Rattle.unit_imports.proofs.names.Identifiers.add_pairs.Goals as goal

pub loop-from-init : goal.loop-from-init
loop-from-init c = record { names = names_itself c.args.symbols.now; adds = λ es are. adds_none c.args.symbols.now c.args.self.now }

pub loop-from-preserved : goal.loop-from-preserved
loop-from-preserved c =
    let old = c.args.symbols.now in
    let mid = c.loop-from.symbols in
    let one = c.add_found.new.symbols in
    let new = c.add_second.new.symbols in
    let ps = c.args.pairs.now in
    let i = c.loop-from.from-index in
    let p = c.loop-from-item.result in
    record {
      names = names_on old mid new c.loop-from.invariant.names (names_on mid one new c.in_ok-add_found.ensures.names c.in_ok-add_second.ensures.names);
      adds = λ es are.
          let finds = finds_kept old mid c.loop-from.invariant.names c.args.inner.now (entry_at es) (finds_listed old c.args.inner.now es are) in
          adds_as new c.args.self.now c.add_second.new.self _ (pair_uses es (map paired (take (i + 1) ps))) (pairs_more es ps i p (item_at ps i p (omega arith) c.loop-from-item.is))
          (adds_then mid new (names_on mid one new c.in_ok-add_found.ensures.names c.in_ok-add_second.ensures.names) c.args.self.now c.loop-from.self c.add_second.new.self (pair_uses es (map paired (take i ps)))
          (entry_use (entry_at es p.from.name) (named p.from) ++ second_use (entry_at es p.from.name) (named p.to)) (c.loop-from.invariant.adds es are)
          (adds_then one new c.in_ok-add_second.ensures.names c.loop-from.self c.add_found.new.self c.add_second.new.self (entry_use (entry_at es p.from.name) (named p.from)) (second_use (entry_at es p.from.name) (named p.to))
          (c.in_ok-add_found.ensures.adds (entry_at es) finds) (c.in_ok-add_second.ensures.adds (entry_at es) (finds_kept mid one c.in_ok-add_found.ensures.names c.args.inner.now (entry_at es) finds))));
    }
