use Rattle.std.proofs.Common.{◌+◌, map, take, arith}
use Rattle.scheme_model.specs.Entries.{entry_at}
use Rattle.scheme_model.specs.Live.{entry_use, listed_uses}
use Rattle.import_sets.specs.Sets.{named}
use Rattle.unit_imports.proofs.GivenLaws.{item_at}
use Rattle.unit_imports.proofs.MeaningLaws.{names_itself, names_on}
use Rattle.unit_imports.proofs.UsedLaws.{adds_as, adds_none, adds_then, finds_kept, finds_listed, listed_more}
use Rattle.unit_imports.proofs.names.Identifiers.add_listed.Goals as goal

pub loop-name-init : goal.loop-name-init
loop-name-init c = record { names = names_itself c.args.symbols.now; adds = λ es are. adds_none c.args.symbols.now c.args.self.now }

pub loop-name-preserved : goal.loop-name-preserved
loop-name-preserved c =
    let old = c.args.symbols.now in
    let mid = c.loop-name.symbols in
    let new = c.add_found.new.symbols in
    let ns = c.args.names.now in
    let i = c.loop-name.name-index in
    let n = c.name-item.result in
    record {
      names = names_on old mid new c.loop-name.invariant.names c.in_ok-add_found.ensures.names;
      adds = λ es are.
          adds_as new c.args.self.now c.add_found.new.self _ (listed_uses es (map named (take (i + 1) ns))) (listed_more es ns i n (item_at ns i n (omega arith) c.name-item.is))
          (adds_then mid new c.in_ok-add_found.ensures.names c.args.self.now c.loop-name.self c.add_found.new.self (listed_uses es (map named (take i ns))) (entry_use (entry_at es n.name) (named n)) (c.loop-name.invariant.adds es are)
          (c.in_ok-add_found.ensures.adds (entry_at es) (finds_kept old mid c.loop-name.invariant.names c.args.inner.now (entry_at es) (finds_listed old c.args.inner.now es are))));
    }
