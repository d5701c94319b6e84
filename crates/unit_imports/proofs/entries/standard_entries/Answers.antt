use Rattle.std.proofs.Common.{List, ℕ, [], sym, subst, arith}
use Rattle.scheme_model.specs.Program.{standard_entry}
use Rattle.syntax_tree.specs.Meant.{AreEntries, IsEntry}
use Rattle.syntax_tree.specs.declared.units.Entry.{Entry}
use Rattle.unit_imports.proofs.MeaningLaws.{names_itself, names_on, standard_more}
use Rattle.unit_imports.proofs.entries.standard_entries.Goals as goal

pub loop-name-init : goal.loop-name-init
loop-name-init c = record { names = names_itself c.args.symbols.now; entries = subst (λ (es : List Entry). AreEntries c.args.symbols.now es []) (sym c.new-entries.ensures) tt }

pub loop-name-preserved : goal.loop-name-preserved
loop-name-preserved c =
    let new = c.standard_entry.new.symbols in
    let e = c.in_ok-standard_entry.field-0 in
    record {
      names = names_on c.args.symbols.now c.loop-name.symbols new c.loop-name.invariant.names c.in_ok-standard_entry.ensures.names;
      entries =
          standard_more c.loop-name.symbols new c.loop-name.entries c.push.new.self e c.args.names.now c.loop-name.name-index c.name-item.result (omega arith) c.name-item.is c.in_ok-standard_entry.ensures.names c.loop-name.invariant.entries
          (subst (λ (t : List ℕ). IsEntry new e (standard_entry t)) c.as_str.ensures c.in_ok-standard_entry.ensures.entry) c.in_ok-push.ensures.ok;
    }
