use Rattle.std.proofs.Common.{Option, Some, ap, ◌∙◌}
use Rattle.scheme_model.specs.Entries.{Entry}
use Rattle.scheme_model.specs.Live.{meaning_or}
use Rattle.syntax_tree.specs.Meant.{IsGivenMeaning}
use Rattle.syntax_tree.specs.declared.meaning.Meaning.TheVariants as code
use Rattle.unit_imports.proofs.UsedLaws.{found_adds, missing_adds}
use Rattle.unit_imports.proofs.names.meaning_of.Goals as goal

pub returns-in-Some-clause-means : goal.returns-in-Some-clause-means
returns-in-Some-clause-means c = λ find finds.
    found_adds c.args.symbols.now c.args.found.entries.now find finds c.args.name.now.name _ c.as_str.ensures _ c.in-Some.ensures
    (λ (o : Option Entry). IsGivenMeaning c.args.symbols.now c.in-Some.entry.now.meaning (meaning_or o c.args.name.now.name)) (λ d is. is.meaning)

pub returns-in_ok-symbol-in-None-clause-means : goal.returns-in_ok-symbol-in-None-clause-means
returns-in_ok-symbol-in-None-clause-means c = λ find finds.
    missing_adds c.args.symbols.now c.args.found.entries.now find finds c.args.name.now.name _ c.as_str.ensures c.in-None.ensures
    (λ (o : Option Entry). IsGivenMeaning c.symbol.new.self (code.Free c.in_ok-symbol-in-None.field-0) (meaning_or o c.args.name.now.name))
    (λ unit form. c.in_ok-symbol-in-None.ensures.ok ∙ ap Some c.as_str-in-None.ensures)
