use Rattle.std.proofs.Common.{◌∙◌, true, arith}
use Rattle.std.specs.String.{string_bytes}
use Rattle.std.specs.HashSet.{contains_text}
use Rattle.std.proofs.lemmas.Map.Text.{hash_set_updates_text}
use Rattle.syntax_tree.specs.declared.units.Entry.{Entry}
use Rattle.import_sets.proofs.NameLaws.{names_more}
use Rattle.import_sets.proofs.names.names_of.Goals as goal

pub loop-entry-preserved : goal.loop-entry-preserved
loop-entry-preserved c = λ s.
    let key = string_bytes c.in_ok-from_str.field-0 in
    names_more (λ (e : Entry). e.name) c.args.entries.now c.loop-entry.entry-index c.entry-item.result key s (contains_text c.loop-entry.names s) (contains_text c.insert.new.self s)
    (omega arith) c.entry-item.is (c.in_ok-from_str.ensures.ok ∙ c.as_str.ensures) (c.loop-entry.invariant s)
    (hash_set_updates_text key c.loop-entry.names c.insert.new.self true c.in_ok-insert.ensures.updates s)
