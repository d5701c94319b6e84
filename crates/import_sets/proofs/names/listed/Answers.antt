use Rattle.std.proofs.Common.{◌∙◌, true, arith}
use Rattle.std.specs.String.{string_bytes}
use Rattle.std.specs.HashSet.{contains_text}
use Rattle.std.proofs.lemmas.Map.Text.{hash_set_updates_text}
use Rattle.import_sets.specs.declared.set.SetName.{SetName}
use Rattle.import_sets.proofs.NameLaws.{names_more}
use Rattle.import_sets.proofs.names.listed.Goals as goal

pub loop-name-preserved : goal.loop-name-preserved
loop-name-preserved c = λ s.
    let key = string_bytes c.in_ok-from_str.field-0 in
    names_more (λ (n : SetName). n.name) c.args.names.now c.loop-name.name-index c.name-item.result key s (contains_text c.loop-name.listed s) (contains_text c.insert.new.self s)
    (omega arith) c.name-item.is (c.in_ok-from_str.ensures.ok ∙ c.as_str.ensures) (c.loop-name.invariant s)
    (hash_set_updates_text key c.loop-name.listed c.insert.new.self true c.in_ok-insert.ensures.updates s)
