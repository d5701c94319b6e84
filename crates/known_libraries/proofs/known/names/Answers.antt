use Rattle.std.proofs.Common.{◌∙◌, true, arith}
use Rattle.std.specs.String.{string_bytes}
use Rattle.std.specs.BTreeSet.{contains_text}
use Rattle.std.proofs.lemmas.Map.Text.{btree_set_updates_text}
use Rattle.known_libraries.proofs.RequirementRows.{known_more}
use Rattle.known_libraries.proofs.known.names.Goals as goal

pub loop-library-preserved : goal.loop-library-preserved
loop-library-preserved c = λ s.
    let key = string_bytes c.in_ok-from_str.field-0 in
    known_more c.args.listed.now c.loop-library.library-index c.library-item.result key s (contains_text c.loop-library.names s) (contains_text c.insert.new.self s) (omega arith) c.library-item.is (c.in_ok-from_str.ensures.ok ∙ c.as_str.ensures)
    (c.loop-library.invariant s) (btree_set_updates_text key c.loop-library.names c.insert.new.self true c.in_ok-insert.ensures.updates s)
