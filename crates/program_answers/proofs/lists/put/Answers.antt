use Rattle.std.proofs.Common.{◌≡◌, ◌∙◌, cond, string_bytes, bytes_eq, Some}
use Rattle.std.specs.BTreeMap.{get_by_text}
use Rattle.std.proofs.lemmas.Map.Text.{btree_map_updates_text}
use Rattle.program_answers.specs.declared.publications.Published.{Published}
use Rattle.program_answers.specs.Updates.{list_at}
use Rattle.program_answers.proofs.lists.put.Goals as goal

pub returns-clause-puts : goal.returns-clause-puts
returns-clause-puts c = λ uri.
    let p = c.in_ok-published_as.field-0 in
    let e = c.in_ok-published_as.ensures in
    let same : ◌≡◌ {A = Published} p (record { uri = c.args.uri.now; version = c.args.version; list = list_at c.args.now.now c.args.uri.now }) = λ i. record { uri = e.uri i; version = e.version i; list = e.list i } in
    btree_map_updates_text (string_bytes c.in_ok-key.key) c.args.all.now c.insert.new.self (Some p) c.in_ok-insert.ensures.updates uri
    ∙ (λ i. cond (bytes_eq (c.in_ok-key.ensures.ok i) uri) (Some (same i)) (get_by_text c.args.all.now uri))
