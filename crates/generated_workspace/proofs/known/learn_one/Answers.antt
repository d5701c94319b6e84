use Rattle.std.proofs.Common.{Some, cond, string_bytes, bytes_eq, ap, ◌∙◌}
use Rattle.std.specs.BTreeMap.{get_by_text}
use Rattle.std.proofs.lemmas.Map.Text.{btree_map_updates_text}
use Rattle.program_answers.specs.Listings.{or_none}
use Rattle.generated_workspace.proofs.KnownLaws.{none_past}
use Rattle.generated_workspace.proofs.known.learn_one.Goals as goal

pub returns : goal.returns
returns c = λ uri.
    let p = c.args.published in
    let m = c.args.known.now in
    ap or_none (btree_map_updates_text (string_bytes c.into_string.result) m c.insert.new.self (Some p.list) c.in_ok-insert.ensures.updates uri
    ∙ (λ i. cond (bytes_eq (c.into_string.ensures i) uri) (Some p.list) (get_by_text m uri)))
    ∙ none_past (bytes_eq p.uri uri) p.list (get_by_text m uri)
