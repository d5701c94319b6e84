use Rattle.std.proofs.Common.{Some, cond, sym, ◌∙◌}
use Rattle.std.specs.String.{string_bytes}
use Rattle.std.specs.Str.{bytes_eq}
use Rattle.std.specs.BTreeMap.{get_by_text}
use Rattle.std.proofs.lemmas.Map.Text.{btree_map_updates_text}
use Rattle.included_documents.proofs.FirstPlaces.{known_first, new_first}
use Rattle.included_documents.proofs.firsts.note.Goals as goal

pub returns-then-contains_key : goal.returns-then-contains_key
returns-then-contains_key c = λ s. known_first (get_by_text c.args.firsts.now) c.args.text.now s c.args.place (sym c.contains_key.ensures ∙ c.if-contains_key.true)

pub returns : goal.returns
returns c = λ s.
    let key = string_bytes c.in_ok-from_str.field-0 in
    btree_map_updates_text key c.args.firsts.now c.insert.new.self (Some c.args.place) c.in_ok-insert.ensures.updates s
    ∙ (λ j. cond (bytes_eq (c.in_ok-from_str.ensures.ok j) s) (Some c.args.place) (get_by_text c.args.firsts.now s))
    ∙ new_first (get_by_text c.args.firsts.now) c.args.text.now s c.args.place (sym c.contains_key.ensures ∙ c.if-contains_key.false)
