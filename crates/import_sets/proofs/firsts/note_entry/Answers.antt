use Rattle.std.proofs.Common.{Some, cond, sym, ◌∙◌}
use Rattle.std.proofs.lemmas.Map.Text.{hash_map_updates_str}
use Rattle.import_sets.specs.Firsts.{place_under}
use Rattle.import_sets.proofs.FirstLaws.{known_first, new_first}
use Rattle.import_sets.proofs.firsts.note_entry.Goals as goal

pub returns-then-contains_key : goal.returns-then-contains_key
returns-then-contains_key c = λ s. known_first (place_under c.args.places.now) c.args.name.now s c.args.place (sym c.contains_key.ensures ∙ c.if-contains_key.true)

pub returns : goal.returns
returns c = λ s.
    hash_map_updates_str c.args.name.now c.args.places.now c.insert.new.self (Some c.args.place) c.in_ok-insert.ensures.updates s
    ∙ new_first (place_under c.args.places.now) c.args.name.now s c.args.place (sym c.contains_key.ensures ∙ c.if-contains_key.false)
