use Rattle.std.proofs.Common.{List, Some, cond, sym, ap, ◌∙◌}
use Rattle.std.specs.String.{string_bytes}
use Rattle.std.specs.Option.{is_some}
use Rattle.std.specs.Str.{bytes_eq}
use Rattle.std.specs.Prelude.{None, if◌then◌else◌, ℕ}
use Rattle.std.specs.BTreeMap.{get_by_text}
use Rattle.std.proofs.lemmas.Map.Text.{btree_map_updates_text}
use Rattle.program_differences.specs.Exported.{first_given}
use Rattle.program_differences.proofs.ExportLaws.{known_name, new_name}
use Rattle.program_differences.proofs.exports.ask.Goals as goal

pub returns-then-contains_key : goal.returns-then-contains_key
returns-then-contains_key c = λ s.
    known_name (get_by_text c.args.asked.now) c.as_str-name.result.now s c.args.change.now.new (sym c.contains_key.ensures ∙ c.if-contains_key.true)
    ∙ ap (λ (t : List ℕ). first_given (get_by_text c.args.asked.now s) (if bytes_eq t s then Some c.args.change.now.new else None)) c.as_str-name.ensures

pub returns : goal.returns
returns c = λ s.
    let key = string_bytes c.in_ok-from_str.field-0 in
    btree_map_updates_text key c.args.asked.now c.insert.new.self (Some _) c.in_ok-insert.ensures.updates s
    ∙ (λ j. cond (bytes_eq ((c.in_ok-from_str.ensures.ok ∙ c.as_str-name.ensures) j) s) (Some ((c.in_ok-of.ensures ∙ c.as_str.ensures) j)) (get_by_text c.args.asked.now s))
    ∙ new_name (get_by_text c.args.asked.now) c.args.change.now.old s c.args.change.now.new (ap (λ (t : List ℕ). is_some (get_by_text c.args.asked.now t)) (sym c.as_str-name.ensures) ∙ sym c.contains_key.ensures ∙ c.if-contains_key.false)
