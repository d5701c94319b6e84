use Rattle.std.proofs.Common.{◌≡◌, ℕ, List, Some, cond, is_some, sym, ap, ◌∙◌}
use Rattle.std.specs.Str.{bytes_eq}
use Rattle.std.specs.Option.{option_map}
use Rattle.std.specs.String.{string_bytes}
use Rattle.std.specs.BTreeMap.{get_by_text}
use Rattle.std.proofs.lemmas.Map.Text.{btree_map_updates_text}
use Rattle.program_leaves.specs.Entries.{now_of, named}
use Rattle.program_leaves.proofs.EntryLaws.{put_law, mapped_cond, mapped_none}
use Rattle.program_leaves.proofs.entries.put_entry.Goals as goal

pub returns : goal.returns
returns c = λ s.
    let key = string_bytes c.in_ok-name.name in
    let name = c.args.entry.now.name in
    let same : key ≡ name = c.in_ok-name.ensures.ok ∙ c.as_str-2.ensures in
    let old = c.args.found.now in
    let none = mapped_none (get_by_text old name) (ap (λ (n : List ℕ). is_some (get_by_text old n)) (sym c.as_str.ensures) ∙ sym c.contains_key.ensures ∙ c.if-contains_key.false) in
    ap (option_map now_of) (btree_map_updates_text key old c.insert.new.self (Some c.args.entry) c.in_ok-insert.ensures.updates s)
    ∙ mapped_cond (bytes_eq key s) c.args.entry (get_by_text old s) ∙ ap (λ (n : List ℕ). cond (bytes_eq n s) (Some c.args.entry.now) (named old s)) same ∙ put_law name s (named old) c.args.entry.now none
