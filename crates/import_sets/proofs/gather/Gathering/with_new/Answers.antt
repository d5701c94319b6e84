use Rattle.std.proofs.Common.{◌≡◌, List, Some, length, sym, ap, ◌∙◌, cond}
use Rattle.std.specs.String.{string_bytes}
use Rattle.std.specs.Str.{bytes_eq}
use Rattle.std.proofs.lemmas.Map.Text.{hash_map_updates_text}
use Rattle.import_sets.specs.declared.gather.Group.{Group}
use Rattle.import_sets.specs.Given.{place_of}
use Rattle.import_sets.proofs.PlaceLaws.{place_push}
use Rattle.import_sets.proofs.gather.Gathering.with_new.Goals as goal

pub invariant_of-result : goal.invariant_of-result
invariant_of-result c =
    let key = string_bytes c.in_ok-from_str.field-0 in
    let gs = c.args.self.groups.items in
    let g : Group = record { entry = c.args.entry; more = c.new.result } in
    let same : key ≡ c.args.entry.name = c.in_ok-from_str.ensures.ok ∙ c.as_str.ensures in
    let at : c.len.result ≡ length gs = c.len.ensures ∙ c.args.self.groups.ok.0 in
    record {
      placed = λ s.
          hash_map_updates_text key c.args.self.places c.insert.new.self (Some c.len.result) c.in_ok-insert.ensures.updates s
          ∙ (λ j. cond (bytes_eq (same j) s) (Some (at j)) (c.args.self.placed s j))
          ∙ sym (place_push gs g s c.requires)
          ∙ ap (λ (gs : List Group). place_of gs s) (sym c.in_ok-push.ensures.items);
    }
