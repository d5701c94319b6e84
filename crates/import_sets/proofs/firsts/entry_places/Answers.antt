use Rattle.std.proofs.Common.{arith, ap, ◌∙◌}
use Rattle.std.specs.Str.{bytes_eq}
use Rattle.syntax_tree.specs.declared.units.Entry.{Entry}
use Rattle.import_sets.specs.Firsts.{first_of, place_if, place_under}
use Rattle.import_sets.proofs.FirstLaws.{first_step}
use Rattle.import_sets.proofs.firsts.entry_places.Goals as goal

pub loop-place-preserved : goal.loop-place-preserved
loop-place-preserved c = λ s.
    first_step (λ (e : Entry). bytes_eq e.name s) c.args.entries.now c.loop-place.place c.index-entries-place.result (place_under c.loop-place.places s) (place_under c.note_entry.new.places s)
    (omega arith) c.index-entries-place.is (c.loop-place.invariant s)
    (c.in_ok-note_entry.ensures s ∙ ap (λ n. first_of (place_under c.loop-place.places s) (place_if (bytes_eq n s) c.loop-place.place)) c.as_str.ensures)
