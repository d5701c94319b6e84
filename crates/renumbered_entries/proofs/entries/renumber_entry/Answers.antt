use Rattle.std.proofs.Common.{refl}
use Rattle.form_cache.specs.declared.entries.Entry.{Entry}
use Rattle.moves.specs.Numbers.{numbers_of}
use Rattle.renumbered_entries.proofs.EntryMoves.{entry_there}
use Rattle.renumbered_entries.proofs.entries.renumber_entry.Goals as goal

pub returns : goal.returns
returns c = λ back old new region e f unit n k w u moves editions h.
    let x = c.args.entry.now in
    let y : Entry = record x { declared = c.declared.new.it; left = c.renumber_left.new.it; part = c.renumber_part.new.part } in
    let form = c.unit_form.ensures in
    entry_there (numbers_of c.args.moves.now) back x y c.args.form.now c.unit_form.new.form (record {
      tree = refl;
      before = refl;
      counts = refl;
      counted = c.declared.ensures.counts;
      keywords = c.declared.ensures.keywords;
      uses = c.declared.ensures.uses;
      left = c.renumber_left.ensures;
      part = c.renumber_part.ensures;
      items = form.items;
      result = form.result;
      definitions = form.definitions;
      notes = form.notes;
    }) old new moves region e f editions unit n k w u h
