use Rattle.std.proofs.Common.{◌≡◌, refl, sym, ap}
use Rattle.ls_base.specs.declared.places.Span.{Span}
use Rattle.scheme_model.specs.Data.{Place}
use Rattle.scheme_model.specs.Entries.{set_of}
use Rattle.datum_reader.specs.Views.{datum_of}
use Rattle.datum_reader.specs.Forms.{place}
use Rattle.datum_reader.specs.Looks.{tree_at, bytes_of}
use Rattle.datum_reader.proofs.DatumLaws.{place-datum}
use Rattle.unit_sources.proofs.sets.spec_of.Goals as goal

abbrev bytes_at : Place → Span
bytes_at p = record { start = p.start; end = p.end }

pub returns : goal.returns
returns c =
    let s = set_of (tree_at (place c.args.home) c.args.datum.now) in
    let span : c.args.datum.now.span ≡ bytes_of (datum_of c.args.datum.now) = sym (ap bytes_at (place-datum c.args.datum.now)) in
    record {
      unit = refl;
      set = c.in_ok-set.ensures;
      span = span;
      inner = c.inner_span-inner.ensures s c.in_ok-set.ensures;
      library = c.library_span-library.ensures s c.in_ok-set.ensures;
    }
