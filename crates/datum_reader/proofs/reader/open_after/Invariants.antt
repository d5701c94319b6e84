use Rattle.std.proofs.Common.{◌≡◌, ◌+◌, [], Ok, length}
use Rattle.std.specs.Vec.Iter.{into_iter_items}
use Rattle.datum_reader.specs.Views.{tokens_of}
use Rattle.datum_reader.specs.OpenViews.{state_of}
use Rattle.scheme_model.specs.Numbered.{number_from}
use Rattle.datum_reader.specs.Open.{state, after_all}
use Rattle.datum_reader.proofs.reader.open_after.Given as goal

abbrev pub invariant-loop-token : goal.invariant-loop-token
invariant-loop-token l = record {
  count : l.number + length (into_iter_items l.token-iterator) ≡ length l.fn.tokens.items;
  goes : after_all (Ok (state_of l.state)) (number_from l.number (tokens_of (into_iter_items l.token-iterator))) ≡ after_all (Ok (state [] [])) (number_from 0 (tokens_of l.fn.tokens.items));
}
