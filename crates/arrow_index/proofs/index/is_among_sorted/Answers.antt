use Rattle.std.proofs.Common.{◌∙◌}
use Rattle.arrow_index.proofs.SearchLaws.{search_law}
use Rattle.arrow_index.proofs.index.is_among_sorted.Goals as goal

pub returns : goal.returns
returns c = λ sorted. c.is_ok.ensures.value ∙ search_law c.args.occs.now c.args.occ c.binary_search.result sorted c.binary_search.ensures.bound c.binary_search.ensures.position
