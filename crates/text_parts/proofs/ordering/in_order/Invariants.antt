use Rattle.std.proofs.Common.{◌≡◌, List, length}
use Rattle.scheme_model.specs.Includes.{Document, naming}
use Rattle.text_parts.specs.Parts.{HaveCome, IsReach, IsTextPart}
use Rattle.text_parts.specs.Places.{Each}
use Rattle.text_parts.proofs.ordering.in_order.Given as goal

abbrev pub invariant-loop-count : goal.invariant-loop-count
invariant-loop-count l = (ds : List Document) → length l.parts ≡ length ds → Each (IsTextPart ds) l.parts → Each (IsReach (naming ds)) l.reaches → HaveCome ds l.order.items l.count 0
