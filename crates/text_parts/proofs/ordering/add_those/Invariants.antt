use Rattle.std.proofs.Common.{◌≡◌, List, length}
use Rattle.scheme_model.specs.Includes.{Document, naming}
use Rattle.text_parts.specs.Parts.{HaveCome, IsReach, IsTextPart}
use Rattle.text_parts.specs.Places.{Each}
use Rattle.text_parts.proofs.ordering.add_those.Given as goal

abbrev pub invariant-loop-place : goal.invariant-loop-place
invariant-loop-place l = (ds : List Document) → length l.parts ≡ length ds → Each (IsTextPart ds) l.parts → Each (IsReach (naming ds)) l.reaches → HaveCome ds l.fn.order.items l.count 0 →
    HaveCome ds l.order.items l.count l.place
