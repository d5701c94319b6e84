-- How occurrences are used (LSP 3.17, DocumentHighlightKind): written where they bind or are assigned, read where they refer or are
-- keywords.
use Rattle.std.specs.Prelude.{List, [], ◌∷◌, ◌++◌, map, Result, Ok, Err}
use Rattle.scheme_model.specs.declared.Occ.{Occ}
use Rattle.scheme_model.specs.Cores.{Target, Parts}
use Rattle.scheme_model.specs.Steps.{Broken}
use Rattle.scheme_model.specs.Order.{Counted}
use Rattle.scheme_model.specs.UnitExpansion.{Formed}
use Rattle.scheme_model.specs.Live.{CoreLeaf, Binds, Uses, Assigns, Quotes, Defines}
use Rattle.scheme_model.specs.Program.{UnitResult, Program}
use Rattle.scheme_model.specs.ProgramArrows.{places_at, program_leaves, binders_in}

-- where cores assign
abbrev pub assigned_in : List CoreLeaf → List Occ
assigned_in [] = []
assigned_in (Binds b ∷ ls) = assigned_in ls
assigned_in (Uses t ∷ ls) = assigned_in ls
assigned_in (Assigns t ∷ ls) = places_at t.occ ++ assigned_in ls
assigned_in (Quotes o ∷ ls) = assigned_in ls
assigned_in (Defines m ∷ ls) = assigned_in ls

-- where cores refer
abbrev pub referred_in : List CoreLeaf → List Occ
referred_in [] = []
referred_in (Binds b ∷ ls) = referred_in ls
referred_in (Uses t ∷ ls) = places_at t.occ ++ referred_in ls
referred_in (Assigns t ∷ ls) = referred_in ls
referred_in (Quotes o ∷ ls) = referred_in ls
referred_in (Defines m ∷ ls) = referred_in ls

-- the keywords of core forms and macro uses, but no literals that these match; a broken form has none
abbrev pub form_keywords : Result Parts Broken → Counted → List Target
form_keywords (Ok ps) c = c.keywords ++ map (λ u. u.keyword) c.met
form_keywords (Err e) c = []

abbrev pub unit_keywords : List Formed → List Target
unit_keywords [] = []
unit_keywords (f ∷ fs) = form_keywords f.result f.counted ++ unit_keywords fs

abbrev pub all_keywords : List UnitResult → List Target
all_keywords [] = []
all_keywords (r ∷ rs) = unit_keywords r.forms ++ all_keywords rs

abbrev pub target_places : List Target → List Occ
target_places [] = []
target_places (t ∷ ts) = places_at t.occ ++ target_places ts

abbrev pub written_in : Program → List Occ
written_in p = binders_in p ++ assigned_in (program_leaves p.units)

abbrev pub read_in : Program → List Occ
read_in p = referred_in (program_leaves p.units) ++ target_places (all_keywords p.units)
