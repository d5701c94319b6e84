-- The places of the second identifiers of the pairs that a set of the code renames by.
use Rattle.std.specs.Prelude.{List, [], ◌++◌, option_to_list}
use Rattle.std.specs.List.{flat_map}
use Rattle.scheme_model.specs.declared.Occ.{Occ}
use Rattle.import_sets.specs.declared.set.NamePair.{NamePair}
use Rattle.import_sets.specs.declared.set.ImportSet.{ImportSet, Library, Only', Except', Prefix', Rename', Bad}

abbrev pub pair_seconds : List NamePair → List Occ
pair_seconds ps = flat_map (λ (p : NamePair). option_to_list p.to.occ) ps

-- those of the inner set first
abbrev pub seconds : ImportSet → List Occ
seconds (Library t) = []
seconds (Only' p c ns) = seconds c
seconds (Except' p c ns) = seconds c
seconds (Prefix' p c t) = seconds c
seconds (Rename' p c ps) = seconds c ++ pair_seconds ps
seconds Bad = []
